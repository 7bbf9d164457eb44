-- Document 01, "Registers", its last paragraph: the interrupt window.
use Rattle.std.specs.Prelude.{ℕ, ◌+◌, ◌-◌, ◌/◌, ◌%◌, ◌≤◌, ◌<◌, ◌≡◌, Bool, true, false, not, List, [], ◌∷◌, ◌++◌, get_or, set, take, drop, replicate, eqb, ltb, leb, Result, Ok, Err}
use Rattle.limits.specs.Limits.{FEWEST-RATES, MOST-RATES, CLOCK-CALLS}
use Rattle.laws.specs.Test.{pick, both, either}
use Rattle.window.specs.declared.Window.{Window}
use Rattle.refusals.specs.declared.Refusal.{Refusal}
use Rattle.refusals.specs.Numbers.{refusal_number}
use Rattle.window.specs.declared.Ticked.{Ticked as TickedOk}
use Rattle.window.specs.declared.Rated.{Rated as RatedOk}

-- ---- what a call answers, with the table's number

-- a set-up: 0 and the window, or 9 and a window that is not sound
pub record Opened : Type 0 where
  pub number : ℕ
  pub window : Window

-- a counted call: whether the host looks at the clock now
pub record Ticked : Type 0 where
  pub number : ℕ
  pub looks : Bool
  pub window : Window

-- a rate: whether it was taken
pub record Rated : Type 0 where
  pub number : ℕ
  pub decided : Bool
  pub window : Window

-- the table's numbers
abbrev pub UNSOUND : ℕ
UNSOUND = 1

abbrev pub OUT-OF-RANGE : ℕ
OUT-OF-RANGE = 9

-- ---- what a window holds

-- its rates, the oldest first
abbrev pub held : Window → List ℕ
held w = take w.count w.rates

-- what numbers add up to
unfoldable pub total : List ℕ → ℕ
total [] = 0
total (x ∷ xs) = x + total xs

-- ---- soundness

-- R is in range
unfoldable pub in_range : ℕ → Bool
in_range range = both (leb FEWEST-RATES range) (leb range MOST-RATES)

-- R is in range, at most R - 1 rates are held, the call counter is below 4,096, and the rates add up to the sum
unfoldable pub sound : Window → Bool
sound w =
    both (in_range w.range)
    (both (ltb w.count w.range)
    (both (ltb w.calls CLOCK-CALLS) (eqb w.sum (total (held w)))))

-- the same as facts
pub record Sound (w : Window) : Type 0 where
  pub some : FEWEST-RATES ≤ w.range
  pub few : w.range ≤ MOST-RATES
  pub room : w.count < w.range
  pub early : w.calls < CLOCK-CALLS
  pub adds-up : w.sum ≡ total (held w)

-- ---- set-up

-- no rates yet, no calls counted, and interrupts on
unfoldable pub opened : ℕ → ℕ → ℕ → Window
opened range threshold interval =
    record {
      range = range;
      threshold = threshold;
      interval = interval;
      on = true;
      calls = 0;
      sum = 0;
      count = 0;
      rates = replicate MOST-RATES 0;
    }

-- what a refused set-up answers: R is 0, so it is not sound
abbrev pub no_window : Window
no_window = opened 0 0 0

-- a set-up's result as an answer
abbrev pub opened_as : Result Window Refusal → Opened
opened_as (Ok w) = record { number = 0; window = w }
opened_as (Err e) = record { number = refusal_number e; window = no_window }

unfoldable pub new_call : ℕ → ℕ → ℕ → Opened
new_call range threshold interval =
    pick (in_range range)
    (record { number = 0; window = opened range threshold interval })
    (record { number = OUT-OF-RANGE; window = no_window })

-- ---- a receive call is counted

abbrev pub with_calls : Window → ℕ → Window
with_calls w calls =
    record {
      range = w.range;
      threshold = w.threshold;
      interval = w.interval;
      on = w.on;
      calls = calls;
      sum = w.sum;
      count = w.count;
      rates = w.rates;
    }

-- a tick's result as an answer: a refused one leaves the window that it was given
abbrev pub ticked_as : Window → Result TickedOk Refusal → Ticked
ticked_as w (Ok t) = record { number = 0; looks = t.looks; window = t.window }
ticked_as w (Err e) = record { number = refusal_number e; looks = false; window = w }

-- each 4,096th looks at the clock, and the counter begins anew
unfoldable pub tick_call : Window → Ticked
tick_call w =
    pick (sound w)
    (record { number = 0; looks = eqb (w.calls + 1) CLOCK-CALLS; window = with_calls w ((w.calls + 1) % CLOCK-CALLS) })
    (record { number = UNSOUND; looks = false; window = w })

-- ---- a rate

-- the first n places without their oldest, and the new one behind them; the places past them stay
unfoldable pub slid : ℕ → ℕ → List ℕ → List ℕ
slid n rate rates = (drop 1 (take n rates) ++ (rate ∷ [])) ++ drop n rates

-- with the new rate R are held
abbrev pub is_full : ℕ → ℕ → Bool
is_full count range = eqb (count + 1) range

-- the rate is added, and the oldest dropped when R are held
unfoldable pub with_rate : Window → ℕ → Window
with_rate w rate =
    record {
      range = w.range;
      threshold = w.threshold;
      interval = w.interval;
      on = w.on;
      calls = w.calls;
      sum = w.sum + rate - pick (is_full w.count w.range) (get_or w.rates 0 0) 0;
      count = pick (is_full w.count w.range) w.count (w.count + 1);
      rates = pick (is_full w.count w.range) (slid w.count rate w.rates) (set w.rates w.count rate);
    }

abbrev pub with_on : Window → Bool → Window
with_on w on =
    record {
      range = w.range;
      threshold = w.threshold;
      interval = w.interval;
      on = on;
      calls = w.calls;
      sum = w.sum;
      count = w.count;
      rates = w.rates;
    }

-- off if the sum by the count, rounded down, exceeds the threshold, or all that was asked for was received
abbrev pub is_off : Window → ℕ → ℕ → Bool
is_off w received asked = either (ltb w.threshold (w.sum / w.count)) (eqb received asked)

abbrev pub decided_on : Window → ℕ → ℕ → Window
decided_on w received asked = with_on w (not (is_off w received asked))

-- a rate's result as an answer: a refused one leaves the window that it was given
abbrev pub rated_as : Window → Result RatedOk Refusal → Rated
rated_as w (Ok r) = record { number = 0; decided = r.decided; window = r.window }
rated_as w (Err e) = record { number = refusal_number e; decided = false; window = w }

-- a decision is made only if more time has passed than the interval; else nothing changes
unfoldable pub rated_call : Window → ℕ → ℕ → ℕ → ℕ → Rated
rated_call w elapsed rate received asked =
    pick (sound w)
    (pick (ltb w.interval elapsed)
    (record { number = 0; decided = true; window = decided_on (with_rate w rate) received asked })
    (record { number = 0; decided = false; window = w }))
    (record { number = UNSOUND; decided = false; window = w })
