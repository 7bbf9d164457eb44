-- What a set-up does: its number, 9 before 2 before 12, and the state that it leaves.
use Rattle.std.specs.Prelude.{ℕ, ◌+◌, not, List, ◌++◌, eqb, ltb, length, take, drop, replicate, Option, None, Result, Ok, Err}
use Rattle.laws.specs.Test.{pick}
use Rattle.plan.specs.Sequence.{RINGS}
use Rattle.plan.specs.declared.Setup.{Setup}
use Rattle.refusals.specs.declared.Refusal.{Refusal}
use Rattle.refusals.specs.Numbers.{refusal_number}
use Rattle.startup.specs.declared.State.{State}
use Rattle.startup.specs.Machine.{SHORT, OUT-OF-RANGE, NO-INTERRUPT, in_range, kind_ok, start}

-- 9: a queue count or W out of range. 2: fewer addresses than queues. 12: a queue above 15, or a kind that is neither MSI nor MSI-X
unfoldable pub set_up_number : ℕ → ℕ → ℕ → Option ℕ → ℕ → ℕ
set_up_number receives sends tries interrupts count =
    pick (not (in_range receives sends tries)) OUT-OF-RANGE
    (pick (ltb count (receives + sends)) SHORT (pick (not (kind_ok interrupts receives)) NO-INTERRUPT 0))

-- 0, or a refusal's number
abbrev pub number_as : {A : Type 0} → Result A Refusal → ℕ
number_as (Ok a) = 0
number_as (Err why) = refusal_number why

-- the first addresses of a list, in an array of zeros
abbrev pub copied : List ℕ → ℕ → List ℕ
copied addresses count = take count addresses ++ drop count (replicate RINGS 0)

-- the state that a refused set-up leaves: no reads to a wait, so it is not sound
unfoldable pub no_state : State
no_state =
    start (record { map = 0; receives = 0; sends = 0; tries = 0; interrupts = None; rate = 0; rings = replicate RINGS 0 })

-- the set-up of the numbers and the addresses, receive first
abbrev pub setup_for : ℕ → ℕ → ℕ → ℕ → Option ℕ → ℕ → List ℕ → Setup
setup_for map receives sends tries interrupts rate addresses =
    record {
      map = map;
      receives = receives;
      sends = sends;
      tries = tries;
      interrupts = interrupts;
      rate = rate;
      rings = copied addresses (receives + sends);
    }

-- a set-up's number and state: 0 and the state to give the first step, or a refusal's number and a state that is not sound
pub record Begun : Type 0 where
  pub number : ℕ
  pub state : State

abbrev pub beginning : ℕ → Setup → Begun
beginning number setup = pick (eqb number 0) (record { number = 0; state = start setup }) (record { number = number; state = no_state })

unfoldable pub begun : ℕ → ℕ → ℕ → ℕ → Option ℕ → ℕ → List ℕ → Begun
begun map receives sends tries interrupts rate addresses =
    beginning (set_up_number receives sends tries interrupts (length addresses))
    (setup_for map receives sends tries interrupts rate addresses)

-- an answer as a number and a state: a refusal hands out none, so the state is the one of a caller that has had none
abbrev pub begun_as : Result State Refusal → Begun
begun_as (Ok state) = record { number = 0; state = state }
begun_as (Err why) = record { number = refusal_number why; state = no_state }
