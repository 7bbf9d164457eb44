-- Document 01, "Number returned by a call": the number of each verdict. `refusals` has that of each refusal, and what is also returned.
use Rattle.std.specs.Prelude.{ℕ, Bool, true, false}
use Rattle.refusals.specs.declared.Refusal.{Refusal}
use Rattle.refusals.specs.Numbers.{refusal_number}
use Rattle.rules.specs.Verdict.{Verdict, Done, Refused}
use Rattle.rules.specs.Ended.{Ended}
use Rattle.rules.specs.Ended as ended
use Rattle.rules.specs.Tail.{Tail, Unwritten, Written}

-- the number of a call that says so: 0 is done
abbrev pub number : Verdict → ℕ
number Done = 0
number (Refused why) = refusal_number why

-- a receive that stopped is done, whatever its reason
abbrev pub verdict_of : Ended → Verdict
verdict_of (ended.Stopped reason) = Done
verdict_of (ended.Refused why) = Refused why

-- a tail that is written, as a number
abbrev pub tail_or : ℕ → Tail → ℕ
tail_or other Unwritten = other
tail_or other (Written slot) = slot

-- a test that has to hold, and how the call is refused where it doesn't: the order of a call's refusals is that of its tests
abbrev pub unless : Bool → Refusal → Verdict → Verdict
unless true why rest = rest
unless false why rest = Refused why

-- what a call leaves: one thing where it is done, another for each refusal
abbrev pub on_verdict : {A : Type 0} → Verdict → A → (Refusal → A) → A
on_verdict Done done refused = done
on_verdict (Refused why) done refused = refused why
