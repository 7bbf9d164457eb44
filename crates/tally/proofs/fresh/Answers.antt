-- `tally::fresh` meets its contract: a fresh account is sound, and a refused one has nothing in any hand. Assumes nothing.
use Prim.Native.Nat.{ℕ}
use mathlib.Core.Path.{◌≡◌, refl, sym, ap}
use mathlib.Core.Bool.{true}
use borrow.Author.Tests.{ne_eqb}
use borrow.Author.Rules.{rules}
use Rattle.laws.specs.Occurs.{sum_to}
use Rattle.rules.specs.Verdict.{Done}
use Rattle.rules.specs.Answers.{Kept}
use Rattle.rules.specs.Account.{opened, no_account}
use Rattle.rules.specs.Sound.{sound}
use Rattle.rules.specs.Refusals.{fresh_verdict}
use Rattle.rules.specs.Packets.{fresh_call}
use Rattle.rules.proofs.Sound.{means-sound}
use Rattle.rules.proofs.Verdicts.{not_done, verdict-holds}
use Rattle.rules.proofs.Calls.{fresh-whole}
use Rattle.calls.proofs.Parts.{not-zero}
use Rattle.tally.specs.Tally.{POOL, pending_of, tally_of, fresh_answer}
use Rattle.tally.proofs.fresh.Goals as goal
use Rattle.tally.proofs.fresh.Goals.{In-Ok}

done-sound : (entries size sends : ℕ) → (fresh_call POOL entries size 1 sends).verdict ≡ Done → sound (fresh_call POOL entries size 1 sends).account ≡ true
unfolding fresh_call
done-sound entries size sends =
    verdict-holds (λ (k : Kept). k.verdict ≡ Done → sound k.account ≡ true) (fresh_verdict entries size 1 sends) _ _
    (λ e d. means-sound _ (rw e at (fresh-whole POOL entries size 1 sends e)).1)
    (λ why e d. absurd (not_done why d))

-- nothing in any hand
nothing : tally_of no_account ≡ record { free = 0; receive = 0; send = 0; out = 0 }
unfolding tally_of opened pending_of sum_to
nothing = refl

opened-sound : (c : In-Ok) → sound c.in-Ok.opened ≡ true
opened-sound c = rw (ap (λ (k : Kept). k.account) c.in-Ok.ensures) (done-sound _ _ _ (sym (ap (λ (k : Kept). k.verdict) c.in-Ok.ensures)))

pub answered-requires : goal.answered-requires
answered-requires c = opened-sound (goal.at.answered-requires c).In-Ok

pub returns-in-Err-clause-answer : goal.returns-in-Err-clause-answer
unfolding fresh_answer
returns-in-Err-clause-answer c = rw (← c.in-Err.ensures, nothing) (search rules)

pub returns-in-Err-clause-leaves : goal.returns-in-Err-clause-leaves
unfolding fresh_answer
returns-in-Err-clause-leaves c = rw (← c.in-Err.ensures, ne_eqb _ 0 (not-zero c.in-Err.why))

pub returns-in-Err-clause-keeps : goal.returns-in-Err-clause-keeps
unfolding fresh_answer
returns-in-Err-clause-keeps c e = absurd (not-zero c.in-Err.why (rw (← c.in-Err.ensures) at e))

pub returns-in-Ok-clause-answer : goal.returns-in-Ok-clause-answer
unfolding fresh_answer
returns-in-Ok-clause-answer c = rw (← c.in-Ok.ensures) c.answered.ensures

pub returns-in-Ok-clause-leaves : goal.returns-in-Ok-clause-leaves
unfolding fresh_answer
returns-in-Ok-clause-leaves c = rw (← c.in-Ok.ensures)

pub returns-in-Ok-clause-keeps : goal.returns-in-Ok-clause-keeps
returns-in-Ok-clause-keeps c e = opened-sound (goal.at.returns-in-Ok-clause-keeps c).In-Ok
