-- `stream::start` meets its contract: the tail of the start, and its account is sound. Assumes nothing.
use Prim.Native.Nat.{ℕ}
use mathlib.Core.Path.{◌≡◌, refl, sym, ap, ◌∙◌}
use Rattle.std.proofs.Common.{Result, Ok, Err}
use Rattle.refusals.specs.declared.Refusal.{Refusal}
use Rattle.rules.specs.declared.Account.{Account}
use Rattle.rules.specs.Numbers.{tail_or}
use Rattle.rules.specs.Results.{says, start_as}
use Rattle.rules.specs.Receive.{AfterStart}
use Rattle.tally.specs.Tally.{value_of}
use Rattle.stream.specs.Bench.{start_answer}
use Rattle.stream.proofs.Keeps.{start-stays}
use Rattle.stream.proofs.start.Goals as goal

-- the value of a start is its tail
tail-told : (r : Result ℕ Refusal) (a : Account) → tail_or 0 (start_as r a).tail ≡ value_of r
tail-told (Ok slot) a = refl
tail-told (Err why) a = refl

verdict-told : (r : Result ℕ Refusal) (a : Account) → (start_as r a).verdict ≡ says r
verdict-told (Ok slot) a = refl
verdict-told (Err why) a = refl

account-told : (r : Result ℕ Refusal) (a : Account) → (start_as r a).account ≡ a
account-told (Ok slot) a = refl
account-told (Err why) a = refl

pub answered-requires : goal.answered-requires
answered-requires c =
    let left = sym (account-told c.start-outcome.result c.start-outcome.new.account) ∙ ap (λ (o : AfterStart). o.answer.account) c.start-outcome.ensures in
    rw left (start-stays c.whole.ensures c.requires _ _)

pub returns : goal.returns
unfolding start_answer
returns c = rw (c.answered.ensures, ← c.start-outcome.ensures, tail-told, verdict-told, account-told)
