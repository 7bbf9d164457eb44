-- `packets::count_up` meets its contract: the array has at each place what the closure gave there. Assumes nothing.
use Prim.Native.Nat.{ℕ, ◌<◌}
use mathlib.Core.Path.{◌≡◌, sym, ◌∙◌}
use lib.ListN.{get_or}
use lib.Seq.{ext_get_or}
use native.Mathlib.Omega.{arith}
use borrow.Author.Rules.{rules}
use Rattle.limits.specs.Limits.{ENTRIES}
use Rattle.laws.specs.Occurs.{up_from}
use Rattle.laws.proofs.Occurs.{length-up_from, get_or-up_from}
use Rattle.packets.proofs.count_up.Goals as goal

pub returns : goal.returns
returns c =
    ext_get_or 0 c.from_fn.result (up_from 0 ENTRIES) (c.from_fn.ensures.items.long ∙ sym (length-up_from 0 ENTRIES))
    (λ k h. given k (omega (arith, h, c.from_fn.ensures.items.long)) ∙ sym (counted k (omega (arith, h, c.from_fn.ensures.items.long))))
  where
    given : (k : ℕ) → k < ENTRIES → get_or c.from_fn.result k 0 ≡ k
    given k h = search (rules, c.from_fn.ensures.items.at k 0 h)

    counted : (k : ℕ) → k < ENTRIES → get_or (up_from 0 ENTRIES) k 0 ≡ k
    counted k h = get_or-up_from 0 ENTRIES k h ∙ omega arith
