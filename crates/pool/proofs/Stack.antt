-- The stack as a list: a pop takes the top from it, a push puts an id onto it, and nothing else changes.
use Prim.Native.Nat.{ℕ, ◌+◌, ◌-◌, ◌≤◌, ◌<◌}
use mathlib.Core.Path.{◌≡◌, refl, ap, ◌∙◌}
use lib.ListN.{length, take}
use lib.Dec.{eqb}
use native.Mathlib.Omega.{arith}
use borrow.Author.Tests.{eq-eqb}
use Rattle.laws.specs.Occurs.{ind, occurs}
use Rattle.laws.proofs.Occurs.{occurs-more, occurs-stored}
use Rattle.pool.specs.declared.FreeStack.{FreeStack}
use Rattle.pool.specs.Stack.{content, top, popped, pushed}

module _ (s : FreeStack) (x : ℕ) where
  pub occurs-popped : 0 < s.depth → s.depth ≤ length s.ids
      → occurs x (content s) ≡ occurs x (content (popped s)) + ind (eqb x (top s))
  occurs-popped some all =
      let e : s.depth ≡ s.depth - 1 + 1 = omega arith in
      ap (λ n. occurs x (take n s.ids)) e ∙ occurs-more x s.ids (s.depth - 1) (omega arith)

  pub occurs-pushed : (id : ℕ) → s.depth < length s.ids → occurs x (content (pushed s id)) ≡ occurs x (content s) + ind (eqb x id)
  occurs-pushed id room = occurs-stored x s.ids s.depth id room

-- the top stands on the stack
pub top-stands : (s : FreeStack) → 0 < s.depth → s.depth ≤ length s.ids → 1 ≤ occurs (top s) (content s)
top-stands s some all = rw (occurs-popped s (top s) some all, eq-eqb (top s) (top s) refl) (omega arith)
