-- The most actions of a sequence, as a number: a part's for one queue, times its queues. Assumes nothing.
use Prim.Native.Nat.{ℕ, zero, suc, ◌+◌, ◌-◌, ◌*◌}
use mathlib.Core.Path.{◌≡◌, refl, sym, ◌∙◌}
use mathlib.Core.List.{List, [], ◌∷◌, ◌++◌}
use native.Mathlib.Nat.{zero-add, zero-mul, suc-mul, mul-add, sub-zero}
use native.Mathlib.Omega.{arith}
use Rattle.parts.specs.Parts.{Made, parts}
use Rattle.parts.specs.declared.Template.{Template}
use Rattle.parts.specs.declared.Template.TheVariants.{Write, Read, Change, WaitSet, WaitClear, Pause, Link}
use Rattle.plan.specs.Sequence.{times_for, filled, each, for_queue, made, joined, sequence}
use Rattle.plan.specs.declared.Setup.{Setup}
use Rattle.plan.specs.declared.Item.{Item}
use Rattle.startup.specs.Machine.{LINK-ACTIONS, cost, start, Sound}
use Rattle.startup_laws.specs.Run.{Ends, total, left, wait_actions, bound}
use Rattle.startup_laws.proofs.Keeps.{every-run-ends}

total-append : (w : ℕ) (a b : List Item) → total w (a ++ b) ≡ total w a + total w b
total-append w [] b = sym (zero-add _)
total-append w (i ∷ a) b = omega (arith, total-append w a b)

-- a template's cost, for any queue
abbrev cost_of : ℕ → Template → ℕ
cost_of w (Write row v) = 1
cost_of w (Read row) = 1
cost_of w (Change row clear set) = 2
cost_of w (WaitSet row mask) = 2 * w - 1
cost_of w (WaitClear row mask) = 2 * w - 1
cost_of w (Pause ms) = 1
cost_of w (Link row) = LINK-ACTIONS

abbrev costs : ℕ → List Template → ℕ
costs w [] = 0
costs w (t ∷ ts) = cost_of w t + costs w ts

cost-filled : (w : ℕ) (s : Setup) (queue : ℕ) (t : Template) → cost w (filled s queue t) ≡ cost_of w t
cost-filled w s queue (Write row v) = refl
cost-filled w s queue (Read row) = refl
cost-filled w s queue (Change row clear set) = refl
cost-filled w s queue (WaitSet row mask) = refl
cost-filled w s queue (WaitClear row mask) = refl
cost-filled w s queue (Pause ms) = refl
cost-filled w s queue (Link row) = refl

total-queue : (w : ℕ) (s : Setup) (ts : List Template) (queue : ℕ) → total w (for_queue s ts queue) ≡ costs w ts
total-queue w s [] queue = refl
total-queue w s (t ∷ ts) queue = omega (arith, cost-filled w s queue t, total-queue w s ts queue)

total-each : (w : ℕ) (f : ℕ → List Item) (c : ℕ) → ((queue : ℕ) → total w (f queue) ≡ c) → (n : ℕ) → total w (each n f) ≡ n * c
total-each w f c e zero = sym (zero-mul c)
total-each w f c e (suc n) = total-append w (each n f) (f n) ∙ omega (arith, total-each w f c e n, e n, suc-mul n c)

abbrev budget : Setup → List Made → ℕ
budget s [] = 0
budget s (p ∷ ps) = times_for s p.times * costs s.tries p.items + budget s ps

total-joined : (s : Setup) (ps : List Made) → total s.tries (joined s ps) ≡ budget s ps
total-joined s [] = refl
total-joined s (p ∷ ps) =
    total-append s.tries (made s p) (joined s ps)
    ∙ omega (
      arith,
      total-joined s ps,
      total-each s.tries (for_queue s p.items) (costs s.tries p.items) (total-queue s.tries s p.items) (times_for s p.times),
    )

-- a product over a sum, where the sum is written in another way
spread : (n k a b : ℕ) → k ≡ a + b → n * k ≡ n * a + n * b
spread n k a b e = rw e (mul-add n a b)

pub total-bound : (s : Setup) → total s.tries (sequence s) ≡ bound s
unfolding sequence parts bound
total-bound s =
    let w = wait_actions s.tries in
    total-joined s parts
    ∙ omega (
      arith,
      spread s.receives (2 + (w + 2)) 4 w (omega arith),
      spread s.receives (15 + w) 15 w refl,
      spread s.sends (1 + (1 + (2 + (w + 0)))) 4 w (omega arith),
      spread s.sends (9 + w) 9 w refl,
    )

-- every start-up ends within its bound: of the first bound + 1 steps one is Done or Refused, whatever is read
pub start-up-ends : (v : ℕ → ℕ) (s : Setup) → Sound (start s) → Ends v 0 (suc (bound s)) (start s)
start-up-ends v s sound = rw at-start at (every-run-ends v (start s) sound)
  where
    at-start : left (start s) ≡ bound s
    at-start = sub-zero _ ∙ total-bound s
