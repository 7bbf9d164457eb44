-- What stands where in the sequence: 10 ms after the reset, the link wait last, and the interrupts of each receive queue. By computing, but for
-- the parts that depend on the set-up. Assumes nothing.
use Prim.Native.Nat.{ℕ, ◌+◌, ◌-◌, ◌*◌, ◌/◌, ◌^◌, ◌≤◌, ◌<◌}
use mathlib.Core.Path.{◌≡◌, refl, sym, ap, ◌∙◌}
use mathlib.Core.Bool.{Bool, true, false}
use mathlib.Core.List.{List, [], ◌∷◌, ◌++◌, append_assoc}
use native.Mathlib.Nat.{zero-mul, add-zero}
use native.Mathlib.Omega.{arith}
use borrow.Author.Tests.{eqb-true, ltb-true, leb-true}
use lib.Dec.{eqb, ltb}
use lib.ListN.{length, get_or, take, length-append, get_or-eq_default}
use lib.Seq.{get_or-append_seam}
use Rattle.std.specs.Prelude.{Option, None, Some}
use Rattle.laws.specs.Test.{pick, both, either, every}
use Rattle.laws.proofs.Test.{both_left, both_right, every-at}
use Rattle.card.specs.Registers.{registers, entry, address}
use Rattle.card.specs.Masks.{CTRL-RST, queue_bit, vector_clear, vector_set}
use Rattle.parts.specs.Parts.{Made, part, parts, wait_for_link, enable_msi, enable_msix}
use Rattle.parts.specs.declared.Times.TheVariants.{Once}
use Rattle.plan.specs.Sequence.{MSI, MSIX, by_kind, for_queue, made, joined, sequence}
use Rattle.plan.proofs.Highest.{at-reset, at-reset-wait, at-reset-pause}
use Rattle.plan.specs.declared.Setup.{Setup}
use Rattle.plan.specs.declared.Item.{Item}
use Rattle.plan.specs.declared.Item.TheVariants.{End, Write, Read, Change, WaitClear, Link}
use Rattle.startup.specs.declared.Action.TheVariants as action
use Rattle.startup.specs.declared.State.{State}
use Rattle.startup.specs.Machine.{SIGNALLED, LINK-READS, LINK-ACTIONS, link_up, over, answer, reachable, kind_ok, item_at, here, state, stepped, Sound}
use Rattle.startup.proofs.Ways.{step-next}
use Rattle.startup_laws.specs.Run.{actions, turns}
use Rattle.startup_laws.proofs.Keeps.{sound-steps}
use Rattle.startup_laws.proofs.Waits.{link-out}

-- ---- the reset

-- the reset is written, its bits are waited for to clear, and when they are, a pause of 10 ms follows
pub reset-written : (s : Setup) → item_at s 3 ≡ Write 0x0000 CTRL-RST
reset-written s = at-reset s

pub reset-awaited : (s : Setup) → item_at s 4 ≡ WaitClear 0x0000 CTRL-RST
reset-awaited s = at-reset-wait s

pub reset-paused : (s : State) → Sound s → s.kept ≡ 0 → s.place ≡ 4 → (v : ℕ) → over (here s) s.made v ≡ true
    → stepped s v ≡ record { action = action.Pause 10; state = state s.setup 5 1 0 }
unfolding answer reachable
reset-paused s sound k p v o =
    let e : s.place + 1 ≡ 5 = omega (arith, p) in
    sound-steps s sound v ∙ step-next s v k o ∙ rw (e, at-reset-pause s.setup)

-- ---- the link wait is last

joined-append : (s : Setup) (a b : List Made) → joined s (a ++ b) ≡ joined s a ++ joined s b
joined-append s [] b = refl
joined-append s (p ∷ a) b = ap (λ l. made s p ++ l) (joined-append s a b) ∙ sym (append_assoc (made s p) (joined s a) (joined s b))

abbrev before-link : List Made
before-link = take 22 parts

parts-split : parts ≡ before-link ++ (part Once wait_for_link ∷ [])
unfolding parts
parts-split = refl

link-items : (s : Setup) → joined s (part Once wait_for_link ∷ []) ≡ Link 0x42A4 ∷ []
unfolding address entry registers
link-items s = refl

module _ (s : Setup) where
  abbrev front : List Item
  front = joined s before-link

  sequence-split : sequence s ≡ front ++ (Link 0x42A4 ∷ [])
  unfolding sequence
  sequence-split = ap (joined s) parts-split ∙ joined-append s before-link (part Once wait_for_link ∷ []) ∙ ap (λ l. front ++ l) (link-items s)

  -- the place of the link wait
  abbrev pub link-place : ℕ
  link-place = length front

  pub link-last : length (sequence s) ≡ link-place + 1
  link-last = ap length sequence-split ∙ length-append front (Link 0x42A4 ∷ [])

  pub at-link : item_at s link-place ≡ Link 0x42A4
  at-link = ap (λ l. get_or l link-place End) sequence-split ∙ get_or-append_seam front (Link 0x42A4) [] End

  pub past-link : item_at s (link-place + 1) ≡ End
  past-link = get_or-eq_default (sequence s) End {n = link-place + 1} (omega (arith, link-last))

  -- with no link at all: 100 times a pause and a read after the first read, then Done
  pub no-link : Sound (state s link-place 1 0) → (v : ℕ → ℕ) → ((k : ℕ) → link_up (v k) ≡ false)
      → actions v 0 LINK-ACTIONS (state s link-place 1 0) ≡ turns (LINK-READS - 1) 0x42A4 ++ (action.Done ∷ [])
  no-link sound v f = link-out s link-place 0x42A4 sound at-link past-link v f

-- ---- interrupts

module _ (s : Setup) (queue : ℕ) where
  -- a receive queue by MSI: IVAR has direction 0 and vector 0
  pub msi-items : for_queue s enable_msi queue
      ≡ Change (0x0900 + 4 * (queue / 2)) (vector_clear 0 queue) (vector_set 0 queue 0)
      ∷ Write 0x0810 0
      ∷ Write (0x0820 + 4 * queue) s.rate
      ∷ Write 0x0888 0xFFFFFFFF
      ∷ Read 0x0800
      ∷ Change 0x0880 0 (queue_bit queue)
      ∷ []
  unfolding address entry registers
  msi-items = simp (zero-mul, add-zero)

  -- by MSI-X: direction 0 and the queue as vector; the causes that clear themselves are the queues'
  pub msix-items : for_queue s enable_msix queue
      ≡ Change 0x0898 0 0xC0000010
      ∷ Change (0x0900 + 4 * (queue / 2)) (vector_clear 0 queue) (vector_set 0 queue queue)
      ∷ Write 0x0810 0xFFFF
      ∷ Write (0x0820 + 4 * queue) s.rate
      ∷ Change 0x0880 0 (queue_bit queue)
      ∷ []
  unfolding address entry registers
  msix-items = simp (zero-mul, add-zero)

-- the bit of a queue below 16 is its own, and one of the bits 0 to 15
abbrev own-bit : ℕ → Bool
own-bit queue = both (eqb (queue_bit queue) (2 ^ queue)) (ltb (queue_bit queue) (2 ^ SIGNALLED))

own_bits : every SIGNALLED own-bit ≡ true
unfolding every
own_bits = refl

pub queue-bit : (queue : ℕ) → queue < SIGNALLED → (queue_bit queue ≡ 2 ^ queue) × (queue_bit queue < 2 ^ SIGNALLED)
queue-bit queue h =
    let t = every-at own-bit SIGNALLED queue h own_bits in
    (eqb-true _ _ (both_left (eqb (queue_bit queue) (2 ^ queue)) _ t), ltb-true _ _ (both_right (eqb (queue_bit queue) (2 ^ queue)) _ t))

-- a sound state signals queues 0 to 15 only: none is signalled, or all its receive queues are below 16
pub few-signalled : (s : State) → Sound s → (kind : ℕ) → by_kind kind s.setup.interrupts s.setup.receives ≤ SIGNALLED
few-signalled s sound kind = by-kind s.setup.interrupts sound.kind
  where
    by-test : (b : Bool) (n : ℕ) → n ≤ SIGNALLED → pick b n 0 ≤ SIGNALLED
    by-test true n h = h
    by-test false n h = omega arith

    by-kind : (interrupts : Option ℕ) → kind_ok interrupts s.setup.receives ≡ true → by_kind kind interrupts s.setup.receives ≤ SIGNALLED
    by-kind None e = omega arith
    by-kind (Some k) e = by-test (eqb k kind) s.setup.receives (leb-true _ _ (both_right (either (eqb k MSI) (eqb k MSIX)) _ e))
