-- A view and a headroom agree with the numbers beside them: the part is the packet's exactly where the number is 0, and else it is the empty
-- part at the start of packet memory. Both go by the same verdict.
use Prim.Native.Nat.{ℕ, ◌-◌}
use mathlib.Core.Path.{◌≡◌, refl}
use lib.ListN.{length}
use native.Mathlib.Omega.{arith}
use Rattle.pool.specs.declared.Handle.{Handle}
use Rattle.rules.specs.declared.Account.{Account}
use Rattle.refusals.specs.declared.Refusal.{Refusal}
use Rattle.refusals.specs.declared.Refusal.TheVariants.{Unsound, WrongSize, NoQueue, BadHandle, TooLarge, NoneFree, NoHeadroom, NotNow, OutOfRange, Waited, OutsideMap, NoInterrupt}
use Rattle.rules.specs.Verdict.{Verdict}
use Rattle.rules.specs.Verdict.{Done, Refused}
use Rattle.refusals.specs.Numbers.{refusal_number}
use Rattle.rules.specs.Numbers.{number, on_verdict}
use Rattle.rules.specs.Refusals.{view_verdict, headroom_verdict}
use Rattle.rules.specs.Packets.{place_of, Lent, within, no_part, view_call, headroom_call}

-- no refusal has number 0
pub not-zero : (why : Refusal) → refusal_number why ≡ 0 → ⊥
not-zero Unsound e = omega arith
not-zero WrongSize e = omega arith
not-zero NoQueue e = omega arith
not-zero (BadHandle index) e = omega arith
not-zero TooLarge e = omega arith
not-zero NoneFree e = omega arith
not-zero NoHeadroom e = omega arith
not-zero NotNow e = omega arith
not-zero OutOfRange e = omega arith
not-zero (Waited register) e = omega arith
not-zero (OutsideMap register) e = omega arith
not-zero NoInterrupt e = omega arith

-- what a call leaves by its number
zero-done : {A : Type 0} (v : Verdict) (done : A) (refused : Refusal → A) → number v ≡ 0 → on_verdict v done refused ≡ done
zero-done Done done refused e = refl
zero-done (Refused why) done refused e = absurd (not-zero why e)

other-refused : {A : Type 0} (v : Verdict) (done other : A) → (number v ≡ 0 → ⊥) → on_verdict v done (λ why. other) ≡ other
other-refused Done done other ne = absurd (ne refl)
other-refused (Refused why) done other ne = refl

module _ (a : Account) (h : Handle) (memory : Lent) where
  pub view-agrees : number (view_verdict a h (length memory.bytes)) ≡ 0 → view_call a h memory ≡ within (place_of a.size h.id h.offset) h.length memory
  unfolding view_call
  view-agrees e = zero-done (view_verdict a h (length memory.bytes)) _ _ e

  pub view-empty : (number (view_verdict a h (length memory.bytes)) ≡ 0 → ⊥) → view_call a h memory ≡ no_part memory
  unfolding view_call
  view-empty ne = other-refused (view_verdict a h (length memory.bytes)) _ _ ne

  module _ (asked : ℕ) where
    pub headroom-agrees : number (headroom_verdict a h asked (length memory.bytes)) ≡ 0
        → headroom_call a h asked memory ≡ within (place_of a.size h.id h.offset - asked) asked memory
    unfolding headroom_call
    headroom-agrees e = zero-done (headroom_verdict a h asked (length memory.bytes)) _ _ e

    pub headroom-empty : (number (headroom_verdict a h asked (length memory.bytes)) ≡ 0 → ⊥) → headroom_call a h asked memory ≡ no_part memory
    unfolding headroom_call
    headroom-empty ne = other-refused (headroom_verdict a h asked (length memory.bytes)) _ _ ne
