-- What a verdict says: each test of a call that is done held, and each handle of a send that is done is good and repeats no earlier one.
use Prim.Native.Nat.{ℕ, zero, suc, ◌+◌, ◌≤◌, ◌<◌}
use mathlib.Core.Path.{◌≡◌, refl}
use mathlib.Core.Bool.{Bool, true, false}
use lib.ListN.{length, take}
use lib.Seq.{get_or-take, length-take-le}
use lib.Dec.{leb}
use native.Mathlib.Decide.{ℕ_discrete}
use native.Mathlib.Omega.{arith}
use borrow.Author.Tests.{eqb-true, leb-true}
use lib.Arith.{lt_of_le-ne}
use Rattle.laws.specs.Occurs.{occurs}
use Rattle.laws.proofs.Test.{both_left, both_right}
use Rattle.laws.proofs.Occurs.{occurs-at}
use Rattle.rules.specs.declared.Account.{Account}
use Rattle.refusals.specs.declared.Refusal.{Refusal}
use Rattle.refusals.specs.declared.Refusal.TheVariants.{BadHandle}
use Rattle.rules.specs.Verdict.{Verdict, Done, Refused}
use Rattle.rules.specs.Numbers.{unless, on_verdict}
use Rattle.rules.specs.Handles.{Handles, handle_at, has_room, Room}
use Rattle.rules.specs.Sound.{is_good, Good}
use Rattle.rules.specs.Refusals.{sendable, handles_verdict}
use Rattle.rules.proofs.Sound.{good-means}

-- ---- a call that is done

pub not_done : (why : Refusal) → Refused why ≡ Done → ⊥
not_done why e = let z : ◌≡◌ {A = ℕ} 0 1 = cc in omega arith

-- the first test held, and the rest is done
pub unless-done : (test : Bool) (why : Refusal) (rest : Verdict) → unless test why rest ≡ Done → (test ≡ true) × (rest ≡ Done)
unless-done true why rest e = (refl, e)
unless-done false why rest e = absurd (not_done why e)

-- what holds of what a call leaves where it is done, and of each refusal, holds of what it leaves
pub verdict-holds : {A : Type 0} (P : A → Type 0) (v : Verdict) (done : A) (refused : Refusal → A)
    → (v ≡ Done → P done) → ((why : Refusal) → v ≡ Refused why → P (refused why)) → P (on_verdict v done refused)
verdict-holds P Done done refused d r = d refl
verdict-holds P (Refused why) done refused d r = r why refl

-- ---- room

pub room-means : (n : ℕ) (l : Handles) → has_room n l ≡ true → Room n l
unfolding has_room
room-means n l e =
    let e1 = both_right (leb n (length l.pools)) _ e in
    let e2 = both_right (leb n (length l.ids)) _ e1 in
    record {
      pools = leb-true n (length l.pools) (both_left (leb n (length l.pools)) _ e);
      ids = leb-true n (length l.ids) (both_left (leb n (length l.ids)) _ e1);
      offsets = leb-true n (length l.offsets) (both_left (leb n (length l.offsets)) _ e2);
      lengths = leb-true n (length l.lengths) (both_right (leb n (length l.offsets)) _ e2);
    }

-- ---- the handles of a send

module _ (a : Account) (lists : Handles) where
  handles-more : (i n : ℕ) → handles_verdict a lists i (suc n) ≡ Done → (sendable a lists i ≡ true) × (handles_verdict a lists (i + 1) n ≡ Done)
  unfolding handles_verdict
  handles-more i n e = by-case (sendable a lists i) refl e
    where
      by-case : (b : Bool) → sendable a lists i ≡ b
          → elim b [ true ↦ handles_verdict a lists (i + 1) n | false ↦ Refused (BadHandle i) ] ≡ Done
          → (sendable a lists i ≡ true) × (handles_verdict a lists (i + 1) n ≡ Done)
      by-case true p d = (p, d)
      by-case false p d = absurd (not_done (BadHandle i) d)

  pub handles-done : (i n : ℕ) → handles_verdict a lists i n ≡ Done → (k : ℕ) → i ≤ k → k < i + n → sendable a lists k ≡ true
  handles-done i zero e k from to = absurd (omega arith)
  handles-done i (suc n) e k from to = by-case (ℕ_discrete i k) (handles-more i n e) (λ d. handles-done (i + 1) n d k)
    where
      by-case : Dec (i ≡ k) → (sendable a lists i ≡ true) × (handles_verdict a lists (i + 1) n ≡ Done)
          → (handles_verdict a lists (i + 1) n ≡ Done → i + 1 ≤ k → k < i + 1 + n → sendable a lists k ≡ true) → sendable a lists k ≡ true
      by-case (yes same) p again = rw same at p.0
      by-case (no ne) p again = again p.1 (omega (arith, lt_of_le-ne from ne)) (omega arith)

  module _ (k : ℕ) (e : sendable a lists k ≡ true) where
    pub sendable-good : Good a (handle_at lists k)
    sendable-good = good-means a (handle_at lists k) (both_left (is_good a (handle_at lists k)) _ e)

    -- no earlier handle has its id
    pub sendable-new : k ≤ length lists.ids → (j : ℕ) → j < k → (handle_at lists j).id ≡ (handle_at lists k).id → ⊥
    sendable-new room j before same =
        let none = eqb-true (occurs (handle_at lists k).id (take k lists.ids)) 0 (both_right (is_good a (handle_at lists k)) _ e) in
        let some = occurs-at (take k lists.ids) j (rw (length-take-le k lists.ids room) before) in
        omega (arith, none, rw (get_or-take k lists.ids j 0 before, same) at some)
