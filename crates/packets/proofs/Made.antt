-- What `array::from_fn` asks of a closure that reads what it captured and changes none of it, and what it gives.
use Rattle.std.proofs.Common.{ℕ, zero, suc, ◌+◌, ◌≤◌, ◌<◌, ◌≡◌, sym, ◌∙◌, subst, List, [], ◌∷◌, get_or, arith}
use Rattle.std.specs.Iterator.{CallableAtEachTurn}
use Rattle.std.specs.Array.{index_steps, IsFromFnResult, IsFromFnResultFrom}
use Rattle.std.specs.List.{FoldsTo}
use denote.Param.Members.{Mut, Called}
use native.Mathlib.Decide.{ℕ_discrete}

module _ {P : Type 0} (R : P → ℕ → P → Type 0) (p : P) (same : (x : ℕ) (q : P) → R p x q → q ≡ p) where
  stays : (xs : List ℕ) (q : P) → FoldsTo R p xs q → q ≡ p
  stays [] q f = sym f
  stays (x ∷ xs) q f = stays xs q (subst (λ k. FoldsTo R k xs q) (same x f.0 f.1) f.2)

pub serves : {P : Type 0} {R : P → ℕ → P → Type 0} {Q : P → ℕ → Type 0} {n : ℕ} {p : P}
    → ((x : ℕ) (q : P) → R p x q → q ≡ p) → ((x : ℕ) → x < n → Q p x) → CallableAtEachTurn (index_steps n) R Q 0 p
serves {P} {R} {Q} {n} {p} same h = record { at = λ xs t q x u y f s. subst (λ k. Q k x) (sym (stays R p same xs q f)) (h x (omega (arith, s.0, s.1))) }

module _ {F B : Type 0} (g : Mut F (ℕ × Unit {0}) B) (f : F) (h : ℕ → B) (N : ℕ) (gives : (i : ℕ) (y : B) (q : F) → i < N → Called g f (i, tt) y q → (q ≡ f) × (y ≡ h i)) where
  one-more : (ys : List B) (i k : ℕ) (d : B) → get_or ys i d ≡ h i → (i + 1 ≤ k → get_or ys k d ≡ h k) → i ≤ k → Dec (k ≡ i) → get_or ys k d ≡ h k
  one-more ys i k d here later from (yes e) = rw e here
  one-more ys i k d here later from (no ne) = later (omega (arith, ne))

  each : (ys : List B) (n i : ℕ) (d : B) → i + n ≤ N → IsFromFnResultFrom g f ys i n → (k : ℕ) → i ≤ k → k < i + n → get_or ys k d ≡ h k
  each ys zero i d less made k from below = absurd (omega arith)
  each ys (suc n) i d less made k from below =
      let one = gives i made.1 made.0 (omega arith) made.3 in
      one-more ys i k d (made.2.1 d ∙ one.1)
      (λ past. each ys n (i + 1) d (omega arith) (subst (λ q. IsFromFnResultFrom g q ys (i + 1) n) one.0 made.4) k past (omega arith))
      from (ℕ_discrete k i)

  pub made_at : (ys : List B) → IsFromFnResult g f ys N → (k : ℕ) (d : B) → k < N → get_or ys k d ≡ h k
  made_at ys m k d below = each ys N 0 d (omega arith) m.each k (omega arith) (omega arith)
