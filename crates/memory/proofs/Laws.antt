-- Laws of packet memory: a packet lies inside its entry, an entry inside packet memory, and entries of two ids are apart.
use Prim.Native.Nat.{ℕ, ◌+◌, ◌-◌, ◌*◌, ◌≤◌, ◌<◌, min, max}
use mathlib.Core.Path.{◌≡◌, refl, sym, ◌∙◌}
use mathlib.Core.Bool.{Bool, true, false}
use lib.Dec.{leb}
use native.Mathlib.Decide.{dec_lt}
use native.Mathlib.Nat.{suc-mul, mul-le-mul_right}
use native.Mathlib.Omega.{arith}
use borrow.Author.Tests.{leb-true, ltb-true, eqb-true}
use lib.Arith.{lt_of_le-ne}
use Rattle.limits.specs.Limits.{HEADROOM}
use Rattle.pool.specs.declared.Handle.{Handle}
use Rattle.pool.specs.Stack.{top}
use Rattle.rules.specs.declared.Account.{Account}
use Rattle.refusals.specs.declared.Refusal.{Refusal}
use Rattle.refusals.specs.declared.Refusal.TheVariants.{TooLarge, NoHeadroom}
use Rattle.rules.specs.Verdict.{Verdict}
use Rattle.rules.specs.Verdict.{Done, Refused}
use Rattle.rules.specs.Numbers.{unless, on_verdict}
use Rattle.rules.specs.Sound.{sound, Full, Good}
use Rattle.rules.specs.Refusals.{take_verdict, view_verdict, clone_verdict, headroom_verdict}
use Rattle.rules.proofs.Facts.{Bounds, bounds, stack-known, top-known}
use Rattle.rules.proofs.Sound.{good-means}
use Rattle.rules.proofs.Verdicts.{not_done, unless-done}
use Rattle.rules.proofs.Calls.{clone-done}

-- ---- one verdict and then another

-- a test before the first is a test before both
unless-then : (test : Bool) (why : Refusal) (first rest : Verdict)
    → on_verdict (unless test why first) rest Refused ≡ unless test why (on_verdict first rest Refused)
unless-then true why first rest = refl
unless-then false why first rest = refl

-- both are done
then-done : (first rest : Verdict) → on_verdict first rest Refused ≡ Done → (first ≡ Done) × (rest ≡ Done)
then-done Done rest e = (refl, e)
then-done (Refused why) rest e = absurd (not_done why e)

module _ (a : Account) (h : Handle) (bytes : ℕ) where
  pub headroom-by-view : (asked : ℕ) → headroom_verdict a h asked bytes
      ≡ on_verdict (view_verdict a h bytes) (unless (leb asked HEADROOM) TooLarge (unless (leb asked h.offset) NoHeadroom Done)) Refused
  unfolding headroom_verdict view_verdict
  headroom-by-view asked = simp unless-then

  pub clone-by-view : sound a ≡ true → clone_verdict a h bytes ≡ on_verdict (view_verdict a h bytes) (take_verdict a h.length) Refused
  unfolding clone_verdict view_verdict take_verdict
  clone-by-view e = simp (e, unless-then)

-- ---- places

-- an entry lies before the entries of the ids above
entry-before : (id other size : ℕ) → id < other → id * size + size ≤ other * size
entry-before id other size below = rw (← suc-mul) (mul-le-mul_right size below)

entries-apart : (id other size : ℕ) → (id ≡ other → ⊥) → min (id * size) (other * size) + size ≤ max (id * size) (other * size)
entries-apart id other size differ = by-case (dec_lt id other)
  where
    by-case : Dec (id < other) → min (id * size) (other * size) + size ≤ max (id * size) (other * size)
    by-case (yes below) = omega (arith, entry-before id other size below)
    by-case (no above) = omega (arith, entry-before other id size (lt_of_le-ne (omega arith) (λ same. differ (sym same))))

-- a packet lies in its entry, and its entry in packet memory
pub record Inside (a : Account) (h : Handle) (bytes : ℕ) : Type 0 where
  pub numbers : Bounds a
  pub good : Good a h
  pub whole : bytes ≡ a.entries * a.size
  pub entry : h.id * a.size + a.size ≤ bytes

-- and so does the entry that a clone gets
pub record Clonable (a : Account) (h : Handle) (bytes : ℕ) : Type 0 where
  pub inside : Inside a h bytes
  pub some : 0 < a.free.depth
  pub fits : h.length ≤ a.size - HEADROOM
  pub known : top a.free < a.entries
  pub entry : top a.free * a.size + a.size ≤ bytes

module _ (a : Account) (h : Handle) (bytes : ℕ) where
  pub view-inside : view_verdict a h bytes ≡ Done → Inside a h bytes
  unfolding view_verdict
  view-inside e =
      let p = unless-done _ _ _ e in
      let p1 = unless-done _ _ _ p.1 in
      let good = good-means a h (unless-done _ _ _ p1.1).0 in
      let whole = eqb-true bytes _ p1.0 in
      record { numbers = bounds a p.0; good = good; whole = whole; entry = rw whole (entry-before _ _ _ good.known) }

  pub headroom-inside : (asked : ℕ) → headroom_verdict a h asked bytes ≡ Done → Inside a h bytes × (asked ≤ h.offset)
  headroom-inside asked e =
      let p = then-done _ _ (sym (headroom-by-view a h bytes asked) ∙ e) in
      let rest = (unless-done (leb asked HEADROOM) TooLarge _ p.1).1 in
      (view-inside p.0, leb-true asked _ (unless-done (leb asked h.offset) NoHeadroom Done rest).0)

  pub clone-inside : clone_verdict a h bytes ≡ Done → Clonable a h bytes
  clone-inside e =
      let d = clone-done a h bytes e in
      let inside = view-inside (then-done _ _ (sym (clone-by-view a h bytes d.0) ∙ e)).0 in
      let some = ltb-true 0 _ d.4 in
      let known = stack-known a d.0 (a.free.depth - 1) (omega (arith, some)) in
      record {
        inside = inside;
        some = some;
        fits = leb-true h.length _ d.3;
        known = known;
        entry = rw inside.whole (entry-before _ _ _ known);
      }

  -- and the entry that a clone gets is another one than its packet's
  pub clone-apart : Full a → clone_verdict a h bytes ≡ Done
      → min (h.id * a.size) (top a.free * a.size) + a.size ≤ max (h.id * a.size) (top a.free * a.size)
  clone-apart full e =
      let d = clone-done a h bytes e in
      let inside = view-inside (then-done _ _ (sym (clone-by-view a h bytes d.0) ∙ e)).0 in
      let (known, free) = top-known a d.0 full (ltb-true 0 _ d.4) in
      entries-apart _ _ _ (λ same. omega (arith, free, rw same at inside.good.out))
