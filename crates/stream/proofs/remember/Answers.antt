-- `stream::remember` meets its contract: what is left of the list is remembered as the whole was to be. Assumes nothing.
use Prim.Native.Nat.{ℕ, ◌+◌, ◌≤◌, ◌<◌}
use mathlib.Core.Path.{◌≡◌, sym, ap, ◌∙◌}
use mathlib.Core.Logic.{inl, inr}
use mathlib.Core.List.{List}
use lib.ListN.{length, get_or, take, drop, length-drop}
use lib.Seq.{get_or-take, length-take-le}
use native.Mathlib.Nat.{sub-zero}
use native.Mathlib.Omega.{arith}
use borrow.Author.Rules.{rules}
use Rattle.std.proofs.lemmas.List.{length_push}
use Rattle.tally.proofs.Rest.{at-rest}
use Rattle.stream.proofs.Memory.{remember-one, remember-none, remember-end}
use Rattle.stream.proofs.remember.Goals as goal
use Rattle.stream.proofs.remember.Goals.{In-Some}

-- the handle that comes next stands in the lists at the number of those passed
record Next (count : ℕ) (ids froms sizes : List ℕ) (n x y z : ℕ) (r s t : List ℕ) : Type 0 where
  below : n < count
  id-is : x ≡ get_or ids n 0
  from-is : y ≡ get_or froms n 0
  size-is : z ≡ get_or sizes n 0
  ids-left : r ≡ drop (n + 1) (take count ids)
  froms-left : s ≡ drop (n + 1) froms
  sizes-left : t ≡ drop (n + 1) sizes

next : (c : In-Some)
    → Next c.args.count c.args.ids.now c.args.froms.now c.args.sizes.now (length c.loop-id.yielded)
    c.in-Some.field-0-0-0.now c.in-Some.field-0-0-1.now c.in-Some.field-0-1.now
    c.next.new.self.a.a.rest.now c.next.new.self.a.b.rest.now c.next.new.self.b.rest.now
next c =
    let inv = c.loop-id.invariant in
    let s = c.in-Some.ensures.steps in
    let n = length c.loop-id.yielded in
    let i = at-rest n (take c.args.count c.args.ids.now) (sym inv.2 ∙ s.0.0) in
    let f = at-rest n c.args.froms.now (sym inv.3 ∙ s.0.1) in
    let z = at-rest n c.args.sizes.now (sym inv.4 ∙ s.1) in
    let below : n < c.args.count = omega (arith, i.0, length-take-le c.args.count c.args.ids.now c.requires.2) in
    record {
      below = below;
      id-is = i.1 ∙ get_or-take c.args.count c.args.ids.now n 0 below;
      from-is = f.1;
      size-is = z.1;
      ids-left = i.2;
      froms-left = f.2;
      sizes-left = z.2;
    }

pub loop-id-init : goal.loop-id-init
loop-id-init c = (
  search rules,
  search rules,
  search rules,
  search rules,
  search rules,
  record { passed = omega arith; offsets = c.requires.0; lengths = c.requires.1; left = rw sub-zero },
)

pub loop-id-preserved-then-at-lt-ENTRIES : goal.loop-id-preserved-then-at-lt-ENTRIES
loop-id-preserved-then-at-lt-ENTRIES c =
    let q = next (goal.at.loop-id-preserved-then-at-lt-ENTRIES c).In-Some in
    let inv = c.loop-id.invariant in
    rw (length_push c.loop-id.yielded ((c.in-Some.field-0-0-0, c.in-Some.field-0-0-1), c.in-Some.field-0-1))
    (inv.0, inv.1, q.ids-left, q.froms-left, q.sizes-left, rw (q.id-is, q.from-is, q.size-is) (remember-one inv.5 q.below))

pub loop-id-preserved : goal.loop-id-preserved
loop-id-preserved c =
    let q = next (goal.at.loop-id-preserved c).In-Some in
    let inv = c.loop-id.invariant in
    rw (length_push c.loop-id.yielded ((c.in-Some.field-0-0-0, c.in-Some.field-0-0-1), c.in-Some.field-0-1))
    (inv.0, inv.1, q.ids-left, q.froms-left, q.sizes-left, remember-none inv.5 q.below (rw q.id-is at c.if-at-lt-ENTRIES.false))

pub returns : goal.returns
returns c =
    let inv = c.loop-id.invariant in
    let n = length c.loop-id.yielded in
    let long = length-take-le c.args.count c.args.ids.now c.requires.2 in
    let end : c.args.count ≤ n = elim c.in-None.ensures.steps [
      | inl (w, inl v) ↦ omega (arith, v.1.0, ap length inv.2, length-drop n (take c.args.count c.args.ids.now), long)
      | inl (w, inr v) ↦ omega (arith, v.1.0, ap length inv.3, length-drop n c.args.froms.now, c.requires.3)
      | inr w ↦ omega (arith, w.1.0, ap length inv.4, length-drop n c.args.sizes.now, c.requires.4)
    ] in
    remember-end inv.5 end
