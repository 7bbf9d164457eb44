-- What the tests of a start and of a receive give the loops: in a sound account every id on the stack and in the ring has an address.
-- A place past an array's end reads 0, which is an id too: so none of this needs the arrays' lengths.
use Prim.Native.Nat.{ℕ, min}
use mathlib.Core.Path.{◌≡◌}
use mathlib.Core.Bool.{true}
use mathlib.Core.List.{List}
use lib.ListN.{length}
use lib.Dec.{eqb}
use native.Mathlib.Omega.{arith}
use borrow.Author.Tests.{eqb-true, leb-true}
use Rattle.limits.specs.Limits.{SLOTS, RING-BYTES}
use Rattle.laws.proofs.Test.{both_left, both_right}
use Rattle.rules.specs.declared.Account.{Account}
use Rattle.rules.specs.Verdict.{Done}
use Rattle.rules.specs.Handles.{Handles}
use Rattle.rules.specs.Sound.{sound}
use Rattle.rules.specs.Refusals.{rings_fit, start_verdict, receive_verdict}
use Rattle.rules.proofs.Facts.{bounds, stack-known, slots-known}
use Rattle.rules.proofs.Sound.{sound-means}
use Rattle.rules.proofs.Verdicts.{room-means}
use Rattle.rules.proofs.Calls.{start-done, receive-done}
use Rattle.rings.specs.Lent.{Stacked, Fillable, Receivable}

module _ (a : Account) (ring addresses : List ℕ) where
  module _ (e : sound a ≡ true) (fit : rings_fit a.entries ring addresses ≡ true) where
    whole : length ring ≡ RING-BYTES
    whole = eqb-true (length ring) RING-BYTES (both_left (eqb (length ring) RING-BYTES) _ fit)

    one_each : length addresses ≡ a.entries
    one_each = eqb-true (length addresses) a.entries (both_right (eqb (length ring) RING-BYTES) _ fit)

    stacked : Stacked a.free.ids a.free.depth addresses
    stacked =
        record {
          deep = omega (arith, bounds a e);
          few = omega (arith, bounds a e, one_each);
          known = λ i l. omega (arith, stack-known a e i l, one_each);
        }

  pub fillable : (q : ℕ) → start_verdict a q ring addresses ≡ Done → Fillable a.free.ids a.free.depth addresses ring
  fillable q done =
      let d = start-done a q ring addresses done in
      record { stacked = stacked d.0 d.1; enough = leb-true SLOTS a.free.depth d.4; whole = whole d.0 d.1 }

  pub receivable : (q n : ℕ) (lists : Handles) → receive_verdict a q ring addresses n lists ≡ Done
      → Receivable n a.free.ids a.free.depth addresses a.slots a.rx ring lists
  receivable q n lists done =
      let d = receive-done a q ring addresses n lists done in
      record {
        stacked = stacked d.0 d.1;
        slots-known = λ i l. omega (arith, slots-known a d.0 d.4 i, one_each d.0 d.1);
        place = (sound-means a d.0).rx-below;
        whole = whole d.0 d.1;
        room = room-means (min n SLOTS) lists d.2;
      }
