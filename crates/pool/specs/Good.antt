-- A good handle, of a pool of so many entries of a size, by the record of hands: of the pool, with the application, at offset 0 or 32, inside its
-- entry.
use Rattle.std.specs.Prelude.{ℕ, ◌+◌, Bool, List, get_or, eqb, ltb, leb}
use Rattle.limits.specs.Limits.{HEADROOM}
use Rattle.laws.specs.Test.{both, either}
use Rattle.pool.specs.declared.Handle.{Handle}
use Rattle.pool.specs.Hands.{HAND-OUT}

unfoldable pub good_in : ℕ → ℕ → ℕ → List ℕ → Handle → Bool
good_in pool entries size hands h =
    both (eqb h.pool pool)
    (both (ltb h.id entries)
    (both (eqb (get_or hands h.id 0) HAND-OUT) (both (either (eqb h.offset 0) (eqb h.offset HEADROOM)) (leb (h.offset + h.length) size))))
