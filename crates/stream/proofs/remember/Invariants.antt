-- `stream::remember` meets its contract: what is left of the list is remembered as the whole was to be. Assumes nothing.
use mathlib.Core.Path.{◌≡◌}
use lib.ListN.{length, take, drop}
use Rattle.tally.specs.Tally.{memory_as}
use Rattle.stream.proofs.Memory.{Remembering}
use Rattle.stream.proofs.remember.Given as goal

abbrev pub invariant-loop-id : goal.invariant-loop-id
invariant-loop-id l =
    (goal.iterator-loop-id).can_next l.id-iterator
    × (goal.iterator-loop-id).is_finite l.id-iterator
    × (l.id-iterator.a.a.rest.now ≡ drop (length l.yielded) (take l.count l.ids))
    × (l.id-iterator.a.b.rest.now ≡ drop (length l.yielded) l.froms)
    × (l.id-iterator.b.rest.now ≡ drop (length l.yielded) l.sizes)
    × Remembering l.ids l.froms l.sizes l.count (memory_as l.initial.offsets l.initial.lengths) (memory_as l.offsets l.lengths) (length l.yielded)
