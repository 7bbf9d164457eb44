-- The loop of `sound::mark_all`: marking the ids that are left gives what marking all of them gave at the start.
use Rattle.std.proofs.Common.{◌≡◌, drop}
use Rattle.sound.specs.Marks.{mark_all}
use Rattle.sound.proofs.mark_all.Given as goal

abbrev pub invariant-loop-id : goal.invariant-loop-id
invariant-loop-id l =
    mark_all l.account.entries l.account.hands l.hand (drop l.id-index l.ids) l.seen ≡ mark_all l.account.entries l.account.hands l.hand l.ids l.initial.seen
