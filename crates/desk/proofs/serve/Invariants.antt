-- `desk::serve` is safe and ends: between two reads the account is sound, and the measure is the records that can still be counted.
use Rattle.std.proofs.Common.{◌≡◌, ◌-◌, ◌^◌, true}
use Rattle.rules.specs.Sound.{sound}
use Rattle.desk.proofs.serve.Given as goal

abbrev pub invariant-loop-count : goal.invariant-loop-count
invariant-loop-count g l = sound l.run.account ≡ true

abbrev pub decreases-loop-count : goal.decreases-loop-count
decreases-loop-count g l = 2 ^ 64 - l.count
