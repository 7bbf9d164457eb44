-- What the contracts of `lines` cite of the buffer: the bytes that are gathered, and that no more than so many are put.
use Rattle.std.specs.Prelude.{◌≡◌, ℕ, ◌+◌, ◌-◌, ◌≤◌, List, length, take}
use Rattle.lines.specs.declared.Out.{Out}

abbrev pub gathered : Out → List ℕ
gathered o = take o.len o.bytes.now

abbrev pub room : Out → ℕ
room o = length o.bytes.now - o.len

-- the buffer is as long as it was, and at most so many bytes of it are gathered more
abbrev pub Grown : Out → ℕ → Out → Type 0
Grown old most new = (length new.bytes.now ≡ length old.bytes.now) × (old.len ≤ new.len) × (new.len ≤ old.len + most)
