-- The free stack: an array of ids beside its count. The stack itself is the first `depth` places, the top last.
use Rattle.std.specs.Prelude.{ℕ, ◌+◌, ◌-◌, List, get_or, set, take}
use Rattle.pool.specs.declared.FreeStack.{FreeStack}

-- the ids on the stack, the top last
abbrev pub content : FreeStack → List ℕ
content s = take s.depth s.ids

-- the id that leaves next
abbrev pub top : FreeStack → ℕ
top s = get_or s.ids (s.depth - 1) 0

-- the stack without its top: the array stays as it is
abbrev pub popped : FreeStack → FreeStack
popped s = record { ids = s.ids; depth = s.depth - 1 }

-- the stack with one id more, at the first place past the count
abbrev pub pushed : FreeStack → ℕ → FreeStack
pushed s id = record { ids = set s.ids s.depth id; depth = s.depth + 1 }
