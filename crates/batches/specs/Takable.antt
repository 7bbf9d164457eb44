-- What a run of packets off the stack asks: enough of them, known ids, and room in the lists.
use Rattle.std.specs.Prelude.{ℕ, ◌≤◌, ◌<◌, List, get_or}
use Rattle.limits.specs.Limits.{ENTRIES}
use Rattle.rules.specs.Handles.{Handles, Room}

pub record Takable (most : ℕ) (stack : List ℕ) (depth : ℕ) (lists : Handles) : Type 0 where
  pub enough : most ≤ depth
  pub deep : depth ≤ ENTRIES
  pub known : (i : ℕ) → i < depth → get_or stack i 0 < ENTRIES
  pub room : Room most lists
