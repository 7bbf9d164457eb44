-- Tests, and what is picked by one.
use Rattle.std.specs.Prelude.{ℕ, zero, suc, Bool, true, false}

-- the first where the test holds, else the second
abbrev pub pick : {A : Type 0} → Bool → A → A → A
pick true a b = a
pick false a b = b

-- both tests hold
abbrev pub both : Bool → Bool → Bool
both true b = b
both false b = false

-- one of the tests holds
abbrev pub either : Bool → Bool → Bool
either true b = true
either false b = b

-- the test holds of every number below n
unfoldable pub every : ℕ → (ℕ → Bool) → Bool
every zero test = true
every (suc n) test = both (every n test) (test n)

-- the test holds of some number below n
unfoldable pub some : ℕ → (ℕ → Bool) → Bool
some zero test = false
some (suc n) test = either (some n test) (test n)
