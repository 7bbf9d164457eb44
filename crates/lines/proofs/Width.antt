-- How many digits a number has, and what they are: what `io::decimal` counts is `width`.
use Prim.Native.Nat.{ℕ, zero, suc, ◌+◌, ◌-◌, ◌/◌, ◌^◌, ◌≤◌, ◌<◌}
use mathlib.Core.Path.{◌≡◌}
use native.Mathlib.Nat.{one-le-pow, pow-le-pow_right}
use native.Mathlib.Omega.{arith}
use borrow.Author.Tests.{lt-ltb, le-ltb}
use Rattle.io.specs.Digits.{last_digits, IsDigitCount}
use Rattle.lines.specs.Lines.{width, spelled}

-- a number of more than one digit is at least the least of that many digits
least : (n j : ℕ) → IsDigitCount 10 1 n (suc (suc j)) → 10 ^ suc j ≤ n
least n j f =
    let less : suc (suc j) - 1 ≡ suc j = omega arith in
    rw less at (f.2 (omega arith))

-- without its last digit a number has one digit less
shorter : (n j : ℕ) → IsDigitCount 10 1 n (suc (suc j)) → IsDigitCount 10 1 (n / 10) (suc j)
shorter n j f =
    let less : suc j - 1 ≡ j = omega arith in
    let low : 10 ^ j ≤ n / 10 = omega (arith, least n j f) in
    (omega arith, omega (arith, f.1), λ _. rw less low)

-- the fewest digits that hold a number are as many as it has
fewest : (more n k : ℕ) → k ≤ more + 1 → IsDigitCount 10 1 n k → k ≡ width more n
unfolding width
fewest zero n k few f = omega arith
fewest (suc more) n zero few f = absurd (omega arith)
fewest (suc more) n (suc zero) few f = rw (lt-ltb n 10 (omega arith))
fewest (suc more) n (suc (suc j)) few f =
    let two : 10 ≤ n = omega (arith, least n j f, one-le-pow j 10 (omega arith)) in
    rw (le-ltb n 10 two, ← fewest more (n / 10) (suc j) (omega arith) (shorter n j f)) (omega arith)

-- a number of 64 bits has at most 20 digits
pub few : (n k : ℕ) → n < 2 ^ 64 → IsDigitCount 10 1 n k → k ≤ 20
few n k small f =
    let no_more : ¬ (20 < k) = λ more. omega (arith, f.2 (omega arith), pow-le-pow_right {n = 10} (omega arith) {i = 20} {j = k - 1} (omega arith)) in
    omega arith

-- and they spell it
pub spells : (n k : ℕ) → n < 2 ^ 64 → IsDigitCount 10 1 n k → last_digits 10 k n ≡ spelled n
unfolding spelled
spells n k small f = rw (← fewest 19 n k (few n k small f) f)
