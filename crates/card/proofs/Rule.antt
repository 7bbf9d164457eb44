-- The rule of the register table, computed once over the whole of it: each address and stride is a multiple of 4, and no queue's register
-- stands above EEC, the highest. So an address fits a u32, and a map that reaches EEC reaches every register. Assumes nothing.
use Prim.Native.Nat.{ℕ, ◌+◌, ◌-◌, ◌*◌, ◌/◌, ◌%◌, ◌<◌, ◌≤◌}
use mathlib.Core.Path.{◌≡◌, refl}
use mathlib.Core.Bool.{Bool, true, false}
use native.Mathlib.Nat.{mul-le-mul_left}
use native.Mathlib.Omega.{arith}
use borrow.Author.Tests.{eqb-true, leb-true}
use lib.Dec.{eqb, leb, ltb}
use lib.ListN.{get_or}
use Rattle.limits.specs.Limits.{QUEUES}
use Rattle.laws.specs.Test.{pick, both, every}
use Rattle.laws.proofs.Test.{both_left, both_right, every-at}
use Rattle.card.specs.Registers.{ROWS, registers, entry, address, low_or_high, HIGHEST, LOW-QUEUES, IVAR, SRRCTL, SRRCTL-HIGH, DCA-RXCTRL, DCA-RXCTRL-HIGH, EEC}

abbrev pub base : ℕ → ℕ
base row = get_or registers (2 * row) 0

abbrev pub stride : ℕ → ℕ
stride row = get_or registers (2 * row + 1) 0

-- the rule of a row
abbrev right : ℕ → Bool
right row =
    both (eqb (base row % 4) 0) (both (eqb (stride row % 4) 0) (leb (base row + stride row * (QUEUES - 1)) HIGHEST))

all_right : every ROWS right ≡ true
unfolding every registers
all_right = refl

module _ (row : ℕ) (h : row < ROWS) where
  whole : right row ≡ true
  whole = every-at right ROWS row h all_right

  pub base-aligned : base row % 4 ≡ 0
  base-aligned = eqb-true _ _ (both_left (eqb (base row % 4) 0) _ whole)

  pub stride-aligned : stride row % 4 ≡ 0
  stride-aligned = eqb-true _ _ (both_left (eqb (stride row % 4) 0) _ (both_right (eqb (base row % 4) 0) _ whole))

  last-low : base row + stride row * (QUEUES - 1) ≤ HIGHEST
  last-low = leb-true _ _ (both_right (eqb (stride row % 4) 0) _ (both_right (eqb (base row % 4) 0) _ whole))

  module _ (n : ℕ) (k : n < QUEUES) where
    pub scaled : stride row * n ≤ HIGHEST
    scaled =
        let more : stride row * n ≤ stride row * (QUEUES - 1) = mul-le-mul_left (stride row) (omega arith) in
        omega (arith, last-low)

    pub entry-low : base row + stride row * n ≤ HIGHEST
    entry-low =
        let more : stride row * n ≤ stride row * (QUEUES - 1) = mul-le-mul_left (stride row) (omega arith) in
        omega (arith, last-low)

-- EEC is that highest register
pub eec-highest : (queue : ℕ) → address EEC queue ≡ HIGHEST
unfolding address entry registers
eec-highest queue = omega arith

-- no register stands above it, whatever its row and queue
module _ (row queue : ℕ) (h : row < ROWS) (k : queue < QUEUES) where
  low-at : (r n : ℕ) → r < ROWS → n < QUEUES → entry r n ≤ HIGHEST
  unfolding entry
  low-at r n p q = entry-low r p n q

  either-low : (b : Bool) (x y : ℕ) → x ≤ HIGHEST → y ≤ HIGHEST → pick b x y ≤ HIGHEST
  either-low true x y p q = p
  either-low false x y p q = q

  two-rows : (low high : ℕ) → low < ROWS → high < ROWS → low_or_high low high queue ≤ HIGHEST
  two-rows low high p q = either-low (ltb queue LOW-QUEUES) _ _ (low-at low queue p k) (low-at high queue q k)

  pub address-low : address row queue ≤ HIGHEST
  unfolding address
  address-low =
      either-low (eqb row IVAR) _ _ (low-at IVAR (queue / 2) (omega arith) (omega arith))
      (either-low (eqb row SRRCTL) _ _ (two-rows SRRCTL SRRCTL-HIGH (omega arith) (omega arith))
      (either-low (eqb row DCA-RXCTRL) _ _ (two-rows DCA-RXCTRL DCA-RXCTRL-HIGH (omega arith) (omega arith)) (low-at row queue h k)))
