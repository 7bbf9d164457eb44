-- The highest register is met early: the twelfth item waits for EEC, above which no register stands. So a map that reaches it reaches the rest.
-- Assumes nothing.
use Prim.Native.Nat.{ℕ}
use mathlib.Core.Path.{◌≡◌, refl}
use lib.ListN.{get_or}
use Rattle.card.specs.Registers.{registers, entry, address, HIGHEST}
use Rattle.card.specs.Masks.{CTRL-RST, EEC-ARD}
use Rattle.parts.specs.Parts.{parts}
use Rattle.plan.specs.declared.Setup.{Setup}
use Rattle.plan.specs.declared.Item.TheVariants.{End, Write, WaitSet, WaitClear, Pause}
use Rattle.plan.specs.Sequence.{sequence}

-- the place of that wait
abbrev pub HIGHEST-PLACE : ℕ
HIGHEST-PLACE = 11

module _ (s : Setup) where
  pub at-highest : get_or (sequence s) HIGHEST-PLACE End ≡ WaitSet HIGHEST EEC-ARD
  unfolding sequence parts address entry registers
  at-highest = refl

  -- the reset: the write, the wait for its bits to clear, and 10 ms
  pub at-reset : get_or (sequence s) 3 End ≡ Write 0x0000 CTRL-RST
  unfolding sequence parts address entry registers
  at-reset = refl

  pub at-reset-wait : get_or (sequence s) 4 End ≡ WaitClear 0x0000 CTRL-RST
  unfolding sequence parts address entry registers
  at-reset-wait = refl

  pub at-reset-pause : get_or (sequence s) 5 End ≡ Pause 10
  unfolding sequence parts address entry registers
  at-reset-pause = refl
