-- Document 01, "Number returned by a call": the number of each refusal, and what is also returned.
use Rattle.std.specs.Prelude.{ℕ}
use Rattle.refusals.specs.declared.Refusal.{Refusal}
use Rattle.refusals.specs.declared.Refusal.TheVariants.{Unsound, WrongSize, NoQueue, BadHandle, TooLarge, NoneFree, NoHeadroom, NotNow, OutOfRange, Waited, OutsideMap, NoInterrupt}

abbrev pub refusal_number : Refusal → ℕ
refusal_number Unsound = 1
refusal_number WrongSize = 2
refusal_number NoQueue = 3
refusal_number (BadHandle index) = 4
refusal_number TooLarge = 5
refusal_number NoneFree = 6
refusal_number NoHeadroom = 7
refusal_number NotNow = 8
refusal_number OutOfRange = 9
refusal_number (Waited register) = 10
refusal_number (OutsideMap register) = 11
refusal_number NoInterrupt = 12

-- what is also returned: the index of the first bad handle, or the register
abbrev pub refusal_also : Refusal → ℕ
refusal_also Unsound = 0
refusal_also WrongSize = 0
refusal_also NoQueue = 0
refusal_also (BadHandle index) = index
refusal_also TooLarge = 0
refusal_also NoneFree = 0
refusal_also NoHeadroom = 0
refusal_also NotNow = 0
refusal_also OutOfRange = 0
refusal_also (Waited register) = register
refusal_also (OutsideMap register) = register
refusal_also NoInterrupt = 0
