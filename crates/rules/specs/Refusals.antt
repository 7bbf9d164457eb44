-- Document 01, "Number returned by a call": which refusal a call of the account gives, by its order 9, 1, 2, 3, 8, 4, 5, 7, 6.
use Rattle.std.specs.Prelude.{ℕ, zero, suc, ◌+◌, ◌-◌, ◌*◌, min, Bool, true, false, not, List, length, take, eqb, ltb, leb}
use Rattle.limits.specs.Limits.{USUAL-SIZE, SLOTS, RING-BYTES, HEADROOM}
use Rattle.laws.specs.Test.{pick, both}
use Rattle.laws.specs.Occurs.{occurs}
use Rattle.pool.specs.declared.Handle.{Handle}
use Rattle.rules.specs.declared.Account.{Account}
use Rattle.refusals.specs.declared.Refusal.TheVariants.{Unsound, WrongSize, NoQueue, BadHandle, TooLarge, NoneFree, NoHeadroom, NotNow, OutOfRange}
use Rattle.rules.specs.Verdict.{Verdict, Done, Refused}
use Rattle.rules.specs.Numbers.{unless}
use Rattle.rules.specs.Handles.{Handles, handle_at, has_room}
use Rattle.rules.specs.Sound.{in_range, is_good, sound}

-- ---- lengths of what is lent

-- a ring is 8,192 bytes, and there is one address per entry
abbrev pub rings_fit : ℕ → List ℕ → List ℕ → Bool
rings_fit entries ring addresses = both (eqb (length ring) RING-BYTES) (eqb (length addresses) entries)

-- packet memory is entries × entry size
abbrev pub memory_fits : Account → ℕ → Bool
memory_fits a bytes = eqb bytes (a.entries * a.size)

-- a packet is at most an entry without its headroom
abbrev pub packet_fits : Account → ℕ → Bool
packet_fits a len = leb len (a.size - HEADROOM)

-- ---- packets

-- a given entry size of 0 means 2048
abbrev pub size_given : ℕ → ℕ
size_given size = pick (eqb size 0) USUAL-SIZE size

unfoldable pub fresh_verdict : ℕ → ℕ → ℕ → ℕ → Verdict
fresh_verdict entries size receives sends = unless (in_range entries (size_given size) receives sends) OutOfRange Done

unfoldable pub counts_verdict : Account → Verdict
counts_verdict a = unless (sound a) Unsound Done

unfoldable pub take_verdict : Account → ℕ → Verdict
take_verdict a len =
    unless (sound a) Unsound
    (unless (packet_fits a len) TooLarge
    (unless (ltb 0 a.free.depth) NoneFree Done))

-- a batch of 0 takes one
abbrev pub batch_of : ℕ → ℕ
batch_of n = pick (eqb n 0) 1 n

-- the list must have room for as many as can be taken; an oversize batch is not refused
unfoldable pub batch_verdict : Account → ℕ → Handles → Verdict
batch_verdict a n lists =
    unless (sound a) Unsound
    (unless (has_room (min (batch_of n) a.entries) lists) WrongSize Done)

-- release and truncate
unfoldable pub handle_verdict : Account → Handle → Verdict
handle_verdict a h =
    unless (sound a) Unsound
    (unless (is_good a h) (BadHandle 0) Done)

unfoldable pub view_verdict : Account → Handle → ℕ → Verdict
view_verdict a h bytes =
    unless (sound a) Unsound
    (unless (memory_fits a bytes) WrongSize
    (unless (is_good a h) (BadHandle 0) Done))

unfoldable pub clone_verdict : Account → Handle → ℕ → Verdict
clone_verdict a h bytes =
    unless (sound a) Unsound
    (unless (memory_fits a bytes) WrongSize
    (unless (is_good a h) (BadHandle 0)
    (unless (packet_fits a h.length) TooLarge
    (unless (ltb 0 a.free.depth) NoneFree Done))))

unfoldable pub headroom_verdict : Account → Handle → ℕ → ℕ → Verdict
headroom_verdict a h asked bytes =
    unless (sound a) Unsound
    (unless (memory_fits a bytes) WrongSize
    (unless (is_good a h) (BadHandle 0)
    (unless (leb asked HEADROOM) TooLarge
    (unless (leb asked h.offset) NoHeadroom Done))))

-- ---- rings

unfoldable pub start_verdict : Account → ℕ → List ℕ → List ℕ → Verdict
start_verdict a q ring addresses =
    unless (sound a) Unsound
    (unless (rings_fit a.entries ring addresses) WrongSize
    (unless (ltb q a.receives) NoQueue
    (unless (not a.started) NotNow
    (unless (leb SLOTS a.free.depth) NoneFree Done))))

-- the list must have room for min(n, 512)
unfoldable pub receive_verdict : Account → ℕ → List ℕ → List ℕ → ℕ → Handles → Verdict
receive_verdict a q ring addresses n lists =
    unless (sound a) Unsound
    (unless (both (rings_fit a.entries ring addresses) (has_room (min n SLOTS) lists)) WrongSize
    (unless (ltb q a.receives) NoQueue
    (unless a.started NotNow Done)))

-- the handle at a place is good, and its id stands at no place before
abbrev pub sendable : Account → Handles → ℕ → Bool
sendable a lists i = both (is_good a (handle_at lists i)) (eqb (occurs (handle_at lists i).id (take i lists.ids)) 0)

-- the first of n handles, from a place on, that is not good or repeats an earlier id
unfoldable pub handles_verdict : Account → Handles → ℕ → ℕ → Verdict
handles_verdict a lists i zero = Done
handles_verdict a lists i (suc n) =
    elim (sendable a lists i) [ true ↦ handles_verdict a lists (i + 1) n | false ↦ Refused (BadHandle i) ]

-- there are as many handles as ids
unfoldable pub send_verdict : Account → ℕ → List ℕ → List ℕ → Handles → Verdict
send_verdict a q ring addresses lists =
    unless (sound a) Unsound
    (unless (both (rings_fit a.entries ring addresses) (has_room (length lists.ids) lists)) WrongSize
    (unless (ltb q a.sends) NoQueue
    (handles_verdict a lists 0 (length lists.ids))))
