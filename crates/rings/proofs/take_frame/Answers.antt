-- `rings::take_frame` meets its contract: the slot's buffer and the top of the stack change places, and the handle is put. Assumes nothing.
use Prim.Native.Nat.{◌-◌, ◌≤◌, ◌<◌}
use lib.ListN.{length, get_or}
use native.Mathlib.Omega.{arith}
use Rattle.limits.specs.Limits.{ENTRIES}
use Rattle.rings.proofs.Receives.{top-known, frame-taken}
use Rattle.rings.proofs.take_frame.Goals as goal
use Rattle.rings.proofs.take_frame.Goals.{Start}

-- ---- places: the entry, and where the fresh buffer is offered, the slot is swapped and the handle is put

-- the buffer at the top of the stack has an address, and there are at most as many as entries
top_small : (c : Start) → (get_or c.args.stack.now (c.args.depth - 1) 0 < length c.args.addresses.now) × (length c.args.addresses.now ≤ ENTRIES)
top_small c = (top-known c.requires.0 c.requires.1, c.requires.0.few)

pub overflow_cast-fresh : goal.overflow_cast-fresh
overflow_cast-fresh c = omega (arith, top_small (goal.at.overflow_cast-fresh c).Start)

pub offset_bounds-addresses-fresh : goal.offset_bounds-addresses-fresh
offset_bounds-addresses-fresh c = omega (arith, top_small (goal.at.offset_bounds-addresses-fresh c).Start)

pub bounds-addresses-fresh : goal.bounds-addresses-fresh
bounds-addresses-fresh c = (top_small (goal.at.bounds-addresses-fresh c).Start).0

pub swap-old-requires : goal.swap-old-requires
swap-old-requires c = (c.requires.2.place, c.requires.3, omega (arith, top_small (goal.at.swap-old-requires c).Start))

pub returns : goal.returns
returns c = frame-taken _ _ _ _ c.offer.ensures (c.swap-old.ensures.gives, (c.swap-old.ensures.slot, c.swap-old.ensures.hands)) c.put.ensures c.frame_of.ensures
