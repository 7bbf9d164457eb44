-- `sound::mark_queue` meets its contract: the queue's ids stand in one piece of its ring, or in two. Assumes nothing.
use Rattle.std.proofs.Common.{◌≡◌, ◌+◌, ◌*◌, ◌-◌, length, rules, arith, ◌∙◌, get_or}
use Rattle.limits.specs.Limits.{SENDS, SLOTS}
use Rattle.sound.proofs.Round.{one_piece, two_pieces, append_more, append-fails}
use Rattle.sound.proofs.mark_queue.Goals as goal
use Rattle.sound.proofs.mark_queue.Goals.{Start}

module _ (c : Start) where
  size : length c.args.account.now.sent ≡ SENDS * SLOTS
  size = search rules

  whole : (c.args.q + 1) * SLOTS - c.args.q * SLOTS ≡ SLOTS
  whole = omega arith

pub returns-then-first-end : goal.returns-then-first-end
returns-then-first-end c =
    let a = c.args.account.now in
    let slots = one_piece a.sent c.args.q c.requires.0 (size (goal.at.returns-then-first-end c).Start) (get_or a.clean c.args.q 0) (get_or a.tx c.args.q 0) c.if-first-end.true c.requires.1.tx-below in
    rw slots (rw (whole (goal.at.returns-then-first-end c).Start) at c.mark_all.ensures)

pub returns-then-mark_all : goal.returns-then-mark_all
returns-then-mark_all c =
    let a = c.args.account.now in
    let places = goal.at.returns-then-mark_all c in
    let slots = two_pieces a.sent c.args.q c.requires.0 (size places.Start) (get_or a.clean c.args.q 0) (get_or a.tx c.args.q 0) (omega arith) c.requires.1.clean-below in
    rw slots
    (rw (whole places.Start) at c.mark_all-then-mark_all.ensures
    ∙ append_more _ _ _ _ _ _ _ _ (rw (whole places.Start) at c.mark_all-2.ensures) c.if-mark_all.true)

pub returns-else-mark_all : goal.returns-else-mark_all
returns-else-mark_all c =
    let a = c.args.account.now in
    let places = goal.at.returns-else-mark_all c in
    let slots = two_pieces a.sent c.args.q c.requires.0 (size places.Start) (get_or a.clean c.args.q 0) (get_or a.tx c.args.q 0) (omega arith) c.requires.1.clean-below in
    rw slots (append-fails _ _ _ _ _ _ _ _ (rw (whole places.Start) at c.mark_all-2.ensures) c.if-mark_all.false)
