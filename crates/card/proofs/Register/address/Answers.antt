-- `Register::address` meets its contract: each way by the tests that led there. Assumes nothing.
use borrow.Author.Tests.{lt-ltb, le-ltb}
use Rattle.card.specs.Registers.{address}
use Rattle.card.proofs.Rows.{apart}
use Rattle.card.proofs.Register.address.Goals as goal
use Rattle.card.proofs.Register.address.Goals.{in_default-via-in-SRRCTL+else-queue-ge-LOW_QUEUES, in_default-via-in-DCA_RXCTRL+else-queue-ge-LOW_QUEUES-2, in_default-via-in_default}

pub returns-in-IVAR : goal.returns-in-IVAR
unfolding address
returns-in-IVAR c = rw c.in-IVAR.is (rw c.in-IVAR.is at c.entry.ensures)

pub returns-in-SRRCTL : goal.returns-in-SRRCTL
unfolding address
returns-in-SRRCTL c = rw c.in-SRRCTL.is (simp (le-ltb _ _ c.if-queue-ge-LOW_QUEUES.true) c.entry-in-SRRCTL.ensures)

pub returns-in-DCA_RXCTRL : goal.returns-in-DCA_RXCTRL
unfolding address
returns-in-DCA_RXCTRL c = rw c.in-DCA_RXCTRL.is (simp (le-ltb _ _ c.if-queue-ge-LOW_QUEUES-2.true) c.entry-in-DCA_RXCTRL.ensures)

pub returns-in_default : goal.returns-in_default
unfolding address
returns-in_default c =
    elim c.in_default.branch [
      | in_default-via-in-SRRCTL+else-queue-ge-LOW_QUEUES w ↦ rw w.in-SRRCTL.is (simp (lt-ltb _ _ w.if-queue-ge-LOW_QUEUES.false) (rw w.in-SRRCTL.is at c.entry-in_default.ensures))
      | in_default-via-in-DCA_RXCTRL+else-queue-ge-LOW_QUEUES-2 w ↦ rw w.in-DCA_RXCTRL.is (simp (lt-ltb _ _ w.if-queue-ge-LOW_QUEUES-2.false) (rw w.in-DCA_RXCTRL.is at c.entry-in_default.ensures))
      | in_default-via-in_default w ↦ simp (apart _ _ w.in_default.not-IVAR, apart _ _ w.in_default.not-SRRCTL, apart _ _ w.in_default.not-DCA_RXCTRL) c.entry-in_default.ensures
    ]
