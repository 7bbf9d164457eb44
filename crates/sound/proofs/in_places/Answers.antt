-- `sound::in_places` meets its contract: the lists are marked hand after hand, the application's being empty. The loop's invariant: with q
-- queues done, the lists of the first 3 + q hands are marked. Assumes nothing.
use Rattle.std.proofs.Common.{◌≡◌, ℕ, ◌+◌, ◌≤◌, Bool, true, false, List, [], take, replicate, refl, sym, ap, ◌∙◌, arith}
use Rattle.limits.specs.Limits.{ENTRIES}
use Rattle.pool.specs.Hands.{HAND-FREE, HAND-RECEIVE, HAND-OUT, HAND-SEND}
use Rattle.rules.specs.declared.Account.{Account}
use Rattle.rules.specs.Account.{list_of}
use Rattle.rules.specs.Sound.{InRange, hands}
use Rattle.rules.proofs.Lists.{list-free, list-receive, list-out, list-send}
use Rattle.rules.proofs.Sound.{in-range-means, queues-mean}
use Rattle.sound.specs.Marks.{mark_all, mark_lists, in_places, Numbered}
use Rattle.sound.proofs.Marks.{lists-next, lists-fails}
use Rattle.sound.proofs.in_places.Goals as goal
use Rattle.sound.proofs.in_places.Invariants.{Done}
use Rattle.sound.proofs.in_places.Goals.{Joined-else-account, After-mark_queue, else-account-via-else-account, else-account-via-then-account+else-not-mark_all-2}

-- what a call that marks the next list says: all goes well, or the account's ids are not in their places
module _ (a : Account) (n : ℕ) (says : Bool) (seen : List ℕ) (e : mark_lists a n ≡ record { ok = says; seen = seen }) where
  well : says ≡ true → Done a n seen
  well t = rw t at e

  wrong : n ≤ hands a → says ≡ false → false ≡ in_places a
  wrong h f = sym (lists-fails a n h (rw f at (ap (λ m. m.ok) e)))

numbers : (a : Account) → Numbered a → InRange a.entries a.size a.receives a.sends
numbers a m = in-range-means a.entries a.size a.receives a.sends m.numbers

-- ---- the free stack

pub stacked-requires : goal.stacked-requires
stacked-requires c = omega (arith, c.requires.free-count, (numbers c.args.account.now c.requires).few-entries)

pub mark_all-requires : goal.mark_all-requires
mark_all-requires c = (numbers c.args.account.now c.requires).few-entries

-- what the call that marks the free stack says
free-marked : (a : Account) {says : Bool} {seen : List ℕ}
    → record { ok = says; seen = seen } ≡ mark_all a.entries a.hands HAND-FREE (take a.free.depth a.free.ids) (replicate ENTRIES 0)
    → mark_lists a HAND-RECEIVE ≡ record { ok = says; seen = seen }
unfolding mark_lists
free-marked a e = lists-next a HAND-FREE _ _ _ (list-free a) refl e

pub returns-then-not-mark_all : goal.returns-then-not-mark_all
returns-then-not-mark_all c =
    wrong _ _ _ _ (free-marked c.args.account.now (rw c.stacked.ensures at c.mark_all.ensures)) (omega arith) c.if-not-mark_all.true

-- ---- the receive ring

pub mark_all-requires-then-account : goal.mark_all-requires-then-account
mark_all-requires-then-account c = (numbers c.args.account.now c.requires).few-entries

-- a ring that has started is marked whole, and any other has no list
module _ (a : Account) where
  ring-on : a.started ≡ true → list_of a HAND-RECEIVE ≡ a.slots
  ring-on on = list-receive a ∙ rw on refl

  ring-off : a.started ≡ false → list_of a HAND-RECEIVE ≡ []
  ring-off off = list-receive a ∙ rw off

-- a list that is empty changes no mark
none-marked : (a : Account) (s : List ℕ) (hand : ℕ) → list_of a hand ≡ [] → Done a hand s → Done a (hand + 1) s
unfolding mark_all
none-marked a s hand empty d = lists-next a hand [] s _ empty d refl

pub returns-then-not-mark_all-2 : goal.returns-then-not-mark_all-2
returns-then-not-mark_all-2 c =
    let a = c.args.account.now in
    wrong _ _ _ _
    (lists-next a HAND-RECEIVE _ _ _ (ring-on a c.if-account.true)
    (well _ _ _ _ (free-marked a (rw c.stacked.ensures at c.mark_all.ensures)) c.if-not-mark_all.false) c.mark_all-then-account.ensures)
    (omega arith) c.if-not-mark_all-2.true

-- started or not, and the application has no list
receive-done : (c : Joined-else-account) → Done c.args.account.now HAND-SEND c.else-account.seen
receive-done c =
    let a = c.args.account.now in
    let free : Done a HAND-RECEIVE c.mark_all.new.seen = well _ _ _ _ (free-marked a (rw c.stacked.ensures at c.mark_all.ensures)) c.if-not-mark_all.false in
    none-marked a c.else-account.seen HAND-OUT (list-out a)
    (elim c.else-account.branch [
      | else-account-via-then-account+else-not-mark_all-2 w ↦ rw w.seen-is (well _ _ _ _ (lists-next a HAND-RECEIVE _ _ _ (ring-on a w.if-account.true) free w.mark_all-then-account.ensures) w.if-not-mark_all-2.false)
      | else-account-via-else-account w ↦ rw w.seen-is (none-marked a _ HAND-RECEIVE (ring-off a w.if-account.false) free)
    ])

-- ---- the queues

pub loop-q-init : goal.loop-q-init
loop-q-init c = (omega arith, receive-done (goal.at.loop-q-init c).Joined-else-account)

pub mark_queue-requires : goal.mark_queue-requires
mark_queue-requires c =
    let a = c.args.account.now in
    let n = numbers a c.requires in
    (omega (arith, n.few-sends), queues-mean _ _ _ c.requires.queues c.loop-q.q c.loop-q-test.true, n.few-entries)

-- the next queue's list is marked
queue-marked : (c : After-mark_queue) → mark_lists c.args.account.now (HAND-SEND + (c.loop-q.q + 1)) ≡ record { ok = c.mark_queue.result; seen = c.mark_queue.new.seen }
queue-marked c =
    let a = c.args.account.now in
    let one : HAND-SEND + (c.loop-q.q + 1) ≡ HAND-SEND + c.loop-q.q + 1 = omega arith in
    rw one (lists-next a (HAND-SEND + c.loop-q.q) _ _ _ (list-send a c.loop-q.q c.loop-q-test.true) c.loop-q.invariant.1 c.mark_queue.ensures)

pub returns-then-not-mark_queue : goal.returns-then-not-mark_queue
returns-then-not-mark_queue c =
    wrong _ _ _ _ (queue-marked (goal.at.returns-then-not-mark_queue c).After-mark_queue) (omega arith) c.if-not-mark_queue.true

pub loop-q-preserved : goal.loop-q-preserved
loop-q-preserved c = (omega arith, well _ _ _ _ (queue-marked (goal.at.loop-q-preserved c).After-mark_queue) c.if-not-mark_queue.false)

pub all_settled-requires : goal.all_settled-requires
all_settled-requires c = (numbers c.args.account.now c.requires).few-entries

pub returns : goal.returns
unfolding in_places
returns c =
    let a = c.args.account.now in
    let all : c.loop-q.q ≡ a.sends = omega arith in
    let done : Done a (hands a) c.loop-q.seen = rw all at c.loop-q.invariant.1 in
    rw done c.all_settled.ensures
