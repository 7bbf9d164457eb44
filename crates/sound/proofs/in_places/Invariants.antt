-- The loop of `sound::in_places`: with q queues done, the lists of the first 3 + q hands are marked.
use Rattle.std.proofs.Common.{◌≡◌, ℕ, ◌+◌, ◌≤◌, true, List}
use Rattle.pool.specs.Hands.{HAND-SEND}
use Rattle.rules.specs.declared.Account.{Account}
use Rattle.sound.specs.Marks.{mark_lists}
use Rattle.sound.proofs.in_places.Given as goal

-- the lists of the first n hands are marked
abbrev pub Done : Account → ℕ → List ℕ → Type 0
Done a n seen = mark_lists a n ≡ record { ok = true; seen = seen }

abbrev pub invariant-loop-q : goal.invariant-loop-q
invariant-loop-q l = (l.q ≤ l.account.sends) × Done l.account (HAND-SEND + l.q) l.seen
