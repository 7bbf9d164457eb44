-- The ledger of a history, computed from the calls and their answers alone: how often answers gave an id to the application, and how often
-- the application gave it back, released or sent. It never looks at the account's recorded hands.
use Rattle.std.specs.Prelude.{ℕ, ◌+◌, take, eqb}
use Rattle.laws.specs.Occurs.{ind, occurs}
use Rattle.rules.specs.declared.Account.{Account}
use Rattle.rules.specs.Verdict.{Verdict}
use Rattle.rules.specs.Numbers.{on_verdict}
use Rattle.promises.specs.History.{Step, History}
use Rattle.promises.specs.History as h

-- once where the call is done and the id is this one
abbrev pub once_if_done : Verdict → ℕ → ℕ → ℕ
once_if_done v id x = on_verdict v (ind (eqb x id)) (λ why. 0)

-- how often a call's answer gives an id to the application
unfoldable pub gave : {a b : Account} → ℕ → Step a b → ℕ
gave x (h.counts r e) = 0
gave x (h.take len r e) = once_if_done r.verdict r.handle.id x
gave x (h.batch n len lists left r e) = occurs x (take r.count left.ids)
gave x (h.release handle r e) = 0
gave x (h.truncate handle len r e) = 0
gave x (h.clone handle memory left r e) = once_if_done r.verdict r.handle.id x
gave x (h.view handle memory part e) = 0
gave x (h.headroom handle asked memory part e) = 0
gave x (h.start q ring addresses left r e) = 0
gave x (h.receive q ring addresses n lists left filled r e) = occurs x (take r.count filled.ids)
gave x (h.send q ring addresses lists left r e) = 0

-- how often the application gives it back: released, or sent as far as the answer counts
unfoldable pub gave_back : {a b : Account} → ℕ → Step a b → ℕ
gave_back x (h.counts r e) = 0
gave_back x (h.take len r e) = 0
gave_back x (h.batch n len lists left r e) = 0
gave_back x (h.release handle r e) = once_if_done r.verdict handle.id x
gave_back x (h.truncate handle len r e) = 0
gave_back x (h.clone handle memory left r e) = 0
gave_back x (h.view handle memory part e) = 0
gave_back x (h.headroom handle asked memory part e) = 0
gave_back x (h.start q ring addresses left r e) = 0
gave_back x (h.receive q ring addresses n lists left filled r e) = 0
gave_back x (h.send q ring addresses lists left r e) = occurs x (take r.count lists.ids)

-- over a whole history
unfoldable pub given : {a : Account} → ℕ → History a → ℕ
given x (h.fresh pool entries size receives sends r e done) = 0
given x (h.call before s) = given x before + gave x s

unfoldable pub returned : {a : Account} → ℕ → History a → ℕ
returned x (h.fresh pool entries size receives sends r e done) = 0
returned x (h.call before s) = returned x before + gave_back x s

-- how many buffers the history's fresh account was given
unfoldable pub buffers : {a : Account} → History a → ℕ
buffers (h.fresh pool entries size receives sends r e done) = entries
buffers (h.call before s) = buffers before
