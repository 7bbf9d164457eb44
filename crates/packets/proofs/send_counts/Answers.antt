-- `packets::send_counts` meets its contract: the closure counts each queue, and the array has at each place what it gave there. Assumes nothing.
use Prim.Native.Nat.{ℕ, zero, suc, ◌+◌, ◌<◌}
use mathlib.Core.Path.{◌≡◌, sym, ap, ◌∙◌}
use mathlib.Core.List.{map}
use lib.ListN.{get_or, length-map}
use lib.Seq.{ext_get_or}
use lib.Dec.{ltb}
use native.Mathlib.Omega.{arith}
use borrow.Author.Rules.{rules}
use Rattle.std.proofs.Common.{tests}
use Rattle.limits.specs.Limits.{SENDS}
use Rattle.laws.specs.Test.{pick}
use Rattle.laws.specs.Occurs.{up_from}
use Rattle.laws.proofs.Occurs.{length-up_from}
use Rattle.rules.specs.Account.{waiting}
use Rattle.rules.specs.Packets.{counts_of}
use Rattle.rules.proofs.Sound.{queues-mean}
use Rattle.packets.proofs.Made.{serves, made_at}
use Rattle.packets.proofs.send_counts.Goals as goal

-- what f makes of the numbers from a first one up, at a place
mapped_at : (f : ℕ → ℕ) (first n i : ℕ) → i < n → get_or (map f (up_from first n)) i 0 ≡ f (first + i)
unfolding up_from
mapped_at f first zero i h = absurd (omega arith)
mapped_at f first (suc n) zero h = let e : first ≡ first + 0 = omega arith in ap f e
mapped_at f first (suc n) (suc i) h =
    let e : first + 1 + i ≡ first + suc i = omega arith in mapped_at f (first + 1) n i (omega arith) ∙ ap f e

pub from_fn-requires : goal.from_fn-requires
from_fn-requires c = (omega arith, serves (λ x q r. search rules) (λ x below. let few = queues-mean _ _ _ c.requires x in search rules))

pub returns : goal.returns
returns c =
    let made = c.from_fn.ensures.items in
    ext_get_or 0 c.from_fn.result (counts_of c.args.sends c.args.clean.now c.args.tx.now) (made.long ∙ sym (length-map (up_from 0 SENDS) _ ∙ length-up_from 0 SENDS))
    (λ k h. made_at _ _ count SENDS (λ i y q l w. search (rules, tests)) c.from_fn.result made k 0 (omega (arith, h, made.long)) ∙ sym (at k (omega (arith, h, made.long))))
  where
    count : ℕ → ℕ
    count q = pick (ltb q c.args.sends) (waiting (get_or c.args.tx.now q 0) (get_or c.args.clean.now q 0)) 0

    at : (k : ℕ) → k < SENDS → get_or (counts_of c.args.sends c.args.clean.now c.args.tx.now) k 0 ≡ count k
    at k h = let none : 0 + k ≡ k = omega arith in rw none at (mapped_at count 0 SENDS k h)
