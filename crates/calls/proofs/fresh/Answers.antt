-- `calls::fresh` meets its contract: refused where a number is out of its range, and else opened. Assumes nothing.
use mathlib.Core.Path.{◌≡◌, refl, sym, ap, ◌∙◌}
use Rattle.rules.specs.Account.{opened}
use Rattle.rules.specs.Sound.{in_range}
use Rattle.rules.specs.Refusals.{size_given, fresh_verdict}
use Rattle.rules.specs.Packets.{fresh_call}
use Rattle.calls.proofs.fresh.Goals as goal
use Rattle.calls.proofs.fresh.Goals.{After-in_range}

-- what the test of the numbers said
in-range : (c : After-in_range)
    → in_range c.args.entries (size_given c.args.size) c.args.receives c.args.sends ≡ c.in_range.result
in-range c =
    sym
    (c.in_range.ensures
    ∙ ap (λ k. in_range c.args.entries k c.args.receives c.args.sends) c.size_given-given.ensures)

pub returns-then-not-in_range : goal.returns-then-not-in_range
unfolding fresh_verdict fresh_call
returns-then-not-in_range c = rw (in-range (goal.at.returns-then-not-in_range c).After-in_range ∙ c.if-not-in_range.true) refl

pub returns : goal.returns
unfolding fresh_verdict fresh_call
returns c =
    let size : opened c.args.pool c.args.entries c.size_given-given.result c.args.receives c.args.sends ≡ opened c.args.pool c.args.entries (size_given c.args.size) c.args.receives c.args.sends
    = ap (λ k. opened c.args.pool c.args.entries k c.args.receives c.args.sends) c.size_given-given.ensures
    in
    let made : c.«open».result ≡ opened c.args.pool c.args.entries (size_given c.args.size) c.args.receives c.args.sends = c.«open».ensures ∙ size in
    rw (in-range (goal.at.returns c).After-in_range ∙ c.if-not-in_range.false, made) refl
