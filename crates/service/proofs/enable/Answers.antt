-- `service::enable` meets its contract: by the kind, at the queue that can be signalled. Assumes nothing.
use mathlib.Core.Path.{◌≡◌, ap, ◌∙◌}
use borrow.Author.Tests.{lt-ltb}
use lib.ListN.{get_or}
use Rattle.startup.specs.declared.Action.TheVariants.{Done}
use Rattle.startup.specs.Machine.{SIGNALLED}
use Rattle.service.specs.Actions.{msi_actions, msix_actions, guarded, enable_call}
use Rattle.service.proofs.enable.Goals as goal

pub returns-in-1 : goal.returns-in-1
unfolding enable_call
returns-in-1 c =
    let same : c.in-Some.at.queue ≡ c.args.queue = c.in-Some.ensures.some in
    let item = ap (λ q. get_or (msi_actions q c.args.rate c.args.value) c.args.made Done) same in
    simp (lt-ltb c.args.queue SIGNALLED (rw same at c.in-Some.at.low), c.in-1.is)
    (c.guard.ensures ∙ ap (guarded c.args.map) (c.msi.ensures ∙ item))

pub returns-in-2 : goal.returns-in-2
unfolding enable_call
returns-in-2 c =
    let same : c.in-Some.at.queue ≡ c.args.queue = c.in-Some.ensures.some in
    let item = ap (λ q. get_or (msix_actions q c.args.rate c.args.value) c.args.made Done) same in
    simp (lt-ltb c.args.queue SIGNALLED (rw same at c.in-Some.at.low), c.in-2.is)
    (c.guard-in-2.ensures ∙ ap (guarded c.args.map) (c.msix.ensures ∙ item))
