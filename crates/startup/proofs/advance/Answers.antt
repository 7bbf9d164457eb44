-- `startup::advance` meets its contract: the three ways of a step. Assumes nothing.
use mathlib.Core.Path.{sym, ap, ◌∙◌}
use native.Mathlib.Omega.{arith}
use Rattle.startup.specs.Machine.{over, here}
use Rattle.startup.proofs.Sound.{good-place}
use Rattle.startup.proofs.Ways.{named_or, step_kept, step-next, step-here}
use Rattle.startup.proofs.advance.Goals as goal

pub returns-then-state-ne0 : goal.returns-then-state-ne0
returns-then-state-ne0 c =
    rw (c.kept_refusal-why.ensures, c.unwrap_or.ensures, c.register_of.ensures, c.item_at-item.ensures, named_or (here c.args.state))
    (sym (step_kept c.args.state c.args.value c.if-state-ne0.true))

pub overflow_add-next : goal.overflow_add-next
overflow_add-next c = record { fits = omega (arith, good-place c.requires) }

pub returns-then-is_over : goal.returns-then-is_over
returns-then-is_over c =
    c.settle.ensures
    ∙ rw (c.answer_of.ensures, c.item_at-first.ensures)
    (sym (step-next _ _ c.if-state-ne0.false
    (ap (λ i. over i c.args.state.made c.args.value) (sym c.item_at-item.ensures) ∙ sym c.is_over.ensures ∙ c.if-is_over.true)))

pub returns : goal.returns
returns c =
    c.settle-2.ensures
    ∙ rw (c.answer_of-2.ensures, c.item_at-item.ensures)
    (sym (step-here _ _ c.if-state-ne0.false
    (ap (λ i. over i c.args.state.made c.args.value) (sym c.item_at-item.ensures) ∙ sym c.is_over.ensures ∙ c.if-is_over.false)))
