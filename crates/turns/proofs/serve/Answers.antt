-- `turns::serve` meets its contract: what holds between two records holds after one more. Assumes nothing.
use Prim.Native.Nat.{◌-◌, ◌^◌, ◌≤◌, ◌<◌}
use mathlib.Core.Path.{◌≡◌, refl, sym, ◌∙◌}
use mathlib.Core.Bool.{false}
use lib.ListN.{length}
use native.Mathlib.Omega.{arith}
use Rattle.rules.specs.Handles.{handles}
use Rattle.tally.specs.Tally.{memory_as}
use Rattle.lines.specs.Lines.{LINE}
use Rattle.turns.specs.Turns.{Turn, turn_rule, rest_of, Ran, ran_as}
use Rattle.turns.proofs.Serving.{Same, same, same_more, no_more, after_more, one_more, shown-as, ends-run, goes_on-holds, bench-kept}
use Rattle.turns.proofs.serve.Goals as goal
use Rattle.turns.proofs.serve.Goals.{In-loop-end}

-- ---- a record is looked at only where no bad one has ended the run, and its line has room

module _ (c : In-loop-end) where
  goes : (c.loop-end.run.ended ≡ false) × (c.loop-end.run.count < 2 ^ 64 - 1) × (LINE ≤ length c.loop-end.out - c.loop-end.run.at)
  goes = goes_on-holds _ _ _ _ (sym c.goes_on.ensures ∙ c.loop-end-test.true)

pub loop-end-init : goal.loop-end-init
loop-end-init c =
    let p = c.requires in
    record {
      shown = no_more _ _ _ _;
      more = omega arith;
      onward = omega arith;
      held = p.0;
      gathered = p.2;
      room = refl;
      good = p.3;
      bench = p.4;
      kept = same _;
    }

pub put_line-requires : goal.put_line-requires
put_line-requires c = omega (arith, (goes (goal.at.put_line-requires c).In-loop-end).2, c.loop-end.invariant.gathered)

pub overflow_add-run-in-loop-end : goal.overflow_add-run-in-loop-end
overflow_add-run-in-loop-end c = omega (arith, (goes (goal.at.overflow_add-run-in-loop-end c).In-loop-end).1)

pub loop-end-preserved : goal.loop-end-preserved
loop-end-preserved c =
    let h = c.loop-end in
    let i = h.invariant in
    let going = goes (goal.at.loop-end-preserved c).In-loop-end in
    let end = c.in-Some.end in
    let now : Ran = ran_as h.run h.out h.rx h.tx (memory_as h.offsets h.lengths) in
    let t : Turn = turn_rule (rest_of h.run.from end c.args.buffer.now) c.args.addresses.now now.stand in
    let left = c.turn-line.ensures.left in
    let kept = c.turn-line.auto in
    let lists : Same (handles _ _ _ _) (handles h.pools h.ids h.froms h.sizes) =
    record { pools = kept.pools; ids = kept.ids; offsets = kept.froms; lengths = kept.sizes } in
    let ended = ends-run t.good t.line _ (rw c.turn-line.ensures.line at c.is_none.ensures) in
    let text = rw c.turn-line.ensures.line at c.put_line.ensures.text in
    record {
      shown = after_more _ _ _ _ now _ i.more refl i.shown (shown-as now end t ended text left ∙ one_more _ _ _ now going.0 c.in-Some.ensures.end);
      more = omega (arith, i.more);
      onward = omega (arith, i.onward, c.in-Some.ensures.bounds);
      held = omega (arith, c.in-Some.ensures.bounds);
      gathered = c.put_line.ensures.gathered;
      room = c.put_line.auto.out ∙ i.room;
      good = c.turn-line.ensures.keeps;
      bench = bench-kept kept.rx kept.tx kept.offsets kept.lengths lists i.bench;
      kept = same_more lists i.kept;
    }
