-- `desk::put_cut` meets its contract: the tests in order. Assumes nothing.
use Rattle.std.proofs.Common.{rules, length, sym, ◌∙◌, arith, eqb-true, le-ltb, lt-ltb}
use Rattle.std.proofs.lemmas.Bool.{eqb-false}
use Rattle.desk.specs.Desk.{is_cut}
use Rattle.desk.proofs.put_cut.Goals as goal
use Rattle.desk.proofs.put_cut.Goals.{then-ended-via-then-ended, then-ended-via-else-ended+then-is_empty, then-ended-via-else-ended+else-is_empty+then-is_some}

pub returns-then-ended : goal.returns-then-ended
unfolding is_cut
returns-then-ended c =
    let all = length c.args.unread.now in
    elim c.then-ended.branch [
      | then-ended-via-then-ended w ↦ (omega arith, rw w.if-ended.true)
      | then-ended-via-else-ended+then-is_empty w ↦
          (omega arith, rw (w.if-ended.false, le-ltb 0 all (omega (arith, eqb-true all 0 (sym w.is_empty.ensures ∙ w.if-is_empty.true)))))
      | then-ended-via-else-ended+else-is_empty+then-is_some w ↦
          let some = eqb-false all 0 (sym w.is_empty.ensures ∙ w.if-is_empty.false) in
          (omega arith, rw (w.if-ended.false, lt-ltb 0 all (omega (arith, some)), ← w.end_of.ensures.end, sym w.is_some.ensures ∙ w.if-is_some.true))
    ]

pub returns : goal.returns
unfolding is_cut
returns c =
    let all = length c.args.unread.now in
    let some = eqb-false all 0 (sym c.is_empty.ensures ∙ c.if-is_empty.false) in (
      search rules,
      rw (c.if-ended.false, lt-ltb 0 all (omega (arith, some)), ← c.end_of.ensures.end, sym c.is_some.ensures ∙ c.if-is_some.false) (search rules),
    )
