-- `rings::receive` meets its contract. The invariant is `Along`, and each way out of a turn one law of `Receives`. Assumes nothing.
use Prim.Native.Nat.{◌<◌}
use mathlib.Core.Path.{◌≡◌, refl, sym, ap, ◌∙◌}
use native.Mathlib.Omega.{arith}
use Rattle.rules.specs.Found.{Frame}
use Rattle.rules.specs.Handles.{handles}
use Rattle.rules.specs.Results.{found_as}
use Rattle.rules.specs.Receive.{Receiving, next}
use Rattle.rings.specs.Lent.{receiving_as}
use Rattle.rings.proofs.Receives.{along-start, along-asked, along-stopped, along-frame, along-room, some-free}
use Rattle.rings.proofs.receive.Goals as goal
use Rattle.rings.proofs.receive.Goals.{In-Ok}

-- the work at the loop's head, where a frame was found
abbrev here : In-Ok → Receiving
here a =
    receiving_as a.args.stack.now a.loop-count.left a.loop-count.hands a.loop-count.slots a.loop-count.index a.loop-count.ring
    (handles a.loop-count.pools a.loop-count.ids a.loop-count.offsets a.loop-count.lengths) a.loop-count.count

pub loop-count-init : goal.loop-count-init
loop-count-init c = along-start _ _ _ _ _ refl c.requires

-- ---- where a frame was found

module _ (c : In-Ok) where
  more : c.loop-count.count ≡ c.args.n → ⊥
  more = c.if-count-n.false

  frame_found : next c.args.size (here c) ≡ Frame c.in-Ok.len
  frame_found = sym c.look.ensures ∙ ap found_as c.in-Ok.is

  some : 0 < c.loop-count.left
  some = some-free c.loop-count.invariant more _ frame_found

pub take_frame-requires : goal.take_frame-requires
take_frame-requires c =
    let inv = c.loop-count.invariant in (
      inv.ranged.stacked,
      some (goal.at.take_frame-requires c).In-Ok,
      record { place = inv.ready.place; whole = inv.ready.whole },
      omega (arith, inv.ranged.slots-known c.loop-count.index inv.ready.place, inv.ranged.stacked.few),
      along-room inv (more (goal.at.take_frame-requires c).In-Ok) _ (frame_found (goal.at.take_frame-requires c).In-Ok),
    )

pub overflow_sub-left : goal.overflow_sub-left
overflow_sub-left c = some (goal.at.overflow_sub-left c).In-Ok

pub loop-count-preserved : goal.loop-count-preserved
loop-count-preserved c =
    rw c.take_frame.ensures
    (along-frame c.loop-count.invariant (more (goal.at.loop-count-preserved c).In-Ok) _ (frame_found (goal.at.loop-count-preserved c).In-Ok))

pub returns-then-count-n : goal.returns-then-count-n
returns-then-count-n c = along-asked c.loop-count.invariant c.if-count-n.true

pub returns-in-Err : goal.returns-in-Err
returns-in-Err c =
    along-stopped c.loop-count.invariant c.if-count-n.false _
    (sym c.look.ensures ∙ ap found_as c.in-Err.is)
