-- `stream::on_call` meets its contract: each record by its name, and its account stays sound. Assumes nothing.
use Prim.Native.Nat.{ℕ, ◌≤◌}
use mathlib.Core.Path.{refl, sym, ap}
use lib.ListN.{length}
use lib.Seq.{length-take-le}
use native.Mathlib.Omega.{arith}
use Rattle.rules.specs.Handles.{handles, Room}
use Rattle.rules.proofs.Facts.{bounds}
use Rattle.records.specs.Records.{MOST}
use Rattle.tally.specs.Tally.{Answer, TakeLeft}
use Rattle.tally.proofs.Keeps.{take-answer, release-answer}
use Rattle.stream.specs.Bench.{StartLeft, ReceiveLeft, SendLeft}
use Rattle.stream.proofs.Memory.{room-kept}
use Rattle.stream.proofs.Sized.{send-sized}
use Rattle.stream.proofs.Keeps.{start-answer, receive-answer, send-answer}
use Rattle.stream.proofs.on_call.Goals as goal
use Rattle.stream.proofs.on_call.Goals.{After-whole}

-- ---- before the call

module _ (c : After-whole) where
  -- there is an address for each entry
  few : c.args.account.now.entries ≤ length c.args.addresses.now
  few = omega (arith, bounds _ c.requires.0, c.requires.3.known)

  -- and room for as many handles as a record has
  room : {n : ℕ} → n ≤ MOST → Room n (handles c.args.pools.now c.args.ids.now c.args.froms.now c.args.sizes.now)
  room less = room-kept c.requires.3.room less refl refl refl refl

pub slice_bounds-known-end : goal.slice_bounds-known-end
slice_bounds-known-end c = sym (length-take-le _ _ (few (goal.at.slice_bounds-known-end c).After-whole))

-- ---- each call

pub receive-requires : goal.receive-requires
receive-requires c = (c.requires.0, c.requires.3.offsets, c.requires.3.lengths, room (goal.at.receive-requires c).After-whole (omega arith))

pub send-requires : goal.send-requires
send-requires c =
    let s = (goal.at.send-requires c).After-whole in
    let size = send-sized _ _ _ (rw c.in-Send.is at c.requires.1) in
    (c.requires.0, c.requires.3.tx, omega (arith, size), length-take-le _ _ (few s), c.requires.3.offsets, c.requires.3.lengths, room s (omega (arith, size, c.requires.2)))

-- ---- what each answers, and that the account that each leaves is sound

pub returns-in-Start : goal.returns-in-Start
returns-in-Start c =
    record {
      answer = rw (c.in-Start.is, ← c.start.ensures);
      keeps = rw (ap (λ (o : StartLeft). o.answer.account) c.start.ensures) (start-answer c.whole.ensures c.requires.0 _ _);
    }

pub returns-in-Take : goal.returns-in-Take
returns-in-Take c =
    record {
      answer = rw (c.in-Take.is, ← c.take.ensures);
      keeps = rw (ap (λ (o : TakeLeft). o.answer.account) c.take.ensures) (take-answer c.whole.ensures c.requires.0 _ _);
    }

pub returns-in-Release : goal.returns-in-Release
returns-in-Release c =
    record {
      answer = rw (c.in-Release.is, ← c.release.ensures);
      keeps = rw (ap (λ (o : Answer). o.account) c.release.ensures) (release-answer c.whole.ensures c.requires.0 _ _);
    }

pub returns-in-Receive : goal.returns-in-Receive
returns-in-Receive c =
    record {
      answer = rw (c.in-Receive.is, ← c.receive.ensures);
      keeps = rw (ap (λ (o : ReceiveLeft). o.answer.account) c.receive.ensures) (receive-answer c.whole.ensures c.requires.0 _ _ _ _);
    }

pub returns-in-Send : goal.returns-in-Send
returns-in-Send c =
    record {
      answer = rw (c.in-Send.is, ← c.send.ensures);
      keeps = rw (ap (λ (o : SendLeft). o.answer.account) c.send.ensures) (send-answer c.whole.ensures c.requires.0 _ _ _ _);
    }
