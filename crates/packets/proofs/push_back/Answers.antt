-- `packets::push_back` meets its contract: the stack has room for an id that is out, and what the push gave is the account's stack. Assumes nothing.
use mathlib.Core.Path.{refl}
use native.Mathlib.Omega.{arith}
use borrow.Author.Rules.{rules}
use Rattle.rules.specs.Sound.{Full}
use Rattle.rules.specs.Packets.{released}
use Rattle.rules.proofs.Facts.{bounds, room_back}
use Rattle.rules.proofs.Sound.{good-means}
use Rattle.packets.proofs.push_back.Goals as goal

pub returns : goal.returns
unfolding released
returns c = rw c.push-account.ensures refl

pub push-account-requires : goal.push-account-requires
push-account-requires c stack =
    let full : Full c.args.account.now = record { stack = stack; hands = search rules; slots = search rules; sent = search rules; clean = search rules; tx = search rules } in
    let good = good-means _ _ c.requires.1 in
    omega (arith, bounds _ c.requires.0, room_back _ c.requires.0 full _ good.known good.out)

pub bounds-account-handle : goal.bounds-account-handle
bounds-account-handle c = omega (arith, bounds _ c.requires.0, good-means _ _ c.requires.1)
