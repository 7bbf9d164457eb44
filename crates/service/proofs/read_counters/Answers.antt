-- `service::read_counters` meets its contract: the read of the register that stands at the place. Assumes nothing.
use mathlib.Core.Path.{◌≡◌, sym, ap, ◌∙◌}
use Prim.Native.Nat.{ℕ, ◌<◌}
use mathlib.Core.List.{List, [], ◌∷◌}
use lib.ListN.{get_or}
use Rattle.std.proofs.lemmas.List.{get_or-map}
use borrow.Author.Tests.{ltb-true}
use Rattle.card.specs.declared.Register.{Register}
use Rattle.card.specs.declared.Register.TheVariants.{GPRC, GPTC, GORCL, GORCH, GOTCL, GOTCH}
use Rattle.card.specs.Registers.{register_row}
use Rattle.startup.specs.declared.Action.TheVariants.{Read, Done}
use Rattle.service.specs.Actions.{plain, guarded, counter_actions, counters_call}
use Rattle.service.proofs.read_counters.Goals as goal

abbrev registers : List Register
registers = GPRC ∷ GPTC ∷ GORCL ∷ GORCH ∷ GOTCL ∷ GOTCH ∷ []

-- the list's action at a place reads the register that stands there
row_read : (made : ℕ) (r d : Register) → made < 6 → get_or registers made d ≡ r → Read (plain (register_row r)) ≡ get_or counter_actions made Done
row_read made r d h e = rw (← e) (sym (get_or-map (λ x. Read (plain (register_row x))) registers made d Done h))

pub returns-in-Some : goal.returns-in-Some
unfolding counters_call
returns-in-Some c =
    let stands : c.in-Some.field-0.now ≡ get_or registers c.args.made c.in-Some.field-0.now = c.in-Some.ensures.lookup.1 in
    let below : c.args.made < 6 = ltb-true _ _ (sym c.in-Some.ensures.lookup.0) in
    let action : c.read.result ≡ get_or counter_actions c.args.made Done = c.read.ensures ∙ row_read c.args.made _ _ below (sym stands) in
    c.guard.ensures ∙ ap (guarded c.args.map) action
