-- A run: the host makes each action and feeds the next step the value last read, whatever it is. `stepped` is what `startup::step` answers.
use Rattle.std.specs.Prelude.{ℕ, zero, suc, ◌+◌, ◌-◌, ◌*◌, ◌≡◌, Bool, true, false, List, [], ◌∷◌, drop}
use Rattle.plan.specs.Sequence.{MSI, MSIX, by_kind, sequence}
use Rattle.plan.specs.declared.Setup.{Setup}
use Rattle.plan.specs.declared.Item.{Item}
use Rattle.plan.specs.declared.Item.TheVariants as item
use Rattle.startup.specs.declared.Action.{Action}
use Rattle.startup.specs.declared.Action.TheVariants.{Read, Write, Pause, Done, Refused}
use Rattle.startup.specs.declared.State.{State}
use Rattle.startup.specs.Machine.{WAIT-MS, all_set, all_clear, link_up, cost, start, setup_ok, stepped}

-- the state after steps that are fed the values of a list
abbrev pub after : State → List ℕ → State
after s [] = s
after s (v ∷ vs) = after (stepped s v).state vs

-- the actions of n steps that are fed v k, v (k + 1) and so on
abbrev pub actions : (ℕ → ℕ) → ℕ → ℕ → State → List Action
actions v k zero s = []
actions v k (suc n) s = (stepped s (v k)).action ∷ actions v (suc k) n (stepped s (v k)).state

-- the run is over: done or refused
abbrev pub ends : Action → Bool
ends (Read register) = false
ends (Write register x) = false
ends (Pause ms) = false
ends Done = true
ends (Refused why) = true

-- one of the next n steps, fed v k, v (k + 1) and so on, ends the run
pub data Ends (v : ℕ → ℕ) : ℕ → ℕ → State → Type 0 where
  now : {k n : ℕ} {s : State} → ends (stepped s (v k)).action ≡ true → Ends v k (suc n) s
  later : {k n : ℕ} {s : State} → Ends v (suc k) n (stepped s (v k)).state → Ends v k (suc n) s

-- ---- the most actions

-- of a list of items
abbrev pub total : ℕ → List Item → ℕ
total w [] = 0
total w (i ∷ is) = cost w i + total w is

-- of what a state has left
abbrev pub left : State → ℕ
left s = total s.setup.tries (drop s.place (sequence s.setup)) - s.made

-- of a wait: w reads, and w - 1 pauses between them
abbrev pub wait_actions : ℕ → ℕ
wait_actions w = 2 * w - 1

-- the receive queues that are signalled
abbrev pub signalled : Setup → ℕ
signalled s = by_kind MSI s.interrupts s.receives + by_kind MSIX s.interrupts s.receives

-- of a start-up, in W and the queue counts
unfoldable pub bound : Setup → ℕ
bound s =
    263 + 3 * wait_actions s.tries
    + s.receives * (15 + wait_actions s.tries)
    + s.sends * (9 + wait_actions s.tries)
    + 8 * signalled s

-- ---- a wait

-- what is waited for was read
abbrev pub ready : Item → ℕ → Bool
ready item.End v = true
ready (item.Write register x) v = true
ready (item.Read register) v = true
ready (item.Change register clear set) v = true
ready (item.WaitSet register mask) v = all_set v mask
ready (item.WaitClear register mask) v = all_clear v mask
ready (item.Pause ms) v = true
ready (item.Link register) v = link_up v

-- n times a pause and a read
abbrev pub turns : ℕ → ℕ → List Action
turns zero register = []
turns (suc n) register = Pause WAIT-MS ∷ Read register ∷ turns n register

-- ---- the states that are reached

-- a state that some run from a set-up whose numbers pass comes to
pub data Reached : State → Type 0 where
  begins : {s : Setup} → setup_ok s ≡ true → Reached (start s)
  steps : {s : State} → Reached s → (v : ℕ) → Reached (stepped s v).state
