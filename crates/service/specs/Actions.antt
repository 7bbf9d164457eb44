-- The register actions at run time, in the Rust's order: for each call the list of its actions, where v is the value last read.
use Rattle.std.specs.Prelude.{ℕ, Bool, List, [], ◌∷◌, map, get_or, eqb, ltb}
use Rattle.laws.specs.Test.{pick}
use Rattle.card.specs.Registers.{address, EICR, EIMS, EIMC, EIAC, EITR, IVAR, GPIE, FCTRL, RAL, RAH, LINKS, GPRC, GPTC, GORCL, GORCH, GOTCL, GOTCH}
use Rattle.card.specs.Masks.{IRQ-ALL, IRQ-QUEUES, FCTRL-PROMISC, GPIE-MSIX, changed, queue_bit, vector_clear, vector_set}
use Rattle.plan.specs.Sequence.{MSI, MSIX}
use Rattle.refusals.specs.declared.Refusal.TheVariants.{OutsideMap, NoInterrupt}
use Rattle.startup.specs.declared.Action.{Action}
use Rattle.startup.specs.declared.Action.TheVariants.{Read, Write, Pause, Done, Refused}
use Rattle.startup.specs.Machine.{SIGNALLED, in_map}
use Rattle.service.specs.Mac.{low_word, high_word}

-- ---- the lists

-- a register that no queue has
abbrev pub plain : ℕ → ℕ
plain row = address row 0

abbrev pub reads : List ℕ → List Action
reads rows = map (λ row. Read (plain row)) rows

-- the counters in the order in which they are read
abbrev pub counters : List ℕ
counters = GPRC ∷ GPTC ∷ GORCL ∷ GORCH ∷ GOTCL ∷ GOTCH ∷ []

-- read_stats, reset_stats
abbrev pub counter_actions : List Action
counter_actions = reads counters

-- get_link_speed
abbrev pub link_actions : List Action
link_actions = reads (LINKS ∷ [])

-- get_mac_addr
abbrev pub mac_actions : List Action
mac_actions = reads (RAL ∷ RAH ∷ [])

-- set_mac_addr
abbrev pub set_mac_actions : List ℕ → List Action
set_mac_actions mac = Write (plain RAL) (low_word mac) ∷ Write (plain RAH) (high_word mac) ∷ []

-- set_promisc
abbrev pub promisc_actions : Bool → ℕ → List Action
promisc_actions on v =
    Read (plain FCTRL)
    ∷ Write (plain FCTRL) (pick on (changed v 0 FCTRL-PROMISC) (changed v FCTRL-PROMISC 0))
    ∷ []

-- enable_msi_interrupt
abbrev pub msi_actions : ℕ → ℕ → ℕ → List Action
msi_actions queue rate v =
    Read (address IVAR queue)
    ∷ Write (address IVAR queue) (changed v (vector_clear 0 queue) (vector_set 0 queue 0))
    ∷ Write (plain EIAC) 0
    ∷ Write (address EITR queue) rate
    ∷ Write (plain EIMC) IRQ-ALL
    ∷ Read (plain EICR)
    ∷ Read (plain EIMS)
    ∷ Write (plain EIMS) (changed v 0 (queue_bit queue))
    ∷ []

-- enable_msix_interrupt
abbrev pub msix_actions : ℕ → ℕ → ℕ → List Action
msix_actions queue rate v =
    Read (plain GPIE)
    ∷ Write (plain GPIE) (changed v 0 GPIE-MSIX)
    ∷ Read (address IVAR queue)
    ∷ Write (address IVAR queue) (changed v (vector_clear 0 queue) (vector_set 0 queue queue))
    ∷ Write (plain EIAC) IRQ-QUEUES
    ∷ Write (address EITR queue) rate
    ∷ Read (plain EIMS)
    ∷ Write (plain EIMS) (changed v 0 (queue_bit queue))
    ∷ []

-- disable_interrupt
abbrev pub disable_actions : ℕ → ℕ → List Action
disable_actions queue v =
    Read (plain EIMS)
    ∷ Write (plain EIMS) (changed v (queue_bit queue) 0)
    ∷ Write (plain EIMC) (queue_bit queue)
    ∷ Read (plain EICR)
    ∷ []

-- ---- the calls

-- 11 in place of an action whose register the map does not hold
abbrev pub guarded : ℕ → Action → Action
guarded bytes (Read register) = pick (in_map bytes register) (Read register) (Refused (OutsideMap register))
guarded bytes (Write register x) = pick (in_map bytes register) (Write register x) (Refused (OutsideMap register))
guarded bytes (Pause ms) = Pause ms
guarded bytes Done = Done
guarded bytes (Refused why) = Refused why

-- the next of a list's actions, so many made; after the last comes Done
abbrev pub next : ℕ → List Action → ℕ → Action
next bytes actions made = guarded bytes (get_or actions made Done)

unfoldable pub counters_call : ℕ → ℕ → Action
counters_call bytes made = next bytes counter_actions made

unfoldable pub link_call : ℕ → ℕ → Action
link_call bytes made = next bytes link_actions made

unfoldable pub mac_call : ℕ → ℕ → Action
mac_call bytes made = next bytes mac_actions made

unfoldable pub set_mac_call : ℕ → List ℕ → ℕ → Action
set_mac_call bytes mac made = next bytes (set_mac_actions mac) made

unfoldable pub promisc_call : ℕ → Bool → ℕ → ℕ → Action
promisc_call bytes on made v = next bytes (promisc_actions on v) made

-- 12 for a queue above 15, or a kind that is neither MSI nor MSI-X
unfoldable pub enable_call : ℕ → ℕ → ℕ → ℕ → ℕ → ℕ → Action
enable_call bytes kind queue rate made v =
    pick (ltb queue SIGNALLED)
    (pick (eqb kind MSI) (next bytes (msi_actions queue rate v) made)
    (pick (eqb kind MSIX) (next bytes (msix_actions queue rate v) made) (Refused NoInterrupt)))
    (Refused NoInterrupt)

unfoldable pub disable_call : ℕ → ℕ → ℕ → ℕ → Action
disable_call bytes queue made v =
    pick (ltb queue SIGNALLED) (next bytes (disable_actions queue v) made) (Refused NoInterrupt)
