-- The sequence's templates in the Rust's order: a list for each part under the datasheet's section that asks for it, and the list of parts.
-- To be held beside reset_and_init; a part that a queue loop makes is written once.
use Rattle.std.specs.Prelude.{ℕ, ◌-◌, List, [], ◌∷◌, ◌++◌, map, length, get_or}
use Rattle.limits.specs.Limits.{SLOTS, RING-BYTES}
use Rattle.card.specs.declared.Register.TheVariants.{EIMS, EIMC, EICR, CTRL, RAL, RAH, EEC, RDRXCTL, AUTOC, GPRC, GPTC, GORCL, GORCH, GOTCL, GOTCH, RXCTRL, RXPBSIZE, HLREG0, FCTRL, SRRCTL, RDBAL, RDBAH, RDLEN, RDH, RDT, CTRL_EXT, DCA_RXCTRL, TXPBSIZE, DTXMXSZRQ, RTTDCS, TDBAL, TDBAH, TDLEN, TXDCTL, DMATXCTL, RXDCTL, TDH, TDT, IVAR, EIAC, EITR, GPIE, LINKS}
use Rattle.card.specs.Registers.{register_row}
use Rattle.card.specs.Masks.{IRQ-ALL, CTRL-RST, EEC-ARD, RDRXCTL-DMAIDONE, AUTOC-LMS, AUTOC-LMS-10G-SERIAL, AUTOC-10G, AUTOC-10G-XAUI, AUTOC-RESTART, RXCTRL-RXEN, RXPBSIZE-128KB, HLREG0-RXCRCSTRP, RDRXCTL-CRCSTRIP, RDRXCTL-RSCFRSTSIZE, RDRXCTL-RSC, FCTRL-BAM, SRRCTL-DESCTYPE, SRRCTL-ONEBUF, SRRCTL-DROP, CTRL-EXT-NS-DIS, DCA-RXCTRL-12, FCTRL-PROMISC, HLREG0-SEND, TXPBSIZE-40KB, DTXMXSZRQ-MOST, RTTDCS-ARBDIS, TXDCTL-THRESHOLDS, TXDCTL-USUAL, DMATXCTL-ON, RXDCTL-ENABLE, TXDCTL-ENABLE, GPIE-MSIX, IRQ-QUEUES}
use Rattle.parts.specs.declared.Part.{Part}
use Rattle.parts.specs.declared.Value.TheVariants.{Is, FirstOnly, ReceiveLow, ReceiveHigh, SendLow, SendHigh, Rate, QueueBit, VectorClear, VectorZero, VectorQueue}
use Rattle.parts.specs.declared.Template.{Template}
use Rattle.parts.specs.declared.Template.TheVariants.{Write, Read, Change, WaitSet, WaitClear, Pause, Link}
use Rattle.parts.specs.declared.Times.{Times}
use Rattle.parts.specs.declared.Times.TheVariants.{Once, Buffer, Receive, Send, MsiQueue, MsixQueue}

-- the tail of a full ring: its last slot
abbrev pub LAST-SLOT : ℕ
LAST-SLOT = SLOTS - 1

-- 4.6.3.1: interrupts off (disable_interrupts, clear_interrupts)
abbrev pub disable_interrupts : List Template
disable_interrupts =
    Write EIMS (Is 0) ∷
    Write EIMC (Is IRQ-ALL) ∷
    Read EICR ∷
    []

-- 4.6.3.2: the reset, and 10 ms after it
abbrev pub reset : List Template
reset =
    Write CTRL (Is CTRL-RST) ∷
    WaitClear CTRL CTRL-RST ∷
    Pause 10 ∷
    []

-- 4.6.3: the MAC address is read (get_mac_addr), the EEPROM was read, DMA is initialized
abbrev pub ready : List Template
ready =
    Read RAL ∷
    Read RAH ∷
    WaitSet EEC EEC-ARD ∷
    WaitSet RDRXCTL RDRXCTL-DMAIDONE ∷
    []

-- 4.6.4: 10G serial, XAUI, and a new negotiation (init_link)
abbrev pub init_link : List Template
init_link =
    Change AUTOC (Is AUTOC-LMS) (Is AUTOC-LMS-10G-SERIAL) ∷
    Change AUTOC (Is AUTOC-10G) (Is AUTOC-10G-XAUI) ∷
    Change AUTOC (Is 0) (Is AUTOC-RESTART) ∷
    []

-- 4.6.5: the statistics are cleared by reading them (reset_stats)
abbrev pub reset_stats : List Template
reset_stats =
    Read GPRC ∷
    Read GPTC ∷
    Read GORCL ∷
    Read GORCH ∷
    Read GOTCL ∷
    Read GOTCH ∷
    []

-- 4.6.7: no receiving meanwhile (init_rx, down to receive_on)
abbrev pub receive_off : List Template
receive_off =
    Change RXCTRL (Is RXCTRL-RXEN) (Is 0) ∷
    []

-- 4.6.11.3.4: all traffic to the first packet buffer
abbrev pub receive_buffers : List Template
receive_buffers =
    Write RXPBSIZE (FirstOnly RXPBSIZE-128KB) ∷
    []

-- 4.6.7, 8.2.3.8: CRC stripped, RSC's fields as asked, broadcasts taken
abbrev pub receive_offload : List Template
receive_offload =
    Change HLREG0 (Is 0) (Is HLREG0-RXCRCSTRP) ∷
    Change RDRXCTL (Is 0) (Is RDRXCTL-CRCSTRIP) ∷
    Change RDRXCTL (Is RDRXCTL-RSCFRSTSIZE) (Is 0) ∷
    Change RDRXCTL (Is RDRXCTL-RSCFRSTSIZE) (Is RDRXCTL-RSC) ∷
    Change FCTRL (Is 0) (Is FCTRL-BAM) ∷
    []

-- 4.6.7.1, 7.1.9: a receive queue, its ring still empty
abbrev pub receive_queue : List Template
receive_queue =
    Change SRRCTL (Is SRRCTL-DESCTYPE) (Is SRRCTL-ONEBUF) ∷
    Change SRRCTL (Is 0) (Is SRRCTL-DROP) ∷
    Write RDBAL ReceiveLow ∷
    Write RDBAH ReceiveHigh ∷
    Write RDLEN (Is RING-BYTES) ∷
    Write RDH (Is 0) ∷
    Write RDT (Is 0) ∷
    []

-- 4.6.7, its last sentence: no snoop disabled
abbrev pub receive_snoop : List Template
receive_snoop =
    Change CTRL_EXT (Is 0) (Is CTRL-EXT-NS-DIS) ∷
    []

-- 4.6.7: a bit of DCA_RXCTRL off for each queue
abbrev pub receive_dca : List Template
receive_dca =
    Change DCA_RXCTRL (Is DCA-RXCTRL-12) (Is 0) ∷
    []

-- 8.2.3.7, 4.6.7: every frame is taken (set_promisc), and receiving is on
abbrev pub receive_on : List Template
receive_on =
    Change FCTRL (Is 0) (Is FCTRL-PROMISC) ∷
    Change RXCTRL (Is 0) (Is RXCTRL-RXEN) ∷
    []

-- 4.6.8: CRC and padding when sending (init_tx, down to send_on)
abbrev pub send_offload : List Template
send_offload =
    Change HLREG0 (Is 0) (Is HLREG0-SEND) ∷
    []

-- 4.6.11.3.4: 40 KB to the first packet buffer, none to the others
abbrev pub send_buffers : List Template
send_buffers =
    Write TXPBSIZE (FirstOnly TXPBSIZE-40KB) ∷
    []

-- 4.6.11.3.4: without DCB and virtualization
abbrev pub send_arbiter : List Template
send_arbiter =
    Write DTXMXSZRQ (Is DTXMXSZRQ-MOST) ∷
    Change RTTDCS (Is RTTDCS-ARBDIS) (Is 0) ∷
    []

-- 4.6.8.1, 7.1.9, 7.2.3.4.1: a send queue's ring and its thresholds
abbrev pub send_queue : List Template
send_queue =
    Write TDBAL SendLow ∷
    Write TDBAH SendHigh ∷
    Write TDLEN (Is RING-BYTES) ∷
    Change TXDCTL (Is TXDCTL-THRESHOLDS) (Is TXDCTL-USUAL) ∷
    []

-- 4.6.8: sending is on
abbrev pub send_on : List Template
send_on =
    Write DMATXCTL (Is DMATXCTL-ON) ∷
    []

-- 4.6.7.1: a receive queue starts with a full ring (start_rx_queue)
abbrev pub start_receive_queue : List Template
start_receive_queue =
    Change RXDCTL (Is 0) (Is RXDCTL-ENABLE) ∷
    WaitSet RXDCTL RXDCTL-ENABLE ∷
    Write RDH (Is 0) ∷
    Write RDT (Is LAST-SLOT) ∷
    []

-- 4.6.8.1: a send queue starts with an empty ring (start_tx_queue)
abbrev pub start_send_queue : List Template
start_send_queue =
    Write TDH (Is 0) ∷
    Write TDT (Is 0) ∷
    Change TXDCTL (Is 0) (Is TXDCTL-ENABLE) ∷
    WaitSet TXDCTL TXDCTL-ENABLE ∷
    []

-- 4.6.3, 7.3.1: a receive queue by MSI (enable_msi_interrupt, set_ivar, clear_interrupts)
abbrev pub enable_msi : List Template
enable_msi =
    Change IVAR VectorClear VectorZero ∷
    Write EIAC (Is 0) ∷
    Write EITR Rate ∷
    Write EIMC (Is IRQ-ALL) ∷
    Read EICR ∷
    Change EIMS (Is 0) QueueBit ∷
    []

-- 4.6.3, 7.3.1: a receive queue by MSI-X (enable_msix_interrupt, set_ivar)
abbrev pub enable_msix : List Template
enable_msix =
    Change GPIE (Is 0) (Is GPIE-MSIX) ∷
    Change IVAR VectorClear VectorQueue ∷
    Write EIAC (Is IRQ-QUEUES) ∷
    Write EITR Rate ∷
    Change EIMS (Is 0) QueueBit ∷
    []

-- 4.6.4: the link (wait_for_link)
abbrev pub wait_for_link : List Template
wait_for_link =
    Link LINKS ∷
    []

-- a part: how often it is made, and what it is made of
pub record Made : Type 0 where
  pub times : Times
  pub items : List Template

abbrev pub part : Times → List Template → Made
part times items = record { times = times; items = items }

-- the parts of the sequence, in four stretches: reset_and_init, down to the statistics
abbrev pub reset_parts : List Made
reset_parts =
    part Once disable_interrupts ∷
    part Once reset ∷
    part Once disable_interrupts ∷
    part Once ready ∷
    part Once init_link ∷
    part Once reset_stats ∷
    []

-- init_rx
abbrev pub receive_parts : List Made
receive_parts =
    part Once receive_off ∷
    part Buffer receive_buffers ∷
    part Once receive_offload ∷
    part Receive receive_queue ∷
    part Once receive_snoop ∷
    part Receive receive_dca ∷
    part Once receive_on ∷
    []

-- init_tx
abbrev pub send_parts : List Made
send_parts =
    part Once send_offload ∷
    part Buffer send_buffers ∷
    part Once send_arbiter ∷
    part Send send_queue ∷
    part Once send_on ∷
    []

-- the queues' start, the interrupts and the link
abbrev pub start_parts : List Made
start_parts =
    part Receive start_receive_queue ∷
    part Send start_send_queue ∷
    part MsiQueue enable_msi ∷
    part MsixQueue enable_msix ∷
    part Once wait_for_link ∷
    []

unfoldable pub parts : List Made
parts = reset_parts ++ (receive_parts ++ (send_parts ++ start_parts))

-- the table's row that a template names
abbrev pub row_of : Template → ℕ
row_of (Write r v) = register_row r
row_of (Read r) = register_row r
row_of (Change r clear set) = register_row r
row_of (WaitSet r mask) = register_row r
row_of (WaitClear r mask) = register_row r
row_of (Pause ms) = 0
row_of (Link r) = register_row r

-- ---- the parts as tables

abbrev pub PARTS : ℕ
PARTS = 23

-- no part has more templates
abbrev pub TEMPLATES : ℕ
TEMPLATES = 8

abbrev pub no_part : Part
no_part = record { times = Once; len = 0 }

abbrev pub no_template : Template
no_template = Write EICR (Is 0)

abbrev pub no_made : Made
no_made = part Once []

-- a part's row, the rows, and a part's templates
abbrev pub row_for : Made → Part
row_for p = record { times = p.times; len = length p.items }

abbrev pub rows_of : List Made → List Part
rows_of ps = map row_for ps

abbrev pub part_rows : List Part
part_rows = rows_of parts

abbrev pub items_of : ℕ → List Template
items_of i = (get_or parts i no_made).items
