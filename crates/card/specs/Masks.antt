-- The words written to the registers and the bits tested in them, by their datasheet bit numbers (section 8.2.3, at each register).
-- src/lib.rt has the constant of the same name as a number, and `masks` ties the two.
use Rattle.std.specs.Prelude.{ℕ, ◌+◌, ◌-◌, ◌*◌, ◌%◌, ◌^◌, List, [], ◌∷◌, eqb}
use Rattle.std.specs.Int.Bits.{bit_and, bit_or}
use Rattle.laws.specs.Test.{pick}
use Rattle.card.specs.declared.Direction.{Direction}
use Rattle.card.specs.declared.Direction.TheVariants.{Receive, Send}

-- a bit, the bits from one to another, and a number from a bit on
abbrev pub bit : ℕ → ℕ
bit k = 2 ^ k

abbrev pub bits : ℕ → ℕ → ℕ
bits first last = 2 ^ (last + 1) - 2 ^ first

abbrev pub placed : ℕ → ℕ → ℕ
placed x first = x * 2 ^ first

-- EIMC: every cause
abbrev pub IRQ-ALL : ℕ
IRQ-ALL = bits 0 31

-- EIMS, EIAC: the queues' causes, and no others
abbrev pub IRQ-QUEUES : ℕ
IRQ-QUEUES = bits 0 15

-- CTRL: link reset and device reset
abbrev pub CTRL-RST : ℕ
CTRL-RST = bit 3 + bit 26

-- CTRL_EXT: no snoop disabled
abbrev pub CTRL-EXT-NS-DIS : ℕ
CTRL-EXT-NS-DIS = bit 16

-- EEC: the EEPROM was read
abbrev pub EEC-ARD : ℕ
EEC-ARD = bit 9

-- RDRXCTL: CRC stripped
abbrev pub RDRXCTL-CRCSTRIP : ℕ
RDRXCTL-CRCSTRIP = bit 1

-- RDRXCTL: DMA is initialized
abbrev pub RDRXCTL-DMAIDONE : ℕ
RDRXCTL-DMAIDONE = bit 3

-- RDRXCTL: a field that is to be 0
abbrev pub RDRXCTL-RSCFRSTSIZE : ℕ
RDRXCTL-RSCFRSTSIZE = bits 17 21

-- RDRXCTL: RSCACKC and FCOE_WRFIX, to be 1
abbrev pub RDRXCTL-RSC : ℕ
RDRXCTL-RSC = bit 25 + bit 26

-- AUTOC: the link mode
abbrev pub AUTOC-LMS : ℕ
AUTOC-LMS = bits 13 15

-- AUTOC: 10G serial, by its link mode
abbrev pub AUTOC-LMS-10G-SERIAL : ℕ
AUTOC-LMS-10G-SERIAL = placed 3 13

-- AUTOC: the 10G interface
abbrev pub AUTOC-10G : ℕ
AUTOC-10G = bits 7 8

-- AUTOC: XAUI, by its 10G interface
abbrev pub AUTOC-10G-XAUI : ℕ
AUTOC-10G-XAUI = placed 0 7

-- AUTOC: negotiate again
abbrev pub AUTOC-RESTART : ℕ
AUTOC-RESTART = bit 12

-- RXCTRL: receiving is on
abbrev pub RXCTRL-RXEN : ℕ
RXCTRL-RXEN = bit 0

-- RXPBSIZE: a size in KB from bit 10 on
abbrev pub RXPBSIZE-128KB : ℕ
RXPBSIZE-128KB = placed 128 10

-- HLREG0: received CRC stripped
abbrev pub HLREG0-RXCRCSTRP : ℕ
HLREG0-RXCRCSTRP = bit 1

-- HLREG0: TXCRCEN and TXPADEN, CRC and padding when sending
abbrev pub HLREG0-SEND : ℕ
HLREG0-SEND = bit 0 + bit 10

-- FCTRL: MPE and UPE, every frame is taken
abbrev pub FCTRL-PROMISC : ℕ
FCTRL-PROMISC = bit 8 + bit 9

-- FCTRL: broadcasts are taken
abbrev pub FCTRL-BAM : ℕ
FCTRL-BAM = bit 10

-- SRRCTL: the descriptor type
abbrev pub SRRCTL-DESCTYPE : ℕ
SRRCTL-DESCTYPE = bits 25 27

-- SRRCTL: advanced, one buffer
abbrev pub SRRCTL-ONEBUF : ℕ
SRRCTL-ONEBUF = placed 1 25

-- SRRCTL: drop where no descriptor is free
abbrev pub SRRCTL-DROP : ℕ
SRRCTL-DROP = bit 28

-- DCA_RXCTRL: a bit that the datasheet does not name; the Rust's
abbrev pub DCA-RXCTRL-12 : ℕ
DCA-RXCTRL-12 = bit 12

-- RXDCTL: the queue is on
abbrev pub RXDCTL-ENABLE : ℕ
RXDCTL-ENABLE = bit 25

-- TXPBSIZE: a size in KB from bit 10 on
abbrev pub TXPBSIZE-40KB : ℕ
TXPBSIZE-40KB = placed 40 10

-- DTXMXSZRQ: the most
abbrev pub DTXMXSZRQ-MOST : ℕ
DTXMXSZRQ-MOST = bits 0 11

-- RTTDCS: the arbiter is off
abbrev pub RTTDCS-ARBDIS : ℕ
RTTDCS-ARBDIS = bit 6

-- TXDCTL: PTHRESH, HTHRESH, WTHRESH
abbrev pub TXDCTL-THRESHOLDS : ℕ
TXDCTL-THRESHOLDS = bits 0 6 + bits 8 14 + bits 16 22

-- TXDCTL: the Rust's three thresholds
abbrev pub TXDCTL-USUAL : ℕ
TXDCTL-USUAL = placed 36 0 + placed 8 8 + placed 4 16

-- TXDCTL: the queue is on
abbrev pub TXDCTL-ENABLE : ℕ
TXDCTL-ENABLE = bit 25

-- DMATXCTL: sending is on, and the VLAN type
abbrev pub DMATXCTL-ON : ℕ
DMATXCTL-ON = bit 0 + placed 0x8100 16

-- GPIE: MSI-X, EIAME and PBA support
abbrev pub GPIE-MSIX : ℕ
GPIE-MSIX = bit 4 + bit 30 + bit 31

-- IVAR: a queue's byte, before it is moved to its place
abbrev pub IVAR-BYTE : ℕ
IVAR-BYTE = bits 0 7

-- IVAR: its byte's top bit, the vector counts
abbrev pub IVAR-VALID : ℕ
IVAR-VALID = bit 7

-- LINKS: the link is up
abbrev pub LINKS-UP : ℕ
LINKS-UP = bit 30

-- LINKS: its speed
abbrev pub LINKS-SPEED : ℕ
LINKS-SPEED = bits 28 29

-- all of them, in the order of src/lib.rt
abbrev pub masks : List ℕ
masks =
    IRQ-ALL
    ∷ IRQ-QUEUES
    ∷ CTRL-RST
    ∷ CTRL-EXT-NS-DIS
    ∷ EEC-ARD
    ∷ RDRXCTL-CRCSTRIP
    ∷ RDRXCTL-DMAIDONE
    ∷ RDRXCTL-RSCFRSTSIZE
    ∷ RDRXCTL-RSC
    ∷ AUTOC-LMS
    ∷ AUTOC-LMS-10G-SERIAL
    ∷ AUTOC-10G
    ∷ AUTOC-10G-XAUI
    ∷ AUTOC-RESTART
    ∷ RXCTRL-RXEN
    ∷ RXPBSIZE-128KB
    ∷ HLREG0-RXCRCSTRP
    ∷ HLREG0-SEND
    ∷ FCTRL-PROMISC
    ∷ FCTRL-BAM
    ∷ SRRCTL-DESCTYPE
    ∷ SRRCTL-ONEBUF
    ∷ SRRCTL-DROP
    ∷ DCA-RXCTRL-12
    ∷ RXDCTL-ENABLE
    ∷ TXPBSIZE-40KB
    ∷ DTXMXSZRQ-MOST
    ∷ RTTDCS-ARBDIS
    ∷ TXDCTL-THRESHOLDS
    ∷ TXDCTL-USUAL
    ∷ TXDCTL-ENABLE
    ∷ DMATXCTL-ON
    ∷ GPIE-MSIX
    ∷ IVAR-BYTE
    ∷ IVAR-VALID
    ∷ LINKS-UP
    ∷ LINKS-SPEED
    ∷ []

-- ---- words

-- a word moved up, as a u32
abbrev pub shifted : ℕ → ℕ → ℕ
shifted x by = (x * 2 ^ by) % 2 ^ 32

-- a word with some bits cleared and then some set
abbrev pub changed : ℕ → ℕ → ℕ → ℕ
changed value clear set = bit_or (bit_and value (2 ^ 32 - 1 - clear)) set

-- a queue's bit in the interrupt masks
abbrev pub queue_bit : ℕ → ℕ
queue_bit queue = shifted 1 (queue % 32)

abbrev pub direction_number : Direction → ℕ
direction_number Receive = 0
direction_number Send = 1

-- the place of a queue's byte in its IVAR, direction 0 for receive and 1 for send
abbrev pub vector_shift : ℕ → ℕ → ℕ
vector_shift direction queue = 16 * (queue % 2) + 8 * direction

-- what is cleared there, and what is set: the vector, with 0x80
abbrev pub vector_clear : ℕ → ℕ → ℕ
vector_clear direction queue = shifted IVAR-BYTE (vector_shift direction queue)

abbrev pub vector_set : ℕ → ℕ → ℕ → ℕ
vector_set direction queue vector = shifted (bit_or vector IVAR-VALID) (vector_shift direction queue)

-- the link's speed in Mbit/s by LINKS: its field 1, 2, 3 means 100, 1000, 10000; else 0, and 0 where it is not up
abbrev pub speed_field : ℕ → ℕ
speed_field field =
    pick (eqb field (placed 1 28)) 100 (pick (eqb field (placed 2 28)) 1000 (pick (eqb field (placed 3 28)) 10000 0))

unfoldable pub link_speed : ℕ → ℕ
link_speed value = pick (eqb (bit_and value LINKS-UP) 0) 0 (speed_field (bit_and value LINKS-SPEED))
