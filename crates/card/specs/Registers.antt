-- The card's registers by the 82599 datasheet: one table of an address and a stride for each, and a register's address for a queue.
-- A register's section is the datasheet's; where it has an alias address, the Rust's choice is taken, and the line says so.
use Rattle.std.specs.Prelude.{ℕ, ◌+◌, ◌*◌, ◌/◌, List, [], ◌∷◌, eqb, ltb, get_or}
use Rattle.laws.specs.Test.{pick}
use Rattle.card.specs.declared.Register.{Register}
use Rattle.card.specs.declared.Register.TheVariants as register

-- the registers
abbrev pub ROWS : ℕ
ROWS = 45

-- an address and a stride for each, by the names below
unfoldable pub registers : List ℕ
registers =
    0x0800 ∷ 0 ∷  -- EICR
    0x0880 ∷ 0 ∷  -- EIMS
    0x0888 ∷ 0 ∷  -- EIMC
    0x0810 ∷ 0 ∷  -- EIAC
    0x0820 ∷ 4 ∷  -- EITR
    0x0900 ∷ 4 ∷  -- IVAR
    0x0898 ∷ 0 ∷  -- GPIE
    0x0000 ∷ 0 ∷  -- CTRL
    0x18 ∷ 0 ∷  -- CTRL_EXT
    0x10010 ∷ 0 ∷  -- EEC
    0x5080 ∷ 0 ∷  -- FCTRL
    0x5400 ∷ 8 ∷  -- RAL
    0x5404 ∷ 8 ∷  -- RAH
    0x1000 ∷ 0x40 ∷  -- RDBAL
    0x1004 ∷ 0x40 ∷  -- RDBAH
    0x1008 ∷ 0x40 ∷  -- RDLEN
    0x1010 ∷ 0x40 ∷  -- RDH
    0x1018 ∷ 0x40 ∷  -- RDT
    0x1028 ∷ 0x40 ∷  -- RXDCTL
    0x2100 ∷ 4 ∷  -- SRRCTL
    0x1014 ∷ 0x40 ∷  -- SRRCTL_HIGH
    0x2F00 ∷ 0 ∷  -- RDRXCTL
    0x3C00 ∷ 4 ∷  -- RXPBSIZE
    0x3000 ∷ 0 ∷  -- RXCTRL
    0x8100 ∷ 0 ∷  -- DTXMXSZRQ
    0x4A80 ∷ 0 ∷  -- DMATXCTL
    0x6000 ∷ 0x40 ∷  -- TDBAL
    0x6004 ∷ 0x40 ∷  -- TDBAH
    0x6008 ∷ 0x40 ∷  -- TDLEN
    0x6010 ∷ 0x40 ∷  -- TDH
    0x6018 ∷ 0x40 ∷  -- TDT
    0x6028 ∷ 0x40 ∷  -- TXDCTL
    0xCC00 ∷ 4 ∷  -- TXPBSIZE
    0x4900 ∷ 0 ∷  -- RTTDCS
    0x2200 ∷ 4 ∷  -- DCA_RXCTRL
    0x100C ∷ 0x40 ∷  -- DCA_RXCTRL_HIGH
    0x4240 ∷ 0 ∷  -- HLREG0
    0x42A0 ∷ 0 ∷  -- AUTOC
    0x42A4 ∷ 0 ∷  -- LINKS
    0x4074 ∷ 0 ∷  -- GPRC
    0x4080 ∷ 0 ∷  -- GPTC
    0x4088 ∷ 0 ∷  -- GORCL
    0x408C ∷ 0 ∷  -- GORCH
    0x4090 ∷ 0 ∷  -- GOTCL
    0x4094 ∷ 0 ∷  -- GOTCH
    []

-- ---- 8.2.3.5: interrupts

-- causes, cleared by a read
abbrev pub EICR : ℕ
EICR = 0

-- mask, set
abbrev pub EIMS : ℕ
EIMS = 1

-- mask, clear
abbrev pub EIMC : ℕ
EIMC = 2

-- auto clear
abbrev pub EIAC : ℕ
EIAC = 3

-- throttle; vectors 0 to 23 stand here, and no others are used
abbrev pub EITR : ℕ
EITR = 4

-- vectors; one for two queues
abbrev pub IVAR : ℕ
IVAR = 5

-- general purpose
abbrev pub GPIE : ℕ
GPIE = 6

-- ---- 8.2.3.1: control

-- device control
abbrev pub CTRL : ℕ
CTRL = 7

-- extended device control
abbrev pub CTRL-EXT : ℕ
CTRL-EXT = 8

-- ---- 8.2.3.2: EEPROM

-- EEPROM control; the highest of the table
abbrev pub EEC : ℕ
EEC = 9

-- ---- 8.2.3.7: receive filters

-- filter control
abbrev pub FCTRL : ℕ
FCTRL = 10

-- MAC address, low; the Rust's alias, the datasheet has 0xA200. Only address 0 is used
abbrev pub RAL : ℕ
RAL = 11

-- MAC address, high; the Rust's alias, the datasheet has 0xA204
abbrev pub RAH : ℕ
RAH = 12

-- ---- 8.2.3.8: receive DMA

-- ring address, low
abbrev pub RDBAL : ℕ
RDBAL = 13

-- ring address, high
abbrev pub RDBAH : ℕ
RDBAH = 14

-- ring bytes
abbrev pub RDLEN : ℕ
RDLEN = 15

-- head
abbrev pub RDH : ℕ
RDH = 16

-- tail
abbrev pub RDT : ℕ
RDT = 17

-- queue control
abbrev pub RXDCTL : ℕ
RXDCTL = 18

-- split and replication, queues 0 to 15: the Rust's alias
abbrev pub SRRCTL : ℕ
SRRCTL = 19

-- the same from queue 16 on
abbrev pub SRRCTL-HIGH : ℕ
SRRCTL-HIGH = 20

-- receive DMA control
abbrev pub RDRXCTL : ℕ
RDRXCTL = 21

-- packet buffer sizes, 8 of them
abbrev pub RXPBSIZE : ℕ
RXPBSIZE = 22

-- receive control
abbrev pub RXCTRL : ℕ
RXCTRL = 23

-- ---- 8.2.3.9: transmit

-- most bytes requested
abbrev pub DTXMXSZRQ : ℕ
DTXMXSZRQ = 24

-- transmit DMA control
abbrev pub DMATXCTL : ℕ
DMATXCTL = 25

-- ring address, low
abbrev pub TDBAL : ℕ
TDBAL = 26

-- ring address, high
abbrev pub TDBAH : ℕ
TDBAH = 27

-- ring bytes
abbrev pub TDLEN : ℕ
TDLEN = 28

-- head
abbrev pub TDH : ℕ
TDH = 29

-- tail
abbrev pub TDT : ℕ
TDT = 30

-- queue control
abbrev pub TXDCTL : ℕ
TXDCTL = 31

-- packet buffer sizes, 8 of them
abbrev pub TXPBSIZE : ℕ
TXPBSIZE = 32

-- ---- 8.2.3.10: DCB

-- transmit arbiter
abbrev pub RTTDCS : ℕ
RTTDCS = 33

-- ---- 8.2.3.11: DCA

-- receive, queues 0 to 15: the Rust's alias
abbrev pub DCA-RXCTRL : ℕ
DCA-RXCTRL = 34

-- the same from queue 16 on
abbrev pub DCA-RXCTRL-HIGH : ℕ
DCA-RXCTRL-HIGH = 35

-- ---- 8.2.3.22: MAC

-- CRC and padding
abbrev pub HLREG0 : ℕ
HLREG0 = 36

-- link negotiation
abbrev pub AUTOC : ℕ
AUTOC = 37

-- link state
abbrev pub LINKS : ℕ
LINKS = 38

-- ---- 8.2.3.23: statistics, cleared by a read

-- packets received
abbrev pub GPRC : ℕ
GPRC = 39

-- packets sent
abbrev pub GPTC : ℕ
GPTC = 40

-- bytes received, low
abbrev pub GORCL : ℕ
GORCL = 41

-- bytes received, high
abbrev pub GORCH : ℕ
GORCH = 42

-- bytes sent, low
abbrev pub GOTCL : ℕ
GOTCL = 43

-- bytes sent, high
abbrev pub GOTCH : ℕ
GOTCH = 44

-- ---- a register's row

abbrev pub register_row : Register → ℕ
register_row register.EICR = EICR
register_row register.EIMS = EIMS
register_row register.EIMC = EIMC
register_row register.EIAC = EIAC
register_row register.EITR = EITR
register_row register.IVAR = IVAR
register_row register.GPIE = GPIE
register_row register.CTRL = CTRL
register_row register.CTRL_EXT = CTRL-EXT
register_row register.EEC = EEC
register_row register.FCTRL = FCTRL
register_row register.RAL = RAL
register_row register.RAH = RAH
register_row register.RDBAL = RDBAL
register_row register.RDBAH = RDBAH
register_row register.RDLEN = RDLEN
register_row register.RDH = RDH
register_row register.RDT = RDT
register_row register.RXDCTL = RXDCTL
register_row register.SRRCTL = SRRCTL
register_row register.SRRCTL_HIGH = SRRCTL-HIGH
register_row register.RDRXCTL = RDRXCTL
register_row register.RXPBSIZE = RXPBSIZE
register_row register.RXCTRL = RXCTRL
register_row register.DTXMXSZRQ = DTXMXSZRQ
register_row register.DMATXCTL = DMATXCTL
register_row register.TDBAL = TDBAL
register_row register.TDBAH = TDBAH
register_row register.TDLEN = TDLEN
register_row register.TDH = TDH
register_row register.TDT = TDT
register_row register.TXDCTL = TXDCTL
register_row register.TXPBSIZE = TXPBSIZE
register_row register.RTTDCS = RTTDCS
register_row register.DCA_RXCTRL = DCA-RXCTRL
register_row register.DCA_RXCTRL_HIGH = DCA-RXCTRL-HIGH
register_row register.HLREG0 = HLREG0
register_row register.AUTOC = AUTOC
register_row register.LINKS = LINKS
register_row register.GPRC = GPRC
register_row register.GPTC = GPTC
register_row register.GORCL = GORCL
register_row register.GORCH = GORCH
register_row register.GOTCL = GOTCL
register_row register.GOTCH = GOTCH

-- ---- a register's address

-- a row's address, so many strides on
unfoldable pub entry : ℕ → ℕ → ℕ
entry row n = get_or registers (2 * row) 0 + get_or registers (2 * row + 1) 0 * n

-- no register of the table stands above this one
abbrev pub HIGHEST : ℕ
HIGHEST = 0x10010

-- the queues that have an alias address below the others
abbrev pub LOW-QUEUES : ℕ
LOW-QUEUES = 16

-- a register that stands at one row for the low queues, at another for the rest
abbrev pub low_or_high : ℕ → ℕ → ℕ → ℕ
low_or_high low high queue = pick (ltb queue LOW-QUEUES) (entry low queue) (entry high queue)

-- the address of a row's register for a queue: an IVAR serves two queues, and SRRCTL and DCA_RXCTRL have two rows
unfoldable pub address : ℕ → ℕ → ℕ
address row queue =
    pick (eqb row IVAR) (entry IVAR (queue / 2))
    (pick (eqb row SRRCTL) (low_or_high SRRCTL SRRCTL-HIGH queue)
    (pick (eqb row DCA-RXCTRL) (low_or_high DCA-RXCTRL DCA-RXCTRL-HIGH queue) (entry row queue)))
