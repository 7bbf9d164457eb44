-- The laws of the calls at run time: enabling a queue makes the same actions as start-up does for it; the MAC address comes back from its
-- words; a call ends, and asks for no register outside the map; one outcome for each call.
use Prim.Native.Nat.{ℕ, ◌+◌, ◌*◌, ◌/◌, ◌%◌, ◌^◌, ◌≤◌, ◌<◌}
use mathlib.Core.Path.{◌≡◌, refl, sym, ◌∙◌}
use mathlib.Core.Bool.{Bool, true, false}
use mathlib.Core.List.{List, [], ◌∷◌, ◌++◌}
use mathlib.Core.Logic.{◌⊎◌, inl, inr}
use native.Mathlib.Nat.{zero-mul, div-div-eq-div-mul, mod-add-div'}
use native.Mathlib.Omega.{arith}
use borrow.Author.Tests.{lt-ltb, ltb-true}
use lib.Dec.{eqb, ltb}
use lib.ListN.{length, get_or, get_or-eq_default}
use Rattle.laws.specs.Test.{pick}
use Rattle.card.specs.Registers.{registers, entry, address}
use Rattle.card.specs.Masks.{changed, link_speed}
use Rattle.parts.specs.Parts.{enable_msi, enable_msix, reset_stats}
use Rattle.plan.specs.declared.Item.{Item}
use Rattle.plan.specs.declared.Item.TheVariants as item
use Rattle.plan.specs.declared.Setup.{Setup}
use Rattle.plan.specs.Sequence.{MSI, MSIX, for_queue}
use Rattle.refusals.specs.declared.Refusal.TheVariants.{OutsideMap, NoInterrupt}
use Rattle.startup.specs.declared.Action.{Action}
use Rattle.startup.specs.declared.Action.TheVariants.{Read, Write, Pause, Done, Refused}
use Rattle.startup.specs.Machine.{SIGNALLED, number_of, in_map}
use Rattle.service.specs.Mac.{mac_of, low_word, high_word}
use Rattle.service.specs.Actions.{counter_actions, link_actions, mac_actions, set_mac_actions, promisc_actions, msi_actions, msix_actions, disable_actions, guarded, next, counters_call, link_call, mac_call, set_mac_call, promisc_call, enable_call, disable_call}

-- an item's actions, where v is the value last read; a wait has no list of its own
abbrev actions_of : ℕ → Item → List Action
actions_of v item.End = []
actions_of v (item.Write register x) = Write register x ∷ []
actions_of v (item.Read register) = Read register ∷ []
actions_of v (item.Change register clear set) = Read register ∷ Write register (changed v clear set) ∷ []
actions_of v (item.WaitSet register mask) = []
actions_of v (item.WaitClear register mask) = []
actions_of v (item.Pause ms) = Pause ms ∷ []
actions_of v (item.Link register) = []

abbrev all_actions : ℕ → List Item → List Action
all_actions v [] = []
all_actions v (i ∷ is) = actions_of v i ++ all_actions v is

-- the lists are start-up's
pub msi-as-start-up : (s : Setup) (queue v : ℕ) → all_actions v (for_queue s enable_msi queue) ≡ msi_actions queue s.rate v
unfolding address entry registers
msi-as-start-up s queue v = simp zero-mul

pub msix-as-start-up : (s : Setup) (queue v : ℕ) → all_actions v (for_queue s enable_msix queue) ≡ msix_actions queue s.rate v
unfolding address entry registers
msix-as-start-up s queue v = simp zero-mul

pub counters-as-start-up : (s : Setup) (v : ℕ) → all_actions v (for_queue s reset_stats 0) ≡ counter_actions
counters-as-start-up s v = refl

-- a number's lowest byte, and its bytes from a place on
byte_at : (n x rest : ℕ) → n ≡ x + rest * 256 → x < 256 → n % 256 ≡ x
byte_at n x rest e h = rw e (omega arith)

parted : (x m : ℕ) → x / m ≡ x / m % 256 + x / (m * 256) * 256
parted x m = rw (← div-div-eq-div-mul) (sym (mod-add-div' (x / m) 256))

-- the MAC address comes back from its words, and the words from it, but for the upper half of the second
pub mac-back : (a b c d e f : ℕ) → a < 256 → b < 256 → c < 256 → d < 256 → e < 256 → f < 256
    → mac_of (low_word (a ∷ b ∷ c ∷ d ∷ e ∷ f ∷ [])) (high_word (a ∷ b ∷ c ∷ d ∷ e ∷ f ∷ [])) ≡ a ∷ b ∷ c ∷ d ∷ e ∷ f ∷ []
unfolding mac_of low_word high_word
mac-back a b c d e f la lb lc ld le lf =
    let low : ℕ = low_word (a ∷ b ∷ c ∷ d ∷ e ∷ f ∷ []) in
    let high : ℕ = e + f * 2 ^ 8 in
    rw (
      byte_at (low / 2 ^ 0) a (b + c * 2 ^ 8 + d * 2 ^ 16) (omega arith) la,
      byte_at (low / 2 ^ 8) b (c + d * 2 ^ 8) (omega arith) lb,
      byte_at (low / 2 ^ 16) c d (omega arith) lc,
      byte_at (low / 2 ^ 24) d 0 (omega arith) ld,
      byte_at (high / 2 ^ 0) e f (omega arith) le,
      byte_at (high / 2 ^ 8) f 0 (omega arith) lf,
    )

pub words_back : (low high : ℕ) → low < 2 ^ 32 → (low_word (mac_of low high) ≡ low) × (high_word (mac_of low high) ≡ high % 2 ^ 16)
unfolding mac_of low_word high_word
words_back low high l = (omega (arith, parted low 1, parted low (2 ^ 8), parted low (2 ^ 16)), omega (arith, parted high 1, parted high (2 ^ 8)))

-- ---- any call

-- a call, with what the host gives it each time
pub data Call : Type 0 where
  read-counters : Call
  read-link : Call
  read-mac : Call
  write-mac : List ℕ → Call
  promiscuous : Bool → Call
  enable : (kind queue rate : ℕ) → Call
  disable : (queue : ℕ) → Call

-- its answer, so many actions made, and v the value last read
abbrev pub answer : Call → (bytes made v : ℕ) → Action
answer read-counters bytes made v = counters_call bytes made
answer read-link bytes made v = link_call bytes made
answer read-mac bytes made v = mac_call bytes made
answer (write-mac address) bytes made v = set_mac_call bytes address made
answer (promiscuous on) bytes made v = promisc_call bytes on made v
answer (enable kind queue rate) bytes made v = enable_call bytes kind queue rate made v
answer (disable queue) bytes made v = disable_call bytes queue made v

-- its list
abbrev pub actions : Call → ℕ → List Action
actions read-counters v = counter_actions
actions read-link v = link_actions
actions read-mac v = mac_actions
actions (write-mac address) v = set_mac_actions address
actions (promiscuous on) v = promisc_actions on v
actions (enable kind queue rate) v = pick (eqb kind MSI) (msi_actions queue rate v) (msix_actions queue rate v)
actions (disable queue) v = disable_actions queue v

-- its tests pass
abbrev pub Passes : Call → Type 0
Passes read-counters = Unit
Passes read-link = Unit
Passes read-mac = Unit
Passes (write-mac address) = Unit
Passes (promiscuous on) = Unit
Passes (enable kind queue rate) = (queue < SIGNALLED) × ((kind ≡ MSI) ⊎ (kind ≡ MSIX))
Passes (disable queue) = queue < SIGNALLED

runs : (call : Call) (bytes made v : ℕ) → Passes call → answer call bytes made v ≡ next bytes (actions call v) made
unfolding counters_call link_call mac_call set_mac_call promisc_call enable_call disable_call
runs read-counters bytes made v p = refl
runs read-link bytes made v p = refl
runs read-mac bytes made v p = refl
runs (write-mac address) bytes made v p = refl
runs (promiscuous on) bytes made v p = refl
runs (enable kind queue rate) bytes made v (q, inl k) = rw (lt-ltb queue SIGNALLED q, k)
runs (enable kind queue rate) bytes made v (q, inr k) = rw (lt-ltb queue SIGNALLED q, k)
runs (disable queue) bytes made v q = rw (lt-ltb queue SIGNALLED q)

-- after the last of its actions comes Done
pub after_last : (call : Call) (bytes made v : ℕ) → Passes call → length (actions call v) ≤ made → answer call bytes made v ≡ Done
after_last call bytes made v p h = runs call bytes made v p ∙ rw (get_or-eq_default (actions call v) Done h)

-- the register of a read or a write is in the map
abbrev pub Inside : ℕ → Action → Type 0
Inside bytes (Read register) = in_map bytes register ≡ true
Inside bytes (Write register x) = in_map bytes register ≡ true
Inside bytes (Pause ms) = Unit
Inside bytes Done = Unit
Inside bytes (Refused why) = Unit

module _ (bytes : ℕ) where
  by-test : (b : Bool) (a e : Action) → (b ≡ true → Inside bytes a) → Inside bytes e → Inside bytes (pick b a e)
  by-test true a e h k = h refl
  by-test false a e h k = k

  guarded-inside : (a : Action) → Inside bytes (guarded bytes a)
  guarded-inside (Read register) = by-test (in_map bytes register) (Read register) (Refused (OutsideMap register)) (λ z. z) tt
  guarded-inside (Write register x) = by-test (in_map bytes register) (Write register x) (Refused (OutsideMap register)) (λ z. z) tt
  guarded-inside (Pause ms) = tt
  guarded-inside Done = tt
  guarded-inside (Refused why) = tt

  next-inside : (actions : List Action) (made : ℕ) → Inside bytes (next bytes actions made)
  next-inside actions made = guarded-inside (get_or actions made Done)

  pub in-the-map : (call : Call) (made v : ℕ) → Inside bytes (answer call bytes made v)
  unfolding counters_call link_call mac_call set_mac_call promisc_call enable_call disable_call
  in-the-map read-counters made v = next-inside counter_actions made
  in-the-map read-link made v = next-inside link_actions made
  in-the-map read-mac made v = next-inside mac_actions made
  in-the-map (write-mac address) made v = next-inside (set_mac_actions address) made
  in-the-map (promiscuous on) made v = next-inside (promisc_actions on v) made
  in-the-map (enable kind queue rate) made v =
      by-test (ltb queue SIGNALLED) _ _
      (λ _. by-test (eqb kind MSI) _ _ (λ _. next-inside (msi_actions queue rate v) made)
      (by-test (eqb kind MSIX) _ _ (λ _. next-inside (msix_actions queue rate v) made) tt)) tt
  in-the-map (disable queue) made v = by-test (ltb queue SIGNALLED) _ _ (λ _. next-inside (disable_actions queue v) made) tt

-- ---- the queues that can be signalled

-- a call that is not refused, its number 0, has a queue below 16
module _ (queue : ℕ) where
  by-queue : (b : Bool) (a : Action) → ltb queue SIGNALLED ≡ b → number_of (pick b a (Refused NoInterrupt)) ≡ 0 → queue < SIGNALLED
  by-queue true a z e = ltb-true queue SIGNALLED z
  by-queue false a z e = absurd (omega arith)

  pub few-signalled-on : (bytes kind rate made v : ℕ)
      → (number_of (enable_call bytes kind queue rate made v) ≡ 0) ⊎ (number_of (disable_call bytes queue made v) ≡ 0) → queue < SIGNALLED
  unfolding enable_call disable_call
  few-signalled-on bytes kind rate made v (inl e) = by-queue (ltb queue SIGNALLED) _ refl e
  few-signalled-on bytes kind rate made v (inr e) = by-queue (ltb queue SIGNALLED) _ refl e

-- ---- one outcome

-- two things that equal one rule
same : {A : Type 0} {x y rule : A} → x ≡ rule → y ≡ rule → x ≡ y
same p q = p ∙ sym q

pub speed-unique : (value r s : ℕ) → r ≡ link_speed value → s ≡ link_speed value → r ≡ s
speed-unique value r s p q = same p q

pub mac-of-unique : (low high : ℕ) (r s : List ℕ) → r ≡ mac_of low high → s ≡ mac_of low high → r ≡ s
mac-of-unique low high r s p q = same p q

module _ (bytes made v : ℕ) (r s : Action) where
  pub counters-unique : r ≡ counters_call bytes made → s ≡ counters_call bytes made → r ≡ s
  counters-unique p q = same p q

  pub link-unique : r ≡ link_call bytes made → s ≡ link_call bytes made → r ≡ s
  link-unique p q = same p q

  pub mac-unique : r ≡ mac_call bytes made → s ≡ mac_call bytes made → r ≡ s
  mac-unique p q = same p q

  pub write-mac-unique : (mac : List ℕ) → r ≡ set_mac_call bytes mac made → s ≡ set_mac_call bytes mac made → r ≡ s
  write-mac-unique mac p q = same p q

  pub promiscuous-unique : (on : Bool) → r ≡ promisc_call bytes on made v → s ≡ promisc_call bytes on made v → r ≡ s
  promiscuous-unique on p q = same p q

  pub enable-unique : (kind queue rate : ℕ) → r ≡ enable_call bytes kind queue rate made v → s ≡ enable_call bytes kind queue rate made v → r ≡ s
  enable-unique kind queue rate p q = same p q

  pub disable-unique : (queue : ℕ) → r ≡ disable_call bytes queue made v → s ≡ disable_call bytes queue made v → r ≡ s
  disable-unique queue p q = same p q
