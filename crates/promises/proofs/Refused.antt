-- Demand 1: a refused call changes nothing. Where a call's verdict is a refusal, account, rings, lists and packet memory are as they were
-- given, on every account, sound or forged.
use Prim.Native.Nat.{ℕ, ◌≤◌}
use mathlib.Core.Path.{◌≡◌}
use mathlib.Core.Logic.{◌⊎◌}
use mathlib.Core.List.{List}
use lib.ListN.{length}
use native.Mathlib.Omega.{arith}
use Rattle.pool.specs.declared.Handle.{Handle}
use Rattle.rules.specs.declared.Account.{Account}
use Rattle.refusals.specs.declared.Refusal.{Refusal}
use Rattle.rules.specs.Verdict.{Verdict, Done, Refused}
use Rattle.rules.specs.Numbers.{number}
use Rattle.rules.specs.Ended as ended
use Rattle.rules.specs.Tail.{Unwritten}
use Rattle.rules.specs.Handles.{Handles, no_handle}
use Rattle.rules.specs.Refusals.{take_verdict, batch_verdict, handle_verdict, view_verdict, clone_verdict, headroom_verdict, start_verdict, receive_verdict, send_verdict}
use Rattle.rules.specs.Packets.{take_call, batch_call, release_call, truncate_call, clone_call, Lent, no_part, view_call, headroom_call}
use Rattle.rules.specs.Receive.{start_call, receive_call}
use Rattle.rules.specs.Send.{send_call}

-- every answer is done or a number of the table (Known.antt: of an account's call, none of the registers')
pub number-known : (v : Verdict) → (v ≡ Done) ⊎ ((1 ≤ number v) × (number v ≤ 12))
number-known v = grind arith

module _ (a : Account) (why : Refusal) where
  pub take-refused : (len : ℕ) → take_verdict a len ≡ Refused why → take_call a len ≡ record { verdict = Refused why; handle = no_handle; account = a }
  unfolding take_call
  take-refused len e = rw e

  pub batch-refused : (n len : ℕ) (lists : Handles) → batch_verdict a n lists ≡ Refused why
      → batch_call a n len lists ≡ record { answer = record { verdict = Refused why; count = 0; account = a }; lists = lists }
  unfolding batch_call
  batch-refused n len lists e = rw e

  module _ (h : Handle) where
    pub release-refused : handle_verdict a h ≡ Refused why → release_call a h ≡ record { verdict = Refused why; account = a }
    unfolding release_call
    release-refused e = rw e

    pub truncate-refused : (len : ℕ) → handle_verdict a h ≡ Refused why → truncate_call a h len ≡ record { verdict = Refused why; handle = h }
    unfolding truncate_call
    truncate-refused len e = rw e

    pub clone-refused : (memory : List ℕ) → clone_verdict a h (length memory) ≡ Refused why
        → clone_call a h memory ≡ record { answer = record { verdict = Refused why; handle = no_handle; account = a }; memory = memory }
    unfolding clone_call
    clone-refused memory e = rw e

    pub view-refused : (memory : Lent) → view_verdict a h (length memory.bytes) ≡ Refused why → view_call a h memory ≡ no_part memory
    unfolding view_call
    view-refused memory e = rw e

    pub headroom-refused : (asked : ℕ) (memory : Lent) → headroom_verdict a h asked (length memory.bytes) ≡ Refused why → headroom_call a h asked memory ≡ no_part memory
    unfolding headroom_call
    headroom-refused asked memory e = rw e

  module _ (q : ℕ) (ring addresses : List ℕ) where
    pub start-refused : start_verdict a q ring addresses ≡ Refused why
        → start_call a q ring addresses ≡ record { answer = record { verdict = Refused why; tail = Unwritten; account = a }; ring = ring }
    unfolding start_call
    start-refused e = rw e

    pub receive-refused : (n : ℕ) (lists : Handles) → receive_verdict a q ring addresses n lists ≡ Refused why
        → receive_call a q ring addresses n lists ≡ record { answer = record { ended = ended.Refused why; count = 0; tail = Unwritten; account = a }; ring = ring; lists = lists }
    unfolding receive_call
    receive-refused n lists e = rw e

    pub send-refused : (lists : Handles) → send_verdict a q ring addresses lists ≡ Refused why
        → send_call a q ring addresses lists ≡ record { answer = record { verdict = Refused why; count = 0; tail = Unwritten; account = a }; ring = ring }
    unfolding send_call
    send-refused lists e = rw e
