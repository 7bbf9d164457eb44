-- The promises that a customer files with a pour: document 01's demand 3, sentence by sentence, over every history. A history is a fresh account
-- that answered 0 and then any calls with any arguments and any bytes in what they are lent (specs/History.antt). What the application and
-- each send queue have is counted from calls, answers and lent rings alone (specs/Ledger.antt, specs/Queues.antt).
use Prim.Native.Nat.{ℕ, ◌+◌, ◌-◌, ◌≤◌, ◌<◌}
use mathlib.Core.Path.{◌≡◌}
use mathlib.Core.Bool.{true, false}
use lib.ListN.{length, drop}
use native.Mathlib.Omega.{arith}
use Rattle.limits.specs.Limits.{SLOTS}
use Rattle.laws.specs.Test.{pick}
use Rattle.laws.specs.Occurs.{occurs, sum_to}
use Rattle.rules.specs.declared.Account.{Account}
use Rattle.rules.specs.Numbers.{number}
use Rattle.rules.specs.Account.{free_list, receive_list, send_list, held}
use Rattle.rules.specs.Sound.{sound}
use Rattle.promises.specs.History.{Step, History, verdict_by}
use Rattle.promises.specs.History as h
use Rattle.promises.specs.Ledger.{given, returned, buffers}
use Rattle.promises.specs.Queues.{sent_on, back_on, Batches, ring_of, sends_on}
use Rattle.promises.proofs.Always.{always-sound}
use Rattle.promises.proofs.Hands.{one-hand, ring-full, queue-most}
use Rattle.promises.proofs.Never.{step-not-1}
use Rattle.promises.proofs.Queues.{queue-has, on-done-bit, else-untouched}

module _ {a : Account} (t : History a) where
  -- Each buffer is in exactly one of four hands: the free stack, the receive ring, one send queue, or the application, which has what answers
  -- gave it less what it released or sent,
  pub four-hands : (x : ℕ) → x < buffers t
      → occurs x (free_list a) + occurs x (receive_list a) + sum_to a.sends (λ q. occurs x (send_list a q)) + (given x t - returned x t) ≡ 1
  unfolding held
  four-hands x below = (one-hand t x below).0

  -- and each is given once before it is released or sent again.
  pub given-once : (x : ℕ) → x < buffers t → (returned x t ≤ given x t) × (given x t ≤ returned x t + 1)
  given-once x below = ((one-hand t x below).1, omega (arith, one-hand t x below))

  -- Once started, the receive ring has exactly 512; before, none.
  pub receive-ring : length (receive_list a) ≡ pick a.started SLOTS 0
  receive-ring = ring-full t

  -- A send queue has its sent buffers less those given back, oldest first, never over 511;
  pub send-queue : (q : ℕ) → q < a.sends → (send_list a q ≡ drop (back_on q t) (sent_on q t)) × (length (send_list a q) < SLOTS)
  send-queue q queue = (queue-has t q queue, queue-most t q)

  module _ {b : Account} (s : Step a b) (q : ℕ) (queue : q < a.sends) where
    -- each giving-back is of 32, and saw the done bit of the last of them in the ring that it was lent;
    pub given_back : Batches (length (sent_on q t)) (ring_of s) (back_on q t) (back_on q (h.call t s))
    given_back = on-done-bit t q queue s

    -- nothing else takes a buffer from a send queue.
    pub nothing-else : sends_on q s ≡ false → send_list b q ≡ send_list a q
    nothing-else = else-untouched t q queue s

  -- The account stays sound,
  pub stays-sound : sound a ≡ true
  stays-sound = always-sound t

  -- so no call of a history is ever refused with 1.
  pub never-1 : {b : Account} (s : Step a b) → number (verdict_by s) ≡ 1 → ⊥
  never-1 = step-not-1 t
