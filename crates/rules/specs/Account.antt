-- The account: what stands in each hand, and the few ways in which an account is made of another.
use Rattle.std.specs.Prelude.{ℕ, zero, suc, ◌+◌, ◌-◌, ◌*◌, ◌%◌, true, false, List, [], ◌∷◌, get_or, replicate, eqb, ltb}
use Rattle.limits.specs.Limits.{ENTRIES, SENDS, SLOTS}
use Rattle.laws.specs.Test.{pick}
use Rattle.laws.specs.Occurs.{occurs, sum_to, up_from}
use Rattle.pool.specs.declared.FreeStack.{FreeStack}
use Rattle.pool.specs.Stack.{content}
use Rattle.pool.specs.Hands.{HAND-FREE, HAND-RECEIVE, HAND-SEND}
use Rattle.rules.specs.declared.Account.{Account}

-- ---- where ids stand

-- the recorded hand of an id
abbrev pub hand_of : Account → ℕ → ℕ
hand_of a id = get_or a.hands id 0

-- the free stack, the top last
abbrev pub free_list : Account → List ℕ
free_list a = content a.free

-- a started receive ring has the id of each slot, else it has none
abbrev pub receive_list : Account → List ℕ
receive_list a = pick a.started a.slots []

-- after the last slot comes the first
abbrev pub next_slot : ℕ → ℕ
next_slot slot = (slot + 1) % SLOTS

-- how many slots of a queue wait to be cleaned: (tx index − clean index) mod 512
abbrev pub waiting : ℕ → ℕ → ℕ
waiting tx clean = (tx + SLOTS - clean) % SLOTS

abbrev pub pending : Account → ℕ → ℕ
pending a q = waiting (get_or a.tx q 0) (get_or a.clean q 0)

-- where a queue's slot stands in the array of all queues
abbrev pub send_place : ℕ → ℕ → ℕ
send_place q slot = q * SLOTS + slot

-- so many ids of a queue from a slot on, round the ring
unfoldable pub around : List ℕ → ℕ → ℕ → ℕ → List ℕ
around sent q slot zero = []
around sent q slot (suc n) = get_or sent (send_place q slot) 0 ∷ around sent q (next_slot slot) n

-- a send queue's ids, oldest first
abbrev pub send_list : Account → ℕ → List ℕ
send_list a q = around a.sent q (get_or a.clean q 0) (pending a q)

-- the list of a hand: none for the application, and none for a number that is no hand
unfoldable pub list_of : Account → ℕ → List ℕ
list_of a hand =
    pick (eqb hand HAND-FREE)
    (free_list a)
    (pick (eqb hand HAND-RECEIVE) (receive_list a) (pick (ltb hand HAND-SEND) [] (pick (ltb (hand - HAND-SEND) a.sends) (send_list a (hand - HAND-SEND)) [])))

-- how often an id stands in all the lists of an account
unfoldable pub held : ℕ → Account → ℕ
held id a = occurs id (free_list a) + occurs id (receive_list a) + sum_to a.sends (λ q. occurs id (send_list a q))

-- ---- accounts

-- nothing started, nothing sent, and the first `entries` ids free
unfoldable pub opened : ℕ → ℕ → ℕ → ℕ → ℕ → Account
opened pool entries size receives sends =
    record {
      pool = pool;
      entries = entries;
      size = size;
      receives = receives;
      sends = sends;
      free = record { ids = up_from 0 ENTRIES; depth = entries };
      hands = replicate ENTRIES HAND-FREE;
      started = false;
      rx = 0;
      slots = replicate SLOTS 0;
      sent = replicate (SENDS * SLOTS) 0;
      clean = replicate SENDS 0;
      tx = replicate SENDS 0;
    }

-- what a refused fresh answers: no entries, so it is not sound, and every call refuses it
abbrev pub no_account : Account
no_account = opened 0 0 0 0 0

-- an account with another free stack and other hands
abbrev pub with_pool : Account → FreeStack → List ℕ → Account
with_pool a free hands =
    record {
      pool = a.pool;
      entries = a.entries;
      size = a.size;
      receives = a.receives;
      sends = a.sends;
      free = free;
      hands = hands;
      started = a.started;
      rx = a.rx;
      slots = a.slots;
      sent = a.sent;
      clean = a.clean;
      tx = a.tx;
    }

-- and with another receive ring, which has started
abbrev pub with_receive : Account → FreeStack → List ℕ → ℕ → List ℕ → Account
with_receive a free hands rx slots =
    record {
      pool = a.pool;
      entries = a.entries;
      size = a.size;
      receives = a.receives;
      sends = a.sends;
      free = free;
      hands = hands;
      started = true;
      rx = rx;
      slots = slots;
      sent = a.sent;
      clean = a.clean;
      tx = a.tx;
    }

-- and with other send queues
abbrev pub with_send : Account → FreeStack → List ℕ → List ℕ → List ℕ → List ℕ → Account
with_send a free hands sent clean tx =
    record {
      pool = a.pool;
      entries = a.entries;
      size = a.size;
      receives = a.receives;
      sends = a.sends;
      free = free;
      hands = hands;
      started = a.started;
      rx = a.rx;
      slots = a.slots;
      sent = sent;
      clean = clean;
      tx = tx;
    }
