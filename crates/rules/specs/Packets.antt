-- Document 01, "Pool rules": what each call on packets answers and leaves.
use Rattle.std.specs.Prelude.{ℕ, zero, suc, ◌+◌, ◌-◌, ◌*◌, min, true, false, List, map, length, get_or, set, take, drop, replicate, eqb, ltb, leb}
use Rattle.std.proofs.lemmas.List.Edits.{sets}
use Rattle.std.specs.Borrow.{Bor}
use Rattle.limits.specs.Limits.{SENDS, HEADROOM}
use Rattle.laws.specs.Test.{pick}
use Rattle.laws.specs.Occurs.{occurs, up_from}
use Rattle.pool.specs.declared.FreeStack.{FreeStack}
use Rattle.pool.specs.declared.Handle.{Handle}
use Rattle.pool.specs.Stack.{top, popped, pushed}
use Rattle.pool.specs.Hands.{HAND-FREE, HAND-OUT}
use Rattle.rules.specs.declared.Account.{Account}
use Rattle.rules.specs.Verdict.{Done, Refused}
use Rattle.rules.specs.Answers.{Kept, Taken, Batch, Truncated, Counts}
use Rattle.rules.specs.Numbers.{on_verdict}
use Rattle.rules.specs.Handles.{Handles, put_handle, no_handle}
use Rattle.rules.specs.Account.{receive_list, waiting, opened, no_account, with_pool}
use Rattle.rules.specs.Refusals.{size_given, fresh_verdict, counts_verdict, take_verdict, batch_of, batch_verdict, handle_verdict, view_verdict, clone_verdict, headroom_verdict}

-- ---- fresh, and the counts

unfoldable pub fresh_call : ℕ → ℕ → ℕ → ℕ → ℕ → Kept
fresh_call pool entries size receives sends =
    on_verdict (fresh_verdict entries size receives sends)
    (record { verdict = Done; account = opened pool entries (size_given size) receives sends })
    (λ why. record { verdict = Refused why; account = no_account })

-- what each queue has pending; a queue that there is not has none
abbrev pub counts_of : ℕ → List ℕ → List ℕ → List ℕ
counts_of sends clean tx = map (λ q. pick (ltb q sends) (waiting (get_or tx q 0) (get_or clean q 0)) 0) (up_from 0 SENDS)

unfoldable pub counts_call : Account → Counts
counts_call a =
    on_verdict (counts_verdict a)
    (record {
      verdict = Done;
      free = a.free.depth;
      receive = length (receive_list a);
      send = counts_of a.sends a.clean a.tx;
      out = occurs HAND-OUT (take a.entries a.hands);
    })
    (λ why. record { verdict = Refused why; free = 0; receive = 0; send = replicate SENDS 0; out = 0 })

-- ---- one packet

-- a taken packet has offset 32 and the given length
abbrev pub packet_of : ℕ → ℕ → ℕ → Handle
packet_of pool id len = record { pool = pool; id = id; offset = HEADROOM; length = len }

-- the top of the free stack goes to the application
unfoldable pub taken : Account → Account
taken a = with_pool a (popped a.free) (set a.hands (top a.free) HAND-OUT)

unfoldable pub take_call : Account → ℕ → Taken
take_call a len =
    on_verdict (take_verdict a len)
    (record { verdict = Done; handle = packet_of a.pool (top a.free) len; account = taken a })
    (λ why. record { verdict = Refused why; handle = no_handle; account = a })

-- ---- a batch

-- what a batch works on, and how many it has taken
pub record Taking : Type 0 where
  pub free : FreeStack
  pub hands : List ℕ
  pub lists : Handles
  pub count : ℕ

abbrev pub one_more : ℕ → ℕ → Taking → Taking
one_more pool len w =
    record {
      free = popped w.free;
      hands = set w.hands (top w.free) HAND-OUT;
      lists = put_handle w.lists w.count (packet_of pool (top w.free) len);
      count = w.count + 1;
    }

-- until n are taken or the stack is empty
unfoldable pub take_many : ℕ → ℕ → ℕ → Taking → Taking
take_many pool len zero w = w
take_many pool len (suc n) w = elim (eqb w.free.depth 0) [ true ↦ w | false ↦ take_many pool len n (one_more pool len w) ]

-- an oversize batch takes none
unfoldable pub batch_rule : ℕ → ℕ → ℕ → ℕ → Taking → Taking
batch_rule pool size n len w = pick (leb len (size - HEADROOM)) (take_many pool len (batch_of n) w) w

abbrev pub taking : List ℕ → ℕ → List ℕ → Handles → ℕ → Taking
taking ids depth hands lists count = record { free = record { ids = ids; depth = depth }; hands = hands; lists = lists; count = count }

abbrev pub taking_of : Account → Handles → Taking
taking_of a lists = taking a.free.ids a.free.depth a.hands lists 0

-- all that a batch leaves
pub record Batched : Type 0 where
  pub answer : Batch
  pub lists : Handles

abbrev pub batched : Batch → Handles → Batched
batched answer lists = record { answer = answer; lists = lists }

abbrev pub batch_end : Account → Taking → Batched
batch_end a w =
    record { answer = record { verdict = Done; count = w.count; account = with_pool a w.free w.hands }; lists = w.lists }

unfoldable pub batch_call : Account → ℕ → ℕ → Handles → Batched
batch_call a n len lists =
    on_verdict (batch_verdict a n lists)
    (batch_end a (batch_rule a.pool a.size n len (taking_of a lists)))
    (λ why. record { answer = record { verdict = Refused why; count = 0; account = a }; lists = lists })

-- ---- release, truncate

-- release pushes the id
unfoldable pub released : Account → ℕ → Account
released a id = with_pool a (pushed a.free id) (set a.hands id HAND-FREE)

unfoldable pub release_call : Account → Handle → Kept
release_call a h =
    on_verdict (handle_verdict a h)
    (record { verdict = Done; account = released a h.id })
    (λ why. record { verdict = Refused why; account = a })

-- truncate takes the lesser length
abbrev pub shortened : Handle → ℕ → Handle
shortened h len = record { pool = h.pool; id = h.id; offset = h.offset; length = min h.length len }

unfoldable pub truncate_call : Account → Handle → ℕ → Truncated
truncate_call a h len =
    on_verdict (handle_verdict a h)
    (record { verdict = Done; handle = shortened h len })
    (λ why. record { verdict = Refused why; handle = h })

-- ---- packet memory

-- a packet's place in packet memory: from id × entry size + offset
abbrev pub place_of : ℕ → ℕ → ℕ → ℕ
place_of size id offset = id * size + offset

-- so many bytes from a place on
abbrev pub part : ℕ → ℕ → List ℕ → List ℕ
part at len memory = take len (drop at memory)

-- all that a clone leaves
pub record Cloned : Type 0 where
  pub answer : Taken
  pub memory : List ℕ

abbrev pub cloned_as : Taken → List ℕ → Cloned
cloned_as answer memory = record { answer = answer; memory = memory }

-- a packet of the same length, with its bytes
abbrev pub copied : ℕ → Handle → ℕ → List ℕ → List ℕ
copied size h id memory =
    sets memory (place_of size id HEADROOM) (part (place_of size h.id h.offset) h.length memory)

unfoldable pub clone_call : Account → Handle → List ℕ → Cloned
clone_call a h memory =
    on_verdict (clone_verdict a h (length memory))
    (record {
      answer = record { verdict = Done; handle = packet_of a.pool (top a.free) h.length; account = taken a };
      memory = copied a.size h (top a.free) memory;
    })
    (λ why. record { answer = record { verdict = Refused why; handle = no_handle; account = a }; memory = memory })

-- a lent slice as a caller sees it: where it lies, and its bytes
pub record Lent : Type 0 where
  pub place : ℕ × ℕ
  pub bytes : List ℕ

abbrev pub lent : Bor (List ℕ) → Lent
lent r = record { place = r.ref_ptr; bytes = r.now }

-- a part of it: so many bytes from a place on, where they lie
abbrev pub within : ℕ → ℕ → Lent → Lent
within at len m = record { place = (m.place.0, at + m.place.1); bytes = part at len m.bytes }

-- the empty part at the start of packet memory
abbrev pub no_part : Lent → Lent
no_part m = within 0 0 m

-- a packet's view is its own part; refused, it is the empty part
unfoldable pub view_call : Account → Handle → Lent → Lent
view_call a h m =
    on_verdict (view_verdict a h (length m.bytes))
    (within (place_of a.size h.id h.offset) h.length m)
    (λ why. no_part m)

-- the headroom is the part just before the packet; refused, it is the empty part
unfoldable pub headroom_call : Account → Handle → ℕ → Lent → Lent
headroom_call a h asked m =
    on_verdict (headroom_verdict a h asked (length m.bytes))
    (within (place_of a.size h.id h.offset - asked) asked m)
    (λ why. no_part m)
