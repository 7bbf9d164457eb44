-- How the test goes about it: each id of each list is marked once, and in the end every id that is not out has a mark.
-- proofs/Marks.antt shows that this is soundness.
use Rattle.std.specs.Prelude.{ℕ, zero, suc, ◌≤◌, ◌≡◌, Bool, true, false, List, [], ◌∷◌, get_or, set, replicate, eqb, ltb, leb}
use Rattle.limits.specs.Limits.{ENTRIES}
use Rattle.laws.specs.Test.{both, either, every}
use Rattle.pool.specs.Hands.{HAND-OUT}
use Rattle.rules.specs.declared.Account.{Account}
use Rattle.rules.specs.Account.{list_of}
use Rattle.rules.specs.Sound.{in_range, ring_placed, queues_placed, hands}

-- whether all went well so far, and the marks
pub record Marks : Type 0 where
  pub ok : Bool
  pub seen : List ℕ

-- an id that may stand in a hand's list: one of the account's, recorded in that hand, not marked yet
abbrev pub markable : ℕ → List ℕ → ℕ → List ℕ → ℕ → Bool
markable entries hands hand seen id = both (ltb id entries) (both (eqb (get_or hands id 0) hand) (eqb (get_or seen id 0) 0))

-- the ids of a list are marked, up to the first that may not stand there
unfoldable pub mark_all : ℕ → List ℕ → ℕ → List ℕ → List ℕ → Marks
mark_all entries hands hand [] seen = record { ok = true; seen = seen }
mark_all entries hands hand (id ∷ l) seen =
    elim (markable entries hands hand seen id) [ true ↦ mark_all entries hands hand l (set seen id 1) | false ↦ record { ok = false; seen = seen } ]

-- one list after another, while all goes well
abbrev pub mark_next : Account → ℕ → Marks → Marks
mark_next a hand m = elim m.ok [ true ↦ mark_all a.entries a.hands hand (list_of a hand) m.seen | false ↦ m ]

-- the lists of the first n hands
unfoldable pub mark_lists : Account → ℕ → Marks
mark_lists a zero = record { ok = true; seen = replicate ENTRIES 0 }
mark_lists a (suc hand) = mark_next a hand (mark_lists a hand)

-- every id is out or has its mark
unfoldable pub settled : ℕ → List ℕ → List ℕ → Bool
settled entries hands seen = every entries (λ id. either (eqb (get_or hands id 0) HAND-OUT) (eqb (get_or seen id 0) 1))

unfoldable pub in_places : Account → Bool
in_places a = both (mark_lists a (hands a)).ok (settled a.entries a.hands (mark_lists a (hands a)).seen)

-- the tests that come before: numbers, the queues' indices, the free count, the receive index
abbrev pub numbered : Account → Bool
numbered a =
    both (in_range a.entries a.size a.receives a.sends)
    (both (queues_placed a.sends a.clean a.tx) (both (leb a.free.depth a.entries) (ring_placed a.started a.rx a.receives)))

-- the same as facts
pub record Numbered (a : Account) : Type 0 where
  pub numbers : in_range a.entries a.size a.receives a.sends ≡ true
  pub free-count : a.free.depth ≤ a.entries
  pub ring : ring_placed a.started a.rx a.receives ≡ true
  pub queues : queues_placed a.sends a.clean a.tx ≡ true
