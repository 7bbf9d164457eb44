-- What the tests of an account's numbers and indices mean.
use Rattle.std.proofs.Common.{◌≡◌, Bool, true, false, leb, refl, sym}
use Rattle.std.proofs.lemmas.Bool.{leb-true}
use Rattle.laws.specs.Test.{both, every}
use Rattle.laws.proofs.Test.{both_left, both_right, false-not-true}
use Rattle.rules.specs.declared.Account.{Account}
use Rattle.rules.specs.Account.{list_of}
use Rattle.rules.specs.Sound.{all_below, hands, in_place, in_range, ring_placed, queues_placed, sound}
use Rattle.sound.specs.Marks.{numbered, Numbered}

pub numbered-means : (a : Account) → numbered a ≡ true → Numbered a
numbered-means a e =
    let rest = both_right (in_range a.entries a.size a.receives a.sends) _ e in
    let last = both_right (queues_placed a.sends a.clean a.tx) _ rest in
    record {
      numbers = both_left (in_range a.entries a.size a.receives a.sends) _ e;
      free-count = leb-true a.free.depth a.entries (both_left (leb a.free.depth a.entries) _ last);
      ring = both_right (leb a.free.depth a.entries) _ last;
      queues = both_left (queues_placed a.sends a.clean a.tx) _ rest;
    }

-- an account that fails one of them is not sound
fewer : (numbers count ids ring queues places : Bool)
    → both numbers (both queues (both count ring)) ≡ false → both numbers (both count (both ids (both ring (both queues places)))) ≡ false
fewer false count ids ring queues places h = refl
fewer true false ids ring queues places h = refl
fewer true true false ring queues places h = refl
fewer true true true false queues places h = refl
fewer true true true true false places h = refl
fewer true true true true true places h = absurd (false-not-true (sym h))

pub not-numbered : (a : Account) → numbered a ≡ false → sound a ≡ false
unfolding sound
not-numbered a h =
    fewer (in_range a.entries a.size a.receives a.sends) (leb a.free.depth a.entries) (every (hands a) (λ hand. all_below a.entries (list_of a hand)))
    (ring_placed a.started a.rx a.receives) (queues_placed a.sends a.clean a.tx) (every a.entries (in_place a)) h
