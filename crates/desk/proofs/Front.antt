-- Unread bytes that stand in front stay there when a part behind them is written.
use Rattle.std.proofs.Common.{◌≡◌, ℕ, ◌+◌, ◌-◌, ◌≤◌, List, length, take, drop, sym, ap, ◌∙◌, le_refl, arith, take-take, drop-drop}
use Rattle.std.proofs.lemmas.List.{drop-take}
use Rattle.std.proofs.lemmas.Slice.{take-put_mid_below}
use borrow.Rule.Slice.PartMut.{put_mid}

module _ (bytes part : List ℕ) (from to k : ℕ) (front : from ≡ 0) (within : to ≤ length bytes) where
  pub kept : take (to - from) (drop from (put_mid to k bytes part)) ≡ take (to - from) (drop from bytes)
  kept =
      let all : to - 0 ≡ to = omega arith in
      rw (front, all) (take-put_mid_below to k bytes part to (le_refl to) within)

  pub kept-before : (many more : ℕ) → many ≡ to → take many (take (to + more - from) (drop from (put_mid to k bytes part))) ≡ take (to - from) (drop from bytes)
  kept-before many more few =
      let all : to - 0 ≡ to = omega arith in
      rw (few, front, all) (take-take to (to + more - 0) (put_mid to k bytes part) (omega arith) ∙ take-put_mid_below to k bytes part to (le_refl to) within)

-- what is unread behind the first so many unread bytes
pub behind : (bytes : List ℕ) (from to count : ℕ) → from + count ≤ to → take (to - (from + count)) (drop (from + count) bytes) ≡ drop count (take (to - from) (drop from bytes))
behind bytes from to count inside =
    let parts : to - from ≡ count + (to - (from + count)) = omega arith in
    sym (ap (λ j. drop count (take j (drop from bytes))) parts ∙ drop-take count _ (drop from bytes) ∙ ap (take (to - (from + count))) (drop-drop count from bytes))
