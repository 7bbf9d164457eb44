-- A take and a release leave a sound account sound; a taken id is in its range.
use Prim.Native.Nat.{ℕ, ◌-◌, ◌<◌}
use mathlib.Core.Path.{◌≡◌}
use mathlib.Core.Bool.{true}
use native.Mathlib.Omega.{arith}
use borrow.Author.Tests.{ltb-true}
use Rattle.limits.specs.Limits.{ENTRIES}
use Rattle.pool.specs.declared.Handle.{Handle}
use Rattle.rules.specs.declared.Account.{Account}
use Rattle.rules.specs.Verdict.{Done}
use Rattle.rules.specs.Answers.{Taken}
use Rattle.rules.specs.Sound.{sound, Full}
use Rattle.rules.specs.Refusals.{take_verdict}
use Rattle.rules.specs.Packets.{take_call, release_call}
use Rattle.rules.proofs.Facts.{bounds, stack-known}
use Rattle.rules.proofs.Sound.{sound-means, means-sound}
use Rattle.rules.proofs.Verdicts.{not_done, verdict-holds}
use Rattle.rules.proofs.Calls.{take_done, take-keeps, release-keeps}
use Rattle.tally.specs.Tally.{Memory, last_handle, take_answer, release_answer}

module _ {a : Account} (full : Full a) (e : sound a ≡ true) where
  pub take-stays : (size : ℕ) → sound (take_call a size).account ≡ true
  take-stays size = means-sound _ (take-keeps full (sound-means a e) size).1

  pub release-stays : (h : Handle) → sound (release_call a h).account ≡ true
  release-stays h = means-sound _ (release-keeps full (sound-means a e) h).1

  -- a taken id is an entry's
  pub taken-known : (size : ℕ) → (take_call a size).verdict ≡ Done → (take_call a size).handle.id < ENTRIES
  unfolding take_call
  taken-known size =
      verdict-holds (λ (r : Taken). r.verdict ≡ Done → r.handle.id < ENTRIES) (take_verdict a size) _ _
      (λ done d. omega (arith, bounds a e, stack-known a e (a.free.depth - 1) (omega (arith, ltb-true 0 _ (take_done a size done).2))))
      (λ why refused d. absurd (not_done why d))

  -- ---- the same of what the records answer

  pub take-answer : (size : ℕ) (m : Memory) → sound (take_answer a size m).answer.account ≡ true
  unfolding take_answer
  take-answer size m = take-stays size

  pub release-answer : (id : ℕ) (m : Memory) → sound (release_answer a id m).account ≡ true
  unfolding release_answer
  release-answer id m = release-stays (last_handle m id)
