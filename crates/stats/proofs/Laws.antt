-- One outcome for each call.
use Rattle.std.proofs.Common.{◌≡◌, ℕ, List, sym, ◌∙◌}
use Rattle.stats.specs.declared.Stats.{Stats}
use Rattle.stats.specs.Sums.{byte_count, with_more}

pub byte-count-unique : (low high r s : ℕ) → r ≡ byte_count low high → s ≡ byte_count low high → r ≡ s
byte-count-unique low high r s p q = p ∙ sym q

pub added-unique : (stats : Stats) (words : List ℕ) (r s : Stats) → r ≡ with_more stats words → s ≡ with_more stats words → r ≡ s
added-unique stats words r s p q = p ∙ sym q
