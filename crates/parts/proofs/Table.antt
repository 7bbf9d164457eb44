-- A table whose rows are the parts, each a pair of how often it is made and its templates: what stands at a place of it. Assumes nothing.
use Prim.Native.Nat.{ℕ, ◌<◌}
use mathlib.Core.Path.{◌≡◌, sym}
use mathlib.Core.List.{List, [], map}
use lib.ListN.{length, get_or}
use Rattle.std.proofs.Common.{Bor}
use Rattle.std.proofs.lemmas.List.{get_or-map}
use Rattle.parts.specs.declared.Template.{Template}
use Rattle.parts.specs.declared.Times.{Times}
use Rattle.parts.specs.declared.Times.TheVariants.{Once}

abbrev pub Row : Type 0
Row = Times × Bor (List Template)

abbrev pub times : Row → Times
times row = row.0

abbrev pub items : Row → List Template
items row = row.1.now

module _ (table : List Row) (k : ℕ) (d : Row) (h : k < length table) where
  pub times-at : (get_or table k d).0 ≡ get_or (map times table) k Once
  times-at = sym (get_or-map times table k d Once h)

  pub items-at : (get_or table k d).1.now ≡ get_or (map items table) k []
  items-at = sym (get_or-map items table k d [] h)
