-- Names that were met, in a set.
use Rattle.std.specs.Prelude.{ℕ, ◌&&◌, Bool, false, List, Option, Some}
use Rattle.ckr_jcl_faults.specs.declared.deck_text.DdText.{DdText}
use Rattle.ckr_jcl_decks.specs.DeckFaults.{is_worked}
use Rattle.ckr_jcl_operands.specs.declared.dd_values.DsnText.{DsnText}
use Rattle.ckr_jcl_operands.specs.declared.dd_values.DsnText.TheVariants.{Permanent, Passing}
use Rattle.std.specs.BTreeSet as sorted
use Rattle.std.specs.BTreeSet.{BTreeSet}
use Rattle.std.specs.Cmp.Lexicographic.{slice_cmp}
use Rattle.std.specs.Ordering.{nat_cmp}

unfoldable pub was_met : BTreeSet (List ℕ) → List ℕ → Bool
was_met names name = sorted.contains (slice_cmp nat_cmp) names name

-- a data set name, where it is well formed
abbrev pub dsn_met : BTreeSet (List ℕ) → BTreeSet (List ℕ) → Option DsnText → Bool
dsn_met permanent passing (Some (Permanent name)) = was_met permanent name
dsn_met permanent passing (Some (Passing name)) = was_met passing name
dsn_met permanent passing _ = false

-- a DD that a program reads, writes or updates, and whose data set name was met
abbrev pub is_met_dd : BTreeSet (List ℕ) → BTreeSet (List ℕ) → DdText → Bool
is_met_dd permanent passing dd = is_worked dd.role && dsn_met permanent passing dd.dsn
