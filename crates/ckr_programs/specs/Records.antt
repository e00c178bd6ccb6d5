-- What a program makes of one record.
use Rattle.std.specs.Prelude.{ℕ, ◌-◌, ◌==◌, ◌||◌, not, Bool, false, if◌then◌else◌, List, drop, nat_eq}
use Rattle.std.specs.List.{list_all, starts_with}
use Rattle.ckr_base.specs.Grammar.{is_digit}
use Rattle.ckr_base.specs.Words.{number_in_digits}
use Rattle.ckr_base.specs.Columns.{columns}
use Rattle.ckr_jcl.specs.declared.deck.Kind.{Kind}
use Rattle.ckr_jcl.specs.declared.deck.Kind.TheVariants.{Print}
use Rattle.ckr_jcl.specs.declared.deck.Parm.{Parm}

-- the columns from COL on equal VAL; a column beyond the record never equals
abbrev pub is_selected : Parm → List ℕ → Bool
is_selected parm bytes = starts_with nat_eq (drop (parm.col - 1) bytes) parm.val.items

-- PRINT with SUM
abbrev pub is_summing : Kind → Parm → Bool
is_summing Print parm = not (parm.sum.0 == 0)
is_summing _ parm = false

-- the columns of the SUM field
abbrev pub sum_field : Parm → List ℕ → List ℕ
sum_field parm bytes = columns parm.sum.0 parm.sum.1 bytes

-- a record with a byte in the SUM field that isn't a digit can't be taken
abbrev pub can_take : Kind → Parm → List ℕ → Bool
can_take kind parm bytes = not (is_summing kind parm) || list_all is_digit (sum_field parm bytes)

-- what a record adds to the sum
abbrev pub amount_of : Kind → Parm → List ℕ → ℕ
amount_of kind parm bytes = if is_summing kind parm then number_in_digits (sum_field parm bytes) else 0
