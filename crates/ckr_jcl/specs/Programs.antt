-- The programs: their names, and what each does with its DDs.
use Rattle.std.specs.Prelude.{ℕ, Bool, true, false, if◌then◌else◌, List, [], ◌∷◌, Option, codes}
use Rattle.std.specs.Option.{option_or}
use Rattle.ckr_jcl.specs.declared.deck.Kind.{Kind}
use Rattle.ckr_jcl.specs.declared.deck.Kind.TheVariants.{Copy, Select, Merge, Master, Update, Print, Br14}
use Rattle.ckr_jcl.specs.declared.deck.Role.{Role}
use Rattle.ckr_jcl.specs.declared.deck.Role.TheVariants.{Reads, Writes, Updates, Checkpoints, Unused}
use Rattle.ckr_cards.specs.Tables.{look_up, is_among, words}

abbrev pub one_input_programs : List (List ℕ × Kind)
one_input_programs = (codes "COPY", Copy) ∷ (codes "SELECT", Select) ∷ (codes "PRINT", Print) ∷ (codes "IEFBR14", Br14) ∷ []

abbrev pub two_input_programs : List (List ℕ × Kind)
two_input_programs = (codes "MERGE", Merge) ∷ (codes "MASTER", Master) ∷ (codes "UPDATE", Update) ∷ []

unfoldable pub program_named : List ℕ → Option Kind
program_named name = option_or (look_up one_input_programs name) (look_up two_input_programs name)

abbrev pub names_read : Kind → List (List ℕ)
names_read Copy = words (codes "SYSUT1")
names_read Select = words (codes "SYSUT1")
names_read Merge = words (codes "IN1 IN2")
names_read Master = words (codes "OLDMAST TRANS")
names_read Update = words (codes "TRANS")
names_read Print = words (codes "SYSUT1")
names_read Br14 = []

abbrev pub names_written : Kind → List (List ℕ)
names_written Copy = words (codes "SYSUT2")
names_written Select = words (codes "SYSUT2")
names_written Merge = words (codes "OUT")
names_written Master = words (codes "NEWMAST REJECTS")
names_written Update = words (codes "REJECTS")
names_written Print = words (codes "SYSPRINT")
names_written Br14 = []

abbrev pub names_updated : Kind → List (List ℕ)
names_updated Update = words (codes "MASTER")
names_updated _ = []

abbrev pub names_checkpointed : Kind → List (List ℕ)
names_checkpointed Br14 = []
names_checkpointed _ = words (codes "CHKDD")

unfoldable pub is_read_by : Kind → List ℕ → Bool
is_read_by kind name = is_among (names_read kind) name

unfoldable pub is_written_by : Kind → List ℕ → Bool
is_written_by kind name = is_among (names_written kind) name

unfoldable pub is_updated_by : Kind → List ℕ → Bool
is_updated_by kind name = is_among (names_updated kind) name

unfoldable pub is_checkpointed_by : Kind → List ℕ → Bool
is_checkpointed_by kind name = is_among (names_checkpointed kind) name

-- what a program does with a DD
unfoldable pub role_of : Kind → List ℕ → Role
role_of kind name =
    if is_read_by kind name then Reads
    else (if is_written_by kind name then Writes
    else (if is_updated_by kind name then Updates
    else (if is_checkpointed_by kind name then Checkpoints
    else Unused)))

abbrev pub is_unused : Role → Bool
is_unused Unused = true
is_unused _ = false
