-- MASTER: the records of each key, and what they leave.
use Rattle.std.specs.Prelude.{ℕ, ◌==◌, Bool, true, false, if◌then◌else◌, List, [], ◌∷◌, ◌++◌, map, fold, drop, Option, None, Some}
use Rattle.std.specs.Option.{option_map, option_to_list}
use Rattle.ckr_base.specs.declared.programs.Output.{Output}
use Rattle.ckr_base.specs.declared.programs.Output.TheVariants.{Main, Rejects}
use Rattle.ckr_base.specs.declared.programs.Write.{Write}
use Rattle.ckr_match.specs.declared.steps.RecordOutcome.{RecordOutcome}
use Rattle.ckr_match.specs.InputOrder.{Taken, Keys}
use Rattle.ckr_match.specs.Images.{same_key, code_of}

-- a write to an output
abbrev pub write_to : Output → List ℕ → Write
write_to output image = record { output = output; image = image }

-- what is held behind a record, and whether the record is rejected
abbrev pub outcome : Option (List ℕ) → Bool → RecordOutcome
outcome held rejected = record { held = held; rejected = rejected }

-- A (65) with none held, C (67) and D (68) with one held; anything else is rejected
abbrev pub outcome_of_code : ℕ → List ℕ → Option (List ℕ) → RecordOutcome
outcome_of_code code image None = if code == 65 then outcome (Some image) false else outcome None true
outcome_of_code code image (Some held) =
    if code == 67 then outcome (Some image) false
    else (if code == 68 then outcome None false else outcome (Some held) true)

-- a master is held
abbrev pub outcome_of : Bool → List ℕ → Option (List ℕ) → RecordOutcome
outcome_of false bytes held = outcome (Some bytes) false
outcome_of true bytes held = outcome_of_code (code_of bytes) (drop 1 bytes) held

abbrev pub reject_if : Bool → List ℕ → List (List ℕ)
reject_if rejected bytes = if rejected then bytes ∷ [] else []

-- what stands of a key: the master that is held, and the transactions that were rejected
pub record Balance : Type 0 where
  pub held : Option (List ℕ)
  pub rejected : List (List ℕ)

abbrev pub nothing_held : Balance
nothing_held = record { held = None; rejected = [] }

abbrev pub after_taken : Balance → Taken → Balance
after_taken balance taken =
    let next = outcome_of taken.second taken.bytes balance.held in
    record { held = next.held; rejected = balance.rejected ++ reject_if next.rejected taken.bytes }

-- the key's master, if there is one, with the key's transactions applied in order
abbrev pub balance_of : List Taken → Balance
balance_of group = fold after_taken nothing_held group

-- a record before groups: it joins the first one if that has its key
abbrev pub onto_groups : Keys → Taken → List (List Taken) → List (List Taken)
onto_groups keys taken [] = (taken ∷ []) ∷ []
onto_groups keys taken ([] ∷ groups) = (taken ∷ []) ∷ [] ∷ groups
onto_groups keys taken ((first ∷ rest) ∷ groups) =
    if same_key keys taken first
    then (taken ∷ first ∷ rest) ∷ groups
    else (taken ∷ []) ∷ (first ∷ rest) ∷ groups

-- the records of each key, in the order of the keys
abbrev pub groups_of : Keys → List Taken → List (List Taken)
groups_of keys [] = []
groups_of keys (taken ∷ rest) = onto_groups keys taken (groups_of keys rest)

abbrev pub write_held : Option (List ℕ) → List Write
write_held held = option_to_list (option_map (write_to Main) held)

-- the rejected ones come first, then what is held
abbrev pub group_writes : Bool → Balance → List Write
group_writes with_held balance =
    map (write_to Rejects) balance.rejected ++ (if with_held then write_held balance.held else [])

-- for the last key, what is held is written only if closed
abbrev pub master_writes : Bool → List (List Taken) → List Write
master_writes closed [] = []
master_writes closed (group ∷ []) = group_writes closed (balance_of group)
master_writes closed (group ∷ next ∷ groups) =
    group_writes true (balance_of group) ++ master_writes closed (next ∷ groups)
