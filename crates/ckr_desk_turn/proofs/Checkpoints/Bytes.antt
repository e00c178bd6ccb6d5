-- How many bytes an entry has: as many, whatever the lengths of its data sets are.
use Rattle.std.proofs.Common.{◌≤◌, ◌≡◌, ◌+◌, ℕ, suc, Bool, true, false, List, [], ◌∷◌, ◌++◌, length, map, refl, ap, sym, ◌∙◌, Option, Some, None, arith, length-append}
use Rattle.std.specs.Prelude.{if◌then◌else◌}
use Rattle.std.specs.Int.{w16, to_be_bytes}
use Rattle.std.specs.Option.{option_map, option_map_or}
use Rattle.ckr_entry.specs.declared.point.Mark.{Mark}
use Rattle.ckr_entry.specs.Entry.{spelling}
use Rattle.ckr_entry.specs.Heads.{head}
use Rattle.ckr_entry.specs.Numbers.{given_spell}
use Rattle.ckr_entry.specs.Parts.{Entry, parts_of_entry}
use Rattle.ckr_entry.specs.Sets.{mark, marks, passed, present}
use Rattle.ckr_entry.specs.States.{state_spell}
use Rattle.ckr_fields.specs.Fields.{ds_name, spell_each}
use Rattle.ckr_library.specs.NameMaps.{Name, Named, entry_at, with_changed, with_entry}
use Rattle.ckr_library.proofs.Named.{at-with_changed-keeps, viewed, viewed-with_entry}
use Rattle.ckr_meaning.specs.EffectiveJob.{is_among, names_of_job}
use Rattle.ckr_meaning.specs.StepRun.{StepStart}
use Rattle.ckr_points.specs.Marks.{carried_marks, mark_at, mark_now, marked_under, marks_now, own_names, present_of}
use Rattle.ckr_points.specs.Rows.{RunRow, TableSet, cut_set}
use Rattle.ckr_points.specs.Tables.{committed}
use Rattle.ckr_points_library.specs.Commit.{output_names}
use Rattle.ckr_desk_turn.specs.Checkpoints.{entry_ending, lengths_with}
use Rattle.ckr_desk_turn.specs.Units.{StepProgress}

-- ---- marks, seen as the numbers of their bytes

abbrev pub size_of : Mark → ℕ
size_of m = length ((mark None).spell m)

-- what a data set adds to its mark
abbrev table_size : TableSet → ℕ
table_size table = length (present.spell (present_of table))

abbrev given_size : Option ℕ → ℕ
given_size None = 1
given_size (Some size) = suc size

given-size : (entry : Option TableSet) → length (given_spell present.spell (option_map present_of entry)) ≡ given_size (option_map table_size entry)
given-size None = refl
given-size (Some table) = refl

mark-size : (sets : Named TableSet) (name : Name) → size_of (mark_now sets name) ≡ length (ds_name.spell name) + given_size (option_map table_size (entry_at sets name))
mark-size sets name =
    length-append (ds_name.spell name) (given_spell present.spell (option_map present_of (entry_at sets name)))
    ∙ ap (λ n. length (ds_name.spell name) + n) (given-size (entry_at sets name))

-- the data sets with other lengths add as much
abbrev SameSizes : Named TableSet → Named TableSet → Type 0
SameSizes one other = (name : Name) → option_map table_size (entry_at one name) ≡ option_map table_size (entry_at other name)

committed-sizes : (names : List Name) (lengths : List ℕ) (sets : Named TableSet) → SameSizes (committed names lengths sets) sets
committed-sizes [] lengths sets name = refl
committed-sizes (first ∷ names) [] sets name = refl
committed-sizes (first ∷ names) (most ∷ lengths) sets name =
    committed-sizes names lengths (with_changed first (cut_set most) sets) name
    ∙ at-with_changed-keeps table_size first name (cut_set most) sets (λ table. refl)

module _ (row : RunRow) (one other : Named TableSet) (same : SameSizes one other) where
  abbrev mark_in : Named TableSet → Name → Mark
  mark_in sets name =
      if is_among (own_names row) name then mark_now sets name
      else option_map_or (λ mark. mark) (mark_at (carried_marks row) name) (mark_now sets name)

  now-sizes : (name : Name) → size_of (mark_now one name) ≡ size_of (mark_now other name)
  now-sizes name = mark-size one name ∙ ap (λ o. length (ds_name.spell name) + given_size o) (same name) ∙ sym (mark-size other name)

  in-sizes : (name : Name) → size_of (mark_in one name) ≡ size_of (mark_in other name)
  in-sizes name = by (is_among (own_names row) name) (mark_at (carried_marks row) name)
    where
      by : (own : Bool) (carried : Option Mark) → size_of (if own then mark_now one name else option_map_or (λ mark. mark) carried (mark_now one name)) ≡ size_of (if own then mark_now other name else option_map_or (λ mark. mark) carried (mark_now other name))
      by true carried = now-sizes name
      by false None = now-sizes name
      by false (Some mark) = refl

  under-sizes : (names : List Name) → viewed size_of (marked_under (mark_in one) names) ≡ viewed size_of (marked_under (mark_in other) names)
  under-sizes [] = refl
  under-sizes (name ∷ names) =
      viewed-with_entry size_of name (mark_in one name) (marked_under (mark_in one) names)
      ∙ ap (λ size. with_entry name size (viewed size_of (marked_under (mark_in one) names))) (in-sizes name)
      ∙ ap (with_entry name (size_of (mark_in other name))) (under-sizes names)
      ∙ sym (viewed-with_entry size_of name (mark_in other name) (marked_under (mark_in other) names))

-- ---- all marks

abbrev pub sum_sizes : Named ℕ → ℕ
sum_sizes [] = 0
sum_sizes (first ∷ rest) = first.1 + sum_sizes rest

pub each-sizes : (named : Named Mark) → length (spell_each (mark None).spell (map (λ entry. entry.1) named)) ≡ sum_sizes (viewed size_of named)
each-sizes [] = refl
each-sizes (first ∷ rest) =
    length-append ((mark None).spell first.1) (spell_each (mark None).spell (map (λ entry. entry.1) rest))
    ∙ ap (λ n. size_of first.1 + n) (each-sizes rest)

pub marks-size : (named : Named Mark) → length (marks.spell (map (λ entry. entry.1) named)) ≡ 2 + sum_sizes (viewed size_of named)
marks-size named =
    length-append (to_be_bytes w16 (length (map (λ entry. entry.1) named))) (spell_each (mark None).spell (map (λ entry. entry.1) named))
    ∙ ap (λ n. 2 + n) (each-sizes named)

marks-same : (row : RunRow) (one other : Named TableSet) → SameSizes one other → length (marks.spell (marks_now row one)) ≡ length (marks.spell (marks_now row other))
marks-same row one other same =
    marks-size (marked_under (mark_in row one other same one) (names_of_job row.job))
    ∙ ap (λ named. 2 + sum_sizes named) (under-sizes row one other same (names_of_job row.job))
    ∙ sym (marks-size (marked_under (mark_in row one other same other) (names_of_job row.job)))

-- ---- the entry

parts-size : (front state marks other rest : List ℕ) → length marks ≡ length other → length (front ++ (state ++ (marks ++ rest))) ≡ length (front ++ (state ++ (other ++ rest)))
parts-size front state marks other rest same =
    omega (
      arith,
      length-append front (state ++ (marks ++ rest)),
      length-append state (marks ++ rest),
      length-append marks rest,
      length-append front (state ++ (other ++ rest)),
      length-append state (other ++ rest),
      length-append other rest,
    )

pub spelling-size : (e : Entry) (one other : List Mark) → length (marks.spell one) ≡ length (marks.spell other) → length (spelling (record e { marks = one })) ≡ length (spelling (record e { marks = other }))
spelling-size e one other same =
    parts-size (head.spell (parts_of_entry e).0) (state_spell e.state) (marks.spell one) (marks.spell other) (passed.spell e.passed) same

marks-some : (items : List Mark) → 2 ≤ length (marks.spell items)
marks-some items =
    let e : length (marks.spell items) ≡ 2 + length (spell_each (mark None).spell items) = length-append (to_be_bytes w16 (length items)) (spell_each (mark None).spell items) in
    omega (arith, e)

parts-some : (front state marks rest : List ℕ) → 2 ≤ length marks → 1 ≤ length (front ++ (state ++ (marks ++ rest)))
parts-some front state marks rest some =
    omega (arith, length-append front (state ++ (marks ++ rest)), length-append state (marks ++ rest), length-append marks rest, some)

-- an entry has a byte at least
pub spelling-some : (e : Entry) → 1 ≤ length (spelling e)
spelling-some e = parts-some (head.spell (parts_of_entry e).0) (state_spell e.state) (marks.spell e.marks) (passed.spell e.passed) (marks-some e.marks)

abbrev sets_with : Named TableSet → StepStart → StepProgress → ℕ → Named TableSet
sets_with sets start step most = committed (output_names start.root start.owned) (lengths_with sets start step.writes most) sets

pub ending-size : (sets : Named TableSet) (row : RunRow) (start : StepStart) (step : StepProgress) (most other : ℕ) → length (spelling (entry_ending most sets row start step)) ≡ length (spelling (entry_ending other sets row start step))
ending-size sets row start step most other =
    spelling-size (entry_ending other sets row start step) (marks_now row (sets_with sets start step most)) (marks_now row (sets_with sets start step other))
    (marks-same row (sets_with sets start step most) (sets_with sets start step other)
    (λ name. committed-sizes (output_names start.root start.owned) (lengths_with sets start step.writes most) sets name
    ∙ sym (committed-sizes (output_names start.root start.owned) (lengths_with sets start step.writes other) sets name)))
