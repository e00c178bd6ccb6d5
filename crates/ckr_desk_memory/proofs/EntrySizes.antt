-- How many bytes an entry has: as many wherever it ends.
use Rattle.std.proofs.Common.{◌≡◌, ◌+◌, ℕ, suc, Bool, true, false, List, [], ◌∷◌, length, map, refl, ap, sym, ◌∙◌, Option, Some, None, length-append}
use Rattle.std.specs.Prelude.{if◌then◌else◌}
use Rattle.std.specs.Option.{is_some, option_map, option_map_or}
use Rattle.std.proofs.lemmas.Bool.{false≢true}
use Rattle.ckr_entry.specs.declared.point.Mark.{Mark}
use Rattle.ckr_entry.specs.declared.point.Present.{Present}
use Rattle.ckr_entry.specs.Entry.{spelling}
use Rattle.ckr_entry.specs.Numbers.{given_spell}
use Rattle.ckr_entry.specs.Sets.{mark, marks, present}
use Rattle.ckr_fields.specs.Fields.{ds_name}
use Rattle.ckr_library.specs.NameMaps.{Name, Named, entry_at, with_entry}
use Rattle.ckr_library.proofs.Named.{viewed, viewed-with_entry}
use Rattle.ckr_meaning.specs.EffectiveJob.{OwnedStep, is_among, names_of_job}
use Rattle.ckr_points.specs.Marks.{carried_marks, mark_at, mark_now, marked_under, marks_now, own_names, present_of}
use Rattle.ckr_points.specs.Rows.{RunRow, TableSet, TablesModel}
use Rattle.ckr_points.specs.Tables.{committed}
use Rattle.ckr_desk_plans.specs.Model.Commit.{output_names}
use Rattle.ckr_desk_turn.proofs.Checkpoints.Bytes.{spelling-size, marks-size, size_of, sum_sizes}
use Rattle.ckr_desk_plans.specs.Entries.{entry_bytes, entry_to}
use Rattle.ckr_desk_plans.specs.EntryMarks.{length_behind}
use Rattle.ckr_desk_memory.specs.View.{RunningStepView}
use Rattle.ckr_desk_memory.proofs.Holders.Sets.{there-committed}

-- what a mark says of a data set has as many bytes of each
present-size : (one other : Present) (first second : Bool) → length (present.spell (record one { cataloged = first })) ≡ length (present.spell (record other { cataloged = second }))
present-size one other true true = refl
present-size one other true false = refl
present-size one other false true = refl
present-size one other false false = refl

-- a mark by whether its data set is there
mark-size : (one other : Named TableSet) (name : Name) → is_some (entry_at one name) ≡ is_some (entry_at other name) → size_of (mark_now one name) ≡ size_of (mark_now other name)
mark-size one other name same =
    length-append (ds_name.spell name) (given_spell present.spell (option_map present_of (entry_at one name)))
    ∙ ap (λ n. length (ds_name.spell name) + n) (by (entry_at one name) (entry_at other name) same)
    ∙ sym (length-append (ds_name.spell name) (given_spell present.spell (option_map present_of (entry_at other name))))
  where
    by : (first second : Option TableSet) → is_some first ≡ is_some second → length (given_spell present.spell (option_map present_of first)) ≡ length (given_spell present.spell (option_map present_of second))
    by None None e = refl
    by None (Some table) e = absurd (false≢true e)
    by (Some table) None e = absurd (false≢true (sym e))
    by (Some table) (Some next) e = ap suc (present-size (present_of table) (present_of next) table.set.cataloged next.set.cataloged)

under-sizes : (first second : Name → Mark) → ((name : Name) → size_of (first name) ≡ size_of (second name)) → (names : List Name) → viewed size_of (marked_under first names) ≡ viewed size_of (marked_under second names)
under-sizes first second same [] = refl
under-sizes first second same (name ∷ names) =
    viewed-with_entry size_of name (first name) (marked_under first names)
    ∙ ap (λ size. with_entry name size (viewed size_of (marked_under first names))) (same name)
    ∙ ap (with_entry name (size_of (second name))) (under-sizes first second same names)
    ∙ sym (viewed-with_entry size_of name (second name) (marked_under second names))

module _ (row : RunRow) (one other : Named TableSet) (same : (name : Name) → is_some (entry_at one name) ≡ is_some (entry_at other name)) where
  abbrev mark_in : Named TableSet → Name → Mark
  mark_in sets name =
      if is_among (own_names row) name then mark_now sets name
      else option_map_or (λ mark. mark) (mark_at (carried_marks row) name) (mark_now sets name)

  in-sizes : (name : Name) → size_of (mark_in one name) ≡ size_of (mark_in other name)
  in-sizes name = by (is_among (own_names row) name) (mark_at (carried_marks row) name)
    where
      by : (own : Bool) (carried : Option Mark)
          → size_of (if own then mark_now one name else option_map_or (λ mark. mark) carried (mark_now one name)) ≡ size_of (if own then mark_now other name else option_map_or (λ mark. mark) carried (mark_now other name))
      by true carried = mark-size one other name (same name)
      by false None = mark-size one other name (same name)
      by false (Some mark) = refl

  marks-same : length (marks.spell (marks_now row one)) ≡ length (marks.spell (marks_now row other))
  marks-same =
      marks-size (marked_under (mark_in one) (names_of_job row.job))
      ∙ ap (λ named. 2 + sum_sizes named) (under-sizes (mark_in one) (mark_in other) in-sizes (names_of_job row.job))
      ∙ sym (marks-size (marked_under (mark_in other) (names_of_job row.job)))

abbrev sets_with : Name → ℕ → TablesModel → RunRow → OwnedStep → RunningStepView → Named TableSet
sets_with check most tables row own on = committed (output_names row.job.root own) (map (length_behind (Some check) most on.sets.sets) (output_names row.job.root own)) tables.sets

-- the entry has as many bytes as with no end given
pub entry-size : (check : Name) (most : ℕ) (tables : TablesModel) (row : RunRow) (own : OwnedStep) (on : RunningStepView) → length (spelling (entry_to (Some check) most tables row own on)) ≡ entry_bytes check tables row own on
unfolding entry_to entry_bytes
entry-size check most tables row own on =
    spelling-size (entry_to (Some check) 0 tables row own on) (marks_now row (sets_with check most tables row own on)) (marks_now row (sets_with check 0 tables row own on))
    (marks-same row (sets_with check most tables row own on) (sets_with check 0 tables row own on)
    (λ name. there-committed (output_names row.job.root own) (map (length_behind (Some check) most on.sets.sets) (output_names row.job.root own)) tables.sets name
    ∙ sym (there-committed (output_names row.job.root own) (map (length_behind (Some check) 0 on.sets.sets) (output_names row.job.root own)) tables.sets name)))
