-- What is judged of the entry at which a run goes on, by what was read there.
use Rattle.std.proofs.Common.{◌≡◌, ℕ, Bool, true, false, cond, List, Option, Result, Ok, Err, IfOk, refl, ap, sym, ◌∙◌, subst}
use Rattle.ckr_entry.specs.Entry.{IsEntry, entry_in}
use Rattle.ckr_entry.specs.Parts.{Entry}
use Rattle.ckr_jcl.specs.declared.deck.Kind.{Kind}
use Rattle.ckr_library.specs.Catalog.{ends_within}
use Rattle.ckr_points.specs.Rows.{KeptEntry}
use Rattle.ckr_rules.specs.declared.cases.Rule.{Rule}
use Rattle.ckr_rules.specs.declared.cases.Rule.TheVariants.{D3, D7}
use Rattle.ckr_steps.specs.EntryRecords.{bytes_on}
use Rattle.ckr_volumes.specs.declared.layout.Layout.{Layout}
use Rattle.ckr_desk_entries.specs.Continuation.{EntryThere, IsStateFound, is_of_program, judged_read, judged_there}
use Rattle.ckr_desk_entries.specs.Entries.{state_in}
use Rattle.ckr_desk_entries.specs.KeptPoint.{is_as_kept}
use Rattle.ckr_desk_entries.specs.declared.step_state.StepState.{StepState}

-- ---- what was found

-- where a step stands an entry has it, and a rule is one of an entry
pub found-its : (kept : KeptEntry) (program : Option Kind) (read : Result Entry ℕ) (found : Result StepState Rule) → found ≡ judged_read kept program read → IfOk read IsEntry → IsStateFound program found
found-its kept program (Err offset) found is form = subst (IsStateFound program) (sym is) tt
found-its kept program (Ok entry) found is form = subst (IsStateFound program) (sym is) (by (is_as_kept kept entry) (is_of_program program entry) refl)
  where
    by : (one two : Bool) → is_of_program program entry ≡ two → IsStateFound program (cond one (cond two (Ok (state_in entry)) (Err D7)) (Err D3))
    by true true right = record { entry = entry; form = form; is = refl; right = right }
    by true false right = tt
    by false two right = tt

-- ---- by the bytes of an image

module _ (layout : Layout) (image : List ℕ) (program : Option Kind) (there : EntryThere) where
  abbrev by_places : Bool → Result StepState Rule
  by_places fits =
      cond fits (judged_read there.entry program (entry_in (bytes_on image layout there.set there.entry.kept.place there.entry.kept.bytes))) (Err D3)

  -- an entry without its places
  pub unplaced-judged : ends_within there.set.space there.entry.kept ≡ false → Err D3 ≡ judged_there layout image program there
  unplaced-judged beyond = sym (ap by_places beyond)

  -- one that has them
  pub placed-judged : (bytes : List ℕ) (found : Result StepState Rule) → ends_within there.set.space there.entry.kept ≡ true → bytes ≡ bytes_on image layout there.set there.entry.kept.place there.entry.kept.bytes
      → found ≡ judged_read there.entry program (entry_in bytes) → found ≡ judged_there layout image program there
  placed-judged bytes found within read is = is ∙ ap (λ (b : List ℕ). judged_read there.entry program (entry_in b)) read ∙ sym (ap by_places within)
