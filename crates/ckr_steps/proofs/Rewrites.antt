-- Once a rewrite is on the disk, the disk shows the step's writes with it.
use Rattle.std.proofs.Common.{◌≡◌, ◌≤◌, ℕ, ◌+◌, Bool, true, false, List, [], ◌∷◌, ◌++◌, length, Some, slice_get, slice_set, refl, ap, sym, ◌∙◌, subst, arith, append_assoc, length-append}
use Rattle.std.specs.Prelude.{IsTrue, option_and_then}
use Rattle.std.proofs.lemmas.Option.{same_Some}
use Rattle.ckr_jcl.specs.declared.deck.Kind.{Kind}
use Rattle.ckr_jcl.specs.Programs.{names_updated}
use Rattle.ckr_library.specs.declared.sets.DataSet.{DataSet}
use Rattle.ckr_library.specs.Catalog.{Catalog, set_of}
use Rattle.ckr_library.specs.NameMaps.{Name, same_name, entry_at, with_changed}
use Rattle.ckr_library.proofs.Named.{at-with_changed-other, name-same, name-turned}
use Rattle.ckr_volumes.specs.declared.layout.Layout.{Layout}
use Rattle.ckr_volumes.specs.Records.{records_on}
use Rattle.ckr_volumes.specs.SamePlaces.{SamePlaces}
use Rattle.ckr_volumes.specs.Layouts.{lie_apart, StandsIn}
use Rattle.ckr_meaning.specs.EffectiveJob.{is_among}
use Rattle.ckr_meaning.specs.LibrarySet.{LibrarySet}
use Rattle.ckr_meaning.specs.Program.{fitting, rest, upto}
use Rattle.ckr_meaning.specs.StepRun.{StepStart, case_at, input_names, made_at, within_at, work_at, set_name, output_dd, output_name, rewritten, written_set, changed_in, written_one, written_all}
use Rattle.ckr_meaning.proofs.WriteSeries.{written_all-append}
use Rattle.ckr_meaning.proofs.Prefixes.{work_in_parts}
use Rattle.ckr_steps.specs.declared.step_run.StepRun.{StepRun}
use Rattle.ckr_steps.specs.Files.{files_of}
use Rattle.ckr_steps.specs.Inputs.{AreStored}
use Rattle.ckr_steps.specs.Writes.{room_of, IsShown, ShowsSet}
use Rattle.ckr_steps.specs.Places.{names_at, ShowsWithin, IsToRewrite}
use Rattle.ckr_steps.proofs.UnitProgress.{so_far_written}
use Rattle.ckr_steps.proofs.NextHeads.{source_named, set_found}
use Rattle.ckr_steps.proofs.Inputs.{set_length}
use Rattle.ckr_steps.proofs.Names.{changed_here}
use Rattle.ckr_steps.proofs.NextUnits.{within_records}
use Rattle.ckr_steps.proofs.LaterWrites.{written_from, within_front}

-- the library has the same data sets in the same places, whatever it says of their marks and stamps
pub record HasSamePlaces (old new : Catalog) : Type 0 where
  pub each : (name : Name) (set : DataSet) → set_of old name ≡ Some set → (now : DataSet) × (set_of new name ≡ Some now) × SamePlaces set now × (now.space ≡ set.space) × (now.length ≡ set.length)

module _ (told : Type 0) (image later : List ℕ) (layout : Layout) (start : StepStart) (before taken place : ℕ) (bytes : List ℕ) (old new : StepRun) (library : Catalog)
    (rewrite : IsToRewrite told image layout start before taken place bytes old new library) where
  -- the rewrite goes to the updated data set
  goes_to : output_name start rewrite.write.output ≡ Some rewrite.name
  unfolding output_name files_of
  goes_to =
      ap (λ o. option_and_then (set_name start) (output_dd start.owned.step.program o)) rewrite.goes
      ∙ (let named = source_named start 0 rewrite.name rewrite.updates in
      let P : Kind → Type 0 = λ program. option_and_then (set_name start) (slice_get (input_names program) 0) ≡ Some rewrite.name → option_and_then (set_name start) (slice_get (names_updated program) 0) ≡ Some rewrite.name in
      subst P (sym rewrite.program) (λ e. e)
      (set_found start (slice_get (input_names start.owned.step.program) 0) named.dd rewrite.name named.found named.named))

  counted : old.writes ≡ length (upto (case_at start) before)
  counted =
      let size : new.writes ≡ length (upto (case_at start) before) + 1 = rewrite.stands.writes ∙ ap length rewrite.more ∙ length-append (upto (case_at start) before) (rewrite.write ∷ []) in
      let one = rewrite.counted in omega arith

  all : (work_at start).writes ≡ upto (case_at start) before ++ (rewrite.write ∷ [] ++ fitting (rest (case_at start) taken) (room_of library new.files))
  all =
      written_from start (upto (case_at start) taken) [] (rest (case_at start) taken) (room_of library new.files) (work_in_parts (case_at start) taken (within_records new.state (case_at start) taken rewrite.stands.state)) rewrite.stands.room
      ∙ ap (λ w. w ++ fitting (rest (case_at start) taken) (room_of library new.files)) rewrite.more
      ∙ append_assoc (upto (case_at start) before) (rewrite.write ∷ []) (fitting (rest (case_at start) taken) (room_of library new.files))

  one_more : within_at start new.writes ≡ with_changed rewrite.name (rewritten start.owned.owner start.number place rewrite.write.image) (within_at start old.writes)
  unfolding written_one
  one_more =
      so_far_written start taken new library rewrite.stands
      ∙ ap (λ w. written_all start w (made_at start)) rewrite.more
      ∙ written_all-append start (upto (case_at start) before) (rewrite.write ∷ []) (made_at start)
      ∙ ap (written_all start (rewrite.write ∷ [])) (sym (ap (within_at start) counted ∙ within_front start (upto (case_at start) before) _ all))
      ∙ ap (λ name. changed_in name (written_set start rewrite.write.output rewrite.write.image) (within_at start old.writes)) goes_to
      ∙ ap (λ o. with_changed rewrite.name (written_set start o rewrite.write.image) (within_at start old.writes)) rewrite.goes

  module _ (stored : AreStored layout library) (set : DataSet) (found : set_of library rewrite.name ≡ Some set)
      (here : told → (n : ℕ) → n ≤ set.space → records_on later layout set n ≡ slice_set (records_on image layout set n) place bytes)
      (others : told → (other : DataSet) → StandsIn layout other → IsTrue (lie_apart set other) → (n : ℕ) → n ≤ other.space → records_on later layout other n ≡ records_on image layout other n) where
    shown_here : IsShown told image layout rewrite.rewritten library rewrite.name → IsShown told later layout (rewritten start.owned.owner start.number place rewrite.write.image rewrite.rewritten) library rewrite.name
    shown_here shown =
        let same : shown.set ≡ set = same_Some shown.set set (sym shown.is ∙ found) in
        let shows : ShowsSet told image layout rewrite.rewritten set = subst (ShowsSet told image layout rewrite.rewritten) same shown.shows in
        let stands = stored.stands rewrite.name set found in
        record {
          set = set;
          is = found;
          shows = record {
            lrecl = shows.lrecl;
            space = shows.space;
            length = shows.length ∙ sym (set_length rewrite.rewritten.records place _);
            records = λ is_told. here is_told set.length stands.length_fits ∙ ap (λ r. slice_set r place bytes) (shows.records is_told) ∙ ap (slice_set rewrite.rewritten.records place) rewrite.fits;
          };
        }

    shown_other : (name : Name) (model : LibrarySet) → same_name name rewrite.name ≡ false → IsShown told image layout model library name → IsShown told later layout model library name
    shown_other name model apart shown =
        let stands = stored.stands name shown.set shown.is in
        record {
          set = shown.set;
          is = shown.is;
          shows = record {
            lrecl = shown.shows.lrecl;
            space = shown.shows.space;
            length = shown.shows.length;
            records = λ is_told.
                others is_told shown.set stands (stored.apart rewrite.name name set shown.set (name-turned rewrite.name name ∙ apart) found shown.is) shown.set.length stands.length_fits ∙ shown.shows.records is_told;
          };
        }

    -- the disk shows the rewrite too
    pub rewritten_shows : ShowsWithin told later layout start new.writes library
    rewritten_shows name model among is plain = by (same_name name rewrite.name) refl
      where
        entry : entry_at (with_changed rewrite.name (rewritten start.owned.owner start.number place rewrite.write.image) (within_at start old.writes)) name ≡ Some model
        entry = ap (λ l. entry_at l name) (sym one_more) ∙ is

        by : (same : Bool) → same_name name rewrite.name ≡ same → IsShown told later layout model library name
        by true e =
            let names : name ≡ rewrite.name = name-same name rewrite.name e in
            let made : rewritten start.owned.owner start.number place rewrite.write.image rewrite.rewritten ≡ model =
            same_Some _ model (sym (changed_here rewrite.name (rewritten start.owned.owner start.number place rewrite.write.image) (within_at start old.writes) rewrite.rewritten rewrite.stood)
            ∙ ap (entry_at (with_changed rewrite.name (rewritten start.owned.owner start.number place rewrite.write.image) (within_at start old.writes))) (sym names) ∙ entry) in
            subst (IsShown told later layout model library) (sym names)
            (subst (λ m. IsShown told later layout m library rewrite.name) made
            (shown_here (rewrite.shows rewrite.name rewrite.rewritten (subst (λ n. is_among (names_at start) n ≡ true) names among) rewrite.stood (ap (λ (m : LibrarySet). m.content) made ∙ plain))))
        by false e = shown_other name model e (rewrite.shows name model among (sym (at-with_changed-other rewrite.name name (rewritten start.owned.owner start.number place rewrite.write.image) (within_at start old.writes) e) ∙ entry) plain)
