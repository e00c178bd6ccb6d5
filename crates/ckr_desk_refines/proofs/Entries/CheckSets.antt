-- The step of a checkpoint that follows has a DD for checkpoints, where its deck is accepted: so only data sets for checkpoints keep entries
-- where the decks are those of their cards.
use Rattle.std.proofs.Common.{◌≡◌, ℕ, Bool, true, ◌&&◌, List, [], ◌∷◌, ◌++◌, refl, ap, sym, ◌∙◌, subst, Option, Some, None}
use Rattle.std.specs.Prelude.{◌+◌, find}
use Rattle.std.specs.Option.{option_map_or}
use Rattle.std.proofs.lemmas.List.{append-nil, append_assoc}
use Rattle.std.proofs.lemmas.Option.{same_Some}
use Rattle.arrayvec.specs.ArrayVec.{ArrayVec}
use Rattle.ckr_base.proofs.Bools.{and-second, false-not-true}
use Rattle.ckr_base.proofs.Options.{some-not-none}
use Rattle.ckr_events.specs.declared.event.Event.{Event}
use Rattle.ckr_events.specs.declared.event.Event.TheVariants.{Checkpointed}
use Rattle.ckr_jcl.specs.declared.deck.Dd.{Dd}
use Rattle.ckr_jcl.specs.declared.deck.Job.{Job}
use Rattle.ckr_library.specs.Catalog.{records_of}
use Rattle.ckr_library.specs.NameMaps.{Name}
use Rattle.ckr_meaning.specs.EffectiveJob.{OwnedStep, is_among, name_of, names_of}
use Rattle.ckr_points_library.specs.Commit.{is_named, output_names}
use Rattle.ckr_points.specs.Events.{AreSound, AreSoundFrom, IsNext}
use Rattle.ckr_points.specs.Follows.{is_checkpoint, is_length_of, is_running, lengths_follow, of_step, own_step}
use Rattle.ckr_points.specs.Office.{Office, no_office, office, office_after, office_from}
use Rattle.ckr_points.specs.Restart.{Decked, after_event}
use Rattle.ckr_points.specs.Rows.{RunRow, TablesModel}
use Rattle.ckr_points.specs.Soundness.{may_come}
use Rattle.ckr_points.specs.Tables.{is_checkpoints, name_with_role}
use Rattle.ckr_points_invariant.specs.Invariant.{IsKept, step_now}
use Rattle.ckr_points_invariant.proofs.EventList.{office-more, sound-front}
use Rattle.ckr_points_invariant.proofs.Holders.Places.{outputs-among}
use Rattle.ckr_points_invariant.proofs.WaitingRuns.{follows-of, tested-run}
use Rattle.ckr_points_invariant.proofs.OtherRuns.Sets.{length-among}
use Rattle.ckr_volumes.specs.declared.layout.Layout.{Layout}
use Rattle.ckr_desk_memory.proofs.Starts.Steps.{row-among}
use Rattle.ckr_desk_turn.specs.Invariant.{HasRuns, IsAdmitted}
use Rattle.ckr_desk_turn.specs.DeckEvents.{AreDeckEvents}
use Rattle.ckr_desk_turn.proofs.Runs.Lists.{events-kept, events-run}
use Rattle.ckr_desk_refines.specs.Entries.{HasCheckDd, IsCheckDd, OnlyCheckSetsKeep}
use Rattle.ckr_desk_refines.proofs.Entries.Checkpoint.{plain-taken}
use Rattle.ckr_desk_refines.proofs.Entries.DeckNames.{admitted-named, among-named}
use Rattle.ckr_desk_refines.proofs.Entries.EffectEvents.{of-found}
use Rattle.ckr_desk_refines.proofs.Entries.Events.{plain-next}
use Rattle.ckr_desk_refines.proofs.Entries.RunningStep.{checkpoint-checks}
use Rattle.ckr_desk_refines.proofs.Entries.Legs.{tables-behind}

-- ---- a DD with a name

dd-named : (root : ℕ) (owned : OwnedStep) (row : RunRow) → row.job.root ≡ root → is_named (name_with_role root owned is_checkpoints) ≡ true → IsCheckDd row owned
dd-named root owned row same named = by (find (λ one. is_checkpoints one.role) owned.step.dds) refl named
  where
    by_name : (dd : Dd) (found : Option Name) → find (λ one. is_checkpoints one.role) owned.step.dds ≡ Some dd → name_of root owned dd ≡ found → is_named (option_map_or (λ name. name) found []) ≡ true → IsCheckDd row owned
    by_name dd None first is has = false-not-true has
    by_name dd (Some name) first is has = record { dd = dd; name = name; first = first; named = ap (λ root. name_of root owned dd) same ∙ is }

    by : (found : Option Dd) → find (λ one. is_checkpoints one.role) owned.step.dds ≡ found → is_named (option_map_or (λ dd. option_map_or (λ name. name) (name_of root owned dd) []) found []) ≡ true → IsCheckDd row owned
    by None first has = false-not-true has
    by (Some dd) first has = by_name dd (name_of root owned dd) first refl has

module _ (layout : Layout) (now : Office) (kept : IsKept layout now) (has : HasRuns now) where
  -- ---- a checkpoint that follows

  pub check-dd : (job taken writes place bytes : ℕ) (id : Name) (lengths : ArrayVec ℕ) (deck : Option Job) → may_come layout now (Checkpointed job id taken writes lengths place bytes, deck) ≡ true → HasCheckDd now.tables job
  check-dd job taken writes place bytes id lengths deck may row owned e found =
      tested-run now.tables job test (follows-of layout now (Checkpointed job id taken writes lengths place bytes) deck may)
      (λ other at passes. its (subst (λ (row : RunRow). test row ≡ true) (same_Some other row (sym at ∙ e)) passes))
    where
      test : RunRow → Bool
      test row = is_running row && lengths_follow now.tables row lengths.items && of_step row (is_checkpoint now.tables id lengths.items place bytes row)

      set : Name
      set = name_with_role row.job.root owned is_checkpoints

      its : test row ≡ true → IsCheckDd row owned
      its passes =
          let check = of-found (is_checkpoint now.tables id lengths.items place bytes row) (own_step row) owned (and-second (is_running row && lengths_follow now.tables row lengths.items) _ passes) found in
          let among : is_among (names_of row.job.root owned) set ≡ true =
          outputs-among row.job.root owned set (length-among set (place + records_of bytes) (output_names row.job.root owned) lengths.items (and-second _ (is_length_of set (place + records_of bytes) (output_names row.job.root owned) lengths.items) check)) in
          let admitted : IsAdmitted row = row-among IsAdmitted now.tables job row has.admitted e in
          dd-named row.job.root owned row refl
          (among-named row.job.root owned owned.step.dds set (admitted-named row.job.root (step_now row) owned (admitted.steps (step_now row) owned found)) among)

  -- one more event
  plain-event : (event : Event) (deck : Option Job) → IsNext layout now (event, deck) → OnlyCheckSetsKeep now.tables.sets → OnlyCheckSetsKeep (after_event event deck now.tables).sets
  plain-event (Checkpointed job id taken writes lengths place bytes) deck next only =
      plain-taken now.tables kept.events.numbered id job taken writes place bytes lengths deck
      (checkpoint-checks layout now kept.events job taken writes place bytes id lengths deck next.may (check-dd job taken writes place bytes id lengths deck next.may)) only
  plain-event event deck next only = plain-next now.tables kept.events.numbered only event deck refl

-- ---- all events

next-at : (layout : Layout) (front more : List Decked) (event : Decked) (now : Office) → AreSoundFrom layout now (front ++ event ∷ more) → IsNext layout (office_from front now) event
next-at layout [] more event now are = are.0
next-at layout (first ∷ front) more event now are = next-at layout front more event (office_after first now) are.1

deck-front : (front more : List Decked) → AreDeckEvents (front ++ more) → AreDeckEvents front
deck-front [] more are = tt
deck-front (first ∷ front) more are = (are.0, deck-front front more are.1)

-- those behind a front of them
plain-behind : (layout : Layout) (front more : List Decked) → AreSound layout (front ++ more) → AreDeckEvents (front ++ more) → OnlyCheckSetsKeep (office front).tables.sets → OnlyCheckSetsKeep (office (front ++ more)).tables.sets
plain-behind layout front [] are decks only = subst (λ events. OnlyCheckSetsKeep (office events).tables.sets) (sym (append-nil front)) only
plain-behind layout front (event ∷ more) are decks only =
    let seam : (front ++ event ∷ []) ++ more ≡ front ++ event ∷ more = append_assoc front (event ∷ []) more in
    let before : AreSound layout front = sound-front layout front (event ∷ more) are in
    let theirs : AreDeckEvents front = deck-front front (event ∷ more) decks in
    let next : IsNext layout (office front) event = next-at layout front more event no_office are in
    let behind : OnlyCheckSetsKeep (after_event event.0 event.1 (office front).tables).sets =
    plain-event layout (office front) (events-kept layout front before theirs) (events-run layout front before theirs) event.0 event.1 (record { may = next.may; carried = next.carried }) only in
    subst (λ events. OnlyCheckSetsKeep (office events).tables.sets) seam
    (plain-behind layout (front ++ event ∷ []) more (subst (AreSound layout) (sym seam) are) (subst AreDeckEvents (sym seam) decks)
    (subst (λ (office : Office). OnlyCheckSetsKeep office.tables.sets) (sym (office-more front event))
    (subst (λ (tables : TablesModel). OnlyCheckSetsKeep tables.sets) (sym (tables-behind (office front) event.0 event.1)) behind)))

-- so it is at every prefix
pub sound-plain : (layout : Layout) (front more : List Decked) → AreSound layout (front ++ more) → AreDeckEvents (front ++ more) → OnlyCheckSetsKeep (office front).tables.sets
sound-plain layout front more are decks = plain-behind layout [] front (sound-front layout front more are) (deck-front front more decks) (λ name table e. absurd (some-not-none table (sym e)))
