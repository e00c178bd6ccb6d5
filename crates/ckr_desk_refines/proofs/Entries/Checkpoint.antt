-- A checkpoint is taken: the tables keep one more entry, which the image has, and which ends its data set.
use Rattle.std.proofs.Common.{◌≡◌, ℕ, suc, ◌+◌, Bool, true, false, cond, ◌&&◌, not, if◌then◌else◌, List, [], ◌∷◌, filter, refl, ap, sym, ◌∙◌, subst, Option, Some, None, arith}
use Rattle.std.specs.Prelude.{◌==◌, IsTrue, nat_le}
use Rattle.std.specs.List.{cons_option, filter_map}
use Rattle.std.specs.Option.{option_map, option_map_or}
use Rattle.std.proofs.lemmas.Bool.{and_from, false≢true, not-true, or_from, or_parts}
use Rattle.std.proofs.lemmas.Option.{same_Some}
use Rattle.arrayvec.specs.ArrayVec.{ArrayVec}
use Rattle.ckr_base.proofs.Bools.{and-first, and-second, bool-cases}
use Rattle.ckr_base.proofs.Numbers.{equal-true, nat_le-from}
use Rattle.ckr_base.proofs.Options.{some-not-none}
use Rattle.ckr_base.proofs.Sequences.{each-append}
use Rattle.ckr_events.specs.declared.event.Event.TheVariants.{Checkpointed}
use Rattle.ckr_jcl.specs.declared.deck.Dd.{Dd}
use Rattle.ckr_jcl.specs.declared.deck.Job.{Job}
use Rattle.ckr_library.specs.declared.sets.Content.TheVariants.{Plain, Checkpoints}
use Rattle.ckr_library.specs.declared.sets.Kept.{Kept}
use Rattle.ckr_library.specs.Catalog.{ends_within, records_of}
use Rattle.ckr_library.specs.NameMaps.{Name, Named, entry_at, same_name, with_changed}
use Rattle.ckr_library.proofs.Named.{at-with_changed, name-same, name-turned}
use Rattle.ckr_meaning.specs.Allotments.{is_output}
use Rattle.ckr_meaning.specs.EffectiveJob.{Effective, OwnedStep, is_among, name_of, names_of}
use Rattle.ckr_points_library.specs.Commit.{output_names}
use Rattle.ckr_points.specs.Follows.{is_checkpoint, is_in_state, is_length_of, is_running, is_within, lengths_follow, of_step}
use Rattle.ckr_points.specs.Office.{Office, office_after}
use Rattle.ckr_points.specs.Payload.{is_formed_step, writes_in}
use Rattle.ckr_points.specs.declared.run.RunState.TheVariants.{On}
use Rattle.ckr_points.specs.Restart.{after_event, place_of}
use Rattle.ckr_points.specs.Rows.{KeptEntry, RunRow, TableSet, TablesModel, cut_set, run_of, step_of_run}
use Rattle.ckr_points.specs.Soundness.{may_come}
use Rattle.ckr_points.specs.Tables.{after_checkpointed, after_commit, committed, fresh_effect, is_checkpoints, name_with_role, with_kept_entry}
use Rattle.ckr_points_invariant.specs.Invariant.{IsAgreed, step_now}
use Rattle.ckr_points_invariant.specs.RunningSteps.{IsRunning}
use Rattle.ckr_points_invariant.proofs.Start.Event.{running-so}
use Rattle.ckr_points_invariant.proofs.Steps.Commits.{formed_step}
use Rattle.ckr_points_invariant.proofs.Steps.Events.{led-by, on-holds}
use Rattle.ckr_points_invariant.proofs.WaitingRuns.{follows-of, tested-run}
use Rattle.ckr_points_invariant.proofs.Writes.Likeness.{committed-other}
use Rattle.ckr_uses.specs.Uses.{are_distinct}
use Rattle.ckr_volumes.specs.declared.layout.Layout.{Layout}
use Rattle.ckr_volumes.specs.SamePlaces.{SamePlaces}
use Rattle.ckr_desk_refines.specs.Entries.{AreThere, AreWithin, HasCheckSet, HasEntries, HasNewEntry, IsEntryThere, EndWithin, KeepsNoneIfPlain, OnlyCheckSetsKeep, UnderEachName, entry_taken, jobs_of}
use Rattle.ckr_desk_refines.proofs.Entries.Events.{AreNumbered}
use Rattle.ckr_desk_refines.proofs.Entries.Rows as rows
use Rattle.ckr_desk_refines.proofs.Entries.Sets as sets
use Rattle.ckr_desk_refines.proofs.Entries.There.{same-record, plain-stays, there-moved, there-stays, within-stays}

-- ---- a commit

-- a data set whose length is committed stays in its place, with what it keeps
pub record IsCommittedFrom (old new : TableSet) : Type 0 where
  pub places : SamePlaces old.set new.set
  pub content : new.set.content ≡ old.set.content

committed_itself : (table : TableSet) → IsCommittedFrom table table
committed_itself table = record { places = record { parts = refl; lrecl = refl }; content = refl }

pub committed-from : (names : List Name) (lengths : List ℕ) (those : Named TableSet) (name : Name) (new : TableSet) → entry_at (committed names lengths those) name ≡ Some new → (old : TableSet) × (entry_at those name ≡ Some old) × IsCommittedFrom old new
committed-from [] lengths those name new e = (new, e, committed_itself new)
committed-from (first ∷ names) [] those name new e = (new, e, committed_itself new)
committed-from (first ∷ names) (most ∷ lengths) those name new e =
    let ahead = committed-from names lengths (with_changed first (cut_set most) those) name new e in
    by ahead.0 ahead.2 (same_name name first) (entry_at those name) refl (sym (at-with_changed first name (cut_set most) those) ∙ ahead.1)
  where
    by : (mid : TableSet) → IsCommittedFrom mid new → (b : Bool) (entry : Option TableSet) → entry_at those name ≡ entry → cond b (option_map (cut_set most) entry) entry ≡ Some mid → (old : TableSet) × (entry_at those name ≡ Some old) × IsCommittedFrom old new
    by mid from true None found is = absurd (some-not-none mid (sym is))
    by mid from true (Some old) found is =
        let cut : IsCommittedFrom (cut_set most old) new = subst (λ (mid : TableSet). IsCommittedFrom mid new) (sym (same_Some (cut_set most old) mid is)) from in
        (old, found, record { places = record { parts = cut.places.parts; lrecl = cut.places.lrecl }; content = cut.content })
    by mid from false entry found is = (mid, found ∙ is, from)

-- and it has the length that is given for it, where no name stands twice
pub committed-length : (names : List Name) (lengths : List ℕ) (those : Named TableSet) (name : Name) (most : ℕ) (new : TableSet) → are_distinct names ≡ true → is_length_of name most names lengths ≡ true → entry_at (committed names lengths those) name ≡ Some new → new.set.length ≡ most
committed-length [] lengths those name most new distinct has e = absurd (false≢true has)
committed-length (first ∷ names) [] those name most new distinct has e = absurd (false≢true has)
committed-length (first ∷ names) (now ∷ lengths) those name most new distinct has e =
    bool-cases (same_name name first)
    (λ same.
    let is : now ≡ most = equal-true now most (sym (ap (λ (b : Bool). if b then now == most else is_length_of name most names lengths) (name-turned first name ∙ same)) ∙ has) in
    let out : is_among names name ≡ false = ap (is_among names) (name-same name first same) ∙ not-true (is_among names first) (and-first (not (is_among names first)) (are_distinct names) distinct) in
    by (entry_at those name)
    (sym (ap (λ (b : Bool). cond b (option_map (cut_set now) (entry_at those name)) (entry_at those name)) same)
    ∙ sym (at-with_changed first name (cut_set now) those) ∙ sym (committed-other names lengths (with_changed first (cut_set now) those) name out) ∙ e)
    ∙ is)
    (λ apart.
    committed-length names lengths (with_changed first (cut_set now) those) name most new (and-second (not (is_among names first)) (are_distinct names) distinct)
    (sym (ap (λ (b : Bool). if b then now == most else is_length_of name most names lengths) (name-turned first name ∙ apart)) ∙ has) e)
  where
    by : (entry : Option TableSet) → option_map (cut_set now) entry ≡ Some new → new.set.length ≡ now
    by None is = absurd (some-not-none new (sym is))
    by (Some old) is = sym (ap (λ (table : TableSet). table.set.length) (same_Some (cut_set now old) new is))

-- ---- the outputs of a step

-- no output stands twice, where no name does
module _ (root : ℕ) (owned : OwnedStep) where
  out_of_outputs : (dds : List Dd) (name : Name) → is_among (filter_map (name_of root owned) dds) name ≡ false → is_among (filter_map (name_of root owned) (filter (λ dd. is_output dd.role) dds)) name ≡ false
  out_of_outputs [] name out = refl
  out_of_outputs (dd ∷ dds) name out = by (is_output dd.role) (name_of root owned dd) refl out (out_of_outputs dds name)
    where
      by : (output : Bool) (its : Option Name) → name_of root owned dd ≡ its → is_among (cons_option its (filter_map (name_of root owned) dds)) name ≡ false
          → (is_among (filter_map (name_of root owned) dds) name ≡ false → is_among (filter_map (name_of root owned) (filter (λ dd. is_output dd.role) dds)) name ≡ false)
          → is_among (filter_map (name_of root owned) (cond output (dd ∷ filter (λ dd. is_output dd.role) dds) (filter (λ dd. is_output dd.role) dds))) name ≡ false
      by true None e out later = ap (λ (o : Option Name). is_among (cons_option o (filter_map (name_of root owned) (filter (λ dd. is_output dd.role) dds))) name) e ∙ later out
      by true (Some other) e out later =
          let parts = or_parts (same_name name other) (is_among (filter_map (name_of root owned) dds) name) out in
          ap (λ (o : Option Name). is_among (cons_option o (filter_map (name_of root owned) (filter (λ dd. is_output dd.role) dds))) name) e
          ∙ or_from (same_name name other) _ parts.0 (later parts.1)
      by false None e out later = later out
      by false (Some other) e out later = later (or_parts (same_name name other) (is_among (filter_map (name_of root owned) dds) name) out).1

  pub outputs_distinct : (dds : List Dd) → are_distinct (filter_map (name_of root owned) dds) ≡ true → are_distinct (filter_map (name_of root owned) (filter (λ dd. is_output dd.role) dds)) ≡ true
  outputs_distinct [] distinct = refl
  outputs_distinct (dd ∷ dds) distinct = by (is_output dd.role) (name_of root owned dd) refl distinct (outputs_distinct dds)
    where
      by : (output : Bool) (its : Option Name) → name_of root owned dd ≡ its → are_distinct (cons_option its (filter_map (name_of root owned) dds)) ≡ true
          → (are_distinct (filter_map (name_of root owned) dds) ≡ true → are_distinct (filter_map (name_of root owned) (filter (λ dd. is_output dd.role) dds)) ≡ true)
          → are_distinct (filter_map (name_of root owned) (cond output (dd ∷ filter (λ dd. is_output dd.role) dds) (filter (λ dd. is_output dd.role) dds))) ≡ true
      by true None e distinct later = ap (λ (o : Option Name). are_distinct (cons_option o (filter_map (name_of root owned) (filter (λ dd. is_output dd.role) dds)))) e ∙ later distinct
      by true (Some other) e distinct later =
          ap (λ (o : Option Name). are_distinct (cons_option o (filter_map (name_of root owned) (filter (λ dd. is_output dd.role) dds)))) e
          ∙ and_from (not (is_among (filter_map (name_of root owned) (filter (λ dd. is_output dd.role) dds)) other)) _
          (ap not (out_of_outputs dds other (not-true (is_among (filter_map (name_of root owned) dds) other) (and-first (not (is_among (filter_map (name_of root owned) dds) other)) _ distinct))))
          (later (and-second (not (is_among (filter_map (name_of root owned) dds) other)) _ distinct))
      by false None e distinct later = later distinct
      by false (Some other) e distinct later = later (and-second (not (is_among (filter_map (name_of root owned) dds) other)) _ distinct)

-- ---- one more entry

module _ (E : TableSet → Type 0) (stays : sets.Stays E) (tables : TablesModel) (numbered : AreNumbered tables) (each : UnderEachName E tables.sets) (entry : Kept) (taken writes : ℕ) (lengths : List ℕ) where
  abbrev jobs : List Effective
  jobs = jobs_of tables

  now : rows.Hold jobs E stays tables
  now = record { jobs_are = refl; each = each }

  module _ (row : RunRow) (owned : OwnedStep) (mine : rows.Fits jobs E stays row) where
    abbrev set : Name
    set = name_with_role row.job.root owned is_checkpoints

    abbrev done : TablesModel
    done = after_commit (record row { count = suc row.count; in_effect = Some (fresh_effect set entry) }) owned (step_now row) writes lengths tables

    abbrev new_entry : KeptEntry
    new_entry = entry_taken tables row owned entry taken writes lengths

    -- the data set for checkpoints, as it is committed, with the entry
    taken-stays : ((table : TableSet) → entry_at (committed (output_names row.job.root owned) lengths tables.sets) set ≡ Some table → E table → E (with_kept_entry new_entry table)) → rows.Hold jobs E stays (after_checkpointed row owned (step_now row) entry taken writes lengths tables)
    taken-stays keeps =
        let so : rows.Hold jobs E stays done = rows.commit-holds jobs E stays tables (record row { count = suc row.count; in_effect = Some (fresh_effect set entry) }) owned (step_now row) writes lengths now mine in
        rows.sets-hold jobs E stays done (with_changed set (with_kept_entry new_entry) done.sets)
        (sets.under-with_changed E set (with_kept_entry new_entry) done.sets
        (λ other table same e. keeps table (ap (entry_at done.sets) (sym (name-same other set same)) ∙ e) (so.each other table e)) so.each) so

  pub checkpointed-stays : (id : Name) (job place bytes : ℕ) (its : ArrayVec ℕ) (deck : Option Job) → its.items ≡ lengths → entry ≡ record { id = id; run = job; place = place; bytes = bytes }
      → ((row : RunRow) (owned : OwnedStep) → run_of tables job ≡ Some row → step_of_run row (step_now row) ≡ Some owned → (table : TableSet)
      → entry_at (committed (output_names row.job.root owned) lengths tables.sets) (name_with_role row.job.root owned is_checkpoints) ≡ Some table → E table → E (with_kept_entry (entry_taken tables row owned entry taken writes lengths) table))
      → rows.Hold jobs E stays (after_event (Checkpointed job id taken writes its place bytes) deck tables)
  checkpointed-stays id job place bytes its deck same is keeps =
      subst (λ (lengths : List ℕ). rows.Hold jobs E stays (option_map_or (λ row. option_map_or (λ owned. after_checkpointed row owned (step_now row) (record { id = id; run = job; place = place; bytes = bytes }) taken writes lengths tables) (step_of_run row (step_now row)) tables) (run_of tables job) tables)) (sym same)
      (subst (λ (entry : Kept). rows.Hold jobs E stays (option_map_or (λ row. option_map_or (λ owned. after_checkpointed row owned (step_now row) entry taken writes lengths tables) (step_of_run row (step_now row)) tables) (run_of tables job) tables)) is
      (rows.by-step jobs E stays tables numbered now job (λ row owned step. after_checkpointed row owned step entry taken writes lengths tables)
      (λ row owned e found mine. taken-stays row owned mine (keeps row owned e found))))

-- ---- the entry is there, and within

pub plain-checks : Plain ≡ Checkpoints → ⊥
plain-checks e = cc

module _ (layout : Layout) (now : Office) (numbered : AreNumbered now.tables) (id : Name) (job taken writes place bytes : ℕ) (lengths : ArrayVec ℕ) (deck : Option Job) (image : List ℕ) where
  abbrev told : Kept
  told = record { id = id; run = job; place = place; bytes = bytes }

  abbrev E : TableSet → Type 0
  E = AreThere layout now.legs (jobs_of now.tables) image

  pub has-taken : HasEntries layout now image → HasNewEntry layout now told taken writes lengths.items image → HasEntries layout (office_after (Checkpointed job id taken writes lengths place bytes, deck) now) image
  has-taken has new =
      let holds =
      checkpointed-stays E (there-stays layout now.legs (jobs_of now.tables) image) now.tables numbered has told taken writes lengths.items id job place bytes lengths deck refl refl
      (λ row owned e found table at each.
      let before = committed-from (output_names row.job.root owned) lengths.items now.tables.sets (name_with_role row.job.root owned is_checkpoints) table at in
      let entry : KeptEntry = entry_taken now.tables row owned told taken writes lengths.items in
      each-append (IsEntryThere layout now.legs (jobs_of now.tables) image table.set) table.entries (entry ∷ []) each
      (there-moved layout now.legs (jobs_of now.tables) image before.0.set table.set (same-record image layout before.0.set table.set before.2.places) entry (new row owned before.0 e found before.1), tt)) in
      let later : TablesModel = after_event (Checkpointed job id taken writes lengths place bytes) deck now.tables in
      subst (λ jobs. UnderEachName (AreThere layout now.legs jobs image) later.sets) (sym holds.jobs_are) holds.each

module _ (tables : TablesModel) (numbered : AreNumbered tables) (id : Name) (job taken writes place bytes : ℕ) (lengths : ArrayVec ℕ) (deck : Option Job) where
  abbrev kept : Kept
  kept = record { id = id; run = job; place = place; bytes = bytes }

  -- its data set is one for checkpoints
  pub plain-taken : HasCheckSet tables job → OnlyCheckSetsKeep tables.sets → OnlyCheckSetsKeep (after_event (Checkpointed job id taken writes lengths place bytes) deck tables).sets
  plain-taken checks only =
      let holds =
      checkpointed-stays KeepsNoneIfPlain plain-stays tables numbered only kept taken writes lengths.items id job place bytes lengths deck refl refl
      (λ row owned e found table at each plain.
      let before = committed-from (output_names row.job.root owned) lengths.items tables.sets (name_with_role row.job.root owned is_checkpoints) table at in
      absurd (plain-checks (sym plain ∙ before.2.content ∙ checks row owned before.0 e found before.1))) in
      holds.each

  -- what a checkpoint's event tells of its step
  record IsTakenIn (row : RunRow) (owned : OwnedStep) : Type 0 where
    pub formed : is_formed_step row.job.root owned ≡ true
    pub ends : is_length_of (name_with_role row.job.root owned is_checkpoints) (place + records_of bytes) (output_names row.job.root owned) lengths.items ≡ true

  within-by : AreWithin tables.sets → ((row : RunRow) (owned : OwnedStep) → run_of tables job ≡ Some row → step_of_run row (step_now row) ≡ Some owned → IsTakenIn row owned) → AreWithin (after_event (Checkpointed job id taken writes lengths place bytes) deck tables).sets
  within-by within told =
      let holds =
      checkpointed-stays EndWithin within-stays tables numbered within kept taken writes lengths.items id job place bytes lengths deck refl refl
      (λ row owned e found table at each.
      let its : IsTakenIn row owned = told row owned e found in
      let entry : KeptEntry = entry_taken tables row owned kept taken writes lengths.items in
      let distinct : are_distinct (output_names row.job.root owned) ≡ true = outputs_distinct row.job.root owned owned.step.dds (and-first (are_distinct (names_of row.job.root owned)) _ (and-first (are_distinct (names_of row.job.root owned) && _) _ its.formed)) in
      let long : table.set.length ≡ place + records_of bytes =
      committed-length (output_names row.job.root owned) lengths.items tables.sets (name_with_role row.job.root owned is_checkpoints) (place + records_of bytes) table distinct its.ends at in
      each-append (λ (one : KeptEntry). IsTrue (ends_within table.set.length one.kept)) table.entries (entry ∷ []) each
      (ap (λ (most : ℕ). nat_le (place + records_of bytes) most) long ∙ nat_le-from (place + records_of bytes) (place + records_of bytes) (omega arith), tt)) in
      holds.each

  pub within-taken : (layout : Layout) (now : Office) → now.tables ≡ tables → IsAgreed layout now → may_come layout now (Checkpointed job id taken writes lengths place bytes, deck) ≡ true → AreWithin tables.sets → AreWithin (after_event (Checkpointed job id taken writes lengths place bytes) deck tables).sets
  within-taken layout now same agreed may within =
      within-by within
      (λ row owned e found.
      let here : run_of now.tables job ≡ Some row = ap (λ (tables : TablesModel). run_of tables job) same ∙ e in
      tested-run now.tables job (λ row. is_running row && lengths_follow now.tables row lengths.items && of_step row (is_checkpoint now.tables id lengths.items place bytes row)) (follows-of layout now (Checkpointed job id taken writes lengths place bytes) deck may)
      (λ other at passes.
      let rows_are : other ≡ row = same_Some other row (sym at ∙ here) in
      told layout now agreed row owned here found
      (subst (λ (row : RunRow). (is_running row && lengths_follow now.tables row lengths.items && of_step row (is_checkpoint now.tables id lengths.items place bytes row)) ≡ true) rows_are passes)))
    where
      told : (layout : Layout) (now : Office) → IsAgreed layout now → (row : RunRow) (owned : OwnedStep) → run_of now.tables job ≡ Some row → step_of_run row (step_now row) ≡ Some owned
          → (is_running row && lengths_follow now.tables row lengths.items && of_step row (is_checkpoint now.tables id lengths.items place bytes row)) ≡ true → IsTakenIn row owned
      told layout now agreed row owned here found passes =
          let runs : is_running row ≡ true = and-first (is_running row) (lengths_follow now.tables row lengths.items) (and-first (is_running row && lengths_follow now.tables row lengths.items) (of_step row (is_checkpoint now.tables id lengths.items place bytes row)) passes) in
          let check : is_checkpoint now.tables id lengths.items place bytes row owned ≡ true =
          sym (ap (λ (o : Option OwnedStep). option_map_or (is_checkpoint now.tables id lengths.items place bytes row) o false) found)
          ∙ and-second (is_running row && lengths_follow now.tables row lengths.items) (of_step row (is_checkpoint now.tables id lengths.items place bytes row)) passes in
          led-by layout now job row agreed here (on-holds row.state (and-first (is_in_state On row) (is_within (place_of row)) runs))
          (λ leg holder.
          let running : IsRunning now job row leg owned (step_now row) (writes_in (place_of row)) = running-so layout now job row leg owned holder (and-second (is_in_state On row) (is_within (place_of row)) runs) found in
          record {
            formed = ap (λ (job : Effective). is_formed_step job.root owned) (sym (agreed.places job row leg holder).job) ∙ formed_step layout now job row leg owned (step_now row) (writes_in (place_of row)) agreed running;
            ends = and-second _ (is_length_of (name_with_role row.job.root owned is_checkpoints) (place + records_of bytes) (output_names row.job.root owned) lengths.items) check;
          })
