-- The event of a unit that rewrites a record may come, and carries what the job gives.
use Rattle.std.proofs.Common.{◌≡◌, ◌≤◌, ◌<◌, ℕ, suc, true, false, ◌&&◌, List, [], length, take, refl, ap, sym, ◌∙◌, subst, Option, Some, None, arith}
use Rattle.std.specs.Prelude.{◌==◌, nat_eq, nat_le, nat_lt, slice_get}
use Rattle.std.specs.Option.{is_some, option_map, option_map_or}
use Rattle.std.specs.Cmp.Lexicographic.{pointwise, texts_ties}
use Rattle.std.proofs.lemmas.Bool.{and_from, false≢true, lt-ltb}
use Rattle.std.proofs.lemmas.Option.{same_Some}
use Rattle.ckr_points_library.specs.Commit.{output_names}
use Rattle.ckr_base.specs.declared.programs.Output.{Output}
use Rattle.ckr_base.specs.declared.programs.Output.TheVariants.{Main, Rejects, InPlace}
use Rattle.ckr_base.specs.declared.programs.Write.{Write}
use Rattle.ckr_base.proofs.Numbers.{equal-itself, nat_le-from}
use Rattle.ckr_base.proofs.Options.{some-not-none}
use Rattle.ckr_base.proofs.Sequences.{find-all, find-passes, get-inside, length-fitted}
use Rattle.ckr_base.specs.Columns.{fitted}
use Rattle.ckr_jcl.specs.declared.deck.Dd.{Dd}
use Rattle.ckr_jcl.specs.declared.deck.Role.TheVariants.{Updates}
use Rattle.ckr_jcl.specs.Programs.{role_of}
use Rattle.ckr_library.specs.declared.sets.Content.{Content}
use Rattle.ckr_library.specs.declared.sets.Content.TheVariants.{Plain}
use Rattle.ckr_library.specs.NameMaps.{Name, same_name, entry_at}
use Rattle.ckr_library.proofs.Named.{name-equivalence, name-same}
use Rattle.ckr_meaning.specs.LibrarySet.{AreWithinSpace, LibrarySet}
use Rattle.ckr_meaning.specs.EffectiveJob.{Effective, OwnedStep, is_among, names_of}
use Rattle.ckr_meaning.specs.Program.{records_taken, upto}
use Rattle.ckr_meaning.specs.StepRun.{StepStart, case_at, input_at, made_at, output_name, set_records, within_at, work_at, written_one}
use Rattle.ckr_volumes.specs.declared.layout.Layout.{Layout}
use Rattle.ckr_points.specs.Tables.{is_updates, name_with_role}
use Rattle.ckr_points.specs.Follows.{is_rewrite, is_update, lengths_follow, of_step}
use Rattle.ckr_points.specs.Payload.{carries_lengths, carries_rewrite, has_role, have_lengths, is_formed_step, length_by, length_now, lengths_at, records_under, rewrites_nothing}
use Rattle.ckr_points.specs.Office.{Leg, Office}
use Rattle.ckr_points.specs.Restart.{place_of, step_in}
use Rattle.ckr_points.specs.Rows.{RunRow, TableSet, step_of_run}
use Rattle.ckr_points.specs.Soundness.{rewrite_of}
use Rattle.ckr_points_invariant.specs.Invariant.{IsAgreed, IsUnderWay, Shape, counted, set_shape, table_shape}
use Rattle.ckr_points_invariant.specs.RunningSteps.{IsRunning, its_start}
use Rattle.ckr_points_invariant.proofs.Steps.Commits.{alike_within, formed_step, in_reach, place_so, under_way}
use Rattle.ckr_points_invariant.proofs.Rewrite.Invariant.{have_lengths-same, rewritten-long, updated-name, within-next}
use Rattle.ckr_points_invariant.proofs.Writes.Roles.{IsTarget, dd_role, formed-roles, target, target-named}
use Rattle.ckr_points_invariant.proofs.Rewrite.Sets.{updated-made}
use Rattle.ckr_desk_turn.proofs.Start.Sets.{IsThere, made_at-there, written_all-there}
use Rattle.ckr_desk_turn.proofs.Rewrite.Masters.{HasPlace, HasPlaceAt, first-input, role-updates, standing-plain, written_all-place}
use Rattle.ckr_desk_turn.proofs.Units.Outputs.{each_output, have, lengths-follow, within_at-parts}
use Rattle.ckr_desk_turn.proofs.RunningSteps.{map-same}

-- the write behind some writes of a step rewrites a record, and is the last one for the records taken
pub record Rewrites (start : StepStart) (before taken : ℕ) (at : ℕ × List ℕ) : Type 0 where
  pub write : Write
  pub got : slice_get (work_at start).writes before ≡ Some write
  pub is : rewrite_of write.output write.image ≡ Some at
  pub updates : is_update start.owned.step.program ≡ true
  pub low : at.0 < length (input_at start (made_at start) 0)
  pub below : taken ≤ records_taken (case_at start)
  pub counts : suc before ≡ length (upto (case_at start) taken)

as-rewrite : (output : Output) (image : List ℕ) (at : ℕ × List ℕ) → rewrite_of output image ≡ Some at → (let one : Write = record { output = output; image = image } in let other : Write = record { output = InPlace at.0; image = at.1 } in one ≡ other)
as-rewrite Main image at e = absurd (some-not-none at (sym e))
as-rewrite Rejects image at e = absurd (some-not-none at (sym e))
as-rewrite (InPlace place) image at e = ap (λ (one : ℕ × List ℕ). let write : Write = record { output = InPlace one.0; image = one.1 } in write) (same_Some (place, image) at e)

plainly : (content other : Content) (here there : ℕ) → content ≡ other → other ≡ Plain → counted content here ≡ counted other there → here ≡ there
plainly content other here there same plain counts =
    sym (ap (λ c. counted c here) (same ∙ plain)) ∙ counts ∙ ap (λ c. counted c there) plain

itself : (image : List ℕ) → pointwise nat_eq image image ≡ true
itself image = texts_ties image image ∙ name-equivalence.refl image

-- what is updated, as the tables have it
pub record ItsTable (office : Office) (name : Name) (place : ℕ) : Type 0 where
  pub table : TableSet
  pub found : entry_at office.tables.sets name ≡ Some table
  pub low : place < table.set.length

module _ (layout : Layout) (office : Office) (run : ℕ) (row : RunRow) (leg : Leg) (owned : OwnedStep) (number committed before taken : ℕ) (at : ℕ × List ℕ)
    (kept : IsAgreed layout office) (running : IsRunning office run row leg owned number committed) (spaced : AreWithinSpace leg.start)
    (behind : committed ≤ before) (plain : rewrites_nothing (its_start leg owned number) committed before ≡ true)
    (rewrites : Rewrites (its_start leg owned number) before taken at) where
  abbrev start : StepStart
  start = its_start leg owned number

  fit : before < length (work_at start).writes
  fit = get-inside rewrites.write (work_at start).writes before rewrites.got

  -- ---- MASTER

  abbrev pub updated : Name
  updated = name_with_role leg.job.root owned is_updates

  formed : is_formed_step leg.job.root owned ≡ true
  formed = formed_step layout office run row leg owned number committed kept running

  goes : output_name start (InPlace at.0) ≡ Some updated
  goes = updated-name start at.0 formed rewrites.updates

  its_dd : (dd : Dd) × IsTarget start (InPlace at.0) updated dd
  its_dd = target start (InPlace at.0) updated goes

  its_role : its_dd.0.role ≡ Updates
  its_role =
      dd_role owned.step.program its_dd.0 (find-all (has_role owned.step.program) (λ dd. same_name its_dd.1.dd_name dd.name) owned.step.dds its_dd.0 (formed-roles leg.job.root owned formed) its_dd.1.found)
      ∙ ap (role_of owned.step.program) (sym (name-same its_dd.1.dd_name its_dd.0.name (find-passes (λ dd. same_name its_dd.1.dd_name dd.name) owned.step.dds its_dd.0 its_dd.1.found)))
      ∙ role-updates owned.step.program at.0 its_dd.1.dd_name rewrites.updates its_dd.1.named

  among : is_among (names_of leg.job.root owned) updated ≡ true
  among = target-named start (InPlace at.0) updated its_dd.0 its_dd.1

  way : IsUnderWay row start committed
  way = under_way layout office run row leg owned number committed kept running

  -- the place is there when the step's data sets are made, and ever after
  made_place : HasPlaceAt (made_at start) updated at.0
  made_place set is = (
    standing-plain start its_dd.0 updated (λ dd. same_name its_dd.1.dd_name dd.name) its_dd.1.found its_dd.1.has its_role way.flawless set
        (sym (updated-made start updated at.0 formed goes) ∙ is),
    subst (λ n. at.0 < n)
        (ap length (first-input start (made_at start) at.0 updated its_dd.0 rewrites.updates its_dd.1) ∙ ap (λ (o : Option LibrarySet). length (option_map_or set_records o [])) is)
        rewrites.low,
  )

  has_place : HasPlaceAt (within_at start committed) updated at.0
  has_place =
      subst (λ library. HasPlaceAt library updated at.0) (sym (within_at-parts start committed))
      (written_all-place start (take committed (work_at start).writes) (made_at start) updated at.0 made_place)

  is_there : IsThere (within_at start committed) updated
  is_there =
      subst (λ library. IsThere library updated) (sym (within_at-parts start committed))
      (written_all-there start updated (take committed (work_at start).writes) (made_at start) (made_at-there start updated way.flawless among))

  pub its_table : ItsTable office updated at.0
  its_table =
      by (entry_at office.tables.sets updated) (entry_at (within_at start committed) updated) refl refl
      (alike_within layout office run row leg owned number committed kept running updated (in_reach layout office run row leg owned number committed kept running updated among))
      is_there
    where
      by : (entry : Option TableSet) (other : Option LibrarySet) → entry_at office.tables.sets updated ≡ entry → entry_at (within_at start committed) updated ≡ other → option_map table_shape entry ≡ option_map set_shape other → is_some other ≡ true → ItsTable office updated at.0
      by entry None found is alike there = absurd (false≢true there)
      by None (Some set) found is alike there = absurd (some-not-none (set_shape set) (sym alike))
      by (Some table) (Some set) found is alike there =
          let shape : table_shape table ≡ set_shape set = same_Some _ _ alike in
          let has : HasPlace at.0 set = has_place set is in
          let long : table.set.length ≡ length set.records = plainly table.set.content set.content table.set.length (length set.records) (ap (λ (s : Shape). s.content) shape) has.0 (ap (λ (s : Shape). s.length) shape) in
          record { table = table; found = found; low = subst (λ n. at.0 < n) (sym long) has.1 }

  -- ---- the lengths

  behind_so : within_at start (suc before) ≡ written_one start (record { output = InPlace at.0; image = at.1 }) (within_at start before)
  behind_so =
      within-next start before rewrites.write rewrites.got
      ∙ ap (λ one. written_one start one (within_at start before)) (as-rewrite rewrites.write.output rewrites.write.image at rewrites.is)

  same_long : (name : Name) → length (records_under (within_at start (suc before)) name) ≡ length (records_under (within_at start before) name)
  same_long name = ap (λ library. length (records_under library name)) behind_so ∙ rewritten-long start at.0 at.1 (within_at start before) name

  lengths_so : lengths_at start office.tables.sets (suc before) ≡ lengths_at start office.tables.sets before
  lengths_so =
      map-same (length_now (within_at start (suc before)) office.tables.sets) (length_now (within_at start before) office.tables.sets) (output_names leg.job.root owned)
      (λ name among. ap (λ n. option_map_or (λ (table : TableSet). length_by table.set.content table n) (entry_at office.tables.sets name) 0) (same_long name))

  pub follow_so : lengths_follow office.tables row (lengths_at start office.tables.sets (suc before)) ≡ true
  follow_so =
      ap (lengths_follow office.tables row) lengths_so
      ∙ lengths-follow layout office run row leg owned number committed before kept running spaced behind (omega (arith, fit)) plain

  pub carry_so : carries_lengths office.tables.sets (suc before) (lengths_at start office.tables.sets (suc before)) start ≡ true
  carry_so =
      and_from (nat_le (suc before) (length (work_at start).writes)) (have_lengths (within_at start (suc before)) office.tables.sets (output_names leg.job.root owned) (lengths_at start office.tables.sets (suc before)))
      (nat_le-from (suc before) (length (work_at start).writes) fit)
      (have_lengths-same (within_at start (suc before)) (within_at start before) office.tables.sets (output_names leg.job.root owned) (lengths_at start office.tables.sets (suc before)) same_long
      ∙ ap (have_lengths (within_at start before) office.tables.sets (output_names leg.job.root owned)) lengths_so
      ∙ have (within_at start before) office.tables.sets (output_names leg.job.root owned)
      (each_output layout office run row leg owned number committed before kept running spaced behind (omega (arith, fit)) plain))

  -- ---- the record

  abbrev pub image : List ℕ
  image = fitted its_table.table.set.lrecl at.1

  pub rewrite_carried : carries_rewrite office.tables.sets (suc before) at.0 image start ≡ true
  rewrite_carried =
      ap (λ (o : Option Write). option_map_or (λ (write : Write). option_map_or (λ (one : ℕ × List ℕ). one.0 == at.0 && option_map_or (λ (table : TableSet). pointwise nat_eq image (fitted table.set.lrecl one.1)) (entry_at office.tables.sets updated) false) (rewrite_of write.output write.image) false) o false) rewrites.got
      ∙ ap (λ (o : Option (ℕ × List ℕ)). option_map_or (λ (one : ℕ × List ℕ). one.0 == at.0 && option_map_or (λ (table : TableSet). pointwise nat_eq image (fitted table.set.lrecl one.1)) (entry_at office.tables.sets updated) false) o false) rewrites.is
      ∙ and_from (at.0 == at.0) (option_map_or (λ (table : TableSet). pointwise nat_eq image (fitted table.set.lrecl at.1)) (entry_at office.tables.sets updated) false)
      (equal-itself at.0)
      (ap (λ (o : Option TableSet). option_map_or (λ (table : TableSet). pointwise nat_eq image (fitted table.set.lrecl at.1)) o false) its_table.found ∙ itself image)

  same_job : leg.job ≡ row.job
  same_job = (place_so layout office run row leg owned number committed kept running).job

  pub rewrite_follows : of_step row (is_rewrite office.tables at.0 image row) ≡ true
  rewrite_follows =
      ap (λ place. option_map_or (is_rewrite office.tables at.0 image row) (step_of_run row (step_in place)) false) running.stands
      ∙ ap (λ (o : Option OwnedStep). option_map_or (is_rewrite office.tables at.0 image row) o false) running.found
      ∙ and_from (is_update owned.step.program) (option_map_or (λ (table : TableSet). nat_lt at.0 table.set.length && length image == table.set.lrecl) (entry_at office.tables.sets (name_with_role row.job.root owned is_updates)) false)
      rewrites.updates
      (ap (λ (job : Effective). option_map_or (λ (table : TableSet). nat_lt at.0 table.set.length && length image == table.set.lrecl) (entry_at office.tables.sets (name_with_role job.root owned is_updates)) false) (sym same_job)
      ∙ ap (λ (o : Option TableSet). option_map_or (λ (table : TableSet). nat_lt at.0 table.set.length && length image == table.set.lrecl) o false) its_table.found
      ∙ and_from (nat_lt at.0 its_table.table.set.length) (length image == its_table.table.set.lrecl) (lt-ltb at.0 its_table.table.set.length its_table.low)
      (ap (λ n. n == its_table.table.set.lrecl) (length-fitted at.1 its_table.table.set.lrecl) ∙ equal-itself its_table.table.set.lrecl))

  pub lrecl_so : option_map_or (λ (owned : OwnedStep). option_map_or (λ (table : TableSet). table.set.lrecl) (entry_at office.tables.sets (name_with_role row.job.root owned is_updates)) 0) (step_of_run row (step_in (place_of row))) 0 ≡ its_table.table.set.lrecl
  lrecl_so =
      ap (λ place. option_map_or (λ (owned : OwnedStep). option_map_or (λ (table : TableSet). table.set.lrecl) (entry_at office.tables.sets (name_with_role row.job.root owned is_updates)) 0) (step_of_run row (step_in place)) 0) running.stands
      ∙ ap (λ (o : Option OwnedStep). option_map_or (λ (owned : OwnedStep). option_map_or (λ (table : TableSet). table.set.lrecl) (entry_at office.tables.sets (name_with_role row.job.root owned is_updates)) 0) o 0) running.found
      ∙ ap (λ (job : Effective). option_map_or (λ (table : TableSet). table.set.lrecl) (entry_at office.tables.sets (name_with_role job.root owned is_updates)) 0) (sym same_job)
      ∙ ap (λ (o : Option TableSet). option_map_or (λ (table : TableSet). table.set.lrecl) o 0) its_table.found
