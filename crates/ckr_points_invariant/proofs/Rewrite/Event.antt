-- One more event by which a record is rewritten in place.
use Rattle.std.proofs.Common.{◌≡◌, ◌<◌, ℕ, suc, pred, Bool, true, false, cond, ◌&&◌, List, length, refl, ap, sym, ◌∙◌, subst, Option, Some, arith}
use Rattle.std.specs.Prelude.{nat_le, nat_lt, slice_get}
use Rattle.std.specs.Option.{option_map, option_map_or}
use Rattle.std.proofs.lemmas.Bool.{false≢true}
use Rattle.std.proofs.lemmas.Option.{same_Some}
use Rattle.ckr_base.specs.declared.programs.Output.{Output}
use Rattle.ckr_base.specs.declared.programs.Output.TheVariants.{Main, Rejects, InPlace}
use Rattle.ckr_base.specs.declared.programs.Write.{Write}
use Rattle.ckr_base.proofs.Bools.{and-first, and-second, bool-cases}
use Rattle.ckr_base.proofs.Numbers.{nat_le-true, nat_lt-true}
use Rattle.ckr_base.proofs.Options.{option-cases, some-not-none}
use Rattle.ckr_library.specs.NameMaps.{Name, Named, same_name, entry_at, with_changed}
use Rattle.ckr_library.proofs.Named.{at-with_changed, name-same}
use Rattle.ckr_meaning.specs.EffectiveJob.{Effective, OwnedStep, is_among, names_of}
use Rattle.ckr_meaning.specs.declared.place.Place.TheVariants.{Within}
use Rattle.ckr_meaning.specs.StepRun.{StepStart, output_name, within_at, work_at, written_one}
use Rattle.ckr_volumes.specs.declared.layout.Layout.{Layout}
use Rattle.ckr_points.specs.Tables.{after_rewritten, committed, is_updates, name_with_role, row_rewritten, table_rewritten}
use Rattle.ckr_points.specs.Follows.{are_lengths, is_update}
use Rattle.ckr_points.specs.Payload.{carries_lengths, carries_rewrite, carries_taken, have_lengths, is_formed_step, records_under, rewrites_nothing, writes_in}
use Rattle.ckr_points_invariant.specs.Invariant.{AreAlike, IsAgreed, set_shape, step_now, table_shape}
use Rattle.ckr_points_invariant.specs.RunningSteps.{IsRunning, its_start}
use Rattle.ckr_points_library.specs.Commit.{output_names}
use Rattle.ckr_points.specs.Office.{Leg, Office}
use Rattle.ckr_points.specs.Restart.{place_of}
use Rattle.ckr_points.specs.Rows.{RunRow, TableSet, with_run}
use Rattle.ckr_points.specs.Soundness.{rewrite_of}
use Rattle.ckr_points_invariant.proofs.Steps.Commits.{alike_within, formed_step, in_reach, kept-behind, laid_so, out_of_outputs}
use Rattle.ckr_points_invariant.proofs.Library.Extents.{laid-changed, stands_as}
use Rattle.ckr_points_invariant.proofs.Holders.Moves.{Among}
use Rattle.ckr_points_invariant.proofs.Rewrite.Invariant.{have_lengths-same, rewritten-alike, rewritten-long, updated-name, within-next}
use Rattle.ckr_points_invariant.proofs.Writes.Roles.{target, target-named}
use Rattle.ckr_points_invariant.proofs.Steps.Events.{is-behind, row-rewritten-carried, row-rewritten-made}
use Rattle.ckr_points_invariant.proofs.Writes.Likeness.{commit-alike, committed-other}
use Rattle.ckr_points_invariant.proofs.EventRows.{IsRewriting}

in-place : (output : Output) (image : List ℕ) (at : ℕ × List ℕ) → rewrite_of output image ≡ Some at → output ≡ InPlace at.0
in-place Main image at e = absurd (some-not-none at (sym e))
in-place Rejects image at e = absurd (some-not-none at (sym e))
in-place (InPlace place) image at e = ap (λ (one : ℕ × List ℕ). InPlace one.0) (same_Some (place, image) at e)

-- the last write, which is a rewrite
pub record IsLast (start : StepStart) (writes place : ℕ) (write : Write) : Type 0 where
  pub got : slice_get (work_at start).writes (pred writes) ≡ Some write
  pub output : write.output ≡ InPlace place

last-write : (start : StepStart) (writes : ℕ) (test : ℕ × List ℕ → Bool) → option_map_or (λ (write : Write). option_map_or test (rewrite_of write.output write.image) false) (slice_get (work_at start).writes (pred writes)) false ≡ true → (write : Write) × (place : ℕ) × IsLast start writes place write
last-write start writes test e =
    option-cases (slice_get (work_at start).writes (pred writes))
    (λ none. absurd (false≢true (sym (ap (λ (o : Option Write). option_map_or (λ (write : Write). option_map_or test (rewrite_of write.output write.image) false) o false) none) ∙ e)))
    (λ write got.
    option-cases (rewrite_of write.output write.image)
    (λ none. absurd (false≢true (sym (ap (λ (o : Option (ℕ × List ℕ)). option_map_or test o false) none) ∙ sym (ap (λ (o : Option Write). option_map_or (λ (write : Write). option_map_or test (rewrite_of write.output write.image) false) o false) got) ∙ e)))
    (λ at is. (write, at.0, record { got = got; output = in-place write.output write.image at is })))

module _ (layout : Layout) (office : Office) (job : ℕ) (row : RunRow) (leg : Leg) (owned : OwnedStep) (writes place : ℕ) (lengths : List ℕ) (write : Write)
    (kept : IsAgreed layout office) (running : IsRunning office job row leg owned (step_now row) (writes_in (place_of row))) (updates : is_update owned.step.program ≡ true)
    (last : IsLast (its_start leg owned (step_now row)) writes place write) (before : writes_in (place_of row) < writes)
    (nothing : rewrites_nothing (its_start leg owned (step_now row)) (writes_in (place_of row)) (pred writes) ≡ true)
    (carried : carries_lengths office.tables.sets writes lengths (its_start leg owned (step_now row)) ≡ true)
    (are : are_lengths office.tables.sets (output_names leg.job.root owned) lengths ≡ true) where
  abbrev start : StepStart
  start = its_start leg owned (step_now row)

  formed : is_formed_step leg.job.root owned ≡ true
  formed = formed_step layout office job row leg owned (step_now row) (writes_in (place_of row)) kept running

  number_so : writes ≡ suc (pred writes)
  number_so = omega (arith, before)

  write_so : write ≡ record { output = InPlace place; image = write.image }
  write_so = ap (λ output. let one : Write = record { output = output; image = write.image } in one) last.output

  behind_so : within_at start writes ≡ (let one : Write = record { output = InPlace place; image = write.image } in written_one start one (within_at start (pred writes)))
  behind_so =
      ap (within_at start) number_so ∙ within-next start (pred writes) write last.got
      ∙ ap (λ one. written_one start one (within_at start (pred writes))) write_so

  lengths_before : have_lengths (within_at start (pred writes)) office.tables.sets (output_names leg.job.root owned) lengths ≡ true
  lengths_before =
      have_lengths-same (within_at start (pred writes)) (within_at start writes) office.tables.sets (output_names leg.job.root owned) lengths
      (λ name. sym (ap (λ library. length (records_under library name)) behind_so ∙ rewritten-long start place write.image (within_at start (pred writes)) name))
      ∙ and-second (nat_le writes (length (work_at start).writes)) _ carried

  abbrev updated : Name
  updated = name_with_role leg.job.root owned is_updates

  updated_among : is_among (names_of leg.job.root owned) updated ≡ true
  updated_among =
      let e : output_name start (InPlace place) ≡ Some updated = updated-name start place formed updates in
      let t = target start (InPlace place) updated e in target-named start (InPlace place) updated t.0 t.1

  abbrev sets : Named TableSet
  sets = with_changed updated (table_rewritten owned.owner (step_now row)) (committed (output_names leg.job.root owned) lengths office.tables.sets)

  abbrev next : RunRow
  next = record (row_rewritten (step_now row) row) { place = Some (Within (step_now row) writes) }

  outside_so : (name : Name) → is_among leg.reach name ≡ false → entry_at sets name ≡ entry_at office.tables.sets name
  outside_so name out =
      at-with_changed updated name (table_rewritten owned.owner (step_now row)) (committed (output_names leg.job.root owned) lengths office.tables.sets)
      ∙ ap (λ b. cond b (option_map (table_rewritten owned.owner (step_now row)) (entry_at (committed (output_names leg.job.root owned) lengths office.tables.sets) name)) (entry_at (committed (output_names leg.job.root owned) lengths office.tables.sets) name))
      (bool-cases (same_name name updated)
      (λ same.
      absurd (false≢true (sym out ∙ in_reach layout office job row leg owned (step_now row) (writes_in (place_of row)) kept running name
      (ap (is_among (names_of leg.job.root owned)) (name-same name updated same) ∙ updated_among))))
      (λ apart. apart))
      ∙ committed-other (output_names leg.job.root owned) lengths office.tables.sets name
      (out_of_outputs layout office job row leg owned (step_now row) (writes_in (place_of row)) kept running name out)

  inside_so : (name : Name) → Among leg name → AreAlike sets (within_at start writes) name
  inside_so name among =
      rewritten-alike start place write.image (committed (output_names leg.job.root owned) lengths office.tables.sets) (within_at start (pred writes)) name formed updates
      (commit-alike start (writes_in (place_of row)) (pred writes) lengths office.tables.sets name formed (omega (arith, before)) nothing lengths_before
      (alike_within layout office job row leg owned (step_now row) (writes_in (place_of row)) kept running name among))
      ∙ ap (λ library. option_map set_shape (entry_at library name)) (sym behind_so)

  pub kept-replaced : IsAgreed layout (record office { tables = with_run next (record office.tables { sets = sets }) })
  kept-replaced =
      kept-behind layout office job row leg owned (step_now row) (writes_in (place_of row)) kept running next writes sets
      (is-behind layout office job row next leg owned (writes_in (place_of row)) writes kept running
      (record {
        number = refl;
        deck = refl;
        job = refl;
        own_from = refl;
        rcs = refl;
        passed = refl;
        lost = refl;
        stands = refl;
        holds = running.holder.holds;
        made = λ its step. row-rewritten-made row (step_now row) its step;
        carried = row-rewritten-carried row (step_now row);
      }))
      (nat_le-true writes (length (work_at start).writes) (and-first (nat_le writes (length (work_at start).writes)) _ carried))
      (λ name out. ap (option_map table_shape) (outside_so name out)) inside_so
      (laid-changed layout updated (table_rewritten owned.owner (step_now row)) (committed (output_names leg.job.root owned) lengths office.tables.sets)
      (λ table. record { parts = refl; lrecl = refl })
      (λ table e stands. stands_as layout _ table.set refl refl refl stands.length_fits stands)
      (laid_so layout office job row leg owned (step_now row) (writes_in (place_of row)) kept running lengths are))

pub kept-rewritten : (layout : Layout) (office : Office) (job taken writes place : ℕ) (lengths image : List ℕ) (row : RunRow) (leg : Leg) (owned : OwnedStep) → IsAgreed layout office → IsRewriting office job row leg owned taken writes place lengths image → IsAgreed layout (record office { tables = after_rewritten row owned (step_now row) writes lengths office.tables })
kept-rewritten layout office job taken writes place lengths image row leg owned kept its =
    let start : StepStart = its_start leg owned (step_now row) in
    let from : ℕ = writes_in (place_of row) in
    let four : (nat_lt from writes && rewrites_nothing start from (pred writes) && carries_lengths office.tables.sets writes lengths start && carries_taken taken writes start) ≡ true = and-first (nat_lt from writes && rewrites_nothing start from (pred writes) && carries_lengths office.tables.sets writes lengths start && carries_taken taken writes start) (carries_rewrite office.tables.sets writes place image start) its.carried in
    let three : (nat_lt from writes && rewrites_nothing start from (pred writes) && carries_lengths office.tables.sets writes lengths start) ≡ true = and-first (nat_lt from writes && rewrites_nothing start from (pred writes) && carries_lengths office.tables.sets writes lengths start) (carries_taken taken writes start) four in
    let two : (nat_lt from writes && rewrites_nothing start from (pred writes)) ≡ true = and-first (nat_lt from writes && rewrites_nothing start from (pred writes)) (carries_lengths office.tables.sets writes lengths start) three in
    let it = last-write start writes _ (and-second (nat_lt from writes && rewrites_nothing start from (pred writes) && carries_lengths office.tables.sets writes lengths start && carries_taken taken writes start) (carries_rewrite office.tables.sets writes place image start) its.carried) in
    let same : leg.job ≡ row.job = (kept.places job row leg its.at.running.holder).job in
    subst (λ (effective : Effective). IsAgreed layout (record office { tables = with_run (record (row_rewritten (step_now row) row) { place = Some (Within (step_now row) writes) }) (record office.tables { sets = with_changed (name_with_role effective.root owned is_updates) (table_rewritten owned.owner (step_now row)) (committed (output_names effective.root owned) lengths office.tables.sets) }) })) same
    (kept-replaced layout office job row leg owned writes it.1 lengths it.0 kept its.at.running
    (and-first (is_update owned.step.program) _ its.rewrite) it.2
    (nat_lt-true from writes (and-first (nat_lt from writes) (rewrites_nothing start from (pred writes)) two))
    (and-second (nat_lt from writes) (rewrites_nothing start from (pred writes)) two)
    (and-second (nat_lt from writes && rewrites_nothing start from (pred writes)) (carries_lengths office.tables.sets writes lengths start) three)
    (ap (λ (effective : Effective). are_lengths office.tables.sets (output_names effective.root owned) lengths) same ∙ its.at.are))
