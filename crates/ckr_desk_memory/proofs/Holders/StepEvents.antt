-- What an event does to a run within its step: a rewrite, a checkpoint, the step's end, a restart, and a hold.
use Rattle.std.proofs.Common.{arith, ◌≡◌, ◌==◌, ◌<◌, ◌+◌, ℕ, suc, true, false, ◌&&◌, List, refl, ap, sym, ◌∙◌, subst, Some, None}
use Rattle.std.specs.List.{AllByRecursion}
use Rattle.std.specs.Option.{is_none}
use Rattle.std.proofs.lemmas.Bool.{false≢true}
use Rattle.std.proofs.lemmas.Option.{same_Some}
use Rattle.ckr_base.proofs.Bools.{and-first, and-second}
use Rattle.ckr_base.proofs.Options.{option_map_or-true, some-not-none, some-one}
use Rattle.ckr_base.specs.declared.code.Code.{Code}
use Rattle.ckr_library.proofs.Named.{at-with_changed-other}
use Rattle.ckr_library.specs.Catalog.{records_of}
use Rattle.ckr_library.specs.NameMaps.{Name, Named, entry_at, same_name}
use Rattle.ckr_library.specs.declared.sets.Kept.{Kept}
use Rattle.ckr_meaning.specs.EffectiveJob.{OwnedStep, is_among, names_of}
use Rattle.ckr_meaning.specs.declared.place.Place.TheVariants.{Within}
use Rattle.ckr_base.proofs.Sequences.{each-append, find-holds}
use Rattle.ckr_points.specs.declared.run.RunState.TheVariants.{On, Held as HeldRun}
use Rattle.ckr_points.specs.Follows.{is_checkpoint, is_in_state, is_length_of, is_rewrite, is_running, is_update, is_within, own_step}
use Rattle.ckr_points.specs.Office.{is_holder}
use Rattle.ckr_points.specs.Marks.{point_at, put_back, removed_all, with_point}
use Rattle.ckr_points.specs.Restart.{after_put_back, back_to_entry, back_to_start, effect_restarted, kept_at, place_of, point_restarted, row_on, step_in}
use Rattle.ckr_points.specs.Rows.{EffectPoint, EntryPoint, KeptEntry, RunRow, StartPoint, TableSet, TablesModel, run_of, standing_of}
use Rattle.ckr_points.specs.Tables.{after_checkpointed, after_commit, after_dispositions, after_held, after_rewritten, after_step_ended, committed, earlier_made, entry_point, fresh_effect, kept_entry, is_checkpoints, is_updates, name_with_role, own_made, row_rewritten, run_disposals, table_rewritten, with_kept_entry}
use Rattle.ckr_points_invariant.proofs.Holders.Rows.{holder-ended}
use Rattle.ckr_points_invariant.proofs.WrittenEntries.Sets.{committed-has, disposed_all-has, put_back-has, removed_all-has, rewritten-has}
use Rattle.ckr_points_invariant.proofs.OtherRuns.Sets.{length-among}
use Rattle.ckr_desk_plans.specs.Model.Commit.{output_names}
use Rattle.ckr_desk_memory.proofs.Holders.CheckSets.{not-among}
use Rattle.ckr_desk_memory.proofs.Holders.KeptEntries.{kept-changed, kept-committed, kept-of, kept-put_back, none-kept}
use Rattle.ckr_desk_memory.proofs.Holders.Moves.{HasRow, RunGoesOn, goes-through, row-accepted, row-as_is, row-next}
use Rattle.ckr_desk_memory.proofs.Holders.Names.{changed-named, names-outside, outputs-changed, step-formed}
use Rattle.ckr_desk_memory.proofs.Holders.OwnEntries.{checks-keep, kept-weaker, own-as, passed-as, passed-restarted, passed-rewritten, steps-within, within-at}
use Rattle.ckr_desk_memory.proofs.Holders.Sets.{committed-outside, disposed-outside, passed-outside, put_back-outside, restarted-outside, there-changed, there-committed, there-put_back, updated-outside}
use Rattle.ckr_desk_memory.specs.Invariant.{IsAcceptedRow, IsPlacedRow, is_in_step}
use Rattle.ckr_desk_memory.proofs.Invariant.{in_step-holds, in_step-within, running_within}
use Rattle.ckr_desk_turn.specs.Queue.{AreNumbered}
use Rattle.ckr_desk_turn.proofs.Queue.Events.{run_number}
use Rattle.ckr_desk_memory.specs.Holders.{AreOwn, HasOwnEffect, IsStartPassed, PassesOnOwn, changed_names, reached_names}
use Rattle.ckr_desk_plans.proofs.StepNumbers.{first-step}
use Rattle.ckr_desk_memory.proofs.Holders.RowTests.{executes-step, points-rewritten, points-with, rewritten-effect, running-holds, still-made}

-- the tables with the lengths that the step has
abbrev pub behind : TablesModel → RunRow → OwnedStep → ℕ → List ℕ → TablesModel
behind tables row owned writes lengths = after_commit row owned (step_in (place_of row)) writes lengths tables

module _ (tables : TablesModel) (rows : AllByRecursion IsAcceptedRow tables.runs) (numbered : AreNumbered 1 tables.runs) (placed : AllByRecursion IsPlacedRow tables.runs) (job : ℕ) (row : RunRow) (at : run_of tables job ≡ Some row) (owned : OwnedStep) (found : own_step row ≡ Some owned) where
  not_of_step : (name : Name) → is_among (reached_names row) name ≡ false → is_among (names_of row.job.root owned) name ≡ false
  not_of_step name out = names-outside row (step_in (place_of row)) owned name (executes-step tables job row placed at) found out

  pub behind_rows : (writes : ℕ) (lengths : List ℕ) → HasRow tables (behind tables row owned writes lengths) job (record row { place = Some (Within (step_in (place_of row)) writes) })
  behind_rows writes lengths = row-next tables tables job row _ (committed (output_names row.job.root owned) lengths tables.sets) (row-as_is tables job row at) (run_number tables job row numbered at)

  pub behind_outside : (lengths : List ℕ) (name : Name) → is_among (reached_names row) name ≡ false → entry_at (committed (output_names row.job.root owned) lengths tables.sets) name ≡ entry_at tables.sets name
  behind_outside lengths name out = committed-outside row.job.root owned name (not_of_step name out) lengths tables.sets

  pub rewritten : (place : ℕ) (image : List ℕ) (writes : ℕ) (lengths : List ℕ) → is_running row ≡ true → is_rewrite tables place image row owned ≡ true → RunGoesOn tables (after_rewritten row owned (step_in (place_of row)) writes lengths tables) job
  rewritten place image writes lengths runs rewrites = record {
    row = row;
    next = record (row_rewritten (step_in (place_of row)) row) { place = Some (Within (step_in (place_of row)) writes) };
    row_at = at;
    rows = row-next tables tables job row _ (after_rewritten row owned (step_in (place_of row)) writes lengths tables).sets (row-as_is tables job row at) (run_number tables job row numbered at);
    number = refl;
    deck = refl;
    job_is = refl;
    from_is = refl;
    on = holder-ended row.state (running-holds row runs);
    begins = λ was now. absurd (false≢true (sym was ∙ now));
    start = λ begun own ends at. passed-rewritten row (step_in (place_of row)) _ refl (begun (holder-ended row.state (running-holds row runs)) (within-at (place_of row) (running_within row runs)));
    own = λ begun set point its. record {
      first = its.first;
      begun = subst (λ n. point.step < n) (steps-within (place_of row) (running_within row runs)) its.begun;
      passed = passed-rewritten row (step_in (place_of row)) _ refl its.passed;
      changes = its.changes;
    };
    kept = λ begun.
        goes-through tables.sets (after_rewritten row owned (step_in (place_of row)) writes lengths tables).sets _
        (λ E through each.
        rewritten-has E through (name_with_role row.job.root owned is_updates) owned.owner (step_in (place_of row)) _
        (committed-has E through (output_names row.job.root owned) lengths tables.sets each));
    passed = λ begun own. record {
      passed = own.passed;
      points = λ ends. points-rewritten (λ passed. AreOwn row passed) (step_in (place_of row)) row.points (own.points ends);
      effect = λ effect is.
          rewritten-effect row.in_effect effect is
          (λ was e now.
          subst (HasOwnEffect _ _) now
          (let its = own.effect was e in
          record {
            holds = its.holds;
            within = refl;
            owned = its.owned;
            found = its.found;
            changes = its.changes;
            entries =
                kept-weaker (λ entry. same_name entry.kept.id was.kept.id ≡ true → IsStartPassed row (step_in (place_of row)) entry.point.passed) _ _ was.set
                (λ entry had same. passed-rewritten row (step_in (place_of row)) _ refl (had same))
                (kept-changed _ (name_with_role row.job.root owned is_updates) was.set (table_rewritten owned.owner (step_in (place_of row))) (committed (output_names row.job.root owned) lengths tables.sets) (λ table each. each)
                (kept-committed _ (output_names row.job.root owned) lengths tables.sets was.set its.entries));
          }));
    };
    still = λ was name. absurd (false≢true (sym was ∙ running-holds row runs));
    outside = λ own name out.
        updated-outside row.job.root owned name (not_of_step name out) (table_rewritten owned.owner (step_in (place_of row))) (committed (output_names row.job.root owned) lengths tables.sets)
        (step-formed row (step_in (place_of row)) owned (row-accepted tables job row rows at) found) (and-first (is_update owned.step.program) _ rewrites)
        ∙ behind_outside lengths name out;
    changed = λ has other name holding within its among.
        there-changed (name_with_role row.job.root owned is_updates) name (table_rewritten owned.owner (step_in (place_of row))) (committed (output_names row.job.root owned) lengths tables.sets)
        ∙ there-committed (output_names row.job.root owned) lengths tables.sets name
        ∙ has other name holding (and-second (is_in_state On row) (is_within (place_of row)) runs) its among;
  }

  pub checkpointed : (kept : Kept) (place bytes taken writes : ℕ) (id : Name) (lengths : List ℕ) → is_running row ≡ true → is_checkpoint tables id lengths place bytes row owned ≡ true → kept.id ≡ id → kept.run ≡ job
      → RunGoesOn tables (after_checkpointed row owned (step_in (place_of row)) kept taken writes lengths tables) job
  checkpointed kept place bytes taken writes id lengths runs checks its_id its_run =
      let set : Name = name_with_role row.job.root owned is_checkpoints in
      let output : is_among (output_names row.job.root owned) set ≡ true =
      length-among set (place + records_of bytes) (output_names row.job.root owned) lengths
      (and-second _ (is_length_of set (place + records_of bytes) (output_names row.job.root owned) lengths) checks) in
      let fresh : is_none (kept_at tables.sets set kept.id) ≡ true =
      ap (λ id. is_none (kept_at tables.sets set id)) its_id
      ∙ option_map_or-true (entry_at tables.sets set) (λ table. place == table.set.length && is_none (kept_at tables.sets set id)) (and-first _ (is_length_of set (place + records_of bytes) (output_names row.job.root owned) lengths) checks)
      (λ table there passes. and-second (place == table.set.length) _ passes) in
      record {
        row = row;
        next = record row { count = suc row.count; in_effect = Some (fresh_effect (name_with_role row.job.root owned is_checkpoints) kept); place = Some (Within (step_in (place_of row)) writes) };
        row_at = at;
        rows = row-next tables tables job row _ (after_checkpointed row owned (step_in (place_of row)) kept taken writes lengths tables).sets (row-as_is tables job row at) (run_number tables job row numbered at);
        number = refl;
        deck = refl;
        job_is = refl;
        from_is = refl;
        on = holder-ended row.state (running-holds row runs);
        begins = λ was now. absurd (false≢true (sym was ∙ now));
        start = λ begun own ends at. passed-as row _ refl (begun (holder-ended row.state (running-holds row runs)) (within-at (place_of row) (running_within row runs)));
        own = λ begun set point its. own-as row _ refl (sym (steps-within (place_of row) (running_within row runs))) refl its;
        kept = λ begun.
            checks-keep tables.sets (output_names row.job.root owned) lengths set
            (kept_entry kept (entry_point row owned (step_in (place_of row)) taken writes (committed (output_names row.job.root owned) lengths tables.sets))) fresh _
            (record {
              run = refl;
              own = record {
                first = first-step row.job (step_in (place_of row)) owned found;
                begun = omega arith;
                passed = passed-as row _ refl (begun (holder-ended row.state (running-holds row runs)) (within-at (place_of row) (running_within row runs)));
                changes = λ other there.
                    subst (λ (own : OwnedStep). is_among (changed_names row.job.root own) set ≡ true) (some-one owned other (own_step row) found there) (outputs-changed row.job.root owned set output);
              };
              named = record { run = its_run ∙ sym (run_number tables job row numbered at); job = refl; owned = owned; found = found; name = refl; executed = executes-step tables job row placed at };
            });
        passed = λ begun own. record {
          passed = own.passed;
          points = own.points;
          effect = λ effect is.
              subst (HasOwnEffect _ _) (same_Some (fresh_effect set kept) effect is)
              (record {
                holds = running-holds row runs;
                within = refl;
                owned = owned;
                found = found;
                changes = outputs-changed row.job.root owned set output;
                entries =
                    kept-changed _ set set (with_kept_entry _) (committed (output_names row.job.root owned) lengths tables.sets)
                    (λ table each. each-append _ table.entries _ each ((λ same. passed-as row _ refl (begun (holder-ended row.state (running-holds row runs)) (within-at (place_of row) (running_within row runs)))), tt))
                    (kept-committed _ (output_names row.job.root owned) lengths tables.sets set (none-kept _ kept.id tables.sets set fresh));
              });
        };
        still = λ was name. absurd (false≢true (sym was ∙ running-holds row runs));
        outside = λ own name out.
            at-with_changed-other set name _ (committed (output_names row.job.root owned) lengths tables.sets)
            (not-among (names_of row.job.root owned) name set (not_of_step name out) (changed-named row.job.root owned set (outputs-changed row.job.root owned set output)))
            ∙ behind_outside lengths name out;
        changed = λ has other name holding within its among.
            there-changed set name _ (committed (output_names row.job.root owned) lengths tables.sets)
            ∙ there-committed (output_names row.job.root owned) lengths tables.sets name
            ∙ has other name holding (and-second (is_in_state On row) (is_within (place_of row)) runs) its among;
      }

  pub step_ended : (rc writes : ℕ) (lengths : List ℕ) → is_running row ≡ true → RunGoesOn tables (after_step_ended row owned (step_in (place_of row)) rc writes lengths tables) job
  step_ended rc writes lengths runs =
      let done : TablesModel = behind tables row owned writes lengths in
      record {
        row = row;
        next = _;
        row_at = at;
        rows = row-next tables done job _ _ (after_dispositions row owned (step_in (place_of row)) false done).sets (behind_rows writes lengths) (run_number tables job row numbered at);
        number = refl;
        deck = refl;
        job_is = refl;
        from_is = refl;
        on = holder-ended row.state (running-holds row runs);
        begins = λ was now. absurd (false≢true (sym was ∙ now));
        start = λ begun own ends at. absurd (false≢true at);
        own = λ begun set point its. own-as row _ refl (sym (steps-within (place_of row) (running_within row runs))) refl its;
        kept = λ begun.
            goes-through tables.sets (after_dispositions row owned (step_in (place_of row)) false done).sets _
            (λ E through each.
            disposed_all-has E through (run_disposals row owned (own_made row owned (step_in (place_of row))) (earlier_made done row (step_in (place_of row))) false) (standing_of row done)
            (committed-has E through (output_names row.job.root owned) lengths tables.sets each));
        passed = λ begun own. record {
          passed = λ name out.
              still-made row.lost row.passed (after_dispositions row owned (step_in (place_of row)) false done).passed name
              (passed-outside row owned (step_in (place_of row)) name (not_of_step name out) false done) (own.passed name out);
          points = own.points;
          effect = λ effect is. absurd (some-not-none effect (sym is));
        };
        still = λ was name. absurd (false≢true (sym was ∙ running-holds row runs));
        outside = λ own name out. disposed-outside row owned (step_in (place_of row)) name (not_of_step name out) false done ∙ behind_outside lengths name out;
        changed = λ has other name holding within its among. absurd (false≢true within);
      }

  -- a run that goes back to the start of its step isn't within it any more
  pub restarted : (initiator : ℕ) (point : StartPoint) → point_at row.points (step_in (place_of row)) ≡ Some point → is_holder row.state ≡ true → is_within (place_of row) ≡ true
      → RunGoesOn tables (after_put_back (record (row_on initiator row) { points = with_point (point_restarted point) row.points; in_effect = None }) owned (back_to_start row owned (step_in (place_of row)) point) tables) job
  restarted initiator point began holds within =
      let step : ℕ = step_in (place_of row) in
      let sets : Named TableSet = put_back point.marks (output_names row.job.root owned) (names_of row.job.root owned) (removed_all (own_made row owned step) tables.sets) in
      record {
        row = row;
        next = _;
        row_at = at;
        rows = row-next tables tables job row _ sets (row-as_is tables job row at) (run_number tables job row numbered at);
        number = refl;
        deck = refl;
        job_is = refl;
        from_is = refl;
        on = holder-ended row.state holds;
        begins = λ was now. absurd (false≢true (sym was ∙ holds));
        start = λ begun own ends at. passed-restarted row _ step point refl began (record { start = point; at = began; same = refl });
        own = λ begun in_set entry its. record {
          first = its.first;
          begun = subst (λ n. entry.step < n) (steps-within (place_of row) within) its.begun;
          passed = passed-restarted row _ step point refl began its.passed;
          changes = its.changes;
        };
        kept = λ begun.
            goes-through tables.sets sets _
            (λ E through each. put_back-has E through point.marks (output_names row.job.root owned) (names_of row.job.root owned) _ (removed_all-has E through (own_made row owned step) tables.sets each));
        passed = λ begun own.
            let its : AreOwn row point.passed = find-holds (λ (point : StartPoint). AreOwn row point.passed) (λ point. point.step == step) row.points point (own.points (holder-ended row.state holds)) began in
            record {
              passed = its;
              points = λ ends. points-with (λ point. AreOwn row point.passed) (point_restarted point) row.points its (own.points (holder-ended row.state holds));
              effect = λ effect is. absurd (some-not-none effect (sym is));
            };
        still = λ was name. absurd (false≢true (sym was ∙ holds));
        outside = λ own name out. restarted-outside row owned step name (not_of_step name out) point.marks tables.sets;
        changed = λ has other name holding within its among. absurd (false≢true within);
      }

  -- what had been passed on at the entry of the checkpoint in effect
  was-passed : PassesOnOwn tables.sets row → (effect : EffectPoint) (entry : KeptEntry) → row.in_effect ≡ Some effect → kept_at tables.sets effect.set effect.kept.id ≡ Some entry → IsStartPassed row (step_in (place_of row)) entry.point.passed
  was-passed own effect entry now kept =
      kept-of (λ entry. IsStartPassed row (step_in (place_of row)) entry.point.passed) effect.kept.id tables.sets effect.set entry (own.effect effect now).entries kept

  -- one that goes back to its checkpoint is within the step still, and what this may change is there
  pub goes_back : (initiator : ℕ) (effect : EffectPoint) (entry : KeptEntry) → row.in_effect ≡ Some effect → kept_at tables.sets effect.set effect.kept.id ≡ Some entry → is_in_step row ≡ true
      → RunGoesOn tables (after_put_back (record (row_on initiator row) { in_effect = Some (effect_restarted effect) }) owned (back_to_entry row owned (step_in (place_of row)) entry.point) tables) job
  goes_back initiator effect entry now kept inside =
      let point : EntryPoint = entry.point in
      let outputs : List Name = output_names row.job.root owned in
      let sets : Named TableSet = put_back point.marks outputs (names_of row.job.root owned) tables.sets in
      record {
        row = row;
        next = _;
        row_at = at;
        rows = row-next tables tables job row _ sets (row-as_is tables job row at) (run_number tables job row numbered at);
        number = refl;
        deck = refl;
        job_is = refl;
        from_is = refl;
        on = holder-ended row.state (in_step-holds row inside);
        begins = λ was now. absurd (false≢true (sym was ∙ in_step-holds row inside));
        start = λ begun own ends at. passed-as row _ refl (was-passed own effect entry now kept);
        own = λ begun in_set entry its. own-as row _ refl (sym (steps-within (place_of row) (in_step-within row inside))) refl its;
        kept = λ begun.
            goes-through tables.sets sets _ (λ E through each. put_back-has E through point.marks outputs (names_of row.job.root owned) tables.sets each);
        passed = λ begun own.
            let its : HasOwnEffect tables.sets row effect = own.effect effect now in
            let was = was-passed own effect entry now kept in
            record {
              passed =
                  subst (AreOwn row) (sym was.same)
                  (find-holds (λ (point : StartPoint). AreOwn row point.passed) (λ point. point.step == step_in (place_of row)) row.points was.start (own.points (holder-ended row.state (in_step-holds row inside))) was.at);
              points = λ ends. own.points (holder-ended row.state (in_step-holds row inside));
              effect = λ later is.
                  subst (HasOwnEffect _ _) (same_Some (effect_restarted effect) later is)
                  (record {
                    holds = refl;
                    within = refl;
                    owned = its.owned;
                    found = its.found;
                    changes = its.changes;
                    entries =
                        kept-weaker (λ entry. same_name entry.kept.id effect.kept.id ≡ true → IsStartPassed row (step_in (place_of row)) entry.point.passed) _ sets effect.set (λ entry had same. passed-as row _ refl (had same))
                        (kept-put_back _ point.marks outputs (names_of row.job.root owned) tables.sets effect.set its.entries);
                  });
            };
        still = λ was name. absurd (false≢true (sym was ∙ in_step-holds row inside));
        outside = λ own name out. put_back-outside row owned (step_in (place_of row)) name (not_of_step name out) point.marks tables.sets;
        changed = λ has other name holding within its among.
            there-put_back point.marks outputs (names_of row.job.root owned) tables.sets name
            ∙ has other name (in_step-holds row inside) (in_step-within row inside) its among;
      }

  -- a run that is held stays within the step, with its lengths
  pub held : (code : Code) (writes : ℕ) (lengths : List ℕ) → is_in_step row ≡ true → RunGoesOn tables (after_held row owned (step_in (place_of row)) code writes lengths tables) job
  held code writes lengths inside = record {
    row = row;
    next = record row { state = HeldRun; initiator = None; code = Some code; place = Some (Within (step_in (place_of row)) writes) };
    row_at = at;
    rows = row-next tables tables job row _ (committed (output_names row.job.root owned) lengths tables.sets) (row-as_is tables job row at) (run_number tables job row numbered at);
    number = refl;
    deck = refl;
    job_is = refl;
    from_is = refl;
    on = holder-ended row.state (in_step-holds row inside);
    begins = λ was now. absurd (false≢true (sym was ∙ in_step-holds row inside));
    start = λ begun own ends at. passed-as row _ refl (begun (holder-ended row.state (in_step-holds row inside)) (within-at (place_of row) (in_step-within row inside)));
    own = λ begun set point its. own-as row _ refl (sym (steps-within (place_of row) (in_step-within row inside))) refl its;
    kept = λ begun.
        goes-through tables.sets (committed (output_names row.job.root owned) lengths tables.sets) _
        (λ E through each. committed-has E through (output_names row.job.root owned) lengths tables.sets each);
    passed = λ begun own. record {
      passed = own.passed;
      points = λ ends. own.points (holder-ended row.state (in_step-holds row inside));
      effect = λ effect is.
          let its : HasOwnEffect tables.sets row effect = own.effect effect is in
          record {
            holds = refl;
            within = refl;
            owned = its.owned;
            found = its.found;
            changes = its.changes;
            entries =
                kept-weaker (λ entry. same_name entry.kept.id effect.kept.id ≡ true → IsStartPassed row (step_in (place_of row)) entry.point.passed) _ _ effect.set (λ entry had same. passed-as row _ refl (had same))
                (kept-committed _ (output_names row.job.root owned) lengths tables.sets effect.set its.entries);
          };
    };
    still = λ was name. absurd (false≢true (sym was ∙ in_step-holds row inside));
    outside = λ own name out. behind_outside lengths name out;
    changed = λ has other name holding within its among.
        there-committed (output_names row.job.root owned) lengths tables.sets name
        ∙ has other name (in_step-holds row inside) (in_step-within row inside) its among;
  }
