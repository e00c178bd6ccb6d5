use Rattle.std.proofs.Common.{◌≡◌, ℕ, suc, ◌+◌, List, ap, sym, ◌∙◌, add-one}
use Rattle.std.proofs.lemmas.Option.{same_Some}
use Rattle.ckr_entry.specs.declared.point.Mark.{Mark}
use Rattle.ckr_entry.specs.declared.point.Passed.{Passed}
use Rattle.ckr_library.specs.NameMaps.{Name}
use Rattle.ckr_points_runs.specs.Checkpoint.{checkpoint_name}
use Rattle.ckr_points_runs.specs.RunChange.{check_writing, going, holding_kit}
use Rattle.ckr_points_runs.specs.RunJobs.{own_of}
use Rattle.ckr_points_runs.specs.View.{Writing, facts_of}
use Rattle.ckr_points_runs.proofs.CheckpointNames.{role-named}
use Rattle.ckr_points_runs.proofs.checkpoint.take_entry.Goals as goal

pub returns-clause-entry : goal.returns-clause-entry
returns-clause-entry c own there =
    let mine = own_of c.in-Some.own in
    let same : mine ≡ own = same_Some mine own (c.in-Some.ensures.step ∙ there) in
    let root = c.args.table.now.job.root in
    let set : c.in-Some-checkpoint_name.set ≡ _ = sym (role-named root mine c.in-Some-checkpoint_name.set (ap (λ r. checkpoint_name r mine) (sym c.root.ensures) ∙ sym c.in-Some-checkpoint_name.ensures)) in
    let entry = λ (set id job step_name : Name) (count : ℕ) (marks : List Mark) (passed : List Passed).
    let writing : Writing = record {
      set = set;
      id = id;
      place = c.args.kept.now.place;
      point = record {
        job = job;
        run = c.args.line.now.number;
        owner = mine.owner;
        step = c.args.far.step;
        step_name = step_name;
        count = count;
        taken = c.args.far.taken;
        writes = c.args.far.writes;
        marks = marks;
        passed = passed;
      };
    } in
    writing in
    let now = going c.args.line.now (facts_of c.args.table.now) c.args.library.now.sets in
    let marks = c.take_marks-marks.result.items in
    let passed = c.take_passed-passed.result.items in
    let count = c.args.table.now.count in
    let full = check_writing holding_kit c.args.far.step c.args.kept.now c.args.far.taken c.args.far.writes c.args.library.now.sets now mine in
    ap (λ x. entry x c.copied.result c.copied-2.result c.copied-3.result (count + 1) marks passed) set
    ∙ ap (λ x. entry full.set x c.copied-2.result c.copied-3.result (count + 1) marks passed) c.copied.ensures
    ∙ ap (λ x. entry full.set full.id x c.copied-3.result (count + 1) marks passed) (c.copied-2.ensures ∙ ap (λ deck. deck.name) c.deck.ensures)
    ∙ ap (λ x. entry full.set full.id full.point.job x (count + 1) marks passed) c.copied-3.ensures
    ∙ ap (λ x. entry full.set full.id full.point.job full.point.step_name x marks passed) (add-one count)
    ∙ ap (λ x. entry full.set full.id full.point.job full.point.step_name (suc count) x passed) c.take_marks-marks.ensures.marks
    ∙ ap (λ x. entry full.set full.id full.point.job full.point.step_name (suc count) full.point.marks x) (c.take_passed-passed.ensures.passed ∙ c.as_slice.ensures)
    ∙ ap (check_writing holding_kit c.args.far.step c.args.kept.now c.args.far.taken c.args.far.writes c.args.library.now.sets now) same
