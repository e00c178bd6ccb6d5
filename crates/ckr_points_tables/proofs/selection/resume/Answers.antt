use Rattle.std.proofs.Common.{◌≡◌, Bool, true, false, not, Some, map, refl, ap, sym, ◌∙◌}
use Rattle.std.specs.Option.{is_none, option_copied, option_map}
use Rattle.std.proofs.lemmas.Option.{same_Some}
use Rattle.ckr_base.proofs.Options.{some-not-none}
use Rattle.ckr_jcl.specs.declared.deck.Job.{Job}
use Rattle.ckr_points.specs.Marks.{point_at}
use Rattle.ckr_points_runs.specs.RunJobs.{own_of}
use Rattle.ckr_points_tables.specs.Selection.{Resumption, entries_in, lost_by, resumed, resumption_of, sets_resumed}
use Rattle.ckr_points_runs.specs.View.{facts_of, point_of, written_of}
use Rattle.ckr_points_tables.proofs.selection.resume.Goals as goal
use Rattle.ckr_points_runs.proofs.Steps.{point-mapped}

twice : (b : Bool) → not (not b) ≡ b
twice true = refl
twice false = refl

pub returns-in_default : goal.returns-in_default
returns-in_default c = λ own point at there pointed is.
    absurd (some-not-none own (sym (ap (option_map own_of) (sym c.in_default.is) ∙ c.step_at.ensures.step ∙ there)))

pub returns-in_default-point_at : goal.returns-in_default-point_at
returns-in_default-point_at c = λ own point at there pointed is.
    absurd (some-not-none point (sym (ap (option_map point_of) (ap option_copied (sym c.in_default-point_at.is) ∙ c.point_at.ensures)
    ∙ point-mapped c.as_slice.result.now c.args.step ∙ ap (λ all. point_at (map point_of all) c.args.step) c.as_slice.ensures ∙ pointed)))

pub returns-in_default-resumption_for : goal.returns-in_default-resumption_for
returns-in_default-resumption_for c = λ own point at there pointed is.
    let sets = c.args.library.now.sets in
    let entries = entries_in (map written_of c.args.writings.now) sets in
    let deck = c.args.next.now.job.deck in
    let found : Some (point_of c.in-Some-point_at.point.now) ≡ Some point =
    ap (option_map point_of) c.in-Some-point_at.ensures ∙ point-mapped c.as_slice.result.now c.args.step ∙ ap (λ all. point_at (map point_of all) c.args.step) c.as_slice.ensures ∙ pointed in
    let same = same_Some (point_of c.in-Some-point_at.point.now) point found in
    absurd (some-not-none at (sym
    (ap (option_map resumption_of) (sym c.in_default-resumption_for.is) ∙ c.resumption_for.ensures
    ∙ ap (λ (one : Job). resumed entries one c.args.step (point_of c.in-Some-point_at.point.now) c.args.id.now) c.deck.ensures
    ∙ ap (λ one. resumed entries deck c.args.step one c.args.id.now) same ∙ is)))

pub returns : goal.returns
returns c = λ own point at there pointed is.
    let sets = c.args.library.now.sets in
    let job = c.args.next.now.job in
    let entries = entries_in (map written_of c.args.writings.now) sets in
    let found : Some (point_of c.in-Some-point_at.point.now) ≡ Some point =
    ap (option_map point_of) c.in-Some-point_at.ensures ∙ point-mapped c.as_slice.result.now c.args.step ∙ ap (λ all. point_at (map point_of all) c.args.step) c.as_slice.ensures ∙ pointed in
    let same = same_Some (point_of c.in-Some-point_at.point.now) point found in
    let here : own_of c.in-Some.own ≡ own = same_Some (own_of c.in-Some.own) own (c.in-Some.ensures.step ∙ there) in
    let so : resumption_of c.in-Some-resumption_for.at ≡ at =
    same_Some (resumption_of c.in-Some-resumption_for.at) at
    (c.in-Some-resumption_for.ensures
    ∙ ap (λ (one : Job). resumed entries one c.args.step (point_of c.in-Some-point_at.point.now) c.args.id.now) c.deck.ensures
    ∙ ap (λ one. resumed entries job.deck c.args.step one c.args.id.now) same ∙ is) in
    record {
      sets =
          c.put_back_for.ensures
          ∙ ap (λ b. sets_resumed b c.args.run job job.earlier_step c.in-Some-resumption_for.at.marks.now (own_of c.in-Some.own) sets) (sym (twice c.is_none.result) ∙ ap not (sym c.is_none.ensures))
          ∙ ap (λ n. sets_resumed (is_none c.args.id.now) c.args.run job n c.in-Some-resumption_for.at.marks.now (own_of c.in-Some.own) sets) c.requires.at
          ∙ ap (λ (one : Resumption). sets_resumed (is_none c.args.id.now) c.args.run job c.args.step one.marks (own_of c.in-Some.own) sets) so
          ∙ ap (λ one. sets_resumed (is_none c.args.id.now) c.args.run job c.args.step at.marks one sets) here;
      facts =
          ap (λ lost. record (facts_of c.args.next.now) { lost = lost })
          (c.lose.ensures
          ∙ ap (λ passed. lost_by c.args.run job c.in-Some-resumption_for.at.marks.now passed c.put_back_for.new.library.sets) c.as_slice-2.ensures
          ∙ ap (λ (one : Resumption). lost_by c.args.run job one.marks c.args.next.now.passed.items c.put_back_for.new.library.sets) so);
    }
