-- The point of a step that starts and that of a checkpoint say what the job has at their places.
use Rattle.std.proofs.Common.{◌≡◌, ℕ, true, false, List, ap, sym, ◌∙◌, subst, Option, Some, None}
use Rattle.std.specs.Option.{option_map, option_map_or}
use Rattle.std.proofs.lemmas.Option.{same_Some}
use Rattle.ckr_base.proofs.Bools.{bool-cases}
use Rattle.ckr_base.proofs.Options.{some-not-none}
use Rattle.ckr_entry.specs.declared.point.Mark.{Mark}
use Rattle.ckr_entry.specs.declared.point.Present.{Present}
use Rattle.ckr_library.specs.declared.sets.Content.{Content}
use Rattle.ckr_library.specs.NameMaps.{Name, Named, entry_at}
use Rattle.ckr_meaning.specs.EffectiveJob.{is_among, names_of_job}
use Rattle.ckr_meaning.specs.JobRun.{at, walk_before}
use Rattle.ckr_meaning.specs.LibrarySet.{LibrarySet}
use Rattle.ckr_meaning.specs.declared.place.Place.{Place}
use Rattle.ckr_volumes.specs.declared.layout.Layout.{Layout}
use Rattle.ckr_points.specs.Marks.{carried_marks, mark_at, marks_now, own_names, present_at, present_of}
use Rattle.ckr_points.specs.Office.{Leg, Office, leg_of}
use Rattle.ckr_points.specs.Restart.{place_of, step_in}
use Rattle.ckr_points.specs.Rows.{RunRow, TableSet}
use Rattle.ckr_points_invariant.specs.Invariant.{AreAlike, HasMarkOf, IsAgreed, IsAtPlace, IsHolder, IsMarkOf, Shape, present_shape, set_shape, step_now, table_shape}
use Rattle.ckr_points_invariant.specs.Points.{IsPointAt}
use Rattle.ckr_points_invariant.proofs.Holders.Places.{mark-stays, other-out}
use Rattle.ckr_points_invariant.proofs.Marks.Points.{covers-now, mark-carried, present-now}
use Rattle.ckr_points_invariant.proofs.Soundness.{at-passed}
use Rattle.ckr_points_invariant.proofs.Steps.Walks.{at-same-step}

-- ---- marks

-- what a mark says of a data set that the tables and a library both have
pub mark-of : (table : Option TableSet) (set : Option LibrarySet) → option_map table_shape table ≡ option_map set_shape set → IsMarkOf (option_map present_of table) set
mark-of None None alike = tt
mark-of None (Some set) alike = absurd (some-not-none (set_shape set) (sym alike))
mark-of (Some table) None alike = absurd (some-not-none (table_shape table) alike)
mark-of (Some table) (Some set) alike =
    let same : table_shape table ≡ set_shape set = same_Some _ _ alike in
    ap (λ (content : Content). present_shape content (present_of table)) (sym (ap (λ (shape : Shape). shape.content) same)) ∙ same

-- what a mark says, by its name
marks-present : (marks : List Mark) (name : Name) (set : Option LibrarySet) → HasMarkOf (mark_at marks name) set → IsMarkOf (present_at marks name) set
marks-present marks name set = by (mark_at marks name)
  where
    by : (mark : Option Mark) → HasMarkOf mark set → IsMarkOf (option_map_or (λ mark. mark.present) mark None) set
    by None has = absurd has
    by (Some mark) has = has

-- ---- points

module _ (layout : Layout) (office : Office) (job : ℕ) (row : RunRow) (leg : Leg) (kept : IsAgreed layout office) (holder : IsHolder office job row leg) where
  at_place : IsAtPlace office.tables row leg
  at_place = kept.places job row leg holder

  -- a point that is taken now, with these data sets, says what the job has at a place of the step that it has come to
  pub point-now : (place : Place) (sets : Named TableSet) → step_in place ≡ step_now row
      → ((name : Name) → is_among leg.reach name ≡ true → AreAlike sets (at leg.job leg.start place).sets name)
      → IsPointAt office.legs row.number place (marks_now row sets) row.passed
  point-now place sets here alike = record {
    leg = leg;
    led = ap (leg_of office) (kept.numbered job row holder.row_at) ∙ holder.leg_at;
    covers = λ name. covers-now row sets name ∙ ap (λ job. is_among (names_of_job job) name) (sym at_place.job);
    marked = marked;
    passed_on = at_place.passed ∙ ap (λ n. (walk_before leg.job leg.start n).standing.passed) (sym here) ∙ sym (at-passed leg.job leg.start place);
  }
    where
      same : (name : Name) → is_among (own_names row) name ≡ false → entry_at (at leg.job leg.start (place_of row)).sets name ≡ entry_at (at leg.job leg.start place).sets name
      same name other = at-same-step leg.job leg.start (place_of row) place name here (other-out office.tables row leg name at_place other)

      marked : (name : Name) → is_among (names_of_job leg.job) name ≡ true → IsMarkOf (present_at (marks_now row sets) name) (entry_at (at leg.job leg.start place).sets name)
      marked name among =
          bool-cases (is_among (own_names row) name)
          (λ own.
          subst (λ (present : Option Present). IsMarkOf present (entry_at (at leg.job leg.start place).sets name)) (sym (present-now row sets name own))
          (mark-of (entry_at sets name) (entry_at (at leg.job leg.start place).sets name) (alike name (at_place.own name own))))
          (λ other.
          marks-present (marks_now row sets) name (entry_at (at leg.job leg.start place).sets name)
          (mark-stays (mark_at (carried_marks row) name) (mark_at (marks_now row sets) name) (entry_at (at leg.job leg.start place).sets name)
          (λ mark has. mark-carried row sets name mark (ap (λ job. is_among (names_of_job job) name) (sym at_place.job) ∙ among) other has)
          (subst (HasMarkOf (mark_at (carried_marks row) name)) (same name other) (at_place.carried name among other))))
