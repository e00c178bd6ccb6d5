-- A run that goes back leaves what data sets keep with their entries: at the start of its step it drops those that the step has written.
use Rattle.std.proofs.Common.{◌≡◌, ◌≢◌, ◌≤◌, ℕ, Bool, true, false, cond, not, if◌then◌else◌, ◌||◌, List, [], ◌∷◌, refl, ap, sym, ◌∙◌, subst, Option, Some, None, arith}
use Rattle.std.specs.Prelude.{◌==◌, nat_le}
use Rattle.std.specs.List.{list_all, AllByRecursion}
use Rattle.std.specs.Option.{is_none, option_map, option_map_or}
use Rattle.std.proofs.lemmas.Bool.{and_from, false≢true}
use Rattle.std.proofs.lemmas.Bool.Decides.{nat_tests}
use Rattle.std.proofs.lemmas.Option.{same_Some}
use Rattle.ckr_base.specs.declared.code.Code.{Code}
use Rattle.ckr_base.proofs.Bools.{and-first, and-second, bool-cases, or-cases}
use Rattle.ckr_base.proofs.Numbers.{equal-true, number-cases}
use Rattle.ckr_base.proofs.Options.{option-cases, option_map-some, some-not-none, some-one}
use Rattle.ckr_base.proofs.Sequences.{each-both, find-passes}
use Rattle.ckr_entry.specs.declared.point.Mark.{Mark}
use Rattle.ckr_entry.specs.declared.point.Present.{Present}
use Rattle.ckr_events.specs.declared.event.Event.TheVariants.{Restarted}
use Rattle.ckr_jcl.specs.declared.deck.Job.{Job}
use Rattle.ckr_library.specs.Catalog.{ends_within}
use Rattle.ckr_library.specs.NameMaps.{Name, Named, entry_at}
use Rattle.ckr_meaning.specs.EffectiveJob.{OwnedStep, is_among, names_of, step_at}
use Rattle.ckr_volumes.specs.declared.layout.Layout.{Layout}
use Rattle.ckr_points_library.specs.Commit.{output_names}
use Rattle.ckr_points.specs.Follows.{own_step}
use Rattle.ckr_points.specs.Marks.{is_marked_absent, made_names, mark_at, point_at, present_at, put_back, removed_all, with_point}
use Rattle.ckr_points.specs.Office.{Leg, Office, is_holder, leg_of, office_after}
use Rattle.ckr_points.specs.Payload.{carries}
use Rattle.ckr_points.specs.Restart.{effect_restarted, kept_at, point_restarted}
use Rattle.ckr_points.specs.Rows.{KeptEntry, RunRow, StartPoint, TableSet, cut_set, run_of, with_run}
use Rattle.ckr_points.specs.Soundness.{may_come}
use Rattle.ckr_points.specs.Tables.{own_made}
use Rattle.ckr_points_invariant.specs.Invariant.{IsAgreed, step_now}
use Rattle.ckr_points_invariant.specs.Points.{ArePointed}
use Rattle.ckr_points_invariant.specs.Readiness.{AreReady, IsCheck, KeepsEntry}
use Rattle.ckr_points_invariant.specs.WrittenEntries.{AreWrittenEntries, HasEntered, HasGrown, HasWrittenEntries, IsBehindPoint, IsEntryOf, IsWrittenEntry, is_behind_mark, is_no_shorter}
use Rattle.ckr_points_invariant.proofs.Holders.Places.{outputs-among}
use Rattle.ckr_points_invariant.proofs.Marks.Points.{among-filter, point_at-new, point_at-other}
use Rattle.ckr_points_invariant.proofs.Readiness.Commits.{longer-ends}
use Rattle.ckr_points_invariant.proofs.Readiness.Office.{entries-restorable, steps-restorable}
use Rattle.ckr_points_invariant.proofs.Readiness.Runs.{kept-entry}
use Rattle.ckr_points_invariant.proofs.Readiness.Restarts.{back-keeps}
use Rattle.ckr_points_invariant.proofs.PutBack.Sets.{at-removed_all, back_to, changed_if, put_back-marked, put_back-none, to_catalog}
use Rattle.ckr_points_invariant.proofs.Restart.Event.{by-run, entry-by, entry-left, row_back, row_then, sets_then, sets_then_back, start-by, start-left}
use Rattle.ckr_points_invariant.proofs.WrittenEntries.Entries.{KeepsItsPoints, KeepsStep, all-each, all-kept, each-any, entries-through, same-points, same-step, written-by}
use Rattle.ckr_points_invariant.proofs.WrittenEntries.Growth.{IsEffectLong, effect-kept, long-back}
use Rattle.ckr_points_invariant.proofs.WrittenEntries.Offices.{own-entry, written-moved, written-with}
use Rattle.ckr_points_invariant.proofs.WrittenEntries.Sets.{put_back-has, removed_all-has}

-- ---- the entries of a data set that is cut to its mark

all-longer : (one other : ℕ) (entries : List KeptEntry) → one ≤ other → list_all (λ (entry : KeptEntry). ends_within one entry.kept) entries ≡ true → list_all (λ (entry : KeptEntry). ends_within other entry.kept) entries ≡ true
all-longer one other [] below each = refl
all-longer one other (first ∷ rest) below each =
    and_from (ends_within other first.kept) _ (longer-ends one other first below (and-first (ends_within one first.kept) _ each))
    (all-longer one other rest below (and-second (ends_within one first.kept) _ each))

-- they end within the mark
cut-ends : (needed : Bool) (present : Present) (table : TableSet) → list_all (λ (entry : KeptEntry). ends_within table.set.length entry.kept) table.entries ≡ true → list_all (λ (entry : KeptEntry). ends_within present.length entry.kept) (back_to true needed present table).entries ≡ true
cut-ends needed present table ends = by needed (nat_le present.length table.set.length) refl
  where
    short : nat_le present.length table.set.length ≡ false → table.set.length ≤ present.length
    short isnt = grind (arith, nat_tests, isnt)

    by : (needed b : Bool) → nat_le present.length table.set.length ≡ b → list_all (λ (entry : KeptEntry). ends_within present.length entry.kept) (changed_if needed (to_catalog present) (if b then cut_set present.length table else table)).entries ≡ true
    by true true e = all-kept (λ (entry : KeptEntry). ends_within present.length entry.kept) table.entries
    by false true e = all-kept (λ (entry : KeptEntry). ends_within present.length entry.kept) table.entries
    by true false e = all-longer table.set.length present.length table.entries (short e) ends
    by false false e = all-longer table.set.length present.length table.entries (short e) ends

-- what a mark has isn't marked absent
pub present-there : (marks : List Mark) (name : Name) (present : Present) → present_at marks name ≡ Some present → is_marked_absent marks name ≡ false
present-there marks name present = by (mark_at marks name)
  where
    by : (mark : Option Mark) → option_map_or (λ (mark : Mark). mark.present) mark None ≡ Some present → option_map_or (λ (mark : Mark). is_none mark.present) mark false ≡ false
    by None e = refl
    by (Some mark) e = ap is_none e

module _ (layout : Layout) (now : Office) (kept : IsAgreed layout now) (pointed : ArePointed now) (ready : AreReady now) (written : AreWrittenEntries now) where
  abbrev Has : Name → TableSet → Type 0
  Has = HasWrittenEntries now

  -- ---- at the start of its step

  module _ (job : ℕ) (row : RunRow) (leg : Leg) (owned : OwnedStep) (point : StartPoint) (row_at : run_of now.tables job ≡ Some row) (leg_at : leg_of now job ≡ Some leg) (found : own_step row ≡ Some owned) (got : point_at row.points (step_now row) ≡ Some point) (holds : is_holder row.state ≡ true) where
    abbrev outputs : List Name
    outputs = output_names row.job.root owned

    abbrev removed : List Name
    removed = own_made row owned (step_now row)

    abbrev needed : List Name
    needed = names_of row.job.root owned

    abbrev left : Named TableSet
    left = removed_all removed now.tables.sets

    abbrev back : Named TableSet
    back = put_back point.marks outputs needed left

    -- an entry of the step is behind the point, in an output of the step
    record IsOfStep (set : Name) (entry : KeptEntry) : Type 0 where
      behind : is_behind_mark point.marks set entry.kept ≡ true
      output : is_among outputs set ≡ true

    of-step : (set : Name) (entry : KeptEntry) → entry.point.run ≡ job → entry.point.step ≡ step_now row → IsWrittenEntry now set entry → IsOfStep set entry
    of-step set entry here at_step its =
        let of_run : IsEntryOf row leg set entry = written-by now job row leg set entry row_at leg_at here its in
        let was : IsBehindPoint row leg of_run.owned set entry of_run.point = of_run.stands in
        record {
          behind =
              ap (λ (one : StartPoint). is_behind_mark one.marks set entry.kept)
              (some-one point of_run.point (point_at row.points entry.point.step) (ap (point_at row.points) at_step ∙ got) of_run.has)
              ∙ was.behind;
          output =
              ap (λ (step : OwnedStep). is_among (output_names row.job.root step) set)
              (some-one owned of_run.owned (step_at row.job entry.point.step) (ap (step_at row.job) at_step ∙ found) of_run.found)
              ∙ of_run.output;
        }

    -- none of them is left
    abbrev IsGone : KeptEntry → Type 0
    IsGone entry = entry.point.run ≡ job → entry.point.step ≢ step_now row

    gone-marked : (set : Name) (table : TableSet) (present : Present) → present_at point.marks set ≡ Some present → entry_at back set ≡ Some table → HasWrittenEntries now set table → (old : TableSet) → entry_at left set ≡ Some old → AllByRecursion IsGone table.entries
    gone-marked set table present marked there its old was =
        bool-cases (is_among outputs set)
        (λ among.
        each-both (IsWrittenEntry now set) (λ (entry : KeptEntry). ends_within present.length entry.kept ≡ true) IsGone table.entries
        (λ entry own ends here at_step.
        let of_step : IsOfStep set entry = of-step set entry here at_step own in
        false≢true
        (sym (ap not ends) ∙ sym (ap (λ (o : Option Present). option_map_or (λ (present : Present). not (ends_within present.length entry.kept)) o false) marked)
        ∙ ap (λ b. b || option_map_or (λ (present : Present). not (ends_within present.length entry.kept)) (present_at point.marks set) false) (sym (present-there point.marks set present marked)) ∙ of_step.behind))
        its.written
        (all-each (λ (entry : KeptEntry). ends_within present.length entry.kept) table.entries
        (subst (λ (one : TableSet). list_all (λ (entry : KeptEntry). ends_within present.length entry.kept) one.entries ≡ true) (cut among)
        (cut-ends (is_among needed set) present old (ends_of old was)))))
        (λ out. each-both (IsWrittenEntry now set) (IsWrittenEntry now set) IsGone table.entries (λ entry own again here at_step. false≢true (sym out ∙ (of-step set entry here at_step own).output)) its.written its.written)
      where
        ends_of : (old : TableSet) → entry_at left set ≡ Some old → list_all (λ (entry : KeptEntry). ends_within old.set.length entry.kept) old.entries ≡ true
        ends_of old was = (removed_all-has Has (entries-through now) removed now.tables.sets written.sets set old was).ends

        cut : is_among outputs set ≡ true → back_to true (is_among needed set) present old ≡ table
        cut among =
            same_Some (back_to true (is_among needed set) present old) table
            (sym (put_back-marked point.marks outputs needed left present set marked
            ∙ ap (λ b. option_map (back_to b (is_among needed set) present) (entry_at left set)) among
            ∙ ap (option_map (back_to true (is_among needed set) present)) was) ∙ there)

    -- what isn't marked present, but absent, is removed
    gone-absent : (set : Name) (table : TableSet) → present_at point.marks set ≡ None → entry_at back set ≡ Some table → HasWrittenEntries now set table → AllByRecursion IsGone table.entries
    gone-absent set table none there its =
        each-both (IsWrittenEntry now set) (IsWrittenEntry now set) IsGone table.entries
        (λ entry own again here at_step.
        let of_step : IsOfStep set entry = of-step set entry here at_step own in
        let absent : is_marked_absent point.marks set ≡ true =
        or-cases (is_marked_absent point.marks set) _ of_step.behind (λ is. is)
        (λ shorter. absurd (false≢true (sym (ap (λ (o : Option Present). option_map_or (λ (present : Present). not (ends_within present.length entry.kept)) o false) none) ∙ shorter))) in
        let goes : is_among removed set ≡ true =
        ap (λ (o : Option StartPoint). is_among (option_map_or (λ (point : StartPoint). made_names point.marks needed) o []) set) got
        ∙ among-filter (is_marked_absent point.marks) needed set
        ∙ and_from (is_marked_absent point.marks set) (is_among needed set) absent (outputs-among row.job.root owned set of_step.output) in
        some-not-none table
        (sym there ∙ put_back-none point.marks outputs needed left set none ∙ at-removed_all removed now.tables.sets set ∙ ap (λ b. cond b None (entry_at now.tables.sets set)) goes))
        its.written its.written

    gone-all : (set : Name) (table : TableSet) → entry_at back set ≡ Some table → AllByRecursion IsGone table.entries
    gone-all set table there =
        option-cases (present_at point.marks set)
        (λ none. gone-absent set table none there its)
        (λ present marked.
        let old = option_map-some (back_to (is_among outputs set) (is_among needed set) present) (entry_at left set) table (sym (put_back-marked point.marks outputs needed left present set marked) ∙ there) in
        gone-marked set table present marked there its old.0 old.1)
      where
        its : HasWrittenEntries now set table
        its = put_back-has Has (entries-through now) point.marks outputs needed left (removed_all-has Has (entries-through now) removed now.tables.sets written.sets) set table there

    its_step : point.step ≡ step_now row
    its_step = equal-true point.step (step_now row) (find-passes (λ (one : StartPoint). one.step == step_now row) row.points point got)

    restarted-points : (next : RunRow) → next.points ≡ with_point (point_restarted point) row.points → KeepsItsPoints row next
    restarted-points next are number its there =
        number-cases number point.step
        (λ same. (point_restarted point, ap (λ points. point_at points number) are ∙ ap (point_at (with_point (point_restarted point) row.points)) same ∙ point_at-new (point_restarted point) row.points))
        (λ apart. (its, ap (λ points. point_at points number) are ∙ point_at-other (point_restarted point) row.points number apart ∙ there))

    -- an earlier step has its point
    earlier-keeps : (next : RunRow) (number : ℕ) → next.points ≡ with_point (point_restarted point) row.points → step_now row ≤ step_now next → number ≢ step_now row → HasEntered row number → KeepsStep row next number
    earlier-keeps next number are on apart entered = record {
      point = λ its there. record {
        later = its;
        has = ap (λ points. point_at points number) are ∙ point_at-other (point_restarted point) row.points number (λ e. apart (e ∙ its_step)) ∙ there;
        marks = refl;
        passed = refl;
        told = λ e. e;
      };
      entered = λ holds.
          let under : number ≤ step_now row = entered.0 in
          (omega (arith, under, on), λ same. absurd (apart (let goes : step_now row ≤ step_now next = on in omega (arith, under, goes, same))));
    }

  pub written-start : (job initiator : ℕ) (code : Code) (deck : Option Job) → may_come layout now (Restarted job initiator code false, deck) ≡ true → carries layout now (Restarted job initiator code false) deck ≡ true → AreWrittenEntries (office_after (Restarted job initiator code false, deck) now)
  written-start job initiator code deck may carried =
      by-run layout now job initiator code deck kept pointed false AreWrittenEntries may carried
      (λ row leg its.
      let can = steps-restorable now ready in
      start-by layout now job initiator code deck kept pointed can AreWrittenEntries row leg its written
      (λ owned found point got.
      let next : RunRow = row_then layout now job initiator code deck kept pointed can row leg its owned found point got in
      let sets : Named TableSet = sets_then layout now job initiator code deck kept pointed can row leg its owned found point got in
      let later : Office = record now { tables = with_run next (record now.tables { sets = sets }) } in
      written-with layout now kept pointed ready written job row row next leg now.tables sets now.library its.holder its.holder.row_at refl (λ number apart. refl)
      (λ name apart. start-left layout now job initiator code deck kept pointed can row leg its owned found point got name (apart row leg its.holder))
      (put_back-has Has (entries-through now) point.marks (output_names row.job.root owned) (names_of row.job.root owned) _ (removed_all-has Has (entries-through now) (own_made row owned (step_now row)) now.tables.sets written.sets))
      (λ set table there.
      each-both (λ (entry : KeptEntry). entry.point.run ≡ job → entry.point.step ≢ step_now row) (λ (entry : KeptEntry). Unit {0}) (λ (entry : KeptEntry). entry.point.run ≡ job → IsWrittenEntry now set entry → IsWrittenEntry later set entry) table.entries
      (λ entry gone any here.
      own-entry layout now kept pointed ready written job row row next leg now.tables sets now.library its.holder its.holder.row_at refl (λ number apart. refl) set entry (record { job = refl; deck = refl; own_from = refl; selected = λ was. refl })
      (restarted-points job row leg owned point its.holder.row_at its.holder.leg_at found got its.holder.holds next refl)
      (λ entered. earlier-keeps job row leg owned point its.holder.row_at its.holder.leg_at found got its.holder.holds next entry.point.step refl (omega arith) (gone here) entered) here)
      (gone-all job row leg owned point its.holder.row_at its.holder.leg_at found got its.holder.holds set table there)
      (each-any (λ (entry : KeptEntry). Unit {0}) table.entries (λ entry. tt)))
      (λ holds inside. absurd (false≢true inside))))

  -- ---- at its checkpoint in effect

  pub written-entry : (job initiator : ℕ) (code : Code) (deck : Option Job) → may_come layout now (Restarted job initiator code true, deck) ≡ true → carries layout now (Restarted job initiator code true) deck ≡ true → AreWrittenEntries (office_after (Restarted job initiator code true, deck) now)
  written-entry job initiator code deck may carried =
      by-run layout now job initiator code deck kept pointed true AreWrittenEntries may carried
      (λ row leg its.
      let can = entries-restorable now ready in
      entry-by layout now job initiator code deck kept pointed can AreWrittenEntries row leg its written
      (λ owned found effect got entry there.
      let next : RunRow = row_back layout now job initiator code deck kept pointed can row leg its owned found effect got entry there in
      let sets : Named TableSet = sets_then_back layout now job initiator code deck kept pointed can row leg its owned found effect got entry there in
      let outputs : List Name = output_names row.job.root owned in
      let needed : List Name = names_of row.job.root owned in
      let check : IsCheck now.tables.sets row leg effect = (ready.runs job row leg its.holder).check effect its.within got in
      let is : check.entry ≡ entry = some-one check.entry entry (kept_at now.tables.sets effect.set effect.kept.id) (kept-entry now.tables.sets effect.set effect.kept.id check.entry check.keeps) there in
      let keeps : KeepsEntry now.tables.sets effect.set effect.kept.id entry = subst (KeepsEntry now.tables.sets effect.set effect.kept.id) is check.keeps in
      let back : (present : Present) → present_at entry.point.marks effect.set ≡ Some present → ends_within present.length entry.kept ≡ true =
      subst (λ (one : KeptEntry). (present : Present) → present_at one.point.marks effect.set ≡ Some present → ends_within present.length one.kept ≡ true) is check.back in
      let among : is_among outputs effect.set ≡ true = ap (λ (step : OwnedStep). is_among (output_names row.job.root step) effect.set) (some-one owned check.owned (own_step row) found check.found_step) ∙ check.among in
      let keeps_then : KeepsEntry sets effect.set effect.kept.id entry = back-keeps entry.point.marks outputs needed now.tables.sets effect.set effect.kept.id entry among back keeps in
      written-moved layout now kept pointed ready written job row next leg sets now.library its.holder refl (record { job = refl; deck = refl; own_from = refl; selected = λ was. refl })
      (λ name apart. entry-left layout now job initiator code deck kept pointed can row leg its owned found effect got entry there name (apart row leg its.holder))
      (put_back-has Has (entries-through now) entry.point.marks outputs needed now.tables.sets written.sets) (same-points row next refl)
      (λ step entered. same-step row next step refl (λ holds. (entered.0, λ same. refl)))
      (λ holds inside other point at_step has.
      subst (λ one. HasGrown sets next one point.marks) (some-one owned other (own_step row) found at_step)
      (let was : HasGrown now.tables.sets row owned point.marks = written.grown job row leg owned point its.holder its.within found has in
      let so = was.effect effect entry got there in
      record {
        since = long-back row owned point.marks entry.point.marks needed now.tables.sets (ap (is_no_shorter point.marks entry.point.marks) (sym so.0) ∙ so.1) was.since;
        effect = λ later one in_effect at.
            subst (IsEffectLong row owned point.marks sets) (same_Some (effect_restarted effect) later in_effect)
            (effect-kept row owned point.marks now.tables.sets sets effect entry keeps keeps_then (λ one at. was.effect effect one got at)) one at;
      }))))
