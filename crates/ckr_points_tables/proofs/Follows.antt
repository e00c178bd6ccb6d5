-- What an event that follows has of its run.
use Rattle.std.proofs.Common.{◌≡◌, ℕ, suc, ◌≤◌, ◌&&◌, Bool, true, false, IsTrue, nat_eq, nat_le, List, [], ◌∷◌, length, map, refl, ap, sym, ◌∙◌, subst, Some, None, Option}
use Rattle.std.specs.Option.{option_map, option_map_or}
use Rattle.std.specs.List.{list_all, AllByRecursion}
use Rattle.std.specs.Cmp.Lexicographic.{pointwise}
use Rattle.std.proofs.lemmas.Bool.{false≢true}
use Rattle.ckr_base.proofs.Bools.{and-first, and-second}
use Rattle.ckr_base.proofs.Numbers.{nat_le-true}
use Rattle.ckr_base.proofs.Options.{some-not-none}
use Rattle.ckr_points_library.specs.Commit.{AreWithinSpace, IsWithinSpace, output_names}
use Rattle.ckr_uses.specs.Uses.{are_distinct}
use Rattle.ckr_events.specs.declared.event.Made.{Made}
use Rattle.ckr_jcl.specs.declared.deck.Dd.{Dd}
use Rattle.ckr_library.specs.declared.sets.Stamp.{Stamp}
use Rattle.ckr_library.specs.Catalog.{Holding, fresh_holding}
use Rattle.ckr_library.specs.NameMaps.{Name, Named, entry_at}
use Rattle.ckr_library.proofs.Named.{at-with_changed-keeps}
use Rattle.ckr_points_tables.proofs.NamedViews.{at-viewed, viewed}
use Rattle.ckr_meaning.specs.Allotments.{AllotmentModel, found, made, refused, DdAllotment, is_output, opened_by, opened_one, opened_all}
use Rattle.ckr_meaning.specs.Dispositions.{Stock}
use Rattle.ckr_meaning.specs.EffectiveJob.{OwnedStep, flaws_in, name_of, names_of, placed_in, stamp_of}
use Rattle.ckr_volumes.specs.declared.layout.Layout.{Layout}
use Rattle.ckr_points.specs.declared.run.Run.{Run}
use Rattle.ckr_points.specs.declared.run.RunState.TheVariants.{On}
use Rattle.ckr_points_runs.specs.RunChange.{Going, going, holding_kit, opened_by as opened_in_kit, step_of, table_kit}
use Rattle.ckr_points_runs.specs.StepEnd.{AreLengthsOf}
use Rattle.ckr_points.specs.Follows.{are_items, are_lengths, are_made_clear, is_empty, is_in_state, is_part_whole, lengths_follow, made_dds, may_start, started_follows}
use Rattle.ckr_points_runs.specs.NewSets.{made_named, MayMakeAll, MayMakeNamed}
use Rattle.ckr_points.specs.Restart.{place_of, step_in}
use Rattle.ckr_points.specs.Rows.{RunRow, TableSet, TablesModel, standing_of, table_ways}
use Rattle.ckr_points_runs.specs.View.{RunTableView, row_with}
use Rattle.ckr_points_tables.specs.View.{Writings, table_in}
use Rattle.ckr_points_runs.specs.RunJobs.{has_few_dds}
use Rattle.ckr_points_runs.specs.Start.{MayStartIn}
use Rattle.ckr_points_tables.proofs.RunChanges.{MakesSame, MakesSameAt}
use Rattle.ckr_points_tables.proofs.Starts.Items.{count, count-items, makes}
use Rattle.ckr_points_runs.proofs.MarkOrder.{all_same}
use Rattle.ckr_points_runs.proofs.Steps.{few_serials}
use Rattle.ckr_points_tables.proofs.SetViews.{named-seen, opened-seen, table_view}

-- ---- what a step opens

abbrev counted : TableSet → Bool
counted table = true

unseen : (entry : Option TableSet) → option_map counted entry ≡ None → entry ≡ None
unseen None e = refl
unseen (Some table) e = absurd (some-not-none _ e)

opened-one-absent : (stamp : Stamp) (placed : DdAllotment) (allotment : AllotmentModel) (output : Bool) (sets : Named TableSet) (name : Name) → entry_at sets name ≡ None → entry_at (opened_one table_ways stamp placed allotment output sets) name ≡ None
opened-one-absent stamp placed found true sets name none =
    unseen _ (at-with_changed-keeps counted placed.name name (opened_by table_ways stamp placed.dd.disp.status) sets (λ x. refl) ∙ ap (option_map counted) none)
opened-one-absent stamp placed found false sets name none = none
opened-one-absent stamp placed made output sets name none = none
opened-one-absent stamp placed (refused flaw) output sets name none = none

-- what isn't there isn't there once a step has opened its outputs
opened-absent : (stamp : Stamp) (placed : List DdAllotment) (sets : Named TableSet) (name : Name) → entry_at sets name ≡ None → entry_at (opened_all table_ways stamp placed sets) name ≡ None
opened-absent stamp [] sets name none = none
opened-absent stamp (one ∷ placed) sets name none =
    opened-absent stamp placed (opened_one table_ways stamp one one.allotment (is_output one.dd.role) sets) name (opened-one-absent stamp one one.allotment (is_output one.dd.role) sets name none)

-- ---- from the tables to the library

entry-seen : (writings : Writings) (sets : Named Holding) (name : Name) → entry_at (viewed (table_in writings) sets) name ≡ None → entry_at sets name ≡ None
entry-seen writings sets name none = by (entry_at sets name) (sym (at-viewed (table_in writings) sets name) ∙ none)
  where
    by : (found : Option Holding) → option_map (table_in writings name) found ≡ None → found ≡ None
    by None e = refl
    by (Some holding) e = absurd (some-not-none _ e)

may-make : (writings : Writings) (stamp : Stamp) (items : List Made) (named : Dd → Option Name) (number : ℕ) (dds : List Dd) (sets : Named Holding) → MayMakeAll table_kit.fresh stamp items named number dds (viewed (table_in writings) sets) → MayMakeAll fresh_holding stamp items named number dds sets
may-make writings stamp items named number [] sets may = tt
may-make writings stamp items named number (dd ∷ dds) sets may = (
  one (named dd) may.0,
  may-make writings stamp items named (suc number) dds (made_named fresh_holding stamp items number dd (named dd) sets)
      (subst (MayMakeAll table_kit.fresh stamp items named (suc number) dds) (sym (named-seen (table_in writings) holding_kit table_kit (table_view writings) stamp items number dd (named dd) sets)) may.1),
)
  where
    one : (name : Option Name) → MayMakeNamed table_kit.fresh stamp items number dd name (viewed (table_in writings) sets) → MayMakeNamed fresh_holding stamp items number dd name sets
    one None may = tt
    one (Some name) may = record { absent = λ has. entry-seen writings sets name (may.absent has); few = may.few; whole = may.whole; small = may.small; wide = may.wide }

-- ---- a step that starts

module _ (layout : Layout) (writings : Writings) (line : Run) (facts : RunTableView) (sets : Named Holding) (runs : List RunRow) where
  abbrev desk : TablesModel
  desk = record { sets = viewed (table_in writings) sets; runs = runs }

  abbrev row : RunRow
  row = row_with line facts

  abbrev now : Going TableSet
  now = going line facts (viewed (table_in writings) sets)

  starts-in : (step : ℕ) (items : List Made) (own : OwnedStep) → step_of now step ≡ Some own → IsTrue (has_few_dds own.step) → are_distinct (names_of facts.job.root own) ≡ true
      → are_items layout (stamp_of own step) desk.sets (placed_in table_ways (standing_of row desk) facts.job.root own) items ≡ true
      → MakesSame items step now own × MayStartIn line.number step items facts sets (Some own)
  starts-in step items own there few distinct are =
      let before : Stock TableSet = standing_of row desk in
      let placed = placed_in table_ways before facts.job.root own in
      let stamp = stamp_of own step in
      let named = and-first (pointwise nat_eq (made_dds placed) (map (λ item. item.dd) items)) (list_all (is_part_whole placed) items) (and-first _ (are_made_clear layout stamp items placed desk.sets) are) in
      let whole = and-second (pointwise nat_eq (made_dds placed) (map (λ item. item.dd) items)) (list_all (is_part_whole placed) items) (and-first _ (are_made_clear layout stamp items placed desk.sets) are) in
      let clear = and-second _ (are_made_clear layout stamp items placed desk.sets) are in
      let opened = opened_in_kit table_kit step own now in
      let all = makes layout stamp items before facts.job.root own 1 own.step.dds opened desk.sets
      (λ n above. count-items n items ∙ ap (count n) (sym (all_same (made_dds placed) (map (λ item. item.dd) items) named)))
      (each placed items whole) clear distinct
      (λ name among none. opened-absent stamp placed desk.sets name none) (few_serials own.step few) in (
        all.0,
        may-make writings stamp items (name_of facts.job.root own) 1 own.step.dds (opened_in_kit holding_kit step own (going line facts sets))
            (subst (MayMakeAll table_kit.fresh stamp items (name_of facts.job.root own) 1 own.step.dds) (sym (opened-seen (table_in writings) holding_kit table_kit (table_view writings) step own (going line facts sets))) all.1),
      )
    where
      each : (placed : List DdAllotment) (some : List Made) → list_all (is_part_whole placed) some ≡ true → AllByRecursion (λ (item : Made). 1 ≤ item.dd → is_part_whole placed item ≡ true) some
      each placed [] all = tt
      each placed (item ∷ some) all = (λ above. and-first (is_part_whole placed item) _ all, each placed some (and-second (is_part_whole placed item) _ all))

  starts : (step : ℕ) (items : List Made) (there : Option OwnedStep) → step_of now step ≡ there → ((own : OwnedStep) → there ≡ Some own → IsTrue (has_few_dds own.step) × (are_distinct (names_of facts.job.root own) ≡ true))
      → option_map_or (λ own. let placed = placed_in table_ways (standing_of row desk) facts.job.root own in may_start step (place_of row) && is_empty (flaws_in placed) && are_items layout (stamp_of own step) desk.sets placed items) there false ≡ true
      → MakesSameAt items step now there × MayStartIn line.number step items facts sets there
  starts step items None is limits follows = absurd (false≢true follows)
  starts step items (Some own) is limits follows =
      let own_limits = limits own refl in
      starts-in step items own is own_limits.0 own_limits.1 (and-second _ (are_items layout (stamp_of own step) desk.sets (placed_in table_ways (standing_of row desk) facts.job.root own) items) follows)

  -- what a step that starts makes
  pub started-makes : (step : ℕ) (items : List Made) → ((own : OwnedStep) → step_of now step ≡ Some own → IsTrue (has_few_dds own.step) × (are_distinct (names_of facts.job.root own) ≡ true))
      → started_follows layout desk step items row ≡ true
      → MakesSameAt items step now (step_of now step) × MayStartIn line.number step items facts sets (step_of now step)
  started-makes step items limits follows = starts step items (step_of now step) refl limits (and-second (is_in_state On row) _ follows)

  -- ---- lengths

  within-space : (name : Name) (most : ℕ) → option_map_or (λ (table : TableSet). nat_le table.set.length most && nat_le most table.set.space) (entry_at desk.sets name) false ≡ true → IsWithinSpace most (entry_at sets name)
  within-space name most e = by (entry_at sets name) (ap (λ found. option_map_or (λ (table : TableSet). nat_le table.set.length most && nat_le most table.set.space) found false) (sym (at-viewed (table_in writings) sets name)) ∙ e)
    where
      by : (found : Option Holding) → option_map_or (λ (table : TableSet). nat_le table.set.length most && nat_le most table.set.space) (option_map (table_in writings name) found) false ≡ true → IsWithinSpace most found
      by None e = tt
      by (Some holding) e = nat_le-true most holding.set.space (and-second (nat_le holding.set.length most) (nat_le most holding.set.space) e)

  fit : (names : List Name) (lengths : List ℕ) → are_lengths desk.sets names lengths ≡ true → (length lengths ≡ length names) × AreWithinSpace names lengths sets
  fit [] [] e = (refl, tt)
  fit [] (most ∷ lengths) e = absurd (false≢true e)
  fit (name ∷ names) [] e = absurd (false≢true e)
  fit (name ∷ names) (most ∷ lengths) e =
      let rest = fit names lengths (and-second _ (are_lengths desk.sets names lengths) e) in
      (ap suc rest.0, (within-space name most (and-first _ (are_lengths desk.sets names lengths) e), rest.1))

  lengths-by : (lengths : List ℕ) (there : Option OwnedStep) → option_map_or (λ own. are_lengths desk.sets (output_names facts.job.root own) lengths) there false ≡ true → AreLengthsOf facts.job.root lengths sets there
  lengths-by lengths None e = tt
  lengths-by lengths (Some own) e = let both = fit (output_names facts.job.root own) lengths e in record { count = both.0; space = both.1 }

  -- the lengths that an event carries
  pub lengths_fit : (lengths : List ℕ) → lengths_follow desk row lengths ≡ true → AreLengthsOf facts.job.root lengths sets (step_of now (step_in (place_of row)))
  lengths_fit lengths e = lengths-by lengths (step_of now (step_in (place_of row))) e
