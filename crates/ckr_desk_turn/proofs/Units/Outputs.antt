-- A running step behind more writes: the lengths of its outputs follow on the tables, and an event carries them.
use Rattle.std.proofs.Common.{◌≡◌, ◌≤◌, ◌+◌, ◌-◌, ℕ, true, false, ◌&&◌, List, [], ◌∷◌, length, map, take, refl, ap, sym, ◌∙◌, subst, Option, Some, None, arith}
use Rattle.std.specs.Prelude.{nat_le}
use Rattle.std.specs.List.{list_all}
use Rattle.std.specs.Option.{is_some, option_map, option_map_or}
use Rattle.std.proofs.lemmas.Bool.{and_from, false≢true, or_left, or_right}
use Rattle.std.proofs.lemmas.Option.{same_Some}
use Rattle.ckr_base.proofs.Bools.{and-first, and-second}
use Rattle.ckr_base.proofs.Numbers.{equal-itself, nat_le-from}
use Rattle.ckr_base.proofs.Options.{some-not-none}
use Rattle.ckr_points_library.specs.Commit.{output_names}
use Rattle.ckr_uses.specs.Uses.{are_distinct}
use Rattle.ckr_library.specs.declared.sets.Content.{Content}
use Rattle.ckr_library.specs.declared.sets.Content.TheVariants.{Plain, Checkpoints}
use Rattle.ckr_library.specs.NameMaps.{Name, Named, same_name, entry_at}
use Rattle.ckr_library.proofs.Named.{each-at, name-equivalence}
use Rattle.ckr_meaning.specs.LibrarySet.{AreWithinSpace, IsWithinSpace, Library, LibrarySet}
use Rattle.ckr_meaning.specs.Dispositions.{Stock}
use Rattle.ckr_meaning.specs.EffectiveJob.{Effective, HasDistinctNames, OwnedStep, is_among, names_of}
use Rattle.ckr_meaning.specs.declared.place.Place.TheVariants.{Before}
use Rattle.ckr_meaning.specs.StepRun.{StepStart, made_at, within_at, work_at, written_all}
use Rattle.ckr_meaning.proofs.WriteSeries.{within_at-more}
use Rattle.ckr_meaning.proofs.Room.{at-within, within_at-within}
use Rattle.ckr_volumes.specs.declared.layout.Layout.{Layout}
use Rattle.ckr_volumes.specs.Layouts.{StandsIn}
use Rattle.ckr_points.specs.Follows.{are_lengths, lengths_follow}
use Rattle.ckr_points.specs.Payload.{carries_lengths, commits, has_role, have_lengths, is_formed, is_formed_step, is_length, length_by, length_now, lengths_at, records_under, rewrites_nothing, writes_between, writes_in}
use Rattle.ckr_points.specs.Office.{Leg, Office}
use Rattle.ckr_points.specs.Restart.{place_of, step_in}
use Rattle.ckr_points.specs.Rows.{RunRow, TableSet, step_of_run}
use Rattle.ckr_points_invariant.specs.Invariant.{AreAlike, IsAgreed, Shape, counted, set_shape, table_shape}
use Rattle.ckr_points_invariant.specs.RunningSteps.{IsRunning, its_start}
use Rattle.ckr_points_invariant.proofs.Steps.Commits.{alike_within, formed_step, in_reach, place_so, under_way}
use Rattle.ckr_points_invariant.proofs.Holders.Places.{outputs-among}
use Rattle.ckr_points_invariant.proofs.Steps.Walks.{at-before}
use Rattle.ckr_points_invariant.proofs.Writes.Likeness.{bare, written_all-bare}
use Rattle.ckr_desk_turn.proofs.Start.Sets.{IsThere, made_at-there, written_all-longer, written_all-there}

-- ---- lengths

-- an output with its length now
pub record IsOutput (sets : Named TableSet) (library : Library) (name : Name) : Type 0 where
  pub table : TableSet
  pub found : entry_at sets name ≡ Some table
  pub low : table.set.length ≤ length_now library sets name
  pub high : length_now library sets name ≤ table.set.space

pub follow : (library : Library) (sets : Named TableSet) (outputs : List Name) → ((name : Name) → is_among outputs name ≡ true → IsOutput sets library name) → are_lengths sets outputs (map (length_now library sets) outputs) ≡ true
follow library sets [] each = refl
follow library sets (name ∷ outputs) each =
    let out : IsOutput sets library name = each name (or_left (same_name name name) (is_among outputs name) (name-equivalence.refl name)) in
    and_from _ (are_lengths sets outputs (map (length_now library sets) outputs))
    (ap (λ (entry : Option TableSet). option_map_or (λ table. nat_le table.set.length (length_now library sets name) && nat_le (length_now library sets name) table.set.space) entry false) out.found
    ∙ and_from (nat_le out.table.set.length (length_now library sets name)) (nat_le (length_now library sets name) out.table.set.space) (nat_le-from _ _ out.low) (nat_le-from _ _ out.high))
    (follow library sets outputs (λ other among. each other (or_right (same_name other name) (is_among outputs other) among)))

pub is_now : (content : Content) (table : TableSet) (most : ℕ) → is_length content most (length_by content table most) ≡ true
is_now Plain table most = equal-itself most
is_now Checkpoints table most = refl

pub have : (library : Library) (sets : Named TableSet) (outputs : List Name) → ((name : Name) → is_among outputs name ≡ true → IsOutput sets library name) → have_lengths library sets outputs (map (length_now library sets) outputs) ≡ true
have library sets [] each = refl
have library sets (name ∷ outputs) each =
    let out : IsOutput sets library name = each name (or_left (same_name name name) (is_among outputs name) (name-equivalence.refl name)) in
    let most : ℕ = length (records_under library name) in
    and_from _ (have_lengths library sets outputs (map (length_now library sets) outputs))
    (ap (λ (entry : Option TableSet). option_map_or (λ table. is_length table.set.content (length (records_under library name)) (option_map_or (λ table. length_by table.set.content table (length (records_under library name))) entry 0)) entry false) out.found
    ∙ is_now out.table.set.content out.table (length (records_under library name)))
    (have library sets outputs (λ other among. each other (or_right (same_name other name) (is_among outputs other) among)))

-- ---- an output behind more writes

low_by : (content : Content) (table : TableSet) (before most : ℕ) → counted content table.set.length ≡ counted content before → before ≤ most → table.set.length ≤ length_by content table most
low_by Plain table before most same longer = omega arith
low_by Checkpoints table before most same longer = omega arith

high_by : (content : Content) (table : TableSet) (most : ℕ) → most ≤ table.set.space → table.set.length ≤ table.set.space → length_by content table most ≤ table.set.space
high_by Plain table most within fits = within
high_by Checkpoints table most within fits = fits

-- what the tables and two libraries have of an output, the later one longer
pub output-so : (sets : Named TableSet) (library later : Library) (name : Name) → AreAlike sets library name → IsThere library name → option_map (λ set. bare (set_shape set)) (entry_at later name) ≡ option_map (λ set. bare (set_shape set)) (entry_at library name) → length (records_under library name) ≤ length (records_under later name) → AreWithinSpace later → ((table : TableSet) → entry_at sets name ≡ Some table → table.set.length ≤ table.set.space) → IsOutput sets later name
output-so sets library later name alike there same longer within fits =
    by (entry_at sets name) (entry_at library name) (entry_at later name) refl refl refl alike there same
  where
    by : (entry : Option TableSet) (before after : Option LibrarySet) → entry_at sets name ≡ entry → entry_at library name ≡ before → entry_at later name ≡ after → option_map table_shape entry ≡ option_map set_shape before → is_some before ≡ true → option_map (λ set. bare (set_shape set)) after ≡ option_map (λ set. bare (set_shape set)) before → IsOutput sets later name
    by entry None after at was is alike there same = absurd (false≢true there)
    by None (Some set) after at was is alike there same = absurd (some-not-none (set_shape set) (sym alike))
    by (Some table) (Some set) None at was is alike there same = absurd (some-not-none (bare (set_shape set)) (sym same))
    by (Some table) (Some set) (Some next) at was is alike there same =
        let shape : table_shape table ≡ set_shape set = same_Some _ _ alike in
        let spaced : next.space ≡ table.set.space = ap (λ (s : Shape). s.space) (same_Some _ _ same) ∙ sym (ap (λ (s : Shape). s.space) shape) in
        let most : length (records_under later name) ≡ length next.records = ap (λ (o : Option LibrarySet). length (option_map_or (λ (set : LibrarySet). set.records) o [])) is in
        let least : length (records_under library name) ≡ length set.records = ap (λ (o : Option LibrarySet). length (option_map_or (λ (set : LibrarySet). set.records) o [])) was in
        let inside : length next.records ≤ next.space = each-at IsWithinSpace later within name next is in
        let now : length_now later sets name ≡ length_by table.set.content table (length (records_under later name)) = ap (λ (o : Option TableSet). option_map_or (λ table. length_by table.set.content table (length (records_under later name))) o 0) at in
        let counts : counted table.set.content table.set.length ≡ counted table.set.content (length set.records) = ap (λ (s : Shape). s.length) shape ∙ ap (λ (s : Shape). counted s.content (length set.records)) (sym shape) in
        record {
          table = table;
          found = at;
          low = subst (λ n. table.set.length ≤ n) (sym now) (low_by table.set.content table (length set.records) (length (records_under later name)) counts (subst (λ n. n ≤ length (records_under later name)) least longer));
          high = subst (λ n. n ≤ table.set.space) (sym now) (high_by table.set.content table (length (records_under later name)) (subst (λ n. length (records_under later name) ≤ n) spaced (subst (λ n. n ≤ next.space) (sym most) inside)) (fits table at));
        }

-- ---- the steps of a job whose names differ

pub distinct-step : (root : ℕ) (owned : OwnedStep) → is_formed_step root owned ≡ true → are_distinct (names_of root owned) ≡ true
distinct-step root owned formed =
    and-first (are_distinct (names_of root owned)) _ (and-first (are_distinct (names_of root owned) && list_all (has_role owned.step.program) owned.step.dds) _ formed)

distinct-steps : (root : ℕ) (steps : List OwnedStep) → list_all (is_formed_step root) steps ≡ true → list_all (λ owned. are_distinct (names_of root owned)) steps ≡ true
distinct-steps root [] formed = refl
distinct-steps root (owned ∷ steps) formed =
    and_from (are_distinct (names_of root owned)) (list_all (λ owned. are_distinct (names_of root owned)) steps)
    (distinct-step root owned (and-first (is_formed_step root owned) _ formed))
    (distinct-steps root steps (and-second (is_formed_step root owned) _ formed))

pub distinct-job : (job : Effective) → is_formed job ≡ true → HasDistinctNames job
distinct-job job formed = distinct-steps job.root job.steps formed

-- ---- a running step behind more writes

pub within_at-parts : (start : StepStart) (writes : ℕ) → within_at start writes ≡ written_all start (take writes (work_at start).writes) (made_at start)
unfolding within_at
within_at-parts start writes = refl

module _ (layout : Layout) (office : Office) (number : ℕ) (row : RunRow) (leg : Leg) (owned : OwnedStep) (step from to : ℕ)
    (kept : IsAgreed layout office) (running : IsRunning office number row leg owned step from) (spaced : AreWithinSpace leg.start)
    (behind : from ≤ to) (fit : to ≤ length (work_at (its_start leg owned step)).writes) (plain : rewrites_nothing (its_start leg owned step) from to ≡ true) where
  abbrev start_now : StepStart
  start_now = its_start leg owned step

  going : within_at start_now to ≡ written_all start_now (writes_between start_now from to) (within_at start_now from)
  going = ap (within_at start_now) (let e : to ≡ from + (to - from) = omega (arith, behind) in e) ∙ within_at-more start_now from (to - from)

  spaced_then : AreWithinSpace (within_at start_now to)
  spaced_then =
      within_at-within start_now (distinct-step leg.job.root owned (formed_step layout office number row leg owned step from kept running)) to
      (subst (λ (standing : Stock LibrarySet). AreWithinSpace standing.sets) (at-before leg.job leg.start step)
      (at-within leg.job leg.start (Before step) (distinct-job leg.job (place_so layout office number row leg owned step from kept running).formed) spaced))

  pub each_output : (name : Name) → is_among (output_names leg.job.root owned) name ≡ true → IsOutput office.tables.sets (within_at start_now to) name
  each_output name among =
      let named : is_among (names_of leg.job.root owned) name ≡ true = outputs-among leg.job.root owned name among in
      output-so office.tables.sets (within_at start_now from) (within_at start_now to) name
      (alike_within layout office number row leg owned step from kept running name (in_reach layout office number row leg owned step from kept running name named))
      (subst (λ library. IsThere library name) (sym (within_at-parts start_now from))
      (written_all-there start_now name (take from (work_at start_now).writes) (made_at start_now)
      (made_at-there start_now name (under_way layout office number row leg owned step from kept running).flawless named)))
      (ap (λ library. option_map (λ set. bare (set_shape set)) (entry_at library name)) going ∙ written_all-bare start_now (writes_between start_now from to) (within_at start_now from) name plain)
      (subst (λ library. length (records_under (within_at start_now from) name) ≤ length (records_under library name)) (sym going) (written_all-longer start_now name (writes_between start_now from to) (within_at start_now from) plain))
      spaced_then
      (λ table found. (each-at (λ (table : TableSet). StandsIn layout table.set) office.tables.sets kept.extents.stand name table found).length_fits)

  -- the lengths follow
  pub lengths-follow : lengths_follow office.tables row (lengths_at start_now office.tables.sets to) ≡ true
  lengths-follow =
      ap (λ n. option_map_or (λ owned. are_lengths office.tables.sets (output_names row.job.root owned) (lengths_at start_now office.tables.sets to)) (step_of_run row n) false) (ap step_in running.stands)
      ∙ ap (λ (o : Option OwnedStep). option_map_or (λ owned. are_lengths office.tables.sets (output_names row.job.root owned) (lengths_at start_now office.tables.sets to)) o false) running.found
      ∙ ap (λ (job : Effective). are_lengths office.tables.sets (output_names job.root owned) (lengths_at start_now office.tables.sets to)) (sym (place_so layout office number row leg owned step from kept running).job)
      ∙ follow (within_at start_now to) office.tables.sets (output_names leg.job.root owned) each_output

  -- and an event carries them
  pub lengths-carried : commits office.tables.sets row to (lengths_at start_now office.tables.sets to) start_now ≡ true
  lengths-carried =
      let from_place : writes_in (place_of row) ≡ from = ap writes_in running.stands in
      and_from (nat_le (writes_in (place_of row)) to && rewrites_nothing start_now (writes_in (place_of row)) to) (carries_lengths office.tables.sets to (lengths_at start_now office.tables.sets to) start_now)
      (ap (λ n. nat_le n to && rewrites_nothing start_now n to) from_place ∙ and_from (nat_le from to) (rewrites_nothing start_now from to) (nat_le-from from to behind) plain)
      (and_from (nat_le to (length (work_at start_now).writes)) (have_lengths (within_at start_now to) office.tables.sets (output_names leg.job.root owned) (lengths_at start_now office.tables.sets to)) (nat_le-from to (length (work_at start_now).writes) fit)
      (have (within_at start_now to) office.tables.sets (output_names leg.job.root owned) each_output))
