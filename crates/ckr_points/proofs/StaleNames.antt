-- What is stale of the needed names, by a library that has the data sets of the tables.
-- stale-fresh            the denial of the first needed name that is stale
use Rattle.std.proofs.Common.{◌≡◌, ℕ, Bool, true, false, cond, refl, ap, sym, ◌∙◌, List, [], ◌∷◌, filter, Option, Some, None}
use Rattle.std.specs.List.{AllByRecursion}
use Rattle.std.specs.Option.{is_some, option_map, option_or}
use Rattle.ckr_base.proofs.Bools.{bool-cases}
use Rattle.ckr_entry.specs.declared.point.Mark.{Mark}
use Rattle.ckr_entry.specs.declared.point.Present.{Present}
use Rattle.ckr_jcl.specs.declared.deck.Job.{Job}
use Rattle.ckr_library.specs.Catalog.{Holding}
use Rattle.ckr_library.specs.declared.sets.DataSet.{DataSet}
use Rattle.ckr_library.specs.NameMaps.{Name, Named, entry_at, same_name}
use Rattle.ckr_library.proofs.Named.{at-viewed, name-itself}
use Rattle.ckr_meaning.specs.EffectiveJob.{Effective, OwnedStep, is_among}
use Rattle.ckr_points_library.specs.Holdings.{owned}
use Rattle.ckr_points.specs.declared.needed.Needed.{Needed}
use Rattle.ckr_points.specs.Freshness.{first_stale, fresh, stale_at, stale_by}
use Rattle.ckr_points.specs.Marks.{mark_at}
use Rattle.ckr_points.specs.Needed.{IsNeededBy, first_step, needed_at}
use Rattle.ckr_points.specs.Rows.{TableSet, holding_of}
use Rattle.ckr_points.specs.Staleness.{bare_set, held_sets, stale_among, stale_needed, stale_with}
use Rattle.ckr_points.proofs.NeededNames.{needed-marked}

-- each mark is found by its name
marks-found : (marks : List Mark) → AllByRecursion (λ (mark : Mark). is_some (mark_at marks mark.name) ≡ true) marks
marks-found marks = found marks (λ name is. is)
  where
    found : (some : List Mark) → ((name : Name) → is_some (mark_at some name) ≡ true → is_some (mark_at marks name) ≡ true) → AllByRecursion (λ (mark : Mark). is_some (mark_at marks mark.name) ≡ true) some
    found [] within = tt
    found (mark ∷ rest) within = (
      within mark.name (ap (λ b. is_some (cond b (Some mark) (mark_at rest mark.name))) (name-itself mark.name)),
      found rest
          (λ name is.
          within name
          (bool-cases (same_name name mark.name)
          (λ same. ap (λ b. is_some (cond b (Some mark) (mark_at rest name))) same)
          (λ apart. ap (λ b. is_some (cond b (Some mark) (mark_at rest name))) apart ∙ is))),
    )

-- the entries of a data set don't matter, nor the tests of the step
stale-bare : (root : ℕ) (own : OwnedStep) (name : Name) (present : Option Present) (table : Option TableSet) → stale_by root (owned own.step own.owner []) name present (option_map bare_set (option_map (λ (holding : Holding). holding.set) (option_map holding_of table))) ≡ stale_by root own name present table
stale-bare root own name None None = refl
stale-bare root own name None (Some table) = refl
stale-bare root own name (Some present) None = refl
stale-bare root own name (Some present) (Some table) = refl

-- what is kept of the marks begins with this one, or not
first-kept : (b : Bool) (root : ℕ) (own : OwnedStep) (sets : Named TableSet) (mark : Mark) (rest : List Mark) → option_or (cond b (stale_at root own sets mark) None) (first_stale root own sets rest) ≡ first_stale root own sets (cond b (mark ∷ rest) rest)
first-kept true root own sets mark rest = refl
first-kept false root own sets mark rest = refl

module _ (needed : Needed) (job : Effective) (step : ℕ) (own : OwnedStep) (deck : Job) (marks : List Mark) (sets : Named TableSet) (is : IsNeededBy needed job step own deck) where
  abbrev under : Name → Option DataSet
  under name = option_map (λ (holding : Holding). holding.set) (entry_at (held_sets sets) name)

  abbrev among : Name → Bool
  among = is_among (needed_at needed.at_start job step own marks)

  stale-mark : (mark : Mark) → stale_with needed mark.name mark.present (under mark.name) ≡ stale_at job.root own sets mark
  stale-mark mark =
      let table = entry_at sets mark.name in
      let there = option_map bare_set (option_map (λ (holding : Holding). holding.set) (option_map holding_of table)) in
      ap (λ found. stale_with needed mark.name mark.present (option_map (λ (holding : Holding). holding.set) found)) (at-viewed holding_of sets mark.name)
      ∙ ap (λ root. stale_by root (first_step needed) mark.name mark.present there) (sym is.root)
      ∙ ap (λ one. stale_by job.root (owned one needed.owner []) mark.name mark.present there) (sym is.first)
      ∙ ap (λ owner. stale_by job.root (owned own.step owner []) mark.name mark.present there) (sym is.owner)
      ∙ stale-bare job.root own mark.name mark.present table

  stale-one : (mark : Mark) → is_some (mark_at marks mark.name) ≡ true → stale_needed needed (held_sets sets) mark ≡ cond (among mark.name) (stale_at job.root own sets mark) None
  stale-one mark marked =
      ap (λ b. cond b (stale_with needed mark.name mark.present (under mark.name)) None) (needed-marked needed job step own deck marks mark.name is marked)
      ∙ ap (λ denial. cond (among mark.name) denial None) (stale-mark mark)

  stale-some : (some : List Mark) → AllByRecursion (λ (mark : Mark). is_some (mark_at marks mark.name) ≡ true) some → stale_among needed (held_sets sets) some ≡ first_stale job.root own sets (filter (λ mark. among mark.name) some)
  stale-some [] found = refl
  stale-some (mark ∷ rest) found =
      ap (λ denial. option_or denial (stale_among needed (held_sets sets) rest)) (stale-one mark found.0)
      ∙ ap (option_or (cond (among mark.name) (stale_at job.root own sets mark) None)) (stale-some rest found.1)
      ∙ first-kept (among mark.name) job.root own sets mark (filter (λ mark. among mark.name) rest)

  pub stale-fresh : stale_among needed (held_sets sets) marks ≡ fresh job.root own marks (needed_at needed.at_start job step own marks) sets
  stale-fresh = stale-some marks (marks-found marks)
