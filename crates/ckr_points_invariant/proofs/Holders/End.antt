-- The events stay kept where a holder ends, and what it leaves on its reach is what its job leaves.
use Rattle.std.proofs.Common.{◌≡◌, ◌≢◌, ℕ, false, cond, ap, sym, ◌∙◌, Option}
use Rattle.std.specs.Option.{option_map}
use Rattle.std.proofs.lemmas.Bool.{false≢true}
use Rattle.ckr_base.proofs.Bools.{bool-cases}
use Rattle.ckr_base.proofs.Numbers.{number-cases}
use Rattle.ckr_base.proofs.Options.{some-one}
use Rattle.ckr_library.specs.NameMaps.{Name, Named, entry_at, taken_over}
use Rattle.ckr_meaning.specs.LibrarySet.{Library}
use Rattle.ckr_meaning.specs.EffectiveJob.{is_among}
use Rattle.ckr_meaning.specs.declared.place.Place.{Place}
use Rattle.ckr_meaning.specs.JobRun.{job_run}
use Rattle.ckr_volumes.specs.declared.layout.Layout.{Layout}
use Rattle.ckr_points.specs.declared.run.RunState.TheVariants.{Queued}
use Rattle.ckr_points.specs.Follows.{is_in_state}
use Rattle.ckr_points_invariant.specs.Invariant.{AreAlike, IsHolder, IsAgreed, Leaves, set_shape, table_shape}
use Rattle.ckr_points.specs.Office.{Leg, Office, is_holder, leg_of}
use Rattle.ckr_points.specs.Rows.{RunRow, TableSet, run_of}
use Rattle.ckr_points.specs.Soundness.{AreLaidOut}
use Rattle.ckr_points_invariant.proofs.Library.Entries.{at-taken_over}
use Rattle.ckr_points_invariant.proofs.Holders.SharedSets.{job_run-left}
use Rattle.ckr_points_invariant.proofs.Holders.Moves.{Among, held-there, moved, of_later, place-there, row_is_next, still-led, still-legs, still-numbered, still-waiting, to_later, uses-there, without-restart}

pub record EndsSo (layout : Layout) (office : Office) (row next : RunRow) (leg : Leg) (cut : Option Place) (sets : Named TableSet) : Type 0 where
  pub same : next.number ≡ row.number
  pub deck : next.deck ≡ row.deck
  pub over : is_holder next.state ≡ false
  pub busy : is_in_state Queued next ≡ false
  pub outside : (name : Name) → is_among leg.reach name ≡ false → entry_at sets name ≡ entry_at office.tables.sets name
  pub inside : (name : Name) → Among leg name → AreAlike sets (job_run leg.job leg.start cut) name
  pub extents : AreLaidOut layout sets

module _ (layout : Layout) (office : Office) (number : ℕ) (row next : RunRow) (leg : Leg) (cut : Option Place) (sets : Named TableSet)
    (kept : IsAgreed layout office) (holder : IsHolder office number row leg) (ends : EndsSo layout office row next leg cut sets) where
  -- what the run leaves on its reach, and other names as they were
  abbrev left_then : Library
  left_then = taken_over leg.reach (job_run leg.job leg.start cut) office.library

  abbrev gone : Office
  gone = moved next sets left_then office

  numbered_so : next.number ≡ number
  numbered_so = ends.same ∙ kept.numbered number row holder.row_at

  taken : (name : Name) → Among leg name → entry_at left_then name ≡ entry_at (job_run leg.job leg.start cut) name
  taken name mine =
      at-taken_over leg.reach (job_run leg.job leg.start cut) office.library name
      ∙ ap (λ b. cond b (entry_at (job_run leg.job leg.start cut) name) (entry_at office.library name)) mine

  not_taken : (name : Name) → is_among leg.reach name ≡ false → entry_at left_then name ≡ entry_at office.library name
  not_taken name out =
      at-taken_over leg.reach (job_run leg.job leg.start cut) office.library name
      ∙ ap (λ b. cond b (entry_at (job_run leg.job leg.start cut) name) (entry_at office.library name)) out

  -- the run is no holder any more
  other_one : (other : ℕ) (its : RunRow) (fellow : Leg) → IsHolder gone other its fellow → other ≢ number
  other_one other its fellow there here =
      false≢true (sym ends.over ∙ ap (λ (r : RunRow). is_holder r.state) (row_is_next layout office number row next leg sets left_then kept holder numbered_so ends.busy its (ap (run_of gone.tables) (sym here) ∙ there.row_at)) ∙ there.holds)

  before : (other : ℕ) (its : RunRow) (fellow : Leg) → IsHolder gone other its fellow → IsHolder office other its fellow
  before other its fellow there = of_later layout office number row next leg sets left_then kept holder numbered_so ends.busy other its fellow (other_one other its fellow there) there

  -- what a fellow has in common is as it was
  ends_same : (other : ℕ) (its : RunRow) (fellow : Leg) (name : Name) → other ≢ number → IsHolder office other its fellow → Among leg name → Among fellow name → entry_at (job_run leg.job leg.start cut) name ≡ entry_at office.library name
  ends_same other its fellow name apart there mine among =
      let leaves : Leaves leg.job name = kept.left number other row its leg fellow name holder there (λ e. apart (sym e)) mine among in
      job_run-left name leg.job leg.start (kept.places number row leg holder).formed leaves cut
      ∙ kept.since number row leg name holder (without-restart layout office number other row its leg fellow name kept holder there (λ e. apart (sym e)) mine among) mine leaves

  common_so : (other : ℕ) (its : RunRow) (fellow : Leg) (name : Name) → other ≢ number → IsHolder office other its fellow → Among leg name → Among fellow name → AreAlike sets office.library name
  common_so other its fellow name apart there mine among =
      ends.inside name mine ∙ ap (option_map set_shape) (ends_same other its fellow name apart there mine among)

  kept_library : (other : ℕ) (its : RunRow) (fellow : Leg) (name : Name) → other ≢ number → IsHolder office other its fellow → Among fellow name → entry_at office.library name ≡ entry_at left_then name
  kept_library other its fellow name apart there among =
      bool-cases (is_among leg.reach name)
      (λ mine. sym (taken name mine ∙ ends_same other its fellow name apart there mine among))
      (λ out. sym (not_taken name out))

  pub kept-ends : IsAgreed layout gone
  kept-ends = record {
    extents = ends.extents;
    numbered = still-numbered layout office number row next leg sets left_then kept holder numbered_so ends.busy;
    waiting = still-waiting layout office number row next leg sets left_then kept holder numbered_so ends.busy;
    legs = still-legs layout office number row next leg sets left_then kept holder numbered_so ends.busy;
    led = still-led layout office number row next leg sets left_then kept holder numbered_so ends.busy;
    places = λ other its fellow there.
        place-there layout office number row next leg sets left_then kept holder numbered_so ends.busy other its fellow (other_one other its fellow there) (before other its fellow there);
    uses = λ other its fellow there.
        uses-there layout office number row next leg sets left_then kept holder numbered_so ends.busy ends.deck other its fellow (before other its fellow there);
    alone = λ one other its theirs mine fellow name here there. kept.alone one other its theirs mine fellow name (before one its mine here) (before other theirs fellow there);
    left = λ one other its theirs mine fellow name here there apart among shared.
        kept.left one other its theirs mine fellow name (before one its mine here) (before other theirs fellow there) apart among shared;
    since = λ other its fellow name there none among leaves.
        kept.since other its fellow name (before other its fellow there) none among leaves
        ∙ kept_library other its fellow name (other_one other its fellow there) (before other its fellow there) among;
    held = λ other its fellow name there among.
        held-there layout office number row next leg sets left_then kept holder numbered_so ends.busy (λ name out. ap (option_map table_shape) (ends.outside name out)) common_so other its fellow name (other_one other its fellow there) (before other its fellow there) among;
    free = λ name free.
        bool-cases (is_among leg.reach name)
        (λ mine. ends.inside name mine ∙ ap (option_map set_shape) (sym (taken name mine)))
        (λ out.
        ap (option_map table_shape) (ends.outside name out)
        ∙ kept.free name (λ other its fellow there.
        number-cases other number
        (λ here. ap (λ (l : Leg). is_among l.reach name) (some-one fellow leg (leg_of office number) (ap (leg_of office) (sym here) ∙ there.leg_at) holder.leg_at) ∙ out)
        (λ apart. free other its fellow (to_later layout office number row next leg sets left_then kept holder numbered_so ends.busy other its fellow apart there)))
        ∙ ap (option_map set_shape) (sym (not_taken name out)));
  }
