-- A run is selected to continue another one: what holds of the tables put back for it holds behind the event.
use Rattle.std.proofs.Common.{◌≡◌, ℕ, suc, true, sym, subst, Option, None, Some, arith}
use Rattle.std.specs.Option.{option_map_or}
use Rattle.ckr_events.specs.declared.event.Event.TheVariants.{Selected}
use Rattle.ckr_jcl.specs.declared.deck.Job.{Job}
use Rattle.ckr_library.specs.NameMaps.{Name}
use Rattle.ckr_points.specs.Follows.{follows}
use Rattle.ckr_points.specs.Restart.{after_entry_continued, after_event, after_start_continued, continued_row, kept_at, syschk_name}
use Rattle.ckr_points.specs.Rows.{KeptEntry, TablesModel}
use Rattle.ckr_points_invariant.specs.EarlierRuns.{IsEntryOf, MayContinue}
use Rattle.ckr_points_invariant.proofs.Continuations.Follows.{after-selected, may-continue}
use Rattle.ckr_volumes.specs.declared.layout.Layout.{Layout}

module _ (layout : Layout) (tables : TablesModel) (job initiator before step : ℕ) (deck : Option Job) (Q : TablesModel → Type 0) where
  may : (id : Option Name) → follows layout tables (Selected job initiator (suc before) step id) deck ≡ true → MayContinue layout tables job initiator (suc before) step id
  may id follow = may-continue layout tables job initiator (suc before) step id (λ none. omega (arith, none)) follow

  -- it holds at the start of the step
  abbrev pub AtStart : Type 0
  AtStart =
      (its : MayContinue layout tables job initiator (suc before) step None)
      → Q (after_start_continued (continued_row its.row its.other step its.point initiator tables.sets) its.owned step its.point tables)

  -- and at a checkpoint, with its entry
  abbrev pub AtEntry : Type 0
  AtEntry =
      (id : Name) (its : MayContinue layout tables job initiator (suc before) step (Some id)) (entry : KeptEntry)
      → Q (after_entry_continued (continued_row its.row its.other step its.point initiator tables.sets) its.owned step (syschk_name its.row.deck) entry tables)

  pub by-start : follows layout tables (Selected job initiator (suc before) step None) deck ≡ true → AtStart → Q (after_event (Selected job initiator (suc before) step None) deck tables)
  by-start follow start = let its = may None follow in subst Q (sym (after-selected layout tables job initiator before step None deck its)) (start its)

  pub by-entry : (id : Name) → follows layout tables (Selected job initiator (suc before) step (Some id)) deck ≡ true → AtEntry → Q (after_event (Selected job initiator (suc before) step (Some id)) deck tables)
  by-entry id follow each =
      let its = may (Some id) follow in
      subst Q (sym (after-selected layout tables job initiator before step (Some id) deck its)) (by its (kept_at tables.sets (syschk_name its.row.deck) id) its.entry)
    where
      by : (its : MayContinue layout tables job initiator (suc before) step (Some id)) (found : Option KeptEntry) → IsEntryOf its.other step (Some id) found
          → Q (option_map_or (λ entry. after_entry_continued (continued_row its.row its.other step its.point initiator tables.sets) its.owned step (syschk_name its.row.deck) entry tables) found tables)
      by its None none = absurd none
      by its (Some entry) of_run = each id its entry

  pub by-continuation : (id : Option Name) → follows layout tables (Selected job initiator (suc before) step id) deck ≡ true → AtStart → AtEntry → Q (after_event (Selected job initiator (suc before) step id) deck tables)
  by-continuation None follow start entry = by-start follow start
  by-continuation (Some id) follow start entry = by-entry id follow entry
