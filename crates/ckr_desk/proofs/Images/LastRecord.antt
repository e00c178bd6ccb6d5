-- What an image has of what is committed, once the record of the last event is written again.
use Rattle.std.proofs.Common.{◌≡◌, ℕ, List, Bool, true, false, cond, refl, ap, sym, ◌∙◌, subst, arith, Option, Some, None, slice_get, slice_set}
use Rattle.ckr_base.proofs.Sequences.{set-same}
use Rattle.ckr_events.specs.declared.event.Event.{Event}
use Rattle.ckr_desk_refines.proofs.Durable.Units.{table-kept}
use Rattle.ckr_desk_refines.specs.Commits.{HasCommitted}
use Rattle.ckr_desk_refines.specs.RewriteRecord.{HasCommittedAgain, HasLast, RewriteRecord, again, any_rewrite}
use Rattle.ckr_desk_refines.specs.StepSets.{HasSets}
use Rattle.ckr_library.specs.Catalog.{Catalog}
use Rattle.ckr_library.specs.NameMaps.{Name, same_name}
use Rattle.ckr_library.proofs.Named.{name-same}
use Rattle.ckr_outside.specs.Disk.{Only}
use Rattle.ckr_points.specs.Office.{Office, model_records}
use Rattle.ckr_points.specs.Rows.{TableSet}
use Rattle.ckr_points.specs.Soundness.{AreLaidOut}
use Rattle.ckr_steps.specs.Writes.{Keeps}
use Rattle.ckr_volumes.specs.declared.layout.Layout.{Layout}

-- a record that is there may be written again
again-same : (rewrite : Option RewriteRecord) (name : Name) (records : List (List ℕ)) → ((its : RewriteRecord) → rewrite ≡ Some its → name ≡ its.name → slice_get records its.place ≡ Some its.image)
    → again rewrite name records ≡ records
again-same None name records there = refl
again-same (Some its) name records there = by (same_name name its.name) refl
  where
    by : (b : Bool) → same_name name its.name ≡ b → cond b (slice_set records its.place its.image) records ≡ records
    by true same = set-same records its.place its.image (there its refl (name-same name its.name same))
    by false same = refl

module _ (layout : Layout) (office : Office) (last : Option Event) where
  pub again-so : (image : List ℕ) → HasLast office last → HasCommitted layout office image → HasCommittedAgain layout office last image
  again-so image there committed = λ (name : Name) (table : TableSet) at plain.
      ap (again (any_rewrite office.tables last) name) (committed name table at plain)
      ∙ again-same (any_rewrite office.tables last) name (model_records office name)
      (λ its is same. ap (λ n. slice_get (model_records office n) its.place) same ∙ there its is)
      ∙ refl

  -- where a read gives what is committed, and a stop leaves nothing else
  pub again-only : (content : List ℕ) (images : List ℕ → Type 0) → HasLast office last → HasCommitted layout office content → Only content images
      → (image : List ℕ) → images image → HasCommittedAgain layout office last image
  again-only content images there committed only image among = subst (HasCommittedAgain layout office last) (sym (only image among)) (again-so content there committed)

  -- so it is with each image that keeps the data sets of a step, and with them those that the step doesn't have
  pub again-keeping : (names : List Name) (sets : Catalog) → AreLaidOut layout office.tables.sets → HasSets office.tables.sets names sets → (from image : List ℕ) → Keeps layout sets from image
      → HasCommittedAgain layout office last from → HasCommittedAgain layout office last image
  again-keeping names sets laid has from image keeps committed = λ (name : Name) (table : TableSet) at plain.
      ap (again (any_rewrite office.tables last) name) (table-kept layout office.tables.sets names sets laid has from image keeps name table table.set.length at (omega arith))
      ∙ committed name table at plain
