-- A checkpoint of a run in its step, as the code puts it together.
use Rattle.std.proofs.Common.{◌≡◌, ◌+◌, ◌<◌, ℕ, true, IsSome, List, [], ◌∷◌, ◌++◌, ap, sym, ◌∙◌, subst, arith, refl, Some, None, Option}
use Rattle.std.specs.Option.{is_some, option_map_or}
use Rattle.std.proofs.lemmas.Bool.{false≢true}
use Rattle.ckr_library.specs.declared.sets.Kept.{Kept}
use Rattle.ckr_library.specs.Catalog.{Catalog, Holding, KeepsEntryRoom, entry_room, records_of, with_kept, with_length}
use Rattle.ckr_library.specs.NameMaps.{Name, Named, with_changed}
use Rattle.ckr_meaning.specs.EffectiveJob.{OwnedStep}
use Rattle.ckr_points.specs.declared.run.Run.{Run}
use Rattle.ckr_points.specs.Tables.{is_checkpoints, name_with_role}
use Rattle.ckr_points_library.specs.Commit.{committed, output_names}
use Rattle.ckr_points_runs.specs.Checkpoint.{HasCheckpoints, HasRoomNow, MayKeep, checkpoint_name}
use Rattle.ckr_points_runs.specs.RunChange.{check_writing, checkpointed, checkpointed_facts, committed_by, going, holding_kit}
use Rattle.ckr_points_runs.specs.StepEnd.{HasNamedOutputs}
use Rattle.ckr_points_runs.specs.View.{RunTableView, Writing}
use Rattle.ckr_points_runs.proofs.CheckpointNames.{checkpoint-named, role-named}

-- ---- the checkpoint data set of the step

module _ (run place bytes : ℕ) (lengths : List ℕ) (library : Catalog) where
  pub has-checkpoints : (found : Option OwnedStep) → is_some found ≡ true → MayKeep run place bytes lengths library found → HasNamedOutputs run found → HasCheckpoints run found
  has-checkpoints None there keeps named = absurd (false≢true there)
  has-checkpoints (Some own) there keeps named = checkpoint-named run own (place + records_of bytes) lengths keeps.output named

  -- there is still room for the entry
  pub has-room : (found : Option OwnedStep) → is_some found ≡ true → MayKeep run place bytes lengths library found → HasNamedOutputs run found
      → (new : Catalog) → KeepsEntryRoom library new → (set : Name) → ((own : OwnedStep) → found ≡ Some own → set ≡ name_with_role run own is_checkpoints) → 0 < entry_room new set
  has-room None there keeps named new more set is = absurd (false≢true there)
  has-room (Some own) there keeps named new more set is = by (checkpoint_name run own) refl (has-checkpoints (Some own) there keeps named) keeps.room
    where
      by : (found : Option Name) → checkpoint_name run own ≡ found → IsSome found → HasRoomNow library found → 0 < entry_room new set
      by None e has room = absurd (false≢true has)
      by (Some name) e has room = subst (λ n. 0 < entry_room new n) (sym (is own refl ∙ role-named run own name e)) (omega (arith, room, more name))

-- ---- what the run is behind it

module _ (line : Run) (facts : RunTableView) (sets : Named Holding) (step : ℕ) (kept : Kept) (taken writes : ℕ) (lengths : List ℕ) (found : Option OwnedStep) (there : is_some found ≡ true) (commit : Named Holding)
    (is : commit ≡ option_map_or (λ own. committed with_length (output_names facts.job.root own) lengths sets) found sets) where
  pub goes-behind : (set : Name) → ((own : OwnedStep) → found ≡ Some own → set ≡ name_with_role facts.job.root own is_checkpoints)
      → going line (checkpointed_facts step writes set kept facts) (with_changed set (with_kept kept) commit) ≡ option_map_or (checkpointed holding_kit step kept taken writes lengths (going line facts sets)) found (going line facts sets)
  goes-behind set named = by found there is named
    where
      by : (one : Option OwnedStep) → is_some one ≡ true → commit ≡ option_map_or (λ own. committed with_length (output_names facts.job.root own) lengths sets) one sets
          → ((own : OwnedStep) → one ≡ Some own → set ≡ name_with_role facts.job.root own is_checkpoints)
          → going line (checkpointed_facts step writes set kept facts) (with_changed set (with_kept kept) commit) ≡ option_map_or (checkpointed holding_kit step kept taken writes lengths (going line facts sets)) one (going line facts sets)
      by None there is named = absurd (false≢true there)
      by (Some own) there is named =
          ap (λ name. going line (checkpointed_facts step writes name kept facts) (with_changed name (with_kept kept) commit)) (named own refl)
          ∙ ap (λ all. let set_now = name_with_role facts.job.root own is_checkpoints in going line (checkpointed_facts step writes set_now kept facts) (with_changed set_now (with_kept kept) all)) is

  pub wrote-behind : (before : List Writing) (one : Writing) → ((own : OwnedStep) → found ≡ Some own → one ≡ check_writing holding_kit step kept taken writes commit (going line facts commit) own)
      → before ++ one ∷ [] ≡ option_map_or (λ own. before ++ check_writing holding_kit step kept taken writes (committed_by holding_kit lengths own (going line facts sets)).sets (going line facts sets) own ∷ []) found before
  wrote-behind before one told = by found there is told
    where
      by : (other : Option OwnedStep) → is_some other ≡ true → commit ≡ option_map_or (λ own. committed with_length (output_names facts.job.root own) lengths sets) other sets
          → ((own : OwnedStep) → other ≡ Some own → one ≡ check_writing holding_kit step kept taken writes commit (going line facts commit) own)
          → before ++ one ∷ [] ≡ option_map_or (λ own. before ++ check_writing holding_kit step kept taken writes (committed_by holding_kit lengths own (going line facts sets)).sets (going line facts sets) own ∷ []) other before
      by None there is told = absurd (false≢true there)
      by (Some own) there is told =
          ap (λ writing. before ++ writing ∷ []) (told own refl ∙ ap (λ all. check_writing holding_kit step kept taken writes all (going line facts sets) own) is)
