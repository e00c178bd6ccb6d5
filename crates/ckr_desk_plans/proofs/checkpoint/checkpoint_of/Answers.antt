use Rattle.std.proofs.Common.{◌≡◌, ◌+◌, ℕ, List, [], ap, length, unwrap_or, ◌∙◌}
use Rattle.ckr_events.specs.declared.event.Event.TheVariants.{Checkpointed}
use Rattle.ckr_library.specs.Catalog.{fresh_holding, records_of}
use Rattle.ckr_library.specs.NameMaps.{with_entry}
use Rattle.ckr_desk_plans.specs.Plans.{row_for}
use Rattle.ckr_desk_plans.specs.StepView.{lengths_of_row}
use Rattle.ckr_desk_plans.proofs.checkpoint.checkpoint_of.Goals as goal

pub returns-clause-event : goal.returns-clause-event
returns-clause-event c =
    let run = c.args.on.now.run in
    let point = c.args.made.point in
    let set = c.args.set.now in
    let bytes : length c.as_slice.result.now ≡ length c.args.made.bytes.items = ap length c.as_slice.ensures.value in
    let end : set.length + c.records_in.result ≡ set.length + records_of (length c.args.made.bytes.items) = ap (λ n. set.length + n) (c.records_in.ensures ∙ ap records_of bytes) in
    let lengths : ℕ → List ℕ = λ n. lengths_of_row (with_entry c.args.check.now (fresh_holding (record set { length = n })) c.args.on.now.sets.sets) (row_for run c.args.table.now) in
    c.checkpointed_event-event.ensures.event
    ∙ ap (λ (id : List ℕ). Checkpointed run id point.taken point.writes c.lengths_of-lengths.result set.length (length c.as_slice.result.now)) c.id_of_point.ensures
    ∙ ap (λ (ls : List ℕ). Checkpointed run (unwrap_or point.id []) point.taken point.writes (record { items = ls }) set.length (length c.as_slice.result.now)) (c.lengths_of-lengths.ensures.lengths ∙ ap lengths end)
    ∙ ap (λ n. Checkpointed run (unwrap_or point.id []) point.taken point.writes (record { items = lengths (set.length + records_of (length c.args.made.bytes.items)) }) set.length n) bytes
