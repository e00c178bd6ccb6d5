use Rattle.std.proofs.Common.{◌∙◌}
use Rattle.ckr_jcl_decks.specs.DeckFaults.{meets_checkpoint, checkpoint_name_fault}
use Rattle.ckr_jcl_decks.specs.MetNames.{is_met_dd}
use Rattle.ckr_jcl_decks.proofs.CheckpointDds.{search-same, all_met}
use Rattle.ckr_jcl_decks.proofs.checkpoint_names.checkpoint_name_fault.Goals as goal

pub returns : goal.returns
unfolding checkpoint_name_fault
returns c =
    let permanent = c.meet_steps.new.permanent in
    let passing = c.meet_steps.new.passing in
    let steps = c.as_slice-steps.result.now in
    rw (← c.as_slice-steps.ensures)
    (c.met_in_steps.ensures ∙ search-same (is_met_dd permanent passing) (meets_checkpoint steps) (all_met steps permanent passing c.new-permanent.result c.new-passing.result c.new-permanent.ensures.empty c.new-passing.ensures.empty c.in_ok-meet_steps.ensures) steps)
