use Rattle.ckr_desk_plans.proofs.entry_marks.present_of.Goals as goal

pub returns : goal.returns
returns c = cc
