use Rattle.ckr_points_library.proofs.Meaning.{same_disposals}
use Rattle.ckr_points_library.proofs.laws.dispositions_are_those_of_the_step.Goals as goal

pub returns : goal.returns
returns c = λ root own before earlier abnormal. same_disposals root own before earlier abnormal 1 own.step.dds
