use Rattle.std.proofs.Common.{sym, subst}
use Rattle.ckr_library.specs.NameMaps.{EachEntry}
use Rattle.ckr_library.proofs.Named.{each-with_changed}
use Rattle.ckr_points_runs.specs.PutBack.{IsFilled}
use Rattle.ckr_points_runs.specs.PutBack.{cut_back}
use Rattle.ckr_points_runs.proofs.PutBack.{cut-back-filled}
use Rattle.ckr_points_runs.proofs.put_back.put_back_length.Goals as goal

pub returns-in-Some-clause-filled : goal.returns-in-Some-clause-filled
returns-in-Some-clause-filled c =
    let most = c.in-Some.present.length in
    subst (EachEntry IsFilled) (sym c.cut_back.ensures) (each-with_changed IsFilled c.args.name.now (cut_back most) c.args.library.now.sets (cut-back-filled most) c.requires.filled)
