use Rattle.ckr_base.specs.declared.programs.Finish.TheVariants.{Abend}
use Rattle.ckr_desk_turn.proofs.Units.LastUnit.{all-done, full-ends}
use Rattle.ckr_desk_turn.proofs.unit_laws.codes_of_units_are_those_of_the_work.Goals as goal

pub returns : goal.returns
returns c = record {
  abended = λ start progress code opened fit ends. (all-done start progress (Abend code) opened fit ends).ends;
  spilled = λ start progress opened full. full-ends start progress opened full;
}
