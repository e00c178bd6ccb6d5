-- Jobs of steps that have no program to run, and a layout.
use Rattle.std.specs.Prelude.{List, [], ◌∷◌, codes, Option, None}
use Rattle.ckr_jcl.specs.declared.deck.Dd.{Dd}
use Rattle.ckr_jcl.specs.declared.deck.Job.{Job}
use Rattle.ckr_jcl.specs.declared.deck.Kind.TheVariants.{Br14}
use Rattle.ckr_jcl.specs.declared.deck.Restart.{Restart}
use Rattle.ckr_jcl.specs.declared.deck.Step.{Step}
use Rattle.ckr_jcl.specs.ParmGrammar.{no_parm}
use Rattle.ckr_library.specs.NameMaps.{Name}
use Rattle.ckr_volumes.specs.declared.layout.Layout.{Layout}

-- one volume, one initiator, and no eligible code
abbrev pub layout : Layout
layout = record {
  version = 2;
  initiators = 1;
  units = 1;
  volumes = record { items = record { serial = codes "VOL001"; start = 100512; bytes = 200000 } ∷ [] };
  eligible = record { items = [] };
  book = 100000;
  image = 0;
}

abbrev pub step : Name → List Dd → Step
step name dds = record { name = name; program = Br14; parm = no_parm; rd = None; cond = []; dds = dds }

abbrev pub deck : Option Restart → List Step → Job
deck restart steps = record { name = codes "J"; rd = None; cond = []; restart = restart; syschk = None; steps = steps }
