-- Why a deferred restart is denied, and the step and the run that it goes by.
use Rattle.std.specs.Prelude.{ℕ, Bool, true, false, if◌then◌else◌, []}
use Rattle.std.specs.Option.{option_map_or}
use Rattle.ckr_library.specs.NameMaps.{Name}
use Rattle.ckr_rules.specs.declared.cases.Rule.{Rule}
use Rattle.ckr_rules.specs.declared.cases.Rule.TheVariants.{D8, D9, D10}
use Rattle.ckr_points.specs.declared.denial.Denial.{Denial}
use Rattle.ckr_points.specs.Freshness.{plain_denial}
use Rattle.ckr_points.specs.RuleCases.{Wanted, stale_denial}
use Rattle.ckr_points.specs.Rows.{RunRow, TablesModel}

-- the rules that say what was seen of a data set
abbrev pub tells_a_name : Rule → Bool
tells_a_name D8 = true
tells_a_name D9 = true
tells_a_name D10 = true
tells_a_name _ = false

-- the denial by a rule
abbrev pub denial_of : RunRow → Wanted → TablesModel → Rule → Denial
denial_of row wanted tables rule =
    if tells_a_name rule then option_map_or (λ denial. denial) (stale_denial row wanted tables) (plain_denial rule) else plain_denial rule

-- the name of the step that is wanted
abbrev pub wanted_name : Wanted → Name
wanted_name wanted = option_map_or (λ step. step.name) wanted.step []

-- the number of the earlier run
abbrev pub earlier_number : Wanted → ℕ
earlier_number wanted = option_map_or (λ earlier. earlier.number) wanted.earlier 0
