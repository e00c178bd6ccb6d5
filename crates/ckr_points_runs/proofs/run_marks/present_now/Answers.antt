use Rattle.std.proofs.Common.{◌≡◌, refl, ap, sym, ◌∙◌, Some, None, Option, []}
use Rattle.std.specs.Option.{option_map}
use Rattle.ckr_library.specs.declared.sets.DataSet.{DataSet}
use Rattle.ckr_library.specs.Catalog.{Holding}
use Rattle.ckr_library.specs.NameMaps.{Name, Named, entry_at}
use Rattle.ckr_library.proofs.Named.{at-viewed}
use Rattle.ckr_points.specs.Marks.{present_of}
use Rattle.ckr_points_runs.specs.View.{seen_by, table_of}
use Rattle.ckr_points_runs.proofs.run_marks.present_now.Goals as goal

present_in : (sets : Named Holding) (name : Name) → option_map (λ (set : DataSet). present_of (record { set = set; entries = [] })) (option_map (λ (h : Holding). h.set) (entry_at sets name)) ≡ option_map present_of (entry_at (seen_by table_of sets) name)
present_in sets name = by (entry_at sets name) ∙ ap (option_map present_of) (sym (at-viewed table_of sets name))
  where
    by : (found : Option Holding) → option_map (λ (set : DataSet). present_of (record { set = set; entries = [] })) (option_map (λ (h : Holding). h.set) found) ≡ option_map present_of (option_map table_of found)
    by None = refl
    by (Some h) = refl

pub returns-in-Some : goal.returns-in-Some
returns-in-Some c =
    ap Some c.present_of.ensures ∙ ap (option_map (λ (set : DataSet). present_of (record { set = set; entries = [] }))) c.in-Some.ensures ∙ present_in c.args.library.now.sets c.args.name.now

pub returns-in-None : goal.returns-in-None
returns-in-None c = ap (option_map (λ (set : DataSet). present_of (record { set = set; entries = [] }))) c.in-None.ensures ∙ present_in c.args.library.now.sets c.args.name.now
