-- A step with the same statements as another one has the same names, where the same run is the root and the same one owns it.
use Rattle.std.proofs.Common.{◌≡◌, ℕ, true, ◌==◌, ◌&&◌, if◌then◌else◌, List, [], ◌∷◌, refl, ap, sym, ◌∙◌, Option, Some, None}
use Rattle.std.specs.Prelude.{codes}
use Rattle.std.specs.Cmp.Lexicographic.{pointwise, same_text}
use Rattle.std.specs.List.{cons_option, filter_map}
use Rattle.std.proofs.lemmas.Bool.{false≢true}
use Rattle.ckr_base.proofs.Bools.{and-first, and-second}
use Rattle.ckr_base.proofs.Numbers.{equal-true}
use Rattle.ckr_jcl.specs.declared.deck.Dd.{Dd}
use Rattle.ckr_jcl.specs.declared.deck.Job.{Job}
use Rattle.ckr_jcl.specs.declared.deck.Origin.{Origin}
use Rattle.ckr_jcl.specs.declared.deck.Origin.TheVariants.{InStream}
use Rattle.ckr_jcl.specs.declared.deck.Step.{Step}
use Rattle.ckr_library.specs.NameMaps.{Name}
use Rattle.ckr_meaning.specs.EffectiveJob.{OwnedStep, names_of, owned_by}
use Rattle.ckr_points.specs.Statements.{origin_parts, same_bytes, same_dd, same_origin, same_statements}
use Rattle.ckr_uses.specs.SetNames.{name_under, origin_name, qualified, run_name, step_name}

-- the name that the parts of an origin give
abbrev name_by : ℕ → List ℕ → Name → Name → Name → Name → Option Name
name_by kind text root owner step dd =
    if kind == 2 then Some text
    else if kind == 3 then Some (qualified (qualified (codes "SYSTEMP") root) text)
    else if kind == 4 then Some (step_name (codes "SYSTEMP") root step dd)
    else if kind == 5 then Some (step_name (codes "SYSOUT") owner step dd)
    else None

name-parts : (origin : Origin) (root owner step dd : Name) → origin_name origin root owner step dd ≡ name_by (origin_parts origin).0 (origin_parts origin).1 root owner step dd
name-parts (InStream cards) root owner step dd = refl
name-parts _ root owner step dd = refl

-- the same origins have the same names
origin-same : (one other : Origin) (root owner step dd : Name) → same_origin one other ≡ true → origin_name one root owner step dd ≡ origin_name other root owner step dd
origin-same one other root owner step dd same =
    let parts = and-first ((origin_parts one).0 == (origin_parts other).0 && same_bytes (origin_parts one).1 (origin_parts other).1) _ same in
    name-parts one root owner step dd
    ∙ ap (λ kind. name_by kind (origin_parts one).1 root owner step dd) (equal-true (origin_parts one).0 (origin_parts other).0 (and-first ((origin_parts one).0 == (origin_parts other).0) _ parts))
    ∙ ap (λ text. name_by (origin_parts other).0 text root owner step dd) (same_text (origin_parts one).1 (origin_parts other).1 (sym (and-second ((origin_parts one).0 == (origin_parts other).0) _ parts)))
    ∙ sym (name-parts other root owner step dd)

-- so do the same DDs
dd-same : (one other : Dd) (root owner step : Name) → same_dd one other ≡ true → name_under one root owner step ≡ name_under other root owner step
dd-same one other root owner step same =
    let both : (same_bytes one.name other.name && same_origin one.origin other.origin) ≡ true = and-first _ _ (and-first _ _ (and-first _ _ (and-first _ _ same))) in
    ap (origin_name one.origin root owner step) (same_text one.name other.name (sym (and-first (same_bytes one.name other.name) _ both)))
    ∙ origin-same one.origin other.origin root owner step other.name (and-second (same_bytes one.name other.name) _ both)

dds-same : (one other : List Dd) (root owner step : Name) → pointwise same_dd one other ≡ true → filter_map (λ dd. name_under dd root owner step) one ≡ filter_map (λ dd. name_under dd root owner step) other
dds-same [] [] root owner step same = refl
dds-same [] (second ∷ other) root owner step same = absurd (false≢true same)
dds-same (first ∷ one) [] root owner step same = absurd (false≢true same)
dds-same (first ∷ one) (second ∷ other) root owner step same =
    ap (λ name. cons_option name (filter_map (λ dd. name_under dd root owner step) one)) (dd-same first second root owner step (and-first (same_dd first second) _ same))
    ∙ ap (cons_option (name_under second root owner step)) (dds-same one other root owner step (and-second (same_dd first second) _ same))

-- and the same steps where they have the same owner
pub step-names-same : (root : ℕ) (owned : OwnedStep) (deck : Job) (mine : Step) → same_statements owned.step mine ≡ true → names_of root owned ≡ names_of root (owned_by owned.owner deck mine)
step-names-same root owned deck mine same =
    let named : same_bytes owned.step.name mine.name ≡ true = and-first _ _ (and-first _ _ (and-first _ _ (and-first _ _ same))) in
    ap (λ name. filter_map (λ dd. name_under dd (run_name root) (run_name owned.owner) name) owned.step.dds) (same_text owned.step.name mine.name (sym named))
    ∙ dds-same owned.step.dds mine.dds (run_name root) (run_name owned.owner) mine.name (and-second _ (pointwise same_dd owned.step.dds mine.dds) same)
