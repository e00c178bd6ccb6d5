-- Each data set of an accepted deck has a name.
use Rattle.std.proofs.Common.{◌≡◌, ℕ, Bool, true, false, cond, ◌&&◌, ◌||◌, not, List, [], ◌∷◌, ◌++◌, drop, map, refl, ap, sym, ◌∙◌, subst, Option, Some, None}
use Rattle.std.specs.List.{AllByRecursion, cons_option, filter_map, list_all}
use Rattle.std.specs.Option.{option_map, option_map_or}
use Rattle.ckr_base.specs.Grammar.{is_ds_name, is_name8}
use Rattle.ckr_base.proofs.Bools.{and-first, and-second, bool-cases, false-not-true}
use Rattle.ckr_base.proofs.Sequences.{each-get, each-implies}
use Rattle.ckr_jcl.specs.declared.deck.Cond.{Cond}
use Rattle.ckr_jcl.specs.declared.deck.Dd.{Dd}
use Rattle.ckr_jcl.specs.declared.deck.Job.{Job}
use Rattle.ckr_jcl.specs.declared.deck.Kind.{Kind}
use Rattle.ckr_jcl.specs.declared.deck.Origin.{Origin}
use Rattle.ckr_jcl.specs.declared.deck.Origin.TheVariants.{InStream, Sysout, Dummy}
use Rattle.ckr_jcl.specs.declared.deck.Step.{Step}
use Rattle.ckr_jcl.specs.Qualifiers.{is_kept_name}
use Rattle.ckr_jcl_decks.specs.Parts.DdText.{DdText}
use Rattle.ckr_jcl_decks.specs.Parts.DdValues.{dsn_value, is_passing, is_referring, passing_name, permanent_name}
use Rattle.ckr_jcl_decks.specs.Parts.DeckText.{dd_text}
use Rattle.ckr_jcl_decks.specs.Parts.DsnText.{DsnText}
use Rattle.ckr_jcl_decks.specs.Parts.DsnText.TheVariants.{Permanent, Passing, Referring, IllFormed}
use Rattle.ckr_jcl_decks.specs.Parts.StepText.{StepText}
use Rattle.ckr_jcl_decks.specs.Deck.{bytes_of, dd_of, job_of, named_origin, origin_of, step_with}
use Rattle.ckr_library.specs.NameMaps.{Name, same_name}
use Rattle.ckr_library.proofs.Named.{name-same}
use Rattle.ckr_uses.specs.SetNames.{origin_name, run_name}
use Rattle.ckr_meaning.specs.EffectiveJob.{OwnedStep, is_among, name_of}
use Rattle.ckr_points_library.specs.Commit.{is_named}
use Rattle.ckr_desk_turn.proofs.Decks.DeckTests.{OfStep, all_pass, steps_hold}
use Rattle.ckr_desk_turn.proofs.Decks.Origins.{dd_origin, origin-dummy, origin-named, origin-stream, origin-sysout}
use Rattle.ckr_desk_turn.proofs.Decks.Texts.{AreStated, IsReadFrom, IsStated, read_from}
use Rattle.ckr_desk_turn.specs.Invariant.{IsAdmittedStep}
use Rattle.ckr_desk_turn.proofs.Start.Decks.{IsOfDeck, of-deck}

-- a name, if there is one, isn't empty
abbrev pub is_named_or_none : Option Name → Bool
is_named_or_none found = option_map_or is_named found true

-- ---- DSN

-- a text of DSN names no data set by an empty name
abbrev has_text : DsnText → Bool
has_text (Permanent name) = is_named name
has_text _ = true

passing-text : (name : Name) → has_text (passing_name name) ≡ true
passing-text name = by (is_name8 name)
  where
    by : (b : Bool) → has_text (cond b (Passing name) IllFormed) ≡ true
    by true = refl
    by false = refl

permanent-text : (name : Name) → has_text (permanent_name name) ≡ true
permanent-text [] = refl
permanent-text (first ∷ rest) = by (is_ds_name (first ∷ rest) && not (is_kept_name (first ∷ rest)))
  where
    by : (b : Bool) → has_text (cond b (Permanent (first ∷ rest)) IllFormed) ≡ true
    by true = refl
    by false = refl

value-text : (text : List ℕ) → has_text (dsn_value text) ≡ true
unfolding dsn_value
value-text text = by (is_referring text) (is_passing text)
  where
    by : (referring passing : Bool) → has_text (cond referring Referring (cond passing (passing_name (drop 2 text)) (permanent_name text))) ≡ true
    by true passing = refl
    by false true = passing-text (drop 2 text)
    by false false = permanent-text text

-- ---- a DD

named-dsn : (dsn : Option DsnText) (root owner step dd : Name) → option_map_or has_text dsn true ≡ true → is_named_or_none (origin_name (named_origin dsn) root owner step dd) ≡ true
unfolding named_origin
named-dsn None root owner step dd has = refl
named-dsn (Some (Permanent name)) root owner step dd has = has
named-dsn (Some (Passing name)) root owner step dd has = refl
named-dsn (Some _) root owner step dd has = refl

stated-dsn : (program : Option Kind) (dd : DdText) → IsStated program dd → option_map_or has_text dd.dsn true ≡ true
unfolding dd_text
stated-dsn program dd stated = ap (λ (d : DdText). option_map_or has_text d.dsn true) stated.is ∙ by _
  where
    by : (value : Option (List ℕ)) → option_map_or has_text (option_map dsn_value value) true ≡ true
    by None = refl
    by (Some text) = value-text text

module _ (root owner : ℕ) (step : Name) where
  abbrev named_by : Dd → Bool
  named_by dd = is_named_or_none (origin_name dd.origin (run_name root) (run_name owner) step dd.name)

  by-origin : (dd : DdText) (origin : Origin) → origin_of dd ≡ origin → is_named_or_none (origin_name origin (run_name root) (run_name owner) step (dd_of dd).name) ≡ true → named_by (dd_of dd) ≡ true
  by-origin dd origin is has = ap (λ (o : Origin). is_named_or_none (origin_name o (run_name root) (run_name owner) step (dd_of dd).name)) (dd_origin dd ∙ is) ∙ has

  dd-named : (program : Option Kind) (dd : DdText) → IsStated program dd → named_by (dd_of dd) ≡ true
  dd-named program dd stated =
      bool-cases dd.in_stream (λ stream. by-origin dd (InStream (map bytes_of dd.records)) (origin-stream dd stream) refl)
      (λ stream.
      bool-cases dd.dummy (λ dummy. by-origin dd Dummy (origin-dummy dd stream dummy) refl)
      (λ dummy.
      bool-cases dd.sysout (λ sysout. by-origin dd Sysout (origin-sysout dd stream dummy sysout) refl)
      (λ sysout. by-origin dd (named_origin dd.dsn) (origin-named dd stream dummy sysout) (named-dsn dd.dsn (run_name root) (run_name owner) step (dd_of dd).name (stated-dsn program dd stated)))))

-- ---- a step

-- each data set of a step has a name
abbrev pub is_named_step : ℕ → OwnedStep → Bool
is_named_step root owned = list_all (λ dd. is_named_or_none (name_of root owned dd)) owned.step.dds

-- so it is with a step of a deck, whose job and root any run may be
abbrev IsNamedStep : Step → Type 0
IsNamedStep step = (root owner : ℕ) (tests : List Cond) → is_named_step root (record { step = step; owner = owner; tests = tests }) ≡ true

step-named : (step : StepText) → AreStated step → OfStep IsNamedStep step
unfolding step_with
step-named step stated kind is root owner tests =
    all_pass (named_by root owner step.name) dd_of step.dds (each-implies (IsStated step.program) (λ dd. named_by root owner step.name (dd_of dd) ≡ true) step.dds (dd-named root owner step.name step.program) stated)

steps-named : (job : Job) → IsReadFrom job → AllByRecursion IsNamedStep job.steps
unfolding job_of
steps-named job read = subst (λ (j : Job). AllByRecursion IsNamedStep j.steps) (sym read.is) (steps_hold IsNamedStep read.text.steps (each-implies AreStated (OfStep IsNamedStep) read.text.steps step-named read.stated))

-- each data set of a step that is one of an accepted deck
pub admitted-named : (root number : ℕ) (owned : OwnedStep) → IsAdmittedStep number owned → is_named_step root owned ≡ true
admitted-named root number owned its =
    let from : IsOfDeck owned.owner its.deck owned = of-deck owned.owner its.deck number owned its.owned_so in
    subst (λ (one : OwnedStep). is_named_step root one ≡ true) from.is
    (each-get IsNamedStep its.deck.steps from.place from.step (steps-named its.deck (read_from its.cards its.deck its.accepted)) from.at root owned.owner (its.deck.cond ++ from.step.cond))

-- a name among those of such a step isn't empty
pub among-named : (root : ℕ) (owned : OwnedStep) (dds : List Dd) (name : Name) → list_all (λ dd. is_named_or_none (name_of root owned dd)) dds ≡ true → is_among (filter_map (name_of root owned) dds) name ≡ true → is_named name ≡ true
among-named root owned [] name all among = false-not-true among
among-named root owned (dd ∷ dds) name all among =
    by (name_of root owned dd) (and-first (is_named_or_none (name_of root owned dd)) _ all) among
    (λ rest. among-named root owned dds name (and-second (is_named_or_none (name_of root owned dd)) _ all) rest)
  where
    by : (found : Option Name) → is_named_or_none found ≡ true → is_among (cons_option found (filter_map (name_of root owned) dds)) name ≡ true → (is_among (filter_map (name_of root owned) dds) name ≡ true → is_named name ≡ true) → is_named name ≡ true
    by None has among later = later among
    by (Some first) has among later = bool-cases (same_name name first) (λ same. ap is_named (name-same name first same) ∙ has) (λ apart. later (sym (ap (λ b. b || is_among (filter_map (name_of root owned) dds) name) apart) ∙ among))
