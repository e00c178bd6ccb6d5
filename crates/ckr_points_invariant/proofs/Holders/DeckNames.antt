-- The names of a deck whatever its root and the owners of its steps, and the uses that keep two runs from meeting in one.
use Rattle.std.proofs.Common.{◌≡◌, ℕ, suc, Bool, true, false, cond, ◌&&◌, ◌||◌, List, [], ◌∷◌, ◌++◌, flat_map, map, length, refl, ap, sym, ◌∙◌, Option, Some, None}
use Rattle.std.specs.List.{cons_option, filter_map, list_any}
use Rattle.std.specs.Option.{is_some, option_and_then, option_map, option_to_list}
use Rattle.std.proofs.lemmas.Bool.{false≢true, or_left, or_right}
use Rattle.std.proofs.lemmas.List.Folds.{list_any-append}
use Rattle.ckr_base.proofs.Bools.{bool-cases}
use Rattle.ckr_base.proofs.Options.{some-not-none}
use Rattle.ckr_base.proofs.NameBytes.{digits-length}
use Rattle.ckr_jcl.specs.declared.deck.Dd.{Dd}
use Rattle.ckr_jcl.specs.declared.deck.Job.{Job}
use Rattle.ckr_jcl.specs.declared.deck.Origin.{Origin}
use Rattle.ckr_jcl.specs.declared.deck.Origin.TheVariants.{InStream, Named, Temporary, Unnamed, Sysout, Dummy}
use Rattle.ckr_jcl.specs.declared.deck.Restart.{Restart}
use Rattle.ckr_jcl.specs.declared.deck.Step.{Step}
use Rattle.ckr_library.specs.declared.uses.Use.{Use}
use Rattle.ckr_library.specs.NameMaps.{Name, same_name}
use Rattle.ckr_library.proofs.Named.{name-equivalence, name-same}
use Rattle.ckr_meaning.specs.EffectiveJob.{OwnedStep, is_among, name_of, names_of, names_of_steps, owned_by}
use Rattle.ckr_points.specs.Marks.{deck_names}
use Rattle.ckr_uses.specs.SetNames.{origin_name, run_name}
use Rattle.ckr_uses.specs.Uses.{holds, is_exclusive_of, is_of, use_as, use_in, use_of_syschk, uses_in_step, uses_of, uses_of_dds}
use Rattle.ckr_uses.proofs.MergedUses.{merged-is}
use Rattle.ckr_uses.proofs.SharedNames.{holds-names}
use Rattle.ckr_points_invariant.proofs.Holders.NamesInCommon.{InCommon, IsWritten, TellsApart, by_owner, by_root, in-common, written}
use Rattle.ckr_points_invariant.specs.JobNames.{IsNameOf}

-- ---- run numbers as qualifiers

pub run_names-long : (one other : ℕ) → length (run_name one) ≡ length (run_name other)
run_names-long one other = ap suc (digits-length 7 one ∙ sym (digits-length 7 other))

-- ---- a name of a deck

-- the names of the steps of a deck that a run owns
pub names-owned : (root run : ℕ) (deck : Job) (steps : List Step) → names_of_steps root (map (owned_by run deck) steps) ≡ flat_map (λ step. names_of root (owned_by run deck step)) steps
names-owned root run deck [] = refl
names-owned root run deck (first ∷ rest) = ap (λ names. names_of root (owned_by run deck first) ++ names) (names-owned root run deck rest)

dd-named : (root : ℕ) (owned : OwnedStep) (dds : List Dd) (name : Name) → is_among (filter_map (name_of root owned) dds) name ≡ true → (dd : Dd) × ((q : Dd → Bool) → q dd ≡ true → list_any q dds ≡ true) × (name_of root owned dd ≡ Some name)
dd-named root owned [] name among = absurd (false≢true among)
dd-named root owned (first ∷ rest) name among = by (name_of root owned first) refl among (dd-named root owned rest name)
  where
    by : (its : Option Name) → name_of root owned first ≡ its → is_among (cons_option its (filter_map (name_of root owned) rest)) name ≡ true
        → (is_among (filter_map (name_of root owned) rest) name ≡ true → (dd : Dd) × ((q : Dd → Bool) → q dd ≡ true → list_any q rest ≡ true) × (name_of root owned dd ≡ Some name))
        → (dd : Dd) × ((q : Dd → Bool) → q dd ≡ true → list_any q (first ∷ rest) ≡ true) × (name_of root owned dd ≡ Some name)
    by None e among more = let its = more among in (its.0, λ q passes. or_right (q first) _ (its.1 q passes), its.2)
    by (Some other) e among more =
        bool-cases (same_name name other)
        (λ same. (first, λ q passes. or_left (q first) (list_any q rest) passes, e ∙ ap Some (sym (name-same name other same))))
        (λ apart. let its = more (ap (λ b. b || is_among (filter_map (name_of root owned) rest) name) (sym apart) ∙ among) in (its.0, λ q passes. or_right (q first) _ (its.1 q passes), its.2))

module _ (deck : Job) (root run : ℕ) (name : Name) where
  among-steps : (steps : List Step) → is_among (flat_map (λ step. names_of root (owned_by run deck step)) steps) name ≡ true → (step : Step) × ((q : Step → Bool) → q step ≡ true → list_any q steps ≡ true) × (is_among (names_of root (owned_by run deck step)) name ≡ true)
  among-steps [] among = absurd (false≢true among)
  among-steps (first ∷ rest) among =
      bool-cases (is_among (names_of root (owned_by run deck first)) name)
      (λ here. (first, λ q passes. or_left (q first) (list_any q rest) passes, here))
      (λ other.
      let its = among-steps rest (ap (λ b. b || is_among (flat_map (λ step. names_of root (owned_by run deck step)) rest) name) (sym other) ∙ sym (list_any-append (same_name name) (names_of root (owned_by run deck first)) (flat_map (λ step. names_of root (owned_by run deck step)) rest)) ∙ among) in
      (its.0, λ q passes. or_right (q first) _ (its.1 q passes), its.2))

  -- a name that the deck names has such a DD
  pub deck-named : is_among (deck_names root run deck) name ≡ true → IsNameOf deck root run name
  deck-named among =
      let step = among-steps deck.steps among in
      let dd = dd-named root (owned_by run deck step.0) step.0.dds name step.2 in
      record { step = step.0; dd = dd.0; in_deck = step.1; in_step = dd.1; named = dd.2 }

-- ---- the use of it

-- the name of a DD with one qualifier in the place of all others is there where it is with others
stand-in-some : (origin : Origin) (root owner step dd name own : Name) → origin_name origin root owner step dd ≡ Some name → (its : Name) × (origin_name origin own own step dd ≡ Some its)
stand-in-some (InStream cards) root owner step dd name own e = absurd (some-not-none name (sym e))
stand-in-some (Named other) root owner step dd name own e = (other, refl)
stand-in-some (Temporary other) root owner step dd name own e = (_, refl)
stand-in-some Unnamed root owner step dd name own e = (_, refl)
stand-in-some Sysout root owner step dd name own e = (_, refl)
stand-in-some Dummy root owner step dd name own e = absurd (some-not-none name (sym e))

module _ (run : ℕ) (deck : Job) where
  -- the uses of a deck with RESTART, by the qualifier of its own names
  steps-used : (restart : Bool) (own : Name) (q : Use → Bool) (step : Step) (dd : Dd) (name : Name) → ((p : Step → Bool) → p step ≡ true → list_any p deck.steps ≡ true) → ((p : Dd → Bool) → p dd ≡ true → list_any p step.dds ≡ true) → origin_name dd.origin own own step.name dd.name ≡ Some name → q (use_as restart dd name) ≡ true → list_any q (flat_map (uses_in_step restart own) deck.steps) ≡ true
  steps-used restart own q step dd name in_deck in_step named passes =
      sym (any-flat (uses_in_step restart own) q deck.steps)
      ∙ in_deck (λ (one : Step). list_any q (uses_in_step restart own one))
      (any-of (use_in restart own step.name) q step.dds dd in_step (ap (option_map (use_as restart dd)) named) passes)
    where
      any-flat : (f : Step → List Use) (q : Use → Bool) (steps : List Step) → list_any (λ (one : Step). list_any q (f one)) steps ≡ list_any q (flat_map f steps)
      any-flat f q [] = refl
      any-flat f q (first ∷ rest) = ap (λ b. list_any q (f first) || b) (any-flat f q rest) ∙ sym (list_any-append q (f first) (flat_map f rest))

      any-of : (f : Dd → Option Use) (q : Use → Bool) (dds : List Dd) (dd : Dd) → ((p : Dd → Bool) → p dd ≡ true → list_any p dds ≡ true) → {used : Use} → f dd ≡ Some used → q used ≡ true → list_any q (filter_map f dds) ≡ true
      any-of f q dds dd stands {used} is passes =
          sym (any-map f q dds) ∙ stands (λ (one : Dd). passes_of q (f one)) (ap (passes_of q) is ∙ passes)
        where
          passes_of : (Use → Bool) → Option Use → Bool
          passes_of q None = false
          passes_of q (Some used) = q used

          any-map : (f : Dd → Option Use) (q : Use → Bool) (dds : List Dd) → list_any (λ (one : Dd). passes_of q (f one)) dds ≡ list_any q (filter_map f dds)
          any-map f q [] = refl
          any-map f q (first ∷ rest) = by (f first) (any-map f q rest)
            where
              by : (used : Option Use) → list_any (λ (one : Dd). passes_of q (f one)) rest ≡ list_any q (filter_map f rest) → (passes_of q used || list_any (λ (one : Dd). passes_of q (f one)) rest) ≡ list_any q (cons_option used (filter_map f rest))
              by None e = e
              by (Some used) e = ap (λ b. q used || b) e

  -- the uses of a deck, by its RESTART
  abbrev uses_by : Option Restart → List Use
  uses_by restart =
      flat_map (uses_in_step (is_some restart) (cond (is_some restart) deck.name (run_name run))) deck.steps ++ option_to_list (option_and_then (use_of_syschk (is_some restart)) deck.syschk)

  of-itself : (exclusive : Bool) (name : Name) → (same_name name name && exclusive) ≡ exclusive
  of-itself exclusive name = ap (λ b. b && exclusive) (name-equivalence.refl name)

  -- each name of a deck with RESTART has an exclusive use, with the job's name in the place of its qualifier
  pub stand-in-exclusive : (restart : Restart) (step : Step) (dd : Dd) (name : Name) → deck.restart ≡ Some restart → ((p : Step → Bool) → p step ≡ true → list_any p deck.steps ≡ true) → ((p : Dd → Bool) → p dd ≡ true → list_any p step.dds ≡ true) → origin_name dd.origin deck.name deck.name step.name dd.name ≡ Some name → list_any (is_exclusive_of name) (uses_of run deck) ≡ true
  unfolding uses_of
  stand-in-exclusive restart step dd name has in_deck in_step named =
      (merged-is (uses_of_dds run deck)).exclusive name
      ∙ ap (λ restart. list_any (is_exclusive_of name) (uses_by restart)) has
      ∙ list_any-append (is_exclusive_of name) (flat_map (uses_in_step true deck.name) deck.steps) (option_to_list (option_and_then (use_of_syschk true) deck.syschk))
      ∙ or_left _ (list_any (is_exclusive_of name) (option_to_list (option_and_then (use_of_syschk true) deck.syschk)))
      (steps-used true deck.name (is_exclusive_of name) step dd name in_deck in_step named (of-itself true name))

  -- and each of one without RESTART a use of its own name
  pub own-used : (step : Step) (dd : Dd) (name : Name) → deck.restart ≡ None → ((p : Step → Bool) → p step ≡ true → list_any p deck.steps ≡ true) → ((p : Dd → Bool) → p dd ≡ true → list_any p step.dds ≡ true) → origin_name dd.origin (run_name run) (run_name run) step.name dd.name ≡ Some name → list_any (is_of name) (uses_of run deck) ≡ true
  unfolding uses_of
  own-used step dd name plain in_deck in_step named =
      (merged-is (uses_of_dds run deck)).same name
      ∙ ap (λ restart. list_any (is_of name) (uses_by restart)) plain
      ∙ list_any-append (is_of name) (flat_map (uses_in_step false (run_name run)) deck.steps) (option_to_list (option_and_then (use_of_syschk false) deck.syschk))
      ∙ or_left _ (list_any (is_of name) (option_to_list (option_and_then (use_of_syschk false) deck.syschk)))
      (steps-used false (run_name run) (is_of name) step dd name in_deck in_step named (name-equivalence.refl name))

exclusive-is : (name : Name) (uses : List Use) → list_any (is_exclusive_of name) uses ≡ true → list_any (is_of name) uses ≡ true
exclusive-is name [] some = absurd (false≢true some)
exclusive-is name (first ∷ rest) some =
    bool-cases (is_of name first)
    (λ here. or_left (is_of name first) (list_any (is_of name) rest) here)
    (λ other. or_right (is_of name first) _ (exclusive-is name rest (ap (λ b. b && first.exclusive || list_any (is_exclusive_of name) rest) (sym other) ∙ some)))

hold-at : (name : Name) (first second : List Use) → list_any (is_exclusive_of name) first ≡ true → list_any (is_of name) second ≡ true → holds first second ≡ true
hold-at name first second mine theirs =
    (holds-names first second).1 (
      name,
      ap (λ b. b && list_any (is_of name) second && (list_any (is_exclusive_of name) first || list_any (is_exclusive_of name) second)) (exclusive-is name first mine)
          ∙ ap (λ b. b && (list_any (is_exclusive_of name) first || list_any (is_exclusive_of name) second)) theirs
          ∙ ap (λ b. b || list_any (is_exclusive_of name) second) mine,
    )

-- ---- two runs

-- A run with RESTART and another run that have a name in common hold against each other. Where the other one has RESTART too, both are of
-- the same job wherever they have the same root, or the same owner; else its number is neither.
module _ (is_own : Name → Bool) (tells : TellsApart is_own) (run number : ℕ) (deck fellow : Job) (restart : Restart) (has : deck.restart ≡ Some restart) (root owner root2 owner2 : ℕ) (name : Name)
    (mine : IsNameOf deck root owner name) (theirs : IsNameOf fellow root2 owner2 name) (one : IsWritten is_own mine.dd.origin) (other : IsWritten is_own theirs.dd.origin) where
  common : InCommon mine.dd.origin theirs.dd.origin (run_name root) (run_name owner) mine.step.name mine.dd.name (run_name root2) (run_name owner2) theirs.step.name theirs.dd.name name
  common =
      in-common is_own tells (run_name root) (run_name owner) mine.step.name mine.dd.name (run_name root2) (run_name owner2) theirs.step.name theirs.dd.name name (run_names-long root root2) (run_names-long owner owner2)
      mine.dd.origin theirs.dd.origin one other mine.named theirs.named

  written-hold : mine.dd.origin ≡ Named name → theirs.dd.origin ≡ Named name → (theirs_used : origin_name theirs.dd.origin (run_name root2) (run_name owner2) theirs.step.name theirs.dd.name ≡ Some name → list_any (is_of name) (uses_of number fellow) ≡ true) → holds (uses_of run deck) (uses_of number fellow) ≡ true
  written-hold is also used =
      hold-at name (uses_of run deck) (uses_of number fellow)
      (stand-in-exclusive run deck restart mine.step mine.dd name has mine.in_deck mine.in_step (ap (λ origin. origin_name origin deck.name deck.name mine.step.name mine.dd.name) is))
      (used theirs.named)

  -- both with RESTART
  pub restarts-hold : (restart2 : Restart) → fellow.restart ≡ Some restart2 → (run_name root ≡ run_name root2 → deck.name ≡ fellow.name) → (run_name owner ≡ run_name owner2 → deck.name ≡ fellow.name) → holds (uses_of run deck) (uses_of number fellow) ≡ true
  restarts-hold restart2 also roots owners = by common
    where
      stands : (same : deck.name ≡ fellow.name) → ((job : Name) → origin_name mine.dd.origin job job mine.step.name mine.dd.name ≡ origin_name theirs.dd.origin job job theirs.step.name theirs.dd.name) → holds (uses_of run deck) (uses_of number fellow) ≡ true
      stands same alike =
          let its = stand-in-some mine.dd.origin (run_name root) (run_name owner) mine.step.name mine.dd.name name deck.name mine.named in
          hold-at its.0 (uses_of run deck) (uses_of number fellow)
          (stand-in-exclusive run deck restart mine.step mine.dd its.0 has mine.in_deck mine.in_step its.1)
          (exclusive-is its.0 (uses_of number fellow)
          (stand-in-exclusive number fellow restart2 theirs.step theirs.dd its.0 also theirs.in_deck theirs.in_step
          (ap (λ job. origin_name theirs.dd.origin job job theirs.step.name theirs.dd.name) (sym same) ∙ sym (alike deck.name) ∙ its.1)))

      by : InCommon mine.dd.origin theirs.dd.origin (run_name root) (run_name owner) mine.step.name mine.dd.name (run_name root2) (run_name owner2) theirs.step.name theirs.dd.name name → holds (uses_of run deck) (uses_of number fellow) ≡ true
      by (written is too) =
          written-hold is too (λ named.
          exclusive-is name (uses_of number fellow)
          (stand-in-exclusive number fellow restart2 theirs.step theirs.dd name also theirs.in_deck theirs.in_step (ap (λ origin. origin_name origin fellow.name fellow.name theirs.step.name theirs.dd.name) too)))
      by (by_root same alike) = stands (roots same) alike
      by (by_owner same alike) = stands (owners same) alike

  -- the other one without
  pub plain-holds : fellow.restart ≡ None → root2 ≡ number → owner2 ≡ number → (run_name root ≡ run_name number → ⊥) → (run_name owner ≡ run_name number → ⊥) → holds (uses_of run deck) (uses_of number fellow) ≡ true
  plain-holds plain rooted owned not_root not_owner = by common
    where
      by : InCommon mine.dd.origin theirs.dd.origin (run_name root) (run_name owner) mine.step.name mine.dd.name (run_name root2) (run_name owner2) theirs.step.name theirs.dd.name name → holds (uses_of run deck) (uses_of number fellow) ≡ true
      by (written is too) =
          written-hold is too (λ named. own-used number fellow theirs.step theirs.dd name plain theirs.in_deck theirs.in_step (ap (λ origin. origin_name origin (run_name number) (run_name number) theirs.step.name theirs.dd.name) too))
      by (by_root same alike) = absurd (not_root (same ∙ ap run_name rooted))
      by (by_owner same alike) = absurd (not_owner (same ∙ ap run_name owned))
