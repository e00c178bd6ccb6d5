-- Names in two runs: what holds at a name, and what doesn't since both share it.
use Rattle.std.proofs.Common.{◌≡◌, ◌↔◌, ℕ, Bool, true, false, not, ◌&&◌, ◌||◌, List, [], ◌∷◌, ◌++◌, flat_map, refl, ap, sym, ◌∙◌, cond, Option, None, Some}
use Rattle.std.specs.List.{list_any, list_all, filter_map, cons_option}
use Rattle.std.specs.Option.{is_some, option_map, option_to_list, option_and_then}
use Rattle.std.proofs.lemmas.List.Folds.{list_any-append}
use Rattle.std.proofs.lemmas.Bool.{and_from, or_left, or_right}
use Rattle.ckr_base.proofs.Bools.{and-false, and-first, and-second}
use Rattle.ckr_jcl.specs.declared.deck.Dd.{Dd}
use Rattle.ckr_jcl.specs.declared.deck.Job.{Job}
use Rattle.ckr_jcl.specs.declared.deck.Restart.{Restart}
use Rattle.ckr_jcl.specs.declared.deck.Step.{Step}
use Rattle.ckr_library.specs.declared.uses.Use.{Use}
use Rattle.ckr_library.specs.NameMaps.{Name, same_name}
use Rattle.ckr_library.proofs.Named.{name-alike, name-equivalence}
use Rattle.ckr_uses.specs.SetNames.{name_under, run_name}
use Rattle.ckr_uses.specs.Uses.{Shares, collides, holds, holds_at, is_exclusive_of, is_of, is_shared, leaves, leaves_in, leaves_in_step, merged, use_among, use_as, use_in, use_of_syschk, uses_in_step, uses_of, uses_of_dds}
use Rattle.ckr_uses.proofs.Conflicts.{exclusive-respects, merged-any, some_of}

-- ---- at a name

either : (a b : Bool) → (a || b) ≡ true → (c : Bool) → (a ≡ true → c ≡ true) → (b ≡ true → c ≡ true) → c ≡ true
either true b e c f g = f refl
either false b e c f g = g e

module _ (first second : List Use) where
  -- the name of two uses that collide
  named : (mine other : Use) → ((q : Use → Bool) → q mine ≡ true → list_any q first ≡ true) → ((q : Use → Bool) → q other ≡ true → list_any q second ≡ true) → collides mine other ≡ true → holds_at mine.name first second ≡ true
  named mine other stands there e =
      let same = and-first (same_name mine.name other.name) (mine.exclusive || other.exclusive) e in
      and_from (list_any (is_of mine.name) first && list_any (is_of mine.name) second) (list_any (is_exclusive_of mine.name) first || list_any (is_exclusive_of mine.name) second)
      (and_from (list_any (is_of mine.name) first) (list_any (is_of mine.name) second) (stands (is_of mine.name) (name-equivalence.refl mine.name)) (there (is_of mine.name) same))
      (
      either mine.exclusive other.exclusive (and-second (same_name mine.name other.name) (mine.exclusive || other.exclusive) e) (list_any (is_exclusive_of mine.name) first || list_any (is_exclusive_of mine.name) second)
      (λ is. or_left (list_any (is_exclusive_of mine.name) first) (list_any (is_exclusive_of mine.name) second) (stands (is_exclusive_of mine.name) (and_from (same_name mine.name mine.name) mine.exclusive (name-equivalence.refl mine.name) is)))
      (λ is. or_right (list_any (is_exclusive_of mine.name) first) (list_any (is_exclusive_of mine.name) second) (there (is_exclusive_of mine.name) (and_from (same_name mine.name other.name) other.exclusive same is)))
      )

  to_name : holds first second ≡ true → (name : Name) × (holds_at name first second ≡ true)
  to_name e =
      let mine = some_of (λ used. list_any (collides used) second) first e in
      let other = some_of (collides mine.0) second mine.2 in
      (mine.0.name, named mine.0 other.0 mine.1 other.1 other.2)

  meet : (name : Name) (mine other : Use) → ((q : Use → Bool) → q mine ≡ true → list_any q first ≡ true) → ((q : Use → Bool) → q other ≡ true → list_any q second ≡ true) → is_of name mine ≡ true → is_of name other ≡ true → (mine.exclusive || other.exclusive) ≡ true → holds first second ≡ true
  meet name mine other stands there one two exclusive =
      stands (λ used. list_any (collides used) second) (there (collides mine) (and_from (same_name mine.name other.name) (mine.exclusive || other.exclusive) (name-alike name mine.name other.name one two) exclusive))

  from_name : (name : Name) → holds_at name first second ≡ true → holds first second ≡ true
  from_name name e =
      let there = and-first (list_any (is_of name) first && list_any (is_of name) second) (list_any (is_exclusive_of name) first || list_any (is_exclusive_of name) second) e in
      let mine = some_of (is_of name) first (and-first (list_any (is_of name) first) (list_any (is_of name) second) there) in
      let other = some_of (is_of name) second (and-second (list_any (is_of name) first) (list_any (is_of name) second) there) in
      either (list_any (is_exclusive_of name) first) (list_any (is_exclusive_of name) second) (and-second (list_any (is_of name) first && list_any (is_of name) second) (list_any (is_exclusive_of name) first || list_any (is_exclusive_of name) second) e) (holds first second)
      (λ is.
      let sole = some_of (is_exclusive_of name) first is in
      meet name sole.0 other.0 sole.1 other.1 (and-first (same_name name sole.0.name) sole.0.exclusive sole.2) other.2 (or_left sole.0.exclusive other.0.exclusive (and-second (same_name name sole.0.name) sole.0.exclusive sole.2)))
      (λ is.
      let sole = some_of (is_exclusive_of name) second is in
      meet name mine.0 sole.0 mine.1 sole.1 mine.2 (and-first (same_name name sole.0.name) sole.0.exclusive sole.2) (or_right mine.0.exclusive sole.0.exclusive (and-second (same_name name sole.0.name) sole.0.exclusive sole.2)))

-- two runs hold against each other exactly where they do at some name
pub holds-names : (first second : List Use) → (holds first second ≡ true) ↔ ((name : Name) × (holds_at name first second ≡ true))
holds-names first second = (to_name first second, λ found. from_name first second found.0 found.1)

-- ---- shared names

-- a merged use is exclusive where one of its uses is
pub merged-exclusive : (uses : List Use) (name : Name) → list_any (is_exclusive_of name) (merged uses) ≡ true → list_any (is_exclusive_of name) uses ≡ true
merged-exclusive uses name e =
    let mine = some_of sole uses (sym (merged-any uses (is_exclusive_of name) respects) ∙ e) in
    let other = some_of (is_exclusive_of mine.0.name) uses (and-second (same_name name mine.0.name) (list_any (is_exclusive_of mine.0.name) uses) mine.2) in
    other.1 (is_exclusive_of name) (
    and_from (same_name name other.0.name) other.0.exclusive
    (name-alike mine.0.name name other.0.name (sym (name-equivalence.symm name mine.0.name) ∙ and-first (same_name name mine.0.name) (list_any (is_exclusive_of mine.0.name) uses) mine.2) (and-first (same_name mine.0.name other.0.name) other.0.exclusive other.2))
    (and-second (same_name mine.0.name other.0.name) other.0.exclusive other.2)
    )
  where
    sole : Use → Bool
    sole used = is_exclusive_of name (use_among uses used.name)

    respects : (one other : Name) → same_name one other ≡ true → is_exclusive_of name (use_among uses one) ≡ is_exclusive_of name (use_among uses other)
    respects one other e =
        ap (λ b. b && list_any (is_exclusive_of one) uses) (name-equivalence.symm name one ∙ name-equivalence.congr one other name e ∙ sym (name-equivalence.symm name other))
        ∙ ap (λ b. same_name name other && b) (exclusive-respects uses one other e)

not_exclusive : (same shared : Bool) → (not same || shared) ≡ true → (same && not shared) ≡ false
not_exclusive true true e = refl
not_exclusive true false e = sym e
not_exclusive false shared e = refl

dd-shares : (name : Name) (dd : Dd) (found : Option Name) (uses : List Use) → leaves name found (is_shared dd) ≡ true → list_any (is_exclusive_of name) uses ≡ false → list_any (is_exclusive_of name) (cons_option (option_map (use_as false dd) found) uses) ≡ false
dd-shares name dd None uses e f = f
dd-shares name dd (Some other) uses e f = ap (λ b. b || list_any (is_exclusive_of name) uses) (not_exclusive (same_name name other) (is_shared dd) e) ∙ f

dds-share : (name own step : Name) (dds : List Dd) → list_all (leaves_in name own step) dds ≡ true → list_any (is_exclusive_of name) (filter_map (use_in false own step) dds) ≡ false
dds-share name own step [] e = refl
dds-share name own step (dd ∷ dds) e =
    dd-shares name dd (name_under dd own own step) (filter_map (use_in false own step) dds) (and-first (leaves_in name own step dd) (list_all (leaves_in name own step) dds) e)
    (dds-share name own step dds (and-second (leaves_in name own step dd) (list_all (leaves_in name own step) dds) e))

steps-share : (name own : Name) (steps : List Step) → list_all (leaves_in_step name own) steps ≡ true → list_any (is_exclusive_of name) (flat_map (uses_in_step false own) steps) ≡ false
steps-share name own [] e = refl
steps-share name own (step ∷ steps) e =
    list_any-append (is_exclusive_of name) (uses_in_step false own step) (flat_map (uses_in_step false own) steps)
    ∙ ap (λ b. b || list_any (is_exclusive_of name) (flat_map (uses_in_step false own) steps)) (dds-share name own step.name step.dds (and-first (leaves_in_step name own step) (list_all (leaves_in_step name own) steps) e))
    ∙ steps-share name own steps (and-second (leaves_in_step name own step) (list_all (leaves_in_step name own) steps) e)

-- the uses of a deck, by its RESTART and its SYSCHK
abbrev uses_with : ℕ → Job → Option Restart → Option Dd → List Use
uses_with run job restart syschk =
    flat_map (uses_in_step (is_some restart) (cond (is_some restart) job.name (run_name run))) job.steps ++ option_to_list (option_and_then (use_of_syschk (is_some restart)) syschk)

deck-shares : (name : Name) (run : ℕ) (job : Job) → Shares name run job → list_any (is_exclusive_of name) (uses_of_dds run job) ≡ false
deck-shares name run job shares =
    ap (λ restart. list_any (is_exclusive_of name) (uses_with run job restart job.syschk)) shares.plain
    ∙ ap (λ syschk. list_any (is_exclusive_of name) (uses_with run job None syschk)) shares.alone
    ∙ list_any-append (is_exclusive_of name) (flat_map (uses_in_step false (run_name run)) job.steps) []
    ∙ ap (λ b. b || false) (steps-share name (run_name run) job.steps shares.shared)

false_by : (a b : Bool) → (a ≡ true → b ≡ true) → b ≡ false → a ≡ false
false_by true b f e = sym (f refl) ∙ e
false_by false b f e = refl

uses-share : (name : Name) (run : ℕ) (job : Job) → Shares name run job → list_any (is_exclusive_of name) (uses_of run job) ≡ false
unfolding uses_of
uses-share name run job shares =
    false_by (list_any (is_exclusive_of name) (merged (uses_of_dds run job))) (list_any (is_exclusive_of name) (uses_of_dds run job)) (merged-exclusive (uses_of_dds run job) name) (deck-shares name run job shares)

nothing : (a b x y : Bool) → x ≡ false → y ≡ false → (a && b && (x || y)) ≡ false
nothing a b x y e f = ap (λ x. a && b && (x || y)) e ∙ ap (λ y. a && b && y) f ∙ and-false (a && b)

-- a name that two runs share doesn't hold
pub shared-holds : (name : Name) (one two : ℕ) (first second : Job) → Shares name one first → Shares name two second → holds_at name (uses_of one first) (uses_of two second) ≡ false
shared-holds name one two first second mine other =
    nothing (list_any (is_of name) (uses_of one first)) (list_any (is_of name) (uses_of two second)) (list_any (is_exclusive_of name) (uses_of one first)) (list_any (is_exclusive_of name) (uses_of two second))
    (uses-share name one first mine) (uses-share name two second other)
