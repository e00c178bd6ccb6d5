-- The steps of an orderly deck are formed whichever run is the root and whichever one owns them: whether two of their names are the same
-- doesn't depend on the qualifiers that these runs give.
use Rattle.std.proofs.Common.{◌≡◌, ℕ, Bool, true, false, not, ◌&&◌, ◌||◌, List, [], ◌∷◌, map, refl, ap, sym, ◌∙◌, Option, Some, None, append_assoc}
use Rattle.std.specs.Prelude.{bytes_eq, codes, nat_le}
use Rattle.std.specs.List.{AllByRecursion, cons_option, filter_map, list_all, list_any}
use Rattle.std.specs.Option.{is_some, option_and_then, option_map}
use Rattle.std.proofs.lemmas.Bool.{false≢true, not-true}
use Rattle.std.proofs.lemmas.List.{append_cancel_left}
use Rattle.std.proofs.lemmas.List.Folds.{list_all-map}
use Rattle.ckr_base.proofs.Bools.{and-first, and-second, bool-cases, bool-same}
use Rattle.ckr_jcl.specs.declared.deck.After.{After}
use Rattle.ckr_jcl.specs.declared.deck.After.TheVariants.{Keep}
use Rattle.ckr_jcl.specs.declared.deck.Dd.{Dd}
use Rattle.ckr_jcl.specs.declared.deck.Job.{Job}
use Rattle.ckr_jcl.specs.declared.deck.Origin.{Origin}
use Rattle.ckr_jcl.specs.declared.deck.Origin.TheVariants.{InStream, Named as NamedOrigin, Temporary, Unnamed, Sysout, Dummy}
use Rattle.ckr_jcl.specs.declared.deck.Status.{Status}
use Rattle.ckr_jcl.specs.declared.deck.Status.TheVariants.{New}
use Rattle.ckr_jcl.specs.declared.deck.Step.{Step}
use Rattle.ckr_jcl.specs.Programs.{names_updated}
use Rattle.ckr_jcl.specs.Qualifiers.{is_kept_name}
use Rattle.ckr_jcl.specs.Text.{before}
use Rattle.ckr_library.specs.NameMaps.{Name, same_name}
use Rattle.ckr_library.proofs.Named.{name-itself, name-same}
use Rattle.ckr_uses.specs.SetNames.{name_under, origin_name, qualified, run_name}
use Rattle.ckr_uses.specs.Uses.{are_distinct}
use Rattle.ckr_meaning.specs.EffectiveJob.{OwnedStep, names_of, owned_by, plain_job}
use Rattle.ckr_meaning.specs.StepRun.{dd_named}
use Rattle.ckr_points.specs.Payload.{has_role, has_set, is_formed, is_formed_step, is_keep, is_new, is_orderly, is_orderly_dd}

-- ---- names without the qualifiers of runs

-- a name as it is written, or what stands behind the qualifiers of the root or of the owner
data Part : Type 0 where
  written : Name → Part
  temporary : Name → Part
  sysout : Name → Part

abbrev part_of : Origin → Name → Name → Option Part
part_of (InStream cards) step dd = None
part_of (NamedOrigin name) step dd = Some (written name)
part_of (Temporary name) step dd = Some (temporary name)
part_of Unnamed step dd = Some (temporary (qualified step dd))
part_of Sysout step dd = Some (sysout (qualified step dd))
part_of Dummy step dd = None

abbrev spelled : Name → Name → Part → Name
spelled root owner (written name) = name
spelled root owner (temporary name) = qualified (qualified (codes "SYSTEMP") root) name
spelled root owner (sysout name) = qualified (qualified (codes "SYSOUT") owner) name

origin-spelled : (origin : Origin) (root owner step dd : Name) → origin_name origin root owner step dd ≡ option_map (spelled root owner) (part_of origin step dd)
origin-spelled (InStream cards) root owner step dd = refl
origin-spelled (NamedOrigin name) root owner step dd = refl
origin-spelled (Temporary name) root owner step dd = refl
origin-spelled Unnamed root owner step dd = ap Some (append_assoc (qualified (codes "SYSTEMP") root) (46 ∷ step) (46 ∷ dd))
origin-spelled Sysout root owner step dd = ap Some (append_assoc (qualified (codes "SYSOUT") owner) (46 ∷ step) (46 ∷ dd))
origin-spelled Dummy root owner step dd = refl

abbrev same_part : Part → Part → Bool
same_part (written one) (written other) = same_name one other
same_part (temporary one) (temporary other) = same_name one other
same_part (sysout one) (sysout other) = same_name one other
same_part _ _ = false

abbrev is_orderly_part : Part → Bool
is_orderly_part (written name) = not (is_kept_name name)
is_orderly_part _ = true

-- ---- names that differ

apart : (one other : Name) → (one ≡ other → ⊥) → same_name one other ≡ false
apart one other differ = bool-cases (same_name one other) (λ same. absurd (differ (name-same one other same))) (λ e. e)

behind-same : (front one other : Name) → same_name (qualified front one) (qualified front other) ≡ same_name one other
behind-same front one other =
    bool-same (same_name (qualified front one) (qualified front other)) (same_name one other)
    (λ same. ap (same_name one) (sym (tails (append_cancel_left front (46 ∷ one) (46 ∷ other) (name-same _ _ same)))) ∙ name-itself one)
    (λ same. ap (λ n. same_name (qualified front one) (qualified front n)) (sym (name-same one other same)) ∙ name-itself (qualified front one))
  where
    tails : {xs ys : List ℕ} → 46 ∷ xs ≡ 46 ∷ ys → xs ≡ ys
    tails e = cc

written-apart : (name other : Name) → not (is_kept_name name) ≡ true → is_kept_name other ≡ true → name ≡ other → ⊥
written-apart name other free kept is = false≢true (sym (not-true (is_kept_name name) free) ∙ (ap is_kept_name is ∙ kept))

kept-temporary : (root name : Name) → is_kept_name (qualified (qualified (codes "SYSTEMP") root) name) ≡ true
unfolding is_kept_name
kept-temporary root name = refl

kept-sysout : (owner name : Name) → is_kept_name (qualified (qualified (codes "SYSOUT") owner) name) ≡ true
unfolding is_kept_name
kept-sysout owner name = refl

qualifiers-apart : (root owner one other : Name) → qualified (qualified (codes "SYSTEMP") root) one ≡ qualified (qualified (codes "SYSOUT") owner) other → ⊥
qualifiers-apart root owner one other is = false≢true (sym (ap (λ (n : Name). bytes_eq (codes "SYSTEMP") (before 46 n)) is))

-- whether two names are the same doesn't depend on the qualifiers
part-same : (one other : Part) (root owner : Name) → is_orderly_part one ≡ true → is_orderly_part other ≡ true → same_name (spelled root owner one) (spelled root owner other) ≡ same_part one other
part-same (written one) (written other) root owner free also = refl
part-same (written one) (temporary other) root owner free also = apart _ _ (written-apart one _ free (kept-temporary root other))
part-same (written one) (sysout other) root owner free also = apart _ _ (written-apart one _ free (kept-sysout owner other))
part-same (temporary one) (written other) root owner free also = apart _ _ (λ is. written-apart other _ also (kept-temporary root one) (sym is))
part-same (temporary one) (temporary other) root owner free also = behind-same (qualified (codes "SYSTEMP") root) one other
part-same (temporary one) (sysout other) root owner free also = apart _ _ (qualifiers-apart root owner one other)
part-same (sysout one) (written other) root owner free also = apart _ _ (λ is. written-apart other _ also (kept-sysout owner one) (sym is))
part-same (sysout one) (temporary other) root owner free also = apart _ _ (λ is. qualifiers-apart root owner other one (sym is))
part-same (sysout one) (sysout other) root owner free also = behind-same (qualified (codes "SYSOUT") owner) one other

-- ---- the names of a step

abbrev parts_of : Name → List Dd → List Part
parts_of step dds = filter_map (λ dd. part_of dd.origin step dd.name) dds

abbrev AreOrderlyParts : List Part → Type 0
AreOrderlyParts parts = AllByRecursion (λ part. is_orderly_part part ≡ true) parts

abbrev are_distinct_parts : List Part → Bool
are_distinct_parts [] = true
are_distinct_parts (part ∷ parts) = not (list_any (same_part part) parts) && are_distinct_parts parts

names-spelled : (root owner step : Name) (dds : List Dd) → filter_map (λ dd. name_under dd root owner step) dds ≡ map (spelled root owner) (parts_of step dds)
names-spelled root owner step [] = refl
names-spelled root owner step (dd ∷ dds) =
    ap (λ o. cons_option o (filter_map (λ dd. name_under dd root owner step) dds)) (origin-spelled dd.origin root owner step dd.name)
    ∙ ap (cons_option (option_map (spelled root owner) (part_of dd.origin step dd.name))) (names-spelled root owner step dds)
    ∙ by (part_of dd.origin step dd.name)
  where
    by : (part : Option Part) → cons_option (option_map (spelled root owner) part) (map (spelled root owner) (parts_of step dds)) ≡ map (spelled root owner) (cons_option part (parts_of step dds))
    by None = refl
    by (Some part) = refl

parts-orderly : (step : Name) (dds : List Dd) → list_all is_orderly_dd dds ≡ true → AreOrderlyParts (parts_of step dds)
parts-orderly step [] orderly = tt
parts-orderly step (dd ∷ dds) orderly =
    by dd.origin (and-first (is_orderly_dd dd) _ orderly) (parts-orderly step dds (and-second (is_orderly_dd dd) _ orderly))
  where
    by : (origin : Origin) → is_orderly_dd (record dd { origin = origin }) ≡ true → AreOrderlyParts (parts_of step dds) → AreOrderlyParts (cons_option (part_of origin step dd.name) (parts_of step dds))
    by (InStream cards) one rest = rest
    by (NamedOrigin name) one rest = (one, rest)
    by (Temporary name) one rest = (refl, rest)
    by Unnamed one rest = (refl, rest)
    by Sysout one rest = (refl, rest)
    by Dummy one rest = rest

any-same : (part : Part) (parts : List Part) (root owner : Name) → is_orderly_part part ≡ true → AreOrderlyParts parts → list_any (same_name (spelled root owner part)) (map (spelled root owner) parts) ≡ list_any (same_part part) parts
any-same part [] root owner one each = refl
any-same part (other ∷ parts) root owner one each =
    ap (λ b. b || list_any (same_name (spelled root owner part)) (map (spelled root owner) parts)) (part-same part other root owner one each.0)
    ∙ ap (λ b. same_part part other || b) (any-same part parts root owner one each.1)

distinct-same : (parts : List Part) (root owner : Name) → AreOrderlyParts parts → are_distinct (map (spelled root owner) parts) ≡ are_distinct_parts parts
distinct-same [] root owner each = refl
distinct-same (part ∷ parts) root owner each =
    ap (λ b. not b && are_distinct (map (spelled root owner) parts)) (any-same part parts root owner each.0 each.1)
    ∙ ap (λ b. not (list_any (same_part part) parts) && b) (distinct-same parts root owner each.1)

names-distinct : (root owner : ℕ) (deck : Job) (step : Step) → list_all is_orderly_dd step.dds ≡ true → are_distinct (names_of root (owned_by owner deck step)) ≡ are_distinct_parts (parts_of step.name step.dds)
names-distinct root owner deck step orderly =
    ap are_distinct (names-spelled (run_name root) (run_name owner) step.name step.dds)
    ∙ distinct-same (parts_of step.name step.dds) (run_name root) (run_name owner) (parts-orderly step.name step.dds orderly)

-- ---- a step

has_part : Step → Option Dd → Bool
has_part step dd = is_some (option_and_then (λ dd. part_of dd.origin step.name dd.name) dd)

set-part : (root owner : ℕ) (deck : Job) (step : Step) (name : Name) → has_set root (owned_by owner deck step) name ≡ has_part step (dd_named (owned_by owner deck step) name)
unfolding has_part
set-part root owner deck step name = by (dd_named (owned_by owner deck step) name)
  where
    some : (part : Option Part) → is_some (option_map (spelled (run_name root) (run_name owner)) part) ≡ is_some part
    some None = refl
    some (Some part) = refl

    by : (dd : Option Dd) → is_some (option_and_then (λ (dd : Dd). origin_name dd.origin (run_name root) (run_name owner) step.name dd.name) dd) ≡ is_some (option_and_then (λ (dd : Dd). part_of dd.origin step.name dd.name) dd)
    by None = refl
    by (Some dd) = ap is_some (origin-spelled dd.origin (run_name root) (run_name owner) step.name dd.name) ∙ some (part_of dd.origin step.name dd.name)

sets-same : (root owner number : ℕ) (deck : Job) (step : Step) (names : List Name) → list_all (has_set root (owned_by owner deck step)) names ≡ list_all (has_set number (owned_by number deck step)) names
sets-same root owner number deck step [] = refl
sets-same root owner number deck step (name ∷ names) =
    ap (λ b. b && list_all (has_set root (owned_by owner deck step)) names) (set-part root owner deck step name ∙ sym (set-part number number deck step name))
    ∙ ap (λ b. has_set number (owned_by number deck step) name && b) (sets-same root owner number deck step names)

-- a step is formed by each root and owner, or by none
pub formed-same : (root owner number : ℕ) (deck : Job) (step : Step) → list_all is_orderly_dd step.dds ≡ true → is_formed_step root (owned_by owner deck step) ≡ is_formed_step number (owned_by number deck step)
formed-same root owner number deck step orderly =
    ap (λ b. b && list_all (has_role step.program) step.dds && list_all (has_set root (owned_by owner deck step)) (names_updated step.program))
    (names-distinct root owner deck step orderly ∙ sym (names-distinct number number deck step orderly))
    ∙ ap (λ b. are_distinct (names_of number (owned_by number deck step)) && list_all (has_role step.program) step.dds && b) (sets-same root owner number deck step (names_updated step.program))

-- ---- a deck

abbrev IsFormedAnywhere : Job → Step → Type 0
IsFormedAnywhere deck step = (root owner : ℕ) → is_formed_step root (owned_by owner deck step) ≡ true

-- steps as a run owns them have the DDs that they have in the deck
pub owned-orderly : (run : ℕ) (deck : Job) (steps : List Step) → list_all (λ (step : Step). list_all is_orderly_dd step.dds) steps ≡ true → list_all (λ (owned : OwnedStep). list_all is_orderly_dd owned.step.dds) (map (owned_by run deck) steps) ≡ true
owned-orderly run deck steps each = list_all-map (λ (owned : OwnedStep). list_all is_orderly_dd owned.step.dds) (owned_by run deck) steps ∙ each

module _ (number : ℕ) (deck : Job) (orderly : is_orderly number deck ≡ true) where
  pub orderly-number : nat_le number 9999999 ≡ true
  orderly-number = and-first (nat_le number 9999999) _ (and-first (nat_le number 9999999 && is_formed (plain_job number deck)) _ orderly)

  pub orderly-formed : is_formed (plain_job number deck) ≡ true
  orderly-formed = and-second (nat_le number 9999999) _ (and-first (nat_le number 9999999 && is_formed (plain_job number deck)) _ orderly)

  pub orderly-dds : list_all (λ (step : Step). list_all is_orderly_dd step.dds) deck.steps ≡ true
  orderly-dds = and-second (nat_le number 9999999 && is_formed (plain_job number deck)) _ orderly

  -- so are the steps of the job of a run that continues no other one
  pub plain-orderly : list_all (λ (owned : OwnedStep). list_all is_orderly_dd owned.step.dds) (plain_job number deck).steps ≡ true
  plain-orderly = owned-orderly number deck deck.steps orderly-dds

  -- each step is formed, whatever the root and the owner
  pub steps-formed : AllByRecursion (λ step. (root owner : ℕ) → is_formed_step root (owned_by owner deck step) ≡ true) deck.steps
  steps-formed = by deck.steps orderly-formed orderly-dds
    where
      by : (steps : List Step) → list_all (is_formed_step number) (map (owned_by number deck) steps) ≡ true → list_all (λ (step : Step). list_all is_orderly_dd step.dds) steps ≡ true → AllByRecursion (IsFormedAnywhere deck) steps
      by [] formed dds = tt
      by (step ∷ steps) formed dds = (
        λ root owner. formed-same root owner number deck step (and-first (list_all is_orderly_dd step.dds) _ dds) ∙ and-first (is_formed_step number (owned_by number deck step)) _ formed,
        by steps (and-second (is_formed_step number (owned_by number deck step)) _ formed) (and-second (list_all is_orderly_dd step.dds) _ dds),
      )

-- ---- a DD

-- what goes to SYSOUT is new, and kept at both ends
pub sysout-kept : (dd : Dd) → is_orderly_dd dd ≡ true → dd.origin ≡ Sysout → (dd.disp.status ≡ New) × (dd.disp.normal ≡ Some Keep) × (dd.disp.abnormal ≡ Some Keep)
sysout-kept dd orderly is =
    let all : (is_new dd.disp.status && is_keep dd.disp.normal && is_keep dd.disp.abnormal) ≡ true = ap (λ origin. is_orderly_dd (record dd { origin = origin })) (sym is) ∙ orderly in
    let front = and-first (is_new dd.disp.status && is_keep dd.disp.normal) _ all in
    (created dd.disp.status (and-first (is_new dd.disp.status) _ front), kept dd.disp.normal (and-second (is_new dd.disp.status) _ front), kept dd.disp.abnormal (and-second (is_new dd.disp.status && is_keep dd.disp.normal) _ all))
  where
    created : (status : Status) → is_new status ≡ true → status ≡ New
    created New new = refl
    created _ new = absurd (false≢true new)

    kept : (after : Option After) → is_keep after ≡ true → after ≡ Some Keep
    kept (Some Keep) keep = refl
    kept _ keep = absurd (false≢true keep)
