-- Two runs that have a name in common, one of them with RESTART, hold against each other, where its root and the owner of the name have its job
-- name.
use Rattle.std.proofs.Common.{◌≡◌, ◌≢◌, ◌≤◌, ℕ, Bool, true, false, not, ◌&&◌, ◌||◌, List, refl, ap, sym, ◌∙◌, subst, Some, None}
use Rattle.std.specs.List.{list_all, list_any}
use Rattle.std.proofs.lemmas.Bool.{false≢true, not-true}
use Rattle.ckr_base.proofs.Bools.{bool-cases, or-turned}
use Rattle.ckr_base.proofs.Numbers.{nat_le-true}
use Rattle.ckr_base.proofs.Options.{some-one}
use Rattle.ckr_base.proofs.Sequences.{all-at}
use Rattle.ckr_jcl.specs.declared.deck.Disp.{Disp}
use Rattle.ckr_jcl.specs.declared.deck.Job.{Job}
use Rattle.ckr_jcl.specs.declared.deck.Origin.{Origin}
use Rattle.ckr_jcl.specs.declared.deck.Origin.TheVariants.{Named as NamedOrigin}
use Rattle.ckr_jcl.specs.declared.deck.Restart.{Restart}
use Rattle.ckr_jcl.specs.declared.deck.Step.{Step}
use Rattle.ckr_jcl.specs.Qualifiers.{is_kept_name}
use Rattle.ckr_library.specs.declared.uses.Use.{Use}
use Rattle.ckr_library.specs.NameMaps.{Name}
use Rattle.ckr_meaning.specs.EffectiveJob.{is_among, names_of_job, plain_job}
use Rattle.ckr_points.specs.Payload.{is_orderly, is_orderly_at, is_orderly_dd}
use Rattle.ckr_points.specs.Rows.{RunRow, TablesModel, run_of}
use Rattle.ckr_uses.specs.SetNames.{run_name}
use Rattle.ckr_uses.specs.Uses.{holds, is_exclusive_of, is_of, uses_of}
use Rattle.ckr_uses.proofs.SharedNames.{holds-names}
use Rattle.ckr_uses.proofs.RunNames.{run_name-same}
use Rattle.ckr_points_invariant.specs.Invariant.{AreOrderly}
use Rattle.ckr_points_invariant.specs.JobNames.{HasJobName, IsNameOf}
use Rattle.ckr_points_invariant.proofs.Decks.Events.{row-orderly}
use Rattle.ckr_points_invariant.proofs.Decks.Names.{orderly-dds, orderly-number}
use Rattle.ckr_points_invariant.proofs.Holders.DeckNames.{deck-named, names-owned, plain-holds, restarts-hold}
use Rattle.ckr_points_invariant.proofs.Holders.NamesInCommon.{IsWritten, TellsApart}

-- ---- uses that hold against each other

both-turned : (mine theirs one other : Bool) → (mine && theirs && (one || other)) ≡ true → (theirs && mine && (other || one)) ≡ true
both-turned true true one other e = or-turned one other e
both-turned true false one other e = e
both-turned false true one other e = e
both-turned false false one other e = e

pub holds-turned : (first second : List Use) → holds first second ≡ true → holds second first ≡ true
holds-turned first second held =
    let at = (holds-names first second).0 held in
    (holds-names second first).1 (at.0, both-turned (list_any (is_of at.0) first) (list_any (is_of at.0) second) (list_any (is_exclusive_of at.0) first) (list_any (is_exclusive_of at.0) second) at.1)

-- ---- the desk's own names

kept-apart : TellsApart is_kept_name
unfolding is_kept_name
kept-apart = record { temporary = λ qualifier tail. refl; sysout = λ qualifier tail. refl }

pub origin-written : (origin : Origin) (disp : Disp) → is_orderly_at origin disp ≡ true → IsWritten is_kept_name origin
origin-written (NamedOrigin name) disp orderly = not-true (is_kept_name name) orderly
origin-written _ disp orderly = tt

-- a test of all, at an item that is one of them
all-of : {A : Type 0} (all : A → Bool) (items : List A) (item : A) → list_all all items ≡ true → ((q : A → Bool) → q item ≡ true → list_any q items ≡ true) → all item ≡ true
all-of all items item each stands =
    bool-cases (all item) (λ passes. passes)
    (λ fails.
    let other = all-at all (λ one. not (all one)) items each (stands (λ one. not (all one)) (ap not fails)) in
    absurd (false≢true (sym (ap not other.1) ∙ other.2)))

-- a name that an orderly deck writes isn't one of these
written-so : (number : ℕ) (deck : Job) → is_orderly number deck ≡ true → (root owner : ℕ) (name : Name) (its : IsNameOf deck root owner name) → IsWritten is_kept_name its.dd.origin
written-so number deck orderly root owner name its =
    origin-written its.dd.origin its.dd.disp
    (all-of is_orderly_dd its.step.dds its.dd
    (all-of (λ (step : Step). list_all is_orderly_dd step.dds) deck.steps its.step (orderly-dds number deck orderly) its.in_deck)
    its.in_step)

-- ---- two runs

module _ (tables : TablesModel) (numbered : (number : ℕ) (row : RunRow) → run_of tables number ≡ Some row → row.number ≡ number) (orderly : AreOrderly tables) where
  -- numbers have seven digits
  few : (number : ℕ) (row : RunRow) → run_of tables number ≡ Some row → number ≤ 9999999
  few number row at =
      subst (λ n. n ≤ 9999999) (numbered number row at)
      (nat_le-true row.number 9999999 (orderly-number row.number row.deck (row-orderly tables number row orderly at)))

  -- so runs of the same qualifier have one job name
  one-job : (one other : ℕ) (first second : Name) → HasJobName tables one first → HasJobName tables other second → run_name one ≡ run_name other → first ≡ second
  one-job one other first second mine theirs same =
      let number : one ≡ other = run_name-same one other (few one mine.0 mine.1) (few other theirs.0 theirs.1) same in
      let row : mine.0 ≡ theirs.0 = some-one mine.0 theirs.0 (run_of tables other) (ap (run_of tables) (sym number) ∙ mine.1) theirs.1 in
      sym mine.2 ∙ ap (λ (its : RunRow). its.deck.name) row ∙ theirs.2

  module _ (one other : ℕ) (row next : RunRow) (row_at : run_of tables one ≡ Some row) (next_at : run_of tables other ≡ Some next) (restart : Restart) (has : row.deck.restart ≡ Some restart)
      (root owner : ℕ) (name : Name) (mine : IsNameOf row.deck root owner name) (rooted : HasJobName tables root row.deck.name) (owned : HasJobName tables owner row.deck.name) where
    written-mine : IsWritten is_kept_name mine.dd.origin
    written-mine = written-so row.number row.deck (row-orderly tables one row orderly row_at) root owner name mine

    written-theirs : (root2 owner2 : ℕ) (theirs : IsNameOf next.deck root2 owner2 name) → IsWritten is_kept_name theirs.dd.origin
    written-theirs root2 owner2 theirs = written-so next.number next.deck (row-orderly tables other next orderly next_at) root2 owner2 name theirs

    -- the other one has RESTART too
    pub restart-holds : (restart2 : Restart) → next.deck.restart ≡ Some restart2 → (root2 owner2 : ℕ) → IsNameOf next.deck root2 owner2 name → HasJobName tables root2 next.deck.name → HasJobName tables owner2 next.deck.name
        → holds (uses_of row.number row.deck) (uses_of next.number next.deck) ≡ true
    restart-holds restart2 also root2 owner2 theirs rooted2 owned2 =
        restarts-hold is_kept_name kept-apart row.number next.number row.deck next.deck restart has root owner root2 owner2 name mine theirs written-mine (written-theirs root2 owner2 theirs) restart2 also
        (one-job root root2 row.deck.name next.deck.name rooted rooted2)
        (one-job owner owner2 row.deck.name next.deck.name owned owned2)

    -- the other one is without, and is neither the root nor the owner
    pub without-holds : next.deck.restart ≡ None → is_among (names_of_job (plain_job next.number next.deck)) name ≡ true → root ≢ other → owner ≢ other → holds (uses_of row.number row.deck) (uses_of next.number next.deck) ≡ true
    without-holds plain among not_root not_owner =
        plain-holds is_kept_name kept-apart row.number next.number row.deck next.deck restart has root owner next.number next.number name mine theirs written-mine (written-theirs next.number next.number theirs) plain refl refl
        (λ same. not_root (apart root rooted same))
        (λ same. not_owner (apart owner owned same))
      where
        theirs : IsNameOf next.deck next.number next.number name
        theirs = deck-named next.deck next.number next.number name (ap (λ names. is_among names name) (sym (names-owned next.number next.number next.deck next.deck.steps)) ∙ among)

        apart : (number : ℕ) → HasJobName tables number row.deck.name → run_name number ≡ run_name next.number → number ≡ other
        apart number its same = run_name-same number other (few number its.0 its.1) (few other next next_at) (same ∙ ap run_name (numbered other next next_at))
