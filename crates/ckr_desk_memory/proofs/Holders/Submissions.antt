-- One more run is submitted: it holds nothing, and is its own kin. So the holders stay apart.
use Rattle.std.proofs.Common.{arith, ◌≡◌, ℕ, zero, suc, true, false, List, [], ◌∷◌, ◌++◌, length, refl, ap, sym, ◌∙◌, subst, Option, Some, None}
use Rattle.std.specs.Prelude.{slice_get, IsTrue}
use Rattle.std.specs.Option.{is_some, option_map_or}
use Rattle.std.proofs.lemmas.Bool.{false≢true}
use Rattle.std.proofs.lemmas.Option.{same_Some}
use Rattle.ckr_base.proofs.Bools.{and-first}
use Rattle.ckr_base.proofs.Numbers.{equal-true, nat_le-true, number-cases}
use Rattle.ckr_base.proofs.Options.{is_some-true, some-not-none}
use Rattle.ckr_base.proofs.Sequences.{each-append, get-inside, get-append-last, get-append-front}
use Rattle.ckr_events.specs.declared.event.Event.TheVariants.{Submitted}
use Rattle.ckr_jcl.specs.declared.deck.Job.{Job}
use Rattle.ckr_meaning.specs.EffectiveJob.{OwnedStep, is_among, plain_job, step_at}
use Rattle.ckr_points.specs.Follows.{follows}
use Rattle.ckr_points.specs.Office.{is_holder}
use Rattle.ckr_points.specs.Payload.{is_orderly}
use Rattle.ckr_points.specs.RuleCases.{is_ended}
use Rattle.ckr_points.specs.Rows.{RunRow, TablesModel, run_of}
use Rattle.ckr_points.specs.Tables.{after_submitted, queued_run}
use Rattle.ckr_desk_turn.proofs.AdmittedSteps.{queued-admitted}
use Rattle.ckr_desk_turn.proofs.Decks.OrderlyDecks.{deck-orderly}
use Rattle.ckr_points_invariant.specs.JobNames.{AreKin, IsKin, KeepsJobNames, has_ended}
use Rattle.ckr_points_invariant.proofs.Continuations.ReachedNames.OwnSteps.{owner-is}
use Rattle.ckr_points_invariant.proofs.Holders.DeckNames.{deck-named, names-owned}
use Rattle.ckr_points_invariant.proofs.Holders.JobNames.{kin-stays}
use Rattle.ckr_points_tables.specs.Invariant.{IsAnySubmittable, is_submittable}
use Rattle.ckr_volumes.specs.declared.layout.Layout.{Layout}
use Rattle.ckr_desk_memory.proofs.Holders.Moves.{each-entry, own-kin}
use Rattle.ckr_desk_memory.specs.Holders.{AreHolders, AreOfDeck, HasStartPassed, HasStepNames, IsNamedEntry, IsOwnEntry, KeepsOwnEntries, PassesOnOwn}
use Rattle.ckr_desk_memory.specs.Invariant.{IsAcceptedDeck, IsAcceptedRow}

-- a run that was there stays there
pub row-more : (tables : TablesModel) (job : ℕ) (deck : Job) (number : ℕ) (row : RunRow) → run_of tables number ≡ Some row → run_of (after_submitted job deck tables) number ≡ Some row
row-more tables job deck zero row at = at
row-more tables job deck (suc place) row at =
    get-append-front tables.runs (queued_run job deck) place (λ e. absurd (omega (arith, e, get-inside row tables.runs place at))) ∙ at

-- a row is that of the new run, or was there
pub row-before : {A : Type 0} (tables : TablesModel) (job : ℕ) (deck : Job) (number : ℕ) (row : RunRow) → run_of (after_submitted job deck tables) number ≡ Some row → (queued_run job deck ≡ row → A) → (run_of tables number ≡ Some row → A) → A
row-before tables job deck zero row at new old = absurd (some-not-none row (sym at))
row-before tables job deck (suc place) row at new old =
    number-cases place (length tables.runs)
    (λ here. new (same_Some (queued_run job deck) row (sym (get-append-last tables.runs (queued_run job deck)) ∙ ap (slice_get (tables.runs ++ queued_run job deck ∷ [])) (sym here) ∙ at)))
    (λ apart. old (sym (get-append-front tables.runs (queued_run job deck) place apart) ∙ at))

-- a run that was submitted holds nothing
module _ (tables : TablesModel) (deck : Job) (job : ℕ) (next : job ≡ suc (length tables.runs)) (orderly : is_orderly job deck ≡ true) (titled : HasStepNames (queued_run job deck)) (are : AreHolders tables) where
  abbrev more : TablesModel
  more = after_submitted job deck tables

  abbrev new_run : RunRow
  new_run = queued_run job deck

  one_of : {A : Type 0} (number : ℕ) (row : RunRow) → run_of more number ≡ Some row → (new_run ≡ row → A) → (run_of tables number ≡ Some row → A) → A
  one_of number row = row-before tables job deck number row

  no_holder : {A : Type 0} (row : RunRow) → new_run ≡ row → is_holder row.state ≡ true → A
  no_holder row is holding = absurd (false≢true (ap (λ (r : RunRow). is_holder r.state) is ∙ holding))

  -- the other runs keep their job names
  keeps : KeepsJobNames tables more
  keeps = record {
    named = λ number name has. (has.0, row-more tables job deck number has.0 has.1, has.2);
    ended = λ number over. by number (run_of tables number) refl over;
  }
    where
      by : (number : ℕ) (found : Option RunRow) → run_of tables number ≡ found → option_map_or (λ (row : RunRow). is_ended row.state) found false ≡ true → has_ended more number ≡ true
      by number None at over = absurd (false≢true over)
      by number (Some row) at over = ap (λ (o : Option RunRow). option_map_or (λ (row : RunRow). is_ended row.state) o false) (row-more tables job deck number row at) ∙ over

  new-at : run_of more job ≡ Some new_run
  new-at = ap (run_of more) next ∙ get-append-last tables.runs new_run

  itself : IsKin more new_run job
  itself = own-kin more job new_run new-at refl

  owners-so : (number : ℕ) (owned : OwnedStep) → step_at (plain_job job deck) number ≡ Some owned → IsKin more new_run owned.owner
  owners-so zero owned found = absurd (some-not-none owned (sym found))
  owners-so (suc before) owned found = subst (IsKin more new_run) (sym (owner-is job deck deck.steps before owned found)) itself

  kin-more : (row : RunRow) → AreKin tables row → AreKin more row
  kin-more row kin = record {
    root = kin-stays tables more keeps row row refl refl row.job.root kin.root;
    owners = λ number owned found. kin-stays tables more keeps row row refl refl owned.owner (kin.owners number owned found);
  }

  named-more : (row : RunRow) → AreOfDeck tables row → AreOfDeck more row
  named-more row named name own = let its = named name own in (its.0, its.1, kin-stays tables more keeps row row refl refl its.0 its.2)

  -- no entry is of the new run
  none-yet : KeepsOwnEntries more.sets new_run
  none-yet =
      each-entry (λ set entry. is_some (run_of tables entry.point.run) ≡ true) (λ set entry. entry.point.run ≡ job → IsOwnEntry new_run set entry.point × IsNamedEntry new_run entry) tables.sets
      (λ set entry there run.
      is_some-true (run_of tables entry.point.run) there
      (λ row at.
      let inside = get-inside row tables.runs (length tables.runs) (sym (ap (run_of tables) (run ∙ next)) ∙ at) in absurd (omega (arith, inside))))
      are.written

  still-there : (number : ℕ) → is_some (run_of tables number) ≡ true → is_some (run_of more number) ≡ true
  still-there number there = is_some-true (run_of tables number) there (λ row at. ap is_some (row-more tables job deck number row at))

  pub holders-more : AreHolders more
  holders-more = record {
    orderly = each-append (λ (row : RunRow). is_orderly row.number row.deck ≡ true) tables.runs (new_run ∷ []) are.orderly (orderly, tt);
    kin = λ number row at.
        one_of number row at (λ new. subst (AreKin more) new (record { root = itself; owners = owners-so }))
        (λ old. kin-more row (are.kin number row old));
    named = λ number row at.
        one_of number row at
        (λ new.
        subst (AreOfDeck more) new (λ name own. (job, deck-named deck job job name (ap (λ names. is_among names name) (sym (names-owned job job deck deck.steps)) ∙ own), itself)))
        (λ old. named-more row (are.named number row old));
    steps = λ number row at. one_of number row at (λ new. subst HasStepNames new titled) (are.steps number row);
    apart = λ one other row next here there apart mine theirs.
        one_of one row here
        (λ new. no_holder row new mine)
        (λ first. one_of other next there (λ new. no_holder next new theirs) (λ second. are.apart one other row next first second apart mine theirs));
    passed = λ number row at. one_of number row at (λ new. subst (PassesOnOwn more.sets) new (record { passed = λ name out. refl; points = λ ends. tt; effect = λ effect is. absurd (some-not-none effect (sym is)) })) (are.passed number row);
    changed = λ number row at.
        one_of number row at (λ new owned name holding. no_holder row new holding) (are.changed number row);
    begun = λ number row at. one_of number row at (λ new. subst HasStartPassed new (λ ends at. absurd (false≢true at))) (are.begun number row);
    entries = λ number row at. one_of number row at (λ new. subst (KeepsOwnEntries more.sets) new none-yet) (are.entries number row);
    written = each-entry (λ set entry. is_some (run_of tables entry.point.run) ≡ true) (λ set entry. is_some (run_of more entry.point.run) ≡ true) tables.sets (λ set entry. still-there entry.point.run) are.written;
    single = are.single;
  }

-- an accepted deck is orderly, and its run is the next
submitted-next : (layout : Layout) (tables : TablesModel) (job : ℕ) (cards : List ℕ) (deck : Job) → follows layout tables (Submitted job cards) (Some deck) ≡ true → job ≡ suc (length tables.runs)
submitted-next layout tables job cards deck follow = equal-true job (suc (length tables.runs)) (and-first _ _ (and-first _ true follow))

submitted-orderly : (job : ℕ) (deck : Job) → IsAcceptedRow (queued_run job deck) → IsTrue (is_submittable job deck) → is_orderly job deck ≡ true
submitted-orderly job deck accepted may =
    deck-orderly accepted.cards deck job (nat_le-true job 9999999 (and-first _ _ (and-first _ _ (and-first _ _ (and-first _ _ may))))) accepted.accepted

pub holders-submitted : (layout : Layout) (tables : TablesModel) (job : ℕ) (cards : List ℕ) (deck : Option Job) → AreHolders tables → IsAcceptedDeck job deck → IsAnySubmittable job deck → follows layout tables (Submitted job cards) deck ≡ true
    → AreHolders (option_map_or (λ deck. after_submitted job deck tables) deck tables)
holders-submitted layout tables job cards None are accepted may follow = are
holders-submitted layout tables job cards (Some deck) are accepted may follow = holders-more tables deck job (submitted-next layout tables job cards deck follow) (submitted-orderly job deck accepted may)
    (queued-admitted accepted.cards job deck accepted.accepted).named are
