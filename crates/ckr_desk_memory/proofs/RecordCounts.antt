-- The records in an accepted deck are few.
use Rattle.std.proofs.Common.{◌≡◌, ◌≤◌, ℕ, zero, suc, Bool, true, false, cond, List, [], ◌∷◌, map, length, drop, Option, Some, None, Ok, sym, subst, arith, length-drop}
use Rattle.std.proofs.lemmas.List.{length-map}
use Rattle.std.specs.List.{AllByRecursion, fold}
use Rattle.ckr_base.proofs.Sequences.{each-append, each-implies}
use Rattle.ckr_cards.specs.declared.card.Card.{Card}
use Rattle.ckr_cards.specs.declared.lines.InStream.{InStream as Ends}
use Rattle.ckr_cards.specs.declared.kind.StatementKind.{StatementKind}
use Rattle.ckr_cards.specs.declared.statement.Statement.{Statement}
use Rattle.ckr_cards.specs.Card.{cards_in_bytes, columns}
use Rattle.ckr_cards.specs.Field.{goes_on}
use Rattle.ckr_cards.specs.Statement.{bare, cards_behind, comes_to_end, continuation, first_field, is_dd, is_exec, is_named, is_record, kind_of, name_in, records_after, records_if, records_in, statement_at, statements_from, statements_of, with_field, with_more}
use Rattle.ckr_jcl.specs.declared.deck.Dd.{Dd}
use Rattle.ckr_jcl.specs.declared.deck.Job.{Job}
use Rattle.ckr_jcl.specs.declared.deck.Origin.{Origin}
use Rattle.ckr_jcl.specs.declared.deck.Origin.TheVariants.{InStream, Named, Temporary, Unnamed, Sysout, Dummy}
use Rattle.ckr_jcl.specs.declared.deck.Step.{Step}
use Rattle.ckr_jcl_decks.specs.Parts.DsnText.{DsnText}
use Rattle.ckr_jcl_decks.specs.Parts.DsnText.TheVariants.{Permanent, Passing}
use Rattle.ckr_jcl_decks.specs.Parts.DdText.{DdText}
use Rattle.ckr_jcl_decks.specs.Parts.StepText.{StepText}
use Rattle.ckr_jcl_decks.specs.Parts.JobText.{JobText}
use Rattle.ckr_jcl_decks.specs.Least.{IsDeckJob}
use Rattle.ckr_jcl_decks.specs.Parts.DeckText.{closed, current_step, dd_in, dd_text, deck_text, job_text, role_in, step_text, with_dd, with_statement, with_step}
use Rattle.ckr_jcl_decks.specs.Deck.{bytes_of, dd_of, job_of, named_origin, origin_of, step_with, stored_deck}
use Rattle.ckr_jcl_decks.proofs.CardLimit.{few-cards}
use Rattle.ckr_jcl_decks.proofs.Refusals.{job_law}
use Rattle.ckr_desk_turn.proofs.Decks.DeckTests.{OfStep, steps_hold}

-- ---- statements

records_fewer : (ends : Ends) (cards : List Card) → length (records_in ends cards) ≤ length cards
records_fewer ends [] = omega arith
records_fewer ends (card ∷ rest) = by (is_record ends (columns card)) (records_in ends rest) (records_fewer ends rest)
  where
    by : (b : Bool) (others : List Card) → length others ≤ length rest → length (cond b (card ∷ others) []) ≤ length (card ∷ rest)
    by true others fewer = omega arith
    by false others fewer = omega arith

with_more_fewer : (kind : StatementKind) (first : Card) (more rest : List Card) → length (with_more kind first more rest).records ≤ length rest
unfolding with_more with_field
with_more_fewer kind first more rest =
    let fewer = records_fewer (records_if (comes_to_end (goes_on (first_field (columns first))) more) (records_after (columns first))) (drop (length more) rest) in
    omega (arith, length-drop (length more) rest)

bare_fewer : (kind : StatementKind) (first : Card) (rest : List Card) → length (bare kind first).records ≤ length rest
unfolding bare
bare_fewer kind first rest = omega arith

statement_fewer : (first : Card) (rest : List Card) → length (statement_at first rest).records ≤ length rest
unfolding statement_at
statement_fewer first rest = by (is_named (kind_of (columns first)))
  where
    by : (b : Bool) → length (cond b (with_more (kind_of (columns first)) first (continuation (goes_on (first_field (columns first))) rest) rest) (bare (kind_of (columns first)) first)).records ≤ length rest
    by true = with_more_fewer (kind_of (columns first)) first (continuation (goes_on (first_field (columns first))) rest) rest
    by false = bare_fewer (kind_of (columns first)) first rest

-- at most so many records
module _ (most : ℕ) where
  abbrev IsFew : Statement → Type 0
  IsFew s = length s.records ≤ most

  few_from : (fuel : ℕ) (cards : List Card) → length cards ≤ most → AllByRecursion IsFew (statements_from fuel cards)
  few_from zero cards fit = tt
  few_from (suc fuel) [] fit = tt
  few_from (suc fuel) (card ∷ rest) fit =
      let fewer = statement_fewer card rest in
      (omega arith, few_from fuel (drop (cards_behind (statement_at card rest)) rest) (omega (arith, length-drop (cards_behind (statement_at card rest)) rest)))

  -- ---- the DDs of a deck

  abbrev FewIn : DdText → Type 0
  FewIn dd = length dd.records ≤ most

  abbrev FewInAll : StepText → Type 0
  FewInAll step = AllByRecursion FewIn step.dds

  record IsRead (job : JobText) : Type 0 where
    steps : AllByRecursion FewInAll job.steps
    current : AllByRecursion FewInAll (current_step job.current)

  read_step : (job : JobText) (s : Statement) → IsRead job → IsRead (with_step job s)
  unfolding with_step closed step_text
  read_step job s read = record {
    steps = each-append FewInAll job.steps (current_step job.current) read.steps read.current;
    current = (tt, tt);
  }

  read_dd : (job : JobText) (current : Option StepText) (s : Statement) → IsFew s → IsRead job → AllByRecursion FewInAll (current_step current) → IsRead (dd_in job current s)
  unfolding with_dd dd_text
  read_dd job None s few read now = record { steps = read.steps; current = read.current }
  read_dd job (Some step) s few read now = record {
    steps = read.steps;
    current = (each-append FewIn step.dds (dd_text (role_in step.program (name_in s)) s ∷ []) now.0 (few, tt), tt);
  }

  read_more : (job : JobText) (s : Statement) → IsFew s → IsRead job → IsRead (with_statement job s)
  unfolding with_statement
  read_more job s few read =
      elim (is_exec s.kind) as (λ b. IsRead (cond b (with_step job s) (cond (is_dd s.kind) (dd_in job job.current s) job))) [
        | true ↦ read_step job s read
        | false ↦ elim (is_dd s.kind) as (λ b. IsRead (cond b (dd_in job job.current s) job)) [
          | true ↦ read_dd job job.current s few read read.current
          | false ↦ read
        ]
      ]

  read_all : (job : JobText) (rest : List Statement) → AllByRecursion IsFew rest → IsRead job → IsRead (fold with_statement job rest)
  read_all job [] few read = read
  read_all job (s ∷ rest) few read = read_all (with_statement job s) rest few.1 (read_more job s few.0 read)

  begun : (first : Statement) → IsRead (job_text first)
  unfolding job_text
  begun first = record { steps = tt; current = tt }

  read_deck : (first : Statement) (rest : List Statement) → AllByRecursion IsFew rest → AllByRecursion FewInAll (deck_text first rest).steps
  unfolding deck_text closed
  read_deck first rest few =
      let read = read_all (job_text first) rest few (begun first) in
      each-append FewInAll (fold with_statement (job_text first) rest).steps (current_step (fold with_statement (job_text first) rest).current) read.steps read.current

-- ---- the steps of a job

-- the records in the deck are at most so many
abbrev pub HasFew : ℕ → Origin → Type 0
HasFew most (InStream cards) = length cards ≤ most
HasFew most (Named name) = Unit {0}
HasFew most (Temporary name) = Unit {0}
HasFew most Unnamed = Unit {0}
HasFew most Sysout = Unit {0}
HasFew most Dummy = Unit {0}

named_few : (most : ℕ) (dsn : Option DsnText) → HasFew most (named_origin dsn)
unfolding named_origin
named_few most None = tt
named_few most (Some (Permanent name)) = tt
named_few most (Some (Passing name)) = tt
named_few most (Some _) = tt

origin_few : (most : ℕ) (dd : DdText) → length dd.records ≤ most → HasFew most (origin_of dd)
unfolding origin_of
origin_few most dd few = by dd.in_stream dd.dummy dd.sysout
  where
    by : (stream dummy sysout : Bool) → HasFew most (cond stream (InStream (map bytes_of dd.records)) (cond dummy Dummy (cond sysout Sysout (named_origin dd.dsn))))
    by true dummy sysout = subst (λ n. n ≤ most) (sym (length-map dd.records bytes_of)) few
    by false true sysout = tt
    by false false true = tt
    by false false false = named_few most dd.dsn

dd_few : (most : ℕ) (dd : DdText) → length dd.records ≤ most → HasFew most (dd_of dd).origin
unfolding dd_of
dd_few most dd few = origin_few most dd few

abbrev pub IsStepFew : ℕ → Step → Type 0
IsStepFew most step = AllByRecursion (λ (dd : Dd). HasFew most dd.origin) step.dds

dds_few : (most : ℕ) (dds : List DdText) → AllByRecursion (λ (dd : DdText). length dd.records ≤ most) dds → AllByRecursion (λ (dd : Dd). HasFew most dd.origin) (map dd_of dds)
dds_few most [] few = tt
dds_few most (dd ∷ dds) few = (dd_few most dd few.0, dds_few most dds few.1)

step_few : (most : ℕ) (step : StepText) → AllByRecursion (λ (dd : DdText). length dd.records ≤ most) step.dds → OfStep (IsStepFew most) step
unfolding step_with
step_few most step few kind is = dds_few most step.dds few

job_few : (most : ℕ) (job : JobText) → AllByRecursion (λ (step : StepText). AllByRecursion (λ (dd : DdText). length dd.records ≤ most) step.dds) job.steps → AllByRecursion (IsStepFew most) (job_of job).steps
unfolding job_of
job_few most job few =
    steps_hold (IsStepFew most) job.steps
    (each-implies (λ (step : StepText). AllByRecursion (λ (dd : DdText). length dd.records ≤ most) step.dds) (OfStep (IsStepFew most)) job.steps (step_few most) few)

-- ---- an accepted deck

deck_few : (most cards : ℕ) (statements : List Statement) (job : Job) → AllByRecursion (IsFew most) statements → IsDeckJob cards statements job → AllByRecursion (IsStepFew most) job.steps
deck_few most cards [] job few is = absurd is
deck_few most cards (first ∷ rest) job few is =
    subst (λ (j : Job). AllByRecursion (IsStepFew most) j.steps) (sym is.1) (job_few most (deck_text first rest) (read_deck most first rest few.1))

all_few : (most : ℕ) (cards : List Card) → length cards ≤ most → AllByRecursion (IsFew most) (statements_of cards)
unfolding statements_of
all_few most cards fit = few_from most (length cards) cards fit

pub steps-few : (bytes : List ℕ) (job : Job) → stored_deck bytes ≡ Ok job → AllByRecursion (IsStepFew 100000) job.steps
unfolding stored_deck
steps-few bytes job accepted =
    let is = (job_law (cards_in_bytes bytes) job accepted).1 in
    deck_few 100000 (length (cards_in_bytes bytes)) (statements_of (cards_in_bytes bytes)) job
    (all_few 100000 (cards_in_bytes bytes) (few-cards (length (cards_in_bytes bytes)) (statements_of (cards_in_bytes bytes)) job is)) is
