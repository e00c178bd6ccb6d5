-- What an accepted deck was read from: statements without a fault, which make a deck without a fault.
use Rattle.std.proofs.Common.{◌≡◌, ℕ, true, false, List, [], ◌∷◌, length, Option, Some, None, Ok, refl, cond}
use Rattle.std.specs.List.{AllByRecursion, fold}
use Rattle.ckr_base.proofs.Sequences.{each-append}
use Rattle.ckr_cards.specs.declared.statement.Statement.{Statement}
use Rattle.ckr_cards.specs.Card.{cards_in_bytes}
use Rattle.ckr_cards.specs.Statement.{is_dd, is_exec, name_in, statements_of}
use Rattle.ckr_jcl.specs.declared.deck.Job.{Job}
use Rattle.ckr_jcl.specs.declared.deck.Kind.{Kind}
use Rattle.ckr_jcl_decks.proofs.LeastFault.{own_none, rows_none}
use Rattle.ckr_jcl_decks.specs.Parts.DdRule.TheVariants.{IllNamed, LeftOut, WrongUse, WrongSpace, WrongRecords}
use Rattle.ckr_jcl_decks.specs.Parts.DdText.{DdText}
use Rattle.ckr_jcl_decks.specs.Parts.StepText.{StepText}
use Rattle.ckr_jcl_decks.specs.Parts.JobText.{JobText}
use Rattle.ckr_jcl_decks.specs.Parts.MetFaults.{MetFaults}
use Rattle.ckr_jcl_decks.specs.Parts.Faults.{faults_of, nothing_seen, seen_behind}
use Rattle.ckr_jcl_decks.specs.Least.{HasNone, AreSound, IsDeckJob}
use Rattle.ckr_jcl_decks.specs.Parts.DeckText.{closed, current_step, dd_in, dd_text, deck_text, job_text, role_in, step_text, with_dd, with_statement, with_step}
use Rattle.ckr_jcl_decks.specs.Parts.DdFaults.{breaks}
use Rattle.ckr_jcl_decks.specs.DeckFaults.{checkpoint_fault, dd_in_steps, dd_or_syschk, deck_faults, faults_of_names, faults_of_uses, limit_fault, missing_dd, repeated_name}
use Rattle.ckr_jcl_decks.specs.Deck.{job_of, stored_deck}
use Rattle.ckr_jcl_decks.proofs.Refusals.{job_law}

-- ---- the statements of DDs

-- a DD is a statement without a fault, in the role that the program of its step has for its name
pub record IsStated (program : Option Kind) (dd : DdText) : Type 0 where
  pub statement : Statement
  pub seen : MetFaults
  pub sound : HasNone (faults_of seen statement)
  pub is : dd ≡ dd_text (role_in program (name_in statement)) statement

abbrev pub AreStated : StepText → Type 0
AreStated step = AllByRecursion (IsStated step.program) step.dds

-- each DD of a job so far
record IsRead (job : JobText) : Type 0 where
  steps : AllByRecursion AreStated job.steps
  current : AllByRecursion AreStated (current_step job.current)

read_step : (job : JobText) (s : Statement) → IsRead job → IsRead (with_step job s)
unfolding with_step closed step_text
read_step job s read = record {
  steps = each-append AreStated job.steps (current_step job.current) read.steps read.current;
  current = (tt, tt);
}

read_dd : (seen : MetFaults) (job : JobText) (current : Option StepText) (s : Statement) → HasNone (faults_of seen s) → IsRead job → AllByRecursion AreStated (current_step current) → IsRead (dd_in job current s)
unfolding with_dd
read_dd seen job None s sound read now = record { steps = read.steps; current = read.current }
read_dd seen job (Some step) s sound read now = record {
  steps = read.steps;
  current = (each-append (IsStated step.program) step.dds (dd_text (role_in step.program (name_in s)) s ∷ []) now.0 (own, tt), tt);
}
  where
    own : IsStated step.program (dd_text (role_in step.program (name_in s)) s)
    own = record { statement = s; seen = seen; sound = sound; is = refl }

read_more : (seen : MetFaults) (job : JobText) (s : Statement) → HasNone (faults_of seen s) → IsRead job → IsRead (with_statement job s)
unfolding with_statement
read_more seen job s sound read =
    elim (is_exec s.kind) as (λ b. IsRead (cond b (with_step job s) (cond (is_dd s.kind) (dd_in job job.current s) job))) [
      | true ↦ read_step job s read
      | false ↦ elim (is_dd s.kind) as (λ b. IsRead (cond b (dd_in job job.current s) job)) [
        | true ↦ read_dd seen job job.current s sound read read.current
        | false ↦ read
      ]
    ]

read_all : (seen : MetFaults) (job : JobText) (rest : List Statement) → AreSound seen rest → IsRead job → IsRead (fold with_statement job rest)
read_all seen job [] whole read = read
read_all seen job (s ∷ rest) (AreSound.sound seen' s' rest' none later) read =
    read_all (seen_behind seen s) (with_statement job s) rest later (read_more seen job s none read)

begun : (first : Statement) → IsRead (job_text first)
unfolding job_text
begun first = record { steps = tt; current = tt }

read_deck : (seen : MetFaults) (first : Statement) (rest : List Statement) → AreSound seen rest → AllByRecursion AreStated (deck_text first rest).steps
unfolding deck_text closed
read_deck seen first rest whole =
    let read = read_all seen (job_text first) rest whole (begun first) in
    each-append AreStated (fold with_statement (job_text first) rest).steps (current_step (fold with_statement (job_text first) rest).current) read.steps read.current

-- ---- the faults of a deck

-- a deck of so many cards has no fault
pub record IsFaultless (cards : ℕ) (job : JobText) : Type 0 where
  pub checkpoint : checkpoint_fault job ≡ None
  pub needed : missing_dd job ≡ None
  pub left_out : dd_or_syschk (breaks LeftOut) job ≡ None
  pub ill_named : dd_or_syschk (breaks IllNamed) job ≡ None
  pub repeated : repeated_name job ≡ None
  pub uses : dd_in_steps (breaks WrongUse) job.steps ≡ None
  pub spaces : dd_in_steps (breaks WrongSpace) job.steps ≡ None
  pub records : dd_in_steps (breaks WrongRecords) job.steps ≡ None
  pub limits : limit_fault cards job ≡ None

faultless : (cards : ℕ) (job : JobText) → HasNone (deck_faults cards job) → IsFaultless cards job
unfolding deck_faults faults_of_names faults_of_uses
faultless cards job none =
    let from_13 = rows_none _ _ none in
    let from_14 = rows_none _ _ from_13 in
    let from_15 = rows_none _ _ from_14 in
    let from_16 = rows_none _ _ from_15 in
    let from_17 = rows_none _ _ from_16 in
    let from_18 = rows_none _ _ from_17 in
    let from_19 = rows_none _ _ from_18 in
    let from_20 = rows_none _ _ from_19 in
    let from_21 = rows_none _ _ from_20 in
    let from_22 = rows_none _ _ from_21 in
    let from_23 = rows_none _ _ from_22 in
    record {
      checkpoint = own_none 13 (checkpoint_fault job) _ from_13;
      needed = own_none 16 (missing_dd job) _ from_16;
      left_out = own_none 17 (dd_or_syschk (breaks LeftOut) job) _ from_17;
      ill_named = own_none 18 (dd_or_syschk (breaks IllNamed) job) _ from_18;
      repeated = own_none 19 (repeated_name job) _ from_19;
      uses = own_none 20 (dd_in_steps (breaks WrongUse) job.steps) _ from_20;
      spaces = own_none 21 (dd_in_steps (breaks WrongSpace) job.steps) _ from_21;
      records = own_none 22 (dd_in_steps (breaks WrongRecords) job.steps) _ from_22;
      limits = own_none 23 (limit_fault cards job) _ from_23;
    }

-- ---- an accepted deck

-- the text that a job was read from
pub record IsReadFrom (job : Job) : Type 0 where
  pub cards : ℕ
  pub text : JobText
  pub stated : AllByRecursion AreStated text.steps
  pub faultless : IsFaultless cards text
  pub is : job ≡ job_of text

from_statements : (cards : ℕ) (statements : List Statement) (job : Job) → AreSound nothing_seen statements → IsDeckJob cards statements job → IsReadFrom job
from_statements cards [] job whole is = absurd is
from_statements cards (first ∷ rest) job (AreSound.sound seen s more none later) is = record {
  cards = cards;
  text = deck_text first rest;
  stated = read_deck (seen_behind nothing_seen first) first rest later;
  faultless = faultless cards (deck_text first rest) is.0;
  is = is.1;
}

pub read_from : (cards : List ℕ) (job : Job) → stored_deck cards ≡ Ok job → IsReadFrom job
unfolding stored_deck
read_from cards job accepted =
    let sound = job_law (cards_in_bytes cards) job accepted in
    from_statements (length (cards_in_bytes cards)) (statements_of (cards_in_bytes cards)) job sound.0 sound.1
