-- An accepted deck is orderly: the names that it writes aren't the desk's own, and what goes to SYSOUT is kept at both ends.
use Rattle.std.proofs.Common.{◌≡◌, ◌≤◌, ℕ, Bool, true, false, cond, ◌&&◌, not, List, [], ◌∷◌, map, refl, ap, sym, subst, Option, Some, Ok}
use Rattle.std.specs.Prelude.{nat_le}
use Rattle.std.specs.List.{AllByRecursion, list_all}
use Rattle.std.proofs.lemmas.Bool.{and_from}
use Rattle.ckr_base.proofs.Numbers.{nat_le-from}
use Rattle.ckr_base.proofs.Sequences.{each-implies}
use Rattle.ckr_jcl.specs.declared.deck.After.TheVariants.{Keep}
use Rattle.ckr_jcl.specs.declared.deck.Disp.{Disp}
use Rattle.ckr_jcl.specs.declared.deck.Job.{Job}
use Rattle.ckr_jcl.specs.declared.deck.Origin.TheVariants.{InStream, Sysout, Dummy}
use Rattle.ckr_jcl.specs.declared.deck.Status.TheVariants.{New}
use Rattle.ckr_jcl.specs.declared.deck.Step.{Step}
use Rattle.ckr_jcl_decks.specs.Parts.DdText.{DdText}
use Rattle.ckr_jcl_decks.specs.Parts.DdValues.{disp_of}
use Rattle.ckr_jcl_decks.specs.Parts.DsnText.{DsnText}
use Rattle.ckr_jcl_decks.specs.Parts.DsnText.TheVariants.{Permanent, Passing}
use Rattle.ckr_jcl_decks.specs.Parts.StepText.{StepText}
use Rattle.ckr_jcl_decks.specs.Deck.{bytes_of, dd_of, disposition_of, job_of, named_origin, origin_of, step_with, stored_deck}
use Rattle.ckr_meaning.specs.EffectiveJob.{plain_job}
use Rattle.ckr_points.specs.Payload.{is_formed, is_orderly, is_orderly_at, is_orderly_dd}
use Rattle.ckr_desk_turn.proofs.Decks.DeckTests.{OfStep, all_pass, steps_hold}
use Rattle.ckr_desk_turn.proofs.Decks.DistinctNames.{IsGiven, stated_given}
use Rattle.ckr_desk_turn.proofs.Decks.JobForm.{job_formed}
use Rattle.ckr_desk_turn.proofs.Decks.Texts.{AreStated, IsReadFrom, IsStated, read_from}

-- ---- a DD

named-orderly : (dsn : Option DsnText) (disp : Disp) → IsGiven dsn → is_orderly_at (named_origin dsn) disp ≡ true
unfolding named_origin
named-orderly (Some (Permanent name)) disp given = ap not given
named-orderly (Some (Passing name)) disp given = refl
named-orderly _ disp given = refl

dd-orderly : (dd : DdText) → IsGiven dd.dsn → is_orderly_dd (dd_of dd) ≡ true
unfolding dd_of origin_of disposition_of
dd-orderly dd given = by dd.in_stream dd.dummy dd.sysout
  where
    by : (stream dummy sysout : Bool) → is_orderly_at (cond stream (InStream (map bytes_of dd.records)) (cond dummy Dummy (cond sysout Sysout (named_origin dd.dsn)))) (cond sysout (disp_of (Some New) (Some Keep) (Some Keep)) dd.disp) ≡ true
    by true dummy sysout = refl
    by false true sysout = refl
    by false false true = refl
    by false false false = named-orderly dd.dsn dd.disp given

-- ---- a deck

abbrev HasOrderlyDds : Step → Type 0
HasOrderlyDds step = list_all is_orderly_dd step.dds ≡ true

step-orderly : (step : StepText) → AreStated step → OfStep HasOrderlyDds step
unfolding step_with
step-orderly step stated kind is =
    all_pass is_orderly_dd dd_of step.dds
    (each-implies (IsStated step.program) (λ dd. is_orderly_dd (dd_of dd) ≡ true) step.dds (λ dd its. dd-orderly dd (stated_given step.program dd its)) stated)

dds-orderly : (job : Job) → IsReadFrom job → AllByRecursion HasOrderlyDds job.steps
unfolding job_of
dds-orderly job read =
    subst (λ (j : Job). AllByRecursion HasOrderlyDds j.steps) (sym read.is)
    (steps_hold HasOrderlyDds read.text.steps (each-implies AreStated (OfStep HasOrderlyDds) read.text.steps step-orderly read.stated))

all-from : (steps : List Step) → AllByRecursion HasOrderlyDds steps → list_all (λ (step : Step). list_all is_orderly_dd step.dds) steps ≡ true
all-from [] each = refl
all-from (step ∷ rest) each = and_from (list_all is_orderly_dd step.dds) (list_all (λ (step : Step). list_all is_orderly_dd step.dds) rest) each.0 (all-from rest each.1)

-- a run whose number has at most seven digits has it as its deck
pub deck-orderly : (cards : List ℕ) (job : Job) (run : ℕ) → run ≤ 9999999 → stored_deck cards ≡ Ok job → is_orderly run job ≡ true
deck-orderly cards job run small accepted =
    and_from (nat_le run 9999999 && is_formed (plain_job run job)) (list_all (λ (step : Step). list_all is_orderly_dd step.dds) job.steps)
    (and_from (nat_le run 9999999) (is_formed (plain_job run job)) (nat_le-from run 9999999 small) (job_formed cards job run accepted))
    (all-from job.steps (dds-orderly job (read_from cards job accepted)))
