-- An accepted deck is formed as the desk needs it.
use Rattle.std.proofs.Common.{◌≡◌, ℕ, true, false, ◌&&◌, List, [], ◌++◌, None, Ok, sym, subst}
use Rattle.std.specs.List.{AllByRecursion, list_all}
use Rattle.std.proofs.lemmas.Bool.{and_from}
use Rattle.ckr_base.proofs.Sequences.{each-both, each-implies}
use Rattle.ckr_base.proofs.Options.{option_or-none}
use Rattle.ckr_jcl.specs.declared.deck.Job.{Job}
use Rattle.ckr_jcl_decks.specs.Parts.DdRule.TheVariants.{LeftOut, WrongUse}
use Rattle.ckr_jcl_decks.specs.Parts.JobText.{JobText}
use Rattle.ckr_jcl_decks.specs.Parts.StepText.{StepText}
use Rattle.ckr_jcl_decks.specs.Parts.DdFaults.{breaks}
use Rattle.ckr_jcl_decks.specs.DeckFaults.{dd_in_steps, dd_or_syschk, lacks_dd, missing_dd, repeated_dd, step_card, syschk_where}
use Rattle.ckr_jcl_decks.specs.Deck.{job_of, step_with, stored_deck}
use Rattle.ckr_jcl.specs.Programs.{names_updated}
use Rattle.ckr_uses.specs.Uses.{are_distinct}
use Rattle.ckr_meaning.specs.EffectiveJob.{HasDistinctNames, names_of, owned_by, plain_job}
use Rattle.ckr_points_library.specs.Holdings.{owned}
use Rattle.ckr_points.specs.Payload.{has_role, has_set, is_formed, is_formed_step}
use Rattle.ckr_desk_turn.specs.DeckLimits.{HasNamesOnce, IsFormed}
use Rattle.ckr_desk_turn.proofs.Decks.Repeats.{none_repeated, step_once}
use Rattle.ckr_desk_turn.proofs.Decks.Roles.{IsJudged, step_roled}
use Rattle.ckr_desk_turn.proofs.Decks.DeckTests.{NoneMeets, OfStep, all_pass, map_none, none_found, none_meets, steps_hold}
use Rattle.ckr_desk_turn.proofs.Decks.Texts.{AreStated, IsReadFrom, read_from}

none_left_out : (job : JobText) → dd_or_syschk (breaks LeftOut) job ≡ None → dd_in_steps (breaks LeftOut) job.steps ≡ None
unfolding dd_or_syschk
none_left_out job none = (option_or-none (syschk_where (breaks LeftOut) job.syschk) (dd_in_steps (breaks LeftOut) job.steps) none).1

none_lacks : (job : JobText) → missing_dd job ≡ None → AllByRecursion (λ step. lacks_dd step ≡ false) job.steps
unfolding missing_dd
none_lacks job none = none_found lacks_dd job.steps (map_none step_card _ none)

pub judged : (job : Job) (read : IsReadFrom job) → AllByRecursion IsJudged read.text.steps
judged job read =
    each-both (λ step. AreStated step × (lacks_dd step ≡ false)) (λ step. NoneMeets (breaks WrongUse) step.dds × NoneMeets (breaks LeftOut) step.dds) IsJudged read.text.steps
    (λ step first second. record { stated = first.0; needed = first.1; used = second.0; known = second.1 })
    (each-both AreStated (λ step. lacks_dd step ≡ false) (λ step. AreStated step × (lacks_dd step ≡ false)) read.text.steps (λ step one other. (one, other)) read.stated (none_lacks read.text read.faultless.needed))
    (each-both (λ step. NoneMeets (breaks WrongUse) step.dds) (λ step. NoneMeets (breaks LeftOut) step.dds) (λ step. NoneMeets (breaks WrongUse) step.dds × NoneMeets (breaks LeftOut) step.dds) read.text.steps (λ step one other. (one, other))
    (none_meets (breaks WrongUse) read.text.steps read.faultless.uses)
    (none_meets (breaks LeftOut) read.text.steps (none_left_out read.text read.faultless.left_out)))

step_formed : (step : StepText) → IsJudged step → OfStep HasNamesOnce step → OfStep IsFormed step
unfolding step_with
step_formed step right once kind is root owner tests =
    let roled = step_roled step right kind is in
    let own = owned (step_with step kind) owner tests in
    and_from (are_distinct (names_of root own) && list_all (has_role kind) own.step.dds) (list_all (has_set root own) (names_updated kind))
    (and_from (are_distinct (names_of root own)) (list_all (has_role kind) own.step.dds) (once kind is root owner tests) roled.roles) (roled.sets root owner tests)

all_once : (job : Job) (read : IsReadFrom job) → AllByRecursion (OfStep HasNamesOnce) read.text.steps
all_once job read = each-both AreStated (λ step. repeated_dd [] step.dds ≡ None) (OfStep HasNamesOnce) read.text.steps step_once read.stated (none_repeated read.text read.faultless.repeated)

once : (job : Job) → IsReadFrom job → AllByRecursion HasNamesOnce job.steps
unfolding job_of
once job read = subst (λ (j : Job). AllByRecursion HasNamesOnce j.steps) (sym read.is) (steps_hold HasNamesOnce read.text.steps (all_once job read))

formed : (job : Job) → IsReadFrom job → AllByRecursion IsFormed job.steps
unfolding job_of
formed job read =
    subst (λ (j : Job). AllByRecursion IsFormed j.steps) (sym read.is)
    (steps_hold IsFormed read.text.steps (each-both IsJudged (OfStep HasNamesOnce) (OfStep IsFormed) read.text.steps step_formed (judged job read) (all_once job read)))

-- ---- the laws

pub steps_once : (cards : List ℕ) (job : Job) → stored_deck cards ≡ Ok job → AllByRecursion HasNamesOnce job.steps
steps_once cards job accepted = once job (read_from cards job accepted)

pub job_once : (cards : List ℕ) (job : Job) (run : ℕ) → stored_deck cards ≡ Ok job → HasDistinctNames (plain_job run job)
job_once cards job run accepted =
    all_pass (λ own. are_distinct (names_of run own)) (owned_by run job) job.steps
    (each-implies HasNamesOnce (λ step. are_distinct (names_of run (owned_by run job step)) ≡ true) job.steps (λ step is. is run run (job.cond ++ step.cond)) (steps_once cards job accepted))

pub steps_formed : (cards : List ℕ) (job : Job) → stored_deck cards ≡ Ok job → AllByRecursion IsFormed job.steps
steps_formed cards job accepted = formed job (read_from cards job accepted)

pub job_formed : (cards : List ℕ) (job : Job) (run : ℕ) → stored_deck cards ≡ Ok job → is_formed (plain_job run job) ≡ true
job_formed cards job run accepted =
    all_pass (is_formed_step run) (owned_by run job) job.steps
    (each-implies IsFormed (λ step. is_formed_step run (owned_by run job step) ≡ true) job.steps (λ step is. is run run (job.cond ++ step.cond)) (steps_formed cards job accepted))
