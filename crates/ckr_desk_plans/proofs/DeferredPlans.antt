-- The plan of a queued run with RESTART: the rules by which it is denied, the step that it goes on at, and the spelling of its event.
use Rattle.std.proofs.Common.{◌≡◌, ◌≤◌, ◌<◌, ◌^◌, ℕ, Bool, true, false, not, nat_le, ◌&&◌, List, [], ◌∷◌, filter, length, IfSome, IsSome, IsTrue, arith, refl, ap, sym, ◌∙◌, subst, Option, None, Some}
use Rattle.std.specs.Prelude.{if◌then◌else◌}
use Rattle.std.specs.List.{list_all}
use Rattle.std.specs.Option.{is_some, option_map, option_map_or, option_or}
use Rattle.std.proofs.lemmas.Bool.{false≢true}
use Rattle.std.proofs.lemmas.Bool.Decides.{nat_tests}
use Rattle.ckr_base.proofs.Bools.{and-first, and-second}
use Rattle.ckr_base.proofs.Numbers.{nat_le-true}
use Rattle.ckr_base.specs.Grammar.{is_check_id, is_ds_name, is_name8, is_name_byte, pieces}
use Rattle.ckr_entry.specs.declared.point.Mark.{Mark}
use Rattle.ckr_entry.specs.declared.point.Present.{Present}
use Rattle.ckr_events.specs.declared.event.Event.TheVariants.{Denied as DeniedEvent, Selected as SelectedEvent}
use Rattle.ckr_jcl.specs.declared.deck.Restart.{Restart}
use Rattle.ckr_jcl.specs.declared.deck.Step.{Step as StepOfDeck}
use Rattle.ckr_library.specs.NameMaps.{Name, Named}
use Rattle.ckr_meaning.specs.EffectiveJob.{OwnedStep, is_among, step_at}
use Rattle.ckr_points.specs.Denials.{denial_of, tells_a_name}
use Rattle.ckr_points.specs.Freshness.{changed_denial, first_stale, is_long_enough, is_of_wrong_kind, stale_at, stale_by, stale_present}
use Rattle.ckr_points.specs.Marks.{point_at, same_stamp, sysout_names}
use Rattle.ckr_points.specs.Restart.{needed_names, spliced, without_names}
use Rattle.ckr_points.specs.RuleCases.{Wanted, deferred_case, entry_denial, number_named, stale_denial, start_denial, wanted_of}
use Rattle.ckr_points.specs.Rows.{EntryPoint, KeptEntry, RunRow, TableSet, TablesModel}
use Rattle.ckr_points.specs.declared.denial.Denial.{Denial}
use Rattle.ckr_points_library.specs.Commit.{output_names}
use Rattle.ckr_rules.specs.RuleTables.{deferred, first_line, rule_number, stale_line}
use Rattle.ckr_rules.specs.declared.cases.DeferredCase.{DeferredCase}
use Rattle.ckr_rules.specs.declared.cases.Rule.{Rule}
use Rattle.ckr_rules.specs.declared.cases.Rule.TheVariants.{A1, A2, A3, A4, A5, A6, D1, D2, D3, D4, D5, D6, D7, D8, D9, D10}
use Rattle.ckr_rules.specs.declared.cases.Verdict.{Verdict}
use Rattle.ckr_rules.specs.declared.cases.Verdict.TheVariants.{Step, Checkpoint, Denied}
use Rattle.ckr_desk_turn.proofs.Deferred.Rules.{denial-rule, passed-so, permits}
use Rattle.ckr_desk_turn.specs.Deferred.{continued_by, deferred_plan, deferred_verdict}
use Rattle.ckr_desk_turn.specs.Spelling.{IsSpelled}
use Rattle.ckr_volumes.specs.declared.layout.Layout.{Layout}
use Rattle.ckr_desk_plans.proofs.EntryTypes.{check_id-fits, ds_name-fits}

-- ---- the rules that a data set meets

-- the rule, if there is one, is one that tells a data set
abbrev Tells : Option Denial → Type 0
Tells None = Unit {0}
Tells (Some denial) = tells_a_name denial.rule ≡ true

tells-some : {X : Type 0} (f : X → Option Denial) (found : Option X) → ((x : X) → Tells (f x)) → Tells (option_map_or f found None)
tells-some f None each = tt
tells-some f (Some x) each = each x

tells-either : (one other : Option Denial) → Tells one → Tells other → Tells (option_or one other)
tells-either None other first second = second
tells-either (Some denial) other first second = first

present-tells : (root : ℕ) (owned : OwnedStep) (name : Name) (present : Present) (table : Option TableSet) → Tells (stale_present root owned name present table)
present-tells root owned name present None = refl
present-tells root owned name present (Some table) =
    by (same_stamp table.set.stamp present.stamp && is_long_enough (is_among (output_names root owned) name) present.length table.set.length && not (is_of_wrong_kind root owned name table))
  where
    by : (b : Bool) → Tells (if b then None else Some (changed_denial name present table))
    by true = tt
    by false = refl

name-tells : (root : ℕ) (owned : OwnedStep) (name : Name) (present : Option Present) (table : Option TableSet) → Tells (stale_by root owned name present table)
name-tells root owned name (Some present) table = present-tells root owned name present table
name-tells root owned name None None = tt
name-tells root owned name None (Some table) = refl

first-tells : (root : ℕ) (owned : OwnedStep) (sets : Named TableSet) (marks : List Mark) → Tells (first_stale root owned sets marks)
first-tells root owned sets [] = tt
first-tells root owned sets (mark ∷ marks) =
    tells-either (stale_at root owned sets mark) (first_stale root owned sets marks) (name-tells root owned mark.name mark.present _) (first-tells root owned sets marks)

entry-tells : (row earlier : RunRow) (number : ℕ) (owned : OwnedStep) (point : EntryPoint) (tables : TablesModel) → Tells (entry_denial row earlier number owned point tables)
entry-tells row earlier number owned point tables =
    let needed = needed_names (spliced earlier.job number row.number row.deck) number point.marks in
    first-tells earlier.job.root owned tables.sets (filter (λ (mark : Mark). is_among needed mark.name) point.marks)

start-tells : (row earlier : RunRow) (number : ℕ) (owned : OwnedStep) (tables : TablesModel) → Tells (start_denial row earlier number owned tables)
start-tells row earlier number owned tables =
    tells-some _ (point_at earlier.points number)
    (λ point.
    let needed = without_names (sysout_names earlier.job.root owned) (needed_names (spliced earlier.job number row.number row.deck) number point.marks) in
    first-tells earlier.job.root owned tables.sets (filter (λ (mark : Mark). is_among needed mark.name) point.marks))

stale-tells : (row : RunRow) (wanted : Wanted) (tables : TablesModel) → Tells (stale_denial row wanted tables)
stale-tells row wanted tables =
    tells-some _ wanted.earlier
    (λ earlier. tells-some _ (step_at earlier.job wanted.number) (λ owned. by earlier owned wanted.checkpoint))
  where
    by : (earlier : RunRow) (owned : OwnedStep) (checkpoint : Bool)
        → Tells (if checkpoint then option_map_or (λ (entry : KeptEntry). entry_denial row earlier wanted.number owned entry.point tables) wanted.entry None else start_denial row earlier wanted.number owned tables)
    by earlier owned true = tells-some _ wanted.entry (λ entry. entry-tells row earlier wanted.number owned entry.point tables)
    by earlier owned false = start-tells row earlier wanted.number owned tables

-- ---- the rules that deny

-- a rule of deferred restarts
abbrev IsDeferred : Rule → Type 0
IsDeferred rule = 17 ≤ rule_number rule

told-deferred : (rule : Rule) → tells_a_name rule ≡ true → IsDeferred rule
told-deferred A1 tells = absurd (false≢true tells)
told-deferred A2 tells = absurd (false≢true tells)
told-deferred A3 tells = absurd (false≢true tells)
told-deferred A4 tells = absurd (false≢true tells)
told-deferred A5 tells = absurd (false≢true tells)
told-deferred A6 tells = absurd (false≢true tells)
told-deferred D1 tells = absurd (false≢true tells)
told-deferred D2 tells = absurd (false≢true tells)
told-deferred D3 tells = absurd (false≢true tells)
told-deferred D4 tells = absurd (false≢true tells)
told-deferred D5 tells = absurd (false≢true tells)
told-deferred D6 tells = absurd (false≢true tells)
told-deferred D7 tells = absurd (false≢true tells)
told-deferred D8 tells = omega arith
told-deferred D9 tells = omega arith
told-deferred D10 tells = omega arith

same-rule : (other rule : Rule) → Denied other ≡ Denied rule → other ≡ rule
same-rule other rule e = cc

-- a line that denies by such a rule, before lines that do
line-deferred : (holds : Bool) (other : Rule) (lines : List (Bool × Verdict)) (rule : Rule) → IsDeferred other → (first_line lines Step ≡ Denied rule → IsDeferred rule) → first_line ((holds, Denied other) ∷ lines) Step ≡ Denied rule → IsDeferred rule
line-deferred true other lines rule its rest is = subst IsDeferred (same-rule other rule is) its
line-deferred false other lines rule its rest is = rest is

last-deferred : (checkpoint : Bool) (rule : Rule) → first_line ((checkpoint, Checkpoint) ∷ []) Step ≡ Denied rule → IsDeferred rule
last-deferred true rule is = cc
last-deferred false rule is = cc

stale-deferred : (stale : Option Denial) (checkpoint : Bool) (rule : Rule) → Tells stale → first_line (stale_line (option_map (λ (denial : Denial). denial.rule) stale) ∷ (checkpoint, Checkpoint) ∷ []) Step ≡ Denied rule → IsDeferred rule
stale-deferred None checkpoint rule tells is = last-deferred checkpoint rule is
stale-deferred (Some denial) checkpoint rule tells is = subst IsDeferred (same-rule denial.rule rule is) (told-deferred denial.rule tells)

-- A run is denied by one of the rules D1 to D10.
pub denied-deferred : (serials : List Name) (row : RunRow) (wanted : Wanted) (tables : TablesModel) (rule : Rule) → deferred (deferred_case serials row wanted tables) ≡ Denied rule → 17 ≤ rule_number (denial_of row wanted tables rule).rule
denied-deferred serials row wanted tables rule is =
    let case : DeferredCase = deferred_case serials row wanted tables in
    let behind_7 : List (Bool × Verdict) = stale_line case.stale ∷ (case.checkpoint, Checkpoint) ∷ [] in
    let behind_6 = (not case.same_statements, Denied D7) ∷ behind_7 in
    let behind_5 = (not case.reached, Denied D6) ∷ behind_6 in
    let behind_4 = (not case.ended, Denied D5) ∷ behind_5 in
    let behind_3 = (case.checkpoint && not case.same_job_step, Denied D4) ∷ behind_4 in
    let behind_2 = (case.checkpoint && not case.found_entry, Denied D3) ∷ behind_3 in
    let behind_1 = (case.checkpoint && not case.found_set, Denied D2) ∷ behind_2 in
    subst IsDeferred (sym (denial-rule serials row wanted tables rule is))
    (line-deferred (not case.known) D1 behind_1 rule (omega arith)
    (line-deferred (case.checkpoint && not case.found_set) D2 behind_2 rule (omega arith)
    (line-deferred (case.checkpoint && not case.found_entry) D3 behind_3 rule (omega arith)
    (line-deferred (case.checkpoint && not case.same_job_step) D4 behind_4 rule (omega arith)
    (line-deferred (not case.ended) D5 behind_5 rule (omega arith)
    (line-deferred (not case.reached) D6 behind_6 rule (omega arith)
    (line-deferred (not case.same_statements) D7 behind_7 rule (omega arith) (stale-deferred (stale_denial row wanted tables) case.checkpoint rule (stale-tells row wanted tables)))))))) is)

-- ---- the step

-- where a run goes on its deck has the step
pub step-there : (serials : List Name) (row : RunRow) (wanted : Wanted) (tables : TablesModel) (verdict : Verdict) → permits verdict ≡ true → deferred (deferred_case serials row wanted tables) ≡ verdict → IsSome wanted.step
step-there serials row wanted tables verdict permitted is = by wanted.earlier wanted.step (passed-so (deferred_case serials row wanted tables) verdict permitted is).reached
  where
    by : (earlier : Option RunRow) (step : Option StepOfDeck)
        → option_map_or (λ (earlier : RunRow). option_map_or (λ (step : StepOfDeck). is_some (point_at earlier.points (number_named earlier step.name))) step false) earlier false ≡ true → IsSome step
    by None step e = absurd (false≢true e)
    by (Some earlier) None e = absurd (false≢true e)
    by (Some earlier) (Some step) e = refl

-- ---- the plan

-- what a verdict comes to
pub verdict-plan : (layout : Layout) (tables : TablesModel) (initiator : ℕ) (row : RunRow) (restart : Restart) (wanted : Wanted) (verdict : Verdict) → verdict ≡ deferred_verdict layout tables row wanted → wanted ≡ wanted_of row tables restart
    → continued_by verdict tables initiator row wanted ≡ deferred_plan layout tables initiator row restart
verdict-plan layout tables initiator row restart wanted verdict is same =
    ap (λ verdict. continued_by verdict tables initiator row wanted) is ∙ ap (λ wanted. continued_by (deferred_verdict layout tables row wanted) tables initiator row wanted) same

-- ---- the spelling

pub denied-spelled : (job rule : ℕ) (name : Option Name) → job < 2 ^ 32 → 17 ≤ rule → rule ≤ 26 → IfSome name (λ text. IsTrue (is_ds_name text)) → IsSpelled (DeniedEvent job rule name)
denied-spelled job rule None j above below grammar = record {
  event = (j, ((omega (arith, below), grind (arith, nat_tests, above, below)), tt));
  counted = tt;
  small = tt;
  short = omega arith;
}
denied-spelled job rule (Some text) j above below grammar =
    let few : length text ≤ 44 = nat_le-true (length text) 44 (and-first (nat_le (length text) 44) (list_all is_name8 (pieces text)) grammar) in
    record {
      event = (j, ((omega (arith, below), grind (arith, nat_tests, above, below)), ds_name-fits text grammar));
      counted = tt;
      small = tt;
      short = omega (arith, few);
    }

pub continued-spelled : (job initiator earlier step : ℕ) (id : Option Name) → job < 2 ^ 32 → initiator < 256 → earlier < 2 ^ 32 → step < 256 → IfSome id (λ text. IsTrue (is_check_id text)) → IsSpelled (SelectedEvent job initiator earlier step id)
continued-spelled job initiator earlier step None j i e s grammar = record { event = (j, (i, (e, (s, tt)))); counted = tt; small = tt; short = omega arith }
continued-spelled job initiator earlier step (Some text) j i e s grammar =
    let sized : (nat_le 1 (length text) && nat_le (length text) 16) ≡ true = and-first (nat_le 1 (length text) && nat_le (length text) 16) (list_all is_name_byte text) grammar in
    let few : length text ≤ 16 = nat_le-true (length text) 16 (and-second (nat_le 1 (length text)) (nat_le (length text) 16) sized) in
    record { event = (j, (i, (e, (s, check_id-fits text grammar)))); counted = tt; small = tt; short = omega (arith, few) }
