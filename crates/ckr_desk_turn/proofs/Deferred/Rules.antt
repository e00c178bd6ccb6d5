-- Where the deferred rules permit a restart none of them holds; where one denies it, the denial is told by that rule, and by a rule on data sets it
-- names one.
use Rattle.std.proofs.Common.{◌≡◌, ℕ, Bool, true, false, not, ◌&&◌, List, [], ◌∷◌, refl, ap, sym, ◌∙◌, Option, Some, None}
use Rattle.std.specs.Prelude.{if◌then◌else◌}
use Rattle.std.specs.Option.{is_some, option_map, option_map_or, option_or}
use Rattle.std.proofs.lemmas.Bool.{false≢true}
use Rattle.std.proofs.lemmas.Option.{same_Some}
use Rattle.ckr_base.proofs.Bools.{bool-cases}
use Rattle.ckr_base.proofs.Options.{option-cases}
use Rattle.ckr_entry.specs.declared.point.Mark.{Mark}
use Rattle.ckr_entry.specs.declared.point.Present.{Present}
use Rattle.ckr_library.specs.NameMaps.{Name, Named, entry_at}
use Rattle.ckr_meaning.specs.EffectiveJob.{OwnedStep, is_among, step_at}
use Rattle.ckr_points.specs.Denials.{denial_of, tells_a_name}
use Rattle.ckr_points.specs.Freshness.{changed_denial, first_stale, is_long_enough, is_of_wrong_kind, named_denial, plain_denial, stale_at, stale_by, stale_present}
use Rattle.ckr_points.specs.Marks.{point_at, same_stamp}
use Rattle.ckr_points.specs.RuleCases.{Wanted, deferred_case, entry_denial, stale_denial, start_denial}
use Rattle.ckr_points.specs.Rows.{KeptEntry, RunRow, TableSet, TablesModel}
use Rattle.ckr_points_library.specs.Commit.{output_names}
use Rattle.ckr_points.specs.declared.denial.Denial.{Denial}
use Rattle.ckr_rules.specs.RuleTables.{deferred, first_line, stale_line}
use Rattle.ckr_rules.specs.declared.cases.DeferredCase.{DeferredCase}
use Rattle.ckr_rules.specs.declared.cases.Rule.{Rule}
use Rattle.ckr_rules.specs.declared.cases.Rule.TheVariants.{D1, D2, D3, D4, D5, D6, D7, D8, D9}
use Rattle.ckr_rules.specs.declared.cases.Verdict.{Verdict}
use Rattle.ckr_rules.specs.declared.cases.Verdict.TheVariants.{Step, Checkpoint, Denied}

-- a verdict that permits
abbrev pub permits : Verdict → Bool
permits Step = true
permits Checkpoint = true
permits (Denied rule) = false

-- none of the rules holds, and a restart at a checkpoint is one there
pub record IsPassed (case : DeferredCase) (verdict : Verdict) : Type 0 where
  pub known : case.known ≡ true
  pub found_entry : case.checkpoint ≡ true → case.found_entry ≡ true
  pub same_job_step : case.checkpoint ≡ true → case.same_job_step ≡ true
  pub ended : case.ended ≡ true
  pub reached : case.reached ≡ true
  pub same_statements : case.same_statements ≡ true
  pub fresh : case.stale ≡ None
  pub how : (if case.checkpoint then Checkpoint else Step) ≡ verdict

-- a line that denies doesn't hold where the verdict permits
line-off : (holds : Bool) (rule : Rule) (lines : List (Bool × Verdict)) (verdict : Verdict) → permits verdict ≡ true → first_line ((holds, Denied rule) ∷ lines) Step ≡ verdict → (holds ≡ false) × (first_line lines Step ≡ verdict)
line-off true rule lines verdict permitted is = absurd (false≢true (ap permits is ∙ permitted))
line-off false rule lines verdict permitted is = (refl, is)

stale-off : (stale : Option Rule) (lines : List (Bool × Verdict)) (verdict : Verdict) → permits verdict ≡ true → first_line (stale_line stale ∷ lines) Step ≡ verdict → (stale ≡ None) × (first_line lines Step ≡ verdict)
stale-off None lines verdict permitted is = (refl, is)
stale-off (Some rule) lines verdict permitted is = absurd (false≢true (ap permits is ∙ permitted))

not-off : (b : Bool) → not b ≡ false → b ≡ true
not-off true off = refl
not-off false off = absurd (false≢true (sym off))

and-off : (a b : Bool) → (a && not b) ≡ false → a ≡ true → b ≡ true
and-off true true off is = refl
and-off true false off is = absurd (false≢true (sym off))
and-off false b off is = absurd (false≢true is)

last-line : (checkpoint : Bool) (verdict : Verdict) → first_line ((checkpoint, Checkpoint) ∷ []) Step ≡ verdict → (if checkpoint then Checkpoint else Step) ≡ verdict
last-line true verdict is = is
last-line false verdict is = is

-- ---- the lines behind each rule

abbrev behind_7 : DeferredCase → List (Bool × Verdict)
behind_7 case = stale_line case.stale ∷ (case.checkpoint, Checkpoint) ∷ []

abbrev behind_6 : DeferredCase → List (Bool × Verdict)
behind_6 case = (not case.same_statements, Denied D7) ∷ behind_7 case

abbrev behind_5 : DeferredCase → List (Bool × Verdict)
behind_5 case = (not case.reached, Denied D6) ∷ behind_6 case

abbrev behind_4 : DeferredCase → List (Bool × Verdict)
behind_4 case = (not case.ended, Denied D5) ∷ behind_5 case

abbrev behind_3 : DeferredCase → List (Bool × Verdict)
behind_3 case = (case.checkpoint && not case.same_job_step, Denied D4) ∷ behind_4 case

abbrev behind_2 : DeferredCase → List (Bool × Verdict)
behind_2 case = (case.checkpoint && not case.found_entry, Denied D3) ∷ behind_3 case

abbrev behind_1 : DeferredCase → List (Bool × Verdict)
behind_1 case = (case.checkpoint && not case.found_set, Denied D2) ∷ behind_2 case

pub passed-so : (case : DeferredCase) (verdict : Verdict) → permits verdict ≡ true → deferred case ≡ verdict → IsPassed case verdict
passed-so case verdict permitted is =
    let from_1 = line-off (not case.known) D1 (behind_1 case) verdict permitted is in
    let from_2 = line-off (case.checkpoint && not case.found_set) D2 (behind_2 case) verdict permitted from_1.1 in
    let from_3 = line-off (case.checkpoint && not case.found_entry) D3 (behind_3 case) verdict permitted from_2.1 in
    let from_4 = line-off (case.checkpoint && not case.same_job_step) D4 (behind_4 case) verdict permitted from_3.1 in
    let from_5 = line-off (not case.ended) D5 (behind_5 case) verdict permitted from_4.1 in
    let from_6 = line-off (not case.reached) D6 (behind_6 case) verdict permitted from_5.1 in
    let from_7 = line-off (not case.same_statements) D7 (behind_7 case) verdict permitted from_6.1 in
    let from_8 = stale-off case.stale ((case.checkpoint, Checkpoint) ∷ []) verdict permitted from_7.1 in
    record {
      known = not-off case.known from_1.0;
      found_entry = and-off case.checkpoint case.found_entry from_3.0;
      same_job_step = and-off case.checkpoint case.same_job_step from_4.0;
      ended = not-off case.ended from_5.0;
      reached = not-off case.reached from_6.0;
      same_statements = not-off case.same_statements from_7.0;
      fresh = from_8.0;
      how = last-line case.checkpoint verdict from_8.1;
    }

-- ---- a rule that tells a data set

-- another line isn't the one that denies by it
line-past : (holds : Bool) (other : Rule) (lines : List (Bool × Verdict)) (rule : Rule) → tells_a_name other ≡ false → tells_a_name rule ≡ true → first_line ((holds, Denied other) ∷ lines) Step ≡ Denied rule → first_line lines Step ≡ Denied rule
line-past true other lines rule plain tells is = absurd (false≢true (sym plain ∙ ap tells_a_name (same is) ∙ tells))
  where
    same : Denied other ≡ Denied rule → other ≡ rule
    same e = cc
line-past false other lines rule plain tells is = is

stale-line : (stale : Option Rule) (checkpoint : Bool) (rule : Rule) → first_line (stale_line stale ∷ (checkpoint, Checkpoint) ∷ []) Step ≡ Denied rule → stale ≡ Some rule
stale-line (Some other) checkpoint rule is = cc
stale-line None true rule is = cc
stale-line None false rule is = cc

stale-so : (case : DeferredCase) (rule : Rule) → tells_a_name rule ≡ true → deferred case ≡ Denied rule → case.stale ≡ Some rule
stale-so case rule tells is =
    stale-line case.stale case.checkpoint rule
    (line-past (not case.same_statements) D7 (behind_7 case) rule refl tells
    (line-past (not case.reached) D6 (behind_6 case) rule refl tells
    (line-past (not case.ended) D5 (behind_5 case) rule refl tells
    (line-past (case.checkpoint && not case.same_job_step) D4 (behind_4 case) rule refl tells
    (line-past (case.checkpoint && not case.found_entry) D3 (behind_3 case) rule refl tells
    (line-past (case.checkpoint && not case.found_set) D2 (behind_2 case) rule refl tells
    (line-past (not case.known) D1 (behind_1 case) rule refl tells is)))))))

-- The denial that is told is by the rule that denies.
pub denial-rule : (serials : List Name) (row : RunRow) (wanted : Wanted) (tables : TablesModel) (rule : Rule) → deferred (deferred_case serials row wanted tables) ≡ Denied rule → (denial_of row wanted tables rule).rule ≡ rule
denial-rule serials row wanted tables rule is =
    bool-cases (tells_a_name rule)
    (λ tells.
    ap (λ b. (if b then option_map_or (λ denial. denial) (stale_denial row wanted tables) (plain_denial rule) else plain_denial rule).rule) tells
    ∙ told (stale_denial row wanted tables) (stale-so (deferred_case serials row wanted tables) rule tells is))
    (λ plain. ap (λ b. (if b then option_map_or (λ denial. denial) (stale_denial row wanted tables) (plain_denial rule) else plain_denial rule).rule) plain)
  where
    told : (denial : Option Denial) → option_map (λ (denial : Denial). denial.rule) denial ≡ Some rule → (option_map_or (λ denial. denial) denial (plain_denial rule)).rule ≡ rule
    told None e = refl
    told (Some denial) e = same_Some denial.rule rule e

-- A denial by a rule that tells a data set is that of one that isn't fresh.
pub denial-stale : (serials : List Name) (row : RunRow) (wanted : Wanted) (tables : TablesModel) (rule : Rule) → tells_a_name rule ≡ true → deferred (deferred_case serials row wanted tables) ≡ Denied rule → stale_denial row wanted tables ≡ Some (denial_of row wanted tables rule)
denial-stale serials row wanted tables rule tells is = by (stale_denial row wanted tables) refl (stale-so (deferred_case serials row wanted tables) rule tells is)
  where
    by : (denial : Option Denial) → stale_denial row wanted tables ≡ denial → option_map (λ (denial : Denial). denial.rule) denial ≡ Some rule → stale_denial row wanted tables ≡ Some (denial_of row wanted tables rule)
    by None found e = cc
    by (Some denial) found e =
        found
        ∙ sym (
        ap (λ b. Some (if b then option_map_or (λ denial. denial) (stale_denial row wanted tables) (plain_denial rule) else plain_denial rule)) tells
        ∙ ap (λ (o : Option Denial). Some (option_map_or (λ denial. denial) o (plain_denial rule))) found)

-- ---- the data set that it tells

module _ (denial : Denial) where
  at-some : {X : Type 0} (o : Option X) (f : X → Option Denial) → ((x : X) → f x ≡ Some denial → is_some denial.name ≡ true) → option_map_or f o None ≡ Some denial → is_some denial.name ≡ true
  at-some None f named e = cc
  at-some (Some x) f named e = named x e

  at-choice : (b : Bool) (one other : Option Denial) → (one ≡ Some denial → is_some denial.name ≡ true) → (other ≡ Some denial → is_some denial.name ≡ true) → (if b then one else other) ≡ Some denial → is_some denial.name ≡ true
  at-choice true one other first second e = first e
  at-choice false one other first second e = second e

  told-named : (told : Denial) → is_some told.name ≡ true → Some told ≡ Some denial → is_some denial.name ≡ true
  told-named told named e = ap (λ (one : Denial). is_some one.name) (sym (same_Some told denial e)) ∙ named

  module _ (root : ℕ) (owned : OwnedStep) where
    present-named : (name : Name) (present : Present) (table : Option TableSet) → stale_present root owned name present table ≡ Some denial → is_some denial.name ≡ true
    present-named name present None e = told-named (named_denial D8 name) refl e
    present-named name present (Some table) e =
        at-choice
        (same_stamp table.set.stamp present.stamp && is_long_enough (is_among (output_names root owned) name) present.length table.set.length && not (is_of_wrong_kind root owned name table))
        None (Some (changed_denial name present table)) (λ none. cc) (told-named (changed_denial name present table) refl) e

    by-named : (name : Name) (present : Option Present) (table : Option TableSet) → stale_by root owned name present table ≡ Some denial → is_some denial.name ≡ true
    by-named name (Some present) table e = present-named name present table e
    by-named name None None e = cc
    by-named name None (Some table) e = told-named (named_denial D9 name) refl e

    first-named : (sets : Named TableSet) (marks : List Mark) → first_stale root owned sets marks ≡ Some denial → is_some denial.name ≡ true
    first-named sets [] e = cc
    first-named sets (mark ∷ marks) e =
        option-cases (stale_at root owned sets mark)
        (λ none. first-named sets marks (sym (ap (λ (o : Option Denial). option_or o (first_stale root owned sets marks)) none) ∙ e))
        (λ one at. by-named mark.name mark.present (entry_at sets mark.name) (at ∙ sym (ap (λ (o : Option Denial). option_or o (first_stale root owned sets marks)) at) ∙ e))

pub denial-named : (row : RunRow) (wanted : Wanted) (tables : TablesModel) (denial : Denial) → stale_denial row wanted tables ≡ Some denial → is_some denial.name ≡ true
denial-named row wanted tables denial found =
    at-some denial wanted.earlier _
    (λ earlier.
    at-some denial (step_at earlier.job wanted.number) _
    (λ owned.
    at-choice denial wanted.checkpoint
    (option_map_or (λ (entry : KeptEntry). entry_denial row earlier wanted.number owned entry.point tables) wanted.entry None)
    (start_denial row earlier wanted.number owned tables)
    (at-some denial wanted.entry _ (λ entry. first-named denial earlier.job.root owned tables.sets _))
    (at-some denial (point_at earlier.points wanted.number) _ (λ point. first-named denial earlier.job.root owned tables.sets _))))
    found
