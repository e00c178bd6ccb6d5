use Rattle.std.proofs.Common.{true, ◌&&◌, nat_le, List, map, ◌≡◌, ℕ, ◌+◌, Bool, ◌≤◌, ◌++◌, ◌∷◌, [], ap, sym, ◌∙◌, subst, refl, arith, length, None, IsTrue, length-append}
use Rattle.std.specs.List.{list_all}
use Rattle.std.proofs.lemmas.Bool.{and_from}
use Rattle.ckr_base.proofs.Bools.{and-first, and-second}
use Rattle.ckr_points_library.specs.Holdings.{owned}
use Rattle.ckr_uses.specs.Uses.{are_distinct}
use Rattle.ckr_jcl.specs.declared.deck.Job.{Job}
use Rattle.ckr_jcl.specs.declared.deck.Step.{Step}
use Rattle.std.specs.Rc.{rc_value}
use Rattle.std.proofs.lemmas.List.{length-map}
use Rattle.ckr_base.proofs.Numbers.{nat_le-true}
use Rattle.ckr_points.specs.Syschk.{names_its_set}
use Rattle.ckr_points_runs.specs.RunJobs.{IsFitting, JobView, effective, has_few_dds, is_fitting_step, plain_view}
use Rattle.ckr_meaning.specs.EffectiveJob.{HasDistinctNames, OwnedStep, names_of, owned_by, plain_job}
use Rattle.ckr_points.specs.declared.run.Run.{Run}
use Rattle.ckr_points.specs.declared.run.RunState.TheVariants.{Queued}
use Rattle.ckr_points_runs.specs.declared.run_table.RunTable.{RunTable}
use Rattle.ckr_points.specs.Tables.{after_submitted}
use Rattle.ckr_points_tables.specs.BegunRuns.{AreEnded, AreWaiting}
use Rattle.ckr_points_tables.specs.Invariant.{AreRuns, IsIndexOf, IsRun, is_submittable}
use Rattle.ckr_points_runs.specs.Rewrite.{has_master}
use Rattle.ckr_points.specs.Rows.{TablesModel}
use Rattle.ckr_points_runs.specs.View.{RunTableView, row_with, written_of}
use Rattle.ckr_points_runs.specs.RunJobs.{is_within_limits}
use Rattle.ckr_points_tables.specs.View.{rows_of, seen_under, table_in}
use Rattle.ckr_points_tables.proofs.BegunRuns.{ended-append, waiting-append}
use Rattle.ckr_points_tables.proofs.Runs.{index-more, length-rows, rows-more, runs-more}
use Rattle.ckr_points_tables.proofs.Checkpoints.{seen-begun}
use Rattle.ckr_points_tables.proofs.tables.Tables.submit.Goals as goal

-- what is asked of a deck
record IsAsked (number : ℕ) (job : Job) : Type 0 where
  few : number ≤ 9999999
  limits : IsTrue (is_within_limits job)
  fits : IsFitting (plain_job number job)
  distinct : HasDistinctNames (plain_job number job)
  masters : list_all (λ (own : OwnedStep). has_master own.step) (plain_job number job).steps ≡ true
  syschk : names_its_set job.syschk ≡ true

each-mapped : {A B : Type 0} (f : A → B) (test : A → Bool) (other : B → Bool) → ((one : A) → test one ≡ true → other (f one) ≡ true) → (items : List A) → list_all test items ≡ true → list_all other (map f items) ≡ true
each-mapped f test other gives [] all = refl
each-mapped f test other gives (one ∷ items) all = and_from (other (f one)) _ (gives one (and-first (test one) _ all)) (each-mapped f test other gives items (and-second (test one) _ all))

asked : (number : ℕ) (job : Job) → IsTrue (is_submittable number job) → IsAsked number job
asked number job may =
    let most = and-first _ (names_its_set job.syschk) may in
    let all = and-first _ (list_all has_master job.steps) most in
    let first = and-first (nat_le number 9999999 && is_within_limits job) _ all in
    let few = nat_le-true number 9999999 (and-first (nat_le number 9999999) (is_within_limits job) first) in
    let limits = and-second (nat_le number 9999999) (is_within_limits job) first in
    record {
      few = few;
      limits = limits;
      fits = record {
        root = few;
        few = omega (arith, length-map job.steps (owned_by number job), nat_le-true (length job.steps) 64 (and-first (nat_le (length job.steps) 64) _ limits));
        steps =
            each-mapped (owned_by number job) has_few_dds is_fitting_step
            (λ step dds. and_from (nat_le number 9999999) _ (and-first (nat_le number 9999999) (is_within_limits job) first) dds) job.steps (and-second (nat_le (length job.steps) 64) _ limits);
      };
      distinct =
          each-mapped (owned_by number job) (λ (step : Step). are_distinct (names_of number (owned step number []))) (λ (own : OwnedStep). are_distinct (names_of number own)) (λ step is. is) job.steps
          (and-second (nat_le number 9999999 && is_within_limits job) _ all);
      masters = each-mapped (owned_by number job) has_master (λ (own : OwnedStep). has_master own.step) (λ step is. is) job.steps (and-second _ (list_all has_master job.steps) most);
      syschk = and-second _ (names_its_set job.syschk) may;
    }

pub invariant_of-self : goal.invariant_of-self
invariant_of-self c = record {
  kept =
      let line : Run = record { number = c.args.number; name = c.copied.result; state = Queued; initiator = None } in
      let table : RunTable = c.fresh_table.result in
      let lines = c.self.inside.lines.items in
      let tables = c.self.inside.tables.items in
      let lengths = length-rows 1 lines tables c.self.invariant.kept.runs in
      let next : 1 + length tables ≡ c.args.number = omega (arith, c.requires.next, ap (λ v. length v.desk.runs) c.self.view_is, lengths.1) in
      let job : table.job ≡ plain_view c.args.number (rc_value c.args.deck) = ap (λ (facts : RunTableView). facts.job) c.fresh_table.ensures in
      let of_deck = asked c.args.number (rc_value c.args.deck) c.requires.deck in
      let is : IsRun (1 + length tables) line table = record {
        numbered = sym next;
        named = c.copied.ensures ∙ ap (λ (deck : Job). deck.name) c.as_ref.ensures ∙ ap (λ (j : JobView). j.deck.name) (sym job);
        limits = ap (λ (j : JobView). is_within_limits j.deck) job ∙ of_deck.limits;
        fits = subst (λ n. IsFitting (effective n table.job)) (sym next) (subst (λ j. IsFitting (effective c.args.number j)) (sym job) of_deck.fits);
        distinct = subst (λ n. HasDistinctNames (effective n table.job)) (sym next) (subst (λ j. HasDistinctNames (effective c.args.number j)) (sym job) of_deck.distinct);
        masters =
            subst (λ n. list_all (λ (own : OwnedStep). has_master own.step) (effective n table.job).steps ≡ true) (sym next)
            (subst (λ j. list_all (λ (own : OwnedStep). has_master own.step) (effective c.args.number j).steps ≡ true) (sym job) of_deck.masters);
        syschk = ap (λ (j : JobView). names_its_set j.deck.syschk) job ∙ of_deck.syschk;
        free = λ queued. refl;
        taken = subst (λ (j : JobView). length j.taken ≡ j.earlier_step) (sym job) refl;
      } in
      record {
        wide = c.self.invariant.kept.wide;
        filled = c.self.invariant.kept.filled;
        runs = subst (λ all. AreRuns 1 all c.put-2.new.items.items) (sym c.put.ensures) (subst (AreRuns 1 (lines ++ line ∷ [])) (sym c.put-2.ensures) (runs-more 1 lines tables c.self.invariant.kept.runs line table is));
        few = omega (arith, ap length c.put-2.ensures, length-append tables (table ∷ []), next, of_deck.few);
        indexed = subst (IsIndexOf c.self.inside.index) (sym c.put.ensures) (index-more lines c.self.inside.index c.self.invariant.kept.indexed line refl);
        spare = c.self.invariant.kept.spare;
        written =
            ap length c.put-3.ensures ∙ length-append c.self.inside.writings.items (c.new.result ∷ []) ∙ ap (λ n. n + 1) c.self.invariant.kept.written
            ∙ sym (ap length c.put-2.ensures ∙ length-append tables (table ∷ []));
      };
  ended = subst (AreEnded c.self.inside.ended) (sym c.put.ensures) (ended-append c.self.inside.ended c.self.inside.lines.items (record { number = c.args.number; name = c.copied.result; state = Queued; initiator = None } ∷ []) c.self.invariant.ended);
  waits = subst (AreWaiting c.self.inside.changed) (sym c.put.ensures) (waiting-append c.self.inside.changed c.self.inside.lines.items (record { number = c.args.number; name = c.copied.result; state = Queued; initiator = None }) refl c.self.invariant.waits);
}

pub returns : goal.returns
returns c =
    let line : Run = record { number = c.args.number; name = c.copied.result; state = Queued; initiator = None } in
    let table : RunTable = c.fresh_table.result in
    let lines = c.self.inside.lines.items in
    let tables = c.self.inside.tables.items in
    ap (λ sets. let all : TablesModel = record { sets = sets; runs = rows_of c.put.new.items.items c.put-2.new.items.items } in all)
    (ap (λ all. seen_under (table_in (map written_of all)) c.self.inside.library.sets) c.put-3.ensures ∙ seen-begun c.self.inside.writings.items c.new.result c.new.ensures c.self.inside.library.sets)
    ∙ ap (λ runs. let all : TablesModel = record { sets = seen_under (table_in (map written_of c.self.inside.writings.items)) c.self.inside.library.sets; runs = runs } in all)
    (
    ap (λ all. rows_of all c.put-2.new.items.items) c.put.ensures
    ∙ ap (rows_of (lines ++ line ∷ [])) c.put-2.ensures
    ∙ rows-more lines tables (length-rows 1 lines tables c.self.invariant.kept.runs).0 line table
    ∙ ap (λ facts. rows_of lines tables ++ row_with line facts ∷ []) c.fresh_table.ensures
    )
    ∙ ap (λ v. after_submitted c.args.number (rc_value c.args.deck) v.desk) c.self.view_is
