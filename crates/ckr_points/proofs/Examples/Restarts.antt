-- Deferred restarts of runs that were continued themselves: the step that is named, and the passed names that exist.
use Rattle.std.specs.Prelude.{◌≡◌, ℕ, true, false, List, [], ◌∷◌, ◌++◌, codes, map, None, Some, refl}
use Rattle.ckr_jcl.specs.declared.deck.Dd.{Dd}
use Rattle.ckr_jcl.specs.declared.deck.Job.{Job}
use Rattle.ckr_jcl.specs.declared.deck.Origin.TheVariants.{Named as NamedOrigin}
use Rattle.ckr_jcl.specs.declared.deck.Role.TheVariants.{Unused}
use Rattle.ckr_jcl.specs.declared.deck.Status.TheVariants.{Old}
use Rattle.ckr_jcl.specs.declared.deck.After.TheVariants.{Pass}
use Rattle.ckr_entry.specs.declared.point.Mark.{Mark}
use Rattle.ckr_entry.specs.declared.point.Passed.{Passed}
use Rattle.ckr_library.specs.declared.sets.Content.TheVariants.{Plain}
use Rattle.ckr_library.specs.NameMaps.{Name}
use Rattle.ckr_meaning.specs.EffectiveJob.{plain_job}
use Rattle.ckr_meaning.specs.declared.place.Place.TheVariants.{Opened, Within}
use Rattle.ckr_rules.specs.RuleTables.{deferred}
use Rattle.ckr_rules.specs.declared.cases.Rule.TheVariants.{D6, D7}
use Rattle.ckr_rules.specs.declared.cases.Verdict.{Verdict}
use Rattle.ckr_rules.specs.declared.cases.Verdict.TheVariants.{Step, Denied}
use Rattle.ckr_points.specs.declared.run.RunState.TheVariants.{On, Ended}
use Rattle.ckr_points.specs.Follows.{may_continue}
use Rattle.ckr_points.specs.Marks.{deck_names, has_passed, lost_names, mark_now, own_names}
use Rattle.ckr_points.specs.Restart.{spliced}
use Rattle.ckr_points.specs.Rows.{RunRow, StartPoint, TableSet, TablesModel}
use Rattle.ckr_points.specs.RuleCases.{deferred_case, number_named, wanted_of}
use Rattle.ckr_points.specs.Tables.{queued_run}
use Rattle.ckr_points.proofs.Examples.Jobs.{deck, step}

abbrev point : ℕ → List Mark → StartPoint
point number marks = record { step = number; restarts = 0; rewritten = false; count = 0; marks = marks; passed = [] }

-- ---- the step that is named

-- run 1 has the steps A and B; run 2 is X, B, A, continues run 1 at B, and ends in its own A
abbrev first : RunRow
first = record (queued_run 1 (deck None (step (codes "A") [] ∷ step (codes "B") [] ∷ []))) {
  state = Ended;
  place = Some (Within 2 0);
  points = point 1 [] ∷ point 2 [] ∷ [];
}

abbrev second_deck : Job
second_deck = deck (Some (record { step = 2; id = None })) (step (codes "X") [] ∷ step (codes "B") [] ∷ step (codes "A") [] ∷ [])

abbrev second : RunRow
second = record (queued_run 2 second_deck) {
  job = spliced first.job 2 2 second_deck;
  state = Ended;
  earlier = 1;
  earlier_step = 2;
  place = Some (Within 3 0);
  points = point 2 [] ∷ point 3 [] ∷ [];
}

-- the steps that it executed itself are B and its own A; the A of run 1 stands before them
its_own : number_named second (codes "A") ≡ 3
its_own = refl

where_it_began : number_named second (codes "B") ≡ 2
where_it_began = refl

-- a third run of these steps asks to be continued at one of them
abbrev third : ℕ → List Name → RunRow
third number names = queued_run 3 (deck (Some (record { step = number; id = None })) (map (λ name. step name []) names))

abbrev behind_two : RunRow
behind_two = third 3 (codes "X" ∷ codes "Y" ∷ codes "A" ∷ [])

abbrev all_runs : RunRow → TablesModel
all_runs row = record { sets = []; runs = first ∷ second ∷ row ∷ [] }

abbrev verdict : RunRow → ℕ → Verdict
verdict row number = deferred (deferred_case [] row (wanted_of row (all_runs row) (record { step = number; id = None })) (all_runs row))

permitted : verdict behind_two 3 ≡ Step
permitted = refl

continued : may_continue (all_runs behind_two) behind_two second (wanted_of behind_two (all_runs behind_two) (record { step = 3; id = None })) ≡ true
continued = refl

-- run 2 began behind its X, and didn't execute it
not_executed : verdict (third 1 (codes "X" ∷ codes "Y" ∷ [])) 1 ≡ Denied D6
not_executed = refl

-- its A is its third step, not its first
at_another_place : verdict (third 1 (codes "A" ∷ codes "Y" ∷ [])) 1 ≡ Denied D7
at_another_place = refl

-- ---- passed names that exist

-- X.P is passed on by the first step
abbrev passing : Dd
passing = record {
  name = codes "P";
  role = Unused;
  origin = NamedOrigin (codes "X.P");
  disp = record { status = Old; normal = Some Pass; abnormal = None };
  volumes = record { items = [] };
  space = None;
  lrecl = 0;
}

-- X.P with a length, stamped by a run
abbrev its_set : ℕ → ℕ → TableSet
its_set run length = record {
  set = record {
    parts = record { items = [] };
    cataloged = true;
    lrecl = 80;
    space = 10;
    length = length;
    stamp = record { run = run; step = 1; rewrites = 0 };
    content = Plain;
  };
  entries = [];
}

-- a run that continues run 1 at its second step, where X.P was as it is marked; its own deck names X.P or not
abbrev continuing : List Dd → RunRow
continuing dds = record (queued_run 2 (deck (Some (record { step = 2; id = None })) (step (codes "A") dds ∷ step (codes "B") [] ∷ []))) {
  job = spliced (plain_job 1 (deck None (step (codes "A") (passing ∷ []) ∷ step (codes "B") [] ∷ []))) 2 2
      (deck None (step (codes "A") dds ∷ step (codes "B") [] ∷ []));
  state = On;
  earlier = 1;
  earlier_step = 2;
  place = Some (Opened 2);
  points = point 2 (mark_now ((codes "X.P", its_set 9 4) ∷ []) (codes "X.P") ∷ []) ∷ [];
}

abbrev passed_on : List Passed
passed_on = record { name = codes "X.P"; made = false } ∷ []

-- the names that it loses, where the tables have X.P so
abbrev lost : RunRow → TableSet → List Name
lost row table =
    lost_names (mark_now ((codes "X.P", its_set 9 4) ∷ []) (codes "X.P") ∷ []) (own_names row ++ deck_names row.job.root row.number row.deck) ((codes "X.P", table) ∷ []) passed_on

exists_still : lost (continuing (passing ∷ [])) (its_set 9 4) ≡ []
exists_still = refl

-- the deck of the run doesn't name it
unnamed : lost (continuing []) (its_set 9 4) ≡ codes "X.P" ∷ []
unnamed = refl

-- it has another stamp, or another length
stamped_since : lost (continuing (passing ∷ [])) (its_set 7 4) ≡ codes "X.P" ∷ []
stamped_since = refl

grown_since : lost (continuing (passing ∷ [])) (its_set 9 5) ≡ codes "X.P" ∷ []
grown_since = refl

-- the run has the others of its job's passed list
what_is_left : has_passed (record (continuing (passing ∷ [])) { passed = record { name = codes "X.Q"; made = true } ∷ passed_on; lost = codes "X.P" ∷ [] }) ≡ record { name = codes "X.Q"; made = true } ∷ []
what_is_left = refl
