-- The numbers of a step stay in their ranges.
use Rattle.std.proofs.Common.{◌≡◌, ◌<◌, ◌≤◌, ℕ, ◌+◌, ◌*◌, ◌^◌, ◌==◌, Bool, true, false, cond, List, [], length, Option, Some, None, IsSome, refl, ap, sym, ◌∙◌, subst, arith}
use Rattle.std.specs.Prelude.{if◌then◌else◌}
use Rattle.std.proofs.lemmas.Bool.{false≢true}
use Rattle.std.proofs.lemmas.Option.{same_Some}
use Rattle.ckr_base.specs.declared.programs.Heads.{Heads}
use Rattle.ckr_base.specs.declared.programs.NextDue.{NextDue}
use Rattle.ckr_base.specs.declared.programs.NextDue.TheVariants.{Unit as OneUnit, Checkpoint, Cancel, Finished}
use Rattle.ckr_base.specs.declared.programs.UnitDone.{UnitDone}
use Rattle.ckr_base.proofs.Options.{some-not-none}
use Rattle.ckr_jcl.specs.declared.deck.Kind.{Kind}
use Rattle.ckr_jcl.specs.declared.deck.Parm.{Parm}
use Rattle.ckr_entry.specs.declared.point.State.{State}
use Rattle.ckr_entry.specs.declared.point.State.TheVariants.{Plain, Matched}
use Rattle.ckr_programs.specs.declared.state.ProgState.{ProgState}
use Rattle.ckr_programs.specs.Ranges.{IsInRange}
use Rattle.ckr_programs.specs.Records.{can_take}
use Rattle.ckr_programs.specs.State as plain
use Rattle.ckr_programs.specs.Steps as plain_steps
use Rattle.ckr_match.specs.declared.state.MatchState.{MatchState}
use Rattle.ckr_match.specs.declared.steps.RecordStep.{RecordStep}
use Rattle.ckr_match.specs.Steps.{input_number}
use Rattle.ckr_match.specs.State as matched
use Rattle.ckr_match.specs.Steps as matched_steps
use Rattle.ckr_match.specs.Images.{keys_of}
use Rattle.ckr_match.specs.InputOrder.{Taken, Keys, chosen, taken_of}
use Rattle.ckr_match.specs.Work.{rejects_in}
use Rattle.ckr_steps.specs.Units.{IsCounted, first_state, state_for, served_of, entries_of}

-- before the first record
pub first_counted : (kind : Kind) (parm : Parm) → IsInRange parm → IsCounted parm (first_state kind) 0
unfolding first_state
first_counted kind parm range = by (matched.has_two_inputs kind)
  where
    by : (two : Bool) → IsCounted parm (state_for two kind) 0
    by false = record { field = range.sum; key = range.key; first = omega arith; second = omega arith; rejects = omega arith; entries = omega arith; sum = omega arith; writes = omega arith }
    by true = record { field = range.sum; key = range.key; first = omega arith; second = omega arith; rejects = omega arith; entries = omega arith; sum = omega arith; writes = omega arith }

written_one : (written : Bool) (entries : ℕ) → entries ≤ 1000000 → (written ≡ true → entries < 1000000) → entries + (if written then 1 else 0) ≤ 1000000
written_one true entries le less = let more : entries < 1000000 = less refl in omega arith
written_one false entries le less = omega arith

-- once what is due is done
pub served_counted : (parm : Parm) (state : State) (made : ℕ) (written : Bool) → IsCounted parm state made → (written ≡ true → entries_of state < 1000000) → IsCounted parm (served_of parm written state) made
unfolding served_of
served_counted parm (Plain state) made written counted less = by (plain.due_in parm state)
  where
    by : (due : NextDue) → IsCounted parm (Plain (plain.served_state due written state)) made
    by OneUnit = counted
    by Checkpoint = record { field = counted.field; key = counted.key; first = counted.first; second = counted.second; rejects = counted.rejects; entries = written_one written state.entries counted.entries less; sum = counted.sum; writes = counted.writes }
    by Cancel = record { field = counted.field; key = counted.key; first = counted.first; second = counted.second; rejects = counted.rejects; entries = counted.entries; sum = counted.sum; writes = counted.writes }
    by (Finished rc) = counted
served_counted parm (Matched state) made written counted less = by (matched.due_in parm state)
  where
    by : (due : NextDue) → IsCounted parm (Matched (matched.served_state due written state)) made
    by OneUnit = counted
    by Checkpoint = record { field = counted.field; key = counted.key; first = counted.first; second = counted.second; rejects = counted.rejects; entries = written_one written state.entries counted.entries less; sum = counted.sum; writes = counted.writes }
    by Cancel = record { field = counted.field; key = counted.key; first = counted.first; second = counted.second; rejects = counted.rejects; entries = counted.entries; sum = counted.sum; writes = counted.writes }
    by (Finished rc) = counted

-- ---- a unit of a program of one input

module _ (parm : Parm) (state new : ProgState) (done : UnitDone) (made more : ℕ) (counted : IsCounted parm (Plain state) made) (open_yet : state.closed ≡ false)
    (bound : new.sum < state.sum + 10 ^ 15) (few : more ≤ 4) (fits : more ≤ length done.writes.items) where
  abbrev Next : Type 0
  Next = IsCounted parm (Plain new) (made + more)

  kept : (n : ProgState) → new ≡ n → IsCounted parm (Plain n) (made + more) → Next
  kept n is counts = subst (λ s. IsCounted parm (Plain s) (made + more)) (sym is) counts

  old_writes : made ≤ 3000000 + 4 * (state.first + state.second)
  old_writes = let w : made ≤ 3000000 + 4 * (state.first + state.second) + 0 = subst (λ b. made ≤ 3000000 + 4 * (state.first + state.second) + (if b then 4 else 0)) open_yet counted.writes in omega arith

  at_close : new ≡ plain_steps.closed_state state → Next
  at_close is = kept (plain_steps.closed_state state) is (record {
    field = counted.field;
    key = counted.key;
    first = counted.first;
    second = counted.second;
    rejects = counted.rejects;
    entries = counted.entries;
    sum = counted.sum;
    writes = omega (arith, old_writes, few);
  })

  at_taken : (n : ProgState) → new ≡ n → n.first ≡ state.first + 1 → n.second ≡ state.second → n.rejects ≡ state.rejects → n.entries ≡ state.entries → n.closed ≡ state.closed → state.first < 1000000 → Next
  at_taken n is first second rejects entries closed less =
      let sum : n.sum < state.sum + 10 ^ 15 = subst (λ (s : ProgState). s.sum < state.sum + 10 ^ 15) is bound in
      kept n is (record {
        field = counted.field;
        key = counted.key;
        first = omega arith;
        second = omega (arith, counted.second);
        rejects = omega (arith, counted.rejects);
        entries = omega (arith, counted.entries);
        sum = omega (arith, counted.sum);
        writes = subst (λ b. made + more ≤ 3000000 + 4 * (n.first + n.second) + (if b then 4 else 0)) (sym (closed ∙ open_yet)) (omega (arith, old_writes, few));
      })

  at_stuck : new ≡ state → done.writes.items ≡ [] → Next
  at_stuck is none =
      let nothing : more ≤ 0 = subst (λ (w : List _). more ≤ length w) none fits in
      kept state is (subst (IsCounted parm (Plain state)) (let e : made ≡ made + more = omega arith in e) counted)

  by_take : (can : Bool) (taking stuck : UnitDone) (n : ProgState) → stuck.writes.items ≡ [] → n.first ≡ state.first + 1 → n.second ≡ state.second → n.rejects ≡ state.rejects → n.entries ≡ state.entries → n.closed ≡ state.closed → state.first < 1000000
      → done ≡ cond can taking stuck → new ≡ cond can n state → Next
  by_take true taking stuck n none first second rejects entries closed less is state_is = at_taken n state_is first second rejects entries closed less
  by_take false taking stuck n none first second rejects entries closed less is state_is = at_stuck state_is (ap (λ (d : UnitDone). d.writes.items) is ∙ none)

  pub plain_counted : (head : Option (List ℕ)) → (IsSome head → state.first < 1000000) → done ≡ plain_steps.unit_of parm state head → new ≡ plain_steps.state_of parm state head → Next
  unfolding plain_steps.unit_of plain_steps.state_of
  plain_counted None less is state_is = at_close state_is
  plain_counted (Some bytes) less is state_is = by_take (can_take state.kind parm bytes) _ _ _ refl refl refl refl refl refl (less refl) is state_is

-- ---- a unit of a program of two inputs

pub chosen_first : (keys : Keys) (first second : Option (List ℕ)) (next : Taken) → chosen keys first second ≡ Some next → next.second ≡ false → IsSome first
chosen_first keys None None next is from = absurd (some-not-none next (sym is))
chosen_first keys (Some f) second next is from = refl
chosen_first keys None (Some s) next is from = absurd (false≢true (sym (ap (λ (t : Taken). t.second) (same_Some (taken_of true s) next is) ∙ from)))

chosen_second : (keys : Keys) (first second : Option (List ℕ)) (next : Taken) → chosen keys first second ≡ Some next → next.second ≡ true → IsSome second
chosen_second keys None None next is from = absurd (some-not-none next (sym is))
chosen_second keys first (Some s) next is from = refl
chosen_second keys (Some f) None next is from = absurd (false≢true (ap (λ (t : Taken). t.second) (same_Some (taken_of false f) next is) ∙ from))

module _ (parm : Parm) (state new : MatchState) (done : UnitDone) (made more : ℕ) (counted : IsCounted parm (Matched state) made) (open_yet : state.closed ≡ false)
    (rejected : rejects_in done.writes.items ≤ (if done.taken == 2 then 1 else 0)) (few : more ≤ 4) (fits : more ≤ length done.writes.items) where
  abbrev NextTwo : Type 0
  NextTwo = IsCounted parm (Matched new) (made + more)

  kept_two : (n : MatchState) → new ≡ n → IsCounted parm (Matched n) (made + more) → NextTwo
  kept_two n is counts = subst (λ s. IsCounted parm (Matched s) (made + more)) (sym is) counts

  old_writes_two : made ≤ 3000000 + 4 * (state.first + state.second)
  old_writes_two = let w : made ≤ 3000000 + 4 * (state.first + state.second) + 0 = subst (λ b. made ≤ 3000000 + 4 * (state.first + state.second) + (if b then 4 else 0)) open_yet counted.writes in omega arith

  at_close_two : new ≡ matched_steps.closed_state state → NextTwo
  at_close_two is = kept_two (matched_steps.closed_state state) is (record {
    field = counted.field;
    key = counted.key;
    first = counted.first;
    second = counted.second;
    rejects = counted.rejects;
    entries = counted.entries;
    sum = omega arith;
    writes = omega (arith, old_writes_two, few);
  })

  at_stuck_two : new ≡ state → done.writes.items ≡ [] → NextTwo
  at_stuck_two is none =
      let nothing : more ≤ 0 = subst (λ (w : List _). more ≤ length w) none fits in
      kept_two state is (subst (IsCounted parm (Matched state)) (let e : made ≡ made + more = omega arith in e) counted)

  at_first : (n : MatchState) → new ≡ n → n.first ≡ state.first + 1 → n.second ≡ state.second → n.rejects ≡ state.rejects + rejects_in done.writes.items → n.entries ≡ state.entries → n.closed ≡ state.closed → done.taken ≡ 1 → state.first < 1000000 → NextTwo
  at_first n is first second rejects entries closed taken less =
      let none : rejects_in done.writes.items ≤ 0 = subst (λ k. rejects_in done.writes.items ≤ (if k == 2 then 1 else 0)) taken rejected in
      kept_two n is (record {
        field = counted.field;
        key = counted.key;
        first = omega arith;
        second = omega (arith, counted.second);
        rejects = omega (arith, counted.rejects);
        entries = omega (arith, counted.entries);
        sum = omega arith;
        writes = subst (λ b. made + more ≤ 3000000 + 4 * (n.first + n.second) + (if b then 4 else 0)) (sym (closed ∙ open_yet)) (omega (arith, old_writes_two, few));
      })

  at_second : (n : MatchState) → new ≡ n → n.first ≡ state.first → n.second ≡ state.second + 1 → n.rejects ≡ state.rejects + rejects_in done.writes.items → n.entries ≡ state.entries → n.closed ≡ state.closed → done.taken ≡ 2 → state.second < 1000000 → NextTwo
  at_second n is first second rejects entries closed taken less =
      let one : rejects_in done.writes.items ≤ 1 = subst (λ k. rejects_in done.writes.items ≤ (if k == 2 then 1 else 0)) taken rejected in
      kept_two n is (record {
        field = counted.field;
        key = counted.key;
        first = omega (arith, counted.first);
        second = omega arith;
        rejects = omega (arith, counted.rejects);
        entries = omega (arith, counted.entries);
        sum = omega arith;
        writes = subst (λ b. made + more ≤ 3000000 + 4 * (n.first + n.second) + (if b then 4 else 0)) (sym (closed ∙ open_yet)) (omega (arith, old_writes_two, few));
      })

  by_next : (bytes : List ℕ) (next : Bool) (step : RecordStep) (key : List ℕ) (stuck : UnitDone) (second : Bool) → stuck.writes.items ≡ [] → (second ≡ false → state.first < 1000000) → (second ≡ true → state.second < 1000000)
      → done ≡ cond next (record { taken = input_number second; writes = step.writes; finish = None }) stuck → new ≡ cond next (matched_steps.counted second key step state) state → NextTwo
  by_next bytes true step key stuck false none first second is state_is =
      at_first (matched_steps.counted false key step state) state_is refl refl (ap (λ (d : UnitDone). state.rejects + rejects_in d.writes.items) (sym is)) refl refl (ap (λ (d : UnitDone). d.taken) is) (first refl)
  by_next bytes true step key stuck true none first second is state_is =
      at_second (matched_steps.counted true key step state) state_is refl refl (ap (λ (d : UnitDone). state.rejects + rejects_in d.writes.items) (sym is)) refl refl (ap (λ (d : UnitDone). d.taken) is) (second refl)
  by_next bytes false step key stuck which none first second is state_is = at_stuck_two state_is (ap (λ (d : UnitDone). d.writes.items) is ∙ none)

  by_chosen : (heads : Heads) → (IsSome heads.first → state.first < 1000000) → (IsSome heads.second → state.second < 1000000) → (next : Option Taken) → chosen (keys_of state.kind parm) heads.first heads.second ≡ next
      → done ≡ matched_steps.unit_for parm state next → new ≡ matched_steps.state_behind parm state next → NextTwo
  by_chosen heads first second None e is state_is = at_close_two state_is
  by_chosen heads first second (Some next) e is state_is =
      by_next next.bytes (matched_steps.is_next state next.second (matched_steps.key_at parm state next.second next.bytes)) (matched_steps.step_of state.kind parm state next.second next.bytes) (matched_steps.key_at parm state next.second next.bytes) _ next.second refl
      (λ from. first (chosen_first (keys_of state.kind parm) heads.first heads.second next e from))
      (λ from. second (chosen_second (keys_of state.kind parm) heads.first heads.second next e from))
      is state_is

  pub match_counted : (heads : Heads) → (IsSome heads.first → state.first < 1000000) → (IsSome heads.second → state.second < 1000000) → done ≡ matched_steps.unit_of parm state heads → new ≡ matched_steps.state_of parm state heads → NextTwo
  unfolding matched_steps.unit_of matched_steps.state_of
  match_counted heads first second is state_is = by_chosen heads first second (chosen (keys_of state.kind parm) heads.first heads.second) refl is state_is

not_unit : (rc : ℕ) → Finished rc ≡ OneUnit → ⊥
not_unit rc is = cc

-- where a unit is due, the closing unit isn't done
pub open_yet : (closed : Bool) (rc : ℕ) (other : NextDue) → (if closed then Finished rc else other) ≡ OneUnit → closed ≡ false
open_yet true rc other is = absurd (not_unit rc is)
open_yet false rc other is = refl
