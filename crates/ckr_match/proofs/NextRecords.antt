-- What one record more makes of the work, and what the code makes of it.
use Rattle.std.proofs.Common.{◌≡◌, ◌≤◌, ℕ, zero, suc, ◌+◌, ◌-◌, Bool, true, false, not, cond, if◌then◌else◌, eqb, List, [], ◌∷◌, ◌++◌, map, length, take, Option, Some, None, refl, sym, ap, ◌∙◌, subst, arith, append-nil}
use Rattle.std.specs.List.{last_or, list_all}
use Rattle.std.specs.Option.{option_map}
use Rattle.std.proofs.lemmas.List.{map-append, length-append}
use Rattle.std.proofs.lemmas.List.Elements.{filter-append}
use Rattle.ckr_base.specs.declared.programs.Output.TheVariants.{Main, Rejects}
use Rattle.ckr_base.proofs.Sequences.{last-append}
use Rattle.ckr_jcl.specs.declared.deck.Kind.{Kind}
use Rattle.ckr_jcl.specs.declared.deck.Kind.TheVariants.{Copy, Select, Merge, Master, Update, Print, Br14}
use Rattle.ckr_jcl.specs.declared.deck.Parm.{Parm}
use Rattle.ckr_match.specs.declared.state.MatchState.{MatchState}
use Rattle.ckr_match.specs.InputOrder.{Taken, Keys, may_follow, taken_from, of_first, of_second}
use Rattle.ckr_match.specs.Images.{keys_of, code_of}
use Rattle.ckr_match.specs.Master.{write_to, outcome_of, reject_if, groups_of, write_held, master_writes}
use Rattle.ckr_match.specs.Work.{match_writes, write_at}
use Rattle.ckr_match.specs.Units.{held_in, last_master}
use Rattle.ckr_match.specs.Steps.{step_of, carried, released, place_by, is_master}
use Rattle.ckr_match.proofs.Groups.{groups-push, writes-grown, writes-closed, last_group-push, balance-joined, carried_by, held_by}
use Rattle.ckr_match.proofs.HeldRecords.{tests_hold}
use Rattle.ckr_match.proofs.Places.{AreOrdered, ordered-push, master_more, transaction_more}
use Rattle.ckr_match.proofs.Walk.{Reached, goes_on, ended, stuck, reached}

abbrev one : Bool → List ℕ → Bool → Taken
one second bytes mark = record { second = second; bytes = bytes; faulty = mark }

-- the state is that of the program behind these records, as far as a step looks at it
pub record IsBehind (program : Kind) (parm : Parm) (state : MatchState) (taken : List Taken) : Type 0 where
  pub first : state.first ≡ length (of_first taken)
  pub held : state.held ≡ held_in program (keys_of program parm) taken
  pub last : state.last ≡ last_master program taken

-- a step writes what one record more adds
pub record Pushes (program : Kind) (parm : Parm) (state : MatchState) (taken : List Taken) (next : Taken) : Type 0 where
  pub writes : match_writes program (keys_of program parm) (taken ++ next ∷ []) false ≡ match_writes program (keys_of program parm) taken false ++ (step_of program parm state next.second next.bytes).writes.items
  pub held : (step_of program parm state next.second next.bytes).held ≡ held_in program (keys_of program parm) (taken ++ next ∷ [])
  pub last : (step_of program parm state next.second next.bytes).last ≡ last_master program (taken ++ next ∷ [])

pub first-master : (taken : List Taken) (bytes : List ℕ) (mark : Bool) → of_first (taken ++ one false bytes mark ∷ []) ≡ of_first taken ++ one false bytes mark ∷ []
first-master taken bytes mark = filter-append (λ x. not x.second) taken (one false bytes mark ∷ [])

pub first-transaction : (taken : List Taken) (bytes : List ℕ) (mark : Bool) → of_first (taken ++ one true bytes mark ∷ []) ≡ of_first taken
first-transaction taken bytes mark = filter-append (λ x. not x.second) taken (one true bytes mark ∷ []) ∙ append-nil (of_first taken)

pub second-master : (taken : List Taken) (bytes : List ℕ) (mark : Bool) → of_second (taken ++ one false bytes mark ∷ []) ≡ of_second taken
second-master taken bytes mark = filter-append (λ x. x.second) taken (one false bytes mark ∷ []) ∙ append-nil (of_second taken)

pub second-transaction : (taken : List Taken) (bytes : List ℕ) (mark : Bool) → of_second (taken ++ one true bytes mark ∷ []) ≡ of_second taken ++ one true bytes mark ∷ []
second-transaction taken bytes mark = filter-append (λ x. x.second) taken (one true bytes mark ∷ [])

pushes_merge : (parm : Parm) (state : MatchState) (taken : List Taken) (next : Taken) → IsBehind Merge parm state taken → Pushes Merge parm state taken next
unfolding match_writes
pushes_merge parm state taken next behind = record {
  writes = map-append (λ x. write_to Main x.bytes) taken (next ∷ []);
  held = behind.held;
  last = behind.last;
}

pushes_master : (parm : Parm) (state : MatchState) (taken : List Taken) (second : Bool) (bytes : List ℕ) (mark : Bool) → IsBehind Master parm state taken → list_all (λ x. may_follow (keys_of Master parm) x (one second bytes mark)) taken ≡ true → Pushes Master parm state taken (one second bytes mark)
unfolding match_writes
pushes_master parm state taken second bytes mark behind low =
    let keys : Keys = keys_of Master parm in
    let last : Option (List Taken) = last_or None (groups_of keys taken) in
    let tests = tests_hold parm taken second bytes mark low in
    let carries : carried parm second bytes state.held ≡ (carried_by keys last (one second bytes mark)).held = ap (carried parm second bytes) behind.held ∙ tests.carries in
    let releases : released parm second bytes state.held ≡ _ = ap (released parm second bytes) behind.held ∙ tests.releases in
    record {
      writes =
          ap (master_writes false) (groups-push keys taken (one second bytes mark))
          ∙ writes-grown keys (one second bytes mark) (groups_of keys taken)
          ∙ ap (λ released. master_writes false (groups_of keys taken) ++ (write_held released ++ map (write_to Rejects) (reject_if (outcome_of second bytes (carried_by keys last (one second bytes mark)).held).rejected bytes))) (sym releases)
          ∙ ap (λ held. master_writes false (groups_of keys taken) ++ (write_held (released parm second bytes state.held) ++ map (write_to Rejects) (reject_if (outcome_of second bytes held).rejected bytes))) (sym carries);
      held =
          ap (λ held. (outcome_of second bytes held).held) carries
          ∙ sym (ap held_by (last_group-push keys taken (one second bytes mark)) ∙ ap (λ balance. balance.held) (balance-joined keys last (one second bytes mark)));
      last = behind.last;
    }

pushes_update : (parm : Parm) (state : MatchState) (taken : List Taken) (second : Bool) (bytes : List ℕ) (mark : Bool) → IsBehind Update parm state taken → AreOrdered (keys_of Update parm) taken → list_all (λ x. may_follow (keys_of Update parm) x (one second bytes mark)) taken ≡ true → Pushes Update parm state taken (one second bytes mark)
unfolding match_writes
pushes_update parm state taken false bytes mark behind ordered low = record {
  writes = master_more parm taken bytes mark low;
  held = behind.held;
  last =
      ap (λ n. Some (n, bytes)) (behind.first ∙ (let e : length (of_first taken) ≡ length (of_first taken) + 1 - 1 = omega arith in e))
      ∙ sym (ap (λ masters. option_map (λ x. (length masters - 1, x.bytes)) (last_or None masters)) (first-master taken bytes mark)
      ∙ ap (option_map (λ x. (length (of_first taken ++ one false bytes mark ∷ []) - 1, x.bytes))) (last-append None (of_first taken) (one false bytes mark))
      ∙ ap (λ n. Some (n - 1, bytes)) (length-append (of_first taken) (one false bytes mark ∷ [])));
}
pushes_update parm state taken true bytes mark behind ordered low = record {
  writes =
      transaction_more parm taken bytes mark ordered low
      ∙ ap (λ last. match_writes Update (keys_of Update parm) taken false ++ write_at (cond (eqb (code_of bytes) 67) (place_by parm bytes last) None) bytes ∷ []) (sym behind.last);
  held = behind.held;
  last = behind.last ∙ sym (ap (λ masters. option_map (λ x. (length masters - 1, x.bytes)) (last_or None masters)) (first-transaction taken bytes mark));
}

pub pushes : (program : Kind) (parm : Parm) (state : MatchState) (taken : List Taken) (second : Bool) (bytes : List ℕ) (mark : Bool) → IsBehind program parm state taken → AreOrdered (keys_of program parm) taken → list_all (λ x. may_follow (keys_of program parm) x (one second bytes mark)) taken ≡ true → Pushes program parm state taken (one second bytes mark)
unfolding match_writes
pushes Merge parm state taken second bytes mark behind ordered low = pushes_merge parm state taken (one second bytes mark) behind
pushes Master parm state taken second bytes mark behind ordered low = pushes_master parm state taken second bytes mark behind low
pushes Update parm state taken second bytes mark behind ordered low = pushes_update parm state taken second bytes mark behind ordered low
pushes Copy parm state taken second bytes mark behind ordered low = record { writes = refl; held = behind.held; last = behind.last }
pushes Select parm state taken second bytes mark behind ordered low = record { writes = refl; held = behind.held; last = behind.last }
pushes Print parm state taken second bytes mark behind ordered low = record { writes = refl; held = behind.held; last = behind.last }
pushes Br14 parm state taken second bytes mark behind ordered low = record { writes = refl; held = behind.held; last = behind.last }

-- closing writes what MASTER holds
pub closes : (program : Kind) (parm : Parm) (state : MatchState) (taken : List Taken) → IsBehind program parm state taken → match_writes program (keys_of program parm) taken true ≡ match_writes program (keys_of program parm) taken false ++ (if is_master program then write_held state.held else [])
unfolding match_writes
closes Merge parm state taken behind = sym (append-nil _)
closes Master parm state taken behind =
    writes-closed (groups_of (keys_of Master parm) taken)
    ∙ ap (λ held. master_writes false (groups_of (keys_of Master parm) taken) ++ write_held held) (sym behind.held)
closes Update parm state taken behind = sym (append-nil _)
closes Copy parm state taken behind = refl
closes Select parm state taken behind = refl
closes Print parm state taken behind = refl
closes Br14 parm state taken behind = refl

-- the records taken are in order
pub ordered_taken : (keys : Keys) (first second : List (List ℕ)) (count : ℕ) → count ≤ length (taken_from keys first second) → AreOrdered keys (take count (taken_from keys first second))
ordered_taken keys first second zero within = tt
ordered_taken keys first second (suc count) within =
    by (reached keys first second count (omega arith)) (ordered_taken keys first second count (omega arith))
  where
    by : Reached keys first second None None (taken_from keys first second) count → AreOrdered keys (take count (taken_from keys first second)) → AreOrdered keys (take (suc count) (taken_from keys first second))
    by (goes_on next mark a b lt more all h) before = subst (AreOrdered keys) (sym more) (ordered-push keys (take count (taken_from keys first second)) (record next { faulty = mark }) before all)
    by (ended a b c) before = absurd (omega (arith, b, within))
    by (stuck next a b c d) before = absurd (omega (arith, c, within))
