-- Which writes a program makes: those that go behind a last record, and UPDATE's rewrites.
use Rattle.std.proofs.Common.{◌≡◌, ◌<◌, ℕ, zero, suc, ◌-◌, ◌==◌, Bool, true, false, cond, ◌&&◌, List, [], ◌∷◌, ◌++◌, map, length, Option, Some, None, refl, ap, sym, ◌∙◌, subst, arith}
use Rattle.std.specs.Prelude.{if◌then◌else◌}
use Rattle.std.specs.List.{list_all, last_or}
use Rattle.std.specs.Option.{option_map, option_map_or}
use Rattle.std.proofs.lemmas.Bool.{false≢true}
use Rattle.std.proofs.lemmas.Option.{same_Some}
use Rattle.ckr_base.specs.declared.code.Code.TheVariants.{System, User}
use Rattle.ckr_base.specs.declared.programs.Finish.{Finish}
use Rattle.ckr_base.specs.declared.programs.Finish.TheVariants as Finishes
use Rattle.ckr_base.specs.declared.programs.Heads.{Heads}
use Rattle.ckr_base.specs.declared.programs.Output.{Output}
use Rattle.ckr_base.specs.declared.programs.Output.TheVariants.{Main, Rejects, InPlace}
use Rattle.ckr_base.specs.declared.programs.UnitDone.{UnitDone}
use Rattle.ckr_base.specs.declared.programs.Write.{Write}
use Rattle.ckr_base.proofs.Options.{some-not-none}
use Rattle.ckr_jcl.specs.declared.deck.Kind.{Kind}
use Rattle.ckr_jcl.specs.declared.deck.Kind.TheVariants.{Copy, Select, Merge, Master, Update, Print, Br14}
use Rattle.ckr_jcl.specs.declared.deck.Parm.{Parm}
use Rattle.ckr_entry.specs.declared.point.State.{State}
use Rattle.ckr_entry.specs.declared.point.State.TheVariants.{Plain, Matched}
use Rattle.ckr_programs.specs.Records.{can_take}
use Rattle.ckr_programs.specs.Work.{Work, to_main, images_for, closing_images, sum_of, prog_writes}
use Rattle.ckr_programs.specs.Work as plain
use Rattle.ckr_programs.specs.Units.{images_at}
use Rattle.ckr_programs.specs.Steps as plain_steps
use Rattle.ckr_match.specs.declared.state.MatchState.{MatchState}
use Rattle.ckr_match.specs.Images.{has_transactions, keys_of, key_in, same_bytes, code_of}
use Rattle.ckr_match.specs.Master.{write_to, write_held, reject_if, outcome_of}
use Rattle.ckr_match.specs.State.{has_two_inputs}
use Rattle.ckr_match.specs.InputOrder.{Taken, Keys, chosen, of_first}
use Rattle.ckr_match.specs.Work.{match_writes, write_at}
use Rattle.ckr_match.specs.Work as matched
use Rattle.ckr_match.specs.Units as matched_units
use Rattle.ckr_match.specs.Steps as matched_steps
use Rattle.ckr_meaning.specs.Program.{ProgramCase, room_behind, fitting, work_within, work_by, work, plain_case, match_case}
use Rattle.ckr_meaning.specs.States.{StandsFor, first_of}
use Rattle.ckr_meaning.specs.StepRun.{StepStart, case_at, room_at, work_at}
use Rattle.ckr_steps.specs.Units.{unit_of}
use Rattle.ckr_steps.specs.Writes.{is_behind}
use Rattle.ckr_steps.specs.Places.{first_room}

abbrev pub rewrite : ℕ → List ℕ → Write
rewrite place bytes = record { output = InPlace place; image = bytes }

-- the writes of a unit: all go behind a last record, or it is the rewrite of a record that was taken
pub data Kinds (program : Kind) (finish : Option Finish) (first : ℕ) (writes : List Write) : Type 0 where
  go_behind : list_all is_behind writes ≡ true → Kinds program finish first writes
  rewrites : (place : ℕ) (bytes : List ℕ) → program ≡ Update → finish ≡ None → place < first → writes ≡ rewrite place bytes ∷ [] → Kinds program finish first writes

mains_behind : (images : List (List ℕ)) → list_all is_behind (map to_main images) ≡ true
mains_behind [] = refl
mains_behind (image ∷ images) = mains_behind images

pub all-append : (p : Write → Bool) (first more : List Write) → list_all p first ≡ true → list_all p more ≡ true → list_all p (first ++ more) ≡ true
all-append p [] more one other = other
all-append p (write ∷ writes) more one other = by (p write) (λ rest. all-append p writes more rest other) one
  where
    by : (b : Bool) → (list_all p writes ≡ true → list_all p (writes ++ more) ≡ true) → (b && list_all p writes) ≡ true → (b && list_all p (writes ++ more)) ≡ true
    by true others rest = others rest
    by false others rest = absurd (false≢true rest)

pub front_of_all : (p : Write → Bool) (first more : List Write) → list_all p (first ++ more) ≡ true → list_all p first ≡ true
front_of_all p [] more all = refl
front_of_all p (write ∷ writes) more all = by (p write) (front_of_all p writes more) all
  where
    by : (b : Bool) → (list_all p (writes ++ more) ≡ true → list_all p writes ≡ true) → (b && list_all p (writes ++ more)) ≡ true → (b && list_all p writes) ≡ true
    by true others rest = others rest
    by false others rest = absurd (false≢true rest)

pub rest_of_all : (p : Write → Bool) (first more : List Write) → list_all p (first ++ more) ≡ true → list_all p more ≡ true
rest_of_all p [] more all = all
rest_of_all p (write ∷ writes) more all = by (p write) (rest_of_all p writes more) all
  where
    by : (b : Bool) → (list_all p (writes ++ more) ≡ true → list_all p more ≡ true) → (b && list_all p (writes ++ more)) ≡ true → list_all p more ≡ true
    by true others rest = others rest
    by false others rest = absurd (false≢true rest)

held_behind : (held : Option (List ℕ)) → list_all is_behind (write_held held) ≡ true
held_behind None = refl
held_behind (Some image) = refl

rejects_behind : (rejected : Bool) (bytes : List ℕ) → list_all is_behind (map (write_to Rejects) (reject_if rejected bytes)) ≡ true
rejects_behind true bytes = refl
rejects_behind false bytes = refl

last_below : (records : List Taken) (last : ℕ × List ℕ) → option_map (λ (one : Taken). (length records - 1, one.bytes)) (last_or None records) ≡ Some last → last.0 < length records
last_below [] last is = absurd (some-not-none last (sym is))
last_below (first ∷ records) last is = by (last_or None (first ∷ records)) is
  where
    by : (found : Option Taken) → option_map (λ (one : Taken). (length (first ∷ records) - 1, one.bytes)) found ≡ Some last → last.0 < length (first ∷ records)
    by None e = absurd (some-not-none last (sym e))
    by (Some one) e = let place : length (first ∷ records) - 1 ≡ last.0 = ap (λ (l : ℕ × List ℕ). l.0) (same_Some _ last e) in omega (arith, place)

-- ---- what a unit writes

module _ (parm : Parm) (state : MatchState) (program : Kind) (first : ℕ) (below : program ≡ Update → (last : ℕ × List ℕ) → state.last ≡ Some last → last.0 < first) where
  placed_kinds : (found : Option ℕ) (bytes : List ℕ) → program ≡ Update → ((place : ℕ) → found ≡ Some place → place < first) → Kinds program None first (write_at found bytes ∷ [])
  placed_kinds None bytes is less = go_behind refl
  placed_kinds (Some place) bytes is less = rewrites place _ is refl (less place refl) refl

  found_below : (bytes : List ℕ) (place : ℕ) → program ≡ Update → (c : Bool) (last : Option (ℕ × List ℕ)) → state.last ≡ last → (if c then matched_steps.place_by parm bytes last else None) ≡ Some place → place < first
  found_below bytes place is false last e found = absurd (some-not-none place (sym found))
  found_below bytes place is true None e found = absurd (some-not-none place (sym found))
  found_below bytes place is true (Some last) e found = by (same_bytes (key_in parm _) (key_in parm last.1)) found
    where
      by : (same : Bool) → (if same then Some last.0 else None) ≡ Some place → place < first
      by true f = subst (λ n. n < first) (same_Some last.0 place f) (below is last e)
      by false f = absurd (some-not-none place (sym f))

  both_kinds : (held : Option (List ℕ)) (rejected : Bool) (bytes : List ℕ) → Kinds program None first (write_held held ++ map (write_to Rejects) (reject_if rejected bytes))
  both_kinds held rejected bytes = go_behind (all-append is_behind (write_held held) (map (write_to Rejects) (reject_if rejected bytes)) (held_behind held) (rejects_behind rejected bytes))

  step_kinds : (kind : Kind) → program ≡ kind → (second : Bool) (bytes : List ℕ) → Kinds program None first (matched_steps.step_of kind parm state second bytes).writes.items
  step_kinds Copy is second bytes = go_behind refl
  step_kinds Select is second bytes = go_behind refl
  step_kinds Merge is second bytes = go_behind refl
  step_kinds Master is second bytes =
      both_kinds (matched_steps.released parm second bytes state.held) (outcome_of second bytes (matched_steps.carried parm second bytes state.held)).rejected bytes
  step_kinds Update is false bytes = go_behind refl
  step_kinds Update is true bytes = placed_kinds _ bytes is (λ place found. found_below bytes place is (code_of bytes == 67) state.last refl found)
  step_kinds Print is second bytes = go_behind refl
  step_kinds Br14 is second bytes = go_behind refl

  closing_kinds : (finish : Option Finish) (master : Bool) → Kinds program finish first (if master then write_held state.held else [])
  closing_kinds finish true = go_behind (held_behind state.held)
  closing_kinds finish false = go_behind refl

  next_kinds : (next : Option Taken) → program ≡ state.kind → Kinds program (matched_steps.unit_for parm state next).finish first (matched_steps.unit_for parm state next).writes.items
  next_kinds None is = closing_kinds _ (matched_steps.is_master state.kind)
  next_kinds (Some next) is = by (matched_steps.is_next state next.second (matched_steps.key_at parm state next.second next.bytes))
    where
      by : (b : Bool) → Kinds program (cond {A = UnitDone} b (record { taken = matched_steps.input_number next.second; writes = (matched_steps.step_of state.kind parm state next.second next.bytes).writes; finish = None }) (record { taken = 0; writes = record { items = [] }; finish = Some (Finishes.Abend (User 101)) })).finish first
          (cond {A = UnitDone} b (record { taken = matched_steps.input_number next.second; writes = (matched_steps.step_of state.kind parm state next.second next.bytes).writes; finish = None }) (record { taken = 0; writes = record { items = [] }; finish = Some (Finishes.Abend (User 101)) })).writes.items
      by true = step_kinds state.kind is next.second next.bytes
      by false = go_behind refl

pub unit_kinds : (parm : Parm) (state : State) (heads : Heads) (case : ProgramCase) (taken : ℕ) → StandsFor state case taken → Kinds case.program (unit_of parm state heads).finish (first_of state) (unit_of parm state heads).writes.items
unfolding unit_of plain_steps.unit_of matched_steps.unit_of
unit_kinds parm (Plain state) heads case taken stands = by heads.first
  where
    by_take : (can : Bool) (taking stuck : UnitDone) → list_all is_behind taking.writes.items ≡ true → list_all is_behind stuck.writes.items ≡ true → Kinds case.program (cond can taking stuck).finish state.first (cond can taking stuck).writes.items
    by_take true taking stuck one other = go_behind one
    by_take false taking stuck one other = go_behind other

    by : (head : Option (List ℕ)) → Kinds case.program (plain_steps.unit_of parm state head).finish state.first (plain_steps.unit_of parm state head).writes.items
    by None = go_behind (mains_behind (closing_images state.kind parm state.sum))
    by (Some bytes) = by_take (can_take state.kind parm bytes) _ _ (mains_behind (images_at state.kind parm state.first bytes)) refl
unit_kinds parm (Matched state) heads case taken stands =
    next_kinds parm state case.program state.first below (chosen (keys_of state.kind parm) heads.first heads.second) (sym stands.stands.program)
  where
    below : case.program ≡ Update → (last : ℕ × List ℕ) → state.last ≡ Some last → last.0 < state.first
    below is last e =
        let records = of_first (matched_units.first_taken (match_case case) taken) in
        subst (λ n. last.0 < n) (sym stands.stands.first)
        (last_below records last (sym (stands.stands.last ∙ ap (λ k. matched_units.last_master k (matched_units.first_taken (match_case case) taken)) is) ∙ e))

-- ---- programs without rejects

abbrev pub goes_to_main : Output → Bool
goes_to_main Main = true
goes_to_main Rejects = false
goes_to_main (InPlace place) = false

abbrev pub is_main : Write → Bool
is_main write = goes_to_main write.output

mains : (images : List (List ℕ)) → list_all is_main (map to_main images) ≡ true
mains [] = refl
mains (image ∷ images) = mains images

merged : (taken : List Taken) → list_all is_main (map (λ (one : Taken). write_to Main one.bytes) taken) ≡ true
merged [] = refl
merged (one ∷ taken) = merged taken

prog_mains : (program : Kind) (parm : Parm) (taken : List (List ℕ)) (closed : Bool) → list_all is_main (prog_writes program parm taken closed) ≡ true
unfolding prog_writes
prog_mains program parm taken false = mains (images_for program parm taken)
prog_mains program parm taken true =
    all-append is_main (map to_main (images_for program parm taken)) (map to_main (closing_images program parm (sum_of program parm taken))) (mains (images_for program parm taken)) (mains (closing_images program parm (sum_of program parm taken)))

match_mains : (program : Kind) (keys : Keys) (taken : List Taken) (closed : Bool) → has_transactions program ≡ false → list_all is_main (match_writes program keys taken closed) ≡ true
unfolding match_writes
match_mains Copy keys taken closed is = refl
match_mains Select keys taken closed is = refl
match_mains Merge keys taken closed is = merged taken
match_mains Master keys taken closed is = absurd (false≢true (sym is))
match_mains Update keys taken closed is = absurd (false≢true (sym is))
match_mains Print keys taken closed is = refl
match_mains Br14 keys taken closed is = refl

pub work_mains : (case : ProgramCase) → has_transactions case.program ≡ false → list_all is_main (work case).writes ≡ true
unfolding work
work_mains case is = by (has_two_inputs case.program)
  where
    by : (two : Bool) → list_all is_main (work_by two case).writes ≡ true
    by false = prog_mains case.program case.parm (plain.taken_records (plain_case case)) (plain.is_whole (plain_case case))
    by true = match_mains case.program (matched.case_keys (match_case case)) (matched.taken_records (match_case case)) (matched.is_whole (match_case case)) is

-- the space for rejects plays no part in them
fitting_mains : (writes : List Write) (main rejects other : ℕ) → list_all is_main writes ≡ true → fitting writes (record { main = main; rejects = rejects }) ≡ fitting writes (record { main = main; rejects = other })
fitting_mains [] main rejects other all = refl
fitting_mains (write ∷ writes) main rejects other all = by write.output main (λ left all. fitting_mains writes left rejects other all) all
  where
    by : (output : Output) (main : ℕ) → ((left : ℕ) → list_all is_main writes ≡ true → fitting writes (record { main = left; rejects = rejects }) ≡ fitting writes (record { main = left; rejects = other })) → (goes_to_main output && list_all is_main writes) ≡ true
        → option_map_or (λ left. write ∷ fitting writes left) (room_behind output (record { main = main; rejects = rejects })) [] ≡ option_map_or (λ left. write ∷ fitting writes left) (room_behind output (record { main = main; rejects = other })) []
    by Main zero others all = refl
    by Main (suc main) others all = ap (λ ws. write ∷ ws) (others main all)
    by Rejects main others all = absurd (false≢true all)
    by (InPlace place) main others all = absurd (false≢true all)

same_fitting : (start : StepStart) (transactions : Bool) → has_transactions start.owned.step.program ≡ transactions → has_transactions (case_at start).program ≡ transactions
    → fitting (work (case_at start)).writes (room_at start) ≡ fitting (work (case_at start)).writes (record { main = (room_at start).main; rejects = if transactions then (room_at start).rejects else 0 })
same_fitting start true e f = refl
same_fitting start false e f = fitting_mains (work (case_at start)).writes (room_at start).main (room_at start).rejects 0 (work_mains (case_at start) f)

abbrev ended : Work → List Write → Work
ended whole writes = record { writes = writes; finish = if length writes == length whole.writes then whole.finish else Finishes.Abend (System 2871) }

-- the program of a step
pub program_at : (start : StepStart) → (case_at start).program ≡ start.owned.step.program
unfolding case_at
program_at start = refl

pub parm_at : (start : StepStart) → (case_at start).parm ≡ start.owned.step.parm
unfolding case_at
parm_at start = refl

-- what a step writes, by the space that counts
pub work_in_room : (start : StepStart) → work_at start ≡ work_within (first_room start) (work (case_at start))
unfolding work_at work_within
work_in_room start =
    ap (ended (work (case_at start))) (same_fitting start (has_transactions start.owned.step.program) refl (ap has_transactions (program_at start)))
