-- The writes of a step from a place on: which of them have space, and the library behind them.
use Rattle.std.proofs.Common.{◌≡◌, ℕ, Bool, true, false, List, [], ◌∷◌, ◌++◌, length, take, Option, Some, None, refl, ap, sym, ◌∙◌, subst, append_assoc, append-nil}
use Rattle.std.specs.Prelude.{option_and_then, find, slice_get, nat_lt, if◌then◌else◌}
use Rattle.std.specs.List.{list_all}
use Rattle.std.specs.Option.{is_some}
use Rattle.std.proofs.lemmas.Bool.{and_parts, false≢true}
use Rattle.std.proofs.lemmas.List.{take_at}
use Rattle.std.proofs.lemmas.Option.{same_Some}
use Rattle.ckr_base.specs.declared.code.Code.TheVariants.{System}
use Rattle.ckr_base.specs.declared.programs.Finish.TheVariants as Finishes
use Rattle.ckr_base.specs.declared.programs.Output.{Output}
use Rattle.ckr_base.specs.declared.programs.Output.TheVariants.{Main, Rejects, InPlace}
use Rattle.ckr_base.specs.declared.programs.Write.{Write}
use Rattle.ckr_base.proofs.Options.{some-not-none}
use Rattle.ckr_jcl.specs.declared.deck.Kind.{Kind}
use Rattle.ckr_jcl.specs.declared.deck.Kind.TheVariants.{Copy, Select, Merge, Master, Update, Print, Br14}
use Rattle.ckr_jcl.specs.Programs.{names_written}
use Rattle.ckr_library.specs.Catalog.{Catalog, HasSet}
use Rattle.ckr_library.specs.NameMaps.{Name, same_name}
use Rattle.ckr_programs.specs.Work.{Work}
use Rattle.ckr_match.specs.Images.{has_transactions}
use Rattle.ckr_meaning.specs.EffectiveJob.{name_of}
use Rattle.ckr_meaning.specs.LibrarySet.{Library}
use Rattle.ckr_meaning.specs.Program.{OutputRoom, room_behind, room_after, fitting, fitting_in, work_within, work}
use Rattle.ckr_meaning.specs.StepRun.{StepStart, case_at, made_at, within_at, work_at, dd_named, set_name, extended, changed_in, output_name, rejects_dd, main_names, written_one, written_all}
use Rattle.ckr_meaning.proofs.FittingWrites.{fitting-append, fitting-all, work_within-all, finish-work_within}
use Rattle.ckr_meaning.proofs.WriteSeries.{written_all-append}
use Rattle.ckr_steps.specs.declared.files.Files.{Files}
use Rattle.ckr_steps.specs.Files.{files_of}
use Rattle.ckr_steps.specs.Inputs.{IsSetThere, AreThere}
use Rattle.ckr_steps.specs.Places.{files_at, first_room}
use Rattle.ckr_steps.specs.Writes.{end_set, room_at, room_of, is_behind, grown_in, grown, put_one, put_all}
use Rattle.ckr_steps.proofs.Names.{set_there}
use Rattle.ckr_steps.proofs.Growth.{is_longer, there_longer}
use Rattle.ckr_steps.proofs.UnitWrites.{end_there}
use Rattle.ckr_steps.proofs.Rooms.{there_kept, main_fits, main_left, rejects_fit, rejects_left}
use Rattle.ckr_steps.proofs.Writes.{is_main, goes_to_main, work_in_room}

-- ---- the outputs are the step's

pub main_is : (start : StepStart) → output_name start Main ≡ (files_at start).main
unfolding output_name files_of
main_is start = by (slice_get (main_names start.owned.step.program) 0)
  where
    by : (name : Option Name) → option_and_then (set_name start) name ≡ option_and_then (name_of start.root start.owned) (option_and_then (dd_named start.owned) name)
    by None = refl
    by (Some name) = refl

pub rejects_are : (start : StepStart) → has_transactions start.owned.step.program ≡ true → output_name start Rejects ≡ (files_at start).rejects
unfolding output_name files_of
rejects_are start has = by start.owned.step.program has
  where
    by : (program : Kind) → has_transactions program ≡ true → set_name start rejects_dd ≡ option_and_then (name_of start.root start.owned) (option_and_then (dd_named start.owned) (find (same_name rejects_dd) (names_written program)))
    by Copy e = absurd (false≢true e)
    by Select e = absurd (false≢true e)
    by Merge e = absurd (false≢true e)
    by Master e = refl
    by Update e = refl
    by Print e = absurd (false≢true e)
    by Br14 e = absurd (false≢true e)

-- writes behind last records, and where the program has no rejects, of its output alone
pub record GoWell (start : StepStart) (writes : List Write) : Type 0 where
  pub behind : list_all is_behind writes ≡ true
  pub mains : has_transactions start.owned.step.program ≡ false → list_all is_main writes ≡ true

one_put : (start : StepStart) (output : Output) (image : List ℕ) (library : Library) → is_behind (record { output = output; image = image }) ≡ true → (has_transactions start.owned.step.program ≡ false → goes_to_main output ≡ true)
    → written_one start (record { output = output; image = image }) library ≡ put_one (files_at start) (record { output = output; image = image }) library
unfolding written_one
one_put start Main image library behind main = ap (λ name. changed_in name (extended image) library) (main_is start)
one_put start Rejects image library behind main = by (has_transactions start.owned.step.program) refl
  where
    by : (b : Bool) → has_transactions start.owned.step.program ≡ b → changed_in (output_name start Rejects) (extended image) library ≡ changed_in (files_at start).rejects (extended image) library
    by true e = ap (λ name. changed_in name (extended image) library) (rejects_are start e)
    by false e = absurd (false≢true (main e))
one_put start (InPlace place) image library behind main = absurd (false≢true behind)

-- the writes of the meaning are those that the code does
pub all_put : (start : StepStart) (writes : List Write) (library : Library) → GoWell start writes → written_all start writes library ≡ put_all (files_at start) writes library
all_put start [] library well = refl
all_put start (write ∷ writes) library well =
    ap (written_all start writes) (one_put start write.output write.image library ((and_parts (is_behind write) (list_all is_behind writes) well.behind).0) (λ none. (and_parts (is_main write) (list_all is_main writes) (well.mains none)).0))
    ∙ all_put start writes (put_one (files_at start) write library) (record {
      behind = (and_parts (is_behind write) (list_all is_behind writes) well.behind).1;
      mains = λ none. (and_parts (is_main write) (list_all is_main writes) (well.mains none)).1;
    })

-- ---- the space behind writes

pub there_grown : (files : Files) (old new : Catalog) (output : Output) → AreThere files old → new.sets ≡ grown_in (end_set files output) old.sets → AreThere files new
there_grown files old new output there is = there_kept files old new (by (end_set files output) (end_there files old there output) is) there
  where
    by : (name : Option Name) → IsSetThere old name → new.sets ≡ grown_in name old.sets → (other : Name) → HasSet old other (λ _. Unit {0}) → HasSet new other (λ _. Unit {0})
    by None at is other has = subst (λ sets. HasSet (record { sets = sets; room = 0; entry_rooms = [] }) other (λ _. Unit {0})) (sym is) has
    by (Some name) at is other has = let found = set_there old name at in there_longer name found.0 old new (is_longer name found.0 old new found.1 is) other has

pub same_room : (files : Files) (old new : Catalog) → new.sets ≡ old.sets → room_of new files ≡ room_of old files
unfolding room_of
same_room files old new is =
    ap (λ sets. let catalog : Catalog = record { sets = sets; room = 0; entry_rooms = [] } in let room : OutputRoom = record { main = room_at catalog files.main; rejects = room_at catalog files.rejects } in room) is

next_room : (files : Files) (old mid : Catalog) (output : Output) (left : OutputRoom) → AreThere files old → mid.sets ≡ grown_in (end_set files output) old.sets → room_behind output (room_of old files) ≡ Some left → left ≡ room_of mid files
next_room files old mid Main left there is behind =
    let fits = nat_lt 0 (room_at old files.main) in
    let made : fits ≡ true = main_fits files old mid there Main fits refl refl ∙ ap is_some behind in
    same_Some left (room_of mid files) (sym behind ∙ main_left files old mid there Main fits refl refl (is ∙ ap (λ b. if b then grown_in files.main old.sets else old.sets) (sym made)) made)
next_room files old mid Rejects left there is behind =
    let fits = nat_lt 0 (room_at old files.rejects) in
    let made : fits ≡ true = rejects_fit files old mid there Rejects fits refl refl ∙ ap is_some behind in
    same_Some left (room_of mid files) (sym behind ∙ rejects_left files old mid there Rejects fits refl refl (is ∙ ap (λ b. if b then grown_in files.rejects old.sets else old.sets) (sym made)) made)
next_room files old mid (InPlace place) left there is behind =
    same_Some left (room_of old files) (sym behind) ∙ sym (same_room files old mid is)

pub room_left : (files : Files) (writes : List Write) (old new : Catalog) (left : OutputRoom) → AreThere files old → new.sets ≡ grown files writes old.sets → room_after writes (room_of old files) ≡ Some left → left ≡ room_of new files
room_left files [] old new left there is fits = same_Some left (room_of old files) (sym fits) ∙ sym (same_room files old new is)
room_left files (write ∷ writes) old new left there is fits = by (room_behind write.output (room_of old files)) refl fits (room_left files writes)
  where
    by : (behind : Option OutputRoom) → room_behind write.output (room_of old files) ≡ behind → option_and_then (room_after writes) behind ≡ Some left
        → ((old new : Catalog) (left : OutputRoom) → AreThere files old → new.sets ≡ grown files writes old.sets → room_after writes (room_of old files) ≡ Some left → left ≡ room_of new files) → left ≡ room_of new files
    by None e fits others = absurd (some-not-none left (sym fits))
    by (Some behind) e fits others =
        let here = next_room files old (record { sets = grown_in (end_set files write.output) old.sets; room = 0; entry_rooms = [] }) write.output behind there refl e in
        others (record { sets = grown_in (end_set files write.output) old.sets; room = 0; entry_rooms = [] }) new left
        (there_grown files old (record { sets = grown_in (end_set files write.output) old.sets; room = 0; entry_rooms = [] }) write.output there refl) is
        (ap (room_after writes) (sym here) ∙ fits)

pub room_after-append : (first more : List Write) (room : OutputRoom) → room_after (first ++ more) room ≡ option_and_then (room_after more) (room_after first room)
room_after-append [] more room = refl
room_after-append (write ∷ writes) more room = by (room_behind write.output room) (λ left. room_after-append writes more left)
  where
    by : (behind : Option OutputRoom) → ((left : OutputRoom) → room_after (writes ++ more) left ≡ option_and_then (room_after more) (room_after writes left)) → option_and_then (room_after (writes ++ more)) behind ≡ option_and_then (room_after more) (option_and_then (room_after writes) behind)
    by None others = refl
    by (Some left) others = others left

-- ---- the writes of the step's work

module _ (start : StepStart) (first writes more : List Write) (room : OutputRoom) (all : (work (case_at start)).writes ≡ first ++ (writes ++ more)) (so_far : room_after first (first_room start) ≡ Some room) where
  -- what is written of the work, from the first writes on
  pub written_from : (work_at start).writes ≡ first ++ fitting (writes ++ more) room
  unfolding work_within
  written_from =
      ap (λ (w : Work). w.writes) (work_in_room start)
      ∙ ap (λ w. fitting w (first_room start)) all
      ∙ fitting-append first (writes ++ more) (first_room start)
      ∙ ap (λ w. w ++ fitting_in (room_after first (first_room start)) (writes ++ more)) (fitting-all first (first_room start) room so_far)
      ∙ ap (λ left. first ++ fitting_in left (writes ++ more)) so_far

  pub room_at_all : room_after (work (case_at start)).writes (first_room start) ≡ option_and_then (room_after more) (room_after writes room)
  room_at_all =
      ap (λ w. room_after w (first_room start)) all
      ∙ room_after-append first (writes ++ more) (first_room start)
      ∙ ap (option_and_then (room_after (writes ++ more))) so_far
      ∙ room_after-append writes more room

  -- they have space
  pub all_fit : (left : OutputRoom) → room_after writes room ≡ Some left → (work_at start).writes ≡ (first ++ writes) ++ fitting more left
  all_fit left fits =
      written_from ∙ ap (λ w. first ++ w) (fitting-append writes more room ∙ ap (λ w. w ++ fitting_in (room_after writes room) more) (fitting-all writes room left fits) ∙ ap (λ l. writes ++ fitting_in l more) fits)
      ∙ sym (append_assoc first writes (fitting more left))

  pub room_behind_all : (left : OutputRoom) → room_after writes room ≡ Some left → room_after (first ++ writes) (first_room start) ≡ Some left
  room_behind_all left fits = room_after-append first writes (first_room start) ∙ ap (option_and_then (room_after writes)) so_far ∙ fits

  -- one has none
  pub some_fit : room_after writes room ≡ None → (work_at start).writes ≡ first ++ fitting writes room
  some_fit none =
      written_from ∙ ap (λ w. first ++ w) (fitting-append writes more room ∙ ap (λ l. fitting writes room ++ fitting_in l more) none ∙ append-nil (fitting writes room))

  pub ends_for_space : room_after writes room ≡ None → (work_at start).finish ≡ Finishes.Abend (System 2871)
  ends_for_space none =
      ap (λ (w : Work). w.finish) (work_in_room start)
      ∙ finish-work_within (work (case_at start)) (first_room start) (room_at_all ∙ ap (option_and_then (room_after more)) none)

-- all of the work has space
pub work_fits : (start : StepStart) (left : OutputRoom) → room_after (work (case_at start)).writes (first_room start) ≡ Some left → work_at start ≡ work (case_at start)
work_fits start left fits = work_in_room start ∙ work_within-all (work (case_at start)) (first_room start) left fits

-- the library behind a front of the step's writes
pub within_front : (start : StepStart) (front rest : List Write) → (work_at start).writes ≡ front ++ rest → within_at start (length front) ≡ written_all start front (made_at start)
unfolding within_at
within_front start front rest is = ap (λ w. written_all start w (made_at start)) (ap (take (length front)) is ∙ take_at front rest (length front) refl)

-- and behind more of them
pub within_more : (start : StepStart) (first writes rest : List Write) → (work_at start).writes ≡ (first ++ writes) ++ rest → within_at start (length (first ++ writes)) ≡ written_all start writes (within_at start (length first))
within_more start first writes rest is =
    within_front start (first ++ writes) rest is
    ∙ written_all-append start first writes (made_at start)
    ∙ ap (written_all start writes) (sym (within_front start first (writes ++ rest) (is ∙ append_assoc first writes rest)))
