-- Only UPDATE rewrites records. Its unit writes once at most, and the one that ends it writes nothing.
use Rattle.std.proofs.Common.{◌≡◌, ◌≤◌, ◌+◌, ℕ, zero, suc, Bool, true, false, cond, if◌then◌else◌, List, [], ◌∷◌, ◌++◌, take, length, map, refl, ap, sym, ◌∙◌, Option, Some, None, arith, append-nil, append_assoc, length-append}
use Rattle.std.specs.List.{list_all}
use Rattle.std.proofs.lemmas.Bool.{and_from, false≢true}
use Rattle.std.proofs.lemmas.List.{length-map, take_all}
use Rattle.ckr_base.specs.declared.programs.Output.TheVariants.{Main, Rejects}
use Rattle.ckr_base.specs.declared.programs.Write.{Write}
use Rattle.ckr_base.proofs.Bools.{and-first, and-second, bool-cases}
use Rattle.ckr_base.proofs.Numbers.{number-cases}
use Rattle.ckr_jcl.specs.declared.deck.Kind.{Kind}
use Rattle.ckr_jcl.specs.declared.deck.Kind.TheVariants.{Copy, Select, Merge, Master, Update, Print, Br14}
use Rattle.ckr_jcl.specs.declared.deck.Parm.{Parm}
use Rattle.ckr_match.specs.Master.{Balance, balance_of, group_writes, groups_of, master_writes, write_held, write_to}
use Rattle.ckr_match.specs.State.{has_two_inputs}
use Rattle.ckr_match.specs.InputOrder.{Keys, Taken, of_first, of_second}
use Rattle.ckr_match.specs.Work.{case_keys, match_writes, taken_records, update_write}
use Rattle.ckr_meaning.specs.Program.{ProgramCase, match_case, records_taken, rest, unit_done, upto, work, work_by}
use Rattle.ckr_meaning.proofs.Prefixes.{TakesOne, ends_work, takes_one, work_in_parts}
use Rattle.ckr_points.specs.Follows.{is_update}
use Rattle.ckr_programs.specs.Work as plain
use Rattle.ckr_desk_turn.proofs.Units.Progress.{adds}

-- ---- the other programs

all_both : (front more : List Write) → list_all adds front ≡ true → list_all adds more ≡ true → list_all adds (front ++ more) ≡ true
all_both [] more one other = other
all_both (write ∷ front) more one other = and_from (adds write) _ (and-first (adds write) _ one) (all_both front more (and-second (adds write) _ one) other)

all_mains : (images : List (List ℕ)) → list_all adds (map plain.to_main images) ≡ true
all_mains [] = refl
all_mains (image ∷ images) = all_mains images

plain_adds : (program : Kind) (parm : Parm) (taken : List (List ℕ)) (closed : Bool) → list_all adds (plain.prog_writes program parm taken closed) ≡ true
unfolding plain.prog_writes
plain_adds program parm taken false = all_mains (plain.images_for program parm taken)
plain_adds program parm taken true =
    all_both (map plain.to_main (plain.images_for program parm taken)) (map plain.to_main (plain.closing_images program parm (plain.sum_of program parm taken)))
    (all_mains (plain.images_for program parm taken)) (all_mains (plain.closing_images program parm (plain.sum_of program parm taken)))

all_rejects : (images : List (List ℕ)) → list_all adds (map (write_to Rejects) images) ≡ true
all_rejects [] = refl
all_rejects (image ∷ images) = all_rejects images

held_adds : (with_held : Bool) (held : Option (List ℕ)) → list_all adds (if with_held then write_held held else []) ≡ true
held_adds true None = refl
held_adds true (Some image) = refl
held_adds false held = refl

group_adds : (with_held : Bool) (balance : Balance) → list_all adds (group_writes with_held balance) ≡ true
group_adds with_held balance =
    all_both (map (write_to Rejects) balance.rejected) (if with_held then write_held balance.held else []) (all_rejects balance.rejected) (held_adds with_held balance.held)

master_adds : (closed : Bool) (groups : List (List Taken)) → list_all adds (master_writes closed groups) ≡ true
master_adds closed [] = refl
master_adds closed (group ∷ []) = group_adds closed (balance_of group)
master_adds closed (group ∷ next ∷ groups) =
    all_both (group_writes true (balance_of group)) (master_writes closed (next ∷ groups)) (group_adds true (balance_of group)) (master_adds closed (next ∷ groups))

merged_adds : (taken : List Taken) → list_all adds (map (λ (one : Taken). write_to Main one.bytes) taken) ≡ true
merged_adds [] = refl
merged_adds (one ∷ taken) = merged_adds taken

match_adds : (program : Kind) (keys : Keys) (taken : List Taken) (closed : Bool) → is_update program ≡ false → list_all adds (match_writes program keys taken closed) ≡ true
unfolding match_writes
match_adds Copy keys taken closed isnt = refl
match_adds Select keys taken closed isnt = refl
match_adds Merge keys taken closed isnt = merged_adds taken
match_adds Master keys taken closed isnt = master_adds closed (groups_of keys taken)
match_adds Update keys taken closed isnt = absurd (false≢true (sym isnt))
match_adds Print keys taken closed isnt = refl
match_adds Br14 keys taken closed isnt = refl

by_adds : (two : Bool) (case : ProgramCase) → is_update case.program ≡ false → list_all adds (work_by two case).writes ≡ true
by_adds false case isnt = plain_adds case.program case.parm _ _
by_adds true case isnt = match_adds case.program _ _ _ isnt

-- another program rewrites nothing
pub work-adds : (case : ProgramCase) → is_update case.program ≡ false → list_all adds (work case).writes ≡ true
unfolding work
work-adds case isnt = by_adds (has_two_inputs case.program) case isnt

-- ---- UPDATE

-- what holds of UPDATE holds of the program
pub by_update : (P : Kind → Type 0) (program : Kind) → is_update program ≡ true → P Update → P program
by_update P Copy is holds = absurd (false≢true is)
by_update P Select is holds = absurd (false≢true is)
by_update P Merge is holds = absurd (false≢true is)
by_update P Master is holds = absurd (false≢true is)
by_update P Update is holds = holds
by_update P Print is holds = absurd (false≢true is)
by_update P Br14 is holds = absurd (false≢true is)

seconds_more : (count : ℕ) (taken : List Taken) → length (of_second (take (suc count) taken)) ≤ suc (length (of_second (take count taken)))
seconds_more count [] = omega arith
seconds_more zero (first ∷ rest) = by first.second
  where
    by : (second : Bool) → length (cond second (first ∷ []) []) ≤ 1
    by true = omega arith
    by false = omega arith
seconds_more (suc count) (first ∷ rest) = by first.second (seconds_more count rest)
  where
    by : (second : Bool) → length (of_second (take (suc count) rest)) ≤ suc (length (of_second (take count rest))) → length (cond second (first ∷ of_second (take (suc count) rest)) (of_second (take (suc count) rest))) ≤ suc (length (cond second (first ∷ of_second (take count rest)) (of_second (take count rest))))
    by true more = omega arith
    by false more = more

-- it writes once for each transaction
update_count : (keys : Keys) (taken : List Taken) (closed : Bool) → length (match_writes Update keys taken closed) ≡ length (of_second taken)
unfolding match_writes
update_count keys taken closed = length-map (of_second taken) (update_write keys (of_first taken))

update_more : (keys : Keys) (taken : List Taken) (count : ℕ) → length (match_writes Update keys (take (suc count) taken) false) ≤ suc (length (match_writes Update keys (take count taken) false))
update_more keys taken count =
    let after : length (match_writes Update keys (take (suc count) taken) false) ≡ length (of_second (take (suc count) taken)) = update_count keys (take (suc count) taken) false in
    let before : length (match_writes Update keys (take count taken) false) ≡ length (of_second (take count taken)) = update_count keys (take count taken) false in
    let more : length (of_second (take (suc count) taken)) ≤ suc (length (of_second (take count taken))) = seconds_more count taken in
    omega arith

update_whole : (keys : Keys) (taken : List Taken) (closed : Bool) → length (match_writes Update keys taken closed) ≡ length (match_writes Update keys (take (length taken) taken) false)
update_whole keys taken closed =
    update_count keys taken closed
    ∙ sym (update_count keys (take (length taken) taken) false ∙ ap (λ all. length (of_second all)) (take_all (length taken) taken (omega arith)))

upto_more : (parm : Parm) (first second : List (List ℕ)) (count : ℕ) → (let case : ProgramCase = record { program = Update; parm = parm; first = first; second = second } in length (upto case (suc count)) ≤ suc (length (upto case count)))
unfolding upto
upto_more parm first second count =
    let case : ProgramCase = record { program = Update; parm = parm; first = first; second = second } in
    update_more (case_keys (match_case case)) (taken_records (match_case case)) count

work_whole : (parm : Parm) (first second : List (List ℕ)) → (let case : ProgramCase = record { program = Update; parm = parm; first = first; second = second } in length (work case).writes ≡ length (upto case (records_taken case)))
unfolding work upto records_taken
work_whole parm first second =
    let case : ProgramCase = record { program = Update; parm = parm; first = first; second = second } in
    update_whole (case_keys (match_case case)) (taken_records (match_case case)) _

-- ---- a unit

-- the writes of a unit as a part of the work
pub record IsPart (case : ProgramCase) (taken : ℕ) : Type 0 where
  pub more : List Write
  pub whole : (work case).writes ≡ upto case taken ++ ((unit_done case taken).writes.items ++ more)

pub unit-part : (case : ProgramCase) (taken : ℕ) → taken ≤ records_taken case → IsPart case taken
unit-part case taken within =
    number-cases taken (records_taken case)
    (λ same. record { more = []; whole = (ends_work case taken same).all ∙ ap (λ items. upto case taken ++ items) (sym (append-nil (unit_done case taken).writes.items)) })
    (λ apart.
    let next : TakesOne case taken = takes_one case taken (omega (arith, apart, within)) in
    record {
      more = rest case (taken + 1);
      whole =
          work_in_parts case (taken + 1) (omega (arith, apart, within))
          ∙ ap (λ front. front ++ rest case (taken + 1)) next.more
          ∙ append_assoc (upto case taken) (unit_done case taken).writes.items (rest case (taken + 1));
    })

all-before : (front more : List Write) → list_all adds (front ++ more) ≡ true → list_all adds front ≡ true
all-before [] more all = refl
all-before (write ∷ front) more all = and_from (adds write) _ (and-first (adds write) _ all) (all-before front more (and-second (adds write) _ all))

all-behind : (front more : List Write) → list_all adds (front ++ more) ≡ true → list_all adds more ≡ true
all-behind [] more all = all
all-behind (write ∷ front) more all = all-behind front more (and-second (adds write) _ all)

-- a unit of another program rewrites nothing
pub unit-adds : (case : ProgramCase) (taken : ℕ) → taken ≤ records_taken case → is_update case.program ≡ false → list_all adds (unit_done case taken).writes.items ≡ true
unit-adds case taken within isnt =
    let part : IsPart case taken = unit-part case taken within in
    all-before (unit_done case taken).writes.items part.more
    (all-behind (upto case taken) ((unit_done case taken).writes.items ++ part.more) (sym (ap (list_all adds) part.whole) ∙ work-adds case isnt))

-- the one that ends UPDATE writes nothing
ending-none : (case : ProgramCase) (taken : ℕ) → taken ≡ records_taken case → is_update case.program ≡ true → length (unit_done case taken).writes.items ≡ 0
ending-none case taken same updates =
    let all : length (work case).writes ≡ length (upto case taken) + length (unit_done case taken).writes.items =
    ap length (ends_work case taken same).all ∙ length-append (upto case taken) (unit_done case taken).writes.items in
    let whole : length (work case).writes ≡ length (upto case (records_taken case)) =
    by_update (λ program. let its : ProgramCase = record case { program = program } in length (work its).writes ≡ length (upto its (records_taken its))) case.program updates (work_whole case.parm case.first case.second) in
    let front : length (upto case taken) ≡ length (upto case (records_taken case)) = ap (λ count. length (upto case count)) same in
    omega arith

none-adds : (writes : List Write) → length writes ≡ 0 → list_all adds writes ≡ true
none-adds [] none = refl
none-adds (write ∷ writes) none = absurd (omega (arith, none))

-- the unit that ends a program rewrites nothing
pub ending-adds : (case : ProgramCase) (taken : ℕ) → taken ≡ records_taken case → list_all adds (unit_done case taken).writes.items ≡ true
ending-adds case taken same =
    bool-cases (is_update case.program)
    (λ updates. none-adds (unit_done case taken).writes.items (ending-none case taken same updates))
    (λ isnt. unit-adds case taken (omega (arith, same)) isnt)

-- a unit of UPDATE writes once at most
pub unit-once : (case : ProgramCase) (taken : ℕ) → taken ≤ records_taken case → is_update case.program ≡ true → length (unit_done case taken).writes.items ≤ 1
unit-once case taken within updates =
    number-cases taken (records_taken case)
    (λ same. let none : length (unit_done case taken).writes.items ≡ 0 = ending-none case taken same updates in omega arith)
    (λ apart.
    let next : TakesOne case taken = takes_one case taken (omega (arith, apart, within)) in
    let later : length (upto case (suc taken)) ≡ length (upto case taken) + length (unit_done case taken).writes.items =
    ap (λ count. length (upto case count)) (let e : suc taken ≡ taken + 1 = omega arith in e) ∙ ap length next.more ∙ length-append (upto case taken) (unit_done case taken).writes.items in
    let more : length (upto case (suc taken)) ≤ suc (length (upto case taken)) =
    by_update (λ program. let its : ProgramCase = record case { program = program } in length (upto its (suc taken)) ≤ suc (length (upto its taken))) case.program updates (upto_more case.parm case.first case.second taken) in
    omega arith)
