-- The points of checkpoints in effect that opening reads: what was found of a run, and whose the points of a list are.
use Rattle.std.proofs.Common.{◌≡◌, ◌≤◌, ◌<◌, ◌+◌, ◌++◌, ◌^◌, ◌&&◌, ◌==◌, ℕ, zero, suc, Bool, true, false, cond, List, [], ◌∷◌, find, length, if◌then◌else◌, refl, ap, sym, ◌∙◌, subst, Option, None, Some, Result, Ok, arith}
use Rattle.std.proofs.lemmas.Bool.{false≢true}
use Rattle.std.specs.Prelude.{nat_le, nat_lt}
use Rattle.std.specs.List.{AllByRecursion}
use Rattle.std.specs.Option.{option_map_or}
use Rattle.ckr_base.proofs.Bools.{and-first, and-second, bool-cases}
use Rattle.ckr_base.proofs.Numbers.{equal-from, equal-true, nat_le-from, nat_le-true, nat_lt-true, number-cases}
use Rattle.ckr_base.proofs.Options.{is_some-true, some-not-none, some-one}
use Rattle.ckr_base.proofs.Sequences.{each-implies, get-inside}
use Rattle.ckr_entry.specs.Entry.{IsEntry}
use Rattle.ckr_entry.specs.Parts.{Entry}
use Rattle.ckr_entry.specs.declared.point.State.{State}
use Rattle.ckr_entry.specs.declared.point.State.TheVariants.{Plain, Matched}
use Rattle.ckr_jcl.specs.declared.deck.Kind.{Kind}
use Rattle.ckr_jcl.specs.declared.deck.Kind.TheVariants.{Copy, Select, Merge, Master, Update, Print, Br14}
use Rattle.ckr_meaning.specs.EffectiveJob.{OwnedStep, names_of}
use Rattle.ckr_meaning.specs.States.{first_of, second_of}
use Rattle.ckr_points.specs.Follows.{is_within, own_step}
use Rattle.ckr_points.specs.Office.{is_holder}
use Rattle.ckr_points.specs.Restart.{place_of, step_in}
use Rattle.ckr_points.specs.Rows.{EffectPoint, RunRow, TablesModel, run_of}
use Rattle.ckr_points.specs.Statements.{kind_number}
use Rattle.ckr_desk_refines.specs.Memory.EventChanges.{is_point_of}
use Rattle.ckr_desk_refines.specs.Memory.OwnSteps.{HavePoints}
use Rattle.ckr_desk_refines.specs.Memory.Parts.{IsPointCounted}
use Rattle.ckr_desk_refines.specs.Memory.View.{PointView}
use Rattle.ckr_desk_refines.specs.Entries.{AreRead}
use Rattle.ckr_desk_refines.specs.DiskEntries.EntryRefusal.{are_present, is_of_run, is_of_step}
use Rattle.ckr_desk_turn.proofs.Checkpoints.Ranges.{entry-range}
use Rattle.ckr_desk_turn.specs.Checkpoints.{are_counts_in_range, is_state_in_range}
use Rattle.ckr_steps.specs.Units.{entries_of, program_of, rejects_of, sum_of}
use Rattle.ckr_volumes.specs.declared.layout.Layout.{Layout}
use Rattle.ckr_desk_refines.specs.DiskEntries.StepState.{StepState}
use Rattle.ckr_desk.specs.Entries.{IsFoundOf}
use Rattle.ckr_desk.specs.Points.{ArePointsRead, HasPointRead, IsPointRead, point_at, point_in}

-- ---- what was found of a run

-- a point is that of the run's checkpoint in effect
abbrev pub IsPointOf : Type 0 → Layout → TablesModel → List ℕ → RunRow → PointView → Type 0
IsPointOf told layout tables image row point = (effect : EffectPoint) × (row.in_effect ≡ Some effect) × IsPointRead told layout tables image row effect point

-- where its step was found to stand, its point is
pub point-found : (told : Type 0) (layout : Layout) (tables : TablesModel) (image : List ℕ) (row : RunRow) (run : ℕ) (state : StepState) → run ≡ row.number
    → IsFoundOf told layout tables image row (Some (Ok state)) → IsPointOf told layout tables image row (point_at run state)
point-found told layout tables image row run state same found = (
  found.0,
  found.1,
  record {
    entry = found.2.entry;
    form = found.2.form;
    its = found.2.its;
    is = ap (point_at run) found.2.is ∙ ap (λ (n : ℕ). point_in n found.2.entry) same;
    read = found.2.read;
  },
)

-- ---- its numbers

counts-in : (first second rejects entries : ℕ) → are_counts_in_range first second rejects entries ≡ true → (first ≤ 1000000) × (second ≤ 1000000) × (rejects ≤ 1000000) × (entries ≤ 1000000)
counts-in first second rejects entries range =
    let three : (nat_le first 1000000 && nat_le second 1000000 && nat_le rejects 1000000) ≡ true = and-first _ (nat_le entries 1000000) range in
    let two : (nat_le first 1000000 && nat_le second 1000000) ≡ true = and-first _ (nat_le rejects 1000000) three in (
      nat_le-true first 1000000 (and-first (nat_le first 1000000) (nat_le second 1000000) two),
      nat_le-true second 1000000 (and-second (nat_le first 1000000) (nat_le second 1000000) two),
      nat_le-true rejects 1000000 (and-second (nat_le first 1000000 && nat_le second 1000000) (nat_le rejects 1000000) three),
      nat_le-true entries 1000000 (and-second (nat_le first 1000000 && nat_le second 1000000 && nat_le rejects 1000000) (nat_le entries 1000000) range),
    )

record AreFew (state : State) : Type 0 where
  pub first : first_of state ≤ 1000000
  pub second : second_of state ≤ 1000000
  pub rejects : rejects_of state ≤ 1000000
  pub entries : entries_of state ≤ 1000000
  pub sum : sum_of state < 10 ^ 21

state-few : (state : State) → is_state_in_range state ≡ true → AreFew state
state-few (Plain state) range =
    let few = counts-in state.first state.second state.rejects state.entries (and-first _ (nat_lt state.sum (10 ^ 21)) range) in
    record {
      first = few.0;
      second = few.1;
      rejects = few.2;
      entries = few.3;
      sum = nat_lt-true state.sum (10 ^ 21) (and-second (are_counts_in_range state.first state.second state.rejects state.entries) (nat_lt state.sum (10 ^ 21)) range);
    }
state-few (Matched state) range =
    let few = counts-in state.first state.second state.rejects state.entries range in
    record { first = few.0; second = few.1; rejects = few.2; entries = few.3; sum = omega arith }

pub counted-in : (run : ℕ) (entry : Entry) → IsEntry entry → IsPointCounted (point_in run entry)
counted-in run entry form parm range =
    let ranged = entry-range entry form in
    let head : (nat_le entry.count 9999999 && nat_le entry.writes 3000000) ≡ true = and-first _ (is_state_in_range entry.state) ranged in
    let few : AreFew entry.state = state-few entry.state (and-second (nat_le entry.count 9999999 && nat_le entry.writes 3000000) (is_state_in_range entry.state) ranged) in
    let writes : entry.writes ≤ 3000000 = nat_le-true entry.writes 3000000 (and-second (nat_le entry.count 9999999) (nat_le entry.writes 3000000) head) in
    record {
      field = range.sum;
      key = range.key;
      first = few.first;
      second = few.second;
      rejects = omega (arith, few.rejects);
      entries = few.entries;
      sum = omega (arith, few.sum);
      writes = omega (arith, writes);
    }

-- ---- lists of points

-- one whose number is at most this
abbrev pub IsUpTo : ℕ → PointView → Type 0
IsUpTo most point = point.run ≤ most

find-front : {X : Type 0} (test : X → Bool) (front back : List X) (x : X) → find test front ≡ Some x → find test (front ++ back) ≡ Some x
find-front test [] back x is = absurd (some-not-none x (sym is))
find-front test (first ∷ rest) back x is = by (test first) is (find-front test rest back x)
  where
    by : (b : Bool) → cond b (Some first) (find test rest) ≡ Some x → (find test rest ≡ Some x → find test (rest ++ back) ≡ Some x) → cond b (Some first) (find test (rest ++ back)) ≡ Some x
    by true here later = here
    by false there later = later there

find-behind : (number most : ℕ) (points : List PointView) (point : PointView) → most < number → AllByRecursion (IsUpTo most) points → point.run ≡ number → find (is_point_of number) (points ++ point ∷ []) ≡ Some point
find-behind number most [] point beyond all is = ap (λ b. cond b (Some point) None) (equal-from point.run number is)
find-behind number most (first ∷ rest) point beyond all is =
    bool-cases (first.run == number)
    (λ same. let here : first.run ≡ number = equal-true first.run number same in absurd (let no : ⊥ = omega (arith, here, all.0, beyond) in no))
    (λ other. ap (λ b. cond b (Some first) (find (is_point_of number) (rest ++ point ∷ []))) other ∙ find-behind number most rest point beyond all.1 is)

pub upto-more : (place : ℕ) (points : List PointView) → AllByRecursion (IsUpTo place) points → AllByRecursion (IsUpTo (place + 1)) points
upto-more place points all = each-implies (IsUpTo place) (IsUpTo (place + 1)) points (λ point le. (let e : point.run ≤ place + 1 = omega (arith, le) in e)) all

next-number : (number place : ℕ) → number ≤ place + 1 → nat_le number place ≡ false → number ≡ suc place
next-number number place few past =
    number-cases number (suc place)
    (λ same. same)
    (λ apart. absurd (false≢true (sym past ∙ nat_le-from number place (let e : number ≤ place = omega (arith, few, apart) in e))))

-- ---- the program of an entry

-- the program of a number
abbrev kind_at : ℕ → Kind
kind_at n = if n == 1 then Copy else if n == 2 then Select else if n == 3 then Merge else if n == 4 then Master else if n == 5 then Update else if n == 6 then Print else Br14

kind-back : (kind : Kind) → kind_at (kind_number kind) ≡ kind
kind-back Copy = refl
kind-back _ = refl

pub kind-same : (one other : Kind) → kind_number one ≡ kind_number other → one ≡ other
kind-same one other same = sym (kind-back one) ∙ ap kind_at same ∙ kind-back other

right-program : (row : RunRow) (owned : OwnedStep) (entry : Entry) → own_step row ≡ Some owned → is_of_run row entry ≡ true → program_of entry.state ≡ owned.step.program
right-program row owned entry found right =
    let its : is_of_step row.job.root owned (step_in (place_of row)) entry ≡ true =
    sym (ap (λ (o : Option OwnedStep). option_map_or (λ owned. is_of_step row.job.root owned (step_in (place_of row)) entry) o false) found) ∙ right in
    let present : Bool = are_present entry.marks (names_of row.job.root owned) in
    let same : Bool = kind_number (program_of entry.state) == kind_number owned.step.program in
    let number : kind_number (program_of entry.state) ≡ kind_number owned.step.program =
    equal-true (kind_number (program_of entry.state)) (kind_number owned.step.program)
    (and-second (entry.owner == owned.owner && entry.step == step_in (place_of row)) same (and-first (entry.owner == owned.owner && entry.step == step_in (place_of row) && same) present its)) in
    kind-same (program_of entry.state) owned.step.program number

pub ok-entry : (one other : Entry) → ◌≡◌ {A = Result Entry ℕ} (Ok one) (Ok other) → one ≡ other
ok-entry one other same = cc

-- ---- the points of the runs up to a number

module _ (told : Type 0) (layout : Layout) (tables : TablesModel) (image : List ℕ) where
  -- they have that of each run that holds its names and has a checkpoint in effect
  unfoldable pub ArePointsTo : ℕ → List PointView → Type 0
  ArePointsTo most points =
      (number : ℕ) (row : RunRow) (effect : EffectPoint) → number ≤ most → run_of tables number ≡ Some row → is_holder row.state ≡ true → row.in_effect ≡ Some effect
      → HasPointRead told layout tables image number row effect points

  pub points-none : (points : List PointView) → ArePointsTo 0 points
  unfolding ArePointsTo
  points-none points zero row effect few at holds got = absurd (some-not-none row (sym at))
  points-none points (suc number) row effect few at holds got = absurd (let no : ⊥ = omega (arith, few) in no)

  -- up to the next number there is no other
  pub points-later : (place : ℕ) (points : List PointView) → ArePointsTo place points → ((row : RunRow) → run_of tables (suc place) ≡ Some row → (row.number ≡ suc place) × IsFoundOf told layout tables image row None) → ArePointsTo (place + 1) points
  unfolding ArePointsTo
  points-later place points before none number row effect few at holds got =
      bool-cases (nat_le number place)
      (λ le. before number row effect (nat_le-true number place le) at holds got)
      (λ past.
      let here : number ≡ suc place = next-number number place few past in
      absurd (some-not-none effect (sym got ∙ (none row (ap (run_of tables) (sym here) ∙ at)).1 holds)))

  -- or this one more
  pub points-more : (place : ℕ) (points : List PointView) (point : PointView) → ArePointsTo place points → AllByRecursion (IsUpTo place) points
      → ((row : RunRow) → run_of tables (suc place) ≡ Some row → (row.number ≡ suc place) × IsPointOf told layout tables image row point) → ArePointsTo (place + 1) (points ++ point ∷ [])
  unfolding ArePointsTo
  points-more place points point before upto found number row effect few at holds got =
      bool-cases (nat_le number place)
      (λ le.
      let has : HasPointRead told layout tables image number row effect points = before number row effect (nat_le-true number place le) at holds got in
      record { point = has.point; found = find-front (is_point_of number) points (point ∷ []) has.point has.found; read = has.read })
      (λ past.
      let here : number ≡ suc place = next-number number place few past in
      let its = found row (ap (run_of tables) (sym here) ∙ at) in
      let same : its.1.0 ≡ effect = some-one its.1.0 effect row.in_effect its.1.1 got in
      record {
        point = point;
        found = find-behind number place points point (let e : place < number = omega (arith, here) in e) upto (ap (λ (p : PointView). p.run) its.1.2.is ∙ its.0 ∙ sym here);
        read = subst (λ (e : EffectPoint). IsPointRead told layout tables image row e point) same its.1.2;
      })

  -- of all runs
  pub points-all : (place : ℕ) (points : List PointView) → length tables.runs ≤ place → ArePointsTo place points → ArePointsRead told layout tables image points
  unfolding ArePointsTo
  points-all place points most all zero row effect at holds got = absurd (some-not-none row (sym at))
  points-all place points most all (suc number) row effect at holds got = all (suc number) row effect (let inside : number < length tables.runs = get-inside row tables.runs number at in omega (arith, inside, most)) at holds got

  -- the new one is of the next number
  pub next-point : (place : ℕ) (row : RunRow) (point : PointView) → row.number ≡ suc place → IsPointOf told layout tables image row point → IsUpTo (place + 1) point × IsPointCounted point
  next-point place row point number found = (
    (let same : point.run ≡ row.number = ap (λ (p : PointView). p.run) found.2.is in omega (arith, same, number)),
    subst IsPointCounted (sym found.2.is) (counted-in row.number found.2.entry found.2.form),
  )

  -- ---- of the desk

  -- a run within its step that holds its names has the point of its checkpoint in effect, with its step's program
  pub points-known : (points : List PointView) → ArePointsRead told layout tables image points → HavePoints tables points
  points-known points are number row owned at runs some found =
      is_some-true row.in_effect some
      (λ effect got.
      let has : HasPointRead told layout tables image number row effect points = are number row effect at (and-first (is_holder row.state) (is_within (place_of row)) runs) got in
      record {
        point = has.point;
        found = has.found;
        program = ap (λ (p : PointView). program_of p.state) has.read.is ∙ right-program row owned has.read.entry found has.read.its;
      })

  -- where the disk tells, the points are those of the entries
  pub points-read : told → (points : List PointView) → ArePointsRead told layout tables image points → AreRead layout tables image points
  points-read tells points are run row effect table entry at runs got there read =
      let has : HasPointRead told layout tables image run row effect points = are run row effect at (and-first (is_holder row.state) (is_within (place_of row)) runs) got in
      let same : has.read.entry ≡ entry = ok-entry has.read.entry entry (sym (has.read.read tells table there) ∙ read) in
      record {
        point = has.point;
        found = has.found;
        state = ap (λ (p : PointView). p.state) has.read.is ∙ ap (λ (e : Entry). e.state) same;
        writes = ap (λ (p : PointView). p.writes) has.read.is ∙ ap (λ (e : Entry). e.writes) same;
      }
