-- The marks of a point, and the names that its step made.
use Rattle.std.proofs.Common.{◌≡◌, ◌≢◌, ℕ, zero, suc, pred, Bool, true, false, cond, ◌&&◌, ◌||◌, if◌then◌else◌, List, [], ◌∷◌, drop, filter, map, refl, ap, sym, ◌∙◌, Option, Some, None}
use Rattle.std.specs.Prelude.{◌==◌, nat_lt}
use Rattle.std.specs.Option.{option_map, option_map_or, is_none, is_some}
use Rattle.std.specs.Ordering.{is_eq}
use Rattle.std.proofs.lemmas.Bool.{false≢true, or_right}
use Rattle.std.proofs.lemmas.List.Folds.{list_any-append}
use Rattle.std.specs.FinMap.Entries.{by_order}
use Rattle.std.specs.declared.cmp.Ordering.TheVariants.{Less, Equal, Greater}
use Rattle.ckr_base.proofs.Bools.{and-false, bool-cases}
use Rattle.ckr_base.proofs.Numbers.{equal-apart, equal-itself, equal-true, number-cases}
use Rattle.ckr_base.proofs.Options.{option-cases}
use Rattle.ckr_base.proofs.Sequences.{find-passes}
use Rattle.ckr_entry.specs.declared.point.Mark.{Mark}
use Rattle.ckr_library.specs.NameMaps.{Name, Named, name_cmp, same_name, entry_at, with_entry}
use Rattle.ckr_library.proofs.Named.{at-with_entry, name-same}
use Rattle.ckr_meaning.specs.EffectiveJob.{OwnedStep, is_among, names_of, names_of_job, names_of_steps}
use Rattle.ckr_points.specs.Tables.{own_made}
use Rattle.ckr_points.specs.Marks.{carried_marks, is_marked_absent, made_names, mark_at, mark_now, marked_under, marks_for, marks_now, own_names, point_at, present_at, present_of, with_point}
use Rattle.ckr_points.specs.Rows.{RunRow, StartPoint, TableSet}

-- ---- marks by name

-- each mark stands under its own name
abbrev AreKeyed : Named Mark → Type 0
AreKeyed [] = Unit {0}
AreKeyed (entry ∷ rest) = (entry.1.name ≡ entry.0) × AreKeyed rest

keyed-with_entry : (name : Name) (mark : Mark) (marks : Named Mark) → mark.name ≡ name → AreKeyed marks → AreKeyed (with_entry name mark marks)
keyed-with_entry name mark [] named keyed = (named, tt)
keyed-with_entry name mark (entry ∷ rest) named keyed =
    elim (name_cmp name entry.0) as (λ r. name_cmp name entry.0 ≡ r → AreKeyed (by_order r ((name, mark) ∷ entry ∷ rest) ((entry.0, mark) ∷ rest) (entry ∷ with_entry name mark rest))) [
      | Less ↦ λ e. (named, keyed)
      | Equal ↦ λ e. (named ∙ name-same name entry.0 (ap is_eq e), keyed.1)
      | Greater ↦ λ e. (keyed.0, keyed-with_entry name mark rest named keyed.1)
    ] refl

mark_at-keyed : (marks : Named Mark) (name : Name) → AreKeyed marks → mark_at (map (λ entry. entry.1) marks) name ≡ entry_at marks name
mark_at-keyed [] name keyed = refl
mark_at-keyed (entry ∷ rest) name keyed =
    ap (λ n. cond (same_name name n) (Some entry.1) (mark_at (map (λ entry. entry.1) rest) name)) keyed.0
    ∙ ap (cond (same_name name entry.0) (Some entry.1)) (mark_at-keyed rest name keyed.1)

keyed-marked : (mark : Name → Mark) → ((name : Name) → (mark name).name ≡ name) → (names : List Name) → AreKeyed (marked_under mark names)
keyed-marked mark named [] = tt
keyed-marked mark named (name ∷ names) = keyed-with_entry name (mark name) (marked_under mark names) (named name) (keyed-marked mark named names)

entry-marked : (mark : Name → Mark) (names : List Name) (name : Name) → entry_at (marked_under mark names) name ≡ cond (is_among names name) (Some (mark name)) None
entry-marked mark [] name = refl
entry-marked mark (first ∷ names) name =
    at-with_entry first name (mark first) (marked_under mark names)
    ∙ ap (cond (same_name name first) (Some (mark first))) (entry-marked mark names name)
    ∙ bool-cases (same_name name first)
    (λ same.
    ap (λ b. cond b (Some (mark first)) (cond (is_among names name) (Some (mark name)) None)) same
    ∙ ap (λ n. Some (mark n)) (sym (name-same name first same))
    ∙ sym (ap (λ b. cond (b || is_among names name) (Some (mark name)) None) same))
    (λ apart.
    ap (λ b. cond b (Some (mark first)) (cond (is_among names name) (Some (mark name)) None)) apart
    ∙ sym (ap (λ b. cond (b || is_among names name) (Some (mark name)) None) apart))

-- a name that is marked has its mark
pub mark_at-for : (mark : Name → Mark) (names : List Name) (name : Name) → ((name : Name) → (mark name).name ≡ name) → is_among names name ≡ true → mark_at (marks_for mark names) name ≡ Some (mark name)
mark_at-for mark names name named among =
    mark_at-keyed (marked_under mark names) name (keyed-marked mark named names)
    ∙ entry-marked mark names name ∙ ap (λ b. cond b (Some (mark name)) None) among

-- and no other one has one
pub mark_at-among : (mark : Name → Mark) (names : List Name) (name : Name) → ((name : Name) → (mark name).name ≡ name) → is_some (mark_at (marks_for mark names) name) ≡ is_among names name
mark_at-among mark names name named =
    ap is_some (mark_at-keyed (marked_under mark names) name (keyed-marked mark named names) ∙ entry-marked mark names name) ∙ by (is_among names name)
  where
    by : (b : Bool) → is_some (cond b (Some (mark name)) None) ≡ b
    by true = refl
    by false = refl

-- ---- names

pub among-filter : (kept : Name → Bool) (names : List Name) (name : Name) → is_among (filter kept names) name ≡ (kept name && is_among names name)
among-filter kept [] name = none (kept name)
  where
    none : (b : Bool) → false ≡ (b && false)
    none true = refl
    none false = refl
among-filter kept (first ∷ names) name =
    bool-cases (kept first)
    (λ here.
    ap (λ b. is_among (cond b (first ∷ filter kept names) (filter kept names)) name) here
    ∙ ap (λ b. same_name name first || b) (among-filter kept names name)
    ∙ bool-cases (same_name name first)
    (λ same. ap (λ b. b || (kept name && is_among names name)) same ∙ sym (ap (λ b. b && (same_name name first || is_among names name)) (ap kept (name-same name first same) ∙ here) ∙ ap (λ b. b || is_among names name) same))
    (λ apart. ap (λ b. b || (kept name && is_among names name)) apart ∙ sym (ap (λ b. kept name && (b || is_among names name)) apart)))
    (λ out.
    ap (λ b. is_among (cond b (first ∷ filter kept names) (filter kept names)) name) out
    ∙ among-filter kept names name
    ∙ bool-cases (same_name name first)
    (λ same. ap (λ b. b && is_among names name) (ap kept (name-same name first same) ∙ out) ∙ sym (ap (λ b. b && (same_name name first || is_among names name)) (ap kept (name-same name first same) ∙ out)))
    (λ apart. sym (ap (λ b. kept name && (b || is_among names name)) apart)))

pub among-dropped : (root count : ℕ) (steps : List OwnedStep) (name : Name) → is_among (names_of_steps root (drop count steps)) name ≡ true → is_among (names_of_steps root steps) name ≡ true
among-dropped root zero steps name among = among
among-dropped root (suc count) [] name among = among
among-dropped root (suc count) (owned ∷ rest) name among =
    list_any-append (same_name name) (names_of root owned) (names_of_steps root rest)
    ∙ or_right (is_among (names_of root owned) name) _ (among-dropped root count rest name among)

-- ---- the points of a run

turned : (one other : ℕ) → (one == other) ≡ false → (other == one) ≡ false
turned one other e = equal-apart other one (λ same. absurd (false≢true (sym e ∙ ap (λ n. one == n) same ∙ equal-itself one)))

pub point_at-new : (point : StartPoint) (points : List StartPoint) → point_at (with_point point points) point.step ≡ Some point
point_at-new point [] = ap (λ b. cond b (Some point) None) (equal-itself point.step)
point_at-new point (first ∷ rest) =
    bool-cases (point.step == first.step)
    (λ same.
    ap (λ b. point_at (if b then point ∷ rest else (if nat_lt point.step first.step then point ∷ first ∷ rest else first ∷ with_point point rest)) point.step) same
    ∙ ap (λ b. cond b (Some point) (point_at rest point.step)) (equal-itself point.step))
    (λ apart.
    ap (λ b. point_at (if b then point ∷ rest else (if nat_lt point.step first.step then point ∷ first ∷ rest else first ∷ with_point point rest)) point.step) apart
    ∙ bool-cases (nat_lt point.step first.step)
    (λ below.
    ap (λ b. point_at (if b then point ∷ first ∷ rest else first ∷ with_point point rest) point.step) below
    ∙ ap (λ b. cond b (Some point) (point_at (first ∷ rest) point.step)) (equal-itself point.step))
    (λ above.
    ap (λ b. point_at (if b then point ∷ first ∷ rest else first ∷ with_point point rest) point.step) above
    ∙ ap (λ b. cond b (Some first) (point_at (with_point point rest) point.step)) (turned point.step first.step apart)
    ∙ point_at-new point rest))

pub point_at-other : (point : StartPoint) (points : List StartPoint) (step : ℕ) → step ≢ point.step → point_at (with_point point points) step ≡ point_at points step
point_at-other point [] step other = ap (λ b. cond b (Some point) None) (equal-apart point.step step (λ e. other (sym e)))
point_at-other point (first ∷ rest) step other =
    bool-cases (point.step == first.step)
    (λ same.
    ap (λ b. point_at (if b then point ∷ rest else (if nat_lt point.step first.step then point ∷ first ∷ rest else first ∷ with_point point rest)) step) same
    ∙ ap (λ b. cond b (Some point) (point_at rest step)) (equal-apart point.step step (λ e. other (sym e)))
    ∙ sym (ap (λ b. cond b (Some first) (point_at rest step)) (equal-apart first.step step (λ e. other (sym e ∙ sym (equal-true point.step first.step same))))))
    (λ apart.
    ap (λ b. point_at (if b then point ∷ rest else (if nat_lt point.step first.step then point ∷ first ∷ rest else first ∷ with_point point rest)) step) apart
    ∙ bool-cases (nat_lt point.step first.step)
    (λ below.
    ap (λ b. point_at (if b then point ∷ first ∷ rest else first ∷ with_point point rest) step) below
    ∙ ap (λ b. cond b (Some point) (point_at (first ∷ rest) step)) (equal-apart point.step step (λ e. other (sym e))))
    (λ above.
    ap (λ b. point_at (if b then point ∷ first ∷ rest else first ∷ with_point point rest) step) above
    ∙ ap (cond (first.step == step) (Some first)) (point_at-other point rest step other)))

-- ---- what a step made, by its point

own_mark : RunRow → Named TableSet → Name → Mark
own_mark row sets name =
    if is_among (own_names row) name then mark_now sets name
    else option_map_or (λ mark. mark) (mark_at (carried_marks row) name) (mark_now sets name)

own_mark-named : (row : RunRow) (sets : Named TableSet) (name : Name) → (own_mark row sets name).name ≡ name
unfolding own_mark
own_mark-named row sets name =
    bool-cases (is_among (own_names row) name)
    (λ own. ap (λ (b : Bool). let mark : Mark = if b then mark_now sets name else option_map_or (λ mark. mark) (mark_at (carried_marks row) name) (mark_now sets name) in mark.name) own)
    (λ other.
    ap (λ (b : Bool). let mark : Mark = if b then mark_now sets name else option_map_or (λ mark. mark) (mark_at (carried_marks row) name) (mark_now sets name) in mark.name) other
    ∙ option-cases (mark_at (carried_marks row) name)
    (λ none. ap (λ (o : Option Mark). let mark : Mark = option_map_or (λ mark. mark) o (mark_now sets name) in mark.name) none)
    (λ mark e.
    ap (λ (o : Option Mark). let mark : Mark = option_map_or (λ mark. mark) o (mark_now sets name) in mark.name) e
    ∙ sym (name-same name mark.name (find-passes (λ one. same_name name one.name) (carried_marks row) mark e))))

none_mapped : (entry : Option TableSet) → is_none (option_map present_of entry) ≡ is_none entry
none_mapped None = refl
none_mapped (Some table) = refl

pub absent-now : (row : RunRow) (sets : Named TableSet) (name : Name) → is_among (own_names row) name ≡ true → is_marked_absent (marks_now row sets) name ≡ is_none (entry_at sets name)
unfolding own_mark
absent-now row sets name own =
    ap (λ (o : Option Mark). option_map_or (λ mark. is_none mark.present) o false)
    (mark_at-for (own_mark row sets) (names_of_job row.job) name (own_mark-named row sets) (among-dropped row.job.root (pred row.earlier_step) row.job.steps name own))
    ∙ ap (λ (b : Bool). let mark : Mark = if b then mark_now sets name else option_map_or (λ mark. mark) (mark_at (carried_marks row) name) (mark_now sets name) in is_none mark.present) own
    ∙ none_mapped (entry_at sets name)

-- what a mark says that is taken now
pub present-now : (row : RunRow) (sets : Named TableSet) (name : Name) → is_among (own_names row) name ≡ true → present_at (marks_now row sets) name ≡ option_map present_of (entry_at sets name)
unfolding own_mark
present-now row sets name own =
    ap (λ (o : Option Mark). option_map_or (λ mark. mark.present) o None)
    (mark_at-for (own_mark row sets) (names_of_job row.job) name (own_mark-named row sets) (among-dropped row.job.root (pred row.earlier_step) row.job.steps name own))
    ∙ ap (λ (b : Bool). let mark : Mark = if b then mark_now sets name else option_map_or (λ mark. mark) (mark_at (carried_marks row) name) (mark_now sets name) in mark.present) own

-- the names that a step made stand in the step
pub own_made-out : (row : RunRow) (owned : OwnedStep) (step : ℕ) (name : Name) → is_among (names_of row.job.root owned) name ≡ false → is_among (own_made row owned step) name ≡ false
own_made-out row owned step name out = by (point_at row.points step)
  where
    by : (point : Option StartPoint) → is_among (option_map_or (λ (point : StartPoint). made_names point.marks (names_of row.job.root owned)) point []) name ≡ false
    by None = refl
    by (Some point) =
        among-filter (is_marked_absent point.marks) (names_of row.job.root owned) name
        ∙ ap (λ b. is_marked_absent point.marks name && b) out ∙ and-false (is_marked_absent point.marks name)

-- a point that is taken now marks the names of the run's job, and no others
pub covers-now : (row : RunRow) (sets : Named TableSet) (name : Name) → is_some (mark_at (marks_now row sets) name) ≡ is_among (names_of_job row.job) name
unfolding own_mark
covers-now row sets name = mark_at-among (own_mark row sets) (names_of_job row.job) name (own_mark-named row sets)

-- ---- the marks of other names, which a run carries

-- a point that is taken now has of a name that isn't the run's own the mark that the run carries
pub mark-carried : (row : RunRow) (sets : Named TableSet) (name : Name) (mark : Mark) → is_among (names_of_job row.job) name ≡ true → is_among (own_names row) name ≡ false → mark_at (carried_marks row) name ≡ Some mark → mark_at (marks_now row sets) name ≡ Some mark
unfolding own_mark
mark-carried row sets name mark among other has =
    mark_at-for (own_mark row sets) (names_of_job row.job) name (own_mark-named row sets) among
    ∙ ap (λ (b : Bool). Some (if b then mark_now sets name else option_map_or (λ mark. mark) (mark_at (carried_marks row) name) (mark_now sets name))) other
    ∙ ap (λ (o : Option Mark). Some (option_map_or (λ mark. mark) o (mark_now sets name))) has

-- each mark that a run carries of a name that isn't its own stays
abbrev pub KeepsCarried : RunRow → RunRow → Type 0
KeepsCarried row next = (name : Name) (mark : Mark) → is_among (names_of_job row.job) name ≡ true → is_among (own_names row) name ≡ false → mark_at (carried_marks row) name ≡ Some mark → mark_at (carried_marks next) name ≡ Some mark

pub carried-same : (row next : RunRow) → carried_marks next ≡ carried_marks row → KeepsCarried row next
carried-same row next same name mark among other has = ap (λ marks. mark_at marks name) same ∙ has

-- the marks that a run carries behind a point of its own
abbrev carried_with : RunRow → StartPoint → ℕ → List Mark
carried_with row point step = option_map_or (λ point. point.marks) (point_at (with_point point row.points) step) []

-- they stay where a point is taken
pub carried-taken : (row : RunRow) (point : StartPoint) (sets : Named TableSet) → point.marks ≡ marks_now row sets → (name : Name) (mark : Mark) → is_among (names_of_job row.job) name ≡ true → is_among (own_names row) name ≡ false → mark_at (carried_marks row) name ≡ Some mark
    → mark_at (option_map_or (λ (point : StartPoint). point.marks) (point_at (with_point point row.points) row.earlier_step) []) name ≡ Some mark
carried-taken row point sets marks name mark among other has =
    number-cases row.earlier_step point.step
    (λ same.
    ap (λ n. mark_at (carried_with row point n) name) same
    ∙ ap (λ (o : Option StartPoint). mark_at (option_map_or (λ point. point.marks) o []) name) (point_at-new point row.points)
    ∙ ap (λ its. mark_at its name) marks ∙ mark-carried row sets name mark among other has)
    (λ apart. ap (λ (o : Option StartPoint). mark_at (option_map_or (λ point. point.marks) o []) name) (point_at-other point row.points row.earlier_step apart) ∙ has)

-- and where a point of the same marks comes in its place
pub carried-again : (row : RunRow) (point old : StartPoint) → point_at row.points point.step ≡ Some old → point.marks ≡ old.marks
    → option_map_or (λ (point : StartPoint). point.marks) (point_at (with_point point row.points) row.earlier_step) [] ≡ carried_marks row
carried-again row point old got marks =
    number-cases row.earlier_step point.step
    (λ same.
    ap (carried_with row point) same
    ∙ ap (λ (o : Option StartPoint). option_map_or (λ point. point.marks) o []) (point_at-new point row.points)
    ∙ marks
    ∙ sym (ap (λ n. option_map_or (λ (point : StartPoint). point.marks) (point_at row.points n) []) same ∙ ap (λ (o : Option StartPoint). option_map_or (λ point. point.marks) o []) got))
    (λ apart. ap (λ (o : Option StartPoint). option_map_or (λ point. point.marks) o []) (point_at-other point row.points row.earlier_step apart))
