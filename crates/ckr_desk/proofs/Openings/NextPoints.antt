-- The points that opening has read behind the next run.
use Rattle.std.proofs.Common.{◌≡◌, ◌+◌, ◌++◌, ℕ, suc, List, [], ◌∷◌, slice_get, map, ap, sym, ◌∙◌, subst, Option, None, Some, option_and_then, Result, Ok}
use Rattle.std.specs.List.{AllByRecursion}
use Rattle.ckr_base.proofs.Sequences.{each-append}
use Rattle.ckr_desk_refines.specs.DiskEntries.StepState.{StepState}
use Rattle.ckr_desk_refines.specs.Memory.Parts.{IsPointCounted}
use Rattle.ckr_desk_refines.specs.Memory.View.{PointView}
use Rattle.ckr_desk_turn.specs.Queue.{AreNumbered}
use Rattle.ckr_points.specs.Rows.{RunRow, TablesModel, run_of}
use Rattle.ckr_points.specs.declared.run.Run.{Run}
use Rattle.ckr_desk_refines.specs.Tables.View.{line_of}
use Rattle.ckr_volumes.specs.declared.layout.Layout.{Layout}
use Rattle.ckr_desk.proofs.Openings.Refusals.{bad_from, bad-later, found-of, row-of}
use Rattle.ckr_desk.proofs.Openings.Points.{ArePointsTo, IsPointOf, IsUpTo, next-point, point-found, points-later, points-more, upto-more}
use Rattle.ckr_desk.specs.Entries.{IsFoundOf, refused_at, run_refusal}
use Rattle.ckr_desk.specs.Points.{point_at}

-- what was read up to a run, and isn't refused
pub record AreSoFar (told : Type 0) (layout : Layout) (tables : TablesModel) (image : List ℕ) (place : ℕ) (points : List PointView) : Type 0 where
  pub points_to : ArePointsTo told layout tables image place points
  pub upto : AllByRecursion (IsUpTo place) points
  pub counted : AllByRecursion IsPointCounted points

-- what was answered of a run tells where its entry is refused
abbrev pub Refuses : Type 0 → Layout → TablesModel → List ℕ → Run → Option (Result StepState ℕ) → Type 0
Refuses told layout tables image run answer =
    told → (row : RunRow) → run_of tables row.number ≡ Some row → run ≡ line_of row → option_and_then refused_at answer ≡ run_refusal layout tables image row

-- and where its step stands
abbrev pub Finds : Type 0 → Layout → TablesModel → List ℕ → Run → Option (Result StepState ℕ) → Type 0
Finds told layout tables image run answer = (row : RunRow) → run_of tables row.number ≡ Some row → run ≡ line_of row → IsFoundOf told layout tables image row answer

module _ (told : Type 0) (layout : Layout) (tables : TablesModel) (before image : List ℕ) (same : before ≡ image) (place : ℕ) (run : Run) (lines : List Run) (are : lines ≡ map line_of tables.runs)
    (at : slice_get lines place ≡ Some run) (numbered : AreNumbered 1 tables.runs) (answer : Option (Result StepState ℕ)) where
  -- the answer is what is refused of the run
  pub refused-as : Refuses told layout tables before run answer → told → (its : Option (Result StepState ℕ)) → answer ≡ its → (row : RunRow) → run_of tables row.number ≡ Some row → run ≡ line_of row → option_and_then refused_at its ≡ run_refusal layout tables image row
  refused-as refused tells its is row known line = ap (option_and_then refused_at) (sym is) ∙ refused tells row known line ∙ ap (λ (bytes : List ℕ). run_refusal layout tables bytes row) same

  found-as : Finds told layout tables before run answer → (its : Option (Result StepState ℕ)) → answer ≡ its → (row : RunRow) → run_of tables row.number ≡ Some row → run ≡ line_of row → IsFoundOf told layout tables image row its
  found-as found its is row known line = subst (IsFoundOf told layout tables image row) is (subst (λ (bytes : List ℕ). IsFoundOf told layout tables bytes row answer) same (found row known line))

  -- it isn't refused
  pub none-refused : Refuses told layout tables before run answer → told → (its : Option (Result StepState ℕ)) → answer ≡ its → option_and_then refused_at its ≡ None → bad_from layout tables image (place + 1) ≡ bad_from layout tables image place
  none-refused refused tells its is none = bad-later layout tables image place run lines are at numbered (λ row known line. sym none ∙ refused-as refused tells its is row known line)

  -- it has no point
  pub next-none : Finds told layout tables before run answer → answer ≡ None → (points : List PointView) → AreSoFar told layout tables image place points → AreSoFar told layout tables image (place + 1) points
  next-none found is points so = record {
    points_to = points-later told layout tables image place points so.points_to
        (found-of layout tables image place run lines are at numbered (λ (row : RunRow). IsFoundOf told layout tables image row None) (found-as found None is));
    upto = upto-more place points so.upto;
    counted = so.counted;
  }

  -- or one
  pub next-some : Finds told layout tables before run answer → (state : StepState) → answer ≡ Some (Ok state) → (points : List PointView) → AreSoFar told layout tables image place points
      → AreSoFar told layout tables image (place + 1) (points ++ point_at run.number state ∷ [])
  next-some found state is points so = record {
    points_to = points-more told layout tables image place points point so.points_to so.upto (found-of layout tables image place run lines are at numbered (λ (row : RunRow). IsPointOf told layout tables image row point) its-point);
    upto = each-append (IsUpTo (place + 1)) points (point ∷ []) (upto-more place points so.upto) (new.0, tt);
    counted = each-append IsPointCounted points (point ∷ []) so.counted (new.1, tt);
  }
    where
      point : PointView
      point = point_at run.number state

      its-point : (row : RunRow) → run_of tables row.number ≡ Some row → run ≡ line_of row → IsPointOf told layout tables image row point
      its-point row known line = point-found told layout tables image row run.number state (ap (λ (l : Run). l.number) line) (found-as found (Some (Ok state)) is row known line)

      its : (row : RunRow) × (run_of tables row.number ≡ Some row) × (run ≡ line_of row) × (row.number ≡ suc place)
      its = row-of layout tables image place run lines are at numbered

      new : IsUpTo (place + 1) point × IsPointCounted point
      new = next-point told layout tables image place its.0 point its.3 (its-point its.0 its.1 its.2)
