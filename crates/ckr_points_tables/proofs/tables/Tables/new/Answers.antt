use Rattle.std.proofs.Common.{◌≡◌, ℕ, zero, suc, ◌≤◌, ap, sym, ◌∙◌, subst, refl, [], length, replicate, slice_index, arith}
use Rattle.ckr_library.specs.NameMaps.{EachEntry}
use Rattle.ckr_points_tables.specs.BegunRuns.{AreWaiting}
use Rattle.ckr_points_tables.specs.Invariant.{AreRuns, IsIndexOf, IsWide}
use Rattle.ckr_points_runs.specs.PutBack.{IsFilled}
use Rattle.ckr_points_tables.proofs.Runs.{index-empty}
use Rattle.ckr_points_tables.proofs.tables.Tables.new.Goals as goal

none_on : (n k : ℕ) → slice_index (replicate n 0) k ≡ 0
none_on zero k = refl
none_on (suc n) zero = refl
none_on (suc n) (suc k) = none_on n k

pub invariant_of-result : goal.invariant_of-result
invariant_of-result c = record {
  kept = record {
    wide = subst (EachEntry IsWide) (sym c.new.ensures) tt;
    filled = subst (EachEntry IsFilled) (sym c.new.ensures) tt;
    runs = subst (λ lines. AreRuns 1 lines c.new-3.result.items) (sym c.new-2.ensures.items) (subst (AreRuns 1 []) (sym c.new-3.ensures.items) tt);
    few = subst (λ tables. length tables ≤ 9999999) (sym c.new-3.ensures.items) (omega arith);
    indexed = subst (IsIndexOf c.no_runs_on.result) (sym c.new-2.ensures.items) (index-empty c.no_runs_on.result (ap length c.no_runs_on.ensures ∙ refl) (λ k. ap (λ xs. slice_index xs k) c.no_runs_on.ensures ∙ none_on 256 k));
    spare = c.new-5.ensures;
    written = ap length c.new-7.ensures.items ∙ sym (ap length c.new-3.ensures.items);
  };
  ended = tt;
  waits = subst (AreWaiting 0) (sym c.new-2.ensures.items) tt;
}
