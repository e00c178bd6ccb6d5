-- What the restarts of a run rest on: the point of its step, and the entry of its checkpoint in effect.
use Rattle.std.proofs.Common.{◌≡◌, true, false, ap, sym, ◌∙◌, Option, Some, None}
use Rattle.std.specs.List.{find}
use Rattle.std.specs.Option.{option_map_or}
use Rattle.std.proofs.lemmas.Bool.{false≢true}
use Rattle.ckr_library.specs.NameMaps.{Name, Named, same_name, entry_at}
use Rattle.ckr_meaning.specs.EffectiveJob.{OwnedStep, is_among}
use Rattle.ckr_points_library.specs.Commit.{output_names}
use Rattle.ckr_points.specs.Follows.{is_within, own_step}
use Rattle.ckr_points.specs.Office.{Leg}
use Rattle.ckr_points.specs.Restart.{kept_at, place_of}
use Rattle.ckr_points.specs.Rows.{EffectPoint, KeptEntry, RunRow, TableSet}
use Rattle.ckr_points_invariant.specs.Readiness.{IsCheck, IsReady, KeepsEntry}

-- ---- a run

-- the entry that the data set keeps
pub kept-entry : (sets : Named TableSet) (set id : Name) (entry : KeptEntry) → KeepsEntry sets set id entry → kept_at sets set id ≡ Some entry
kept-entry sets set id entry keeps =
    ap (λ (o : Option TableSet). option_map_or (λ table. find (λ (one : KeptEntry). same_name one.kept.id id) table.entries) o None) keeps.at ∙ keeps.found

-- a run that isn't within a step, with no checkpoint in effect
pub ready-outside : (sets : Named TableSet) (row : RunRow) (leg : Leg) → is_within (place_of row) ≡ false → row.in_effect ≡ None → IsReady sets row leg
ready-outside sets row leg outside none = record {
  begun = λ within. absurd (false≢true (sym outside ∙ within));
  steps = λ point within. absurd (false≢true (sym outside ∙ within));
  check = λ effect within. absurd (false≢true (sym outside ∙ within));
  none = λ out. none;
}

-- ---- other data sets

module _ (row : RunRow) (leg : Leg) (sets later : Named TableSet)
    (output-same : (owned : OwnedStep) (name : Name) → own_step row ≡ Some owned → is_among (output_names row.job.root owned) name ≡ true → entry_at later name ≡ entry_at sets name) where
  check-same : (effect : EffectPoint) → IsCheck sets row leg effect → IsCheck later row leg effect
  check-same effect its = record {
    owned = its.owned;
    found_step = its.found_step;
    among = its.among;
    entry = its.entry;
    keeps = record {
      table = its.keeps.table;
      at = output-same its.owned effect.set its.found_step its.among ∙ its.keeps.at;
      found = its.keeps.found;
      ends = its.keeps.ends;
    };
    back = its.back;
    point = its.point;
    taken = its.taken;
    since = its.since;
  }

  -- a run is ready where the data sets of its outputs are the same
  pub ready-same : IsReady sets row leg → IsReady later row leg
  ready-same ready = record {
    begun = ready.begun;
    steps = ready.steps;
    check = λ effect within got. check-same effect (ready.check effect within got);
    none = ready.none;
  }
