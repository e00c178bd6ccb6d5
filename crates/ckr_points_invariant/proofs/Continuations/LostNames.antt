-- What a run that continues another one has lost of the passed list: none of its own names, and none of its reach.
use Rattle.std.proofs.Common.{◌≡◌, ◌≤◌, ℕ, pred, Bool, true, false, cond, not, ◌&&◌, ◌||◌, List, [], ◌∷◌, ◌++◌, filter, map, take, refl, ap, sym, ◌∙◌, Some, None}
use Rattle.std.specs.List.{list_any}
use Rattle.std.proofs.lemmas.Bool.{false≢true, or_from, or_left, or_parts, or_right}
use Rattle.std.proofs.lemmas.List.Folds.{list_any-append}
use Rattle.ckr_base.proofs.Bools.{bool-cases, or-cases}
use Rattle.ckr_entry.specs.declared.point.Mark.{Mark}
use Rattle.ckr_entry.specs.declared.point.Passed.{Passed}
use Rattle.ckr_jcl.specs.declared.deck.Job.{Job}
use Rattle.ckr_library.specs.NameMaps.{Name, Named, same_name}
use Rattle.ckr_library.proofs.Named.{name-same}
use Rattle.ckr_meaning.specs.EffectiveJob.{Effective, OwnedStep, is_among, step_at}
use Rattle.ckr_meaning.specs.JobRun.{all_go_on, at, walk_from}
use Rattle.ckr_meaning.specs.LibrarySet.{Library}
use Rattle.ckr_meaning.specs.declared.place.Place.{Place}
use Rattle.ckr_points.specs.Freshness.{fresh}
use Rattle.ckr_points.specs.Marks.{lost_names, put_back, removed_all, still_exists, without_passed}
use Rattle.ckr_points.specs.Office.{passed_made}
use Rattle.ckr_points.specs.Payload.{is_formed}
use Rattle.ckr_points.specs.Restart.{step_in}
use Rattle.ckr_points.specs.Rows.{TableSet}
use Rattle.ckr_points_library.specs.Commit.{output_names}
use Rattle.ckr_points_invariant.proofs.Continuations.Libraries.{AreNeeded, MarksAll, own-exists}
use Rattle.ckr_points_invariant.proofs.Library.PassedList.{among-made, made-without}
use Rattle.ckr_points_invariant.proofs.PassedNames.Dispositions.{is_listed}
use Rattle.ckr_points_invariant.proofs.Continuations.PassedNames.{listed-known}

-- ---- a passed list without some names

-- a name that isn't lost and isn't passed on as made in the list without the lost ones isn't in the whole list either
pub entered : (own lost : List Name) (passed : List Passed) (name : Name) → is_among (own ++ passed_made (without_passed lost passed)) name ≡ false → is_among lost name ≡ false → is_among (passed_made passed) name ≡ false
entered own lost passed name out stays =
    sym (made-without lost passed name ∙ ap (λ b. not b && is_among (passed_made passed) name) stays)
    ∙ (or_parts (is_among own name) (is_among (passed_made (without_passed lost passed)) name) (sym (list_any-append (same_name name) own (passed_made (without_passed lost passed))) ∙ out)).1

-- a lost name that isn't an own one is neither that nor passed on as made in the list without the lost ones
made-outside : (own lost : List Name) (passed : List Passed) (name : Name) → is_among lost name ≡ true → is_among own name ≡ false → is_among (own ++ passed_made (without_passed lost passed)) name ≡ false
made-outside own lost passed name gone apart =
    list_any-append (same_name name) own (passed_made (without_passed lost passed))
    ∙ or_from (is_among own name) (is_among (passed_made (without_passed lost passed)) name) apart
    (made-without lost passed name ∙ ap (λ b. not b && is_among (passed_made passed) name) gone)

-- ---- the lost names

-- a lost name is in the passed list, and doesn't exist any more
module _ (marks : List Mark) (named : List Name) (sets : Named TableSet) (name : Name) where
  abbrev IsGone : List Passed → Type 0
  IsGone passed = (is_listed name passed ≡ true) × (still_exists marks named sets name ≡ false)

  lost-gone : (passed : List Passed) → is_among (lost_names marks named sets passed) name ≡ true → IsGone passed
  lost-gone [] lost = absurd (false≢true lost)
  lost-gone (first ∷ rest) lost =
      by (filter (λ (entry : Passed). not (still_exists marks named sets entry.name)) rest) (still_exists marks named sets first.name) refl (lost-gone rest) lost
    where
      behind : IsGone rest → IsGone (first ∷ rest)
      behind its = (or_right (same_name name first.name) (is_listed name rest) its.0, its.1)

      by : (left : List Passed) (exists : Bool) → still_exists marks named sets first.name ≡ exists → (is_among (map (λ (entry : Passed). entry.name) left) name ≡ true → IsGone rest)
          → is_among (map (λ (entry : Passed). entry.name) (cond (not exists) (first ∷ left) left)) name ≡ true → IsGone (first ∷ rest)
      by left true e more lost = behind (more lost)
      by left false e more lost =
          or-cases (same_name name first.name) (is_among (map (λ (entry : Passed). entry.name) left) name) lost
          (λ same. (or_left (same_name name first.name) (is_listed name rest) same, ap (still_exists marks named sets) (name-same name first.name same) ∙ e))
          (λ later. behind (more later))

-- By a point of the earlier run at a place to which its job goes on, whose passed list this is. A passed name is lost that neither the own
-- steps nor others name, or that doesn't exist.
module _ (earlier : Effective) (start library : Library) (step run : ℕ) (deck : Job) (owned : OwnedStep) (found : step_at earlier step ≡ Some owned) (place : Place) (low : step_in place ≤ step)
    (marks : List Mark) (all : MarksAll earlier start place marks) (own needed removed : List Name) (are : AreNeeded own marks needed removed)
    (sets : Named TableSet) (isfresh : fresh earlier.root owned marks needed sets ≡ None)
    (formed : is_formed earlier ≡ true) (goes : all_go_on earlier.root 1 (take (pred (step_in place)) earlier.steps) (walk_from start) ≡ true)
    (passed : List Passed) (is : passed ≡ (at earlier start place).passed) (others : List Name) where
  abbrev pub lost : List Name
  lost = lost_names marks (own ++ others) (put_back marks (output_names earlier.root owned) needed (removed_all removed sets)) passed

  -- An own name isn't lost: in the passed list it is a name of the earlier job that is there, so it still exists.
  pub lost-apart : (name : Name) → is_among lost name ≡ true → is_among own name ≡ false
  lost-apart name gone =
      bool-cases (is_among own name)
      (λ mine.
      let its = lost-gone marks (own ++ others) (put_back marks (output_names earlier.root owned) needed (removed_all removed sets)) name passed gone in
      let known = listed-known earlier start place formed goes name (sym (ap (is_listed name) is) ∙ its.0) in
      let named : is_among (own ++ others) name ≡ true = list_any-append (same_name name) own others ∙ or_left (is_among own name) (is_among others name) mine in
      absurd (false≢true (
      sym its.1
      ∙ own-exists earlier start library step run deck owned found place low marks all own needed removed are sets isfresh (own ++ others) name mine named known.0 known.1)))
      (λ apart. apart)

  -- No lost name is in the reach.
  pub unreached : (name : Name) → is_among lost name ≡ true → is_among (own ++ passed_made (without_passed lost passed)) name ≡ false
  unreached name gone = made-outside own lost passed name gone (lost-apart name gone)

-- ---- names that are kept

module _ (marks : List Mark) (named : List Name) (sets : Named TableSet) (name : Name) where
  abbrev exists : Name → Bool
  exists other = still_exists marks named sets other

  abbrev Enters : List Passed → Type 0
  Enters passed = list_any (λ (one : Passed). one.made && same_name name one.name) passed ≡ true

  gone-lost : (passed : List Passed) → exists name ≡ false → Enters passed → is_among (lost_names marks named sets passed) name ≡ true
  gone-lost [] gone made = absurd (false≢true made)
  gone-lost (first ∷ rest) gone made =
      by (filter (λ (one : Passed). not (exists one.name)) rest) (same_name name first.name) refl (exists first.name) refl (gone-lost rest gone) made
    where
      later : (its : Bool) → (its && false || list_any (λ (one : Passed). one.made && same_name name one.name) rest) ≡ true → Enters rest
      later true m = m
      later false m = m

      by : (left : List Passed) (same : Bool) → same_name name first.name ≡ same → (there : Bool) → exists first.name ≡ there
          → (Enters rest → is_among (map (λ (one : Passed). one.name) left) name ≡ true)
          → (first.made && same || list_any (λ (one : Passed). one.made && same_name name one.name) rest) ≡ true
          → is_among (map (λ (one : Passed). one.name) (cond (not there) (first ∷ left) left)) name ≡ true
      by left true e true f more made = absurd (false≢true (sym gone ∙ ap exists (name-same name first.name e) ∙ f))
      by left true e false f more made = or_left (same_name name first.name) (is_among (map (λ (one : Passed). one.name) left) name) e
      by left false e true f more made = more (later first.made made)
      by left false e false f more made = or_right (same_name name first.name) (is_among (map (λ (one : Passed). one.name) left) name) (more (later first.made made))

  -- a name that was passed on as made, and that isn't lost, still exists
  pub kept-exists : (passed : List Passed) → is_among (lost_names marks named sets passed) name ≡ false → is_among (passed_made passed) name ≡ true → still_exists marks named sets name ≡ true
  kept-exists passed kept made =
      bool-cases (exists name)
      (λ there. there)
      (λ gone. absurd (false≢true (sym kept ∙ gone-lost passed gone (sym (among-made passed name) ∙ made))))
