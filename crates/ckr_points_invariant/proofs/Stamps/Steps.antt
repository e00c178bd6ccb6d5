-- A data set within a step is as it was before, or its records begin what the step of its stamp writes.
use Rattle.std.proofs.Common.{◌≡◌, ◌≤◌, ◌⊎◌, inl, inr, ℕ, zero, suc, true, false, cond, not, ◌&&◌, List, [], ◌∷◌, take, length, refl, ap, sym, ◌∙◌, Option, Some, None, arith}
use Rattle.std.specs.Prelude.{◌==◌}
use Rattle.std.specs.List.{AllByRecursion, cons_option, list_all}
use Rattle.std.specs.Option.{option_map, is_none}
use Rattle.std.proofs.lemmas.Bool.{false≢true}
use Rattle.std.proofs.lemmas.Option.{same_Some}
use Rattle.ckr_base.specs.declared.programs.Output.{Output}
use Rattle.ckr_base.specs.declared.programs.Output.TheVariants.{Main, Rejects, InPlace}
use Rattle.ckr_base.specs.declared.programs.Write.{Write}
use Rattle.ckr_base.proofs.Bools.{and-first, and-second, bool-cases}
use Rattle.ckr_base.proofs.Options.{option-cases, some-not-none}
use Rattle.ckr_base.proofs.Sequences.{all-take}
use Rattle.ckr_jcl.specs.declared.deck.Dd.{Dd}
use Rattle.ckr_library.specs.declared.sets.Stamp.{Stamp}
use Rattle.ckr_library.specs.NameMaps.{Name, same_name, entry_at}
use Rattle.ckr_library.proofs.Named.{at-with_changed, name-same}
use Rattle.ckr_meaning.specs.LibrarySet.{LibrarySet, Library, record_ways}
use Rattle.ckr_meaning.specs.Allotments.{DdAllotment}
use Rattle.ckr_meaning.specs.Dispositions.{Stock}
use Rattle.ckr_meaning.specs.EffectiveJob.{OwnedStep, flaws_in, is_among, name_of, placed_from, placed_one}
use Rattle.ckr_meaning.specs.StepRun.{StepStart, changed_in, made_at, opened_at, output_name, placed_at, stamp_at, within_at, work_at, written_all, written_one, written_set}
use Rattle.ckr_meaning.proofs.WriteSeries.{within_at-none}
use Rattle.ckr_points.specs.Payload.{is_formed_step, is_in_place}
use Rattle.ckr_points_library.specs.Commit.{output_names}
use Rattle.ckr_points.specs.Soundness.{IsPrefix, stamped_writes, up_to_rewrites}
use Rattle.ckr_points_invariant.proofs.Rewrite.Counts.{IsBehind, first_stamp, rewrites_in, stamp_behind, within-behind, within-up_to}
use Rattle.ckr_points_invariant.proofs.StepEnd.Disposals.{flawless-first, flawless-rest, placed-makes}
use Rattle.ckr_points_invariant.proofs.Writes.Growth.{HasGrown, IsMine, IsNotUpdated, made_at-or, opened_at-or, prefix-same, within-grown, written_all-grown, written_all-none}
use Rattle.ckr_points_invariant.proofs.Holders.SharedSets.{Unmade, made_all-left}
use Rattle.ckr_points_invariant.proofs.Start.Openings.{opened-none}
use Rattle.ckr_points_invariant.proofs.Stamps.Outputs.{made_at-mine}
use Rattle.ckr_points_invariant.proofs.Writes.Roles.{is_right, work_at-right}
use Rattle.ckr_points_invariant.proofs.Rewrite.Sets.{updated-made, updated-opened, updated-out}
use Rattle.ckr_points_invariant.proofs.Writes.Likeness.{written-other}

-- a data set with the step's stamp, and what the step writes of it up to the stamp's rewrites
pub record IsOfStep (start : StepStart) (name : Name) (set : LibrarySet) : Type 0 where
  pub run : set.stamp.run ≡ start.owned.owner
  pub step : set.stamp.step ≡ start.number
  pub last : LibrarySet
  pub found : entry_at (within_at start (stamped_writes (work_at start).writes set.stamp.rewrites)) name ≡ Some last
  pub content : last.content ≡ set.content
  pub lrecl : last.lrecl ≡ set.lrecl
  pub space : last.space ≡ set.space
  pub begins : IsPrefix set.records last.records

abbrev pub Outcome : StepStart → Name → LibrarySet → Type 0
Outcome start name set = (entry_at start.standing.sets name ≡ Some set) ⊎ IsOfStep start name set

place-same : (start : StepStart) (place : ℕ) → output_name start (InPlace place) ≡ output_name start (InPlace 0)
unfolding output_name
place-same start place = refl

module _ (start : StepStart) (name : Name) (formed : is_formed_step start.root start.owned ≡ true) (flawless : flaws_in (placed_at start) ≡ []) where
  -- ---- a name that isn't updated

  module _ (kept : IsNotUpdated start name) where
    -- with the stamp, it grows to what the step writes last
    mine_outcome : (writes : ℕ) (set : LibrarySet) → writes ≤ length (work_at start).writes → entry_at (within_at start writes) name ≡ Some set → IsMine start name set → IsOfStep start name set
    mine_outcome writes set some at_name mine =
        let last : HasGrown name set (within_at start (length (work_at start).writes)) = within-grown start name kept writes set some at_name in
        record {
          run = ap (λ (stamp : Stamp). stamp.run) mine;
          step = ap (λ (stamp : Stamp). stamp.step) mine;
          last = last.other;
          found = ap (λ n. entry_at (within_at start (stamped_writes (work_at start).writes n)) name) (ap (λ (stamp : Stamp). stamp.rewrites) mine) ∙ last.at_name;
          content = last.grown.content;
          lrecl = last.grown.lrecl;
          space = last.grown.space;
          begins = last.grown.records;
        }

    other_write : (write : Write) (library : Library) → is_right start.owned.step.program write.output ≡ true → is_among (output_names start.root start.owned) name ≡ false → entry_at (written_one start write library) name ≡ entry_at library name
    unfolding written_one
    other_write write library right out =
        bool-cases (is_in_place write.output)
        (λ placed. elsewhere write.output write.image library placed)
        (λ not_placed. written-other start write library name formed right (ap not not_placed) out)
      where
        elsewhere : (output : Output) (image : List ℕ) (library : Library) → is_in_place output ≡ true → entry_at (written_one start (record { output = output; image = image }) library) name ≡ entry_at library name
        elsewhere Main image library e = absurd (false≢true e)
        elsewhere Rejects image library e = absurd (false≢true e)
        elsewhere (InPlace place) image library e =
            option-cases (output_name start (InPlace place))
            (λ none. ap (λ to. entry_at (changed_in to (written_set start (InPlace place) image) library) name) none)
            (λ to goes.
            ap (λ o. entry_at (changed_in o (written_set start (InPlace place) image) library) name) goes
            ∙ at-with_changed to name (written_set start (InPlace place) image) library
            ∙ ap (λ b. cond b (option_map (written_set start (InPlace place) image) (entry_at library name)) (entry_at library name)) (kept place to goes))

    other_writes : (writes : List Write) (library : Library) → list_all (λ (write : Write). is_right start.owned.step.program write.output) writes ≡ true → is_among (output_names start.root start.owned) name ≡ false → entry_at (written_all start writes library) name ≡ entry_at library name
    other_writes [] library right out = refl
    other_writes (write ∷ writes) library right out =
        other_writes writes (written_one start write library) (and-second (is_right start.owned.step.program write.output) _ right) out
        ∙ other_write write library (and-first (is_right start.owned.step.program write.output) _ right) out

    within_same : (writes : ℕ) → is_among (output_names start.root start.owned) name ≡ false → entry_at (within_at start writes) name ≡ entry_at (made_at start) name
    unfolding within_at
    within_same writes out =
        other_writes (take writes (work_at start).writes) (made_at start) (all-take (λ (write : Write). is_right start.owned.step.program write.output) writes (work_at start).writes (work_at-right start)) out

    from_made : (writes : ℕ) (old : LibrarySet) → entry_at (made_at start) name ≡ Some old → HasGrown name old (within_at start writes)
    unfolding within_at
    from_made writes old at_name = written_all-grown start name kept (take writes (work_at start).writes) (made_at start) old at_name

    not_there : (writes : ℕ) → entry_at (made_at start) name ≡ None → entry_at (within_at start writes) name ≡ None
    unfolding within_at
    not_there writes none = written_all-none start name (take writes (work_at start).writes) (made_at start) none

    within_kept : (writes : ℕ) (set : LibrarySet) → writes ≤ length (work_at start).writes → entry_at (within_at start writes) name ≡ Some set → Outcome start name set
    within_kept writes set some at_name =
        bool-cases (is_among (output_names start.root start.owned) name)
        (λ out.
        option-cases (entry_at (made_at start) name)
        (λ none. absurd (some-not-none set (sym at_name ∙ not_there writes none)))
        (λ old e.
        let grown : HasGrown name old (within_at start writes) = from_made writes old e in
        inr (mine_outcome writes set some at_name (
        ap (λ (s : LibrarySet). s.stamp) (same_Some set grown.other (sym at_name ∙ grown.at_name)) ∙ grown.grown.stamp ∙ made_at-mine start name flawless out old e))))
        (λ not_out.
        elim (made_at-or start name set (sym (within_same writes not_out) ∙ at_name)) [
          | inl mine ↦ inr (mine_outcome writes set some at_name mine)
          | inr same ↦ inl same
        ])

    -- what is opened isn't made
    unmade_from : (standing : Stock LibrarySet) (root : ℕ) (owned : OwnedStep) (number : ℕ) (dds : List Dd) → flaws_in (placed_from record_ways standing root owned number dds) ≡ [] → is_none (entry_at standing.sets name) ≡ false → AllByRecursion (Unmade name) (placed_from record_ways standing root owned number dds)
    unmade_from standing root owned number [] flawless there = tt
    unmade_from standing root owned number (dd ∷ dds) flawless there =
        by (name_of root owned dd) flawless (λ flawless. unmade_from standing root owned (suc number) dds flawless there)
      where
        by : (other : Option Name) → flaws_in (cons_option (option_map (placed_one record_ways standing number dd) other) (placed_from record_ways standing root owned (suc number) dds)) ≡ [] → (flaws_in (placed_from record_ways standing root owned (suc number) dds) ≡ [] → AllByRecursion (Unmade name) (placed_from record_ways standing root owned (suc number) dds)) → AllByRecursion (Unmade name) (cons_option (option_map (placed_one record_ways standing number dd) other) (placed_from record_ways standing root owned (suc number) dds))
        by None flawless rest = rest flawless
        by (Some other) flawless rest =
            let one : DdAllotment = placed_one record_ways standing number dd other in
            let others : List DdAllotment = placed_from record_ways standing root owned (suc number) dds in (
              λ same. placed-makes standing number dd other (flawless-first one others flawless) ∙ ap (λ n. is_none (entry_at standing.sets n)) (sym (name-same name other same)) ∙ there,
              rest (flawless-rest one others flawless),
            )

    made_opened : (set : LibrarySet) → entry_at (opened_at start) name ≡ Some set → entry_at (made_at start) name ≡ Some set
    unfolding made_at placed_at
    made_opened set at_name =
        made_all-left name (stamp_at start) (placed_at start) (opened_at start)
        (unmade_from start.standing start.root start.owned 1 start.owned.step.dds flawless (sym (opened-none start name) ∙ ap is_none at_name)) ∙ at_name

    opened_kept : (set : LibrarySet) → entry_at (opened_at start) name ≡ Some set → Outcome start name set
    opened_kept set at_name =
        elim (opened_at-or start name set at_name) [
          | inl mine ↦ inr (mine_outcome 0 set (omega arith) (ap (λ library. entry_at library name) (within_at-none start) ∙ made_opened set at_name) mine)
          | inr same ↦ inl same
        ]

  -- ---- the name that is updated

  module _ (its : (place : ℕ) → output_name start (InPlace place) ≡ Some name) (fresh : (set : LibrarySet) → entry_at start.standing.sets name ≡ Some set → (set.stamp.run == start.owned.owner && set.stamp.step == start.number) ≡ false) where
    out : is_among (output_names start.root start.owned) name ≡ false
    out = updated-out start name 0 formed (its 0)

    was : entry_at (made_at start) name ≡ entry_at start.standing.sets name
    was = updated-made start name 0 formed (its 0)

    unmade_within : (writes : ℕ) → entry_at (made_at start) name ≡ None → entry_at (within_at start writes) name ≡ None
    unfolding within_at
    unmade_within writes none = written_all-none start name (take writes (work_at start).writes) (made_at start) none

    by_count : (writes : ℕ) (set old : LibrarySet) → entry_at start.standing.sets name ≡ Some old → entry_at (within_at start writes) name ≡ Some set → (count : ℕ) → rewrites_in (take writes (work_at start).writes) ≡ count → Outcome start name set
    by_count writes set old before at_name zero is =
        inl (
        sym was
        ∙ sym (ap (λ library. entry_at library name) (within_at-none start))
        ∙ ap (λ n. entry_at (within_at start n) name) (sym (ap (λ n. length (up_to_rewrites n (work_at start).writes)) is))
        ∙ sym (within-up_to start name formed its out writes) ∙ at_name)
    by_count writes set old before at_name (suc count) is =
        let behind : IsBehind name start.owned.owner start.number (rewrites_in (take writes (work_at start).writes)) old (within_at start writes) = within-behind start name formed its out writes old (was ∙ before) in
        let so : set ≡ behind.other = same_Some set behind.other (sym at_name ∙ behind.at_name) in
        let stamp : set.stamp ≡ record { run = start.owned.owner; step = start.number; rewrites = suc count } =
        ap (λ (s : LibrarySet). s.stamp) so ∙ behind.stamp ∙ ap (λ n. stamp_behind start.owned.owner start.number n old.stamp) is
        ∙ first_stamp start.owned.owner start.number count old.stamp (fresh old before)
        in
        inr (record {
          run = ap (λ (stamp : Stamp). stamp.run) stamp;
          step = ap (λ (stamp : Stamp). stamp.step) stamp;
          last = set;
          found =
              ap (λ n. entry_at (within_at start (stamped_writes (work_at start).writes n)) name) (ap (λ (stamp : Stamp). stamp.rewrites) stamp)
              ∙ ap (λ n. entry_at (within_at start (length (up_to_rewrites n (work_at start).writes))) name) (sym is)
              ∙ sym (within-up_to start name formed its out writes) ∙ at_name;
          content = refl;
          lrecl = refl;
          space = refl;
          begins = prefix-same set.records;
        })

    within_updated : (writes : ℕ) (set : LibrarySet) → entry_at (within_at start writes) name ≡ Some set → Outcome start name set
    within_updated writes set at_name =
        option-cases (entry_at start.standing.sets name)
        (λ none. absurd (some-not-none set (sym at_name ∙ unmade_within writes (was ∙ none))))
        (λ old before. by_count writes set old before at_name (rewrites_in (take writes (work_at start).writes)) refl)

  -- ---- any name

  module _ (fresh : (set : LibrarySet) → entry_at start.standing.sets name ≡ Some set → (set.stamp.run == start.owned.owner && set.stamp.step == start.number) ≡ false) where
    by_update : {A : Type 0} → (IsNotUpdated start name → A) → (((place : ℕ) → output_name start (InPlace place) ≡ Some name) → A) → A
    by_update apart same =
        option-cases (output_name start (InPlace 0))
        (λ none. apart (λ place to goes. absurd (some-not-none to (sym goes ∙ place-same start place ∙ none))))
        (λ to goes.
        bool-cases (same_name name to)
        (λ is. same (λ place. place-same start place ∙ goes ∙ ap Some (sym (name-same name to is))))
        (λ isnt. apart (λ place other its. ap (same_name name) (same_Some other to (sym its ∙ place-same start place ∙ goes)) ∙ isnt)))

    -- a data set within the step
    pub within-outcome : (writes : ℕ) (set : LibrarySet) → writes ≤ length (work_at start).writes → entry_at (within_at start writes) name ≡ Some set → Outcome start name set
    within-outcome writes set some at_name =
        by_update (λ kept. within_kept kept writes set some at_name) (λ its. within_updated its fresh writes set at_name)

    -- and one that is opened for it
    pub opened-outcome : (set : LibrarySet) → entry_at (opened_at start) name ≡ Some set → Outcome start name set
    opened-outcome set at_name =
        by_update (λ kept. opened_kept kept set at_name) (λ its. inl (sym (updated-opened start name 0 formed (its 0)) ∙ at_name))
