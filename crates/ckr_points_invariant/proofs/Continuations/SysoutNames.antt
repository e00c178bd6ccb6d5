-- The SYSOUT names of a step that starts without a flaw weren't there before, since SYSOUT is new.
use Rattle.std.proofs.Common.{◌≡◌, ℕ, suc, Bool, true, false, cond, ◌||◌, List, [], ◌∷◌, filter, refl, ap, sym, ◌∙◌, subst, Option, Some, None}
use Rattle.std.specs.List.{cons_option, filter_map, list_all}
use Rattle.std.specs.Option.{is_none, is_some, option_map}
use Rattle.std.proofs.lemmas.Bool.{false≢true, or_left, or_right}
use Rattle.ckr_base.proofs.Bools.{and-first, and-second, bool-cases}
use Rattle.ckr_base.proofs.Options.{some-not-none}
use Rattle.ckr_jcl.specs.declared.deck.Dd.{Dd}
use Rattle.ckr_jcl.specs.declared.deck.Origin.{Origin}
use Rattle.ckr_jcl.specs.declared.deck.Origin.TheVariants.{InStream, Named as NamedOrigin, Temporary, Unnamed, Sysout, Dummy}
use Rattle.ckr_jcl.specs.declared.deck.Status.{Status}
use Rattle.ckr_jcl.specs.declared.deck.Status.TheVariants.{New}
use Rattle.ckr_library.proofs.Named.{name-same}
use Rattle.ckr_library.specs.NameMaps.{Name, entry_at, same_name}
use Rattle.ckr_meaning.specs.Allotments.{allotment_by, exists, is_found, is_passed, with_kind}
use Rattle.ckr_meaning.specs.Dispositions.{Stock}
use Rattle.ckr_meaning.specs.EffectiveJob.{OwnedStep, flaw_in, flaws_in, is_among, name_of, placed_from, placed_one}
use Rattle.ckr_meaning.specs.LibrarySet.{LibrarySet, record_ways}
use Rattle.ckr_meaning.specs.StepRun.{StepStart, placed_at}
use Rattle.ckr_points.specs.Marks.{is_sysout, sysout_names}
use Rattle.ckr_points.specs.Payload.{is_orderly_dd}
use Rattle.ckr_points_invariant.proofs.Decks.Names.{sysout-kept}
use Rattle.ckr_points_invariant.proofs.StepEnd.Disposals.{flawless-first, flawless-rest}

sysout-is : (origin : Origin) → is_sysout origin ≡ true → origin ≡ Sysout
sysout-is (InStream cards) e = absurd (false≢true e)
sysout-is (NamedOrigin name) e = absurd (false≢true e)
sysout-is (Temporary name) e = absurd (false≢true e)
sysout-is Unnamed e = absurd (false≢true e)
sysout-is Sysout e = refl
sysout-is Dummy e = absurd (false≢true e)

-- a new data set that allocation finds no flaw in isn't there
new-absent : (standing : Stock LibrarySet) (number : ℕ) (dd : Dd) (name : Name) → dd.disp.status ≡ New → flaw_in (placed_one record_ways standing number dd name).allotment ≡ None → is_none (entry_at standing.sets name) ≡ true
new-absent standing number dd name new flawless = by (entry_at standing.sets name) flawless
  where
    by : (entry : Option LibrarySet) → (let known = option_map record_ways.known entry in flaw_in (with_kind dd.role known (allotment_by dd.disp.status (is_some known) (is_found dd (is_passed standing.passed name) known) (is_some dd.space)))) ≡ None → is_none entry ≡ true
    by None e = refl
    by (Some set) e =
        absurd (some-not-none exists
        (ap (λ (status : Status). flaw_in (with_kind dd.role (Some (record_ways.known set)) (allotment_by status true (is_found dd (is_passed standing.passed name) (Some (record_ways.known set))) (is_some dd.space)))) (sym new) ∙ e))

module _ (standing : Stock LibrarySet) (root : ℕ) (owned : OwnedStep) (name : Name) where
  -- each SYSOUT name of some DDs
  pub sysout-new : (number : ℕ) (dds : List Dd) → list_all is_orderly_dd dds ≡ true → flaws_in (placed_from record_ways standing root owned number dds) ≡ [] → is_among (filter_map (name_of root owned) (filter (λ dd. is_sysout dd.origin) dds)) name ≡ true → is_none (entry_at standing.sets name) ≡ true
  sysout-new number [] orderly flawless among = absurd (false≢true among)
  sysout-new number (dd ∷ dds) orderly flawless among =
      by (name_of root owned dd) refl (is_sysout dd.origin) refl flawless among (sysout-new (suc number) dds (and-second (is_orderly_dd dd) _ orderly))
    where
      new : is_sysout dd.origin ≡ true → dd.disp.status ≡ New
      new its = (sysout-kept dd (and-first (is_orderly_dd dd) _ orderly) (sysout-is dd.origin its)).0

      names : Bool → List Name
      names its = filter_map (name_of root owned) (cond its (dd ∷ filter (λ dd. is_sysout dd.origin) dds) (filter (λ dd. is_sysout dd.origin) dds))

      by : (its_name : Option Name) → name_of root owned dd ≡ its_name → (its : Bool) → is_sysout dd.origin ≡ its
          → flaws_in (cons_option (option_map (placed_one record_ways standing number dd) its_name) (placed_from record_ways standing root owned (suc number) dds)) ≡ [] → is_among (names its) name ≡ true
          → (flaws_in (placed_from record_ways standing root owned (suc number) dds) ≡ [] → is_among (filter_map (name_of root owned) (filter (λ dd. is_sysout dd.origin) dds)) name ≡ true → is_none (entry_at standing.sets name) ≡ true) → is_none (entry_at standing.sets name) ≡ true
      by None e true o flawless among more = more flawless (ap (λ n. is_among (cons_option n (filter_map (name_of root owned) (filter (λ dd. is_sysout dd.origin) dds))) name) (sym e) ∙ among)
      by None e false o flawless among more = more flawless among
      by (Some other) e false o flawless among more = more (flawless-rest (placed_one record_ways standing number dd other) (placed_from record_ways standing root owned (suc number) dds) flawless) among
      by (Some other) e true o flawless among more =
          bool-cases (same_name name other)
          (λ same.
          subst (λ n. is_none (entry_at standing.sets n) ≡ true) (sym (name-same name other same))
          (new-absent standing number dd other (new o) (flawless-first (placed_one record_ways standing number dd other) (placed_from record_ways standing root owned (suc number) dds) flawless)))
          (λ apart.
          more (flawless-rest (placed_one record_ways standing number dd other) (placed_from record_ways standing root owned (suc number) dds) flawless)
          (ap (λ b. b || is_among (filter_map (name_of root owned) (filter (λ dd. is_sysout dd.origin) dds)) name) (sym apart) ∙ ap (λ n. is_among (cons_option n (filter_map (name_of root owned) (filter (λ dd. is_sysout dd.origin) dds))) name) (sym e) ∙ among))

-- they are names of the step
pub sysout-listed : (root : ℕ) (owned : OwnedStep) (name : Name) (dds : List Dd) → is_among (filter_map (name_of root owned) (filter (λ dd. is_sysout dd.origin) dds)) name ≡ true → is_among (filter_map (name_of root owned) dds) name ≡ true
sysout-listed root owned name [] among = among
sysout-listed root owned name (dd ∷ dds) among = by (name_of root owned dd) (is_sysout dd.origin) refl refl (sysout-listed root owned name dds)
  where
    by : (its_name : Option Name) (its : Bool) → name_of root owned dd ≡ its_name → is_sysout dd.origin ≡ its
        → (is_among (filter_map (name_of root owned) (filter (λ dd. is_sysout dd.origin) dds)) name ≡ true → is_among (filter_map (name_of root owned) dds) name ≡ true) → is_among (cons_option its_name (filter_map (name_of root owned) dds)) name ≡ true
    by its_name false e o more = wider its_name (more (ap (λ b. is_among (filter_map (name_of root owned) (cond b (dd ∷ filter (λ dd. is_sysout dd.origin) dds) (filter (λ dd. is_sysout dd.origin) dds))) name) (sym o) ∙ among))
      where
        wider : (its_name : Option Name) → is_among (filter_map (name_of root owned) dds) name ≡ true → is_among (cons_option its_name (filter_map (name_of root owned) dds)) name ≡ true
        wider None there = there
        wider (Some other) there = or_right (same_name name other) _ there
    by its_name true e o more =
        here its_name more (ap (λ n. is_among (cons_option n (filter_map (name_of root owned) (filter (λ dd. is_sysout dd.origin) dds))) name) (sym e) ∙ ap (λ b. is_among (filter_map (name_of root owned) (cond b (dd ∷ filter (λ dd. is_sysout dd.origin) dds) (filter (λ dd. is_sysout dd.origin) dds))) name) (sym o) ∙ among)
      where
        here : (its_name : Option Name) → (is_among (filter_map (name_of root owned) (filter (λ dd. is_sysout dd.origin) dds)) name ≡ true → is_among (filter_map (name_of root owned) dds) name ≡ true) → is_among (cons_option its_name (filter_map (name_of root owned) (filter (λ dd. is_sysout dd.origin) dds))) name ≡ true → is_among (cons_option its_name (filter_map (name_of root owned) dds)) name ≡ true
        here None more there = more there
        here (Some other) more there =
            bool-cases (same_name name other)
            (λ same. or_left (same_name name other) _ same)
            (λ apart. or_right (same_name name other) _ (more (ap (λ b. b || is_among (filter_map (name_of root owned) (filter (λ dd. is_sysout dd.origin) dds)) name) (sym apart) ∙ there)))

-- so it is with those of a step as it starts
pub step-sysout : (start : StepStart) (name : Name) → list_all is_orderly_dd start.owned.step.dds ≡ true → flaws_in (placed_at start) ≡ [] → is_among (sysout_names start.root start.owned) name ≡ true → is_none (entry_at start.standing.sets name) ≡ true
unfolding placed_at
step-sysout start name orderly flawless among = sysout-new start.standing start.root start.owned name 1 start.owned.step.dds orderly flawless among
