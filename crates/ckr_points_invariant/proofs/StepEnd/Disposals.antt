-- What a step made, by allocation and by its point, and so its dispositions.
use Rattle.std.proofs.Common.{◌≡◌, ℕ, suc, Bool, true, false, cond, ◌&&◌, ◌||◌, if◌then◌else◌, List, [], ◌∷◌, filter, map, refl, ap, sym, ◌∙◌, Option, Some, None}
use Rattle.std.specs.List.{AllByRecursion, cons_option, filter_map}
use Rattle.std.specs.Option.{option_map, is_none, is_some}
use Rattle.std.proofs.lemmas.Bool.{or_left, or_right}
use Rattle.ckr_base.proofs.Bools.{and-false, bool-cases}
use Rattle.ckr_base.proofs.Options.{some-not-none}
use Rattle.ckr_uses.specs.Disposal.{dispose, is_temporary}
use Rattle.ckr_jcl.specs.declared.deck.Dd.{Dd}
use Rattle.ckr_jcl.specs.declared.deck.Role.{Role}
use Rattle.ckr_jcl.specs.declared.deck.Status.{Status}
use Rattle.ckr_jcl.specs.declared.deck.Status.TheVariants.{New, Old, Shr, Mod}
use Rattle.ckr_library.specs.NameMaps.{Name, same_name, entry_at}
use Rattle.ckr_library.proofs.Named.{name-equivalence, name-same}
use Rattle.ckr_meaning.specs.LibrarySet.{Known, LibrarySet, record_ways}
use Rattle.ckr_meaning.specs.Allotments.{FlawModel, found, refused, missing, exists, wrong_kind, DdAllotment, allotment_by, allotment_of, is_found, is_made, is_passed, is_wrong_kind, with_kind}
use Rattle.ckr_meaning.specs.Dispositions.{Disposal, Stock}
use Rattle.ckr_meaning.specs.EffectiveJob.{OwnedStep, disposal_of, disposals_of, flaw_in, flaws_in, is_among, name_of, names_made, placed_from, placed_one}
use Rattle.ckr_points.specs.Tables.{run_disposal}

-- ---- without a flaw, a DD makes what wasn't there

pub no_flaw : {A : Type 0} (flaw : FlawModel) → flaw_in (refused flaw) ≡ None → A
no_flaw flaw e = absurd (some-not-none flaw e)

found_makes : (role : Role) (known : Known) → flaw_in (with_kind role (Some known) found) ≡ None → is_made (with_kind role (Some known) found) ≡ false
found_makes role known e = by (is_wrong_kind role known.content) e
  where
    by : (wrong : Bool) → flaw_in (if wrong then refused wrong_kind else found) ≡ None → is_made (if wrong then refused wrong_kind else found) ≡ false
    by true e = no_flaw wrong_kind e
    by false e = refl

here_makes : (role : Role) (known : Known) (here : Bool) (otherwise : FlawModel) → flaw_in (with_kind role (Some known) (if here then found else refused otherwise)) ≡ None → is_made (with_kind role (Some known) (if here then found else refused otherwise)) ≡ false
here_makes role known true otherwise e = found_makes role known e
here_makes role known false otherwise e = no_flaw otherwise e

some_makes : (role : Role) (status : Status) (known : Known) (here space : Bool) → flaw_in (with_kind role (Some known) (allotment_by status true here space)) ≡ None → is_made (with_kind role (Some known) (allotment_by status true here space)) ≡ false
some_makes role New known here space e = no_flaw exists e
some_makes role Old known here space e = here_makes role known here missing e
some_makes role Shr known here space e = here_makes role known here missing e
some_makes role Mod known here space e = here_makes role known here exists e

none_makes : (role : Role) (status : Status) (space : Bool) → flaw_in (with_kind role None (allotment_by status false false space)) ≡ None → is_made (with_kind role None (allotment_by status false false space)) ≡ true
none_makes role New space e = refl
none_makes role Old space e = no_flaw missing e
none_makes role Shr space e = no_flaw missing e
none_makes role Mod true e = refl
none_makes role Mod false e = no_flaw missing e

pub makes : (dd : Dd) (passed : Bool) (its : Option Known) → flaw_in (allotment_of dd passed its) ≡ None → is_made (allotment_of dd passed its) ≡ is_none its
makes dd passed None e = none_makes dd.role dd.disp.status (is_some dd.space) e
makes dd passed (Some known) e = some_makes dd.role dd.disp.status known (is_found dd passed (Some known)) (is_some dd.space) e

pub none_known : (entry : Option LibrarySet) → is_none (option_map record_ways.known entry) ≡ is_none entry
none_known None = refl
none_known (Some set) = refl

pub placed-makes : (standing : Stock LibrarySet) (number : ℕ) (dd : Dd) (name : Name) → flaw_in (placed_one record_ways standing number dd name).allotment ≡ None → is_made (placed_one record_ways standing number dd name).allotment ≡ is_none (entry_at standing.sets name)
placed-makes standing number dd name e =
    makes dd (is_passed standing.passed name) (option_map record_ways.known (entry_at standing.sets name)) e ∙ none_known (entry_at standing.sets name)

-- ---- each of several has no flaw

pub flawless-first : (one : DdAllotment) (rest : List DdAllotment) → flaws_in (one ∷ rest) ≡ [] → flaw_in one.allotment ≡ None
flawless-first one rest e = by (flaw_in one.allotment) e
  where
    by : (flaw : Option FlawModel) → cons_option (option_map (λ flaw. (one.number, flaw)) flaw) (flaws_in rest) ≡ [] → flaw ≡ None
    by None e = refl
    by (Some flaw) e = cc

pub flawless-rest : (one : DdAllotment) (rest : List DdAllotment) → flaws_in (one ∷ rest) ≡ [] → flaws_in rest ≡ []
flawless-rest one rest e = by (flaw_in one.allotment) e
  where
    by : (flaw : Option FlawModel) → cons_option (option_map (λ flaw. (one.number, flaw)) flaw) (flaws_in rest) ≡ [] → flaws_in rest ≡ []
    by None e = e
    by (Some flaw) e = cc

-- ---- the names that a step makes

names_made-one : (one : DdAllotment) (rest : List DdAllotment) (name : Name) → is_among (names_made (one ∷ rest)) name ≡ ((is_made one.allotment && same_name name one.name) || is_among (names_made rest) name)
names_made-one one rest name =
    elim (is_made one.allotment) as (λ b. is_among (map (λ (one : DdAllotment). one.name) (cond b (one ∷ filter (λ one. is_made one.allotment) rest) (filter (λ one. is_made one.allotment) rest))) name ≡ ((b && same_name name one.name) || is_among (names_made rest) name)) [
      | true ↦ refl
      | false ↦ refl
    ]

spread : (absent same others : Bool) → ((absent && same) || (absent && others)) ≡ (absent && (same || others))
spread true same others = refl
spread false same others = refl

swap_at : (standing : Stock LibrarySet) (name other : Name) (makes : Bool) → makes ≡ is_none (entry_at standing.sets other) → (makes && same_name name other) ≡ (is_none (entry_at standing.sets name) && same_name name other)
swap_at standing name other makes e =
    ap (λ b. b && same_name name other) e
    ∙ bool-cases (same_name name other)
    (λ same. ap (λ n. is_none (entry_at standing.sets n) && same_name name other) (sym (name-same name other same)))
    (λ apart. ap (λ b. is_none (entry_at standing.sets other) && b) apart ∙ and-false (is_none (entry_at standing.sets other)) ∙ sym (ap (λ b. is_none (entry_at standing.sets name) && b) apart ∙ and-false (is_none (entry_at standing.sets name))))

-- it makes those of its names that weren't there
pub names_made-placed : (standing : Stock LibrarySet) (root : ℕ) (owned : OwnedStep) (number : ℕ) (dds : List Dd) (name : Name) → flaws_in (placed_from record_ways standing root owned number dds) ≡ [] → is_among (names_made (placed_from record_ways standing root owned number dds)) name ≡ (is_none (entry_at standing.sets name) && is_among (filter_map (name_of root owned) dds) name)
names_made-placed standing root owned number [] name flawless = nothing (is_none (entry_at standing.sets name))
  where
    nothing : (b : Bool) → false ≡ (b && false)
    nothing true = refl
    nothing false = refl
names_made-placed standing root owned number (dd ∷ dds) name flawless =
    by (name_of root owned dd) flawless (names_made-placed standing root owned (suc number) dds name)
  where
    by : (other : Option Name) → flaws_in (cons_option (option_map (placed_one record_ways standing number dd) other) (placed_from record_ways standing root owned (suc number) dds)) ≡ [] → (flaws_in (placed_from record_ways standing root owned (suc number) dds) ≡ [] → is_among (names_made (placed_from record_ways standing root owned (suc number) dds)) name ≡ (is_none (entry_at standing.sets name) && is_among (filter_map (name_of root owned) dds) name)) → is_among (names_made (cons_option (option_map (placed_one record_ways standing number dd) other) (placed_from record_ways standing root owned (suc number) dds))) name ≡ (is_none (entry_at standing.sets name) && is_among (cons_option other (filter_map (name_of root owned) dds)) name)
    by None flawless rest = rest flawless
    by (Some other) flawless rest =
        let one : DdAllotment = placed_one record_ways standing number dd other in
        let others : List DdAllotment = placed_from record_ways standing root owned (suc number) dds in
        names_made-one one others name
        ∙ ap (λ b. b || is_among (names_made others) name) (swap_at standing name other (is_made one.allotment) (placed-makes standing number dd other (flawless-first one others flawless)))
        ∙ ap (λ b. (is_none (entry_at standing.sets name) && same_name name other) || b) (rest (flawless-rest one others flawless))
        ∙ spread (is_none (entry_at standing.sets name)) (same_name name other) (is_among (filter_map (name_of root owned) dds) name)

-- ---- dispositions

disposal-same : (standing : Stock LibrarySet) (number : ℕ) (dd : Dd) (name : Name) (here before earlier : List Name) (abnormal : Bool) → flaw_in (placed_one record_ways standing number dd name).allotment ≡ None → is_among here name ≡ is_none (entry_at standing.sets name) → is_among before name ≡ is_among earlier name → run_disposal here before abnormal dd name ≡ disposal_of earlier abnormal (placed_one record_ways standing number dd name)
disposal-same standing number dd name here before earlier abnormal flawless made_here made_before =
    ap (λ b. let disposal : Disposal = record { name = name; after = dispose (is_temporary dd.origin) dd.disp b abnormal; made = b || is_among before name } in disposal) (made_here ∙ sym (placed-makes standing number dd name flawless))
    ∙ ap (λ b. let disposal : Disposal = record { name = name; after = dispose (is_temporary dd.origin) dd.disp (is_made (placed_one record_ways standing number dd name).allotment) abnormal; made = is_made (placed_one record_ways standing number dd name).allotment || b } in disposal) made_before

-- the step's names that weren't there
abbrev pub HereMade : Stock LibrarySet → List Name → List Name → Type 0
HereMade standing here names = (name : Name) → is_among names name ≡ true → is_among here name ≡ is_none (entry_at standing.sets name)

-- dispositions by the points are those by allocation
pub disposals-same : (standing : Stock LibrarySet) (root : ℕ) (owned : OwnedStep) (number : ℕ) (dds : List Dd) (here before earlier : List Name) (abnormal : Bool) → flaws_in (placed_from record_ways standing root owned number dds) ≡ [] → HereMade standing here (filter_map (name_of root owned) dds) → ((name : Name) → is_among before name ≡ is_among earlier name) → filter_map (λ dd. option_map (run_disposal here before abnormal dd) (name_of root owned dd)) dds ≡ disposals_of earlier abnormal (placed_from record_ways standing root owned number dds)
disposals-same standing root owned number [] here before earlier abnormal flawless made_here made_before = refl
disposals-same standing root owned number (dd ∷ dds) here before earlier abnormal flawless made_here made_before =
    by (name_of root owned dd) flawless made_here (λ flawless made_here. disposals-same standing root owned (suc number) dds here before earlier abnormal flawless made_here made_before)
  where
    by : (other : Option Name) → flaws_in (cons_option (option_map (placed_one record_ways standing number dd) other) (placed_from record_ways standing root owned (suc number) dds)) ≡ [] → HereMade standing here (cons_option other (filter_map (name_of root owned) dds)) → (flaws_in (placed_from record_ways standing root owned (suc number) dds) ≡ [] → HereMade standing here (filter_map (name_of root owned) dds) → filter_map (λ dd. option_map (run_disposal here before abnormal dd) (name_of root owned dd)) dds ≡ disposals_of earlier abnormal (placed_from record_ways standing root owned (suc number) dds)) → cons_option (option_map (run_disposal here before abnormal dd) other) (filter_map (λ dd. option_map (run_disposal here before abnormal dd) (name_of root owned dd)) dds) ≡ disposals_of earlier abnormal (cons_option (option_map (placed_one record_ways standing number dd) other) (placed_from record_ways standing root owned (suc number) dds))
    by None flawless made_here rest = rest flawless made_here
    by (Some other) flawless made_here rest =
        let one : DdAllotment = placed_one record_ways standing number dd other in
        let others : List DdAllotment = placed_from record_ways standing root owned (suc number) dds in
        ap (λ disposal. disposal ∷ filter_map (λ dd. option_map (run_disposal here before abnormal dd) (name_of root owned dd)) dds)
        (disposal-same standing number dd other here before earlier abnormal (flawless-first one others flawless) (made_here other (or_left (same_name other other) (is_among (filter_map (name_of root owned) dds) other) (name-equivalence.refl other))) (made_before other))
        ∙ ap (λ rest. disposal_of earlier abnormal one ∷ rest)
        (rest (flawless-rest one others flawless) (λ name among. made_here name (or_right (same_name name other) (is_among (filter_map (name_of root owned) dds) name) among)))

-- ---- other names

pub disposals-apart : (earlier : List Name) (abnormal : Bool) (placed : List DdAllotment) (name : Name) → AllByRecursion (λ (one : DdAllotment). same_name name one.name ≡ false) placed → AllByRecursion (λ (one : Disposal). same_name name one.name ≡ false) (disposals_of earlier abnormal placed)
disposals-apart earlier abnormal [] name apart = tt
disposals-apart earlier abnormal (one ∷ rest) name apart = (apart.0, disposals-apart earlier abnormal rest name apart.1)
