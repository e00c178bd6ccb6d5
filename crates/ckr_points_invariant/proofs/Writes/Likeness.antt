-- Writes of a step, and the lengths that an event commits: what is alike under a name is alike behind them.
use Rattle.std.proofs.Common.{◌≡◌, ◌≤◌, ℕ, ◌+◌, ◌-◌, Bool, true, false, cond, not, ◌||◌, List, [], ◌∷◌, drop, length, refl, ap, sym, ◌∙◌, Option, Some, None, arith}
use Rattle.std.specs.List.{list_all}
use Rattle.std.specs.Option.{option_map, option_map_or}
use Rattle.std.proofs.lemmas.Bool.{false≢true, not-true, or_from}
use Rattle.std.proofs.lemmas.Option.{same_Some}
use Rattle.ckr_base.specs.declared.programs.Output.{Output}
use Rattle.ckr_base.specs.declared.programs.Output.TheVariants.{Main, Rejects, InPlace}
use Rattle.ckr_base.specs.declared.programs.Write.{Write}
use Rattle.ckr_base.proofs.Bools.{and-first, and-second, bool-cases}
use Rattle.ckr_base.proofs.Numbers.{equal-true}
use Rattle.ckr_base.proofs.Options.{option-cases, option_map-cond, some-not-none}
use Rattle.ckr_base.proofs.Sequences.{all-drop, all-take}
use Rattle.ckr_library.specs.declared.sets.Content.{Content}
use Rattle.ckr_library.specs.declared.sets.Content.TheVariants.{Plain, Checkpoints}
use Rattle.ckr_library.specs.NameMaps.{Name, Named, same_name, entry_at, with_changed}
use Rattle.ckr_library.proofs.Named.{at-with_changed, name-same}
use Rattle.ckr_meaning.specs.LibrarySet.{LibrarySet, Library}
use Rattle.ckr_meaning.specs.EffectiveJob.{is_among}
use Rattle.ckr_meaning.specs.StepRun.{StepStart, changed_in, extended, output_name, set_records, within_at, work_at, written_all, written_one, written_set}
use Rattle.ckr_meaning.proofs.WriteSeries.{within_at-more}
use Rattle.ckr_points.specs.Tables.{committed}
use Rattle.ckr_points.specs.Payload.{have_lengths, is_formed_step, is_in_place, is_length, records_under, rewrites_nothing, writes_between}
use Rattle.ckr_points_invariant.specs.Invariant.{AreAlike, Shape, counted, set_shape, table_shape}
use Rattle.ckr_points_library.specs.Commit.{output_names}
use Rattle.ckr_points.specs.Rows.{TableSet, cut_set}
use Rattle.ckr_points_invariant.proofs.Writes.Roles.{is_right, target, target-among, work_at-right}

-- a shape without its length
abbrev pub bare : Shape → Shape
bare shape = record shape { length = 0 }

-- alike but for the length
abbrev pub BareAlike : Named TableSet → Library → Name → Type 0
BareAlike sets library name = option_map (λ table. bare (table_shape table)) (entry_at sets name) ≡ option_map (λ set. bare (set_shape set)) (entry_at library name)

composed : {X Y Z : Type 0} (f : X → Y) (g : Y → Z) (entry : Option X) → option_map (λ x. g (f x)) entry ≡ option_map g (option_map f entry)
composed f g None = refl
composed f g (Some x) = refl

pub bare-alike : (sets : Named TableSet) (library : Library) (name : Name) → AreAlike sets library name → BareAlike sets library name
bare-alike sets library name alike =
    composed table_shape bare (entry_at sets name) ∙ ap (option_map bare) alike ∙ sym (composed set_shape bare (entry_at library name))

-- ---- the writes

abbrev bare_at : Library → Name → Option Shape
bare_at library name = option_map (λ set. bare (set_shape set)) (entry_at library name)

-- none of the writes is a rewrite, and each goes to an output of the program
abbrev pub Adds : StepStart → List Write → Type 0
Adds start writes =
    (list_all (λ write. is_right start.owned.step.program write.output) writes ≡ true) × (list_all (λ write. not (is_in_place write.output)) writes ≡ true)

unchanged : (f : LibrarySet → LibrarySet) → ((set : LibrarySet) → bare (set_shape (f set)) ≡ bare (set_shape set)) → (entry : Option LibrarySet) → option_map (λ set. bare (set_shape set)) (option_map f entry) ≡ option_map (λ set. bare (set_shape set)) entry
unchanged f same None = refl
unchanged f same (Some set) = ap Some (same set)

chosen : {A : Type 0} (b : Bool) (x : A) → cond b x x ≡ x
chosen true x = refl
chosen false x = refl

adds_bare : (name : Name) (to : Option Name) (change : LibrarySet → LibrarySet) → ((set : LibrarySet) → bare (set_shape (change set)) ≡ bare (set_shape set)) → (library : Library) → bare_at (changed_in to change library) name ≡ bare_at library name
adds_bare name None change same library = refl
adds_bare name (Some to) change same library =
    ap (option_map (λ set. bare (set_shape set))) (at-with_changed to name change library)
    ∙ option_map-cond (λ set. bare (set_shape set)) (same_name name to) _ _
    ∙ ap (λ entry. cond (same_name name to) entry (bare_at library name)) (unchanged change same (entry_at library name))
    ∙ chosen (same_name name to) (bare_at library name)

written_bare : (start : StepStart) (output : Output) (image : List ℕ) (library : Library) (name : Name) → not (is_in_place output) ≡ true → bare_at (written_one start (record { output = output; image = image }) library) name ≡ bare_at library name
unfolding written_one
written_bare start Main image library name kept = adds_bare name (output_name start Main) (extended image) (λ set. refl) library
written_bare start Rejects image library name kept = adds_bare name (output_name start Rejects) (extended image) (λ set. refl) library
written_bare start (InPlace place) image library name kept = absurd (false≢true kept)

pub written_all-bare : (start : StepStart) (writes : List Write) (library : Library) (name : Name) → list_all (λ write. not (is_in_place write.output)) writes ≡ true → bare_at (written_all start writes library) name ≡ bare_at library name
written_all-bare start [] library name kept = refl
written_all-bare start (write ∷ writes) library name kept =
    written_all-bare start writes (written_one start write library) name (and-second (not (is_in_place write.output)) _ kept)
    ∙ written_bare start write.output write.image library name (and-first (not (is_in_place write.output)) _ kept)

apart_by : (outputs : List Name) (name to : Name) → is_among outputs to ≡ true → is_among outputs name ≡ false → same_name name to ≡ false
apart_by outputs name to among out =
    bool-cases (same_name name to)
    (λ same. absurd (false≢true (sym out ∙ ap (is_among outputs) (name-same name to same) ∙ among)))
    (λ apart. apart)

pub written-other : (start : StepStart) (write : Write) (library : Library) (name : Name) → is_formed_step start.root start.owned ≡ true → is_right start.owned.step.program write.output ≡ true → not (is_in_place write.output) ≡ true → is_among (output_names start.root start.owned) name ≡ false → entry_at (written_one start write library) name ≡ entry_at library name
unfolding written_one
written-other start write library name formed right kept out =
    option-cases (output_name start write.output)
    (λ none. ap (λ to. entry_at (changed_in to change library) name) none)
    (λ to e.
    ap (λ o. entry_at (changed_in o change library) name) e
    ∙ at-with_changed to name change library
    ∙ ap (λ b. cond b (option_map change (entry_at library name)) (entry_at library name))
    (let t = target start write.output to e in
    apart_by (output_names start.root start.owned) name to (target-among start write.output to t.0 formed right (not-true (is_in_place write.output) kept) t.1) out))
  where
    change : LibrarySet → LibrarySet
    change = written_set start write.output write.image

pub written_all-other : (start : StepStart) (writes : List Write) (library : Library) (name : Name) → is_formed_step start.root start.owned ≡ true → Adds start writes → is_among (output_names start.root start.owned) name ≡ false → entry_at (written_all start writes library) name ≡ entry_at library name
written_all-other start [] library name formed adds out = refl
written_all-other start (write ∷ writes) library name formed adds out =
    written_all-other start writes (written_one start write library) name formed (and-second (is_right start.owned.step.program write.output) _ adds.0, and-second (not (is_in_place write.output)) _ adds.1) out
    ∙ written-other start write library name formed (and-first (is_right start.owned.step.program write.output) _ adds.0) (and-first (not (is_in_place write.output)) _ adds.1) out

-- ---- the lengths

pub lengthened : (one other : Shape) → bare one ≡ bare other → one.length ≡ other.length → one ≡ other
lengthened one other same long = ap (λ (shape : Shape). record shape { length = one.length }) same ∙ ap (λ most. record other { length = most }) long

counted_as : (content : Content) (wanted now : ℕ) → is_length content wanted now ≡ true → counted content now ≡ counted content wanted
counted_as Plain wanted now e = sym (equal-true wanted now e)
counted_as Checkpoints wanted now e = refl

-- a data set that is cut to its length is alike
cut-alike : (now : ℕ) (entry first : Option TableSet) (other : Option LibrarySet) → option_map (λ table. bare (table_shape table)) entry ≡ option_map (λ set. bare (set_shape set)) other → option_map (λ table. bare (table_shape table)) first ≡ option_map (λ set. bare (set_shape set)) other → option_map_or (λ table. is_length table.set.content (length (option_map_or set_records other [])) now) first false ≡ true → option_map table_shape (option_map (cut_set now) entry) ≡ option_map set_shape other
cut-alike now None first None one two e = refl
cut-alike now None first (Some set) one two e = absurd (some-not-none (bare (set_shape set)) (sym one))
cut-alike now (Some table) first None one two e = absurd (some-not-none (bare (table_shape table)) one)
cut-alike now (Some table) None (Some set) one two e = absurd (false≢true e)
cut-alike now (Some table) (Some former) (Some set) one two e =
    let same : bare (table_shape table) ≡ bare (set_shape set) = same_Some _ _ one in
    let before : bare (table_shape former) ≡ bare (set_shape set) = same_Some _ _ two in
    ap Some (lengthened (table_shape (cut_set now table)) (set_shape set) same
    (ap (λ (shape : Shape). counted shape.content now) same
    ∙ counted_as set.content (length set.records) now (ap (λ (shape : Shape). is_length shape.content (length set.records) now) (sym before) ∙ e)))

cut_bare : (now : ℕ) (entry : Option TableSet) → option_map (λ table. bare (table_shape table)) (option_map (cut_set now) entry) ≡ option_map (λ table. bare (table_shape table)) entry
cut_bare now None = refl
cut_bare now (Some table) = refl

-- what is committed is alike where it was but for the lengths of the outputs
pub committed-alike : (names : List Name) (lengths : List ℕ) (first sets : Named TableSet) (library : Library) (name : Name) → BareAlike first library name → BareAlike sets library name → have_lengths library first names lengths ≡ true → (is_among names name ≡ false → AreAlike sets library name) → AreAlike (committed names lengths sets) library name
committed-alike [] [] first sets library name before alike has other = other refl
committed-alike [] (now ∷ lengths) first sets library name before alike has other = other refl
committed-alike (output ∷ names) [] first sets library name before alike has other = absurd (false≢true has)
committed-alike (output ∷ names) (now ∷ lengths) first sets library name before alike has other =
    committed-alike names lengths first (with_changed output (cut_set now) sets) library name before
    (ap (option_map (λ table. bare (table_shape table))) (at-with_changed output name (cut_set now) sets)
    ∙ option_map-cond (λ table. bare (table_shape table)) (same_name name output) _ _
    ∙ ap (λ entry. cond (same_name name output) entry (option_map (λ table. bare (table_shape table)) (entry_at sets name))) (cut_bare now (entry_at sets name))
    ∙ chosen (same_name name output) _ ∙ alike)
    (and-second here _ has)
    (λ out.
    bool-cases (same_name name output)
    (λ same.
    ap (option_map table_shape) (at-with_changed output name (cut_set now) sets ∙ ap (λ b. cond b (option_map (cut_set now) (entry_at sets name)) (entry_at sets name)) same)
    ∙ cut-alike now (entry_at sets name) (entry_at first name) (entry_at library name) alike before
    (ap (λ n. option_map_or (λ table. is_length table.set.content (length (records_under library n)) now) (entry_at first n) false) (name-same name output same) ∙ and-first here _ has))
    (λ apart.
    ap (option_map table_shape) (at-with_changed output name (cut_set now) sets ∙ ap (λ b. cond b (option_map (cut_set now) (entry_at sets name)) (entry_at sets name)) apart)
    ∙ other (or_from (same_name name output) (is_among names name) apart out)))
  where
    here : Bool
    here = option_map_or (λ table. is_length table.set.content (length (records_under library output)) now) (entry_at first output) false

pub committed-other : (names : List Name) (lengths : List ℕ) (sets : Named TableSet) (name : Name) → is_among names name ≡ false → entry_at (committed names lengths sets) name ≡ entry_at sets name
committed-other [] [] sets name out = refl
committed-other [] (now ∷ lengths) sets name out = refl
committed-other (output ∷ names) [] sets name out = refl
committed-other (output ∷ names) (now ∷ lengths) sets name out =
    bool-cases (same_name name output)
    (λ same. absurd (false≢true (sym out ∙ ap (λ b. b || is_among names name) same)))
    (λ apart.
    committed-other names lengths (with_changed output (cut_set now) sets) name (sym (ap (λ b. b || is_among names name) apart) ∙ out)
    ∙ at-with_changed output name (cut_set now) sets ∙ ap (λ b. cond b (option_map (cut_set now) (entry_at sets name)) (entry_at sets name)) apart)

-- ---- the commit of a step that goes on

-- behind more writes that rewrite nothing, and with their lengths, the step is alike
pub commit-alike : (start : StepStart) (from to : ℕ) (lengths : List ℕ) (sets : Named TableSet) (name : Name) → is_formed_step start.root start.owned ≡ true → from ≤ to → rewrites_nothing start from to ≡ true → have_lengths (within_at start to) sets (output_names start.root start.owned) lengths ≡ true → AreAlike sets (within_at start from) name → AreAlike (committed (output_names start.root start.owned) lengths sets) (within_at start to) name
commit-alike start from to lengths sets name formed below none has alike =
    committed-alike (output_names start.root start.owned) lengths sets sets (within_at start to) name same_bare same_bare has
    (λ out. alike ∙ sym (ap (option_map set_shape) (ap (λ library. entry_at library name) going ∙ written_all-other start (writes_between start from to) (within_at start from) name formed (right, none) out)))
  where
    going : within_at start to ≡ written_all start (writes_between start from to) (within_at start from)
    going = ap (within_at start) (let e : to ≡ from + (to - from) = omega (arith, below) in e) ∙ within_at-more start from (to - from)

    right : list_all (λ (write : Write). is_right start.owned.step.program write.output) (writes_between start from to) ≡ true
    right = all-take _ (to - from) (drop from (work_at start).writes) (all-drop _ from (work_at start).writes (work_at-right start))

    same_bare : BareAlike sets (within_at start to) name
    same_bare =
        bare-alike sets (within_at start from) name alike
        ∙ sym (ap (λ library. bare_at library name) going ∙ written_all-bare start (writes_between start from to) (within_at start from) name none)
