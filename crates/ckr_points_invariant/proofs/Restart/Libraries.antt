-- What a step has written since a point of it, where none of the writes is a rewrite, and what is put back of that.
use Rattle.std.proofs.Common.{◌≡◌, ◌≤◌, ℕ, ◌+◌, ◌-◌, Bool, true, false, cond, ◌&&◌, List, [], ◌∷◌, filter, map, drop, length, refl, ap, sym, ◌∙◌, Option, Some, None, arith}
use Rattle.std.specs.List.{AllByRecursion, list_all}
use Rattle.std.specs.Option.{option_map, is_none}
use Rattle.std.proofs.lemmas.Bool.{false≢true, or_parts}
use Rattle.std.proofs.lemmas.Option.{same_Some}
use Rattle.ckr_base.specs.declared.programs.Write.{Write}
use Rattle.ckr_base.proofs.Bools.{bool-cases}
use Rattle.ckr_base.proofs.Sequences.{all-drop, all-take}
use Rattle.ckr_entry.specs.declared.point.Mark.{Mark}
use Rattle.ckr_library.specs.declared.sets.Content.{Content}
use Rattle.ckr_library.specs.declared.sets.Content.TheVariants.{Plain, Checkpoints}
use Rattle.ckr_library.specs.NameMaps.{Name, Named, same_name, entry_at}
use Rattle.ckr_library.proofs.Named.{name-same}
use Rattle.ckr_meaning.specs.Allotments.{DdAllotment, is_made}
use Rattle.ckr_meaning.specs.EffectiveJob.{flaws_in, is_among, names_made, names_of}
use Rattle.ckr_meaning.specs.LibrarySet.{LibrarySet}
use Rattle.ckr_meaning.specs.StepRun.{StepStart, made_at, opened_at, placed_at, stamp_at, within_at, work_at, written_all}
use Rattle.ckr_meaning.proofs.WriteSeries.{within_at-more, within_at-none}
use Rattle.ckr_points_library.specs.Commit.{output_names}
use Rattle.ckr_points.specs.Marks.{present_at, put_back}
use Rattle.ckr_points.specs.Payload.{is_formed_step, rewrites_nothing, writes_between}
use Rattle.ckr_points.specs.Rows.{TableSet}
use Rattle.ckr_points_invariant.specs.Invariant.{AreAlike, IsMarkOf, Shape, counted, set_shape, table_shape}
use Rattle.ckr_points_invariant.proofs.Holders.SharedSets.{Unmade, made_all-left}
use Rattle.ckr_points_invariant.proofs.Rewrite.Sets.{updated-out}
use Rattle.ckr_points_invariant.proofs.StepEnd.Disposals.{names_made-placed}
use Rattle.ckr_points_invariant.proofs.Writes.Growth.{HasGrown, IsNotUpdated, written_all-grown}
use Rattle.ckr_points_invariant.proofs.Writes.Likeness.{bare, bare-alike, written_all-bare, written_all-other}
use Rattle.ckr_points_invariant.proofs.Writes.Roles.{is_right, work_at-right}
use Rattle.ckr_points_invariant.proofs.PutBack.Likeness.{AreAsLong, put_back-alike}
use Rattle.ckr_points_invariant.proofs.Stamps.Tables.{prefix_length}

-- ---- opened and made

pub unmade-all : (name : Name) (all : List DdAllotment) → is_among (names_made all) name ≡ false → AllByRecursion (Unmade name) all
unmade-all name [] none = tt
unmade-all name (placed ∷ rest) none = by (unmade-all name rest) (is_made placed.allotment) refl none
  where
    by : (is_among (names_made rest) name ≡ false → AllByRecursion (Unmade name) rest) → (makes : Bool) → is_made placed.allotment ≡ makes → is_among (map (λ (one : DdAllotment). one.name) (cond makes (placed ∷ filter (λ one. is_made one.allotment) rest) (filter (λ one. is_made one.allotment) rest))) name ≡ false → AllByRecursion (Unmade name) (placed ∷ rest)
    by others true e none = let parts = or_parts (same_name name placed.name) _ none in (λ same. absurd (false≢true (sym parts.0 ∙ same)), others parts.1)
    by others false e none = (λ same. e, others none)

-- a name that the step doesn't make is as it was opened
pub opened-made : (start : StepStart) (name : Name) → flaws_in (placed_at start) ≡ [] → (is_none (entry_at start.standing.sets name) && is_among (names_of start.root start.owned) name) ≡ false → entry_at (within_at start 0) name ≡ entry_at (opened_at start) name
unfolding made_at placed_at
opened-made start name flawless kept =
    ap (λ library. entry_at library name) (within_at-none start)
    ∙ made_all-left name (stamp_at start) (placed_at start) (opened_at start)
    (unmade-all name (placed_at start) (names_made-placed start.standing start.root start.owned 1 start.owned.step.dds name flawless ∙ kept))

-- ---- lengths

counted_short : (content : Content) (one other : ℕ) → one ≤ other → counted content one ≤ counted content other
counted_short Plain one other short = short
counted_short Checkpoints one other short = omega arith

none_long : (entry : Option TableSet) → AreAsLong entry None
none_long None = tt
none_long (Some table) = tt

-- a table that is alike to a data set that has grown is as long as it was
grown-long : (table : TableSet) (set other : LibrarySet) → table_shape table ≡ set_shape other → other.content ≡ set.content → length set.records ≤ length other.records → counted set.content (length set.records) ≤ counted table.set.content table.set.length
grown-long table set other same content short =
    let e : counted table.set.content table.set.length ≡ counted other.content (length other.records) = ap (λ (shape : Shape). shape.length) same in
    let f : counted other.content (length other.records) ≡ counted set.content (length other.records) = ap (λ c. counted c (length other.records)) content in
    let g : counted set.content (length set.records) ≤ counted set.content (length other.records) = counted_short set.content (length set.records) (length other.records) short in
    omega (arith, e, f, g)

-- ---- writes that rewrite nothing

module _ (start : StepStart) (from to : ℕ) (formed : is_formed_step start.root start.owned ≡ true) (below : from ≤ to) (none : rewrites_nothing start from to ≡ true) where
  abbrev outputs : List Name
  outputs = output_names start.root start.owned

  going : within_at start to ≡ written_all start (writes_between start from to) (within_at start from)
  going = ap (within_at start) (let e : to ≡ from + (to - from) = omega (arith, below) in e) ∙ within_at-more start from (to - from)

  right : list_all (λ (write : Write). is_right start.owned.step.program write.output) (writes_between start from to) ≡ true
  right = all-take _ (to - from) (drop from (work_at start).writes) (all-drop _ from (work_at start).writes (work_at-right start))

  within-bare : (name : Name) → option_map (λ set. bare (set_shape set)) (entry_at (within_at start to) name) ≡ option_map (λ set. bare (set_shape set)) (entry_at (within_at start from) name)
  within-bare name =
      ap (λ library. option_map (λ set. bare (set_shape set)) (entry_at library name)) going
      ∙ written_all-bare start (writes_between start from to) (within_at start from) name none

  -- what isn't an output is as it was
  pub within-other : (name : Name) → is_among outputs name ≡ false → entry_at (within_at start to) name ≡ entry_at (within_at start from) name
  within-other name out =
      ap (λ library. entry_at library name) going
      ∙ written_all-other start (writes_between start from to) (within_at start from) name formed (right, none) out

  not_updated : (name : Name) → is_among outputs name ≡ true → IsNotUpdated start name
  not_updated name among place to_name goes =
      bool-cases (same_name name to_name)
      (λ same. absurd (false≢true (sym (updated-out start to_name place formed goes) ∙ ap (is_among outputs) (sym (name-same name to_name same)) ∙ among)))
      (λ apart. apart)

  -- an output has grown
  output-long : (name : Name) → is_among outputs name ≡ true → (entry : Option TableSet) → option_map table_shape entry ≡ option_map set_shape (entry_at (within_at start to) name) → (set : Option LibrarySet) → entry_at (within_at start from) name ≡ set → AreAsLong entry set
  output-long name among entry alike None e = none_long entry
  output-long name among None alike (Some set) e = tt
  output-long name among (Some table) alike (Some set) e =
      let grown : HasGrown name set (written_all start (writes_between start from to) (within_at start from)) = written_all-grown start name (not_updated name among) (writes_between start from to) (within_at start from) set e in
      grown-long table set grown.other
      (same_Some _ _ (alike ∙ ap (λ library. option_map set_shape (entry_at library name)) going ∙ ap (option_map set_shape) grown.at_name))
      grown.grown.content
      (prefix_length set.records grown.other.records grown.grown.records)

  same-long : (entry : Option TableSet) (set : Option LibrarySet) → option_map table_shape entry ≡ option_map set_shape set → AreAsLong entry set
  same-long entry None alike = none_long entry
  same-long None (Some set) alike = tt
  same-long (Some table) (Some set) alike = grown-long table set set (same_Some _ _ alike) refl (omega arith)

  since-long : (sets : Named TableSet) (name : Name) → AreAlike sets (within_at start to) name → AreAsLong (entry_at sets name) (entry_at (within_at start from) name)
  since-long sets name alike =
      bool-cases (is_among outputs name)
      (λ among. output-long name among (entry_at sets name) alike (entry_at (within_at start from) name) refl)
      (λ out. same-long (entry_at sets name) (entry_at (within_at start from) name) (alike ∙ ap (option_map set_shape) (within-other name out)))

  -- what is alike now is put back to what it was
  pub put_back-within : (marks : List Mark) (needed : List Name) (sets : Named TableSet) (name : Name) → is_among needed name ≡ true → IsMarkOf (present_at marks name) (entry_at (within_at start from) name) → AreAlike sets (within_at start to) name → AreAlike (put_back marks outputs needed sets) (within_at start from) name
  put_back-within marks needed sets name among marked alike =
      put_back-alike marks outputs needed sets (within_at start from) name among marked
      (bare-alike sets (within_at start to) name alike ∙ within-bare name)
      (λ out. alike ∙ ap (option_map set_shape) (within-other name out))
      (since-long sets name alike)
