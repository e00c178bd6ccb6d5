-- The lengths that a checkpoint commits: the data set for checkpoints has the length behind the entry, and the other outputs theirs.
use Rattle.std.proofs.Common.{◌≡◌, ◌≤◌, ℕ, Bool, true, false, ◌&&◌, ◌||◌, List, [], ◌∷◌, length, map, refl, ap, sym, ◌∙◌, Option, Some}
use Rattle.std.specs.Prelude.{◌==◌, nat_le, if◌then◌else◌}
use Rattle.std.specs.Option.{option_map_or}
use Rattle.std.proofs.lemmas.Bool.{and_from, false≢true, or_left, or_right}
use Rattle.ckr_base.proofs.Bools.{bool-cases}
use Rattle.ckr_base.proofs.Numbers.{equal-itself, nat_le-from}
use Rattle.ckr_library.specs.declared.sets.Content.{Content}
use Rattle.ckr_library.specs.declared.sets.Content.TheVariants.{Checkpoints}
use Rattle.ckr_library.specs.NameMaps.{Name, Named, entry_at, same_name}
use Rattle.ckr_library.proofs.Named.{name-itself, name-turned}
use Rattle.ckr_meaning.specs.EffectiveJob.{is_among}
use Rattle.ckr_meaning.specs.LibrarySet.{Library}
use Rattle.ckr_points.specs.Follows.{are_lengths, is_length_of}
use Rattle.ckr_points.specs.Payload.{have_lengths, is_length, length_by, length_now, records_under}
use Rattle.ckr_points.specs.Rows.{TableSet}
use Rattle.ckr_desk_turn.proofs.Units.Outputs.{IsOutput, is_now}

-- a data set for checkpoints, with the length behind an entry
pub record HasRoom (sets : Named TableSet) (most : ℕ) (name : Name) : Type 0 where
  pub table : TableSet
  pub found : entry_at sets name ≡ Some table
  pub low : table.set.length ≤ most
  pub high : most ≤ table.set.space
  pub content : table.set.content ≡ Checkpoints

module _ (library : Library) (sets : Named TableSet) (is_check : Name → Bool) (most : ℕ) where
  abbrev pub now_at : Name → ℕ
  now_at name = if is_check name then most else length_now library sets name

  now-check : (name : Name) → is_check name ≡ true → now_at name ≡ most
  now-check name e = ap (λ (b : Bool). if b then most else length_now library sets name) e

  now-other : (name : Name) → is_check name ≡ false → now_at name ≡ length_now library sets name
  now-other name e = ap (λ (b : Bool). if b then most else length_now library sets name) e

  abbrev follows_at : Name → ℕ → Bool
  follows_at name now = option_map_or (λ (table : TableSet). nat_le table.set.length now && nat_le now table.set.space) (entry_at sets name) false

  abbrev has_at : Name → ℕ → Bool
  has_at name now = option_map_or (λ (table : TableSet). is_length table.set.content (length (records_under library name)) now) (entry_at sets name) false

  found-follows : (name : Name) (now : ℕ) (table : TableSet) → entry_at sets name ≡ Some table → table.set.length ≤ now → now ≤ table.set.space → follows_at name now ≡ true
  found-follows name now table found low high =
      ap (λ (entry : Option TableSet). option_map_or (λ (table : TableSet). nat_le table.set.length now && nat_le now table.set.space) entry false) found
      ∙ and_from (nat_le table.set.length now) (nat_le now table.set.space) (nat_le-from _ _ low) (nat_le-from _ _ high)

  check-has : (name : Name) → HasRoom sets most name → has_at name most ≡ true
  check-has name has =
      ap (λ (entry : Option TableSet). option_map_or (λ (table : TableSet). is_length table.set.content (length (records_under library name)) most) entry false) has.found
      ∙ ap (λ (content : Content). is_length content (length (records_under library name)) most) has.content

  other-has : (name : Name) → IsOutput sets library name → has_at name (length_now library sets name) ≡ true
  other-has name out =
      ap (λ (entry : Option TableSet). option_map_or (λ (table : TableSet). is_length table.set.content (length (records_under library name)) (option_map_or (λ (table : TableSet). length_by table.set.content table (length (records_under library name))) entry 0)) entry false) out.found
      ∙ is_now out.table.set.content out.table (length (records_under library name))

  -- an output's length follows, and is had
  one-follows : (name : Name) → IsOutput sets library name → (is_check name ≡ true → HasRoom sets most name) → follows_at name (now_at name) ≡ true
  one-follows name out check =
      bool-cases (is_check name)
      (λ e. let has : HasRoom sets most name = check e in ap (follows_at name) (now-check name e) ∙ found-follows name most has.table has.found has.low has.high)
      (λ e. ap (follows_at name) (now-other name e) ∙ found-follows name (length_now library sets name) out.table out.found out.low out.high)

  one-has : (name : Name) → IsOutput sets library name → (is_check name ≡ true → HasRoom sets most name) → has_at name (now_at name) ≡ true
  one-has name out check =
      bool-cases (is_check name)
      (λ e. ap (has_at name) (now-check name e) ∙ check-has name (check e))
      (λ e. ap (has_at name) (now-other name e) ∙ other-has name out)

  pub lengths-follow-with : (outputs : List Name) → ((name : Name) → is_among outputs name ≡ true → IsOutput sets library name) → ((name : Name) → is_among outputs name ≡ true → is_check name ≡ true → HasRoom sets most name) → are_lengths sets outputs (map now_at outputs) ≡ true
  lengths-follow-with [] each check = refl
  lengths-follow-with (name ∷ outputs) each check =
      let mine : is_among (name ∷ outputs) name ≡ true = or_left (same_name name name) (is_among outputs name) (name-itself name) in
      and_from (follows_at name (now_at name)) (are_lengths sets outputs (map now_at outputs))
      (one-follows name (each name mine) (check name mine))
      (lengths-follow-with outputs
      (λ other among. each other (or_right (same_name other name) (is_among outputs other) among))
      (λ other among. check other (or_right (same_name other name) (is_among outputs other) among)))

  pub lengths-had-with : (outputs : List Name) → ((name : Name) → is_among outputs name ≡ true → IsOutput sets library name) → ((name : Name) → is_among outputs name ≡ true → is_check name ≡ true → HasRoom sets most name) → have_lengths library sets outputs (map now_at outputs) ≡ true
  lengths-had-with [] each check = refl
  lengths-had-with (name ∷ outputs) each check =
      let mine : is_among (name ∷ outputs) name ≡ true = or_left (same_name name name) (is_among outputs name) (name-itself name) in
      and_from (has_at name (now_at name)) (have_lengths library sets outputs (map now_at outputs))
      (one-has name (each name mine) (check name mine))
      (lengths-had-with outputs
      (λ other among. each other (or_right (same_name other name) (is_among outputs other) among))
      (λ other among. check other (or_right (same_name other name) (is_among outputs other) among)))

  -- the length behind the entry stands under the name of the data set for checkpoints
  pub length-of-check : (set : Name) (outputs : List Name) → ((name : Name) → is_check name ≡ same_name name set) → is_among outputs set ≡ true → is_length_of set most outputs (map now_at outputs) ≡ true
  length-of-check set [] is among = absurd (false≢true among)
  length-of-check set (name ∷ outputs) is among =
      bool-cases (same_name name set)
      (λ e.
      ap (λ (b : Bool). if b then now_at name == most else is_length_of set most outputs (map now_at outputs)) e
      ∙ ap (λ n. n == most) (now-check name (is name ∙ e)) ∙ equal-itself most)
      (λ e.
      ap (λ (b : Bool). if b then now_at name == most else is_length_of set most outputs (map now_at outputs)) e
      ∙ length-of-check set outputs is (sym (ap (λ b. b || is_among outputs set) (name-turned set name ∙ e)) ∙ among))
