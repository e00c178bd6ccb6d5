-- The state of a program in an entry: its kind, its counts, and what the kind has besides.
use Rattle.std.specs.Prelude.{◌≡◌, ◌+◌, ◌^◌, ◌==◌, ◌&&◌, ℕ, Bool, true, false, nat_lt, nat_le, min, List, [], ◌∷◌, length, Option, None, Err, if◌then◌else◌}
use Rattle.arrayvec.specs.ArrayVec.{ArrayVec}
use Rattle.ckr_fields.specs.Readers.{Reading, ◌>>=◌}
use Rattle.ckr_fields.specs.Fields.{Field, byte_at, byte, four_bytes, judged, between, depending, ◌&◌, text, record_bytes, seen_at}
use Rattle.ckr_programs.specs.Kinds.Kind.{Kind}
use Rattle.ckr_programs.specs.Kinds.Kind.TheVariants.{Copy, Select, Merge, Master, Update, Print}
use Rattle.ckr_programs.specs.declared.state.ProgState.{ProgState}
use Rattle.ckr_match.specs.declared.state.MatchState.{MatchState}
use Rattle.ckr_entry.specs.declared.point.State.{State}
use Rattle.ckr_entry.specs.declared.point.State.TheVariants.{Plain, Matched}
use Rattle.ckr_entry.specs.declared.head.Counts.{Counts}
use Rattle.ckr_entry.specs.Numbers.{number, sixteen_bytes, given}

-- ---- the parts of a state

-- the records taken of the second input are at most a million, and what those of the first leave of all records taken
abbrev pub is_remainder : ℕ → ℕ → ℕ → Bool
is_remainder taken first second = nat_le second 1000000 && first + second == taken

-- the records taken of the two inputs
abbrev pub taken_of_inputs : ℕ → Field (ℕ × ℕ)
taken_of_inputs taken = depending (number 0 (min taken 1000000)) (λ first. judged (is_remainder taken first) four_bytes)

-- beside them the rejects, and the entries that the step has written
abbrev pub count_parts : ℕ → Field ((ℕ × ℕ) × (ℕ × ℕ))
count_parts taken = taken_of_inputs taken & number 0 1000000 & number 1 1000000

abbrev pub counts_of_parts : (ℕ × ℕ) × (ℕ × ℕ) → Counts
counts_of_parts x = record { first = x.0.0; second = x.0.1; rejects = x.1.0; entries = x.1.1 }

abbrev pub parts_of_counts : Counts → (ℕ × ℕ) × (ℕ × ℕ)
parts_of_counts c = ((c.first, c.second), (c.rejects, c.entries))

unfoldable pub counts_at : ℕ → List ℕ → Reading Counts
counts_at taken = seen_at counts_of_parts (count_parts taken).read

-- of a step that has taken so many records
abbrev pub counts : ℕ → Field Counts
counts taken = record {
  fits = λ c. (count_parts taken).fits (parts_of_counts c);
  spell = λ c. (count_parts taken).spell (parts_of_counts c);
  read = counts_at taken;
}

-- the key of the last record of an input, of no bytes where none was taken
abbrev pub key_text : Field (List ℕ)
key_text = text (judged (between 0 32) byte) (λ _. true)

unfoldable pub key_at : List ℕ → Reading (ArrayVec ℕ)
key_at = seen_at (λ bytes. record { items = bytes }) key_text.read

abbrev pub key : Field (ArrayVec ℕ)
key = record { fits = λ k. key_text.fits k.items; spell = λ k. key_text.spell k.items; read = key_at }

-- UPDATE's last master, behind its place among the records taken of the first input
abbrev pub placed : ℕ → Field (ℕ × List ℕ)
placed first = judged (λ place. nat_lt place first) four_bytes & record_bytes

-- PRINT's sum
abbrev pub sum : Field ℕ
sum = judged (λ n. nat_lt n (10 ^ 21)) sixteen_bytes

abbrev pub merge_parts : ℕ → Field (Counts × (ArrayVec ℕ × ArrayVec ℕ))
merge_parts taken = counts taken & key & key

abbrev pub master_parts : ℕ → Field (Counts × (ArrayVec ℕ × (ArrayVec ℕ × Option (List ℕ))))
master_parts taken = counts taken & key & key & given record_bytes

abbrev pub update_parts : ℕ → Field (Counts × (ArrayVec ℕ × (ArrayVec ℕ × Option (ℕ × List ℕ))))
update_parts taken = depending (counts taken) (λ c. key & key & given (placed c.first))

abbrev pub print_parts : ℕ → Field (Counts × ℕ)
print_parts taken = counts taken & sum

-- ---- a state at a checkpoint: it is done and counted, the cancel isn't done, and the program isn't closed

abbrev pub plain_state : Kind → Counts → ℕ → ProgState
plain_state program c total = record {
  kind = program;
  first = c.first;
  second = c.second;
  rejects = c.rejects;
  entries = c.entries;
  checkpointed = true;
  cancelled = false;
  closed = false;
  sum = total;
}

abbrev pub matched_state : Kind → Counts → ArrayVec ℕ → ArrayVec ℕ → Option (List ℕ) → Option (ℕ × List ℕ) → MatchState
matched_state program c one other holding master = record {
  kind = program;
  first = c.first;
  second = c.second;
  rejects = c.rejects;
  entries = c.entries;
  checkpointed = true;
  cancelled = false;
  closed = false;
  first_key = one;
  second_key = other;
  held = holding;
  last = master;
}

abbrev pub plain_counts : ProgState → Counts
plain_counts s = record { first = s.first; second = s.second; rejects = s.rejects; entries = s.entries }

abbrev pub matched_counts : MatchState → Counts
matched_counts s = record { first = s.first; second = s.second; rejects = s.rejects; entries = s.entries }

-- ---- which states have a spelling, by the program

abbrev pub plain_fits : ℕ → ProgState → Kind → Type 0
plain_fits taken s Copy = (s ≡ plain_state Copy (plain_counts s) 0) × (counts taken).fits (plain_counts s)
plain_fits taken s Select = (s ≡ plain_state Select (plain_counts s) 0) × (counts taken).fits (plain_counts s)
plain_fits taken s Print = (s ≡ plain_state Print (plain_counts s) s.sum) × (print_parts taken).fits (plain_counts s, s.sum)
plain_fits taken s _ = ⊥

abbrev pub matched_fits : ℕ → MatchState → Kind → Type 0
matched_fits taken s Merge =
    (s ≡ matched_state Merge (matched_counts s) s.first_key s.second_key None None)
    × (merge_parts taken).fits (matched_counts s, (s.first_key, s.second_key))
matched_fits taken s Master =
    (s ≡ matched_state Master (matched_counts s) s.first_key s.second_key s.held None)
    × (master_parts taken).fits (matched_counts s, (s.first_key, (s.second_key, s.held)))
matched_fits taken s Update =
    (s ≡ matched_state Update (matched_counts s) s.first_key s.second_key None s.last)
    × (update_parts taken).fits (matched_counts s, (s.first_key, (s.second_key, s.last)))
matched_fits taken s _ = ⊥

abbrev pub state_fits : ℕ → State → Type 0
state_fits taken (Plain s) = plain_fits taken s s.kind
state_fits taken (Matched s) = matched_fits taken s s.kind

-- ---- the spelling: the kind, the counts, and what the kind has besides

abbrev pub plain_spell : ProgState → Kind → List ℕ
plain_spell s Copy = 1 ∷ (counts 0).spell (plain_counts s)
plain_spell s Select = 2 ∷ (counts 0).spell (plain_counts s)
plain_spell s Print = 6 ∷ (print_parts 0).spell (plain_counts s, s.sum)
plain_spell s _ = []

abbrev pub matched_spell : MatchState → Kind → List ℕ
matched_spell s Merge = 3 ∷ (merge_parts 0).spell (matched_counts s, (s.first_key, s.second_key))
matched_spell s Master = 4 ∷ (master_parts 0).spell (matched_counts s, (s.first_key, (s.second_key, s.held)))
matched_spell s Update = 5 ∷ (update_parts 0).spell (matched_counts s, (s.first_key, (s.second_key, s.last)))
matched_spell s _ = []

abbrev pub state_spell : State → List ℕ
state_spell (Plain s) = plain_spell s s.kind
state_spell (Matched s) = matched_spell s s.kind

-- ---- reading what stands behind the kind

unfoldable pub copy_at : ℕ → List ℕ → Reading State
copy_at taken = seen_at (λ c. Plain (plain_state Copy c 0)) (counts taken).read

unfoldable pub select_at : ℕ → List ℕ → Reading State
select_at taken = seen_at (λ c. Plain (plain_state Select c 0)) (counts taken).read

unfoldable pub merge_at : ℕ → List ℕ → Reading State
merge_at taken = seen_at (λ x. Matched (matched_state Merge x.0 x.1.0 x.1.1 None None)) (merge_parts taken).read

unfoldable pub master_at : ℕ → List ℕ → Reading State
master_at taken = seen_at (λ x. Matched (matched_state Master x.0 x.1.0 x.1.1.0 x.1.1.1 None)) (master_parts taken).read

unfoldable pub update_at : ℕ → List ℕ → Reading State
update_at taken = seen_at (λ x. Matched (matched_state Update x.0 x.1.0 x.1.1.0 None x.1.1.1)) (update_parts taken).read

unfoldable pub print_at : ℕ → List ℕ → Reading State
print_at taken = seen_at (λ x. Plain (plain_state Print x.0 x.1)) (print_parts taken).read

-- behind a kind, which is wrong itself where there is no such kind
unfoldable pub state_behind : ℕ → ℕ → ℕ → List ℕ → Reading State
state_behind taken kind left bytes =
    if kind == 1 then copy_at taken bytes
    else if kind == 2 then select_at taken bytes
    else if kind == 3 then merge_at taken bytes
    else if kind == 4 then master_at taken bytes
    else if kind == 5 then update_at taken bytes
    else if kind == 6 then print_at taken bytes
    else Err left

-- the state of a step that has taken so many records
unfoldable pub state_at : ℕ → List ℕ → Reading State
state_at taken bytes = byte_at bytes >>= λ kind. state_behind taken kind.0 (length bytes) kind.1

abbrev pub state : ℕ → Field State
state taken = record { fits = state_fits taken; spell = state_spell; read = state_at taken }
