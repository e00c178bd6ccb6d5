-- The state in an entry has the form of its program's states, where the keys and the records that it holds are as their types have them.
use Rattle.std.proofs.Common.{◌≡◌, ◌≤◌, ◌<◌, ℕ, true, false, List, [], ◌∷◌, length, take, refl, ap, sym, ◌∙◌, subst, Option, Some, None, arith}
use Rattle.std.specs.Prelude.{◌-◌, ◌^◌, ◌&&◌, IfSome, IsTrue, nat_le, sum_by, take_while}
use Rattle.std.specs.List.{last_or}
use Rattle.std.specs.Option.{option_map}
use Rattle.std.proofs.lemmas.Bool.{and_from, false≢true}
use Rattle.std.proofs.lemmas.List.Sums.{sum_by-cons}
use Rattle.std.proofs.lemmas.Option.{same_Some}
use Rattle.arrayvec.specs.ArrayVec.{ArrayVec}
use Rattle.ckr_base.proofs.Numbers.{nat_le-from, nat_lt-from}
use Rattle.ckr_base.proofs.Options.{some-not-none}
use Rattle.ckr_entry.specs.declared.point.State.{State}
use Rattle.ckr_entry.specs.declared.point.State.TheVariants.{Plain, Matched}
use Rattle.ckr_entry.specs.Numbers.{given, given_fits}
use Rattle.ckr_entry.specs.States.{key, matched_counts, matched_state, placed, plain_counts, plain_state}
use Rattle.ckr_jcl.specs.declared.deck.Kind.{Kind}
use Rattle.ckr_jcl.specs.declared.deck.Kind.TheVariants.{Copy, Select, Merge, Master, Update, Print, Br14}
use Rattle.ckr_match.specs.declared.state.MatchState.{MatchState}
use Rattle.ckr_match.specs.InputOrder.{Taken, of_first}
use Rattle.ckr_match.specs.State.{has_two_inputs}
use Rattle.ckr_match.specs.Units.{first_taken, held_in, last_master}
use Rattle.ckr_match.specs.Work.{case_keys}
use Rattle.ckr_meaning.specs.Program.{ProgramCase, match_case, plain_case}
use Rattle.ckr_meaning.specs.States.{MatchStands, PlainStands, StandsFor}
use Rattle.ckr_programs.specs.declared.state.ProgState.{ProgState}
use Rattle.ckr_programs.specs.Records.{amount_of, can_take}
use Rattle.ckr_programs.specs.Work.{ProgCase, read_by, sum_of, taken_records}
use Rattle.ckr_steps.proofs.NextUnits.{taken_is}
use Rattle.ckr_desk_turn.specs.EntryForms.{IsMatchedOf, IsPlainOf, IsStateForm}
use Rattle.ckr_desk_turn.specs.EntryStates.{at_checkpoint}
use Rattle.ckr_desk_memory.specs.EntryTypes.{IsTyped, IsTypedMatch}

-- ---- a program of one input

sum-nothing : (f : List ℕ → ℕ) → ((bytes : List ℕ) → f bytes ≡ 0) → (records : List (List ℕ)) → sum_by f records ≡ 0
sum-nothing f none [] = refl
sum-nothing f none (first ∷ records) = let one : f first ≡ 0 = none first in let more : sum_by f records ≡ 0 = sum-nothing f none records in let both = sum_by-cons f first records in omega (arith, one, more, both)

nothing-taken : (case : ProgCase) → case.program ≡ Br14 → taken_records case ≡ []
unfolding taken_records
nothing-taken case is = ap (λ (kind : Kind). take_while (can_take case.program case.parm) (read_by kind case.input)) is

module _ (s : ProgState) (case : ProgramCase) (taken entries : ℕ) (stands : PlainStands s case taken) (some : 1 ≤ taken) where
  abbrev state_at : Kind → ℕ → ProgState
  state_at kind sum = plain_state kind (plain_counts (record s { entries = entries })) sum

  program-is : (kind : Kind) → s.kind ≡ kind → case.program ≡ kind
  program-is kind is = sym stands.stands.program ∙ is

  sum-is : (kind : Kind) → s.kind ≡ kind → ((bytes : List ℕ) → amount_of kind case.parm bytes ≡ 0) → s.sum ≡ 0
  sum-is kind is none =
      stands.stands.sum ∙ ap (λ (k : Kind). sum_of k case.parm (take taken (taken_records (plain_case case)))) (program-is kind is)
      ∙ sum-nothing (amount_of kind case.parm) none (take taken (taken_records (plain_case case)))

  never : {A : Type 0} (kind : Kind) → s.kind ≡ kind → has_two_inputs kind ≡ true → A
  never kind is two = absurd (false≢true (sym stands.program ∙ ap has_two_inputs (program-is kind is) ∙ two))

  with-kind : (kind : Kind) → s.kind ≡ kind → state_at s.kind s.sum ≡ state_at kind s.sum
  with-kind kind is = ap (λ (k : Kind). state_at k s.sum) is

  plain-of : (kind : Kind) → s.kind ≡ kind → IsPlainOf (state_at s.kind s.sum) kind
  plain-of Copy is = with-kind Copy is ∙ ap (state_at Copy) (sum-is Copy is (λ bytes. refl))
  plain-of Select is = with-kind Select is ∙ ap (state_at Select) (sum-is Select is (λ bytes. refl))
  plain-of Print is = with-kind Print is
  plain-of Merge is = never Merge is refl
  plain-of Master is = never Master is refl
  plain-of Update is = never Update is refl
  plain-of Br14 is =
      let within : taken ≤ length (taken_records (plain_case case)) = stands.stands.within in
      let none : length (taken_records (plain_case case)) ≡ 0 = ap length (nothing-taken (plain_case case) (program-is Br14 is)) in
      absurd (let no : ⊥ = omega (arith, within, none, some) in no)

-- ---- a program of two inputs

short-so : (most n : ℕ) → n ≤ most → (nat_le 0 n && nat_le n most) ≡ true
short-so most n few = and_from (nat_le 0 n) (nat_le n most) (nat_le-from 0 n (omega arith)) (nat_le-from n most few)

key-fits : (its : ArrayVec ℕ) → length its.items ≤ 32 → key.fits its
key-fits its few = ((omega (arith, few), short-so 32 (length its.items) few), refl)

-- a record, behind a length of two bytes
abbrev IsRecord : List ℕ → Type 0
IsRecord bytes = ((length bytes < 2 ^ 16) × IsTrue (nat_le 0 (length bytes) && nat_le (length bytes) 256)) × IsTrue true

record-fits : (bytes : List ℕ) → length bytes ≤ 256 → IsRecord bytes
record-fits bytes few = ((omega (arith, few), short-so 256 (length bytes) few), refl)

last-below : (kind : Kind) (records : List Taken) (at : ℕ × List ℕ) → last_master kind records ≡ Some at → at.0 < length (of_first records)
last-below Update records at is = by (of_first records) is
  where
    by : (firsts : List Taken) → option_map (λ (one : Taken). (length firsts - 1, one.bytes)) (last_or None firsts) ≡ Some at → at.0 < length firsts
    by [] e = absurd (some-not-none at (sym e))
    by (first ∷ firsts) e = place (last_or None (first ∷ firsts)) e
      where
        place : (last : Option Taken) → option_map (λ (one : Taken). (length (first ∷ firsts) - 1, one.bytes)) last ≡ Some at → at.0 < length (first ∷ firsts)
        place None e = absurd (some-not-none at (sym e))
        place (Some one) e = let same : length (first ∷ firsts) - 1 ≡ at.0 = ap (λ (pair : ℕ × List ℕ). pair.0) (same_Some _ at e) in omega (arith, same)
last-below _ records at is = absurd (some-not-none at (sym is))

module _ (s : MatchState) (case : ProgramCase) (taken entries : ℕ) (stands : MatchStands s case taken) where
  abbrev state_of : Kind → Option (List ℕ) → Option (ℕ × List ℕ) → MatchState
  state_of kind held last = matched_state kind (matched_counts (record s { entries = entries })) s.first_key s.second_key held last

  kind-is : (kind : Kind) → s.kind ≡ kind → case.program ≡ kind
  kind-is kind is = sym stands.stands.program ∙ is

  held-is : (kind : Kind) → s.kind ≡ kind → s.held ≡ held_in kind (case_keys (match_case case)) (first_taken (match_case case) taken)
  held-is kind is = stands.stands.held ∙ ap (λ (k : Kind). held_in k (case_keys (match_case case)) (first_taken (match_case case) taken)) (kind-is kind is)

  last-is : (kind : Kind) → s.kind ≡ kind → s.last ≡ last_master kind (first_taken (match_case case) taken)
  last-is kind is = stands.stands.last ∙ ap (λ (k : Kind). last_master k (first_taken (match_case case) taken)) (kind-is kind is)

  none-of : {A : Type 0} (kind : Kind) → s.kind ≡ kind → has_two_inputs kind ≡ false → A
  none-of kind is one = absurd (false≢true (sym one ∙ sym (ap has_two_inputs (kind-is kind is)) ∙ stands.program))

  matched-of : (kind : Kind) → s.kind ≡ kind → IsMatchedOf (state_of s.kind s.held s.last) kind
  matched-of Merge is =
      ap (λ (k : Kind). state_of k s.held s.last) is ∙ ap (λ (held : Option (List ℕ)). state_of Merge held s.last) (held-is Merge is) ∙ ap (state_of Merge None) (last-is Merge is)
  matched-of Master is = ap (λ (k : Kind). state_of k s.held s.last) is ∙ ap (state_of Master s.held) (last-is Master is)
  matched-of Update is = ap (λ (k : Kind). state_of k s.held s.last) is ∙ ap (λ (held : Option (List ℕ)). state_of Update held s.last) (held-is Update is)
  matched-of Copy is = none-of Copy is refl
  matched-of Select is = none-of Select is refl
  matched-of Print is = none-of Print is refl
  matched-of Br14 is = none-of Br14 is refl

  last-fits : IsTypedMatch s → (given (placed s.first)).fits s.last
  last-fits typed = by s.last refl typed.last
    where
      by : (last : Option (ℕ × List ℕ)) → s.last ≡ last → IfSome last (λ at. (at.0 < 2 ^ 32) × (length at.1 ≤ 256)) → (given (placed s.first)).fits last
      by None is its = tt
      by (Some at) is its =
          let below : at.0 < length (of_first (first_taken (match_case case) taken)) = last-below case.program (first_taken (match_case case) taken) at (sym stands.stands.last ∙ is) in
          ((its.0, nat_lt-from at.0 s.first (subst (λ n. at.0 < n) (sym stands.stands.first) below)), record-fits at.1 its.1)

  held-fits : IsTypedMatch s → given_fits IsRecord s.held
  held-fits typed = by s.held typed.held
    where
      by : (held : Option (List ℕ)) → IfSome held (λ bytes. length bytes ≤ 256) → given_fits IsRecord held
      by None its = tt
      by (Some bytes) its = record-fits bytes its

-- ---- the form

pub state-form : (state : State) (case : ProgramCase) (taken entries : ℕ) → StandsFor state case taken → IsTyped state → 1 ≤ taken → 1 ≤ entries → IsStateForm taken (at_checkpoint entries state)
state-form (Plain s) case taken entries stands typed some counted = record {
  form = plain-of s case taken entries stands some s.kind refl;
  all = taken_is (Plain s) case taken stands;
  counted = counted;
}
state-form (Matched s) case taken entries stands typed some counted = record {
  form = matched-of s case taken entries stands s.kind refl;
  all = taken_is (Matched s) case taken stands;
  counted = counted;
  first_key = key-fits s.first_key typed.first_key;
  second_key = key-fits s.second_key typed.second_key;
  held = held-fits s case taken entries stands typed;
  last = last-fits s case taken entries stands typed;
}
