-- Which entries have a spelling: their numbers are in the ranges that a checkpoint asks for.
use Rattle.std.proofs.Common.{◌≡◌, ◌≤◌, ◌^◌, ℕ, true, ◌&&◌, ap, arith, ◌<◌, ◌+◌}
use Rattle.std.specs.Prelude.{min, nat_le, nat_lt, ◌==◌}
use Rattle.std.proofs.lemmas.Bool.{and_from}
use Rattle.ckr_base.proofs.Bools.{and-first, and-second}
use Rattle.ckr_base.proofs.Numbers.{equal-from, nat_le-from, nat_le-true, nat_lt-true}
use Rattle.ckr_entry.specs.declared.point.State.{State}
use Rattle.ckr_entry.specs.declared.point.State.TheVariants.{Plain, Matched}
use Rattle.ckr_entry.specs.Entry.{IsEntry}
use Rattle.ckr_entry.specs.Parts.{Entry}
use Rattle.ckr_entry.specs.States.{count_parts, matched_fits, plain_fits, state_fits}
use Rattle.ckr_jcl.specs.declared.deck.Kind.{Kind}
use Rattle.ckr_jcl.specs.declared.deck.Kind.TheVariants.{Copy, Select, Merge, Master, Update, Print, Br14}
use Rattle.ckr_match.specs.declared.state.MatchState.{MatchState}
use Rattle.ckr_programs.specs.declared.state.ProgState.{ProgState}
use Rattle.ckr_desk_turn.specs.Checkpoints.{are_counts_in_range, is_in_range, is_state_in_range}
use Rattle.ckr_desk_turn.specs.EntryForms.{IsEntryForm, IsMatchedForm, IsMatchedOf, IsPlainOf, IsStateForm}

counts-range : (taken first second rejects entries : ℕ) → (count_parts taken).fits ((first, second), (rejects, entries)) → are_counts_in_range first second rejects entries ≡ true
counts-range taken first second rejects entries fits =
    let few : first ≤ min taken 1000000 = nat_le-true first (min taken 1000000) (and-second (nat_le 0 first) (nat_le first (min taken 1000000)) fits.0.0.1) in
    and_from (nat_le first 1000000 && nat_le second 1000000 && nat_le rejects 1000000) (nat_le entries 1000000)
    (and_from (nat_le first 1000000 && nat_le second 1000000) (nat_le rejects 1000000)
    (and_from (nat_le first 1000000) (nat_le second 1000000) (nat_le-from first 1000000 (omega arith)) (and-first (nat_le second 1000000) _ fits.0.1.1))
    (and-second (nat_le 0 rejects) (nat_le rejects 1000000) fits.1.0.1))
    (and-second (nat_le 1 entries) (nat_le entries 1000000) fits.1.1.1)

plain-range : (taken : ℕ) (state : ProgState) (program : Kind) → plain_fits taken state program → is_state_in_range (Plain state) ≡ true
plain-range taken state Copy fits =
    and_from (are_counts_in_range state.first state.second state.rejects state.entries) (nat_lt state.sum (10 ^ 21)) (counts-range taken state.first state.second state.rejects state.entries fits.1)
    (ap (λ (s : ProgState). nat_lt s.sum (10 ^ 21)) fits.0)
plain-range taken state Select fits =
    and_from (are_counts_in_range state.first state.second state.rejects state.entries) (nat_lt state.sum (10 ^ 21)) (counts-range taken state.first state.second state.rejects state.entries fits.1)
    (ap (λ (s : ProgState). nat_lt s.sum (10 ^ 21)) fits.0)
plain-range taken state Print fits =
    and_from (are_counts_in_range state.first state.second state.rejects state.entries) (nat_lt state.sum (10 ^ 21)) (counts-range taken state.first state.second state.rejects state.entries fits.1.0) fits.1.1.1
plain-range taken state Merge fits = absurd fits
plain-range taken state Master fits = absurd fits
plain-range taken state Update fits = absurd fits
plain-range taken state Br14 fits = absurd fits

matched-range : (taken : ℕ) (state : MatchState) (program : Kind) → matched_fits taken state program → is_state_in_range (Matched state) ≡ true
matched-range taken state Merge fits = counts-range taken state.first state.second state.rejects state.entries fits.1.0
matched-range taken state Master fits = counts-range taken state.first state.second state.rejects state.entries fits.1.0
matched-range taken state Update fits = counts-range taken state.first state.second state.rejects state.entries fits.1.0
matched-range taken state Copy fits = absurd fits
matched-range taken state Select fits = absurd fits
matched-range taken state Print fits = absurd fits
matched-range taken state Br14 fits = absurd fits

state-range : (taken : ℕ) (state : State) → state_fits taken state → is_state_in_range state ≡ true
state-range taken (Plain state) fits = plain-range taken state state.kind fits
state-range taken (Matched state) fits = matched-range taken state state.kind fits

-- an entry whose numbers are out of their ranges has no spelling
pub entry-range : (e : Entry) → IsEntry e → is_in_range e ≡ true
entry-range e is =
    and_from (nat_le e.count 9999999 && nat_le e.writes 3000000) (is_state_in_range e.state)
    (and_from (nat_le e.count 9999999) (nat_le e.writes 3000000)
    (and-second (nat_le 1 e.count) (nat_le e.count 9999999) is.0.1.1.1.1.1.1.0.1)
    (and-second (nat_le 0 e.writes) (nat_le e.writes 3000000) is.0.1.1.1.1.1.1.1.1.1))
    (state-range e.taken e.state is.1.0)

-- ---- and one in its ranges has one, where its parts are such as their types have them

small : (n : ℕ) → n ≤ 9999999 → n < 2 ^ 32
small n le = omega arith

counts-fit : (taken first second rejects entries : ℕ) → are_counts_in_range first second rejects entries ≡ true → first + second ≡ taken → 1 ≤ entries → (count_parts taken).fits ((first, second), (rejects, entries))
counts-fit taken first second rejects entries range all counted =
    let three : (nat_le first 1000000 && nat_le second 1000000 && nat_le rejects 1000000) ≡ true = and-first _ (nat_le entries 1000000) range in
    let two : (nat_le first 1000000 && nat_le second 1000000) ≡ true = and-first _ (nat_le rejects 1000000) three in
    let one : first ≤ 1000000 = nat_le-true first 1000000 (and-first (nat_le first 1000000) (nat_le second 1000000) two) in
    let other : second ≤ 1000000 = nat_le-true second 1000000 (and-second (nat_le first 1000000) (nat_le second 1000000) two) in
    let few : rejects ≤ 1000000 = nat_le-true rejects 1000000 (and-second (nat_le first 1000000 && nat_le second 1000000) (nat_le rejects 1000000) three) in
    let written : entries ≤ 1000000 = nat_le-true entries 1000000 (and-second (nat_le first 1000000 && nat_le second 1000000 && nat_le rejects 1000000) (nat_le entries 1000000) range) in
    let least : first ≤ min taken 1000000 = omega arith in (
      (
        (small first (omega arith), and_from (nat_le 0 first) (nat_le first (min taken 1000000)) (nat_le-from 0 first (omega arith)) (nat_le-from first (min taken 1000000) least)),
        (small second (omega arith), and_from (nat_le second 1000000) (first + second == taken) (nat_le-from second 1000000 other) (equal-from (first + second) taken all)),
      ),
      (
        (small rejects (omega arith), and_from (nat_le 0 rejects) (nat_le rejects 1000000) (nat_le-from 0 rejects (omega arith)) (nat_le-from rejects 1000000 few)),
        (small entries (omega arith), and_from (nat_le 1 entries) (nat_le entries 1000000) (nat_le-from 1 entries counted) (nat_le-from entries 1000000 written)),
      ),
    )

sum-fits : (n : ℕ) → nat_lt n (10 ^ 21) ≡ true → n < 2 ^ 128
sum-fits n below = let less : n < 10 ^ 21 = nat_lt-true n (10 ^ 21) below in omega arith

plain-fit : (taken : ℕ) (state : ProgState) (program : Kind) → IsPlainOf state program → is_state_in_range (Plain state) ≡ true → state.first + state.second ≡ taken → 1 ≤ state.entries → plain_fits taken state program
plain-fit taken state Copy form range all counted = (form, counts-fit taken state.first state.second state.rejects state.entries (and-first _ (nat_lt state.sum (10 ^ 21)) range) all counted)
plain-fit taken state Select form range all counted = (form, counts-fit taken state.first state.second state.rejects state.entries (and-first _ (nat_lt state.sum (10 ^ 21)) range) all counted)
plain-fit taken state Print form range all counted =
    let below : nat_lt state.sum (10 ^ 21) ≡ true = and-second (are_counts_in_range state.first state.second state.rejects state.entries) (nat_lt state.sum (10 ^ 21)) range in
    (form, (counts-fit taken state.first state.second state.rejects state.entries (and-first _ (nat_lt state.sum (10 ^ 21)) range) all counted, (sum-fits state.sum below, below)))
plain-fit taken state Merge form range all counted = absurd form
plain-fit taken state Master form range all counted = absurd form
plain-fit taken state Update form range all counted = absurd form
plain-fit taken state Br14 form range all counted = absurd form

matched-fit : (taken : ℕ) (state : MatchState) (program : Kind) → IsMatchedOf state program → is_state_in_range (Matched state) ≡ true → IsMatchedForm taken state → matched_fits taken state program
matched-fit taken state Merge form range is = (form, (counts-fit taken state.first state.second state.rejects state.entries range is.all is.counted, (is.first_key, is.second_key)))
matched-fit taken state Master form range is = (form, (counts-fit taken state.first state.second state.rejects state.entries range is.all is.counted, (is.first_key, (is.second_key, is.held))))
matched-fit taken state Update form range is = (form, (counts-fit taken state.first state.second state.rejects state.entries range is.all is.counted, (is.first_key, (is.second_key, is.last))))
matched-fit taken state Copy form range is = absurd form
matched-fit taken state Select form range is = absurd form
matched-fit taken state Print form range is = absurd form
matched-fit taken state Br14 form range is = absurd form

state-fits : (taken : ℕ) (state : State) → IsStateForm taken state → is_state_in_range state ≡ true → state_fits taken state
state-fits taken (Plain state) is range = plain-fit taken state state.kind is.form range is.all is.counted
state-fits taken (Matched state) is range = matched-fit taken state state.kind is.form range is

pub range-entry : (e : Entry) → IsEntryForm e → is_in_range e ≡ true → IsEntry e
range-entry e is range =
    let counts : (nat_le e.count 9999999 && nat_le e.writes 3000000) ≡ true = and-first _ (is_state_in_range e.state) range in
    let count : e.count ≤ 9999999 = nat_le-true e.count 9999999 (and-first (nat_le e.count 9999999) (nat_le e.writes 3000000) counts) in
    let writes : e.writes ≤ 3000000 = nat_le-true e.writes 3000000 (and-second (nat_le e.count 9999999) (nat_le e.writes 3000000) counts) in (
      (
        is.id,
        (
          is.job,
          (
            is.run,
            (
              is.owner,
              (
                is.step,
                (
                  is.step_name,
                  (
                    (small e.count count, and_from (nat_le 1 e.count) (nat_le e.count 9999999) (nat_le-from 1 e.count is.counted) (nat_le-from e.count 9999999 count)),
                    (is.taken, (small e.writes (omega arith), and_from (nat_le 0 e.writes) (nat_le e.writes 3000000) (nat_le-from 0 e.writes (omega arith)) (nat_le-from e.writes 3000000 writes))),
                  ),
                ),
              ),
            ),
          ),
        ),
      ),
      (state-fits e.taken e.state is.stands (and-second (nat_le e.count 9999999 && nat_le e.writes 3000000) (is_state_in_range e.state) range), (is.marked, is.passed_on)),
    )
