-- What becomes of the queue of the tables' runs where one of them changes its state, or one more comes.
use Rattle.std.proofs.Common.{◌≡◌, ◌+◌, ℕ, zero, suc, true, false, List, [], ◌∷◌, ◌++◌, refl, ap, ap₂, sym, ◌∙◌, subst, cond, Option, None, Some, arith, ◌==◌, nat_lt, slice_get, slice_set, length}
use Rattle.std.specs.List.{filter_map, cons_option}
use Rattle.std.specs.Option.{option_map}
use Rattle.std.proofs.lemmas.Bool.Decides.{nat_tests}
use Rattle.std.proofs.lemmas.Option.{same_Some}
use Rattle.ckr_jcl.specs.declared.deck.Job.{Job}
use Rattle.ckr_uses.specs.Uses.{uses_of}
use Rattle.ckr_queue.specs.declared.entry.QueueEntry.{QueueEntry}
use Rattle.ckr_queue.specs.declared.entry.QueueState.{QueueState}
use Rattle.ckr_queue.specs.Queue.{queued, with_entry, with_state, without}
use Rattle.ckr_points.specs.Tables.{queued_run}
use Rattle.ckr_points.specs.Rows.{RunRow}
use Rattle.ckr_desk_turn.specs.Queue.{entry_with, entry_of, queue_state, AreNumbered}

-- the entries of runs with one more before them
abbrev pub joined : Option QueueState → RunRow → List QueueEntry → List QueueEntry
joined state row entries = cons_option (option_map (entry_with row) state) entries

pub first_in : (row : RunRow) (rows : List RunRow) (state : Option QueueState) → queue_state row.state ≡ state → filter_map entry_of (row ∷ rows) ≡ joined state row (filter_map entry_of rows)
first_in row rows state is = ap (λ (s : Option QueueState). joined s row (filter_map entry_of rows)) is

-- a run of another number stays as it is
passed_by : (n : ℕ) (to : QueueState) (row : RunRow) (state : Option QueueState) (entries : List QueueEntry) → (row.number == n) ≡ false
    → with_state n to (joined state row entries) ≡ joined state row (with_state n to entries)
passed_by n to row None entries other = refl
passed_by n to row (Some state) entries other =
    ap (λ b. cond b (record (entry_with row state) { state = to } ∷ entries) (entry_with row state ∷ with_state n to entries)) other

kept_by : (n : ℕ) (row : RunRow) (state : Option QueueState) (entries : List QueueEntry) → (row.number == n) ≡ false
    → without n (joined state row entries) ≡ joined state row (without n entries)
kept_by n row None entries other = refl
kept_by n row (Some state) entries other = ap (λ b. cond b entries (entry_with row state ∷ without n entries)) other

-- a run as the queue has it: its number and its deck
abbrev same_entry : RunRow → ℕ → Job → QueueState → QueueEntry
same_entry row number deck state = record { number = number; state = state; uses = uses_of number deck }

renewed : (row new : RunRow) (state : QueueState) → new.number ≡ row.number → new.deck ≡ row.deck → entry_with new state ≡ entry_with row state
renewed row new state number deck = ap₂ (λ n d. same_entry row n d state) number deck

abbrev is_at : List RunRow → ℕ → RunRow → Type 0
is_at rows place row = slice_get rows place ≡ Some row

pub other_number : (from place : ℕ) (row : RunRow) (n : ℕ) → row.number ≡ from → n ≡ suc (from + place) → (row.number == n) ≡ false
other_number from place row n is place_is = grind (arith, nat_tests, is, place_is)

pub own_number : (row : RunRow) (n : ℕ) → row.number ≡ n → (row.number == n) ≡ true
own_number row n is = grind (arith, nat_tests, is)

-- a run changes its state within the queue
pub moved : (rows : List RunRow) (from place : ℕ) (row new : RunRow) (before to : QueueState) → AreNumbered from rows → is_at rows place row
    → new.number ≡ row.number → new.deck ≡ row.deck → queue_state row.state ≡ Some before → queue_state new.state ≡ Some to
    → filter_map entry_of (slice_set rows place new) ≡ with_state (from + place) to (filter_map entry_of rows)
moved [] from place row new before to numbered at number deck was is = cc
moved (first ∷ rows) from zero row new before to numbered at number deck was is =
    let same = same_Some _ _ at in
    first_in new rows (Some to) is
    ∙ ap (λ (e : QueueEntry). e ∷ filter_map entry_of rows) (renewed first new to (number ∙ ap (λ (r : RunRow). r.number) (sym same)) (deck ∙ ap (λ (r : RunRow). r.deck) (sym same)))
    ∙ sym (ap (with_state (from + zero) to) (first_in first rows (Some before) (ap (λ (r : RunRow). queue_state r.state) same ∙ was))
    ∙ ap (λ b. cond b (entry_with first to ∷ filter_map entry_of rows) (entry_with first before ∷ with_state (from + zero) to (filter_map entry_of rows))) (own_number first (from + zero) (omega (arith, numbered.0))))
moved (first ∷ rows) from (suc place) row new before to numbered at number deck was is =
    ap (λ entries. joined (queue_state first.state) first entries) (moved rows (suc from) place row new before to numbered.1 at number deck was is)
    ∙ ap (λ n. joined (queue_state first.state) first (with_state n to (filter_map entry_of rows))) (omega arith)
    ∙ sym (passed_by (from + suc place) to first (queue_state first.state) (filter_map entry_of rows) (other_number from place first (from + suc place) numbered.0 (omega arith)))

-- a run leaves the queue
pub left : (rows : List RunRow) (from place : ℕ) (row new : RunRow) (before : QueueState) → AreNumbered from rows → is_at rows place row
    → queue_state row.state ≡ Some before → queue_state new.state ≡ None
    → filter_map entry_of (slice_set rows place new) ≡ without (from + place) (filter_map entry_of rows)
left [] from place row new before numbered at was is = cc
left (first ∷ rows) from zero row new before numbered at was is =
    let same = same_Some _ _ at in
    first_in new rows None is
    ∙ sym (ap (without (from + zero)) (first_in first rows (Some before) (ap (λ (r : RunRow). queue_state r.state) same ∙ was))
    ∙ ap (λ b. cond b (filter_map entry_of rows) (entry_with first before ∷ without (from + zero) (filter_map entry_of rows))) (own_number first (from + zero) (omega (arith, numbered.0))))
left (first ∷ rows) from (suc place) row new before numbered at was is =
    ap (λ entries. joined (queue_state first.state) first entries) (left rows (suc from) place row new before numbered.1 at was is)
    ∙ ap (λ n. joined (queue_state first.state) first (without n (filter_map entry_of rows))) (omega arith)
    ∙ sym (kept_by (from + suc place) first (queue_state first.state) (filter_map entry_of rows) (other_number from place first (from + suc place) numbered.0 (omega arith)))

-- a run keeps its state
pub stayed : (rows : List RunRow) (place : ℕ) (row new : RunRow) → is_at rows place row → new.number ≡ row.number → new.deck ≡ row.deck → queue_state new.state ≡ queue_state row.state
    → filter_map entry_of (slice_set rows place new) ≡ filter_map entry_of rows
stayed [] place row new at number deck is = cc
stayed (first ∷ rows) zero row new at number deck is =
    let same = same_Some _ _ at in
    first_in new rows (queue_state first.state) (is ∙ ap (λ (r : RunRow). queue_state r.state) (sym same))
    ∙ elim (queue_state first.state) as (λ s. joined s new (filter_map entry_of rows) ≡ joined s first (filter_map entry_of rows)) [
      | None ↦ refl
      | Some state ↦ ap (λ (e : QueueEntry). e ∷ filter_map entry_of rows) (renewed first new state (number ∙ ap (λ (r : RunRow). r.number) (sym same)) (deck ∙ ap (λ (r : RunRow). r.deck) (sym same)))
    ]
stayed (first ∷ rows) (suc place) row new at number deck is =
    ap (λ entries. joined (queue_state first.state) first entries) (stayed rows place row new at number deck is)

beneath : (new : QueueEntry) (row : RunRow) (state : Option QueueState) (entries : List QueueEntry) → nat_lt row.number new.number ≡ true
    → with_entry new (joined state row entries) ≡ joined state row (with_entry new entries)
beneath new row None entries below = refl
beneath new row (Some state) entries below =
    ap (λ b. cond b (entry_with row state ∷ with_entry new entries) (new ∷ entry_with row state ∷ entries)) below

-- one more run is queued
pub added : (rows : List RunRow) (from : ℕ) (deck : Job) → AreNumbered from rows
    → filter_map entry_of (rows ++ queued_run (from + length rows) deck ∷ []) ≡ with_entry (queued (from + length rows) (uses_of (from + length rows) deck)) (filter_map entry_of rows)
added [] from deck numbered = refl
added (first ∷ rows) from deck numbered =
    ap (λ entries. joined (queue_state first.state) first entries)
    (subst (λ n. filter_map entry_of (rows ++ queued_run n deck ∷ []) ≡ with_entry (queued n (uses_of n deck)) (filter_map entry_of rows)) (omega arith) (added rows (suc from) deck numbered.1))
    ∙ sym (beneath (queued (from + suc (length rows)) (uses_of (from + suc (length rows)) deck)) first (queue_state first.state) (filter_map entry_of rows) (grind (arith, nat_tests, numbered.0)))
