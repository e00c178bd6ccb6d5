-- What an edit at a run's place makes of the entries.
use Rattle.std.proofs.Common.{◌≡◌, ◌<◌, ◌≤◌, ◌+◌, ℕ, suc, true, false, not, List, [], ◌∷◌, length, get_or, set, insert, remove, refl, ap, ◌∙◌, arith, cond}
use Rattle.std.specs.List.{position_or_len}
use Rattle.ckr_base.proofs.Numbers.{one-plus}
use Rattle.ckr_library.specs.Places.{lead}
use Rattle.ckr_queue.specs.declared.entry.QueueEntry.{QueueEntry}
use Rattle.ckr_queue.specs.declared.entry.QueueState.{QueueState}
use Rattle.ckr_queue.specs.Queue.{is_of, is_below, with_entry, with_state, without}

abbrev pub in_state : QueueState → QueueEntry → QueueEntry
in_state state entry = record entry { state = state }

pub with_state-set : (number : ℕ) (state : QueueState) (entries : List QueueEntry) (d : QueueEntry) → position_or_len (is_of number) entries < length entries → set entries (position_or_len (is_of number) entries) (in_state state (get_or entries (position_or_len (is_of number) entries) d)) ≡ with_state number state entries
with_state-set number state [] d inside = absurd (omega (arith, inside))
with_state-set number state (entry ∷ entries) d inside =
    elim (is_of number entry) as (λ b. cond (not b) (1 + (position_or_len (is_of number) entries)) 0 < suc (length entries) → set (entry ∷ entries) (cond (not b) (1 + (position_or_len (is_of number) entries)) 0) (in_state state (get_or (entry ∷ entries) (cond (not b) (1 + (position_or_len (is_of number) entries)) 0) d)) ≡ cond b (in_state state entry ∷ entries) (entry ∷ with_state number state entries)) [
      | true ↦ λ here. refl
      | false ↦ λ later.
          ap (λ i. set (entry ∷ entries) i (in_state state (get_or (entry ∷ entries) i d))) (one-plus (position_or_len (is_of number) entries))
          ∙ ap (λ rest. entry ∷ rest) (with_state-set number state entries d (omega (arith, later)))
    ] inside

pub with_state-absent : (number : ℕ) (state : QueueState) (entries : List QueueEntry) → length entries ≤ position_or_len (is_of number) entries → with_state number state entries ≡ entries
with_state-absent number state [] beyond = refl
with_state-absent number state (entry ∷ entries) beyond =
    elim (is_of number entry) as (λ b. suc (length entries) ≤ cond (not b) (1 + (position_or_len (is_of number) entries)) 0 → cond b (in_state state entry ∷ entries) (entry ∷ with_state number state entries) ≡ entry ∷ entries) [
      | true ↦ λ none. absurd (omega (arith, none))
      | false ↦ λ later. ap (λ rest. entry ∷ rest) (with_state-absent number state entries (omega (arith, later)))
    ] beyond

pub without-remove : (number : ℕ) (entries : List QueueEntry) → position_or_len (is_of number) entries < length entries → remove entries (position_or_len (is_of number) entries) ≡ without number entries
without-remove number [] inside = absurd (omega (arith, inside))
without-remove number (entry ∷ entries) inside =
    elim (is_of number entry) as (λ b. cond (not b) (1 + (position_or_len (is_of number) entries)) 0 < suc (length entries) → remove (entry ∷ entries) (cond (not b) (1 + (position_or_len (is_of number) entries)) 0) ≡ cond b entries (entry ∷ without number entries)) [
      | true ↦ λ here. refl
      | false ↦ λ later.
          ap (remove (entry ∷ entries)) (one-plus (position_or_len (is_of number) entries))
          ∙ ap (λ rest. entry ∷ rest) (without-remove number entries (omega (arith, later)))
    ] inside

pub without-absent : (number : ℕ) (entries : List QueueEntry) → length entries ≤ position_or_len (is_of number) entries → without number entries ≡ entries
without-absent number [] beyond = refl
without-absent number (entry ∷ entries) beyond =
    elim (is_of number entry) as (λ b. suc (length entries) ≤ cond (not b) (1 + (position_or_len (is_of number) entries)) 0 → cond b entries (entry ∷ without number entries) ≡ entry ∷ entries) [
      | true ↦ λ none. absurd (omega (arith, none))
      | false ↦ λ later. ap (λ rest. entry ∷ rest) (without-absent number entries (omega (arith, later)))
    ] beyond

pub with_entry-insert : (new : QueueEntry) (entries : List QueueEntry) → insert entries (lead (is_below new.number) entries) new ≡ with_entry new entries
with_entry-insert new [] = refl
with_entry-insert new (entry ∷ entries) =
    elim (is_below new.number entry) as (λ b. insert (entry ∷ entries) (cond b (suc (lead (is_below new.number) entries)) 0) new ≡ cond b (entry ∷ with_entry new entries) (new ∷ entry ∷ entries)) [
      | true ↦ ap (λ rest. entry ∷ rest) (with_entry-insert new entries)
      | false ↦ refl
    ]
