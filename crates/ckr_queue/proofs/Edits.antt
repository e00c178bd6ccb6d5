-- What each call makes of the queue.
use Rattle.std.proofs.Common.{◌≡◌, ◌<◌, ℕ, IsTrue, List, length, get_or, set, insert, remove, ap, sym, ◌∙◌, subst, None, Some}
use Rattle.std.specs.List.{position_or_len, position}
use Rattle.ckr_base.proofs.Sequences.{position-none, position-some}
use Rattle.ckr_library.specs.Places.{lead}
use Rattle.ckr_queue.specs.declared.entry.QueueEntry.{QueueEntry}
use Rattle.ckr_queue.specs.declared.entry.QueueState.{QueueState}
use Rattle.ckr_queue.specs.Queue.{is_of, is_below, rises, state_of, with_entry, with_state, without}
use Rattle.ckr_queue.proofs.Places.{in_state, with_state-set, with_state-absent, without-remove, without-absent, with_entry-insert}
use Rattle.ckr_queue.proofs.Order.{rises-with_state, rises-without, rises-with_entry}

abbrev pub Becomes : List QueueEntry → List QueueEntry → Type 0
Becomes after now = IsTrue (rises after) × (after ≡ now)

-- the entries of a queue that is seen so
module _ (items self : List QueueEntry) (rise : IsTrue (rises items)) (seen : items ≡ self) (number : ℕ) where
  becomes : (after now : List QueueEntry) → after ≡ now → IsTrue (rises now) → Becomes after now
  becomes after now same up = (subst (λ es. IsTrue (rises es)) (sym same) up, same)

  -- the run at its place goes into another state
  pub changed : (state : QueueState) (place : ℕ) (old : QueueEntry) (after : List QueueEntry) → Some place ≡ position (is_of number) items → old ≡ get_or items place old → after ≡ set items place (in_state state old) → Becomes after (with_state number state self)
  changed state place old after found at edit =
      let there = position-some (is_of number) items place found in
      let inside : position_or_len (is_of number) items < length items = subst (λ i. i < length items) there.0 there.1 in
      let here : old ≡ get_or items (position_or_len (is_of number) items) old = subst (λ i. old ≡ get_or items i old) there.0 at in
      becomes after (with_state number state self)
      (
      edit ∙ ap (λ i. set items i (in_state state old)) there.0 ∙ ap (λ e. set items (position_or_len (is_of number) items) (in_state state e)) here
      ∙ with_state-set number state items old inside ∙ ap (with_state number state) seen
      )
      (subst (λ es. IsTrue (rises (with_state number state es))) seen (rises-with_state number state items ∙ rise))

  pub changed_none : (state : QueueState) → None ≡ position (is_of number) items → self ≡ with_state number state self
  changed_none state none = sym seen ∙ sym (with_state-absent number state items (position-none (is_of number) items none)) ∙ ap (with_state number state) seen

  -- the run at its place is taken out
  pub removed : (place : ℕ) (after : List QueueEntry) → Some place ≡ position (is_of number) items → after ≡ remove items place → Becomes after (without number self)
  removed place after found edit =
      let there = position-some (is_of number) items place found in
      let inside : position_or_len (is_of number) items < length items = subst (λ i. i < length items) there.0 there.1 in
      becomes after (without number self) (edit ∙ ap (remove items) there.0 ∙ without-remove number items inside ∙ ap (without number) seen) (subst (λ es. IsTrue (rises (without number es))) seen (rises-without number items rise))

  pub removed_none : None ≡ position (is_of number) items → self ≡ without number self
  removed_none none = sym seen ∙ sym (without-absent number items (position-none (is_of number) items none)) ∙ ap (without number) seen

-- a new run at its place
pub inserted : (items self : List QueueEntry) → IsTrue (rises items) → items ≡ self → (new : QueueEntry) (place : ℕ) (after : List QueueEntry) → place ≡ lead (is_below new.number) items → after ≡ insert items place new → state_of new.number self ≡ None → Becomes after (with_entry new self)
inserted items self rise seen new place after at edit none =
    let same : after ≡ with_entry new self = edit ∙ ap (λ i. insert items i new) at ∙ with_entry-insert new items ∙ ap (with_entry new) seen in
    (subst (λ es. IsTrue (rises es)) (sym same) (rises-with_entry new self none (subst (λ es. IsTrue (rises es)) seen rise)), same)
