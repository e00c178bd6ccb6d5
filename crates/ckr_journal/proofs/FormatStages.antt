-- What a stop within the formatting of a disk leaves, stage by stage.
use Rattle.std.proofs.Common.{ℕ, [], ◌∷◌, ◌++◌, List, inl, inr, subst}
use Rattle.ckr_outside.specs.Disk.{Overwrites, SameOutside, StemsFrom, Only, EachSince}
use Rattle.ckr_outside.specs.Moments.{started, and_then, in_other_words}
use Rattle.ckr_outside.specs.Ranges.{same_outside_itself}
use Rattle.ckr_volumes.specs.declared.layout.Layout.{Layout}
use Rattle.ckr_journal.specs.FormatStops.{IsOldOrFresh}
use Rattle.ckr_journal.proofs.FreshDisks.{HeaderSays, fields_of, closed_gate, gate_changed}

module _ {D : Type 0} (told : Type 0) (content : D → List ℕ) (may_leave : D → List ℕ → Type 0) (moment : D → ℕ) (left_since : D → ℕ → List ℕ → Type 0)
    (size : ℕ) (layout : Layout) (old : D) where
  abbrev Since : D → Type 0
  Since new = EachSince moment left_since old new (IsOldOrFresh (may_leave old) size layout)

  -- nothing is done yet
  pub not_begun : ((image : List ℕ) → left_since old (moment old) image → may_leave old image) → Since old
  not_begun only_now = started moment left_since old (IsOldOrFresh (may_leave old) size layout) (λ image left. inl (image, only_now image left, same_outside_itself 0 1 image))

  module _ (shut : D) (shutting : EachSince moment left_since old shut (StemsFrom (may_leave old) 0 1)) where
    -- the gate is being closed
    pub closing : Since shut
    closing = in_other_words moment left_since old shut (StemsFrom (may_leave old) 0 1) (IsOldOrFresh (may_leave old) size layout) shutting (λ image stems. inl stems)

    module _ (tells : (disk : D) (image : List ℕ) → may_leave disk image → told) (shut_settled : Only (content shut) (may_leave shut)) (closed : told → Overwrites 0 (0 ∷ []) (content old) (content shut))
        (staged : D) (staging : EachSince moment left_since shut staged (StemsFrom (may_leave shut) 1 512)) where
      -- what stands behind it is being written
      pub filling : Since staged
      filling =
          and_then moment left_since old shut staged (IsOldOrFresh (may_leave old) size layout) (StemsFrom (may_leave shut) 1 512) (IsOldOrFresh (may_leave old) size layout) closing staging (λ image has. has)
          (λ image stems.
          inr (inl (closed_gate (content old) (content shut) image size (closed (tells shut stems.0 stems.1))
          (subst (λ (l : List ℕ). SameOutside 1 512 l image) (shut_settled stems.0 stems.1) stems.2))))

      module _ (settled : Only (content staged) (may_leave staged)) (says : HeaderSays layout size)
          (written : told → Overwrites 1 (fields_of layout ++ 0 ∷ []) (content shut) (content staged)) where
        -- the gate is being opened
        pub opening : (new : D) → EachSince moment left_since staged new (StemsFrom (may_leave staged) 0 1) → Since new
        opening new since =
            and_then moment left_since old staged new (IsOldOrFresh (may_leave old) size layout) (StemsFrom (may_leave staged) 0 1) (IsOldOrFresh (may_leave old) size layout) filling since (λ image has. has)
            (λ image stems. let is_told = tells staged stems.0 stems.1 in
            inr (gate_changed layout size says (content old) (content shut) (content staged) (closed is_told) (written is_told) image
            (subst (λ (l : List ℕ). SameOutside 0 1 l image) (settled stems.0 stems.1) stems.2)))
