-- What a step updates, by the number of its rewrites.
use Rattle.std.proofs.Common.{◌≡◌, ℕ, zero, suc, ◌+◌, Bool, true, false, cond, not, ◌&&◌, if◌then◌else◌, List, [], ◌∷◌, ◌++◌, take, drop, length, refl, ap, sym, ◌∙◌, Some, arith}
use Rattle.std.specs.Prelude.{◌==◌}
use Rattle.std.specs.List.{list_all}
use Rattle.std.specs.Option.{option_map, is_some}
use Rattle.std.proofs.lemmas.Bool.{false≢true}
use Rattle.ckr_base.specs.declared.programs.Output.{Output}
use Rattle.ckr_base.specs.declared.programs.Output.TheVariants.{Main, Rejects, InPlace}
use Rattle.ckr_base.specs.declared.programs.Write.{Write}
use Rattle.ckr_base.proofs.Bools.{and-first, and-second}
use Rattle.ckr_base.proofs.Numbers.{equal-itself}
use Rattle.ckr_base.proofs.Sequences.{all-take, take-drop}
use Rattle.ckr_library.specs.declared.sets.Stamp.{Stamp}
use Rattle.ckr_library.specs.NameMaps.{Name, entry_at}
use Rattle.ckr_library.proofs.Named.{at-with_changed, name-equivalence}
use Rattle.ckr_meaning.specs.LibrarySet.{LibrarySet, Library}
use Rattle.ckr_meaning.specs.EffectiveJob.{is_among}
use Rattle.ckr_meaning.specs.StepRun.{StepStart, changed_in, made_at, output_name, rewritten, rewritten_stamp, within_at, work_at, written_all, written_one}
use Rattle.ckr_points.specs.Payload.{is_formed_step, is_in_place}
use Rattle.ckr_points_library.specs.Commit.{output_names}
use Rattle.ckr_points.specs.Soundness.{rewrite_of, up_to_rewrites}
use Rattle.ckr_points_invariant.proofs.Writes.Roles.{is_right, work_at-right}
use Rattle.ckr_points_invariant.proofs.Writes.Likeness.{written-other}

-- how many of the writes are rewrites
abbrev pub rewrites_in : List Write → ℕ
rewrites_in [] = 0
rewrites_in (write ∷ writes) = if is_in_place write.output then suc (rewrites_in writes) else rewrites_in writes

told : (output : Output) (image : List ℕ) → is_some (rewrite_of output image) ≡ is_in_place output
told Main image = refl
told Rejects image = refl
told (InPlace place) image = refl

up_to-next : (count : ℕ) (write : Write) (writes : List Write) → up_to_rewrites (suc count) (write ∷ writes) ≡ write ∷ (if is_in_place write.output then up_to_rewrites count writes else up_to_rewrites (suc count) writes)
up_to-next count write writes = ap (λ b. write ∷ (if b then up_to_rewrites count writes else up_to_rewrites (suc count) writes)) (told write.output write.image)

-- more writes behind them change nothing of the writes up to a rewrite
up_to-front : (first more : List Write) → up_to_rewrites (rewrites_in first) (first ++ more) ≡ up_to_rewrites (rewrites_in first) first
up_to-front [] more = refl
up_to-front (write ∷ first) more =
    by (is_in_place write.output) refl (rewrites_in first) refl (up_to-front first more)
  where
    by : (placed : Bool) → is_in_place write.output ≡ placed → (count : ℕ) → rewrites_in first ≡ count → up_to_rewrites (rewrites_in first) (first ++ more) ≡ up_to_rewrites (rewrites_in first) first → up_to_rewrites (if placed then suc (rewrites_in first) else rewrites_in first) (write ∷ (first ++ more)) ≡ up_to_rewrites (if placed then suc (rewrites_in first) else rewrites_in first) (write ∷ first)
    by true e count is rest =
        up_to-next (rewrites_in first) write (first ++ more)
        ∙ ap (λ b. write ∷ (if b then up_to_rewrites (rewrites_in first) (first ++ more) else up_to_rewrites (suc (rewrites_in first)) (first ++ more))) e
        ∙ ap (λ ws. write ∷ ws) rest
        ∙ sym (up_to-next (rewrites_in first) write first ∙ ap (λ b. write ∷ (if b then up_to_rewrites (rewrites_in first) first else up_to_rewrites (suc (rewrites_in first)) first)) e)
    by false e zero is rest = ap (λ n. up_to_rewrites n (write ∷ (first ++ more))) is ∙ sym (ap (λ n. up_to_rewrites n (write ∷ first)) is)
    by false e (suc count) is rest =
        ap (λ n. up_to_rewrites n (write ∷ (first ++ more))) is
        ∙ up_to-next count write (first ++ more)
        ∙ ap (λ b. write ∷ (if b then up_to_rewrites count (first ++ more) else up_to_rewrites (suc count) (first ++ more))) e
        ∙ ap (λ ws. write ∷ ws) (ap (λ n. up_to_rewrites n (first ++ more)) (sym is) ∙ rest ∙ ap (λ n. up_to_rewrites n first) is)
        ∙ sym (up_to-next count write first ∙ ap (λ b. write ∷ (if b then up_to_rewrites count first else up_to_rewrites (suc count) first)) e)
        ∙ sym (ap (λ n. up_to_rewrites n (write ∷ first)) is)

-- they are a front of the writes
up_to-taken : (count : ℕ) (writes : List Write) → take (length (up_to_rewrites count writes)) writes ≡ up_to_rewrites count writes
up_to-taken zero writes = refl
up_to-taken (suc count) [] = refl
up_to-taken (suc count) (write ∷ writes) =
    by (is_some (rewrite_of write.output write.image)) (up_to-taken count writes) (up_to-taken (suc count) writes)
  where
    by : (b : Bool) → take (length (up_to_rewrites count writes)) writes ≡ up_to_rewrites count writes → take (length (up_to_rewrites (suc count) writes)) writes ≡ up_to_rewrites (suc count) writes → take (length (write ∷ (if b then up_to_rewrites count writes else up_to_rewrites (suc count) writes))) (write ∷ writes) ≡ write ∷ (if b then up_to_rewrites count writes else up_to_rewrites (suc count) writes)
    by true one other = ap (λ ws. write ∷ ws) one
    by false one other = ap (λ ws. write ∷ ws) other

-- ---- the data set that is updated

abbrev pub stamp_behind : ℕ → ℕ → ℕ → Stamp → Stamp
stamp_behind owner step zero stamp = stamp
stamp_behind owner step (suc count) stamp = stamp_behind owner step count (rewritten_stamp owner step stamp)

counted_stamp : (owner step count from : ℕ) → stamp_behind owner step count (record { run = owner; step = step; rewrites = from }) ≡ (let stamp : Stamp = record { run = owner; step = step; rewrites = from + count } in stamp)
counted_stamp owner step zero from = ap (λ n. let stamp : Stamp = record { run = owner; step = step; rewrites = n } in stamp) (let e : from ≡ from + 0 = omega arith in e)
counted_stamp owner step (suc count) from =
    ap (stamp_behind owner step count) (ap (λ b. let stamp : Stamp = if b && step == step then record { run = owner; step = step; rewrites = from + 1 } else record { run = owner; step = step; rewrites = 1 } in stamp) (equal-itself owner) ∙ ap (λ b. let stamp : Stamp = if b then record { run = owner; step = step; rewrites = from + 1 } else record { run = owner; step = step; rewrites = 1 } in stamp) (equal-itself step))
    ∙ counted_stamp owner step count (from + 1)
    ∙ ap (λ n. let stamp : Stamp = record { run = owner; step = step; rewrites = n } in stamp) (let e : from + 1 + count ≡ from + suc count = omega arith in e)

-- a stamp that isn't the step's counts the step's rewrites
pub first_stamp : (owner step count : ℕ) (stamp : Stamp) → (stamp.run == owner && stamp.step == step) ≡ false → stamp_behind owner step (suc count) stamp ≡ (let stamp : Stamp = record { run = owner; step = step; rewrites = suc count } in stamp)
first_stamp owner step count stamp other =
    ap (λ b. stamp_behind owner step count (if b then record stamp { rewrites = stamp.rewrites + 1 } else record { run = owner; step = step; rewrites = 1 })) other
    ∙ counted_stamp owner step count 1
    ∙ ap (λ n. let stamp : Stamp = record { run = owner; step = step; rewrites = n } in stamp) (let e : 1 + count ≡ suc count = omega arith in e)

-- what a data set is behind rewrites: those of the step are in its stamp
pub record IsBehind (name : Name) (owner step count : ℕ) (set : LibrarySet) (library : Library) : Type 0 where
  pub other : LibrarySet
  pub at_name : entry_at library name ≡ Some other
  pub stamp : other.stamp ≡ stamp_behind owner step count set.stamp
  pub content : other.content ≡ set.content

module _ (start : StepStart) (name : Name) (formed : is_formed_step start.root start.owned ≡ true) (its : (place : ℕ) → output_name start (InPlace place) ≡ Some name) (out : is_among (output_names start.root start.owned) name ≡ false) where
  abbrev Right : List Write → Type 0
  Right writes = list_all (λ (write : Write). is_right start.owned.step.program write.output) writes ≡ true

  kept_write : (write : Write) (library : Library) → is_right start.owned.step.program write.output ≡ true → is_in_place write.output ≡ false → entry_at (written_one start write library) name ≡ entry_at library name
  kept_write write library right kept = written-other start write library name formed right (ap not kept) out

  rewritten_write : (output : Output) (image : List ℕ) (library : Library) (set : LibrarySet) → is_in_place output ≡ true → entry_at library name ≡ Some set → IsBehind name start.owned.owner start.number 1 set (written_one start (record { output = output; image = image }) library)
  unfolding written_one
  rewritten_write Main image library set placed at_name = absurd (false≢true placed)
  rewritten_write Rejects image library set placed at_name = absurd (false≢true placed)
  rewritten_write (InPlace place) image library set placed at_name =
      let change = rewritten start.owned.owner start.number place image in
      record {
        other = change set;
        at_name =
            ap (λ to. entry_at (changed_in to change library) name) (its place) ∙ at-with_changed name name change library
            ∙ ap (λ b. cond b (option_map change (entry_at library name)) (entry_at library name)) (name-equivalence.refl name) ∙ ap (option_map change) at_name;
        stamp = refl;
        content = refl;
      }

  -- behind writes
  written_all-behind : (writes : List Write) (library : Library) (set : LibrarySet) → Right writes → entry_at library name ≡ Some set → IsBehind name start.owned.owner start.number (rewrites_in writes) set (written_all start writes library)
  written_all-behind [] library set right at_name = record { other = set; at_name = at_name; stamp = refl; content = refl }
  written_all-behind (write ∷ writes) library set right at_name =
      by (is_in_place write.output) refl (λ library set at_name. written_all-behind writes library set (and-second (is_right start.owned.step.program write.output) _ right) at_name)
    where
      by : (placed : Bool) → is_in_place write.output ≡ placed → ((library : Library) (set : LibrarySet) → entry_at library name ≡ Some set → IsBehind name start.owned.owner start.number (rewrites_in writes) set (written_all start writes library)) → IsBehind name start.owned.owner start.number (if placed then suc (rewrites_in writes) else rewrites_in writes) set (written_all start writes (written_one start write library))
      by true e more =
          let one : IsBehind name start.owned.owner start.number 1 set (written_one start write library) = rewritten_write write.output write.image library set e at_name in
          let all : IsBehind name start.owned.owner start.number (rewrites_in writes) one.other (written_all start writes (written_one start write library)) = more (written_one start write library) one.other one.at_name in
          record {
            other = all.other;
            at_name = all.at_name;
            stamp = all.stamp ∙ ap (stamp_behind start.owned.owner start.number (rewrites_in writes)) one.stamp;
            content = all.content ∙ one.content;
          }
      by false e more = more (written_one start write library) set (kept_write write library (and-first (is_right start.owned.step.program write.output) _ right) e ∙ at_name)

  -- the writes behind the last rewrite leave it
  written_all-up_to : (writes : List Write) (library : Library) → Right writes → entry_at (written_all start writes library) name ≡ entry_at (written_all start (up_to_rewrites (rewrites_in writes) writes) library) name
  written_all-up_to [] library right = refl
  written_all-up_to (write ∷ writes) library right =
      by (is_in_place write.output) refl (rewrites_in writes) refl (written_all-up_to writes (written_one start write library) (and-second (is_right start.owned.step.program write.output) _ right))
    where
      by : (placed : Bool) → is_in_place write.output ≡ placed → (count : ℕ) → rewrites_in writes ≡ count → entry_at (written_all start writes (written_one start write library)) name ≡ entry_at (written_all start (up_to_rewrites (rewrites_in writes) writes) (written_one start write library)) name → entry_at (written_all start writes (written_one start write library)) name ≡ entry_at (written_all start (up_to_rewrites (if placed then suc (rewrites_in writes) else rewrites_in writes) (write ∷ writes)) library) name
      by true e count is rest =
          rest
          ∙ sym (ap (λ ws. entry_at (written_all start ws library) name)
          (up_to-next (rewrites_in writes) write writes ∙ ap (λ b. write ∷ (if b then up_to_rewrites (rewrites_in writes) writes else up_to_rewrites (suc (rewrites_in writes)) writes)) e))
      by false e zero is rest =
          rest
          ∙ ap (λ n. entry_at (written_all start (up_to_rewrites n writes) (written_one start write library)) name) is
          ∙ kept_write write library (and-first (is_right start.owned.step.program write.output) _ right) e
          ∙ sym (ap (λ n. entry_at (written_all start (up_to_rewrites n (write ∷ writes)) library) name) is)
      by false e (suc count) is rest =
          rest
          ∙ ap (λ n. entry_at (written_all start (up_to_rewrites n writes) (written_one start write library)) name) is
          ∙ sym (ap (λ n. entry_at (written_all start (up_to_rewrites n (write ∷ writes)) library) name) is
          ∙ ap (λ ws. entry_at (written_all start ws library) name)
          (up_to-next count write writes ∙ ap (λ b. write ∷ (if b then up_to_rewrites count writes else up_to_rewrites (suc count) writes)) e))

  right_taken : (writes : ℕ) → Right (take writes (work_at start).writes)
  right_taken writes = all-take (λ (write : Write). is_right start.owned.step.program write.output) writes (work_at start).writes (work_at-right start)

  -- so it is behind some writes as it is behind their last rewrite
  pub within-up_to : (writes : ℕ) → entry_at (within_at start writes) name ≡ entry_at (within_at start (length (up_to_rewrites (rewrites_in (take writes (work_at start).writes)) (work_at start).writes))) name
  unfolding within_at
  within-up_to writes =
      let all : List Write = (work_at start).writes in
      let count : ℕ = rewrites_in (take writes all) in
      written_all-up_to (take writes all) (made_at start) (right_taken writes)
      ∙ ap (λ ws. entry_at (written_all start ws (made_at start)) name)
      (sym (up_to-front (take writes all) (drop writes all)) ∙ ap (up_to_rewrites count) (sym (take-drop writes all)) ∙ sym (up_to-taken count all))

  pub within-behind : (writes : ℕ) (set : LibrarySet) → entry_at (made_at start) name ≡ Some set → IsBehind name start.owned.owner start.number (rewrites_in (take writes (work_at start).writes)) set (within_at start writes)
  unfolding within_at
  within-behind writes set at_name = written_all-behind (take writes (work_at start).writes) (made_at start) set (right_taken writes) at_name
