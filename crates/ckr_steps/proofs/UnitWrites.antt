-- The writes of a unit one after another.
use Rattle.std.proofs.Common.{◌≡◌, ◌≤◌, ℕ, Bool, true, false, List, [], ◌∷◌, Option, Some, None, refl, ap, sym, ◌∙◌, subst, arith, filter, length, take}
use Rattle.std.specs.Prelude.{if◌then◌else◌, IsTrue}
use Rattle.std.specs.Option.{option_map_or, is_some}
use Rattle.std.proofs.lemmas.Bool.{false≢true}
use Rattle.ckr_base.specs.declared.programs.Heads.{Heads}
use Rattle.ckr_base.specs.declared.programs.Output.{Output}
use Rattle.ckr_base.specs.declared.programs.Output.TheVariants.{Main, Rejects, InPlace}
use Rattle.ckr_base.specs.declared.programs.Write.{Write}
use Rattle.ckr_library.specs.Catalog.{Catalog}
use Rattle.ckr_library.specs.NameMaps.{Name}
use Rattle.ckr_volumes.specs.declared.layout.Layout.{Layout}
use Rattle.ckr_meaning.specs.LibrarySet.{Library}
use Rattle.ckr_meaning.specs.Program.{OutputRoom, room_behind, fitting}
use Rattle.ckr_meaning.proofs.FittingWrites.{fitting-front}
use Rattle.ckr_steps.specs.declared.files.Files.{Files}
use Rattle.ckr_steps.specs.declared.step_run.StepRun.{StepRun}
use Rattle.ckr_steps.specs.Inputs.{IsSetThere, AreThere}
use Rattle.ckr_steps.specs.StepUnit.{done_for, writes_for}
use Rattle.ckr_steps.specs.Writes.{count_of, count_unless, end_set, is_behind, room_at, room_of, rewrite_of, done_unless, done_of, grown_in, Shows, put_one, put_all}
use Rattle.ckr_steps.proofs.Growth.{IsGrown}
use Rattle.ckr_steps.proofs.Rooms.{grown_in-grown}

pub end_there : (files : Files) (catalog : Catalog) → AreThere files catalog → (output : Output) → IsSetThere catalog (end_set files output)
end_there files catalog there Main = there.main
end_there files catalog there Rejects = there.rejects
end_there files catalog there (InPlace place) = tt

none_of : {A : Type 0} (found : Option A) → false ≡ is_some found → found ≡ None
none_of None is = refl
none_of (Some x) is = absurd (false≢true is)

-- the first write has no space
pub nothing_fits : (writes : List Write) (first : Write) (rest : List Write) (room : OutputRoom) (fits : Bool) → writes ≡ first ∷ rest → fits ≡ is_some (room_behind first.output room) → fits ≡ false → fitting writes room ≡ []
nothing_fits writes first rest room fits split is full =
    ap (λ w. fitting w room) split
    ∙ ap (λ left. option_map_or (λ l. first ∷ fitting rest l) left []) (none_of (room_behind first.output room) (sym full ∙ is))

-- it has, and leaves this
pub first_fits : (writes : List Write) (first : Write) (rest : List Write) (room left : OutputRoom) → writes ≡ first ∷ rest → room_behind first.output room ≡ Some left → fitting writes room ≡ first ∷ fitting rest left
first_fits writes first rest room left split behind =
    ap (λ w. fitting w room) split ∙ ap (λ l. option_map_or (λ l. first ∷ fitting rest l) l []) behind

module _ (told : Type 0) (image : List ℕ) (layout : Layout) (names : List Name) (files : Files) (catalog : Catalog) (model : Library) (first : Write) (fits : Bool)
    (shown : Shows told image layout names (if fits then put_one files first model else model) catalog) where
  pub shows_nothing : (writes : List Write) → fits ≡ false → writes ≡ [] → Shows told image layout names (put_all files writes model) catalog
  shows_nothing writes full none =
      subst (λ (w : List Write). Shows told image layout names (put_all files w model) catalog) (sym none)
      (subst (λ (b : Bool). Shows told image layout names (if b then put_one files first model else model) catalog) full shown)

  pub shows_first : fits ≡ true → Shows told image layout names (put_one files first model) catalog
  shows_first more = subst (λ (b : Bool). Shows told image layout names (if b then put_one files first model else model) catalog) more shown

pub grown_first : (files : Files) (old new : Catalog) (first : Write) (fits : Bool) → AreThere files old → fits ≡ true → new.sets ≡ (if fits then grown_in (end_set files first.output) old.sets else old.sets) → IsGrown old new
grown_first files old new first fits there more is =
    grown_in-grown (end_set files first.output) old new (end_there files old there first.output) (is ∙ ap (λ b. if b then grown_in (end_set files first.output) old.sets else old.sets) more)

pub left_first : (fits : Bool) (found : Option OutputRoom) (left : OutputRoom) → fits ≡ true → (IsTrue fits → found ≡ Some left) → found ≡ Some left
left_first fits found left more is = is more

-- where there is none, what fits is done
pub done_all : (catalog : Catalog) (files : Files) (writes : List Write) → rewrite_of catalog files writes ≡ None → done_of catalog files writes ≡ fitting writes (room_of catalog files)
unfolding done_of
done_all catalog files writes none = ap (λ rewrite. done_unless rewrite (fitting writes (room_of catalog files))) none

done_front : (catalog : Catalog) (files : Files) (writes : List Write) (rewrites : Bool) → rewrites ≡ is_some (rewrite_of catalog files writes) → rewrites ≡ false
    → take (length (fitting writes (room_of catalog files))) writes ≡ done_of catalog files writes
done_front catalog files writes rewrites is none =
    fitting-front writes (room_of catalog files) ∙ sym (done_all catalog files writes (none_of (rewrite_of catalog files writes) (sym none ∙ is)))

pub done_count : (catalog : Catalog) (files : Files) (writes : List Write) (rewrites : Bool) → rewrites ≡ is_some (rewrite_of catalog files writes) → rewrites ≡ false
    → (count main rejects : ℕ) → main ≡ room_at catalog files.main → rejects ≡ room_at catalog files.rejects → count ≡ length (fitting writes (record { main = main; rejects = rejects }))
    → take count writes ≡ done_of catalog files writes
unfolding room_of
done_count catalog files writes rewrites is none count main rejects first second so =
    ap (λ n. take n writes)
    (so
    ∙ ap (λ n. length (fitting writes (record { main = n; rejects = rejects }))) first
    ∙ ap (λ n. length (fitting writes (record { main = room_at catalog files.main; rejects = n }))) second)
    ∙ done_front catalog files writes rewrites is none

-- what fits, fits again
fitting-again : (writes : List Write) (room : OutputRoom) → fitting (fitting writes room) room ≡ fitting writes room
fitting-again [] room = refl
fitting-again (write ∷ writes) room = by (fitting-again writes) (room_behind write.output room) refl
  where
    by : ((l : OutputRoom) → fitting (fitting writes l) l ≡ fitting writes l) → (left : Option OutputRoom) → room_behind write.output room ≡ left
        → fitting (option_map_or (λ l. write ∷ fitting writes l) left []) room ≡ option_map_or (λ l. write ∷ fitting writes l) left []
    by more None is = refl
    by more (Some l) is = ap (λ left. option_map_or (λ m. write ∷ fitting (fitting writes l) m) left []) is ∙ ap (λ others. write ∷ others) (more l)

-- what is done has space
pub done_fits : (catalog : Catalog) (files : Files) (writes : List Write) → fitting (done_of catalog files writes) (room_of catalog files) ≡ done_of catalog files writes
unfolding done_of
done_fits catalog files writes = by (rewrite_of catalog files writes)
  where
    by : (rewrite : Option (ℕ × List ℕ)) → fitting (done_unless rewrite (fitting writes (room_of catalog files))) (room_of catalog files) ≡ done_unless rewrite (fitting writes (room_of catalog files))
    by None = fitting-again writes (room_of catalog files)
    by (Some rewrite) = refl

pub done_fits-for : (catalog : Catalog) (step : StepRun) (heads : Heads) (writes : List Write) → writes ≡ done_for catalog step heads → fitting writes (room_of catalog step.files) ≡ writes
unfolding done_for
done_fits-for catalog step heads writes are = ap (λ w. fitting w (room_of catalog step.files)) are ∙ done_fits catalog step.files (writes_for step heads) ∙ sym are

-- how many are counted
pub count_one : (catalog : Catalog) (files : Files) (writes : List Write) (rewrites : Bool) → rewrites ≡ is_some (rewrite_of catalog files writes) → rewrites ≡ true → 1 ≡ count_of catalog files writes
unfolding count_of
count_one catalog files writes rewrites is made = by (rewrite_of catalog files writes) (sym is ∙ made)
  where
    by : (rewrite : Option (ℕ × List ℕ)) → is_some rewrite ≡ true → 1 ≡ count_unless rewrite (fitting writes (room_of catalog files))
    by None made = absurd (false≢true made)
    by (Some rewrite) made = refl

pub count_all : (catalog : Catalog) (files : Files) (writes : List Write) (rewrites : Bool) → rewrites ≡ is_some (rewrite_of catalog files writes) → rewrites ≡ false
    → length (filter is_behind (done_of catalog files writes)) ≡ count_of catalog files writes
unfolding count_of
count_all catalog files writes rewrites is none =
    let without = none_of (rewrite_of catalog files writes) (sym none ∙ is) in
    ap (λ w. length (filter is_behind w)) (done_all catalog files writes without)
    ∙ sym (ap (λ rewrite. count_unless rewrite (fitting writes (room_of catalog files))) without)

-- a rewrite is a write
pub rewrite_some : (catalog : Catalog) (files : Files) (writes : List Write) (rewrites : Bool) → rewrites ≡ is_some (rewrite_of catalog files writes) → rewrites ≡ true → 1 ≤ length writes
unfolding rewrite_of
rewrite_some catalog files [] rewrites is made = absurd (false≢true (sym is ∙ made))
rewrite_some catalog files (write ∷ writes) rewrites is made = omega arith
