-- What a stop leaves, and which events came, one call after another.
use Rattle.std.proofs.Common.{◌≡◌, ◌≤◌, ◌++◌, [], ◌∷◌, ℕ, List, length, Result, Ok, Err, OnOk, IfErr, ⊎_elim, inl, inr, refl, ap, sym, ◌∙◌, subst, append_assoc, append-nil, arith}
use Rattle.std.proofs.lemmas.List.{append_cancel_left}
use Rattle.ckr_outside.specs.Moments.{and_then}
use Rattle.ckr_desk.proofs.Images.Soundness.{kept-still}
use Rattle.ckr_desk.specs.declared.error.DeskError.{DeskError}
use Rattle.ckr_desk.specs.declared.error.DeskError.TheVariants.{NoMemory, DiskFault, BookFull}
use Rattle.ckr_desk.specs.Model.Layout.{Layout}
use Rattle.ckr_desk.specs.Model.OpenImages.{event_records}
use Rattle.ckr_desk.specs.NoChange.{StaysBy}
use Rattle.ckr_desk.specs.Requests.{came_by}
use Rattle.ckr_desk.specs.Soundness.{HasKept, IsTrusted, KeepsWithin}
use Rattle.ckr_desk.specs.State.{DeskView, disk_of, layout_of}
use Rattle.ckr_session.specs.Stops.{AllOrKept, Goes, Has, HasBehind, HasSuch, KeepsTo, Stopped}
use Rattle.ckr_session.proofs.Service.Events.{front_of_few}

-- an image with the first of the events that came, and of more
pub kept_more : (layout : Layout) (size : ℕ) (before came more : List (List ℕ)) (image : List ℕ) → HasKept layout size before came image → HasKept layout size before (came ++ more) image
kept_more layout size before came more image has = record {
  sound = has.sound;
  front = has.front;
  more = has.more ++ more;
  split = ap (λ l. l ++ more) has.split ∙ append_assoc has.front has.more more;
  events = has.events;
}

kept_behind : (layout : Layout) (size : ℕ) (before first came : List (List ℕ)) (image : List ℕ) → HasKept layout size (before ++ first) came image → HasKept layout size before (first ++ came) image
kept_behind layout size before first came image has = record {
  sound = has.sound;
  front = first ++ has.front;
  more = has.more;
  split = ap (λ l. first ++ l) has.split ∙ sym (append_assoc first has.front has.more);
  events = has.events ∙ append_assoc before first has.front;
}

-- an image that has none of the events that came, as there were none
pub none_behind : (layout : Layout) (size : ℕ) (before : List (List ℕ)) (image : List ℕ) → HasKept layout size before [] image → event_records layout image ≡ before ++ []
none_behind layout size before image has = has.events ∙ ap (λ l. before ++ l) (none has.front has.more has.split)
  where
    none : (front more : List (List ℕ)) → ◌≡◌ {A = List (List ℕ)} [] (front ++ more) → front ≡ []
    none [] more is = refl
    none (x ∷ xs) more is = cc

-- the events behind a call, with the layout behind it
pub came_there : {D : Type 0} (content : D → List ℕ) (old new : DeskView D) (came : List (List ℕ)) → layout_of new ≡ layout_of old
    → event_records (layout_of old) (content (disk_of new)) ≡ event_records (layout_of old) (content (disk_of old)) ++ came
    → event_records (layout_of new) (content (disk_of new)) ≡ event_records (layout_of old) (content (disk_of old)) ++ came
came_there content old new came layout told = ap (λ (l : Layout). event_records l (content (disk_of new))) layout ∙ told

module _ {D : Type 0} (content : D → List ℕ) (moment : D → ℕ) (left_since : D → ℕ → List ℕ → Type 0) (size : D → ℕ) where
  abbrev events_of : DeskView D → List (List ℕ)
  events_of desk = event_records (layout_of desk) (content (disk_of desk))

  -- a call of the desk that tells no event
  pub goes_none : (old new : DeskView D) → layout_of new ≡ layout_of old → size (disk_of new) ≡ size (disk_of old)
      → KeepsWithin content moment left_since size old new [] → Has content moment left_since size old (disk_of new) [] → Goes content moment left_since size old new
  goes_none old new same_layout same_size kept has = record {
    came = [];
    each = kept;
    has = has;
    left = λ image now. none_behind (layout_of old) (size (disk_of old)) (events_of old) image (kept.each image (now (moment (disk_of old)) kept.later));
    same_layout = same_layout;
    same_size = same_size;
  }

  -- nothing is done
  pub goes_nowhere : (desk : DeskView D) → KeepsWithin content moment left_since size desk desk [] → Goes content moment left_since size desk desk
  goes_nowhere desk kept = goes_none desk desk refl refl kept (sym (append-nil (events_of desk)))

  -- at a desk that is trusted
  pub goes_still : (told : Type 0) (may_leave : D → List ℕ → Type 0) (desk : DeskView D) → IsTrusted told content may_leave desk
      → ((image : List ℕ) → left_since (disk_of desk) (moment (disk_of desk)) image → may_leave (disk_of desk) image)
      → ((image : List ℕ) → left_since (disk_of desk) (moment (disk_of desk)) image → length image ≡ size (disk_of desk)) → Goes content moment left_since size desk desk
  goes_still told may_leave desk trusted only long = goes_nowhere desk (kept-still told content may_leave size desk trusted moment left_since only long)

  -- any call of the desk, behind which it is trusted
  pub goes_done : (told : Type 0) (may_leave : D → List ℕ → Type 0) (old new : DeskView D) (came : List (List ℕ)) → layout_of new ≡ layout_of old → size (disk_of new) ≡ size (disk_of old)
      → KeepsWithin content moment left_since size old new came → Has content moment left_since size old (disk_of new) came → IsTrusted told content may_leave new
      → ((image : List ℕ) → left_since (disk_of new) (moment (disk_of new)) image → may_leave (disk_of new) image) → Goes content moment left_since size old new
  goes_done told may_leave old new came same_layout same_size kept has trusted only = record {
    came = came;
    each = kept;
    has = has;
    left = λ image now.
        subst (λ (l : Layout). event_records l image ≡ event_records l (content (disk_of new))) same_layout (trusted.opens_left image (only image (now (moment (disk_of new)) (omega arith)))).list
        ∙ has;
    same_layout = same_layout;
    same_size = same_size;
  }

  -- which events came, by those behind
  pub came_is : (a b : DeskView D) (goes : Goes content moment left_since size a b) (came : List (List ℕ)) → events_of b ≡ events_of a ++ came → goes.came ≡ came
  came_is a b goes came behind =
      append_cancel_left (events_of a) goes.came came
      (sym goes.has ∙ ap (λ (l : Layout). event_records l (content (disk_of b))) (sym goes.same_layout) ∙ behind)

  pub events_behind : (a b : DeskView D) (goes : Goes content moment left_since size a b) → events_of b ≡ events_of a ++ goes.came
  events_behind a b goes = ap (λ (l : Layout). event_records l (content (disk_of b))) goes.same_layout ∙ goes.has

  -- exactly these came
  pub came_exactly : (a b : DeskView D) (goes : Goes content moment left_since size a b) (came : List (List ℕ)) → events_of b ≡ events_of a ++ came
      → KeepsTo content moment left_since size a (disk_of b) came × HasSuch content moment left_since size a (disk_of b) (λ these. these ≡ came)
  came_exactly a b goes came behind =
      let same : goes.came ≡ came = came_is a b goes came behind in
      (subst (KeepsTo content moment left_since size a (disk_of b)) same goes.each, record { reads = (goes.came, same, goes.has); left = λ image now. (goes.came, same, goes.left image now) })

  kept_from : (a b : DeskView D) (goes : Goes content moment left_since size a b) (came : List (List ℕ)) (image : List ℕ)
      → HasKept (layout_of b) (size (disk_of b)) (events_of b) came image → HasKept (layout_of a) (size (disk_of a)) (events_of a) (goes.came ++ came) image
  kept_from a b goes came image kept =
      kept_behind (layout_of a) (size (disk_of a)) (events_of a) goes.came came image
      (subst (λ (events : List (List ℕ)). HasKept (layout_of a) (size (disk_of a)) events came image) goes.has
      (subst (λ (n : ℕ). HasKept (layout_of a) n (event_records (layout_of a) (content (disk_of b))) came image) goes.same_size
      (subst (λ (l : Layout). HasKept l (size (disk_of b)) (event_records l (content (disk_of b))) came image) goes.same_layout kept)))

  pub each_then : (a b : DeskView D) (c : D) (goes : Goes content moment left_since size a b) (came : List (List ℕ)) → KeepsTo content moment left_since size b c came
      → KeepsTo content moment left_since size a c (goes.came ++ came)
  each_then a b c goes came second =
      and_then moment left_since (disk_of a) (disk_of b) c _ _ (HasKept (layout_of a) (size (disk_of a)) (events_of a) (goes.came ++ came)) goes.each second
      (λ image kept. kept_more (layout_of a) (size (disk_of a)) (events_of a) goes.came came image kept)
      (kept_from a b goes came)

  -- the events of an image, with those that came before
  pub has_then : (a b : DeskView D) (image : List ℕ) (goes : Goes content moment left_since size a b) (these : List (List ℕ)) → event_records (layout_of b) image ≡ events_of b ++ these
      → event_records (layout_of a) image ≡ events_of a ++ (goes.came ++ these)
  has_then a b image goes these second =
      subst (λ (l : Layout). event_records l image ≡ event_records l (content (disk_of b)) ++ these) goes.same_layout second
      ∙ ap (λ l. l ++ these) goes.has ∙ append_assoc (events_of a) goes.came these

  pub goes_then : (a b c : DeskView D) → Goes content moment left_since size a b → Goes content moment left_since size b c → Goes content moment left_since size a c
  goes_then a b c first second = record {
    came = first.came ++ second.came;
    each = each_then a b (disk_of c) first second.came second.each;
    has = has_then a b (content (disk_of c)) first second.came second.has;
    left = λ image now. has_then a b image first second.came (second.left image now);
    same_layout = second.same_layout ∙ first.same_layout;
    same_size = second.same_size ∙ first.same_size;
  }

  -- of a call's result
  pub goes_then_on : {T E : Type 0} (r : Result T E) (a b c : DeskView D) → Goes content moment left_since size a b → OnOk r (Goes content moment left_since size b c) → OnOk r (Goes content moment left_since size a c)
  goes_then_on (Ok x) a b c first second = goes_then a b c first second
  goes_then_on (Err e) a b c first second = tt

  pub goes_on_to : {T E : Type 0} (r : Result T E) (a b b' : DeskView D) → b' ≡ b → Goes content moment left_since size a b → OnOk r (Goes content moment left_since size a b')
  goes_on_to (Ok x) a b b' is goes = subst (λ (d : DeskView D). Goes content moment left_since size a d) (sym is) goes
  goes_on_to (Err e) a b b' is goes = tt

  -- ---- stopped

  pub stopped_behind : (a b : DeskView D) (c : D) (goes : Goes content moment left_since size a b) (came : List (List ℕ)) (So So' : List (List ℕ) → List (List ℕ) → Type 0)
      → events_of b ≡ events_of a ++ came → ((more kept : List (List ℕ)) → So more kept → So' (came ++ more) (came ++ kept))
      → Stopped content moment left_since size b c So → Stopped content moment left_since size a c So'
  stopped_behind a b c goes came So So' behind so stopped = record {
    came = goes.came ++ stopped.came;
    kept = goes.came ++ stopped.kept;
    so = subst (λ (l : List (List ℕ)). So' (l ++ stopped.came) (l ++ stopped.kept)) (sym (came_is a b goes came behind)) (so stopped.came stopped.kept stopped.so);
    each = each_then a b c goes stopped.came stopped.each;
    has = record { reads = behind_both (content c) stopped.has.reads; left = λ image now. behind_both image (stopped.has.left image now) };
  }
    where
      behind_both : (image : List ℕ) → HasBehind (layout_of b) (events_of b) (AllOrKept stopped.came stopped.kept) image
          → HasBehind (layout_of a) (events_of a) (AllOrKept (goes.came ++ stopped.came) (goes.came ++ stopped.kept)) image
      behind_both image has = (
        goes.came ++ has.0,
        ⊎_elim (λ all. inl (ap (λ l. goes.came ++ l) all)) (λ kept. inr (ap (λ l. goes.came ++ l) kept)) has.1,
        has_then a b image goes has.0 has.2,
      )

  -- nothing more came
  pub stopped_here : (a b : DeskView D) (goes : Goes content moment left_since size a b) (came : List (List ℕ)) (So : List (List ℕ) → List (List ℕ) → Type 0)
      → events_of b ≡ events_of a ++ came → So came came → Stopped content moment left_since size a (disk_of b) So
  stopped_here a b goes came So behind so = record {
    came = goes.came;
    kept = goes.came;
    so = subst (λ (l : List (List ℕ)). So l l) (sym (came_is a b goes came behind)) so;
    each = goes.each;
    has = record { reads = (goes.came, inl refl, goes.has); left = λ image now. (goes.came, inl refl, goes.left image now) };
  }

  -- in other words
  pub stopped_so : (a : DeskView D) (c : D) (So So' : List (List ℕ) → List (List ℕ) → Type 0) → ((came kept : List (List ℕ)) → So came kept → So' came kept)
      → Stopped content moment left_since size a c So → Stopped content moment left_since size a c So'
  stopped_so a c So So' so stopped = record { came = stopped.came; kept = stopped.kept; so = so stopped.came stopped.kept stopped.so; each = stopped.each; has = stopped.has }

  -- of a call's result
  pub stopped_on : {T E : Type 0} (r : Result T E) (a : DeskView D) (c : D) (So So' : E → List (List ℕ) → List (List ℕ) → Type 0) → ((e : E) (came kept : List (List ℕ)) → So e came kept → So' e came kept)
      → IfErr r (λ e. Stopped content moment left_since size a c (So e)) → IfErr r (λ e. Stopped content moment left_since size a c (So' e))
  stopped_on (Ok x) a c So So' so stopped = tt
  stopped_on (Err e) a c So So' so stopped = stopped_so a c (So e) (So' e) (so e) stopped

  -- ---- a call of the desk that wasn't done

  -- the disk reads as before
  pub nothing_came : (old new : DeskView D) (So : List (List ℕ) → List (List ℕ) → Type 0) → KeepsWithin content moment left_since size old new [] → content (disk_of new) ≡ content (disk_of old) → So [] []
      → Stopped content moment left_since size old (disk_of new) So
  nothing_came old new So kept reads so = record {
    came = [];
    kept = [];
    so = so;
    each = kept;
    has = record {
      reads = ([], inl refl, ap (event_records (layout_of old)) reads ∙ sym (append-nil (events_of old)));
      left = λ image now. ([], inl refl, none_behind (layout_of old) (size (disk_of old)) (events_of old) image (kept.each image (now (moment (disk_of old)) kept.later)));
    };
  }

  -- there was no memory
  pub without_memory : (T : Type 0) (may_leave : D → List ℕ → Type 0) (faults : D → ℕ) (old new : DeskView D) (error : DeskError) (came : List (List ℕ)) (So : List (List ℕ) → List (List ℕ) → Type 0) → error ≡ NoMemory
      → KeepsWithin content moment left_since size old new (came_by {T = T} (Err error) came) → StaysBy content may_leave faults old new error → So [] [] → Stopped content moment left_since size old (disk_of new) So
  without_memory T may_leave faults old new error came So is kept stays so =
      nothing_came old new So (subst (λ (e : DeskError). KeepsWithin content moment left_since size old new (came_by {T = T} (Err e) came)) is kept)
      (subst (StaysBy content may_leave faults old new) is stays).reads so

  -- the book was full
  pub with_full_book : (T : Type 0) (may_leave : D → List ℕ → Type 0) (faults : D → ℕ) (old new : DeskView D) (error : DeskError) (need left : ℕ) (came : List (List ℕ)) (So : List (List ℕ) → List (List ℕ) → Type 0)
      → error ≡ BookFull need left
      → KeepsWithin content moment left_since size old new (came_by {T = T} (Err error) came) → StaysBy content may_leave faults old new error → So [] [] → Stopped content moment left_since size old (disk_of new) So
  with_full_book T may_leave faults old new error need left came So is kept stays so =
      nothing_came old new So (subst (λ (e : DeskError). KeepsWithin content moment left_since size old new (came_by {T = T} (Err e) came)) is kept)
      (subst (StaysBy content may_leave faults old new) is stays).reads so

  -- the disk failed, of which a read gives one of the images: each has the event of the call, or lacks it
  pub with_failed_disk : (may_leave : D → List ℕ → Type 0) (old new : DeskView D) (came : List (List ℕ)) (So : List (List ℕ) → List (List ℕ) → Type 0) → may_leave (disk_of new) (content (disk_of new))
      → ((t : ℕ) (image : List ℕ) → t ≤ moment (disk_of new) → may_leave (disk_of new) image → left_since (disk_of new) t image)
      → length came ≤ 1 → KeepsWithin content moment left_since size old new came → So came []
      → Stopped content moment left_since size old (disk_of new) So
  with_failed_disk may_leave old new came So reads counts few kept so = record {
    came = came;
    kept = [];
    so = so;
    each = kept;
    has = record {
      reads = either (content (disk_of new)) (counts (moment (disk_of old)) (content (disk_of new)) kept.later reads);
      left = λ image now. either image (now (moment (disk_of old)) kept.later);
    };
  }
    where
      either : (image : List ℕ) → left_since (disk_of new) (moment (disk_of old)) image → HasBehind (layout_of old) (events_of old) (AllOrKept came []) image
      either image since = let has = kept.each image since in (has.front, front_of_few came has.front has.more few has.split, has.events)

  -- the event of a call that the disk failed in
  pub failed_kept : (T : Type 0) (old new : DeskView D) (error : DeskError) (came : List (List ℕ)) → error ≡ DiskFault → KeepsWithin content moment left_since size old new (came_by {T = T} (Err error) came)
      → KeepsWithin content moment left_since size old new came
  failed_kept T old new error came is kept = subst (λ (e : DeskError). KeepsWithin content moment left_since size old new (came_by {T = T} (Err e) came)) is kept

  -- the events behind a call's result
  pub events_on : {T E : Type 0} (r : Result T E) (a b : DeskView D) (came : List (List ℕ)) → OnOk r (layout_of b ≡ layout_of a) → OnOk r (Has content moment left_since size a (disk_of b) came)
      → OnOk r (events_of b ≡ events_of a ++ came)
  events_on (Ok x) a b came layout has = ap (λ (l : Layout). event_records l (content (disk_of b))) layout ∙ has
  events_on (Err e) a b came layout has = tt

  pub same_events : (a b : DeskView D) → b ≡ a → events_of b ≡ events_of a ++ []
  same_events a b is = ap events_of is ∙ sym (append-nil (events_of a))

  -- a call that tells no event
  pub has_none : (may_leave : D → List ℕ → Type 0) (old new : DeskView D) → may_leave (disk_of new) (content (disk_of new))
      → ((t : ℕ) (image : List ℕ) → t ≤ moment (disk_of new) → may_leave (disk_of new) image → left_since (disk_of new) t image)
      → KeepsWithin content moment left_since size old new [] → Has content moment left_since size old (disk_of new) []
  has_none may_leave old new reads counts kept =
      none_behind (layout_of old) (size (disk_of old)) (events_of old) (content (disk_of new)) (kept.each (content (disk_of new)) (counts (moment (disk_of old)) (content (disk_of new)) kept.later reads))
