-- Feeding from a source.
use Rattle.std.proofs.Common.{◌≡◌, ◌+◌, ◌≤◌, ℕ, suc, Bool, false, List, [], ◌++◌, length, take, drop, Option, None, Some, Result, Ok, Err, IfOk, IfErr, OnOk, IsErrAnd, unwrap_or, refl, sym, ap, subst, ◌∙◌, arith, append_assoc, append-nil, length-append, take-append-drop}
use Rattle.std.specs.List.{All, slice_split}
use Rattle.std.specs.Io.KnownBytes.{Consumes, Keeps, IsAtEnd}
use Rattle.std.proofs.lemmas.List.{take_at, take-take, length-take-le}
use Rattle.std.proofs.lemmas.List.Elements.{All-nil}
use Rattle.ckr_base.proofs.KnownBytes.{Appends-nil, Consumes-trans}
use Rattle.ckr_outside.specs.Faults.{Rose}
use Rattle.ckr_session.specs.Model.State.{disk_of}
use Rattle.ckr_session.specs.Staff.{StaffedDesk}
use Rattle.ckr_session.specs.declared.clerk.Clerk.{Clerk}
use Rattle.ckr_service.specs.declared.flow.Flow.{Flow}
use Rattle.ckr_session.specs.declared.stop.Stop.{Stop}
use Rattle.ckr_session.specs.declared.stop.Stop.TheVariants as Stops
use Rattle.ckr_session.specs.Service.{View, StopsWithin, Caused, seen}
use Rattle.ckr_service.specs.Stream.{is_line_end, requests_of}
use Rattle.ckr_service.specs.Flows.{IsBegun, Carries, Breaks, Finishes, FinishBreaks, told_so_far}
use Rattle.ckr_session.specs.Events.{events_told}
use Rattle.ckr_session.specs.Stops.{Goes, HasSuch, KeepsTo, Stopped}
use Rattle.ckr_session.proofs.Calls.Stops.{came_exactly, goes_then, stopped_behind, stopped_here}
use Rattle.ckr_service.specs.Feeds.{IsServed, IsStopped, StopCause, StopsAt, HasServed, Serving, Faults, faults_of, Feeding, FedAll}
use Rattle.ckr_session.proofs.Service.Halts.{rose_earlier, cause_earlier, stops_earlier}
use Rattle.ckr_session.proofs.Service.Order.{Serves-nil}
use Rattle.ckr_service.proofs.Streams.Texts.{ended_told}

-- ---- known bytes

pub Consumes-nil : (a : Option (List ℕ)) → Consumes a a []
Consumes-nil None = tt
Consumes-nil (Some x) = refl

pub Consumes-kept : (a b c : Option (List ℕ)) (xs : List ℕ) → Consumes a b xs → Keeps b c → Consumes a c xs
Consumes-kept None b c xs p q = tt
Consumes-kept (Some x) None c xs p q = absurd p
Consumes-kept (Some x) (Some y) None xs p q = absurd q
Consumes-kept (Some x) (Some y) (Some z) xs p q = p ∙ ap (λ l. xs ++ l) (sym q)

nothing_left : (rest : Option (List ℕ)) → IsAtEnd rest → unwrap_or rest [] ≡ []
nothing_left None e = refl
nothing_left (Some xs) e = e

-- ---- causes

pub stop_cause : (trusted trusted' : Type 0) (stop : Stop) (source source' before between now before' between' now' : ℕ) (taken : List ℕ) → before ≤ between → before' ≤ between' → (trusted' → trusted)
    → Caused trusted stop between now between' now' → StopCause trusted' stop (faults_of source source' before now before' now') taken
stop_cause trusted trusted' Stops.Source a b before between now before' between' now' taken later later' holds c = absurd c
stop_cause trusted trusted' Stops.Limit a b before between now before' between' now' taken later later' holds c = absurd c
stop_cause trusted trusted' Stops.Sink a b before between now before' between' now' taken later later' holds c = cause_earlier trusted trusted' Stops.Sink before between now before' between' now' later later' holds c
stop_cause trusted trusted' Stops.Memory a b before between now before' between' now' taken later later' holds c = tt
stop_cause trusted trusted' Stops.Book a b before between now before' between' now' taken later later' holds c = tt
stop_cause trusted trusted' Stops.Disk a b before between now before' between' now' taken later later' holds c = cause_earlier trusted trusted' Stops.Disk before between now before' between' now' later later' holds c

-- a stop within a piece is one at these bytes
stops_at : (stop : Stop) (faults : Faults) (between : ℕ) (s : StaffedDesk) (taken all : List ℕ) (old new : Option (List ℕ)) (came kept : List (List ℕ)) → faults.sink_before ≤ between
    → StopsWithin stop between faults.sink_now s (requests_of all) old new came kept → StopsAt stop faults s taken all old new came kept
stops_at Stops.Source faults between s taken all old new came kept later so = absurd so
stops_at Stops.Limit faults between s taken all old new came kept later so = absurd so
stops_at Stops.Sink faults between s taken all old new came kept later so = so
stops_at Stops.Memory faults between s taken all old new came kept later so = so
stops_at Stops.Book faults between s taken all old new came kept later so = stops_earlier Stops.Book faults.sink_before between faults.sink_now s (requests_of all) old new came kept later so
stops_at Stops.Disk faults between s taken all old new came kept later so = stops_earlier Stops.Disk faults.sink_before between faults.sink_now s (requests_of all) old new came kept later so

-- all but the last of m bytes
pub front_take : (m n : ℕ) (xs : List ℕ) → m ≡ suc n → take n (take m xs) ≡ take n xs
front_take m n xs e = take-take n m xs (omega arith)

pub front_and_last : (m n : ℕ) (xs : List ℕ) → m ≡ suc n → take m xs ≡ take n xs ++ drop n (take m xs)
front_and_last m n xs e = sym (ap (λ l. l ++ drop n (take m xs)) (sym (front_take m n xs e)) ∙ take-append-drop n (take m xs))

module _ {D O : Type 0} (content : D → List ℕ) where
  -- ---- the steps

  pub begun : (trusted : Type 0) (f : Flow D O) (left old : Option (List ℕ)) → IsBegun f → Feeding content trusted (seen content f.session.clerk) f 0 left left old old
  begun trusted f left old b = record {
    taken = [];
    given = Consumes-nil left;
    counted = refl;
    progress = λ holds. record {
      parts = [];
      split = λ rest. ap (λ l. slice_split is_line_end (l ++ rest)) (sym b.partial);
      waits = subst (All (λ x. is_line_end x ≡ false)) (sym b.partial) (All-nil (λ x. is_line_end x ≡ false));
      standing = b.standing;
      text = [];
      serves = Serves-nil (seen content f.session.clerk) [];
      written = Appends-nil old;
    };
  }

  pub fed : (trusted : Type 0) (first : View) (f g : Flow D O) (count : ℕ) (left mid rest old now new : Option (List ℕ)) (piece : List ℕ)
      → Feeding content trusted first f count left mid old now → Consumes mid rest piece → (trusted → Carries content f g piece now new) → Feeding content trusted first g (count + length piece) left rest old new
  fed trusted first f g count left mid rest old now new piece h given carries = record {
    taken = h.taken ++ piece;
    given = Consumes-trans left mid rest h.taken piece h.given given;
    counted = length-append h.taken piece ∙ ap (λ n. n + length piece) h.counted;
    progress = λ holds. carries holds first h.taken old (h.progress holds);
  }

  -- the source is at its end
  pub fed_all : (trusted : Type 0) (first : View) (f : Flow D O) (count : ℕ) (left mid rest old now : Option (List ℕ)) (piece : List ℕ)
      → Feeding content trusted first f count left mid old now → count ≤ 16_777_216 → Consumes mid rest piece → piece ≡ [] → IsAtEnd rest → FedAll content trusted first f left rest old now
  fed_all trusted first f count left mid rest old now piece h few given e end = record {
    all = h.taken;
    given = subst (Consumes left rest) (ap (λ l. h.taken ++ l) e ∙ append-nil h.taken) (Consumes-trans left mid rest h.taken piece h.given given);
    end = end;
    few = omega (arith, h.counted);
    progress = h.progress;
  }

-- ---- what is written, and which events came

module _ {D O : Type 0} (content : D → List ℕ) (moment : D → ℕ) (left_since : D → ℕ → List ℕ → Type 0) (size : D → ℕ) (trusted : Type 0) (a : Clerk D O) where
  abbrev first : View
  first = seen content a

  abbrev EachTo : D → List (List ℕ) → Type 0
  EachTo = KeepsTo content moment left_since size a.desk

  abbrev HasTo : D → (List (List ℕ) → Type 0) → Type 0
  HasTo = HasSuch content moment left_since size a.desk

  abbrev GoesTo : Flow D O → Type 0
  GoesTo f = Goes content moment left_since size a.desk f.session.clerk.desk

  -- the serving stopped within a piece
  pub stopped_within : (here : Type 0) (f : Flow D O) (end : D) (count : ℕ) (left mid rest old now new : Option (List ℕ)) (piece served more : List ℕ) (stop : Stop)
      (source source' before between after before' between' after' : ℕ)
      → Feeding content trusted first f count left mid old now → count + length piece ≤ 16_777_217 → Consumes mid rest piece → piece ≡ served ++ more → (trusted → GoesTo f)
      → (trusted → Stopped content moment left_since size f.session.clerk.desk end (Breaks content stop between after f served now new))
      → before ≤ between → before' ≤ between' → (trusted → here) → Caused here stop between after between' after'
      → IsStopped trusted (EachTo end) (HasTo end) first.state stop (faults_of source source' before after before' after') left rest old new
  stopped_within here f end count left mid rest old now new piece served more stop source source' before between after before' between' after' h few given whole goes breaks later later' stays cause = record {
    taken = h.taken ++ piece;
    given = Consumes-trans left mid rest h.taken piece h.given given;
    few = (let long : length (h.taken ++ piece) ≡ count + length piece = length-append h.taken piece ∙ ap (λ n. n + length piece) h.counted in omega (arith, long, few));
    cause = stop_cause here trusted stop source source' before between after before' between' after' (h.taken ++ piece) later later' stays cause;
    stops = λ holds.
        (let bytes : (h.taken ++ served) ++ (more ++ unwrap_or rest []) ≡ (h.taken ++ piece) ++ unwrap_or rest [] =
        sym (append_assoc (h.taken ++ served) more (unwrap_or rest []))
        ∙ ap (λ l. l ++ unwrap_or rest []) (append_assoc h.taken served more ∙ ap (λ l. h.taken ++ l) (sym whole)) in
        let p = h.progress holds in
        let told = told_so_far content p in
        stopped_behind content moment left_since size a.desk f.session.clerk.desk end (goes holds) told (Breaks content stop between after f served now new)
        (StopsAt stop (faults_of source source' before after before' after') first.state (h.taken ++ piece) ((h.taken ++ piece) ++ unwrap_or rest []) old new)
        p.serves.events
        (λ came kept breaks_so.
        stops_at stop (faults_of source source' before after before' after') between first.state (h.taken ++ piece) ((h.taken ++ piece) ++ unwrap_or rest []) old new (told ++ came) (told ++ kept) later
        (subst (λ (l : List ℕ). StopsWithin stop between after first.state (requests_of l) old new (told ++ came) (told ++ kept)) bytes (breaks_so first h.taken old p (more ++ unwrap_or rest []))))
        (breaks holds));
  }

  -- the source failed
  pub stopped_by_source : (f : Flow D O) (count : ℕ) (left mid rest old now : Option (List ℕ)) (stop : Stop) (before between after c d c' d' : ℕ)
      → Feeding content trusted first f count left mid old now → count ≤ 16_777_216 → Keeps mid rest → (trusted → GoesTo f) → before ≤ between → stop ≡ Stops.Source → Rose between after
      → IsStopped trusted (EachTo (disk_of f.session.clerk.desk)) (HasTo (disk_of f.session.clerk.desk)) first.state stop (faults_of before after c d c' d') left rest old now
  stopped_by_source f count left mid rest old now stop before between after c d c' d' h few kept goes later e rose =
      subst (λ (s : Stop). IsStopped trusted (EachTo (disk_of f.session.clerk.desk)) (HasTo (disk_of f.session.clerk.desk)) first.state s (faults_of before after c d c' d') left rest old now) (sym e)
      (record {
        taken = h.taken;
        given = Consumes-kept left mid rest h.taken h.given kept;
        few = omega (arith, few, h.counted);
        cause = rose_earlier before between after later rose;
        stops = λ holds.
            (let p = h.progress holds in
            stopped_here content moment left_since size a.desk f.session.clerk.desk (goes holds) (told_so_far content p) (HasServed first.state h.taken old now) p.serves.events
            (ended_told content first h.taken f old now p));
      })

  -- one byte more than the limit was given
  pub stopped_by_limit : (f g : Flow D O) (count n : ℕ) (left mid rest old now new : Option (List ℕ)) (piece : List ℕ) (faults : Faults)
      → Feeding content trusted first f count left mid old now → Consumes mid rest piece → length piece ≡ suc n → count + suc n ≡ 16_777_217 → (trusted → GoesTo g) → (trusted → Carries content f g (take n piece) now new)
      → IsStopped trusted (EachTo (disk_of g.session.clerk.desk)) (HasTo (disk_of g.session.clerk.desk)) first.state Stops.Limit faults left rest old new
  stopped_by_limit f g count n left mid rest old now new piece faults h given long all goes carries =
      let front : take 16_777_216 (h.taken ++ piece) ≡ h.taken ++ take n piece =
      ap (take 16_777_216) (ap (λ l. h.taken ++ l) (sym (take-append-drop n piece)) ∙ sym (append_assoc h.taken (take n piece) (drop n piece)))
      ∙ take_at (h.taken ++ take n piece) (drop n piece) 16_777_216
      (length-append h.taken (take n piece) ∙ omega (arith, h.counted, length_taken n piece long)) in
      record {
        taken = h.taken ++ piece;
        given = Consumes-trans left mid rest h.taken piece h.given given;
        few = (let all_of : length (h.taken ++ piece) ≡ 16_777_217 = length-append h.taken piece ∙ omega (arith, h.counted) in omega (arith, all_of));
        cause = length-append h.taken piece ∙ omega (arith, h.counted);
        stops = λ holds.
            (let p = carries holds first h.taken old (h.progress holds) in
            stopped_here content moment left_since size a.desk g.session.clerk.desk (goes holds) (told_so_far content p) (HasServed first.state (take 16_777_216 (h.taken ++ piece)) old new) p.serves.events
            (subst (λ (l : List ℕ). HasServed first.state l old new (told_so_far content p) (told_so_far content p)) (sym front)
            (ended_told content first (h.taken ++ take n piece) g old new p)));
      }
    where
      length_taken : (n : ℕ) (piece : List ℕ) → length piece ≡ suc n → length (take n piece) ≡ n
      length_taken n piece e = length-take-le n piece (omega arith)

  -- ---- the end of the stream

  served : (f g : Flow D O) (refused : Bool) (left rest old mid new : Option (List ℕ)) → a.refused ≡ false
      → FedAll content trusted first f left rest old mid → (trusted → GoesTo g) → (trusted → Finishes content f (seen content g.session.clerk) refused mid new)
      → IsServed trusted (EachTo (disk_of g.session.clerk.desk)) (HasTo (disk_of g.session.clerk.desk)) first.state refused left rest old new
  served f g refused left rest old mid new clean h goes finishes = record {
    all = h.all;
    given = h.given;
    end = h.end;
    few = h.few;
    answered = λ holds.
        (let done = finishes holds first h.all old clean (h.progress holds) in
        record { fits = done.0; written = done.1; refusals = done.2 });
    came = λ holds.
        (let done = finishes holds first h.all old clean (h.progress holds) in
        came_exactly content moment left_since size a.desk g.session.clerk.desk (goes holds) (events_told first.state (requests_of h.all)) done.3);
  }

  stopped_at_end : (here : Type 0) (f : Flow D O) (end : D) (left rest old mid new : Option (List ℕ)) (stop : Stop) (c d before between after before' between' after' : ℕ)
      → FedAll content trusted first f left rest old mid → (trusted → GoesTo f) → (trusted → Stopped content moment left_since size f.session.clerk.desk end (FinishBreaks content stop between after f mid new))
      → before ≤ between → before' ≤ between' → (trusted → here) → Caused here stop between after between' after'
      → IsStopped trusted (EachTo end) (HasTo end) first.state stop (faults_of c d before after before' after') left rest old new
  stopped_at_end here f end left rest old mid new stop c d before between after before' between' after' h goes breaks later later' stays cause = record {
    taken = h.all;
    given = h.given;
    few = omega (arith, h.few);
    cause = stop_cause here trusted stop c d before between after before' between' after' h.all later later' stays cause;
    stops = λ holds.
        (let p = h.progress holds in
        let told = told_so_far content p in
        stopped_behind content moment left_since size a.desk f.session.clerk.desk end (goes holds) told (FinishBreaks content stop between after f mid new)
        (StopsAt stop (faults_of c d before after before' after') first.state h.all (h.all ++ unwrap_or rest []) old new)
        p.serves.events
        (λ came kept breaks_so.
        stops_at stop (faults_of c d before after before' after') between first.state h.all (h.all ++ unwrap_or rest []) old new (told ++ came) (told ++ kept) later
        (subst (λ (l : List ℕ). StopsWithin stop between after first.state (requests_of l) old new (told ++ came) (told ++ kept))
        (sym (ap (λ l. h.all ++ l) (nothing_left rest h.end) ∙ append-nil h.all)) (breaks_so first h.all old p)))
        (breaks holds));
  }

  pub serving_on : (here : Type 0) (f g : Flow D O) (r : Result Bool Stop) (left rest old mid new : Option (List ℕ)) (c d before between after before' between' after' : ℕ) → a.refused ≡ false
      → FedAll content trusted first f left rest old mid → (trusted → GoesTo f) → (trusted → OnOk r (Goes content moment left_since size f.session.clerk.desk g.session.clerk.desk))
      → (trusted → IfOk r (λ refused. Finishes content f (seen content g.session.clerk) refused mid new))
      → (trusted → IfErr r (λ stop. Stopped content moment left_since size f.session.clerk.desk (disk_of g.session.clerk.desk) (FinishBreaks content stop between after f mid new)))
      → before ≤ between → before' ≤ between' → (trusted → here) → IfErr r (λ stop. Caused here stop between after between' after')
      → Serving trusted (EachTo (disk_of g.session.clerk.desk)) (HasTo (disk_of g.session.clerk.desk)) first.state r (faults_of c d before after before' after') left rest old new
  serving_on here f g (Ok refused) left rest old mid new c d before between after before' between' after' clean h goes goes_on ok err later later' stays cause =
      served f g refused left rest old mid new clean h (λ holds. goes_then content moment left_since size a.desk f.session.clerk.desk g.session.clerk.desk (goes holds) (goes_on holds)) ok
  serving_on here f g (Err stop) left rest old mid new c d before between after before' between' after' clean h goes goes_on ok err later later' stays cause =
      stopped_at_end here f (disk_of g.session.clerk.desk) left rest old mid new stop c d before between after before' between' after' h goes err later later' stays cause

-- the exit of a `?` that hands the stop on, of a whole stream
pub serving_stopped : (trusted : Type 0) (each : List (List ℕ) → Type 0) (has : (List (List ℕ) → Type 0) → Type 0) (state : StaffedDesk) (r : Result Bool Stop) (stop : Stop) (faults : Faults) (left rest old new : Option (List ℕ)) → IsErrAnd r (λ s. s ≡ stop)
    → IsStopped trusted each has state stop faults left rest old new → Serving trusted each has state r faults left rest old new
serving_stopped trusted each has state (Ok x) stop faults left rest old new h s = absurd h
serving_stopped trusted each has state (Err x) stop faults left rest old new h s = subst (λ (w : Stop). IsStopped trusted each has state w faults left rest old new) (sym h) s
