-- Where the desk stands behind a whole stream, and what that came to.
use Rattle.std.proofs.Common.{◌≡◌, ℕ, Bool, true, false, List, Option, None, Some, Result, Ok, Err, IfOk, OnOk, sym, ap, ◌∙◌}
use Rattle.std.specs.Prelude.{IfSome}
use Rattle.std.proofs.lemmas.Bool.{false≢true}
use Rattle.ckr_console.specs.Answering.{Answering}
use Rattle.ckr_session.specs.Model.OpenError.{OpenError}
use Rattle.ckr_session.specs.Model.State.{RoomyDesk}
use Rattle.ckr_session.specs.declared.counts.Counts.{Counts}
use Rattle.ckr_service.specs.declared.flow.Flow.{Flow}
use Rattle.ckr_session.specs.declared.stop.Stop.{Stop}
use Rattle.ckr_session.specs.declared.stop.Stop.TheVariants as Stops
use Rattle.ckr_session.specs.declared.tally.Tally.{Tally}
use Rattle.ckr_service.specs.CallEnds.{is_whole, serving_status}
use Rattle.ckr_session.specs.Calls.{calls}
use Rattle.ckr_session.specs.Counts.{counts_behind, counts_of}
use Rattle.ckr_service.specs.Feeds.{FedAll, IsBehind, IsCounted}
use Rattle.ckr_service.specs.Flows.{Finishes}
use Rattle.ckr_session.specs.Service.{View}
use Rattle.ckr_session.specs.Staff.{StaffedDesk, staffed_with}
use Rattle.ckr_service.specs.Stream.{requests_of}
use Rattle.ckr_session.specs.Tallies.{no_tally, with_answers}

pub behind_on : {D O : Type 0} (content : D → List ℕ) (trusted : Type 0) (first : View) (f : Flow D O) (last : View) (r : Result Bool Stop) (left rest old mid new : Option (List ℕ))
    → first.refused ≡ false → FedAll content trusted first f left rest old mid → (trusted → IfOk r (λ refused. Finishes content f last refused mid new)) → OnOk r (IsBehind trusted first last left rest)
behind_on content trusted first f last (Ok refused) left rest old mid new clean h finishes = record {
  all = h.all;
  given = h.given;
  end = h.end;
  state = λ holds. (finishes holds first h.all old clean (h.progress holds)).4;
  tally = λ holds. (finishes holds first h.all old clean (h.progress holds)).5;
}
behind_on content trusted first f last (Err stop) left rest old mid new clean h finishes = tt

module _ (trusted here there : Type 0) (first last : View) (state : StaffedDesk) (left rest : Option (List ℕ)) (holds_so : here → trusted) (same : first.state ≡ state) (nothing : first.tally ≡ no_tally) where
  counted_so : (b : IsBehind trusted first last left rest) (counts : Counts) → trusted → counts ≡ counts_of last.tally last.state.attended.state → counts ≡ counts_behind state (requests_of b.all)
  counted_so b counts holds is =
      is
      ∙ ap (λ (t : Tally). counts_of t last.state.attended.state) (b.tally holds ∙ ap (λ (t : Tally). with_answers t (calls first.state (requests_of b.all))) nothing)
      ∙ ap (λ (s : StaffedDesk). counts_of (with_answers no_tally (calls first.state (requests_of b.all))) s.attended.state) (b.state holds)
      ∙ ap (λ (s : StaffedDesk). counts_behind s (requests_of b.all)) same

  counted_some : (b : IsBehind trusted first last left rest) (counts : Option Counts) → (trusted → there) → (there → IfSome counts (λ c. c ≡ counts_of last.tally last.state.attended.state))
      → IfSome counts (λ c. IsCounted here state c left rest)
  counted_some b None on is = tt
  counted_some b (Some counts) on is = record { all = b.all; given = b.given; end = b.end; counted = λ h. counted_so b counts (holds_so h) (is (on (holds_so h))) }

pub counted_behind : (trusted here there : Type 0) (first last : View) (state : StaffedDesk) (outcome : Result Bool Stop) (counts : Option Counts) (left rest : Option (List ℕ)) → (here → trusted) → first.state ≡ state → first.tally ≡ no_tally
    → OnOk outcome (IsBehind trusted first last left rest) → OnOk outcome (trusted → there) → (there → IfSome counts (λ c. c ≡ counts_of last.tally last.state.attended.state))
    → OnOk outcome (IfSome counts (λ c. IsCounted here state c left rest))
counted_behind trusted here there first last state (Ok refused) counts left rest holds_so same nothing b on is = counted_some trusted here there first last state left rest holds_so same nothing b counts on is
counted_behind trusted here there first last state (Err stop) counts left rest holds_so same nothing b on is = tt

-- ---- of a disk that was opened before

counted_by : (trusted here : Type 0) (state state' : StaffedDesk) (counts : Option Counts) (left rest : Option (List ℕ)) → (here → trusted) → state ≡ state' → IfSome counts (λ c. IsCounted trusted state c left rest)
    → IfSome counts (λ c. IsCounted here state' c left rest)
counted_by trusted here state state' None left rest holds_so same is = tt
counted_by trusted here state state' (Some counts) left rest holds_so same is = record {
  all = is.all;
  given = is.given;
  end = is.end;
  counted = λ h. is.counted (holds_so h) ∙ ap (λ (s : StaffedDesk). counts_behind s (requests_of is.all)) same;
}

-- the desk to which a disk opens
opened_or : RoomyDesk → Result RoomyDesk OpenError → RoomyDesk
opened_or other (Ok state) = state
opened_or other (Err error) = other

opened_one : (opening : Result RoomyDesk OpenError) (state state' : RoomyDesk) → opening ≡ Ok state → opening ≡ Ok state' → state ≡ state'
unfolding opened_or
opened_one opening state state' first second = sym (ap (opened_or state) first) ∙ ap (opened_or state) second

-- a stop has no whole stream
pub not_whole : (stop : Stop) → is_whole (serving_status (Err stop)) ≡ true → ⊥
not_whole Stops.Source whole = false≢true whole
not_whole Stops.Sink whole = false≢true whole
not_whole Stops.Memory whole = false≢true whole
not_whole Stops.Limit whole = false≢true whole
not_whole Stops.Book whole = false≢true whole
not_whole Stops.Disk whole = false≢true whole

pub counted_from : (trusted here : Type 0) (at : StaffedDesk) (operators : List Answering) (opened : RoomyDesk) (opening : Result RoomyDesk OpenError) (outcome : Result Bool Stop) (counts : Option Counts) (status : ℕ) (left rest : Option (List ℕ))
    → status ≡ serving_status outcome → (here → trusted) → (here → opening ≡ Ok opened) → at ≡ staffed_with operators opened → OnOk outcome (IfSome counts (λ c. IsCounted trusted at c left rest))
    → here → (state : RoomyDesk) → opening ≡ Ok state → is_whole status ≡ true → IfSome counts (λ c. IsCounted here (staffed_with operators state) c left rest)
counted_from trusted here at operators opened opening (Ok refused) counts status left rest is holds_so opens same counted h state found whole =
    counted_by trusted here at (staffed_with operators state) counts left rest holds_so (same ∙ ap (staffed_with operators) (opened_one opening opened state (opens h) found)) counted
counted_from trusted here at operators opened opening (Err stop) counts status left rest is holds_so opens same counted h state found whole =
    absurd (not_whole stop (ap is_whole (sym is) ∙ whole))
