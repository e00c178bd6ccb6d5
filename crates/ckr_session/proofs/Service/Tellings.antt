-- Requests that are served, or not to their end, where lines go out meanwhile.
use Rattle.std.proofs.Common.{◌≡◌, ℕ, Bool, true, false, List, [], ◌++◌, Option, Result, Ok, Err, OnOk, refl, sym, ap, subst, ◌∙◌, append_assoc, append-nil}
use Rattle.ckr_outside.specs.Front.{AppendsFront}
use Rattle.ckr_cards.specs.Session.{Handed}
use Rattle.ckr_session.specs.Staff.{StaffedDesk}
use Rattle.ckr_session.specs.declared.stop.Halt.{Halt}
use Rattle.ckr_session.specs.declared.stop.Halt.TheVariants as Halts
use Rattle.ckr_session.specs.Calls.{after_all, all_fit}
use Rattle.ckr_session.specs.Events.{events_told}
use Rattle.ckr_session.specs.Lines.{EndsTold, IsTold, Telling, ToldBy}
use Rattle.ckr_session.specs.Service.{View, Serves, HaltsSo, ServesTelling, HaltsTelling, text_to}
use Rattle.ckr_session.proofs.Service.Halts.{halts_before, halts_behind}
use Rattle.ckr_session.proofs.Service.Order.{Serves-append, text_to-append, text_to-full}
use Rattle.ckr_session.proofs.Tellings.{front_longer, front_told, told_more}

-- what is told of the same, behind any other text
serves_behind_text : (a b : View) (xs : List Handed) (t u text : List ℕ) → Serves a b xs t u → Serves a b xs text (text ++ text_to a.state xs)
serves_behind_text a b xs t u text s = record { fits = s.fits; state = s.state; refused = s.refused; tally = s.tally; events = s.events; text = refl }

-- the text of the first requests comes first
text_to-front : (s : StaffedDesk) (xs ys : List Handed) → (more : List ℕ) × (text_to s (xs ++ ys) ≡ text_to s xs ++ more)
text_to-front s xs ys = by_rest (all_fit s xs) refl
  where
    by_rest : (b : Bool) → all_fit s xs ≡ b → (more : List ℕ) × (text_to s (xs ++ ys) ≡ text_to s xs ++ more)
    by_rest true fit = (text_to (after_all s xs) ys, text_to-append s xs ys fit)
    by_rest false full = ([], text_to-full s xs ys full ∙ sym (append-nil (text_to s xs)))

-- the whole text behind requests that were served
whole_behind : (a b : View) (xs ys : List Handed) (t u : List ℕ) → Serves a b xs t u → u ++ text_to b.state ys ≡ t ++ text_to a.state (xs ++ ys)
whole_behind a b xs ys t u first =
    ap (λ w. w ++ text_to b.state ys) first.text
    ∙ append_assoc t (text_to a.state xs) (text_to b.state ys)
    ∙ ap (λ st. t ++ (text_to a.state xs ++ text_to st ys)) first.state
    ∙ ap (λ w. t ++ w) (sym (text_to-append a.state xs ys first.fits))

-- ---- behind requests that were served while nothing was written

module _ (failed : Bool) (written : Option (List ℕ)) (faults : ℕ) where
  -- so much waits
  abbrev pub waiting_with : List ℕ → Telling
  waiting_with text = record { waits = text; failed = failed; written = written; faults = faults }

  from_by : (now_failed : Bool) (t u told : List ℕ) (to : Telling) → ToldBy now_failed (waiting_with u) told to → ToldBy now_failed (waiting_with t) told to
  from_by false t u told to by = by
  from_by true t u told to by = by

  told_from : (t u told : List ℕ) (to : Telling) → IsTold (waiting_with u) told to → IsTold (waiting_with t) told to
  told_from t u told to is = record { by = from_by to.failed t u told to is.by }

  ends_from : (halt : Halt) (t u told whole whole' : List ℕ) (to : Telling) → whole ≡ whole' → EndsTold halt (waiting_with u) whole told to → EndsTold halt (waiting_with t) whole' told to
  ends_from Halts.Memory t u told whole whole' to same ends = subst (AppendsFront written to.written) same ends
  ends_from Halts.Book t u told whole whole' to same ends = told_from t u told to ends
  ends_from Halts.Disk t u told whole whole' to same ends = told_from t u told to ends

  pub serves_behind_quiet : {E : Type 0} (r : Result (Unit {0}) E) (a b c : View) (xs ys : List Handed) (t u : List ℕ) (to : Telling) → Serves a b xs t u
      → OnOk r (ServesTelling b c ys (waiting_with u) to) → OnOk r (ServesTelling a c (xs ++ ys) (waiting_with t) to)
  serves_behind_quiet (Ok x) a b c xs ys t u to first second = record {
    told = second.told;
    so = Serves-append a b c xs ys t u second.told first second.so;
    is = told_from t u second.told to second.is;
  }
  serves_behind_quiet (Err e) a b c xs ys t u to first second = tt

  pub halts_behind_quiet : (halt : Halt) (a b : View) (xs ys : List Handed) (t u : List ℕ) (to : Telling) (came kept : List (List ℕ)) → Serves a b xs t u → HaltsTelling halt b.state ys (waiting_with u) to came kept
      → HaltsTelling halt a.state (xs ++ ys) (waiting_with t) to (events_told a.state xs ++ came) (events_told a.state xs ++ kept)
  halts_behind_quiet halt a b xs ys t u to came kept first second = record {
    told = second.told;
    so = halts_behind halt a b xs ys t u second.told came kept first second.so;
    ends = ends_from halt t u second.told (u ++ text_to b.state ys) (t ++ text_to a.state (xs ++ ys)) to (whole_behind a b xs ys t u first) second.ends;
  }

  -- ---- while nothing is written any more behind others

  pub serves_quiet_behind : {E : Type 0} (r : Result (Unit {0}) E) (a b c : View) (xs ys : List Handed) (from : Telling) (t u : List ℕ) → ServesTelling a b xs from (waiting_with t)
      → OnOk r (Serves b c ys t u) → OnOk r (ServesTelling a c (xs ++ ys) from (waiting_with u))
  serves_quiet_behind (Ok x) a b c xs ys from t u first second = record {
    told = first.told ++ text_to b.state ys;
    so = Serves-append a b c xs ys from.waits first.told (first.told ++ text_to b.state ys) first.so (serves_behind_text b c ys t u first.told second);
    is = told_more from first.told (text_to b.state ys) t u failed written faults second.text first.is;
  }
  serves_quiet_behind (Err e) a b c xs ys from t u first second = tt

  pub halts_quiet_behind : (halt : Halt) (a b : View) (xs ys : List Handed) (from : Telling) (t u : List ℕ) (came kept : List (List ℕ)) → ServesTelling a b xs from (waiting_with t)
      → HaltsSo halt b.state ys t u came kept → HaltsTelling halt a.state (xs ++ ys) from (waiting_with u) (events_told a.state xs ++ came) (events_told a.state xs ++ kept)
  halts_quiet_behind Halts.Memory a b xs ys from t u came kept first so = record {
    told = first.told;
    so = halts_behind Halts.Memory a b xs ys from.waits first.told first.told came kept first.so so;
    ends = front_told from (waiting_with t) first.told (text_to b.state ys) (from.waits ++ text_to a.state (xs ++ ys)) (sym (whole_behind a b xs ys from.waits first.told first.so)) first.is;
  }
  halts_quiet_behind Halts.Book a b xs ys from t u came kept first so = record {
    told = first.told ++ text_to b.state ys;
    so = halts_behind Halts.Book a b xs ys from.waits first.told (first.told ++ text_to b.state ys) came kept first.so (so.0, refl, so.2, so.3);
    ends = told_more from first.told (text_to b.state ys) t u failed written faults so.1 first.is;
  }
  halts_quiet_behind Halts.Disk a b xs ys from t u came kept first so = record {
    told = first.told ++ so.0;
    so = halts_behind Halts.Disk a b xs ys from.waits first.told (first.told ++ so.0) came kept first.so (so.0, refl, so.2);
    ends = told_more from first.told so.0 t u failed written faults so.1 first.is;
  }

-- ---- before other requests

ends_longer : (halt : Halt) (from to : Telling) (told whole more whole' : List ℕ) → whole' ≡ whole ++ more → EndsTold halt from whole told to → EndsTold halt from whole' told to
ends_longer Halts.Memory from to told whole more whole' is ends = front_longer from.written to.written whole more whole' is ends
ends_longer Halts.Book from to told whole more whole' is ends = ends
ends_longer Halts.Disk from to told whole more whole' is ends = ends

pub halts_before_others : (halt : Halt) (s : StaffedDesk) (xs ys : List Handed) (from to : Telling) (came kept : List (List ℕ)) → HaltsTelling halt s xs from to came kept → HaltsTelling halt s (xs ++ ys) from to came kept
halts_before_others halt s xs ys from to came kept halts =
    let more = text_to-front s xs ys in
    record {
      told = halts.told;
      so = halts_before halt s xs ys from.waits halts.told came kept halts.so;
      ends = ends_longer halt from to halts.told (from.waits ++ text_to s xs) more.0 (from.waits ++ text_to s (xs ++ ys))
          (ap (λ t. from.waits ++ t) more.1 ∙ sym (append_assoc from.waits (text_to s xs) more.0)) halts.ends;
    }
