-- Requests that aren't served to their end, and which events came.
use Rattle.std.proofs.Common.{◌≡◌, ◌++◌, ℕ, Bool, false, List, Option, Result, Ok, Err, IfErr, IsErrAnd, sym, subst}
use Rattle.ckr_cards.specs.Session.{Handed}
use Rattle.ckr_desk.specs.Model.OpenImages.{event_records}
use Rattle.ckr_desk.specs.State.{DeskView, disk_of, layout_of}
use Rattle.ckr_session.specs.declared.clerk.Clerk.{Clerk}
use Rattle.ckr_session.specs.declared.stop.Halt.{Halt}
use Rattle.ckr_session.specs.declared.stop.Halt.TheVariants as Halts
use Rattle.ckr_session.specs.Events.{events_told}
use Rattle.ckr_session.specs.Lines.{Telling}
use Rattle.ckr_session.specs.Service.{HaltsSo, HaltsTelling, Serves, ServesTelling, seen, staffed_of, text_to}
use Rattle.ckr_session.specs.Stops.{Goes, Stopped}
use Rattle.ckr_session.proofs.Calls.Stops.{stopped_behind, stopped_here, stopped_on, stopped_so}
use Rattle.ckr_session.proofs.Service.Events.{comes_all, events_told-front}
use Rattle.ckr_session.proofs.Service.Halts.{halts_before}
use Rattle.ckr_session.proofs.Service.Tellings.{halts_before_others, halts_behind_quiet, halts_quiet_behind, waiting_with}
use Rattle.ckr_session.proofs.Tellings.{ends_quiet}

module _ {D : Type 0} (content : D → List ℕ) (moment : D → ℕ) (left_since : D → ℕ → List ℕ → Type 0) (size : D → ℕ) where
  -- behind requests that were served while nothing was written
  pub halts_behind_on : {T O : Type 0} (r : Result T Halt) (failed : Bool) (written : Option (List ℕ)) (faults : ℕ) (a b : Clerk D O) (c : D) (xs ys : List Handed) (t u : List ℕ) (to : Telling)
      → Goes content moment left_since size a.desk b.desk → Serves (seen content a) (seen content b) xs t u
      → IfErr r (λ halt. Stopped content moment left_since size b.desk c (HaltsTelling halt (staffed_of content b) ys (waiting_with failed written faults u) to))
      → IfErr r (λ halt. Stopped content moment left_since size a.desk c (HaltsTelling halt (staffed_of content a) (xs ++ ys) (waiting_with failed written faults t) to))
  halts_behind_on (Ok x) failed written faults a b c xs ys t u to goes serves stopped = tt
  halts_behind_on (Err halt) failed written faults a b c xs ys t u to goes serves stopped =
      stopped_behind content moment left_since size a.desk b.desk c goes (events_told (staffed_of content a) xs)
      (HaltsTelling halt (staffed_of content b) ys (waiting_with failed written faults u) to) (HaltsTelling halt (staffed_of content a) (xs ++ ys) (waiting_with failed written faults t) to)
      serves.events (λ came kept so. halts_behind_quiet failed written faults halt (seen content a) (seen content b) xs ys t u to came kept serves so) stopped

  -- while nothing is written any more behind requests that were served
  pub halts_then_on : {T O : Type 0} (r : Result T Halt) (failed : Bool) (written : Option (List ℕ)) (faults : ℕ) (a b : Clerk D O) (c : D) (xs ys : List Handed) (from : Telling) (t u : List ℕ)
      → Goes content moment left_since size a.desk b.desk → ServesTelling (seen content a) (seen content b) xs from (waiting_with failed written faults t)
      → IfErr r (λ halt. Stopped content moment left_since size b.desk c (HaltsSo halt (staffed_of content b) ys t u))
      → IfErr r (λ halt. Stopped content moment left_since size a.desk c (HaltsTelling halt (staffed_of content a) (xs ++ ys) from (waiting_with failed written faults u)))
  halts_then_on (Ok x) failed written faults a b c xs ys from t u goes serves stopped = tt
  halts_then_on (Err halt) failed written faults a b c xs ys from t u goes serves stopped =
      stopped_behind content moment left_since size a.desk b.desk c goes (events_told (staffed_of content a) xs)
      (HaltsSo halt (staffed_of content b) ys t u) (HaltsTelling halt (staffed_of content a) (xs ++ ys) from (waiting_with failed written faults u))
      serves.so.events (λ came kept so. halts_quiet_behind failed written faults halt (seen content a) (seen content b) xs ys from t u came kept serves so) stopped

  -- before other requests
  pub halts_before_them : {O : Type 0} (halt : Halt) (a : Clerk D O) (c : D) (xs ys : List Handed) (from to : Telling) → Stopped content moment left_since size a.desk c (HaltsTelling halt (staffed_of content a) xs from to)
      → Stopped content moment left_since size a.desk c (HaltsTelling halt (staffed_of content a) (xs ++ ys) from to)
  halts_before_them halt a c xs ys from to stopped =
      stopped_so content moment left_since size a.desk c (HaltsTelling halt (staffed_of content a) xs from to) (HaltsTelling halt (staffed_of content a) (xs ++ ys) from to)
      (λ came kept so. halts_before_others halt (staffed_of content a) xs ys from to came kept so) stopped

  -- nothing was written meanwhile
  pub halts_quiet_on : {T O : Type 0} (r : Result T Halt) (a : Clerk D O) (c : D) (xs : List Handed) (from to : Telling) → to.failed ≡ false → to.written ≡ from.written
      → IfErr r (λ halt. Stopped content moment left_since size a.desk c (HaltsSo halt (staffed_of content a) xs from.waits to.waits))
      → IfErr r (λ halt. Stopped content moment left_since size a.desk c (HaltsTelling halt (staffed_of content a) xs from to))
  halts_quiet_on r a c xs from to fresh same stopped =
      stopped_on content moment left_since size r a.desk c (λ halt. HaltsSo halt (staffed_of content a) xs from.waits to.waits) (λ halt. HaltsTelling halt (staffed_of content a) xs from to)
      (λ halt came kept so. record { told = to.waits; so = so; ends = ends_quiet halt from to (from.waits ++ text_to (staffed_of content a) xs) fresh same }) stopped

  -- at the exit of a `?` that hands the halt on, before other requests
  pub halts_before_on : {T O : Type 0} (r : Result T Halt) (halt : Halt) (a : Clerk D O) (c : D) (xs ys : List Handed) (t v : List ℕ) → IsErrAnd r (λ h. h ≡ halt)
      → Stopped content moment left_since size a.desk c (HaltsSo halt (staffed_of content a) xs t v)
      → IfErr r (λ h. Stopped content moment left_since size a.desk c (HaltsSo h (staffed_of content a) (xs ++ ys) t v))
  halts_before_on (Ok x) halt a c xs ys t v is stopped = tt
  halts_before_on (Err h) halt a c xs ys t v is stopped =
      subst (λ (w : Halt). Stopped content moment left_since size a.desk c (HaltsSo w (staffed_of content a) (xs ++ ys) t v)) (sym is)
      (stopped_so content moment left_since size a.desk c (HaltsSo halt (staffed_of content a) xs t v) (HaltsSo halt (staffed_of content a) (xs ++ ys) t v)
      (λ came kept so. halts_before halt (staffed_of content a) xs ys t v came kept so) stopped)

  -- memory ran out behind requests that were served
  pub memory_behind : {T O : Type 0} (r : Result T Halt) (a b : Clerk D O) (xs ys : List Handed) (t u v w : List ℕ) → Goes content moment left_since size a.desk b.desk → Serves (seen content a) (seen content b) xs t u
      → IsErrAnd r (λ h. h ≡ Halts.Memory) → IfErr r (λ h. Stopped content moment left_since size a.desk (disk_of b.desk) (HaltsSo h (staffed_of content a) (xs ++ ys) v w))
  memory_behind (Ok x) a b xs ys t u v w goes serves is = tt
  memory_behind (Err h) a b xs ys t u v w goes serves is =
      let s = staffed_of content a in
      let more = events_told-front s xs ys in
      subst (λ (k : Halt). Stopped content moment left_since size a.desk (disk_of b.desk) (HaltsSo k s (xs ++ ys) v w)) (sym is)
      (stopped_here content moment left_since size a.desk b.desk goes (events_told s xs) (HaltsSo Halts.Memory s (xs ++ ys) v w) serves.events (comes_all (events_told s (xs ++ ys)) more.0 (events_told s xs) more.1))

  -- memory ran out for a text, behind events that came
  pub memory_here : {T : Type 0} (r : Result T Halt) (a b b' : DeskView D) (came : List (List ℕ)) (So : Halt → List (List ℕ) → List (List ℕ) → Type 0) → b' ≡ b → Goes content moment left_since size a b
      → event_records (layout_of b) (content (disk_of b)) ≡ event_records (layout_of a) (content (disk_of a)) ++ came → So Halts.Memory came came → IfErr r (λ h. h ≡ Halts.Memory)
      → IfErr r (λ h. Stopped content moment left_since size a (disk_of b') (So h))
  memory_here (Ok x) a b b' came So same goes behind so is = tt
  memory_here (Err h) a b b' came So same goes behind so is =
      subst (λ (k : Halt). Stopped content moment left_since size a (disk_of b') (So k)) (sym is)
      (subst (λ (w : DeskView D). Stopped content moment left_since size a (disk_of w) (So Halts.Memory)) (sym same)
      (stopped_here content moment left_since size a b goes came (So Halts.Memory) behind so))
