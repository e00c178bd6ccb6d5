-- The text of a call, and what is written of it.
use Rattle.std.proofs.Common.{◌≡◌, ◌≤◌, ℕ, List, [], ◌++◌, Option, refl, sym, ap, subst, ◌∙◌, append-nil}
use Rattle.ckr_outside.specs.Front.{AppendsFront}
use Rattle.ckr_session.specs.Model.Session.{Handed}
use Rattle.ckr_session.specs.Staff.{StaffedDesk}
use Rattle.ckr_session.specs.declared.stop.Halt.{Halt}
use Rattle.ckr_session.specs.declared.stop.Stop.{Stop}
use Rattle.ckr_session.specs.declared.stop.Stop.TheVariants as Stops
use Rattle.ckr_session.specs.Lines.{EndsTold, Telling, WritesFront}
use Rattle.ckr_session.specs.Service.{View, Serves, HaltsSo, HaltsTelling, ServesTelling, StopsWithin, RestWritten, stop_of, text_to}
use Rattle.ckr_session.specs.Events.{events_told}
use Rattle.ckr_session.proofs.Service.Halts.{rest_written}

-- what was told, where nothing waited before
pub serves_first : (a b : View) (xs : List Handed) (t u : List ℕ) → t ≡ [] → Serves a b xs t u → Serves a b xs [] u
serves_first a b xs t u none s = subst (λ (l : List ℕ). Serves a b xs l u) none s

-- requests were served, and the sink took a front of their text
pub unwritten : (a b : View) (xs : List Handed) (from to : Telling) (stop : Stop) (now : ℕ) (new : Option (List ℕ))
    → ServesTelling a b xs from to → from.waits ≡ [] → from.faults ≤ to.faults → stop ≡ Stops.Sink → WritesFront to new
    → StopsWithin stop from.faults now a.state xs from.written new (events_told a.state xs) (events_told a.state xs)
unwritten a b xs from to stop now new s none later is front =
    subst (λ (w : Stop). StopsWithin w from.faults now a.state xs from.written new (events_told a.state xs) (events_told a.state xs)) (sym is)
    (record {
      served = xs;
      more = [];
      split = sym (append-nil xs);
      fits = s.so.fits;
      written = subst (AppendsFront from.written new) (s.so.text ∙ ap (λ l. l ++ text_to a.state xs) none) (front from s.told later s.is);
      came_is = refl;
      kept_is = refl;
    })

-- the serving stopped, and what was answered before is written
pub halted : (halt : Halt) (stop : Stop) (now : ℕ) (s : StaffedDesk) (xs : List Handed) (from to : Telling) (new : Option (List ℕ)) (came kept : List (List ℕ)) → from.waits ≡ [] → HaltsTelling halt s xs from to came kept
    → stop ≡ stop_of halt → ((whole told : List ℕ) → EndsTold halt from whole told to → RestWritten halt from.faults now from.written new whole told) → StopsWithin stop from.faults now s xs from.written new came kept
halted halt stop now s xs from to new came kept none so is rest =
    rest_written halt stop from.faults now s xs so.told from.written new came kept (subst (λ (l : List ℕ). HaltsSo halt s xs l so.told came kept) none so.so) is
    (subst (λ (l : List ℕ). RestWritten halt from.faults now from.written new (l ++ text_to s xs) so.told) none (rest (from.waits ++ text_to s xs) so.told so.ends))
