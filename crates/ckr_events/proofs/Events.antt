-- The two laws of an event: what is read is spelled so, and what is spelled is read.
use Rattle.std.proofs.Common.{◌≡◌, ℕ, cond, eqb, List, [], ◌∷◌, ◌++◌, length, Result, Ok, Err, refl, sym, ap, subst, ◌∙◌}
use Rattle.std.proofs.lemmas.Bool.{eqb-true}
use Rattle.std.proofs.lemmas.List.{append-nil, nil_from_length}
use Rattle.ckr_fields.specs.Bytes.{AreBytes}
use Rattle.ckr_fields.specs.Fields.{byte_at}
use Rattle.ckr_fields.specs.Readers.{◌>>=◌, at_offset}
use Rattle.ckr_fields.proofs.Steps.{bind_ok, test_ok}
use Rattle.ckr_fields.proofs.Laws.{byte_both, made_alone, IsTagged, none_tagged, is_tagged, if_tag}
use Rattle.ckr_events.specs.Format.{job, submitted, selected, denied, started, rewritten, checkpointed, step_ended, restarted, held, ended}
use Rattle.ckr_events.specs.Event.{IsEvent, spelling, submitted_at, selected_at, denied_at, started_at, rewritten_at, checkpointed_at, cancelled_at, step_ended_at, restarted_at, held_at, released_at, ended_at, purged_at, fields_at, whole_at, event_of}
use Rattle.ckr_events.specs.declared.event.Event.{Event}
use Rattle.ckr_events.specs.declared.event.Event.TheVariants.{Submitted, Selected, Denied, Started, Rewritten, Checkpointed, Cancelled, StepEnded, Restarted, Held, Released, Ended, Purged}
use Rattle.ckr_events.proofs.Fields.{job_both, submitted_both, selected_both, denied_both, started_both, rewritten_both, checkpointed_both, step_ended_both, restarted_both, held_both, ended_both}

-- ---- what is spelled is read

-- a kind and its fields, with nothing behind them
alone : (kind : ℕ) (text : List ℕ) (e : Event) → fields_at kind (length (kind ∷ text)) text ≡ Ok (e, []) → whole_at (kind ∷ text) ≡ Ok e
unfolding whole_at byte_at
alone kind text e h = rw h refl

pub whole_again : (e : Event) → IsEvent e → whole_at (spelling e) ≡ Ok e
unfolding fields_at submitted_at selected_at denied_at started_at rewritten_at checkpointed_at cancelled_at step_ended_at restarted_at held_at released_at ended_at purged_at
whole_again (Submitted j cards) h = alone 1 (submitted.spell (j, cards)) _ (made_alone (λ x. Submitted x.0 x.1) submitted submitted_both (j, cards) h)
whole_again (Selected j initiator earlier step id) h = alone 2 (selected.spell (j, (initiator, (earlier, (step, id))))) _ (made_alone (λ x. Selected x.0 x.1.0 x.1.1.0 x.1.1.1.0 x.1.1.1.1) selected selected_both (j, (initiator, (earlier, (step, id)))) h)
whole_again (Denied j rule name) h = alone 3 (denied.spell (j, (rule, name))) _ (made_alone (λ x. Denied x.0 x.1.0 x.1.1) denied denied_both (j, (rule, name)) h)
whole_again (Started j step made) h = alone 4 (started.spell (j, (step, made))) _ (made_alone (λ x. Started x.0 x.1.0 x.1.1) started started_both (j, (step, made)) h)
whole_again (Rewritten j taken writes lengths place image) h = alone 5 (rewritten.spell (j, (taken, (writes, (lengths, (place, image)))))) _ (made_alone (λ x. Rewritten x.0 x.1.0 x.1.1.0 x.1.1.1.0 x.1.1.1.1.0 x.1.1.1.1.1) rewritten rewritten_both (j, (taken, (writes, (lengths, (place, image))))) h)
whole_again (Checkpointed j id taken writes lengths place bytes) h = alone 6 (checkpointed.spell (j, (id, (taken, (writes, (lengths, (place, bytes))))))) _ (made_alone (λ x. Checkpointed x.0 x.1.0 x.1.1.0 x.1.1.1.0 x.1.1.1.1.0 x.1.1.1.1.1.0 x.1.1.1.1.1.1) checkpointed checkpointed_both (j, (id, (taken, (writes, (lengths, (place, bytes)))))) h)
whole_again (Cancelled j) h = alone 7 (job.spell j) _ (made_alone (λ x. Cancelled x) job job_both j h)
whole_again (StepEnded j step rc writes lengths) h = alone 8 (step_ended.spell (j, (step, (rc, (writes, lengths))))) _ (made_alone (λ x. StepEnded x.0 x.1.0 x.1.1.0 x.1.1.1.0 x.1.1.1.1) step_ended step_ended_both (j, (step, (rc, (writes, lengths)))) h)
whole_again (Restarted j initiator code checkpoint) h = alone 9 (restarted.spell (j, (initiator, (code, checkpoint)))) _ (made_alone (λ x. Restarted x.0 x.1.0 x.1.1.0 x.1.1.1) restarted restarted_both (j, (initiator, (code, checkpoint))) h)
whole_again (Held j code writes lengths) h = alone 10 (held.spell (j, (code, (writes, lengths)))) _ (made_alone (λ x. Held x.0 x.1.0 x.1.1.0 x.1.1.1) held held_both (j, (code, (writes, lengths))) h)
whole_again (Released j) h = alone 11 (job.spell j) _ (made_alone (λ x. Released x) job job_both j h)
whole_again (Ended j ending) h = alone 12 (ended.spell (j, ending)) _ (made_alone (λ x. Ended x.0 x.1) ended ended_both (j, ending) h)
whole_again (Purged j) h = alone 13 (job.spell j) _ (made_alone (λ x. Purged x) job job_both j h)

pub event_again : (e : Event) → IsEvent e → event_of (spelling e) ≡ Ok e
event_again e h = ap (at_offset (length (spelling e))) (whole_again e h)

-- ---- what is read is spelled so

fields_tagged : (kind left : ℕ) (bytes : List ℕ) → AreBytes bytes → IsTagged spelling IsEvent bytes kind (fields_at kind left bytes)
unfolding fields_at submitted_at selected_at denied_at started_at rewritten_at checkpointed_at cancelled_at step_ended_at restarted_at held_at released_at ended_at purged_at
fields_tagged kind left bytes are =
    (if_tag spelling IsEvent bytes kind 1 _ _ (is_tagged spelling IsEvent bytes 1 (λ x. Submitted x.0 x.1) submitted submitted_both (λ x. refl) (λ x h. h) are)
    (if_tag spelling IsEvent bytes kind 2 _ _ (is_tagged spelling IsEvent bytes 2 (λ x. Selected x.0 x.1.0 x.1.1.0 x.1.1.1.0 x.1.1.1.1) selected selected_both (λ x. refl) (λ x h. h) are)
    (if_tag spelling IsEvent bytes kind 3 _ _ (is_tagged spelling IsEvent bytes 3 (λ x. Denied x.0 x.1.0 x.1.1) denied denied_both (λ x. refl) (λ x h. h) are)
    (if_tag spelling IsEvent bytes kind 4 _ _ (is_tagged spelling IsEvent bytes 4 (λ x. Started x.0 x.1.0 x.1.1) started started_both (λ x. refl) (λ x h. h) are)
    (if_tag spelling IsEvent bytes kind 5 _ _ (is_tagged spelling IsEvent bytes 5 (λ x. Rewritten x.0 x.1.0 x.1.1.0 x.1.1.1.0 x.1.1.1.1.0 x.1.1.1.1.1) rewritten rewritten_both (λ x. refl) (λ x h. h) are)
    (if_tag spelling IsEvent bytes kind 6 _ _ (is_tagged spelling IsEvent bytes 6 (λ x. Checkpointed x.0 x.1.0 x.1.1.0 x.1.1.1.0 x.1.1.1.1.0 x.1.1.1.1.1.0 x.1.1.1.1.1.1) checkpointed checkpointed_both (λ x. refl) (λ x h. h) are)
    (if_tag spelling IsEvent bytes kind 7 _ _ (is_tagged spelling IsEvent bytes 7 (λ x. Cancelled x) job job_both (λ x. refl) (λ x h. h) are)
    (if_tag spelling IsEvent bytes kind 8 _ _ (is_tagged spelling IsEvent bytes 8 (λ x. StepEnded x.0 x.1.0 x.1.1.0 x.1.1.1.0 x.1.1.1.1) step_ended step_ended_both (λ x. refl) (λ x h. h) are)
    (if_tag spelling IsEvent bytes kind 9 _ _ (is_tagged spelling IsEvent bytes 9 (λ x. Restarted x.0 x.1.0 x.1.1.0 x.1.1.1) restarted restarted_both (λ x. refl) (λ x h. h) are)
    (if_tag spelling IsEvent bytes kind 10 _ _ (is_tagged spelling IsEvent bytes 10 (λ x. Held x.0 x.1.0 x.1.1.0 x.1.1.1) held held_both (λ x. refl) (λ x h. h) are)
    (if_tag spelling IsEvent bytes kind 11 _ _ (is_tagged spelling IsEvent bytes 11 (λ x. Released x) job job_both (λ x. refl) (λ x h. h) are)
    (if_tag spelling IsEvent bytes kind 12 _ _ (is_tagged spelling IsEvent bytes 12 (λ x. Ended x.0 x.1) ended ended_both (λ x. refl) (λ x h. h) are)
    (if_tag spelling IsEvent bytes kind 13 _ _ (is_tagged spelling IsEvent bytes 13 (λ x. Purged x) job job_both (λ x. refl) (λ x h. h) are)
    (none_tagged spelling IsEvent bytes kind left))))))))))))))

pub whole_takes : (bytes : List ℕ) (e : Event) → AreBytes bytes → whole_at bytes ≡ Ok e → IsEvent e × (bytes ≡ spelling e)
unfolding whole_at
whole_takes bytes e are h =
    let ending = λ (x : Event × List ℕ). cond (eqb (length x.1) 0) (Ok x.0) (Err (length x.1)) in
    let a = bind_ok (byte_at bytes) (λ kind. fields_at kind.0 (length bytes) kind.1 >>= λ x. ending x) e h in
    let b = bind_ok (fields_at a.0.0 (length bytes) a.0.1) ending e a.2 in
    let end = test_ok (eqb (length b.0.1) 0) (length b.0.1) b.0.0 e b.2 in
    let t = byte_both.takes bytes a.0.0 a.0.1 are a.1 in
    let good = fields_tagged a.0.0 (length bytes) a.0.1 t.0.rest_fits b.0.0 b.0.1 b.1 in
    let nothing : b.0.1 ≡ [] = nil_from_length b.0.1 (eqb-true _ _ end.0) in
    let all : bytes ≡ spelling b.0.0 = t.0.parts ∙ good.0.parts ∙ ap (λ (l : List ℕ). spelling b.0.0 ++ l) nothing ∙ append-nil (spelling b.0.0) in
    subst (λ (x : Event). IsEvent x × (bytes ≡ spelling x)) end.1 (good.1, all)

same : (size : ℕ) (r : Result Event ℕ) (e : Event) → at_offset size r ≡ Ok e → r ≡ Ok e
same size (Ok x) e h = h
same size (Err left) e h = absurd cc

pub event_takes : (bytes : List ℕ) (e : Event) → AreBytes bytes → event_of bytes ≡ Ok e → IsEvent e × (bytes ≡ spelling e)
event_takes bytes e are h = whole_takes bytes e are (same (length bytes) (whole_at bytes) e h)

abbrev failed : ℕ → Result Event ℕ
failed left = Err left

apart : (left : ℕ) (e : Event) → failed left ≡ Ok e → ⊥
apart left e h = absurd cc

-- what is not read is the spelling of no event
pub nothing_else : (bytes : List ℕ) (left : ℕ) (e : Event) → whole_at bytes ≡ Err left → IsEvent e → bytes ≡ spelling e → ⊥
nothing_else bytes left e read h is = apart left e (sym read ∙ ap whole_at is ∙ whole_again e h)
