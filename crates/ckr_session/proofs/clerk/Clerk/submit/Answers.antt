use Rattle.std.proofs.Common.{◌++◌, ◌∷◌, [], refl, ap, subst, sym, ◌∙◌}
use Rattle.ckr_desk.specs.Model.Rows.{TablesModel}
use Rattle.ckr_cards.specs.Session.Handed.{Deck}
use Rattle.ckr_desk.specs.Model.Submitted.{Submitted}
use Rattle.ckr_desk.proofs.Calls.FullBooks.{call-fits, call-full}
use Rattle.ckr_desk.proofs.Calls.OneEvent.{call-few}
use Rattle.ckr_desk.specs.Model.OpenImages.{event_records}
use Rattle.ckr_session.specs.declared.stop.Halt.TheVariants as Halts
use Rattle.ckr_desk.specs.Requests.{behind_call, call_fits, event_in, spelled}
use Rattle.ckr_desk.specs.Soundness.{IsTrusted, state_of}
use Rattle.ckr_desk.specs.Submit.{submit_call}
use Rattle.ckr_desk.specs.State.{disk_of, layout_of, machine_room_of, tables_in_memory}
use Rattle.ckr_session.specs.Calls.{deck_fits}
use Rattle.ckr_session.specs.Events.{deck_event, events_told, request_events}
use Rattle.ckr_session.specs.Service.{ComesTo, HaltsSo, seen, staffed_by, staffed_of}
use Rattle.ckr_session.specs.Staff.{tables_at}
use Rattle.ckr_session.proofs.Service.Answers.{comes_none, comes_one, comes_with, deck_accepted, deck_refused, deck_full, broken_at_once, tables_in}
use Rattle.ckr_session.proofs.Service.Staff.{staffed-behind}
use Rattle.ckr_session.proofs.Cards.{on_ok}
use Rattle.ckr_session.proofs.Calls.Halts.{memory_here}
use Rattle.ckr_session.proofs.Calls.Stops.{came_there, failed_kept, goes_done, goes_on_to, with_failed_disk, with_full_book, without_memory}
use Rattle.ckr_session.proofs.clerk.Clerk.submit.Goals as goal

pub returns-in-Ok-Job-clause-serves : goal.returns-in-Ok-Job-clause-serves
returns-in-Ok-Job-clause-serves g c holds =
    let d = g.D.Disk in
    let old = c.args.self.now in
    let cards = c.args.cards.now in
    let s = staffed_of d.content old in
    let e = c.in-Ok-Job.ensures in
    let there = tables_in d.told d.content d.may_leave old.desk holds in
    deck_accepted (seen d.content old) (seen d.content c.accept.new.self) cards c.in-Ok-Job.field-0 (tables_in_memory old.desk) (tables_in_memory c.submit.new.self)
    (ap (staffed_of d.content) c.accept.ensures.clerk
    ∙ staffed-behind s (staffed_by d.content c.submit.new.self old.roster) (submit_call (tables_at s) cards)
    ((e.comes holds).after ∙ ap (λ (t : TablesModel). behind_call s.attended.state (submit_call t cards)) there) e.machine_room refl)
    there
    (tables_in d.told d.content d.may_leave c.submit.new.self (e.comes holds).trusted ∙ sym (ap (λ (o : _). tables_at (staffed_of d.content o)) c.accept.ensures.clerk))
    e.answer
    (ap (λ (o : _). event_records (layout_of o.desk) (d.content (disk_of o.desk))) c.accept.ensures.clerk ∙ came_there d.content old.desk c.submit.new.self _ e.keeps.same_layout (e.told holds.tells)
    ∙ ap (λ (t : TablesModel). event_records (layout_of old.desk) (d.content (disk_of old.desk)) ++ spelled (event_in (submit_call t cards))) there)
    c.accept.result c.in-Ok-Job.number _ _
    (ap (λ (t : TablesModel). call_fits s.attended.state (submit_call t cards)) (sym there) ∙ call-fits s.attended.state (submit_call (tables_in_memory old.desk) cards) (e.comes holds).fits)
    c.in-Ok-Job.field-0-is (ap (λ (o : _). o.refused) c.accept.ensures.clerk) (ap (λ (o : _). o.tally) c.accept.ensures.clerk) c.accept.ensures.text

pub returns-in-Ok-Refused-clause-serves : goal.returns-in-Ok-Refused-clause-serves
returns-in-Ok-Refused-clause-serves g c holds =
    let d = g.D.Disk in
    let old = c.args.self.now in
    let cards = c.args.cards.now in
    let s = staffed_of d.content old in
    let e = c.in-Ok-Refused.ensures in
    let there = tables_in d.told d.content d.may_leave old.desk holds in
    deck_refused (seen d.content old) (seen d.content c.refuse_deck.new.self) cards c.in-Ok-Refused.field-0 (tables_in_memory old.desk) (tables_in_memory c.submit.new.self)
    (staffed-behind s (staffed_of d.content c.refuse_deck.new.self) (submit_call (tables_at s) cards)
    (ap (state_of d.content) c.refuse_deck.ensures.desk ∙ (e.comes holds).after ∙ ap (λ (t : TablesModel). behind_call s.attended.state (submit_call t cards)) there)
    (ap machine_room_of c.refuse_deck.ensures.desk ∙ e.machine_room) c.refuse_deck.ensures.roster)
    there
    (tables_in d.told d.content d.may_leave c.submit.new.self (e.comes holds).trusted ∙ sym (ap (λ (w : _). (state_of d.content w).desk.office.tables) c.refuse_deck.ensures.desk))
    e.answer
    (ap (λ (w : _). event_records (layout_of w) (d.content (disk_of w))) c.refuse_deck.ensures.desk ∙ came_there d.content old.desk c.submit.new.self _ e.keeps.same_layout (e.told holds.tells)
    ∙ ap (λ (t : TablesModel). event_records (layout_of old.desk) (d.content (disk_of old.desk)) ++ spelled (event_in (submit_call t cards))) there)
    c.refuse_deck.result c.in-Ok-Refused.number c.in-Ok-Refused.card _ _
    (ap (λ (t : TablesModel). call_fits s.attended.state (submit_call t cards)) (sym there) ∙ call-fits s.attended.state (submit_call (tables_in_memory old.desk) cards) (e.comes holds).fits)
    c.in-Ok-Refused.field-0-is c.refuse_deck.ensures.refused c.refuse_deck.ensures.tally c.refuse_deck.ensures.text

pub returns-in-Ok-Job-clause-halt : goal.returns-in-Ok-Job-clause-halt
returns-in-Ok-Job-clause-halt g c holds =
    let d = g.D.Disk in
    let laws = g.met.D.Disk g.world.𝓛 g.world.𝓜 g.world.𝓡 ((λ s x. x), (λ x. x), (λ x. x), λ x. x) in
    let old = c.args.self.now.desk in
    let new = c.submit.new.self in
    let cards = c.args.cards.now in
    let s = staffed_of d.content c.args.self.now in
    let e = c.in-Ok-Job.ensures in
    let there = tables_in d.told d.content d.may_leave old holds in
    let came = spelled (event_in (submit_call (tables_in_memory old) cards)) in
    memory_here d.content d.moment d.left_since d.size c.accept.result old new _ came (λ halt. HaltsSo halt s (Deck cards ∷ []) c.args.out.now c.accept.new.out) (ap (λ (o : _). o.desk) c.accept.ensures.clerk)
    (goes_done d.content d.moment d.left_since d.size d.told d.may_leave old new came e.keeps.same_layout e.keeps.same_size (e.kept c.requires.is_open holds) (e.told holds.tells)
    (e.comes holds).trusted (laws.only_now (disk_of new)))
    (came_there d.content old new came e.keeps.same_layout (e.told holds.tells))
    (comes_one s (Deck cards) came came
    (subst (λ (t : TablesModel). ComesTo (request_events s (Deck cards)) (spelled (event_in (submit_call t cards))) (spelled (event_in (submit_call t cards)))) (sym there)
    (comes_with (deck_fits s cards) (deck_event s cards) (ap (λ (t : TablesModel). call_fits s.attended.state (submit_call t cards)) (sym there) ∙ call-fits s.attended.state (submit_call (tables_in_memory old) cards) (e.comes holds).fits))))
    c.accept.ensures.halt

pub returns-in-Ok-Refused-clause-halt : goal.returns-in-Ok-Refused-clause-halt
returns-in-Ok-Refused-clause-halt g c holds =
    let d = g.D.Disk in
    let laws = g.met.D.Disk g.world.𝓛 g.world.𝓜 g.world.𝓡 ((λ s x. x), (λ x. x), (λ x. x), λ x. x) in
    let old = c.args.self.now.desk in
    let new = c.submit.new.self in
    let cards = c.args.cards.now in
    let s = staffed_of d.content c.args.self.now in
    let e = c.in-Ok-Refused.ensures in
    let there = tables_in d.told d.content d.may_leave old holds in
    let came = spelled (event_in (submit_call (tables_in_memory old) cards)) in
    memory_here d.content d.moment d.left_since d.size c.refuse_deck.result old new _ came (λ halt. HaltsSo halt s (Deck cards ∷ []) c.args.out.now c.refuse_deck.new.out) c.refuse_deck.ensures.desk
    (goes_done d.content d.moment d.left_since d.size d.told d.may_leave old new came e.keeps.same_layout e.keeps.same_size (e.kept c.requires.is_open holds) (e.told holds.tells)
    (e.comes holds).trusted (laws.only_now (disk_of new)))
    (came_there d.content old new came e.keeps.same_layout (e.told holds.tells))
    (comes_one s (Deck cards) came came
    (subst (λ (t : TablesModel). ComesTo (request_events s (Deck cards)) (spelled (event_in (submit_call t cards))) (spelled (event_in (submit_call t cards)))) (sym there)
    (comes_with (deck_fits s cards) (deck_event s cards) (ap (λ (t : TablesModel). call_fits s.attended.state (submit_call t cards)) (sym there) ∙ call-fits s.attended.state (submit_call (tables_in_memory old) cards) (e.comes holds).fits))))
    c.refuse_deck.ensures.halt

pub returns-in-Err-NoMemory-clause-halt : goal.returns-in-Err-NoMemory-clause-halt
returns-in-Err-NoMemory-clause-halt g c holds =
    let d = g.D.Disk in
    let old = c.args.self.now.desk in
    let e = c.in-Err-NoMemory.ensures in
    let s = staffed_of d.content c.args.self.now in
    without_memory d.content d.moment d.left_since d.size Submitted d.may_leave d.faults old c.submit.new.self c.in-Err-NoMemory.field-0 _ (HaltsSo Halts.Memory s (Deck c.args.cards.now ∷ []) c.args.out.now c.args.out.now)
    c.in-Err-NoMemory.field-0-is (e.kept c.requires.is_open holds) e.keeps.stays (comes_none (events_told s (Deck c.args.cards.now ∷ [])))

pub returns-in-Err-BookFull-clause-halt : goal.returns-in-Err-BookFull-clause-halt
returns-in-Err-BookFull-clause-halt g c holds =
    let d = g.D.Disk in
    let old = c.args.self.now.desk in
    let e = c.in-Err-BookFull.ensures in
    let s = staffed_of d.content c.args.self.now in
    let cards = c.args.cards.now in
    with_full_book d.content d.moment d.left_since d.size Submitted d.may_leave d.faults old c.submit.new.self c.in-Err-BookFull.field-0 c.in-Err-BookFull.field-0-0 c.in-Err-BookFull.field-0-1 _
    (HaltsSo Halts.Book s (Deck cards ∷ []) c.args.out.now c.args.out.now) c.in-Err-BookFull.field-0-is (e.kept c.requires.is_open holds) e.keeps.stays
    (deck_full s cards c.args.out.now
    (ap (λ (t : TablesModel). call_fits s.attended.state (submit_call t cards)) (sym (tables_in d.told d.content d.may_leave old holds))
    ∙ call-full s.attended.state (submit_call (tables_in_memory old) cards) c.in-Err-BookFull.field-0 c.in-Err-BookFull.field-0-0 c.in-Err-BookFull.field-0-1 c.in-Err-BookFull.field-0-is (e.comes holds).cause))

pub returns-in-Err-DiskFault-clause-halt : goal.returns-in-Err-DiskFault-clause-halt
returns-in-Err-DiskFault-clause-halt g c holds =
    let d = g.D.Disk in
    let laws = g.met.D.Disk g.world.𝓛 g.world.𝓜 g.world.𝓡 ((λ s x. x), (λ x. x), (λ x. x), λ x. x) in
    let old = c.args.self.now.desk in
    let new = c.submit.new.self in
    let e = c.in-Err-DiskFault.ensures in
    let s = staffed_of d.content c.args.self.now in
    let cards = c.args.cards.now in
    let call = submit_call (tables_in_memory old) cards in
    let came = spelled (event_in call) in
    with_failed_disk d.content d.moment d.left_since d.size d.may_leave old new came (HaltsSo Halts.Disk s (Deck cards ∷ []) c.args.out.now c.args.out.now)
    (laws.reads_an_image (disk_of new) holds.tells) (laws.counts_now (disk_of new)) (call-few call)
    (failed_kept d.content d.moment d.left_since d.size Submitted old new c.in-Err-DiskFault.field-0 came c.in-Err-DiskFault.field-0-is (e.kept c.requires.is_open holds))
    (broken_at_once s (Deck cards) c.args.out.now came [] refl (ap (λ (t : TablesModel). spelled (event_in (submit_call t cards))) (tables_in d.told d.content d.may_leave old holds)) refl)

pub returns-in-Ok-Job-clause-goes : goal.returns-in-Ok-Job-clause-goes
returns-in-Ok-Job-clause-goes g c holds =
    let d = g.D.Disk in
    let laws = g.met.D.Disk g.world.𝓛 g.world.𝓜 g.world.𝓡 ((λ s x. x), (λ x. x), (λ x. x), λ x. x) in
    let old = c.args.self.now.desk in
    let e = c.in-Ok-Job.ensures in
    goes_on_to d.content d.moment d.left_since d.size c.accept.result old c.submit.new.self _ (ap (λ (o : _). o.desk) c.accept.ensures.clerk)
    (goes_done d.content d.moment d.left_since d.size d.told d.may_leave old c.submit.new.self _ e.keeps.same_layout e.keeps.same_size (e.kept c.requires.is_open holds) (e.told holds.tells)
    (e.comes holds).trusted (laws.only_now (disk_of c.submit.new.self)))

pub returns-in-Ok-Refused-clause-goes : goal.returns-in-Ok-Refused-clause-goes
returns-in-Ok-Refused-clause-goes g c holds =
    let d = g.D.Disk in
    let laws = g.met.D.Disk g.world.𝓛 g.world.𝓜 g.world.𝓡 ((λ s x. x), (λ x. x), (λ x. x), λ x. x) in
    let old = c.args.self.now.desk in
    let e = c.in-Ok-Refused.ensures in
    goes_on_to d.content d.moment d.left_since d.size c.refuse_deck.result old c.submit.new.self _ c.refuse_deck.ensures.desk
    (goes_done d.content d.moment d.left_since d.size d.told d.may_leave old c.submit.new.self _ e.keeps.same_layout e.keeps.same_size (e.kept c.requires.is_open holds) (e.told holds.tells)
    (e.comes holds).trusted (laws.only_now (disk_of c.submit.new.self)))

pub returns-in-Ok-Job-clause-trusted : goal.returns-in-Ok-Job-clause-trusted
returns-in-Ok-Job-clause-trusted g c =
    let d = g.D.Disk in
    on_ok c.accept.result _ (λ holds. subst (λ (w : _). IsTrusted d.told d.content d.may_leave w) (sym (ap (λ (o : _). o.desk) c.accept.ensures.clerk)) (c.in-Ok-Job.ensures.comes holds).trusted)

pub returns-in-Ok-Refused-clause-trusted : goal.returns-in-Ok-Refused-clause-trusted
returns-in-Ok-Refused-clause-trusted g c =
    let d = g.D.Disk in
    on_ok c.refuse_deck.result _ (λ holds. subst (λ (w : _). IsTrusted d.told d.content d.may_leave w) (sym c.refuse_deck.ensures.desk) (c.in-Ok-Refused.ensures.comes holds).trusted)
