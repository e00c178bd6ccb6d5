-- The numbers of the runs behind an event, and what is asked of it.
use Rattle.std.proofs.Common.{◌≡◌, ◌+◌, ◌≤◌, ℕ, suc, true, List, ◌∷◌, ◌++◌, length, ap, sym, ◌∙◌, subst, Option, None, Some, arith, length-append, []}
use Rattle.std.specs.Option.{is_some}
use Rattle.ckr_base.proofs.Bools.{and-first}
use Rattle.ckr_base.proofs.Numbers.{equal-true, nat_le-true}
use Rattle.ckr_events.specs.declared.event.Event.{Event}
use Rattle.ckr_events.specs.declared.event.Event.TheVariants.{Submitted}
use Rattle.ckr_jcl.specs.declared.deck.Job.{Job}
use Rattle.ckr_volumes.specs.declared.layout.Layout.{Layout}
use Rattle.ckr_points.specs.Tables.{queued_run}
use Rattle.ckr_points.specs.Follows.{follows}
use Rattle.ckr_points.specs.Restart.{after_event}
use Rattle.ckr_points.specs.Rows.{TablesModel}
use Rattle.ckr_queue.specs.declared.entry.QueueEntry.{QueueEntry}
use Rattle.ckr_points_tables.specs.Invariant.{MayFollow, MaySubmit}
use Rattle.ckr_desk_turn.specs.Queue.{AreNumbered}
use Rattle.ckr_desk_memory.specs.Parts.{AreQueued}
use Rattle.ckr_desk_memory.specs.EventChanges.{MayQueue, queue_after}
use Rattle.ckr_desk_memory.proofs.Queue.{may-queue, queue-behind}
use Rattle.ckr_desk_memory.proofs.Runs.{by-submission, numbered-more, numbers-stay}

-- the number of a deck that is submitted
next_number : (layout : Layout) (tables : TablesModel) (job : ℕ) (cards : List ℕ) (deck : Option Job) → follows layout tables (Submitted job cards) deck ≡ true → job ≡ suc (length tables.runs)
next_number layout tables job cards deck e = equal-true job (suc (length tables.runs)) (and-first _ _ (and-first _ (is_some deck) e))

numbered_submitted : (layout : Layout) (tables : TablesModel) (job : ℕ) (cards : List ℕ) (deck : Option Job) → follows layout tables (Submitted job cards) deck ≡ true → AreNumbered 1 tables.runs → AreNumbered 1 (after_event (Submitted job cards) deck tables).runs
numbered_submitted layout tables job cards None e numbered = numbered
numbered_submitted layout tables job cards (Some deck) e numbered =
    let is : 1 + length tables.runs ≡ job = omega (arith, next_number layout tables job cards (Some deck) e) in
    subst (λ n. AreNumbered 1 (tables.runs ++ queued_run n deck ∷ [])) is (numbered-more 1 tables.runs deck numbered)

pub numbered-behind : (layout : Layout) (tables : TablesModel) (event : Event) (deck : Option Job) → follows layout tables event deck ≡ true → AreNumbered 1 tables.runs → AreNumbered 1 (after_event event deck tables).runs
numbered-behind layout tables event deck e numbered =
    by-submission (λ event. follows layout tables event deck ≡ true → AreNumbered 1 (after_event event deck tables).runs)
    (λ job cards e. numbered_submitted layout tables job cards deck e numbered)
    (λ event other e. (numbers-stay tables numbered layout event deck other e).numbered)
    event e

few_submitted : (layout : Layout) (tables : TablesModel) (job : ℕ) (cards : List ℕ) (deck : Option Job) → follows layout tables (Submitted job cards) deck ≡ true → MaySubmit (Submitted job cards) deck → length tables.runs ≤ 9999999
    → length (after_event (Submitted job cards) deck tables).runs ≤ 9999999
few_submitted layout tables job cards None e submits few = few
few_submitted layout tables job cards (Some deck) e submits few =
    let is = next_number layout tables job cards (Some deck) e in
    let most : job ≤ 9999999 = nat_le-true job 9999999 (and-first _ _ (and-first _ _ (and-first _ _ (and-first _ _ submits)))) in
    omega (arith, length-append tables.runs (queued_run job deck ∷ []))

few-behind : (layout : Layout) (tables : TablesModel) (event : Event) (deck : Option Job) → follows layout tables event deck ≡ true → MaySubmit event deck → AreNumbered 1 tables.runs → length tables.runs ≤ 9999999
    → length (after_event event deck tables).runs ≤ 9999999
few-behind layout tables event deck e submits numbered few =
    by-submission (λ event. follows layout tables event deck ≡ true → MaySubmit event deck → length (after_event event deck tables).runs ≤ 9999999)
    (λ job cards e submits. few_submitted layout tables job cards deck e submits few)
    (λ event other e submits. subst (λ n. n ≤ 9999999) (sym (numbers-stay tables numbered layout event deck other e).long) few)
    event e submits

-- the queue stays that of the tables
pub queued-behind : (desk after : TablesModel) (queue now : List QueueEntry) (event : Event) (deck : Option Job) → MayFollow desk event deck → MaySubmit event deck → AreQueued desk queue
    → after ≡ after_event event deck desk → now ≡ queue_after after event deck queue → AreQueued after now
queued-behind desk after queue now event deck follow submits are is queue_is =
    subst (λ t. AreQueued t now) (sym is) (subst (λ q. AreQueued (after_event event deck desk) q) (sym (queue_is ∙ ap (λ t. queue_after t event deck queue) is)) (record {
      numbered = numbered-behind follow.0 desk event deck follow.1 are.numbered;
      few = few-behind follow.0 desk event deck follow.1 submits are.numbered are.few;
      same = ap (queue_after (after_event event deck desk) event deck) are.same ∙ sym (queue-behind follow.0 desk event deck are.numbered follow.1);
    }))

-- what the tables follow as they are seen
pub follow-inside : (desk seen : TablesModel) (event : Event) (deck : Option Job) → desk ≡ seen → MayFollow seen event deck → MayFollow desk event deck
follow-inside desk seen event deck same follow = (follow.0, ap (λ t. follows follow.0 t event deck) same ∙ follow.1)

pub may-go : (desk seen : TablesModel) (queue : List QueueEntry) (event : Event) (deck : Option Job) → desk ≡ seen → AreQueued desk queue → MayFollow seen event deck → MayQueue event queue
may-go desk seen queue event deck same are follow =
    subst (MayQueue event) (sym are.same) (may-queue follow.0 desk event deck are.numbered (ap (λ t. follows follow.0 t event deck) same ∙ follow.1))
