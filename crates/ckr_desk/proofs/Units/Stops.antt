-- What a stop leaves while the event of a unit is kept and its record is written.
use Rattle.std.proofs.Common.{◌≡◌, ◌++◌, ℕ, List, [], ◌∷◌, true, take, ap, sym, ◌∙◌, subst, ⊎_elim, Some, None, Ok}
use Rattle.ckr_book.specs.Book.{IsBeforeOrAfter, ends_closed}
use Rattle.ckr_console.specs.declared.question.Answer.{Answer}
use Rattle.ckr_events.specs.declared.event.Event.{Event}
use Rattle.ckr_events.specs.Event.{spelling}
use Rattle.ckr_desk_refines.specs.Memory.Plans.{IsSpelledPlan}
use Rattle.ckr_desk_refines.specs.Memory.View.{jobs_of}
use Rattle.ckr_desk_refines.specs.Commits.{HasCommitted}
use Rattle.ckr_desk_refines.specs.Entries.{HasEntries}
use Rattle.ckr_outside.specs.Disk.{part}
use Rattle.ckr_points.specs.Office.{Office}
use Rattle.ckr_points.specs.Restart.{after_event}
use Rattle.ckr_points.specs.Rows.{TablesModel}
use Rattle.ckr_desk_refines.specs.RewriteRecord.{HasCommittedAgain}
use Rattle.ckr_desk_refines.specs.Moves.{HasSameRecords, event_in}
use Rattle.ckr_desk_store.specs.OpenImages.{Opens, event_records}
use Rattle.ckr_desk_refines.proofs.Events.Commits.{committed-moves}
use Rattle.ckr_desk_turn.specs.declared.plan.Plan.{Plan}
use Rattle.ckr_desk_turn.specs.declared.plan.Plan.TheVariants.{Work}
use Rattle.ckr_desk_turn.specs.Turns.{MountedTurn, plan_for}
use Rattle.ckr_desk_turn.specs.Desk.{DeskModel, work_of}
use Rattle.ckr_volumes.specs.declared.layout.Layout.{Layout}
use Rattle.ckr_volumes.specs.Header.{header_of}
use Rattle.ckr_desk_refines.proofs.Units.Desk.{committed-so}
use Rattle.ckr_desk_refines.specs.Unit.{StandsBehindUnit}
use Rattle.ckr_desk.proofs.Units.Events.{Ensues}
use Rattle.ckr_desk.proofs.Images.Soundness.{kept-behind, kept-whole}
use Rattle.ckr_desk.proofs.Trust.Events.{IsComing}
use Rattle.ckr_desk.specs.Calls.{IsLeftBy, may_keep}
use Rattle.ckr_desk.specs.Rewrite.{LacksAtMost, OpensSame}
use Rattle.ckr_desk.specs.Units.{HasDoneUnit, IsLeftBehind, IsLeftByUnit, IsLeftRewriting}
use Rattle.ckr_desk.specs.Soundness.{HasKept, IsTrusted, office_on, state_of}
use Rattle.ckr_desk.specs.State.{DeskView}
use Rattle.ckr_desk.proofs.Units.Turn.{coming as coming-so, ensues as ensues-so, entries-lacking as entries-lacking-so, entries-same as entries-same-so, entries-told as entries-told-so, layout-same as layout-same-so, tables-mid as tables-mid-so, unit-done as unit-done-so, unit-kept}

module _ {D : Type 0} (told : Type 0) (content : D → List ℕ) (may_leave : D → List ℕ → Type 0) (moment : D → ℕ) (left_since : D → ℕ → List ℕ → Type 0) (size : D → ℕ)
    (old : DeskView D) (trusted : IsTrusted told content may_leave old) (turn : MountedTurn) (run : ℕ)
    (planned : plan_for old.store.layout (jobs_of old.jobs) turn ≡ Work run) (answer : Answer)
    (mid : DeskView D) (plan : Plan) (done : HasDoneUnit told content may_leave moment left_since run old mid answer plan)
    (events : event_records old.store.layout (content mid.store.disk) ≡ event_records old.store.layout (content old.store.disk)) (shape : IsSpelledPlan plan)
    (stems : (image : List ℕ) → may_leave mid.store.disk image → IsLeftByUnit content may_leave size run old image)
    (event : Event) (is : event_in plan ≡ Some event) where
  abbrev layout : Layout
  layout = old.store.layout

  abbrev image : List ℕ
  image = content old.store.disk

  abbrev office : Office
  office = office_on layout image

  abbrev desk : DeskModel
  desk = (state_of content old).desk

  abbrev after : List ℕ
  after = content mid.store.disk

  abbrev then : DeskModel
  then = (work_of answer run desk).desk

  -- what is known of the unit
  unit-done : StandsBehindUnit layout old.jobs image after desk turn run done.on done.moved done.worked
  unit-done = unit-done-so told content may_leave moment left_since size old trusted turn run planned answer mid plan done events shape stems

  layout-same : mid.store.layout ≡ layout
  layout-same = layout-same-so told content may_leave moment left_since size old trusted turn run planned answer mid plan done events shape stems

  tables-mid : mid.jobs.tables.desk ≡ office.tables
  tables-mid = tables-mid-so told content may_leave moment left_since size old trusted turn run planned answer mid plan done events shape stems event is

  coming : may_keep event None mid ≡ true → IsComing told content may_leave event old then
  coming = coming-so told content may_leave moment left_since size old trusted turn run planned answer mid plan done events shape stems event is

  ensues : Ensues mid.jobs after desk run answer event
  ensues = ensues-so told content may_leave moment left_since size old trusted turn run planned answer mid plan done events shape stems event is

  entries-told : (left : List ℕ) → HasSameRecords layout after left → HasEntries layout office left
  entries-told = entries-told-so told content may_leave moment left_since size old trusted turn run planned answer mid plan done events shape stems event is

  entries-same : may_keep event None mid ≡ true → (left : List ℕ) → HasSameRecords layout after left → HasEntries layout then.office left
  entries-same = entries-same-so told content may_leave moment left_since size old trusted turn run planned answer mid plan done events shape stems event is

  entries-lacking : may_keep event None mid ≡ true → (told_on left : List ℕ) → HasSameRecords layout after told_on → LacksAtMost layout (after_event event None office.tables) event told_on left
      → HasEntries layout then.office left
  entries-lacking = entries-lacking-so told content may_leave moment left_since size old trusted turn run planned answer mid plan done events shape stems event is

  abbrev came : List (List ℕ)
  came = spelling event ∷ []

  abbrev before : List (List ℕ)
  before = event_records layout image

  abbrev LeftBehind : List ℕ → Type 0
  LeftBehind left = HasKept layout (size old.store.disk) before came left

  committed-after : HasCommitted layout office after
  committed-after = committed-so layout old.jobs image after desk turn run done.on done.moved done.worked unit-done image after trusted.stands.committed unit-done.keeps

  -- the event before, on an image that may lack its record
  again-kept : may_keep event None mid ≡ true → (left : List ℕ) → Opens layout (size old.store.disk) (λ records. records ≡ before ++ came) left → HasCommittedAgain layout then.office (Some event) left
      → HasEntries layout then.office left → LeftBehind left
  again-kept might left opens committed entries = kept-behind told content may_leave size old trusted event then (coming might) left opens committed entries

  module _ (sized : size mid.store.disk ≡ size old.store.disk) where
    head-so : (left : List ℕ) → header_of (take 512 left) (size mid.store.disk) ≡ Ok mid.store.layout → header_of (take 512 left) (size old.store.disk) ≡ Ok layout
    head-so left head = ap (header_of (take 512 left)) (sym sized) ∙ head ∙ ap Ok layout-same

    closed-so : (left : List ℕ) → ends_closed (part 512 mid.store.layout.book left) → ends_closed (part 512 layout.book left)
    closed-so left closed = subst (λ (l : Layout). ends_closed (part 512 l.book left)) layout-same closed

    records-so : (left : List ℕ) (more : List (List ℕ)) → event_records mid.store.layout left ≡ event_records mid.store.layout after ++ more → event_records layout left ≡ before ++ more
    records-so left more same = subst (λ (l : Layout). event_records l left ≡ event_records l after ++ more) layout-same same ∙ ap (λ records. records ++ more) events

    told-kept : (left : List ℕ) → may_keep event None mid ≡ true → Opens mid.store.layout (size mid.store.disk) (IsBeforeOrAfter (event_records mid.store.layout after) (spelling event)) left
        → HasSameRecords mid.store.layout after left → LeftBehind left
    told-kept left might opens same_records =
        let same : HasSameRecords layout after left = subst (λ (l : Layout). HasSameRecords l after left) layout-same same_records in
        ⊎_elim
        (λ (was : event_records mid.store.layout left ≡ event_records mid.store.layout after).
        kept-whole told content may_leave size old trusted came left
        (record { head = head-so left opens.head; list = subst (λ (l : Layout). event_records l left ≡ event_records l after) layout-same was ∙ events; closed = closed-so left opens.closed })
        (committed-moves layout office after left trusted.stands.is_desk.kept same committed-after) (entries-told left same))
        (λ (now : event_records mid.store.layout left ≡ event_records mid.store.layout after ++ came).
        again-kept might left (record { head = head-so left opens.head; list = records-so left came now; closed = closed-so left opens.closed }) (ensues.same left same) (entries-same might left same))
        opens.list

    lacking-kept : (left : List ℕ) → IsLeftRewriting content size event mid left → LeftBehind left
    lacking-kept left lacks =
        again-kept lacks.might left (record { head = head-so left lacks.opens.head; list = records-so left came lacks.opens.list; closed = closed-so left lacks.opens.closed })
        (ensues.lacking lacks.told_on left same_records lacks_most) (entries-lacking lacks.might lacks.told_on left same_records lacks_most)
      where
        same_records : HasSameRecords layout after lacks.told_on
        same_records = subst (λ (l : Layout). HasSameRecords l after lacks.told_on) layout-same lacks.same

        lacks_most : LacksAtMost layout (after_event event None office.tables) event lacks.told_on left
        lacks_most =
            subst (λ (l : Layout). LacksAtMost l (after_event event None office.tables) event lacks.told_on left) layout-same
            (subst (λ (tables : TablesModel). LacksAtMost mid.store.layout (after_event event None tables) event lacks.told_on left) tables-mid lacks.lacks)

    pub behind-kept : (left : List ℕ) → IsLeftBehind content may_leave size (Some event) mid left → LeftBehind left
    behind-kept left by = ⊎_elim
        (λ (told_by_then : IsLeftBy content may_leave size event None mid left). ⊎_elim
        (λ (was : OpensSame content size mid left × may_leave mid.store.disk left). unit-kept told content may_leave moment left_since size old trusted turn run planned answer came left (stems left was.1))
        (λ (now : (may_keep event None mid ≡ true) × Opens mid.store.layout (size mid.store.disk) (IsBeforeOrAfter (event_records mid.store.layout after) (spelling event)) left × HasSameRecords mid.store.layout after left).
        told-kept left now.0 now.1 now.2)
        told_by_then)
        (λ (lacks : IsLeftRewriting content size event mid left). lacking-kept left lacks)
        by
