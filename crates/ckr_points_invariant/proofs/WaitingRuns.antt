-- One more event of a run that holds nothing, or that is selected.
use Rattle.std.proofs.Common.{◌≡◌, ◌≢◌, ℕ, zero, suc, Bool, true, false, ◌&&◌, ◌∷◌, ◌++◌, length, refl, ap, sym, ◌∙◌, subst, Option, Some, None, arith, []}
use Rattle.std.specs.Prelude.{◌==◌}
use Rattle.std.specs.Option.{is_none, is_some, option_map_or}
use Rattle.std.proofs.lemmas.Bool.{false≢true}
use Rattle.std.proofs.lemmas.Option.{slice_get_past}
use Rattle.ckr_base.proofs.Bools.{and-first, and-second}
use Rattle.ckr_base.proofs.Options.{option-cases, some-not-none, some-one}
use Rattle.ckr_base.proofs.Sequences.{find-holds, get-append-last, get-append-front}
use Rattle.ckr_events.specs.declared.event.Event.{Event}
use Rattle.ckr_events.specs.declared.event.Event.TheVariants.{Selected}
use Rattle.ckr_jcl.specs.declared.deck.Job.{Job}
use Rattle.ckr_jcl.specs.declared.deck.Restart.{Restart}
use Rattle.ckr_library.specs.NameMaps.{Name}
use Rattle.ckr_meaning.specs.EffectiveJob.{plain_job}
use Rattle.ckr_meaning.specs.declared.place.Place.TheVariants.{Before}
use Rattle.ckr_volumes.specs.declared.layout.Layout.{Layout}
use Rattle.ckr_points.specs.declared.run.RunState.{RunState}
use Rattle.ckr_points.specs.declared.run.RunState.TheVariants.{Queued, On}
use Rattle.ckr_points.specs.Tables.{after_selected, after_submitted, queued_run}
use Rattle.ckr_points.specs.Follows.{follows, is_in_state, may_hold, is_free, may_restart, of_run, same_restart, selected_follows}
use Rattle.ckr_points.specs.Payload.{is_formed, is_orderly}
use Rattle.ckr_points.specs.RuleCases.{is_ended}
use Rattle.ckr_points_invariant.specs.Invariant.{IsAgreed, IsKnownLeg, IsWaiting}
use Rattle.ckr_points.specs.Office.{Leg, Office, is_holder, leg_by, leg_of, no_office, office_after, office_selected, with_leg}
use Rattle.ckr_points.specs.Rows.{RunRow, TablesModel, run_of, with_row, with_run}
use Rattle.ckr_points.specs.Soundness.{may_come, names_first_rule}
use Rattle.ckr_points_invariant.proofs.Decks.Names.{orderly-formed}
use Rattle.ckr_points_invariant.proofs.Select.Invariant.{chosen}
use Rattle.ckr_points_invariant.proofs.Holders.Rows.{leg-number, queued-is, run-other, run-same}
use Rattle.ckr_points_invariant.proofs.Holders.Waits.{WaitsOn, kept-waits}

-- what may come follows
pub follows-of : (layout : Layout) (office : Office) (event : Event) (deck : Option Job) → may_come layout office (event, deck) ≡ true → follows layout office.tables event deck ≡ true
follows-of layout office event deck may = and-first (follows layout office.tables event deck) (names_first_rule layout office.tables event) may

-- a test of a run holds of its row
pub tested-run : {A : Type 0} (tables : TablesModel) (job : ℕ) (test : RunRow → Bool) → of_run tables job test ≡ true → ((row : RunRow) → run_of tables job ≡ Some row → test row ≡ true → A) → A
tested-run tables job test passes use_it =
    option-cases (run_of tables job)
    (λ none. absurd (false≢true (sym (ap (λ o. option_map_or test o false) none) ∙ passes)))
    (λ row e. use_it row e (sym (ap (λ o. option_map_or test o false) e) ∙ passes))

-- ---- no events

pub kept-none : (layout : Layout) → IsAgreed layout no_office
kept-none layout = record {
  extents = record { stand = tt; apart = λ name other one two different here there. absurd (some-not-none one (sym here)) };
  numbered = λ number row e. absurd (some-not-none row (sym e ∙ no_row number));
  waiting = λ number row e queued. absurd (some-not-none row (sym e ∙ no_row number));
  legs = tt;
  led = λ number row e holds. absurd (some-not-none row (sym e ∙ no_row number));
  places = λ number row leg holder. absurd (some-not-none leg (sym holder.leg_at));
  uses = λ number row leg holder. absurd (some-not-none leg (sym holder.leg_at));
  alone = λ one other row next leg fellow name holder there apart given mine. absurd (some-not-none leg (sym holder.leg_at));
  left = λ one other row next leg fellow name holder there apart mine its. absurd (some-not-none leg (sym holder.leg_at));
  since = λ number row leg name holder none mine leaves. absurd (some-not-none leg (sym holder.leg_at));
  held = λ number row leg name holder mine. absurd (some-not-none leg (sym holder.leg_at));
  free = λ name free. refl;
}
  where
    no_row : (number : ℕ) → run_of no_office.tables number ≡ None
    no_row zero = refl
    no_row (suc before) = refl

-- ---- submitted

-- a number that no run has has no leg
pub no_leg : (layout : Layout) (office : Office) (number : ℕ) → IsAgreed layout office → run_of office.tables number ≡ None → leg_of office number ≡ None
no_leg layout office number kept none =
    option-cases (leg_of office number) (λ e. e)
    (λ leg found.
    let is : IsKnownLeg office leg = find-holds (IsKnownLeg office) (λ (one : Leg). one.number == number) office.legs leg kept.legs found in
    absurd (false≢true (sym (ap is_some (ap (run_of office.tables) (leg-number office number leg found) ∙ none)) ∙ is.listed)))

submitted-waits : (layout : Layout) (office : Office) (deck : Job) → IsAgreed layout office → is_formed (plain_job (suc (length office.tables.runs)) deck) ≡ true → WaitsOn office (suc (length office.tables.runs)) (queued_run (suc (length office.tables.runs)) deck) (office.tables.runs ++ queued_run (suc (length office.tables.runs)) deck ∷ [])
submitted-waits layout office deck kept formed = record {
  here = get-append-last office.tables.runs _;
  there = λ other apart. others other apart;
  same = refl;
  deck = λ row row_at. absurd (some-not-none row (sym row_at ∙ past));
  over = refl;
  before = ap (λ (o : Option RunRow). option_map_or (λ row. is_ended row.state) o false) past;
  alone = alone;
  waiting = λ queued. record { alone = alone; job = refl; formed = formed; earlier = refl; own = refl; rcs = refl; passed = refl; lost = refl };
}
  where
    past : run_of office.tables (suc (length office.tables.runs)) ≡ None
    past = slice_get_past office.tables.runs (length office.tables.runs) (omega arith)

    alone : leg_of office (suc (length office.tables.runs)) ≡ None
    alone = no_leg layout office (suc (length office.tables.runs)) kept past

    others : (other : ℕ) → other ≢ suc (length office.tables.runs) → run_of (record { sets = office.tables.sets; runs = office.tables.runs ++ queued_run (suc (length office.tables.runs)) deck ∷ [] }) other ≡ run_of office.tables other
    others zero apart = refl
    others (suc place) apart = get-append-front office.tables.runs _ place (λ e. apart (ap suc e))

pub kept-comes : (layout : Layout) (office : Office) (deck : Job) → IsAgreed layout office → is_orderly (suc (length office.tables.runs)) deck ≡ true → IsAgreed layout (record office { tables = after_submitted (suc (length office.tables.runs)) deck office.tables })
kept-comes layout office deck kept orderly =
    let next : ℕ = suc (length office.tables.runs) in
    kept-waits layout office next (queued_run next deck) (office.tables.runs ++ queued_run next deck ∷ []) kept (submitted-waits layout office deck kept (orderly-formed next deck orderly))

-- ---- a run that waits goes

-- a waiting run that ends so
dropped : (layout : Layout) (office : Office) (row : RunRow) (state : RunState) → IsAgreed layout office → run_of office.tables row.number ≡ Some row → is_in_state Queued row ≡ true → is_holder state ≡ false → (is_in_state Queued (record row { state = state }) ≡ true → ⊥) → IsAgreed layout (record office { tables = with_run (record row { state = state }) office.tables })
dropped layout office row state kept row_at queued over busy =
    kept-waits layout office row.number (record row { state = state }) (with_row (record row { state = state }) row.number office.tables.runs) kept
    (record {
      here = run-same office.tables (record row { state = state }) row row.number row_at refl;
      there = λ other apart. run-other office.tables (record row { state = state }) other apart;
      same = refl;
      deck = λ its at. ap (λ (row : RunRow). row.deck) (some-one row its (run_of office.tables row.number) row_at at);
      over = over;
      before = ap (λ (o : Option RunRow). option_map_or (λ row. is_ended row.state) o false) row_at ∙ ap is_ended (queued-is row.state queued);
      alone = (kept.waiting row.number row row_at queued).alone;
      waiting = λ again. absurd (busy again);
    })

-- the row of a number, at its own number
own-row : (layout : Layout) (office : Office) (job : ℕ) (row : RunRow) → IsAgreed layout office → run_of office.tables job ≡ Some row → run_of office.tables row.number ≡ Some row
own-row layout office job row kept e = ap (run_of office.tables) (kept.numbered job row e) ∙ e

pub kept-gone : (layout : Layout) (office : Office) (job : ℕ) (row : RunRow) (state : RunState) → IsAgreed layout office → run_of office.tables job ≡ Some row → is_in_state Queued row ≡ true → is_holder state ≡ false → is_in_state Queued (record row { state = state }) ≡ false → IsAgreed layout (record office { tables = with_run (record row { state = state }) office.tables })
kept-gone layout office job row state kept e queued over gone = dropped layout office row state kept (own-row layout office job row kept e) queued over (λ again. false≢true (sym gone ∙ again))

-- ---- selected

no_restart : (layout : Layout) (tables : TablesModel) (initiator step : ℕ) (id : Option Name) (row : RunRow) → selected_follows layout tables initiator 0 step id row ≡ true → row.deck.restart ≡ None
no_restart layout tables initiator step id row passes =
    by row.deck.restart (and-second (is_in_state Queued row && is_free layout tables initiator && may_hold tables row) _ passes)
  where
    last_false : (b : Bool) → (b && false) ≡ true → false ≡ true
    last_false true e = e
    last_false false e = e

    by : (restart : Option Restart) → option_map_or (λ restart. may_restart tables row restart 0 step id) restart (true && step == 0 && is_none id) ≡ true → restart ≡ None
    by None e = refl
    by (Some restart) e = absurd (false≢true (last_false (same_restart restart step id) e))

-- what holds of the office with such a run chosen holds behind Selected
pub by-selected : (Q : Office → Type 0) (layout : Layout) (office : Office) (job initiator step : ℕ) (id : Option Name) (deck : Option Job) (kept : IsAgreed layout office) → may_come layout office (Selected job initiator 0 step id, deck) ≡ true → ((row : RunRow) (row_at : run_of office.tables row.number ≡ Some row) (queued : is_in_state Queued row ≡ true) (plain : row.deck.restart ≡ None) (may : may_hold office.tables row ≡ true) → Q (chosen layout office row initiator kept row_at queued plain may)) → Q (office_after (Selected job initiator 0 step id, deck) office)
by-selected Q layout office job initiator step id deck kept may each =
    tested-run office.tables job (selected_follows layout office.tables initiator 0 step id) (follows-of layout office (Selected job initiator 0 step id) deck may)
    (λ row e passes.
    let ready : (is_in_state Queued row && is_free layout office.tables initiator && may_hold office.tables row) ≡ true = and-first (is_in_state Queued row && is_free layout office.tables initiator && may_hold office.tables row) _ passes in
    let queued : is_in_state Queued row ≡ true = and-first (is_in_state Queued row) (is_free layout office.tables initiator) (and-first (is_in_state Queued row && is_free layout office.tables initiator) _ ready) in
    let row_at : run_of office.tables row.number ≡ Some row = own-row layout office job row kept e in
    let next : RunRow = record row { state = On; initiator = Some initiator; place = Some (Before 1) } in
    let waits : IsWaiting office row = kept.waiting row.number row row_at queued in
    subst Q
    (sym (
    ap (λ (o : Option RunRow). office_selected office job (option_map_or (λ row. after_selected row initiator office.tables) o office.tables)) e
    ∙ ap (λ (o : Option RunRow). let now : Office = record office { tables = with_run next office.tables; legs = option_map_or (λ row. with_leg (leg_by office row row.earlier) office.legs) o office.legs } in now) (run-same office.tables next row job e (kept.numbered job row e))
    ∙ ap (λ earlier. let now : Office = record office { tables = with_run next office.tables; legs = with_leg (leg_by office next earlier) office.legs } in now) waits.earlier))
    (each row row_at queued (no_restart layout office.tables initiator step id row passes) (and-second (is_in_state Queued row && is_free layout office.tables initiator) _ ready)))
