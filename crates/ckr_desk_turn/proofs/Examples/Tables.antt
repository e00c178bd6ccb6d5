-- The tables of worked decks, event by event.
use Rattle.std.specs.Prelude.{◌≡◌, ℕ, true, false, Bool, List, [], ◌∷◌, map, codes, Option, None, refl}
use Rattle.ckr_base.specs.declared.code.Code.TheVariants.{System}
use Rattle.ckr_events.specs.declared.event.Event.TheVariants.{Submitted, Selected, Started, StepEnded, Ended}
use Rattle.ckr_events.specs.declared.event.Ending.TheVariants.{Completed, Coded}
use Rattle.ckr_events.specs.declared.event.Made.{Made}
use Rattle.ckr_jcl.specs.declared.deck.Job.{Job}
use Rattle.ckr_jcl_decks.proofs.Definitions.{decks_open}
use Rattle.ckr_jcl_decks.proofs.Examples.Rows.{payroll}
use Rattle.ckr_library.specs.NameMaps.{Name}
use Rattle.ckr_meaning.proofs.Definitions.{jobs_open}
use Rattle.ckr_desk_turn.proofs.Examples.Decks.{deck, copy, old_masters}
use Rattle.ckr_points.specs.Restart.{Decked, tables_of}
use Rattle.ckr_points.specs.Rows.{TableSet, TablesModel}

-- a line of the listing: the name, the volume, the catalog mark, the length and the space, and the stamp
abbrev listed_one : Name × TableSet → Name × Bool × (ℕ × ℕ) × (ℕ × ℕ × ℕ)
listed_one entry = (entry.0, entry.1.set.cataloged, (entry.1.set.length, entry.1.set.space), (entry.1.set.stamp.run, entry.1.set.stamp.step, entry.1.set.stamp.rewrites))

abbrev listed : TablesModel → List (Name × Bool × (ℕ × ℕ) × (ℕ × ℕ × ℕ))
listed tables = map listed_one tables.sets

-- a data set in one extent
abbrev pub in_one : ℕ → ℕ → ℕ → ℕ → Made
in_one dd volume start records = record {
  dd = dd;
  volume = volume;
  pieces = record { items = record { start = start; records = records } ∷ [] };
}

abbrev pub submitted : ℕ → Option Job → Decked
submitted job deck = (Submitted job (0 ∷ []), deck)

abbrev pub selected : ℕ → Decked
selected job = (Selected job 1 0 0 None, None)

abbrev pub started : ℕ → ℕ → List Made → Decked
started job step items = (Started job step (record { items = items }), None)

abbrev pub step_ended : ℕ → ℕ → ℕ → ℕ → List ℕ → Decked
step_ended job step rc writes lengths = (StepEnded job step rc writes (record { items = lengths }), None)

abbrev pub ended : ℕ → Decked
ended job = (Ended job Completed, None)

-- no card is copied into a new data set
no_cards : listed (tables_of (
    submitted 1 (deck (copy [] (codes "(80,10)"))) ∷ selected 1 ∷ started 1 1 (in_one 2 0 0 10 ∷ []) ∷ step_ended 1 1 0 0 (0 ∷ []) ∷ ended 1 ∷ []))
    ≡ (codes "OUT.A", true, (0, 10), (1, 1, 0)) ∷ []
unfolding decks_open jobs_open
no_cards = refl

-- it isn't cataloged before the step ends
not_yet : listed (tables_of (
    submitted 1 (deck (copy [] (codes "(80,10)"))) ∷ selected 1 ∷ started 1 1 (in_one 2 0 0 10 ∷ []) ∷ []))
    ≡ (codes "OUT.A", false, (0, 10), (1, 1, 0)) ∷ []
unfolding decks_open jobs_open
not_yet = refl

-- a job that is given up in its step leaves what it has committed, and here by its disposition nothing more than that
given_up : listed (tables_of (
    submitted 1 (deck (copy (codes "A" ∷ codes "B" ∷ codes "C" ∷ codes "D" ∷ []) (codes "(80,3)"))) ∷ selected 1 ∷ started 1 1 (in_one 2 0 0 3 ∷ [])
    ∷ (Ended 1 (Coded (System 2871) 2 3 (record { items = 3 ∷ [] })), None) ∷ []))
    ≡ (codes "OUT.A", true, (3, 3), (1, 1, 0)) ∷ []
unfolding decks_open jobs_open
given_up = refl

-- the payroll job passes the new masters to its second step, which catalogs them
paid : listed (tables_of (
    submitted 1 (deck old_masters) ∷ selected 1 ∷ started 1 1 (in_one 2 0 0 10 ∷ []) ∷ step_ended 1 1 0 3 (3 ∷ []) ∷ ended 1
    ∷ submitted 2 (deck payroll) ∷ selected 2
    ∷ started 2 1 (in_one 3 1 0 100 ∷ in_one 4 0 800 500 ∷ []) ∷ step_ended 2 1 4 5 (4 ∷ 1 ∷ [])
    ∷ started 2 2 (in_one 2 0 67300 500 ∷ []) ∷ step_ended 2 2 0 6 (6 ∷ []) ∷ ended 2 ∷ []))
    ≡ (codes "PAY.MASTER.NEW", true, (4, 100), (2, 1, 0))
    ∷ (codes "PAY.MASTER.OLD", true, (3, 10), (1, 1, 0))
    ∷ (codes "SYSOUT.J0000002.LIST.SYSPRINT", false, (6, 500), (2, 2, 0))
    ∷ (codes "SYSOUT.J0000002.UPD.REJECTS", false, (1, 500), (2, 1, 0))
    ∷ []
unfolding decks_open jobs_open
paid = refl
