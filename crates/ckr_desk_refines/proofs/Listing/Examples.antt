-- Which names are held: those of the deck of a run that continues another one, by the root and the owners of its job.
use Rattle.std.specs.Prelude.{◌≡◌, Bool, true, false, [], ◌∷◌, codes, None, Some, refl}
use Rattle.ckr_jcl.specs.declared.deck.Dd.{Dd}
use Rattle.ckr_jcl.specs.declared.deck.Job.{Job}
use Rattle.ckr_jcl.specs.declared.deck.Origin.{Origin}
use Rattle.ckr_jcl.specs.declared.deck.Origin.TheVariants.{Named, Sysout, Temporary}
use Rattle.ckr_jcl.specs.declared.deck.Role.TheVariants.{Unused}
use Rattle.ckr_jcl.specs.declared.deck.Status.TheVariants.{Old}
use Rattle.ckr_library.specs.NameMaps.{Name}
use Rattle.ckr_points.specs.declared.run.RunState.{RunState}
use Rattle.ckr_points.specs.declared.run.RunState.TheVariants.{Ended, Held, On, Queued}
use Rattle.ckr_points.specs.Restart.{spliced}
use Rattle.ckr_points.specs.Rows.{RunRow}
use Rattle.ckr_points.specs.Tables.{queued_run}
use Rattle.ckr_points.proofs.Examples.Jobs.{deck, step}
use Rattle.ckr_desk_refines.specs.Listing.{is_held}

abbrev dd : Origin → Dd
dd origin = record {
  name = codes "D";
  role = Unused;
  origin = origin;
  disp = record { status = Old; normal = None; abnormal = None };
  volumes = record { items = [] };
  space = None;
  lrecl = 0;
}

abbrev named : Name → Dd
named name = dd (Named name)

-- run 1 has the steps A and B
abbrev first : RunRow
first = record (queued_run 1 (deck None (step (codes "A") (named (codes "X.A") ∷ []) ∷ step (codes "B") (named (codes "X.B") ∷ []) ∷ []))) { state = Ended }

-- run 2 continues it at B. Its own deck reads another data set in the first step, and has SYSCHK
abbrev second_deck : Job
second_deck =
    record (deck (Some (record { step = 2; id = Some (codes "C1") }))
    (step (codes "Z") (named (codes "X.Z") ∷ dd Sysout ∷ dd (Temporary (codes "T")) ∷ []) ∷ step (codes "B") (named (codes "X.B") ∷ []) ∷ step (codes "C") (dd Sysout ∷ []) ∷ [])) {
      syschk = Some (named (codes "X.C"));
    }

abbrev second : RunState → RunRow
second state = record (queued_run 2 second_deck) { job = spliced first.job 2 2 second_deck; state = state; earlier = 1; earlier_step = 2 }

abbrev held_in : RunState → Name → Bool
held_in state name = is_held (record { sets = []; runs = first ∷ second state ∷ [] }) name

-- the names of its deck, not those of its job
own_first_step : held_in On (codes "X.Z") ≡ true
own_first_step = refl

earlier_first_step : held_in On (codes "X.A") ≡ false
earlier_first_step = refl

where_it_began : held_in On (codes "X.B") ≡ true
where_it_began = refl

syschk : held_in On (codes "X.C") ≡ true
syschk = refl

-- with the owners of the steps of its job: run 1 up to B, and itself behind it
owned_by_the_earlier : held_in On (codes "SYSOUT.J0000001.Z.D") ≡ true
owned_by_the_earlier = refl

not_its_own : held_in On (codes "SYSOUT.J0000002.Z.D") ≡ false
not_its_own = refl

owned_by_itself : held_in On (codes "SYSOUT.J0000002.C.D") ≡ true
owned_by_itself = refl

-- and with its root
rooted : held_in On (codes "SYSTEMP.J0000001.T") ≡ true
rooted = refl

not_rooted : held_in On (codes "SYSTEMP.J0000002.T") ≡ false
not_rooted = refl

-- from its selection to its end, being held by the operator included
queued : held_in Queued (codes "X.Z") ≡ false
queued = refl

held_run : held_in Held (codes "X.Z") ≡ true
held_run = refl

ended : held_in Ended (codes "X.Z") ≡ false
ended = refl
