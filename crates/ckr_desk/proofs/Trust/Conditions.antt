-- What is said of a disk that tells, where it does.
use Rattle.std.proofs.Common.{ℕ, List}
use Rattle.ckr_library.specs.Catalog.{Catalog}
use Rattle.ckr_library.specs.NameMaps.{Name}
use Rattle.ckr_meaning.specs.LibrarySet.{Library}
use Rattle.ckr_meaning.specs.StepRun.{StepStart}
use Rattle.ckr_steps.specs.declared.step_run.StepRun.{StepRun}
use Rattle.ckr_steps.specs.declared.step_run.Worked.{Worked}
use Rattle.ckr_steps.specs.declared.step_run.Worked.TheVariants.{Went, Rewrite, Abend}
use Rattle.ckr_steps.specs.Places.{GoesOn}
use Rattle.ckr_steps.specs.StepUnit.{HasWorked}
use Rattle.ckr_steps.specs.Writes.{IsShown, Shows}
use Rattle.ckr_volumes.specs.declared.layout.Layout.{Layout}

module _ (told : Type 0) (tells : told) (image : List ℕ) (layout : Layout) where
  pub shows-in : (names : List Name) (model : Library) (catalog : Catalog) → Shows (Unit {0}) image layout names model catalog → Shows told image layout names model catalog
  shows-in names model catalog shows = λ name set among at plain.
      let its : IsShown (Unit {0}) image layout set catalog name = shows name set among at plain in
      record { set = its.set; is = its.is; shows = record { lrecl = its.shows.lrecl; space = its.shows.space; length = its.shows.length; records = λ is. its.shows.records tt } }

  pub shows-out : (names : List Name) (model : Library) (catalog : Catalog) → Shows told image layout names model catalog → Shows (Unit {0}) image layout names model catalog
  shows-out names model catalog shows = λ name set among at plain.
      let its : IsShown told image layout set catalog name = shows name set among at plain in
      record { set = its.set; is = its.is; shows = record { lrecl = its.shows.lrecl; space = its.shows.space; length = its.shows.length; records = λ is. its.shows.records tells } }

  pub goes-out : (start : StepStart) (before : ℕ) (old new : StepRun) (catalog : Catalog) (worked : Worked) → GoesOn told image layout start before old new catalog worked → GoesOn (Unit {0}) image layout start before old new catalog worked
  goes-out start before old new catalog (Went taken) goes = record { closed = goes.closed; stands = goes.stands; served = goes.served; shows = shows-out _ _ catalog goes.shows }
  goes-out start before old new catalog (Rewrite place bytes taken) goes = record {
    stands = goes.stands;
    served = goes.served;
    program = goes.program;
    rewritten = goes.rewritten;
    name = goes.name;
    updates = goes.updates;
    stood = goes.stood;
    below = goes.below;
    write = goes.write;
    goes = goes.goes;
    fits = goes.fits;
    more = goes.more;
    counted = goes.counted;
    shows = shows-out _ _ catalog goes.shows;
  }
  goes-out start before old new catalog (Abend code) goes = record { finish = goes.finish; writes = goes.writes; shows = shows-out _ _ catalog goes.shows }

pub worked-out : (told : Type 0) → told → (before after : List ℕ) (layout : Layout) (old new : StepRun) (catalog later : Catalog) (worked : Worked)
    → HasWorked told before after layout old new catalog later worked → HasWorked (Unit {0}) before after layout old new catalog later worked
worked-out told tells before after layout old new catalog later worked did = record {
  heads = did.heads;
  read = λ is. did.read tells;
  done = did.done;
  written = record { shows = λ names model shows. shows-out told tells after layout names _ later (did.written.shows names model (shows-in told tells before layout names model catalog shows)) };
}
