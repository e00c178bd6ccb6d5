-- Lines that are told, and what is written of them.
use Rattle.std.proofs.Common.{◌≡◌, ◌≤◌, ℕ, Bool, true, false, List, [], ◌++◌, Option, Result, Ok, Err, OnOk, inl, inr, refl, sym, ap, subst, ◌∙◌, append_assoc, append-nil, arith}
use Rattle.std.specs.Io.KnownBytes.{Appends}
use Rattle.ckr_base.proofs.KnownBytes.{Appends-nil, Appends-trans}
use Rattle.ckr_outside.specs.Faults.{Rose}
use Rattle.ckr_outside.specs.Front.{AppendsFront}
use Rattle.ckr_session.specs.declared.stop.Halt.{Halt}
use Rattle.ckr_session.specs.declared.stop.Halt.TheVariants as Halts
use Rattle.ckr_session.specs.Lines.{EndsTold, IsTold, Telling, TellsSo, ToldBy, WritesAll, WritesFront}

pub rose_by : (before between now : ℕ) → before ≤ between → Rose between now → Rose before now
rose_by before between now later rose = elim rose [ inl less ↦ inl (omega arith) | inr top ↦ inr top ]

front_more : (old new : Option (List ℕ)) (told more : List ℕ) → AppendsFront old new told → AppendsFront old new (told ++ more)
front_more old new told more front = (front.0, front.1 ++ more, ap (λ l. l ++ more) front.2 ∙ append_assoc front.0 front.1 more, front.3)

pub front_longer : (old new : Option (List ℕ)) (told more whole : List ℕ) → whole ≡ told ++ more → AppendsFront old new told → AppendsFront old new whole
front_longer old new told more whole is front = subst (AppendsFront old new) (sym is) (front_more old new told more front)

-- ---- nothing is written yet

pub told_here : (from to : Telling) → to.failed ≡ false → to.written ≡ from.written → IsTold from to.waits to
told_here from to fresh same = record {
  by = subst (λ (b : Bool). ToldBy b from to.waits to) (sym fresh)
      ([], refl, subst (λ (w : Option (List ℕ)). Appends from.written w []) (sym same) (Appends-nil from.written));
}

-- ---- more is told

more_by : (failed : Bool) (from : Telling) (told more waits waits' : List ℕ) (written : Option (List ℕ)) (faults : ℕ) → waits' ≡ waits ++ more
    → ToldBy failed from told (record { waits = waits; failed = failed; written = written; faults = faults })
    → ToldBy failed from (told ++ more) (record { waits = waits'; failed = failed; written = written; faults = faults })
more_by false from told more waits waits' written faults grown by =
    (by.0, ap (λ l. l ++ more) by.1 ∙ append_assoc by.0 waits more ∙ ap (λ l. by.0 ++ l) (sym grown), by.2)
more_by true from told more waits waits' written faults grown by = (by.0, front_more from.written written told more by.1)

pub told_more : (from : Telling) (told more waits waits' : List ℕ) (failed : Bool) (written : Option (List ℕ)) (faults : ℕ) → waits' ≡ waits ++ more
    → IsTold from told (record { waits = waits; failed = failed; written = written; faults = faults })
    → IsTold from (told ++ more) (record { waits = waits'; failed = failed; written = written; faults = faults })
told_more from told more waits waits' failed written faults grown is = record { by = more_by failed from told more waits waits' written faults grown is.by }

-- ---- a front is written

front_by : (failed : Bool) (from to : Telling) (told more whole : List ℕ) → whole ≡ told ++ more → ToldBy failed from told to → AppendsFront from.written to.written whole
front_by false from to told more whole is by = (by.0, to.waits ++ more, is ∙ ap (λ l. l ++ more) by.1 ∙ append_assoc by.0 to.waits more, by.2)
front_by true from to told more whole is by = front_longer from.written to.written told more whole is by.1

pub front_told : (from to : Telling) (told more whole : List ℕ) → whole ≡ told ++ more → IsTold from told to → AppendsFront from.written to.written whole
front_told from to told more whole is told_is = front_by to.failed from to told more whole is told_is.by

pub ends_told : (halt : Halt) (from to : Telling) (told more whole : List ℕ) → whole ≡ told ++ more → IsTold from told to → EndsTold halt from whole told to
ends_told Halts.Memory from to told more whole is told_is = front_told from to told more whole is told_is
ends_told Halts.Book from to told more whole is told_is = told_is
ends_told Halts.Disk from to told more whole is told_is = told_is

-- nothing was written meanwhile
pub ends_quiet : (halt : Halt) (from to : Telling) (whole : List ℕ) → to.failed ≡ false → to.written ≡ from.written → EndsTold halt from whole to.waits to
ends_quiet Halts.Memory from to whole fresh same = ([], whole, refl, subst (λ (w : Option (List ℕ)). Appends from.written w []) (sym same) (Appends-nil from.written))
ends_quiet Halts.Book from to whole fresh same = told_here from to fresh same
ends_quiet Halts.Disk from to whole fresh same = told_here from to fresh same

-- ---- of a call's result

pub tells_on : {T E : Type 0} (r : Result T E) (So : List ℕ → Type 0) (from to : Telling) (told : List ℕ) → OnOk r (So told) → OnOk r (IsTold from told to) → OnOk r (TellsSo So from to)
tells_on (Ok x) So from to told so is = record { told = told; so = so; is = is }
tells_on (Err e) So from to told so is = tt

pub tells_quiet : {T E : Type 0} (r : Result T E) (So : List ℕ → Type 0) (from to : Telling) → to.failed ≡ false → to.written ≡ from.written → OnOk r (So to.waits) → OnOk r (TellsSo So from to)
tells_quiet (Ok x) So from to fresh same so = record { told = to.waits; so = so; is = told_here from to fresh same }
tells_quiet (Err e) So from to fresh same so = tt

-- ---- what waits is written

-- all of it
written_by : (failed : Bool) (from to : Telling) (told : List ℕ) (new : Option (List ℕ)) → failed ≡ false → Appends to.written new to.waits → ToldBy failed from told to → Appends from.written new told
written_by false from to told new fresh whole by = subst (Appends from.written new) (sym by.1) (Appends-trans from.written to.written new by.0 to.waits by.2 whole)
written_by true from to told new fresh whole by = cc

pub writes_all : (to : Telling) (new : Option (List ℕ)) → to.failed ≡ false → Appends to.written new to.waits → WritesAll to new
writes_all to new fresh whole from told later is = written_by to.failed from to told new fresh whole is.by

-- a front of it
front_written_by : (failed : Bool) (from to : Telling) (told : List ℕ) (new : Option (List ℕ)) → failed ≡ false → AppendsFront to.written new to.waits → ToldBy failed from told to → AppendsFront from.written new told
front_written_by false from to told new fresh front by = (
  by.0 ++ front.0,
  front.1,
  by.1 ∙ ap (λ l. by.0 ++ l) front.2 ∙ sym (append_assoc by.0 front.0 front.1),
  Appends-trans from.written to.written new by.0 front.0 by.2 front.3,
)
front_written_by true from to told new fresh front by = cc

pub writes_front : (to : Telling) (new : Option (List ℕ)) → to.failed ≡ false → AppendsFront to.written new to.waits → WritesFront to new
writes_front to new fresh front from told later is = front_written_by to.failed from to told new fresh front is.by

-- ---- what is told stays told

-- all that waited is written, and nothing waits
pub stays_written : (from to to' : Telling) (told : List ℕ) → from.faults ≤ to.faults → to'.failed ≡ false → to'.waits ≡ [] → WritesAll to to'.written → IsTold from told to → IsTold from told to'
stays_written from to to' told later fresh empty all is = record {
  by = subst (λ (b : Bool). ToldBy b from told to') (sym fresh)
      (told, sym (append-nil told) ∙ ap (λ l. told ++ l) (sym empty), all from told later is);
}

-- the write has failed
pub stays_failed : (from to to' : Telling) (told : List ℕ) → from.faults ≤ to.faults → to'.failed ≡ true → Rose from.faults to'.faults → WritesFront to to'.written → IsTold from told to → IsTold from told to'
stays_failed from to to' told later failed rose front is = record { by = subst (λ (b : Bool). ToldBy b from told to') (sym failed) (rose, front from told later is) }

-- ---- nothing waits

all_by : (failed : Bool) (from to : Telling) (told : List ℕ) → failed ≡ false → to.waits ≡ [] → ToldBy failed from told to → Appends from.written to.written told
all_by false from to told fresh empty by = subst (Appends from.written to.written) (sym (by.1 ∙ ap (λ l. by.0 ++ l) empty ∙ append-nil by.0)) by.2
all_by true from to told fresh empty by = cc

pub all_written : (from to : Telling) (told : List ℕ) → to.failed ≡ false → to.waits ≡ [] → IsTold from told to → Appends from.written to.written told
all_written from to told fresh empty is = all_by to.failed from to told fresh empty is.by
