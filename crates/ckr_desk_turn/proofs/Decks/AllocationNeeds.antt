-- The DDs of an accepted deck are such as allocation needs them.
use Rattle.std.proofs.Common.{◌≡◌, ℕ, Bool, true, false, ◌&&◌, ◌||◌, not, List, [], length, map, Option, Some, None, Ok, refl, sym, ◌∙◌, subst, arith, cond, nat_le}
use Rattle.std.specs.Prelude.{bytes_eq, codes, unwrap_or}
use Rattle.std.specs.List.{AllByRecursion}
use Rattle.std.specs.Option.{option_map_or, is_none}
use Rattle.std.proofs.lemmas.Bool.Decides.{nat_tests}
use Rattle.std.proofs.lemmas.Bool.{and_from}
use Rattle.ckr_base.proofs.Sequences.{each-both}
use Rattle.ckr_jcl.specs.declared.deck.After.TheVariants.{Keep}
use Rattle.ckr_jcl.specs.declared.deck.Disp.{Disp}
use Rattle.ckr_jcl.specs.declared.deck.Job.{Job}
use Rattle.ckr_jcl.specs.declared.deck.Origin.{Origin}
use Rattle.ckr_jcl.specs.declared.deck.Origin.TheVariants.{InStream, Dummy}
use Rattle.ckr_jcl.specs.declared.deck.Status.{Status}
use Rattle.ckr_jcl.specs.declared.deck.Status.TheVariants.{New, Old, Shr, Mod}
use Rattle.ckr_jcl.specs.declared.deck.Step.{Step}
use Rattle.ckr_jcl_decks.specs.Parts.DdRule.TheVariants.{WrongSpace, WrongRecords}
use Rattle.ckr_jcl_decks.specs.Parts.VolText.{VolText}
use Rattle.ckr_jcl_decks.specs.Parts.VolText.TheVariants.{Serial, Private, Elsewhere}
use Rattle.ckr_jcl_decks.specs.Parts.DdText.{DdText}
use Rattle.ckr_jcl_decks.specs.Parts.StepText.{StepText}
use Rattle.ckr_jcl_decks.specs.Parts.DcbValues.{is_unfixed_dcb}
use Rattle.ckr_jcl_decks.specs.Parts.DdValues.{disp_of}
use Rattle.ckr_jcl_decks.specs.Parts.DdFaults.{breaks, is_chkdd, is_new as is_new_text, is_out_of_length, is_out_of_space, is_wrong_record, is_wrong_space}
use Rattle.ckr_jcl_decks.specs.Deck.{bytes_of, dd_of, default_length, disposition_of, job_of, record_length, space_of as space_text, step_with, stored_deck, volumes_of}
use Rattle.ckr_library.specs.NameMaps.{Name}
use Rattle.ckr_uses.specs.SetNames.{origin_name, run_name}
use Rattle.ckr_meaning.specs.EffectiveJob.{name_of}
use Rattle.ckr_points_library.specs.Allocation.{fits_dd, fits_space}
use Rattle.ckr_points_library.specs.Holdings.{owned}
use Rattle.ckr_points_library.specs.AllocationSteps.{fits_named}
use Rattle.ckr_desk_turn.specs.DeckLimits.{FitsAllocation}
use Rattle.ckr_desk_turn.proofs.Decks.Origins.{dd_origin, origin-dummy, origin-stream}
use Rattle.ckr_desk_turn.proofs.Decks.DeckTests.{OfStep, NoneMeets, all_pass, none_meets, steps_hold}
use Rattle.ckr_desk_turn.proofs.Decks.Texts.{read_from, IsReadFrom}

-- ---- records

given_length : (given : Option ℕ) (default : ℕ) → (nat_le 1 default && nat_le default 256) ≡ true → is_out_of_length given ≡ false → (nat_le 1 (unwrap_or given default) && nat_le (unwrap_or given default) 256) ≡ true
given_length None default right inside = right
given_length (Some long) default right inside = grind (arith, nat_tests)

right_length : (stream checkpoints unfixed : Bool) (given : Option ℕ) (default : ℕ) → (nat_le 1 default && nat_le default 256) ≡ true → (not checkpoints && (unfixed || is_out_of_length given)) ≡ false
    → (nat_le 1 (cond stream 80 (cond checkpoints 256 (unwrap_or given default))) && nat_le (cond stream 80 (cond checkpoints 256 (unwrap_or given default))) 256) ≡ true
right_length true checkpoints unfixed given default right inside = refl
right_length false true unfixed given default right inside = refl
right_length false false true given default right inside = grind (arith, nat_tests)
right_length false false false given default right inside = given_length given default right inside

default_right : (b : Bool) → (nat_le 1 (cond b 133 80) && nat_le (cond b 133 80) 256) ≡ true
default_right true = refl
default_right false = refl

length_fits : (dd : DdText) → breaks WrongRecords dd ≡ false → (nat_le 1 (record_length dd) && nat_le (record_length dd) 256) ≡ true
unfolding breaks is_wrong_record record_length
length_fits dd right = right_length dd.in_stream (is_chkdd dd) (is_unfixed_dcb dd.dcb) dd.dcb.length (default_length dd) (default_right (dd.sysout || bytes_eq (codes "SYSPRINT") dd.name)) right

-- ---- space

sysout_space : (status : Status) (space : Option ℕ) → ((is_new_text status && is_none space && not (true || false || false)) || is_out_of_space space) ≡ false → fits_space New (Some (unwrap_or space 500)) ≡ true
sysout_space status None right = refl
sysout_space New (Some space) right = grind (arith, nat_tests)
sysout_space Old (Some space) right = grind (arith, nat_tests)
sysout_space Shr (Some space) right = grind (arith, nat_tests)
sysout_space Mod (Some space) right = grind (arith, nat_tests)

own_space : (status : Status) (space : Option ℕ) → ((is_new_text status && is_none space && not (false || false || false)) || is_out_of_space space) ≡ false → fits_space status space ≡ true
own_space New None right = grind (arith, nat_tests)
own_space Old None right = refl
own_space Shr None right = refl
own_space Mod None right = refl
own_space New (Some space) right = grind (arith, nat_tests)
own_space Old (Some space) right = grind (arith, nat_tests)
own_space Shr (Some space) right = grind (arith, nat_tests)
own_space Mod (Some space) right = grind (arith, nat_tests)

right_space : (sysout : Bool) (disp : Disp) (space : Option ℕ) → ((is_new_text disp.status && is_none space && not (sysout || false || false)) || is_out_of_space space) ≡ false
    → fits_space (cond sysout (disp_of (Some New) (Some Keep) (Some Keep)) disp).status (cond sysout (Some (unwrap_or space 500)) space) ≡ true
right_space true disp space right = sysout_space disp.status space right
right_space false disp space right = own_space disp.status space right

space_fits : (dd : DdText) → dd.in_stream ≡ false → dd.dummy ≡ false → breaks WrongSpace dd ≡ false → fits_space (disposition_of dd).status (space_text dd) ≡ true
unfolding breaks is_wrong_space disposition_of space_text
space_fits dd stream dummy right = right_space dd.sysout dd.disp dd.space (rw (stream, dummy) at right)

-- ---- volumes

few_volumes : (volume : Option VolText) → nat_le (length (volumes_of volume)) 1 ≡ true
few_volumes None = refl
few_volumes (Some (Serial serial)) = refl
few_volumes (Some Private) = refl
few_volumes (Some Elsewhere) = refl

-- ---- a DD

and_four : (a b c d : Bool) → (a && b) ≡ true → c ≡ true → d ≡ true → (a && (b && (c && d))) ≡ true
and_four true true c d first second third = and_from c d second third
and_four true false c d first second third = first
and_four false b c d first second third = first

fits_one : (dd : DdText) → dd.in_stream ≡ false → dd.dummy ≡ false → breaks WrongSpace dd ≡ false → breaks WrongRecords dd ≡ false → fits_dd (dd_of dd) ≡ true
unfolding dd_of
fits_one dd stream dummy space records =
    and_four (nat_le 1 (record_length dd)) (nat_le (record_length dd) 256) (fits_space (disposition_of dd).status (space_text dd)) (nat_le (length (volumes_of dd.volume)) 1)
    (length_fits dd records) (space_fits dd stream dummy space) (few_volumes dd.volume)

if_named : (found : Option Name) (fits : Bool) → fits ≡ true → option_map_or (λ (name : Name). fits) found true ≡ true
if_named None fits right = refl
if_named (Some name) fits right = right

fits_by_origin : (root owner : ℕ) (step : Step) (dd : DdText) (origin : Origin) → (dd_of dd).origin ≡ origin
    → option_map_or (λ (name : Name). fits_dd (dd_of dd)) (origin_name origin (run_name root) (run_name owner) step.name (dd_of dd).name) true ≡ true
    → fits_named (name_of root (owned step owner [])) (dd_of dd) ≡ true
fits_by_origin root owner step dd origin is fits =
    subst (λ (o : Origin). option_map_or (λ (name : Name). fits_dd (dd_of dd)) (origin_name o (run_name root) (run_name owner) step.name (dd_of dd).name) true ≡ true) (sym is) fits

named_fits : (root owner : ℕ) (step : Step) (dd : DdText) → breaks WrongSpace dd ≡ false → breaks WrongRecords dd ≡ false → fits_named (name_of root (owned step owner [])) (dd_of dd) ≡ true
named_fits root owner step dd space records = by_stream dd.in_stream refl
  where
    by_dummy : dd.in_stream ≡ false → (dummy : Bool) → dd.dummy ≡ dummy → fits_named (name_of root (owned step owner [])) (dd_of dd) ≡ true
    by_dummy stream true is = fits_by_origin root owner step dd Dummy (dd_origin dd ∙ origin-dummy dd stream is) refl
    by_dummy stream false is = if_named (name_of root (owned step owner []) (dd_of dd)) (fits_dd (dd_of dd)) (fits_one dd stream is space records)

    by_stream : (stream : Bool) → dd.in_stream ≡ stream → fits_named (name_of root (owned step owner [])) (dd_of dd) ≡ true
    by_stream true is = fits_by_origin root owner step dd (InStream (map bytes_of dd.records)) (dd_origin dd ∙ origin-stream dd is) refl
    by_stream false is = by_dummy is dd.dummy refl

-- ---- a step

step_fits : (step : StepText) → NoneMeets (breaks WrongSpace) step.dds → NoneMeets (breaks WrongRecords) step.dds → OfStep FitsAllocation step
unfolding step_with
step_fits step spaces records kind is root owner =
    all_pass (fits_named (name_of root (owned (step_with step kind) owner []))) dd_of step.dds
    (each-both (λ dd. breaks WrongSpace dd ≡ false) (λ dd. breaks WrongRecords dd ≡ false) (λ dd. fits_named (name_of root (owned (step_with step kind) owner [])) (dd_of dd) ≡ true) step.dds
    (λ dd space right. named_fits root owner (step_with step kind) dd space right) spaces records)

fit_in : (job : Job) → IsReadFrom job → AllByRecursion FitsAllocation job.steps
unfolding job_of
fit_in job read =
    subst (λ (j : Job). AllByRecursion FitsAllocation j.steps) (sym read.is)
    (steps_hold FitsAllocation read.text.steps
    (each-both (λ step. NoneMeets (breaks WrongSpace) step.dds) (λ step. NoneMeets (breaks WrongRecords) step.dds) (OfStep FitsAllocation) read.text.steps
    step_fits (none_meets (breaks WrongSpace) read.text.steps read.faultless.spaces) (none_meets (breaks WrongRecords) read.text.steps read.faultless.records)))

pub all_fit : (cards : List ℕ) (job : Job) → stored_deck cards ≡ Ok job → AllByRecursion FitsAllocation job.steps
all_fit cards job accepted = fit_in job (read_from cards job accepted)
