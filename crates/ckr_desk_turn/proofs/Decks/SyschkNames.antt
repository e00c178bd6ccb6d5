-- The SYSCHK of an accepted deck names a data set.
use Rattle.std.proofs.Common.{◌≡◌, ℕ, Bool, true, false, ◌||◌, not, List, Option, Some, None, Ok, refl, sym, subst}
use Rattle.std.proofs.lemmas.Bool.{not-false, not-true}
use Rattle.std.specs.Option.{is_some, option_map}
use Rattle.ckr_base.proofs.Bools.{and-first, and-second, or-first-false, or-second-false}
use Rattle.ckr_base.proofs.Options.{option_or-none, some-not-none}
use Rattle.ckr_jcl.specs.Text.{if_holds}
use Rattle.ckr_jcl.specs.declared.deck.Job.{Job}
use Rattle.ckr_jcl_decks.specs.Parts.DdFaults.{breaks, is_ill_formed, is_left_out_dd, is_library, is_referring_name, is_temporary}
use Rattle.ckr_jcl_decks.specs.Parts.DdRule.TheVariants.{IllNamed, LeftOut}
use Rattle.ckr_jcl_decks.specs.Parts.DdText.{DdText}
use Rattle.ckr_jcl_decks.specs.Parts.DsnText.{DsnText}
use Rattle.ckr_jcl_decks.specs.Parts.DsnText.TheVariants.{IllFormed, Passing, Permanent, Referring}
use Rattle.ckr_jcl_decks.specs.Parts.JobText.{JobText}
use Rattle.ckr_jcl_decks.specs.DeckFaults.{checkpoint_fault, dd_in_steps, dd_or_syschk, is_right_syschk, names_checkpoint, syschk_fault, syschk_where}
use Rattle.ckr_jcl_decks.specs.Deck.{job_of, named_origin, stored_deck, syschk_of}
use Rattle.ckr_points.specs.Syschk.{names_its_set}
use Rattle.ckr_desk_turn.proofs.Decks.Texts.{IsFaultless, IsReadFrom, read_from}
use Rattle.ckr_uses.specs.Uses.{written_name}

-- ---- a DD

-- a DSN that is no temporary one, refers to no other DD and is in the grammar
record IsLasting (dsn : Option DsnText) : Type 0 where
  given : is_some dsn ≡ true
  lasting : is_temporary dsn ≡ false
  own : is_referring_name dsn ≡ false
  formed : is_ill_formed dsn ≡ false

dsn-named : (dsn : Option DsnText) → IsLasting dsn → is_some (written_name (named_origin dsn)) ≡ true
unfolding named_origin
dsn-named None is = is.given
dsn-named (Some (Permanent name)) is = refl
dsn-named (Some (Passing name)) is = sym is.lasting
dsn-named (Some Referring) is = sym is.own
dsn-named (Some IllFormed) is = sym is.formed

dd-lasting : (dd : DdText) → is_right_syschk dd ≡ true → breaks LeftOut dd ≡ false → breaks IllNamed dd ≡ false → IsLasting dd.dsn
unfolding is_right_syschk breaks is_left_out_dd
dd-lasting dd right kept formed = record {
  given = and-first (is_some dd.dsn) _ (and-first _ (not (is_temporary dd.dsn)) (and-first _ _ right));
  lasting = not-true (is_temporary dd.dsn) (and-second _ (not (is_temporary dd.dsn)) (and-first _ _ right));
  own = or-first-false (is_referring_name dd.dsn) _ (or-first-false _ dd.dcb.refers (or-first-false _ (is_library dd.name) (or-first-false _ _ kept)));
  formed = formed;
}

dd-named : (dd : DdText) → is_right_syschk dd ≡ true → breaks LeftOut dd ≡ false → breaks IllNamed dd ≡ false → is_some (written_name (syschk_of dd).origin) ≡ true
unfolding syschk_of
dd-named dd right kept formed = dsn-named dd.dsn (dd-lasting dd right kept formed)

-- ---- a deck

-- a rule that isn't broken
unbroken : (broken : Bool) (card : ℕ) → if_holds broken card ≡ None → broken ≡ false
unbroken true card none = absurd (some-not-none card none)
unbroken false card none = refl

-- its SYSCHK has no fault
syschk-named : (syschk : Option DdText) (wanted : Bool) (card : ℕ) → syschk_fault syschk wanted card ≡ None → syschk_where (breaks LeftOut) syschk ≡ None → syschk_where (breaks IllNamed) syschk ≡ None
    → names_its_set (option_map syschk_of syschk) ≡ true
syschk-named None wanted card right kept formed = refl
syschk-named (Some dd) wanted card right kept formed =
    dd-named dd
    (not-false (is_right_syschk dd) (or-second-false (not wanted) (not (is_right_syschk dd)) (unbroken (not wanted || not (is_right_syschk dd)) dd.card right)))
    (unbroken (breaks LeftOut dd) dd.card kept) (unbroken (breaks IllNamed dd) dd.card formed)

text-named : (cards : ℕ) (text : JobText) → IsFaultless cards text → names_its_set (option_map syschk_of text.syschk) ≡ true
unfolding checkpoint_fault dd_or_syschk
text-named cards text faultless =
    syschk-named text.syschk (names_checkpoint text.restart) text.card faultless.checkpoint
    (option_or-none (syschk_where (breaks LeftOut) text.syschk) (dd_in_steps (breaks LeftOut) text.steps) faultless.left_out).0
    (option_or-none (syschk_where (breaks IllNamed) text.syschk) (dd_in_steps (breaks IllNamed) text.steps) faultless.ill_named).0

job-named : (job : Job) → IsReadFrom job → names_its_set job.syschk ≡ true
unfolding job_of
job-named job read = subst (λ (j : Job). names_its_set j.syschk ≡ true) (sym read.is) (text-named read.cards read.text read.faultless)

pub deck-syschk : (cards : List ℕ) (job : Job) → stored_deck cards ≡ Ok job → names_its_set job.syschk ≡ true
deck-syschk cards job accepted = job-named job (read_from cards job accepted)
