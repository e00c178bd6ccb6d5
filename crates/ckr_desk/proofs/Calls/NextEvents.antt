-- The event of a deck that is submitted under the next number follows on any disk.
use Rattle.std.proofs.Common.{◌≡◌, ◌≤◌, ◌*◌, ◌/◌, ℕ, List, [], ◌∷◌, Bool, true, false, cond, length, nat_le, refl, sym, subst, arith, Some, None}
use Rattle.std.proofs.lemmas.Bool.{and_from}
use Rattle.std.proofs.lemmas.Option.{same_Some}
use Rattle.ckr_base.proofs.Numbers.{equal-itself, nat_le-true}
use Rattle.ckr_base.proofs.Options.{some-not-none}
use Rattle.ckr_events.specs.declared.event.Event.TheVariants.{Submitted}
use Rattle.ckr_jcl.specs.declared.deck.Job.{Job}
use Rattle.ckr_points.specs.Follows.{follows}
use Rattle.ckr_points.specs.Rows.{TablesModel}
use Rattle.ckr_desk_turn.proofs.Decks.KeptCards.{kept_long}
use Rattle.ckr_desk_turn.specs.Cards.{kept_of_stored}
use Rattle.ckr_volumes.specs.declared.layout.Layout.{Layout}
use Rattle.ckr_desk.specs.Submit.{job_number, next_number}

-- a job that gets a number gets the next one, of at most seven digits
pub numbered-next : (tables : TablesModel) (number : ℕ) → job_number tables ≡ Some number → (number ≡ next_number tables) × (number ≤ 9999999)
unfolding job_number
numbered-next tables number is = by (nat_le (next_number tables) 9999999) refl is
  where
    by : (few : Bool) → nat_le (next_number tables) 9999999 ≡ few → cond few (Some (next_number tables)) None ≡ Some number → (number ≡ next_number tables) × (number ≤ 9999999)
    by true few is =
        let same : next_number tables ≡ number = same_Some (next_number tables) number is in
        (sym same, subst (λ n. n ≤ 9999999) same (nat_le-true (next_number tables) 9999999 few))
    by false few is = absurd (some-not-none number (sym is))

kept-follows : (layout : Layout) (tables : TablesModel) (deck : Job) (kept : List ℕ) (count : ℕ) → 1 ≤ count → length kept ≡ 80 * count → follows layout tables (Submitted (next_number tables) kept) (Some deck) ≡ true
kept-follows layout tables deck [] count some long = absurd (let none : ⊥ = omega (arith, some, long) in none)
kept-follows layout tables deck (first ∷ rest) count some long = and_from _ _ (and_from _ _ (equal-itself (next_number tables)) refl) refl

pub deck-follows : (layout : Layout) (tables : TablesModel) (cards : List ℕ) (number : ℕ) (deck : Job) → 81 ≤ length cards → number ≡ next_number tables → follows layout tables (Submitted number (kept_of_stored cards)) (Some deck) ≡ true
deck-follows layout tables cards number deck some is =
    subst (λ n. follows layout tables (Submitted n (kept_of_stored cards)) (Some deck) ≡ true) (sym is)
    (kept-follows layout tables deck (kept_of_stored cards) (length cards / 81) (omega (arith, some)) (kept_long cards))
