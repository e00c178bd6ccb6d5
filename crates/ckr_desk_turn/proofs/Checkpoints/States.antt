-- The state of a program at a checkpoint is that which stands for the records taken.
use Rattle.std.proofs.Common.{◌≡◌, ℕ, List, Option, ap, sym, ◌∙◌}
use Rattle.ckr_entry.specs.declared.point.State.{State}
use Rattle.ckr_entry.specs.declared.point.State.TheVariants.{Plain, Matched}
use Rattle.ckr_entry.specs.States.{matched_state, plain_state}
use Rattle.ckr_jcl.specs.declared.deck.Kind.{Kind}
use Rattle.ckr_match.specs.declared.state.MatchState.{MatchState}
use Rattle.ckr_meaning.specs.Program.{ProgramCase, match_case, plain_case}
use Rattle.ckr_meaning.specs.States.{MatchStands, PlainStands, StandsFor}
use Rattle.ckr_programs.specs.declared.state.ProgState.{ProgState}
use Rattle.ckr_desk_turn.specs.EntryStates.{at_checkpoint, checkpoint_state, matched_at, plain_at, state_by}

five : {A B C D E R : Type 0} (f : A → B → C → D → E → R) (a a' : A) (b b' : B) (c c' : C) (d d' : D) (e e' : E) → a ≡ a' → b ≡ b' → c ≡ c' → d ≡ d' → e ≡ e' → f a b c d e ≡ f a' b' c' d' e'
five f a a' b b' c c' d d' e e' p q r s t = cc

eight : {A B C D E F G H R : Type 0} (f : A → B → C → D → E → F → G → H → R) (a a' : A) (b b' : B) (c c' : C) (d d' : D) (e e' : E) (g g' : F) (h h' : G) (i i' : H) → a ≡ a' → b ≡ b' → c ≡ c' → d ≡ d' → e ≡ e' → g ≡ g' → h ≡ h' → i ≡ i' → f a b c d e g h i ≡ f a' b' c' d' e' g' h' i'
eight f a a' b b' c c' d d' e e' g g' h h' i i' p q r s t u v w = cc

plain-so : (state : ProgState) (case : ProgramCase) (taken entries : ℕ) → PlainStands state case taken → at_checkpoint entries (Plain state) ≡ plain_at (plain_case case) taken entries
plain-so state case taken entries stands =
    five (λ (k : Kind) (one other rejects sum : ℕ). Plain (plain_state k (record { first = one; second = other; rejects = rejects; entries = entries }) sum))
    state.kind _ state.first _ state.second _ state.rejects _ state.sum _
    stands.stands.program stands.stands.first stands.stands.second stands.stands.rejects stands.stands.sum

matched-so : (state : MatchState) (case : ProgramCase) (taken entries : ℕ) → MatchStands state case taken → at_checkpoint entries (Matched state) ≡ matched_at (match_case case) taken entries
matched-so state case taken entries stands =
    eight (λ (k : Kind) (one other rejects : ℕ) (first_key second_key : List ℕ) (held : Option (List ℕ)) (last : Option (ℕ × List ℕ)). Matched (matched_state k (record { first = one; second = other; rejects = rejects; entries = entries }) (record { items = first_key }) (record { items = second_key }) held last))
    state.kind _ state.first _ state.second _ state.rejects _ state.first_key.items _ state.second_key.items _ state.held _ state.last _
    stands.stands.program stands.stands.first stands.stands.second stands.stands.rejects stands.stands.first_key stands.stands.second_key stands.stands.held stands.stands.last

pub state-so : (state : State) (case : ProgramCase) (taken entries : ℕ) → StandsFor state case taken → at_checkpoint entries state ≡ checkpoint_state case taken entries
unfolding checkpoint_state
state-so (Plain state) case taken entries stands = plain-so state case taken entries stands ∙ ap (λ b. state_by b case taken entries) (sym stands.program)
state-so (Matched state) case taken entries stands = matched-so state case taken entries stands ∙ ap (λ b. state_by b case taken entries) (sym stands.program)
