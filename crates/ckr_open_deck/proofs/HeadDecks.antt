-- A deck whose statements are read without their records.
use Rattle.std.proofs.Common.{◌≡◌, ℕ, ◌+◌, List, ◌∷◌, length, drop, map, ap, sym, refl, ◌∙◌, subst, arith, length-drop}
use Rattle.std.specs.Prelude.{fold}
use Rattle.ckr_cards.specs.declared.statement.Statement.{Statement}
use Rattle.ckr_cards.specs.Card.{stored_cards}
use Rattle.ckr_cards.specs.Statement.{cards_behind, statements_of}
use Rattle.ckr_cards.proofs.Decks.{stored_fits}
use Rattle.ckr_jcl_faults.specs.declared.deck_text.JobText.{JobText}
use Rattle.ckr_jcl_faults.specs.DeckText.{job_text, with_statement}
use Rattle.ckr_jcl_decks.proofs.StatementOrder.{step_read, job_more}
use Rattle.ckr_open_deck.specs.StatementHeads.{IsTextWithout, statement_left, without_records}

-- the statements of the cards that are left: the next one, and those behind it
pub next-statement : (number next : ℕ) (left rest behind : List (List ℕ)) (first : List ℕ) → left ≡ first ∷ drop 1 left → rest ≡ drop 1 left → next ≡ number + 1 + cards_behind (statement_left number first rest) → behind ≡ drop (cards_behind (statement_left number first rest)) rest → statements_of (stored_cards number left) ≡ statement_left number first rest ∷ statements_of (stored_cards next behind)
next-statement number next left rest behind first split skips following goes =
    step_read number next left first rest behind (statement_left number first rest) (split ∙ ap (λ r. first ∷ r) (sym skips)) refl following goes

-- the last number stays as the cards are read
pub last-number : (number next : ℕ) (left rest behind : List (List ℕ)) (first : List ℕ) → left ≡ first ∷ drop 1 left → rest ≡ drop 1 left → next ≡ number + 1 + cards_behind (statement_left number first rest) → behind ≡ drop (cards_behind (statement_left number first rest)) rest → next + length behind ≡ number + length left
last-number number next left rest behind first split skips following goes =
    let size : length left ≡ 1 + length rest = ap length (split ∙ ap (λ r. first ∷ r) (sym skips)) ∙ omega arith in
    let fits = stored_fits number first rest in
    omega (arith, ap length goes ∙ length-drop (cards_behind (statement_left number first rest)) rest)

-- what a job says with one more statement
pub job-next : (head job next : JobText) (all rest more : List Statement) (s : Statement) → fold with_statement head (map without_records all) ≡ fold with_statement job (map without_records rest) → rest ≡ s ∷ more → next ≡ with_statement job (without_records s) → fold with_statement head (map without_records all) ≡ fold with_statement next (map without_records more)
job-next head job next all rest more s so_far split following =
    job_more head job next (map without_records all) (map without_records rest) (map without_records more) (without_records s) so_far (ap (λ l. map without_records l) split) following

pub text-without : (all behind : List Statement) (s : Statement) (head job : JobText) → all ≡ s ∷ behind → head ≡ job_text (without_records s) → job ≡ fold with_statement head (map without_records behind) → IsTextWithout all job
text-without all behind s head job split first rest =
    subst (λ l. IsTextWithout l job) (sym split) (rest ∙ ap (λ b. fold with_statement b (map without_records behind)) first)
