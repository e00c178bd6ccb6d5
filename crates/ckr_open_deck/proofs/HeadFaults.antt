-- The least fault of a statement whose records are gone past.
use Rattle.std.proofs.Common.{◌≡◌, ℕ, Bool, true, false, ◌∷◌, Option, Some, None, sym, subst}
use Rattle.std.specs.List.{list_any}
use Rattle.ckr_cards.specs.declared.card.Card.{Card}
use Rattle.ckr_cards.specs.declared.statement.Statement.{Statement}
use Rattle.ckr_jcl_faults.specs.declared.faults.MetFaults.{MetFaults}
use Rattle.ckr_jcl_faults.specs.Faults.{faults_of, least_fault, fault_at, long_card}
use Rattle.ckr_open_deck.specs.declared.statement.StatementHead.{StatementHead}
use Rattle.ckr_open_deck.specs.StatementHeads.{IsHead, without_records}
use Rattle.ckr_open_deck.proofs.LongCards.{long-some, long-none}
use Rattle.ckr_open_deck.proofs.Statements.{no_long_record, long_record, long_own}

-- whether a card of it is long, its records apart
abbrev pub has_long : Statement → Bool
has_long s = list_any (λ (card : Card). card.long) (s.first ∷ s.more)

least-long : (seen : MetFaults) (s : Statement) → has_long s ≡ true → least_fault (faults_of seen (without_records s)) ≡ least_fault (faults_of seen s)
least-long seen s found =
    let long = long-some (s.first ∷ s.more) found in
    sym (long_own seen s long.0 long.1)

least-short : (seen : MetFaults) (s : Statement) (long : Option ℕ) → long_card (s.first ∷ s.more) ≡ None → long_card s.records ≡ long → fault_at 1 long (least_fault (faults_of seen (without_records s))) ≡ least_fault (faults_of seen s)
least-short seen s None own none = sym (no_long_record seen s none)
least-short seen s (Some card) own long = sym (long_record seen s card own long)

pub fault-long : (seen : MetFaults) (head : StatementHead) (s : Statement) → IsHead head s → has_long head.statement ≡ true → least_fault (faults_of seen head.statement) ≡ least_fault (faults_of seen s)
fault-long seen head s is found =
    subst (λ (t : Statement). has_long t ≡ true → least_fault (faults_of seen t) ≡ least_fault (faults_of seen s)) (sym is.statement) (least-long seen s) found

pub fault-short : (seen : MetFaults) (head : StatementHead) (s : Statement) → IsHead head s → has_long head.statement ≡ false → fault_at 1 head.long (least_fault (faults_of seen head.statement)) ≡ least_fault (faults_of seen s)
fault-short seen head s is found =
    subst (λ (t : Statement). has_long t ≡ false → fault_at 1 head.long (least_fault (faults_of seen t)) ≡ least_fault (faults_of seen s)) (sym is.statement)
    (λ none. least-short seen s head.long (long-none (s.first ∷ s.more) none) (sym is.long)) found
