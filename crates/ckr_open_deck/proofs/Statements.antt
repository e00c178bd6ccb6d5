-- A statement without its records: its faults, and how far its cards go.
use Rattle.std.proofs.Common.{◌≡◌, ℕ, ◌&&◌, Bool, true, false, if◌then◌else◌, List, [], ◌∷◌, length, drop, Option, Some, None, refl, ap, ap₂, sym, ◌∙◌}
use Rattle.std.specs.Option.{option_or}
use Rattle.ckr_base.proofs.Bools.{true-not-false}
use Rattle.ckr_cards.specs.declared.card.Card.{Card}
use Rattle.ckr_cards.specs.declared.kind.StatementKind.{StatementKind}
use Rattle.ckr_cards.specs.declared.kind.StatementKind.TheVariants.{Job, Exec, Dd, Comment, Delimiter, Null, Unknown}
use Rattle.ckr_cards.specs.declared.lines.InStream.TheVariants.{NoRecords}
use Rattle.ckr_cards.specs.declared.statement.Statement.{Statement}
use Rattle.ckr_cards.specs.Card.{columns}
use Rattle.ckr_cards.specs.Field.{goes_on}
use Rattle.ckr_cards.specs.Statement.{kind_of, is_named, first_field, continuation, calls_first, comes_to_end, whole_field, records_behind, records_after, is_record, records_in, in_stream, with_field, with_more, bare, statement_at, statement_of_cards}
use Rattle.ckr_jcl_faults.specs.declared.faults.Fault.{Fault}
use Rattle.ckr_jcl_faults.specs.declared.faults.MetFaults.{MetFaults}
use Rattle.ckr_jcl_faults.specs.Faults.{long_card, long_line, byte_fault, name_fault, kind_fault, early_dd, continuation_fault, closing_fault, unknown_operand, left_out_keyword, wrong_value, clashing_operand, faults_of_operands, faults_of_field, faults_of, fault_at, least_fault}
use Rattle.ckr_open_deck.specs.StatementHeads.{without_records}
use Rattle.ckr_cards.proofs.CutRuns.{continuation-none}

-- ---- the faults of a statement

-- those that look at no record
other_faults : MetFaults → Statement → List (ℕ × Option ℕ)
other_faults seen s = (2, byte_fault s) ∷ (3, name_fault s) ∷ (4, kind_fault s) ∷ (5, early_dd seen s) ∷ faults_of_field s

-- the least fault, by the first long card of its own and the first long record
least-by : Option ℕ → Option ℕ → MetFaults → Statement → Option Fault
least-by own behind seen s = fault_at 1 (option_or own behind) (least_fault (other_faults seen s))

-- that of a statement
least-whole : (seen : MetFaults) (s : Statement)
    → least_fault (faults_of seen s) ≡ least-by (long_card (s.first ∷ s.more)) (long_card s.records) seen s
unfolding least-by other_faults faults_of long_line
least-whole seen s = refl

-- that of a statement without its records
least-bare : (seen : MetFaults) (s : Statement)
    → least_fault (faults_of seen (without_records s)) ≡ least-by (long_card (s.first ∷ s.more)) None seen s
unfolding least-by other_faults faults_of long_line byte_fault name_fault kind_fault early_dd faults_of_field continuation_fault closing_fault faults_of_operands unknown_operand left_out_keyword wrong_value clashing_operand
least-bare seen s = refl

-- where a card of its own is long, the records change nothing
least-own : (seen : MetFaults) (s : Statement) (card : ℕ) (behind : Option ℕ)
    → least-by (Some card) behind seen s ≡ least-by (Some card) None seen s
unfolding least-by
least-own seen s card behind = refl

-- where none is, a long record is a further fault
least-behind : (seen : MetFaults) (s : Statement) (card : ℕ)
    → least-by None (Some card) seen s ≡ fault_at 1 (Some card) (least-by None None seen s)
unfolding least-by
least-behind seen s card = refl

-- where no record is long, none matters
pub no_long_record : (seen : MetFaults) (s : Statement) → long_card s.records ≡ None
    → least_fault (faults_of seen s) ≡ least_fault (faults_of seen (without_records s))
no_long_record seen s none =
    least-whole seen s
    ∙ ap (λ behind. least-by (long_card (s.first ∷ s.more)) behind seen s) none
    ∙ sym (least-bare seen s)

-- where a record is the first long card, it is one fault more
pub long_record : (seen : MetFaults) (s : Statement) (card : ℕ) → long_card (s.first ∷ s.more) ≡ None → long_card s.records ≡ Some card
    → least_fault (faults_of seen s) ≡ fault_at 1 (Some card) (least_fault (faults_of seen (without_records s)))
long_record seen s card none long =
    least-whole seen s
    ∙ ap₂ (λ own behind. least-by own behind seen s) none long
    ∙ least-behind seen s card
    ∙ ap (fault_at 1 (Some card)) (sym (least-bare seen s ∙ ap (λ own. least-by own None seen s) none))

-- where a card before the records is long, no record matters
pub long_own : (seen : MetFaults) (s : Statement) (card : ℕ) → long_card (s.first ∷ s.more) ≡ Some card
    → least_fault (faults_of seen s) ≡ least_fault (faults_of seen (without_records s))
long_own seen s card long =
    least-whole seen s
    ∙ ap (λ own. least-by own (long_card s.records) seen s) long
    ∙ least-own seen s card (long_card s.records)
    ∙ sym (least-bare seen s ∙ ap (λ own. least-by own None seen s) long)

-- ---- the cards of a statement

-- the statement that begins with a card, by whether it has a name
abbrev whole_by : Bool → StatementKind → Card → List Card → Statement
whole_by named kind first rest =
    if named then with_more kind first (continuation (goes_on (first_field (columns first))) rest) rest else bare kind first

-- the statement of its own cards
abbrev own_by : Bool → StatementKind → Card → List Card → Statement
own_by named kind first more =
    if named
    then with_field kind first more (comes_to_end (goes_on (first_field (columns first))) more) (whole_field first more) []
    else bare kind first

-- the two are the same but for the records
read-by : (named : Bool) (kind : StatementKind) (first : Card) (rest : List Card)
    → own_by named kind first (continuation (named && goes_on (first_field (columns first))) rest)
    ≡ without_records (whole_by named kind first rest)
unfolding with_more with_field bare
read-by true kind first rest = refl
read-by false kind first rest = refl

-- a statement's own cards say what it is but for its records
pub read_without : (first : Card) (rest : List Card)
    → statement_of_cards first (continuation (calls_first (columns first)) rest) ≡ without_records (statement_at first rest)
unfolding statement_of_cards statement_at
read_without first rest = read-by (is_named (kind_of (columns first))) (kind_of (columns first)) first rest

-- no record is behind a statement without a name
no_records-unnamed : (kind : StatementKind) (operand : List ℕ) → is_named kind ≡ false → records_behind kind operand ≡ NoRecords
unfolding records_behind
no_records-unnamed Job operand isnt = refl
no_records-unnamed Exec operand isnt = refl
no_records-unnamed Dd operand isnt = true-not-false isnt
no_records-unnamed Comment operand isnt = refl
no_records-unnamed Delimiter operand isnt = refl
no_records-unnamed Null operand isnt = refl
no_records-unnamed Unknown operand isnt = refl

-- none is then read
records-none : (rest : List Card) → records_in NoRecords rest ≡ []
unfolding is_record
records-none [] = refl
records-none (card ∷ rest) = refl

-- the records behind a statement, by whether it has a name
records-by : (named : Bool) (kind : StatementKind) (first : Card) (rest : List Card) → is_named (kind_of (columns first)) ≡ named
    → (whole_by named kind first rest).records
    ≡ records_in (in_stream (whole_by named kind first rest)) (drop (length (whole_by named kind first rest).more) rest)
unfolding with_more with_field bare records_after
records-by true kind first rest is = refl
records-by false kind first rest is =
    sym (ap (λ ends. records_in ends rest) (no_records-unnamed (kind_of (columns first)) _ is) ∙ records-none rest)

-- the records of a statement are those behind its own cards
pub records_behind_statement : (first : Card) (rest : List Card)
    → (statement_at first rest).records
    ≡ records_in (in_stream (statement_at first rest)) (drop (length (statement_at first rest).more) rest)
unfolding statement_at
records_behind_statement first rest = records-by (is_named (kind_of (columns first))) (kind_of (columns first)) first rest refl

-- its further cards, by whether it has a name
more-by : (named : Bool) (kind : StatementKind) (first : Card) (rest : List Card)
    → (whole_by named kind first rest).more ≡ continuation (named && goes_on (first_field (columns first))) rest
unfolding with_more with_field bare
more-by true kind first rest = refl
more-by false kind first rest = sym (continuation-none rest)

-- the further cards of a statement
pub more_of_statement : (first : Card) (rest : List Card)
    → (statement_at first rest).more ≡ continuation (calls_first (columns first)) rest
unfolding statement_at
more_of_statement first rest = more-by (is_named (kind_of (columns first))) (kind_of (columns first)) first rest
