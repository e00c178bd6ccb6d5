use Rattle.std.proofs.Common.{ap, refl, ◌∙◌, arith}
use Rattle.ckr_cards.specs.declared.statement.Statement.{Statement}
use Rattle.ckr_cards.proofs.Decks.{stored_fits}
use Rattle.ckr_jcl_decks.proofs.StatementOrder.{number_of_first}
use Rattle.ckr_open_deck.specs.StatementHeads.{statement_left}
use Rattle.ckr_open_deck.proofs.refusal.read_first.Goals as goal

pub new-requires : goal.new-requires
new-requires c =
    c.in_default.ensures.first refl
    (ap (λ (s : Statement). s.first.number) c.in_ok-head.ensures.statement
    ∙ number_of_first (statement_left 1 c.args.first.now c.args.left.now) 1 c.args.first.now c.args.left.now refl)

pub overflow_add-result : goal.overflow_add-result
overflow_add-result c = omega (arith, c.in_ok-head.ensures.behind, stored_fits 1 c.args.first.now c.args.left.now)
