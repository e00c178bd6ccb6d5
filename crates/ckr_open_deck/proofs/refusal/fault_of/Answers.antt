use Rattle.std.proofs.Common.{ap, ◌∙◌, sym}
use Rattle.ckr_jcl_faults.specs.Faults.{fault_at}
use Rattle.ckr_jcl_decks.proofs.StatementNames.{well_named, first_named, none_at}
use Rattle.ckr_open_deck.proofs.HeadFaults.{fault-long, fault-short}
use Rattle.ckr_open_deck.proofs.refusal.fault_of.Goals as goal

pub returns-then-is_long-clause-value : goal.returns-then-is_long-clause-value
returns-then-is_long-clause-value c =
    λ s is. c.least_fault-least.ensures ∙ fault-long c.args.seen c.args.head.now s is (sym c.is_long.ensures ∙ c.if-is_long.true)

pub returns-then-is_long-clause-first : goal.returns-then-is_long-clause-first
returns-then-is_long-clause-first c =
    λ none number. first_named c.args.seen c.args.head.now.statement number (sym c.least_fault-least.ensures ∙ none)

pub returns-then-is_long-clause-named : goal.returns-then-is_long-clause-named
returns-then-is_long-clause-named c =
    λ none named. well_named c.args.seen c.args.head.now.statement (sym c.least_fault-least.ensures ∙ none) named

pub returns-clause-value : goal.returns-clause-value
returns-clause-value c =
    λ s is. c.fault_at.ensures ∙ (ap (λ least. fault_at 1 c.args.head.now.long least) c.least_fault-least.ensures ∙ fault-short c.args.seen c.args.head.now s is (sym c.is_long.ensures ∙ c.if-is_long.false))

pub returns-clause-first : goal.returns-clause-first
returns-clause-first c =
    λ none number. first_named c.args.seen c.args.head.now.statement number (sym c.least_fault-least.ensures ∙ (none_at 1 c.args.head.now.long c.least_fault-least.result (sym c.fault_at.ensures ∙ none)).1)

pub returns-clause-named : goal.returns-clause-named
returns-clause-named c =
    λ none named. well_named c.args.seen c.args.head.now.statement (sym c.least_fault-least.ensures ∙ (none_at 1 c.args.head.now.long c.least_fault-least.result (sym c.fault_at.ensures ∙ none)).1) named
