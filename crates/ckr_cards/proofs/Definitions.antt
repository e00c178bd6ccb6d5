-- What a computation opens: every definition that is shut elsewhere.
use Rattle.ckr_cards.specs.Card.{filled, cards_in_bytes, has_slashes, is_comment, is_delimiter, is_null, name_of, behind_name, operation_of, behind_operation}
use Rattle.ckr_cards.specs.Statement.{kind_of, is_continuation, is_well_placed, first_field, continued_field, calls_again, whole_field, operand_of_text, is_whole, operands_of, is_tidy, records_behind, records_after, is_record, with_field, with_more, bare, statement_at, statements_of}
use Rattle.ckr_cards.specs.Cut.{starts_deck, is_command, is_ignored, ends_deck, deck_length, lines_taken, single_item, item_at, items_of_lines, items_of, line_kinds}
use Rattle.ckr_cards.specs.CutSteps.{behind_first_card, step_outside, step_between, step_within, behind_continuation, step_calling}

-- a proof that computes names this one
unfoldable pub statements_open : Unit {0}
unfolding filled cards_in_bytes has_slashes is_comment is_delimiter is_null name_of behind_name operation_of behind_operation kind_of is_continuation is_well_placed first_field continued_field calls_again whole_field operand_of_text is_whole operands_of is_tidy records_behind records_after is_record with_field with_more bare statement_at statements_of starts_deck is_command is_ignored ends_deck deck_length lines_taken single_item item_at items_of_lines items_of line_kinds behind_first_card step_outside step_between step_within behind_continuation step_calling
statements_open = tt
