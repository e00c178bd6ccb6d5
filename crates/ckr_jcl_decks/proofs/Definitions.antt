-- What a computation opens: every definition of a deck that is shut elsewhere.
use Rattle.ckr_cards.specs.Card.{filled, cards_in_bytes, has_slashes, is_comment, is_delimiter, is_null, name_of, behind_name, operation_of, behind_operation}
use Rattle.ckr_cards.specs.Statement.{kind_of, is_continuation, is_well_placed, first_field, continued_field, calls_again, whole_field, operand_of_text, is_whole, operands_of, is_tidy, records_behind, records_after, is_record, with_field, with_more, bare, statement_at, statements_of}
use Rattle.ckr_jcl_operands.specs.DcbValues.{dcb_key, with_part_value, with_part, is_model, dcb_value}
use Rattle.ckr_jcl_operands.specs.DdValues.{is_backward, is_referring, is_passing, dsn_value, disp_in, disp_value, serials_value, volume_part, volume_in, vol_value, unit_value, quantity_in, quantity_value, is_release, space_in, space_value, is_sysout}
use Rattle.ckr_jcl_decks.specs.Deck.{named_origin, origin_of, disposition_of, space_of, record_length, dd_of, syschk_of, step_with, restart_of, job_of, judged, job_in, deck_of, stored_deck}
use Rattle.ckr_jcl_faults.specs.DdFaults.{is_left_out_dd, breaks_role, is_wrong_use, is_wrong_space, is_wrong_record, breaks}
use Rattle.ckr_jcl_decks.specs.DeckFaults.{dd_or_syschk, step_place, restart_step_fault, is_right_syschk, checkpoint_fault, program_fault, parm_text_fault, has_dds, parm_of, has_checkpoint_dd, has_needed_dds, missing_dd, repeated_name, limit_fault, checkpoint_name_fault, faults_of_uses, faults_of_names, deck_faults}
use Rattle.ckr_jcl_faults.specs.DeckText.{dd_text, step_text, with_dd, job_text, closed, with_step, with_statement, deck_text}
use Rattle.ckr_jcl_faults.specs.Faults.{long_line, byte_fault, name_fault, kind_fault, early_dd, continuation_fault, closing_fault, is_known, unknown_operand, is_left_out_operand, left_out_keyword, wrong_value, are_apart, are_alike, clashes_with, clashing_operand, faults_of_operands, faults_of_field, faults_of, statement_fault}
use Rattle.ckr_jcl_operands.specs.JobValues.{rd_value, step_reference, id_value, restart_in, restart_value, parm_item, parm_text, onto, parm_value}
use Rattle.ckr_jcl_operands.specs.Keywords.{is_read, is_without_effect, is_left_out, is_known_keyword, is_positional, is_left_out_alone, is_right_job_value, is_right_dd_value, is_right_read_value, is_right_value, value_of}
use Rattle.ckr_jcl.specs.ParmGrammar.{key_named, key_of, plain_number, column_and_length, with_value, lacks_item, with_item, all_items_read, read_parm_text}
use Rattle.ckr_jcl.specs.Programs.{program_named, is_read_by, is_written_by, is_updated_by, is_checkpointed_by, role_of}
use Rattle.ckr_jcl.specs.Qualifiers.{is_kept_name}
use Rattle.ckr_jcl.specs.Text.{number_value, is_enclosed, enclosed}

-- a proof that computes names this one
unfoldable pub decks_open : Unit {0}
unfolding filled cards_in_bytes has_slashes is_comment is_delimiter is_null name_of behind_name operation_of behind_operation kind_of is_continuation is_well_placed first_field continued_field calls_again whole_field operand_of_text is_whole operands_of is_tidy records_behind records_after is_record with_field with_more bare statement_at statements_of dcb_key with_part_value with_part is_model dcb_value is_backward is_referring is_passing is_kept_name dsn_value disp_in disp_value serials_value volume_part volume_in vol_value unit_value quantity_in quantity_value is_release space_in space_value is_sysout named_origin origin_of disposition_of space_of record_length dd_of syschk_of step_with restart_of job_of judged job_in deck_of stored_deck dd_or_syschk step_place restart_step_fault is_right_syschk checkpoint_fault program_fault parm_text_fault has_dds parm_of has_checkpoint_dd has_needed_dds missing_dd is_left_out_dd breaks_role is_wrong_use is_wrong_space is_wrong_record breaks repeated_name limit_fault checkpoint_name_fault faults_of_uses faults_of_names deck_faults dd_text step_text with_dd job_text closed with_step with_statement deck_text long_line byte_fault name_fault kind_fault early_dd continuation_fault closing_fault is_known unknown_operand is_left_out_operand left_out_keyword wrong_value are_apart are_alike clashes_with clashing_operand faults_of_operands faults_of_field faults_of statement_fault rd_value step_reference id_value restart_in restart_value parm_item parm_text onto parm_value is_read is_without_effect is_left_out is_known_keyword is_positional is_left_out_alone is_right_job_value is_right_dd_value is_right_read_value is_right_value value_of key_named key_of plain_number column_and_length with_value lacks_item with_item all_items_read read_parm_text program_named is_read_by is_written_by is_updated_by is_checkpointed_by role_of number_value is_enclosed enclosed
decks_open = tt
