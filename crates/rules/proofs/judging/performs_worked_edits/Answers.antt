use Rattle.std.proofs.Common.{refl}
use Rattle.std.specs.Fmt.{digits}
use Rattle.std.specs.Str.{chars}
use Rattle.std.specs.Char.{encode_utf8}
use Rattle.hex.specs.Hex.{encode_with, decode_pairs}
use Rattle.serde_json.proofs.OnLiterals.{serde_json_on_literals}
use Rattle.card_model.specs.Step.{on_card, step, after_event, after_reset}
use Rattle.card_model.specs.Select.{select_row}
use Rattle.card_model.specs.GetResponse.{get_response_row}
use Rattle.card_model.specs.Read.{read_binary_row, read_record_row}
use Rattle.card_model.specs.Update.{update_binary_row, update_record_row}
use Rattle.card_model.specs.Verify.{verify_row}
use Rattle.card_model.specs.Channels.{manage_channel_row}
use Rattle.card_model.specs.Toolkit.{status_row, terminal_profile_row, fetch_row, terminal_response_row}
use Rattle.fcp.specs.Control.{read_fcp, write_fcp, read_rule}
use Rattle.alpha.specs.Alphabet.{default_alphabet, extension_table}
use Rattle.rules.proofs.judging.performs_worked_edits.Goals as goal

pub returns-clause-edit_with_extension : goal.returns-clause-edit_with_extension
unfolding serde_json_on_literals digits encode_with chars encode_utf8 on_card step after_event after_reset select_row get_response_row read_binary_row read_record_row update_binary_row update_record_row verify_row manage_channel_row status_row terminal_profile_row fetch_row terminal_response_row read_fcp write_fcp read_rule default_alphabet extension_table decode_pairs
returns-clause-edit_with_extension c = refl

pub returns-clause-edit_frees_extension : goal.returns-clause-edit_frees_extension
unfolding serde_json_on_literals digits encode_with chars encode_utf8 on_card step after_event after_reset select_row get_response_row read_binary_row read_record_row update_binary_row update_record_row verify_row manage_channel_row status_row terminal_profile_row fetch_row terminal_response_row read_fcp write_fcp read_rule default_alphabet extension_table decode_pairs
returns-clause-edit_frees_extension c = refl

pub returns-clause-plan_full_no_record : goal.returns-clause-plan_full_no_record
unfolding serde_json_on_literals digits encode_with chars encode_utf8 on_card step after_event after_reset select_row get_response_row read_binary_row read_record_row update_binary_row update_record_row verify_row manage_channel_row status_row terminal_profile_row fetch_row terminal_response_row read_fcp write_fcp read_rule default_alphabet extension_table decode_pairs
returns-clause-plan_full_no_record c = refl

pub returns-clause-plan_refusals : goal.returns-clause-plan_refusals
unfolding serde_json_on_literals digits encode_with chars encode_utf8 on_card step after_event after_reset select_row get_response_row read_binary_row read_record_row update_binary_row update_record_row verify_row manage_channel_row status_row terminal_profile_row fetch_row terminal_response_row read_fcp write_fcp read_rule default_alphabet extension_table decode_pairs
returns-clause-plan_refusals c = refl

pub returns-clause-plan_bad_file : goal.returns-clause-plan_bad_file
unfolding serde_json_on_literals digits encode_with chars encode_utf8 on_card step after_event after_reset select_row get_response_row read_binary_row read_record_row update_binary_row update_record_row verify_row manage_channel_row status_row terminal_profile_row fetch_row terminal_response_row read_fcp write_fcp read_rule default_alphabet extension_table decode_pairs
returns-clause-plan_bad_file c = refl

pub returns-clause-needs_pin : goal.returns-clause-needs_pin
unfolding serde_json_on_literals digits encode_with chars encode_utf8 on_card step after_event after_reset select_row get_response_row read_binary_row read_record_row update_binary_row update_record_row verify_row manage_channel_row status_row terminal_profile_row fetch_row terminal_response_row read_fcp write_fcp read_rule default_alphabet extension_table decode_pairs
returns-clause-needs_pin c = refl

pub returns-clause-load_meets_edit : goal.returns-clause-load_meets_edit
unfolding serde_json_on_literals digits encode_with chars encode_utf8 on_card step after_event after_reset select_row get_response_row read_binary_row read_record_row update_binary_row update_record_row verify_row manage_channel_row status_row terminal_profile_row fetch_row terminal_response_row read_fcp write_fcp read_rule default_alphabet extension_table decode_pairs
returns-clause-load_meets_edit c = refl

pub returns-clause-three_sets : goal.returns-clause-three_sets
unfolding serde_json_on_literals digits encode_with chars encode_utf8 on_card step after_event after_reset select_row get_response_row read_binary_row read_record_row update_binary_row update_record_row verify_row manage_channel_row status_row terminal_profile_row fetch_row terminal_response_row read_fcp write_fcp read_rule default_alphabet extension_table decode_pairs
returns-clause-three_sets c = refl

pub returns-clause-removed_behind_deciding : goal.returns-clause-removed_behind_deciding
unfolding serde_json_on_literals digits encode_with chars encode_utf8 on_card step after_event after_reset select_row get_response_row read_binary_row read_record_row update_binary_row update_record_row verify_row manage_channel_row status_row terminal_profile_row fetch_row terminal_response_row read_fcp write_fcp read_rule default_alphabet extension_table decode_pairs
returns-clause-removed_behind_deciding c = refl

pub returns-clause-plans_again : goal.returns-clause-plans_again
unfolding serde_json_on_literals digits encode_with chars encode_utf8 on_card step after_event after_reset select_row get_response_row read_binary_row read_record_row update_binary_row update_record_row verify_row manage_channel_row status_row terminal_profile_row fetch_row terminal_response_row read_fcp write_fcp read_rule default_alphabet extension_table decode_pairs
returns-clause-plans_again c = refl

pub returns-clause-lost_answer : goal.returns-clause-lost_answer
unfolding serde_json_on_literals digits encode_with chars encode_utf8 on_card step after_event after_reset select_row get_response_row read_binary_row read_record_row update_binary_row update_record_row verify_row manage_channel_row status_row terminal_profile_row fetch_row terminal_response_row read_fcp write_fcp read_rule default_alphabet extension_table decode_pairs
returns-clause-lost_answer c = refl
