use Rattle.std.proofs.Common.{refl}
use Rattle.std.specs.Fmt.{digits}
use Rattle.std.specs.Str.{chars}
use Rattle.std.specs.Char.{encode_utf8}
use Rattle.hex.specs.Hex.{encode_with, decode_pairs}
use Rattle.serde_json.proofs.OnLiterals.{serde_json_on_literals}
use Rattle.card_model.specs.Step.{on_card, step, after_event, after_reset}
use Rattle.card_model.specs.Select.{select_row}
use Rattle.card_model.specs.GetResponse.{get_response_row}
use Rattle.card_model.specs.Read.{read_binary_row, read_record_row}
use Rattle.card_model.specs.Update.{update_binary_row, update_record_row}
use Rattle.card_model.specs.Verify.{verify_row}
use Rattle.card_model.specs.Channels.{manage_channel_row}
use Rattle.card_model.specs.Toolkit.{status_row, terminal_profile_row, fetch_row, terminal_response_row}
use Rattle.fcp.specs.Control.{read_fcp, write_fcp, read_rule}
use Rattle.alpha.specs.Alphabet.{default_alphabet, extension_table}
use Rattle.rules.proofs.judging.judges_broken_answers.Goals as goal

pub returns-clause-rule06_22 : goal.returns-clause-rule06_22
unfolding serde_json_on_literals digits encode_with chars encode_utf8 on_card step after_event after_reset select_row get_response_row read_binary_row read_record_row update_binary_row update_record_row verify_row manage_channel_row status_row terminal_profile_row fetch_row terminal_response_row read_fcp write_fcp read_rule default_alphabet extension_table decode_pairs
returns-clause-rule06_22 c = refl

pub returns-clause-rule06_23 : goal.returns-clause-rule06_23
unfolding serde_json_on_literals digits encode_with chars encode_utf8 on_card step after_event after_reset select_row get_response_row read_binary_row read_record_row update_binary_row update_record_row verify_row manage_channel_row status_row terminal_profile_row fetch_row terminal_response_row read_fcp write_fcp read_rule default_alphabet extension_table decode_pairs
returns-clause-rule06_23 c = refl

pub returns-clause-rule06_24 : goal.returns-clause-rule06_24
unfolding serde_json_on_literals digits encode_with chars encode_utf8 on_card step after_event after_reset select_row get_response_row read_binary_row read_record_row update_binary_row update_record_row verify_row manage_channel_row status_row terminal_profile_row fetch_row terminal_response_row read_fcp write_fcp read_rule default_alphabet extension_table decode_pairs
returns-clause-rule06_24 c = refl

pub returns-clause-rule06_25 : goal.returns-clause-rule06_25
unfolding serde_json_on_literals digits encode_with chars encode_utf8 on_card step after_event after_reset select_row get_response_row read_binary_row read_record_row update_binary_row update_record_row verify_row manage_channel_row status_row terminal_profile_row fetch_row terminal_response_row read_fcp write_fcp read_rule default_alphabet extension_table decode_pairs
returns-clause-rule06_25 c = refl

pub returns-clause-rule06_26 : goal.returns-clause-rule06_26
unfolding serde_json_on_literals digits encode_with chars encode_utf8 on_card step after_event after_reset select_row get_response_row read_binary_row read_record_row update_binary_row update_record_row verify_row manage_channel_row status_row terminal_profile_row fetch_row terminal_response_row read_fcp write_fcp read_rule default_alphabet extension_table decode_pairs
returns-clause-rule06_26 c = refl

pub returns-clause-rule06_27 : goal.returns-clause-rule06_27
unfolding serde_json_on_literals digits encode_with chars encode_utf8 on_card step after_event after_reset select_row get_response_row read_binary_row read_record_row update_binary_row update_record_row verify_row manage_channel_row status_row terminal_profile_row fetch_row terminal_response_row read_fcp write_fcp read_rule default_alphabet extension_table decode_pairs
returns-clause-rule06_27 c = refl

pub returns-clause-rule06_28 : goal.returns-clause-rule06_28
unfolding serde_json_on_literals digits encode_with chars encode_utf8 on_card step after_event after_reset select_row get_response_row read_binary_row read_record_row update_binary_row update_record_row verify_row manage_channel_row status_row terminal_profile_row fetch_row terminal_response_row read_fcp write_fcp read_rule default_alphabet extension_table decode_pairs
returns-clause-rule06_28 c = refl

pub returns-clause-rule06_29 : goal.returns-clause-rule06_29
unfolding serde_json_on_literals digits encode_with chars encode_utf8 on_card step after_event after_reset select_row get_response_row read_binary_row read_record_row update_binary_row update_record_row verify_row manage_channel_row status_row terminal_profile_row fetch_row terminal_response_row read_fcp write_fcp read_rule default_alphabet extension_table decode_pairs
returns-clause-rule06_29 c = refl

pub returns-clause-rule06_30 : goal.returns-clause-rule06_30
unfolding serde_json_on_literals digits encode_with chars encode_utf8 on_card step after_event after_reset select_row get_response_row read_binary_row read_record_row update_binary_row update_record_row verify_row manage_channel_row status_row terminal_profile_row fetch_row terminal_response_row read_fcp write_fcp read_rule default_alphabet extension_table decode_pairs
returns-clause-rule06_30 c = refl

pub returns-clause-rule06_31 : goal.returns-clause-rule06_31
unfolding serde_json_on_literals digits encode_with chars encode_utf8 on_card step after_event after_reset select_row get_response_row read_binary_row read_record_row update_binary_row update_record_row verify_row manage_channel_row status_row terminal_profile_row fetch_row terminal_response_row read_fcp write_fcp read_rule default_alphabet extension_table decode_pairs
returns-clause-rule06_31 c = refl

pub returns-clause-rule06_32 : goal.returns-clause-rule06_32
unfolding serde_json_on_literals digits encode_with chars encode_utf8 on_card step after_event after_reset select_row get_response_row read_binary_row read_record_row update_binary_row update_record_row verify_row manage_channel_row status_row terminal_profile_row fetch_row terminal_response_row read_fcp write_fcp read_rule default_alphabet extension_table decode_pairs
returns-clause-rule06_32 c = refl

pub returns-clause-rule06_33 : goal.returns-clause-rule06_33
unfolding serde_json_on_literals digits encode_with chars encode_utf8 on_card step after_event after_reset select_row get_response_row read_binary_row read_record_row update_binary_row update_record_row verify_row manage_channel_row status_row terminal_profile_row fetch_row terminal_response_row read_fcp write_fcp read_rule default_alphabet extension_table decode_pairs
returns-clause-rule06_33 c = refl

pub returns-clause-rule06_34 : goal.returns-clause-rule06_34
unfolding serde_json_on_literals digits encode_with chars encode_utf8 on_card step after_event after_reset select_row get_response_row read_binary_row read_record_row update_binary_row update_record_row verify_row manage_channel_row status_row terminal_profile_row fetch_row terminal_response_row read_fcp write_fcp read_rule default_alphabet extension_table decode_pairs
returns-clause-rule06_34 c = refl

pub returns-clause-rule06_40 : goal.returns-clause-rule06_40
unfolding serde_json_on_literals digits encode_with chars encode_utf8 on_card step after_event after_reset select_row get_response_row read_binary_row read_record_row update_binary_row update_record_row verify_row manage_channel_row status_row terminal_profile_row fetch_row terminal_response_row read_fcp write_fcp read_rule default_alphabet extension_table decode_pairs
returns-clause-rule06_40 c = refl

pub returns-clause-rule06_51 : goal.returns-clause-rule06_51
unfolding serde_json_on_literals digits encode_with chars encode_utf8 on_card step after_event after_reset select_row get_response_row read_binary_row read_record_row update_binary_row update_record_row verify_row manage_channel_row status_row terminal_profile_row fetch_row terminal_response_row read_fcp write_fcp read_rule default_alphabet extension_table decode_pairs
returns-clause-rule06_51 c = refl
