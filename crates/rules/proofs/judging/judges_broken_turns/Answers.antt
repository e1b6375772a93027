use Rattle.std.proofs.Common.{refl}
use Rattle.std.specs.Fmt.{digits}
use Rattle.std.specs.Str.{chars}
use Rattle.std.specs.Char.{encode_utf8}
use Rattle.hex.specs.Hex.{encode_with, decode_pairs}
use Rattle.serde_json.proofs.OnLiterals.{serde_json_on_literals}
use Rattle.card_model.specs.Step.{on_card, step, after_event, after_reset}
use Rattle.card_model.specs.Select.{select_row}
use Rattle.card_model.specs.GetResponse.{get_response_row}
use Rattle.card_model.specs.Read.{read_binary_row, read_record_row}
use Rattle.card_model.specs.Update.{update_binary_row, update_record_row}
use Rattle.card_model.specs.Verify.{verify_row}
use Rattle.card_model.specs.Channels.{manage_channel_row}
use Rattle.card_model.specs.Toolkit.{status_row, terminal_profile_row, fetch_row, terminal_response_row}
use Rattle.fcp.specs.Control.{read_fcp, write_fcp, read_rule}
use Rattle.alpha.specs.Alphabet.{default_alphabet, extension_table}
use Rattle.rules.proofs.judging.judges_broken_turns.Goals as goal

pub returns-clause-rule03_13 : goal.returns-clause-rule03_13
unfolding serde_json_on_literals digits encode_with chars encode_utf8 on_card step after_event after_reset select_row get_response_row read_binary_row read_record_row update_binary_row update_record_row verify_row manage_channel_row status_row terminal_profile_row fetch_row terminal_response_row read_fcp write_fcp read_rule default_alphabet extension_table decode_pairs
returns-clause-rule03_13 c = refl

pub returns-clause-rule08_38 : goal.returns-clause-rule08_38
unfolding serde_json_on_literals digits encode_with chars encode_utf8 on_card step after_event after_reset select_row get_response_row read_binary_row read_record_row update_binary_row update_record_row verify_row manage_channel_row status_row terminal_profile_row fetch_row terminal_response_row read_fcp write_fcp read_rule default_alphabet extension_table decode_pairs
returns-clause-rule08_38 c = refl

pub returns-clause-rule08_39 : goal.returns-clause-rule08_39
unfolding serde_json_on_literals digits encode_with chars encode_utf8 on_card step after_event after_reset select_row get_response_row read_binary_row read_record_row update_binary_row update_record_row verify_row manage_channel_row status_row terminal_profile_row fetch_row terminal_response_row read_fcp write_fcp read_rule default_alphabet extension_table decode_pairs
returns-clause-rule08_39 c = refl

pub returns-clause-rule08_41 : goal.returns-clause-rule08_41
unfolding serde_json_on_literals digits encode_with chars encode_utf8 on_card step after_event after_reset select_row get_response_row read_binary_row read_record_row update_binary_row update_record_row verify_row manage_channel_row status_row terminal_profile_row fetch_row terminal_response_row read_fcp write_fcp read_rule default_alphabet extension_table decode_pairs
returns-clause-rule08_41 c = refl

pub returns-clause-rule08_42 : goal.returns-clause-rule08_42
unfolding serde_json_on_literals digits encode_with chars encode_utf8 on_card step after_event after_reset select_row get_response_row read_binary_row read_record_row update_binary_row update_record_row verify_row manage_channel_row status_row terminal_profile_row fetch_row terminal_response_row read_fcp write_fcp read_rule default_alphabet extension_table decode_pairs
returns-clause-rule08_42 c = refl

pub returns-clause-rule08_43 : goal.returns-clause-rule08_43
unfolding serde_json_on_literals digits encode_with chars encode_utf8 on_card step after_event after_reset select_row get_response_row read_binary_row read_record_row update_binary_row update_record_row verify_row manage_channel_row status_row terminal_profile_row fetch_row terminal_response_row read_fcp write_fcp read_rule default_alphabet extension_table decode_pairs
returns-clause-rule08_43 c = refl

pub returns-clause-rule08_44 : goal.returns-clause-rule08_44
unfolding serde_json_on_literals digits encode_with chars encode_utf8 on_card step after_event after_reset select_row get_response_row read_binary_row read_record_row update_binary_row update_record_row verify_row manage_channel_row status_row terminal_profile_row fetch_row terminal_response_row read_fcp write_fcp read_rule default_alphabet extension_table decode_pairs
returns-clause-rule08_44 c = refl

pub returns-clause-rule08_45 : goal.returns-clause-rule08_45
unfolding serde_json_on_literals digits encode_with chars encode_utf8 on_card step after_event after_reset select_row get_response_row read_binary_row read_record_row update_binary_row update_record_row verify_row manage_channel_row status_row terminal_profile_row fetch_row terminal_response_row read_fcp write_fcp read_rule default_alphabet extension_table decode_pairs
returns-clause-rule08_45 c = refl

pub returns-clause-rule08_46 : goal.returns-clause-rule08_46
unfolding serde_json_on_literals digits encode_with chars encode_utf8 on_card step after_event after_reset select_row get_response_row read_binary_row read_record_row update_binary_row update_record_row verify_row manage_channel_row status_row terminal_profile_row fetch_row terminal_response_row read_fcp write_fcp read_rule default_alphabet extension_table decode_pairs
returns-clause-rule08_46 c = refl

pub returns-clause-rule08_47 : goal.returns-clause-rule08_47
unfolding serde_json_on_literals digits encode_with chars encode_utf8 on_card step after_event after_reset select_row get_response_row read_binary_row read_record_row update_binary_row update_record_row verify_row manage_channel_row status_row terminal_profile_row fetch_row terminal_response_row read_fcp write_fcp read_rule default_alphabet extension_table decode_pairs
returns-clause-rule08_47 c = refl

pub returns-clause-rule08_49 : goal.returns-clause-rule08_49
unfolding serde_json_on_literals digits encode_with chars encode_utf8 on_card step after_event after_reset select_row get_response_row read_binary_row read_record_row update_binary_row update_record_row verify_row manage_channel_row status_row terminal_profile_row fetch_row terminal_response_row read_fcp write_fcp read_rule default_alphabet extension_table decode_pairs
returns-clause-rule08_49 c = refl

pub returns-clause-rule08_50 : goal.returns-clause-rule08_50
unfolding serde_json_on_literals digits encode_with chars encode_utf8 on_card step after_event after_reset select_row get_response_row read_binary_row read_record_row update_binary_row update_record_row verify_row manage_channel_row status_row terminal_profile_row fetch_row terminal_response_row read_fcp write_fcp read_rule default_alphabet extension_table decode_pairs
returns-clause-rule08_50 c = refl
