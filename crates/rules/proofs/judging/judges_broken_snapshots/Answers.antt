use Rattle.std.proofs.Common.{refl}
use Rattle.std.specs.Fmt.{digits}
use Rattle.std.specs.Str.{chars}
use Rattle.std.specs.Char.{encode_utf8}
use Rattle.hex.specs.Hex.{encode_with, decode_pairs}
use Rattle.serde_json.proofs.OnLiterals.{serde_json_on_literals}
use Rattle.card_model.specs.Step.{on_card, step, after_event, after_reset}
use Rattle.card_model.specs.Select.{select_row}
use Rattle.card_model.specs.GetResponse.{get_response_row}
use Rattle.card_model.specs.Read.{read_binary_row, read_record_row}
use Rattle.card_model.specs.Update.{update_binary_row, update_record_row}
use Rattle.card_model.specs.Verify.{verify_row}
use Rattle.card_model.specs.Channels.{manage_channel_row}
use Rattle.card_model.specs.Toolkit.{status_row, terminal_profile_row, fetch_row, terminal_response_row}
use Rattle.fcp.specs.Control.{read_fcp, write_fcp, read_rule}
use Rattle.alpha.specs.Alphabet.{default_alphabet, extension_table}
use Rattle.rules.proofs.judging.judges_broken_snapshots.Goals as goal

pub returns-clause-rule02_05 : goal.returns-clause-rule02_05
unfolding serde_json_on_literals digits encode_with chars encode_utf8 on_card step after_event after_reset select_row get_response_row read_binary_row read_record_row update_binary_row update_record_row verify_row manage_channel_row status_row terminal_profile_row fetch_row terminal_response_row read_fcp write_fcp read_rule default_alphabet extension_table decode_pairs
returns-clause-rule02_05 c = refl

pub returns-clause-rule02_06 : goal.returns-clause-rule02_06
unfolding serde_json_on_literals digits encode_with chars encode_utf8 on_card step after_event after_reset select_row get_response_row read_binary_row read_record_row update_binary_row update_record_row verify_row manage_channel_row status_row terminal_profile_row fetch_row terminal_response_row read_fcp write_fcp read_rule default_alphabet extension_table decode_pairs
returns-clause-rule02_06 c = refl

pub returns-clause-rule02_07 : goal.returns-clause-rule02_07
unfolding serde_json_on_literals digits encode_with chars encode_utf8 on_card step after_event after_reset select_row get_response_row read_binary_row read_record_row update_binary_row update_record_row verify_row manage_channel_row status_row terminal_profile_row fetch_row terminal_response_row read_fcp write_fcp read_rule default_alphabet extension_table decode_pairs
returns-clause-rule02_07 c = refl

pub returns-clause-rule02_08 : goal.returns-clause-rule02_08
unfolding serde_json_on_literals digits encode_with chars encode_utf8 on_card step after_event after_reset select_row get_response_row read_binary_row read_record_row update_binary_row update_record_row verify_row manage_channel_row status_row terminal_profile_row fetch_row terminal_response_row read_fcp write_fcp read_rule default_alphabet extension_table decode_pairs
returns-clause-rule02_08 c = refl
