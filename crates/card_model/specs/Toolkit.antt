-- STATUS, TERMINAL PROFILE, FETCH and TERMINAL RESPONSE, ETSI TS 102 221 clauses 11.1.2 and 11.2, TS 102 223 clause 6.
use Rattle.std.specs.Prelude.{ℕ, ◌==◌, ◌||◌, not, true, false, if◌then◌else◌, List, [], ◌∷◌, ◌++◌, length, drop, position, slice_set, Option, Some, None}
use Rattle.apdu.specs.Values.{CommandValue, ResponseValue}
use Rattle.apdu.specs.Words.{is_empty}
use Rattle.card_model.specs.declared.world.FileState.{FileState}
use Rattle.card_model.specs.declared.world.Change.{Change}
use Rattle.card_model.specs.declared.world.CardState.{CardState}
use Rattle.card_model.specs.Card.{has_path, change_command, first_armed}
use Rattle.card_model.specs.Answers.{refuses, other_length, answer, succeeds, parameters, wanted_le}

-- ---- STATUS

unfoldable pub status_row : List Change → CardState → CommandValue → CardState × ResponseValue
status_row changes card c =
    if not (c.p1 == 0x00) || not (c.p2 == 0x0C) then refuses card 0x6A86
    else if not (is_empty c.body) then refuses card 0x6700
    else succeeds changes card

-- ---- TERMINAL PROFILE

unfoldable pub terminal_profile_row : List Change → CardState → CommandValue → CardState × ResponseValue
terminal_profile_row changes card c =
    if not (parameters c == 0) then refuses card 0x6A86
    else if is_empty c.body then refuses card 0x6700
    else succeeds changes card

-- ---- FETCH

-- the file replaces the one of its path, and a new path goes last
abbrev pub file_put : List FileState → FileState → Option ℕ → List FileState
file_put files new None = files ++ new ∷ []
file_put files new (Some place) = slice_set files place new

abbrev pub with_file : List FileState → FileState → List FileState
with_file files new = file_put files new (position (has_path new.path) files)

abbrev pub with_files : List FileState → List FileState → List FileState
with_files files [] = files
with_files files (new ∷ more) = with_files (with_file files new) more

-- the change leaves the list, its files are the card's from now on, and a TERMINAL RESPONSE is awaited
abbrev pub with_change : CardState → Change → CardState
with_change card change = record card {
  files = with_files card.files change.files;
  armed = drop 1 card.armed;
  awaiting = true;
}

-- Le not the length: 6CXX
abbrev pub fetch_with_le : CardState → Change → ℕ → CardState × ResponseValue
fetch_with_le card change le =
    if not (le == length (change_command change)) then refuses card (other_length (length (change_command change)))
    else (with_change card change, answer (change_command change) 0x9000)

-- nothing armed, or awaiting: 6985
abbrev pub fetch_armed : CardState → ℕ → Option Change → CardState × ResponseValue
fetch_armed card le None = refuses card 0x6985
fetch_armed card le (Some change) = if card.awaiting then refuses card 0x6985 else fetch_with_le card change le

-- a body, or no Le: 6700
abbrev pub fetch_first : List Change → CardState → Option ℕ → CardState × ResponseValue
fetch_first changes card None = refuses card 0x6700
fetch_first changes card (Some le) = fetch_armed card le (first_armed changes card)

unfoldable pub fetch_row : List Change → CardState → CommandValue → CardState × ResponseValue
fetch_row changes card c = if not (parameters c == 0) then refuses card 0x6A86 else fetch_first changes card (wanted_le c)

-- ---- TERMINAL RESPONSE

unfoldable pub terminal_response_row : List Change → CardState → CommandValue → CardState × ResponseValue
terminal_response_row changes card c =
    if not (parameters c == 0) then refuses card 0x6A86
    else if not card.awaiting then refuses card 0x6985
    else if is_empty c.body then refuses card 0x6700
    else succeeds changes (record card { awaiting = false })
