-- What is shown of a family: compact JSON whose numbers are whole and have 64 bits at most.
use Rattle.std.specs.Prelude.{ℕ, ◌&&◌, Bool, true, is_some, if◌then◌else◌, List, Option, Some, None}
use Rattle.std.specs.Str.{is_utf8}
use Rattle.apdu.specs.Words.{same_bytes}
use Rattle.serde_json.specs.Data.{Data, null, boolean, number, string, array, object, Items, no_items, item, Members, no_members, member}
use Rattle.serde_json.specs.Find.{as_u64}
use Rattle.serde_json.specs.Read.{read}
use Rattle.serde_json.specs.Written.{compact_text}
use Rattle.report_reader.specs.Reads.{◌>>=◌}

-- each number in it is whole
abbrev mutual
  pub is_whole : Data → Bool
  is_whole null = true
  is_whole (boolean b) = true
  is_whole (number n) = is_some (as_u64 n)
  is_whole (string s) = true
  is_whole (array ds) = are_items_whole ds
  is_whole (object ms) = are_members_whole ms

  pub are_items_whole : Items → Bool
  are_items_whole no_items = true
  are_items_whole (item d ds) = is_whole d && are_items_whole ds

  pub are_members_whole : Members → Bool
  are_members_whole no_members = true
  are_members_whole (member k d ms) = is_whole d && are_members_whole ms

-- the data's one text, if this is it
abbrev pub text_of : List ℕ → Data → Option (List ℕ)
text_of text d = if is_whole d && same_bytes (compact_text d) text then Some (compact_text d) else None

-- the text is JSON, and is written as it stands
abbrev pub content : List ℕ → Option (List ℕ)
content text = if is_utf8 text then read text >>= text_of text else None
