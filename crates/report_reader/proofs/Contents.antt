-- Bytes, by what JSON says of them, and whole numbers.
use Rattle.std.proofs.Common.{◌≡◌, ◌&&◌, ◌||◌, ℕ, Bool, true, false, List, Option, Some, None, is_some, if◌then◌else◌, refl}
use Rattle.std.specs.Str.{is_utf8}
use Rattle.std.specs.Prelude.{IsUtf8}
use Rattle.std.proofs.lemmas.Str.{IsUtf8-from_is_utf8, is_utf8-from_IsUtf8}
use Rattle.serde_json.specs.Data.{Num, unsigned, negative, float, Data, null, boolean, number, string, array, object, Items, no_items, item, Members, no_members, member}
use Rattle.serde_json.specs.Find.{as_u64, is_float}
use Rattle.serde_json.specs.Read.{read}
use Rattle.serde_json.specs.Written.{has_float, items_have_float, members_have_float}
use Rattle.report_reader.specs.Reads.{◌>>=◌}
use Rattle.report_reader.specs.Content.{is_whole, are_items_whole, are_members_whole, text_of, content}

refused_if : (b : Bool) (bytes : List ℕ) (d : Option Data) → (b ≡ true → d ≡ None) → (if b then d >>= text_of bytes else None) ≡ None
refused_if true bytes d h = rw (h refl) refl
refused_if false bytes d h = refl

-- bytes that are no UTF-8, or no JSON
pub refused_content : (bytes : List ℕ) → (IsUtf8 bytes → read bytes ≡ None) → content bytes ≡ None
refused_content bytes h = refused_if (is_utf8 bytes) bytes (read bytes) (λ e. h (IsUtf8-from_is_utf8 bytes e))

-- bytes that are JSON
pub read_content : (bytes : List ℕ) (d : Data) → IsUtf8 bytes → read bytes ≡ Some d → content bytes ≡ text_of bytes d
read_content bytes d h e = rw (is_utf8-from_IsUtf8 bytes h, e) refl

-- ---- a whole number is no float

number_no_float : (n : Num) → is_some (as_u64 n) ≡ true → is_float n ≡ false
number_no_float (unsigned n) h = refl
number_no_float (negative z) h = refl
number_no_float (float x) h = absurd (cc)

first : (a b : Bool) → (a && b) ≡ true → a ≡ true
first true b h = refl
first false b h = absurd (cc)

second : (a b : Bool) → (a && b) ≡ true → b ≡ true
second true b h = h
second false b h = absurd (cc)

both : (a b : Bool) → a ≡ false → b ≡ false → (a || b) ≡ false
both a b x y = rw (x, y) refl

mutual
  pub no_float : (d : Data) → is_whole d ≡ true → has_float d ≡ false
  no_float null h = refl
  no_float (boolean b) h = refl
  no_float (number n) h = number_no_float n h
  no_float (string s) h = refl
  no_float (array ds) h = items_no_float ds h
  no_float (object ms) h = members_no_float ms h

  items_no_float : (ds : Items) → are_items_whole ds ≡ true → items_have_float ds ≡ false
  items_no_float no_items h = refl
  items_no_float (item d ds) h = both (has_float d) (items_have_float ds) (no_float d (first (is_whole d) (are_items_whole ds) h)) (items_no_float ds (second (is_whole d) (are_items_whole ds) h))

  members_no_float : (ms : Members) → are_members_whole ms ≡ true → members_have_float ms ≡ false
  members_no_float no_members h = refl
  members_no_float (member k d ms) h = both (has_float d) (members_have_float ms) (no_float d (first (is_whole d) (are_members_whole ms) h)) (members_no_float ms (second (is_whole d) (are_members_whole ms) h))
