-- Each update of a plan writes a row that its file has, with as many bytes.
use Rattle.std.proofs.Common.{◌≡◌, ◌≤◌, ◌+◌, ◌-◌, ◌&&◌, ℕ, Bool, true, false, cond, nat_lt, List, [], ◌∷◌, ◌++◌, length, take, drop, replicate, Option, Some, None, refl, arith}
use Rattle.std.proofs.lemmas.List.{length-append, length-replicate}
use Rattle.std.proofs.lemmas.List.Elements.{All-cons, All-nil}
use Rattle.std.proofs.lemmas.Bool.Decides.{nat_tests}
use Rattle.std.specs.Prelude.{nat_le, option_map, All}
use Rattle.std.specs.Str.{chars}
use Rattle.apdu.specs.Words.{is_between}
use Rattle.fcp.specs.Content.{Content, is_linear}
use Rattle.alpha.specs.declared.encode.AlphaError.TheVariants.{TooLong}
use Rattle.alpha.specs.Names.{encode_name, written_name, name_refusal, not_writable, refusal_of}
use Rattle.bcd.specs.Digits.{written_digits}
use Rattle.adn.specs.declared.entry.AdnEntry.{AdnEntry}
use Rattle.adn.specs.declared.edit.Edit.{Edit}
use Rattle.adn.specs.declared.edit.Edit.TheVariants.{Set, Clear}
use Rattle.adn.specs.Book.{extension_rows}
use Rattle.families.specs.Plans.{extension_bytes, released_bytes, number_bytes, has_plus, without_plus, update_of, released_extension, planned_after, plan_updates, some_first}
use Rattle.book_plans.specs.Phonebook.{Files}
use Rattle.book_plans.specs.Law.{FitsFile, Fits, PlansFit}
use Rattle.book_plans.proofs.Apart.{and_parts, range_parts}
use Rattle.book_plans.proofs.Written.{filled_to_length, number_wide}
use Rattle.book_plans.proofs.Back.{short_part}
use Rattle.book_plans.proofs.Behind.{IsFree, released_is}
use Rattle.book_plans.proofs.Cases.{IsRow, CanWrite, AtCases, plan_cases, further_length}

-- ---- extension rows

-- a file that has an extension row of this number
record HasExtension (ext : Content) (n : ℕ) : Type 0 where
  linear : is_linear ext.kind ≡ true
  wide : 13 ≤ ext.width
  within : n ≤ length ext.rows

extension_by : (ext : Content) (n : ℕ) → 1 ≤ n → (b : Bool) → (is_linear ext.kind && nat_le 13 ext.width) ≡ b → n ≤ length (cond b ext.rows []) → HasExtension ext n
extension_by ext n first true is within = let parts = and_parts (is_linear ext.kind) (nat_le 13 ext.width) is in let wide = parts.1 in record { linear = parts.0; wide = grind (arith, nat_tests); within = within }
extension_by ext n first false is within = absurd (omega arith)

has_extension : (ext : Content) (n : ℕ) → is_between 1 254 n ≡ true → n ≤ length (extension_rows ext) → HasExtension ext n
has_extension ext n range within = extension_by ext n (range_parts 1 254 n range).0 (is_linear ext.kind && nat_le 13 ext.width) refl within

after_fits : (files : Files) (at : ℕ) (found : Option ℕ) → released_extension files.main files.ext at ≡ found → All (Fits files) (some_first (option_map (λ number. update_of 1 number (released_bytes files.ext.width)) found) [])
after_fits files at None e = All-nil (Fits files)
after_fits files at (Some m) e =
    let released = released_is files.main files.ext at m e in
    let there = has_extension files.ext m released.range released.within in
    let w = there.wide in
    let one : length {A = ℕ} (0x00 ∷ []) ≤ files.ext.width = omega arith in
    All-cons (Fits files) (update_of 1 m (released_bytes files.ext.width)) []
    (record { linear = there.linear; first = (range_parts 1 254 m released.range).0; last = there.within; wide = filled_to_length (0x00 ∷ []) files.ext.width one }) (All-nil (Fits files))

filled_fits : (files : Files) (n : ℕ) (further : List ℕ) → IsFree files.main files.ext n → length further ≤ 10 → FitsFile files.ext (update_of 1 n (extension_bytes files.ext.width further))
filled_fits files n further free short =
    let there = has_extension files.ext n free.range free.within in
    let w = there.wide in
    let all : length (0x02 ∷ length further ∷ further) ≤ files.ext.width = omega arith in
    record { linear = there.linear; first = (range_parts 1 254 n free.range).0; last = there.within; wide = filled_to_length (0x02 ∷ length further ∷ further) files.ext.width all }

-- ---- main rows

name_room : (bad : Option ℕ) (need room : ℕ) → refusal_of bad need room ≡ None → need ≤ room
name_room (Some c) need room e = absurd (cc)
name_room None need room e = room_by (nat_lt room need) refl e
  where
    room_by : (b : Bool) → nat_lt room need ≡ b → cond b (Some (TooLong need room)) None ≡ None → need ≤ room
    room_by true is e = absurd (cc)
    room_by false is e = grind (arith, nat_tests)

-- a name that can be written fills its room
name_length : (main : Content) (entry : AdnEntry) → name_refusal (chars entry.name) (main.width - 14) ≡ None → length (encode_name entry.name (main.width - 14)) ≡ main.width - 14
name_length main entry e =
    let need = length (written_name (chars entry.name)) in
    filled_to_length (written_name (chars entry.name)) (main.width - 14) (name_room (not_writable (chars entry.name)) (length (written_name (chars entry.name))) (main.width - 14) e)

row_fits : (files : Files) (e : Edit) (at : ℕ) (bytes : List ℕ) → IsRow files e at → length bytes ≡ files.main.width → FitsFile files.main (update_of 0 at bytes)
row_fits files e at bytes row wide =
    let range = range_parts 1 (length files.main.rows) at row.within in
    record { linear = row.linear; first = range.0; last = range.1; wide = wide }

entry_fits : (files : Files) (e : Edit) (entry : AdnEntry) (at x : ℕ) → IsRow files e at → CanWrite files.main entry
    → FitsFile files.main (update_of 0 at (encode_name entry.name (files.main.width - 14) ++ number_bytes (has_plus entry.number) (take 10 (written_digits (without_plus entry.number))) x))
entry_fits files e entry at x row can =
    let name : List ℕ = encode_name entry.name (files.main.width - 14) in
    let f : List ℕ = number_bytes (has_plus entry.number) (take 10 (written_digits (without_plus entry.number))) x in
    let long = row.wide in
    let room : 14 ≤ files.main.width = grind (arith, nat_tests) in
    let front : length name ≡ files.main.width - 14 = name_length files.main entry can.name in
    let behind : length f ≡ 14 = number_wide (has_plus entry.number) (take 10 (written_digits (without_plus entry.number))) x (short_part (written_digits (without_plus entry.number))) in
    let all : length (name ++ f) ≡ length name + length f = length-append name f in
    let wide : length (name ++ f) ≡ files.main.width = omega arith in
    row_fits files e at (name ++ f) row wide

-- the updates behind the one before
rest_fit : (files : Files) (at : ℕ) (bytes : List ℕ) → FitsFile files.main (update_of 0 at bytes) → All (Fits files) (update_of 0 at bytes ∷ some_first (planned_after files.main files.ext at) [])
rest_fit files at bytes fits =
    All-cons (Fits files) (update_of 0 at bytes) (some_first (planned_after files.main files.ext at) []) fits (after_fits files at (released_extension files.main files.ext at) refl)

-- the bytes of an entry's row
abbrev entry_row_bytes : Content → AdnEntry → ℕ → List ℕ
entry_row_bytes main entry x = encode_name entry.name (main.width - 14) ++ number_bytes (has_plus entry.number) (take 10 (written_digits (without_plus entry.number))) x

at_fits : (e : Edit) (files : Files) (at : ℕ) → IsRow files e at → AtCases e files at (λ p. All (Fits files) (plan_updates p))
at_fits (Clear stated) files at row = rest_fit files at (replicate files.main.width 255) (row_fits files (Clear stated) at (replicate files.main.width 255) row (length-replicate files.main.width 255))
at_fits (Set stated entry) files at row = record {
  none = λ can short. rest_fit files at (entry_row_bytes files.main entry 255) (entry_fits files (Set stated entry) entry at 255 row can);
  some = λ n can free.
      All-cons (Fits files) (update_of 1 n (extension_bytes files.ext.width (drop 10 (written_digits (without_plus entry.number))))) (update_of 0 at (entry_row_bytes files.main entry n) ∷ some_first (planned_after files.main files.ext at) [])
      (filled_fits files n (drop 10 (written_digits (without_plus entry.number))) free (further_length (without_plus entry.number) can.digits))
      (rest_fit files at (entry_row_bytes files.main entry n) (entry_fits files (Set stated entry) entry at n row can));
}

pub plans_fit : PlansFit
plans_fit e files = plan_cases e files (λ p. All (Fits files) (plan_updates p)) (at_fits e files)
