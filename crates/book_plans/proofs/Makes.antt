-- Each plan makes its edit.
use Rattle.std.proofs.Common.{◌≡◌, ◌≢◌, ◌≤◌, ◌-◌, ◌==◌, ℕ, true, false, nat_lt, List, [], ◌∷◌, ◌++◌, length, take, drop, replicate, Option, Some, None, refl, sym, ap, subst, ◌∙◌, arith}
use Rattle.std.proofs.Math.ListN.{set, drop_of_length-le}
use Rattle.std.proofs.lemmas.Bool.Decides.{nat_tests}
use Rattle.std.specs.Prelude.{slice_get, option_map}
use Rattle.std.specs.Str.{IsUtf8}
use Rattle.apdu.specs.Words.{has_value, is_between, is_one_of}
use Rattle.fcp.specs.Content.{Content, with_row}
use Rattle.alpha.specs.Names.{encode_name}
use Rattle.alpha.proofs.ReadBack.{read_back}
use Rattle.bcd.specs.Digits.{written_digits}
use Rattle.adn.specs.declared.entry.AdnEntry.{AdnEntry}
use Rattle.adn.specs.declared.entry.BookRow.{BookRow}
use Rattle.adn.specs.declared.entry.BookRow.TheVariants.{Free}
use Rattle.adn.specs.declared.edit.Edit.{Edit}
use Rattle.adn.specs.declared.edit.Edit.TheVariants.{Set, Clear}
use Rattle.adn.specs.Book.{extension_rows, book_row, decode_book, extension_row, additional_of, entry_row}
use Rattle.families.specs.Plans.{target_of, new_row, with_target, edited, named_extension, extension_type, released_extension, extension_bytes, released_bytes, number_bytes, has_plus, without_plus, update_of, planned_after, set_plan, clear_plan}
use Rattle.book_plans.specs.Phonebook.{Files}
use Rattle.book_plans.specs.Law.{book_of, written_some, Makes, HasText, PlansMakeEdits}
use Rattle.book_plans.proofs.Names.{named_extension-fill}
use Rattle.book_plans.proofs.Apart.{cond_true, range_parts}
use Rattle.book_plans.proofs.Written.{freed_row, parted_row}
use Rattle.book_plans.proofs.Back.{number_back, additional_back}
use Rattle.book_plans.proofs.Cases.{IsRow, CanWrite, AtCases, further_length, plan_cases}
use Rattle.book_plans.proofs.Behind.{ext_with, get_same, IsFree, IsReleased, released_is, IsBehind, filled_behind, decided_book, names_other, last_of, after_book}

edited_is : (book : List BookRow) (e : Edit) (at : ℕ) → target_of book e ≡ Some at → set book (at - 1) (new_row e) ≡ edited book e
edited_is book e at target = ap (λ t. with_target book t (new_row e)) (sym target)

-- ---- the update after

after_by : (main ext ext1 : Content) (at : ℕ) (bytes : List ℕ) → IsBehind main ext ext1 → ((m : ℕ) → IsReleased main ext at m → has_value (λ k. k == m) (named_extension (extension_rows ext1) bytes) ≡ false)
    → (found : Option ℕ) → released_extension main ext at ≡ found
    → book_of (written_some (record { main = with_row (at - 1) bytes main; ext = ext1 }) (option_map (λ number. update_of 1 number (released_bytes ext.width)) found)) ≡ decode_book (with_row (at - 1) bytes main) ext1
after_by main ext ext1 at bytes behind other None e = refl
after_by main ext ext1 at bytes behind other (Some m) e =
    let released : IsReleased main ext at m = released_is main ext at m e in
    after_book main ext ext1 at m bytes (released_bytes ext.width) behind released (other m released)

-- ---- a row is freed

clear_makes : (files : Files) (stated at : ℕ) → nat_lt files.main.width 14 ≡ false → target_of (book_of files) (Clear stated) ≡ Some at → Makes files (Clear stated) (clear_plan files.main files.ext at)
clear_makes files stated at wide target =
    let main : Content = files.main in
    let ext : Content = files.ext in
    let room : 14 ≤ files.main.width = grind (arith, nat_tests) in
    let behind : IsBehind files.main files.ext files.ext = record { book = refl; count = refl } in
    let deciding = decided_book main ext ext (at - 1) (replicate main.width 255) Free behind (freed_row (extension_rows ext) main.width room) ∙ edited_is (book_of files) (Clear stated) at target in
    let other : (m : ℕ) → IsReleased files.main files.ext at m → has_value (λ k. k == m) (named_extension (extension_rows files.ext) (replicate files.main.width 255)) ≡ false =
    λ m released. ap (has_value (λ k. k == m)) (named_extension-fill (extension_rows files.ext) files.main.width) in
    record {
      before = refl;
      deciding = deciding;
      after = after_by main ext ext at (replicate main.width 255) behind other (released_extension main ext at) refl ∙ deciding;
    }

-- ---- an entry is written

-- the bytes of the row
abbrev row_bytes : Content → AdnEntry → ℕ → List ℕ
row_bytes main entry x = encode_name entry.name (main.width - 14) ++ number_bytes (has_plus entry.number) (take 10 (written_digits (without_plus entry.number))) x

-- the books behind the deciding update and the one after
record Ends (main ext ext1 : Content) (at : ℕ) (bytes : List ℕ) (book : List BookRow) : Type 0 where
  deciding : decode_book (with_row (at - 1) bytes main) ext1 ≡ book
  after : book_of (written_some (record { main = with_row (at - 1) bytes main; ext = ext1 }) (planned_after main ext at)) ≡ book

set_ends : (main ext ext1 : Content) (stated : Option ℕ) (entry : AdnEntry) (at x : ℕ) → CanWrite main entry → IsUtf8 entry.name → target_of (decode_book main ext) (Set stated entry) ≡ Some at → IsBehind main ext ext1
    → additional_of (extension_row (extension_rows ext1) x) ≡ drop 10 (written_digits (without_plus entry.number)) → ((m : ℕ) → IsReleased main ext at m → m ≢ x)
    → Ends main ext ext1 at (row_bytes main entry x) (edited (decode_book main ext) (Set stated entry))
set_ends main ext ext1 stated entry at x can text target behind further apart =
    let name : List ℕ = encode_name entry.name (main.width - 14) in
    let f : List ℕ = number_bytes (has_plus entry.number) (take 10 (written_digits (without_plus entry.number))) x in
    let back = number_back (extension_rows ext1) entry.number x can.digits can.some further in
    let read : book_row (extension_rows ext1) (row_bytes main entry x) ≡ entry_row entry =
    parted_row (extension_rows ext1) name f entry.number back.wide back.readable back.number
    ∙ ap (λ n. entry_row (record { name = n; number = entry.number })) (read_back entry.name (main.width - 14) text can.name) in
    let deciding = decided_book main ext ext1 (at - 1) (row_bytes main entry x) (entry_row entry) behind read ∙ edited_is (decode_book main ext) (Set stated entry) at target in
    let other : (m : ℕ) → IsReleased main ext at m → has_value (λ k. k == m) (named_extension (extension_rows ext1) (row_bytes main entry x)) ≡ false =
    λ m released. names_other (extension_rows ext1) (row_bytes main entry x) m
    (λ same. back.others m (apart m released) (λ filled. past_last m (range_parts 1 254 m released.range).1 filled) (sym (last_of name f back.wide) ∙ same)) in
    record {
      deciding = deciding;
      after = after_by main ext ext1 at (row_bytes main entry x) behind other (released_extension main ext at) refl ∙ deciding;
    }
  where
    past_last : (m : ℕ) → m ≤ 254 → m ≢ 255
    past_last m h same = absurd (omega arith)

-- no extension row is needed
none_makes : (files : Files) (stated : Option ℕ) (entry : AdnEntry) (at : ℕ) → CanWrite files.main entry → IsUtf8 entry.name → target_of (book_of files) (Set stated entry) ≡ Some at
    → length (written_digits (without_plus entry.number)) ≤ 10
    → Makes files (Set stated entry) (set_plan files.main files.ext at (encode_name entry.name (files.main.width - 14)) (has_plus entry.number) (written_digits (without_plus entry.number)) None)
none_makes files stated entry at can text target short =
    let behind : IsBehind files.main files.ext files.ext = record { book = refl; count = refl } in
    let ends = set_ends files.main files.ext files.ext stated entry at 255 can text target behind (sym (drop_of_length-le (written_digits (without_plus entry.number)) short))
    (λ m released same. past_last m (range_parts 1 254 m released.range).1 same) in
    record { before = refl; deciding = ends.deciding; after = ends.after }
  where
    past_last : (m : ℕ) → m ≤ 254 → m ≢ 255
    past_last m h same = absurd (omega arith)

-- a free extension row is no row that is released
apart_by : (main ext : Content) (at n m : ℕ) → IsFree main ext n → IsReleased main ext at m → m ≢ n
apart_by main ext at n m free released same =
    let kind : extension_type ext n ≡ 0x02 = subst (λ k. extension_type ext k ≡ 0x02) same released.kind in
    let clash : true ≡ false = sym free.kind ∙ ap (λ k. is_one_of k (0x00 ∷ 0xFF ∷ [])) kind in
    absurd (cc)

-- what stands in the extension row that was filled
filled_row : (ext : Content) (n : ℕ) (r : List ℕ) → is_between 1 254 n ≡ true → n ≤ length (extension_rows ext) → extension_row (extension_rows (with_row (n - 1) r ext)) n ≡ Some r
filled_row ext n r range within =
    let low = (range_parts 1 254 n range).0 in
    cond_true (is_between 1 254 n) (slice_get (extension_rows (with_row (n - 1) r ext)) (n - 1)) None range
    ∙ ap (λ rows. slice_get rows (n - 1)) (ext_with ext (n - 1) r)
    ∙ get_same (extension_rows ext) (n - 1) r (omega arith)

some_makes : (files : Files) (stated : Option ℕ) (entry : AdnEntry) (at n : ℕ) → CanWrite files.main entry → IsUtf8 entry.name → target_of (book_of files) (Set stated entry) ≡ Some at → IsFree files.main files.ext n
    → Makes files (Set stated entry) (set_plan files.main files.ext at (encode_name entry.name (files.main.width - 14)) (has_plus entry.number) (written_digits (without_plus entry.number)) (Some n))
some_makes files stated entry at n can text target free =
    let main : Content = files.main in
    let ext : Content = files.ext in
    let further : List ℕ = drop 10 (written_digits (without_plus entry.number)) in
    let r : List ℕ = extension_bytes files.ext.width (drop 10 (written_digits (without_plus entry.number))) in
    let behind : IsBehind files.main files.ext (with_row (n - 1) r files.ext) = filled_behind main ext n r free in
    let read : additional_of (extension_row (extension_rows (with_row (n - 1) r files.ext)) n) ≡ drop 10 (written_digits (without_plus entry.number)) =
    ap additional_of (filled_row ext n r free.range free.within) ∙ additional_back ext.width further (further_length (without_plus entry.number) can.digits) in
    let ends = set_ends main ext (with_row (n - 1) r ext) stated entry at n can text target behind read (λ m released. apart_by main ext at n m free released) in
    record { before = behind.book; deciding = ends.deciding; after = ends.after }

-- ---- every plan

at_makes : (e : Edit) (files : Files) → HasText e → (at : ℕ) → IsRow files e at → AtCases e files at (Makes files e)
at_makes (Clear stated) files text at row = clear_makes files stated at row.wide row.target
at_makes (Set stated entry) files text at row = record {
  none = λ can short. none_makes files stated entry at can text row.target short;
  some = λ n can free. some_makes files stated entry at n can text row.target free;
}

pub plans_make : PlansMakeEdits
plans_make e files text = plan_cases e files (Makes files e) (at_makes e files text)
