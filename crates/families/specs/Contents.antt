-- What the files of the three families are decoded to, and the JSON of it.
use Rattle.std.specs.Prelude.{ℕ, ◌==◌, not, Bool, length, if◌then◌else◌, List, [], ◌∷◌, map, Option, Some, None, unwrap_or, Result, Ok, Err, codes}
use Rattle.fcp.specs.Content.{Content, missing, first_row, is_transparent}
use Rattle.sim_codecs.specs.Digits.{iccid_of, imsi_of}
use Rattle.sim_codecs.specs.Fields.{spn_of, ad_of}
use Rattle.sim_codecs.specs.Applications.{dir_row_of}
use Rattle.sim_codecs.specs.declared.values.AppRow.{AppRow}
use Rattle.adn.specs.declared.entry.BookRow.{BookRow}
use Rattle.adn.specs.Book.{decode_book}
use Rattle.serde_json.specs.Data.{Data, null, string, array, object}
use Rattle.serde_json.specs.Written.{compact_text}
use Rattle.families.specs.declared.content.Field.{Field}
use Rattle.families.specs.declared.content.Field.TheVariants.{Absent, Present, Malformed}
use Rattle.families.specs.declared.content.Records.{Records}
use Rattle.families.specs.declared.content.StandardContent.{StandardContent}
use Rattle.families.specs.declared.content.StandardContent.TheVariants as content
use Rattle.families.specs.Families.{View, all_families, records, iccid_path, imsi_path, ad_path, spn_path, msisdn_path, ext5_path, dir_path, family_book, members, items, bad_at, ad_data, spn_data, application_data, entry_data, linear_rows}

-- what the files hold, of which one that is not known counts as none
abbrev pub files_of : (List ℕ → Option Content) → View
files_of content path = unwrap_or (content path) missing

abbrev pub family_count : ℕ
family_count = length all_families

-- the books alone
abbrev pub is_editable : ℕ → Bool
is_editable f = not (f == records)

-- ---- decoded

abbrev pub field_read : {A : Type 0} → Result A ℕ → Field A
field_read (Ok value) = Present value
field_read (Err at) = Malformed at

-- the bytes of a transparent file; a file of another kind has none
abbrev pub bytes_of : Content → Option (List ℕ)
bytes_of file = if is_transparent file.kind then Some (first_row file.rows) else None

abbrev pub field_in : {A : Type 0} → (List ℕ → Result A ℕ) → Option (List ℕ) → Field A
field_in read None = Absent
field_in read (Some bytes) = field_read (read bytes)

abbrev pub field_of : {A : Type 0} → (List ℕ → Result A ℕ) → Content → Field A
field_of read file = field_in read (bytes_of file)

-- a row that may be empty
abbrev pub row_read : {A : Type 0} → Result (Option A) ℕ → Field A
row_read (Ok (Some value)) = Present value
row_read (Ok None) = Absent
row_read (Err at) = Malformed at

abbrev pub application_of : List ℕ → Field AppRow
application_of row = row_read (dir_row_of row)

abbrev pub applications_of : Content → List (Field AppRow)
applications_of dir = map application_of (linear_rows dir.kind dir.rows)

abbrev pub records_of : View → Records
records_of view = record {
  iccid = field_of iccid_of (view iccid_path);
  imsi = field_of imsi_of (view imsi_path);
  ad = field_of ad_of (view ad_path);
  spn = field_of spn_of (view spn_path);
  msisdn = decode_book (view msisdn_path) (view ext5_path);
  applications = applications_of (view dir_path);
}

-- what the files of a family are decoded to
abbrev pub decoded : ℕ → View → StandardContent
decoded f view = if f == records then content.Records (records_of view) else content.Book (family_book f view)

-- ---- as JSON

abbrev pub field_json : {A : Type 0} → (A → Data) → Field A → Data
field_json written Absent = null
field_json written (Present value) = written value
field_json written (Malformed at) = bad_at at

abbrev pub list_json : {A : Type 0} → (A → Data) → List A → Data
list_json written xs = array (items (map written xs))

abbrev pub application_json : Field AppRow → Data
application_json = field_json (λ row. application_data (Some row))

abbrev pub records_json : Records → Data
records_json r = object (members (
    (codes "ad", field_json ad_data r.ad) ∷
    (codes "apps", list_json application_json r.applications) ∷
    (codes "iccid", field_json string r.iccid) ∷
    (codes "imsi", field_json string r.imsi) ∷
    (codes "msisdn", list_json entry_data r.msisdn) ∷
    (codes "spn", field_json spn_data r.spn) ∷ []))

abbrev pub book_json : List BookRow → Data
book_json book = object (members ((codes "entries", list_json entry_data book) ∷ []))

abbrev pub content_json : StandardContent → Data
content_json (content.Records r) = records_json r
content_json (content.Book book) = book_json book

-- the text of what is shown
abbrev pub content_text : StandardContent → List ℕ
content_text c = compact_text (content_json c)
