-- The families of files that are published, in that order, and the text of what a card shows of each. The files are those of the
-- master file (ETSI TS 102 221 clause 13), of the USIM and of DF_TELECOM (3GPP TS 31.102 clauses 4.2 and 4.4).
use Rattle.std.specs.Prelude.{ℕ, ◌==◌, Bool, true, false, if◌then◌else◌, List, [], ◌∷◌, map, slice_get, Option, Some, None, unwrap_or, Result, Ok, Err, codes}
use Rattle.apdu.specs.Words.{path_is_in}
use Rattle.fcp.specs.declared.rows.FileKind.{FileKind}
use Rattle.fcp.specs.declared.rows.FileKind.TheVariants.{Transparent, Linear, Directory}
use Rattle.fcp.specs.Content.{Content, first_row}
use Rattle.sim_codecs.specs.Digits.{iccid_of, imsi_of}
use Rattle.sim_codecs.specs.Fields.{spn_of, ad_of}
use Rattle.sim_codecs.specs.Applications.{dir_row_of}
use Rattle.sim_codecs.specs.declared.values.Spn.{Spn}
use Rattle.sim_codecs.specs.declared.values.Ad.{Ad}
use Rattle.sim_codecs.specs.declared.values.AppRow.{AppRow}
use Rattle.adn.specs.declared.entry.BookRow.{BookRow}
use Rattle.adn.specs.declared.entry.BookRow.TheVariants.{Free, Entry, Unreadable}
use Rattle.adn.specs.Book.{decode_book}
use Rattle.serde_json.specs.Data.{Data, null, boolean, number, string, array, object, unsigned, Items, no_items, item, Members, no_members, member}
use Rattle.serde_json.specs.Written.{compact_text}
use Rattle.hex.specs.Hex.{encode_upper}
use Rattle.adn.specs.declared.edit.Edit.{Edit}
use Rattle.adn.specs.declared.edit.Plan.{Plan}
use Rattle.adn.specs.declared.edit.PlanError.{PlanError}
use Rattle.families.specs.Plans.{plan_edit}

-- ---- families and their paths in order of reading

abbrev pub records : ℕ
records = 0

abbrev pub phonebook : ℕ
phonebook = 1

abbrev pub fixed : ℕ
fixed = 2

abbrev pub all_families : List ℕ
all_families = records ∷ phonebook ∷ fixed ∷ []

abbrev pub iccid_path : List ℕ
iccid_path = 0x2FE2 ∷ []

abbrev pub imsi_path : List ℕ
imsi_path = 0x7FFF ∷ 0x6F07 ∷ []

abbrev pub ad_path : List ℕ
ad_path = 0x7FFF ∷ 0x6FAD ∷ []

abbrev pub spn_path : List ℕ
spn_path = 0x7FFF ∷ 0x6F46 ∷ []

abbrev pub msisdn_path : List ℕ
msisdn_path = 0x7FFF ∷ 0x6F40 ∷ []

abbrev pub ext5_path : List ℕ
ext5_path = 0x7FFF ∷ 0x6F4E ∷ []

abbrev pub dir_path : List ℕ
dir_path = 0x2F00 ∷ []

abbrev pub adn_path : List ℕ
adn_path = 0x7F10 ∷ 0x6F3A ∷ []

abbrev pub ext1_path : List ℕ
ext1_path = 0x7F10 ∷ 0x6F4A ∷ []

abbrev pub fdn_path : List ℕ
fdn_path = 0x7FFF ∷ 0x6F3B ∷ []

abbrev pub ext2_path : List ℕ
ext2_path = 0x7FFF ∷ 0x6F4B ∷ []

abbrev pub family_paths : ℕ → List (List ℕ)
family_paths f =
    if f == records then iccid_path ∷ imsi_path ∷ ad_path ∷ spn_path ∷ msisdn_path ∷ ext5_path ∷ dir_path ∷ []
    else if f == phonebook then adn_path ∷ ext1_path ∷ []
    else if f == fixed then fdn_path ∷ ext2_path ∷ []
    else []

-- file i of a family's plan; 0 is the main file, 1 the extension file
abbrev pub family_path : ℕ → ℕ → List ℕ
family_path f i = unwrap_or (slice_get (family_paths f) i) []

abbrev pub has_path : ℕ → List ℕ → Bool
has_path f path = path_is_in (family_paths f) path

-- ---- what the files hold, by their paths

abbrev pub View : Type 0
View = List ℕ → Content

abbrev pub family_book : ℕ → View → List BookRow
family_book f view = decode_book (view (family_path f 0)) (view (family_path f 1))

abbrev pub family_plan : ℕ → Edit → View → Result Plan PlanError
family_plan f e view = plan_edit e (view (family_path f 0)) (view (family_path f 1))

-- ---- as JSON, the members of each object in byte order

abbrev pub members : List (List ℕ × Data) → Members
members [] = no_members
members ((key, value) ∷ rest) = member key value (members rest)

abbrev pub items : List Data → Items
items [] = no_items
items (value ∷ rest) = item value (items rest)

-- the index at which a file is damaged
abbrev pub bad_at : ℕ → Data
bad_at at = object (members ((codes "bad", number (unsigned at)) ∷ []))

abbrev pub read_data : {A : Type 0} → (A → Data) → Result A ℕ → Data
read_data written (Ok value) = written value
read_data written (Err at) = bad_at at

-- a field of a transparent file: null where there is none, or where the file is of another kind
abbrev pub field_by : {A : Type 0} → (List ℕ → Result A ℕ) → (A → Data) → FileKind → List (List ℕ) → Data
field_by read written Transparent rows = read_data written (read (first_row rows))
field_by read written Linear rows = null
field_by read written Directory rows = null

abbrev pub field_data : {A : Type 0} → (List ℕ → Result A ℕ) → (A → Data) → Content → Data
field_data read written content = field_by read written content.kind content.rows

abbrev pub mnc_data : Option ℕ → Data
mnc_data None = null
mnc_data (Some n) = number (unsigned n)

abbrev pub ad_data : Ad → Data
ad_data value = object (members ((codes "mnc", mnc_data value.mnc) ∷ (codes "mode", number (unsigned value.mode)) ∷ []))

abbrev pub spn_data : Spn → Data
spn_data value = object (members ((codes "name", string value.name) ∷ (codes "show", number (unsigned value.show)) ∷ []))

abbrev pub application_data : Option AppRow → Data
application_data None = null
application_data (Some row) = object (members ((codes "aid", string (encode_upper row.aid)) ∷ (codes "label", string (encode_upper row.label)) ∷ []))

-- the rows of a linear file; another file has none
abbrev pub linear_rows : FileKind → List (List ℕ) → List (List ℕ)
linear_rows Linear rows = rows
linear_rows Transparent rows = []
linear_rows Directory rows = []

abbrev pub applications_data : Content → Data
applications_data content = array (items (map (λ row. read_data application_data (dir_row_of row)) (linear_rows content.kind content.rows)))

-- null for a free row
abbrev pub entry_data : BookRow → Data
entry_data Free = null
entry_data Unreadable = object (members ((codes "bad", boolean true) ∷ []))
entry_data (Entry e) = object (members ((codes "name", string e.name) ∷ (codes "number", string e.number) ∷ []))

abbrev pub entries_data : List BookRow → Data
entries_data book = array (items (map entry_data book))

-- of what the files of the records hold
abbrev pub records_data : Content → Content → Content → Content → Content → Content → Content → Data
records_data ad dir iccid imsi msisdn ext5 spn = object (members (
    (codes "ad", field_data ad_of ad_data ad) ∷
    (codes "apps", applications_data dir) ∷
    (codes "iccid", field_data iccid_of string iccid) ∷
    (codes "imsi", field_data imsi_of string imsi) ∷
    (codes "msisdn", entries_data (decode_book msisdn ext5)) ∷
    (codes "spn", field_data spn_of spn_data spn) ∷ []))

-- of what the main file and the extension file of a book hold
abbrev pub book_data : Content → Content → Data
book_data main ext = object (members ((codes "entries", entries_data (decode_book main ext)) ∷ []))

abbrev pub family_data : ℕ → View → Data
family_data f view = elim (f == records) [
  | true ↦ records_data (view ad_path) (view dir_path) (view iccid_path) (view imsi_path) (view msisdn_path) (view ext5_path) (view spn_path)
  | false ↦ book_data (view (family_path f 0)) (view (family_path f 1))
]

-- the compact JSON text of a family
abbrev pub shown : ℕ → View → List ℕ
shown f view = compact_text (family_data f view)
