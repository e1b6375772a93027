-- What is decoded of a family's files shows them.
use Rattle.std.proofs.Common.{◌≡◌, ◌==◌, ◌||◌, if◌then◌else◌, ℕ, Bool, true, false, List, [], ◌∷◌, map, Option, Some, None, Result, Ok, Err, refl, ap, codes}
use Rattle.fcp.specs.declared.rows.FileKind.{FileKind}
use Rattle.fcp.specs.declared.rows.FileKind.TheVariants.{Transparent, Linear, Directory}
use Rattle.fcp.specs.Content.{Content, first_row}
use Rattle.sim_codecs.specs.Digits.{iccid_of, imsi_of}
use Rattle.sim_codecs.specs.Fields.{spn_of, ad_of}
use Rattle.sim_codecs.specs.Applications.{dir_row_of}
use Rattle.sim_codecs.specs.declared.values.AppRow.{AppRow}
use Rattle.sim_codecs.specs.declared.values.Ad.{Ad}
use Rattle.adn.specs.declared.entry.BookRow.{BookRow}
use Rattle.adn.specs.declared.entry.BookRow.TheVariants.{Free, Entry, Unreadable}
use Rattle.serde_json.specs.Data.{Data, string, array, object}
use Rattle.serde_json.specs.Written.{compact_text, has_float, items_have_float}
use Rattle.families.specs.declared.content.Field.{Field}
use Rattle.families.specs.declared.content.Field.TheVariants.{Absent, Present, Malformed}
use Rattle.families.specs.declared.content.StandardContent.{StandardContent}
use Rattle.families.specs.declared.content.StandardContent.TheVariants as content
use Rattle.families.specs.Families as family
use Rattle.families.specs.Contents as spec

-- ---- the JSON of what is decoded is the family's

read_shown : {A : Type 0} (written : A → Data) (r : Result A ℕ) → spec.field_json written (spec.field_read r) ≡ family.read_data written r
read_shown written (Ok value) = refl
read_shown written (Err at) = refl

field_shown_by : {A : Type 0} (read : List ℕ → Result A ℕ) (written : A → Data) (kind : FileKind) (width : ℕ) (rows : List (List ℕ))
    → spec.field_json written (spec.field_of read (record { kind = kind; width = width; rows = rows })) ≡ family.field_by read written kind rows
field_shown_by read written Transparent width rows = read_shown written (read (first_row rows))
field_shown_by read written Linear width rows = refl
field_shown_by read written Directory width rows = refl

field_shown : {A : Type 0} (read : List ℕ → Result A ℕ) (written : A → Data) (file : Content) → spec.field_json written (spec.field_of read file) ≡ family.field_data read written file
field_shown read written file = field_shown_by read written file.kind file.width file.rows

row_shown : (r : Result (Option AppRow) ℕ) → spec.application_json (spec.row_read r) ≡ family.read_data family.application_data r
row_shown (Ok (Some value)) = refl
row_shown (Ok None) = refl
row_shown (Err at) = refl

rows_shown : (rows : List (List ℕ)) → map spec.application_json (map spec.application_of rows) ≡ map (λ row. family.read_data family.application_data (dir_row_of row)) rows
rows_shown [] = refl
rows_shown (row ∷ rows) = rw (row_shown (dir_row_of row), rows_shown rows) refl

applications_shown : (dir : Content) → spec.list_json spec.application_json (spec.applications_of dir) ≡ family.applications_data dir
applications_shown dir = ap (λ ds. array (family.items ds)) (rows_shown (family.linear_rows dir.kind dir.rows))

-- the object of the six parts
parts : (ad apps iccid imsi msisdn spn : Data) → Data
parts ad apps iccid imsi msisdn spn = object (family.members (
    (codes "ad", ad) ∷ (codes "apps", apps) ∷ (codes "iccid", iccid) ∷ (codes "imsi", imsi) ∷ (codes "msisdn", msisdn) ∷ (codes "spn", spn) ∷ []))

same_parts : {ad ad' apps apps' iccid iccid' imsi imsi' msisdn msisdn' spn spn' : Data} → ad ≡ ad' → apps ≡ apps' → iccid ≡ iccid' → imsi ≡ imsi' → msisdn ≡ msisdn' → spn ≡ spn' → parts ad apps iccid imsi msisdn spn ≡ parts ad' apps' iccid' imsi' msisdn' spn'
same_parts p q r s t u = cc

records_shown : (view : family.View) → spec.records_json (spec.records_of view) ≡ family.records_data (view family.ad_path) (view family.dir_path) (view family.iccid_path) (view family.imsi_path) (view family.msisdn_path) (view family.ext5_path) (view family.spn_path)
unfolding parts
records_shown view = same_parts
    (field_shown ad_of family.ad_data (view family.ad_path))
    (applications_shown (view family.dir_path))
    (field_shown iccid_of string (view family.iccid_path))
    (field_shown imsi_of string (view family.imsi_path))
    refl
    (field_shown spn_of family.spn_data (view family.spn_path))

json_shown_by : (is_records : Bool) (f : ℕ) (view : family.View)
    → spec.content_json (if is_records then content.Records (spec.records_of view) else content.Book (family.family_book f view)) ≡ elim is_records [
      | true ↦ family.records_data (view family.ad_path) (view family.dir_path) (view family.iccid_path) (view family.imsi_path) (view family.msisdn_path) (view family.ext5_path) (view family.spn_path)
      | false ↦ family.book_data (view (family.family_path f 0)) (view (family.family_path f 1))
    ]
json_shown_by true f view = records_shown view
json_shown_by false f view = refl

json_shown : (f : ℕ) (view : family.View) → spec.content_json (spec.decoded f view) ≡ family.family_data f view
json_shown f view = json_shown_by (f == family.records) f view

pub decoded_shown : (f : ℕ) (view : family.View) → spec.content_text (spec.decoded f view) ≡ family.shown f view
decoded_shown f view = ap compact_text (json_shown f view)

-- ---- there is no float in it

absent : (a b : Bool) → a ≡ false → b ≡ false → (a || b) ≡ false
absent a b p q = rw (p, q) refl

field_whole : {A : Type 0} (written : A → Data) → ((x : A) → has_float (written x) ≡ false) → (field : Field A) → has_float (spec.field_json written field) ≡ false
field_whole written each Absent = refl
field_whole written each (Present value) = each value
field_whole written each (Malformed at) = refl

list_whole : {A : Type 0} (written : A → Data) → ((x : A) → has_float (written x) ≡ false) → (xs : List A) → items_have_float (family.items (map written xs)) ≡ false
list_whole written each [] = refl
list_whole written each (x ∷ xs) = absent (has_float (written x)) _ (each x) (list_whole written each xs)

mnc_whole : (mnc : Option ℕ) → has_float (family.mnc_data mnc) ≡ false
mnc_whole None = refl
mnc_whole (Some n) = refl

ad_whole : (ad : Ad) → has_float (family.ad_data ad) ≡ false
ad_whole ad = absent (has_float (family.mnc_data ad.mnc)) false (mnc_whole ad.mnc) refl

entry_whole : (row : BookRow) → has_float (family.entry_data row) ≡ false
entry_whole Free = refl
entry_whole (Entry e) = refl
entry_whole Unreadable = refl

application_whole : (field : Field AppRow) → has_float (spec.application_json field) ≡ false
application_whole field = field_whole (λ row. family.application_data (Some row)) (λ row. refl) field

parts_whole : (ad apps iccid imsi msisdn spn : Data) → has_float ad ≡ false → has_float apps ≡ false → has_float iccid ≡ false → has_float imsi ≡ false → has_float msisdn ≡ false → has_float spn ≡ false
    → has_float (parts ad apps iccid imsi msisdn spn) ≡ false
unfolding parts
parts_whole ad apps iccid imsi msisdn spn p q r s t u =
    absent (has_float ad) _ p (absent (has_float apps) _ q (absent (has_float iccid) _ r (absent (has_float imsi) _ s (absent (has_float msisdn) _ t (absent (has_float spn) false u refl)))))

pub json_whole : (c : StandardContent) → has_float (spec.content_json c) ≡ false
unfolding parts
json_whole (content.Records r) = parts_whole
    (spec.field_json family.ad_data r.ad) (spec.list_json spec.application_json r.applications) (spec.field_json string r.iccid)
    (spec.field_json string r.imsi) (spec.list_json family.entry_data r.msisdn) (spec.field_json family.spn_data r.spn)
    (field_whole family.ad_data ad_whole r.ad)
    (list_whole spec.application_json application_whole r.applications)
    (field_whole string (λ text. refl) r.iccid)
    (field_whole string (λ text. refl) r.imsi)
    (list_whole family.entry_data entry_whole r.msisdn)
    (field_whole family.spn_data (λ spn. refl) r.spn)
json_whole (content.Book book) = absent (items_have_float (family.items (map family.entry_data book))) false (list_whole family.entry_data entry_whole book) refl
