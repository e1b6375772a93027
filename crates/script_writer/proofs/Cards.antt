-- Files, keys, cards, changes and faults are read back from what is written of them.
use Rattle.std.proofs.Common.{◌≡◌, ℕ, ◌==◌, arith, Bool, true, false, List, [], ◌∷◌, Option, Some, None, All, IfSome, Ok, refl, sym, subst}
use Rattle.hex.specs.Hex.{IsBytes}
use Rattle.fcp.specs.declared.control.ArrRef.{ArrRef}
use Rattle.card_model.specs.declared.world.Fault.{Fault}
use Rattle.script_reader.specs.declared.types.KeySpec.{KeySpec}
use Rattle.script_reader.specs.declared.types.CardSpec.{CardSpec}
use Rattle.script_reader.specs.declared.types.ChangeSpec.{ChangeSpec}
use Rattle.script_reader.specs.declared.types.FileSpec.{FileSpec}
use Rattle.script_reader.specs.declared.types.KindSpec.{KindSpec}
use Rattle.script_reader.specs.declared.types.KindSpec.TheVariants.{Transparent, Linear}
use Rattle.script_reader.specs.Files.{file_form}
use Rattle.script_reader.specs.Fields.{whole_to, hex, ids, list}
use Rattle.script_reader.specs.Cards.{key_form, are_tries, card_form, change_form}
use Rattle.script_writer.specs.Writing.{number_data, hex_data, path_data, list_data, key_data, fault_data, file_data, card_data, change_data}
use Rattle.script_writer.specs.ReadBack.{IsNumberBack, IsHexBack, IsSizedBack, IsPathBack, IsReferenceBack, IsKindBack, AreFieldsBack, IsFileBack, IsKeyBack, IsCardBack, IsChangeBack, IsFaultBack}
use Rattle.script_writer.proofs.Values.{byte_back, items_back, list_back}

-- ---- keys and faults

key_read : (key : ℕ) (pin : List ℕ) (tries max : ℕ) → IsBytes (key ∷ []) → IsSizedBack 8 pin → IsNumberBack 255 tries → IsNumberBack 255 max → IsKeyBack (record { key = key; pin = pin; tries = tries; max = max })
unfolding key_form key_data
key_read key pin tries max k p t m are = rw (byte_back key k, p, t, m, are) refl

pub key_back : (k : KeySpec) → IsBytes (k.key ∷ []) → IsSizedBack 8 k.pin → IsNumberBack 255 k.tries → IsNumberBack 255 k.max → IsKeyBack k
key_back k key pin tries max = key_read k.key k.pin k.tries k.max key pin tries max

pub fault_back : (f : Fault) → IsFaultBack f
unfolding fault_data
fault_back f h = rw h refl

-- ---- files

abbrev IsKindRead : KindSpec → Type 0
IsKindRead (Transparent bytes) = IsHexBack bytes
IsKindRead (Linear len rows) = IsNumberBack 65535 len × (list hex (list_data hex_data rows) ≡ Ok rows)

kind_read : (kind : KindSpec) → IsKindBack kind → IsKindRead kind
kind_read (Transparent bytes) k = k
kind_read (Linear len rows) k = (k.0, items_back hex hex_data rows k.1)

abbrev file_spec : List ℕ → KindSpec → Option ArrRef → Bool → Bool → Option (List ℕ) → FileSpec
file_spec path kind arr active endless fcp = record { path = path; kind = kind; arr = arr; active = active; endless = endless; fcp = fcp }

file_back : (path : List ℕ) (kind : KindSpec) (arr : Option ArrRef) (active endless : Bool) (fcp : Option (List ℕ))
    → ids (path_data path) ≡ Ok path → IsKindRead kind → IfSome arr IsReferenceBack → IfSome fcp IsHexBack
    → file_form (file_data (file_spec path kind arr active endless fcp)) ≡ Ok (file_spec path kind arr active endless fcp)
unfolding file_form file_data
file_back path (Transparent bytes) None true true None p k a c = rw (k, p) refl
file_back path (Transparent bytes) None true true (Some bs) p k a c = rw (k, p, c) refl
file_back path (Transparent bytes) None true false None p k a c = rw (k, p) refl
file_back path (Transparent bytes) None true false (Some bs) p k a c = rw (k, p, c) refl
file_back path (Transparent bytes) None false true None p k a c = rw (k, p) refl
file_back path (Transparent bytes) None false true (Some bs) p k a c = rw (k, p, c) refl
file_back path (Transparent bytes) None false false None p k a c = rw (k, p) refl
file_back path (Transparent bytes) None false false (Some bs) p k a c = rw (k, p, c) refl
file_back path (Transparent bytes) (Some r) true true None p k a c = rw (k, p, a) refl
file_back path (Transparent bytes) (Some r) true true (Some bs) p k a c = rw (k, p, a, c) refl
file_back path (Transparent bytes) (Some r) true false None p k a c = rw (k, p, a) refl
file_back path (Transparent bytes) (Some r) true false (Some bs) p k a c = rw (k, p, a, c) refl
file_back path (Transparent bytes) (Some r) false true None p k a c = rw (k, p, a) refl
file_back path (Transparent bytes) (Some r) false true (Some bs) p k a c = rw (k, p, a, c) refl
file_back path (Transparent bytes) (Some r) false false None p k a c = rw (k, p, a) refl
file_back path (Transparent bytes) (Some r) false false (Some bs) p k a c = rw (k, p, a, c) refl
file_back path (Linear len rows) None true true None p k a c = rw (k.0, k.1, p) refl
file_back path (Linear len rows) None true true (Some bs) p k a c = rw (k.0, k.1, p, c) refl
file_back path (Linear len rows) None true false None p k a c = rw (k.0, k.1, p) refl
file_back path (Linear len rows) None true false (Some bs) p k a c = rw (k.0, k.1, p, c) refl
file_back path (Linear len rows) None false true None p k a c = rw (k.0, k.1, p) refl
file_back path (Linear len rows) None false true (Some bs) p k a c = rw (k.0, k.1, p, c) refl
file_back path (Linear len rows) None false false None p k a c = rw (k.0, k.1, p) refl
file_back path (Linear len rows) None false false (Some bs) p k a c = rw (k.0, k.1, p, c) refl
file_back path (Linear len rows) (Some r) true true None p k a c = rw (k.0, k.1, p, a) refl
file_back path (Linear len rows) (Some r) true true (Some bs) p k a c = rw (k.0, k.1, p, a, c) refl
file_back path (Linear len rows) (Some r) true false None p k a c = rw (k.0, k.1, p, a) refl
file_back path (Linear len rows) (Some r) true false (Some bs) p k a c = rw (k.0, k.1, p, a, c) refl
file_back path (Linear len rows) (Some r) false true None p k a c = rw (k.0, k.1, p, a) refl
file_back path (Linear len rows) (Some r) false true (Some bs) p k a c = rw (k.0, k.1, p, a, c) refl
file_back path (Linear len rows) (Some r) false false None p k a c = rw (k.0, k.1, p, a) refl
file_back path (Linear len rows) (Some r) false false (Some bs) p k a c = rw (k.0, k.1, p, a, c) refl

pub fields_back : (f : FileSpec) → AreFieldsBack f → IsKindBack f.kind → IsFileBack f
fields_back f fields kind = file_back f.path f.kind f.arr f.active f.endless f.fcp fields.path (kind_read f.kind kind) fields.arr fields.fcp

-- ---- cards

abbrev card_spec : List FileSpec → List (List ℕ) → List KeySpec → ℕ → Bool → CardSpec
card_spec files aids keys channels get_response = record { files = files; aids = aids; keys = keys; channels = channels; get_response = get_response }

abbrev IsCardRead : CardSpec → Type 0
IsCardRead c = card_form (card_data c) ≡ Ok c

abbrev AreFilesRead : List FileSpec → Type 0
AreFilesRead files = list file_form (list_data file_data files) ≡ Ok files

abbrev AreAidsRead : List (List ℕ) → Type 0
AreAidsRead aids = list hex (list_data hex_data aids) ≡ Ok aids

abbrev AreKeysRead : List KeySpec → Type 0
AreKeysRead keys = list key_form (list_data key_data keys) ≡ Ok keys

card_usual : (files : List FileSpec) (aids : List (List ℕ)) (keys : List KeySpec) (get_response : Bool)
    → AreFilesRead files → AreAidsRead aids → AreKeysRead keys → IsCardRead (card_spec files aids keys 3 get_response)
unfolding card_form card_data
card_usual files [] [] true f h k = rw (f) refl
card_usual files [] [] false f h k = rw (f) refl
card_usual files [] (b ∷ bs) true f h k = rw (f, k) refl
card_usual files [] (b ∷ bs) false f h k = rw (f, k) refl
card_usual files (a ∷ more) [] true f h k = rw (f, h) refl
card_usual files (a ∷ more) [] false f h k = rw (f, h) refl
card_usual files (a ∷ more) (b ∷ bs) true f h k = rw (f, h, k) refl
card_usual files (a ∷ more) (b ∷ bs) false f h k = rw (f, h, k) refl

card_other : (files : List FileSpec) (aids : List (List ℕ)) (keys : List KeySpec) (n : ℕ) (get_response : Bool)
    → AreFilesRead files → AreAidsRead aids → AreKeysRead keys → (n == 3) ≡ false → whole_to 255 (number_data n) ≡ Ok n → IsCardRead (card_spec files aids keys n get_response)
unfolding card_form card_data
card_other files [] [] n true f h k e w = rw (e, f, w) refl
card_other files [] [] n false f h k e w = rw (e, f, w) refl
card_other files [] (b ∷ bs) n true f h k e w = rw (e, f, k, w) refl
card_other files [] (b ∷ bs) n false f h k e w = rw (e, f, k, w) refl
card_other files (a ∷ more) [] n true f h k e w = rw (e, f, h, w) refl
card_other files (a ∷ more) [] n false f h k e w = rw (e, f, h, w) refl
card_other files (a ∷ more) (b ∷ bs) n true f h k e w = rw (e, f, h, k, w) refl
card_other files (a ∷ more) (b ∷ bs) n false f h k e w = rw (e, f, h, k, w) refl

card_back : (files : List FileSpec) (aids : List (List ℕ)) (keys : List KeySpec) (n : ℕ) (get_response usual : Bool)
    → AreFilesRead files → AreAidsRead aids → AreKeysRead keys → (n == 3) ≡ usual → ((n == 3) ≡ false → IsNumberBack 255 n) → IsCardRead (card_spec files aids keys n get_response)
card_back files aids keys n get_response true f h k e w =
    let three : n ≡ 3 = grind arith in
    subst (λ (m : ℕ). IsCardRead (card_spec files aids keys m get_response)) (sym three) (card_usual files aids keys get_response f h k)
card_back files aids keys n get_response false f h k e w = card_other files aids keys n get_response f h k e (w e)

pub card_is_back : (c : CardSpec) → All IsFileBack c.files → All IsHexBack c.aids → All IsKeyBack c.keys → ((c.channels == 3) ≡ false → IsNumberBack 255 c.channels) → IsCardBack c
card_is_back c files aids keys channels tries =
    card_back c.files c.aids c.keys c.channels c.get_response (c.channels == 3)
    (items_back file_form file_data c.files files) (items_back hex hex_data c.aids aids) (list_back key_form key_data are_tries c.keys keys tries) refl channels

-- ---- changes

abbrev change_spec : ℕ → ℕ → List (List ℕ) → List FileSpec → ChangeSpec
change_spec qualifier kind paths files = record { qualifier = qualifier; kind = kind; list = paths; files = files }

abbrev ArePathsRead : List (List ℕ) → Type 0
ArePathsRead paths = list ids (list_data path_data paths) ≡ Ok paths

change_usual : (qualifier : ℕ) (paths : List (List ℕ)) (files : List FileSpec)
    → whole_to 255 (number_data qualifier) ≡ Ok qualifier → ArePathsRead paths → AreFilesRead files → IsChangeBack (change_spec qualifier 1 paths files)
unfolding change_form change_data
change_usual qualifier [] [] q p f = rw (q) refl
change_usual qualifier [] (b ∷ bs) q p f = rw (q, f) refl
change_usual qualifier (a ∷ more) [] q p f = rw (q, p) refl
change_usual qualifier (a ∷ more) (b ∷ bs) q p f = rw (q, p, f) refl

change_other : (qualifier kind : ℕ) (paths : List (List ℕ)) (files : List FileSpec)
    → whole_to 255 (number_data qualifier) ≡ Ok qualifier → ArePathsRead paths → AreFilesRead files → (kind == 1) ≡ false → whole_to 255 (number_data kind) ≡ Ok kind
    → IsChangeBack (change_spec qualifier kind paths files)
unfolding change_form change_data
change_other qualifier kind [] [] q p f e w = rw (e, q, w) refl
change_other qualifier kind [] (b ∷ bs) q p f e w = rw (e, q, w, f) refl
change_other qualifier kind (a ∷ more) [] q p f e w = rw (e, q, w, p) refl
change_other qualifier kind (a ∷ more) (b ∷ bs) q p f e w = rw (e, q, w, p, f) refl

change_back : (qualifier kind : ℕ) (paths : List (List ℕ)) (files : List FileSpec) (usual : Bool)
    → whole_to 255 (number_data qualifier) ≡ Ok qualifier → ArePathsRead paths → AreFilesRead files → (kind == 1) ≡ usual → ((kind == 1) ≡ false → IsNumberBack 255 kind)
    → IsChangeBack (change_spec qualifier kind paths files)
change_back qualifier kind paths files true q p f e w =
    let one : kind ≡ 1 = grind arith in
    subst (λ (m : ℕ). IsChangeBack (change_spec qualifier m paths files)) (sym one) (change_usual qualifier paths files q p f)
change_back qualifier kind paths files false q p f e w = change_other qualifier kind paths files q p f e (w e)

pub change_is_back : (c : ChangeSpec) → IsNumberBack 255 c.qualifier → ((c.kind == 1) ≡ false → IsNumberBack 255 c.kind) → All IsPathBack c.list → All IsFileBack c.files → IsChangeBack c
change_is_back c qualifier kind paths files =
    change_back c.qualifier c.kind c.list c.files (c.kind == 1) qualifier (items_back ids path_data c.list paths) (items_back file_form file_data c.files files) refl kind
