-- What is read keeps the rules: cards and changes.
use Rattle.std.proofs.Common.{◌≡◌, ℕ, Bool, true, false, ◌&&◌, if◌then◌else◌, List, [], ◌∷◌, ◌++◌, length, Option, Some, None, Result, Ok, Err, refl, sym, ap, subst, ◌∙◌, arith}
use Rattle.std.specs.Prelude.{nat_lt, nat_le, codes}
use Rattle.std.specs.List.{list_all}
use Rattle.std.proofs.lemmas.Bool.{and_parts, ltb-true, le-leb}
use Rattle.std.proofs.lemmas.List.{length-append}
use Rattle.std.proofs.lemmas.List.Folds.{list_all-append}
use Rattle.serde_json.specs.Data.{Data}
use Rattle.serde_json.specs.Find.{get}
use Rattle.apdu.specs.Words.{◌>>=◌}
use Rattle.script_reader.specs.Fields.{there, flag, whole, whole_to, hex, hex_of, first_byte, list_of, list, field_in, field, default_in, with_default, only}
use Rattle.script_reader.specs.declared.error.Part.{Part}
use Rattle.script_reader.specs.declared.error.Why.{Why}
use Rattle.script_reader.specs.declared.error.Why.TheVariants as why
use Rattle.script_reader.specs.declared.types.KeySpec.{KeySpec}
use Rattle.script_reader.specs.declared.types.FileSpec.{FileSpec}
use Rattle.script_reader.specs.declared.types.CardSpec.{CardSpec}
use Rattle.script_reader.specs.declared.types.ChangeSpec.{ChangeSpec}
use Rattle.script_reader.specs.Reading.{all_of, rule}
use Rattle.script_reader.specs.Files.{file_form, is_path, path_of, has_path, with_path, are_all_apart, are_files_within, are_placed, have_shape}
use Rattle.script_reader.specs.Cards.{are_tries, key_form, card_form, is_card_within, card_with_paths, has_card_shape, checked_card, card_item, is_card, change_form, change_with_paths, is_change_within, is_change_placed, is_honest, checked_change, change_item, is_change}
use Rattle.script_reader.specs.Parts.{at_item, items_from}

-- ---- steps that succeed

pub both : (a b : Bool) → a ≡ true → b ≡ true → (a && b) ≡ true
both a b p q = rw (p, q) refl

pub second : (a b : Bool) → (a && b) ≡ true → b ≡ true
second true b e = e
second false b e = absurd (cc)

-- the step had a value, with which the rest succeeds
pub bind_then : {A B E : Type 0} (r : Result A E) (f : A → Result B E) (y : B) → (r >>= f) ≡ Ok y → (x : A) × ((r ≡ Ok x) × (f x ≡ Ok y))
bind_then (Ok x) f y e = (x, (refl, e))
bind_then (Err error) f y e = absurd (cc)

-- the rule held, and the rest succeeds
pub rule_then : {B : Type 0} (word : Why) (b : Bool) (r : Result B Why) (y : B) → (rule word b >>= λ (u : Unit {0}). r) ≡ Ok y → (b ≡ true) × (r ≡ Ok y)
rule_then word true r y e = (refl, e)
rule_then word false r y e = absurd (cc)

pub bind_gives : {A B E : Type 0} (r : Result A E) (f : A → Result B E) (y : B) (P : Type 0) → (r >>= f) ≡ Ok y → ((x : A) → r ≡ Ok x → f x ≡ Ok y → P) → P
bind_gives (Ok x) f y P e h = h x refl e
bind_gives (Err error) f y P e h = absurd (cc)

-- what a test lets through
pub ok_if : {A : Type 0} (b : Bool) (x y : A) (word : Why) → (if b then Ok x else Err word) ≡ Ok y → (b ≡ true) × (x ≡ y)
ok_if true x y word e = (refl, cc)
ok_if false x y word e = absurd (cc)

-- one of two readings
pub chosen : {A : Type 0} (b : Bool) (x y : Result A Why) (z : A) (P : Type 0) → (if b then x else y) ≡ Ok z → (x ≡ Ok z → P) → (y ≡ Ok z → P) → P
chosen true x y z P e h k = h e
chosen false x y z P e h k = k e

-- ---- lists and fields

-- what passes a test is all that is read
abbrev pub Passes : {A : Type 0} → (Data → Result A Why) → (A → Bool) → Type 0
Passes {A} read test = (d : Data) (x : A) → read d ≡ Ok x → test x ≡ true

all_pass : {A : Type 0} (read : Data → Result A Why) (test : A → Bool) → Passes read test → (ds : List Data) (xs : List A) → all_of read ds ≡ Ok xs → list_all test xs ≡ true
all_pass read test each [] xs e =
    let same : [] ≡ xs = cc in
    subst (λ (ys : List _). list_all test ys ≡ true) same refl
all_pass read test each (d ∷ ds) xs e =
    bind_gives (read d) _ xs (list_all test xs ≡ true) e (λ x of_x e1.
    bind_gives (all_of read ds) _ xs (list_all test xs ≡ true) e1 (λ rest of_rest e2.
    let same : x ∷ rest ≡ xs = cc in
    subst (λ (ys : List _). list_all test ys ≡ true) same (both (test x) (list_all test rest) (each d x of_x) (all_pass read test each ds rest of_rest))))

pub list_passes : {A : Type 0} (read : Data → Result A Why) (test : A → Bool) → Passes read test → Passes (list read) (list_all test)
list_passes read test each d xs e =
    bind_gives (there (list_of d)) _ xs (list_all test xs ≡ true) e (λ ds of_ds e1. all_pass read test each ds xs e1)

field_in_passes : {A : Type 0} (read : Data → Result A Why) (test : A → Bool) → Passes read test → (o : Option Data) (x : A) → field_in read o ≡ Ok x → test x ≡ true
field_in_passes read test each None x e = absurd (cc)
field_in_passes read test each (Some d) x e = each d x e

pub field_passes : {A : Type 0} (read : Data → Result A Why) (test : A → Bool) (name : List ℕ) → Passes read test → Passes (field read name) test
field_passes read test name each d x e = field_in_passes read test each (get name d) x e

default_in_passes : {A : Type 0} (default : A) (read : Data → Result A Why) (test : A → Bool) → test default ≡ true → Passes read test → (o : Option Data) (x : A) → default_in default read o ≡ Ok x → test x ≡ true
default_in_passes default read test usual each None x e =
    let same : default ≡ x = cc in
    subst (λ (y : _). test y ≡ true) same usual
default_in_passes default read test usual each (Some d) x e = each d x e

-- a number up to a limit
pub number_passes : (limit : ℕ) → Passes (whole_to limit) (λ n. nat_le n limit)
number_passes limit d n e =
    bind_gives (whole d) _ n (nat_le n limit ≡ true) e (λ m of_m e1.
    let found = ok_if (nat_le m limit) m n why.Form e1 in
    subst (λ (k : ℕ). nat_le k limit ≡ true) found.1 found.0)

-- ---- keys

key_passes : Passes key_form are_tries
unfolding key_form
key_passes d k h =
    let P : Type 0 = are_tries k ≡ true in
    bind_gives (only (codes "key" ∷ codes "max" ∷ codes "pin" ∷ codes "tries" ∷ []) d) _ k P h (λ known of_known e.
    bind_gives (field (hex_of 1) (codes "key") d) _ k P e (λ key of_key e1.
    bind_gives (field (hex_of 8) (codes "pin") d) _ k P e1 (λ pin of_pin e2.
    bind_gives (field (whole_to 255) (codes "tries") d) _ k P e2 (λ tries of_tries e3.
    bind_gives (field (whole_to 255) (codes "max") d) _ k P e3 (λ max of_max e4.
    let spec : KeySpec = record { key = first_byte key; pin = pin; tries = tries; max = max } in
    let found = ok_if (are_tries spec) spec k why.Form e4 in
    subst (λ (key : KeySpec). are_tries key ≡ true) found.1 found.0)))))

-- the keys of a card that is read
keys_pass : (d : Data) (c : CardSpec) → card_form d ≡ Ok c → list_all are_tries c.keys ≡ true
unfolding card_form
keys_pass d c h =
    let P : Type 0 = list_all are_tries c.keys ≡ true in
    bind_gives (only (codes "aids" ∷ codes "channels" ∷ codes "files" ∷ codes "get_response" ∷ codes "keys" ∷ []) d) _ c P h (λ known of_known e.
    bind_gives (field (list file_form) (codes "files") d) _ c P e (λ files of_files e1.
    bind_gives (with_default [] (list hex) (codes "aids") d) _ c P e1 (λ aids of_aids e2.
    bind_gives (with_default [] (list key_form) (codes "keys") d) _ c P e2 (λ keys of_keys e3.
    bind_gives (with_default 3 (whole_to 255) (codes "channels") d) _ c P e3 (λ channels of_channels e4.
    bind_gives (with_default false flag (codes "get_response") d) _ c P e4 (λ get_response of_get_response e5.
    let same : (record { files = files; aids = aids; keys = keys; channels = channels; get_response = get_response }) ≡ c = cc in
    subst (λ (card : CardSpec). list_all are_tries card.keys ≡ true) same
    (default_in_passes [] (list key_form) (list_all are_tries) refl (list_passes key_form are_tries key_passes) (get (codes "keys") d) keys of_keys)))))))

-- ---- paths

first_kept : {A : Type 0} (b : Bool) (x : A) (r : Result (List A) Why) (ys : List A)
    → ((if b then Ok x else Err why.Path) >>= λ (y : A). r >>= λ (zs : List A). Ok (y ∷ zs)) ≡ Ok ys → (b ≡ true) × ((zs : List A) × ((r ≡ Ok zs) × (ys ≡ x ∷ zs)))
first_kept true x (Ok zs) ys e = (refl, (zs, (refl, cc)))
first_kept true x (Err word) ys e = absurd (cc)
first_kept false x r ys e = absurd (cc)

-- the value, where it passes the test
abbrev passing : {A : Type 0} → (A → Bool) → A → Result A Why
passing test x = if test x then Ok x else Err why.Path

-- what passes stays as it is
all_kept : {A : Type 0} (test : A → Bool) (xs ys : List A) → all_of (passing test) xs ≡ Ok ys → (ys ≡ xs) × (list_all test ys ≡ true)
all_kept test [] ys e =
    let none : ys ≡ [] = cc in
    let P : List _ → Type 0 = λ zs. list_all test zs ≡ true in
    (none, subst P (sym none) refl)
all_kept test (x ∷ xs) ys e =
    let k = first_kept (test x) x (all_of (passing test) xs) ys e in
    let rest = all_kept test xs k.1.0 k.1.1.0 in
    let P : List _ → Type 0 = λ zs. list_all test zs ≡ true in
    (k.1.1.1 ∙ ap (λ (zs : List _). x ∷ zs) rest.0, subst P (sym (k.1.1.1)) (both (test x) (list_all test k.1.0) k.0 rest.1))

card_paths : (form card : CardSpec) → card_with_paths form ≡ Ok card → (card ≡ form) × (are_placed card.files ≡ true)
card_paths form card e =
    let found = bind_then (all_of with_path form.files) (λ (files : List FileSpec). rule why.Path (are_all_apart files) >>= λ (u : Unit {0}). Ok (record form { files = files })) card e in
    let kept = all_kept has_path form.files found.0 found.1.0 in
    let apart = rule_then why.Path (are_all_apart found.0) (Ok (record form { files = found.0 })) card found.1.1 in
    let same : (record form { files = found.0 }) ≡ card = cc in
    let P : CardSpec → Type 0 = λ c. are_placed c.files ≡ true in
    (sym same ∙ ap (λ (files : List FileSpec). record form { files = files }) kept.0, subst P same (both (list_all has_path found.0) (are_all_apart found.0) kept.1 apart.0))

-- a card that is read keeps the rules behind its form
checked_kept : (before : List CardSpec) (form card : CardSpec) → checked_card before form ≡ Ok card → (is_card_within card && are_placed card.files && has_card_shape card) ≡ true
checked_kept before form card e =
    let within = rule_then why.Limit (nat_lt (length before) 4 && is_card_within form) (card_with_paths form >>= λ (c : CardSpec). rule why.Shape (has_card_shape c) >>= λ (u : Unit {0}). Ok c) card e in
    let placed = bind_then (card_with_paths form) (λ (c : CardSpec). rule why.Shape (has_card_shape c) >>= λ (u : Unit {0}). Ok c) card within.1 in
    let paths = card_paths form placed.0 placed.1.0 in
    let shape = rule_then why.Shape (has_card_shape placed.0) (Ok placed.0) card placed.1.1 in
    let same : placed.0 ≡ card = cc in
    let P : CardSpec → Type 0 = λ c. (is_card_within c && are_placed c.files && has_card_shape c) ≡ true in
    let W : CardSpec → Type 0 = λ c. is_card_within c ≡ true in
    let limits = subst W (sym paths.0) (second (nat_lt (length before) 4) (is_card_within form) within.0) in
    subst P same (both (is_card_within placed.0 && are_placed placed.0.files) (has_card_shape placed.0) (both (is_card_within placed.0) (are_placed placed.0.files) limits paths.1) shape.0)

-- the rules leave the card as it is
pub card_same : (before : List CardSpec) (form card : CardSpec) → checked_card before form ≡ Ok card → card ≡ form
card_same before form card e =
    let within = rule_then why.Limit (nat_lt (length before) 4 && is_card_within form) (card_with_paths form >>= λ (c : CardSpec). rule why.Shape (has_card_shape c) >>= λ (u : Unit {0}). Ok c) card e in
    let placed = bind_then (card_with_paths form) (λ (c : CardSpec). rule why.Shape (has_card_shape c) >>= λ (u : Unit {0}). Ok c) card within.1 in
    let paths = card_paths form placed.0 placed.1.0 in
    let shape = rule_then why.Shape (has_card_shape placed.0) (Ok placed.0) card placed.1.1 in
    let same : placed.0 ≡ card = cc in
    sym same ∙ paths.0

card_kept : (before : List CardSpec) (d : Data) (card : CardSpec) → card_item before d ≡ Ok card → is_card card ≡ true
unfolding card_item
card_kept before d card e =
    let form = bind_then (card_form d) (checked_card before) card e in
    let same = card_same before form.0 card form.1.1 in
    let keys = subst (λ (c : CardSpec). list_all are_tries c.keys ≡ true) (sym same) (keys_pass d form.0 form.1.0) in
    both (is_card_within card && are_placed card.files && has_card_shape card) (list_all are_tries card.keys) (checked_kept before form.0 card form.1.1) keys

-- a card is read behind at most three others
card_place : (before : List CardSpec) (d : Data) (card : CardSpec) → card_item before d ≡ Ok card → nat_lt (length before) 4 ≡ true
unfolding card_item
card_place before d card e =
    let form = bind_then (card_form d) (checked_card before) card e in
    let within = rule_then why.Limit (nat_lt (length before) 4 && is_card_within form.0) (card_with_paths form.0 >>= λ (c : CardSpec). rule why.Shape (has_card_shape c) >>= λ (u : Unit {0}). Ok c) card form.1.1 in
    (and_parts (nat_lt (length before) 4) (is_card_within form.0) within.0).0

-- ---- items

pub at_item_then : {A : Type 0} (p : Part) (i : ℕ) (r : Result A Why) (x : A) → at_item p i r ≡ Ok x → r ≡ Ok x
at_item_then p i (Ok y) x e = cc
at_item_then p i (Err word) x e = absurd (cc)

-- what stays as each further item is read holds of all items of the part
pub items_kept : {A : Type 0} (P : List A → Type 0) (reading : List A → Data → Result A Why) (p : Part) → ((before : List A) (d : Data) (x : A) → reading before d ≡ Ok x → P before → P (before ++ x ∷ []))
    → (ds : List Data) (before xs : List A) → items_from reading p before ds ≡ Ok xs → P before → P xs
items_kept P reading p each [] before xs e h =
    let same : before ≡ xs = cc in
    subst P same h
items_kept P reading p each (d ∷ ds) before xs e h =
    let first = bind_then (at_item p (length before) (reading before d)) (λ (x : _). items_from reading p (before ++ x ∷ []) ds) xs e in
    let item = at_item_then p (length before) (reading before d) first.0 first.1.0 in
    items_kept P reading p each ds (before ++ first.0 ∷ []) xs first.1.1 (each before d first.0 item h)

-- all items pass a test where those before the last do, and the last does
pub appended : {A : Type 0} (test : A → Bool) (before : List A) (x : A) → list_all test before ≡ true → test x ≡ true → list_all test (before ++ x ∷ []) ≡ true
appended test before x h e = list_all-append test before (x ∷ []) ∙ both (list_all test before) (list_all test (x ∷ [])) h (both (test x) true e refl)

-- one more of at most so many, each of which passes a test
abbrev pub AreAtMost : {A : Type 0} → ℕ → (A → Bool) → List A → Type 0
AreAtMost most test xs = (nat_le (length xs) most ≡ true) × (list_all test xs ≡ true)

pub at_most_appended : {A : Type 0} (most : ℕ) (test : A → Bool) (before : List A) (x : A) → nat_lt (length before) most ≡ true → test x ≡ true → AreAtMost most test before → AreAtMost most test (before ++ x ∷ [])
at_most_appended most test before x place e h =
    let room = ltb-true (length before) most place in
    let longer = length-append before (x ∷ []) in
    (le-leb (length (before ++ x ∷ [])) most (omega (arith, room, longer)), appended test before x h.1 e)

pub card_added : (before : List CardSpec) (d : Data) (card : CardSpec) → card_item before d ≡ Ok card → AreAtMost 4 is_card before → AreAtMost 4 is_card (before ++ card ∷ [])
card_added before d card e h = at_most_appended 4 is_card before card (card_place before d card e) (card_kept before d card e) h

-- ---- changes

abbrev placed_change : ChangeSpec → List (List ℕ) → Result ChangeSpec Why
placed_change form list = all_of with_path form.files >>= λ (files : List FileSpec). rule why.Path (are_all_apart files) >>= λ (u : Unit {0}). Ok (record form { list = list; files = files })

change_paths : (form change : ChangeSpec) → change_with_paths form ≡ Ok change → (change ≡ form) × (is_change_placed change ≡ true)
change_paths form change e =
    let listed = bind_then (all_of path_of form.list) (placed_change form) change e in
    let list = all_kept is_path form.list listed.0 listed.1.0 in
    let found = bind_then (all_of with_path form.files) (λ (files : List FileSpec). rule why.Path (are_all_apart files) >>= λ (u : Unit {0}). Ok (record form { list = listed.0; files = files })) change listed.1.1 in
    let files = all_kept has_path form.files found.0 found.1.0 in
    let apart = rule_then why.Path (are_all_apart found.0) (Ok (record form { list = listed.0; files = found.0 })) change found.1.1 in
    let same : (record form { list = listed.0; files = found.0 }) ≡ change = cc in
    let P : ChangeSpec → Type 0 = λ c. is_change_placed c ≡ true in (
      sym same ∙ ap (λ (paths : List (List ℕ)). record form { list = paths; files = found.0 }) list.0 ∙ ap (λ (fs : List FileSpec). record form { files = fs }) files.0,
      subst P same (both (list_all is_path listed.0) (are_placed found.0) list.1 (both (list_all has_path found.0) (are_all_apart found.0) files.1 apart.0)),
    )

abbrev shaped_change : ChangeSpec → Result ChangeSpec Why
shaped_change c = rule why.Shape (have_shape c.files) >>= λ (u : Unit {0}). rule why.Honest (is_honest c) >>= λ (v : Unit {0}). Ok c

-- a change that is read keeps the rules of a change
checked_change_kept : (before : List ChangeSpec) (form change : ChangeSpec) → checked_change before form ≡ Ok change → is_change change ≡ true
checked_change_kept before form change e =
    let few = rule_then why.Form (nat_le (length form.list) 8) (rule why.Limit (nat_lt (length before) 64 && are_files_within form.files) >>= λ (u : Unit {0}). change_with_paths form >>= shaped_change) change e in
    let within = rule_then why.Limit (nat_lt (length before) 64 && are_files_within form.files) (change_with_paths form >>= shaped_change) change few.1 in
    let placed = bind_then (change_with_paths form) shaped_change change within.1 in
    let paths = change_paths form placed.0 placed.1.0 in
    let shape = rule_then why.Shape (have_shape placed.0.files) (rule why.Honest (is_honest placed.0) >>= λ (u : Unit {0}). Ok placed.0) change placed.1.1 in
    let honest = rule_then why.Honest (is_honest placed.0) (Ok placed.0) change shape.1 in
    let same : placed.0 ≡ change = cc in
    let P : ChangeSpec → Type 0 = λ c. is_change c ≡ true in
    let W : ChangeSpec → Type 0 = λ c. is_change_within c ≡ true in
    let limits = subst W (sym paths.0) (both (nat_le (length form.list) 8) (are_files_within form.files) few.0 (second (nat_lt (length before) 64) (are_files_within form.files) within.0)) in
    subst P same (both (is_change_within placed.0 && is_change_placed placed.0 && have_shape placed.0.files) (is_honest placed.0)
    (both (is_change_within placed.0 && is_change_placed placed.0) (have_shape placed.0.files) (both (is_change_within placed.0) (is_change_placed placed.0) limits paths.1) shape.0) honest.0)

-- the rules leave the change as it is
pub change_same : (before : List ChangeSpec) (form change : ChangeSpec) → checked_change before form ≡ Ok change → change ≡ form
change_same before form change e =
    let few = rule_then why.Form (nat_le (length form.list) 8) (rule why.Limit (nat_lt (length before) 64 && are_files_within form.files) >>= λ (u : Unit {0}). change_with_paths form >>= shaped_change) change e in
    let within = rule_then why.Limit (nat_lt (length before) 64 && are_files_within form.files) (change_with_paths form >>= shaped_change) change few.1 in
    let placed = bind_then (change_with_paths form) shaped_change change within.1 in
    let paths = change_paths form placed.0 placed.1.0 in
    let shape = rule_then why.Shape (have_shape placed.0.files) (rule why.Honest (is_honest placed.0) >>= λ (u : Unit {0}). Ok placed.0) change placed.1.1 in
    let honest = rule_then why.Honest (is_honest placed.0) (Ok placed.0) change shape.1 in
    let same : placed.0 ≡ change = cc in
    sym same ∙ paths.0

change_kept : (before : List ChangeSpec) (d : Data) (change : ChangeSpec) → change_item before d ≡ Ok change → is_change change ≡ true
unfolding change_item
change_kept before d change e =
    let form = bind_then (change_form d) (checked_change before) change e in
    checked_change_kept before form.0 change form.1.1

-- a change is read behind at most 63 others
change_place : (before : List ChangeSpec) (d : Data) (change : ChangeSpec) → change_item before d ≡ Ok change → nat_lt (length before) 64 ≡ true
unfolding change_item
change_place before d change e =
    let form = bind_then (change_form d) (checked_change before) change e in
    let few = rule_then why.Form (nat_le (length form.0.list) 8) (rule why.Limit (nat_lt (length before) 64 && are_files_within form.0.files) >>= λ (u : Unit {0}). change_with_paths form.0 >>= shaped_change) change form.1.1 in
    let within = rule_then why.Limit (nat_lt (length before) 64 && are_files_within form.0.files) (change_with_paths form.0 >>= shaped_change) change few.1 in
    (and_parts (nat_lt (length before) 64) (are_files_within form.0.files) within.0).0

pub change_added : (before : List ChangeSpec) (d : Data) (change : ChangeSpec) → change_item before d ≡ Ok change → AreAtMost 64 is_change before → AreAtMost 64 is_change (before ++ change ∷ [])
change_added before d change e h = at_most_appended 64 is_change before change (change_place before d change e) (change_kept before d change e) h
