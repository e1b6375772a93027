-- Cards and changes that keep their rules fit what a simulated slot asks.
use Rattle.std.proofs.Common.{◌≡◌, ℕ, ◌*◌, ◌≤◌, Bool, true, false, ◌&&◌, List, [], ◌∷◌, length, map, Option, Some, None, All, IfSome, refl, arith}
use Rattle.std.specs.Prelude.{nat_le}
use Rattle.std.specs.List.{list_all}
use Rattle.std.proofs.lemmas.Bool.{leb-true}
use Rattle.std.proofs.lemmas.List.{length-map, length-append}
use Rattle.std.proofs.lemmas.List.Elements.{All-nil, All-cons, All-map}
use Rattle.card_model.specs.Limits.{HasFittingParameters, IsAid, IsFittingCard, IsFittingChange, all_files, HasRoom}
use Rattle.script_reader.specs.declared.types.FileSpec.{FileSpec}
use Rattle.script_reader.specs.declared.types.CardSpec.{CardSpec}
use Rattle.script_reader.specs.declared.types.ChangeSpec.{ChangeSpec}
use Rattle.script_reader.specs.Files.{is_kind_within, is_template_within, is_file_within, are_files_within, are_placed, has_shape, have_shape}
use Rattle.script_reader.specs.Cards.{are_tries, is_aid, is_card_within, has_card_shape, is_card, is_change_within, is_change_placed, is_honest, is_change}
use Rattle.script_reader.specs.World.{is_file, file_of, card_of, change_of}

first : (a b : Bool) → (a && b) ≡ true → a ≡ true
first true b e = refl
first false b e = e

second : (a b : Bool) → (a && b) ≡ true → b ≡ true
second true b e = e
second false b e = absurd (cc)

-- what passes a test has a property, if passing gives it
passed : {A : Type 0} (test : A → Bool) (P : A → Type 0) → ((x : A) → test x ≡ true → P x) → (xs : List A) → list_all test xs ≡ true → All P xs
passed test P each [] e = All-nil P
passed test P each (x ∷ xs) e = All-cons P x xs (each x (first (test x) (list_all test xs) e)) (passed test P each xs (second (test x) (list_all test xs) e))

template_fits : (o : Option (List ℕ)) → is_template_within o ≡ true → IfSome o (λ bytes. length bytes ≤ 256)
template_fits None e = tt
template_fits (Some bytes) e = leb-true (length bytes) 256 e

file_fits : (file : FileSpec) → is_file_within file ≡ true → HasFittingParameters (file_of file)
file_fits file e = template_fits file.fcp (second (is_kind_within file.kind) (is_template_within file.fcp) e)

aid_fits : (aid : List ℕ) → is_aid aid ≡ true → IsAid aid
aid_fits aid e = leb-true (length aid) 16 (second (nat_le 5 (length aid)) (nat_le (length aid) 16) e)

files_fit : (files : List FileSpec) → are_files_within files ≡ true → All HasFittingParameters (map file_of files)
files_fit files e = All-map HasFittingParameters file_of files (passed is_file_within (λ (file : FileSpec). HasFittingParameters (file_of file)) file_fits files (second (nat_le (length files) 64) (list_all is_file_within files) e))

files_few : (files : List FileSpec) → are_files_within files ≡ true → length (map file_of files) ≤ 64
files_few files e =
    let few = leb-true (length files) 64 (first (nat_le (length files) 64) (list_all is_file_within files) e) in
    let same = length-map files file_of in
    omega (arith, few, same)

-- what the limits of a card say
record CardLimits (card : CardSpec) : Type 0 where
  files : are_files_within card.files ≡ true
  count : nat_le (length card.aids) 8 ≡ true
  aids : list_all is_aid card.aids ≡ true

card_limits : (card : CardSpec) → is_card card ≡ true → CardLimits card
card_limits card e =
    let files = are_files_within card.files in
    let aids = nat_le (length card.aids) 8 in
    let each_aid = list_all is_aid card.aids in
    let keys = nat_le (length card.keys) 8 in
    let with_shape = first (is_card_within card && are_placed card.files && has_card_shape card) (list_all are_tries card.keys) e in
    let within = first (is_card_within card) (are_placed card.files) (first (is_card_within card && are_placed card.files) (has_card_shape card) with_shape) in
    let with_keys = first (files && aids && each_aid && keys) (nat_le card.channels 3) within in
    let with_aids = first (files && aids && each_aid) keys with_keys in
    let counted = first (files && aids) each_aid with_aids in
    record { files = first files aids counted; count = second files aids counted; aids = second (files && aids) each_aid with_aids }

card_fits : (card : CardSpec) → is_card card ≡ true → IsFittingCard (card_of card)
card_fits card e =
    let limits = card_limits card e in
    record {
      files = files_fit card.files limits.files;
      aids = passed is_aid IsAid aid_fits card.aids limits.aids;
      applications = let few = leb-true (length card.aids) 8 limits.count in omega (arith, few);
    }

-- what passes two tests
passes_both : {A : Type 0} (p q : A → Bool) (xs : List A) → list_all p xs ≡ true → list_all q xs ≡ true → list_all (λ (x : A). p x && q x) xs ≡ true
passes_both p q [] e h = refl
passes_both p q (x ∷ xs) e h =
    let now : (p x && q x) ≡ true = rw (first (p x) (list_all p xs) e, first (q x) (list_all q xs) h) refl in
    let later = passes_both p q xs (second (p x) (list_all p xs) e) (second (q x) (list_all q xs) h) in
    rw (now, later) refl

pub card_files : (card : CardSpec) → is_card card ≡ true → list_all is_file card.files ≡ true
card_files card e =
    let within = is_card_within card in
    let placed = are_placed card.files in
    let shape = has_card_shape card in
    let with_shape = first (within && placed && shape) (list_all are_tries card.keys) e in
    let shaped = first (have_shape card.files) _ (second (within && placed) shape with_shape) in
    passes_both is_file_within has_shape card.files (second (nat_le (length card.files) 64) (list_all is_file_within card.files) (card_limits card e).files) shaped

pub cards_fit : (cards : List CardSpec) → list_all is_card cards ≡ true → All IsFittingCard (map card_of cards)
cards_fit cards e = All-map IsFittingCard card_of cards (passed is_card (λ (card : CardSpec). IsFittingCard (card_of card)) card_fits cards e)

change_within : (change : ChangeSpec) → is_change change ≡ true → is_change_within change ≡ true
change_within change e =
    let within = is_change_within change in
    let placed = is_change_placed change in
    let shape = have_shape change.files in
    first within placed (first (within && placed) shape (first (within && placed && shape) (is_honest change) e))

files_of_change : (change : ChangeSpec) → is_change change ≡ true → are_files_within change.files ≡ true
files_of_change change e = second (nat_le (length change.list) 8) (are_files_within change.files) (change_within change e)

pub change_files : (change : ChangeSpec) → is_change change ≡ true → list_all is_file change.files ≡ true
change_files change e =
    let within = is_change_within change in
    let placed = is_change_placed change in
    let shape = have_shape change.files in
    let shaped = second (within && placed) shape (first (within && placed && shape) (is_honest change) e) in
    passes_both is_file_within has_shape change.files (second (nat_le (length change.files) 64) (list_all is_file_within change.files) (files_of_change change e)) shaped

change_fits : (change : ChangeSpec) → is_change change ≡ true → IsFittingChange (change_of change)
change_fits change e = record {
  list = leb-true (length change.list) 8 (first (nat_le (length change.list) 8) (are_files_within change.files) (change_within change e));
  files = files_fit change.files (files_of_change change e);
}

pub changes_fit : (changes : List ChangeSpec) → list_all is_change changes ≡ true → All IsFittingChange (map change_of changes)
changes_fit changes e = All-map IsFittingChange change_of changes (passed is_change (λ (change : ChangeSpec). IsFittingChange (change_of change)) change_fits changes e)

counted : (changes : List ChangeSpec) → list_all is_change changes ≡ true → length (all_files (map change_of changes)) ≤ 64 * length changes
counted [] e = omega arith
counted (change ∷ changes) e =
    let few = files_few change.files (files_of_change change (first (is_change change) (list_all is_change changes) e)) in
    let others = counted changes (second (is_change change) (list_all is_change changes) e) in
    let both = length-append (map file_of change.files) (all_files (map change_of changes)) in
    omega (arith, few, others, both)

card_has_room : (changes : List ChangeSpec) → list_all is_change changes ≡ true → length changes ≤ 64 → (card : CardSpec) → is_card card ≡ true → HasRoom (map change_of changes) (card_of card)
card_has_room changes keep few card e =
    let own = files_few card.files (card_limits card e).files in
    let files = counted changes keep in
    omega (arith, own, files, few)

pub cards_have_room : (cards : List CardSpec) (changes : List ChangeSpec) → list_all is_card cards ≡ true → list_all is_change changes ≡ true → length changes ≤ 64 → All (HasRoom (map change_of changes)) (map card_of cards)
cards_have_room cards changes e keep few = All-map (HasRoom (map change_of changes)) card_of cards (passed is_card (λ (card : CardSpec). HasRoom (map change_of changes) (card_of card)) (card_has_room changes keep few) cards e)
