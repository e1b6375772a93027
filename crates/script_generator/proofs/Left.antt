-- What is left of a walk over the files of a script, step by step.
use Rattle.std.proofs.Common.{◌≡◌, ℕ, ◌+◌, ◌^◌, ◌<◌, Fits, w64, ◌++◌, true, false, List, [], ◌∷◌, Some, None, refl, ap, ◌∙◌, append_assoc, arith}
use Rattle.apdu.specs.Words.{path_is_in}
use Rattle.fcp.specs.declared.control.ArrRef.{ArrRef}
use Rattle.card_model.specs.Card.{rule_file_path}
use Rattle.script_reader.specs.declared.types.FileSpec.{FileSpec}
use Rattle.script_reader.specs.declared.types.CardSpec.{CardSpec}
use Rattle.script_reader.specs.declared.types.ChangeSpec.{ChangeSpec}
use Rattle.script_reader.specs.declared.types.Script.{Script}
use Rattle.script_generator.specs.Working.{is_rule_path, own_path, named_path, rule_paths, family_paths, card_files, change_files, all_files, most_reads, reading_sum, whole_reading}
use Rattle.script_generator.specs.Walked.{paths_left, is_left, reading_left, reading_named}

-- ---- the EF_ARR that a file names

pub none_named : (s : Script) (file : FileSpec) (files : List FileSpec) (cards : List CardSpec) (changes : List ChangeSpec) → file.arr ≡ None → reading_named s file files cards changes ≡ reading_left s files cards changes
unfolding reading_named reading_left
none_named s file files cards changes e = rw e refl

pub named_again : (s : Script) (file : FileSpec) (files : List FileSpec) (cards : List CardSpec) (changes : List ChangeSpec) (arr : ArrRef) → file.arr ≡ Some arr → is_left files cards changes (rule_file_path file.path arr) ≡ true → reading_named s file files cards changes ≡ reading_left s files cards changes
unfolding reading_named reading_left is_left
named_again s file files cards changes arr e again = rw (e, again) (omega arith)

pub named_once : (s : Script) (file : FileSpec) (files : List FileSpec) (cards : List CardSpec) (changes : List ChangeSpec) (arr : ArrRef) → file.arr ≡ Some arr → is_left files cards changes (rule_file_path file.path arr) ≡ false → reading_named s file files cards changes ≡ 1 + most_reads (rule_file_path file.path arr) (all_files s) + reading_left s files cards changes
unfolding reading_named reading_left is_left
named_once s file files cards changes arr e once = rw (e, once) refl

-- ---- a file that is an EF_ARR

-- the paths of the next file, and of those behind it
left_more : (file : FileSpec) (files : List FileSpec) (cards : List CardSpec) (changes : List ChangeSpec) → paths_left (file ∷ files) cards changes ≡ own_path file.path ++ (named_path file.path file.arr ++ paths_left files cards changes)
left_more file files cards changes =
    let later = rule_paths (files ++ (card_files cards ++ change_files changes)) in
    append_assoc (own_path file.path ++ named_path file.path file.arr) later family_paths
    ∙ append_assoc (own_path file.path) (named_path file.path file.arr) (later ++ family_paths)

reading_more : (s : Script) (file : FileSpec) (files : List FileSpec) (cards : List CardSpec) (changes : List ChangeSpec) → reading_left s (file ∷ files) cards changes ≡ reading_sum (all_files s) (own_path file.path ++ (named_path file.path file.arr ++ paths_left files cards changes))
unfolding reading_left
reading_more s file files cards changes = ap (reading_sum (all_files s)) (left_more file files cards changes)

pub not_own : (s : Script) (file : FileSpec) (files : List FileSpec) (cards : List CardSpec) (changes : List ChangeSpec) → is_rule_path file.path ≡ false → reading_left s (file ∷ files) cards changes ≡ reading_named s file files cards changes
unfolding reading_named
not_own s file files cards changes e = reading_more s file files cards changes ∙ rw e refl

-- it comes again, by its own reference or behind it
pub own_again : (s : Script) (file : FileSpec) (files : List FileSpec) (cards : List CardSpec) (changes : List ChangeSpec) → is_rule_path file.path ≡ true → path_is_in (named_path file.path file.arr ++ paths_left files cards changes) file.path ≡ true → reading_left s (file ∷ files) cards changes ≡ reading_named s file files cards changes
unfolding reading_named
own_again s file files cards changes e again = reading_more s file files cards changes ∙ rw (e, again) (omega arith)

pub own_once : (s : Script) (file : FileSpec) (files : List FileSpec) (cards : List CardSpec) (changes : List ChangeSpec) → is_rule_path file.path ≡ true → path_is_in (named_path file.path file.arr ++ paths_left files cards changes) file.path ≡ false → reading_left s (file ∷ files) cards changes ≡ 1 + most_reads file.path (all_files s) + reading_named s file files cards changes
unfolding reading_named
own_once s file files cards changes e once = reading_more s file files cards changes ∙ rw (e, once) refl

-- ---- cards, changes and all

-- the files of the next card come before those behind it
pub card_more : (s : Script) (card : CardSpec) (cards : List CardSpec) (changes : List ChangeSpec) → reading_left s [] (card ∷ cards) changes ≡ reading_left s card.files cards changes
unfolding reading_left
card_more s card cards changes =
    ap (λ (files : List FileSpec). reading_sum (all_files s) (rule_paths files ++ family_paths)) (append_assoc card.files (card_files cards) (change_files changes))

pub change_more : (s : Script) (change : ChangeSpec) (changes : List ChangeSpec) → reading_left s [] [] (change ∷ changes) ≡ reading_left s change.files [] changes
unfolding reading_left
change_more s change changes = refl

pub whole_left : (s : Script) → whole_reading s ≡ reading_left s [] s.cards s.changes
unfolding whole_reading reading_left
whole_left s = refl

-- ---- what a sum and what is left come to

pub front_fits : (whole front : ℕ) → whole ≡ front → whole < 2 ^ 64 → front < 2 ^ 64
front_fits whole front e fits = omega (arith, e, fits)

pub behind_fits : (whole front files behind : ℕ) → whole ≡ front → files + behind ≡ front → whole < 2 ^ 64 → behind < 2 ^ 64
behind_fits whole front files behind e sum fits = omega (arith, e, sum, fits)

pub both_fit : (whole front files behind others none : ℕ) → whole ≡ front → files + behind ≡ front → others + none ≡ behind → whole < 2 ^ 64 → Fits w64 (files + others)
both_fit whole front files behind others none e sum more fits = omega (arith, e, sum, more, fits)

pub both_sum : (whole front files behind others none : ℕ) → whole ≡ front → files + behind ≡ front → others + none ≡ behind → files + others + none ≡ whole
both_sum whole front files behind others none e sum more = omega (arith, e, sum, more)
