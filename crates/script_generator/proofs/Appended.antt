-- Files behind one another: the most READs of a path, and the paths of access rules.
use Rattle.std.proofs.Common.{◌≡◌, ℕ, ◌++◌, max, Bool, false, ◌||◌, List, [], ◌∷◌, refl, sym, ap, ◌∙◌, append_assoc, arith}
use Rattle.std.proofs.lemmas.List.Folds.{list_any-append}
use Rattle.apdu.specs.Words.{same_bytes, path_is_in}
use Rattle.script_reader.specs.declared.types.FileSpec.{FileSpec}
use Rattle.script_reader.specs.declared.types.CardSpec.{CardSpec}
use Rattle.script_reader.specs.declared.types.ChangeSpec.{ChangeSpec}
use Rattle.script_generator.specs.Working.{most_reads, own_path, named_path, rule_paths, family_paths, card_files, change_files}
use Rattle.script_generator.specs.Walked.{is_left}

-- ---- the most READs

pub most_appended : (path : List ℕ) (xs ys : List FileSpec) → most_reads path (xs ++ ys) ≡ max (most_reads path xs) (most_reads path ys)
most_appended path [] ys = omega arith
most_appended path (x ∷ xs) ys =
    let later = most_appended path xs ys in
    omega (arith, later)

pub most_of_card : (path : List ℕ) (card : CardSpec) (cards : List CardSpec) → most_reads path (card_files (card ∷ cards)) ≡ max (most_reads path card.files) (most_reads path (card_files cards))
most_of_card path card cards = most_appended path card.files (card_files cards)

pub most_of_change : (path : List ℕ) (change : ChangeSpec) (changes : List ChangeSpec) → most_reads path (change_files (change ∷ changes)) ≡ max (most_reads path change.files) (most_reads path (change_files changes))
most_of_change path change changes = most_appended path change.files (change_files changes)

-- ---- paths

pub or_false : (a b : Bool) → a ≡ false → (a || b) ≡ b
or_false a b e = rw e refl

rules_appended : (xs ys : List FileSpec) → rule_paths (xs ++ ys) ≡ rule_paths xs ++ rule_paths ys
rules_appended [] ys = refl
rules_appended (x ∷ xs) ys =
    ap (λ (paths : List (List ℕ)). own_path x.path ++ named_path x.path x.arr ++ paths) (rules_appended xs ys)
    ∙ sym (append_assoc (own_path x.path ++ named_path x.path x.arr) (rule_paths xs) (rule_paths ys))

pub in_appended : (path : List ℕ) (xs ys : List (List ℕ)) → path_is_in (xs ++ ys) path ≡ (path_is_in xs path || path_is_in ys path)
in_appended path xs ys = list_any-append (same_bytes path) xs ys

pub in_file : (path : List ℕ) (file : FileSpec) (files : List FileSpec) → path_is_in (rule_paths (file ∷ files)) path ≡ (path_is_in (own_path file.path) path || path_is_in (named_path file.path file.arr) path || path_is_in (rule_paths files) path)
in_file path file files =
    in_appended path (own_path file.path ++ named_path file.path file.arr) (rule_paths files)
    ∙ ap (λ (b : Bool). b || path_is_in (rule_paths files) path) (in_appended path (own_path file.path) (named_path file.path file.arr))

-- a path of the first files, or of what comes behind them
in_front : (path : List ℕ) (files behind : List FileSpec) → path_is_in (rule_paths (files ++ behind) ++ family_paths) path ≡ (path_is_in (rule_paths files) path || path_is_in (rule_paths behind ++ family_paths) path)
in_front path files behind =
    ap (λ (paths : List (List ℕ)). path_is_in (paths ++ family_paths) path) (rules_appended files behind)
    ∙ ap (λ (paths : List (List ℕ)). path_is_in paths path) (append_assoc (rule_paths files) (rule_paths behind) family_paths)
    ∙ in_appended path (rule_paths files) (rule_paths behind ++ family_paths)

pub left_of_none : (path : List ℕ) → is_left [] [] [] path ≡ path_is_in family_paths path
unfolding is_left
left_of_none path = refl

pub left_of_change : (path : List ℕ) (change : ChangeSpec) (changes : List ChangeSpec) → is_left [] [] (change ∷ changes) path ≡ (path_is_in (rule_paths change.files) path || is_left [] [] changes path)
unfolding is_left
left_of_change path change changes = in_front path change.files (change_files changes)

pub left_of_card : (path : List ℕ) (card : CardSpec) (cards : List CardSpec) (changes : List ChangeSpec) → is_left [] (card ∷ cards) changes path ≡ (path_is_in (rule_paths card.files) path || is_left [] cards changes path)
unfolding is_left
left_of_card path card cards changes =
    ap (λ (files : List FileSpec). path_is_in (rule_paths files ++ family_paths) path) (append_assoc card.files (card_files cards) (change_files changes))
    ∙ in_front path card.files (card_files cards ++ change_files changes)

pub left_of_files : (path : List ℕ) (files : List FileSpec) (cards : List CardSpec) (changes : List ChangeSpec) → is_left files cards changes path ≡ (path_is_in (rule_paths files) path || is_left [] cards changes path)
unfolding is_left
left_of_files path files cards changes = in_front path files (card_files cards ++ change_files changes)
