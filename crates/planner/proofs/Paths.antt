-- Paths of ids.
use Rattle.std.specs.Prelude.{filter_map}
use Rattle.std.proofs.Common.{ℕ, ◌≤◌, Bool, true, false, refl, ◌≡◌, List, [], ◌∷◌, ◌++◌, length, Option, Some, None, if◌then◌else◌, arith, ◌==◌}
use Rattle.apdu.specs.Words.{path_of}
use Rattle.fcp.specs.declared.control.ArrRef.{ArrRef}
use Rattle.card_model.specs.Card.{directory_of, rule_file_path}
use Rattle.epoch_cache.specs.declared.cached.CachedFile.{CachedFile}
use Rattle.editor.specs.Editing.{rule_path}

beside_file : (path : List ℕ) (id : ℕ) → length path ≤ 3 → path_of (directory_of path ++ id ∷ []) ≡ Some (directory_of path ++ id ∷ [])
beside_file [] id h = refl
beside_file (a ∷ []) id h = refl
beside_file (a ∷ b ∷ []) id h = refl
beside_file (a ∷ b ∷ c ∷ []) id h = refl
beside_file (a ∷ b ∷ c ∷ d ∷ path) id h = absurd (omega arith)

by_id : (master : Bool) (path : List ℕ) (id : ℕ) → length path ≤ 3 → path_of (if master then 0x2F06 ∷ [] else directory_of path ++ id ∷ []) ≡ Some (if master then 0x2F06 ∷ [] else directory_of path ++ id ∷ [])
by_id true path id h = refl
by_id false path id h = beside_file path id h

-- the path of an EF_ARR has one to three ids
pub rule_path_is : (path : List ℕ) (arr : ArrRef) → length path ≤ 3 → path_of (rule_file_path path arr) ≡ Some (rule_file_path path arr)
rule_path_is path arr h = by_id (arr.file_id == 0x2F06) path arr.file_id h

one_more : {X Y : Type 0} (f : X → Option Y) (y : Option Y) (x : X) (xs : List X) → f x ≡ y → filter_map f (x ∷ xs) ≡ filter_map f (x ∷ []) ++ filter_map f xs
one_more f None x xs e = rw e refl
one_more f (Some y) x xs e = rw e refl

pub one_more_rule : (files : List CachedFile) (path : List ℕ) (paths : List (List ℕ)) → filter_map (rule_path files) (path ∷ paths) ≡ filter_map (rule_path files) (path ∷ []) ++ filter_map (rule_path files) paths
one_more_rule files path paths = one_more (rule_path files) (rule_path files path) path paths refl
