-- What is shown of a family is of the files of its paths: the law of `Standard`.
use Rattle.std.specs.Prelude.{◌≡◌, ◌<◌, ℕ, zero, suc, true, List, refl}
use Rattle.std.proofs.Common.{◌∙◌, ap}
use Rattle.apdu.specs.Words.{path_is_in}
use Rattle.serde_json.specs.Written.{compact_text}
use Rattle.std.proofs.Math.Nat.{le_of_suc-le-suc, not-suc-le-zero}
use Rattle.families.specs.Families.{View, family_paths, family_data, records_data, book_data, shown, iccid_path, imsi_path, ad_path, spn_path, msisdn_path, ext5_path, dir_path, adn_path, ext1_path, fdn_path, ext2_path}

-- the two say the same of each of these paths
abbrev pub SameFiles : List (List ℕ) → View → View → Type 0
SameFiles paths v w = (path : List ℕ) → path_is_in paths path ≡ true → v path ≡ w path

same_records : (v w : View) → SameFiles (family_paths 0) v w → family_data 0 v ≡ family_data 0 w
same_records v w same =
    ap (λ x. records_data x (v dir_path) (v iccid_path) (v imsi_path) (v msisdn_path) (v ext5_path) (v spn_path)) (same ad_path refl)
    ∙ ap (λ x. records_data (w ad_path) x (v iccid_path) (v imsi_path) (v msisdn_path) (v ext5_path) (v spn_path)) (same dir_path refl)
    ∙ ap (λ x. records_data (w ad_path) (w dir_path) x (v imsi_path) (v msisdn_path) (v ext5_path) (v spn_path)) (same iccid_path refl)
    ∙ ap (λ x. records_data (w ad_path) (w dir_path) (w iccid_path) x (v msisdn_path) (v ext5_path) (v spn_path)) (same imsi_path refl)
    ∙ ap (λ x. records_data (w ad_path) (w dir_path) (w iccid_path) (w imsi_path) x (v ext5_path) (v spn_path)) (same msisdn_path refl)
    ∙ ap (λ x. records_data (w ad_path) (w dir_path) (w iccid_path) (w imsi_path) (w msisdn_path) x (v spn_path)) (same ext5_path refl)
    ∙ ap (λ x. records_data (w ad_path) (w dir_path) (w iccid_path) (w imsi_path) (w msisdn_path) (w ext5_path) x) (same spn_path refl)

same_book : (main ext : List ℕ) (v w : View) → v main ≡ w main → v ext ≡ w ext → book_data (v main) (v ext) ≡ book_data (w main) (w ext)
same_book main ext v w p q = ap (λ x. book_data x (v ext)) p ∙ ap (λ x. book_data (w main) x) q

same_data : (f : ℕ) (v w : View) → f < 3 → SameFiles (family_paths f) v w → family_data f v ≡ family_data f w
same_data zero v w known same = same_records v w same
same_data (suc zero) v w known same = same_book adn_path ext1_path v w (same adn_path refl) (same ext1_path refl)
same_data (suc (suc zero)) v w known same = same_book fdn_path ext2_path v w (same fdn_path refl) (same ext2_path refl)
same_data (suc (suc (suc f))) v w known same = absurd (not-suc-le-zero (le_of_suc-le-suc (le_of_suc-le-suc (le_of_suc-le-suc known))))

pub same_shown : (f : ℕ) (v w : View) → f < 3 → SameFiles (family_paths f) v w → shown f v ≡ shown f w
same_shown f v w known same = ap compact_text (same_data f v w known same)
