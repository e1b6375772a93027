-- What the files of a family hold, by two views of them.
use Rattle.std.proofs.Common.{◌≡◌, ◌<◌, ℕ, zero, suc, true, List, Option, Some, None, unwrap_or, option_map, refl, ap, subst, ◌∙◌, arith, IfOk, Result}
use Rattle.fcp.specs.Content.{Content, missing}
use Rattle.families.specs.declared.content.StandardContent.{StandardContent}
use Rattle.families.specs.declared.content.StandardContent.TheVariants as content
use Rattle.families.specs.Patches.{WasContent, path_at}
use Rattle.families.proofs.Shown.{decoded_shown}
use Rattle.families.specs.Families.{View, shown, has_path, iccid_path, imsi_path, ad_path, spn_path, msisdn_path, ext5_path, dir_path, adn_path, ext1_path, fdn_path, ext2_path}
use Rattle.families.specs.Contents.{content_text, decoded, field_of, applications_of, files_of}
use Rattle.sim_codecs.specs.Digits.{iccid_of, imsi_of}
use Rattle.sim_codecs.specs.Fields.{spn_of, ad_of}
use Rattle.adn.specs.Book.{decode_book}
use Rattle.epoch_cache.specs.declared.cached.CachedFile.{CachedFile}
use Rattle.epoch_cache.specs.Cache.{content_or_missing, taken, view_of_files}
use Rattle.epoch_cache.specs.Places.{content_taken}

-- the two views say the same of each path of the family
abbrev pub SameIn : ℕ → View → View → Type 0
SameIn f v w = (q : List ℕ) → has_path f q ≡ true → v q ≡ w q

records_by : Content → Content → Content → Content → Content → Content → Content → StandardContent
records_by iccid imsi ad spn msisdn ext5 dir = content.Records (record {
  iccid = field_of iccid_of iccid;
  imsi = field_of imsi_of imsi;
  ad = field_of ad_of ad;
  spn = field_of spn_of spn;
  msisdn = decode_book msisdn ext5;
  applications = applications_of dir;
})

same_records : {a b c d e f g a' b' c' d' e' f' g' : Content} → a ≡ a' → b ≡ b' → c ≡ c' → d ≡ d' → e ≡ e' → f ≡ f' → g ≡ g' → records_by a b c d e f g ≡ records_by a' b' c' d' e' f' g'
same_records p q r s t u v = cc

book_by : Content → Content → StandardContent
book_by main ext = content.Book (decode_book main ext)

same_book : {a b a' b' : Content} → a ≡ a' → b ≡ b' → book_by a b ≡ book_by a' b'
same_book p q = cc

pub same_decoded : (f : ℕ) (v w : View) → f < 3 → SameIn f v w → decoded f v ≡ decoded f w
unfolding records_by book_by
same_decoded zero v w known same = same_records (same iccid_path refl) (same imsi_path refl) (same ad_path refl) (same spn_path refl) (same msisdn_path refl) (same ext5_path refl) (same dir_path refl)
same_decoded (suc zero) v w known same = same_book (same adn_path refl) (same ext1_path refl)
same_decoded (suc (suc zero)) v w known same = same_book (same fdn_path refl) (same ext2_path refl)
same_decoded (suc (suc (suc f))) v w known same = absurd (omega arith)

one_view : (o : Option CachedFile) → unwrap_or (option_map (λ (file : CachedFile). file.content) o) missing ≡ content_or_missing o
one_view None = refl
one_view (Some file) = refl

-- the view of current files
pub current_view : (files : List CachedFile) (q : List ℕ) → files_of (λ path. content_taken path files) q ≡ view_of_files files q
current_view files q = one_view (taken q files)

pub current_decoded : (f : ℕ) (files : List CachedFile) → f < 3 → decoded f (files_of (λ path. content_taken path files)) ≡ decoded f (view_of_files files)
current_decoded f files known = same_decoded f (files_of (λ path. content_taken path files)) (view_of_files files) known (λ q has. current_view files q)

-- the text of what is decoded
pub kept_shown : (f : ℕ) (files : List CachedFile) (c : StandardContent) → c ≡ decoded f (view_of_files files) → content_text c ≡ shown f (view_of_files files)
kept_shown f files c e = ap content_text e ∙ decoded_shown f (view_of_files files)

-- what was decoded before a row was written, by the view of current files
pub was_current : (decode : View → StandardContent) (paths : List (List ℕ)) (file row : ℕ) (c : StandardContent) (files : List CachedFile) → WasContent decode paths file row c (view_of_files files) → WasContent decode paths file row c (files_of (λ path. content_taken path files))
was_current decode paths file row c files h = record {
  before = h.before;
  bytes = h.bytes;
  decoded = h.decoded;
  files = λ i within. current_view files (path_at paths i) ∙ h.files i within;
}

-- the text of a family, whose number is another name of it
pub text_at : {E : Type 0} (g f : ℕ) (files : List CachedFile) (r : Result (List ℕ) E) → g ≡ f → IfOk r (λ text. text ≡ shown g (view_of_files files)) → IfOk r (λ text. text ≡ shown f (view_of_files files))
text_at g f files r e h = subst (λ n. IfOk r (λ text. text ≡ shown n (view_of_files files))) e h
