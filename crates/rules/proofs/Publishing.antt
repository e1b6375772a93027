-- Where a publication is due, all files of its family are current; and where the current files are the card's, its text is what the card
-- shows.
use Rattle.std.proofs.Common.{◌≡◌, ℕ, ◌==◌, Bool, true, false, ◌&&◌, ◌||◌, if◌then◌else◌, Option, Some, None, List, [], ◌∷◌, refl, ap, ◌∙◌, subst}
use Rattle.std.specs.Prelude.{is_none, is_some, option_and_then}
use Rattle.fcp.specs.Content.{Content}
use Rattle.script_reader.specs.declared.types.Script.{Script}
use Rattle.std.proofs.lemmas.Bool.{eqb-true}
use Rattle.apdu.specs.Words.{is_one_of}
use Rattle.serde_json.specs.Written.{compact_text}
use Rattle.card_model.specs.declared.world.World.{World}
use Rattle.families.specs.Families.{View, all_families, iccid_path, imsi_path, ad_path, spn_path, msisdn_path, ext5_path, dir_path, adn_path, ext1_path, fdn_path, ext2_path, family_paths, records_data, book_data, shown}
use Rattle.epoch_cache.specs.declared.cached.CachedFile.{CachedFile}
use Rattle.epoch_cache.specs.Cache.{taken, is_current, all_current, content_or_missing, view_of_files}
use Rattle.rules.specs.declared.kept.Kept.{Kept}
use Rattle.rules.specs.declared.due.Due.TheVariants.{Publish as publish}
use Rattle.rules.specs.Due.{due, due_publication, published_by, kept_text}
use Rattle.rules.specs.State.{view_in}
use Rattle.rules.specs.Agreement.{is_application}
use Rattle.rules.specs.Laws.{Agrees}
use Rattle.rules.proofs.Says.{says_of}

-- what is due is the publication that is due
pub due-publish : (s : Script) (k : Kept) (f : ℕ) → due s k ≡ publish f → due_publication k ≡ Some f
due-publish s k f e = says_of s k (publish f) e

-- ---- the files of the family are current

both : (a b : Bool) (g f : ℕ) → (if a && b then Some g else None) ≡ Some f → (b ≡ true) × (Some g ≡ Some f)
both true true g f e = (refl, e)
both true false g f e = absurd (cc)
both false b g f e = absurd (cc)

value_of : Option ℕ → ℕ
value_of None = 0
value_of (Some n) = n

same_value : (g f : ℕ) → Some g ≡ Some f → g ≡ f
unfolding value_of
same_value g f e = ap value_of e

publication_current : (k : Kept) (family : Option ℕ) (f : ℕ) → option_and_then (published_by k) family ≡ Some f → all_current k.files (family_paths f) ≡ true
publication_current k None f e = absurd (cc)
publication_current k (Some g) f e =
    let p : (all_current k.files (family_paths g) ≡ true) × (Some g ≡ Some f) = both (is_none k.turn.published) (all_current k.files (family_paths g)) g f e in
    subst (λ n. all_current k.files (family_paths n) ≡ true) (same_value g f p.1) p.0

pub due-current : (s : Script) (k : Kept) (f : ℕ) → due s k ≡ publish f → all_current k.files (family_paths f) ≡ true
due-current s k f e = publication_current k k.turn.family f (due-publish s k f e)

-- ---- and so the text is what the card shows

content_by : (files : List CachedFile) (view : View) (path : List ℕ) (o : Option CachedFile) → Agrees files view → is_application path ≡ false → taken path files ≡ o → is_some o ≡ true → content_or_missing o ≡ view path
content_by files view path None a n h c = absurd (cc)
content_by files view path (Some file) a n h c = a.same path file n h

pub current-agrees : (files : List CachedFile) (view : View) (path : List ℕ) → Agrees files view → is_application path ≡ false → is_current files path ≡ true → view_of_files files path ≡ view path
current-agrees files view path a n c = content_by files view path (taken path files) a n refl c

first_and : (a b : Bool) → a && b ≡ true → a ≡ true
first_and true b h = refl
first_and false b h = h

rest_and : (a b : Bool) → a && b ≡ true → b ≡ true
rest_and true b h = h
rest_and false b h = absurd (cc)

pub book_same : (a b c d : Content) → a ≡ c → b ≡ d → compact_text (book_data a b) ≡ compact_text (book_data c d)
book_same a b c d main ext = ap (λ (x : Content). compact_text (book_data x b)) main ∙ ap (λ (x : Content). compact_text (book_data c x)) ext

module _ (v w : View) where
  pub records_same : v ad_path ≡ w ad_path → v dir_path ≡ w dir_path → v iccid_path ≡ w iccid_path → v imsi_path ≡ w imsi_path → v msisdn_path ≡ w msisdn_path → v ext5_path ≡ w ext5_path → v spn_path ≡ w spn_path → shown 0 v ≡ shown 0 w
  records_same ad dir iccid imsi msisdn ext5 spn =
      ap (λ (x : Content). compact_text (records_data x (v dir_path) (v iccid_path) (v imsi_path) (v msisdn_path) (v ext5_path) (v spn_path))) ad
      ∙ ap (λ (x : Content). compact_text (records_data (w ad_path) x (v iccid_path) (v imsi_path) (v msisdn_path) (v ext5_path) (v spn_path))) dir
      ∙ ap (λ (x : Content). compact_text (records_data (w ad_path) (w dir_path) x (v imsi_path) (v msisdn_path) (v ext5_path) (v spn_path))) iccid
      ∙ ap (λ (x : Content). compact_text (records_data (w ad_path) (w dir_path) (w iccid_path) x (v msisdn_path) (v ext5_path) (v spn_path))) imsi
      ∙ ap (λ (x : Content). compact_text (records_data (w ad_path) (w dir_path) (w iccid_path) (w imsi_path) x (v ext5_path) (v spn_path))) msisdn
      ∙ ap (λ (x : Content). compact_text (records_data (w ad_path) (w dir_path) (w iccid_path) (w imsi_path) (w msisdn_path) x (v spn_path))) ext5
      ∙ ap (λ (x : Content). compact_text (records_data (w ad_path) (w dir_path) (w iccid_path) (w imsi_path) (w msisdn_path) (w ext5_path) x)) spn

-- each path of the list, where all are current
pub head-current : (files : List CachedFile) (path : List ℕ) (paths : List (List ℕ)) → all_current files (path ∷ paths) ≡ true → is_current files path ≡ true
head-current files path paths h = first_and (is_current files path) (all_current files paths) h

pub tail-current : (files : List CachedFile) (path : List ℕ) (paths : List (List ℕ)) → all_current files (path ∷ paths) ≡ true → all_current files paths ≡ true
tail-current files path paths h = rest_and (is_current files path) (all_current files paths) h

module _ (files : List CachedFile) (view : View) (a : Agrees files view) where
  one : (path : List ℕ) (paths : List (List ℕ)) → is_application path ≡ false → all_current files (path ∷ paths) ≡ true → view_of_files files path ≡ view path
  one path paths n h = current-agrees files view path a n (head-current files path paths h)

  records_text : all_current files (family_paths 0) ≡ true → shown 0 (view_of_files files) ≡ shown 0 view
  records_text h0 =
      let h1 = tail-current files iccid_path (imsi_path ∷ ad_path ∷ spn_path ∷ msisdn_path ∷ ext5_path ∷ dir_path ∷ []) h0 in
      let h2 = tail-current files imsi_path (ad_path ∷ spn_path ∷ msisdn_path ∷ ext5_path ∷ dir_path ∷ []) h1 in
      let h3 = tail-current files ad_path (spn_path ∷ msisdn_path ∷ ext5_path ∷ dir_path ∷ []) h2 in
      let h4 = tail-current files spn_path (msisdn_path ∷ ext5_path ∷ dir_path ∷ []) h3 in
      let h5 = tail-current files msisdn_path (ext5_path ∷ dir_path ∷ []) h4 in
      let h6 = tail-current files ext5_path (dir_path ∷ []) h5 in
      records_same (view_of_files files) view
      (one ad_path (spn_path ∷ msisdn_path ∷ ext5_path ∷ dir_path ∷ []) refl h2)
      (one dir_path [] refl h6)
      (one iccid_path (imsi_path ∷ ad_path ∷ spn_path ∷ msisdn_path ∷ ext5_path ∷ dir_path ∷ []) refl h0)
      (one imsi_path (ad_path ∷ spn_path ∷ msisdn_path ∷ ext5_path ∷ dir_path ∷ []) refl h1)
      (one msisdn_path (ext5_path ∷ dir_path ∷ []) refl h4)
      (one ext5_path (dir_path ∷ []) refl h5)
      (one spn_path (msisdn_path ∷ ext5_path ∷ dir_path ∷ []) refl h3)

  phonebook_text : all_current files (family_paths 1) ≡ true → shown 1 (view_of_files files) ≡ shown 1 view
  phonebook_text h = book_same (view_of_files files adn_path) (view_of_files files ext1_path) (view adn_path) (view ext1_path) (one adn_path (ext1_path ∷ []) refl h) (one ext1_path [] refl (tail-current files adn_path (ext1_path ∷ []) h))

  fixed_text : all_current files (family_paths 2) ≡ true → shown 2 (view_of_files files) ≡ shown 2 view
  fixed_text h = book_same (view_of_files files fdn_path) (view_of_files files ext2_path) (view fdn_path) (view ext2_path) (one fdn_path (ext2_path ∷ []) refl h) (one ext2_path [] refl (tail-current files fdn_path (ext2_path ∷ []) h))

  by_family : (f : ℕ) (a b c : Bool) → (0 == f) ≡ a → (1 == f) ≡ b → (2 == f) ≡ c → (a || (b || (c || false))) ≡ true → all_current files (family_paths f) ≡ true → shown f (view_of_files files) ≡ shown f view
  by_family f true b c e0 e1 e2 one_of h = let e : 0 ≡ f = eqb-true 0 f e0 in subst (λ n. all_current files (family_paths n) ≡ true → shown n (view_of_files files) ≡ shown n view) e records_text h
  by_family f false true c e0 e1 e2 one_of h = let e : 1 ≡ f = eqb-true 1 f e1 in subst (λ n. all_current files (family_paths n) ≡ true → shown n (view_of_files files) ≡ shown n view) e phonebook_text h
  by_family f false false true e0 e1 e2 one_of h = let e : 2 ≡ f = eqb-true 2 f e2 in subst (λ n. all_current files (family_paths n) ≡ true → shown n (view_of_files files) ≡ shown n view) e fixed_text h
  by_family f false false false e0 e1 e2 one_of h = absurd (cc)

  pub current_text : (f : ℕ) → is_one_of f all_families ≡ true → all_current files (family_paths f) ≡ true → shown f (view_of_files files) ≡ shown f view
  current_text f one_of h = by_family f (0 == f) (1 == f) (2 == f) refl refl refl one_of h

-- a publication that is due is one that the rule of snapshots allows: its text is what the card shows
pub due-text : (s : Script) (k : Kept) (world : World) (f : ℕ) → Agrees k.files (view_in world) → is_one_of f all_families ≡ true → due s k ≡ publish f → kept_text f k ≡ shown f (view_in world)
due-text s k world f a one_of e = current_text k.files (view_in world) a f one_of (due-current s k f e)
