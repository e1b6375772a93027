-- A file that a command doesn't touch stays.
use Rattle.std.proofs.Common.{◌≡◌, ℕ, ◌==◌, Bool, true, false, ◌||◌, if◌then◌else◌, List, [], ◌∷◌, refl, ap, sym, ◌∙◌, subst}
use Rattle.std.specs.Prelude.{not, find, map, option_and_then}
use Rattle.std.specs.List.{list_all}
use Rattle.std.proofs.lemmas.Bool.{and_from, false≢true}
use Rattle.apdu.specs.Values.{CommandValue, ResponseValue}
use Rattle.apdu.specs.Words.{same_bytes, path_is_in}
use Rattle.apdu.specs.Apdu.{channel_of, is_success, is_update_ins, fetch_ins}
use Rattle.apdu.specs.declared.class.ClassKind.TheVariants.{Plain}
use Rattle.card_model.specs.declared.world.FileState.{FileState}
use Rattle.card_model.specs.declared.world.ChannelState.{ChannelState}
use Rattle.card_model.specs.declared.world.Change.{Change}
use Rattle.card_model.specs.declared.world.CardState.{CardState}
use Rattle.card_model.specs.Card.{has_path, file_at, first_armed}
use Rattle.card_effects.specs.Effect.{IsOn, Updates, Fetches, Effect, quiet, refuses_select, reads_record, reads_binary, gets, selects, updates_record, updates_binary, opens, closes, hands_over}
use Rattle.card_effects.specs.Touched.{list_of, current_on, paths_of, touched, changes_files, Spares}
use Rattle.card_effects.proofs.Same.{same_bytes_is, same_bytes_self}
use Rattle.card_effects.proofs.Basic.{channel_found}
use Rattle.card_effects.proofs.Files.{placed_by, update_files, files_spare}

-- equal bytes either way round
unlike_by : (a b : List ℕ) (t : Bool) → same_bytes a b ≡ t → same_bytes b a ≡ false → t ≡ false
unlike_by a b false e h = refl
unlike_by a b true e h = absurd (let same : a ≡ b = same_bytes_is a b e in let q : same_bytes b a ≡ true = subst (λ x. same_bytes b x ≡ true) (sym same) (same_bytes_self b) in false≢true (sym h ∙ q))

unlike : (a b : List ℕ) → same_bytes b a ≡ false → same_bytes a b ≡ false
unlike a b h = unlike_by a b (same_bytes a b) refl h

first_apart : (a b : Bool) → (a || b) ≡ false → (a ≡ false) × (b ≡ false)
first_apart false b h = (refl, h)
first_apart true b h = absurd (cc)

-- a path that is not among these files' is none of theirs
apart_from : (files : List FileState) (path : List ℕ) → path_is_in (map (λ (f : FileState). f.path) files) path ≡ false → list_all (λ (f : FileState). not (same_bytes f.path path)) files ≡ true
apart_from [] path h = refl
apart_from (f ∷ files) path h =
    let q = first_apart (same_bytes path f.path) (path_is_in (map (λ (f : FileState). f.path) files) path) h in
    let e : not (same_bytes f.path path) ≡ true = ap not (unlike f.path path q.0) in
    and_from (not (same_bytes f.path path)) (list_all (λ (f : FileState). not (same_bytes f.path path)) files) e (apart_from files path q.1)

module _ (changes : List Change) (card : CardState) (c : CommandValue) (p : CardState × ResponseValue) where
  same_at : p.0.files ≡ card.files → (path : List ℕ) → file_at path p.0 ≡ file_at path card
  same_at h path = rw h refl

  same_files : p.0.files ≡ card.files → Spares changes card c p
  same_files h = record { others = λ path a. same_at h path; undone = λ u. h }

  changed : is_update_ins c.ins ≡ true → is_success p.1.sw ≡ true → changes_files c p.1.sw ≡ true
  changed u s = rw (u, s) refl

  -- what is current on the channel is the path that is touched
  current_is : (number place : ℕ) (channel : ChannelState) → IsOn card c Plain number place channel → current_on card (channel_of c.class) ≡ channel.current
  current_is number place channel on = ap (current_on card) on.class ∙ ap (option_and_then (λ (channel : ChannelState). channel.current)) (channel_found card.channels number place channel on.at on.found)

  update_spares : (number place : ℕ) (channel : ChannelState) → IsOn card c Plain number place channel → is_update_ins c.ins ≡ true → Updates card channel p → Spares changes card c p
  update_spares number place channel on u d =
      let q = placed_by card channel d.place channel.current d.at in
      let touches : touched changes card c ≡ q.0 ∷ [] = ap (λ b. if b then list_of (current_on card (channel_of c.class)) else if c.ins == fetch_ins then paths_of (first_armed changes card) else []) u ∙ ap list_of (current_is number place channel on ∙ q.1) in
      record {
        others = λ path a. let s = first_apart (same_bytes path q.0) false (ap (λ ps. path_is_in ps path) (sym touches) ∙ a) in (update_files card channel p q.0 d q.1).others path (unlike q.0 path s.0);
        undone = λ n. absurd (false≢true (sym n ∙ changed u d.status));
      }

  fetch_spares : c.ins ≡ fetch_ins → Fetches changes card p → Spares changes card c p
  fetch_spares i d =
      let touches : touched changes card c ≡ paths_of (first_armed changes card) = rw i refl in
      let paths : touched changes card c ≡ map (λ (f : FileState). f.path) d.change.files = touches ∙ ap paths_of d.armed in
      let files = d.files in
      let done : changes_files c p.1.sw ≡ true = let r = d.response in rw (i, r) refl in
      record {
        others = λ path a. ap (find (has_path path)) files ∙ files_spare card.files d.change.files path (apart_from d.change.files path (ap (λ ps. path_is_in ps path) (sym paths) ∙ a));
        undone = λ n. absurd (false≢true (sym n ∙ done));
      }

  -- what a command doesn't touch stays
  pub spared : Effect changes card c p → Spares changes card c p
  spared (quiet k q) = same_files k.files
  spared (refuses_select number place channel on j d) = same_files d.keeps.files
  spared (reads_record number place channel on j d) = same_files d.keeps.files
  spared (reads_binary number place channel on j d) = same_files d.keeps.files
  spared (gets number place channel on j d) = same_files d.keeps.files
  spared (selects number place channel on j d) = same_files d.files
  spared (updates_record number place channel on j d) = update_spares number place channel on (ap is_update_ins j) d.updates
  spared (updates_binary number place channel on j d) = update_spares number place channel on (ap is_update_ins j) d.updates
  spared (opens j d) = same_files d.files
  spared (closes j d) = same_files d.files
  spared (hands_over j d) = fetch_spares j d
