-- What a command changes of the files of a card, path by path.
use Rattle.std.proofs.Common.{◌≡◌, ℕ, Bool, true, false, if◌then◌else◌, Option, Some, None, List, [], ◌∷◌, refl, ◌∙◌, subst, arith, get_or}
use Rattle.std.specs.Prelude.{not, find, position, option_and_then}
use Rattle.std.specs.List.{list_all}
use Rattle.std.specs.Option.{option_or}
use Rattle.std.proofs.lemmas.Bool.{and_parts}
use Rattle.std.proofs.lemmas.List.Folds.{find_past, find-append}
use Rattle.std.proofs.lemmas.List.Quantifiers.{position-Some}
use Rattle.std.proofs.lemmas.Option.{slice_get-get_or}
use Rattle.apdu.specs.Values.{ResponseValue}
use Rattle.apdu.specs.Words.{same_bytes}
use Rattle.card_model.specs.declared.world.FileState.{FileState}
use Rattle.card_model.specs.declared.world.ChannelState.{ChannelState}
use Rattle.card_model.specs.declared.world.CardState.{CardState}
use Rattle.card_model.specs.Card.{has_path, file_place, place_seen, is_visible}
use Rattle.card_model.specs.Update.{with_record}
use Rattle.card_model.specs.Toolkit.{file_put, with_file, with_files}
use Rattle.card_effects.specs.Effect.{Updates}
use Rattle.card_effects.proofs.Basic.{place_found, place_passes, set_at_place}
use Rattle.card_effects.proofs.Same.{same_bytes_is}

seen_place : (b : Bool) (o : Option ℕ) (place : ℕ) → (if b then o else None) ≡ Some place → o ≡ Some place
seen_place true o place h = h
seen_place false o place h = absurd (cc)

-- a place comes of a path
pub placed_by : (card : CardState) (channel : ChannelState) (place : ℕ) (o : Option (List ℕ)) → option_and_then (place_seen card channel) o ≡ Some place → (path : List ℕ) × (o ≡ Some path) × (file_place path card ≡ Some place)
placed_by card channel place None h = absurd (cc)
placed_by card channel place (Some path) h = (path, refl, seen_place (is_visible card channel path) (file_place path card) place h)

-- the current file has another row, and every other file is as it was
pub record RowWritten (old new : List FileState) (path : List ℕ) (file : FileState) (index : ℕ) (row : List ℕ) : Type 0 where
  pub before : find (has_path path) old ≡ Some file
  pub behind : find (has_path path) new ≡ Some (with_record file index row)
  pub others : (other : List ℕ) → same_bytes path other ≡ false → find (has_path other) new ≡ find (has_path other) old

pub update_files : (card : CardState) (channel : ChannelState) (p : CardState × ResponseValue) (path : List ℕ) → (u : Updates card channel p) → channel.current ≡ Some path → RowWritten card.files p.0.files path u.file u.index u.row
update_files card channel p path u current =
    let q = placed_by card channel u.place channel.current u.at in
    let same : q.0 ≡ path = let e = q.1 in cc in
    let at : position (has_path path) card.files ≡ Some u.place = subst (λ (x : List ℕ). position (has_path x) card.files ≡ Some u.place) same q.2 in
    let pass : has_path path u.file ≡ true = place_passes (has_path path) card.files u.place u.file at u.found in
    let name : u.file.path ≡ path = same_bytes_is u.file.path path pass in
    let w = position-Some (has_path path) card.files u.place u.file at in
    let there : get_or card.files u.place u.file ≡ u.file = let e = slice_get-get_or card.files u.place u.file w.0 in let f = u.found in cc in
    record {
      before = place_found (has_path path) card.files u.place at ∙ u.found;
      behind = rw u.files (set_at_place (has_path path) card.files u.place (with_record u.file u.index u.row) at pass);
      others = λ other h. let fails : has_path other u.file ≡ false = rw name h in rw u.files (find_past (has_path other) card.files u.place (with_record u.file u.index u.row) u.file (rw there fails) fails);
    }

-- ---- FETCH

or_none : (o : Option FileState) → option_or o None ≡ o
or_none None = refl
or_none (Some x) = refl

pub put_other : (files : List FileState) (new : FileState) (path : List ℕ) → same_bytes new.path path ≡ false → (o : Option ℕ) → position (has_path new.path) files ≡ o → find (has_path path) (file_put files new o) ≡ find (has_path path) files
put_other files new path h None e = find-append (has_path path) files (new ∷ []) ∙ rw h (or_none (find (has_path path) files))
put_other files new path h (Some place) e =
    let w = position-Some (has_path new.path) files place new e in
    let name : (get_or files place new).path ≡ new.path = same_bytes_is (get_or files place new).path new.path w.1 in
    find_past (has_path path) files place new new (rw name h) h

-- files of other paths leave this one
pub files_spare : (files more : List FileState) (path : List ℕ) → list_all (λ (f : FileState). not (same_bytes f.path path)) more ≡ true → find (has_path path) (with_files files more) ≡ find (has_path path) files
files_spare files [] path h = refl
files_spare files (new ∷ more) path h =
    let q = and_parts (not (same_bytes new.path path)) (list_all (λ (f : FileState). not (same_bytes f.path path)) more) h in
    let apart : same_bytes new.path path ≡ false = let e = q.0 in grind arith in
    files_spare (with_file files new) more path q.1 ∙ put_other files new path apart (position (has_path new.path) files) refl
