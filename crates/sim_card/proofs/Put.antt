-- What the code that puts a change's files on a card shows of them.
use Rattle.std.proofs.Common.{◌≡◌, ◌<◌, ◌+◌, ◌||◌, All, Result, Ok, Err, OnOk, IsOk, ℕ, true, false, List, [], ◌∷◌, length, find, Option, Some, None, IfSome, slice_get, true≢false, refl, sym, ap, subst, ◌∙◌, arith, get_or}
use Rattle.std.proofs.Math.ListN.{set, get_or-map}
use Rattle.std.proofs.Math.Seq.{map-set_same}
use Rattle.std.proofs.lemmas.List.{length-set, get_or-set_same, set-get_or, set-set, length-map}
use Rattle.std.proofs.lemmas.List.Elements.{All-get_or, All-push, All-set, All-tail}
use Rattle.std.proofs.lemmas.List.Quantifiers.{position-Some}
use Rattle.std.proofs.lemmas.Option.{get_or_from_slice_get, slice_get_read, slice_get_within}
use Rattle.std.specs.Prelude.{option_and_then}
use Rattle.std.specs.Borrow.{Bor}
use Rattle.std.specs.List.{list_any, position}
use Rattle.apdu.specs.Words.{has_value}
use Rattle.card_model.specs.declared.world.FileState.{FileState}
use Rattle.card_model.specs.declared.world.CardState.{CardState}
use Rattle.card_model.specs.declared.world.Change.{Change}
use Rattle.card_model.specs.Card.{has_path, first_armed}
use Rattle.card_model.specs.Toolkit.{file_put, with_file, with_files}
use Rattle.card_model.specs.Limits.{HasFittingParameters, IsFittingCard}
use Rattle.card_rows.specs.Shapes.{shape_of, shapes}
use Rattle.sim_card.specs.Spares.{same_shape, fits, has_shape_path, IsReadyFor, StaysReady, IsStocked}
use Rattle.sim_card.proofs.Stock.{find_here, right_of, shape_at, same_parts, same_shapes}

-- ---- items of lists

-- what holds of the item that is there holds of the item that was read
pub at_index : {X : Type 0} (P : X → Type 0) (xs : List X) (i : ℕ) (x : X) → i < length xs → x ≡ get_or xs i x → IfSome (slice_get xs i) P → P x
at_index P xs i x lt e h = subst (λ o. IfSome o P) (slice_get_read xs (length xs) i x refl lt e) h

pub of_index : {X : Type 0} (P : X → Type 0) (xs : List X) (i : ℕ) (x : X) → i < length xs → x ≡ get_or xs i x → P x → IfSome (slice_get xs i) P
of_index P xs i x lt e h = subst (λ o. IfSome o P) (sym (slice_get_read xs (length xs) i x refl lt e)) h

pub set_index : {X : Type 0} (P : X → Type 0) (xs : List X) (i : ℕ) (x : X) → i < length xs → P x → IfSome (slice_get (set xs i x) i) P
set_index P xs i x lt h = of_index P (set xs i x) i x (rw (length-set xs i x) lt) (sym (get_or-set_same xs i x x lt)) h

-- ---- a file of the card

pub any_of_shapes : (new : FileState) (spares : List FileState) → list_any (same_shape (shape_of new)) (shapes spares) ≡ list_any (fits new) spares
any_of_shapes new [] = refl
any_of_shapes new (spare ∷ spares) = ap (λ b. fits new spare || b) (any_of_shapes new spares)

-- where the file of the path has another shape a spare has the right one
pub spare_is_ready : (files spares : List FileState) (new old : FileState) (i : ℕ) → position (has_path new.path) files ≡ Some i → old ≡ get_or files i old → fits new old ≡ false → IsReadyFor files spares new → list_any (fits new) spares ≡ true
spare_is_ready files spares new old i at is_old other h =
    let facts = position-Some (has_path new.path) files i old at in
    let test = has_shape_path new.path in
    let read : get_or (shapes files) i (shape_of old) ≡ shape_of old = sym (shape_at files i old is_old) in
    let was : find test (shapes files) ≡ Some (shape_of old) =
    find_here test (shapes files) i (shape_of old) (rw (length-map files shape_of) facts.0) (λ k less. ap test (get_or-map shape_of files k old) ∙ facts.2 k less) (ap test read ∙ ap (has_path new.path) is_old ∙ facts.1) ∙ ap (λ s. Some s) read in
    let held : (fits new old || list_any (same_shape (shape_of new)) (shapes spares)) ≡ true = ap (λ o. has_value (same_shape (shape_of new)) o || list_any (same_shape (shape_of new)) (shapes spares)) (sym was) ∙ h in
    sym (any_of_shapes new spares) ∙ right_of (fits new old) _ other held

-- a missing path has its shape among the spares
pub spare_of_missing : (files spares : List FileState) (new : FileState) → find (has_shape_path new.path) (shapes files) ≡ None → IsReadyFor files spares new → list_any (fits new) spares ≡ true
spare_of_missing files spares new none h = sym (any_of_shapes new spares) ∙ ap (λ o. has_value (same_shape (shape_of new)) o || list_any (same_shape (shape_of new)) (shapes spares)) (sym none) ∙ h

-- files of which one is put where it stands are as they were
pub unchanged : (files : List FileState) (i : ℕ) (file : FileState) → file ≡ get_or files i file → files ≡ set files i file
unchanged files i file e = sym (ap (λ f. set files i f) e ∙ set-get_or files i file)

-- a file that is written over by one of its shape
pub written_stays : (files spares middle rest : List FileState) (i : ℕ) (old new : FileState) → StaysReady files spares middle rest → old ≡ get_or middle i old → fits new old ≡ true → StaysReady files spares (set middle i new) rest
written_stays files spares middle rest i old new stays is_old fit shape h =
    let one : shape_of new ≡ shape_of (get_or middle i old) = sym (same_shapes (shape_of new) (shape_of old) (same_parts (shape_of new) (shape_of old) fit)) ∙ ap shape_of is_old in
    let same : shapes (set middle i new) ≡ shapes middle = map-set_same shape_of middle i new old one in
    rw same (stays shape h)

pub if_ok : {A E P : Type 0} (result : Result A E) → OnOk result P → IsOk result → P
if_ok (Ok value) h is = h
if_ok (Err error) h is = absurd (true≢false (sym is))

-- a file that was made to fit, and then written over
pub replaced : (files middle : List FileState) (i : ℕ) (file written new : FileState) → middle ≡ set files i file → written ≡ new → set middle i written ≡ set files i new
replaced files middle i file written new fit same = ap (λ l. set l i written) fit ∙ set-set files i file written ∙ ap (λ f. set files i f) same

-- what was ready for files still is
pub all_ready : (files spares new_files new_spares news : List FileState) → StaysReady files spares new_files new_spares → All (IsReadyFor files spares) news → All (IsReadyFor new_files new_spares) news
all_ready files spares new_files new_spares news stays h = λ k d lt. stays (shape_of (get_or news k d)) (h k d lt)

-- ---- what holds of every file of the card and of the change

put_holds : (P : FileState → Type 0) (files : List FileState) (new : FileState) (place : Option ℕ) → All P files → P new → All P (file_put files new place)
put_holds P files new None h p = All-push P files new h p
put_holds P files new (Some place) h p = All-set P files place new p h

pub with_files_hold : (P : FileState → Type 0) (files news : List FileState) → All P files → All P news → All P (with_files files news)
with_files_hold P files [] h p = h
with_files_hold P files (new ∷ more) h p = with_files_hold P (with_file files new) more (put_holds P files new (position (has_path new.path) files) h (p 0 new (omega arith))) (All-tail P new more p)

pub put_fits : (card : CardState) (put news : List FileState) → put ≡ with_files card.files news → IsFittingCard card → All HasFittingParameters news → IsFittingCard (record card { files = put })
put_fits card put news e fits h = record {
  files = subst (λ files. All HasFittingParameters files) (sym e) (with_files_hold HasFittingParameters card.files news fits.files h);
  aids = fits.aids;
  applications = fits.applications;
}

-- ---- a card stays stocked

pub stock_stays : (changes : List Change) (files spares new_files new_spares : List FileState) → IsStocked changes files spares → StaysReady files spares new_files new_spares → length new_files + length new_spares ≡ length files + length spares → IsStocked changes new_files new_spares
stock_stays changes files spares new_files new_spares stocked stays count = record {
  ready = λ k d lt. all_ready files spares new_files new_spares (get_or changes k d).files stays (stocked.ready k d lt);
  room = omega (arith, count, stocked.room);
}

-- only the shapes of the files matter
pub stock_of_shapes : (changes : List Change) (files spares new_files : List FileState) → shapes new_files ≡ shapes files → IsStocked changes files spares → IsStocked changes new_files spares
stock_of_shapes changes files spares new_files same stocked =
    let count : length new_files ≡ length files = sym (length-map new_files shape_of) ∙ ap length same ∙ length-map files shape_of in
    stock_stays changes files spares new_files spares stocked (λ shape h. rw same h) (omega (arith, count))

-- ---- the change that is fetched

change_holds : (P : Change → Type 0) (changes : List Change) (number : Option ℕ) (change : Change) → All P changes → Some change ≡ option_and_then (slice_get changes) number → P change
change_holds P changes None change h e = absurd (cc)
change_holds P changes (Some i) change h e =
    subst P (get_or_from_slice_get changes i change change (sym e)) (All-get_or P changes i change (slice_get_within changes i change (sym e)) h)

-- what holds of every change holds of the one that was armed first
pub armed_holds : (P : Change → Type 0) (changes : List Change) (card : CardState) (change : Change) → All P changes → Some change ≡ first_armed changes card → P change
armed_holds P changes card change h e = change_holds P changes (slice_get card.armed 0) change h e

pub fetched_is : (first : Option Change) (fetched : Option (Bor Change)) (change : Bor Change) → fetched ≡ Some change → IfSome fetched (λ change. Some change.now ≡ first) → Some change.now ≡ first
fetched_is first fetched change is h = subst (λ (o : Option (Bor Change)). IfSome o (λ change. Some change.now ≡ first)) is h
