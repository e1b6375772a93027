-- The cards of a world and their spares, card by card.
use Rattle.std.proofs.Common.{◌≡◌, ◌<◌, ◌||◌, ℕ, zero, suc, true, List, [], ◌∷◌, ◌++◌, length, map, All, refl, sym, ap, subst, ◌∙◌, arith, get_or}
use Rattle.std.proofs.Math.ListN.{set, get_or-map}
use Rattle.std.proofs.lemmas.List.{length-map, map-set, append_assoc}
use Rattle.std.proofs.lemmas.List.Elements.{All-nil, All-cons, All-tail}
use Rattle.std.proofs.lemmas.List.Folds.{list_any-append, list_any_at}
use Rattle.std.specs.List.{list_any}
use Rattle.card_model.specs.declared.world.FileState.{FileState}
use Rattle.card_model.specs.declared.world.Change.{Change}
use Rattle.card_model.specs.declared.world.CardState.{CardState}
use Rattle.card_model.specs.declared.world.World.{World}
use Rattle.card_model.specs.declared.world.WorldEvent.{WorldEvent}
use Rattle.card_model.specs.Limits.{all_files, HasRoom}
use Rattle.card_model.specs.Step.{after_event, after_reset}
use Rattle.card_rows.specs.Shapes.{shape_of}
use Rattle.sim_card.specs.Spares.{fits, IsStocked, AreStocked, IsStockedWorld, files_of}
use Rattle.sim_card.proofs.Stock.{either_true, same_shape_itself}
use Rattle.sim_card.proofs.Put.{any_of_shapes}
use Rattle.sim_card.proofs.Events.{event_keeps, event_keeps_changes, reset_keeps_files, reset_keeps_changes}

-- ---- one card of several

same_count : (changes : List Change) (files spares : List (List FileState)) → AreStocked changes files spares → length spares ≡ length files
same_count changes [] [] h = refl
same_count changes [] (s ∷ spares) h = absurd h
same_count changes (f ∷ files) [] h = absurd h
same_count changes (f ∷ files) (s ∷ spares) h = ap suc (same_count changes files spares h.1)

stocked_at : (changes : List Change) (files spares : List (List FileState)) (i : ℕ) (f s : List FileState) → AreStocked changes files spares → i < length files → f ≡ get_or files i f → s ≡ get_or spares i s → IsStocked changes f s
stocked_at changes [] spares i f s h lt is_f is_s = absurd (omega arith)
stocked_at changes (x ∷ files) [] i f s h lt is_f is_s = absurd h
stocked_at changes (x ∷ files) (y ∷ spares) zero f s h lt is_f is_s = subst (λ l. IsStocked changes l s) (sym is_f) (subst (λ l. IsStocked changes x l) (sym is_s) h.0)
stocked_at changes (x ∷ files) (y ∷ spares) (suc i) f s h lt is_f is_s = stocked_at changes files spares i f s h.1 (omega arith) is_f is_s

stocked_set : (changes : List Change) (files spares : List (List FileState)) (i : ℕ) (f s : List FileState) → AreStocked changes files spares → IsStocked changes f s → AreStocked changes (set files i f) (set spares i s)
stocked_set changes [] [] i f s h new = h
stocked_set changes [] (y ∷ spares) i f s h new = absurd h
stocked_set changes (x ∷ files) [] i f s h new = absurd h
stocked_set changes (x ∷ files) (y ∷ spares) zero f s h new = (new, h.1)
stocked_set changes (x ∷ files) (y ∷ spares) (suc i) f s h new = (h.0, stocked_set changes files spares i f s h.1 new)

pub spares_count : (w : World) (spares : List (List FileState)) → IsStockedWorld w spares → length spares ≡ length w.cards
spares_count w spares h = same_count w.changes (map files_of w.cards) spares h ∙ length-map w.cards files_of

pub stocked_card : (w : World) (spares : List (List FileState)) (i : ℕ) (card : CardState) (s : List FileState) → IsStockedWorld w spares → i < length w.cards → card ≡ get_or w.cards i card → s ≡ get_or spares i s → IsStocked w.changes card.files s
stocked_card w spares i card s h lt is_card is_s = stocked_at w.changes (map files_of w.cards) spares i card.files s h (rw (length-map w.cards files_of) lt) (ap files_of is_card ∙ sym (get_or-map files_of w.cards i card)) is_s

pub stocked_with : (w : World) (spares : List (List FileState)) (i : ℕ) (card : CardState) (s : List FileState) → IsStockedWorld w spares → IsStocked w.changes card.files s → IsStockedWorld (record w { cards = set w.cards i card }) (set spares i s)
stocked_with w spares i card s h new = rw (map-set files_of w.cards i card) (stocked_set w.changes (map files_of w.cards) spares i card.files s h new)

-- ---- events and resets

stocked_as : (w other : World) (spares : List (List FileState)) → other.changes ≡ w.changes → map files_of other.cards ≡ map files_of w.cards → IsStockedWorld w spares → IsStockedWorld other spares
stocked_as w other spares changes files h = rw (changes, files) h

pub stocked_event : (w : World) (e : WorldEvent) (spares : List (List FileState)) → IsStockedWorld w spares → IsStockedWorld (after_event w e) spares
stocked_event w e spares h = stocked_as w (after_event w e) spares (event_keeps_changes w e) (event_keeps w e) h

pub stocked_reset : (w : World) (spares : List (List FileState)) → IsStockedWorld w spares → IsStockedWorld (after_reset w) spares
stocked_reset w spares h = stocked_as w (after_reset w) spares (reset_keeps_changes w) (reset_keeps_files w) h

-- ---- a new slot

abbrev HaveSpares : List FileState → Change → Type 0
HaveSpares spares change = All (λ file. list_any (fits file) spares ≡ true) change.files

have_own : (before after : List FileState) (change : Change) → HaveSpares (before ++ (change.files ++ after)) change
have_own before after change = λ k d lt.
    let file = get_or change.files k d in
    list_any-append (fits file) before (change.files ++ after)
    ∙ either_true (list_any (fits file) before) _ (list_any-append (fits file) change.files after ∙ ap (λ b. b || list_any (fits file) after) (list_any_at (fits file) change.files k d lt (same_shape_itself (shape_of file))))

have_all : (before : List FileState) (changes : List Change) → All (HaveSpares (before ++ all_files changes)) changes
have_all before [] = All-nil _
have_all before (change ∷ changes) = All-cons (HaveSpares (before ++ (change.files ++ all_files changes))) change changes (have_own before (all_files changes) change)
    (subst (λ l. All (HaveSpares l) changes) (append_assoc before change.files (all_files changes)) (have_all (before ++ change.files) changes))

stocked_first : (changes : List Change) (card : CardState) → HasRoom changes card → IsStocked changes card.files (all_files changes)
stocked_first changes card room = record {
  ready = λ k d lt j e less. either_true _ _ (any_of_shapes (get_or (get_or changes k d).files j e) (all_files changes) ∙ have_all [] changes k d lt j e less);
  room = room;
}

pub stocked_new : (changes : List Change) (cards : List CardState) → All (HasRoom changes) cards → AreStocked changes (map files_of cards) (map (λ (card : CardState). all_files changes) cards)
stocked_new changes [] h = tt
stocked_new changes (card ∷ cards) h = (stocked_first changes card (h 0 card (omega arith)), stocked_new changes cards (All-tail (HasRoom changes) card cards h))
