-- Where a publication is due, its text is what the card shows (rule 2).
use Rattle.std.proofs.Common.{◌≡◌, ℕ, Bool, true, false, if◌then◌else◌, Option, Some, List, [], ◌∷◌, refl, ap, sym, ◌∙◌, subst}
use Rattle.apdu.specs.Words.{is_one_of}
use Rattle.card_model.specs.declared.world.CardState.{CardState}
use Rattle.card_model.specs.declared.world.World.{World}
use Rattle.card_model.specs.Card.{rows_of}
use Rattle.card_model.specs.Step.{card_inside}
use Rattle.script_reader.specs.declared.types.Script.{Script}
use Rattle.families.specs.Families.{all_families, shown}
use Rattle.epoch_cache.specs.declared.cached.CachedFile.{CachedFile}
use Rattle.epoch_cache.specs.Cache.{taken, is_of}
use Rattle.rules.specs.declared.kept.Kept.{Kept}
use Rattle.rules.specs.declared.due.Due.TheVariants.{Publish as publish}
use Rattle.rules.specs.Due.{due, kept_text}
use Rattle.rules.specs.State.{view_in, content_on, shown_in, shown_on, same_shown}
use Rattle.rules.specs.Laws.{Agrees}
use Rattle.rules.proofs.Publishing.{due-text}
use Rattle.card_effects.proofs.Same.{same_bytes_self, same_bytes_is}
use Rattle.rules.specs.Agreement.{is_application, FileTrue, FilesTrue}

taken_if : (card : CardState) (path : List ℕ) (x file : CachedFile) (rest : Option CachedFile) → is_application path ≡ false → FileTrue card x → (rest ≡ Some file → file.content ≡ rows_of path card) → (b : Bool) → is_of path x ≡ b → (if b then Some x else rest) ≡ Some file → file.content ≡ rows_of path card
taken_if card path x file rest n t next true e h =
    let same : x ≡ file = cc in
    let name : x.path ≡ path = same_bytes_is x.path path e in
    subst (λ (y : CachedFile). y.content ≡ rows_of path card) same ((t (ap is_application name ∙ n)).content ∙ ap (λ (q : List ℕ). rows_of q card) name)
taken_if card path x file rest n t next false e h = next h

taken_true : (card : CardState) (path : List ℕ) (files : List CachedFile) (file : CachedFile) → is_application path ≡ false → FilesTrue card files → taken path files ≡ Some file → file.content ≡ rows_of path card
taken_true card path [] file n t h = absurd (cc)
taken_true card path (x ∷ files) file n t h = taken_if card path x file (taken path files) n t.0 (taken_true card path files file n t.1) (is_of path x) refl h

pub card_agrees : (card : CardState) (files : List CachedFile) → FilesTrue card files → Agrees files (λ path. rows_of path card)
card_agrees card files t = record { same = λ path file n h. taken_true card path files file n t h }

pub agrees : (w : World) (card : CardState) (files : List CachedFile) → card_inside w ≡ Some card → FilesTrue card files → Agrees files (view_in w)
agrees w card files inside t = record { same = λ path file n h. taken_true card path files file n t h ∙ ap (λ (o : Option CardState). content_on o path) (sym inside) }

-- a publication that is due is what the card in the slot shows
pub told_true : (s : Script) (k : Kept) (w : World) (f : ℕ) (card : CardState) → card_inside w ≡ Some card → FilesTrue card k.files → is_one_of f all_families ≡ true → due s k ≡ publish f → same_shown (shown_in w f) (Some (kept_text f k)) ≡ true
told_true s k w f card inside t one due_is =
    let text : kept_text f k ≡ shown f (view_in w) = due-text s k w f (agrees w card k.files inside t) one due_is in
    let view : shown_in w f ≡ Some (shown f (content_on (Some card))) = ap (λ (o : Option CardState). shown_on o f) inside in
    let view2 : shown f (view_in w) ≡ shown f (content_on (Some card)) = ap (λ (o : Option CardState). shown f (content_on o)) inside in
    ap (λ (o : Option (List ℕ)). same_shown o (Some (kept_text f k))) view
    ∙ ap (λ (x : List ℕ). same_shown (Some (shown f (content_on (Some card)))) (Some x)) (text ∙ view2)
    ∙ same_bytes_self (shown f (content_on (Some card)))
