-- What the card shows behind an UPDATE of an edit that was done: of another family the same, of its own family too unless it writes the main
-- file; and behind one that does, the publication of the family is awaited.
use Rattle.std.proofs.Common.{◌≡◌, ◌⊎◌, inl, inr, ℕ, zero, suc, ◌==◌, ◌&&◌, ◌||◌, not, Bool, true, false, Option, Some, None, is_some, List, [], ◌∷◌, refl, sym, ap, ◌∙◌, subst, arith, true≢false}
use Rattle.std.specs.Prelude.{codes}
use Rattle.std.specs.List.{list_any}
use Rattle.std.proofs.lemmas.Bool.{and_parts, and_from, eqb-true}
use Rattle.apdu.specs.Values.{CommandValue, ResponseValue}
use Rattle.apdu.specs.Words.{has_value, is_one_of, same_bytes}
use Rattle.apdu.specs.Apdu.{is_success, is_update_ins}
use Rattle.card_effects.proofs.Same.{same_bytes_is}
use Rattle.card_model.specs.declared.world.CardState.{CardState}
use Rattle.card_model.specs.declared.world.World.{World}
use Rattle.card_model.specs.Step.{on_card, step, card_inside}
use Rattle.serde_json.specs.Data.{object}
use Rattle.serde_json.specs.Written.{compact_text}
use Rattle.script_reader.specs.declared.types.Script.{Script}
use Rattle.script_reader.specs.Rules.{keeps_rules}
use Rattle.report.specs.declared.line.Line.{Line}
use Rattle.report.specs.declared.line.Line.TheVariants as line
use Rattle.adn.specs.declared.entry.BookRow.{BookRow}
use Rattle.adn.specs.declared.entry.BookRow.TheVariants.{Free, Entry, Unreadable}
use Rattle.families.specs.Families.{View, all_families, entries_data, family_book, family_path, family_paths, members, shown}
use Rattle.families.specs.Plans.{same_book, same_row}
use Rattle.link.specs.Commands.{continued, is_at}
use Rattle.epoch_cache.specs.declared.cached.Touch.{Touch}
use Rattle.epoch_cache.specs.declared.cached.Written.{Written}
use Rattle.epoch_cache.specs.declared.cached.Written.TheVariants as written
use Rattle.epoch_cache.specs.Cache.{all_current, is_moved, is_overwritten, is_spoiled, is_unknown_write, is_update, moves_one}
use Rattle.rules.specs.declared.kept.Kept.{Kept}
use Rattle.rules.specs.Channels.{held_numbers}
use Rattle.rules.specs.Kept.{job_of, operation_now}
use Rattle.rules.specs.After.{facts_of, is_raw, is_raw_line, jobs_beside, refused_of, kept_after, kept_of}
use Rattle.rules.specs.Laws.{KeptAgrees, KeptLooksBack, PlansForCard}
use Rattle.rules.specs.Rules.{EditTurn, book_in, is_book_edited, is_book_kept, is_book_right, is_outside_raw, is_sent_right, is_update_right, has_right_edit, has_right_response, turn_operation}
use Rattle.rules.specs.State.{content_on, shown_in, shown_on, world_of}
use Rattle.performed.specs.Names.{has_utf8_names}
use Rattle.performed.specs.Followed.{is_followed, are_followed}
use Rattle.performed.specs.Told.{are_told}
use Rattle.performed.proofs.CalmLines.{turn_is}
use Rattle.performed.proofs.CalmSends.{never}
use Rattle.performed.proofs.EditsCard.{Answered}
use Rattle.performed.proofs.EditsAwaited.{IsAwaited}
use Rattle.performed.proofs.EditsCurrent.{attempts_current, front_current, paths_stay, writes_known}
use Rattle.performed.proofs.EditsKept.{Wrote, own, own_actor, own_book, own_card, own_file, current}
use Rattle.performed.proofs.EditsOver.{over_sent, turn_over}
use Rattle.performed.proofs.EditsRule.{turn_edits}
use Rattle.performed.proofs.EditsSends.{is_book}
use Rattle.performed.proofs.EditsState.{Edited, IsActive, next_is, none_moved}
use Rattle.performed.proofs.EditsSteps.{decides_main, main_apart, moves_none, not_raw, now_begun, now_there}
use Rattle.performed.proofs.EditsWhole.{edited_of}
use Rattle.performed.proofs.WantedFamilies.{exchanged_family}

-- ---- books that are found to be the same are

row_is : (a b : BookRow) → same_row a b ≡ true → a ≡ b
row_is Free Free h = refl
row_is Unreadable Unreadable h = refl
row_is (Entry a) (Entry b) h =
    let p = and_parts (same_bytes a.name b.name) (same_bytes a.number b.number) h in
    ap (λ (n : List ℕ). Entry (record { name = n; number = a.number })) (same_bytes_is a.name b.name p.0)
    ∙ ap (λ (n : List ℕ). Entry (record { name = b.name; number = n })) (same_bytes_is a.number b.number p.1)
row_is a b h = never h

book_is : (a b : List BookRow) → same_book a b ≡ true → a ≡ b
book_is [] [] h = refl
book_is [] (y ∷ b) h = never h
book_is (x ∷ a) [] h = never h
book_is (x ∷ a) (y ∷ b) h =
    let p = and_parts (same_row x y) (same_book a b) h in
    ap (λ (r : BookRow). r ∷ a) (row_is x y p.0) ∙ ap (λ (l : List BookRow). y ∷ l) (book_is a b p.1)

-- what is shown of a book
abbrev book_text : List BookRow → List ℕ
book_text book = compact_text (object (members ((codes "entries", entries_data book) ∷ [])))

book_shown : (f : ℕ) (v : View) → is_book f ≡ true → shown f v ≡ book_text (family_book f v)
book_shown f v h = by_book (1 == f) (2 == f) refl refl h
  where
    by_book : (b c : Bool) → (1 == f) ≡ b → (2 == f) ≡ c → (b || (c || false)) ≡ true → shown f v ≡ book_text (family_book f v)
    by_book true c x y z = subst (λ (n : ℕ). shown n v ≡ book_text (family_book n v)) (eqb-true 1 f x) refl
    by_book false true x y z = subst (λ (n : ℕ). shown n v ≡ book_text (family_book n v)) (eqb-true 2 f y) refl
    by_book false false x y z = never z

card_shown : (w : World) (card : CardState) (f : ℕ) → card_inside w ≡ Some card → is_book f ≡ true → shown_in w f ≡ Some (book_text (book_in w f))
card_shown w card f inside book =
    ap (λ (o : Option CardState). shown_on o f) inside
    ∙ ap (λ (text : List ℕ). Some text) (book_shown f (content_on (Some card)) book)
    ∙ sym (ap (λ (o : Option CardState). Some (book_text (family_book f (content_on o)))) inside)

-- ---- the paths of a family are apart from the files of another's book

books_only : (n : ℕ) → is_book (suc (suc (suc n))) ≡ false
books_only n = grind arith

families_only : (n : ℕ) → is_one_of (suc (suc (suc n))) all_families ≡ false
families_only n = grind arith

abbrev Apart : ℕ → List ℕ → Type 0
Apart f path = list_any (λ (p : List ℕ). same_bytes p path) (family_paths f) ≡ false

paths_apart : (f g i : ℕ) → is_one_of f all_families ≡ true → is_book g ≡ true → (g == f) ≡ false → (i ≡ 0) ⊎ (i ≡ 1) → Apart f (family_path g i)
paths_apart f zero i one book other e = never book
paths_apart f (suc (suc (suc g))) i one book other e = never (sym (books_only g) ∙ book)
paths_apart zero (suc zero) i one book other (inl e) = rw e refl
paths_apart zero (suc zero) i one book other (inr e) = rw e refl
paths_apart zero (suc (suc zero)) i one book other (inl e) = rw e refl
paths_apart zero (suc (suc zero)) i one book other (inr e) = rw e refl
paths_apart (suc zero) (suc zero) i one book other e = never (sym other)
paths_apart (suc zero) (suc (suc zero)) i one book other (inl e) = rw e refl
paths_apart (suc zero) (suc (suc zero)) i one book other (inr e) = rw e refl
paths_apart (suc (suc zero)) (suc zero) i one book other (inl e) = rw e refl
paths_apart (suc (suc zero)) (suc zero) i one book other (inr e) = rw e refl
paths_apart (suc (suc zero)) (suc (suc zero)) i one book other e = never (sym other)
paths_apart (suc (suc (suc f))) g i one book other e = never (sym (families_only f) ∙ one)

-- what is written of the selected file spoils it alone
overwrites_none : (w : Written) (selected : Option (List ℕ)) (path : List ℕ) → is_unknown_write w ≡ false → is_at selected path ≡ false → is_overwritten selected path w ≡ false
overwrites_none written.Nothing selected path known other = refl
overwrites_none written.Raw selected path known other = refl
overwrites_none written.Row selected path known other = other
overwrites_none written.Unknown selected path known other = never (sym known)

spoils_none : (t : Touch) (file : List ℕ) (selected : Option (List ℕ)) → selected ≡ Some file → ((path : List ℕ) → is_moved t path ≡ false) → is_unknown_write t.written ≡ false → (paths : List (List ℕ)) → list_any (λ (p : List ℕ). same_bytes p file) paths ≡ false → list_any (is_spoiled t selected) paths ≡ false
spoils_none t file selected at moves known [] h = refl
spoils_none t file selected at moves known (path ∷ paths) h =
    let p = neither (same_bytes path file) (list_any (λ (q : List ℕ). same_bytes q file) paths) h in
    ap (λ (b : Bool). (b || is_overwritten selected path t.written) || list_any (is_spoiled t selected) paths) (moves path)
    ∙ ap (λ (b : Bool). b || list_any (is_spoiled t selected) paths) (overwrites_none t.written selected path known (ap (λ (o : Option (List ℕ)). is_at o path) at ∙ p.0))
    ∙ spoils_none t file selected at moves known paths p.1
  where
    neither : (a b : Bool) → (a || b) ≡ false → (a ≡ false) × (b ≡ false)
    neither false b e = (refl, e)
    neither true b e = absurd (true≢false e)

-- ---- an UPDATE of an edit that was done

module _ (agrees : KeptAgrees) (looks : KeptLooksBack) (plans : PlansForCard) (s : Script) (rules : keeps_rules s ≡ true) (served : has_utf8_names s ≡ true) (earlier : List Line) (followed : are_followed s earlier ≡ true) (told : are_told s earlier ≡ true) where
  abbrev k : Kept
  k = kept_of s earlier

  abbrev w : World
  w = world_of s earlier

  abbrev pub edited_here : Edited s w k
  edited_here = edited_of agrees plans s earlier rules served followed told

  module _ (a : ℕ) (c : CommandValue) (r : ResponseValue) (h : is_followed s k (line.Exchange a c r) ≡ true) (right : has_right_response w (line.Exchange a c r) ≡ true) (x : Wrote agrees s rules served earlier followed told edited_here a c r h right) (done : is_update c r ≡ true) where
    abbrev l : Line
    l = line.Exchange a c r

    abbrev v : World
    v = (step w c).0

    abbrev new : Kept
    new = kept_after s l k

    abbrev o : IsActive s w k
    o = own agrees s rules served earlier followed told edited_here a c r h right x.work

    abbrev card : Answered w c r
    card = own_card agrees s rules served earlier followed told edited_here a c r h right x.work

    -- its family
    abbrev pub whose : ℕ
    whose = o.family

    abbrev path : List ℕ
    path = family_path o.family o.write.update.file

    book : is_book whose ≡ true
    book = own_book agrees s rules served earlier followed told edited_here a c r h right x.work

    who : o.who ≡ a
    who = own_actor agrees s rules served earlier followed told edited_here a c r h right x.work

    file : (o.write.update.file ≡ 0) ⊎ (o.write.update.file ≡ 1)
    file = own_file agrees s rules served earlier followed told edited_here a c r h right x.work

    moves_nothing : (p : List ℕ) → is_moved (facts_of s l k).touch p ≡ false
    moves_nothing p = subst (λ (n : ℕ). is_moved (facts_of s (line.Exchange n c r) k).touch p ≡ false) who (moves_none s w k x.work o book c r card p)

    known : is_unknown_write (facts_of s l k).touch.written ≡ false
    known = writes_known agrees s rules served earlier followed told edited_here a c r h right

    pub unmoved : (f : ℕ) → moves_one (facts_of s l k).touch (family_paths f) ≡ false
    unmoved f = none_moved (facts_of s l k).touch moves_nothing (family_paths f)

    pub written_known : is_unknown_write (facts_of s l k).touch.written ≡ false
    written_known = known

    -- of another family it spoils nothing
    pub other_unspoiled : (f : ℕ) → is_one_of f all_families ≡ true → (whose == f) ≡ false → list_any (is_spoiled (facts_of s l k).touch k.selected) (family_paths f) ≡ false
    other_unspoiled f one other = spoils_none (facts_of s l k).touch path k.selected x.selected moves_nothing known (family_paths f) (paths_apart f whose o.write.update.file one book other file)

    -- ---- of its own

    outside : is_outside_raw s k c ≡ true
    outside =
        and_from (is_update_ins c.ins) (not (has_value is_raw (turn_operation s k))) (ap (λ (d : CommandValue). is_update_ins d.ins) x.is)
        (ap not (ap (has_value is_raw) (turn_is s k a c r h) ∙ subst (λ (n : ℕ). is_raw_line s (line.Exchange n c r) k.jobs ≡ false) who (not_raw s w k x.work o book c r card)))

    book_now : has_right_edit s w k l ≡ true → is_book_right w k (record { actor = o.who; family = o.family; edit = o.edit; begun = o.begun }) c r ≡ true
    book_now e =
        let here : EditTurn = record { actor = o.who; family = o.family; edit = o.edit; begun = o.begun } in
        let update : is_update_right s w k c r ≡ true = sym (ap (λ (b : Bool). elim b [ true ↦ is_update_right s w k c r | false ↦ true ]) outside) ∙ e in
        let there : is_sent_right w k here c (continued c k.chain) && is_book_right w k here c r ≡ true =
        sym (ap (λ (t : Option EditTurn). elim t as (λ y. Bool) [ None ↦ false | Some z ↦ is_sent_right w k z c (continued c k.chain) && is_book_right w k z c r ]) (turn_edits s w k x.work o book)) ∙ update in
        (and_parts (is_sent_right w k here c (continued c k.chain)) (is_book_right w k here c r) there).1

    beside : o.write.update.file ≡ 1 → is_at k.selected (family_path whose 0) ≡ false
    beside e = ap (λ (t : Option (List ℕ)). is_at t (family_path whose 0)) x.selected ∙ ap (λ (n : ℕ). same_bytes (family_path whose 0) (family_path whose n)) e ∙ main_apart whose book

    -- one of the extension file leaves what is shown
    pub kept_shown : has_right_edit s w k l ≡ true → o.write.update.file ≡ 1 → shown_in v whose ≡ shown_in w whose
    kept_shown e ext =
        let same : book_in v whose ≡ book_in w whose =
        book_is (book_in v whose) (book_in w whose)
        (sym (ap (λ (b : Bool). elim (b && is_success r.sw) [ true ↦ is_book_edited w v (record { actor = o.who; family = o.family; edit = o.edit; begun = o.begun }) | false ↦ is_book_kept w v whose ]) (beside ext)) ∙ book_now e) in
        card_shown v (on_card w.changes card.card c).0 whose card.behind book
        ∙ ap (λ (b : List BookRow). Some (book_text b)) same
        ∙ sym (card_shown w card.card whose card.inside book)

    -- behind one of the main file the publication of the family is awaited
    pub decided_awaits : o.write.update.file ≡ 0 → IsAwaited s new whose
    decided_awaits main = subst (λ (n : ℕ). IsAwaited s (kept_after s (line.Exchange n c r) k) whose) who (record {
      who = o.who;
      decided = record {
        begun = now_begun s w k x.work o book c r card;
        here = now_there s w k x.work o book c r card;
        edit = o.edit;
        op = o.op;
        decided = decides_main s w k x.work o book c r card x.is x.selected x.chain (current agrees s rules served earlier followed told edited_here a c r h right card path x.selected) done main;
        lives = o.write.lives;
      };
      current = subst (λ (n : ℕ). all_current (kept_after s (line.Exchange n c r) k).files (family_paths whose) ≡ true) (sym who)
          (paths_stay looks s earlier l (family_paths whose) refl (unmoved whose) known
          (front_current k.files (family_paths whose) o.write.rest
          (ap (all_current k.files) (sym o.write.paths) ∙ attempts_current agrees looks plans s earlier rules served followed told o.who o.begun o.attempt o.here o.there o.write.still o.write.lives)));
      quiet = λ actor some. absurd (publishes_none some);
    })
      where
        publishes_none : is_some (kept_after s (line.Exchange o.who c r) k).turn.family ≡ true → ⊥
        publishes_none some =
            let m : Line = line.Exchange o.who c r in
            let family : is_some k.turn.family ≡ true = ap is_some (sym (exchanged_family (operation_now s o.who k.jobs) (job_of o.who (kept_after s m k).jobs) (held_numbers k.history k.handles) (facts_of s m k) (refused_of k.selected (jobs_beside m k.history.epoch (facts_of s m k) k.selected k.jobs) (facts_of s m k).answered) k.turn (facts_of s m k).answered refl)) ∙ some in
            over_sent o.begun.editing o.attempt o.write.update (turn_over agrees plans s earlier rules served followed told o.who o.begun o.family o.edit o.actor family o.here o.op o.write.lives) o.there o.write.still
            (next_is w k o.who o.family o.edit o.begun.epoch o.begun.editing.decided o.attempt o.write)
