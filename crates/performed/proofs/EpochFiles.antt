-- What the lines of an epoch leave of a book's two files: behind a command that is no UPDATE that was done, also behind a FETCH that hands over
-- a change, they stay where the line moves neither; and behind an armed change they stay.
use Rattle.std.proofs.Common.{◌≡◌, ℕ, zero, suc, ◌&&◌, ◌||◌, not, Bool, true, false, if◌then◌else◌, Option, Some, None, is_some, List, ◌∷◌, ◌++◌, refl, sym, ap, ◌∙◌, arith, true≢false}
use Rattle.std.proofs.lemmas.Bool.{or_parts}
use Rattle.apdu.specs.Values.{CommandValue, ResponseValue}
use Rattle.fcp.specs.Content.{Content}
use Rattle.card_model.specs.declared.world.CardState.{CardState}
use Rattle.card_model.specs.declared.world.FileState.{FileState}
use Rattle.card_model.specs.declared.world.World.{World}
use Rattle.card_model.specs.declared.world.WorldEvent.TheVariants.{Arm}
use Rattle.card_model.specs.Step.{step, card_inside, after_event, armed_card}
use Rattle.script_reader.specs.declared.types.Script.{Script}
use Rattle.script_reader.specs.Rules.{keeps_rules}
use Rattle.report.specs.declared.line.Line.{Line}
use Rattle.report.specs.declared.line.Line.TheVariants as line
use Rattle.families.specs.Families.{family_path, family_paths, adn_path, ext1_path, fdn_path, ext2_path}
use Rattle.epoch_cache.specs.declared.cached.Touch.{Touch}
use Rattle.epoch_cache.specs.declared.cached.Written.TheVariants as written
use Rattle.epoch_cache.specs.Cache.{is_moved, is_overwritten, is_row_update, is_spoiled, is_update, moves_one, written_by}
use Rattle.rules.specs.declared.kept.Kept.{Kept}
use Rattle.rules.specs.After.{facts_of, is_raw_line, kept_of}
use Rattle.rules.specs.Agreement.{are_responses_right}
use Rattle.rules.specs.Rules.{has_right_response}
use Rattle.rules.specs.State.{content_on, view_in, world_of}
use Rattle.rules.proofs.Stays.{view_stays}
use Rattle.performed.proofs.EditsSends.{is_book}
use Rattle.performed.proofs.EditsState.{files_in}
use Rattle.performed.proofs.EpochWorld.{arms, arms_none}

two_same : (w v : World) (f : ℕ) → view_in v (family_path f 0) ≡ view_in w (family_path f 0) → view_in v (family_path f 1) ≡ view_in w (family_path f 1) → files_in v f ≡ files_in w f
two_same w v f a b = ap (λ (x : Content). record { main = x; ext = view_in v (family_path f 1) }) a ∙ ap (λ (x : Content). record { main = view_in w (family_path f 0); ext = x }) b

-- ---- a command that is no UPDATE that was done

nothing_done : (raw : Bool) (selected : Option (List ℕ)) (c : CommandValue) (r : ResponseValue) → is_update c r ≡ false → written_by raw selected c r ≡ written.Nothing
nothing_done raw selected c r h = ap (λ (b : Bool). if not b then written.Nothing else if raw then written.Raw else if is_row_update c && is_some selected then written.Row else written.Unknown) h

unspoiled_by : (t : Touch) (selected : Option (List ℕ)) (path : List ℕ) → t.written ≡ written.Nothing → is_moved t path ≡ false → is_spoiled t selected path ≡ false
unspoiled_by t selected path none m = ap (λ (b : Bool). b || is_overwritten selected path t.written) m ∙ ap (is_overwritten selected path) none

no_book : (n : ℕ) → is_book (suc (suc (suc n))) ≡ false
no_book n = grind arith

module _ (s : Script) (lines : List Line) (a : ℕ) (c : CommandValue) (r : ResponseValue) (rules : keeps_rules s ≡ true) (right : are_responses_right s lines ≡ true) (now : has_right_response (world_of s lines) (line.Exchange a c r) ≡ true) (undone : is_update c r ≡ false) where
  abbrev w : World
  w = world_of s lines

  abbrev k : Kept
  k = kept_of s lines

  abbrev touch : Touch
  touch = (facts_of s (line.Exchange a c r) k).touch

  view_left : (path : List ℕ) → is_moved touch path ≡ false → view_in (step w c).0 path ≡ view_in w path
  view_left path h = view_stays s lines a c r rules right now path (unspoiled_by touch k.selected path (nothing_done (is_raw_line s (line.Exchange a c r) k.jobs) k.selected c r undone) h)

  pub files_left : (f : ℕ) → is_book f ≡ true → (rest : List (List ℕ)) → moves_one touch (family_paths f ++ rest) ≡ false → files_in (step w c).0 f ≡ files_in w f
  files_left zero book rest h = absurd (true≢false (sym book))
  files_left (suc zero) book rest h =
      let p = or_parts (is_moved touch adn_path) (moves_one touch (ext1_path ∷ rest)) h in
      let q = or_parts (is_moved touch ext1_path) (moves_one touch rest) p.1 in
      two_same w (step w c).0 1 (view_left adn_path p.0) (view_left ext1_path q.0)
  files_left (suc (suc zero)) book rest h =
      let p = or_parts (is_moved touch fdn_path) (moves_one touch (ext2_path ∷ rest)) h in
      let q = or_parts (is_moved touch ext2_path) (moves_one touch rest) p.1 in
      two_same w (step w c).0 2 (view_left fdn_path p.0) (view_left ext2_path q.0)
  files_left (suc (suc (suc n))) book rest h = absurd (true≢false (sym book ∙ no_book n))

-- ---- an armed change

-- what the card with these files and applications holds under a path
abbrev held_with : CardState → List FileState → List (List ℕ) → List ℕ → Content
held_with card files aids path = content_on (Some (record card { files = files; aids = aids })) path

held_same : (old new : CardState) (path : List ℕ) → new.files ≡ old.files → new.aids ≡ old.aids → content_on (Some new) path ≡ content_on (Some old) path
held_same old new path files aids = ap (λ (x : List FileState). held_with new x new.aids path) files ∙ ap (λ (x : List (List ℕ)). held_with new old.files x path) aids

arm_view : (w : World) (i : ℕ) (path : List ℕ) → view_in (after_event w (Arm i)) path ≡ view_in w path
arm_view w i path = by_card (card_inside w) refl
  where
    by_card : (o : Option CardState) → card_inside w ≡ o → view_in (after_event w (Arm i)) path ≡ view_in w path
    by_card None e = ap (λ (o : Option CardState). content_on o path) (arms_none w i e) ∙ sym (ap (λ (o : Option CardState). content_on o path) e)
    by_card (Some card) e =
        ap (λ (o : Option CardState). content_on o path) (arms w i card e)
        ∙ held_same card (armed_card i card) path refl refl
        ∙ sym (ap (λ (o : Option CardState). content_on o path) e)

pub files_armed : (w : World) (i f : ℕ) → files_in (after_event w (Arm i)) f ≡ files_in w f
files_armed w i f = two_same w (after_event w (Arm i)) f (arm_view w i (family_path f 0)) (arm_view w i (family_path f 1))
