-- What the card in the slot shows of a family stays behind a command that spoils no path of it.
use Rattle.std.proofs.Common.{◌≡◌, ℕ, zero, suc, Bool, true, false, Option, Some, None, List, [], ◌∷◌, refl, ap, sym, ◌∙◌, subst, arith, true≢false}
use Rattle.std.specs.Prelude.{option_map, unwrap_or}
use Rattle.std.specs.List.{list_any}
use Rattle.std.proofs.lemmas.Bool.{or_parts}
use Rattle.apdu.specs.Values.{CommandValue, ResponseValue}
use Rattle.apdu.specs.Words.{is_one_of}
use Rattle.fcp.specs.Content.{missing}
use Rattle.card_model.specs.declared.world.FileState.{FileState}
use Rattle.card_model.specs.declared.world.Change.{Change}
use Rattle.card_model.specs.declared.world.CardState.{CardState}
use Rattle.card_model.specs.declared.world.World.{World}
use Rattle.card_model.specs.Card.{file_at, file_of, rows_of}
use Rattle.card_model.specs.Step.{on_card, card_inside, step}
use Rattle.card_effects.specs.Effect.{Effect}
use Rattle.card_effects.proofs.Basic.{effect_aids}
use Rattle.card_effects.proofs.Effects.{effect}
use Rattle.script_reader.specs.declared.types.Script.{Script}
use Rattle.script_reader.specs.Rules.{keeps_rules}
use Rattle.report.specs.declared.line.Line.{Line}
use Rattle.report.specs.declared.line.Line.TheVariants as line
use Rattle.families.specs.Families.{View, all_families, family_paths, adn_path, ext1_path, fdn_path, ext2_path, shown}
use Rattle.epoch_cache.specs.declared.cached.Touch.{Touch}
use Rattle.epoch_cache.specs.Cache.{touch_exchanged, is_spoiled}
use Rattle.rules.specs.declared.kept.Kept.{Kept}
use Rattle.rules.specs.After.{facts_of, is_raw_line, kept_of}
use Rattle.rules.specs.Agreement.{are_responses_right, IsSelected}
use Rattle.rules.specs.Rules.{has_right_response}
use Rattle.rules.specs.State.{content_on, shown_in, shown_on, view_in, world_of}
use Rattle.rules.proofs.Sane.{FineChanges}
use Rattle.rules.proofs.Scripts.{worlds_sane}
use Rattle.rules.proofs.Wellformed.{sane_script}
use Rattle.rules.proofs.Readings.{file_of_same}
use Rattle.rules.proofs.Spared.{spared}
use Rattle.rules.proofs.Publishing.{book_same, records_same}
use Rattle.rules.proofs.Selected.{AnswersRight, answers_right}
use Rattle.rules.proofs.Agree.{kept_agrees}

-- ---- what is shown is of the family's paths alone

AllSame : View → View → List (List ℕ) → Type 0
AllSame v w [] = Unit {0}
AllSame v w (path ∷ paths) = (v path ≡ w path) × AllSame v w paths

unlisted : (n : ℕ) → is_one_of (suc (suc (suc n))) all_families ≡ false
unlisted n = grind arith

same_shown_of : (v w : View) (f : ℕ) → is_one_of f all_families ≡ true → AllSame v w (family_paths f) → shown f v ≡ shown f w
unfolding AllSame
same_shown_of v w zero one t = records_same v w t.1.1.0 t.1.1.1.1.1.1.0 t.0 t.1.0 t.1.1.1.1.0 t.1.1.1.1.1.0 t.1.1.1.0
same_shown_of v w (suc zero) one t = book_same (v adn_path) (v ext1_path) (w adn_path) (w ext1_path) t.0 t.1.0
same_shown_of v w (suc (suc zero)) one t = book_same (v fdn_path) (v ext2_path) (w fdn_path) (w ext2_path) t.0 t.1.0
same_shown_of v w (suc (suc (suc n))) one t = absurd (true≢false (sym one ∙ unlisted n))

-- ---- on a card

module _ (changes : List Change) (card : CardState) (c : CommandValue) (p : CardState × ResponseValue) (e : Effect changes card c p) (fines : FineChanges changes) (selected : Option (List ℕ)) (here : IsSelected card selected) (raw : Bool) where
  rows_same : (path : List ℕ) → file_at path p.0 ≡ file_at path card → rows_of path p.0 ≡ rows_of path card
  rows_same path h = ap (λ (o : Option FileState). unwrap_or (option_map (λ (x : FileState). x.rows) o) missing) (file_of_same card p.0 path (effect_aids changes card c p e) h)

  paths_same : (paths : List (List ℕ)) → list_any (is_spoiled (touch_exchanged raw selected c p.1) selected) paths ≡ false → AllSame (content_on (Some p.0)) (content_on (Some card)) paths
  unfolding AllSame
  paths_same [] h = tt
  paths_same (path ∷ paths) h =
      let q = or_parts (is_spoiled (touch_exchanged raw selected c p.1) selected path) (list_any (is_spoiled (touch_exchanged raw selected c p.1) selected) paths) h in
      (rows_same path (spared changes card c p e fines selected here raw path q.0), paths_same paths q.1)

  family_same : (f : ℕ) → is_one_of f all_families ≡ true → list_any (is_spoiled (touch_exchanged raw selected c p.1) selected) (family_paths f) ≡ false → shown f (content_on (Some p.0)) ≡ shown f (content_on (Some card))
  family_same f one h = same_shown_of (content_on (Some p.0)) (content_on (Some card)) f one (paths_same (family_paths f) h)

-- ---- of the card in the slot

module _ (s : Script) (lines : List Line) (a : ℕ) (c : CommandValue) (r : ResponseValue) (rules : keeps_rules s ≡ true) (right : are_responses_right s lines ≡ true) (now : has_right_response (world_of s lines) (line.Exchange a c r) ≡ true) where
  abbrev w : World
  w = world_of s lines

  abbrev k : Kept
  k = kept_of s lines

  abbrev touch : Touch
  touch = (facts_of s (line.Exchange a c r) k).touch

  -- what the card holds under a path that the command does not spoil
  pub file_stays : (path : List ℕ) → is_spoiled touch k.selected path ≡ false → (old new : CardState) → card_inside w ≡ Some old → card_inside (step w c).0 ≡ Some new → file_of path new ≡ file_of path old
  file_stays path h old new before behind =
      let t : AnswersRight w c r = answers_right w a c r now in
      let p : CardState × ResponseValue = on_card w.changes t.card c in
      let raw : Bool = is_raw_line s (line.Exchange a c r) k.jobs in
      let unspoiled : is_spoiled (touch_exchanged raw k.selected c p.1) k.selected path ≡ false = subst (λ (x : ResponseValue). is_spoiled (touch_exchanged raw k.selected c x) k.selected path ≡ false) t.response h in
      let e : Effect w.changes t.card c p = effect w.changes t.card c in
      let same : file_at path p.0 ≡ file_at path t.card = spared w.changes t.card c p e (worlds_sane s lines (sane_script s rules)).changes k.selected (kept_agrees s lines rules right t.card t.inside).selected raw path unspoiled in
      ap (file_of path) (the_card new p.0 (sym behind ∙ t.behind)) ∙ file_of_same t.card p.0 path (effect_aids w.changes t.card c p e) same ∙ ap (file_of path) (the_card t.card old (sym t.inside ∙ before))
    where
      the_card : (x y : CardState) → Some x ≡ Some y → x ≡ y
      the_card x y q = cc

  -- and so what is read of it
  pub view_stays : (path : List ℕ) → is_spoiled touch k.selected path ≡ false → view_in (step w c).0 path ≡ view_in w path
  view_stays path h =
      let t : AnswersRight w c r = answers_right w a c r now in
      let new : CardState = (on_card w.changes t.card c).0 in
      ap (λ (o : Option CardState). content_on o path) t.behind
      ∙ ap (λ (o : Option FileState). unwrap_or (option_map (λ (x : FileState). x.rows) o) missing) (file_stays path h t.card new t.inside t.behind)
      ∙ sym (ap (λ (o : Option CardState). content_on o path) t.inside)

  pub stays_shown : (f : ℕ) → is_one_of f all_families ≡ true → list_any (is_spoiled touch k.selected) (family_paths f) ≡ false → shown_in (step w c).0 f ≡ shown_in w f
  stays_shown f one h =
      let t : AnswersRight w c r = answers_right w a c r now in
      let p : CardState × ResponseValue = on_card w.changes t.card c in
      let raw : Bool = is_raw_line s (line.Exchange a c r) k.jobs in
      let unspoiled : list_any (is_spoiled (touch_exchanged raw k.selected c p.1) k.selected) (family_paths f) ≡ false = subst (λ (x : ResponseValue). list_any (is_spoiled (touch_exchanged raw k.selected c x) k.selected) (family_paths f) ≡ false) t.response h in
      let same : shown f (content_on (Some p.0)) ≡ shown f (content_on (Some t.card)) = family_same w.changes t.card c p (effect w.changes t.card c) (worlds_sane s lines (sane_script s rules)).changes k.selected (kept_agrees s lines rules right t.card t.inside).selected raw f one unspoiled in
      ap (λ (o : Option CardState). shown_on o f) t.behind ∙ ap (λ (text : List ℕ). Some text) same ∙ sym (ap (λ (o : Option CardState). shown_on o f) t.inside)
