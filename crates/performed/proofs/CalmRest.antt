-- Over a script, while an epoch lives and no reset is due, the board shows of each family what the card shows, or the family is
-- stale, or a reading of it was refused that began behind the last change, or the publication of an edit is awaited: an application's UPDATE
-- makes each wanted family stale, and a FETCH those whose files its change touches, or the card is reset; and an edit's own UPDATE that decides
-- is published before it is answered. Without a living epoch the board shows nothing, once its end is told.
use Rattle.std.proofs.Common.{◌≡◌, ◌⊎◌, inl, inr, ◌≤◌, ◌<◌, ℕ, zero, suc, ◌+◌, ◌-◌, ◌==◌, ◌&&◌, ◌||◌, Bool, true, false, if◌then◌else◌, Option, Some, None, List, [], ◌∷◌, map, refl, ap, sym, ◌∙◌, subst, arith, true≢false}
use Rattle.std.specs.Prelude.{slice_get, unwrap_or, option_map, find, is_some, not, nat_le, nat_lt, max}
use Rattle.std.specs.List.{list_all, list_any}
use Rattle.std.proofs.lemmas.Bool.{and_parts, and_from, eqb-true, ltb-true, ltb-false, not-true, or_cases, or_parts}
use Rattle.apdu.specs.Values.{CommandValue, ResponseValue}
use Rattle.apdu.specs.Words.{has_value, is_one_of, same_bytes}
use Rattle.apdu.specs.Apdu.{fetch_ins, is_success}
use Rattle.refresh_cmd.specs.Values.{ProactiveValue}
use Rattle.refresh_cmd.specs.Proactive.{read_proactive}
use Rattle.card_model.specs.declared.world.World.{World}
use Rattle.card_model.specs.declared.world.WorldEvent.{WorldEvent}
use Rattle.card_model.specs.declared.world.WorldEvent.TheVariants.{Arm, Out, Insert}
use Rattle.card_effects.proofs.Same.{same_bytes_is}
use Rattle.script_reader.specs.declared.types.Script.{Script}
use Rattle.script_reader.specs.Rules.{keeps_rules}
use Rattle.report.specs.declared.answer.Answer.{Answer}
use Rattle.report.specs.declared.line.Line.{Line}
use Rattle.report.specs.declared.line.Line.TheVariants as line
use Rattle.families.specs.Families.{all_families, family_paths, iccid_path, imsi_path, ad_path, spn_path, msisdn_path, ext5_path, dir_path, adn_path, ext1_path, fdn_path, ext2_path}
use Rattle.epoch_cache.specs.declared.cached.Touch.{Touch}
use Rattle.epoch_cache.specs.declared.cached.Written.TheVariants as written
use Rattle.epoch_cache.specs.declared.cached.Written.{Written}
use Rattle.epoch_cache.specs.Cache.{asks_reset, handed_refresh, is_moved, is_moved_by, is_overwritten, is_unknown_write, moves_one, is_refreshed, is_spoiled, is_update, is_row_update, is_raw_write, refresh_of, touch_exchanged, is_renewed, renews_one, written_by}
use Rattle.link.specs.Commands.{chain_first}
use Rattle.loader.specs.declared.reading.RefusedReading.{RefusedReading}
use Rattle.rules.specs.declared.due.Due.{Due}
use Rattle.rules.specs.declared.due.Due.TheVariants.{TryEvent as try_event, Publish as publish, Give as give}
use Rattle.rules.specs.declared.kept.Kept.{Kept}
use Rattle.rules.specs.declared.kept.Stage.{Stage}
use Rattle.rules.specs.declared.kept.Stage.TheVariants.{Fresh as fresh_stage, Next as next, Resetting as resetting, Over as over}
use Rattle.rules.specs.declared.kept.Work.{Work}
use Rattle.rules.specs.declared.standing.Standing.{Standing}
use Rattle.rules.specs.LookingBack.{is_wanted}
use Rattle.rules.specs.Standing.{first_standing, settled_by, unless_settled, latest, shown_behind, standing_by, standing_after, refused_in, is_stale, first_stale}
use Rattle.rules.specs.After.{is_raw_line, facts_of, refused_of, jobs_beside, family_begun, kept_after, kept_of}
use Rattle.rules.specs.Kept.{actor_count, begun_of}
use Rattle.rules.specs.Due.{due, is_reset_due, kept_text, reset_by_stage}
use Rattle.rules.specs.Performed.{ends_turn, is_published}
use Rattle.rules.specs.Work.{has_begun, has_work, has_work_alive, is_finished, is_quiet, is_starting}
use Rattle.rules.specs.Rules.{is_turn_of, is_begun_at, has_right_edit, has_right_response, is_refusal_known, is_shown_right, is_standing_right, is_rest_right}
use Rattle.rules.specs.State.{shown_in, same_shown, text_of, texts_of, world_after, world_of, state_of}
use Rattle.book_plans.specs.Law.{PlansMakeEdits}
use Rattle.rules.specs.Laws.{KeptAgrees, KeptLooksBack, PlansForCard, ShowsCard}
use Rattle.rules.specs.Legal.{changed_in}
use Rattle.rules.specs.Agreement.{are_responses_right}
use Rattle.performed.specs.Names.{has_utf8_names}
use Rattle.performed.specs.Followed.{is_given_or_refused, is_tried, is_followed, are_followed}
use Rattle.performed.specs.Told.{is_told, are_told}
use Rattle.performed.proofs.CalmLent.{state_world, state_kept, state_texts}
use Rattle.performed.proofs.CalmEdits.{edits_right}
use Rattle.performed.proofs.CalmAnswers.{told_response, responses_right}
use Rattle.performed.proofs.CalmCards.{dead}
use Rattle.performed.proofs.CalmKnown.{goes_to_reset}
use Rattle.performed.proofs.EditsAwaited.{IsAwaited, answer_awaited, arm_awaited, begin_awaited, exchange_awaited, mark_awaited, publication_awaited, refusal_awaited}
use Rattle.performed.proofs.EditsKept.{How, Wrote, still, by_raw, by_edit, how, own, own_file}
use Rattle.performed.proofs.EditsShown.{decided_awaits, edited_here, kept_shown, other_unspoiled, unmoved, whose, written_known}
use Rattle.performed.proofs.EpochDecided.{none_decided}
use Rattle.performed.proofs.CalmTurn.{final_success}
use Rattle.performed.proofs.MeasureShape.{IsFirstOf, exchange_next, shape}
use Rattle.performed.proofs.TurnsSays.{IsDone, turn_done}
use Rattle.performed.proofs.EpochLives.{AllHidden, comes_last, hidden_of, lively, none_resets, sent_lives}
use Rattle.performed.proofs.EpochFetch.{fetch_resets, fetches_first}
use Rattle.performed.proofs.EpochWorld.{arm_shown}
use Rattle.rules.proofs.Stays.{stays_shown}
use Rattle.performed.proofs.TurnsKept.{quiet_touch}
use Rattle.performed.proofs.TurnsPhase.{publishes}
use Rattle.performed.proofs.WantedFamilies.{or_later, or_now, IsWanted, AreWanted, standings_wanted, turn_wants}
use Rattle.performed.proofs.LastChange.{changed_upto, changed_same}

-- ---- what the board shows

-- what the board is compared with: the world, the publications with their texts, and the last event that changed what the card shows
record Seen : Type 0 where
  world : World
  count : ℕ
  texts : List (List ℕ)
  changed : ℕ → ℕ
  -- an epoch lives, and no reset is due in its turn
  holds : Bool
  script : Script
  kept : Kept

-- a publication that the card still shows, one of a family that is stale since its last renewal, one of a family of which a later reading was
-- refused, or of which an edit's publication is awaited
data IsKnown (b : Seen) (st : Standing) (n : ℕ) : Type 0 where
  current : same_shown (shown_in b.world st.family) (Some (text_of b.count n b.texts)) ≡ true → IsKnown b st n
  stale : st.stale ≡ Some st.renewed → b.changed st.family ≤ st.renewed → IsKnown b st n
  refused : (r : ℕ) → st.refused ≡ Some r → st.renewed < r → b.changed st.family < r → IsKnown b st n
  awaited : IsAwaited b.script b.kept st.family → IsKnown b st n

record IsTrue (b : Seen) (st : Standing) (n : ℕ) : Type 0 where
  upto : n ≤ b.count
  wanted : st.wanted ≡ true
  known : b.holds ≡ true → IsKnown b st n

abbrev IsShown : Seen → Standing → Option ℕ → Type 0
IsShown b st None = Unit {0}
IsShown b st (Some n) = IsTrue b st n

record StandsTrue (b : Seen) (st : Standing) : Type 0 where
  known : is_one_of st.family all_families ≡ true
  shows : IsShown b st st.shown

abbrev AllTrue : Seen → List Standing → Type 0
AllTrue b [] = Unit {0}
AllTrue b (st ∷ rest) = StandsTrue b st × AllTrue b rest

module _ (s : Script) (lines : List Line) (b v : Seen) (change : Standing → Standing) (one : (st : Standing) → IsWanted s lines st → StandsTrue b st → StandsTrue v (change st)) where
  all_map : (standings : List Standing) → AreWanted s lines standings → AllTrue b standings → AllTrue v (map change standings)
  all_map [] a t = tt
  all_map (st ∷ rest) a t = (one st a.0 t.0, all_map rest a.1 t.1)

first_true : (b : Seen) (families : List ℕ) → list_all (λ f. is_one_of f all_families) families ≡ true → AllTrue b (map first_standing families)
first_true b [] h = tt
first_true b (f ∷ families) h = let p = and_parts (is_one_of f all_families) (list_all (λ g. is_one_of g all_families) families) h in (record { known = p.0; shows = tt }, first_true b families p.1)

-- ---- what stays known

known_by : (b v : Seen) (st : Standing) (n : ℕ) → shown_in v.world st.family ≡ shown_in b.world st.family → text_of v.count n v.texts ≡ text_of b.count n b.texts → v.changed st.family ≡ b.changed st.family → (IsAwaited b.script b.kept st.family → IsAwaited v.script v.kept st.family) → IsKnown b st n → IsKnown v st n
known_by b v st n shows text changed edits (current h) = current (ap (λ (o : Option (List ℕ)). same_shown o (Some (text_of v.count n v.texts))) shows ∙ ap (λ (x : List ℕ). same_shown (shown_in b.world st.family) (Some x)) text ∙ h)
known_by b v st n shows text changed edits (stale at h) = stale at (subst (λ (m : ℕ). m ≤ st.renewed) (sym changed) h)
known_by b v st n shows text changed edits (refused r at h g) = refused r at h (subst (λ (m : ℕ). m < r) (sym changed) g)
known_by b v st n shows text changed edits (awaited h) = awaited (edits h)

-- a refused reading that is known stays so
latest_least : (before : Option ℕ) (r : ℕ) → (m : ℕ) × ((latest (Some r) before ≡ Some m) × (r ≤ m))
latest_least None r = (r, (refl, omega arith))
latest_least (Some b) r = by_order (nat_lt r b) refl
  where
    by_order : (t : Bool) → nat_lt r b ≡ t → (m : ℕ) × (((if t then Some b else Some r) ≡ Some m) × (r ≤ m))
    by_order true e = (b, (refl, let h = ltb-true r b e in omega (arith, h)))
    by_order false e = (r, (refl, omega arith))

latest_kept : (now : Option ℕ) (r : ℕ) → (m : ℕ) × ((latest now (Some r) ≡ Some m) × (r ≤ m))
latest_kept None r = (r, (refl, omega arith))
latest_kept (Some a) r = by_order (nat_lt a r) refl
  where
    by_order : (t : Bool) → nat_lt a r ≡ t → (m : ℕ) × (((if t then Some r else Some a) ≡ Some m) × (r ≤ m))
    by_order true e = (r, (refl, omega arith))
    by_order false e = (a, (refl, let h = ltb-false a r e in omega (arith, h)))

less_than : (n r m : ℕ) → n < r → r ≤ m → n < m
less_than n r m h g = omega (arith, h, g)

under : (n m r : ℕ) → n ≤ m → m < r → n < r
under n m r h g = omega (arith, h, g)

-- what a line does to a standing, where it publishes nothing of its family
module _ (b : Seen) (l : Line) (event : ℕ) (now begun : Option ℕ) (st : Standing) (n : ℕ) where
  abbrev StaysKnown : Bool → Type 0
  StaysKnown renews = IsKnown b (standing_by l event renews now begun st) n

  -- stale since the event
  renewed_known : b.changed st.family ≤ event → StaysKnown true
  renewed_known past = stale refl past

  unsettled_known : settled_by st.family l now ≡ now → b.changed st.family ≤ st.renewed → st.stale ≡ Some st.renewed → (o : Option ℕ) → now ≡ o → StaysKnown false
  unsettled_known none past at None e = stale (ap (λ (x : Option ℕ). unless_settled x st.stale) (none ∙ e) ∙ ap (unless_settled None) at) past
  unsettled_known none past at (Some r) e = by_point (nat_lt st.renewed r) refl
    where
      is_settled : unless_settled (settled_by st.family l now) st.stale ≡ (if nat_lt st.renewed r then None else Some st.renewed)
      is_settled = ap (λ (x : Option ℕ). unless_settled x st.stale) (none ∙ e) ∙ ap (unless_settled (Some r)) at

      by_point : (t : Bool) → nat_lt st.renewed r ≡ t → StaysKnown false
      by_point true q =
          let m = latest_least st.refused r in
          let later : st.renewed < m.0 = less_than st.renewed r m.0 (ltb-true st.renewed r q) m.1.1 in
          refused m.0 (ap (λ (x : Option ℕ). latest x st.refused) e ∙ m.1.0) later (under (b.changed st.family) st.renewed m.0 past later)
      by_point false q = stale (is_settled ∙ ap (λ (t : Bool). if t then None else Some st.renewed) q) past

  goes_known : (renews : Bool) → settled_by st.family l now ≡ now → b.changed st.family ≤ event → IsKnown b st n → StaysKnown renews
  goes_known true none past k = renewed_known past
  goes_known false none past (current h) = current h
  goes_known false none past (awaited h) = awaited h
  goes_known false none past (stale at h) = unsettled_known none h at now refl
  goes_known false none past (refused r at h g) =
      let m = latest_kept now r in
      refused m.0 (ap (latest now) at ∙ m.1.0) (less_than st.renewed r m.0 h m.1.1) (less_than (b.changed st.family) r m.0 g m.1.1)

-- one publication more
text_later : (count n : ℕ) (text : List ℕ) (texts : List (List ℕ)) → n ≤ count → text_of (count + 1) n (text ∷ texts) ≡ text_of count n texts
text_later count n text texts h = ap (λ (i : ℕ). unwrap_or (slice_get (text ∷ texts) i) []) (shifted count n h)
  where
    shifted : (count n : ℕ) → n ≤ count → (count + 1) - n ≡ suc (count - n)
    shifted count n h = omega (arith, h)

text_new : (count : ℕ) (text : List ℕ) (texts : List (List ℕ)) → text_of (count + 1) (count + 1) (text ∷ texts) ≡ text
text_new count text texts = ap (λ (i : ℕ). unwrap_or (slice_get (text ∷ texts) i) []) (itself count)
  where
    itself : (count : ℕ) → (count + 1) - (count + 1) ≡ 0
    itself count = omega arith

to_more : (count : ℕ) → count ≤ count + 1
to_more count = omega arith

-- ---- a standing behind a line

module _ (b v : Seen) (l : Line) (event : ℕ) (now begun : Option ℕ) (st : Standing) (count : b.count ≤ v.count) where
  upto_later : (n : ℕ) → n ≤ b.count → n ≤ v.count
  upto_later n h = omega (arith, h, count)

  -- the card shows the same
  shown_still : (renews : Bool) → (v.holds ≡ true → b.holds ≡ true) → settled_by st.family l now ≡ now → shown_in v.world st.family ≡ shown_in b.world st.family → ((n : ℕ) → n ≤ b.count → text_of v.count n v.texts ≡ text_of b.count n b.texts) → v.changed st.family ≡ b.changed st.family → b.changed st.family ≤ event → (v.holds ≡ true → IsAwaited b.script b.kept st.family → IsAwaited v.script v.kept st.family) → (o : Option ℕ) → IsShown b st o → IsShown v (standing_by l event renews now begun st) o
  shown_still renews held none shows text changed past edits None t = tt
  shown_still renews held none shows text changed past edits (Some n) t = record {
    upto = upto_later n t.upto;
    wanted = or_now st.wanted (has_value (λ f. f == st.family) begun) t.wanted;
    known = λ h. goes_known v l event now begun st n renews none (subst (λ (m : ℕ). m ≤ event) (sym changed) past) (known_by b v st n shows (text n t.upto) changed (edits h) (t.known (held h)));
  }

  -- the family is renewed, where it is wanted
  shown_renewed : (renews : Bool) → (st.wanted ≡ true → renews ≡ true) → v.changed st.family ≤ event → (o : Option ℕ) → IsShown b st o → IsShown v (standing_by l event renews now begun st) o
  shown_renewed renews all past None t = tt
  shown_renewed renews all past (Some n) t = record {
    upto = upto_later n t.upto;
    wanted = or_now st.wanted (has_value (λ f. f == st.family) begun) t.wanted;
    known = λ h. subst (λ (x : Bool). IsKnown v (standing_by l event x now begun st) n) (sym (all t.wanted)) (renewed_known v l event now begun st n past);
  }

  -- no epoch lives behind the line, or a reset is due
  shown_past : (renews : Bool) → v.holds ≡ false → (o : Option ℕ) → IsShown b st o → IsShown v (standing_by l event renews now begun st) o
  shown_past renews past None t = tt
  shown_past renews past (Some n) t = record {
    upto = upto_later n t.upto;
    wanted = or_now st.wanted (has_value (λ f. f == st.family) begun) t.wanted;
    known = λ h. absurd (true≢false (sym h ∙ past));
  }

-- a line that renews every path makes each family stale
some_renewed : (t : Touch) (f : ℕ) → ((path : List ℕ) → is_renewed t path ≡ true) → is_one_of f all_families ≡ true → renews_one t (family_paths f) ≡ true
some_renewed t zero all h = or_now (is_renewed t iccid_path) (renews_one t (imsi_path ∷ ad_path ∷ spn_path ∷ msisdn_path ∷ ext5_path ∷ dir_path ∷ [])) (all iccid_path)
some_renewed t (suc zero) all h = or_now (is_renewed t adn_path) (renews_one t (ext1_path ∷ [])) (all adn_path)
some_renewed t (suc (suc zero)) all h = or_now (is_renewed t fdn_path) (renews_one t (ext2_path ∷ [])) (all fdn_path)
some_renewed t (suc (suc (suc n))) all h = absurd (true≢false (sym h ∙ no_family n))
  where
    no_family : (n : ℕ) → is_one_of (suc (suc (suc n))) all_families ≡ false
    no_family n = grind arith

-- ---- a publication that follows

record IsToldTrue (w : World) (k : Kept) (number f : ℕ) (text : List ℕ) : Type 0 where
  next : number ≡ k.publications + 1
  shown : is_one_of f all_families ≡ true → same_shown (shown_in w f) (Some text) ≡ true

module _ (shows : ShowsCard) (s : Script) (earlier : List Line) (rules : keeps_rules s ≡ true) (right : are_responses_right s earlier ≡ true) where
  abbrev w : World
  w = world_of s earlier

  abbrev k : Kept
  k = kept_of s earlier

  publication_shows : (f g : ℕ) (text : List ℕ) → f ≡ g → text ≡ kept_text f k → due s k ≡ publish g → is_one_of f all_families ≡ true → same_shown (shown_in w f) (Some text) ≡ true
  publication_shows f g text family same is one = ap (λ (x : List ℕ). same_shown (shown_in w f) (Some x)) same ∙ shows s earlier f rules right one (is ∙ ap (λ (x : ℕ). publish x) (sym family))

  publication_by : (number f e n : ℕ) (text : List ℕ) (d : Due) → due s k ≡ d → is_published k number f e n text d ≡ true → IsToldTrue w k number f text
  publication_by number f e n text (publish g) is h =
      let q4 = and_parts ((f == g) && (number == k.publications + 1) && (e == k.history.epoch) && (n == k.history.events)) (same_bytes text (kept_text f k)) h in
      let q3 = and_parts ((f == g) && (number == k.publications + 1) && (e == k.history.epoch)) (n == k.history.events) q4.0 in
      let q2 = and_parts ((f == g) && (number == k.publications + 1)) (e == k.history.epoch) q3.0 in
      let q1 = and_parts (f == g) (number == k.publications + 1) q2.0 in
      record { next = eqb-true number (k.publications + 1) q1.1; shown = publication_shows f g text (eqb-true f g q1.0) (same_bytes_is text (kept_text f k) q4.1) is }
  publication_by number f e n text d is h = dead h

-- ---- every line

-- what the line does to a standing
abbrev standing_behind : Script → Kept → Line → Standing → Standing
standing_behind s k l st = standing_after l (facts_of s l k).event (facts_of s l k).touch (refused_of k.selected (jobs_beside l k.history.epoch (facts_of s l k) k.selected k.jobs) (facts_of s l k).answered) (family_begun s l) st

-- an epoch lives, and no reset is due in its turn
abbrev holds_of : Kept → Bool
holds_of k = k.history.living && not (goes_to_reset k.turn.stage)

-- what the board is compared with behind the lines
abbrev seen : Script → List Line → Seen
seen s lines = record { world = world_of s lines; count = (kept_of s lines).publications; texts = texts_of lines; changed = changed_in s lines; holds = holds_of (kept_of s lines); script = s; kept = kept_of s lines }

abbrev BoardTrue : Script → List Line → Type 0
BoardTrue s lines = AllTrue (seen s lines) (kept_of s lines).standings

no_reset_stage : (work : Work) (stage : Stage) → reset_by_stage work stage ≡ false → goes_to_reset stage ≡ false
no_reset_stage work fresh_stage h = refl
no_reset_stage work (next c) h = refl
no_reset_stage work resetting h = dead (sym h)
no_reset_stage work over h = refl

-- where no UPDATE was done and no reset is asked for, a path that is spoiled is renewed
moved_renewed : (path : List ℕ) (o : Option ProactiveValue) → has_value asks_reset o ≡ false → has_value (is_moved_by path) o ≡ true → has_value (is_refreshed path) o ≡ true
moved_renewed path None h m = m
moved_renewed path (Some p) h m = by_tests (asks_reset p) (is_refreshed path p) h m
  where
    by_tests : (a b : Bool) → a ≡ false → (a || b) ≡ true → b ≡ true
    by_tests false b e g = g
    by_tests true b e g = dead (sym e)

path_renewed : (t : Touch) (selected : Option (List ℕ)) (path : List ℕ) → t.begins ≡ false → t.written ≡ written.Nothing → has_value asks_reset t.refresh ≡ false → is_spoiled t selected path ≡ true → is_renewed t path ≡ true
path_renewed t selected path begins none asks h =
    let moved : has_value (is_moved_by path) t.refresh ≡ true = last_of (has_value (is_moved_by path) t.refresh) (sym (ap (λ (b : Bool). (b || is_raw_write t.written || has_value (is_moved_by path) t.refresh) || is_overwritten selected path t.written) begins ∙ ap (λ (w : Written). (false || is_raw_write w || has_value (is_moved_by path) t.refresh) || is_overwritten selected path w) none) ∙ h) in
    ap (λ (b : Bool). b || is_raw_write t.written || has_value (is_refreshed path) t.refresh) begins ∙ or_later (false || is_raw_write t.written) (has_value (is_refreshed path) t.refresh) (moved_renewed path t.refresh asks moved)
  where
    last_of : (b : Bool) → ((false || false || b) || false) ≡ true → b ≡ true
    last_of true e = refl
    last_of false e = dead e

some_path : (t : Touch) (selected : Option (List ℕ)) (paths : List (List ℕ)) → t.begins ≡ false → t.written ≡ written.Nothing → has_value asks_reset t.refresh ≡ false → list_any (is_spoiled t selected) paths ≡ true → renews_one t paths ≡ true
some_path t selected [] begins none asks h = dead h
some_path t selected (path ∷ paths) begins none asks h = elim (or_cases (is_spoiled t selected path) (list_any (is_spoiled t selected) paths) h) [
  | inl p ↦ or_now (is_renewed t path) (renews_one t paths) (path_renewed t selected path begins none asks p)
  | inr p ↦ or_later (is_renewed t path) (renews_one t paths) (some_path t selected paths begins none asks p)
]

unspoiled_unmoved : (t : Touch) (selected : Option (List ℕ)) (paths : List (List ℕ)) → list_any (is_spoiled t selected) paths ≡ false → moves_one t paths ≡ false
unspoiled_unmoved t selected [] h = refl
unspoiled_unmoved t selected (path ∷ paths) h =
    let p = or_parts (is_spoiled t selected path) (list_any (is_spoiled t selected) paths) h in
    ap (λ (b : Bool). b || moves_one t paths) (or_parts (is_moved t path) (is_overwritten selected path t.written) p.0).0 ∙ unspoiled_unmoved t selected paths p.1

nothing_written : (raw : Bool) (selected : Option (List ℕ)) (c : CommandValue) (r : ResponseValue) → is_update c r ≡ false → written_by raw selected c r ≡ written.Nothing
nothing_written raw selected c r h = ap (λ (b : Bool). if not b then written.Nothing else if raw then written.Raw else if is_row_update c && is_some selected then written.Row else written.Unknown) h

spoiled_renewed : (raw : Bool) (selected : Option (List ℕ)) (c : CommandValue) (r : ResponseValue) (paths : List (List ℕ)) → is_update c r ≡ false → has_value asks_reset (handed_refresh c r) ≡ false → list_any (is_spoiled (touch_exchanged raw selected c r) selected) paths ≡ true → renews_one (touch_exchanged raw selected c r) paths ≡ true
spoiled_renewed raw selected c r paths undone asks h = some_path (touch_exchanged raw selected c r) selected paths refl (nothing_written raw selected c r undone) asks h

-- an UPDATE that was done and is an application's renews every path
raw_renews : (raw : Bool) (selected : Option (List ℕ)) (c : CommandValue) (r : ResponseValue) (path : List ℕ) → is_update c r ≡ true → raw ≡ true → is_renewed (touch_exchanged raw selected c r) path ≡ true
raw_renews raw selected c r path h g = by_write (is_update c r) raw h g
  where
    by_write : (b raw : Bool) → b ≡ true → raw ≡ true → (false || is_raw_write (if not b then written.Nothing else if raw then written.Raw else if is_row_update c && is_some selected then written.Row else written.Unknown) || has_value (is_refreshed path) (handed_refresh c r)) ≡ true
    by_write true true e q = refl
    by_write true false e q = dead q
    by_write false raw e q = dead e

module _ (agrees : KeptAgrees) (looks : KeptLooksBack) (plans : PlansForCard) (makes : PlansMakeEdits) (shows : ShowsCard) (s : Script) (earlier : List Line) (rules : keeps_rules s ≡ true) (served : has_utf8_names s ≡ true) (followed : are_followed s earlier ≡ true) (told : are_told s earlier ≡ true) (t : BoardTrue s earlier) where
  abbrev before : World
  before = world_of s earlier

  abbrev kept : Kept
  kept = kept_of s earlier

  abbrev event : ℕ
  event = kept.history.events + 1

  -- nothing is published
  abbrev after : Line → Seen
  after l = record { world = world_after l before; count = kept.publications; texts = texts_of earlier; changed = changed_in s (l ∷ earlier); holds = holds_of (kept_after s l kept); script = s; kept = kept_after s l kept }

  abbrev Behind : Line → Type 0
  Behind l = AllTrue (after l) (map (standing_behind s kept l) kept.standings)

  abbrev refused_now : Line → Option RefusedReading
  refused_now l = refused_of kept.selected (jobs_beside l kept.history.epoch (facts_of s l kept) kept.selected kept.jobs) (facts_of s l kept).answered

  abbrev renews_now : Line → Standing → Bool
  renews_now l st = st.wanted && renews_one (facts_of s l kept).touch (family_paths st.family)

  past_event : (f : ℕ) → changed_in s earlier f ≤ event
  past_event f = let h = changed_upto s f earlier in omega (arith, h)

  itself : (n : ℕ) → n ≤ n
  itself n = omega arith

  -- what the line does to each standing
  by_each : (l : Line) → ((f : ℕ) (o : Option ℕ) → shown_behind f l o ≡ o) → ((st : Standing) → StandsTrue (seen s earlier) st → IsShown (after l) (standing_behind s kept l st) st.shown) → Behind l
  by_each l told_still each = all_map s earlier (seen s earlier) (after l) (standing_behind s kept l) (λ st a q. record {
    known = q.known;
    shows = subst (λ (o : Option ℕ). IsShown (after l) (standing_behind s kept l st) o) (sym (told_still st.family st.shown)) (each st q);
  }) kept.standings (standings_wanted s earlier) t

  -- the publication of an edit is still awaited
  abbrev Continues : Line → ℕ → Type 0
  Continues l f = (after l).holds ≡ true → IsAwaited s kept f → IsAwaited s (kept_after s l kept) f

  -- of one standing: the card shows the same of it
  one_same : (l : Line) → ((after l).holds ≡ true → (seen s earlier).holds ≡ true) → ((f : ℕ) (x : Option ℕ) → settled_by f l x ≡ x) → (st : Standing) → shown_in (world_after l before) st.family ≡ shown_in before st.family → Continues l st.family → StandsTrue (seen s earlier) st → IsShown (after l) (standing_behind s kept l st) st.shown
  one_same l held settles st same edits q =
      shown_still (seen s earlier) (after l) l event (refused_in st.family (refused_now l)) (family_begun s l) st (itself kept.publications) (renews_now l st) held (settles st.family (refused_in st.family (refused_now l))) same (λ n h. refl) (changed_same s st.family l earlier same) (past_event st.family) edits st.shown q.shows

  -- it is renewed
  one_renewed : (l : Line) → ((f : ℕ) → changed_in s (l ∷ earlier) f ≤ event) → (st : Standing) → renews_one (facts_of s l kept).touch (family_paths st.family) ≡ true → StandsTrue (seen s earlier) st → IsShown (after l) (standing_behind s kept l st) st.shown
  one_renewed l past st renews q =
      shown_renewed (seen s earlier) (after l) l event (refused_in st.family (refused_now l)) (family_begun s l) st (itself kept.publications) (renews_now l st) (λ w. and_from st.wanted (renews_one (facts_of s l kept).touch (family_paths st.family)) w renews) (past st.family) st.shown q.shows

  -- or nothing is known of it
  one_past : (l : Line) → (after l).holds ≡ false → (st : Standing) → StandsTrue (seen s earlier) st → IsShown (after l) (standing_behind s kept l st) st.shown
  one_past l past st q =
      shown_past (seen s earlier) (after l) l event (refused_in st.family (refused_now l)) (family_begun s l) st (itself kept.publications) (renews_now l st) past st.shown q.shows

  -- and so of all
  same_board : (l : Line) → ((after l).holds ≡ true → (seen s earlier).holds ≡ true) → ((f : ℕ) (x : Option ℕ) → settled_by f l x ≡ x) → ((f : ℕ) (o : Option ℕ) → shown_behind f l o ≡ o) → ((f : ℕ) → shown_in (world_after l before) f ≡ shown_in before f) → ((f : ℕ) → IsAwaited s kept f → IsAwaited s (kept_after s l kept) f) → Behind l
  same_board l held settles told_still same edits = by_each l told_still (λ st q. one_same l held settles st (same st.family) (λ h. edits st.family) q)

  renewed_board : (l : Line) → ((f : ℕ) (o : Option ℕ) → shown_behind f l o ≡ o) → ((path : List ℕ) → is_renewed (facts_of s l kept).touch path ≡ true) → ((f : ℕ) → changed_in s (l ∷ earlier) f ≤ event) → Behind l
  renewed_board l told_still renews past = by_each l told_still (λ st q. one_renewed l past st (some_renewed (facts_of s l kept).touch st.family renews q.known) q)

  past_board : (l : Line) → ((f : ℕ) (o : Option ℕ) → shown_behind f l o ≡ o) → (after l).holds ≡ false → Behind l
  past_board l told_still past = by_each l told_still (λ st q. one_past l past st q)

  -- ---- whether an epoch lived, and no reset was due

  held_by : kept.history.living ≡ true → goes_to_reset kept.turn.stage ≡ false → (seen s earlier).holds ≡ true
  held_by living stage = and_from kept.history.living (not (goes_to_reset kept.turn.stage)) living (ap not stage)

  -- where the line stands behind the reset of the turn
  held_behind : is_reset_due kept ≡ false → (living x : Bool) → living ≡ kept.history.living → (living && x) ≡ true → (seen s earlier).holds ≡ true
  held_behind reset living x same h = held_by (sym same ∙ (and_parts living x h).0) (no_reset_stage kept.turn.work kept.turn.stage reset)

  -- ---- an exchange

  sent_stage : (a : ℕ) (c : CommandValue) (r : ResponseValue) → is_followed s kept (line.Exchange a c r) ≡ true → goes_to_reset kept.turn.stage ≡ false
  sent_stage a c r h = by_first kept.turn.stage (exchange_next s kept (shape s earlier followed).chain a c r h).first
    where
      by_first : (stage : Stage) → IsFirstOf (chain_first c kept.chain) stage → goes_to_reset stage ≡ false
      by_first fresh_stage f = refl
      by_first (next d) f = refl
      by_first resetting f = absurd f
      by_first over f = absurd f

  exchange_held : (a : ℕ) (c : CommandValue) (r : ResponseValue) → is_followed s kept (line.Exchange a c r) ≡ true → (after (line.Exchange a c r)).holds ≡ true → (seen s earlier).holds ≡ true
  exchange_held a c r h held = held_by (sent_lives s kept a (line.Exchange a c r) (lively s earlier followed) h) (sent_stage a c r h)

  -- a REFRESH that asks for a reset was handed over: it is due
  reset_holds : (a : ℕ) (c : CommandValue) (r : ResponseValue) → is_followed s kept (line.Exchange a c r) ≡ true → has_value asks_reset (handed_refresh c r) ≡ true → (after (line.Exchange a c r)).holds ≡ false
  reset_holds a c r h asks = by_fetch ((c.ins == fetch_ins) && is_success r.sw) refl asks
    where
      none_behind : (living : Bool) (stage : Stage) → stage ≡ resetting → (living && not (goes_to_reset stage)) ≡ false
      none_behind true stage e = ap (λ (x : Stage). not (goes_to_reset x)) e
      none_behind false stage e = refl

      by_fetch : (b : Bool) → ((c.ins == fetch_ins) && is_success r.sw) ≡ b → has_value asks_reset (elim b [ true ↦ refresh_of (read_proactive r.body) | false ↦ None ]) ≡ true → (after (line.Exchange a c r)).holds ≡ false
      by_fetch false e q = dead q
      by_fetch true e q =
          let p = and_parts (c.ins == fetch_ins) (is_success r.sw) e in
          none_behind (kept_after s (line.Exchange a c r) kept).history.living (kept_after s (line.Exchange a c r) kept).turn.stage
          (fetch_resets s kept (fetches_first s earlier followed) a c r h p.0 (final_success r.sw p.1) asks)

  -- a command that is no UPDATE that was done, for a family: it spoils no path, or the family is renewed, or the card is to be reset
  exchange_one : (a : ℕ) (c : CommandValue) (r : ResponseValue) → is_followed s kept (line.Exchange a c r) ≡ true → has_right_response before (line.Exchange a c r) ≡ true → is_update c r ≡ false → (st : Standing) → StandsTrue (seen s earlier) st → IsShown (after (line.Exchange a c r)) (standing_behind s kept (line.Exchange a c r) st) st.shown
  exchange_one a c r h right undone st q = by_reset (has_value asks_reset (handed_refresh c r)) refl
    where
      by_spoil : (b : Bool) → list_any (is_spoiled (facts_of s (line.Exchange a c r) kept).touch kept.selected) (family_paths st.family) ≡ b → has_value asks_reset (handed_refresh c r) ≡ false → IsShown (after (line.Exchange a c r)) (standing_behind s kept (line.Exchange a c r) st) st.shown
      by_spoil false e asks =
          one_same (line.Exchange a c r) (exchange_held a c r h) (λ f x. refl) st (stays_shown s earlier a c r rules (responses_right s earlier told) right st.family q.known e)
          (λ held t. exchange_awaited looks s earlier followed st.family t a c r h (unspoiled_unmoved (facts_of s (line.Exchange a c r) kept).touch kept.selected (family_paths st.family) e) (ap is_unknown_write (nothing_written (is_raw_line s (line.Exchange a c r) kept.jobs) kept.selected c r undone))) q
      by_spoil true e asks = one_renewed (line.Exchange a c r) (λ f. changed_upto s f (line.Exchange a c r ∷ earlier)) st (spoiled_renewed (is_raw_line s (line.Exchange a c r) kept.jobs) kept.selected c r (family_paths st.family) undone asks e) q

      by_reset : (b : Bool) → has_value asks_reset (handed_refresh c r) ≡ b → IsShown (after (line.Exchange a c r)) (standing_behind s kept (line.Exchange a c r) st) st.shown
      by_reset true e = one_past (line.Exchange a c r) (reset_holds a c r h e) st q
      by_reset false e = by_spoil (list_any (is_spoiled (facts_of s (line.Exchange a c r) kept).touch kept.selected) (family_paths st.family)) refl e

  -- an UPDATE of an edit that was done
  module _ (a : ℕ) (c : CommandValue) (r : ResponseValue) (h : is_followed s kept (line.Exchange a c r) ≡ true) (right : has_right_response before (line.Exchange a c r) ≡ true) (x : Wrote agrees s rules served earlier followed told (edited_here agrees looks plans s rules served earlier followed told) a c r h right) (done : is_update c r ≡ true) (edit : has_right_edit s before kept (line.Exchange a c r) ≡ true) where
    abbrev updated : ℕ
    updated = whose agrees looks plans s rules served earlier followed told a c r h right x done

    goes_on : (f : ℕ) → Continues (line.Exchange a c r) f
    goes_on f held t = exchange_awaited looks s earlier followed f t a c r h (unmoved agrees looks plans s rules served earlier followed told a c r h right x done f) (written_known agrees looks plans s rules served earlier followed told a c r h right x done)

    own_update : (st : Standing) → updated ≡ st.family → StandsTrue (seen s earlier) st → ((own agrees s rules served earlier followed told (edited_here agrees looks plans s rules served earlier followed told) a c r h right x.work).write.update.file ≡ 0) ⊎ ((own agrees s rules served earlier followed told (edited_here agrees looks plans s rules served earlier followed told) a c r h right x.work).write.update.file ≡ 1) → IsShown (after (line.Exchange a c r)) (standing_behind s kept (line.Exchange a c r) st) st.shown
    own_update st same q (inr e) =
        one_same (line.Exchange a c r) (exchange_held a c r h) (λ f y. refl) st
        (subst (λ (f : ℕ). shown_in (world_after (line.Exchange a c r) before) f ≡ shown_in before f) same (kept_shown agrees looks plans s rules served earlier followed told a c r h right x done edit e)) (goes_on st.family) q
    own_update st same q (inl e) = by_shown st.shown q.shows
      where
        by_shown : (n : Option ℕ) → IsShown (seen s earlier) st n → IsShown (after (line.Exchange a c r)) (standing_behind s kept (line.Exchange a c r) st) n
        by_shown None t = tt
        by_shown (Some n) t = record {
          upto = t.upto;
          wanted = or_now st.wanted (has_value (λ f. f == st.family) (family_begun s (line.Exchange a c r))) t.wanted;
          known = λ held. awaited (subst (IsAwaited s (kept_after s (line.Exchange a c r) kept)) same (decided_awaits agrees looks plans s rules served earlier followed told a c r h right x done e));
        }

    update_one : (st : Standing) → StandsTrue (seen s earlier) st → IsShown (after (line.Exchange a c r)) (standing_behind s kept (line.Exchange a c r) st) st.shown
    update_one st q = by_family (updated == st.family) refl
      where
        by_family : (b : Bool) → (updated == st.family) ≡ b → IsShown (after (line.Exchange a c r)) (standing_behind s kept (line.Exchange a c r) st) st.shown
        by_family true e = own_update st (eqb-true updated st.family e) q (own_file agrees s rules served earlier followed told (edited_here agrees looks plans s rules served earlier followed told) a c r h right x.work)
        by_family false e =
            one_same (line.Exchange a c r) (exchange_held a c r h) (λ f y. refl) st
            (stays_shown s earlier a c r rules (responses_right s earlier told) right st.family q.known (other_unspoiled agrees looks plans s rules served earlier followed told a c r h right x done st.family q.known e)) (goes_on st.family) q

  exchange_by : (a : ℕ) (c : CommandValue) (r : ResponseValue) → is_followed s kept (line.Exchange a c r) ≡ true → is_told s before kept (line.Exchange a c r) ≡ true → (b : Bool) → is_update c r ≡ b → Behind (line.Exchange a c r)
  exchange_by a c r h told_now false e = by_each (line.Exchange a c r) (λ f o. refl) (λ st q. exchange_one a c r h (told_response s before kept (line.Exchange a c r) told_now) e st q)
  exchange_by a c r h told_now true e = by_how (how agrees s rules served earlier followed told (edited_here agrees looks plans s rules served earlier followed told) a c r h right)
    where
      right : has_right_response before (line.Exchange a c r) ≡ true
      right = told_response s before kept (line.Exchange a c r) told_now

      edit : has_right_edit s before kept (line.Exchange a c r) ≡ true
      edit =
          edits_right agrees plans makes s earlier (line.Exchange a c r) rules served
          (and_from (are_followed s earlier) (is_followed s kept (line.Exchange a c r)) followed h)
          (and_from (are_told s earlier) (is_told s before kept (line.Exchange a c r)) told told_now)

      by_how : How agrees s rules served earlier followed told (edited_here agrees looks plans s rules served earlier followed told) a c r h right → Behind (line.Exchange a c r)
      by_how (still idle) = dead (sym (ap (λ (b : Bool). b && is_success r.sw) idle) ∙ e)
      by_how (by_raw raw) = renewed_board (line.Exchange a c r) (λ f o. refl) (λ path. raw_renews (is_raw_line s (line.Exchange a c r) kept.jobs) kept.selected c r path e raw) (λ f. changed_upto s f (line.Exchange a c r ∷ earlier))
      by_how (by_edit x) = by_each (line.Exchange a c r) (λ f o. refl) (λ st q. update_one a c r h right x e edit st q)

  -- ---- an event of the world

  event_by : (a : ℕ) (e : WorldEvent) → is_followed s kept (line.World a e) ≡ true → is_reset_due kept ≡ false → Behind (line.World a e)
  event_by a (Insert j) followed_now reset = renewed_board (line.World a (Insert j)) (λ f o. refl) (λ path. refl) (λ f. changed_upto s f (line.World a (Insert j) ∷ earlier))
  event_by a Out followed_now reset = past_board (line.World a Out) (λ f o. refl) refl
  event_by a (Arm j) followed_now reset = same_board (line.World a (Arm j)) (λ h. held_behind reset kept.history.living true refl h) (λ f x. refl) (λ f o. refl) (λ f. arm_shown before j f) (λ f t. arm_awaited looks s earlier followed f t a j followed_now)

  -- ---- a publication

  published_last : (number f e n : ℕ) (text : List ℕ) (d : Due) → is_published kept number f e n text d ≡ true → comes_last d ≡ true
  published_last number f e n text (publish g) h = refl
  published_last number f e n text d h = dead h

  published_held : (number f e n : ℕ) (text : List ℕ) → is_published kept number f e n text (due s kept) ≡ true → (seen s (line.Published number f e n text ∷ earlier)).holds ≡ true → (seen s earlier).holds ≡ true
  published_held number f e n text h held = held_behind (none_resets s kept (published_last number f e n text (due s kept) h)) kept.history.living true refl held

  published_shown : (number f e n : ℕ) (text : List ℕ) → is_published kept number f e n text (due s kept) ≡ true → IsToldTrue before kept number f text → (st : Standing) → IsWanted s earlier st → StandsTrue (seen s earlier) st → (b : Bool) → (f == st.family) ≡ b → IsShown (seen s (line.Published number f e n text ∷ earlier)) (standing_behind s kept (line.Published number f e n text) st) (if b then Some number else st.shown)
  published_shown number f e n text h is st a q false g =
      shown_still (seen s earlier) (seen s (line.Published number f e n text ∷ earlier)) (line.Published number f e n text) event None None st (to_more kept.publications) (st.wanted && renews_one quiet_touch (family_paths st.family)) (published_held number f e n text h)
      (ap (λ (b : Bool). if b then Some n else None) g) refl (λ m u. text_later kept.publications m text (texts_of earlier) u) refl (past_event st.family) (λ held t. publication_awaited looks s earlier followed st.family t number f e n text h g) st.shown q.shows
  published_shown number f e n text h is st a q true g =
      let family : f ≡ st.family = eqb-true f st.family g in
      let known : is_one_of f all_families ≡ true = subst (λ (x : ℕ). is_one_of x all_families ≡ true) (sym family) q.known in
      let shown : same_shown (shown_in before st.family) (Some text) ≡ true = subst (λ (x : ℕ). same_shown (shown_in before x) (Some text) ≡ true) family (is.shown known) in
      let asked : is_wanted s st.family earlier ≡ true = subst (λ (x : ℕ). is_wanted s x earlier ≡ true) family (turn_wants s earlier f (publishes s kept number f e n text h).family) in
      subst (λ (m : ℕ). IsTrue (seen s (line.Published number f e n text ∷ earlier)) (standing_behind s kept (line.Published number f e n text) st) m) (sym is.next) (record {
        upto = itself (kept.publications + 1);
        wanted = or_now st.wanted false (a.wanted ∙ asked);
        known = λ held. current (ap (λ (x : List ℕ). same_shown (shown_in before st.family) (Some x)) (text_new kept.publications text (texts_of earlier)) ∙ shown);
      })

  published_board : (number f e n : ℕ) (text : List ℕ) → is_published kept number f e n text (due s kept) ≡ true → BoardTrue s (line.Published number f e n text ∷ earlier)
  published_board number f e n text h =
      let is = publication_by shows s earlier rules (responses_right s earlier told) number f e n text (due s kept) refl h in
      all_map s earlier (seen s earlier) (seen s (line.Published number f e n text ∷ earlier)) (standing_behind s kept (line.Published number f e n text)) (λ st a q. record { known = q.known; shows = published_shown number f e n text h is st a q (f == st.family) refl }) kept.standings (standings_wanted s earlier) t

  ended_board : (number e n : ℕ) → BoardTrue s (line.EpochEnd number e n ∷ earlier)
  ended_board number e n = all_map s earlier (seen s earlier) (seen s (line.EpochEnd number e n ∷ earlier)) (standing_behind s kept (line.EpochEnd number e n)) (λ st a q. record { known = q.known; shows = tt }) kept.standings (standings_wanted s earlier) t

  -- ---- a mark and an answer

  given_last : (given : Answer) (d : Due) → is_given_or_refused given d ≡ true → comes_last d ≡ true
  given_last given (give x) h = refl
  given_last given (try_event e) h = refl
  given_last given d h = dead h

  tried_last : (e : WorldEvent) (d : Due) → is_tried e d ≡ true → comes_last d ≡ true
  tried_last e (try_event x) h = refl
  tried_last e d h = dead h

  answered_held : (a i : ℕ) (given : Answer) → is_followed s kept (line.Answered a i given) ≡ true → is_reset_due kept ≡ false
  answered_held a i given h =
      let p = and_parts (is_turn_of a kept.turn) (is_begun_at i (begun_of a kept.jobs) && is_given_or_refused given (due s kept)) h in
      none_resets s kept (given_last given (due s kept) (and_parts (is_begun_at i (begun_of a kept.jobs)) (is_given_or_refused given (due s kept)) p.1).1)

  marked_held : (a : ℕ) → is_followed s kept (line.Turn a) ≡ true → is_reset_due kept ≡ false
  marked_held a h = (turn_done s kept (and_parts (ends_turn (due s kept)) (not (is_finished s kept)) (and_parts (ends_turn (due s kept) && not (is_finished s kept)) (nat_le a (actor_count s)) h).0).0).reset

  line_board : (l : Line) → is_followed s kept l ≡ true → is_told s before kept l ≡ true → BoardTrue s (l ∷ earlier)
  line_board (line.Exchange a c r) h told_now = exchange_by a c r h told_now (is_update c r) refl
  line_board (line.Failed a c d) h told_now = past_board (line.Failed a c d) (λ f o. refl) refl
  line_board (line.Reset a) h told_now = renewed_board (line.Reset a) (λ f o. refl) (λ path. refl) (λ f. changed_upto s f (line.Reset a ∷ earlier))
  line_board (line.ResetFailed a) h told_now = past_board (line.ResetFailed a) (λ f o. refl) refl
  line_board (line.World a e) h told_now = event_by a e h (none_resets s kept (tried_last e (due s kept) (and_parts (is_turn_of a kept.turn) (is_tried e (due s kept)) h).1))
  line_board (line.Turn a) h told_now = same_board (line.Turn a) (λ held. held_behind (marked_held a h) kept.history.living true refl held) (λ f x. refl) (λ f o. refl) (λ f. refl) (λ f t. mark_awaited looks s earlier followed f t a h)
  line_board (line.Begin a i) h told_now = same_board (line.Begin a i) (λ held. held) (λ f x. refl) (λ f o. refl) (λ f. refl) (λ f t. begin_awaited looks s earlier followed f t a i h)
  line_board (line.Published number f e n text) h told_now = published_board number f e n text h
  line_board (line.EpochEnd number e n) h told_now = ended_board number e n
  line_board (line.Refused f n) h told_now = same_board (line.Refused f n) (λ held. held) (λ f x. refl) (λ f o. refl) (λ f. refl) (λ g t. refusal_awaited looks s earlier followed g t f n h)
  line_board (line.Answered a i given) h told_now = same_board (line.Answered a i given) (λ held. held_behind (answered_held a i given h) kept.history.living true refl held) (λ f x. refl) (λ f o. refl) (λ f. refl) (λ f t. answer_awaited looks s earlier followed f t a i given h)

-- the board shows of each family what the card shows, or the family is stale, or a later reading of it was refused, or an edit's publication is
-- awaited
board_true : KeptAgrees → KeptLooksBack → PlansForCard → PlansMakeEdits → ShowsCard → (s : Script) (lines : List Line) → keeps_rules s ≡ true → has_utf8_names s ≡ true → are_followed s lines ≡ true → are_told s lines ≡ true → BoardTrue s lines
board_true agrees looks plans makes shows s [] rules served followed told = first_true (seen s []) all_families refl
board_true agrees looks plans makes shows s (l ∷ earlier) rules served followed told =
    let p = and_parts (are_followed s earlier) (is_followed s (kept_of s earlier) l) followed in
    let q = and_parts (are_told s earlier) (is_told s (world_of s earlier) (kept_of s earlier) l) told in
    line_board agrees looks plans makes shows s earlier rules served p.0 q.0 (board_true agrees looks plans makes shows s earlier rules served p.0 q.0) l p.1 q.1

-- ---- the rule of rest

-- where nothing is open in a living epoch, no family is stale
no_open : (a b c d : Bool) → not (a || b || c || d) ≡ true → d ≡ false
no_open a b c false h = refl
no_open a b c true h = dead (sym (ap not (or_later (a || b || c) true refl)) ∙ h)

no_work : (a b c : Bool) → not (a || (b && c)) ≡ true → b ≡ true → not c ≡ true
no_work false true c h e = h
no_work true true c h e = dead h
no_work a false c h e = dead e

quiet_none : (k : Kept) → is_quiet k ≡ true → k.history.living ≡ true → is_some (first_stale k.standings) ≡ false
quiet_none k h living =
    let q = and_parts (not (list_any has_begun k.jobs)) (not (has_work k)) h in
    no_open (is_starting k) (is_some k.owed) (is_some k.history.announced) (is_some (first_stale k.standings)) (no_work k.history.owes_reset k.history.living (has_work_alive k) q.1 living)

quiet_begun : (k : Kept) → is_quiet k ≡ true → list_any has_begun k.jobs ≡ false
quiet_begun k h = not-true (list_any has_begun k.jobs) (and_parts (not (list_any has_begun k.jobs)) (not (has_work k)) h).0

shown_or_known : (shown known : Bool) → (shown ≡ true) ⊎ (known ≡ true) → elim shown [ true ↦ true | false ↦ known ] ≡ true
shown_or_known true known h = refl
shown_or_known false known (inl h) = dead h
shown_or_known false known (inr h) = h

both_less : (a b r : ℕ) → a < r → b < r → nat_lt (max a b) r ≡ true
both_less a b r h g = grind (arith, h, g)

module _ (b : Seen) where
  abbrev IsRight : Standing → Bool
  IsRight st = is_standing_right b.world (λ n. text_of b.count n b.texts) b.changed st

  refusal_right : (st : Standing) (r : ℕ) → st.refused ≡ Some r → st.renewed < r → b.changed st.family < r → is_refusal_known b.changed st ≡ true
  refusal_right st r at h g = ap (has_value (nat_lt (max st.renewed (b.changed st.family)))) at ∙ both_less st.renewed (b.changed st.family) r h g

  known_right : (st : Standing) (n : ℕ) → is_stale st ≡ false → list_any has_begun b.kept.jobs ≡ false → IsKnown b st n → is_shown_right b.world (λ n. text_of b.count n b.texts) b.changed st (Some n) ≡ true
  known_right st n fresh none (current h) = shown_or_known (same_shown (shown_in b.world st.family) (Some (text_of b.count n b.texts))) (is_refusal_known b.changed st) (inl h)
  known_right st n fresh none (stale at h) = dead (sym fresh ∙ ap is_some at)
  known_right st n fresh none (awaited h) = absurd (none_decided b.script b.kept h.who st.family none h.decided)
  known_right st n fresh none (refused r at h g) = shown_or_known (same_shown (shown_in b.world st.family) (Some (text_of b.count n b.texts))) (is_refusal_known b.changed st) (inr (refusal_right st r at h g))

  -- while an epoch lives
  one_right : (st : Standing) → is_stale st ≡ false → list_any has_begun b.kept.jobs ≡ false → b.holds ≡ true → (o : Option ℕ) → IsShown b st o → is_shown_right b.world (λ n. text_of b.count n b.texts) b.changed st o ≡ true
  one_right st fresh none held None t = refl
  one_right st fresh none held (Some n) t = known_right st n fresh none (t.known held)

  fresh_first : (st : Standing) (rest : List Standing) → is_some (first_stale (st ∷ rest)) ≡ false → (is_stale st ≡ false) × (is_some (first_stale rest) ≡ false)
  fresh_first st rest h = by_stale (is_stale st) refl h
    where
      by_stale : (x : Bool) → is_stale st ≡ x → is_some (option_map (λ (y : Standing). y.family) (if x then Some st else find is_stale rest)) ≡ false → (is_stale st ≡ false) × (is_some (first_stale rest) ≡ false)
      by_stale true e q = dead (sym q)
      by_stale false e q = (e, q)

  all_right : (standings : List Standing) → is_some (first_stale standings) ≡ false → list_any has_begun b.kept.jobs ≡ false → b.holds ≡ true → AllTrue b standings → list_all IsRight standings ≡ true
  all_right [] fresh none held t = refl
  all_right (st ∷ rest) fresh none held t =
      let q = fresh_first st rest fresh in
      and_from (IsRight st) (list_all IsRight rest) (one_right st q.0 none held st.shown t.0.shows) (all_right rest q.1 none held t.1)

-- where nothing is shown
none_right : (b : Seen) (standings : List Standing) → AllHidden standings → list_all (IsRight b) standings ≡ true
none_right b [] t = refl
none_right b (st ∷ rest) t = and_from (IsRight b st) (list_all (IsRight b) rest) (ap (is_shown_right b.world (λ n. text_of b.count n b.texts) b.changed st) t.0) (none_right b rest t.1)

while_quiet : (b x : Bool) → (b ≡ true → x ≡ true) → elim b [ false ↦ true | true ↦ x ] ≡ true
while_quiet false x h = refl
while_quiet true x h = h refl

-- the rule, of what it looks at
abbrev RestRight : (ℕ → ℕ) → World → Kept → List (List ℕ) → Type 0
RestRight changed w k texts = elim (is_quiet k) [ false ↦ true | true ↦ list_all (is_standing_right w (λ n. text_of k.publications n texts) changed) k.standings ] ≡ true

-- the turn has ended: an epoch lives, and no reset is due, or the end of the last one is told
rest_by : (s : Script) (lines : List Line) → are_followed s lines ≡ true → IsDone s (kept_of s lines) → is_quiet (kept_of s lines) ≡ true → BoardTrue s lines → (living : Bool) → (kept_of s lines).history.living ≡ living → list_all (IsRight (seen s lines)) (kept_of s lines).standings ≡ true
rest_by s lines followed done quiet t true e =
    all_right (seen s lines) (kept_of s lines).standings (quiet_none (kept_of s lines) quiet e) (quiet_begun (kept_of s lines) quiet)
    (and_from (kept_of s lines).history.living (not (goes_to_reset (kept_of s lines).turn.stage)) e (ap not (no_reset_stage (kept_of s lines).turn.work (kept_of s lines).turn.stage done.reset))) t
rest_by s lines followed done quiet t false e = none_right (seen s lines) (kept_of s lines).standings (hidden_of s lines followed e done.ended)

rest_known : (s : Script) (lines : List Line) → are_followed s lines ≡ true → IsDone s (kept_of s lines) → BoardTrue s lines → RestRight (changed_in s lines) (world_of s lines) (kept_of s lines) (texts_of lines)
rest_known s lines followed done t =
    while_quiet (is_quiet (kept_of s lines)) (list_all (IsRight (seen s lines)) (kept_of s lines).standings)
    (λ quiet. rest_by s lines followed done quiet t (kept_of s lines).history.living refl)

state_rest : (s : Script) (lines : List Line) → RestRight (changed_in s lines) (world_of s lines) (kept_of s lines) (texts_of lines) → is_rest_right (state_of s lines) (changed_in s lines) ≡ true
state_rest s lines t =
    subst (λ (x : List (List ℕ)). RestRight (changed_in s lines) (state_of s lines).world (state_of s lines).kept x) (sym (state_texts s lines))
    (subst (λ (x : Kept). RestRight (changed_in s lines) (state_of s lines).world x (texts_of lines)) (sym (state_kept s lines))
    (subst (λ (x : World). RestRight (changed_in s lines) x (kept_of s lines) (texts_of lines)) (sym (state_world s lines)) t))

-- at the end of each turn, where nothing is open the board shows what the card shows, or a refusal is known
pub rest_right : KeptAgrees → KeptLooksBack → PlansForCard → PlansMakeEdits → ShowsCard → (s : Script) (lines : List Line) → keeps_rules s ≡ true → has_utf8_names s ≡ true → are_followed s lines ≡ true → are_told s lines ≡ true → ends_turn (due s (kept_of s lines)) ≡ true → is_rest_right (state_of s lines) (changed_in s lines) ≡ true
rest_right agrees looks plans makes shows s lines rules served followed told ends = state_rest s lines (rest_known s lines followed (turn_done s (kept_of s lines) ends) (board_true agrees looks plans makes shows s lines rules served followed told))
