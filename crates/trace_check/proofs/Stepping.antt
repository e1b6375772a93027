-- What stands behind one line more.
use Rattle.std.proofs.Common.{◌≡◌, ◌==◌, ◌+◌, ◌-◌, ◌≤◌, ℕ, suc, Bool, true, false, if◌then◌else◌, Option, Some, None, List, [], ◌∷◌, ◌++◌, length, refl, ap, sym, subst, ◌∙◌, arith}
use Rattle.std.specs.Prelude.{reverse, slice_get, option_map, IfSome}
use Rattle.std.proofs.lemmas.List.{reverse-append, length-append, length-map}
use Rattle.std.proofs.lemmas.Option.{slice_get-map}
use Rattle.card_model.specs.declared.world.World.{World}
use Rattle.epoch_cache.specs.Past.{counted}
use Rattle.epoch_cache.specs.declared.cached.Touch.{Touch}
use Rattle.families.specs.Families.{records, phonebook, fixed}
use Rattle.loader.specs.declared.reading.RefusedReading.{RefusedReading}
use Rattle.script_reader.specs.declared.types.Script.{Script}
use Rattle.report.specs.declared.line.Mode.{Mode}
use Rattle.report.specs.declared.line.Line.{Line}
use Rattle.report.specs.declared.line.Line.TheVariants as line
use Rattle.rules.specs.declared.kept.Facts.{Facts}
use Rattle.rules.specs.declared.kept.Kept.{Kept}
use Rattle.rules.specs.declared.standing.Standing.{Standing}
use Rattle.rules.specs.History.{is_event}
use Rattle.rules.specs.Standing.{standing_after, shown_behind, board_of}
use Rattle.rules.specs.After.{is_publication, kept_after, kept_of, facts_of, refused_of, jobs_beside, family_begun}
use Rattle.rules.specs.State.{world_after, world_of, texts_after, texts_of, text_of, shown_in, same_shown, Changes, changes_of, state_of}
use Rattle.rules.specs.Legal.{lowest_broken, line_tests, changed_in}
use Rattle.trace_check.specs.declared.behind.Behind.{Behind}
use Rattle.trace_check.specs.declared.displays.Display.{Display}
use Rattle.trace_check.specs.declared.displays.Displays.{Displays}
use Rattle.trace_check.specs.Behind.{TellsShown, Tells, IsDisplay, AreDisplays, IsBehind}
use Rattle.trace_check.specs.Displays as spec
use Rattle.trace_check.specs.Judging.{boards_behind, displays_behind, Follows, IsFirst}
use Rattle.trace_check.proofs.States.{state_kept}
use Rattle.trace_check.proofs.Following.{number_is}

-- ---- boards

boards_by : (b : Bool) (x : List (Option ℕ)) (xs : List (List (Option ℕ))) → reverse (if b then xs ++ x ∷ [] else xs) ≡ (if b then x ∷ reverse xs else reverse xs)
boards_by true x xs = reverse-append xs (x ∷ [])
boards_by false x xs = refl

count_by : (b : Bool) (x : List (Option ℕ)) (xs : List (List (Option ℕ))) → length (if b then xs ++ x ∷ [] else xs) ≡ counted b (length xs)
count_by true x xs = length-append xs (x ∷ [])
count_by false x xs = refl

-- ---- what the card shows

changes_world : (s : Script) (f : ℕ) (lines : List Line) → (changes_of s f lines).world ≡ world_of s lines
changes_world s f [] = refl
changes_world s f (l ∷ earlier) = ap (world_after l) (changes_world s f earlier)

changes_events : (s : Script) (f : ℕ) (lines : List Line) → (changes_of s f lines).events ≡ (kept_of s lines).history.events
changes_events s f [] = refl
changes_events s f (l ∷ earlier) = ap (counted (is_event l)) (changes_events s f earlier)

abbrev changed_by : Bool → ℕ → ℕ → Bool → ℕ
changed_by e before event same = elim e [ false ↦ before | true ↦ if same then before else event ]

-- the last change behind one line more, by what was known before it
changed_more : (s : Script) (f : ℕ) (l : Line) (earlier : List Line) → changed_in s (l ∷ earlier) f ≡ changed_by (is_event l) (changed_in s earlier f) (counted (is_event l) (kept_of s earlier).history.events) (same_shown (shown_in (world_of s earlier) f) (shown_in (world_of s (l ∷ earlier)) f))
changed_more s f l earlier =
    let c : Changes = changes_of s f earlier in
    ap (λ (w : World). changed_by (is_event l) c.changed (counted (is_event l) c.events) (same_shown (shown_in w f) (shown_in (world_after l w) f))) (changes_world s f earlier)
    ∙ ap (λ (n : ℕ). changed_by (is_event l) c.changed (counted (is_event l) n) (same_shown (shown_in (world_of s earlier) f) (shown_in (world_of s (l ∷ earlier)) f))) (changes_events s f earlier)

-- ---- what is told of a family

map_some : {A : Type 0} (g : A → A) (P Q : A → Type 0) (o : Option A) → ((x : A) → P x → Q (g x)) → IfSome o P → IfSome (option_map g o) Q
map_some g P Q None step h = h
map_some g P Q (Some x) step h = step x h

-- a line that publishes nothing
record IsSilent (l : Line) : Type 0 where
  pub none : is_publication l ≡ false
  pub shown : (f : ℕ) (o : Option ℕ) → shown_behind f l o ≡ o
  pub texts : (t : List (List ℕ)) → texts_after l t ≡ t

silent_one : (l : Line) (event : ℕ) (touch : Touch) (refused : Option RefusedReading) (begun : Option ℕ) (count : ℕ) (texts : List (List ℕ)) (f : ℕ) (told : List ℕ) (st : Standing) → IsSilent l → Tells count texts f told st → Tells (counted (is_publication l) count) (texts_after l texts) f told (standing_after l event touch refused begun st)
silent_one l event touch refused begun count texts f told st q h = record {
  family = h.family;
  shown =
      let same : IfSome (shown_behind st.family l st.shown) (TellsShown count texts told) = subst (λ o. IfSome o (TellsShown count texts told)) (sym (q.shown st.family st.shown)) h.shown in
      let counts : IfSome (shown_behind st.family l st.shown) (TellsShown (counted (is_publication l) count) texts told) = subst (λ b. IfSome (shown_behind st.family l st.shown) (TellsShown (counted b count) texts told)) (sym q.none) same in
      subst (λ t. IfSome (shown_behind st.family l st.shown) (TellsShown (counted (is_publication l) count) t told)) (sym (q.texts texts)) counts;
}

text_next : (count : ℕ) (text : List ℕ) (texts : List (List ℕ)) (k : ℕ) → k ≡ count + 1 → text_of (count + 1) k (text ∷ texts) ≡ text
text_next count text texts k e = let zero_left : count + 1 - k ≡ 0 = omega arith in rw zero_left refl

text_before : (count n : ℕ) (text : List ℕ) (texts : List (List ℕ)) → n ≤ count → text_of (count + 1) n (text ∷ texts) ≡ text_of count n texts
text_before count n text texts h = let one_more : count + 1 - n ≡ suc (count - n) = omega arith in rw one_more refl

told_by : (b : Bool) (count : ℕ) (texts : List (List ℕ)) (text told : List ℕ) (k : ℕ) (o : Option ℕ) → k ≡ count + 1 → IfSome o (TellsShown count texts told) → IfSome (if b then Some k else o) (TellsShown (count + 1) (text ∷ texts) (if b then text else told))
told_by true count texts text told k o e h = record { past = omega arith; text = text_next count text texts k e }
told_by false count texts text told k None e h = h
told_by false count texts text told k (Some n) e h = record { past = let p = h.past in omega arith; text = text_before count n text texts h.past ∙ h.text }

published_one : (k g e n : ℕ) (text : List ℕ) (event : ℕ) (touch : Touch) (refused : Option RefusedReading) (begun : Option ℕ) (count : ℕ) (texts : List (List ℕ)) (f : ℕ) (told : List ℕ) (st : Standing) → k ≡ count + 1 → Tells count texts f told st → Tells (count + 1) (text ∷ texts) f (if g == f then text else told) (standing_after (line.Published k g e n text) event touch refused begun st)
published_one k g e n text event touch refused begun count texts f told st number h = record {
  family = h.family;
  shown = subst (λ (x : ℕ). IfSome (if g == x then Some k else st.shown) (TellsShown (count + 1) (text ∷ texts) (if g == f then text else told))) (sym h.family) (told_by (g == f) count texts text told k st.shown number h.shown);
}

-- how a line changes the standing of a family
abbrev step_of : Script → Line → Kept → Standing → Standing
step_of s l k st = standing_after l (facts_of s l k).event (facts_of s l k).touch (refused_of k.selected (jobs_beside l k.history.epoch (facts_of s l k) k.selected k.jobs) (facts_of s l k).answered) (family_begun s l) st

abbrev TellsIn : Script → List Line → ℕ → List ℕ → Standing → Type 0
TellsIn s lines f told st = Tells (kept_of s lines).publications (texts_of lines) f told st

told_more : (s : Script) (l : Line) (earlier : List Line) (f : ℕ) (told told' : List ℕ) → ((st : Standing) → TellsIn s earlier f told st → TellsIn s (l ∷ earlier) f told' (step_of s l (kept_of s earlier) st)) → IfSome (slice_get (kept_of s earlier).standings f) (TellsIn s earlier f told) → IfSome (slice_get (kept_of s (l ∷ earlier)).standings f) (TellsIn s (l ∷ earlier) f told')
told_more s l earlier f told told' step h =
    subst (λ (o : Option Standing). IfSome o (TellsIn s (l ∷ earlier) f told')) (sym (slice_get-map (step_of s l (kept_of s earlier)) (kept_of s earlier).standings f))
    (map_some (step_of s l (kept_of s earlier)) (TellsIn s earlier f told) (TellsIn s (l ∷ earlier) f told') (slice_get (kept_of s earlier).standings f) step h)

told_silent : (s : Script) (l : Line) (earlier : List Line) (f : ℕ) (told : List ℕ) → IsSilent l → IfSome (slice_get (kept_of s earlier).standings f) (TellsIn s earlier f told) → IfSome (slice_get (kept_of s (l ∷ earlier)).standings f) (TellsIn s (l ∷ earlier) f told)
told_silent s l earlier f told q h =
    let k : Kept = kept_of s earlier in
    let facts : Facts = facts_of s l k in
    told_more s l earlier f told told (λ st t. silent_one l facts.event facts.touch (refused_of k.selected (jobs_beside l k.history.epoch facts k.selected k.jobs) facts.answered) (family_begun s l) k.publications (texts_of earlier) f told st q t) h

-- ---- a display behind one line more

unchanged : (s : Script) (l : Line) (earlier : List Line) (f : ℕ) → is_event l ≡ false → changed_in s (l ∷ earlier) f ≡ changed_in s earlier f
unchanged s l earlier f e = changed_more s f l earlier ∙ ap (λ (b : Bool). changed_by b (changed_in s earlier f) (counted (is_event l) (kept_of s earlier).history.events) (same_shown (shown_in (world_of s earlier) f) (shown_in (world_of s (l ∷ earlier)) f))) e

-- a line that is no event and publishes nothing
still_display : (s : Script) (l : Line) (earlier : List Line) (f : ℕ) (d : Display) → is_event l ≡ false → world_of s (l ∷ earlier) ≡ world_of s earlier → IsSilent l → IsDisplay s earlier f d → IsDisplay s (l ∷ earlier) f d
still_display s l earlier f d e w q h = record {
  shown = h.shown ∙ ap (λ (x : World). shown_in x f) (sym w);
  changed = h.changed ∙ sym (unchanged s l earlier f e);
  told = told_silent s l earlier f d.told q h.told;
}

-- an event; `world` is the one behind it
event_display : (s : Script) (l : Line) (earlier : List Line) (f : ℕ) (world : World) (event : ℕ) (d : Display) → is_event l ≡ true → world ≡ world_of s (l ∷ earlier) → event ≡ (kept_of s earlier).history.events + 1 → IsSilent l → IsDisplay s earlier f d → IsDisplay s (l ∷ earlier) f (spec.refreshed f event world d)
event_display s l earlier f world event d e w n q h = record {
  shown = ap (λ (x : World). shown_in x f) w;
  changed =
      ap (λ (x : Option (List ℕ)). if same_shown x (shown_in world f) then d.changed else event) h.shown
      ∙ ap (λ (x : World). if same_shown (shown_in (world_of s earlier) f) (shown_in x f) then d.changed else event) w
      ∙ ap (λ (x : ℕ). if same_shown (shown_in (world_of s earlier) f) (shown_in (world_of s (l ∷ earlier)) f) then x else event) h.changed
      ∙ ap (λ (x : ℕ). if same_shown (shown_in (world_of s earlier) f) (shown_in (world_of s (l ∷ earlier)) f) then changed_in s earlier f else x) n
      ∙ sym (changed_more s f l earlier ∙ ap (λ (b : Bool). changed_by b (changed_in s earlier f) (counted b (kept_of s earlier).history.events) (same_shown (shown_in (world_of s earlier) f) (shown_in (world_of s (l ∷ earlier)) f))) e);
  told = told_silent s l earlier f d.told q h.told;
}

-- the publication of family g
told_display : (s : Script) (earlier : List Line) (k g e n : ℕ) (text : List ℕ) (f : ℕ) (d : Display) → k ≡ (kept_of s earlier).publications + 1 → IsDisplay s earlier f d → IsDisplay s (line.Published k g e n text ∷ earlier) f (spec.told f g text d)
told_display s earlier k g e n text f d number h =
    let l : Line = line.Published k g e n text in
    let kept : Kept = kept_of s earlier in
    let facts : Facts = facts_of s l kept in
    record {
      shown = h.shown;
      changed = h.changed ∙ sym (unchanged s l earlier f refl);
      told = told_more s l earlier f d.told (if g == f then text else d.told) (λ st t. published_one k g e n text facts.event facts.touch (refused_of kept.selected (jobs_beside l kept.history.epoch facts kept.selected kept.jobs) facts.answered) (family_begun s l) kept.publications (texts_of earlier) f d.told st number t) h.told;
    }

-- the end of an epoch
ended_display : (s : Script) (earlier : List Line) (k e n : ℕ) (f : ℕ) (d : Display) → IsDisplay s earlier f d → IsDisplay s (line.EpochEnd k e n ∷ earlier) f d
ended_display s earlier k e n f d h =
    let l : Line = line.EpochEnd k e n in
    record {
      shown = h.shown;
      changed = h.changed ∙ sym (unchanged s l earlier f refl);
      told = told_more s l earlier f d.told d.told (λ st t. record { family = t.family; shown = tt }) h.told;
    }

-- ---- the displays behind one line more

still : (s : Script) (l : Line) (earlier : List Line) (d : Displays) → is_event l ≡ false → world_of s (l ∷ earlier) ≡ world_of s earlier → IsSilent l → AreDisplays s earlier d → AreDisplays s (l ∷ earlier) d
still s l earlier d e w q h = record {
  records = still_display s l earlier records d.records e w q h.records;
  phonebook = still_display s l earlier phonebook d.phonebook e w q h.phonebook;
  fixed = still_display s l earlier fixed d.fixed e w q h.fixed;
}

refreshed : (s : Script) (l : Line) (earlier : List Line) (world : World) (event : ℕ) (d : Displays) → is_event l ≡ true → world ≡ world_of s (l ∷ earlier) → event ≡ (kept_of s earlier).history.events + 1 → IsSilent l → AreDisplays s earlier d → AreDisplays s (l ∷ earlier) (spec.all_refreshed event world d)
refreshed s l earlier world event d e w n q h = record {
  records = event_display s l earlier records world event d.records e w n q h.records;
  phonebook = event_display s l earlier phonebook world event d.phonebook e w n q h.phonebook;
  fixed = event_display s l earlier fixed world event d.fixed e w n q h.fixed;
}

displays_more : (s : Script) (m : Mode) (l : Line) (earlier : List Line) (world : World) (event : ℕ) (d : Displays) → world ≡ world_of s (l ∷ earlier) → event ≡ (kept_of s earlier).history.events + 1 → lowest_broken (line_tests s m (changed_in s earlier) (state_of s earlier) l) ≡ None → AreDisplays s earlier d → AreDisplays s (l ∷ earlier) (displays_behind l event world d)
displays_more s m (line.Exchange a c r) earlier world event d w n legal h = refreshed s (line.Exchange a c r) earlier world event d refl w n (record { none = refl; shown = λ f o. refl; texts = λ t. refl }) h
displays_more s m (line.Failed a c x) earlier world event d w n legal h = refreshed s (line.Failed a c x) earlier world event d refl w n (record { none = refl; shown = λ f o. refl; texts = λ t. refl }) h
displays_more s m (line.Reset a) earlier world event d w n legal h = refreshed s (line.Reset a) earlier world event d refl w n (record { none = refl; shown = λ f o. refl; texts = λ t. refl }) h
displays_more s m (line.ResetFailed a) earlier world event d w n legal h = refreshed s (line.ResetFailed a) earlier world event d refl w n (record { none = refl; shown = λ f o. refl; texts = λ t. refl }) h
displays_more s m (line.World a e) earlier world event d w n legal h = refreshed s (line.World a e) earlier world event d refl w n (record { none = refl; shown = λ f o. refl; texts = λ t. refl }) h
displays_more s m (line.Turn a) earlier world event d w n legal h = still s (line.Turn a) earlier d refl refl (record { none = refl; shown = λ f o. refl; texts = λ t. refl }) h
displays_more s m (line.Begin a i) earlier world event d w n legal h = still s (line.Begin a i) earlier d refl refl (record { none = refl; shown = λ f o. refl; texts = λ t. refl }) h
displays_more s m (line.Refused f v) earlier world event d w n legal h = still s (line.Refused f v) earlier d refl refl (record { none = refl; shown = λ g o. refl; texts = λ t. refl }) h
displays_more s m (line.Answered a i g) earlier world event d w n legal h = still s (line.Answered a i g) earlier d refl refl (record { none = refl; shown = λ f o. refl; texts = λ t. refl }) h
displays_more s m (line.EpochEnd k e v) earlier world event d w n legal h = record {
  records = ended_display s earlier k e v records d.records h.records;
  phonebook = ended_display s earlier k e v phonebook d.phonebook h.phonebook;
  fixed = ended_display s earlier k e v fixed d.fixed h.fixed;
}
displays_more s m (line.Published k g e v text) earlier world event d w n legal h =
    let number : k ≡ (kept_of s earlier).publications + 1 = number_is s m (changed_in s earlier) (state_of s earlier) k g e v text legal ∙ ap (λ (x : Kept). x.publications + 1) (state_kept s earlier) in
    record {
      records = told_display s earlier k g e v text records d.records number h.records;
      phonebook = told_display s earlier k g e v text phonebook d.phonebook number h.phonebook;
      fixed = told_display s earlier k g e v text fixed d.fixed number h.fixed;
    }

-- ---- all that stands behind one line more

pub behind_more : (s : Script) (m : Mode) (l : Line) (earlier : List Line) (b b' : Behind) → IsBehind s earlier b → lowest_broken (line_tests s m (changed_in s earlier) (state_of s earlier) l) ≡ None → Follows s l b b' → IsBehind s (l ∷ earlier) b'
behind_more s m l earlier b b' h legal f =
    let kept : kept_after s l b.tracker ≡ kept_of s (l ∷ earlier) = ap (kept_after s l) h.kept in
    let world : world_after l b.slot.world ≡ world_of s (l ∷ earlier) = ap (world_after l) h.world in
    let boards : b'.boards ≡ boards_behind l (kept_of s (l ∷ earlier)) b.boards = f.boards ∙ ap (λ (k : Kept). boards_behind l k b.boards) kept in
    record {
      world = f.world ∙ world;
      faults = f.faults;
      kept = f.kept ∙ kept;
      boards =
          ap reverse boards
          ∙ boards_by (is_publication l) (board_of (kept_of s (l ∷ earlier)).standings) b.boards
          ∙ ap (λ xs. if is_publication l then board_of (kept_of s (l ∷ earlier)).standings ∷ xs else xs) h.boards;
      count =
          ap length boards
          ∙ count_by (is_publication l) (board_of (kept_of s (l ∷ earlier)).standings) b.boards
          ∙ ap (counted (is_publication l)) h.count;
      three = length-map (kept_of s earlier).standings (step_of s l (kept_of s earlier)) ∙ h.three;
      displays = subst (AreDisplays s (l ∷ earlier)) (sym f.displays) (displays_more s m l earlier (world_after l b.slot.world) (b.tracker.history.events + 1) b.displays world (ap (λ (k : Kept). k.history.events + 1) h.kept) legal h.displays);
    }

-- ---- before the first line

pub behind_none : (s : Script) (b : Behind) → IsFirst s b → IsBehind s [] b
behind_none s b h = record {
  world = h.world;
  faults = h.faults;
  kept = h.kept;
  boards = ap reverse h.boards;
  count = ap length h.boards;
  three = refl;
  displays = subst (AreDisplays s []) (sym h.displays) (record {
    records = record { shown = refl; changed = refl; told = record { family = refl; shown = tt } };
    phonebook = record { shown = refl; changed = refl; told = record { family = refl; shown = tt } };
    fixed = record { shown = refl; changed = refl; told = record { family = refl; shown = tt } };
  });
}
