-- Behind an exchange of a command that writes no file the card in the slot shows what it showed before.
use Rattle.std.proofs.Common.{◌≡◌, ◌==◌, ◌||◌, ℕ, zero, suc, Bool, true, false, if◌then◌else◌, Option, Some, None, List, [], ◌∷◌, refl, ap, sym, subst, ◌∙◌, true≢false}
use Rattle.std.specs.Prelude.{not, slice_get, slice_set}
use Rattle.apdu.specs.Values.{CommandValue, ResponseValue}
use Rattle.apdu.specs.Apdu.{is_update_ins, fetch_ins}
use Rattle.card_model.specs.declared.world.Change.{Change}
use Rattle.card_model.specs.declared.world.FileState.{FileState}
use Rattle.card_model.specs.declared.world.CardState.{CardState}
use Rattle.card_model.specs.declared.world.World.{World}
use Rattle.card_model.specs.Step.{on_card, card_inside, with_card, step, step_of_card, step_of_place}
use Rattle.card_effects.specs.Effect.{Effect, quiet, refuses_select, reads_record, reads_binary, gets, selects, updates_record, updates_binary, opens, closes, hands_over}
use Rattle.card_effects.proofs.Effects.{effect}
use Rattle.card_effects.proofs.Basic.{effect_aids}
use Rattle.card_effects.proofs.Same.{same_bytes_self}
use Rattle.report.specs.declared.line.Line.{Line}
use Rattle.report.specs.declared.line.Line.TheVariants as line
use Rattle.families.specs.Families.{shown, records, phonebook, fixed}
use Rattle.rules.specs.State.{world_after, content_on, shown_in, shown_on, same_shown}
use Rattle.trace_check.specs.declared.displays.Display.{Display}
use Rattle.trace_check.specs.declared.displays.Displays.{Displays}
use Rattle.trace_check.specs.Displays.{writes_nothing, AreShown, refreshed, all_refreshed}
use Rattle.trace_check.specs.Judging.{world_tested, world_followed, displays_behind}

-- ---- the card

abbrev keeps_files : ℕ → Bool
keeps_files ins = not (is_update_ins ins || (ins == fetch_ins))

other_ins : {A : Type 0} (a b : ℕ) → keeps_files a ≡ true → a ≡ b → keeps_files b ≡ false → A
other_ins a b h e n = absurd (true≢false (sym h ∙ ap keeps_files e ∙ n))

files_stay : (changes : List Change) (card : CardState) (c : CommandValue) (p : CardState × ResponseValue) → keeps_files c.ins ≡ true → Effect changes card c p → p.0.files ≡ card.files
files_stay changes card c p h (quiet k e) = k.files
files_stay changes card c p h (refuses_select number place channel on e d) = d.keeps.files
files_stay changes card c p h (reads_record number place channel on e d) = d.keeps.files
files_stay changes card c p h (reads_binary number place channel on e d) = d.keeps.files
files_stay changes card c p h (gets number place channel on e d) = d.keeps.files
files_stay changes card c p h (selects number place channel on e d) = d.files
files_stay changes card c p h (updates_record number place channel on e d) = other_ins c.ins _ h e refl
files_stay changes card c p h (updates_binary number place channel on e d) = other_ins c.ins _ h e refl
files_stay changes card c p h (opens e d) = d.files
files_stay changes card c p h (closes e d) = d.files
files_stay changes card c p h (hands_over e d) = other_ins c.ins _ h e refl

-- what the card with these files and applications shows
abbrev text_with : CardState → List FileState → List (List ℕ) → ℕ → List ℕ
text_with card files aids f = shown f (content_on (Some (record card { files = files; aids = aids })))

text_same : (old new : CardState) (f : ℕ) → new.files ≡ old.files → new.aids ≡ old.aids → shown f (content_on (Some new)) ≡ shown f (content_on (Some old))
text_same old new f files aids = ap (λ (x : List FileState). text_with new x new.aids f) files ∙ ap (λ (x : List (List ℕ)). text_with new old.files x f) aids

-- ---- the world

get_set : (cards : List CardState) (j : ℕ) (x y : CardState) → slice_get cards j ≡ Some x → slice_get (slice_set cards j y) j ≡ Some y
get_set [] j x y h = absurd (cc)
get_set (card ∷ cards) zero x y h = refl
get_set (card ∷ cards) (suc j) x y h = get_set cards j x y h

step_at : (w : World) (j : ℕ) (c : CommandValue) (f : ℕ) (o : Option CardState) → keeps_files c.ins ≡ true → slice_get w.cards j ≡ o → w.inside ≡ Some j → shown_in (step_of_card w j o c).0 f ≡ shown_in w f
step_at w j c f None h e i = refl
step_at w j c f (Some card) h e i =
    let new : CardState = (on_card w.changes card c).0 in
    let done : Effect w.changes card c (on_card w.changes card c) = effect w.changes card c in
    let before : card_inside w ≡ Some card = rw i e in
    let behind : card_inside (with_card w j new) ≡ Some new = rw i (get_set w.cards j card new e) in
    ap (λ (x : Option CardState). shown_on x f) behind
    ∙ ap (λ (text : List ℕ). Some text) (text_same card new f (files_stay w.changes card c (on_card w.changes card c) h done) (effect_aids w.changes card c (on_card w.changes card c) done))
    ∙ sym (ap (λ (x : Option CardState). shown_on x f) before)

step_in : (w : World) (c : CommandValue) (f : ℕ) (o : Option ℕ) → keeps_files c.ins ≡ true → w.inside ≡ o → shown_in (step_of_place w o c).0 f ≡ shown_in w f
step_in w c f None h i = refl
step_in w c f (Some j) h i = step_at w j c f (slice_get w.cards j) h refl i

shown_step : (w : World) (c : CommandValue) (f : ℕ) → keeps_files c.ins ≡ true → shown_in (step w c).0 f ≡ shown_in w f
unfolding step
shown_step w c f h = step_in w c f w.inside h refl

shown_still : (l : Line) (w : World) (f : ℕ) → writes_nothing l ≡ true → shown_in (world_after l w) f ≡ shown_in w f
shown_still (line.Exchange a c r) w f h = shown_step w c f h
shown_still (line.Failed a c true) w f h = shown_step w c f h
shown_still (line.Failed a c false) w f h = refl
shown_still (line.Turn a) w f h = absurd (cc)
shown_still (line.Begin a i) w f h = absurd (cc)
shown_still (line.Reset a) w f h = absurd (cc)
shown_still (line.ResetFailed a) w f h = absurd (cc)
shown_still (line.World a e) w f h = absurd (cc)
shown_still (line.Published k g e n text) w f h = absurd (cc)
shown_still (line.EpochEnd k e n) w f h = absurd (cc)
shown_still (line.Refused g n) w f h = absurd (cc)
shown_still (line.Answered a i given) w f h = absurd (cc)

-- ---- the displays

-- those of the world before the line are those of the world that its test left
tested_by : (l : Line) (w : World) (f : ℕ) → writes_nothing l ≡ true → shown_in (world_tested l w) f ≡ shown_in w f
tested_by (line.Exchange a c r) w f h = shown_still (line.Exchange a c r) w f h
tested_by (line.Failed a c d) w f h = shown_still (line.Failed a c d) w f h
tested_by (line.Turn a) w f h = refl
tested_by (line.Begin a i) w f h = refl
tested_by (line.Reset a) w f h = refl
tested_by (line.ResetFailed a) w f h = refl
tested_by (line.World a e) w f h = refl
tested_by (line.Published k g e n text) w f h = refl
tested_by (line.EpochEnd k e n) w f h = refl
tested_by (line.Refused g n) w f h = refl
tested_by (line.Answered a i given) w f h = refl

pub shown_tested : (l : Line) (old new : World) (d : Displays) → new ≡ world_tested l old → AreShown old d → writes_nothing l ≡ true → AreShown new d
shown_tested l old new d e h q = subst (λ (w : World). AreShown w d) (sym e) (record {
  records = h.records ∙ sym (tested_by l old records q);
  phonebook = h.phonebook ∙ sym (tested_by l old phonebook q);
  fixed = h.fixed ∙ sym (tested_by l old fixed q);
})

-- what follows the test leaves the world
pub shown_followed : (l : Line) (w : World) (d : Displays) → (writes_nothing l ≡ true → AreShown w d) → writes_nothing l ≡ true → AreShown (world_followed l w) d
shown_followed (line.Exchange a c r) w d h q = h q
shown_followed (line.Failed a c x) w d h q = h q
shown_followed (line.Turn a) w d h q = absurd (cc)
shown_followed (line.Begin a i) w d h q = absurd (cc)
shown_followed (line.Reset a) w d h q = absurd (cc)
shown_followed (line.ResetFailed a) w d h q = absurd (cc)
shown_followed (line.World a e) w d h q = absurd (cc)
shown_followed (line.Published k g e n text) w d h q = absurd (cc)
shown_followed (line.EpochEnd k e n) w d h q = absurd (cc)
shown_followed (line.Refused g n) w d h q = absurd (cc)
shown_followed (line.Answered a i given) w d h q = absurd (cc)

same_self : (o : Option (List ℕ)) → same_shown o o ≡ true
same_self None = refl
same_self (Some text) = same_bytes_self text

stays_by : (f event : ℕ) (world : World) (d : Display) (o : Option (List ℕ)) → d.shown ≡ o → (record d { shown = o; changed = if same_shown d.shown o then d.changed else event }) ≡ d
stays_by f event world d o h =
    sym (ap (λ (x : Option (List ℕ)). record d { shown = x; changed = if same_shown d.shown x then d.changed else event }) h)
    ∙ ap (λ (b : Bool). record d { changed = if b then d.changed else event }) (same_self d.shown)

stays_one : (f event : ℕ) (world : World) (d : Display) → d.shown ≡ shown_in world f → refreshed f event world d ≡ d
stays_one f event world d h = stays_by f event world d (shown_in world f) h

abbrev three : Display → Display → Display → Displays
three r p f = record { records = r; phonebook = p; fixed = f }

all_stay : (event : ℕ) (world : World) (d : Displays) → AreShown world d → all_refreshed event world d ≡ d
all_stay event world d h =
    ap (λ (x : Display). three x (refreshed phonebook event world d.phonebook) (refreshed fixed event world d.fixed)) (stays_one records event world d.records h.records)
    ∙ ap (λ (x : Display). three d.records x (refreshed fixed event world d.fixed)) (stays_one phonebook event world d.phonebook h.phonebook)
    ∙ ap (λ (x : Display). three d.records d.phonebook x) (stays_one fixed event world d.fixed h.fixed)

-- they are those behind the line
pub stays_behind : (l : Line) (event : ℕ) (world : World) (d : Displays) → (writes_nothing l ≡ true → AreShown world d) → writes_nothing l ≡ true → displays_behind l event world d ≡ d
stays_behind (line.Exchange a c r) event world d h q = all_stay event world d (h q)
stays_behind (line.Failed a c x) event world d h q = all_stay event world d (h q)
stays_behind (line.Turn a) event world d h q = absurd (cc)
stays_behind (line.Begin a i) event world d h q = absurd (cc)
stays_behind (line.Reset a) event world d h q = absurd (cc)
stays_behind (line.ResetFailed a) event world d h q = absurd (cc)
stays_behind (line.World a e) event world d h q = absurd (cc)
stays_behind (line.Published k g e n text) event world d h q = absurd (cc)
stays_behind (line.EpochEnd k e n) event world d h q = absurd (cc)
stays_behind (line.Refused g n) event world d h q = absurd (cc)
stays_behind (line.Answered a i given) event world d h q = absurd (cc)
