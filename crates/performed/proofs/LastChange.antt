-- The last event that changed what the card shows of a family is one of the events so far, and it stays where the card shows the same.
use Rattle.std.proofs.Common.{◌≡◌, ◌≤◌, ℕ, Bool, true, false, if◌then◌else◌, Option, Some, None, List, [], ◌∷◌, refl, ap, sym, ◌∙◌, subst, arith}
use Rattle.card_model.specs.declared.world.World.{World}
use Rattle.card_effects.proofs.Same.{same_bytes_self}
use Rattle.script_reader.specs.declared.types.Script.{Script}
use Rattle.report.specs.declared.line.Line.{Line}
use Rattle.epoch_cache.specs.Past.{counted}
use Rattle.rules.specs.History.{is_event}
use Rattle.rules.specs.After.{kept_of}
use Rattle.rules.specs.State.{shown_in, same_shown, world_after, world_of, Changes, changes_of}
use Rattle.rules.specs.Legal.{changed_in}
use Rattle.performed.proofs.CalmCards.{dead}

changes_world : (s : Script) (f : ℕ) (lines : List Line) → (changes_of s f lines).world ≡ world_of s lines
changes_world s f [] = refl
changes_world s f (l ∷ earlier) = ap (world_after l) (changes_world s f earlier)

changes_events : (s : Script) (f : ℕ) (lines : List Line) → (changes_of s f lines).events ≡ (kept_of s lines).history.events
changes_events s f [] = refl
changes_events s f (l ∷ earlier) = ap (counted (is_event l)) (changes_events s f earlier)

upto_by : (c : Changes) (events : ℕ) (e same : Bool) → c.changed ≤ events → elim e [ false ↦ c.changed | true ↦ if same then c.changed else events ] ≤ events
upto_by c events false same h = h
upto_by c events true true h = h
upto_by c events true false h = omega arith

not_above : (m n : ℕ) (b : Bool) → m ≤ n → m ≤ counted b n
not_above m n true h = omega (arith, h)
not_above m n false h = h

-- it was at one of the events so far
change_upto : (s : Script) (f : ℕ) (lines : List Line) → (changes_of s f lines).changed ≤ (changes_of s f lines).events
change_upto s f [] = omega arith
change_upto s f (l ∷ earlier) =
    let c : Changes = changes_of s f earlier in
    upto_by c (counted (is_event l) c.events) (is_event l) (same_shown (shown_in c.world f) (shown_in (world_after l c.world) f)) (not_above c.changed c.events (is_event l) (change_upto s f earlier))

pub changed_upto : (s : Script) (f : ℕ) (lines : List Line) → changed_in s lines f ≤ (kept_of s lines).history.events
changed_upto s f lines = subst (λ (n : ℕ). changed_in s lines f ≤ n) (changes_events s f lines) (change_upto s f lines)

same_itself : (o : Option (List ℕ)) → same_shown o o ≡ true
same_itself None = refl
same_itself (Some text) = same_bytes_self text

unchanged_by : (c : Changes) (events : ℕ) (e same : Bool) → same ≡ true → elim e [ false ↦ c.changed | true ↦ if same then c.changed else events ] ≡ c.changed
unchanged_by c events false same q = refl
unchanged_by c events true true q = refl
unchanged_by c events true false q = dead q

-- a line behind which the card shows the same changes nothing
pub changed_same : (s : Script) (f : ℕ) (l : Line) (earlier : List Line) → shown_in (world_after l (world_of s earlier)) f ≡ shown_in (world_of s earlier) f → changed_in s (l ∷ earlier) f ≡ changed_in s earlier f
changed_same s f l earlier h =
    let c : Changes = changes_of s f earlier in
    let still : shown_in (world_after l c.world) f ≡ shown_in c.world f = ap (λ (w : World). shown_in (world_after l w) f) (changes_world s f earlier) ∙ h ∙ sym (ap (λ (w : World). shown_in w f) (changes_world s f earlier)) in
    unchanged_by c (counted (is_event l) c.events) (is_event l) (same_shown (shown_in c.world f) (shown_in (world_after l c.world) f))
    (ap (same_shown (shown_in c.world f)) still ∙ same_itself (shown_in c.world f))
