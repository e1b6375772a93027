-- What is kept of the lines is what the words say that look back over them.
use Rattle.std.proofs.Common.{◌≡◌, ℕ, ◌+◌, ◌%◌, ◌==◌, ◌||◌, ◌&&◌, not, Bool, true, false, if◌then◌else◌, List, [], ◌∷◌, length, Option, Some, None, refl, sym, ap, ◌∙◌, arith, true≢false}
use Rattle.std.specs.Prelude.{filter, find, option_and_then, map, nat_lt}
use Rattle.apdu.specs.Words.{has_value}
use Rattle.apdu.specs.Apdu.{fetch_ins, is_announcement}
use Rattle.script_reader.specs.declared.types.Script.{Script}
use Rattle.report.specs.declared.line.Line.{Line}
use Rattle.report.specs.declared.line.Line.TheVariants as line
use Rattle.families.specs.Families.{all_families}
use Rattle.rules.specs.declared.standing.Standing.{Standing}
use Rattle.rules.specs.History.{is_event, is_call, begins_epoch, stops_epoch, is_epoch_border, is_failed_exchange, announced_behind}
use Rattle.epoch_cache.specs.Past.{counted}
use Rattle.rules.specs.Standing.{first_standing, unless_settled, shown_behind, standing_after}
use Rattle.rules.specs.After.{is_publication, is_mark, facts_of, family_begun, refused_of, jobs_beside, kept_of}
use Rattle.rules.specs.LookingBack.{is_of_announcement, announced_by, open_announcement, is_of_board, shown_by, board_shows, begins_use, is_wanted, makes_stale, settles, last_renewal, settled_since, is_settled, stale_since}
use Rattle.rules.specs.Laws.{KeepsHistory, KeepsStandings}

-- ---- counts

counted_length : {A : Type 0} (b : Bool) (x : A) (xs : List A) → counted b (length xs) ≡ length (if b then x ∷ xs else xs)
counted_length true x xs = grind arith
counted_length false x xs = refl

counts : (test : Line → Bool) (n : ℕ) (l : Line) (earlier : List Line) → n ≡ length (filter test earlier) → counted (test l) n ≡ length (filter test (l ∷ earlier))
counts test n l earlier h = ap (counted (test l)) h ∙ counted_length (test l) l (filter test earlier)

-- ---- the last border of an epoch

lives_by : (a b : Bool) (l : Line) (o : Option Line) → begins_epoch l ≡ a → a || (not b && has_value begins_epoch o) ≡ has_value begins_epoch (if a || b then Some l else o)
lives_by true b l o e = sym e
lives_by false true l o e = sym e
lives_by false false l o e = refl

failed_border : (l : Line) → is_epoch_border l ≡ false → is_failed_exchange l ≡ false
failed_border (line.Turn a) h = refl
failed_border (line.Begin a i) h = refl
failed_border (line.Exchange a c r) h = refl
failed_border (line.Failed a c d) h = absurd (true≢false h)
failed_border (line.Reset a) h = refl
failed_border (line.ResetFailed a) h = refl
failed_border (line.World a e) h = refl
failed_border (line.Published k f e n text) h = refl
failed_border (line.EpochEnd k e n) h = refl
failed_border (line.Refused f n) h = refl
failed_border (line.Answered a i given) h = refl

owed_by : (b : Bool) (l : Line) (o : Option Line) → is_epoch_border l ≡ b → is_failed_exchange l || (not b && has_value is_failed_exchange o) ≡ has_value is_failed_exchange (if b then Some l else o)
owed_by true l o e = or_false (is_failed_exchange l)
  where
    or_false : (x : Bool) → (x || false) ≡ x
    or_false true = refl
    or_false false = refl
owed_by false l o e = ap (λ x. x || has_value is_failed_exchange o) (failed_border l e)

-- ---- announcements

told_by : (a b : Bool) (n : ℕ) (l : Line) (o : Option Line) → announced_by l ≡ (if a then None else if b then Some n else None) → (if a then None else if b then Some n else option_and_then announced_by o) ≡ option_and_then announced_by (if a || b then Some l else o)
told_by true b n l o e = sym e
told_by false true n l o e = sym e
told_by false false n l o e = refl

border_by : (b : Bool) (l : Line) (o : Option Line) → announced_by l ≡ None → (if b then None else option_and_then announced_by o) ≡ option_and_then announced_by (if b then Some l else o)
border_by true l o e = sym e
border_by false l o e = refl

announced_line : (l : Line) (earlier : List Line) → announced_behind l (open_announcement earlier) ≡ open_announcement (l ∷ earlier)
announced_line (line.Exchange a c r) earlier = told_by (c.ins == fetch_ins) (is_announcement r.sw) (r.sw % 256) (line.Exchange a c r) (find is_of_announcement earlier) refl
announced_line (line.Turn a) earlier = refl
announced_line (line.Begin a i) earlier = refl
announced_line (line.Failed a c d) earlier = refl
announced_line (line.Reset a) earlier = refl
announced_line (line.ResetFailed a) earlier = refl
announced_line (line.World a e) earlier = border_by (is_epoch_border (line.World a e)) (line.World a e) (find is_of_announcement earlier) refl
announced_line (line.Published k f e n text) earlier = refl
announced_line (line.EpochEnd k e n) earlier = refl
announced_line (line.Refused f n) earlier = refl
announced_line (line.Answered a i given) earlier = refl

pub history : (s : Script) (lines : List Line) → KeepsHistory s lines
history s [] = record { events = refl; calls = refl; epoch = refl; living = refl; owes_reset = refl; announced = refl; publications = refl; marks = refl }
history s (l ∷ earlier) =
    let h : KeepsHistory s earlier = history s earlier in
    record {
      events = counts is_event (kept_of s earlier).history.events l earlier h.events;
      calls = counts is_call (kept_of s earlier).history.calls l earlier h.calls;
      epoch = counts begins_epoch (kept_of s earlier).history.epoch l earlier h.epoch;
      living = ap (λ b. begins_epoch l || (not (stops_epoch l) && b)) h.living ∙ lives_by (begins_epoch l) (stops_epoch l) l (find is_epoch_border earlier) refl;
      owes_reset = ap (λ b. is_failed_exchange l || (not (is_epoch_border l) && b)) h.owes_reset ∙ owed_by (is_epoch_border l) l (find is_epoch_border earlier) refl;
      announced = ap (announced_behind l) h.announced ∙ announced_line l earlier;
      publications = counts is_publication (kept_of s earlier).publications l earlier h.publications;
      marks = counts is_mark (kept_of s earlier).marks l earlier h.marks;
    }

-- ---- how a family stands

standing_back : Script → List Line → ℕ → Standing
standing_back s [] f = first_standing f
standing_back s (l ∷ earlier) f =
    standing_after l (facts_of s l (kept_of s earlier)).event (facts_of s l (kept_of s earlier)).touch
    (refused_of (kept_of s earlier).selected
    (jobs_beside l (kept_of s earlier).history.epoch (facts_of s l (kept_of s earlier)) (kept_of s earlier).selected (kept_of s earlier).jobs)
    (facts_of s l (kept_of s earlier)).answered)
    (family_begun s l) (standing_back s earlier f)

all_standings : (s : Script) (lines : List Line) → (kept_of s lines).standings ≡ map (standing_back s lines) all_families
unfolding standing_back
all_standings s [] = refl
all_standings s (l ∷ earlier) =
    ap (λ standings. map (λ (st : Standing).
    standing_after l (facts_of s l (kept_of s earlier)).event (facts_of s l (kept_of s earlier)).touch
    (refused_of (kept_of s earlier).selected
    (jobs_beside l (kept_of s earlier).history.epoch (facts_of s l (kept_of s earlier)) (kept_of s earlier).selected (kept_of s earlier).jobs)
    (facts_of s l (kept_of s earlier)).answered)
    (family_begun s l) st) standings) (all_standings s earlier)

family_back : (s : Script) (lines : List Line) (f : ℕ) → (standing_back s lines f).family ≡ f
unfolding standing_back
family_back s [] f = refl
family_back s (l ∷ earlier) f = family_back s earlier f

or_swap : (a b : Bool) → (a || b) ≡ (b || a)
or_swap true true = refl
or_swap true false = refl
or_swap false true = refl
or_swap false false = refl

wanted_back : (s : Script) (lines : List Line) (f : ℕ) → (standing_back s lines f).wanted ≡ is_wanted s f lines
unfolding standing_back
wanted_back s [] f = refl
wanted_back s (l ∷ earlier) f =
    ap (λ n. (standing_back s earlier f).wanted || has_value (λ g. g == n) (family_begun s l)) (family_back s earlier f)
    ∙ ap (λ b. b || begins_use s f l) (wanted_back s earlier f)
    ∙ or_swap (is_wanted s f earlier) (begins_use s f l)

-- ---- the board

board_by : (b : Bool) (k : ℕ) (l : Line) (o : Option Line) → shown_by l ≡ Some k → (if b then Some k else option_and_then shown_by o) ≡ option_and_then shown_by (if b then Some l else o)
board_by true k l o e = sym e
board_by false k l o e = refl

board_line : (f : ℕ) (l : Line) (earlier : List Line) → shown_behind f l (board_shows f earlier) ≡ board_shows f (l ∷ earlier)
board_line f (line.Published k g e n text) earlier = board_by (g == f) k (line.Published k g e n text) (find (is_of_board f) earlier) refl
board_line f (line.EpochEnd k e n) earlier = refl
board_line f (line.Turn a) earlier = refl
board_line f (line.Begin a i) earlier = refl
board_line f (line.Exchange a c r) earlier = refl
board_line f (line.Failed a c d) earlier = refl
board_line f (line.Reset a) earlier = refl
board_line f (line.ResetFailed a) earlier = refl
board_line f (line.World a e) earlier = refl
board_line f (line.Refused g n) earlier = refl
board_line f (line.Answered a i given) earlier = refl

shown_back : (s : Script) (lines : List Line) (f : ℕ) → (standing_back s lines f).shown ≡ board_shows f lines
unfolding standing_back
shown_back s [] f = refl
shown_back s (l ∷ earlier) f =
    ap (λ n. shown_behind n l (standing_back s earlier f).shown) (family_back s earlier f)
    ∙ ap (shown_behind f l) (shown_back s earlier f)
    ∙ board_line f l earlier

-- ---- stale

settled_later : (x o : Option ℕ) (points : List (Option ℕ)) → unless_settled x (option_and_then (λ v. if is_settled v points then None else Some v) o) ≡ option_and_then (λ v. if is_settled v (x ∷ points) then None else Some v) o
settled_later x None points = refl
settled_later x (Some v) points = by_points (is_settled v points) (has_value (nat_lt v) x) refl
  where
    by_points : (p q : Bool) → has_value (nat_lt v) x ≡ q → unless_settled x (if p then None else Some v) ≡ (if q || p then None else Some v)
    by_points true true e = refl
    by_points true false e = refl
    by_points false true e = rw e refl
    by_points false false e = rw e refl

stale_by : (b : Bool) (v : ℕ) (x before : Option ℕ) (o : Option ℕ) (points : List (Option ℕ)) → before ≡ option_and_then (λ n. if is_settled n points then None else Some n) o → (if b then Some v else unless_settled x before) ≡ option_and_then (λ n. if is_settled n (if b then [] else x ∷ points) then None else Some n) (if b then Some v else o)
stale_by true v x before o points h = refl
stale_by false v x before o points h = ap (unless_settled x) h ∙ settled_later x o points

stale_line : (s : Script) (l : Line) (earlier : List Line) (f : ℕ) (st : Standing) → st.family ≡ f → st.wanted ≡ is_wanted s f earlier → st.stale ≡ stale_since s f earlier → (standing_after l (facts_of s l (kept_of s earlier)).event (facts_of s l (kept_of s earlier)).touch
    (refused_of (kept_of s earlier).selected
    (jobs_beside l (kept_of s earlier).history.epoch (facts_of s l (kept_of s earlier)) (kept_of s earlier).selected (kept_of s earlier).jobs)
    (facts_of s l (kept_of s earlier)).answered)
    (family_begun s l) st).stale ≡ stale_since s f (l ∷ earlier)
stale_line s l earlier f st family wanted stale =
    rw (family, wanted)
    (stale_by (makes_stale s f l earlier) ((kept_of s earlier).history.events + 1) (settles s f l earlier) st.stale (last_renewal s f earlier) (settled_since s f earlier) stale)
    ∙ ap (λ (n : ℕ). option_and_then (λ v. if is_settled v (if makes_stale s f l earlier then [] else settles s f l earlier ∷ settled_since s f earlier) then None else Some v) (if makes_stale s f l earlier then Some (n + 1) else last_renewal s f earlier)) (history s earlier).events

stale_back : (s : Script) (lines : List Line) (f : ℕ) → (standing_back s lines f).stale ≡ stale_since s f lines
unfolding standing_back
stale_back s [] f = refl
stale_back s (l ∷ earlier) f = stale_line s l earlier f (standing_back s earlier f) (family_back s earlier f) (wanted_back s earlier f) (stale_back s earlier f)

pub standings : (s : Script) (lines : List Line) → KeepsStandings s lines
standings s lines = record {
  standing = standing_back s lines;
  all = all_standings s lines;
  stands = λ f. record { family = family_back s lines f; wanted = wanted_back s lines f; stale = stale_back s lines f; shown = shown_back s lines f };
}
