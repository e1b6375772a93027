-- A family is stale since an event so far; where all its paths are current, events came behind that one. So its publication ends that.
use Rattle.std.proofs.Common.{◌≡◌, ◌⊎◌, inl, inr, ℕ, ◌+◌, ◌-◌, ◌%◌, ◌≤◌, ◌<◌, ◌==◌, ◌&&◌, ◌||◌, not, Bool, true, false, if◌then◌else◌, List, [], ◌∷◌, Option, Some, None, is_some, refl, sym, ap, ◌∙◌, subst, arith, true≢false}
use Rattle.std.specs.Prelude.{nat_lt, option_map, option_and_then, map, find}
use Rattle.std.specs.Cmp.Lexicographic.{same_text}
use Rattle.std.proofs.lemmas.Bool.{and_parts, and_left, and_right, eqb-true, lt-ltb}
use Rattle.apdu.specs.Values.{CommandValue, ResponseValue}
use Rattle.apdu.specs.Words.{has_value, same_bytes, same_number}
use Rattle.apdu.specs.Apdu.{same_command, with_le, le_of_byte, select_ins, get_response_ins, fetch_ins, update_binary_ins, update_record_ins, is_update_ins, is_read_ins, is_success, has_more}
use Rattle.refresh_cmd.specs.Values.{ProactiveValue}
use Rattle.refresh_cmd.specs.Proactive.{read_proactive}
use Rattle.card_model.specs.declared.world.WorldEvent.TheVariants as world_event
use Rattle.script_reader.specs.declared.types.Script.{Script}
use Rattle.report.specs.declared.line.Line.{Line}
use Rattle.report.specs.declared.line.Line.TheVariants as line
use Rattle.families.specs.Families.{family_paths, all_families}
use Rattle.link.specs.declared.chain.Chain.{Chain}
use Rattle.link.specs.declared.chain.Final.{Final}
use Rattle.link.specs.Commands.{chain_count, first_of, chain_first, get_response_for, follow_up, asks_more, chain_after, final_after, is_basic_select, is_path_select, is_reading_select, file_not_found, named_path}
use Rattle.epoch_cache.specs.declared.cached.CachedFile.{CachedFile}
use Rattle.epoch_cache.specs.declared.cached.Touch.{Touch}
use Rattle.epoch_cache.specs.declared.cached.Written.TheVariants as written
use Rattle.epoch_cache.specs.Cache.{refresh_of, handed_refresh, asks_reset, is_refreshed, is_moved_by, is_update, is_row_update, written_by, is_raw_write, touch_exchanged, is_moved, is_renewed, renews_one, is_of, is_current, all_current, forgotten, with_completed, written_files}
use Rattle.loader.specs.Values.{ReadingValue}
use Rattle.loader.specs.declared.reading.RefusedReading.{RefusedReading}
use Rattle.loader.specs.Reading.{reading_at, is_basic_read, begun, further, reading_after, no_file, file_of_complete, tells_no_file, completed_by}
use Rattle.rules.specs.declared.kept.Job.{Job}
use Rattle.rules.specs.declared.kept.Kept.{Kept}
use Rattle.rules.specs.declared.standing.Standing.{Standing}
use Rattle.rules.specs.Standing.{first_standing, settled_by, unless_settled, refused_in, standing_after, is_stale, first_stale}
use Rattle.rules.specs.Kept.{job_of}
use Rattle.rules.specs.After.{is_started, completed_of, refused_of, jobs_beside, facts_of, family_begun, kept_after, kept_of}
use Rattle.performed.specs.Measure.{one_if}
use Rattle.performed.specs.Progress.{stale_count}
use Rattle.performed.proofs.TurnsKept.{quiet_touch, none_renewed, map_less, one_quiet}

-- ---- chains: what follows a command has its instruction, or is a GET RESPONSE

abbrev pub HasIns : Option Chain → Type 0
HasIns None = Unit {0}
HasIns (Some chain) = (chain.next.ins ≡ get_response_ins) ⊎ (chain.next.ins ≡ chain.first.ins)

same_ins : (a b : CommandValue) → same_command a b ≡ true → a.ins ≡ b.ins
same_ins a b h =
    let q1 = and_parts ((a.class == b.class) && (a.ins == b.ins) && (a.p1 == b.p1) && (a.p2 == b.p2) && same_bytes a.body b.body) (same_number a.le b.le) h in
    let q2 = and_parts ((a.class == b.class) && (a.ins == b.ins) && (a.p1 == b.p1) && (a.p2 == b.p2)) (same_bytes a.body b.body) q1.0 in
    let q3 = and_parts ((a.class == b.class) && (a.ins == b.ins) && (a.p1 == b.p1)) (a.p2 == b.p2) q2.0 in
    let q4 = and_parts ((a.class == b.class) && (a.ins == b.ins)) (a.p1 == b.p1) q3.0 in
    eqb-true a.ins b.ins (and_parts (a.class == b.class) (a.ins == b.ins) q4.0).1

-- the first form of a command has its instruction, or it is a GET RESPONSE
first_ins_by : (b : Bool) (c : CommandValue) (chain : Chain) → same_command c chain.next ≡ b → HasIns (Some chain) → (c.ins ≡ get_response_ins) ⊎ (c.ins ≡ (first_of (if b then Some chain else None) c).ins)
first_ins_by true c chain e (inl h) = inl (same_ins c chain.next e ∙ h)
first_ins_by true c chain e (inr h) = inr (same_ins c chain.next e ∙ h)
first_ins_by false c chain e h = inr refl

first_ins : (c : CommandValue) (o : Option Chain) → HasIns o → (c.ins ≡ get_response_ins) ⊎ (c.ins ≡ (chain_first c o).ins)
first_ins c None h = inr refl
first_ins c (Some chain) h = first_ins_by (same_command c chain.next) c chain refl h

next_ins : (b : Bool) (c : CommandValue) (r : ResponseValue) (first : CommandValue) → has_more r.sw ≡ b → (c.ins ≡ get_response_ins) ⊎ (c.ins ≡ first.ins) → ((follow_up c r).ins ≡ get_response_ins) ⊎ ((follow_up c r).ins ≡ first.ins)
next_ins true c r first e h = inl (by_more (has_more r.sw) e)
  where
    by_more : (b : Bool) → b ≡ true → (if b then get_response_for c (le_of_byte (r.sw % 256)) else with_le (le_of_byte (r.sw % 256)) c).ins ≡ get_response_ins
    by_more true q = refl
    by_more false q = absurd (true≢false (sym q))
next_ins false c r first e h = by_cause h
  where
    by_more : (b : Bool) → b ≡ false → (if b then get_response_for c (le_of_byte (r.sw % 256)) else with_le (le_of_byte (r.sw % 256)) c).ins ≡ c.ins
    by_more true q = absurd (true≢false q)
    by_more false q = refl

    by_cause : (c.ins ≡ get_response_ins) ⊎ (c.ins ≡ first.ins) → ((follow_up c r).ins ≡ get_response_ins) ⊎ ((follow_up c r).ins ≡ first.ins)
    by_cause (inl q) = inl (by_more (has_more r.sw) e ∙ q)
    by_cause (inr q) = inr (by_more (has_more r.sw) e ∙ q)

chain_ins : (c : CommandValue) (r : ResponseValue) (o : Option Chain) → HasIns o → HasIns (chain_after c r o)
chain_ins c r o h = by_asks (asks_more (chain_count c o + 1) c r)
  where
    by_asks : (b : Bool) → HasIns (if b then Some (record { first = chain_first c o; count = chain_count c o + 1; next = follow_up c r }) else None)
    by_asks true = next_ins (has_more r.sw) c r (chain_first c o) refl (first_ins c o h)
    by_asks false = tt

pub chain_kept : (s : Script) (l : Line) (k : Kept) → HasIns k.chain → HasIns (kept_after s l k).chain
chain_kept s (line.Exchange a c r) k h = chain_ins c r k.chain h
chain_kept s (line.Turn a) k h = tt
chain_kept s (line.Begin a i) k h = tt
chain_kept s (line.Failed a c d) k h = tt
chain_kept s (line.Reset a) k h = tt
chain_kept s (line.ResetFailed a) k h = tt
chain_kept s (line.World a e) k h = tt
chain_kept s (line.Published n f e v text) k h = tt
chain_kept s (line.EpochEnd n e v) k h = tt
chain_kept s (line.Refused f n) k h = tt
chain_kept s (line.Answered a i given) k h = tt

-- ---- a command that renews a family reads nothing

-- no SELECT, no READ and no GET RESPONSE
record IsOther (ins : ℕ) : Type 0 where
  select : (ins == select_ins) ≡ false
  reads : is_read_ins ins ≡ false
  fetches : ins ≡ get_response_ins → ⊥

other_at : (n ins : ℕ) → n ≡ ins → IsOther n → IsOther ins
other_at n ins e h = subst (λ (m : ℕ). IsOther m) e h

other_fetch : IsOther fetch_ins
other_fetch = record { select = refl; reads = refl; fetches = λ e. absurd (omega arith) }

other_binary : IsOther update_binary_ins
other_binary = record { select = refl; reads = refl; fetches = λ e. absurd (omega arith) }

other_record : IsOther update_record_ins
other_record = record { select = refl; reads = refl; fetches = λ e. absurd (omega arith) }

other_update : (ins : ℕ) → is_update_ins ins ≡ true → IsOther ins
other_update ins h = by_first (update_binary_ins == ins) (update_record_ins == ins) refl refl h
  where
    by_first : (a b : Bool) → (update_binary_ins == ins) ≡ a → (update_record_ins == ins) ≡ b → (a || (b || false)) ≡ true → IsOther ins
    by_first true b e g q = other_at update_binary_ins ins (eqb-true update_binary_ins ins e) other_binary
    by_first false true e g q = other_at update_record_ins ins (eqb-true update_record_ins ins g) other_record
    by_first false false e g q = absurd (true≢false (sym q))

module _ (raw : Bool) (selected : Option (List ℕ)) (c : CommandValue) (r : ResponseValue) where
  wrote : (b : Bool) → is_update c r ≡ b → is_raw_write (if not b then written.Nothing else if raw then written.Raw else if is_row_update c && is_some selected then written.Row else written.Unknown) ≡ true → IsOther c.ins
  wrote true e h = other_update c.ins (and_parts (is_update_ins c.ins) (is_success r.sw) e).0
  wrote false e h = absurd (true≢false (sym h))

  handed : (path : List ℕ) (b : Bool) → (c.ins == fetch_ins) && is_success r.sw ≡ b → has_value (is_refreshed path) (elim b [ true ↦ refresh_of (read_proactive r.body) | false ↦ None ]) ≡ true → IsOther c.ins
  handed path true e h = other_at fetch_ins c.ins (sym (eqb-true c.ins fetch_ins (and_parts (c.ins == fetch_ins) (is_success r.sw) e).0)) other_fetch
  handed path false e h = absurd (true≢false (sym h))

  renewed_other : (path : List ℕ) → is_renewed (touch_exchanged raw selected c r) path ≡ true → IsOther c.ins
  renewed_other path h = by_write (is_raw_write (written_by raw selected c r)) refl h
    where
      by_write : (b : Bool) → is_raw_write (written_by raw selected c r) ≡ b → (b || has_value (is_refreshed path) (handed_refresh c r)) ≡ true → IsOther c.ins
      by_write true e q = wrote (is_update c r) refl e
      by_write false e q = handed path ((c.ins == fetch_ins) && is_success r.sw) refl q

-- such a command completes no reading
module _ (started : Bool) (f : Final) (selected : Option (List ℕ)) (readings : List ReadingValue) (o : IsOther f.command.ins) where
  no_select : is_reading_select f.command ≡ false
  no_select =
      and_left (is_path_select f.command) (f.command.p2 == 0x04)
      (and_left (is_basic_select f.command) (f.command.p1 == 0x08) (and_right (f.command.class == 0) (f.command.ins == select_ins) o.select))

  no_read : is_basic_read f.command ≡ false
  no_read = and_right (f.command.class == 0) (is_read_ins f.command.ins) o.reads

  tells_none : tells_no_file started f ≡ false
  tells_none =
      and_left (is_reading_select f.command && (f.response.sw == file_not_found)) _
      (and_left (is_reading_select f.command) (f.response.sw == file_not_found) no_select)

  reads_none : reading_after f selected readings ≡ None
  reads_none = by_kind (is_reading_select f.command) (is_basic_read f.command) no_select no_read
    where
      by_kind : (a b : Bool) → a ≡ false → b ≡ false → (if a then begun f else if b then option_and_then (further f) (reading_at selected readings) else None) ≡ None
      by_kind true b e g = absurd (true≢false e)
      by_kind false true e g = absurd (true≢false g)
      by_kind false false e g = refl

  completes_none : completed_by started f selected readings ≡ None
  completes_none = by_tells (tells_no_file started f) tells_none ∙ ap file_of_complete reads_none
    where
      by_tells : (b : Bool) → b ≡ false → (if b then option_map no_file (named_path f.command) else file_of_complete (reading_after f selected readings)) ≡ file_of_complete (reading_after f selected readings)
      by_tells true e = absurd (true≢false e)
      by_tells false e = refl

module _ (s : Script) (k : Kept) (a : ℕ) (c : CommandValue) (r : ResponseValue) (tied : HasIns k.chain) (o : IsOther c.ins) where
  first_other : IsOther (chain_first c k.chain).ins
  first_other = by_first (first_ins c k.chain tied)
    where
      by_first : (c.ins ≡ get_response_ins) ⊎ (c.ins ≡ (chain_first c k.chain).ins) → IsOther (chain_first c k.chain).ins
      by_first (inl e) = absurd (o.fetches e)
      by_first (inr e) = other_at c.ins (chain_first c k.chain).ins e o

  none_completed : (started : Bool) (selected : Option (List ℕ)) (jobs : List Job) → completed_of started selected jobs (final_after a c r k.history.events k.chain) ≡ None
  none_completed started selected jobs = by_asks (asks_more (chain_count c k.chain + 1) c r)
    where
      by_asks : (b : Bool) → completed_of started selected jobs (if b then None else Some (record { actor = a; command = chain_first c k.chain; response = r; event = k.history.events + 1; first_event = k.history.events + 1 - chain_count c k.chain })) ≡ None
      by_asks true = refl
      by_asks false = completes_none started (record { actor = a; command = chain_first c k.chain; response = r; event = k.history.events + 1; first_event = k.history.events + 1 - chain_count c k.chain }) selected (job_of a jobs).readings first_other

-- ---- files behind a line

-- a path that the line moved is not current
not_kept : (t : Touch) (path : List ℕ) → is_moved t path ≡ true → (files : List CachedFile) → is_current (forgotten t files) path ≡ false
not_kept t path h [] = refl
not_kept t path h (file ∷ files) = by_file (is_moved t file.path) (is_of path file) refl refl (not_kept t path h files)
  where
    by_path : (b : Bool) → is_of path file ≡ b → is_moved t file.path ≡ false → is_some (find (is_of path) (forgotten t files)) ≡ false → is_some (if b then Some file else find (is_of path) (forgotten t files)) ≡ false
    by_path true e g q = absurd (true≢false (sym h ∙ sym (ap (is_moved t) (same_text file.path path (sym e))) ∙ g))
    by_path false e g q = q

    by_file : (m b : Bool) → is_moved t file.path ≡ m → is_of path file ≡ b → is_some (find (is_of path) (forgotten t files)) ≡ false → is_some (find (is_of path) (if not m then file ∷ forgotten t files else forgotten t files)) ≡ false
    by_file true b g e q = q
    by_file false b g e q = by_path (is_of path file) refl g q

renewed_moved : (t : Touch) (path : List ℕ) → is_renewed t path ≡ true → is_moved t path ≡ true
renewed_moved t path h = by_refresh (t.begins || is_raw_write t.written) t.refresh h
  where
    or_more : (x y z : Bool) → (x || y) ≡ true → (x || (z || y)) ≡ true
    or_more true y z q = refl
    or_more false true true q = refl
    or_more false true false q = refl
    or_more false false z q = absurd (true≢false (sym q))

    by_refresh : (b : Bool) (o : Option ProactiveValue) → (b || has_value (is_refreshed path) o) ≡ true → (b || has_value (is_moved_by path) o) ≡ true
    by_refresh b None q = q
    by_refresh b (Some p) q = or_more b (is_refreshed path p) (asks_reset p) q

-- a family that a line renews is not current behind it
not_all : (t : Touch) (files : List CachedFile) → ((path : List ℕ) → is_renewed t path ≡ true → is_current files path ≡ false) → (paths : List (List ℕ)) → renews_one t paths ≡ true → all_current files paths ≡ false
not_all t files h [] e = absurd (true≢false (sym e))
not_all t files h (path ∷ paths) e = by_path (is_renewed t path) refl e (λ q. not_all t files h paths q)
  where
    by_path : (b : Bool) → is_renewed t path ≡ b → (b || renews_one t paths) ≡ true → (renews_one t paths ≡ true → all_current files paths ≡ false) → (is_current files path && all_current files paths) ≡ false
    by_path true g q rest = and_left (is_current files path) (all_current files paths) (h path g)
    by_path false g q rest = and_right (is_current files path) (all_current files paths) (rest q)

forgets_none : (files : List CachedFile) → forgotten quiet_touch files ≡ files
forgets_none [] = refl
forgets_none (file ∷ files) = ap (λ (fs : List CachedFile). file ∷ fs) (forgets_none files)

-- ---- families that are stale

-- stale since an event so far, and since one before the last where all its paths are current
pub record IsTimely (events : ℕ) (files : List CachedFile) (st : Standing) (v : ℕ) : Type 0 where
  pub past : v ≤ events
  pub before : all_current files (family_paths st.family) ≡ true → v < events

abbrev pub StaleInTime : ℕ → List CachedFile → Standing → Type 0
StaleInTime events files st = (v : ℕ) → st.stale ≡ Some v → IsTimely events files st v

abbrev pub AreTimely : ℕ → List CachedFile → List Standing → Type 0
AreTimely events files [] = Unit {0}
AreTimely events files (st ∷ sts) = StaleInTime events files st × AreTimely events files sts

map_timely : (events later : ℕ) (files new : List CachedFile) (g : Standing → Standing) → ((st : Standing) → StaleInTime events files st → StaleInTime later new (g st)) → (sts : List Standing) → AreTimely events files sts → AreTimely later new (map g sts)
map_timely events later files new g h [] t = tt
map_timely events later files new g h (st ∷ sts) t = (h st t.0, map_timely events later files new g h sts t.1)

settled_is : (x o : Option ℕ) (v : ℕ) → unless_settled x o ≡ Some v → o ≡ Some v
settled_is x None v e = e
settled_is x (Some w) v e = by_point (has_value (nat_lt w) x) e
  where
    by_point : (b : Bool) → (if b then None else Some w) ≡ Some v → Some w ≡ Some v
    by_point true q = absurd (cc)
    by_point false q = q

number_of : Option ℕ → ℕ
number_of None = 0
number_of (Some n) = n

some_is : (m n : ℕ) → Some m ≡ Some n → m ≡ n
unfolding number_of
some_is m n e = ap number_of e

module _ (l : Line) (events : ℕ) (files : List CachedFile) (refused : Option RefusedReading) (begun : Option ℕ) where
  quiet_timely : (event : ℕ) (st : Standing) → StaleInTime events files st → StaleInTime events files (standing_after l event quiet_touch refused begun st)
  quiet_timely event st h v e = by_renewal (st.wanted && renews_one quiet_touch (family_paths st.family)) (and_right st.wanted (renews_one quiet_touch (family_paths st.family)) (none_renewed (family_paths st.family))) e
    where
      same : IsTimely events files st v → IsTimely events files (standing_after l event quiet_touch refused begun st) v
      same t = record { past = t.past; before = t.before }

      by_renewal : (b : Bool) → b ≡ false → (if b then Some event else unless_settled (settled_by st.family l (refused_in st.family refused)) st.stale) ≡ Some v → IsTimely events files (standing_after l event quiet_touch refused begun st) v
      by_renewal true g q = absurd (true≢false g)
      by_renewal false g q = same (h v (settled_is (settled_by st.family l (refused_in st.family refused)) st.stale v q))

  event_timely : (new : List CachedFile) (t : Touch) → ((path : List ℕ) → is_renewed t path ≡ true → is_current new path ≡ false) → (st : Standing) → StaleInTime events files st → StaleInTime (events + 1) new (standing_after l (events + 1) t refused begun st)
  event_timely new t renews st h v e = by_renewal (st.wanted && renews_one t (family_paths st.family)) refl e
    where
      renewed : st.wanted && renews_one t (family_paths st.family) ≡ true → events + 1 ≡ v → IsTimely (events + 1) new (standing_after l (events + 1) t refused begun st) v
      renewed g q = record {
        past = omega arith;
        before = λ c. absurd (true≢false (sym c ∙ not_all t new renews (family_paths st.family) (and_parts st.wanted (renews_one t (family_paths st.family)) g).1));
      }

      later : IsTimely events files st v → IsTimely (events + 1) new (standing_after l (events + 1) t refused begun st) v
      later w = let p = w.past in record { past = omega arith; before = λ c. omega arith }

      by_renewal : (b : Bool) → st.wanted && renews_one t (family_paths st.family) ≡ b → (if b then Some (events + 1) else unless_settled (settled_by st.family l (refused_in st.family refused)) st.stale) ≡ Some v → IsTimely (events + 1) new (standing_after l (events + 1) t refused begun st) v
      by_renewal true g q = renewed g (some_is (events + 1) v q)
      by_renewal false g q = later (h v (settled_is (settled_by st.family l (refused_in st.family refused)) st.stale v q))

-- ---- a line

module _ (s : Script) (k : Kept) (tied : HasIns k.chain) where
  abbrev refused_at : Line → Option RefusedReading
  refused_at l = refused_of k.selected (jobs_beside l k.history.epoch (facts_of s l k) k.selected k.jobs) (facts_of s l k).answered

  quiet_line : (l : Line) → AreTimely k.history.events k.files k.standings → AreTimely k.history.events (forgotten quiet_touch k.files) (map (standing_after l (facts_of s l k).event quiet_touch (refused_at l) (family_begun s l)) k.standings)
  quiet_line l t = subst (λ (files : List CachedFile). AreTimely k.history.events files (map (standing_after l (facts_of s l k).event quiet_touch (refused_at l) (family_begun s l)) k.standings)) (sym (forgets_none k.files))
      (map_timely k.history.events k.history.events k.files k.files (standing_after l (facts_of s l k).event quiet_touch (refused_at l) (family_begun s l)) (quiet_timely l k.history.events k.files (refused_at l) (family_begun s l) (facts_of s l k).event) k.standings t)

  event_line : (l : Line) (new : List CachedFile) → ((path : List ℕ) → is_renewed (facts_of s l k).touch path ≡ true → is_current new path ≡ false) → AreTimely k.history.events k.files k.standings → AreTimely (k.history.events + 1) new (map (standing_after l (k.history.events + 1) (facts_of s l k).touch (refused_at l) (family_begun s l)) k.standings)
  event_line l new renews t = map_timely k.history.events (k.history.events + 1) k.files new (standing_after l (k.history.events + 1) (facts_of s l k).touch (refused_at l) (family_begun s l)) (event_timely l k.history.events k.files (refused_at l) (family_begun s l) new (facts_of s l k).touch renews) k.standings t

  exchanged : (a : ℕ) (c : CommandValue) (r : ResponseValue) (path : List ℕ) → is_renewed (facts_of s (line.Exchange a c r) k).touch path ≡ true → is_current (kept_after s (line.Exchange a c r) k).files path ≡ false
  exchanged a c r path h =
      let l : Line = line.Exchange a c r in
      let t : Touch = (facts_of s l k).touch in
      let o : IsOther c.ins = renewed_other _ k.selected c r path h in
      ap (λ (x : Option CachedFile). is_current (with_completed x (forgotten t (written_files k.selected c k.files t.written))) path) (none_completed s k a c r tied o (is_started k.startup) k.selected (jobs_beside l k.history.epoch (facts_of s l k) k.selected k.jobs))
      ∙ not_kept t path (renewed_moved t path h) (written_files k.selected c k.files t.written)

  pub line_timely : (l : Line) → AreTimely k.history.events k.files k.standings → AreTimely (kept_after s l k).history.events (kept_after s l k).files (kept_after s l k).standings
  line_timely (line.Exchange a c r) t = event_line (line.Exchange a c r) (kept_after s (line.Exchange a c r) k).files (exchanged a c r) t
  line_timely (line.Failed a c d) t = event_line (line.Failed a c d) [] (λ path h. refl) t
  line_timely (line.Reset a) t = event_line (line.Reset a) (kept_after s (line.Reset a) k).files (λ path h. not_kept (facts_of s (line.Reset a) k).touch path refl k.files) t
  line_timely (line.ResetFailed a) t = event_line (line.ResetFailed a) [] (λ path h. refl) t
  line_timely (line.World a (world_event.Insert j)) t = event_line (line.World a (world_event.Insert j)) (kept_after s (line.World a (world_event.Insert j)) k).files (λ path h. not_kept (facts_of s (line.World a (world_event.Insert j)) k).touch path refl k.files) t
  line_timely (line.World a world_event.Out) t = event_line (line.World a world_event.Out) [] (λ path h. refl) t
  line_timely (line.World a (world_event.Arm j)) t = event_line (line.World a (world_event.Arm j)) (kept_after s (line.World a (world_event.Arm j)) k).files (λ path h. absurd (true≢false (sym h))) t
  line_timely (line.Turn a) t = quiet_line (line.Turn a) t
  line_timely (line.Begin a i) t = quiet_line (line.Begin a i) t
  line_timely (line.Published n f v w text) t = quiet_line (line.Published n f v w text) t
  line_timely (line.EpochEnd n v w) t = quiet_line (line.EpochEnd n v w) t
  line_timely (line.Refused f n) t = quiet_line (line.Refused f n) t
  line_timely (line.Answered a i given) t = quiet_line (line.Answered a i given) t

-- ---- all lines

pub record KeepsTime (k : Kept) : Type 0 where
  pub chain : HasIns k.chain
  pub stale : AreTimely k.history.events k.files k.standings

first_timely : (families : List ℕ) → AreTimely 0 [] (map first_standing families)
first_timely [] = tt
first_timely (f ∷ families) = (λ v e. absurd (cc), first_timely families)

pub keeps_time : (s : Script) (lines : List Line) → KeepsTime (kept_of s lines)
keeps_time s [] = record { chain = tt; stale = first_timely all_families }
keeps_time s (l ∷ earlier) =
    let h : KeepsTime (kept_of s earlier) = keeps_time s earlier in
    record {
      chain = chain_kept s l (kept_of s earlier) h.chain;
      stale = line_timely s (kept_of s earlier) h.chain l h.stale;
    }

-- ---- the first stale family is published

module _ (n e : ℕ) (text : List ℕ) (k : Kept) (event : ℕ) (refused : Option RefusedReading) (begun : Option ℕ) (g : ℕ) where
  abbrev published : Standing → Standing
  published st = standing_after (line.Published n g e k.history.events text) event quiet_touch refused begun st

  settled_now : (v f : ℕ) (x : Option ℕ) → (g == f) ≡ true → v < k.history.events → unless_settled (settled_by f (line.Published n g e k.history.events text) x) (Some v) ≡ None
  settled_now v f x same h = by_family (g == f) same
    where
      by_point : (b : Bool) → b ≡ true → (if b then None else Some v) ≡ None
      by_point true q = refl
      by_point false q = absurd (true≢false (sym q))

      by_family : (b : Bool) → b ≡ true → unless_settled (if b then Some k.history.events else x) (Some v) ≡ None
      by_family true q = by_point (nat_lt v k.history.events) (lt-ltb v k.history.events h)
      by_family false q = absurd (true≢false (sym q))

  one_settled : (st : Standing) (v : ℕ) → (g == st.family) ≡ true → st.stale ≡ Some v → v < k.history.events → one_if (is_stale (published st)) ≡ 0
  one_settled st v same at h = by_renewal (st.wanted && renews_one quiet_touch (family_paths st.family)) (and_right st.wanted (renews_one quiet_touch (family_paths st.family)) (none_renewed (family_paths st.family)))
    where
      gone : unless_settled (settled_by st.family (line.Published n g e k.history.events text) (refused_in st.family refused)) st.stale ≡ None
      gone = ap (unless_settled (settled_by st.family (line.Published n g e k.history.events text) (refused_in st.family refused))) at ∙ settled_now v st.family (refused_in st.family refused) same h

      by_renewal : (b : Bool) → b ≡ false → one_if (is_some (if b then Some event else unless_settled (settled_by st.family (line.Published n g e k.history.events text) (refused_in st.family refused)) st.stale)) ≡ 0
      by_renewal true q = absurd (true≢false q)
      by_renewal false q = ap (λ (o : Option ℕ). one_if (is_some o)) gone

  pub all_settled : (sts : List Standing) → AreTimely k.history.events k.files sts → all_current k.files (family_paths g) ≡ true → first_stale sts ≡ Some g → stale_count (map published sts) < stale_count sts
  all_settled [] t c h = absurd (cc)
  all_settled (st ∷ sts) t c h = by_stale st.stale refl h (λ q. all_settled sts t.1 c q)
    where
      nat_self : (m : ℕ) → (m == m) ≡ true
      nat_self m = grind arith

      here : (v : ℕ) → st.stale ≡ Some v → st.family ≡ g → stale_count (map published (st ∷ sts)) < stale_count (st ∷ sts)
      here v at same =
          let w : IsTimely k.history.events k.files st v = t.0 v at in
          let h1 : v < k.history.events = w.before (ap (λ (f : ℕ). all_current k.files (family_paths f)) same ∙ c) in
          let none = one_settled st v (subst (λ (f : ℕ). (g == f) ≡ true) (sym same) (nat_self g)) at h1 in
          let one : one_if (is_stale st) ≡ 1 = ap (λ (o : Option ℕ). one_if (is_some o)) at in
          let rest = map_less published (one_quiet (line.Published n g e k.history.events text) event refused begun) sts in
          omega arith

      there : stale_count (map published sts) < stale_count sts → stale_count (map published (st ∷ sts)) < stale_count (st ∷ sts)
      there rest =
          let first = one_quiet (line.Published n g e k.history.events text) event refused begun st in
          omega arith

      by_stale : (o : Option ℕ) → st.stale ≡ o → option_map (λ (x : Standing). x.family) (if is_some o then Some st else find is_stale sts) ≡ Some g → (first_stale sts ≡ Some g → stale_count (map published sts) < stale_count sts) → stale_count (map published (st ∷ sts)) < stale_count (st ∷ sts)
      by_stale (Some v) at q rest = here v at (some_is st.family g q)
      by_stale None at q rest = there (rest q)
