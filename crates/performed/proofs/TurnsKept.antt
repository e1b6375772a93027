-- What no line takes back: events and answers, and, but for an event, what is current of the families. An event, and an answer, go further.
use Rattle.std.proofs.Common.{◌≡◌, ◌⊎◌, inl, inr, ℕ, zero, suc, ◌+◌, ◌≤◌, ◌<◌, ◌==◌, ◌&&◌, Bool, true, false, if◌then◌else◌, List, [], ◌∷◌, length, Option, Some, None, is_some, refl, sym, ap, ◌∙◌, subst, arith, true≢false}
use Rattle.std.specs.Prelude.{nat_lt, option_map, slice_get, unwrap_or, map}
use Rattle.std.proofs.lemmas.Bool.{and_parts, and_right, ltb-true, ltb-false}
use Rattle.apdu.specs.Words.{has_value}
use Rattle.script_reader.specs.declared.types.Script.{Script}
use Rattle.script_reader.specs.declared.types.Operation.{Operation}
use Rattle.report.specs.declared.answer.Answer.{Answer}
use Rattle.report.specs.declared.line.Line.{Line}
use Rattle.report.specs.declared.line.Line.TheVariants as line
use Rattle.epoch_cache.specs.declared.cached.Touch.{Touch}
use Rattle.epoch_cache.specs.declared.cached.Written.TheVariants as written
use Rattle.epoch_cache.specs.Cache.{renews_one}
use Rattle.families.specs.Families.{family_paths}
use Rattle.loader.specs.declared.reading.RefusedReading.{RefusedReading}
use Rattle.epoch_cache.specs.Past.{counted}
use Rattle.rules.specs.declared.kept.Job.{Job}
use Rattle.rules.specs.declared.kept.Kept.{Kept}
use Rattle.rules.specs.declared.standing.Standing.{Standing}
use Rattle.rules.specs.History.{is_event}
use Rattle.rules.specs.Standing.{settled_by, unless_settled, refused_in, standing_after, is_stale}
use Rattle.rules.specs.Kept.{first_job, job_of, begun_of, operations_of}
use Rattle.rules.specs.Due.{due}
use Rattle.rules.specs.Rules.{is_turn_of, is_begun_at}
use Rattle.rules.specs.After.{job_beside, jobs_beside, own_job, decision_at, facts_of, family_begun, refused_of, kept_after}
use Rattle.performed.proofs.TurnsJobs.{is_own, behind_job, job_behind}
use Rattle.performed.proofs.Plain.{Keeps, begun_some}
use Rattle.performed.specs.Measure.{one_if}
use Rattle.performed.specs.Followed.{is_followed, is_given_or_refused}
use Rattle.performed.specs.Progress.{unanswered, operations_left, stale_count, Moves}

-- ---- answers

module _ (s : Script) (k : Kept) (i : ℕ) where
  either_rises : (b : Bool) (x y z : Job) → x.answered ≤ y.answered → x.answered ≤ z.answered → x.answered ≤ (if b then y else z).answered
  either_rises true x y z h g = h
  either_rises false x y z h g = g

  own_rises : (l : Line) (x : Job) → x.answered ≤ (own_job s l k (facts_of s l k) (decision_at s l k).attempt x).answered
  own_rises (line.Turn zero) x = omega arith
  own_rises (line.Turn (suc a)) x = omega arith
  own_rises (line.Begin a op) x = omega arith
  own_rises (line.Exchange a c r) x = omega arith
  own_rises (line.Failed a c d) x = omega arith
  own_rises (line.Reset a) x = omega arith
  own_rises (line.ResetFailed a) x = omega arith
  own_rises (line.World a e) x = omega arith
  own_rises (line.Published n f e v text) x = omega arith
  own_rises (line.EpochEnd n e v) x = omega arith
  own_rises (line.Refused f n) x = omega arith
  own_rises (line.Answered a op given) x = omega arith

  one_rises : (l : Line) (x : Job) → x.answered ≤ (behind_job s l k i x).answered
  one_rises l x =
      let y : Job = job_beside l k.history.epoch (facts_of s l k) k.selected x in
      either_rises (is_own i l) x (own_job s l k (facts_of s l k) (decision_at s l k).attempt y) y (own_rises l y) (omega arith)

  place_rises : (l : Line) (o : Option Job) → (unwrap_or o first_job).answered ≤ (unwrap_or (option_map (behind_job s l k i) o) first_job).answered
  place_rises l None = omega arith
  place_rises l (Some x) = one_rises l x

  -- an actor's answers are kept
  pub answers_rise : (l : Line) → (job_of i k.jobs).answered ≤ (job_of i (kept_after s l k).jobs).answered
  answers_rise l = subst (λ (o : Option Job). (job_of i k.jobs).answered ≤ (unwrap_or o first_job).answered) (sym (job_behind s l k i)) (place_rises l (slice_get k.jobs i))

-- ---- operations that are left

less_left : (actor : ℕ) (actors : List (List Operation)) (jobs new : List Job) → ((i : ℕ) → (job_of i jobs).answered ≤ (job_of i new).answered) → unanswered actor actors new ≤ unanswered actor actors jobs
less_left actor [] jobs new h = omega arith
less_left actor (ops ∷ rest) jobs new h =
    let a = h actor in
    let b = less_left (suc actor) rest jobs new h in
    omega arith

one_less : (actor : ℕ) (actors : List (List Operation)) (jobs new : List Job) (i j : ℕ) → ((n : ℕ) → (job_of n jobs).answered ≤ (job_of n new).answered) → j ≡ actor + i → (job_of j jobs).answered < (job_of j new).answered → (job_of j jobs).answered < length (unwrap_or (slice_get actors i) []) → unanswered actor actors new < unanswered actor actors jobs
one_less actor [] jobs new i j h at more left = absurd (omega (arith, left))
one_less actor (ops ∷ rest) jobs new zero j h at more left =
    let same : j ≡ actor = omega arith in
    let m : (job_of actor jobs).answered < (job_of actor new).answered = subst (λ (n : ℕ). (job_of n jobs).answered < (job_of n new).answered) same more in
    let t : (job_of actor jobs).answered < length ops = subst (λ (n : ℕ). (job_of n jobs).answered < length ops) same left in
    let b = less_left (suc actor) rest jobs new h in
    omega arith
one_less actor (ops ∷ rest) jobs new (suc i) j h at more left =
    let next : j ≡ suc actor + i = omega arith in
    let a = h actor in
    let b = one_less (suc actor) rest jobs new i j h next more left in
    omega arith

-- ---- families that are stale

-- of a line that is no event
abbrev pub quiet_touch : Touch
quiet_touch = record { begins = false; written = written.Nothing; refresh = None }

pub none_renewed : (paths : List (List ℕ)) → renews_one quiet_touch paths ≡ false
none_renewed [] = refl
none_renewed (path ∷ paths) = none_renewed paths

settled_less : (x o : Option ℕ) → one_if (is_some (unless_settled x o)) ≤ one_if (is_some o)
settled_less x None = omega arith
settled_less x (Some v) = by_point (has_value (nat_lt v) x)
  where
    by_point : (b : Bool) → one_if (is_some (if b then None else Some v)) ≤ 1
    by_point true = omega arith
    by_point false = omega arith

pub map_less : (g : Standing → Standing) → ((st : Standing) → one_if (is_stale (g st)) ≤ one_if (is_stale st)) → (sts : List Standing) → stale_count (map g sts) ≤ stale_count sts
map_less g h [] = omega arith
map_less g h (st ∷ sts) =
    let a = h st in
    let b = map_less g h sts in
    omega arith

module _ (l : Line) (event : ℕ) (refused : Option RefusedReading) (begun : Option ℕ) where
  by_renewal : (b : Bool) (x o : Option ℕ) → b ≡ false → one_if (is_some (if b then Some event else unless_settled x o)) ≤ one_if (is_some o)
  by_renewal true x o e = absurd (true≢false e)
  by_renewal false x o e = settled_less x o

  pub one_quiet : (st : Standing) → one_if (is_stale (standing_after l event quiet_touch refused begun st)) ≤ one_if (is_stale st)
  one_quiet st = by_renewal (st.wanted && renews_one quiet_touch (family_paths st.family)) (settled_by st.family l (refused_in st.family refused)) st.stale (and_right st.wanted (renews_one quiet_touch (family_paths st.family)) (none_renewed (family_paths st.family)))

  all_quiet : (sts : List Standing) → stale_count (map (standing_after l event quiet_touch refused begun) sts) ≤ stale_count sts
  all_quiet sts = map_less (standing_after l event quiet_touch refused begun) one_quiet sts

module _ (s : Script) (k : Kept) where
  abbrev refused_at_line : Line → Option RefusedReading
  refused_at_line l = refused_of k.selected (jobs_beside l k.history.epoch (facts_of s l k) k.selected k.jobs) (facts_of s l k).answered

  quiet_line : (l : Line) → stale_count (map (standing_after l (facts_of s l k).event quiet_touch (refused_at_line l) (family_begun s l)) k.standings) ≤ stale_count k.standings
  quiet_line l = all_quiet l (facts_of s l k).event (refused_at_line l) (family_begun s l) k.standings

  stale_less : (l : Line) → k.history.events ≡ (kept_after s l k).history.events → stale_count (kept_after s l k).standings ≤ stale_count k.standings
  stale_less (line.Exchange a c r) e = absurd (omega arith)
  stale_less (line.Failed a c d) e = absurd (omega arith)
  stale_less (line.Reset a) e = absurd (omega arith)
  stale_less (line.ResetFailed a) e = absurd (omega arith)
  stale_less (line.World a w) e = absurd (omega arith)
  stale_less (line.Turn a) e = quiet_line (line.Turn a)
  stale_less (line.Begin a i) e = quiet_line (line.Begin a i)
  stale_less (line.Published n f v w text) e = quiet_line (line.Published n f v w text)
  stale_less (line.EpochEnd n v w) e = quiet_line (line.EpochEnd n v w)
  stale_less (line.Refused f n) e = quiet_line (line.Refused f n)
  stale_less (line.Answered a i given) e = quiet_line (line.Answered a i given)

-- ---- a line

-- nothing is taken back
pub record GoesOn (s : Script) (before after : Kept) : Type 0 where
  pub events : before.history.events ≤ after.history.events
  pub operations : operations_left s after ≤ operations_left s before
  pub stale : before.history.events ≡ after.history.events → stale_count after.standings ≤ stale_count before.standings

counted_more : (b : Bool) (n : ℕ) → n ≤ counted b n
counted_more true n = omega arith
counted_more false n = omega arith

pub goes_on : (s : Script) (l : Line) (k : Kept) → GoesOn s k (kept_after s l k)
goes_on s l k = record {
  events = counted_more (is_event l) k.history.events;
  operations = less_left 1 s.actors k.jobs (kept_after s l k).jobs (λ i. answers_rise s k i l);
  stale = stale_less s k l;
}

module _ (s : Script) (a b c : Kept) where
  pub then_on : Moves s a b → GoesOn s b c → Moves s a c
  then_on m g = record {
    events = let x = m.events in let y = g.events in omega arith;
    operations = let x = m.operations in let y = g.operations in omega arith;
    stale = λ e.
        let x = m.events in
        let y = g.events in
        let p = m.stale (omega arith) in
        let q = g.stale (omega arith) in
        omega arith;
    moved = by_cause m.moved;
  }
    where
      by_events : (t : Bool) → nat_lt b.history.events c.history.events ≡ t → stale_count b.standings < stale_count a.standings → (a.history.events < c.history.events) ⊎ ((operations_left s c < operations_left s a) ⊎ (stale_count c.standings < stale_count a.standings))
      by_events true e h = let x = m.events in let y = ltb-true b.history.events c.history.events e in inl (omega arith)
      by_events false e h = let x = g.events in let y = ltb-false b.history.events c.history.events e in let z = g.stale (omega arith) in inr (inr (omega arith))

      by_cause : (a.history.events < b.history.events) ⊎ ((operations_left s b < operations_left s a) ⊎ (stale_count b.standings < stale_count a.standings)) → (a.history.events < c.history.events) ⊎ ((operations_left s c < operations_left s a) ⊎ (stale_count c.standings < stale_count a.standings))
      by_cause (inl h) = let y = g.events in inl (omega arith)
      by_cause (inr (inl h)) = let y = g.operations in inr (inl (omega arith))
      by_cause (inr (inr h)) = by_events (nat_lt b.history.events c.history.events) refl h

  pub first_on : GoesOn s a b → Moves s b c → Moves s a c
  first_on g m = record {
    events = let x = m.events in let y = g.events in omega arith;
    operations = let x = m.operations in let y = g.operations in omega arith;
    stale = λ e.
        let x = m.events in
        let y = g.events in
        let p = m.stale (omega arith) in
        let q = g.stale (omega arith) in
        omega arith;
    moved = by_cause m.moved;
  }
    where
      by_events : (t : Bool) → nat_lt a.history.events b.history.events ≡ t → stale_count c.standings < stale_count b.standings → (a.history.events < c.history.events) ⊎ ((operations_left s c < operations_left s a) ⊎ (stale_count c.standings < stale_count a.standings))
      by_events true e h = let x = m.events in let y = ltb-true a.history.events b.history.events e in inl (omega arith)
      by_events false e h = let x = g.events in let y = ltb-false a.history.events b.history.events e in let z = g.stale (omega arith) in inr (inr (omega arith))

      by_cause : (b.history.events < c.history.events) ⊎ ((operations_left s c < operations_left s b) ⊎ (stale_count c.standings < stale_count b.standings)) → (a.history.events < c.history.events) ⊎ ((operations_left s c < operations_left s a) ⊎ (stale_count c.standings < stale_count a.standings))
      by_cause (inl h) = let y = g.events in inl (omega arith)
      by_cause (inr (inl h)) = let y = g.operations in inr (inl (omega arith))
      by_cause (inr (inr h)) = by_events (nat_lt a.history.events b.history.events) refl h

  -- nothing, and then more
  pub both_on : GoesOn s a b → GoesOn s b c → GoesOn s a c
  both_on f g = record {
    events = let x = f.events in let y = g.events in omega arith;
    operations = let x = f.operations in let y = g.operations in omega arith;
    stale = λ e.
        let x = f.events in
        let y = g.events in
        let p = f.stale (omega arith) in
        let q = g.stale (omega arith) in
        omega arith;
  }

module _ (s : Script) (k : Kept) where
  pub moves_by : (l : Line) → (k.history.events < (kept_after s l k).history.events) ⊎ ((operations_left s (kept_after s l k) < operations_left s k) ⊎ (stale_count (kept_after s l k).standings < stale_count k.standings)) → Moves s k (kept_after s l k)
  moves_by l h = let g = goes_on s l k in record { events = g.events; operations = g.operations; stale = g.stale; moved = h }

  -- an event
  pub event_moves : (l : Line) → is_event l ≡ true → Moves s k (kept_after s l k)
  event_moves l e = moves_by l (inl (subst (λ (b : Bool). k.history.events < counted b k.history.events) (sym e) (omega arith)))

  -- ---- an answer

  one_more : (a op : ℕ) (given : Answer) (x : Job) → (behind_job s (line.Answered a op given) k a x).answered ≡ x.answered + 1
  one_more a op given x = by_own (a == a) (nat_self a)
    where
      nat_self : (n : ℕ) → (n == n) ≡ true
      nat_self n = grind arith

      by_own : (b : Bool) → b ≡ true → (if b then own_job s (line.Answered a op given) k (facts_of s (line.Answered a op given) k) (decision_at s (line.Answered a op given) k).attempt (job_beside (line.Answered a op given) k.history.epoch (facts_of s (line.Answered a op given) k) k.selected x) else job_beside (line.Answered a op given) k.history.epoch (facts_of s (line.Answered a op given) k) k.selected x).answered ≡ x.answered + 1
      by_own true e = refl
      by_own false e = absurd (true≢false (sym e))

  answered_place : (a op : ℕ) (given : Answer) (x : Job) → slice_get k.jobs a ≡ Some x → x.answered < length (operations_of s a) → operations_left s (kept_after s (line.Answered a op given) k) < operations_left s k
  answered_place zero op given x here left = absurd (omega (arith, left))
  answered_place (suc a) op given x here left =
      let l : Line = line.Answered (suc a) op given in
      let new : List Job = (kept_after s l k).jobs in
      let was : job_of (suc a) k.jobs ≡ x = ap (λ (o : Option Job). unwrap_or o first_job) here in
      let at : slice_get new (suc a) ≡ Some (behind_job s l k (suc a) x) = job_behind s l k (suc a) ∙ ap (option_map (behind_job s l k (suc a))) here in
      let is : (job_of (suc a) new).answered ≡ x.answered + 1 = ap (λ (o : Option Job). (unwrap_or o first_job).answered) at ∙ one_more (suc a) op given x in
      let had : (job_of (suc a) k.jobs).answered ≡ x.answered = ap (λ (y : Job). y.answered) was in
      one_less 1 s.actors k.jobs new a (suc a) (λ i. answers_rise s k i l) (omega arith) (omega (arith, is, had)) (omega (arith, had, left))

  by_job : (a op : ℕ) (given : Answer) (o : Option Job) → slice_get k.jobs a ≡ o → Keeps s k → is_begun_at op (unwrap_or o first_job).begun ≡ true → operations_left s (kept_after s (line.Answered a op given) k) < operations_left s k
  by_job a op given None here h b = absurd (true≢false (sym b))
  by_job a op given (Some x) here h b = answered_place a op given x here ((h.jobs a x here).left (begun_some op x.begun b))

  pub answer_moves : (a op : ℕ) (given : Answer) → is_followed s k (line.Answered a op given) ≡ true → Keeps s k → Moves s k (kept_after s (line.Answered a op given) k)
  answer_moves a op given f h =
      let p = and_parts (is_turn_of a k.turn) (is_begun_at op (begun_of a k.jobs) && is_given_or_refused given (due s k)) f in
      let q = and_parts (is_begun_at op (begun_of a k.jobs)) (is_given_or_refused given (due s k)) p.1 in
      moves_by (line.Answered a op given) (inr (inl (by_job a op given (slice_get k.jobs a) refl h q.0)))
