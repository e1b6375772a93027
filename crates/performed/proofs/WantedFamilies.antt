-- What is published of a family was asked for: the family is wanted since the first line of its first load.
use Rattle.std.proofs.Common.{◌≡◌, ℕ, zero, suc, ◌==◌, ◌&&◌, ◌||◌, Bool, true, false, if◌then◌else◌, not, Option, Some, None, is_some, List, [], ◌∷◌, map, refl, sym, ap, ◌∙◌, subst, arith, true≢false}
use Rattle.std.specs.Prelude.{◌+◌, find, option_and_then, option_map, replicate}
use Rattle.std.proofs.lemmas.Bool.{and_parts}
use Rattle.apdu.specs.Words.{has_value}
use Rattle.script_reader.specs.declared.types.Operation.{Operation}
use Rattle.script_reader.specs.declared.types.Operation.TheVariants as operation
use Rattle.script_reader.specs.declared.types.Script.{Script}
use Rattle.report.specs.declared.line.Line.{Line}
use Rattle.report.specs.declared.line.Line.TheVariants as line
use Rattle.families.specs.Families.{all_families, family_paths}
use Rattle.epoch_cache.specs.Cache.{renews_one}
use Rattle.epoch_cache.specs.declared.cached.Touch.{Touch}
use Rattle.link.specs.declared.chain.Final.{Final}
use Rattle.loader.specs.declared.reading.RefusedReading.{RefusedReading}
use Rattle.rules.specs.declared.kept.Begun.{Begun}
use Rattle.rules.specs.declared.kept.Facts.{Facts}
use Rattle.rules.specs.declared.kept.Job.{Job}
use Rattle.rules.specs.declared.kept.Kept.{Kept}
use Rattle.rules.specs.declared.kept.Turn.{Turn}
use Rattle.rules.specs.declared.standing.Standing.{Standing}
use Rattle.rules.specs.History.{lives_in}
use Rattle.rules.specs.Channels.{held_numbers}
use Rattle.rules.specs.Kept.{actor_count, operation_at, job_of, begun_of, operation_now, begun_operation, first_job}
use Rattle.rules.specs.LookingBack.{begins_use, is_wanted}
use Rattle.rules.specs.Standing.{family_wanted, first_standing, settled_by, unless_settled, refused_in, standing_after, is_stale, first_stale}
use Rattle.rules.specs.Work.{is_starting, family_of_operation, family_read}
use Rattle.rules.specs.After.{facts_of, refused_of, family_begun, job_beside, jobs_beside, own_job, decision_at, fresh_begun, family_of_begun, turn_exchanged, actor_of, jobs_of_actor, kept_of}
use Rattle.performed.proofs.ProgressJobs.{changed, mapped}
use Rattle.performed.proofs.TurnsPhase.{some_number}

or_either : (a b : Bool) → (a || b) ≡ (b || a)
or_either true true = refl
or_either true false = refl
or_either false true = refl
or_either false false = refl

pub or_later : (a b : Bool) → b ≡ true → (a || b) ≡ true
or_later true b h = refl
or_later false b h = h

pub or_now : (a b : Bool) → a ≡ true → (a || b) ≡ true
or_now true b h = refl
or_now false b h = absurd (true≢false (sym h))

wanted_later : (s : Script) (f : ℕ) (l : Line) (earlier : List Line) → is_wanted s f earlier ≡ true → is_wanted s f (l ∷ earlier) ≡ true
wanted_later s f l earlier h = or_later (begins_use s f l) (is_wanted s f earlier) h

nat_self : (n : ℕ) → (n == n) ≡ true
nat_self n = grind arith

wanted_now : (s : Script) (f : ℕ) (l : Line) (earlier : List Line) → family_begun s l ≡ Some f → is_wanted s f (l ∷ earlier) ≡ true
wanted_now s f l earlier h = or_now (begins_use s f l) (is_wanted s f earlier) (ap (has_value (λ g. g == f)) h ∙ nat_self f)

-- ---- standings

-- a family stands as wanted where it is, and is stale only where it is wanted
pub record IsWanted (s : Script) (lines : List Line) (st : Standing) : Type 0 where
  pub wanted : st.wanted ≡ is_wanted s st.family lines
  pub stale : is_stale st ≡ true → st.wanted ≡ true

abbrev pub AreWanted : Script → List Line → List Standing → Type 0
AreWanted s lines [] = Unit {0}
AreWanted s lines (st ∷ rest) = IsWanted s lines st × AreWanted s lines rest

some_settled : (x o : Option ℕ) → is_some (unless_settled x o) ≡ true → is_some o ≡ true
some_settled x None h = h
some_settled x (Some v) h = refl

module _ (s : Script) (earlier : List Line) (l : Line) (event : ℕ) (touch : Touch) (refused : Option RefusedReading) where
  one_wanted : (st : Standing) → IsWanted s earlier st → IsWanted s (l ∷ earlier) (standing_after l event touch refused (family_begun s l) st)
  one_wanted st h = record {
    wanted = ap (λ (b : Bool). b || begins_use s st.family l) h.wanted ∙ or_either (is_wanted s st.family earlier) (begins_use s st.family l);
    stale = λ q. or_now st.wanted (begins_use s st.family l) (by_renewal (st.wanted && renews_one touch (family_paths st.family)) refl q);
  }
    where
      by_renewal : (b : Bool) → st.wanted && renews_one touch (family_paths st.family) ≡ b → is_some (if b then Some event else unless_settled (settled_by st.family l (refused_in st.family refused)) st.stale) ≡ true → st.wanted ≡ true
      by_renewal true e q = (and_parts st.wanted (renews_one touch (family_paths st.family)) e).0
      by_renewal false e q = h.stale (some_settled (settled_by st.family l (refused_in st.family refused)) st.stale q)

  map_wanted : (sts : List Standing) → AreWanted s earlier sts → AreWanted s (l ∷ earlier) (map (standing_after l event touch refused (family_begun s l)) sts)
  map_wanted [] h = tt
  map_wanted (st ∷ sts) h = (one_wanted st h.0, map_wanted sts h.1)

first_wanted : (s : Script) (families : List ℕ) → AreWanted s [] (map first_standing families)
first_wanted s [] = tt
first_wanted s (f ∷ families) = (record { wanted = refl; stale = λ h. absurd (true≢false (sym h)) }, first_wanted s families)

pub standings_wanted : (s : Script) (lines : List Line) → AreWanted s lines (kept_of s lines).standings
standings_wanted s [] = first_wanted s all_families
standings_wanted s (l ∷ earlier) =
    let k : Kept = kept_of s earlier in
    let facts : Facts = facts_of s l k in
    map_wanted s earlier l facts.event facts.touch (refused_of k.selected (jobs_beside l k.history.epoch facts k.selected k.jobs) facts.answered) k.standings (standings_wanted s earlier)

-- the first that is stale is wanted
first_stale_wanted : (s : Script) (lines : List Line) (f : ℕ) (sts : List Standing) → AreWanted s lines sts → first_stale sts ≡ Some f → is_wanted s f lines ≡ true
first_stale_wanted s lines f [] h e = absurd (cc)
first_stale_wanted s lines f (st ∷ sts) h e = by_stale (is_stale st) refl e (λ q. first_stale_wanted s lines f sts h.1 q)
  where
    by_stale : (b : Bool) → is_stale st ≡ b → option_map (λ (x : Standing). x.family) (if b then Some st else find is_stale sts) ≡ Some f → (first_stale sts ≡ Some f → is_wanted s f lines ≡ true) → is_wanted s f lines ≡ true
    by_stale true g q rest = subst (λ (n : ℕ). is_wanted s n lines ≡ true) (some_number st.family f q) (sym h.0.wanted ∙ h.0.stale g)
    by_stale false g q rest = rest q

-- ---- operations that have begun

abbrev pub Wants : Script → List Line → ℕ → Option Begun → Type 0
Wants s lines i None = Unit {0}
Wants s lines i (Some b) = (f : ℕ) → option_and_then family_wanted (operation_at s i b.index) ≡ Some f → is_wanted s f lines ≡ true

abbrev WantsAt : Script → List Line → ℕ → Job → Type 0
WantsAt s lines i job = Wants s lines i job.begun

module _ (s : Script) (earlier : List Line) (l : Line) (i : ℕ) (change : Begun → Begun) (keeps : (b : Begun) → (change b).index ≡ b.index) where
  wants_later : (o : Option Begun) → Wants s earlier i o → Wants s (l ∷ earlier) i (option_map change o)
  wants_later None h = tt
  wants_later (Some b) h = λ f e. wanted_later s f l earlier (h f (ap (λ (n : ℕ). option_and_then family_wanted (operation_at s i n)) (sym (keeps b)) ∙ e))

  wants_still : (o : Option Begun) → Wants s (l ∷ earlier) i o → Wants s (l ∷ earlier) i (option_map change o)
  wants_still None h = tt
  wants_still (Some b) h = λ f e. h f (ap (λ (n : ℕ). option_and_then family_wanted (operation_at s i n)) (sym (keeps b)) ∙ e)

module _ (s : Script) (earlier : List Line) (h : (i : ℕ) → WantsAt s earlier i (job_of i (kept_of s earlier).jobs)) where
  abbrev k : Kept
  k = kept_of s earlier

  abbrev beside : Line → List Job
  beside l = jobs_beside l k.history.epoch (facts_of s l k) k.selected k.jobs

  beside_wants : (l : Line) (i : ℕ) → WantsAt s (l ∷ earlier) i (job_of i (beside l))
  beside_wants l i =
      mapped (job_beside l k.history.epoch (facts_of s l k) k.selected) (WantsAt s earlier) (WantsAt s (l ∷ earlier)) k.jobs h
      (λ (j : ℕ) (x : Job) p. wants_later s earlier l j _ (λ b. refl) x.begun p)
      (λ (j : ℕ) p. tt) i

  own_wants : (l : Line) (a : ℕ) (x : Job) → actor_of l ≡ Some a → WantsAt s (l ∷ earlier) a x → WantsAt s (l ∷ earlier) a (own_job s l k (facts_of s l k) (decision_at s l k).attempt x)
  own_wants (line.Turn zero) a x e p = p
  own_wants (line.Turn (suc b)) a x e p = wants_still s earlier (line.Turn (suc b)) a _ (λ b. refl) x.begun p
  own_wants (line.Begin b i) a x e p = λ f q. wanted_now s f (line.Begin b i) earlier (ap (λ (n : ℕ). option_and_then family_wanted (operation_at s n i)) (some_number b a e) ∙ q)
  own_wants (line.Exchange b c r) a x e p = wants_still s earlier (line.Exchange b c r) a _ (λ b. refl) x.begun p
  own_wants (line.Failed b c d) a x e p = wants_still s earlier (line.Failed b c d) a _ (λ b. refl) x.begun p
  own_wants (line.Reset b) a x e p = p
  own_wants (line.ResetFailed b) a x e p = p
  own_wants (line.World b w) a x e p = p
  own_wants (line.Published n f v w text) a x e p = p
  own_wants (line.EpochEnd n v w) a x e p = p
  own_wants (line.Refused f n) a x e p = p
  own_wants (line.Answered b i given) a x e p = tt

  line_wants : (l : Line) (o : Option ℕ) → actor_of l ≡ o → (i : ℕ) → WantsAt s (l ∷ earlier) i (job_of i (jobs_of_actor s l k (facts_of s l k) (decision_at s l k).attempt o (beside l)))
  line_wants l None e i = beside_wants l i
  line_wants l (Some a) e i = changed (own_job s l k (facts_of s l k) (decision_at s l k).attempt) (WantsAt s (l ∷ earlier)) (beside l) a (λ (x : Job) p. own_wants l a x e p) (beside_wants l) i

first_begun : (n i : ℕ) → begun_of i (replicate n first_job) ≡ None
first_begun zero i = refl
first_begun (suc n) zero = refl
first_begun (suc n) (suc i) = first_begun n i

jobs_want : (s : Script) (lines : List Line) (i : ℕ) → WantsAt s lines i (job_of i (kept_of s lines).jobs)
jobs_want s [] i = subst (λ (o : Option Begun). Wants s [] i o) (sym (first_begun (actor_count s + 1) i)) tt
jobs_want s (l ∷ earlier) i = line_wants s earlier (jobs_want s earlier) l (actor_of l) refl i

-- ---- the family of a turn

none_edit : (b x : Bool) (f g : ℕ) → (if b then Some g else None) ≡ Some f → g ≡ f
none_edit true x f g e = some_number g f e
none_edit false x f g e = absurd (cc)

operation_wants : (b : Begun) (op : Operation) (f : ℕ) → family_of_operation b op ≡ Some f → family_wanted op ≡ Some f
operation_wants b (operation.Load g) f e = e
operation_wants b (operation.Set g at name number) f e = ap (λ (n : ℕ). Some n) (none_edit _ true f g e)
operation_wants b (operation.Clear g at) f e = ap (λ (n : ℕ). Some n) (none_edit _ true f g e)
operation_wants b op f e = absurd (cc)

module _ (s : Script) (lines : List Line) (k : Kept) where
  if_wanted : (c : Bool) (b : Begun) (op : Operation) (f : ℕ) → (if c then family_of_operation b op else None) ≡ Some f → family_wanted op ≡ Some f
  if_wanted true b op f e = operation_wants b op f e
  if_wanted false b op f e = absurd (cc)

  begun_wants : (b : Begun) (o : Option Operation) (f : ℕ) → family_of_begun k (Some b) o ≡ Some f → option_and_then family_wanted o ≡ Some f
  begun_wants b None f e = absurd (cc)
  begun_wants b (Some op) f e = if_wanted (lives_in k.history b.epoch) b op f e

  by_begun : (a : ℕ) (o : Option Begun) → Wants s lines a o → (f : ℕ) → family_of_begun k o (begun_operation s a o) ≡ Some f → is_wanted s f lines ≡ true
  by_begun a None h f e = absurd (cc)
  by_begun a (Some b) h f e = h f (begun_wants b (operation_at s a b.index) f e)

  read_wants : AreWanted s lines k.standings → (f : ℕ) → family_read k ≡ Some f → is_wanted s f lines ≡ true
  read_wants h f e = by_open (k.history.owes_reset || not k.history.living || is_starting k || is_some k.owed || is_some k.history.announced) e
    where
      by_open : (b : Bool) → (if b then None else first_stale k.standings) ≡ Some f → is_wanted s f lines ≡ true
      by_open true q = absurd (cc)
      by_open false q = first_stale_wanted s lines f k.standings h q

module _ (op : Option Operation) (job : Job) (held : List ℕ) (facts : Facts) (refused : Option RefusedReading) (t : Turn) where
  pub exchanged_family : (o : Option Final) → facts.answered ≡ o → (turn_exchanged op job held facts refused t).family ≡ t.family
  exchanged_family None e = rw e refl
  exchanged_family (Some f) e = rw e refl

abbrev pub TurnWants : Script → List Line → Type 0
TurnWants s lines = (f : ℕ) → (kept_of s lines).turn.family ≡ Some f → is_wanted s f lines ≡ true

module _ (s : Script) (earlier : List Line) (h : TurnWants s earlier) where
  abbrev was : Kept
  was = kept_of s earlier

  line_wanted : (l : Line) → TurnWants s (l ∷ earlier)
  line_wanted (line.Turn zero) f e = wanted_later s f (line.Turn zero) earlier (read_wants s earlier was (standings_wanted s earlier) f e)
  line_wanted (line.Turn (suc a)) f e = wanted_later s f (line.Turn (suc a)) earlier (by_begun s earlier was (suc a) (begun_of (suc a) was.jobs) (jobs_want s earlier (suc a)) f e)
  line_wanted (line.Begin a i) f e = wanted_now s f (line.Begin a i) earlier (begun_wants s earlier was (fresh_begun i was.history) (operation_at s a i) f e)
  line_wanted (line.Exchange a c r) f e =
      let l : Line = line.Exchange a c r in
      let facts : Facts = facts_of s l was in
      wanted_later s f l earlier (h f (sym (exchanged_family (operation_now s a was.jobs) (job_of a (kept_of s (l ∷ earlier)).jobs) (held_numbers was.history was.handles) facts (refused_of was.selected (jobs_beside l was.history.epoch facts was.selected was.jobs) facts.answered) was.turn facts.answered refl) ∙ e))
  line_wanted (line.Failed a c d) f e = wanted_later s f (line.Failed a c d) earlier (h f e)
  line_wanted (line.Reset a) f e = wanted_later s f (line.Reset a) earlier (h f e)
  line_wanted (line.ResetFailed a) f e = wanted_later s f (line.ResetFailed a) earlier (h f e)
  line_wanted (line.World a w) f e = wanted_later s f (line.World a w) earlier (h f e)
  line_wanted (line.Published n g v w text) f e = wanted_later s f (line.Published n g v w text) earlier (h f e)
  line_wanted (line.EpochEnd n v w) f e = wanted_later s f (line.EpochEnd n v w) earlier (h f e)
  line_wanted (line.Refused g n) f e = wanted_later s f (line.Refused g n) earlier (h f e)
  line_wanted (line.Answered a i given) f e = absurd (cc)

-- what a turn may publish is wanted
pub turn_wants : (s : Script) (lines : List Line) → TurnWants s lines
turn_wants s [] f e = absurd (cc)
turn_wants s (l ∷ earlier) f e = line_wanted s earlier (turn_wants s earlier) l f e
