-- One line more, in the parts of a hub.
use Rattle.std.proofs.Common.{◌≡◌, ◌<◌, ◌≤◌, ◌+◌, arith, ℕ, suc, length, Bool, true, false, List, [], ◌∷◌, Option, Some, None, IfSome, refl, sym, ap, ◌∙◌, subst}
use Rattle.std.proofs.lemmas.Bool.{false≢true}
use Rattle.card_model.specs.declared.world.World.{World}
use Rattle.card_model.specs.Slot.{Plan, StaysTold}
use Rattle.epoch_cache.specs.Past.{counted}
use Rattle.script_reader.specs.declared.types.Script.{Script}
use Rattle.report.specs.Room.{LinesRoom}
use Rattle.report.specs.declared.line.Line.{Line}
use Rattle.rules.specs.declared.kept.Kept.{Kept}
use Rattle.rules.specs.History.{is_call, is_event}
use Rattle.rules.specs.Due.{due}
use Rattle.rules.specs.declared.due.Due.{Due}
use Rattle.rules.specs.After.{decision_at, is_mark, kept_after, kept_of}
use Rattle.planner.specs.Room.{is_new_attempt}
use Rattle.watched_tracker.specs.Asked.{masks_asked}
use Rattle.watched_tracker.specs.Watched.{WatchedValue, keeping}
use Rattle.hub.specs.Short.{are_short}
use Rattle.hub.proofs.Edits.{has_row, short_after}
use Rattle.rules.specs.State.{world_after}
use Rattle.performed.specs.Followed.{is_followed}
use Rattle.performed.specs.Told.{is_told}
use Rattle.performed.proofs.TurnsKept.{goes_on}
use Rattle.hub.specs.Parts.{Parts}
use Rattle.hub.specs.Settled.{AreServed, BreaksBehind, HasLine, HasOneMore, KeepsAll, IsPlanOf, IsTied, IsWorldOf}

-- what a line does to the world and to the plan of the slot, where these are told
pub record IsPlayed (s : Script) (k : Kept) (l : Line) (w v : Option World) (p q : Option Plan) : Type 0 where
  pub tells : StaysTold w v
  pub tells_plan : StaysTold p q
  pub shows : IfSome w (λ x. (v ≡ Some (world_after l x)) × (is_told s x k l ≡ true))
  pub counts : IfSome p (λ x. q ≡ Some (record { faults = x.faults; calls = counted (is_call l) x.calls }))

world_on : (s : Script) (lines : List Line) (l : Line) (w v : Option World) → IfSome w (IsWorldOf s lines) → StaysTold w v → IfSome w (λ x. (v ≡ Some (world_after l x)) × (is_told s x (kept_of s lines) l ≡ true)) → IfSome v (IsWorldOf s (l ∷ lines))
world_on s lines l None None a t g = tt
world_on s lines l None (Some y) a t g = absurd (false≢true (sym t))
world_on s lines l (Some x) v a t g =
    subst (λ (o : Option World). IfSome o (IsWorldOf s (l ∷ lines))) (sym g.0) (record {
      world = ap (world_after l) a.world;
      told = rw (a.told) (subst (λ (y : World). is_told s y (kept_of s lines) l ≡ true) a.world g.1);
    })

plan_on : (s : Script) (lines : List Line) (l : Line) (p q : Option Plan) → IfSome p (IsPlanOf s (kept_of s lines)) → StaysTold p q → IfSome p (λ x. q ≡ Some (record { faults = x.faults; calls = counted (is_call l) x.calls })) → IfSome q (IsPlanOf s (kept_of s (l ∷ lines)))
plan_on s lines l None None a t g = tt
plan_on s lines l None (Some y) a t g = absurd (false≢true (sym t))
plan_on s lines l (Some x) q a t g =
    subst (λ (o : Option Plan). IfSome o (IsPlanOf s (kept_of s (l ∷ lines)))) (sym g) (record {
      faults = a.faults;
      calls = ap (counted (is_call l)) a.calls;
    })

pub served_on : (s : Script) (lines : List Line) (l : Line) (w v : Option World) (p q : Option Plan) → AreServed s lines w p → is_followed s (kept_of s lines) l ≡ true → IsPlayed s (kept_of s lines) l w v p q → AreServed s (l ∷ lines) v q
served_on s lines l w v p q a f g = record {
  rules = a.rules;
  served = a.served;
  followed = rw (a.followed) f;
  world = world_on s lines l w v a.world g.tells g.shows;
  plan = plan_on s lines l p q a.plan g.tells_plan g.counts;
}

-- what is kept, with the masks
abbrev pub watched : Parts → WatchedValue
watched p = record { kept = p.kept; masks = p.masks }

pub has_line : (p : Parts) (room : LinesRoom) (u : WatchedValue) (v : Option World) (q : Option Plan) (l : Line) → IsTied p → is_followed p.script p.kept l ≡ true → room.lines ≡ l ∷ p.lines.lines → room.spare + 1 ≡ p.lines.spare → u ≡ keeping (kept_after p.script l p.kept) (watched p) → is_new_attempt (decision_at p.script l p.kept).attempt ≡ true → has_row l ≡ true → IsPlayed p.script p.kept l p.world v p.plan q → HasLine l p (record { script = p.script; lines = room; kept = u.kept; masks = u.masks; world = v; plan = q })
has_line p room u v q l t f lines spare same new row played = let kept = ap (λ (x : WatchedValue). x.kept) same in record {
  stays = record { script = refl; world = played.tells; plan = played.tells_plan };
  tied = record {
    kept = kept ∙ ap (kept_after p.script l) t.kept ∙ sym (ap (kept_of p.script) lines);
    masks = ap (λ (x : WatchedValue). x.masks) same ∙ t.masks;
    lines = subst (λ (x : List Line). AreServed p.script x v q) (sym lines) (served_on p.script p.lines.lines l p.world v p.plan q t.lines (subst (λ (x : Kept). is_followed p.script x l ≡ true) t.kept f) (subst (λ (x : Kept). IsPlayed p.script x l p.world v p.plan q) t.kept played));
    short = ap (λ (x : List Line). are_short (length x) u.kept.jobs) lines ∙ ap (λ (x : Kept). are_short (length (l ∷ p.lines.lines)) x.jobs) kept ∙ longer (short_after (length p.lines.lines) p.script l p.kept new row t.short);
  };
  lines = lines;
  spare = omega arith;
}
  where
    longer : are_short (suc (length p.lines.lines)) (kept_after p.script l p.kept).jobs ≡ true → are_short (length (l ∷ p.lines.lines)) (kept_after p.script l p.kept).jobs ≡ true
    longer h = h

pub one_more : (p q : Parts) (l : Line) → HasLine l p q → is_mark l ≡ false → HasOneMore p q
one_more p q l h own = record { line = l; has = h; own = own }

-- ---- where the slot is not asked

shows_quiet : (s : Script) (k : Kept) (l : Line) (w : Option World) → ((x : World) → world_after l x ≡ x) → IfSome w (λ x. is_told s x k l ≡ true) → IfSome w (λ x. (w ≡ Some (world_after l x)) × (is_told s x k l ≡ true))
shows_quiet s k l None same t = tt
shows_quiet s k l (Some x) same t = (ap (λ (y : World). Some y) (sym (same x)), t)

counts_quiet : (l : Line) (p : Option Plan) → is_call l ≡ false → IfSome p (λ x. p ≡ Some (record { faults = x.faults; calls = counted (is_call l) x.calls }))
counts_quiet l None c = tt
counts_quiet l (Some x) c = rw c refl

pub quiet : (s : Script) (k : Kept) (l : Line) (w : Option World) (p : Option Plan) → ((x : World) → world_after l x ≡ x) → IfSome w (λ x. is_told s x k l ≡ true) → is_call l ≡ false → IsPlayed s k l w w p p
quiet s k l w p same t c = record { tells = refl; tells_plan = refl; shows = shows_quiet s k l w same t; counts = counts_quiet l p c }

-- what holds of every world
pub of_all : {P : World → Type 0} (w : Option World) → ((x : World) → P x) → IfSome w P
of_all None h = tt
of_all (Some x) h = h x

-- the same of a line that the slot has no part in
pub one_quiet : (p : Parts) (room : LinesRoom) (u : WatchedValue) (l : Line) → IsTied p → is_followed p.script p.kept l ≡ true → room.lines ≡ l ∷ p.lines.lines → room.spare + 1 ≡ p.lines.spare → u ≡ keeping (kept_after p.script l p.kept) (watched p) → is_new_attempt (decision_at p.script l p.kept).attempt ≡ true → has_row l ≡ true → ((x : World) → world_after l x ≡ x) → IfSome p.world (λ x. is_told p.script x p.kept l ≡ true) → is_call l ≡ false → is_mark l ≡ false → HasOneMore p (record { script = p.script; lines = room; kept = u.kept; masks = u.masks; world = p.world; plan = p.plan })
one_quiet p room u l t f lines spare kept new row same told call own =
    one_more p (record { script = p.script; lines = room; kept = u.kept; masks = u.masks; world = p.world; plan = p.plan }) l
    (has_line p room u p.world p.plan l t f lines spare kept new row (quiet p.script p.kept l p.world p.plan same told call)) own

-- ---- where memory ran out behind an event

event_counts : (s : Script) (l : Line) (lines : List Line) → is_event l ≡ true → (kept_of s (l ∷ lines)).history.events ≡ (kept_of s lines).history.events + 1
event_counts s l lines e = ap (λ (b : Bool). counted b (kept_of s lines).history.events) e

pub broke_behind : (p : Parts) (room : LinesRoom) (k : Kept) (ms : List (Option ℕ)) (v : Option World) (q : Option Plan) (l : Line) → IsTied p → room.lines ≡ l ∷ p.lines.lines → is_event l ≡ true → is_mark l ≡ false → StaysTold p.world v → StaysTold p.plan q → BreaksBehind p.kept.history.events p (record { script = p.script; lines = room; kept = k; masks = ms; world = v; plan = q })
broke_behind p room k ms v q l t lines e own tells tells_plan =
    let same : p.kept.history.events ≡ (kept_of p.script p.lines.lines).history.events = ap (λ (x : Kept). x.history.events) t.kept in
    let more = event_counts p.script l p.lines.lines e in
    record {
      stays = record { script = refl; world = tells; plan = tells_plan };
      added = l ∷ [];
      lines = lines;
      own = rw own refl;
      event = subst (λ (x : List Line). p.kept.history.events < (kept_of p.script x).history.events) (sym lines) (omega arith);
    }

-- the same of a line behind an event of the turn
pub broke_after : (p : Parts) (room : LinesRoom) (k : Kept) (ms : List (Option ℕ)) (v : Option World) (q : Option Plan) (l : Line) (events : ℕ) → IsTied p → room.lines ≡ l ∷ p.lines.lines → is_mark l ≡ false → StaysTold p.world v → StaysTold p.plan q → events < p.kept.history.events → BreaksBehind events p (record { script = p.script; lines = room; kept = k; masks = ms; world = v; plan = q })
broke_after p room k ms v q l events t lines own tells tells_plan moved =
    let same : p.kept.history.events ≡ (kept_of p.script p.lines.lines).history.events = ap (λ (x : Kept). x.history.events) t.kept in
    let more = (goes_on p.script l (kept_of p.script p.lines.lines)).events in
    record {
      stays = record { script = refl; world = tells; plan = tells_plan };
      added = l ∷ [];
      lines = lines;
      own = rw own refl;
      event = subst (λ (x : List Line). events < (kept_of p.script x).history.events) (sym lines) (omega arith);
    }

-- since fewer events
pub broke_since : (p q : Parts) (events later : ℕ) → events ≤ later → BreaksBehind later p q → BreaksBehind events p q
broke_since p q events later h b =
    let event = b.event in
    record { stays = b.stays; added = b.added; lines = b.lines; own = b.own; event = omega arith }

-- ---- where only the room changed

served_kept : (p q : Parts) → KeepsAll p q → AreServed p.script p.lines.lines p.world p.plan → AreServed q.script q.lines.lines q.world q.plan
served_kept p q h t =
    subst (λ (s : Script). AreServed s q.lines.lines q.world q.plan) (sym h.script)
    (subst (λ (x : List Line). AreServed p.script x q.world q.plan) (sym h.lines)
    (subst (λ (w : Option World). AreServed p.script p.lines.lines w q.plan) (sym h.world)
    (subst (λ (o : Option Plan). AreServed p.script p.lines.lines p.world o) (sym h.plan) t)))

pub tied_kept : (p q : Parts) → KeepsAll p q → IsTied p → IsTied q
tied_kept p q h t = record {
  kept = h.kept ∙ t.kept ∙ ap (λ (s : Script). kept_of s p.lines.lines) (sym h.script) ∙ ap (kept_of q.script) (sym h.lines);
  masks = h.masks ∙ t.masks ∙ ap masks_asked (sym h.script);
  lines = served_kept p q h t.lines;
  short = ap (λ (k : Kept). are_short (length q.lines.lines) k.jobs) h.kept ∙ ap (λ (x : List Line). are_short (length x) p.kept.jobs) h.lines ∙ t.short;
}

pub one_more_kept : (p r q : Parts) → KeepsAll p r → HasOneMore r q → HasOneMore p q
one_more_kept p r q h m =
    let grown = h.spare in
    let taken = m.has.spare in
    record {
      line = m.line;
      has = record {
        stays = record {
          script = m.has.stays.script ∙ h.script;
          world = subst (λ (w : Option World). StaysTold w q.world) h.world m.has.stays.world;
          plan = subst (λ (o : Option Plan). StaysTold o q.plan) h.plan m.has.stays.plan;
        };
        tied = m.has.tied;
        lines = m.has.lines ∙ ap (λ (x : List Line). m.line ∷ x) h.lines;
        spare = omega arith;
      };
      own = m.own;
    }

pub plan_now : (p : Parts) → IsTied p → IfSome p.plan (IsPlanOf p.script p.kept)
plan_now p t = subst (λ (k : Kept). IfSome p.plan (IsPlanOf p.script k)) (sym t.kept) t.lines.plan

pub due_kept : (p q : Parts) (d : Due) → KeepsAll p q → due p.script p.kept ≡ d → due q.script q.kept ≡ d
due_kept p q d h e = ap (λ (s : Script). due s q.kept) h.script ∙ ap (due p.script) h.kept ∙ e
