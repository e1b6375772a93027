-- What the first line of an operation decides was decided before the turn.
use Rattle.std.proofs.Common.{◌≡◌, ℕ, suc, true, List, Option, Some, None, is_none, refl, sym, ap, ◌∙◌, subst, true≢false}
use Rattle.std.specs.Prelude.{option_map}
use Rattle.script_reader.specs.declared.types.Script.{Script}
use Rattle.script_reader.specs.declared.types.Operation.{Operation}
use Rattle.script_reader.specs.declared.types.Operation.TheVariants as operation
use Rattle.report.specs.declared.line.Line.{Line}
use Rattle.report.specs.declared.line.Line.TheVariants as line
use Rattle.epoch_cache.specs.declared.cached.CachedFile.{CachedFile}
use Rattle.epoch_cache.specs.declared.past.Past.{Past}
use Rattle.rules.specs.declared.due.Due.{Due}
use Rattle.rules.specs.declared.due.Due.TheVariants.{TellEnd as tell_end, Send as send, ResetCard as reset_card, TryEvent as try_event, TellRefusal as tell_refusal, Publish as publish, Give as give, Begin as begin, WaitFor as wait_for, EndOfActor as end_of_actor, Rest as rest}
use Rattle.rules.specs.declared.holdings.Handle.{Handle}
use Rattle.rules.specs.declared.holdings.Session.{Session}
use Rattle.rules.specs.declared.kept.Begun.{Begun}
use Rattle.rules.specs.declared.kept.Decision.{Decision}
use Rattle.rules.specs.declared.kept.Kept.{Kept}
use Rattle.rules.specs.Kept.{begun_of, job_of, operation_at}
use Rattle.rules.specs.After.{decision_at, decision_of_begun, fresh_begun, kept_after}
use Rattle.rules.specs.Due.{due}
use Rattle.rules.specs.Work.{work_of_operation}
use Rattle.planner.specs.Room.{is_new_attempt}
use Rattle.performed.proofs.ProgressMarks.{all_kept, same_work, seen_of}
use Rattle.performed.proofs.TurnsSays.{begins_now}
use Rattle.performed.proofs.TurnsPhase.{some_number}
use Rattle.hub.specs.Decided.{IsBegun, IsDecision, IsSomeDecision, MayBegin}
use Rattle.hub.proofs.Follows.{begin_follows}

-- what is kept with these parts, and nothing else
record Parts : Type 0 where
  history : Past
  files : List CachedFile
  handles : List Handle
  sessions : List Session

abbrev parts_of : Kept → Parts
parts_of k = record { history = k.history; files = k.files; handles = k.handles; sessions = k.sessions }

abbrev with_parts : Kept → Parts → Kept
with_parts k p = record k { history = p.history; files = p.files; handles = p.handles; sessions = p.sessions }

-- a fresh operation's work is of these parts alone
work_by : (k j : Kept) (p : Parts) (a i : ℕ) (op : Operation) → work_of_operation (with_parts k p) a (fresh_begun i p.history) op ≡ work_of_operation (with_parts j p) a (fresh_begun i p.history) op
work_by k j p a i (operation.Insert card) = refl
work_by k j p a i operation.Out = refl
work_by k j p a i (operation.Arm change) = refl
work_by k j p a i (operation.Load f) = refl
work_by k j p a i (operation.Set f at name number) = refl
work_by k j p a i (operation.Clear f at) = refl
work_by k j p a i (operation.OpenChannel handle aid) = refl
work_by k j p a i (operation.Raw handle apdu) = refl
work_by k j p a i (operation.Close handle) = refl
work_by k j p a i (operation.Verify key pin) = refl
work_by k j p a i (operation.End key) = refl
work_by k j p a i operation.Poll = refl
work_by k j p a i operation.Look = refl
work_by k j p a i (operation.Watch mask) = refl
work_by k j p a i operation.Notices = refl

decision_by : (k j : Kept) (p : Parts) (a i : ℕ) (op : Option Operation) → decision_of_begun (with_parts k p) a (Some (fresh_begun i p.history)) op ≡ decision_of_begun (with_parts j p) a (Some (fresh_begun i p.history)) op
decision_by k j p a i None = refl
decision_by k j p a i (Some op) = work_by k j p a i op

same_decision : (s : Script) (k j : Kept) (a i : ℕ) → parts_of k ≡ parts_of j → decision_at s (line.Begin a i) k ≡ decision_at s (line.Begin a i) j
same_decision s k j a i e =
    ap (λ (p : Parts). decision_of_begun (with_parts k p) a (Some (fresh_begun i p.history)) (operation_at s a i)) e
    ∙ decision_by k j (parts_of j) a i (operation_at s a i)

same_parts : (s : Script) (k : Kept) (a : ℕ) → parts_of (kept_after s (line.Turn a) k) ≡ parts_of k
same_parts s k a = ap (λ (files : List CachedFile). let p : Parts = record { history = k.history; files = files; handles = k.handles; sessions = k.sessions } in p) (all_kept k.files)

unseen : (o p : Option Begun) → option_map seen_of o ≡ option_map seen_of p → o ≡ None → p ≡ None
unseen None None e h = refl
unseen None (Some b) e h = absurd (cc)
unseen (Some b) p e h = absurd (cc)

some_on : (s : Script) (k j : Kept) (a i n : ℕ) (d : Option Decision) → parts_of j ≡ parts_of k → n ≡ i → IsSomeDecision s (line.Begin a i) k d → IsSomeDecision s (line.Begin a n) j d
some_on s k j a i n None same e h = h
some_on s k j a i n (Some d) same e h = record {
  value = h.value ∙ sym (same_decision s j k a i same) ∙ ap (λ m. decision_at s (line.Begin a m) j) (sym e);
  new = h.new;
}

-- behind the mark of the turn
pub may_behind : (s : Script) (k : Kept) (a : ℕ) (d : Option Decision) → MayBegin s k a d → MayBegin s (kept_after s (line.Turn a) k) a d
may_behind s k a d h =
    let w = (same_work s k a).jobs a in
    λ none. some_on s k (kept_after s (line.Turn a) k) a (job_of a k.jobs).answered (job_of a (kept_after s (line.Turn a) k).jobs).answered d (same_parts s k a) w.answered (h (unseen _ _ w.begun none))

none_of : {A : Type 0} (o : Option A) → is_none o ≡ true → o ≡ None
none_of None h = refl
none_of (Some x) h = absurd (true≢false (sym h))

-- the line that begins an operation is directly behind the mark
begun_by : (s : Script) (k : Kept) (a i : ℕ) (d : Option Decision) → k.turn.actor ≡ Some a → due s k ≡ begin i → (k.turn.bare ≡ true → MayBegin s k a d) → IsSomeDecision s (line.Begin a i) k d
begun_by s k a i d actor h may =
    let now = begins_now s k a i (begin_follows s k a actor i h) in
    let at : a ≡ suc now.begins.actor = some_number a (suc now.begins.actor) (sym actor ∙ now.begins.turn) in
    let free : begun_of a k.jobs ≡ None = ap (λ (n : ℕ). begun_of n k.jobs) at ∙ none_of (begun_of (suc now.begins.actor) k.jobs) now.begins.free in
    let index : i ≡ (job_of a k.jobs).answered = now.begins.index ∙ ap (λ (n : ℕ). (job_of n k.jobs).answered) (sym at) in
    subst (λ (n : ℕ). IsSomeDecision s (line.Begin a n) k d) (sym index) (may now.begins.bare free)

pub is_begun : (s : Script) (k : Kept) (a : ℕ) (l : Due) (d : Option Decision) → k.turn.actor ≡ Some a → due s k ≡ l → (k.turn.bare ≡ true → MayBegin s k a d) → IsBegun s a k l d
is_begun s k a (begin i) d actor h may = begun_by s k a i d actor h may
is_begun s k a (tell_end e n) d actor h may = tt
is_begun s k a (send c) d actor h may = tt
is_begun s k a reset_card d actor h may = tt
is_begun s k a (try_event e) d actor h may = tt
is_begun s k a (tell_refusal f n) d actor h may = tt
is_begun s k a (publish f) d actor h may = tt
is_begun s k a (give x) d actor h may = tt
is_begun s k a (wait_for b) d actor h may = tt
is_begun s k a end_of_actor d actor h may = tt
is_begun s k a rest d actor h may = tt

-- the attempt that it begins, if any, is new
pub new_attempt : (s : Script) (l : Line) (k : Kept) (d : Decision) → IsDecision s l k d → is_new_attempt (decision_at s l k).attempt ≡ true
new_attempt s l k d h = ap (λ (x : Decision). is_new_attempt x.attempt) (sym h.value) ∙ h.new

pub decided_new : (s : Script) (l : Line) (k : Kept) (o : Option Decision) (d : Decision) → IsSomeDecision s l k o → o ≡ Some d → is_new_attempt (decision_at s l k).attempt ≡ true
decided_new s l k o d h e = new_attempt s l k d (subst (IsSomeDecision s l k) e h)
