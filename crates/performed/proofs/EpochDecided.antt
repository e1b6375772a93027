-- An edit that has decided stays so, behind each line that leaves its epoch alive and does not answer it; and where nothing is open there is
-- none.
use Rattle.std.proofs.Common.{◌≡◌, ℕ, zero, suc, ◌+◌, ◌||◌, Bool, true, false, if◌then◌else◌, Option, Some, None, is_some, List, [], ◌∷◌, refl, sym, ap, ◌∙◌, subst, true≢false}
use Rattle.std.specs.Prelude.{is_none}
use Rattle.std.specs.List.{list_any}
use Rattle.std.proofs.lemmas.Bool.{eqb-true}
use Rattle.apdu.specs.Values.{CommandValue, ResponseValue}
use Rattle.apdu.specs.Apdu.{is_update_ins}
use Rattle.script_reader.specs.declared.types.Script.{Script}
use Rattle.report.specs.declared.answer.Answer.{Answer}
use Rattle.report.specs.declared.line.Line.{Line}
use Rattle.report.specs.declared.line.Line.TheVariants as line
use Rattle.adn.specs.declared.edit.Edit.{Edit}
use Rattle.families.specs.Families.{family_path}
use Rattle.link.specs.declared.chain.Chain.{Chain}
use Rattle.link.specs.Commands.{is_at}
use Rattle.epoch_cache.specs.Cache.{is_update}
use Rattle.editor.specs.declared.editing.Attempt.{Attempt}
use Rattle.editor.specs.declared.editing.Decided.{Decided}
use Rattle.editor.specs.declared.editing.Editing.{Editing}
use Rattle.editor.specs.Editing.{decided_by, extended_by, updated_by, with_attempt, sent_update}
use Rattle.rules.specs.declared.kept.Begun.{Begun}
use Rattle.rules.specs.declared.kept.Job.{Job}
use Rattle.rules.specs.declared.kept.Kept.{Kept}
use Rattle.rules.specs.History.{lives_in}
use Rattle.rules.specs.Kept.{begun_of, operation_at, operation_now}
use Rattle.rules.specs.Work.{has_begun}
use Rattle.rules.specs.After.{begun_exchanged, begun_with, decision_at, edit_of, editing_answered, editing_sent, kept_after}
use Rattle.performed.specs.Followed.{is_followed}
use Rattle.performed.proofs.EditsBegun.{near, begun_stays, begun_exchanges, begun_marks}
use Rattle.performed.proofs.TurnsJobs.{is_own}
use Rattle.performed.proofs.TurnsSays.{begins_now}

-- an edit of the family that has begun and decided, in an epoch that lives
pub record IsDecided (s : Script) (k : Kept) (i f : ℕ) : Type 0 where
  pub begun : Begun
  pub here : begun_of i k.jobs ≡ Some begun
  pub edit : Edit
  pub op : edit_of (operation_at s i begun.index) ≡ Some (f, edit)
  pub decided : is_some begun.editing.decided ≡ true
  pub lives : lives_in k.history begun.epoch ≡ true

-- ---- what was decided stays

pub with_decided : (o : Option Attempt) (e : Editing) → (with_attempt o e).decided ≡ e.decided
with_decided None e = refl
with_decided (Some a) e = refl

pub sent_decided : (c : CommandValue) (o : Option Chain) (e : Editing) → (editing_sent c o e).decided ≡ e.decided
sent_decided c (Some chain) e = refl
sent_decided c None e = by_update (is_update_ins c.ins)
  where
    by_update : (b : Bool) → (if b then sent_update e else e).decided ≡ e.decided
    by_update true = refl
    by_update false = refl

extends_decided : (c : CommandValue) (o : Option Decided) (e : Editing) → is_some o ≡ true → is_some (extended_by c o e).decided ≡ true
extends_decided c None e h = absurd (true≢false (sym h))
extends_decided c (Some d) e h = refl

updates_decided : (f : ℕ) (selected : Option (List ℕ)) (event : ℕ) (c : CommandValue) (e : Editing) → is_some e.decided ≡ true → is_some (updated_by f selected event c e).decided ≡ true
updates_decided f selected event c e h = by_main (is_at selected (family_path f 0))
  where
    by_main : (b : Bool) → is_some (if b then decided_by event c e else extended_by c e.decided e).decided ≡ true
    by_main true = refl
    by_main false = extends_decided c e.decided e h

answers_decided : (o : Option (ℕ × Edit)) (selected : Option (List ℕ)) (event : ℕ) (c : CommandValue) (r : ResponseValue) (e : Editing) → is_some e.decided ≡ true → is_some (editing_answered o selected event c r e).decided ≡ true
answers_decided None selected event c r e h = h
answers_decided (Some (g, ed)) selected event c r e h = by_update (is_update c r)
  where
    by_update : (b : Bool) → is_some (if b then updated_by g selected event c e else e).decided ≡ true
    by_update true = updates_decided g selected event c e h
    by_update false = h

module _ (s : Script) (k : Kept) (i f : ℕ) (t : IsDecided s k i f) where
  abbrev Behind : Line → Type 0
  Behind l = IsDecided s (kept_after s l k) i f

  -- the framework edits nothing
  not_framework : i ≡ 0 → ⊥
  not_framework e = absurd (let none : edit_of (operation_at s 0 t.begun.index) ≡ Some (f, t.edit) = ap (λ (j : ℕ). edit_of (operation_at s j t.begun.index)) (sym e) ∙ t.op in cc)

  behind_by : (l : Line) (now : Begun) → begun_of i (kept_after s l k).jobs ≡ Some now → now.index ≡ t.begun.index → now.epoch ≡ t.begun.epoch → is_some now.editing.decided ≡ true → lives_in (kept_after s l k).history t.begun.epoch ≡ true → Behind l
  behind_by l now here index epoch decided lives = record {
    begun = now;
    here = here;
    edit = t.edit;
    op = ap (λ (n : ℕ). edit_of (operation_at s i n)) index ∙ t.op;
    decided = decided;
    lives = ap (lives_in (kept_after s l k).history) epoch ∙ lives;
  }

  of_other : (l : Line) → is_own i l ≡ false → lives_in (kept_after s l k).history t.begun.epoch ≡ true → Behind l
  of_other l other lives = behind_by l (near s l k t.begun) (begun_stays s l k i t.begun other t.here) refl refl t.decided lives

  marked : (a : ℕ) → a ≡ i → lives_in (kept_after s (line.Turn a) k).history t.begun.epoch ≡ true → Behind (line.Turn a)
  marked zero e lives = absurd (not_framework (sym e))
  marked (suc a) e lives =
      let here : begun_of (suc a) k.jobs ≡ Some t.begun = ap (λ (j : ℕ). begun_of j k.jobs) e ∙ t.here in
      let l : Line = line.Turn (suc a) in
      behind_by l (begun_with (decision_at s l k).attempt (near s l k t.begun))
      (ap (λ (j : ℕ). begun_of j (kept_after s l k).jobs) (sym e) ∙ begun_marks s k a t.begun here) refl refl
      (ap is_some (with_decided (decision_at s l k).attempt (near s l k t.begun).editing) ∙ t.decided) lives

  exchanged : (a : ℕ) (c : CommandValue) (r : ResponseValue) → a ≡ i → lives_in (kept_after s (line.Exchange a c r) k).history t.begun.epoch ≡ true → Behind (line.Exchange a c r)
  exchanged a c r e lives =
      let here : begun_of a k.jobs ≡ Some t.begun = ap (λ (j : ℕ). begun_of j k.jobs) e ∙ t.here in
      let l : Line = line.Exchange a c r in
      let old : Begun = near s l k t.begun in
      behind_by l (begun_exchanged (edit_of (operation_now s a k.jobs)) k.selected k.chain (k.history.events + 1) c r old)
      (ap (λ (j : ℕ). begun_of j (kept_after s l k).jobs) (sym e) ∙ begun_exchanges s k a c r t.begun here) refl refl
      (answers_decided (edit_of (operation_now s a k.jobs)) k.selected (k.history.events + 1) c r (editing_sent c k.chain old.editing) (ap is_some (sent_decided c k.chain old.editing) ∙ t.decided)) lives

  -- no epoch lives behind a call that failed
  failed : (a : ℕ) (c : CommandValue) (d : Bool) (o : Option ℕ) → lives_in (kept_after s (line.Failed a c d) k).history o ≡ true → ⊥
  failed a c d None h = true≢false (sym h)
  failed a c d (Some epoch) h = true≢false (sym h)

  own_by : (l : Line) → ((n : ℕ) (given : Answer) → l ≡ line.Answered i n given → ⊥) → ((n : ℕ) → l ≡ line.Begin i n → ⊥) → is_own i l ≡ true → lives_in (kept_after s l k).history t.begun.epoch ≡ true → Behind l
  own_by (line.Turn a) answers begins own lives = marked a (eqb-true a i own) lives
  own_by (line.Begin a n) answers begins own lives = absurd (begins n (ap (λ (j : ℕ). line.Begin j n) (eqb-true a i own)))
  own_by (line.Exchange a c r) answers begins own lives = exchanged a c r (eqb-true a i own) lives
  own_by (line.Failed a c d) answers begins own lives = absurd (failed a c d t.begun.epoch lives)
  own_by (line.Answered a n given) answers begins own lives = absurd (answers n given (ap (λ (j : ℕ). line.Answered j n given) (eqb-true a i own)))
  own_by (line.Reset a) answers begins own lives = absurd (true≢false (sym own))
  own_by (line.ResetFailed a) answers begins own lives = absurd (true≢false (sym own))
  own_by (line.World a e) answers begins own lives = absurd (true≢false (sym own))
  own_by (line.Published n g e v text) answers begins own lives = absurd (true≢false (sym own))
  own_by (line.EpochEnd n e v) answers begins own lives = absurd (true≢false (sym own))
  own_by (line.Refused g n) answers begins own lives = absurd (true≢false (sym own))

  pub decided_stays : (l : Line) → ((n : ℕ) (given : Answer) → l ≡ line.Answered i n given → ⊥) → ((n : ℕ) → l ≡ line.Begin i n → ⊥) → lives_in (kept_after s l k).history t.begun.epoch ≡ true → Behind l
  decided_stays l answers begins lives = by_test (is_own i l) refl
    where
      by_test : (b : Bool) → is_own i l ≡ b → Behind l
      by_test true e = own_by l answers begins e lives
      by_test false e = of_other l e lives

-- where it is due: only its answer ends it
pub begin_free : (s : Script) (k : Kept) (i n : ℕ) (b : Begun) → is_followed s k (line.Begin i n) ≡ true → begun_of i k.jobs ≡ Some b → ⊥
begin_free s k i n b h here =
    let x = begins_now s k i n h in
    true≢false (sym (ap (λ (j : ℕ). is_none (begun_of j k.jobs)) x.same ∙ x.begins.free) ∙ ap is_none here)

pub decided_behind : (s : Script) (k : Kept) (l : Line) (i f : ℕ) (t : IsDecided s k i f) → is_followed s k l ≡ true → ((n : ℕ) (given : Answer) → l ≡ line.Answered i n given → ⊥) → lives_in (kept_after s l k).history t.begun.epoch ≡ true → IsDecided s (kept_after s l k) i f
decided_behind s k l i f t h answers lives =
    decided_stays s k i f t l answers (λ n e. begin_free s k i n t.begun (subst (λ (x : Line). is_followed s k x ≡ true) e h) t.here) lives

-- ---- where nothing is begun

begun_has : (jobs : List Job) (i : ℕ) (b : Begun) → begun_of i jobs ≡ Some b → list_any has_begun jobs ≡ true
begun_has [] i b h = absurd (cc)
begun_has (x ∷ jobs) zero b h = ap (λ (o : Option Begun). is_some o || list_any has_begun jobs) h
begun_has (x ∷ jobs) (suc i) b h = later (has_begun x) (begun_has jobs i b h)
  where
    later : (t : Bool) → list_any has_begun jobs ≡ true → (t || list_any has_begun jobs) ≡ true
    later true e = refl
    later false e = e

pub none_decided : (s : Script) (k : Kept) (i f : ℕ) → list_any has_begun k.jobs ≡ false → IsDecided s k i f → ⊥
none_decided s k i f h t = true≢false (sym (begun_has k.jobs i t.begun t.here) ∙ h)
