-- An edit that has decided began in an epoch.
use Rattle.std.proofs.Common.{◌≡◌, ℕ, ◌+◌, Bool, true, false, if◌then◌else◌, Option, Some, None, is_some, List, [], ◌∷◌, refl, sym, ap, ◌∙◌, subst}
use Rattle.std.proofs.lemmas.Bool.{and_parts}
use Rattle.apdu.specs.Values.{CommandValue, ResponseValue}
use Rattle.apdu.specs.Apdu.{is_update_ins}
use Rattle.script_reader.specs.declared.types.Script.{Script}
use Rattle.script_reader.specs.Rules.{keeps_rules}
use Rattle.report.specs.declared.line.Line.{Line}
use Rattle.report.specs.declared.line.Line.TheVariants as line
use Rattle.adn.specs.declared.edit.Edit.{Edit}
use Rattle.editor.specs.declared.editing.Editing.{Editing}
use Rattle.editor.specs.Editing.{moved_editing, no_editing, lost_update}
use Rattle.families.specs.Families.{family_path}
use Rattle.link.specs.Commands.{is_at}
use Rattle.rules.specs.declared.kept.Begun.{Begun}
use Rattle.rules.specs.declared.kept.Kept.{Kept}
use Rattle.rules.specs.History.{lives_in}
use Rattle.rules.specs.Kept.{actor_count, begun_of, operation_at, operation_now, begun_operation}
use Rattle.rules.specs.After.{edit_of, editing_lost, editing_sent, begun_exchanged, decision_at, facts_of, kept_of}
use Rattle.rules.specs.Laws.{KeptAgrees, PlansForCard}
use Rattle.rules.specs.Rules.{has_right_response}
use Rattle.rules.specs.State.{world_of}
use Rattle.performed.specs.Names.{has_utf8_names}
use Rattle.performed.specs.Followed.{is_followed, are_followed}
use Rattle.performed.specs.Told.{is_told, are_told}
use Rattle.performed.proofs.CalmAnswers.{told_response}
use Rattle.performed.proofs.CalmSends.{never}
use Rattle.performed.proofs.EditsBegun.{near, Came, stays, marks, begins, exchanges, fails, came}
use Rattle.performed.proofs.EditsKept.{How, still, by_raw, by_edit, how, lives_some, raw_edits, own, own_actor}
use Rattle.performed.proofs.EditsOver.{begun_same}
use Rattle.performed.proofs.EditsState.{Edited}
use Rattle.performed.proofs.EditsSteps.{exchanged_same}
use Rattle.performed.proofs.EditsWhole.{edited_of}
use Rattle.performed.proofs.EpochBegun.{first_begun}
use Rattle.performed.proofs.EpochDecided.{with_decided, sent_decided}

abbrev DecidedSince : Script → Kept → Type 0
DecidedSince s k = (i : ℕ) (b : Begun) (f : ℕ) (e : Edit) → begun_of i k.jobs ≡ Some b → edit_of (operation_at s i b.index) ≡ Some (f, e) → is_some b.editing.decided ≡ true → is_some b.epoch ≡ true

-- a lost answer decides nothing
lost_decided : (o : Option (ℕ × Edit)) (selected : Option (List ℕ)) (event : ℕ) (c : CommandValue) (e : Editing) → (editing_lost o selected event c e).decided ≡ e.decided
lost_decided None selected event c e = refl
lost_decided (Some (f, d)) selected event c e = by_update (is_update_ins c.ins)
  where
    by_main : (b : Bool) → (if b then record e { lost = Some event } else e).decided ≡ e.decided
    by_main true = refl
    by_main false = refl

    by_update : (b : Bool) → (if b then lost_update f selected event e else e).decided ≡ e.decided
    by_update true = by_main (is_at selected (family_path f 0))
    by_update false = refl

module _ (agrees : KeptAgrees) (s : Script) (rules : keeps_rules s ≡ true) (served : has_utf8_names s ≡ true) (earlier : List Line) (followed : are_followed s earlier ≡ true) (told : are_told s earlier ≡ true) (t : Edited s (world_of s earlier) (kept_of s earlier)) (before : DecidedSince s (kept_of s earlier)) where
  abbrev k : Kept
  k = kept_of s earlier

  old_since : (i : ℕ) (b old : Begun) (f : ℕ) (e : Edit) → begun_of i k.jobs ≡ Some old → b.index ≡ old.index → b.epoch ≡ old.epoch → b.editing.decided ≡ old.editing.decided → edit_of (operation_at s i b.index) ≡ Some (f, e) → is_some b.editing.decided ≡ true → is_some b.epoch ≡ true
  old_since i b old f e here index epoch decided op h = ap is_some epoch ∙ before i old f e here (ap (λ (n : ℕ). edit_of (operation_at s i n)) (sym index) ∙ op) (sym (ap is_some decided) ∙ h)

  module _ (a : ℕ) (c : CommandValue) (r : ResponseValue) (h : is_followed s k (line.Exchange a c r) ≡ true) (right : has_right_response (world_of s earlier) (line.Exchange a c r) ≡ true) where
    abbrev Sent : ℕ → Begun → Begun
    Sent n old = begun_exchanged (edit_of (operation_now s n k.jobs)) k.selected k.chain (k.history.events + 1) c r (near s (line.Exchange a c r) k old)

    exchanged_since : (i : ℕ) (b old : Begun) (f : ℕ) (e : Edit) → a ≡ i → begun_of i k.jobs ≡ Some old → b ≡ Sent a old → edit_of (operation_at s i b.index) ≡ Some (f, e) → is_some b.editing.decided ≡ true → is_some b.epoch ≡ true
    exchanged_since i b old f e mine here is op d = by_how (how agrees s rules served earlier followed told t a c r h right)
      where
        edits : edit_of (operation_at s i old.index) ≡ Some (f, e)
        edits = ap (λ (x : Begun). edit_of (operation_at s i x.index)) (sym is) ∙ op

        by_how : How agrees s rules served earlier followed told t a c r h right → is_some b.epoch ≡ true
        by_how (still idle) =
            old_since i b old f e here (ap (λ (x : Begun). x.index) is) (ap (λ (x : Begun). x.epoch) is)
            (ap (λ (x : Begun). x.editing.decided) is ∙ ap (λ (x : Editing). x.decided) (exchanged_same (edit_of (operation_now s a k.jobs)) k.selected k.chain (k.history.events + 1) c r (moved_editing (facts_of s (line.Exchange a c r) k).touch old.editing) idle))
            op d
        by_how (by_raw raw) = absurd (raw_edits (operation_now s a k.jobs) f e raw (ap edit_of (ap (λ (n : ℕ). operation_now s n k.jobs) mine ∙ ap (begun_operation s i) here) ∙ edits))
        by_how (by_edit x) =
            let o = own agrees s rules served earlier followed told t a c r h right x.work in
            let who : o.who ≡ i = own_actor agrees s rules served earlier followed told t a c r h right x.work ∙ mine in
            let begun : o.begun ≡ old = begun_same o.begun old (sym o.here ∙ ap (λ (n : ℕ). begun_of n k.jobs) who ∙ here) in
            lives_some k.history b.epoch (ap (lives_in k.history) (ap (λ (y : Begun). y.epoch) is ∙ sym (ap (λ (y : Begun). y.epoch) begun)) ∙ o.write.lives)

  line_since : (l : Line) → is_followed s k l ≡ true → is_told s (world_of s earlier) k l ≡ true → (i : ℕ) (b : Begun) (f : ℕ) (e : Edit) → Came s l k i b → edit_of (operation_at s i b.index) ≡ Some (f, e) → is_some b.editing.decided ≡ true → is_some b.epoch ≡ true
  line_since l h q i b f e (stays old here other is) = old_since i b old f e here (ap (λ (x : Begun). x.index) is) (ap (λ (x : Begun). x.epoch) is) (ap (λ (x : Begun). x.editing.decided) is)
  line_since l h q i b f e (marks a old mine at here is) =
      old_since i b old f e here (ap (λ (x : Begun). x.index) is) (ap (λ (x : Begun). x.epoch) is) (ap (λ (x : Begun). x.editing.decided) is ∙ with_decided (decision_at s l k).attempt (near s l k old).editing)
  line_since l h q i b f e (begins a n mine at is) = λ op d. never (sym (ap (λ (x : Begun). is_some x.editing.decided) is ∙ ap is_some (with_decided (decision_at s l k).attempt no_editing)) ∙ d)
  line_since l h q i b f e (exchanges a c r old mine at here is) = by_line at h q
    where
      by_line : l ≡ line.Exchange a c r → is_followed s k l ≡ true → is_told s (world_of s earlier) k l ≡ true → edit_of (operation_at s i b.index) ≡ Some (f, e) → is_some b.editing.decided ≡ true → is_some b.epoch ≡ true
      by_line same h2 q2 =
          exchanged_since a c r (subst (λ (x : Line). is_followed s k x ≡ true) same h2) (told_response s (world_of s earlier) k (line.Exchange a c r) (subst (λ (x : Line). is_told s (world_of s earlier) k x ≡ true) same q2)) i b old f e mine here
          (is ∙ ap (λ (x : Line). begun_exchanged (edit_of (operation_now s a k.jobs)) k.selected k.chain (k.history.events + 1) c r (near s x k old)) same)
  line_since l h q i b f e (fails a c x old mine at here is) =
      old_since i b old f e here (ap (λ (y : Begun). y.index) is) (ap (λ (y : Begun). y.epoch) is)
      (ap (λ (y : Begun). y.editing.decided) is ∙ lost_decided (edit_of (operation_now s a k.jobs)) k.selected (k.history.events + 1) c (editing_sent c k.chain (near s l k old).editing) ∙ sent_decided c k.chain (near s l k old).editing)

pub decided_since : KeptAgrees → PlansForCard → (s : Script) (lines : List Line) → keeps_rules s ≡ true → has_utf8_names s ≡ true → are_followed s lines ≡ true → are_told s lines ≡ true → DecidedSince s (kept_of s lines)
decided_since agrees plans s [] rules served followed told i b f e here op d = let n = first_begun (actor_count s + 1) i in let q : Some b ≡ None = sym here ∙ n in absurd (cc)
decided_since agrees plans s (l ∷ earlier) rules served followed told i b f e here op d =
    let p = and_parts (are_followed s earlier) (is_followed s (kept_of s earlier) l) followed in
    let q = and_parts (are_told s earlier) (is_told s (world_of s earlier) (kept_of s earlier) l) told in
    line_since agrees s rules served earlier p.0 q.0 (edited_of agrees plans s earlier rules served p.0 q.0) (decided_since agrees plans s earlier rules served p.0 q.0) l p.1 q.1 i b f e (came s l (kept_of s earlier) i b here) op d
