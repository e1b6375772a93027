-- An edit whose turn begins is ready: an attempt under way has an update to send, and the end of the epoch of a decided one was told.
use Rattle.std.proofs.Common.{◌≡◌, ℕ, ◌||◌, Bool, true, false, Option, Some, None, is_some, List, sym, ap, ◌∙◌, subst}
use Rattle.card_model.specs.declared.world.World.{World}
use Rattle.script_reader.specs.declared.types.Script.{Script}
use Rattle.script_reader.specs.Rules.{keeps_rules}
use Rattle.report.specs.declared.line.Line.{Line}
use Rattle.adn.specs.declared.edit.Edit.{Edit}
use Rattle.epoch_cache.specs.declared.past.Past.{Past}
use Rattle.editor.specs.declared.editing.Attempt.{Attempt}
use Rattle.editor.specs.Editing.{next_update}
use Rattle.rules.specs.declared.kept.Begun.{Begun}
use Rattle.rules.specs.declared.kept.Kept.{Kept}
use Rattle.rules.specs.History.{lives_in}
use Rattle.rules.specs.Kept.{begun_of, operation_at}
use Rattle.rules.specs.After.{edit_of, fresh_begun, kept_of}
use Rattle.rules.specs.Due.{due}
use Rattle.rules.specs.Laws.{KeptAgrees, PlansForCard}
use Rattle.rules.specs.Performed.{ends_turn}
use Rattle.rules.specs.State.{world_of}
use Rattle.performed.specs.Names.{has_utf8_names}
use Rattle.performed.specs.Followed.{are_followed}
use Rattle.performed.specs.Told.{are_told}
use Rattle.performed.proofs.CalmSends.{never}
use Rattle.performed.proofs.EditsEpoch.{decided_since}
use Rattle.performed.proofs.EditsLines.{done_unrefused}
use Rattle.performed.proofs.EditsState.{EditAt, unplanned, writing, refused, finished, past, Edited, next_is}
use Rattle.performed.proofs.EditsWhole.{edited_of}
use Rattle.performed.proofs.EpochPast.{past_dead}
use Rattle.performed.proofs.EpochTold.{ended_told}
use Rattle.performed.proofs.ProgressEdits.{IsReady}
use Rattle.performed.proofs.ProgressSound.{lives_or_ended, IsSoundBegun, IsSoundOption, sound}
use Rattle.performed.proofs.TurnsSays.{IsDone, turn_done}

-- each edit that is under way
abbrev pub AreReady : Script → Kept → Type 0
AreReady s k = (i : ℕ) (b : Begun) (f : ℕ) (e : Edit) → begun_of i k.jobs ≡ Some b → edit_of (operation_at s i b.index) ≡ Some (f, e) → IsReady k.history b

no_attempt : {X : Type 0} (a : Attempt) → None ≡ Some a → X
no_attempt a h = absurd (cc)

one_attempt : (a c : Attempt) → Some a ≡ Some c → a ≡ c
one_attempt a c h = cc

-- one that begins
pub fresh_ready : (h p : Past) (i : ℕ) → IsReady h (fresh_begun i p)
fresh_ready h p i = record { sends = λ a there un lives. no_attempt a there; told = λ d dead. never d }

-- an epoch that does not live has its end
ended_of : (h : Past) (o ended : Option ℕ) → is_some o ≡ true → lives_or_ended h o ended ≡ true → lives_in h o ≡ false → is_some ended ≡ true
ended_of h None ended some lives dead = never some
ended_of h (Some n) ended some lives dead = sym (ap (λ (b : Bool). b || is_some ended) dead) ∙ lives

module _ (agrees : KeptAgrees) (plans : PlansForCard) (s : Script) (rules : keeps_rules s ≡ true) (served : has_utf8_names s ≡ true) (lines : List Line) (followed : are_followed s lines ≡ true) (told : are_told s lines ≡ true) (ends : ends_turn (due s (kept_of s lines)) ≡ true) where
  abbrev k : Kept
  k = kept_of s lines

  abbrev w : World
  w = world_of s lines

  edited : Edited s w k
  edited = edited_of agrees plans s lines rules served followed told

  done : IsDone s k
  done = turn_done s k ends

  module _ (i : ℕ) (b : Begun) (f : ℕ) (e : Edit) (here : begun_of i k.jobs ≡ Some b) (op : edit_of (operation_at s i b.index) ≡ Some (f, e)) where
    has_next : (a : Attempt) → b.editing.attempt ≡ Some a → b.editing.decided ≡ None → lives_in k.history b.epoch ≡ true → is_some (next_update a) ≡ true
    has_next a there un lives = by_edit (edited.edits i b f e here op)
      where
        by_edit : EditAt w k i f e b.epoch b.editing → is_some (next_update a) ≡ true
        by_edit (unplanned x d) = no_attempt a (sym x ∙ there)
        by_edit (writing c h q) =
            ap (λ (x : Attempt). is_some (next_update x)) (one_attempt a c (sym there ∙ h))
            ∙ ap is_some (next_is w k i f e b.epoch b.editing.decided c q)
        by_edit (refused d actor came) = absurd (done_unrefused s w k edited done i b f e here op un actor came)
        by_edit (finished d x owed) = never (sym (ap is_some un) ∙ d)
        by_edit (past x) = never (sym (past_dead k.history b.epoch x) ∙ lives)

    was_told : is_some b.editing.decided ≡ true → lives_in k.history b.epoch ≡ false → is_some b.told ≡ true
    was_told d dead =
        let p : IsSoundBegun s k.history i b = subst (λ (o : Option Begun). IsSoundOption s k.history i o) here (sound s lines followed i) in
        ended_told s lines followed done.ended i b here
        (ended_of k.history b.epoch b.ended (decided_since agrees plans s lines rules served followed told i b f e here op d) p.lives dead)

  pub are_ready : AreReady s k
  are_ready i b f e here op = record { sends = has_next i b f e here op; told = was_told i b f e here op }
