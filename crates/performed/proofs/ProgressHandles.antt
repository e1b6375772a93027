-- The epoch of each handle that an actor holds lives, or has an end.
use Rattle.std.proofs.Common.{◌≡◌, ℕ, ◌+◌, ◌==◌, ◌||◌, Bool, true, false, if◌then◌else◌, List, [], ◌∷◌, Option, Some, None, refl, sym, ap, ◌∙◌, subst, arith}
use Rattle.std.specs.List.{list_all}
use Rattle.std.proofs.lemmas.Bool.{and_parts, and_from}
use Rattle.script_reader.specs.declared.types.Script.{Script}
use Rattle.script_reader.specs.declared.types.Operation.TheVariants as operation
use Rattle.report.specs.declared.answer.Answer.TheVariants as answer
use Rattle.report.specs.declared.line.Line.{Line}
use Rattle.report.specs.declared.line.Line.TheVariants as line
use Rattle.epoch_cache.specs.declared.past.Past.{Past}
use Rattle.rules.specs.declared.holdings.Handle.{Handle}
use Rattle.rules.specs.declared.kept.Begun.{Begun}
use Rattle.rules.specs.declared.kept.Kept.{Kept}
use Rattle.rules.specs.History.{ends_epoch, history_after, is_living}
use Rattle.rules.specs.Channels.{ended_handle, ended_handles}
use Rattle.rules.specs.Kept.{job_of, begun_of, operation_at}
use Rattle.rules.specs.After.{ended_by, handles_given, kept_after, kept_of}
use Rattle.performed.specs.Followed.{is_followed, are_followed}
use Rattle.performed.proofs.ProgressSound.{lives_or_ended, lives_step, IsSoundOption, IsSoundJob, sound}
use Rattle.performed.proofs.Handles.{given_good, Opens, opens}
use Rattle.performed.proofs.Lists.{all_mapped, all_still}

abbrev pub is_sound_handle : Past → Handle → Bool
is_sound_handle history h = lives_or_ended history (Some h.epoch) h.ended

abbrev pub are_sound_handles : Past → List Handle → Bool
are_sound_handles history handles = list_all (is_sound_handle history) handles

module _ (l : Line) (past : Past) where
  -- a line that ends no epoch
  lives_on : (e : ℕ) (ended : Option ℕ) → ends_epoch l past ≡ false → lives_or_ended past (Some e) ended ≡ true → lives_or_ended (history_after l past) (Some e) ended ≡ true
  lives_on e ended stays p = subst (λ (b : Bool). lives_or_ended (history_after l past) (Some e) (ended_by b past.epoch (past.events + 1) (Some e) ended) ≡ true) stays (lives_step l past (Some e) ended p)

  -- a line that ends one
  ends_here : (b : Bool) (h : Handle) → lives_or_ended (history_after l past) (Some h.epoch) (if b then Some (past.events + 1) else h.ended) ≡ true → is_sound_handle (history_after l past) (if b then record h { ended = Some (past.events + 1) } else h) ≡ true
  ends_here true h p = p
  ends_here false h p = p

  one_ended : ends_epoch l past ≡ true → (h : Handle) → is_sound_handle past h ≡ true → is_sound_handle (history_after l past) (ended_handle past.epoch (past.events + 1) h) ≡ true
  one_ended ends h p = ends_here (h.epoch == past.epoch) h (subst (λ (b : Bool). lives_or_ended (history_after l past) (Some h.epoch) (ended_by b past.epoch (past.events + 1) (Some h.epoch) h.ended) ≡ true) ends (lives_step l past (Some h.epoch) h.ended p))

or_none : (a : Bool) → (a || false) ≡ true → a ≡ true
or_none true h = refl
or_none false h = h

none_or : (a : Bool) → a ≡ true → (a || false) ≡ true
none_or true h = refl
none_or false h = h

itself : (n : ℕ) → (n == n) ≡ true
itself n = grind arith

-- an operation that began in an epoch without an end: the epoch lives
now_lives : (past : Past) (e : ℕ) → lives_or_ended past (Some e) None ≡ true → lives_or_ended past (Some past.epoch) None ≡ true
now_lives past e p =
    let q = and_parts past.living (past.epoch == e) (or_none (is_living past e) p) in
    none_or (is_living past past.epoch) (and_from past.living (past.epoch == past.epoch) q.0 (itself past.epoch))

module _ (s : Script) (k : Kept) (jobs : (i : ℕ) → IsSoundJob s k.history i (job_of i k.jobs)) where
  begun_lives : (a number : ℕ) (o : Opens k a number) (b : Option Begun) → begun_of a k.jobs ≡ b → b ≡ Some o.begun → IsSoundOption s k.history a b → lives_or_ended k.history (Some k.history.epoch) None ≡ true
  begun_lives a number o None at e p = absurd (cc)
  begun_lives a number o (Some b) at e p =
      let same : b ≡ o.begun = the_same b o.begun e in
      now_lives k.history o.epoch (sym (ap (λ (x : Begun). lives_or_ended k.history x.epoch x.ended) same ∙ ap (λ (v : Option ℕ). lives_or_ended k.history v o.begun.ended) o.epoch_is ∙ ap (λ (v : Option ℕ). lives_or_ended k.history (Some o.epoch) v) o.lasts) ∙ p.lives)
    where
      the_same : (x y : Begun) → Some x ≡ Some y → x ≡ y
      the_same x y q = cc

  opens_alive : (a number : ℕ) → Opens k a number → lives_or_ended k.history (Some k.history.epoch) None ≡ true
  opens_alive a number o = begun_lives a number o (begun_of a k.jobs) refl o.here (jobs a)

  pub given_alive : (l : Line) (a i handle number : ℕ) (aid : List ℕ) → is_followed s k l ≡ true → l ≡ line.Answered a i (answer.Opened number) → operation_at s a i ≡ Some (operation.OpenChannel handle aid) → lives_or_ended k.history (Some k.history.epoch) None ≡ true
  given_alive l a i handle number aid h e op = opens_alive a number (opens s k a i number handle aid op (subst (λ (x : Line). is_followed s k x ≡ true) e h))

  by_end : (l : Line) (b : Bool) → ends_epoch l k.history ≡ b → is_followed s k l ≡ true → are_sound_handles k.history k.handles ≡ true → are_sound_handles (history_after l k.history) (if b then ended_handles k.history.epoch (k.history.events + 1) k.handles else handles_given s l k.history.epoch k.handles) ≡ true
  by_end l true ends h held = all_mapped (is_sound_handle k.history) (is_sound_handle (history_after l k.history)) (ended_handle k.history.epoch (k.history.events + 1)) (one_ended l k.history ends) k.handles held
  by_end l false stays h held =
      given_good (is_sound_handle (history_after l k.history)) s l k.history.epoch k.handles
      (all_still (is_sound_handle k.history) (is_sound_handle (history_after l k.history)) (λ x p. lives_on l k.history x.epoch x.ended stays p) k.handles held)
      (λ a i handle number aid e op. lives_on l k.history k.history.epoch None stays (given_alive l a i handle number aid h e op))

  step : (l : Line) → is_followed s k l ≡ true → are_sound_handles k.history k.handles ≡ true → are_sound_handles (kept_after s l k).history (kept_after s l k).handles ≡ true
  step l h held = by_end l (ends_epoch l k.history) refl h held

pub sound_handles : (s : Script) (lines : List Line) → are_followed s lines ≡ true → are_sound_handles (kept_of s lines).history (kept_of s lines).handles ≡ true
sound_handles s [] h = refl
sound_handles s (l ∷ earlier) h =
    let q = and_parts (are_followed s earlier) (is_followed s (kept_of s earlier) l) h in
    step s (kept_of s earlier) (sound s earlier q.0) l q.1 (sound_handles s earlier q.0)
