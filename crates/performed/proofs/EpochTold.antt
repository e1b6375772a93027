-- The end of the epoch of an operation is told to it, before the turn that brought the end is over.
use Rattle.std.proofs.Common.{◌≡◌, ◌⊎◌, inl, inr, ℕ, ◌+◌, ◌==◌, ◌&&◌, Bool, true, false, if◌then◌else◌, Option, Some, None, is_some, List, [], ◌∷◌, refl, sym, ap, ◌∙◌}
use Rattle.std.proofs.lemmas.Bool.{and_parts, eqb-true}
use Rattle.apdu.specs.Words.{same_number}
use Rattle.card_model.specs.declared.world.WorldEvent.TheVariants as world_event
use Rattle.script_reader.specs.declared.types.Script.{Script}
use Rattle.report.specs.declared.line.Line.{Line}
use Rattle.report.specs.declared.line.Line.TheVariants as line
use Rattle.rules.specs.declared.due.Due.{Due}
use Rattle.rules.specs.declared.due.Due.TheVariants.{TellEnd as tell_end}
use Rattle.rules.specs.declared.kept.Begun.{Begun}
use Rattle.rules.specs.declared.kept.Kept.{Kept}
use Rattle.rules.specs.History.{ends_epoch}
use Rattle.rules.specs.Kept.{actor_count, begun_of}
use Rattle.rules.specs.After.{told_by, ended_by, kept_after, kept_of}
use Rattle.rules.specs.Due.{due, due_by_end}
use Rattle.rules.specs.Performed.{is_end_told}
use Rattle.rules.specs.Rules.{is_turn_of, is_begun_at}
use Rattle.performed.specs.Followed.{follows, is_followed, are_followed}
use Rattle.performed.specs.Laws.{tells_end}
use Rattle.performed.proofs.CalmSends.{never}
use Rattle.performed.proofs.EditsBegun.{Came, stays, marks, begins, exchanges, fails, came}
use Rattle.performed.proofs.EpochBegun.{first_begun}
use Rattle.performed.proofs.TurnsSays.{says_of}

-- the turn has the end of this epoch to tell
record IsEnding (t : Option (ℕ × ℕ)) (o : Option ℕ) : Type 0 where
  epoch : ℕ
  event : ℕ
  turn : t ≡ Some (epoch, event)
  is : same_number o (Some epoch) ≡ true

one_pair : (p q : ℕ × ℕ) → Some p ≡ Some q → p ≡ q
one_pair p q h = cc

no_pair : (p : ℕ × ℕ) → None ≡ Some p → ⊥
no_pair p h = absurd (cc)

-- ---- while a turn has an end to tell, no other line is due

follows_none : (s : Script) (k : Kept) (e n : ℕ) (l : Line) → tells_end l ≡ false → follows s k (tell_end e n) l ≡ true → ⊥
follows_none s k e n (line.Turn a) u h = never h
follows_none s k e n (line.Begin a i) u h = never (and_parts (is_turn_of a k.turn) false h).1
follows_none s k e n (line.Exchange a c r) u h = never (and_parts (is_turn_of a k.turn) false h).1
follows_none s k e n (line.Failed a c d) u h = never (and_parts (is_turn_of a k.turn) false h).1
follows_none s k e n (line.Reset a) u h = never (and_parts (is_turn_of a k.turn) false h).1
follows_none s k e n (line.ResetFailed a) u h = never (and_parts (is_turn_of a k.turn) false h).1
follows_none s k e n (line.World a x) u h = never (and_parts (is_turn_of a k.turn) false h).1
follows_none s k e n (line.Published m f v p text) u h = never h
follows_none s k e n (line.EpochEnd m v p) u h = never (sym u)
follows_none s k e n (line.Refused f m) u h = never (and_parts (is_turn_of 0 k.turn) false h).1
follows_none s k e n (line.Answered a i given) u h = never (and_parts (is_begun_at i (begun_of a k.jobs)) false (and_parts (is_turn_of a k.turn) (is_begun_at i (begun_of a k.jobs) && false) h).1).1

ended_first : (s : Script) (k : Kept) (l : Line) → is_followed s k l ≡ true → tells_end l ≡ false → k.turn.ended ≡ None
ended_first s k l h u = by_ended k.turn.ended refl
  where
    by_ended : (o : Option (ℕ × ℕ)) → k.turn.ended ≡ o → o ≡ None
    by_ended None e = refl
    by_ended (Some (v, n)) e = absurd (follows_none s k v n l u (sym (ap (λ (d : Due). follows s k d l) (ap (due_by_end s k) e)) ∙ h))

-- ---- a line that ends an epoch leaves it to be told

ends_now : (s : Script) (k : Kept) (l : Line) → ends_epoch l k.history ≡ true → (kept_after s l k).turn.ended ≡ Some (k.history.epoch, k.history.events + 1)
ends_now s k (line.Turn a) h = never h
ends_now s k (line.Begin a i) h = never h
ends_now s k (line.Exchange a c r) h = never h
ends_now s k (line.Failed a c d) h = ap (λ (b : Bool). if b then Some (k.history.epoch, k.history.events + 1) else k.turn.ended) h
ends_now s k (line.Reset a) h = ap (λ (b : Bool). if b then Some (k.history.epoch, k.history.events + 1) else k.turn.ended) h
ends_now s k (line.ResetFailed a) h = ap (λ (b : Bool). if b then Some (k.history.epoch, k.history.events + 1) else k.turn.ended) h
ends_now s k (line.World a (world_event.Insert j)) h = ap (λ (b : Bool). if b then Some (k.history.epoch, k.history.events + 1) else k.turn.ended) h
ends_now s k (line.World a world_event.Out) h = ap (λ (b : Bool). if b then Some (k.history.epoch, k.history.events + 1) else k.turn.ended) h
ends_now s k (line.World a (world_event.Arm i)) h = never h
ends_now s k (line.Published m f v p text) h = never h
ends_now s k (line.EpochEnd m v p) h = never h
ends_now s k (line.Refused f m) h = never h
ends_now s k (line.Answered a i given) h = never h

quiet_told : (l : Line) → tells_end l ≡ false → (epoch told : Option ℕ) → told_by l epoch told ≡ told
quiet_told (line.Turn a) u epoch told = refl
quiet_told (line.Begin a i) u epoch told = refl
quiet_told (line.Exchange a c r) u epoch told = refl
quiet_told (line.Failed a c d) u epoch told = refl
quiet_told (line.Reset a) u epoch told = refl
quiet_told (line.ResetFailed a) u epoch told = refl
quiet_told (line.World a x) u epoch told = refl
quiet_told (line.Published m f v p text) u epoch told = refl
quiet_told (line.EpochEnd m v p) u epoch told = never (sym u)
quiet_told (line.Refused f m) u epoch told = refl
quiet_told (line.Answered a i given) u epoch told = refl

-- ---- a line

-- an end that is kept was told, or the turn has it to tell
abbrev IsTold : Option (ℕ × ℕ) → Begun → Type 0
IsTold turn b = is_some b.ended ≡ true → (is_some b.told ≡ true) ⊎ IsEnding turn b.epoch

abbrev AreTold : Kept → Type 0
AreTold k = (i : ℕ) (b : Begun) → begun_of i k.jobs ≡ Some b → IsTold k.turn.ended b

module _ (s : Script) (k : Kept) (t : AreTold k) where
  none_ending : (o : Option ℕ) → k.turn.ended ≡ None → IsEnding k.turn.ended o → ⊥
  none_ending o none x = no_pair (x.epoch, x.event) (sym none ∙ x.turn)

  told_before : (b : Begun) (i : ℕ) → begun_of i k.jobs ≡ Some b → k.turn.ended ≡ None → is_some b.ended ≡ true → is_some b.told ≡ true
  told_before b i here none h = by_told (t i b here h)
    where
      by_told : (is_some b.told ≡ true) ⊎ IsEnding k.turn.ended b.epoch → is_some b.told ≡ true
      by_told (inl q) = q
      by_told (inr x) = absurd (none_ending b.epoch none x)

  -- what an operation was
  record Was (l : Line) (i : ℕ) (now : Begun) : Type 0 where
    old : Begun
    here : begun_of i k.jobs ≡ Some old
    epoch : now.epoch ≡ old.epoch
    ended : now.ended ≡ ended_by (ends_epoch l k.history) k.history.epoch (k.history.events + 1) old.epoch old.ended
    told : now.told ≡ told_by l old.epoch old.told

  -- a line that tells no end
  still_told : (l : Line) → is_followed s k l ≡ true → tells_end l ≡ false → (i : ℕ) (now : Begun) → Was l i now → IsTold (kept_after s l k).turn.ended now
  still_told l h u i now x q = by_end (ends_epoch l k.history) (same_number x.old.epoch (Some k.history.epoch)) refl refl (sym (ap is_some x.ended) ∙ q)
    where
      by_end : (ends own : Bool) → ends_epoch l k.history ≡ ends → same_number x.old.epoch (Some k.history.epoch) ≡ own → is_some (if ends && own then Some (k.history.events + 1) else x.old.ended) ≡ true → (is_some now.told ≡ true) ⊎ IsEnding (kept_after s l k).turn.ended now.epoch
      by_end true true e o z = inr (record { epoch = k.history.epoch; event = k.history.events + 1; turn = ends_now s k l e; is = ap (λ (n : Option ℕ). same_number n (Some k.history.epoch)) x.epoch ∙ o })
      by_end true false e o z = inl (ap is_some (x.told ∙ quiet_told l u x.old.epoch x.old.told) ∙ told_before x.old i x.here (ended_first s k l h u) z)
      by_end false own e o z = inl (ap is_some (x.told ∙ quiet_told l u x.old.epoch x.old.told) ∙ told_before x.old i x.here (ended_first s k l h u) z)

  -- the line that does
  end_told : (number e n : ℕ) → is_followed s k (line.EpochEnd number e n) ≡ true → (i : ℕ) (now : Begun) → Was (line.EpochEnd number e n) i now → IsTold (kept_after s (line.EpochEnd number e n) k).turn.ended now
  end_told number e n h i now x q = by_due (due s k) refl h
    where
      some_if : (b : Bool) → is_some x.old.told ≡ true → is_some (if b then Some number else x.old.told) ≡ true
      some_if true z = refl
      some_if false z = z

      number_if : (b : Bool) → b ≡ true → is_some (if b then Some number else x.old.told) ≡ true
      number_if true z = refl
      number_if false z = never z

      same_pair : (g m : ℕ) (y : IsEnding k.turn.ended x.old.epoch) → k.turn.ended ≡ Some (g, m) → y.epoch ≡ g
      same_pair g m y z = ap (λ (p : ℕ × ℕ). p.0) (one_pair (y.epoch, y.event) (g, m) (sym y.turn ∙ z))

      by_told : (g m : ℕ) → e ≡ g → k.turn.ended ≡ Some (g, m) → (is_some x.old.told ≡ true) ⊎ IsEnding k.turn.ended x.old.epoch → is_some (if same_number x.old.epoch (Some e) then Some number else x.old.told) ≡ true
      by_told g m same z (inl told) = some_if (same_number x.old.epoch (Some e)) told
      by_told g m same z (inr y) =
          number_if (same_number x.old.epoch (Some e)) (ap (λ (v : ℕ). same_number x.old.epoch (Some v)) (same ∙ sym (same_pair g m y z)) ∙ y.is)

      by_due : (d : Due) → due s k ≡ d → is_end_told k number e n d ≡ true → (is_some now.told ≡ true) ⊎ IsEnding (kept_after s (line.EpochEnd number e n) k).turn.ended now.epoch
      by_due (tell_end g m) is z =
          let p = and_parts ((number == k.publications + 1) && (e == g)) (n == m) z in
          let r = and_parts (number == k.publications + 1) (e == g) p.0 in
          inl (ap is_some x.told ∙ by_told g m (eqb-true e g r.1) (says_of s k (tell_end g m) is) (t i x.old x.here (sym (ap is_some x.ended) ∙ q)))
      by_due d is z = never z

  line_told : (l : Line) → is_followed s k l ≡ true → (i : ℕ) (now : Begun) → Was l i now → IsTold (kept_after s l k).turn.ended now
  line_told (line.EpochEnd number e n) h i now x = end_told number e n h i now x
  line_told (line.Turn a) h i now x = still_told (line.Turn a) h refl i now x
  line_told (line.Begin a j) h i now x = still_told (line.Begin a j) h refl i now x
  line_told (line.Exchange a c r) h i now x = still_told (line.Exchange a c r) h refl i now x
  line_told (line.Failed a c d) h i now x = still_told (line.Failed a c d) h refl i now x
  line_told (line.Reset a) h i now x = still_told (line.Reset a) h refl i now x
  line_told (line.ResetFailed a) h i now x = still_told (line.ResetFailed a) h refl i now x
  line_told (line.World a y) h i now x = still_told (line.World a y) h refl i now x
  line_told (line.Published m f v p text) h i now x = still_told (line.Published m f v p text) h refl i now x
  line_told (line.Refused f m) h i now x = still_told (line.Refused f m) h refl i now x
  line_told (line.Answered a j given) h i now x = still_told (line.Answered a j given) h refl i now x

  came_told : (l : Line) → is_followed s k l ≡ true → (i : ℕ) (now : Begun) → Came s l k i now → IsTold (kept_after s l k).turn.ended now
  came_told l h i now (stays b here other is) q = line_told l h i now (record { old = b; here = here; epoch = ap (λ (x : Begun). x.epoch) is; ended = ap (λ (x : Begun). x.ended) is; told = ap (λ (x : Begun). x.told) is }) q
  came_told l h i now (marks a b own at here is) q = line_told l h i now (record { old = b; here = here; epoch = ap (λ (x : Begun). x.epoch) is; ended = ap (λ (x : Begun). x.ended) is; told = ap (λ (x : Begun). x.told) is }) q
  came_told l h i now (begins a n own at is) q = never (sym (ap (λ (x : Begun). is_some x.ended) is) ∙ q)
  came_told l h i now (exchanges a c r b own at here is) q = line_told l h i now (record { old = b; here = here; epoch = ap (λ (x : Begun). x.epoch) is; ended = ap (λ (x : Begun). x.ended) is; told = ap (λ (x : Begun). x.told) is }) q
  came_told l h i now (fails a c d b own at here is) q = line_told l h i now (record { old = b; here = here; epoch = ap (λ (x : Begun). x.epoch) is; ended = ap (λ (x : Begun). x.ended) is; told = ap (λ (x : Begun). x.told) is }) q

told_all : (s : Script) (lines : List Line) → are_followed s lines ≡ true → AreTold (kept_of s lines)
told_all s [] f i b here = let e : Some b ≡ None = sym here ∙ first_begun (actor_count s + 1) i in absurd (cc)
told_all s (l ∷ earlier) f i b here =
    let p = and_parts (are_followed s earlier) (is_followed s (kept_of s earlier) l) f in
    came_told s (kept_of s earlier) (told_all s earlier p.0) l p.1 i b (came s l (kept_of s earlier) i b here)

-- where a turn has no end to tell, all were told
pub ended_told : (s : Script) (lines : List Line) → are_followed s lines ≡ true → (kept_of s lines).turn.ended ≡ None → (i : ℕ) (b : Begun) → begun_of i (kept_of s lines).jobs ≡ Some b → is_some b.ended ≡ true → is_some b.told ≡ true
ended_told s lines f none i b here h = told_before s (kept_of s lines) (told_all s lines f) b i here none h
