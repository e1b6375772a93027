-- What an actor has begun began in an epoch that lives, in one that has ended, or in none.
use Rattle.std.proofs.Common.{◌≡◌, ◌⊎◌, inl, inr, ℕ, ◌+◌, Bool, true, false, if◌then◌else◌, List, [], ◌∷◌, Option, Some, None, refl, sym, ap, ◌∙◌, subst, true≢false}
use Rattle.script_reader.specs.declared.types.Script.{Script}
use Rattle.report.specs.declared.line.Line.{Line}
use Rattle.report.specs.declared.line.Line.TheVariants as line
use Rattle.epoch_cache.specs.declared.past.Past.{Past}
use Rattle.rules.specs.declared.kept.Begun.{Begun}
use Rattle.rules.specs.declared.kept.Kept.{Kept}
use Rattle.rules.specs.History.{is_epoch_border, lives_in, history_after}
use Rattle.rules.specs.Kept.{begun_of, actor_count}
use Rattle.rules.specs.After.{kept_of}
use Rattle.performed.proofs.EditsBegun.{came}
use Rattle.performed.proofs.EditsLines.{Origin, was, newly, origin}
use Rattle.performed.proofs.EpochBegun.{first_begun}
use Rattle.performed.proofs.EpochPast.{IsPast, past_behind, past_stays, ends_behind, begins_alive}

-- it lives, or it is over
abbrev pub IsSince : Past → Option ℕ → Type 0
IsSince h o = (lives_in h o ≡ true) ⊎ IsPast h o

since_none : (h : Past) (o : Option ℕ) → o ≡ None → IsSince h o
since_none h o e = subst (IsSince h) (sym e) (inr tt)

since_by : (l : Line) (h : Past) (o : Option ℕ) (b : Bool) → lives_in (history_after l h) o ≡ b → IsSince h o → IsSince (history_after l h) o
since_by l h o true e since = inl e
since_by l h o false e (inl lives) = inr (past_behind l h o lives e)
since_by l h o false e (inr past) = inr (past_stays l h o past)

newly_since : (h : Past) → IsSince h (if h.living then Some h.epoch else None)
newly_since h = by_life (begins_alive h)
  where
    by_life : (lives_in h (if h.living then Some h.epoch else None) ≡ true) ⊎ ((if h.living then Some h.epoch else None) ≡ None) → IsSince h (if h.living then Some h.epoch else None)
    by_life (inl e) = inl e
    by_life (inr e) = since_none h (if h.living then Some h.epoch else None) e

module _ (s : Script) (k : Kept) (old : (i : ℕ) (b : Begun) → begun_of i k.jobs ≡ Some b → IsSince k.history b.epoch) where
  line_since : (l : Line) (i : ℕ) (now : Begun) → Origin s l k i now → IsSince (history_after l k.history) now.epoch
  line_since l i now (was b here index epoch) = subst (IsSince (history_after l k.history)) (sym epoch) (since_by l k.history b.epoch (lives_in (history_after l k.history) b.epoch) refl (old i b here))
  line_since l i now (newly a n own is index epoch) =
      subst (λ (x : Line). IsSince (history_after x k.history) now.epoch) (sym is)
      (subst (IsSince (history_after (line.Begin a n) k.history)) (sym epoch)
      (since_by (line.Begin a n) k.history (if k.history.living then Some k.history.epoch else None) (lives_in (history_after (line.Begin a n) k.history) (if k.history.living then Some k.history.epoch else None)) refl (newly_since k.history)))

  -- behind a line between two epochs, each that was begun is of one that is over
  border_past : (l : Line) → is_epoch_border l ≡ true → (i : ℕ) (now : Begun) → Origin s l k i now → IsPast (history_after l k.history) now.epoch
  border_past l border i now (newly a n own is index epoch) = absurd (true≢false (sym border ∙ ap is_epoch_border is))
  border_past l border i now (was b here index epoch) = subst (IsPast (history_after l k.history)) (sym epoch) (by_life (lives_in (history_after l k.history) b.epoch) refl (old i b here))
    where
      by_life : (x : Bool) → lives_in (history_after l k.history) b.epoch ≡ x → IsSince k.history b.epoch → IsPast (history_after l k.history) b.epoch
      by_life true e (inl lives) = absurd (ends_behind l k.history b.epoch border lives e)
      by_life false e (inl lives) = past_behind l k.history b.epoch lives e
      by_life x e (inr past) = past_stays l k.history b.epoch past

pub begun_since : (s : Script) (lines : List Line) (i : ℕ) (b : Begun) → begun_of i (kept_of s lines).jobs ≡ Some b → IsSince (kept_of s lines).history b.epoch
begun_since s [] i b h = let n = first_begun (actor_count s + 1) i in let q : Some b ≡ None = sym h ∙ n in absurd (cc)
begun_since s (l ∷ earlier) i b h = line_since s (kept_of s earlier) (begun_since s earlier) l i b (origin s l (kept_of s earlier) i b (came s l (kept_of s earlier) i b h))

pub begun_past : (s : Script) (earlier : List Line) (l : Line) → is_epoch_border l ≡ true → (i : ℕ) (b : Begun) → begun_of i (kept_of s (l ∷ earlier)).jobs ≡ Some b → IsPast (kept_of s (l ∷ earlier)).history b.epoch
begun_past s earlier l border i b h = border_past s (kept_of s earlier) (begun_since s earlier) l border i b (origin s l (kept_of s earlier) i b (came s l (kept_of s earlier) i b h))
