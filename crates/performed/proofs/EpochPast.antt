-- An epoch that has ended stays so, and each line leaves an epoch alive or ends it. A turn that has the end of one to tell sends no more.
use Rattle.std.proofs.Common.{◌≡◌, ◌⊎◌, inl, inr, ◌≤◌, ℕ, ◌+◌, ◌==◌, ◌&&◌, ◌||◌, not, Bool, true, false, if◌then◌else◌, Option, Some, None, refl, sym, ap, ◌∙◌, arith, true≢false}
use Rattle.std.proofs.lemmas.Bool.{and_parts, eqb-true, eq-eqb}
use Rattle.epoch_cache.specs.declared.past.Past.{Past}
use Rattle.epoch_cache.specs.Past.{counted}
use Rattle.report.specs.declared.line.Line.{Line}
use Rattle.rules.specs.History.{begins_epoch, stops_epoch, is_epoch_border, is_living, lives_in, history_after}

-- it has ended, or there was none
abbrev pub IsPast : Past → Option ℕ → Type 0
IsPast h None = Unit {0}
IsPast h (Some n) = (n ≤ h.epoch) × (is_living h n ≡ false)

pub past_dead : (h : Past) (o : Option ℕ) → IsPast h o → lives_in h o ≡ false
past_dead h None p = refl
past_dead h (Some n) p = p.1

later_by : (begins : Bool) (epoch n : ℕ) → n ≤ epoch → n ≤ counted begins epoch
later_by true epoch n le = omega (arith, le)
later_by false epoch n le = le

dead_by : (begins stops living : Bool) (epoch n : ℕ) → n ≤ epoch → (living && (epoch == n)) ≡ false → ((begins || (not stops && living)) && (counted begins epoch == n)) ≡ false
dead_by true stops living epoch n le h = let z : (epoch + 1 == n) ≡ false = grind (arith, le) in z
dead_by false true living epoch n le h = refl
dead_by false false living epoch n le h = h

pub past_stays : (l : Line) (h : Past) (o : Option ℕ) → IsPast h o → IsPast (history_after l h) o
past_stays l h None p = tt
past_stays l h (Some n) p = (later_by (begins_epoch l) h.epoch n p.0, dead_by (begins_epoch l) (stops_epoch l) h.living h.epoch n p.0 p.1)

within : (h : Past) (n : ℕ) → is_living h n ≡ true → n ≤ h.epoch
within h n lives = let e : h.epoch ≡ n = eqb-true h.epoch n (and_parts h.living (h.epoch == n) lives).1 in omega (arith, e)

-- a line that does not leave an epoch alive ends it
pub past_behind : (l : Line) (h : Past) (o : Option ℕ) → lives_in h o ≡ true → lives_in (history_after l h) o ≡ false → IsPast (history_after l h) o
past_behind l h None lives dead = tt
past_behind l h (Some n) lives dead = (later_by (begins_epoch l) h.epoch n (within h n lives), dead)

ends_by : (begins stops living : Bool) (epoch n : ℕ) → (begins || stops) ≡ true → n ≤ epoch → ((begins || (not stops && living)) && (counted begins epoch == n)) ≡ false
ends_by true stops living epoch n border le = let z : (epoch + 1 == n) ≡ false = grind (arith, le) in z
ends_by false true living epoch n border le = refl
ends_by false false living epoch n border le = absurd (true≢false (sym border))

-- each line that stands between two epochs does
pub ends_behind : (l : Line) (h : Past) (o : Option ℕ) → is_epoch_border l ≡ true → lives_in h o ≡ true → lives_in (history_after l h) o ≡ true → ⊥
ends_behind l h None border lives still = true≢false (sym lives)
ends_behind l h (Some n) border lives still = true≢false (sym still ∙ ends_by (begins_epoch l) (stops_epoch l) h.living h.epoch n border (within h n lives))

-- an operation begins in the epoch that lives, or in none
pub begins_alive : (h : Past) → (lives_in h (if h.living then Some h.epoch else None) ≡ true) ⊎ ((if h.living then Some h.epoch else None) ≡ None)
begins_alive h = by_living h.living refl
  where
    by_living : (b : Bool) → h.living ≡ b → (lives_in h (if b then Some h.epoch else None) ≡ true) ⊎ ((if b then Some h.epoch else None) ≡ None)
    by_living true e = inl (ap (λ (x : Bool). x && (h.epoch == h.epoch)) e ∙ eq-eqb h.epoch h.epoch refl)
    by_living false e = inr refl
