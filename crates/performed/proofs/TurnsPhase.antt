-- A turn in which nothing moved so far: it has its mark alone, or its mark and a begin, or it published its operation's family and owes the answer.
use Rattle.std.proofs.Common.{◌≡◌, inr, ℕ, zero, ◌+◌, ◌<◌, ◌==◌, ◌&&◌, ◌||◌, not, Bool, true, false, if◌then◌else◌, List, [], ◌∷◌, Option, Some, None, is_some, refl, sym, ap, ◌∙◌, subst, true≢false}
use Rattle.std.specs.Prelude.{is_none, option_map, option_and_then, map, find}
use Rattle.std.proofs.lemmas.Bool.{and_parts, and_right, eqb-true}
use Rattle.apdu.specs.Words.{same_bytes}
use Rattle.script_reader.specs.declared.types.Script.{Script}
use Rattle.report.specs.declared.line.Line.TheVariants as line
use Rattle.families.specs.Families.{family_paths}
use Rattle.epoch_cache.specs.Cache.{renews_one, all_current}
use Rattle.rules.specs.declared.due.Due.{Due}
use Rattle.rules.specs.declared.due.Due.TheVariants.{TellEnd as tell_end, TellRefusal as tell_refusal, Publish as publish}
use Rattle.rules.specs.declared.kept.Kept.{Kept}
use Rattle.rules.specs.declared.standing.Standing.{Standing}
use Rattle.rules.specs.Standing.{unless_settled, standing_after, is_stale, first_stale}
use Rattle.rules.specs.Work.{family_read, is_starting}
use Rattle.rules.specs.Due.{due, published_by, due_publication, kept_text}
use Rattle.rules.specs.Performed.{is_published, is_end_told, is_refusal_told}
use Rattle.rules.specs.After.{facts_of, kept_after}
use Rattle.performed.specs.Progress.{stale_count, Moves}
use Rattle.performed.proofs.TurnsSays.{says_of}
use Rattle.performed.proofs.TurnsKept.{quiet_touch, none_renewed, moves_by}
use Rattle.performed.proofs.TurnsStale.{AreTimely, all_settled}

-- ---- lines that tell an end or a refusal

module _ (s : Script) (k : Kept) where
  pub end_stands : (number e n : ℕ) → is_end_told k number e n (due s k) ≡ true → k.turn.ended ≡ None → ⊥
  end_stands number e n h none = by_due (due s k) refl h
    where
      by_due : (d : Due) → due s k ≡ d → is_end_told k number e n d ≡ true → ⊥
      by_due (tell_end x y) q g = let at : k.turn.ended ≡ Some (x, y) = says_of s k (tell_end x y) q in absurd (cc)
      by_due d q g = absurd (true≢false (sym g))

  pub refusal_stands : (f n : ℕ) → is_refusal_told f n (due s k) ≡ true → k.turn.refused ≡ None → ⊥
  refusal_stands f n h none = by_due (due s k) refl h
    where
      by_due : (d : Due) → due s k ≡ d → is_refusal_told f n d ≡ true → ⊥
      by_due (tell_refusal x y) q g = let at : k.turn.refused ≡ Some (x, y) = says_of s k (tell_refusal x y) q in absurd (cc)
      by_due d q g = absurd (true≢false (sym g))

-- ---- a publication

-- the family of the turn, of which all is current
pub record Publishes (k : Kept) (f point : ℕ) : Type 0 where
  pub family : k.turn.family ≡ Some f
  pub free : is_none k.turn.published ≡ true
  pub current : all_current k.files (family_paths f) ≡ true
  pub newest : point ≡ k.history.events

number_or_zero : Option ℕ → ℕ
number_or_zero None = 0
number_or_zero (Some n) = n

pub some_number : (m n : ℕ) → Some m ≡ Some n → m ≡ n
unfolding number_or_zero
some_number m n e = ap number_or_zero e

module _ (s : Script) (k : Kept) where
  by_current : (f point g : ℕ) (b : Bool) → k.turn.family ≡ Some g → is_none k.turn.published && all_current k.files (family_paths g) ≡ b → (if b then Some g else None) ≡ Some f → point ≡ k.history.events → Publishes k f point
  by_current f point g false at h e p = absurd (cc)
  by_current f point g true at h e p =
      let q = and_parts (is_none k.turn.published) (all_current k.files (family_paths g)) h in
      let same : g ≡ f = some_number g f e in
      record {
        family = at ∙ e;
        free = q.0;
        current = subst (λ (n : ℕ). all_current k.files (family_paths n) ≡ true) same q.1;
        newest = p;
      }

  by_family : (f point : ℕ) (o : Option ℕ) → k.turn.family ≡ o → option_and_then (published_by k) o ≡ Some f → point ≡ k.history.events → Publishes k f point
  by_family f point None at e p = absurd (cc)
  by_family f point (Some g) at e p = by_current f point g (is_none k.turn.published && all_current k.files (family_paths g)) at refl e p

  pub publishes : (number f e n : ℕ) (text : List ℕ) → is_published k number f e n text (due s k) ≡ true → Publishes k f n
  publishes number f e n text h = by_due (due s k) refl h
    where
      by_due : (d : Due) → due s k ≡ d → is_published k number f e n text d ≡ true → Publishes k f n
      by_due (publish g) q t =
          let p1 = and_parts ((f == g) && (number == k.publications + 1) && (e == k.history.epoch) && (n == k.history.events)) (same_bytes text (kept_text f k)) t in
          let p2 = and_parts ((f == g) && (number == k.publications + 1) && (e == k.history.epoch)) (n == k.history.events) p1.0 in
          let p3 = and_parts ((f == g) && (number == k.publications + 1)) (e == k.history.epoch) p2.0 in
          let p4 = and_parts (f == g) (number == k.publications + 1) p3.0 in
          let at : due_publication k ≡ Some f = says_of s k (publish g) q ∙ ap (λ (m : ℕ). Some m) (sym (eqb-true f g p4.0)) in
          by_family f n k.turn.family refl at (eqb-true n k.history.events p2.1)
      by_due d q t = absurd (true≢false (sym t))

-- ---- the framework publishes the first stale family

read_first : (k : Kept) (f : ℕ) → family_read k ≡ Some f → first_stale k.standings ≡ Some f
read_first k f h = by_open (k.history.owes_reset || not k.history.living || is_starting k || is_some k.owed || is_some k.history.announced) h
  where
    by_open : (b : Bool) → (if b then None else first_stale k.standings) ≡ Some f → first_stale k.standings ≡ Some f
    by_open true e = absurd (cc)
    by_open false e = e

module _ (g : Standing → Standing) (family : (st : Standing) → (g st).family ≡ st.family) (stale : (st : Standing) → is_stale (g st) ≡ is_stale st) where
  same_first : (sts : List Standing) → first_stale (map g sts) ≡ first_stale sts
  same_first [] = refl
  same_first (st ∷ sts) = by_stale (is_stale (g st)) (is_stale st) (stale st) (same_first sts)
    where
      by_stale : (a b : Bool) → a ≡ b → first_stale (map g sts) ≡ first_stale sts → option_map (λ (x : Standing). x.family) (if a then Some (g st) else find is_stale (map g sts)) ≡ option_map (λ (x : Standing). x.family) (if b then Some st else find is_stale sts)
      by_stale true true e h = ap (λ (n : ℕ). Some n) (family st)
      by_stale false false e h = h
      by_stale true false e h = absurd (true≢false e)
      by_stale false true e h = absurd (true≢false (sym e))

marked_stale : (a event : ℕ) (st : Standing) → is_stale (standing_after (line.Turn a) event quiet_touch None None st) ≡ is_stale st
marked_stale a event st = by_renewal (st.wanted && renews_one quiet_touch (family_paths st.family)) (and_right st.wanted (renews_one quiet_touch (family_paths st.family)) (none_renewed (family_paths st.family)))
  where
    unsettled : (o : Option ℕ) → is_some (unless_settled None o) ≡ is_some o
    unsettled None = refl
    unsettled (Some v) = refl

    by_renewal : (b : Bool) → b ≡ false → is_some (if b then Some event else unless_settled None st.stale) ≡ is_some st.stale
    by_renewal true e = absurd (true≢false e)
    by_renewal false e = unsettled st.stale

mark_first : (s : Script) (a : ℕ) (k : Kept) → first_stale (kept_after s (line.Turn a) k).standings ≡ first_stale k.standings
mark_first s a k = same_first (standing_after (line.Turn a) (facts_of s (line.Turn a) k).event quiet_touch None None) (λ st. refl) (marked_stale a (facts_of s (line.Turn a) k).event) k.standings

-- behind the mark
module _ (s : Script) (k : Kept) (number f e n : ℕ) (text : List ℕ) (p : Publishes (kept_after s (line.Turn zero) k) f n) (timely : AreTimely (kept_after s (line.Turn zero) k).history.events (kept_after s (line.Turn zero) k).files (kept_after s (line.Turn zero) k).standings) where
  falls : stale_count (kept_after s (line.Published number f e (kept_after s (line.Turn zero) k).history.events text) (kept_after s (line.Turn zero) k)).standings < stale_count (kept_after s (line.Turn zero) k).standings
  falls =
      let m : Kept = kept_after s (line.Turn zero) k in
      all_settled number e text m (m.history.events + 1) None None f m.standings timely p.current (mark_first s zero k ∙ read_first k f p.family)

  pub framework_moves : Moves s (kept_after s (line.Turn zero) k) (kept_after s (line.Published number f e n text) (kept_after s (line.Turn zero) k))
  framework_moves =
      let m : Kept = kept_after s (line.Turn zero) k in
      subst (λ (point : ℕ). Moves s m (kept_after s (line.Published number f e point text) m)) (sym p.newest) (moves_by s m (line.Published number f e m.history.events text) (inr (inr falls)))
