-- The numbers of the channels that are held, where a handle is given or taken.
use Rattle.std.proofs.Common.{◌≡◌, ℕ, ◌==◌, ◌&&◌, ◌||◌, not, Bool, true, false, if◌then◌else◌, Some, None, List, [], ◌∷◌, ◌++◌, map, refl, ap, sym, ◌∙◌, subst, arith, true≢false}
use Rattle.std.specs.Prelude.{filter, find}
use Rattle.std.proofs.lemmas.Bool.{and_parts, or_parts, eqb-true}
use Rattle.apdu.specs.Words.{is_one_of}
use Rattle.card_effects.specs.Numbers.{AllApart}
use Rattle.epoch_cache.specs.declared.past.Past.{Past}
use Rattle.rules.specs.declared.holdings.Handle.{Handle}
use Rattle.rules.specs.Channels.{is_handle_of, handle_of, is_living_handle, held_numbers, without_handle}

-- ---- one handle for a reference

abbrev pub AreApart : List Handle → Type 0
AreApart [] = Unit {0}
AreApart (h ∷ hs) = (handle_of h.actor h.handle hs ≡ None) × AreApart hs

module _ (p : Handle → Bool) where
  -- those that pass are left out
  left_by : (b : Bool) (x : Handle) (hs : List Handle) → (if b then Some x else find p hs) ≡ None → (b ≡ false) × (find p hs ≡ None)
  left_by true x hs e = absurd (cc)
  left_by false x hs e = (refl, e)

  pub none_left : (hs : List Handle) → find p hs ≡ None → filter (λ h. not (p h)) hs ≡ hs
  none_left [] e = refl
  none_left (x ∷ hs) e =
      let q = left_by (p x) x hs e in
      ap (λ (b : Bool). if not b then x ∷ filter (λ h. not (p h)) hs else filter (λ h. not (p h)) hs) q.0
      ∙ ap (λ (ys : List Handle). x ∷ ys) (none_left hs q.1)

module _ (p q : Handle → Bool) where
  find_by : (b : Bool) (x : Handle) (hs : List Handle) → p x ≡ false → find p hs ≡ None → find p (if b then x ∷ hs else hs) ≡ None
  find_by true x hs e h = ap (λ (d : Bool). if d then Some x else find p hs) e ∙ h
  find_by false x hs e h = h

  -- none is found of fewer
  pub none_of_fewer : (hs : List Handle) → find p hs ≡ None → find p (filter q hs) ≡ None
  none_of_fewer [] e = refl
  none_of_fewer (x ∷ hs) e = let r = left_by p (p x) x hs e in find_by (q x) x (filter q hs) r.0 (none_of_fewer hs r.1)

module _ (q : Handle → Bool) where
  apart_by : (b : Bool) (x : Handle) (hs : List Handle) → handle_of x.actor x.handle hs ≡ None → AreApart hs → AreApart (if b then x ∷ hs else hs)
  apart_by true x hs e h = (e, h)
  apart_by false x hs e h = h

  pub apart_of_fewer : (hs : List Handle) → AreApart hs → AreApart (filter q hs)
  apart_of_fewer [] h = tt
  apart_of_fewer (x ∷ hs) h = apart_by (q x) x (filter q hs) (none_of_fewer (is_handle_of x.actor x.handle) q hs h.0) (apart_of_fewer hs h.1)

-- one more at the end
find_added : (p : Handle → Bool) (hs : List Handle) (h : Handle) → find p hs ≡ None → p h ≡ false → find p (hs ++ h ∷ []) ≡ None
find_added p [] h e u = ap (λ (b : Bool). if b then Some h else None) u
find_added p (x ∷ hs) h e u =
    let q = left_by p (p x) x hs e in
    ap (λ (b : Bool). if b then Some x else find p (hs ++ h ∷ [])) q.0 ∙ find_added p hs h q.1 u

unlike_handle : (a b c d : ℕ) → ((a == b) && (c == d)) ≡ false → ((b == a) && (d == c)) ≡ false
unlike_handle a b c d h = grind arith

pub apart_added : (hs : List Handle) (h : Handle) → AreApart hs → handle_of h.actor h.handle hs ≡ None → AreApart (hs ++ h ∷ [])
apart_added [] h t e = (refl, tt)
apart_added (x ∷ hs) h t e =
    let q = left_by (is_handle_of h.actor h.handle) (is_handle_of h.actor h.handle x) x hs e in
    (find_added (is_handle_of x.actor x.handle) hs h t.0 (unlike_handle x.actor h.actor x.handle h.handle q.0), apart_added hs h t.1 q.1)

module _ (f : Handle → Handle) (actor : (h : Handle) → (f h).actor ≡ h.actor) (handle : (h : Handle) → (f h).handle ≡ h.handle) where
  find_mapped : (a r : ℕ) (hs : List Handle) → handle_of a r hs ≡ None → handle_of a r (map f hs) ≡ None
  find_mapped a r [] e = refl
  find_mapped a r (x ∷ hs) e =
      let q = left_by (is_handle_of a r) (is_handle_of a r x) x hs e in
      let other : is_handle_of a r (f x) ≡ false = rw (actor x, handle x) q.0 in
      ap (λ (b : Bool). if b then Some (f x) else handle_of a r (map f hs)) other ∙ find_mapped a r hs q.1

  pub apart_mapped : (hs : List Handle) → AreApart hs → AreApart (map f hs)
  apart_mapped [] t = tt
  apart_mapped (x ∷ hs) t =
      let same : handle_of (f x).actor (f x).handle (map f hs) ≡ handle_of x.actor x.handle (map f hs) = ap (λ (n : ℕ). handle_of n (f x).handle (map f hs)) (actor x) ∙ ap (λ (n : ℕ). handle_of x.actor n (map f hs)) (handle x) in
      (same ∙ find_mapped x.actor x.handle hs t.0, apart_mapped hs t.1)

-- ---- the numbers

module _ (history : Past) where
  abbrev Held : List Handle → List ℕ
  Held hs = held_numbers history hs

  pub held_by : (b : Bool) (x : Handle) (hs : List Handle) → is_living_handle history x ≡ b → Held (x ∷ hs) ≡ (if b then x.number ∷ Held hs else Held hs)
  held_by true x hs e = ap (λ (b : Bool). map (λ (h : Handle). h.number) (if b then x ∷ filter (is_living_handle history) hs else filter (is_living_handle history) hs)) e
  held_by false x hs e = ap (λ (b : Bool). map (λ (h : Handle). h.number) (if b then x ∷ filter (is_living_handle history) hs else filter (is_living_handle history) hs)) e

  added_by : (b : Bool) (x : Handle) (hs : List Handle) (h : Handle) → is_living_handle history x ≡ b → Held (hs ++ h ∷ []) ≡ Held hs ++ h.number ∷ [] → Held (x ∷ (hs ++ h ∷ [])) ≡ Held (x ∷ hs) ++ h.number ∷ []
  added_by true x hs h q e = held_by true x (hs ++ h ∷ []) q ∙ ap (λ (ns : List ℕ). x.number ∷ ns) e ∙ ap (λ (ns : List ℕ). ns ++ h.number ∷ []) (sym (held_by true x hs q))
  added_by false x hs h q e = held_by false x (hs ++ h ∷ []) q ∙ e ∙ ap (λ (ns : List ℕ). ns ++ h.number ∷ []) (sym (held_by false x hs q))

  pub held_added : (hs : List Handle) (h : Handle) → is_living_handle history h ≡ true → Held (hs ++ h ∷ []) ≡ Held hs ++ h.number ∷ []
  held_added [] h e = held_by true h [] e
  held_added (x ∷ hs) h e = added_by (is_living_handle history x) x hs h refl (held_added hs h e)

  -- fewer handles have fewer numbers
  rest_out : (b : Bool) (n : ℕ) (x : Handle) (hs : List Handle) → is_living_handle history x ≡ b → is_one_of n (Held (x ∷ hs)) ≡ false → is_one_of n (Held hs) ≡ false
  rest_out true n x hs q e = (or_parts (x.number == n) (is_one_of n (Held hs)) (sym (ap (is_one_of n) (held_by true x hs q)) ∙ e)).1
  rest_out false n x hs q e = sym (ap (is_one_of n) (held_by false x hs q)) ∙ e

  first_out : (b : Bool) (n : ℕ) (x : Handle) (hs fewer : List Handle) → is_living_handle history x ≡ b → is_one_of n (Held (x ∷ hs)) ≡ false → is_one_of n (Held fewer) ≡ false → is_one_of n (Held (x ∷ fewer)) ≡ false
  first_out true n x hs fewer q e t =
      let u = (or_parts (x.number == n) (is_one_of n (Held hs)) (sym (ap (is_one_of n) (held_by true x hs q)) ∙ e)).0 in
      ap (is_one_of n) (held_by true x fewer q) ∙ ap (λ (b : Bool). b || is_one_of n (Held fewer)) u ∙ t
  first_out false n x hs fewer q e t = ap (is_one_of n) (held_by false x fewer q) ∙ t

  kept_out : (b : Bool) (n : ℕ) (x : Handle) (hs fewer : List Handle) → is_one_of n (Held (x ∷ hs)) ≡ false → is_one_of n (Held fewer) ≡ false → is_one_of n (Held (if b then x ∷ fewer else fewer)) ≡ false
  kept_out true n x hs fewer e t = first_out (is_living_handle history x) n x hs fewer refl e t
  kept_out false n x hs fewer e t = t

  pub fewer_held : (p : Handle → Bool) (n : ℕ) (hs : List Handle) → is_one_of n (Held hs) ≡ false → is_one_of n (Held (filter p hs)) ≡ false
  fewer_held p n [] e = refl
  fewer_held p n (x ∷ hs) e = kept_out (p x) n x hs (filter p hs) e (fewer_held p n hs (rest_out (is_living_handle history x) n x hs refl e))

  rest_apart : (b : Bool) (x : Handle) (hs : List Handle) → is_living_handle history x ≡ b → AllApart (Held (x ∷ hs)) → AllApart (Held hs)
  rest_apart true x hs q t = (subst AllApart (held_by true x hs q) t).1
  rest_apart false x hs q t = subst AllApart (held_by false x hs q) t

  first_apart : (b : Bool) (p : Handle → Bool) (x : Handle) (hs : List Handle) → is_living_handle history x ≡ b → AllApart (Held (x ∷ hs)) → AllApart (Held (filter p hs)) → AllApart (Held (x ∷ filter p hs))
  first_apart true p x hs q t g = subst AllApart (sym (held_by true x (filter p hs) q)) (fewer_held p x.number hs (subst AllApart (held_by true x hs q) t).0, g)
  first_apart false p x hs q t g = subst AllApart (sym (held_by false x (filter p hs) q)) g

  kept_apart : (b : Bool) (p : Handle → Bool) (x : Handle) (hs : List Handle) → AllApart (Held (x ∷ hs)) → AllApart (Held (filter p hs)) → AllApart (Held (if b then x ∷ filter p hs else filter p hs))
  kept_apart true p x hs t g = first_apart (is_living_handle history x) p x hs refl t g
  kept_apart false p x hs t g = g

  pub held_apart : (p : Handle → Bool) (hs : List Handle) → AllApart (Held hs) → AllApart (Held (filter p hs))
  held_apart p [] t = tt
  held_apart p (x ∷ hs) t = kept_apart (p x) p x hs t (held_apart p hs (rest_apart (is_living_handle history x) x hs refl t))

  -- ---- without the handle of a reference

  module _ (a r : ℕ) where
    abbrev Without : List Handle → List Handle
    Without hs = without_handle a r hs

    -- the first of a reference is its only one
    only : (x : Handle) (hs : List Handle) → is_handle_of a r x ≡ true → AreApart (x ∷ hs) → handle_of a r hs ≡ None
    only x hs q t =
        let is = and_parts (x.actor == a) (x.handle == r) q in
        subst (λ (m : ℕ). handle_of a m hs ≡ None) (eqb-true x.handle r is.1) (subst (λ (m : ℕ). handle_of m x.handle hs ≡ None) (eqb-true x.actor a is.0) t.0)

    without_only : (x : Handle) (hs : List Handle) → is_handle_of a r x ≡ true → AreApart (x ∷ hs) → Without hs ≡ hs
    without_only x hs q t = none_left (is_handle_of a r) hs (only x hs q t)

    -- one that does not live leaves the numbers
    still_by : (b : Bool) (x : Handle) (hs : List Handle) → is_living_handle history x ≡ b → Held (Without hs) ≡ Held hs → Held (x ∷ Without hs) ≡ Held (x ∷ hs)
    still_by true x hs l e = held_by true x (Without hs) l ∙ ap (λ (ns : List ℕ). x.number ∷ ns) e ∙ sym (held_by true x hs l)
    still_by false x hs l e = held_by false x (Without hs) l ∙ e ∙ sym (held_by false x hs l)

    dead_by : (b : Bool) (x : Handle) (hs : List Handle) (h : Handle) → is_handle_of a r x ≡ b → AreApart (x ∷ hs) → (if b then Some x else handle_of a r hs) ≡ Some h → is_living_handle history h ≡ false → (handle_of a r hs ≡ Some h → Held (Without hs) ≡ Held hs) → Held (if not b then x ∷ Without hs else Without hs) ≡ Held (x ∷ hs)
    dead_by true x hs h q t f d later =
        let same : x ≡ h = cc in
        ap (λ (ys : List Handle). Held ys) (without_only x hs q t) ∙ sym (held_by false x hs (ap (is_living_handle history) same ∙ d))
    dead_by false x hs h q t f d later = still_by (is_living_handle history x) x hs refl (later f)

    pub dead_leaves : (hs : List Handle) (h : Handle) → AreApart hs → handle_of a r hs ≡ Some h → is_living_handle history h ≡ false → Held (Without hs) ≡ Held hs
    dead_leaves [] h t e d = refl
    dead_leaves (x ∷ hs) h t e d = dead_by (is_handle_of a r x) x hs h refl t e d (λ f. dead_leaves hs h t.1 f d)

    -- the number of a living one is among them
    in_first : (x : Handle) (hs : List Handle) (h : Handle) → x ≡ h → is_living_handle history h ≡ true → is_one_of h.number (Held (x ∷ hs)) ≡ true
    in_first x hs h same l =
        let n : x.number ≡ h.number = ap (λ (y : Handle). y.number) same in
        let e : (x.number == h.number) ≡ true = grind arith in
        ap (is_one_of h.number) (held_by true x hs (ap (is_living_handle history) same ∙ l)) ∙ ap (λ (b : Bool). b || is_one_of h.number (Held hs)) e

    or_true : (b c : Bool) → c ≡ true → (b || c) ≡ true
    or_true true c g = refl
    or_true false c g = g

    in_rest : (b : Bool) (n : ℕ) (x : Handle) (hs : List Handle) → is_living_handle history x ≡ b → is_one_of n (Held hs) ≡ true → is_one_of n (Held (x ∷ hs)) ≡ true
    in_rest true n x hs q g = ap (is_one_of n) (held_by true x hs q) ∙ or_true (x.number == n) (is_one_of n (Held hs)) g
    in_rest false n x hs q g = ap (is_one_of n) (held_by false x hs q) ∙ g

    in_by : (b : Bool) (x : Handle) (hs : List Handle) (h : Handle) → (if b then Some x else handle_of a r hs) ≡ Some h → is_living_handle history h ≡ true → (handle_of a r hs ≡ Some h → is_one_of h.number (Held hs) ≡ true) → is_one_of h.number (Held (x ∷ hs)) ≡ true
    in_by true x hs h f l later = in_first x hs h (let same : x ≡ h = cc in same) l
    in_by false x hs h f l later = in_rest (is_living_handle history x) h.number x hs refl (later f)

    pub living_in : (hs : List Handle) (h : Handle) → handle_of a r hs ≡ Some h → is_living_handle history h ≡ true → is_one_of h.number (Held hs) ≡ true
    living_in [] h e l = absurd (cc)
    living_in (x ∷ hs) h e l = in_by (is_handle_of a r x) x hs h e l (λ f. living_in hs h f l)

    -- where it lives its number alone leaves
    abbrev leaves : Handle → ℕ → List Handle → Bool
    leaves h n hs = is_one_of n (Held hs) && not (n == h.number)

    out_first : (x : Handle) (hs : List Handle) (h : Handle) (n : ℕ) → x ≡ h → is_living_handle history h ≡ true → AllApart (Held (x ∷ hs)) → is_one_of n (Held hs) ≡ leaves h n (x ∷ hs)
    out_first x hs h n same l t =
        let lives : is_living_handle history x ≡ true = ap (is_living_handle history) same ∙ l in
        let out : is_one_of h.number (Held hs) ≡ false = subst (λ (y : Handle). is_one_of y.number (Held hs) ≡ false) same (subst AllApart (held_by true x hs lives) t).0 in
        by_number (n == h.number) (is_one_of n (Held hs)) (h.number == n) (λ e. subst (λ (m : ℕ). is_one_of m (Held hs) ≡ false) (sym (eqb-true n h.number e)) out) (λ e. grind arith)
        ∙ ap (λ (m : ℕ). ((m == n) || is_one_of n (Held hs)) && not (n == h.number)) (ap (λ (y : Handle). y.number) (sym same))
        ∙ ap (λ (b : Bool). b && not (n == h.number)) (sym (ap (is_one_of n) (held_by true x hs lives)))
      where
        by_number : (b c d : Bool) → (b ≡ true → c ≡ false) → (b ≡ false → d ≡ false) → c ≡ ((d || c) && not b)
        by_number true c d f g = let e : c ≡ false = f refl in e ∙ sym (and_false (d || c))
          where
            and_false : (x : Bool) → (x && false) ≡ false
            and_false true = refl
            and_false false = refl
        by_number false c d f g = rw (g refl) (sym (and_true c))
          where
            and_true : (x : Bool) → (x && true) ≡ x
            and_true true = refl
            and_true false = refl

    leaves_rest : (b : Bool) (x : Handle) (hs : List Handle) (h : Handle) (n : ℕ) → is_living_handle history x ≡ b → (b ≡ true → (x.number == h.number) ≡ false) → is_one_of n (Held (Without hs)) ≡ leaves h n hs → is_one_of n (Held (x ∷ Without hs)) ≡ leaves h n (x ∷ hs)
    leaves_rest true x hs h n q u e =
        ap (is_one_of n) (held_by true x (Without hs) q)
        ∙ ap (λ (b : Bool). (x.number == n) || b) e
        ∙ both (x.number == n) (is_one_of n (Held hs)) (n == h.number) (other (u refl))
        ∙ ap (λ (b : Bool). b && not (n == h.number)) (sym (ap (is_one_of n) (held_by true x hs q)))
      where
        other : (x.number == h.number) ≡ false → (x.number == n) ≡ true → (n == h.number) ≡ false
        other v w = grind arith

        both : (a b c : Bool) → (a ≡ true → c ≡ false) → (a || (b && not c)) ≡ ((a || b) && not c)
        both true b c f = rw (f refl) refl
        both false b c f = refl
    leaves_rest false x hs h n q u e =
        ap (is_one_of n) (held_by false x (Without hs) q) ∙ e ∙ ap (λ (b : Bool). b && not (n == h.number)) (sym (ap (is_one_of n) (held_by false x hs q)))

    unlike_first : (b : Bool) (x : Handle) (hs : List Handle) (h : Handle) → is_living_handle history x ≡ b → AllApart (Held (x ∷ hs)) → is_one_of h.number (Held hs) ≡ true → b ≡ true → (x.number == h.number) ≡ false
    unlike_first true x hs h q t there e = by_same (x.number == h.number) refl
      where
        by_same : (d : Bool) → (x.number == h.number) ≡ d → d ≡ false
        by_same false s = refl
        by_same true s = absurd (true≢false (sym there ∙ subst (λ (m : ℕ). is_one_of m (Held hs) ≡ false) (eqb-true x.number h.number s) (subst AllApart (held_by true x hs q) t).0))
    unlike_first false x hs h q t there e = absurd (true≢false (sym e))

    leaves_by : (b : Bool) (x : Handle) (hs : List Handle) (h : Handle) (n : ℕ) → is_handle_of a r x ≡ b → AreApart (x ∷ hs) → AllApart (Held (x ∷ hs)) → (if b then Some x else handle_of a r hs) ≡ Some h → is_living_handle history h ≡ true → (handle_of a r hs ≡ Some h → is_one_of n (Held (Without hs)) ≡ leaves h n hs) → is_one_of n (Held (if not b then x ∷ Without hs else Without hs)) ≡ leaves h n (x ∷ hs)
    leaves_by true x hs h n q t u f l later = ap (λ (ys : List Handle). is_one_of n (Held ys)) (without_only x hs q t) ∙ out_first x hs h n (let same : x ≡ h = cc in same) l u
    leaves_by false x hs h n q t u f l later = leaves_rest (is_living_handle history x) x hs h n refl (unlike_first (is_living_handle history x) x hs h refl u (living_in hs h f l)) (later f)

    pub number_leaves : (hs : List Handle) (h : Handle) (n : ℕ) → AreApart hs → AllApart (Held hs) → handle_of a r hs ≡ Some h → is_living_handle history h ≡ true → is_one_of n (Held (Without hs)) ≡ leaves h n hs
    number_leaves [] h n t u e l = absurd (cc)
    number_leaves (x ∷ hs) h n t u e l = leaves_by (is_handle_of a r x) x hs h n refl t u e l (λ f. number_leaves hs h n t.1 (rest_apart (is_living_handle history x) x hs refl u) f l)
