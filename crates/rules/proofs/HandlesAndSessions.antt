-- What is kept of an actor's channels and sessions is what looking back says.
use Rattle.std.proofs.Common.{◌≡◌, ℕ, ◌+◌, ◌==◌, ◌&&◌, not, Bool, true, false, if◌then◌else◌, List, [], ◌∷◌, ◌++◌, Option, Some, None, refl, sym, ap, ◌∙◌, arith, true≢false}
use Rattle.std.specs.Prelude.{filter, find, option_map, option_and_then}
use Rattle.std.proofs.lemmas.Bool.{eqb-true}
use Rattle.apdu.specs.Words.{has_value}
use Rattle.script_reader.specs.declared.types.Script.{Script}
use Rattle.script_reader.specs.declared.types.Operation.{Operation}
use Rattle.script_reader.specs.declared.types.Operation.TheVariants as operation
use Rattle.report.specs.declared.answer.Answer.{Answer}
use Rattle.report.specs.declared.answer.Answer.TheVariants as answer
use Rattle.report.specs.declared.line.Line.{Line}
use Rattle.report.specs.declared.line.Line.TheVariants as line
use Rattle.rules.specs.declared.holdings.Handle.{Handle}
use Rattle.rules.specs.declared.holdings.Session.{Session}
use Rattle.rules.specs.declared.kept.Kept.{Kept}
use Rattle.rules.specs.Channels.{handle_of, handles_after, ended_handle, ended_handles}
use Rattle.rules.specs.Sessions.{session_of, sessions_after}
use Rattle.rules.specs.Kept.{operation_at}
use Rattle.rules.specs.After.{facts_of, handles_behind, sessions_behind, kept_of}
use Rattle.rules.specs.LookingBack.{epoch_number, number_and_epoch, is_about_handle, is_of_handle, number_opened, opened_by, held_as, is_about_key, is_of_key, begins_session, session_begun, session_since}
use Rattle.rules.proofs.Looking.{history}

-- ---- a list of things that are known by two numbers, each pair once

module _ {A : Type 0} (p q : A → ℕ) where
  abbrev pub matches : ℕ → ℕ → A → Bool
  matches a b x = (p x == a) && (q x == b)

  same_pair : (a b c d m n : ℕ) → (m == a) && (n == b) ≡ true → (m == c) && (n == d) ≡ (c == a) && (d == b)
  same_pair a b c d m n h = by_first (m == a) (n == b) refl refl h
    where
      flip : (x y : ℕ) → (x == y) ≡ (y == x)
      flip x y = grind arith

      by_first : (i j : Bool) → (m == a) ≡ i → (n == b) ≡ j → i && j ≡ true → (m == c) && (n == d) ≡ (c == a) && (d == b)
      by_first true true ei ej e =
          ap (λ x. (x == c) && (n == d)) (eqb-true m a ei) ∙ ap (λ y. (a == c) && (y == d)) (eqb-true n b ej)
          ∙ ap (λ v. v && (b == d)) (flip a c) ∙ ap (λ v. (c == a) && v) (flip b d)
      by_first true false ei ej e = absurd (true≢false (sym e))
      by_first false j ei ej e = absurd (true≢false (sym e))

  by_tests : (x : A) (f g : Option A) (i j k : Bool) → (i ≡ true → j ≡ k) → f ≡ (if k then None else g) → (if not j then (if i then Some x else f) else f) ≡ (if k then None else if i then Some x else g)
  by_tests x f g true true true h e = e
  by_tests x f g true true false h e = absurd (true≢false (h refl))
  by_tests x f g true false true h e = absurd (true≢false (sym (h refl)))
  by_tests x f g true false false h e = refl
  by_tests x f g false true k h e = e
  by_tests x f g false false k h e = e

  if_find : (a b : ℕ) (j : Bool) (x : A) (xs : List A) → find (matches a b) (if j then x ∷ xs else xs) ≡ (if j then (if matches a b x then Some x else find (matches a b) xs) else find (matches a b) xs)
  if_find a b true x xs = refl
  if_find a b false x xs = refl

  pub find_without : (a b c d : ℕ) (xs : List A) → find (matches a b) (filter (λ x. not (matches c d x)) xs) ≡ (if (c == a) && (d == b) then None else find (matches a b) xs)
  find_without a b c d [] = none_of ((c == a) && (d == b)) None refl
    where
      none_of : (k : Bool) (o : Option A) → o ≡ None → o ≡ (if k then None else o)
      none_of true o e = e
      none_of false o e = refl
  find_without a b c d (x ∷ xs) =
      if_find a b (not (matches c d x)) x (filter (λ y. not (matches c d y)) xs)
      ∙ by_tests x (find (matches a b) (filter (λ y. not (matches c d y)) xs)) (find (matches a b) xs) (matches a b x) (matches c d x) ((c == a) && (d == b)) (same_pair a b c d (p x) (q x)) (find_without a b c d xs)

  find_last : (a b : ℕ) (y : A) (xs : List A) → matches a b y ≡ false → find (matches a b) (xs ++ y ∷ []) ≡ find (matches a b) xs
  find_last a b y [] e = rw e refl
  find_last a b y (x ∷ xs) e = ap (λ o. if matches a b x then Some x else o) (find_last a b y xs e)

  find_new : (a b : ℕ) (y : A) (xs : List A) → matches a b y ≡ true → find (matches a b) xs ≡ None → find (matches a b) (xs ++ y ∷ []) ≡ Some y
  find_new a b y [] e n = rw e refl
  find_new a b y (x ∷ xs) e n = by_head (matches a b x) (find (matches a b) xs) (find (matches a b) (xs ++ y ∷ [])) n (λ h. find_new a b y xs e h)
    where
      by_head : (i : Bool) (f g : Option A) → (if i then Some x else f) ≡ None → (f ≡ None → g ≡ Some y) → (if i then Some x else g) ≡ Some y
      by_head true f g h new = absurd (cc)
      by_head false f g h new = new h

  pub find_with : (a b : ℕ) (y : A) (xs : List A) → find (matches a b) (filter (λ x. not (matches (p y) (q y) x)) xs ++ y ∷ []) ≡ (if (p y == a) && (q y == b) then Some y else find (matches a b) xs)
  find_with a b y xs = by_same ((p y == a) && (q y == b)) refl
    where
      by_same : (k : Bool) → (p y == a) && (q y == b) ≡ k → find (matches a b) (filter (λ x. not (matches (p y) (q y) x)) xs ++ y ∷ []) ≡ (if k then Some y else find (matches a b) xs)
      by_same true e = find_new a b y (filter (λ x. not (matches (p y) (q y) x)) xs) e (find_without a b (p y) (q y) xs ∙ rw e refl)
      by_same false e = find_last a b y (filter (λ x. not (matches (p y) (q y) x)) xs) e ∙ find_without a b (p y) (q y) xs ∙ rw e refl

-- ---- channels

abbrev held : ℕ → ℕ → List Handle → Option (ℕ × ℕ)
held actor handle handles = option_map number_and_epoch (handle_of actor handle handles)

ended_one : (epoch event : ℕ) (b : Bool) (h : Handle) → ((if b then record h { ended = Some event } else h).actor ≡ h.actor) × (((if b then record h { ended = Some event } else h).handle ≡ h.handle) × (((if b then record h { ended = Some event } else h).number ≡ h.number) × ((if b then record h { ended = Some event } else h).epoch ≡ h.epoch)))
ended_one epoch event true h = (refl, (refl, (refl, refl)))
ended_one epoch event false h = (refl, (refl, (refl, refl)))

ended_head : (epoch event : ℕ) (h : Handle) (b : Bool) (f g : Option Handle) → option_map number_and_epoch f ≡ option_map number_and_epoch g → option_map number_and_epoch (if b then Some (ended_handle epoch event h) else f) ≡ option_map number_and_epoch (if b then Some h else g)
ended_head epoch event h true f g e =
    let same = ended_one epoch event (h.epoch == epoch) h in
    rw (same.1.1.0, same.1.1.1) refl
ended_head epoch event h false f g e = e

held_ended : (epoch event actor handle : ℕ) (handles : List Handle) → held actor handle (ended_handles epoch event handles) ≡ held actor handle handles
held_ended epoch event actor handle [] = refl
held_ended epoch event actor handle (h ∷ hs) =
    let same = ended_one epoch event (h.epoch == epoch) h in
    rw (same.0, same.1.0) (ended_head epoch event h ((h.actor == actor) && (h.handle == handle)) (handle_of actor handle (ended_handles epoch event hs)) (handle_of actor handle hs) (held_ended epoch event actor handle hs))

kept_or_ended : (b : Bool) (epoch event actor handle : ℕ) (handles : List Handle) → held actor handle (if b then ended_handles epoch event handles else handles) ≡ held actor handle handles
kept_or_ended true epoch event actor handle handles = held_ended epoch event actor handle handles
kept_or_ended false epoch event actor handle handles = refl

if_false : {A : Type 0} (b : Bool) (x y : A) → y ≡ (if b && false then x else y)
if_false true x y = refl
if_false false x y = refl

map_if : {A B : Type 0} (g : A → B) (b : Bool) (x : A) (o : Option A) → option_map g (if b then Some x else o) ≡ (if b then Some (g x) else option_map g o)
map_if g true x o = refl
map_if g false x o = refl

map_if_none : {A B : Type 0} (g : A → B) (b : Bool) (o : Option A) → option_map g (if b then None else o) ≡ (if b then None else option_map g o)
map_if_none g true o = refl
map_if_none g false o = refl

module _ (actor handle a epoch : ℕ) (handles : List Handle) where
  by_open : (h : ℕ) (aid : List ℕ) (given : Answer) → held actor handle (handles_after a (operation.OpenChannel h aid) given epoch handles) ≡ (if (a == actor) && is_about_handle handle given (operation.OpenChannel h aid) then option_map (λ (n : ℕ). (n, epoch)) (number_opened given (operation.OpenChannel h aid)) else held actor handle handles)
  by_open h aid (answer.Opened number) =
      ap (option_map number_and_epoch) (find_with (λ (x : Handle). x.actor) (λ (x : Handle). x.handle) actor handle (record { actor = a; handle = h; number = number; epoch = epoch; ended = None }) handles)
      ∙ map_if number_and_epoch ((a == actor) && (h == handle)) (record { actor = a; handle = h; number = number; epoch = epoch; ended = None }) (handle_of actor handle handles)
  by_open h aid given = if_false (a == actor) (option_map (λ (n : ℕ). (n, epoch)) (number_opened given (operation.OpenChannel h aid))) (held actor handle handles)

  by_operation : (op : Operation) (given : Answer) → held actor handle (handles_after a op given epoch handles) ≡ (if (a == actor) && is_about_handle handle given op then option_map (λ (n : ℕ). (n, epoch)) (number_opened given op) else held actor handle handles)
  by_operation (operation.OpenChannel h aid) given = by_open h aid given
  by_operation (operation.Close h) given =
      ap (option_map number_and_epoch) (find_without (λ (x : Handle). x.actor) (λ (x : Handle). x.handle) actor handle a h handles)
      ∙ map_if_none number_and_epoch ((a == actor) && (h == handle)) (handle_of actor handle handles)
  by_operation op given = if_false (a == actor) (option_map (λ (n : ℕ). (n, epoch)) (number_opened given op)) (held actor handle handles)

  by_found : (o : Option Operation) (given : Answer) → held actor handle (elim o [ None ↦ handles | Some op ↦ handles_after a op given epoch handles ]) ≡ (if (a == actor) && has_value (is_about_handle handle given) o then option_map (λ (n : ℕ). (n, epoch)) (option_and_then (number_opened given) o) else held actor handle handles)
  by_found None given = if_false (a == actor) None (held actor handle handles)
  by_found (Some op) given = by_operation op given

handle_line : (s : Script) (l : Line) (k : Kept) (epoch actor handle : ℕ) → held actor handle (handles_behind s l epoch (facts_of s l k) k.handles) ≡ (if is_of_handle s actor handle l then option_map (λ (n : ℕ). (n, epoch)) (opened_by s l) else held actor handle k.handles)
handle_line s (line.Answered a i given) k epoch actor handle = by_found actor handle a epoch k.handles (operation_at s a i) given
handle_line s (line.Turn a) k epoch actor handle = refl
handle_line s (line.Begin a i) k epoch actor handle = refl
handle_line s (line.Exchange a c r) k epoch actor handle = refl
handle_line s (line.Failed a c d) k epoch actor handle = kept_or_ended (facts_of s (line.Failed a c d) k).ends epoch (k.history.events + 1) actor handle k.handles
handle_line s (line.Reset a) k epoch actor handle = kept_or_ended (facts_of s (line.Reset a) k).ends epoch (k.history.events + 1) actor handle k.handles
handle_line s (line.ResetFailed a) k epoch actor handle = kept_or_ended (facts_of s (line.ResetFailed a) k).ends epoch (k.history.events + 1) actor handle k.handles
handle_line s (line.World a e) k epoch actor handle = kept_or_ended (facts_of s (line.World a e) k).ends epoch (k.history.events + 1) actor handle k.handles
handle_line s (line.Published n f e v text) k epoch actor handle = refl
handle_line s (line.EpochEnd n e v) k epoch actor handle = refl
handle_line s (line.Refused f n) k epoch actor handle = refl

pub handles : (s : Script) (lines : List Line) (actor handle : ℕ) → option_map number_and_epoch (handle_of actor handle (kept_of s lines).handles) ≡ held_as s actor handle lines
handles s [] actor handle = refl
handles s (l ∷ earlier) actor handle =
    handle_line s l (kept_of s earlier) (kept_of s earlier).history.epoch actor handle
    ∙ ap (λ (n : ℕ). if is_of_handle s actor handle l then option_map (λ (m : ℕ). (m, n)) (opened_by s l) else held actor handle (kept_of s earlier).handles) (history s earlier).epoch
    ∙ ap (λ o. if is_of_handle s actor handle l then option_map (λ (m : ℕ). (m, epoch_number earlier)) (opened_by s l) else o) (handles s earlier actor handle)

-- ---- sessions

abbrev since : ℕ → ℕ → List Session → Option ℕ
since actor key sessions = option_map (λ (p : Session). p.epoch) (session_of actor key sessions)

module _ (actor key a epoch : ℕ) (sessions : List Session) where
  by_verify : (k : ℕ) (pin : List ℕ) (given : Answer) → since actor key (sessions_after a (operation.Verify k pin) given epoch sessions) ≡ (if (a == actor) && is_about_key key given (operation.Verify k pin) then (if begins_session given (operation.Verify k pin) then Some epoch else None) else since actor key sessions)
  by_verify k pin answer.Verified =
      ap (option_map (λ (x : Session). x.epoch)) (find_with (λ (x : Session). x.actor) (λ (x : Session). x.key) actor key (record { actor = a; key = k; epoch = epoch }) sessions)
      ∙ map_if (λ (x : Session). x.epoch) ((a == actor) && (k == key)) (record { actor = a; key = k; epoch = epoch }) (session_of actor key sessions)
  by_verify k pin given = if_false (a == actor) (if begins_session given (operation.Verify k pin) then Some epoch else None) (since actor key sessions)

  session_operation : (op : Operation) (given : Answer) → since actor key (sessions_after a op given epoch sessions) ≡ (if (a == actor) && is_about_key key given op then (if begins_session given op then Some epoch else None) else since actor key sessions)
  session_operation (operation.Verify k pin) given = by_verify k pin given
  session_operation (operation.End k) given =
      ap (option_map (λ (x : Session). x.epoch)) (find_without (λ (x : Session). x.actor) (λ (x : Session). x.key) actor key a k sessions)
      ∙ map_if_none (λ (x : Session). x.epoch) ((a == actor) && (k == key)) (session_of actor key sessions)
  session_operation op given = if_false (a == actor) (if begins_session given op then Some epoch else None) (since actor key sessions)

  session_found : (o : Option Operation) (given : Answer) → since actor key (elim o [ None ↦ sessions | Some op ↦ sessions_after a op given epoch sessions ]) ≡ (if (a == actor) && has_value (is_about_key key given) o then (if has_value (begins_session given) o then Some epoch else None) else since actor key sessions)
  session_found None given = if_false (a == actor) None (since actor key sessions)
  session_found (Some op) given = session_operation op given

session_line : (s : Script) (l : Line) (epoch : ℕ) (sessions : List Session) (actor key : ℕ) → since actor key (sessions_behind s l epoch sessions) ≡ (if is_of_key s actor key l then (if session_begun s l then Some epoch else None) else since actor key sessions)
session_line s (line.Answered a i given) epoch sessions actor key = session_found actor key a epoch sessions (operation_at s a i) given
session_line s (line.Turn a) epoch sessions actor key = refl
session_line s (line.Begin a i) epoch sessions actor key = refl
session_line s (line.Exchange a c r) epoch sessions actor key = refl
session_line s (line.Failed a c d) epoch sessions actor key = refl
session_line s (line.Reset a) epoch sessions actor key = refl
session_line s (line.ResetFailed a) epoch sessions actor key = refl
session_line s (line.World a e) epoch sessions actor key = refl
session_line s (line.Published n f e v text) epoch sessions actor key = refl
session_line s (line.EpochEnd n e v) epoch sessions actor key = refl
session_line s (line.Refused f n) epoch sessions actor key = refl

pub sessions : (s : Script) (lines : List Line) (actor key : ℕ) → option_map (λ (p : Session). p.epoch) (session_of actor key (kept_of s lines).sessions) ≡ session_since s actor key lines
sessions s [] actor key = refl
sessions s (l ∷ earlier) actor key =
    session_line s l (kept_of s earlier).history.epoch (kept_of s earlier).sessions actor key
    ∙ ap (λ (n : ℕ). if is_of_key s actor key l then (if session_begun s l then Some n else None) else since actor key (kept_of s earlier).sessions) (history s earlier).epoch
    ∙ ap (λ o. if is_of_key s actor key l then (if session_begun s l then Some (epoch_number earlier) else None) else o) (sessions s earlier actor key)
