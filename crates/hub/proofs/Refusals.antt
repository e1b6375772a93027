-- Only the framework's readings are refused in a line of their own.
use Rattle.std.proofs.Common.{◌≡◌, ℕ, ◌+◌, ◌&&◌, ◌==◌, Bool, true, false, if◌then◌else◌, List, [], ◌∷◌, Option, Some, None, is_some, refl, sym, ap, ◌∙◌, true≢false}
use Rattle.std.proofs.lemmas.Bool.{and_parts, eqb-true}
use Rattle.apdu.specs.Values.{CommandValue, ResponseValue}
use Rattle.apdu.specs.Words.{same_number}
use Rattle.families.specs.Families.{has_path}
use Rattle.script_reader.specs.declared.types.Script.{Script}
use Rattle.script_reader.specs.declared.types.Operation.{Operation}
use Rattle.report.specs.declared.line.Line.{Line}
use Rattle.report.specs.declared.line.Line.TheVariants as line
use Rattle.link.specs.declared.chain.Final.{Final}
use Rattle.link.specs.Commands.{asks_more, chain_count}
use Rattle.loader.specs.declared.reading.RefusedReading.{RefusedReading}
use Rattle.rules.specs.declared.due.Due.TheVariants.{TellRefusal as tell_refusal}
use Rattle.rules.specs.declared.kept.Facts.{Facts}
use Rattle.rules.specs.declared.kept.Job.{Job}
use Rattle.rules.specs.declared.kept.Kept.{Kept}
use Rattle.rules.specs.declared.kept.Turn.{Turn}
use Rattle.rules.specs.Rules.{is_turn_of}
use Rattle.rules.specs.After.{facts_of, jobs_beside, kept_after, kept_of, refused_event, refused_family, refused_of, turn_exchanged}
use Rattle.rules.specs.Due.{due}
use Rattle.rules.specs.Performed.{is_sent}
use Rattle.performed.specs.Followed.{are_followed, is_followed}
use Rattle.performed.proofs.TurnsSays.{says_of}
use Rattle.hub.specs.Parts.{Parts}
use Rattle.hub.specs.Settled.{IsTied}

OfFramework : Turn → Type 0
OfFramework t = is_some t.refused ≡ true → t.actor ≡ Some 0

pub same_actor : (o : Option ℕ) (a : ℕ) → same_number o (Some a) ≡ true → o ≡ Some a
same_actor None a h = absurd (true≢false (sym h))
same_actor (Some b) a h = ap (λ (n : ℕ). Some n) (eqb-true b a h)

module _ (t : Turn) (a : ℕ) (own : t.actor ≡ Some a) where
  by_test : (b : Bool) (g n : ℕ) (before : Option (ℕ × ℕ)) → (is_some before ≡ true → t.actor ≡ Some 0) → (b ≡ true → a ≡ 0) → is_some (if b then Some (g, n) else before) ≡ true → t.actor ≡ Some 0
  by_test true g n before old now h = own ∙ ap (λ (m : ℕ). Some m) (now refl)
  by_test false g n before old now h = old h

  by_family : (family : Option ℕ) (f : Final) (r : RefusedReading) (before : Option (ℕ × ℕ)) → f.actor ≡ a → (is_some before ≡ true → t.actor ≡ Some 0) → is_some (refused_family family f r before) ≡ true → t.actor ≡ Some 0
  by_family None f r before e old h = old h
  by_family (Some g) f r before e old h =
      by_test ((f.actor == 0) && has_path g r.path) g f.event before old
      (λ (b : (f.actor == 0) && has_path g r.path ≡ true). sym e ∙ eqb-true f.actor 0 (and_parts (f.actor == 0) (has_path g r.path) b).0) h

  by_reading : (f : Final) (o : Option RefusedReading) → f.actor ≡ a → (is_some t.refused ≡ true → t.actor ≡ Some 0) → is_some (refused_event t f o) ≡ true → t.actor ≡ Some 0
  by_reading f None e old h = old h
  by_reading f (Some r) e old h = by_family t.family f r t.refused e old h

  by_final : (op : Option Operation) (job : Job) (held : List ℕ) (facts : Facts) (o : Option RefusedReading) (b : Bool) (c : CommandValue) (r : ResponseValue) (n m : ℕ) → facts.answered ≡ (if b then None else Some (record { actor = a; command = c; response = r; event = n; first_event = m })) → (is_some t.refused ≡ true → t.actor ≡ Some 0) → is_some (turn_exchanged op job held facts o t).refused ≡ true → (turn_exchanged op job held facts o t).actor ≡ Some 0
  by_final op job held facts o true c r n m e old = rw e (λ h. old h)
  by_final op job held facts o false c r n m e old = rw e (λ h. by_reading (record { actor = a; command = c; response = r; event = n; first_event = m }) o refl old h)

line_framework : (s : Script) (k : Kept) (l : Line) → is_followed s k l ≡ true → OfFramework k.turn → OfFramework (kept_after s l k).turn
unfolding OfFramework
line_framework s k (line.Turn a) f t = λ h. absurd (true≢false (sym h))
line_framework s k (line.Begin a i) f t = t
line_framework s k (line.Exchange a c r) f t =
    let facts = facts_of s (line.Exchange a c r) k in
    by_final k.turn a (same_actor k.turn.actor a (and_parts (is_turn_of a k.turn) (is_sent (due s k) (line.Exchange a c r)) f).0)
    _ _ _ facts
    (refused_of k.selected (jobs_beside (line.Exchange a c r) k.history.epoch facts k.selected k.jobs) facts.answered)
    (asks_more (chain_count c k.chain + 1) c r) _ r _ _ refl t
line_framework s k (line.Failed a c d) f t = t
line_framework s k (line.Reset a) f t = t
line_framework s k (line.ResetFailed a) f t = t
line_framework s k (line.World a e) f t = t
line_framework s k (line.Published n g e p text) f t = t
line_framework s k (line.EpochEnd n e p) f t = t
line_framework s k (line.Refused g n) f t = λ h. absurd (true≢false (sym h))
line_framework s k (line.Answered a i given) f t = t

of_framework : (s : Script) (lines : List Line) → are_followed s lines ≡ true → OfFramework (kept_of s lines).turn
unfolding OfFramework
of_framework s [] f = λ h. absurd (true≢false (sym h))
of_framework s (l ∷ earlier) f =
    let p = and_parts (are_followed s earlier) (is_followed s (kept_of s earlier) l) f in
    line_framework s (kept_of s earlier) l p.1 (of_framework s earlier p.0)

pub refuses_framework : (s : Script) (lines : List Line) (g n : ℕ) → are_followed s lines ≡ true → due s (kept_of s lines) ≡ tell_refusal g n → (kept_of s lines).turn.actor ≡ Some 0
unfolding OfFramework
refuses_framework s lines g n f h = of_framework s lines f (ap is_some (says_of s (kept_of s lines) (tell_refusal g n) h))

pub refused_turn : (p : Parts) (g n : ℕ) → IsTied p → due p.script p.kept ≡ tell_refusal g n → p.kept.turn.actor ≡ Some 0
refused_turn p g n t h =
    let k : Kept = kept_of p.script p.lines.lines in
    ap (λ (x : Kept). x.turn.actor) t.kept
    ∙ refuses_framework p.script p.lines.lines g n t.lines.followed (ap (due p.script) (sym t.kept) ∙ h)
