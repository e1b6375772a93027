-- The exchanges of a command are those that are due, and what they leave of a turn.
use Rattle.std.proofs.Common.{◌≡◌, ℕ, ◌==◌, ◌&&◌, ◌+◌, ◌-◌, ◌≤◌, ◌++◌, length, arith, Bool, true, false, if◌then◌else◌, List, [], ◌∷◌, Option, Some, None, unwrap_or, option_map, Result, Ok, Err, refl, sym, ap, ◌∙◌, subst}
use Rattle.std.specs.Prelude.{option_and_then, OnOk}
use Rattle.std.specs.Cmp.Lexicographic.{same_text}
use Rattle.std.proofs.Math.Seq.{drop-append_seam}
use Rattle.std.proofs.lemmas.Bool.{and_parts, eqb-true}
use Rattle.std.proofs.lemmas.List.{append_assoc, length-append}
use Rattle.apdu.specs.Values.{CommandValue, ResponseValue}
use Rattle.apdu.specs.Words.{same_bytes, same_number}
use Rattle.apdu.specs.Apdu.{same_command, is_success, wants_more}
use Rattle.card_model.specs.declared.slot.SlotFault.{SlotFault}
use Rattle.card_model.specs.declared.trail.Step.{Step}
use Rattle.apdu.specs.declared.status.Sw.{Sw}
use Rattle.fcp.specs.Control.{read_fcp}
use Rattle.fcp.specs.declared.control.Fcp.{Fcp}
use Rattle.fcp.specs.declared.control.FcpError.{FcpError}
use Rattle.fcp.specs.declared.rows.FileKind.{FileKind}
use Rattle.fcp.specs.declared.rows.FileKind.TheVariants.{Transparent, Linear, Directory}
use Rattle.link.specs.declared.chain.Chain.{Chain}
use Rattle.link.specs.declared.chain.Final.{Final}
use Rattle.link.specs.declared.exchanges.LinkError.{LinkError}
use Rattle.link.specs.declared.exchanges.LinkError.TheVariants as link
use Rattle.link.specs.Commands.{asks_more, chain_count, chain_first, final_after, first_of, follow_up, is_path_select, is_reading_select, is_refused}
use Rattle.link.specs.Exchanges.{Grows, added, answer_of, chain_of, exchanged}
use Rattle.link.proofs.Steps.{each-continued}
use Rattle.loader.specs.declared.stage.LoadError.TheVariants as error
use Rattle.loader.specs.declared.stage.Stage.{Stage}
use Rattle.loader.specs.declared.stage.Stage.TheVariants.{Over}
use Rattle.loader.specs.Values.{ReadingValue}
use Rattle.loader.specs.Reading.{is_complete, next_read, read_by, read_number, reading_of}
use Rattle.loader.specs.Load.{Load, AreDue, IsReadNext, bad_fcp, due_by_chain, load_after, load_by, load_due, next_or_over, readings_exchanged, refusal_of, stage_behind}

-- ---- a command that is the same

number-is : (a b : Option ℕ) → same_number a b ≡ true → a ≡ b
number-is None None h = refl
number-is None (Some b) h = absurd (cc)
number-is (Some a) None h = absurd (cc)
number-is (Some a) (Some b) h = ap (λ n. Some n) (eqb-true a b h)

command-is : (a b : CommandValue) → same_command a b ≡ true → a ≡ b
command-is a b h =
    let class = a.class == b.class in
    let ins = a.ins == b.ins in
    let p1 = a.p1 == b.p1 in
    let p2 = a.p2 == b.p2 in
    let body = same_bytes a.body b.body in
    let h6 = and_parts (class && ins && p1 && p2 && body) (same_number a.le b.le) h in
    let h5 = and_parts (class && ins && p1 && p2) body h6.0 in
    let h4 = and_parts (class && ins && p1) p2 h5.0 in
    let h3 = and_parts (class && ins) p1 h4.0 in
    let h2 = and_parts class ins h3.0 in
    let e1 : a.class ≡ b.class = eqb-true a.class b.class h2.0 in
    let e2 : a.ins ≡ b.ins = eqb-true a.ins b.ins h2.1 in
    let e3 : a.p1 ≡ b.p1 = eqb-true a.p1 b.p1 h3.1 in
    let e4 : a.p2 ≡ b.p2 = eqb-true a.p2 b.p2 h4.1 in
    let e5 : a.body ≡ b.body = same_text a.body b.body (sym h5.1) in
    let e6 : a.le ≡ b.le = number-is a.le b.le h6.1 in
    rw (e1, e2, e3, e4, e5, e6) refl

-- ---- tests that were passed

passed : {A : Type 0} (b : Bool) (x : Option A) (y : A) → (if b then x else None) ≡ Some y → b ≡ true
passed true x y h = refl
passed false x y h = absurd (cc)

behind-test : {A : Type 0} (b : Bool) (x : Option A) (y : A) → (if b then x else None) ≡ Some y → x ≡ Some y
behind-test true x y h = h
behind-test false x y h = absurd (cc)

-- ---- the chain of a command

chain-started : (b : Bool) (first next : CommandValue) (count : ℕ) (chain : Chain) → (if b then Some (record { first = first; count = count; next = next }) else None) ≡ Some chain → chain.first ≡ first
chain-started true first next count chain h = let e : record { first = first; count = count; next = next } ≡ chain = cc in sym (ap (λ (c : Chain). c.first) e)
chain-started false first next count chain h = absurd (cc)

chain-from : (c : CommandValue) (outcome : Result ResponseValue SlotFault) (before : Option Chain) (chain : Chain) → chain_of c outcome before ≡ Some chain → chain.first ≡ chain_first c before
chain-from c (Ok r) before chain h = chain-started (asks_more (chain_count c before + 1) c r) (chain_first c before) (follow_up c r) (chain_count c before + 1) chain h
chain-from c (Err fault) before chain h = absurd (cc)

chain-first-next : (chain : Chain) → chain_first chain.next (Some chain) ≡ chain.first
chain-first-next chain = ap (λ (o : Option Chain). first_of o chain.next) (each-continued (Some chain))

load-chain : (path : List ℕ) (c : CommandValue) (outcome : Result ResponseValue SlotFault) (l : Load) → (load_by path c outcome l).chain ≡ chain_of c outcome l.chain
load-chain path c (Ok r) l = refl
load-chain path c (Err fault) l = refl

-- ---- the stage behind a command

reads-by : (kind : FileKind) (f : Fcp) (i : ℕ) → is_path_select (read_by kind f i) ≡ false
reads-by Transparent f i = refl
reads-by Linear f i = refl
reads-by Directory f i = refl

reads-unless : (b : Bool) (c : CommandValue) → is_path_select c ≡ false → IsReadNext (next_or_over (if b then None else Some c))
reads-unless true c h = tt
reads-unless false c h = h

reads-next : (g : Option ReadingValue) → IsReadNext (next_or_over (option_and_then next_read g))
reads-next None = tt
reads-next (Some g) = reads-unless (is_complete g) (read_number g.control (length g.rows)) (reads-by g.control.kind g.control (length g.rows))

reads-selected : (b : Bool) (g : Option ReadingValue) → IsReadNext (next_or_over (if b then option_and_then next_read g else None))
reads-selected true g = reads-next g
reads-selected false g = tt

-- the stage behind the last exchange of a command
pub record Left (first : CommandValue) (stage : Stage) : Type 0 where
  pub reads : IsReadNext stage
  pub over : is_path_select first ≡ false → stage ≡ Over

left-selected : (path : List ℕ) (first : CommandValue) (good : Bool) (g : Option ReadingValue) → Left first (next_or_over (if is_path_select first && good then option_and_then next_read g else None))
left-selected path first good g = record {
  reads = reads-selected (is_path_select first && good) g;
  over = λ h. rw h refl;
}

left-final : (b : Bool) (path : List ℕ) (f : Final) (l : Load) → b ≡ false → Left f.command (stage_behind path (readings_exchanged l.selected (if b then None else Some f) l.readings) (if b then None else Some f) l.stage)
left-final true path f l h = absurd (cc)
left-final false path f l h = left-selected path f.command (is_success f.response.sw) (reading_of path (readings_exchanged l.selected (Some f) l.readings))

not-passed : {A : Type 0} (b : Bool) (x : A) → (if b then Some x else None) ≡ None → b ≡ false
not-passed true x h = absurd (cc)
not-passed false x h = refl

left-by : (path : List ℕ) (c : CommandValue) (outcome : Result ResponseValue SlotFault) (l : Load) → chain_of c outcome l.chain ≡ None → Left (chain_first c l.chain) (load_by path c outcome l).stage
left-by path c (Err fault) l h = record { reads = tt; over = λ _. refl }
left-by path c (Ok r) l h =
    let chain : Chain = record { first = chain_first c l.chain; count = chain_count c l.chain + 1; next = follow_up c r } in
    let f : Final = record { actor = 0; command = chain_first c l.chain; response = r; event = l.events + 1; first_event = l.events + 1 - chain_count c l.chain } in
    left-final (asks_more (chain_count c l.chain + 1) c r) path f l (not-passed (asks_more (chain_count c l.chain + 1) c r) chain h)

-- ---- a failed exchange

other-refusal : (looping refusing selecting : Bool) (x : Result Fcp FcpError) (sw : Sw) → (if looping then Some (error.Loop sw) else if refusing then Some (error.Status sw) else elim selecting [ true ↦ bad_fcp x | false ↦ None ]) ≡ Some error.Slot → ⊥
other-refusal true refusing selecting x sw h = cc
other-refusal false true selecting x sw h = cc
other-refusal false false true (Ok control) sw h = cc
other-refusal false false true (Err e) sw h = cc
other-refusal false false false x sw h = cc

no-fault : (answered : Option Final) → option_and_then refusal_of answered ≡ Some error.Slot → ⊥
no-fault None h = cc
no-fault (Some f) h = other-refusal (wants_more f.response.sw) (is_refused f) (is_reading_select f.command && is_success f.response.sw) (read_fcp f.response.body) (record { 0 = f.response.sw }) h

fault-by : (path : List ℕ) (c : CommandValue) (outcome : Result ResponseValue SlotFault) (l : Load) → (load_by path c outcome l).refused ≡ Some error.Slot → answer_of c outcome ≡ Err link.Slot
fault-by path c (Ok r) l h = absurd (no-fault (final_after 0 c r l.events l.chain) h)
fault-by path c (Err fault) l h = refl

-- ---- the exchanges of a command

-- they were due, none is left, and this is the stage behind them
pub record Sent (path : List ℕ) (steps : List Step) (first : CommandValue) (l : Load) (r : Result ResponseValue LinkError) : Type 0 where
  pub due : AreDue path steps l
  pub chain : (load_after path steps l).chain ≡ None
  pub left : Left first (load_after path steps l).stage
  pub fault : (load_after path steps l).refused ≡ Some error.Slot → r ≡ Err link.Slot

due-behind : (path : List ℕ) (l : Load) (chain : Chain) → l.chain ≡ Some chain → load_due path l ≡ Some chain.next
due-behind path l chain k = ap (λ (o : Option Chain). due_by_chain path l o) k

abbrev steps_in : Option (Result ResponseValue LinkError × List Step) → List Step
steps_in None = []
steps_in (Some p) = p.1

no-more : (answer r : Result ResponseValue LinkError) (steps : List Step) → ◌≡◌ {A = Option (Result ResponseValue LinkError × List Step)} (Some (answer, steps)) (Some (r, [])) → steps ≡ []
no-more answer r steps h = ap (λ (o : Option (Result ResponseValue LinkError × List Step)). steps_in o) h

abbrev answer_in : Option (Result ResponseValue LinkError × List Step) → Result ResponseValue LinkError → Result ResponseValue LinkError
answer_in None r = r
answer_in (Some p) r = p.0

its-answer : (answer r : Result ResponseValue LinkError) (steps : List Step) → ◌≡◌ {A = Option (Result ResponseValue LinkError × List Step)} (Some (answer, steps)) (Some (r, [])) → answer ≡ r
its-answer answer r steps h = ap (λ (o : Option (Result ResponseValue LinkError × List Step)). answer_in o r) h

sent-rest : (o : Option Chain) (path : List ℕ) (steps : List Step) (first : CommandValue) (l : Load) (answer r : Result ResponseValue LinkError) → l.chain ≡ o → (o ≡ None → Left first l.stage) → (l.refused ≡ Some error.Slot → answer ≡ Err link.Slot) → ((chain : Chain) → o ≡ Some chain → exchanged chain.next (Some chain) steps ≡ Some (r, []) → Sent path steps first l r) → unwrap_or (option_map (λ (chain : Chain). exchanged chain.next (Some chain) steps) o) (Some (answer, steps)) ≡ Some (r, []) → Sent path steps first l r
sent-rest None path steps first l answer r chain left fault more h =
    subst (λ (rest : List Step). Sent path rest first l r) (sym (no-more answer r steps h)) (record { due = tt; chain = chain; left = left refl; fault = λ f. sym (its-answer answer r steps h) ∙ fault f })
sent-rest (Some chain) path steps first l answer r is left fault more h = more chain refl h

pub sent : (steps : List Step) (path : List ℕ) (c first : CommandValue) (l : Load) (r : Result ResponseValue LinkError) → load_due path l ≡ Some c → chain_first c l.chain ≡ first → exchanged c l.chain steps ≡ Some (r, []) → Sent path steps first l r
sent [] path c first l r due is h = absurd (cc)
sent (step ∷ steps) path c first l r due is h =
    let o = chain_of step.command step.outcome l.chain in
    let rest = unwrap_or (option_map (λ (chain : Chain). exchanged chain.next (Some chain) steps) o) (Some (answer_of step.command step.outcome, steps)) in
    let e : step.command ≡ c = command-is step.command c (passed (same_command step.command c) rest (r, []) h) in
    let behind = load_by path step.command step.outcome l in
    let chained : behind.chain ≡ o = load-chain path step.command step.outcome l in
    let started : chain_first step.command l.chain ≡ first = ap (λ (d : CommandValue). chain_first d l.chain) e ∙ is in
    let s : Sent path steps first behind r = sent-rest o path steps first behind (answer_of step.command step.outcome) r chained
    (λ none. subst (λ (f : CommandValue). Left f behind.stage) started (left-by path step.command step.outcome l none))
    (fault-by path step.command step.outcome l)
    (λ chain k x. sent steps path chain.next first behind r (due-behind path behind chain (chained ∙ k))
    (ap (chain_first chain.next) (chained ∙ k) ∙ chain-first-next chain ∙ chain-from step.command step.outcome l.chain chain k ∙ started)
    (ap (λ (b : Option Chain). exchanged chain.next b steps) (chained ∙ k) ∙ x))
    (behind-test (same_command step.command c) rest (r, []) h) in
    record { due = (due ∙ ap (λ (d : CommandValue). Some d) (sym e), s.due); chain = s.chain; left = s.left; fault = s.fault }

pub sent-fresh : (steps : List Step) (path : List ℕ) (c : CommandValue) (l : Load) (r : Result ResponseValue LinkError) → l.chain ≡ None → load_due path l ≡ Some c → exchanged c None steps ≡ Some (r, []) → Sent path steps c l r
sent-fresh steps path c l r none due h = sent steps path c c l r due (ap (chain_first c) none) (ap (λ (o : Option Chain). exchanged c o steps) none ∙ h)

-- ---- a call behind another

pub on-ok : {T E : Type 0} (r : Result T E) (P Q : Type 0) → (P → Q) → OnOk r P → OnOk r Q
on-ok (Ok x) P Q f p = f p
on-ok (Err e) P Q f p = tt

load-both : (path : List ℕ) (xs ys : List Step) (l : Load) → load_after path (xs ++ ys) l ≡ load_after path ys (load_after path xs l)
load-both path [] ys l = refl
load-both path (step ∷ xs) ys l = load-both path xs ys (load_by path step.command step.outcome l)

due-both : (path : List ℕ) (xs ys : List Step) (l : Load) → AreDue path xs l → AreDue path ys (load_after path xs l) → AreDue path (xs ++ ys) l
due-both path [] ys l first second = second
due-both path (step ∷ xs) ys l first second = (first.0, due-both path xs ys (load_by path step.command step.outcome l) first.1 second)

added-behind : (old steps : List Step) → added old (old ++ steps) ≡ steps
added-behind old steps = drop-append_seam old steps

module _ (old middle new : List Step) (first : middle ≡ old ++ added old middle) (second : new ≡ middle ++ added middle new) where
  both-front : new ≡ old ++ (added old middle ++ added middle new)
  both-front = second ∙ ap (λ (xs : List Step). xs ++ added middle new) first ∙ append_assoc old (added old middle) (added middle new)

  added-both : added old new ≡ added old middle ++ added middle new
  added-both = ap (added old) both-front ∙ added-behind old (added old middle ++ added middle new)

  pub grows-both : (a b : ℕ) → length (added old middle) ≤ a → length (added middle new) ≤ b → Grows (a + b) old new
  grows-both a b few more = record {
    front = both-front ∙ ap (λ (xs : List Step). old ++ xs) (sym added-both);
    few = let n = ap length added-both in let m = length-append (added old middle) (added middle new) in omega (arith, n, m, few, more);
  }

  pub load-added : (path : List ℕ) (k l m : Load) → l ≡ load_after path (added old middle) k → m ≡ load_after path (added middle new) l → m ≡ load_after path (added old new) k
  load-added path k l m h j =
      j ∙ ap (load_after path (added middle new)) h ∙ sym (load-both path (added old middle) (added middle new) k)
      ∙ ap (λ (steps : List Step). load_after path steps k) (sym added-both)

  pub due-added : (path : List ℕ) (k l : Load) → l ≡ load_after path (added old middle) k → AreDue path (added old middle) k → AreDue path (added middle new) l → AreDue path (added old new) k
  due-added path k l h a b =
      subst (λ (steps : List Step). AreDue path steps k) (sym added-both)
      (due-both path (added old middle) (added middle new) k a (subst (λ (x : Load). AreDue path (added middle new) x) h b))
