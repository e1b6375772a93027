-- Steps of two calls, one behind the other.
use Rattle.std.proofs.Common.{◌≡◌, ℕ, ◌==◌, ◌&&◌, Bool, true, false, List, [], ◌∷◌, ◌++◌, length, suc, ◌+◌, ◌<◌, ◌≤◌, arith, Option, Some, None, unwrap_or, option_map, IfSome, IfErr, ◌-◌, not, nat_lt, if◌then◌else◌, Result, Ok, Err, refl, sym, ap, ◌∙◌, subst, true≢false, eq-eqb}
use Rattle.std.specs.Prelude.{slice_get}
use Rattle.std.proofs.Math.Seq.{drop-append_seam}
use Rattle.std.proofs.lemmas.Bool.{ltb-false}
use Rattle.std.proofs.lemmas.List.{append_assoc, length-append}
use Rattle.apdu.specs.Values.{CommandValue, ResponseValue}
use Rattle.apdu.specs.Words.{same_bytes, same_number}
use Rattle.apdu.specs.Apdu.{same_command, is_success, wants_more, verify_ins}
use Rattle.card_model.specs.declared.slot.SlotFault.{SlotFault}
use Rattle.link.specs.declared.exchanges.LinkError.TheVariants as error
use Rattle.link.specs.declared.file.FileAnswer.{FileAnswer}
use Rattle.link.specs.Commands.{most_exchanges, continued, count_of, chain_count, chain_after, asks_more, select_only, is_at}
use Rattle.card_model.specs.declared.trail.Step.{Step}
use Rattle.link.specs.declared.chain.Chain.{Chain}
use Rattle.link.specs.declared.exchanges.LinkError.{LinkError}
use Rattle.link.specs.Exchanges.{Grows, Ends, IfLoop, last_answer, added, answer_to, file_exchanged, chain_of, answer_of, exchanged, selection_by, selection_over, Seen, Plays}

-- ---- a command is what it is

bytes-refl : (xs : List ℕ) → same_bytes xs xs ≡ true
bytes-refl [] = refl
bytes-refl (x ∷ xs) = rw (eq-eqb x x refl) (bytes-refl xs)

number-refl : (n : Option ℕ) → same_number n n ≡ true
number-refl None = refl
number-refl (Some n) = eq-eqb n n refl

pub command-refl : (c : CommandValue) → same_command c c ≡ true
command-refl c = rw (eq-eqb c.class c.class refl, eq-eqb c.ins c.ins refl, eq-eqb c.p1 c.p1 refl, eq-eqb c.p2 c.p2 refl, bytes-refl c.body, number-refl c.le) refl

-- ---- what was added

added-behind : (old steps : List Step) → added old (old ++ steps) ≡ steps
added-behind old steps = drop-append_seam old steps

-- a call behind another adds its steps to those
pub added-both : (old middle new : List Step) → middle ≡ old ++ added old middle → new ≡ middle ++ added middle new → added old new ≡ added old middle ++ added middle new
added-both old middle new first second =
    ap (added old) (second ∙ ap (λ (xs : List Step). xs ++ added middle new) first ∙ append_assoc old (added old middle) (added middle new))
    ∙ added-behind old (added old middle ++ added middle new)

-- ---- the exchanges of a command, and steps behind them

more-behind : (b : Bool) (o : Option Chain) (answer r : Result ResponseValue LinkError) (xs ys : List Step) → ((chain : Chain) → exchanged chain.next (Some chain) xs ≡ Some (r, []) → exchanged chain.next (Some chain) (xs ++ ys) ≡ Some (r, ys)) → (if b then unwrap_or (option_map (λ (chain : Chain). exchanged chain.next (Some chain) xs) o) (Some (answer, xs)) else None) ≡ Some (r, []) → (if b then unwrap_or (option_map (λ (chain : Chain). exchanged chain.next (Some chain) (xs ++ ys)) o) (Some (answer, xs ++ ys)) else None) ≡ Some (r, ys)
more-behind true None answer r xs ys more h = ap (option_map (λ (p : Result ResponseValue LinkError × List Step). (p.0, p.1 ++ ys))) h
more-behind true (Some chain) answer r xs ys more h = more chain h
more-behind false o answer r xs ys more h = absurd (cc)

pub exchanged-behind : (xs ys : List Step) (due : CommandValue) (before : Option Chain) (r : Result ResponseValue LinkError) → exchanged due before xs ≡ Some (r, []) → exchanged due before (xs ++ ys) ≡ Some (r, ys)
exchanged-behind [] ys due before r h = absurd (cc)
exchanged-behind (step ∷ xs) ys due before r h =
    more-behind (same_command step.command due) (chain_of step.command step.outcome before) (answer_of step.command step.outcome) r xs ys
    (λ chain. exchanged-behind xs ys chain.next (Some chain) r) h

-- ---- one exchange behind another

abbrev pub made : CommandValue → Result ResponseValue SlotFault → Step
made c outcome = record { command = c; outcome = outcome }

one-sent : (due : CommandValue) (before : Option Chain) (outcome : Result ResponseValue SlotFault) → chain_of due outcome before ≡ None → exchanged due before (made due outcome ∷ []) ≡ Some (answer_of due outcome, [])
one-sent due before outcome h = rw (command-refl due, h) refl

-- the last exchange of a command
pub last-sent : (old new : List Step) (due : CommandValue) (before : Option Chain) (outcome : Result ResponseValue SlotFault) → new ≡ old ++ made due outcome ∷ [] → chain_of due outcome before ≡ None → exchanged due before (added old new) ≡ Some (answer_of due outcome, [])
last-sent old new due before outcome e h =
    ap (exchanged due before) (ap (added old) e ∙ added-behind old (made due outcome ∷ [])) ∙ one-sent due before outcome h

first-added : (old middle new : List Step) (step : Step) → middle ≡ old ++ step ∷ [] → new ≡ middle ++ added middle new → added old new ≡ step ∷ added middle new
first-added old middle new step first second =
    ap (added old) (second ∙ ap (λ (xs : List Step). xs ++ added middle new) first ∙ append_assoc old (step ∷ []) (added middle new))
    ∙ added-behind old (step ∷ added middle new)

first-sent : (due : CommandValue) (before : Option Chain) (outcome : Result ResponseValue SlotFault) (chain : Chain) (steps : List Step) → chain_of due outcome before ≡ Some chain → exchanged due before (made due outcome ∷ steps) ≡ exchanged chain.next (Some chain) steps
first-sent due before outcome chain steps h = rw (command-refl due, h) refl

-- an exchange that is not the last of its command
pub more-sent : (old middle new : List Step) (due : CommandValue) (before : Option Chain) (outcome : Result ResponseValue SlotFault) (chain : Chain) (r : Result ResponseValue LinkError) → middle ≡ old ++ made due outcome ∷ [] → new ≡ middle ++ added middle new → chain_of due outcome before ≡ Some chain → exchanged chain.next (Some chain) (added middle new) ≡ Some (r, []) → exchanged due before (added old new) ≡ Some (r, [])
more-sent old middle new due before outcome chain r first second h sent =
    ap (exchanged due before) (first-added old middle new (made due outcome) first second) ∙ first-sent due before outcome chain (added middle new) h ∙ sent

pub first-grows : (most more : ℕ) (old middle new : List Step) (step : Step) → middle ≡ old ++ step ∷ [] → Grows more middle new → more < most → Grows most old new
first-grows most more old middle new step first grows less =
    let e : added old new ≡ step ∷ added middle new = first-added old middle new step first grows.front in
    record {
      front = grows.front ∙ ap (λ (xs : List Step). xs ++ added middle new) first ∙ append_assoc old (step ∷ []) (added middle new) ∙ ap (λ (xs : List Step). old ++ xs) (sym e);
      few = let n : length (added old new) ≡ suc (length (added middle new)) = ap length e in let few : length (added middle new) ≤ more = grows.few in omega (arith, n, few, less);
    }

-- ---- a last exchange that asks for one more

not_going : (b : Bool) (chain : Chain) → (if b then Some chain else None) ≡ None → b ≡ false
not_going true chain h = absurd (cc)
not_going false chain h = refl

no_room : (wants room other : Bool) → wants && other ≡ true → wants && room && other ≡ false → room ≡ false
no_room true true true h e = e
no_room true true false h e = absurd (true≢false (sym h))
no_room true false other h e = refl
no_room false room other h e = absurd (true≢false (sym h))

fourth : (due : CommandValue) (before : Option Chain) (r : ResponseValue) → continued due before ≡ before → chain_after due r before ≡ None → wants_more r.sw && not (due.ins == verify_ins) ≡ true → most_exchanges ≤ count_of before + 1
fourth due before r same none wants =
    let count : chain_count due before ≡ count_of before = ap count_of same in
    let more : asks_more (chain_count due before + 1) due r ≡ false = not_going (asks_more (chain_count due before + 1) due r) _ none in
    let past : most_exchanges ≤ chain_count due before + 1 = ltb-false (chain_count due before + 1) most_exchanges (no_room (wants_more r.sw) (nat_lt (chain_count due before + 1) most_exchanges) (not (due.ins == verify_ins)) wants more) in
    omega (arith, count, past)

looping : (b : Bool) (r : ResponseValue) (p : Type 0) → (b ≡ true → p) → IfErr (if b then Err (error.Loop (record { 0 = r.sw })) else Ok r) (λ e. IfLoop e p)
looping true r p h = h refl
looping false r p h = tt

last-found : (steps : List Step) (step : Step) → slice_get (steps ++ step ∷ []) (length steps) ≡ Some step
last-found [] step = refl
last-found (s ∷ steps) step = last-found steps step

last-is : (steps : List Step) (step : Step) → last_answer (steps ++ step ∷ []) ≡ Some (answer_of step.command step.outcome)
last-is steps step =
    let more : length (steps ++ step ∷ []) ≡ length steps + 1 = length-append steps (step ∷ []) in
    let place : length (steps ++ step ∷ []) - 1 ≡ length steps = omega (arith, more) in
    ap (λ (i : ℕ). option_map (λ (s : Step). answer_of s.command s.outcome) (slice_get (steps ++ step ∷ []) i)) place
    ∙ ap (option_map (λ (s : Step). answer_of s.command s.outcome)) (last-found steps step)

pub one-ends : (old new : List Step) (due : CommandValue) (before : Option Chain) (r : ResponseValue) (result : Result ResponseValue LinkError) → new ≡ old ++ made due (Ok r) ∷ [] → continued due before ≡ before → count_of before < most_exchanges → chain_after due r before ≡ None → result ≡ answer_of due (Ok r) → Ends (most_exchanges - count_of before) old new result
one-ends old new due before r result e same few none is = record {
  last = ap last_answer e ∙ last-is old (made due (Ok r)) ∙ ap (λ (x : Result ResponseValue LinkError). Some x) (sym is);
  none_left = subst (λ (x : Result ResponseValue LinkError). IfErr x (λ y. IfLoop y (length (added old new) ≡ most_exchanges - count_of before))) (sym is)
      (looping (wants_more r.sw && not (due.ins == verify_ins)) r (length (added old new) ≡ most_exchanges - count_of before)
      (λ wants. let one : length (added old new) ≡ 1 = ap length (ap (added old) e ∙ added-behind old (made due (Ok r) ∷ [])) in
      let last : most_exchanges ≤ count_of before + 1 = fourth due before r same none wants in omega (arith, one, last, few)));
}

-- ---- the chain behind an exchange

chain-continued : (chain : Chain) → continued chain.next (Some chain) ≡ Some chain
chain-continued chain = rw (command-refl chain.next) refl

pub each-continued : (o : Option Chain) → IfSome o (λ chain. continued chain.next (Some chain) ≡ Some chain)
each-continued None = tt
each-continued (Some chain) = chain-continued chain

-- ---- a command to a file

pub file-sent : (old middle new : List Step) (path : List ℕ) (c select : CommandValue) (sel : Option (List ℕ)) (r : ResponseValue) (result : Result FileAnswer LinkError) → is_at sel path ≡ false → select ≡ select_only path → middle ≡ old ++ added old middle → new ≡ middle ++ added middle new → exchanged select None (added old middle) ≡ Some (Ok r, []) → is_success r.sw ≡ true → answer_to (exchanged c None (added middle new)) ≡ Some (result, []) → file_exchanged path c sel (added old new) ≡ Some (result, [])
file-sent old middle new path c select sel r result at is first second selected succeeds sent =
    let h : exchanged (select_only path) None (added old middle) ≡ Some (Ok r, []) = ap (λ (s : CommandValue). exchanged s None (added old middle)) (sym is) ∙ selected in
    rw (added-both old middle new first second, at, exchanged-behind (added old middle) (added middle new) (select_only path) None (Ok r) h, succeeds) sent

-- ---- the selection and the slot

pub over-both : (xs ys : List Step) (sel : Option (List ℕ)) → selection_over (xs ++ ys) sel ≡ selection_over ys (selection_over xs sel)
over-both [] ys sel = refl
over-both (step ∷ xs) ys sel = over-both xs ys (selection_by step sel)

pub plays-both : (xs ys : List Step) (old middle new : Seen) → Plays old xs middle → Plays middle ys new → Plays old (xs ++ ys) new
plays-both [] ys old middle new first second = subst (λ (s : Seen). Plays s ys new) first second
plays-both (step ∷ xs) ys old middle new (between, (exchange, first)) second = (between, (exchange, plays-both xs ys between middle new first second))

-- ---- a call behind another

module _ (old middle new : List Step) (first : middle ≡ old ++ added old middle) (second : new ≡ middle ++ added middle new) where
  pub plays-added : (a b c : Seen) → Plays a (added old middle) b → Plays b (added middle new) c → Plays a (added old new) c
  plays-added a b c h k =
      subst (λ (steps : List Step). Plays a steps c) (sym (added-both old middle new first second))
      (plays-both (added old middle) (added middle new) a b c h k)

  pub over-added : (sel between now : Option (List ℕ)) → between ≡ selection_over (added old middle) sel → now ≡ selection_over (added middle new) between → now ≡ selection_over (added old new) sel
  over-added sel between now h k =
      k ∙ ap (selection_over (added middle new)) h ∙ sym (over-both (added old middle) (added middle new) sel)
      ∙ ap (λ (steps : List Step). selection_over steps sel) (sym (added-both old middle new first second))
