-- What holds of each exchange of a command holds behind all of them.
use Rattle.std.proofs.Common.{◌≡◌, ℕ, ◌+◌, ◌==◌, Bool, true, false, ◌&&◌, Option, Some, None, unwrap_or, option_map, List, [], ◌∷◌, Result, Ok, Err, refl, ap, sym, ◌∙◌, subst, if◌then◌else◌, nat_lt, not}
use Rattle.std.specs.Prelude.{IfOk}
use Rattle.std.proofs.lemmas.Bool.{and_parts}
use Rattle.apdu.specs.Values.{CommandValue, ResponseValue}
use Rattle.apdu.specs.Apdu.{same_command, wants_more, verify_ins}
use Rattle.card_model.specs.declared.trail.Step.{Step}
use Rattle.card_model.specs.declared.slot.SlotFault.{SlotFault}
use Rattle.card_model.specs.declared.world.Change.{Change}
use Rattle.card_model.specs.declared.world.CardState.{CardState}
use Rattle.card_model.specs.declared.world.World.{World}
use Rattle.card_model.specs.Slot.{Answers, AnswersAt}
use Rattle.card_model.specs.Step.{on_card, card_inside}
use Rattle.link.specs.declared.chain.Chain.{Chain}
use Rattle.link.specs.declared.exchanges.LinkError.{LinkError}
use Rattle.link.specs.declared.exchanges.LinkError.TheVariants as linked
use Rattle.link.specs.Commands.{chain_after, chain_count, chain_first, follow_up, asks_more, most_exchanges}
use Rattle.link.specs.Exchanges.{Seen, Plays, chain_of, answer_of, exchanged}
use Rattle.channel_table.proofs.Worlds.{Behind, behind, there, same_command_is, first_is, rest_is}

-- ---- the chain behind an exchange

asked : (c : CommandValue) (r : ResponseValue) (count : ℕ) → asks_more count c r ≡ true → wants_more r.sw ≡ true
asked c r count h = (and_parts (wants_more r.sw) (nat_lt count most_exchanges) (and_parts (wants_more r.sw && nat_lt count most_exchanges) (not (c.ins == verify_ins)) h).0).0

pub record Follows (c : CommandValue) (r : ResponseValue) (chain : Chain) : Type 0 where
  pub wants : wants_more r.sw ≡ true
  pub next : chain.next ≡ follow_up c r

pub follows : (c : CommandValue) (r : ResponseValue) (before : Option Chain) (chain : Chain) → chain_after c r before ≡ Some chain → Follows c r chain
follows c r before chain h = by_test (asks_more (chain_count c before + 1) c r) refl h
  where
    by_test : (b : Bool) → asks_more (chain_count c before + 1) c r ≡ b → (if b then Some (record { first = chain_first c before; count = chain_count c before + 1; next = follow_up c r }) else None) ≡ Some chain → Follows c r chain
    by_test true e q = record { wants = asked c r (chain_count c before + 1) e; next = cc }
    by_test false e q = absurd (cc)

-- ---- the answer of the last exchange

-- a told world with a card in the slot, of which a fact holds, and the steps that are left
pub record Comes (P : CardState → Type 0) (rest : List Step) (new : Seen) : Type 0 where
  pub seen : Seen
  pub world : World
  pub told : seen.world ≡ Some world
  pub card : CardState
  pub inside : card_inside world ≡ Some card
  pub holds : P card
  pub plays : Plays seen rest new

comes_by : (P Q : CardState → Type 0) (rest : List Step) (new : Seen) → ((k : CardState) → P k → Q k) → Comes P rest new → Comes Q rest new
comes_by P Q rest new f a = record { seen = a.seen; world = a.world; told = a.told; card = a.card; inside = a.inside; holds = f a.card a.holds; plays = a.plays }

abbrev pub NoFault : Result ResponseValue LinkError → Type 0
NoFault r = r ≡ Err linked.Slot → ⊥

-- the card was there
pub card_there : (steps : List Step) (old new : Seen) (w : World) (due : CommandValue) (before : Option Chain) (r : Result ResponseValue LinkError) (rest : List Step) → exchanged due before steps ≡ Some (r, rest) → Plays old steps new → old.world ≡ Some w → NoFault r → (card : CardState) × (card_inside w ≡ Some card)
card_there [] old new w due before r rest h p t n = absurd (cc)
card_there (step ∷ steps) old new w due before r rest h (between, (e, p)) t n =
    by_same (same_command step.command due) h
  where
    by_outcome : (outcome : Result ResponseValue SlotFault) → step.outcome ≡ outcome → unwrap_or (option_map (λ (chain : Chain). exchanged chain.next (Some chain) steps) (chain_of step.command outcome before)) (Some (answer_of step.command outcome, steps)) ≡ Some (r, rest) → (card : CardState) × (card_inside w ≡ Some card)
    by_outcome (Ok response) o q =
        let a : AnswersAt w between.world step.command response = subst (λ (x : Result ResponseValue SlotFault). IfOk x (Answers (Some w) between.world step.command)) o (subst (λ (x : Option World). IfOk step.outcome (Answers x between.world step.command)) t e.ok) in
        there (card_inside w) a.inside
    by_outcome (Err fault) o q = absurd (n (sym (first_is (answer_of step.command (Err fault)) steps r rest q)))

    by_same : (b : Bool) → (if b then unwrap_or (option_map (λ (chain : Chain). exchanged chain.next (Some chain) steps) (chain_of step.command step.outcome before)) (Some (answer_of step.command step.outcome, steps)) else None) ≡ Some (r, rest) → (card : CardState) × (card_inside w ≡ Some card)
    by_same true q = by_outcome step.outcome refl (q)
    by_same false q = absurd (cc)

-- the claim for the exchanges that are left
abbrev Later : (CardState → CommandValue → Type 0) → (CardState → Result ResponseValue LinkError → CardState → Type 0) → List Step → Seen → Result ResponseValue LinkError → List Step → Type 0
Later C T steps new r rest = (middle : Seen) (w : World) (card : CardState) (due : CommandValue) (before : Option Chain) → exchanged due before steps ≡ Some (r, rest) → Plays middle steps new → middle.world ≡ Some w → card_inside w ≡ Some card → NoFault r → C card due → Comes (T card r) rest new

-- C : the commands that may stand in the chain; T : what an answer tells of the card before and behind
module _ (C : CardState → CommandValue → Type 0) (T : CardState → Result ResponseValue LinkError → CardState → Type 0)
    (last : (changes : List Change) (card : CardState) (c : CommandValue) → C card c → T card (answer_of c (Ok (on_card changes card c).1)) (on_card changes card c).0)
    (next : (changes : List Change) (card : CardState) (c : CommandValue) → C card c → wants_more (on_card changes card c).1.sw ≡ true → C (on_card changes card c).0 (follow_up c (on_card changes card c).1))
    (more : (changes : List Change) (card : CardState) (c : CommandValue) → C card c → wants_more (on_card changes card c).1.sw ≡ true → (r : Result ResponseValue LinkError) (k : CardState) → T (on_card changes card c).0 r k → T card r k) where
  pub chain_comes : (steps : List Step) (old new : Seen) (w : World) (card : CardState) (due : CommandValue) (before : Option Chain) (r : Result ResponseValue LinkError) (rest : List Step) → exchanged due before steps ≡ Some (r, rest) → Plays old steps new → old.world ≡ Some w → card_inside w ≡ Some card → NoFault r → C card due → Comes (T card r) rest new
  chain_comes [] old new w card due before r rest h p t i n d = absurd (cc)
  chain_comes (step ∷ steps) old new w card due before r rest h (between, (e, p)) t i n d =
      by_same (λ between w card due before. chain_comes steps between new w card due before r rest) (same_command step.command due) refl h
    where
      at_last : (response : ResponseValue) → Behind w card due response between.world → (answer_of due (Ok response) ≡ r) → steps ≡ rest → Comes (T card r) rest new
      at_last response b a s = record {
        seen = between;
        world = b.world;
        told = b.told;
        card = (on_card w.changes card due).0;
        inside = b.inside;
        holds = subst (λ (x : Result ResponseValue LinkError). T card x (on_card w.changes card due).0) (ap (λ (x : ResponseValue). answer_of due (Ok x)) (sym b.response) ∙ a) (last w.changes card due d);
        plays = subst (λ (xs : List Step). Plays between xs new) s p;
      }

      going : Later C T steps new r rest → (response : ResponseValue) (chain : Chain) → Behind w card due response between.world → Follows due response chain → exchanged chain.next (Some chain) steps ≡ Some (r, rest) → Comes (T card r) rest new
      going g response chain b f q =
          let p1 = on_card w.changes card due in
          let wants : wants_more p1.1.sw ≡ true = ap (λ (x : ResponseValue). wants_more x.sw) (sym b.response) ∙ f.wants in
          let due_next : C p1.0 chain.next = subst (λ (x : CommandValue). C p1.0 x) (ap (follow_up due) (sym b.response) ∙ sym f.next) (next w.changes card due d wants) in
          comes_by (T p1.0 r) (T card r) rest new (λ k. more w.changes card due d wants r k)
          (g between b.world p1.0 chain.next (Some chain) q p b.told b.inside n due_next)

      by_chain : Later C T steps new r rest → (response : ResponseValue) → Behind w card due response between.world → (o : Option Chain) → chain_after due response before ≡ o → unwrap_or (option_map (λ (chain : Chain). exchanged chain.next (Some chain) steps) o) (Some (answer_of due (Ok response), steps)) ≡ Some (r, rest) → Comes (T card r) rest new
      by_chain g response b None c q = at_last response b (first_is (answer_of due (Ok response)) steps r rest q) (rest_is (answer_of due (Ok response)) steps r rest q)
      by_chain g response b (Some chain) c q = going g response chain b (follows due response before chain c) q

      by_outcome : Later C T steps new r rest → (outcome : Result ResponseValue SlotFault) → IfOk outcome (Answers (Some w) between.world due) → unwrap_or (option_map (λ (chain : Chain). exchanged chain.next (Some chain) steps) (chain_of due outcome before)) (Some (answer_of due outcome, steps)) ≡ Some (r, rest) → Comes (T card r) rest new
      by_outcome g (Ok response) a q = by_chain g response (behind w card due response between.world i a) (chain_after due response before) refl q
      by_outcome g (Err fault) a q = absurd (n (sym (first_is (answer_of due (Err fault)) steps r rest q)))

      by_command : Later C T steps new r rest → step.command ≡ due → unwrap_or (option_map (λ (chain : Chain). exchanged chain.next (Some chain) steps) (chain_of step.command step.outcome before)) (Some (answer_of step.command step.outcome, steps)) ≡ Some (r, rest) → Comes (T card r) rest new
      by_command g s q =
          by_outcome g step.outcome (subst (λ (x : CommandValue). IfOk step.outcome (Answers (Some w) between.world x)) s (subst (λ (x : Option World). IfOk step.outcome (Answers x between.world step.command)) t e.ok))
          (subst (λ (x : CommandValue). unwrap_or (option_map (λ (chain : Chain). exchanged chain.next (Some chain) steps) (chain_of x step.outcome before)) (Some (answer_of x step.outcome, steps)) ≡ Some (r, rest)) s q)

      by_same : Later C T steps new r rest → (b : Bool) → same_command step.command due ≡ b → (if b then unwrap_or (option_map (λ (chain : Chain). exchanged chain.next (Some chain) steps) (chain_of step.command step.outcome before)) (Some (answer_of step.command step.outcome, steps)) else None) ≡ Some (r, rest) → Comes (T card r) rest new
      by_same g true s q = by_command g (same_command_is step.command due s) q
      by_same g false s q = absurd (cc)
