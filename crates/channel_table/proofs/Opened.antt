-- The channels held and those of a told card, behind an open or a close.
use Rattle.std.proofs.Common.{◌≡◌, ◌⊎◌, inl, inr, ℕ, ◌≤◌, ◌==◌, Bool, true, false, ◌&&◌, ◌||◌, not, if◌then◌else◌, Option, Some, None, List, [], ◌∷◌, ◌++◌, Result, Ok, Err, refl, ap, sym, ◌∙◌, subst, arith}
use Rattle.std.specs.Prelude.{IfSome, IfOk}
use Rattle.std.proofs.lemmas.Bool.{eqb-true, cases_Bool, false≢true, true≢false}
use Rattle.apdu.specs.Values.{ResponseValue}
use Rattle.apdu.specs.Words.{is_one_of, is_between}
use Rattle.apdu.specs.Apdu.{is_success}
use Rattle.card_model.specs.declared.trail.Step.{Step}
use Rattle.card_model.specs.declared.world.CardState.{CardState}
use Rattle.card_model.specs.declared.world.World.{World}
use Rattle.card_model.specs.Step.{card_inside}
use Rattle.card_effects.specs.Numbers.{numbers, AllApart}
use Rattle.link.specs.declared.exchanges.LinkError.{LinkError}
use Rattle.link.specs.declared.exchanges.LinkError.TheVariants as linked
use Rattle.link.specs.Exchanges.{Seen, Plays, exchanged}
use Rattle.channels.specs.Channels.{open_command, close_command, select_application, new_number}
use Rattle.channel_table.specs.Values.{ChannelValue, IsNumber, AreHeld, without}
use Rattle.channel_table.specs.declared.error.OpenError.{OpenError}
use Rattle.channel_table.specs.Opening.{is_fault, refused, number_or, number_given, selected, closed, closed_again, given_by, behind_refusal, behind_answer, behind_select, selecting, the_channel, behind_number, behind_open, opened, held_with}
use Rattle.channel_table.specs.Agreement.{AreOpen, AreOpenInside, KeepsOpen, AddsInside, AddsOpen, open_failed, close_failed}
use Rattle.channel_table.proofs.Worlds.{first_is, rest_is}
use Rattle.channel_table.proofs.Chains.{Comes, NoFault, card_there, chain_comes}
use Rattle.channel_table.proofs.Told.{IsOther, StaysOpen, other_last, other_next, other_more, Asks, OpenTells, OpenTold, open_last, open_next, open_more, Gone, CloseTold, Shuts, close_last, close_next, close_more}
use Rattle.channel_table.proofs.Lists.{one_appended, apart_appended, without_other, gone, not_first}

abbrev number_failed : Result ℕ OpenError → Bool
number_failed (Ok n) = false
number_failed (Err e) = is_fault e

abbrev number_in : Result ChannelValue OpenError → ℕ
number_in (Ok c) = c.number
number_in (Err e) = 0

abbrev pub unit_failed : Result (Unit {0}) OpenError → Bool
unit_failed (Ok u) = false
unit_failed (Err e) = is_fault e

-- ---- what an open consists of

-- MANAGE CHANNEL gave no number
record Refused (held : List ℕ) (steps : List Step) (result : Result ChannelValue OpenError) : Type 0 where
  pub answer : Result ResponseValue LinkError
  pub error : OpenError
  pub sent : exchanged open_command None steps ≡ Some (answer, [])
  pub given : number_given held answer ≡ Err error
  pub is : result ≡ Err error

-- it gave one, and SELECT was sent there
record Went (epoch : ℕ) (held aid : List ℕ) (steps : List Step) (result : Result ChannelValue OpenError) : Type 0 where
  pub answer : Result ResponseValue LinkError
  pub rest : List Step
  pub number : ℕ
  pub outcome : Result (Unit {0}) OpenError
  pub sent : exchanged open_command None steps ≡ Some (answer, rest)
  pub given : number_given held answer ≡ Ok number
  pub selects : selecting number aid rest ≡ Some (outcome, [])
  pub is : the_channel number epoch (Some (outcome, [])) ≡ Some (result, [])

module _ (epoch : ℕ) (held aid : List ℕ) (steps : List Step) (result : Result ChannelValue OpenError) where
  by_outcome : (a : Result ResponseValue LinkError) (rest : List Step) (n : ℕ) → exchanged open_command None steps ≡ Some (a, rest) → number_given held a ≡ Ok n → (o : Result (Unit {0}) OpenError) (left : List Step) → selecting n aid rest ≡ Some (o, left) → the_channel n epoch (Some (o, left)) ≡ Some (result, []) → Went epoch held aid steps result
  by_outcome a rest n e g (Ok u) left s q =
      let none : left ≡ [] = rest_is _ left result [] q in
      record { answer = a; rest = rest; number = n; outcome = Ok u; sent = e; given = g; selects = s ∙ ap (λ (x : List Step). Some (Ok u, x)) none; is = sym (ap (λ (x : List Step). the_channel n epoch (Some (Ok u, x))) none) ∙ q }
  by_outcome a rest n e g (Err f) left s q =
      let none : left ≡ [] = rest_is _ left result [] q in
      record { answer = a; rest = rest; number = n; outcome = Err f; sent = e; given = g; selects = s ∙ ap (λ (x : List Step). Some (Err f, x)) none; is = sym (ap (λ (x : List Step). the_channel n epoch (Some (Err f, x))) none) ∙ q }

  by_selecting : (a : Result ResponseValue LinkError) (rest : List Step) (n : ℕ) → exchanged open_command None steps ≡ Some (a, rest) → number_given held a ≡ Ok n → (o : Option (Result (Unit {0}) OpenError × List Step)) → selecting n aid rest ≡ o → the_channel n epoch o ≡ Some (result, []) → Went epoch held aid steps result
  by_selecting a rest n e g None s q = absurd (cc)
  by_selecting a rest n e g (Some (o, left)) s q = by_outcome a rest n e g o left s q

  by_given : (a : Result ResponseValue LinkError) (rest : List Step) → exchanged open_command None steps ≡ Some (a, rest) → (x : Result ℕ OpenError) → number_given held a ≡ x → behind_number epoch aid x rest ≡ Some (result, []) → Refused held steps result ⊎ Went epoch held aid steps result
  by_given a rest e (Ok n) g q = inr (by_selecting a rest n e g (selecting n aid rest) refl q)
  by_given a rest e (Err f) g q =
      let none : rest ≡ [] = rest_is (Err f) rest result [] q in
      inl (record { answer = a; error = f; sent = e ∙ ap (λ (x : List Step). Some (a, x)) none; given = g; is = sym (first_is (Err f) rest result [] q) })

  by_sent : (o : Option (Result ResponseValue LinkError × List Step)) → exchanged open_command None steps ≡ o → behind_open epoch aid (given_by held o) ≡ Some (result, []) → Refused held steps result ⊎ Went epoch held aid steps result
  by_sent None e q = absurd (cc)
  by_sent (Some (a, rest)) e q = by_given a rest e (number_given held a) refl q

  opening : opened epoch held aid steps ≡ Some (result, []) → Refused held steps result ⊎ Went epoch held aid steps result
  opening h = by_sent (exchanged open_command None steps) refl h

-- ---- the card behind MANAGE CHANNEL that opens

record Started (w : World) (a : Result ResponseValue LinkError) (rest : List Step) (new : Seen) : Type 0 where
  pub before : CardState
  pub is : card_inside w ≡ Some before
  pub comes : Comes (λ k. OpenTells (numbers before) a (numbers k)) rest new

started : (steps : List Step) (old new : Seen) (w : World) (a : Result ResponseValue LinkError) (rest : List Step) → exchanged open_command None steps ≡ Some (a, rest) → Plays old steps new → old.world ≡ Some w → NoFault a → Started w a rest new
started steps old new w a rest h p t n =
    let q = card_there steps old new w open_command None a rest h p t n in
    record {
      before = q.0;
      is = q.1;
      comes = chain_comes Asks OpenTold open_last open_next open_more steps old new w q.0 open_command None a rest h p t q.1 n (record { class = refl; ins = refl; opening = refl });
    }

-- ---- a world that is told, and a fact of its card

pub record Settled (P : CardState → Type 0) (new : Seen) : Type 0 where
  pub world : World
  pub told : new.world ≡ Some world
  pub card : CardState
  pub inside : card_inside world ≡ Some card
  pub holds : P card

settled : (P : CardState → Type 0) (rest : List Step) (new : Seen) → rest ≡ [] → Comes P rest new → Settled P new
settled P rest new e a =
    let last : new ≡ a.seen = subst (λ (xs : List Step). Plays a.seen xs new) e a.plays in
    record { world = a.world; told = ap (λ (s : Seen). s.world) last ∙ a.told; card = a.card; inside = a.inside; holds = a.holds }

resettled : (P Q : CardState → Type 0) (new : Seen) → ((k : CardState) → P k → Q k) → Settled P new → Settled Q new
resettled P Q new f s = record { world = s.world; told = s.told; card = s.card; inside = s.inside; holds = f s.card s.holds }

-- ---- SELECT, and the close behind it

select_other : (n : ℕ) (aid : List ℕ) (card : CardState) → IsOther card (select_application n aid)
select_other n aid card = refl

module _ (n : ℕ) (aid : List ℕ) (steps : List Step) (old new : Seen) (w : World) (card : CardState) (p : Plays old steps new) (t : old.world ≡ Some w) (i : card_inside w ≡ Some card) where
  selected_comes : (a : Result ResponseValue LinkError) (rest : List Step) → exchanged (select_application n aid) None steps ≡ Some (a, rest) → NoFault a → Comes (λ k. numbers k ≡ numbers card) rest new
  selected_comes a rest h f = chain_comes IsOther StaysOpen other_last other_next other_more steps old new w card (select_application n aid) None a rest h p t i f (select_other n aid card)

  no_fault_by : (a : Result ResponseValue LinkError) (x : Result (Unit {0}) OpenError) → selected a ≡ x → (x ≡ selected (Err linked.Slot) → ⊥) → NoFault a
  no_fault_by a x s f e = f (sym s ∙ ap selected e)

  shut : (basic : is_one_of 0 (numbers card) ≡ true) → (n == 0) ≡ false → AllApart (numbers card) → (rest left : List Step) (b : Result ResponseValue LinkError) → Comes (λ k. numbers k ≡ numbers card) rest new → exchanged (close_command n) None rest ≡ Some (b, left) → left ≡ [] → NoFault b → Settled (λ k. Gone n (numbers card) (numbers k)) new
  shut basic beside apart rest left b a h e f =
      let first : Shuts n a.card (close_command n) = record { ins = refl; closing = refl; named = refl; basic = ap (is_one_of 0) a.holds ∙ basic; beside = beside; first = λ there. refl } in
      let told = chain_comes (Shuts n) (CloseTold n) (close_last n) (close_next n) (close_more n) rest a.seen new a.world a.card (close_command n) None b left h a.plays a.told a.inside f first in
      resettled (CloseTold n a.card b) (λ k. Gone n (numbers card) (numbers k)) new
      (λ k c. subst (λ ns. AllApart ns → Gone n ns (numbers k)) a.holds c apart)
      (settled (CloseTold n a.card b) left new e told)

  by_done : (a : Result ResponseValue LinkError) (rest : List Step) → exchanged (select_application n aid) None steps ≡ Some (a, rest) → (x : Result (Unit {0}) OpenError) → selected a ≡ x → (u : Unit {0}) → behind_answer n x rest ≡ Some (Ok u, []) → Settled (λ k. numbers k ≡ numbers card) new
  by_done a rest e (Ok v) s u q = settled (λ k. numbers k ≡ numbers card) rest new (rest_is (Ok v) rest (Ok u) [] q) (selected_comes a rest e (no_fault_by a (Ok v) s (λ g. absurd (cc))))
  by_done a rest e (Err f) s u q = absurd (by_fault (is_fault f) (exchanged (close_command n) None rest) q)
    where
      by_fault : (b : Bool) (o : Option (Result ResponseValue LinkError × List Step)) → (if b then Some (Err f, rest) else behind_refusal f o) ≡ Some (Ok u, []) → ⊥
      by_fault true o q = let z : Err f ≡ Ok u = first_is (Err f) rest (Ok u) [] q in absurd (cc)
      by_fault false None q = absurd (cc)
      by_fault false (Some (b, left)) q = let z : Err (closed_again f b) ≡ Ok u = first_is (Err (closed_again f b)) left (Ok u) [] q in absurd (cc)

  pub select_done : (u : Unit {0}) → selecting n aid steps ≡ Some (Ok u, []) → Settled (λ k. numbers k ≡ numbers card) new
  select_done u h = by_sent' (exchanged (select_application n aid) None steps) refl h
    where
      by_sent' : (o : Option (Result ResponseValue LinkError × List Step)) → exchanged (select_application n aid) None steps ≡ o → behind_select n o ≡ Some (Ok u, []) → Settled (λ k. numbers k ≡ numbers card) new
      by_sent' None e q = absurd (cc)
      by_sent' (Some (a, rest)) e q = by_done a rest e (selected a) refl u q

  module _ (basic : is_one_of 0 (numbers card) ≡ true) (beside : (n == 0) ≡ false) (apart : AllApart (numbers card)) (f : OpenError) (real : is_fault f ≡ false) where
    by_close : (a : Result ResponseValue LinkError) (rest : List Step) → Comes (λ k. numbers k ≡ numbers card) rest new → (g : OpenError) (o : Option (Result ResponseValue LinkError × List Step)) → exchanged (close_command n) None rest ≡ o → behind_refusal g o ≡ Some (Err f, []) → Settled (λ k. Gone n (numbers card) (numbers k)) new
    by_close a rest k g None e q = absurd (cc)
    by_close a rest k g (Some (b, left)) e q = shut basic beside apart rest left b k e (rest_is (Err (closed_again g b)) left (Err f) [] q) (λ z. true≢false (ap (λ (y : Result ResponseValue LinkError). is_fault (closed_again g y)) (sym z) ∙ ap unit_failed (first_is (Err (closed_again g b)) left (Err f) [] q) ∙ real))

    by_refused : (a : Result ResponseValue LinkError) (rest : List Step) → exchanged (select_application n aid) None steps ≡ Some (a, rest) → (x : Result (Unit {0}) OpenError) → selected a ≡ x → behind_answer n x rest ≡ Some (Err f, []) → Settled (λ k. Gone n (numbers card) (numbers k)) new
    by_refused a rest e (Ok v) s q = absurd (let z : Ok v ≡ Err f = first_is (Ok v) rest (Err f) [] q in cc)
    by_refused a rest e (Err g) s q = by_fault (is_fault g) refl q
      where
        by_fault : (b : Bool) → is_fault g ≡ b → (if b then Some (Err g, rest) else behind_refusal g (exchanged (close_command n) None rest)) ≡ Some (Err f, []) → Settled (λ k. Gone n (numbers card) (numbers k)) new
        by_fault true z q = absurd (true≢false (sym z ∙ ap unit_failed (first_is (Err g) rest (Err f) [] q) ∙ real))
        by_fault false z q = by_close a rest (selected_comes a rest e (no_fault_by a (Err g) s (λ y. false≢true (sym z ∙ ap unit_failed y)))) g (exchanged (close_command n) None rest) refl q

    pub select_refused : selecting n aid steps ≡ Some (Err f, []) → Settled (λ k. Gone n (numbers card) (numbers k)) new
    select_refused h = by_sent' (exchanged (select_application n aid) None steps) refl h
      where
        by_sent' : (o : Option (Result ResponseValue LinkError × List Step)) → exchanged (select_application n aid) None steps ≡ o → behind_select n o ≡ Some (Err f, []) → Settled (λ k. Gone n (numbers card) (numbers k)) new
        by_sent' None e q = absurd (cc)
        by_sent' (Some (a, rest)) e q = by_refused a rest e (selected a) refl q

-- ---- the number that is given

no_fault_given : (held : List ℕ) (a : Result ResponseValue LinkError) (x : Result ℕ OpenError) → number_given held a ≡ x → number_failed x ≡ false → NoFault a
no_fault_given held a x g f e = true≢false (ap (λ (y : Result ResponseValue LinkError). number_failed (number_given held y)) (sym e) ∙ ap number_failed g ∙ f)

-- the channel that was given is new
record New (held before : List ℕ) (n : ℕ) (now : List ℕ) : Type 0 where
  pub added : now ≡ before ++ n ∷ []
  pub free : is_one_of n before ≡ false
  pub beside : (n == 0) ≡ false

no_number : (held : List ℕ) (r : ResponseValue) (n : ℕ) → is_success r.sw ≡ false → number_given held (Ok r) ≡ Ok n → ⊥
no_number held r n s g =
    let z : Err (refused r.sw) ≡ Ok n = sym (ap (λ (b : Bool). number_or (refused r.sw) (if b then new_number held r.body else None)) s) ∙ g in absurd (cc)

one_number : (held : List ℕ) (m : ℕ) (e : OpenError) (n : ℕ) → number_or e (new_number held (m ∷ [])) ≡ Ok n → m ≡ n
one_number held m e n h = by_test (is_between 1 19 m && not (is_one_of m held)) h
  where
    by_test : (b : Bool) → number_or e (if b then Some m else None) ≡ Ok n → m ≡ n
    by_test true q = cc
    by_test false q = absurd (cc)

given_number : (held : List ℕ) (r : ResponseValue) (m n : ℕ) → is_success r.sw ≡ true → r.body ≡ m ∷ [] → number_given held (Ok r) ≡ Ok n → m ≡ n
given_number held r m n s b g =
    one_number held m (refused r.sw) n
    (sym (ap (λ (body : List ℕ). number_or (refused r.sw) (new_number held body)) b) ∙ sym (ap (λ (b : Bool). number_or (refused r.sw) (if b then new_number held r.body else None)) s) ∙ g)

new_by : (held before now : List ℕ) (n : ℕ) (a : Result ResponseValue LinkError) → number_given held a ≡ Ok n → OpenTells before a now → New held before n now
new_by held before now n (Err e) g t = absurd (cc)
new_by held before now n (Ok r) g (inl (s, same)) = absurd (no_number held r n s g)
new_by held before now n (Ok r) g (inr d) =
    let is : d.number ≡ n = given_number held r d.number n d.status d.body g in
    record {
      added = d.added ∙ ap (λ m. before ++ m ∷ []) is;
      free = subst (λ m. is_one_of m before ≡ false) is d.free;
      beside = let one = d.beside in subst (λ m. (m == 0) ≡ false) is (grind arith);
    }

-- ---- an open that succeeded

the_number : (epoch n : ℕ) (outcome : Result (Unit {0}) OpenError) (channel : ChannelValue) → the_channel n epoch (Some (outcome, [])) ≡ Some (Ok channel, []) → (outcome ≡ Ok tt) × (n ≡ channel.number)
the_number epoch n (Ok u) channel h =
    let z : Ok (record { number = n; epoch = epoch }) ≡ Ok channel = first_is (Ok (record { number = n; epoch = epoch })) [] (Ok channel) [] h in
    (refl, ap (λ (c : Result ChannelValue OpenError). number_in c) z)
the_number epoch n (Err e) channel h = let z : Err e ≡ Ok channel = first_is (Err e) [] (Ok channel) [] h in absurd (cc)

adds_by : (n : ℕ) (w : World) (new : Option World) (before : CardState) (v : World) (card : CardState) → card_inside w ≡ Some before → new ≡ Some v → card_inside v ≡ Some card → numbers card ≡ numbers before ++ n ∷ [] → IfSome new (λ x. AddsInside n (card_inside w) (card_inside x))
adds_by n w new before v card i t k h = rw (t, i, k) h

open_adds_in : (epoch : ℕ) (held aid : List ℕ) (steps : List Step) (old new : Seen) (channel : ChannelValue) → opened epoch held aid steps ≡ Some (Ok channel, []) → Plays old steps new → (w : World) → old.world ≡ Some w → IfSome new.world (λ v. AddsInside channel.number (card_inside w) (card_inside v))
open_adds_in epoch held aid steps old new channel h p w t = elim (opening epoch held aid steps (Ok channel) h) [
  | inl d ↦ absurd (let z : Ok channel ≡ Err d.error = d.is in cc)
  | inr d ↦ (
      let is = the_number epoch d.number d.outcome channel d.is in
      let s = started steps old new w d.answer d.rest d.sent p t (no_fault_given held d.answer (Ok d.number) d.given refl) in
      let n = new_by held (numbers s.before) (numbers s.comes.card) d.number d.answer d.given s.comes.holds in
      let k = select_done d.number aid d.rest s.comes.seen new s.comes.world s.comes.card s.comes.plays s.comes.told s.comes.inside tt (d.selects ∙ ap (λ (o : Result (Unit {0}) OpenError). Some (o, [])) is.0) in
      subst (λ m. IfSome new.world (λ v. AddsInside m (card_inside w) (card_inside v))) is.1
      (adds_by d.number w new.world s.before k.world k.card s.is k.told k.inside (k.holds ∙ n.added)))
]

pub open_adds : (epoch : ℕ) (held aid : List ℕ) (steps : List Step) (old new : Seen) (result : Result ChannelValue OpenError) → opened epoch held aid steps ≡ Some (result, []) → Plays old steps new → IfOk result (λ channel. AddsOpen channel.number old.world new.world)
open_adds epoch held aid steps old new (Err e) h p = tt
open_adds epoch held aid steps old new (Ok channel) h p = by_world old.world refl
  where
    by_world : (o : Option World) → old.world ≡ o → AddsOpen channel.number o new.world
    by_world None t = tt
    by_world (Some w) t = open_adds_in epoch held aid steps old new channel h p w t

-- ---- an open keeps the channels held the card's

agrees_by : (new : Option World) (now : List ℕ) (v : World) (card : CardState) → new ≡ Some v → card_inside v ≡ Some card → AreOpen card now → IfSome new (λ x. AreOpenInside (card_inside x) now)
agrees_by new now v card t k h = rw (t, k) h

basic_open : (card : CardState) (held : List ℕ) → AreOpen card held → is_one_of 0 (numbers card) ≡ true
basic_open card held a = a.same 0

or_swap : (a b c : Bool) → (a || (b || c)) ≡ (b || (a || c))
or_swap false b c = refl
or_swap true true c = refl
or_swap true false c = refl

open_same : (before card : CardState) (held : List ℕ) → numbers card ≡ numbers before → AreOpen before held → AreOpen card held
open_same before card held e a = record { same = λ n. ap (is_one_of n) e ∙ a.same n; apart = subst AllApart (sym e) a.apart }

open_more_held : (before card : CardState) (held : List ℕ) (n : ℕ) → numbers card ≡ numbers before ++ n ∷ [] → is_one_of n (numbers before) ≡ false → AreOpen before held → AreOpen card (held ++ n ∷ [])
open_more_held before card held n e free a = record {
  same = λ m. ap (is_one_of m) e ∙ one_appended m n (numbers before) ∙ ap (λ b. (n == m) || b) (a.same m) ∙ or_swap (n == m) (m == 0) (is_one_of m held) ∙ ap (λ b. (m == 0) || b) (sym (one_appended m n held));
  apart = subst AllApart (sym e) (apart_appended n (numbers before) free a.apart);
}

-- a channel opened and closed again
open_again : (before middle card : CardState) (held : List ℕ) (n : ℕ) → numbers middle ≡ numbers before ++ n ∷ [] → is_one_of n (numbers before) ≡ false → AreOpen before held → Gone n (numbers middle) (numbers card) → AreOpen card held
open_again before middle card held n e free a g = record {
  same = λ m. elim (cases_Bool (n == m)) [
    | inl h ↦ (let is : n ≡ m = eqb-true n m h in subst (λ x. is_one_of x (numbers card) ≡ false) is g.gone ∙ sym (subst (λ x. is_one_of x (numbers before) ≡ false) is free) ∙ a.same m)
    | inr h ↦ g.others m h ∙ ap (is_one_of m) e ∙ one_appended m n (numbers before) ∙ ap (λ b. b || is_one_of m (numbers before)) h ∙ a.same m
  ];
  apart = g.apart;
}

-- MANAGE CHANNEL gave no number: none was opened
none_opened : (before : List ℕ) (held now : List ℕ) (a : Result ResponseValue LinkError) (e : OpenError) → ((n : ℕ) → is_one_of n before ≡ ((n == 0) || is_one_of n held)) → number_given held a ≡ Err e → OpenTells before a now → now ≡ before
none_opened before held now (Err f) e same g t = t
none_opened before held now (Ok r) e same g (inl (s, t)) = t
none_opened before held now (Ok r) e same g (inr d) = absurd (
    let within : d.number ≤ 19 = d.within (same 0) in
    let beside : 1 ≤ d.number = d.beside in
    let between : is_between 1 19 d.number ≡ true = grind arith in
    let free : is_one_of d.number held ≡ false = (not_first (d.number == 0) (is_one_of d.number held) (sym (same d.number) ∙ d.free)).1 in
    let test : (is_between 1 19 d.number && not (is_one_of d.number held)) ≡ true = rw (between, free) refl in
    let z : Ok d.number ≡ Err e =
    sym (ap (λ (b : Bool). number_or (refused r.sw) (if b then Some d.number else None)) test)
    ∙ sym (ap (λ (body : List ℕ). number_or (refused r.sw) (new_number held body)) d.body)
    ∙ sym (ap (λ (b : Bool). number_or (refused r.sw) (if b then new_number held r.body else None)) d.status) ∙ g in
    cc)

open_went : (epoch : ℕ) (held : List ℕ) (aid : List ℕ) (n : ℕ) (rest : List Step) (new : Seen) (before : CardState) (a : Result ResponseValue LinkError) (result : Result ChannelValue OpenError) (s : Comes (λ k. OpenTells (numbers before) a (numbers k)) rest new) → number_given held a ≡ Ok n → AreOpen before held → open_failed result ≡ false → (outcome : Result (Unit {0}) OpenError) → selecting n aid rest ≡ Some (outcome, []) → the_channel n epoch (Some (outcome, [])) ≡ Some (result, []) → Settled (λ k. AreOpen k (held_with result held)) new
open_went epoch held aid n rest new before a result s g agree f (Ok u) h is =
    let fresh = new_by held (numbers before) (numbers s.card) n a g s.holds in
    let r : Ok (record { number = n; epoch = epoch }) ≡ result = first_is (Ok (record { number = n; epoch = epoch })) [] result [] is in
    resettled (λ k. numbers k ≡ numbers s.card) (λ k. AreOpen k (held_with result held)) new
    (λ k e. subst (λ x. AreOpen k (held_with x held)) r (open_more_held before k held n (e ∙ fresh.added) fresh.free agree))
    (select_done n aid rest s.seen new s.world s.card s.plays s.told s.inside u h)
open_went epoch held aid n rest new before a result s g agree f (Err e) h is =
    let fresh = new_by held (numbers before) (numbers s.card) n a g s.holds in
    let r : Err e ≡ result = first_is (Err e) [] result [] is in
    let basic : is_one_of 0 (numbers s.card) ≡ true = ap (is_one_of 0) fresh.added ∙ one_appended 0 n (numbers before) ∙ ap (λ b. (n == 0) || b) (basic_open before held agree) ∙ or_true (n == 0) in
    let apart : AllApart (numbers s.card) = subst AllApart (sym fresh.added) (apart_appended n (numbers before) fresh.free agree.apart) in
    resettled (λ k. Gone n (numbers s.card) (numbers k)) (λ k. AreOpen k (held_with result held)) new
    (λ k gone. subst (λ x. AreOpen k (held_with x held)) r (open_again before s.card k held n fresh.added fresh.free agree gone))
    (select_refused n aid rest s.seen new s.world s.card s.plays s.told s.inside basic fresh.beside apart e (ap open_failed r ∙ f) h)
  where
    or_true : (b : Bool) → (b || true) ≡ true
    or_true true = refl
    or_true false = refl

open_keeps_in : (epoch : ℕ) (held aid : List ℕ) (steps : List Step) (old new : Seen) (result : Result ChannelValue OpenError) → opened epoch held aid steps ≡ Some (result, []) → Plays old steps new → open_failed result ≡ false → (w : World) → old.world ≡ Some w → AreOpenInside (card_inside w) held → Settled (λ k. AreOpen k (held_with result held)) new
open_keeps_in epoch held aid steps old new result h p f w t agree = elim (opening epoch held aid steps result h) [
  | inl d ↦ (
      let real : is_fault d.error ≡ false = sym (ap open_failed d.is) ∙ f in
      let s = started steps old new w d.answer [] d.sent p t (no_fault_given held d.answer (Err d.error) d.given real) in
      let agreed : AreOpen s.before held = subst (λ o. AreOpenInside o held) s.is agree in
      resettled (λ k. OpenTells (numbers s.before) d.answer (numbers k)) (λ k. AreOpen k (held_with result held)) new
      (λ k tells. subst (λ x. AreOpen k (held_with x held)) (sym d.is) (open_same s.before k held (none_opened (numbers s.before) held (numbers k) d.answer d.error agreed.same d.given tells) agreed))
      (settled (λ k. OpenTells (numbers s.before) d.answer (numbers k)) [] new refl s.comes))
  | inr d ↦ (
      let s = started steps old new w d.answer d.rest d.sent p t (no_fault_given held d.answer (Ok d.number) d.given refl) in
      let agreed : AreOpen s.before held = subst (λ o. AreOpenInside o held) s.is agree in
      open_went epoch held aid d.number d.rest new s.before d.answer result s.comes d.given agreed f d.outcome d.selects d.is)
]

pub open_keeps : (epoch : ℕ) (held aid : List ℕ) (steps : List Step) (old new : Seen) (result : Result ChannelValue OpenError) (now : List ℕ) → opened epoch held aid steps ≡ Some (result, []) → Plays old steps new → now ≡ held_with result held → open_failed result ≡ false → KeepsOpen old.world new.world held now
open_keeps epoch held aid steps old new result now h p e f = by_world old.world refl
  where
    by_world : (o : Option World) → old.world ≡ o → KeepsOpen o new.world held now
    by_world None t = tt
    by_world (Some w) t = λ agree. (
        let k = open_keeps_in epoch held aid steps old new result h p f w t agree in
        agrees_by new.world now k.world k.card k.told k.inside (subst (AreOpen k.card) (sym e) k.holds))

-- ---- a close keeps them too

close_less : (before card : CardState) (held : List ℕ) (n : ℕ) → (n == 0) ≡ false → AreHeld held → AreOpen before held → Gone n (numbers before) (numbers card) → AreOpen card (without n held)
close_less before card held n beside h a g = record {
  same = λ m. elim (cases_Bool (n == m)) [
    | inl e ↦ (let is : n ≡ m = eqb-true n m e in subst (λ x. is_one_of x (numbers card) ≡ ((x == 0) || is_one_of x (without n held))) is (g.gone ∙ sym (ap (λ b. b || is_one_of n (without n held)) beside ∙ gone n held h.apart)))
    | inr e ↦ g.others m e ∙ a.same m ∙ ap (λ b. (m == 0) || b) (sym (without_other n m held (grind arith)))
  ];
  apart = g.apart;
}

close_sent : (n : ℕ) (held : List ℕ) (steps : List Step) (old new : Seen) (a : Result ResponseValue LinkError) → (n == 0) ≡ false → AreHeld held → exchanged (close_command n) None steps ≡ Some (a, []) → Plays old steps new → NoFault a → (w : World) → old.world ≡ Some w → AreOpenInside (card_inside w) held → Settled (λ k. AreOpen k (without n held)) new
close_sent n held steps old new a beside kept h p f w t agree =
    let q = card_there steps old new w (close_command n) None a [] h p t f in
    let agreed : AreOpen q.0 held = subst (λ o. AreOpenInside o held) q.1 agree in
    let first : Shuts n q.0 (close_command n) = record { ins = refl; closing = refl; named = refl; basic = basic_open q.0 held agreed; beside = beside; first = λ there. refl } in
    let told = chain_comes (Shuts n) (CloseTold n) (close_last n) (close_next n) (close_more n) steps old new w q.0 (close_command n) None a [] h p t q.1 f first in
    resettled (CloseTold n q.0 a) (λ k. AreOpen k (without n held)) new
    (λ k c. close_less q.0 k held n beside kept agreed (c agreed.apart))
    (settled (CloseTold n q.0 a) [] new refl told)

pub close_keeps : (n : ℕ) (held : List ℕ) (steps : List Step) (old new : Seen) (a : Result ResponseValue LinkError) (now : List ℕ) → IsNumber n → AreHeld held → exchanged (close_command n) None steps ≡ Some (a, []) → Plays old steps new → now ≡ without n held → close_failed (closed a) ≡ false → KeepsOpen old.world new.world held now
close_keeps n held steps old new a now number kept h p e f = by_world old.world refl
  where
    beside : (n == 0) ≡ false
    beside = let one : is_between 1 19 n ≡ true = number in grind arith

    no_fault : NoFault a
    no_fault z = true≢false (ap (λ (y : Result ResponseValue LinkError). close_failed (closed y)) (sym z) ∙ f)

    by_world : (o : Option World) → old.world ≡ o → KeepsOpen o new.world held now
    by_world None t = tt
    by_world (Some w) t = λ agree. (
        let k = close_sent n held steps old new a beside kept h p no_fault w t agree in
        agrees_by new.world now k.world k.card k.told k.inside (subst (AreOpen k.card) (sym e) k.holds))
