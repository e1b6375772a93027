-- What an exchange of an open or a close does to the card's numbers, and to the turn.
use Rattle.std.proofs.Common.{◌≡◌, ◌≤◌, inl, inr, ℕ, ◌==◌, ◌||◌, not, Bool, true, false, if◌then◌else◌, Option, Some, None, List, ◌∷◌, ◌++◌, refl, ap, sym, ◌∙◌, subst, arith, true≢false}
use Rattle.std.proofs.lemmas.Bool.{and_from, eqb-true, eq-eqb}
use Rattle.apdu.specs.Values.{CommandValue, ResponseValue}
use Rattle.apdu.specs.Words.{is_one_of, is_between}
use Rattle.apdu.specs.Apdu.{manage_channel_ins, is_success, wants_more}
use Rattle.card_model.specs.declared.world.Change.{Change}
use Rattle.card_model.specs.declared.world.CardState.{CardState}
use Rattle.card_model.specs.Step.{on_card}
use Rattle.card_effects.specs.Numbers.{numbers, AllApart, KeepsNumbers, AddsNumber, ChangesNumbers}
use Rattle.card_effects.proofs.Numbers.{numbers_effect}
use Rattle.card_effects.proofs.Effects.{effect}
use Rattle.channels.specs.Channels.{open_command, close_command, new_number, opened_number}
use Rattle.link.specs.declared.chain.Final.{Final}
use Rattle.performed.proofs.CalmManage.{IsOpenAnswer, open_answer, close_answer}
use Rattle.performed.proofs.CalmMatch.{Matches, Dropped, matches_added, matches_dropped, has_basic, has_wanted, not_wanted}
use Rattle.performed.proofs.CalmPhase.{list_of}

-- ---- the card's numbers are right

pub record Right (ns wanted : List ℕ) : Type 0 where
  pub matches : Matches ns wanted
  pub apart : AllApart ns
  pub each : AllApart wanted
  pub beside : is_one_of 0 wanted ≡ false

right_same : (ns after wanted : List ℕ) → after ≡ ns → Right ns wanted → Right after wanted
right_same ns after wanted e right = subst (λ (xs : List ℕ). Right xs wanted) (sym e) right

module _ (changes : List Change) (card : CardState) where
  abbrev behind : CommandValue → CardState × ResponseValue
  behind c = on_card changes card c

  changed : (c : CommandValue) → ChangesNumbers card c (behind c)
  changed c = numbers_effect changes card c (behind c) (effect changes card c)

  -- a command that is no MANAGE CHANNEL
  pub others_keep : (c : CommandValue) → (c.ins == manage_channel_ins) ≡ false → numbers (behind c).0 ≡ numbers card
  others_keep c h = elim (changed c).does [
    | inl keeps ↦ keeps.same
    | inr other ↦ absurd (elim other [
      | inl adds ↦ true≢false (sym (eq-eqb c.ins manage_channel_ins adds.ins) ∙ h)
      | inr drops ↦ true≢false (sym (eq-eqb c.ins manage_channel_ins drops.ins) ∙ h)
    ])
  ]

  -- ---- the MANAGE CHANNEL of an open

  pub record OpenedOn (held : List ℕ) : Type 0 where
    pub number : Option ℕ
    pub is : (f : Final) → f.response ≡ (behind open_command).1 → opened_number held f ≡ number
    pub right : Right (numbers (behind open_command).0) (list_of number ++ held)
    pub final : wants_more (behind open_command).1.sw ≡ false

  module _ (held : List ℕ) (right : Right (numbers card) held) where
    answered : IsOpenAnswer (behind open_command).1
    answered = open_answer changes card (has_basic (numbers card) held right.matches)

    numbers_by : (b : Bool) (r : ResponseValue) → is_success r.sw ≡ b → (if is_success r.sw then new_number held r.body else None) ≡ (if b then new_number held r.body else None)
    numbers_by b r e = ap (λ (x : Bool). if x then new_number held r.body else None) e

    keeps_all : KeepsNumbers card open_command (behind open_command) → OpenedOn held
    keeps_all k = record {
      number = None;
      is = λ f e. ap (λ (r : ResponseValue). if is_success r.sw then new_number held r.body else None) e ∙ numbers_by false (behind open_command).1 k.status;
      right = right_same (numbers card) (numbers (behind open_command).0) held k.same right;
      final = answered.final;
    }

    adds_one : AddsNumber card open_command (behind open_command) → OpenedOn held
    adds_one a =
        let out : is_one_of a.number held ≡ false = not_wanted (numbers card) held a.number right.matches a.free in
        let few : a.number ≤ 19 = answered.few a.number a.status a.body in
        record {
          number = Some a.number;
          is = λ f e.
              ap (λ (r : ResponseValue). if is_success r.sw then new_number held r.body else None) e
              ∙ numbers_by true (behind open_command).1 a.status
              ∙ ap (new_number held) a.body
              ∙ ap (λ (b : Bool). if b then Some a.number else None) (and_from (is_between 1 19 a.number) (not (is_one_of a.number held)) (between a.number a.beside few) (ap not out));
          right = record {
            matches = subst (λ (ns : List ℕ). Matches ns (a.number ∷ held)) (sym a.added) (matches_added (numbers card) held a.number right.matches);
            apart = (changed open_command).apart right.apart;
            each = (out, right.each);
            beside = zero_out a.number a.beside;
          };
          final = answered.final;
        }
      where
        between : (n : ℕ) → 1 ≤ n → n ≤ 19 → is_between 1 19 n ≡ true
        between n l m = grind arith

        unlike_zero : (n : ℕ) → 1 ≤ n → (n == 0) ≡ false
        unlike_zero n l = grind arith

        zero_out : (n : ℕ) → 1 ≤ n → is_one_of 0 (n ∷ held) ≡ false
        zero_out n l = ap (λ (b : Bool). b || is_one_of 0 held) (unlike_zero n l) ∙ right.beside

    pub opened_on : OpenedOn held
    opened_on = elim (changed open_command).does [
      | inl keeps ↦ keeps_all keeps
      | inr other ↦ elim other [
        | inl adds ↦ adds_one adds
        | inr drops ↦ absurd (let bad : 0 ≡ 0x80 = drops.closing in cc)
      ]
    ]

  -- ---- the MANAGE CHANNEL of a close

  pub record ClosedOn (n : ℕ) : Type 0 where
    pub success : is_success (behind (close_command n)).1.sw ≡ true
    pub dropped : Dropped n (numbers card) (numbers (behind (close_command n)).0)
    pub apart : AllApart (numbers (behind (close_command n)).0)
    pub beside : (n == 0) ≡ false

  module _ (wanted : List ℕ) (n : ℕ) (right : Right (numbers card) wanted) (in_it : is_one_of n wanted ≡ true) where
    unlike_basic : (n == 0) ≡ false
    unlike_basic = by_zero (n == 0) refl
      where
        by_zero : (b : Bool) → (n == 0) ≡ b → b ≡ false
        by_zero false e = refl
        by_zero true e = absurd (true≢false (sym in_it ∙ subst (λ (m : ℕ). is_one_of m wanted ≡ false) (sym (eqb-true n 0 e)) right.beside))

    closes_it : is_success (behind (close_command n)).1.sw ≡ true
    closes_it = close_answer changes card n (has_basic (numbers card) wanted right.matches) unlike_basic (has_wanted (numbers card) wanted n right.matches in_it)

    pub closed_on : ClosedOn n
    closed_on = elim (changed (close_command n)).does [
      | inl keeps ↦ absurd (true≢false (sym closes_it ∙ keeps.status))
      | inr other ↦ elim other [
        | inl adds ↦ absurd (let bad : 0x80 ≡ 0 = adds.opening in cc)
        | inr drops ↦ record {
          success = closes_it;
          dropped = record { others = drops.others; gone = drops.gone right.apart };
          apart = (changed (close_command n)).apart right.apart;
          beside = unlike_basic;
        }
      ]
    ]

    -- what is wanted behind it
    pub right_dropped : (rest : List ℕ) → AllApart rest → is_one_of 0 rest ≡ false → is_one_of n rest ≡ false → ((m : ℕ) → (n == m) ≡ false → is_one_of m rest ≡ is_one_of m wanted) → Right (numbers (behind (close_command n)).0) rest
    right_dropped rest each zero_out out same = record {
      matches = matches_dropped (numbers card) (numbers (behind (close_command n)).0) wanted rest n right.matches closed_on.dropped unlike_basic out same;
      apart = closed_on.apart;
      each = each;
      beside = zero_out;
    }
