-- The numbers of a told card's open channels behind the exchanges of one command.
use Rattle.std.proofs.Common.{◌≡◌, ◌⊎◌, inl, inr, ℕ, ◌≤◌, ◌%◌, ◌==◌, Bool, true, false, ◌&&◌, not, if◌then◌else◌, List, [], ◌∷◌, ◌++◌, Result, Ok, Err, refl, ap, sym, ◌∙◌, subst}
use Rattle.std.proofs.lemmas.Bool.{eq-eqb, cases_Bool, false≢true}
use Rattle.apdu.specs.Values.{CommandValue, ResponseValue}
use Rattle.apdu.specs.Words.{is_one_of}
use Rattle.apdu.specs.Apdu.{with_le, le_of_byte, is_success, has_more, wants_more, manage_channel_ins, select_ins, read_record_ins, read_binary_ins, get_response_ins, update_record_ins, update_binary_ins, fetch_ins, verify_ins}
use Rattle.card_model.specs.declared.world.Change.{Change}
use Rattle.card_model.specs.declared.world.CardState.{CardState}
use Rattle.card_model.specs.Step.{on_card}
use Rattle.card_effects.specs.Effect.{Effect, quiet, refuses_select, reads_record, reads_binary, gets, selects, updates_record, updates_binary, opens, closes, hands_over}
use Rattle.card_effects.specs.Numbers.{numbers, AllApart, ChangesNumbers, KeepsNumbers, AddsNumber, DropsNumber}
use Rattle.card_effects.proofs.Numbers.{numbers_effect}
use Rattle.card_effects.proofs.Effects.{effect}
use Rattle.card_effects.proofs.Table.{no_more_by, no_other_by}
use Rattle.link.specs.declared.exchanges.LinkError.{LinkError}
use Rattle.link.specs.declared.exchanges.LinkError.TheVariants as linked
use Rattle.link.specs.Commands.{follow_up, get_response_for}
use Rattle.link.specs.Exchanges.{answer_of}
use Rattle.channels.specs.Channels.{close_command}
use Rattle.channel_table.proofs.Managing.{low_number, closes_open}

changes_numbers : (changes : List Change) (card : CardState) (c : CommandValue) → ChangesNumbers card c (on_card changes card c)
changes_numbers changes card c = numbers_effect changes card c (on_card changes card c) (effect changes card c)

final_by : (sw : ℕ) → is_success sw ≡ true → wants_more sw ≡ false
final_by sw h = rw (no_more_by sw h, no_other_by sw h) refl

unfinished : (sw : ℕ) → wants_more sw ≡ true → is_success sw ≡ false
unfinished sw h = elim (cases_Bool (is_success sw)) [
  | inl s ↦ absurd (false≢true (sym (final_by sw s) ∙ h))
  | inr s ↦ s
]

answered_by : (c : CommandValue) (r : ResponseValue) → wants_more r.sw ≡ false → answer_of c (Ok r) ≡ Ok r
answered_by c r h = ap (λ (b : Bool). if b && not (c.ins == verify_ins) then Err (linked.Loop (record { 0 = r.sw })) else Ok r) h

-- an answer is the response, or a loop
by_answer : (P : Result ResponseValue LinkError → Type 0) (c : CommandValue) (r : ResponseValue) → P (Ok r) → P (Err (linked.Loop (record { 0 = r.sw }))) → P (answer_of c (Ok r))
by_answer P c r ok loop = by_test (wants_more r.sw && not (c.ins == verify_ins))
  where
    by_test : (b : Bool) → P (if b then Err (linked.Loop (record { 0 = r.sw })) else Ok r)
    by_test true = loop
    by_test false = ok

-- ---- a command that is no MANAGE CHANNEL

abbrev pub IsOther : CardState → CommandValue → Type 0
IsOther card c = (c.ins == manage_channel_ins) ≡ false

abbrev pub StaysOpen : CardState → Result ResponseValue LinkError → CardState → Type 0
StaysOpen card r k = numbers k ≡ numbers card

no_manage : (c : CommandValue) → (c.ins == manage_channel_ins) ≡ false → c.ins ≡ manage_channel_ins → ⊥
no_manage c h e = false≢true (sym h ∙ eq-eqb c.ins manage_channel_ins e)

other_keeps : (changes : List Change) (card : CardState) (c : CommandValue) → IsOther card c → numbers (on_card changes card c).0 ≡ numbers card
other_keeps changes card c h = elim (changes_numbers changes card c).does [
  | inl k ↦ k.same
  | inr d ↦ elim d [ inl a ↦ absurd (no_manage c h a.ins) | inr q ↦ absurd (no_manage c h q.ins) ]
]

pub other_last : (changes : List Change) (card : CardState) (c : CommandValue) → IsOther card c → StaysOpen card (answer_of c (Ok (on_card changes card c).1)) (on_card changes card c).0
other_last changes card c h = other_keeps changes card c h

pub other_next : (changes : List Change) (card : CardState) (c : CommandValue) → IsOther card c → wants_more (on_card changes card c).1.sw ≡ true → IsOther (on_card changes card c).0 (follow_up c (on_card changes card c).1)
other_next changes card c h w = by_more (has_more (on_card changes card c).1.sw)
  where
    by_more : (b : Bool) → ((if b then get_response_for c (le_of_byte ((on_card changes card c).1.sw % 256)) else with_le (le_of_byte ((on_card changes card c).1.sw % 256)) c).ins == manage_channel_ins) ≡ false
    by_more true = refl
    by_more false = h

pub other_more : (changes : List Change) (card : CardState) (c : CommandValue) → IsOther card c → wants_more (on_card changes card c).1.sw ≡ true → (r : Result ResponseValue LinkError) (k : CardState) → StaysOpen (on_card changes card c).0 r k → StaysOpen card r k
other_more changes card c h w r k t = t ∙ other_keeps changes card c h

-- ---- MANAGE CHANNEL

unlike : (c : CommandValue) (ins : ℕ) → c.ins ≡ manage_channel_ins → c.ins ≡ ins → (manage_channel_ins == ins) ≡ false → ⊥
unlike c ins h e n = false≢true (sym n ∙ eq-eqb manage_channel_ins ins (sym h ∙ e))

-- it is never answered 61XX
no_more_manage : (changes : List Change) (card : CardState) (c : CommandValue) (p : CardState × ResponseValue) → c.ins ≡ manage_channel_ins → Effect changes card c p → has_more p.1.sw ≡ false
no_more_manage changes card c p h (quiet k e) = k.more
no_more_manage changes card c p h (refuses_select number place channel on e d) = absurd (unlike c select_ins h e refl)
no_more_manage changes card c p h (reads_record number place channel on e d) = absurd (unlike c read_record_ins h e refl)
no_more_manage changes card c p h (reads_binary number place channel on e d) = absurd (unlike c read_binary_ins h e refl)
no_more_manage changes card c p h (gets number place channel on e d) = absurd (unlike c get_response_ins h e refl)
no_more_manage changes card c p h (selects number place channel on e d) = absurd (unlike c select_ins h e refl)
no_more_manage changes card c p h (updates_record number place channel on e d) = absurd (unlike c update_record_ins h e refl)
no_more_manage changes card c p h (updates_binary number place channel on e d) = absurd (unlike c update_binary_ins h e refl)
no_more_manage changes card c p h (opens e d) = no_more_by p.1.sw d.status
no_more_manage changes card c p h (closes e d) = no_more_by p.1.sw d.status
no_more_manage changes card c p h (hands_over e d) = absurd (unlike c fetch_ins h e refl)

-- so what follows is the same with another Le
again : (changes : List Change) (card : CardState) (c : CommandValue) → c.ins ≡ manage_channel_ins → follow_up c (on_card changes card c).1 ≡ with_le (le_of_byte ((on_card changes card c).1.sw % 256)) c
again changes card c h = ap (λ (b : Bool). if b then get_response_for c (le_of_byte ((on_card changes card c).1.sw % 256)) else with_le (le_of_byte ((on_card changes card c).1.sw % 256)) c) (no_more_manage changes card c (on_card changes card c) h (effect changes card c))

no_success : (c : CommandValue) (sw : ℕ) → c.ins ≡ manage_channel_ins → ((c.ins == manage_channel_ins) && is_success sw) ≡ false → is_success sw ≡ false
no_success c sw h e = sym (ap (λ (b : Bool). b && is_success sw) (eq-eqb c.ins manage_channel_ins h)) ∙ e

-- without success the numbers stay
refused_keeps : (changes : List Change) (card : CardState) (c : CommandValue) → is_success (on_card changes card c).1.sw ≡ false → numbers (on_card changes card c).0 ≡ numbers card
refused_keeps changes card c h = elim (changes_numbers changes card c).does [
  | inl k ↦ k.same
  | inr d ↦ elim d [ inl a ↦ absurd (false≢true (sym h ∙ a.status)) | inr q ↦ absurd (false≢true (sym h ∙ q.status)) ]
]

-- ---- MANAGE CHANNEL that opens a channel

pub record Asks (card : CardState) (c : CommandValue) : Type 0 where
  pub class : c.class ≡ 0
  pub ins : c.ins ≡ manage_channel_ins
  pub opening : c.p1 ≡ 0x00

-- a number more
pub record Gives (before : List ℕ) (r : ResponseValue) (now : List ℕ) : Type 0 where
  pub number : ℕ
  pub status : is_success r.sw ≡ true
  pub body : r.body ≡ number ∷ []
  pub beside : 1 ≤ number
  pub within : is_one_of 0 before ≡ true → number ≤ 19
  pub free : is_one_of number before ≡ false
  pub added : now ≡ before ++ number ∷ []

abbrev pub OpenTells : List ℕ → Result ResponseValue LinkError → List ℕ → Type 0
OpenTells before (Ok r) now = ((is_success r.sw ≡ false) × (now ≡ before)) ⊎ Gives before r now
OpenTells before (Err e) now = now ≡ before

abbrev pub OpenTold : CardState → Result ResponseValue LinkError → CardState → Type 0
OpenTold card r k = OpenTells (numbers card) r (numbers k)

module _ (changes : List Change) (card : CardState) (c : CommandValue) (h : Asks card c) where
  open_kept : KeepsNumbers card c (on_card changes card c) → OpenTold card (answer_of c (Ok (on_card changes card c).1)) (on_card changes card c).0
  open_kept k = by_answer (λ a. OpenTold card a (on_card changes card c).0) c (on_card changes card c).1 (inl (no_success c (on_card changes card c).1.sw h.ins k.status, k.same)) k.same

  open_added : AddsNumber card c (on_card changes card c) → OpenTold card (answer_of c (Ok (on_card changes card c).1)) (on_card changes card c).0
  open_added a =
      let gives : Gives (numbers card) (on_card changes card c).1 (numbers (on_card changes card c).0) = record {
        number = a.number;
        status = a.status;
        body = a.body;
        beside = a.beside;
        within = λ basic. low_number changes card basic c a.number h.class h.ins h.opening a.body;
        free = a.free;
        added = a.added;
      } in
      subst (λ x. OpenTold card x (on_card changes card c).0) (sym (answered_by c (on_card changes card c).1 (final_by (on_card changes card c).1.sw a.status))) (inr gives)

  not_closing : c.p1 ≡ 0x80 → ⊥
  not_closing e = let q : 0x00 ≡ 0x80 = sym h.opening ∙ e in absurd (cc)

  pub open_last : OpenTold card (answer_of c (Ok (on_card changes card c).1)) (on_card changes card c).0
  open_last = elim (changes_numbers changes card c).does [
    | inl k ↦ open_kept k
    | inr d ↦ elim d [ inl a ↦ open_added a | inr q ↦ absurd (not_closing q.closing) ]
  ]

  pub open_next : wants_more (on_card changes card c).1.sw ≡ true → Asks (on_card changes card c).0 (follow_up c (on_card changes card c).1)
  open_next w = subst (λ x. Asks (on_card changes card c).0 x) (sym (again changes card c h.ins)) (record { class = h.class; ins = h.ins; opening = h.opening })

  pub open_more : wants_more (on_card changes card c).1.sw ≡ true → (r : Result ResponseValue LinkError) (k : CardState) → OpenTold (on_card changes card c).0 r k → OpenTold card r k
  open_more w r k t = subst (λ ns. OpenTells ns r (numbers k)) (refused_keeps changes card c (unfinished (on_card changes card c).1.sw w)) t

-- ---- MANAGE CHANNEL that closes a channel

-- this number is gone, and each other stays
pub record Gone (n : ℕ) (before now : List ℕ) : Type 0 where
  pub apart : AllApart now
  pub gone : is_one_of n now ≡ false
  pub others : (m : ℕ) → (n == m) ≡ false → is_one_of m now ≡ is_one_of m before

abbrev pub CloseTold : ℕ → CardState → Result ResponseValue LinkError → CardState → Type 0
CloseTold n card r k = AllApart (numbers card) → Gone n (numbers card) (numbers k)

-- the command closes this channel, and is in its first form where that is open
pub record Shuts (n : ℕ) (card : CardState) (c : CommandValue) : Type 0 where
  pub ins : c.ins ≡ manage_channel_ins
  pub closing : c.p1 ≡ 0x80
  pub named : c.p2 ≡ n
  pub basic : is_one_of 0 (numbers card) ≡ true
  pub beside : (n == 0) ≡ false
  pub first : is_one_of n (numbers card) ≡ true → c ≡ close_command n

module _ (n : ℕ) (changes : List Change) (card : CardState) (c : CommandValue) (h : Shuts n card c) where
  not_refused : is_success (on_card changes card c).1.sw ≡ false → is_one_of n (numbers card) ≡ false
  not_refused s = elim (cases_Bool (is_one_of n (numbers card))) [
    | inl there ↦ absurd (false≢true (sym s ∙ ap (λ x. is_success (on_card changes card x).1.sw) (h.first there) ∙ closes_open changes card h.basic n h.beside there))
    | inr away ↦ away
  ]

  not_opening : c.p1 ≡ 0x00 → ⊥
  not_opening e = let q : 0x80 ≡ 0x00 = sym h.closing ∙ e in absurd (cc)

  close_kept : is_success (on_card changes card c).1.sw ≡ false → AllApart (numbers card) → Gone n (numbers card) (numbers (on_card changes card c).0)
  close_kept s a = subst (λ ns. Gone n (numbers card) ns) (sym (refused_keeps changes card c s)) (record { apart = a; gone = not_refused s; others = λ m e. refl })

  close_dropped : DropsNumber card c (on_card changes card c) → AllApart (numbers card) → Gone n (numbers card) (numbers (on_card changes card c).0)
  close_dropped d a = record {
    apart = (changes_numbers changes card c).apart a;
    gone = subst (λ x. is_one_of x (numbers (on_card changes card c).0) ≡ false) h.named (d.gone a);
    others = λ m e. d.others m (subst (λ x. (x == m) ≡ false) (sym h.named) e);
  }

  pub close_last : CloseTold n card (answer_of c (Ok (on_card changes card c).1)) (on_card changes card c).0
  close_last a = elim (changes_numbers changes card c).does [
    | inl k ↦ close_kept (no_success c (on_card changes card c).1.sw h.ins k.status) a
    | inr d ↦ elim d [ inl q ↦ absurd (not_opening q.opening) | inr q ↦ close_dropped q a ]
  ]

  pub close_next : wants_more (on_card changes card c).1.sw ≡ true → Shuts n (on_card changes card c).0 (follow_up c (on_card changes card c).1)
  close_next w =
      let s = unfinished (on_card changes card c).1.sw w in
      let same = refused_keeps changes card c s in
      subst (λ x. Shuts n (on_card changes card c).0 x) (sym (again changes card c h.ins))
      (record {
        ins = h.ins;
        closing = h.closing;
        named = h.named;
        basic = ap (is_one_of 0) same ∙ h.basic;
        beside = h.beside;
        first = λ there. absurd (false≢true (sym (not_refused s) ∙ sym (ap (is_one_of n) same) ∙ there));
      })

  pub close_more : wants_more (on_card changes card c).1.sw ≡ true → (r : Result ResponseValue LinkError) (k : CardState) → CloseTold n (on_card changes card c).0 r k → CloseTold n card r k
  close_more w r k t = subst (λ ns. AllApart ns → Gone n ns (numbers k)) (refused_keeps changes card c (unfinished (on_card changes card c).1.sw w)) t
