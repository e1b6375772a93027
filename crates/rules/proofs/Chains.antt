-- The exchanges of one command: what its first form has to do with the command that the card answers now.
use Rattle.std.proofs.Common.{◌≡◌, ◌⊎◌, inl, inr, ℕ, ◌+◌, ◌%◌, ◌/◌, ◌==◌, Bool, true, false, ◌&&◌, if◌then◌else◌, Option, Some, None, List, refl, ap, sym, ◌∙◌, subst, arith}
use Rattle.std.specs.Prelude.{not, nat_lt, find}
use Rattle.std.proofs.lemmas.Bool.{cond_both, and_parts, eqb-true, and_from, and_right, or_right, or_from, ne_eqb, false≢true}
use Rattle.apdu.specs.Values.{CommandValue, ResponseValue}
use Rattle.apdu.specs.Words.{same_bytes, same_number, path_of}
use Rattle.apdu.specs.Apdu.{with_le, select_ins, get_response_ins, read_binary_ins, verify_ins, has_more, wants_other_le, wants_more, is_success, le_of_byte, same_command}
use Rattle.apdu.specs.declared.class.ClassKind.TheVariants.{Plain}
use Rattle.card_model.specs.Waiting.{WaitingValue}
use Rattle.card_model.specs.declared.world.ChannelState.{ChannelState}
use Rattle.card_model.specs.declared.world.Change.{Change}
use Rattle.card_model.specs.declared.world.CardState.{CardState}
use Rattle.card_model.specs.Card.{current_file, current_parameters, has_number}
use Rattle.card_model.specs.Select.{ids_of}
use Rattle.link.specs.declared.chain.Chain.{Chain}
use Rattle.link.specs.Commands.{chain_count, first_of, chain_first, get_response_for, follow_up, asks_more, chain_after, is_basic_select, named_path, selection_after, most_exchanges}
use Rattle.card_effects.specs.Effect.{acted, Keeps, selecting, IsMisfit, Effect, quiet, refuses_select, reads_record, reads_binary, gets, selects, updates_record, updates_binary, opens, closes, hands_over, IsOn, asks_le, basic}
use Rattle.card_effects.proofs.Table.{no_other_by, no_more_by}
use Rattle.card_effects.specs.Basic.{LeavesBasic, SelectsBasic}
use Rattle.card_effects.proofs.Basic.{basic_effect, plain_basic, channel_found}
use Rattle.card_effects.proofs.Same.{same_bytes_is}
use Rattle.rules.proofs.Selected.{ids_named}
use Rattle.rules.specs.Agreement.{SameButLe, BasicWaits, IsLong, Stands, itself, again, waits, ChainTied}

same_number_is : (a b : Option ℕ) → same_number a b ≡ true → a ≡ b
same_number_is None None h = refl
same_number_is None (Some b) h = absurd (cc)
same_number_is (Some a) None h = absurd (cc)
same_number_is (Some a) (Some b) h = ap (λ n. Some n) (eqb-true a b h)

pub same_command_is : (a b : CommandValue) → same_command a b ≡ true → a ≡ b
same_command_is a b h =
    let make : ℕ → ℕ → ℕ → ℕ → List ℕ → Option ℕ → CommandValue = λ class ins p1 p2 body le. record { class = class; ins = ins; p1 = p1; p2 = p2; body = body; le = le } in
    let q1 = and_parts ((a.class == b.class) && (a.ins == b.ins) && (a.p1 == b.p1) && (a.p2 == b.p2) && same_bytes a.body b.body) (same_number a.le b.le) h in
    let q2 = and_parts ((a.class == b.class) && (a.ins == b.ins) && (a.p1 == b.p1) && (a.p2 == b.p2)) (same_bytes a.body b.body) q1.0 in
    let q3 = and_parts ((a.class == b.class) && (a.ins == b.ins) && (a.p1 == b.p1)) (a.p2 == b.p2) q2.0 in
    let q4 = and_parts ((a.class == b.class) && (a.ins == b.ins)) (a.p1 == b.p1) q3.0 in
    let q5 = and_parts (a.class == b.class) (a.ins == b.ins) q4.0 in
    let e1 : a.class ≡ b.class = eqb-true a.class b.class q5.0 in
    let e2 : a.ins ≡ b.ins = eqb-true a.ins b.ins q5.1 in
    let e3 : a.p1 ≡ b.p1 = eqb-true a.p1 b.p1 q4.1 in
    let e4 : a.p2 ≡ b.p2 = eqb-true a.p2 b.p2 q3.1 in
    let e5 : a.body ≡ b.body = same_bytes_is a.body b.body q2.1 in
    let e6 : a.le ≡ b.le = same_number_is a.le b.le q1.1 in
    let whole : make a.class a.ins a.p1 a.p2 a.body a.le ≡ make b.class b.ins b.p1 b.p2 b.body b.le = cc in whole

-- the command sent now goes on with the chain, or begins anew
stands_by : (card : CardState) (selected : Option (List ℕ)) (c : CommandValue) (chain : Chain) → Stands card selected chain.first chain.next → (b : Bool) → same_command c chain.next ≡ b → Stands card selected (first_of (if b then Some chain else None) c) c
stands_by card selected c chain t true e = subst (λ (x : CommandValue). Stands card selected chain.first x) (sym (same_command_is c chain.next e)) t
stands_by card selected c chain t false e = itself refl

pub stands_first : (card : CardState) (selected : Option (List ℕ)) (c : CommandValue) (before : Option Chain) → ChainTied card selected before → Stands card selected (chain_first c before) c
stands_first card selected c None t = itself refl
stands_first card selected c (Some chain) t = stands_by card selected c chain t (same_command c chain.next) refl

pub same_self : (c : CommandValue) → SameButLe c c
same_self c = record { class = refl; ins = refl; p1 = refl; p2 = refl; body = refl }

pub both_basic : (a b : CommandValue) → SameButLe a b → is_basic_select a ≡ is_basic_select b
both_basic a b e = rw (e.class, e.ins) refl

pub current_file_same : (old new : CardState) (channel : ChannelState) → new.files ≡ old.files → new.aids ≡ old.aids → current_file new channel ≡ current_file old channel
current_file_same old new channel f a = rw (f, a) refl

pub parameters_same : (old new : CardState) (channel : ChannelState) → new.files ≡ old.files → new.aids ≡ old.aids → current_parameters new channel ≡ current_parameters old channel
parameters_same old new channel f a = rw (f, a) refl

other_no_success : (w : ℕ) → wants_other_le w ≡ true → is_success w ≡ false
other_no_success w h = let e : w / 256 ≡ 0x6C = eqb-true (w / 256) 0x6C h in let n : (w / 256 == 0x91) ≡ false = rw e refl in or_from (w == 0x9000) (w / 256 == 0x91) (ne_eqb w 0x9000 (λ q. absurd (omega arith))) n

other_no_more : (w : ℕ) → wants_other_le w ≡ true → has_more w ≡ false
other_no_more w h = let e : w / 256 ≡ 0x6C = eqb-true (w / 256) 0x6C h in rw e refl

module _ (changes : List Change) (card : CardState) (c : CommandValue) (p : CardState × ResponseValue) (e : Effect changes card c p) where
  -- ---- 61XX

  more_selects : has_more p.1.sw ≡ true → c.ins ≡ select_ins
  more_selects h = by_more e h
    where
      by_more : Effect changes card c p → has_more p.1.sw ≡ true → c.ins ≡ select_ins
      by_more (quiet k a) h = absurd (false≢true (sym k.more ∙ h))
      by_more (refuses_select number place channel on i d) h = i
      by_more (reads_record number place channel on i d) h = absurd (false≢true (sym d.keeps.more ∙ h))
      by_more (reads_binary number place channel on i d) h = absurd (false≢true (sym d.keeps.more ∙ h))
      by_more (gets number place channel on i d) h = absurd (false≢true (sym d.keeps.more ∙ h))
      by_more (selects number place channel on i d) h = i
      by_more (updates_record number place channel on i d) h = absurd (false≢true (sym (no_more_by p.1.sw d.updates.status) ∙ h))
      by_more (updates_binary number place channel on i d) h = absurd (false≢true (sym (no_more_by p.1.sw d.updates.status) ∙ h))
      by_more (opens i d) h = absurd (false≢true (sym (no_more_by p.1.sw d.status) ∙ h))
      by_more (closes i d) h = absurd (false≢true (sym (no_more_by p.1.sw d.status) ∙ h))
      by_more (hands_over i d) h = let w : has_more p.1.sw ≡ false = rw d.response refl in absurd (false≢true (sym w ∙ h))

  -- ---- 6CXX

  not_acted : wants_other_le p.1.sw ≡ true → acted p.1.sw ≡ false
  not_acted h = or_from (is_success p.1.sw) (has_more p.1.sw) (other_no_success p.1.sw h) (other_no_more p.1.sw h)

  other_keeps : wants_other_le p.1.sw ≡ true → Keeps card p
  other_keeps h = by_other e
    where
      by_other : Effect changes card c p → Keeps card p
      by_other (quiet k a) = k
      by_other (refuses_select number place channel on i d) = d.keeps
      by_other (reads_record number place channel on i d) = d.keeps
      by_other (reads_binary number place channel on i d) = d.keeps
      by_other (gets number place channel on i d) = d.keeps
      by_other (selects number place channel on i d) = absurd (false≢true (sym (not_acted h) ∙ d.status))
      by_other (updates_record number place channel on i d) = absurd (false≢true (sym (no_other_by p.1.sw d.updates.status) ∙ h))
      by_other (updates_binary number place channel on i d) = absurd (false≢true (sym (no_other_by p.1.sw d.updates.status) ∙ h))
      by_other (opens i d) = absurd (false≢true (sym (no_other_by p.1.sw d.status) ∙ h))
      by_other (closes i d) = absurd (false≢true (sym (no_other_by p.1.sw d.status) ∙ h))
      by_other (hands_over i d) = let w : wants_other_le p.1.sw ≡ false = rw d.response refl in absurd (false≢true (sym w ∙ h))

  pub is_on_basic : (number place : ℕ) (channel other : ChannelState) → IsOn card c Plain number place channel → (c.class == 0) ≡ true → basic card ≡ Some other → channel ≡ other
  is_on_basic number place channel other on class found =
      let zero_is : number ≡ 0 = eqb-true number 0 (sym (plain_basic c.class number on.class) ∙ class) in
      let here : find (has_number number) card.channels ≡ Some channel = channel_found card.channels number place channel on.at on.found in
      let there : find (has_number 0) card.channels ≡ Some channel = subst (λ n. find (has_number n) card.channels ≡ Some channel) zero_is here in
      cc

  other_long : wants_other_le p.1.sw ≡ true → IsLong card c
  other_long h class ins channel found = by_long e
    where
      by_long : Effect changes card c p → IsMisfit card channel c
      by_long (reads_binary number place other on i d) = subst (λ (x : ChannelState). IsMisfit card x c) (is_on_basic number place other channel on class found) (d.other h)
      by_long (quiet k a) = absurd (false≢true (sym a.le ∙ and_from (asks_le c.ins) (wants_other_le p.1.sw) (let b : c.ins ≡ read_binary_ins = eqb-true c.ins read_binary_ins ins in rw b refl) h))
      by_long (refuses_select number place other on i d) = let b : c.ins ≡ read_binary_ins = eqb-true c.ins read_binary_ins ins in absurd (omega arith)
      by_long (reads_record number place other on i d) = let b : c.ins ≡ read_binary_ins = eqb-true c.ins read_binary_ins ins in absurd (omega arith)
      by_long (gets number place other on i d) = let b : c.ins ≡ read_binary_ins = eqb-true c.ins read_binary_ins ins in absurd (omega arith)
      by_long (selects number place other on i d) = let b : c.ins ≡ read_binary_ins = eqb-true c.ins read_binary_ins ins in absurd (omega arith)
      by_long (updates_record number place other on i d) = let b : c.ins ≡ read_binary_ins = eqb-true c.ins read_binary_ins ins in absurd (omega arith)
      by_long (updates_binary number place other on i d) = let b : c.ins ≡ read_binary_ins = eqb-true c.ins read_binary_ins ins in absurd (omega arith)
      by_long (opens i d) = let b : c.ins ≡ read_binary_ins = eqb-true c.ins read_binary_ins ins in absurd (omega arith)
      by_long (closes i d) = let b : c.ins ≡ read_binary_ins = eqb-true c.ins read_binary_ins ins in absurd (omega arith)
      by_long (hands_over i d) = let b : c.ins ≡ read_binary_ins = eqb-true c.ins read_binary_ins ins in absurd (omega arith)

  -- ---- the step of a chain

  long_same : (first : CommandValue) → p.0.files ≡ card.files → p.0.aids ≡ card.aids → basic p.0 ≡ basic card → IsLong card first → IsLong p.0 first
  long_same first f a b long class ins channel found file at le wanted = long class ins channel (sym b ∙ found) file (sym (current_file_same card p.0 channel f a) ∙ at) le wanted

  same_selection : (selected : Option (List ℕ)) → (is_basic_select c && acted p.1.sw) ≡ false → selection_after c p.1 selected ≡ selected
  same_selection selected h = rw h refl

  other_basic : wants_other_le p.1.sw ≡ true → LeavesBasic card c p
  other_basic h = record { status = and_right (is_basic_select c) (acted p.1.sw) (not_acted h); behind = let k = other_keeps h in let b = k.channels in rw b refl }

  long_by : (first : CommandValue) → first ≡ c → wants_other_le p.1.sw ≡ true → IsLong card first
  long_by first e h = subst (λ (x : CommandValue). IsLong card x) (sym e) (other_long h)

  other_waits : (selected : Option (List ℕ)) (first : CommandValue) (n : ℕ) → wants_other_le p.1.sw ≡ true → c.ins ≡ get_response_ins → BasicWaits card selected first c → BasicWaits p.0 (selection_after c p.1 selected) first (with_le n c)
  other_waits selected first n h i w =
      let k = other_keeps h in
      let l = other_basic h in
      let same : selection_after c p.1 selected ≡ selected = same_selection selected l.status in
      record {
        class = w.class;
        channel = w.channel;
        found = l.behind ∙ w.found;
        number = w.number;
        asks = w.asks;
        waiting = still_waits i w e ∙ ap (λ bytes. Some (waiting_on bytes)) (sym (parameters_same card p.0 w.channel k.files k.aids));
        named = λ q. let n = w.named q in record { path = n.path; is_selected = same ∙ n.is_selected; named = n.named };
      }
    where
      waiting_on : List ℕ → WaitingValue
      waiting_on bytes = record { channel = 0; bytes = bytes }

      still_waits : c.ins ≡ get_response_ins → (w : BasicWaits card selected first c) → Effect changes card c p → p.0.waiting ≡ Some (record { channel = 0; bytes = current_parameters card w.channel })
      still_waits i w (gets number place channel on j d) =
          let same : channel ≡ w.channel = is_on_basic number place channel w.channel on (rw w.class refl) w.found in
          let here : (0 == channel.number) ≡ true = rw (same, w.number) refl in
          d.waits (record { channel = 0; bytes = current_parameters card w.channel }) w.waiting here (other_no_success p.1.sw h) ∙ w.waiting
      still_waits i w (quiet k a) = absurd (false≢true (sym a.le ∙ and_from (asks_le c.ins) (wants_other_le p.1.sw) (rw i refl) h))
      still_waits i w (refuses_select number place other on j d) = absurd (omega arith)
      still_waits i w (reads_record number place other on j d) = absurd (omega arith)
      still_waits i w (reads_binary number place other on j d) = absurd (omega arith)
      still_waits i w (selects number place other on j d) = absurd (omega arith)
      still_waits i w (updates_record number place other on j d) = absurd (omega arith)
      still_waits i w (updates_binary number place other on j d) = absurd (omega arith)
      still_waits i w (opens j d) = absurd (omega arith)
      still_waits i w (closes j d) = absurd (omega arith)
      still_waits i w (hands_over j d) = absurd (omega arith)

  pub class_zero : is_basic_select c ≡ true → c.class ≡ 0
  class_zero h = eqb-true c.class 0 (and_parts (c.class == 0) (c.ins == select_ins) h).0

  after_path : (selected : Option (List ℕ)) → is_basic_select c ≡ true → acted p.1.sw ≡ true → (c.p1 == 0x08) ≡ true → selection_after c p.1 selected ≡ named_path c
  after_path selected b a q = rw (b, a, q) refl

  more_waits : (selected : Option (List ℕ)) (first : CommandValue) (n : ℕ) → has_more p.1.sw ≡ true → SameButLe first c → is_basic_select c ≡ true → LeavesBasic card c p ⊎ SelectsBasic card c p → BasicWaits p.0 (selection_after c p.1 selected) first (get_response_for c n)
  more_waits selected first n h same b (inl l) = absurd (false≢true (sym l.status ∙ and_from (is_basic_select c) (acted p.1.sw) b (or_right (is_success p.1.sw) (has_more p.1.sw) h)))
  more_waits selected first n h same b (inr d) =
      let m = (d.does.more h).1 in
      let zero_class : c.class ≡ 0 = class_zero b in
      let acted_is : acted p.1.sw ≡ true = or_right (is_success p.1.sw) (has_more p.1.sw) h in
      record {
        class = rw zero_class refl;
        channel = selecting d.channel d.does.app d.does.current;
        found = d.behind;
        number = d.number;
        asks = same.p2 ∙ (d.does.more h).0;
        waiting = m ∙ ap (λ k. Some (waiting_with k (current_parameters card (selecting d.channel d.does.app d.does.current)))) d.number ∙ ap (λ bytes. Some (waiting_with 0 bytes)) (sym (parameters_same card p.0 (selecting d.channel d.does.app d.does.current) d.does.files d.does.aids));
        named = λ q.
            let q2 : (c.p1 == 0x08) ≡ true = ap (λ x. x == 0x08) (sym same.p1) ∙ q in
            let f = d.does.by_path q2 in
            let names : named_path c ≡ named_path first = ap (λ (body : List ℕ). path_of (ids_of body)) (sym same.body) in
            let there = ids_named c.body f.len in
            record { path = there.0; is_selected = after_path selected b acted_is q2 ∙ there.1; named = sym names ∙ there.1 };
      }
    where
      waiting_with : ℕ → List ℕ → WaitingValue
      waiting_with channel bytes = record { channel = channel; bytes = bytes }

  -- what follows a response that asks for more stands to the same first form
  pub chain_step : (selected : Option (List ℕ)) (first : CommandValue) → Stands card selected first c → wants_more p.1.sw ≡ true → Stands p.0 (selection_after c p.1 selected) first (follow_up c p.1)
  chain_step selected first t h = by_status (has_more p.1.sw) refl t
    where
      more_next : (n : ℕ) → has_more p.1.sw ≡ true → SameButLe first c → Stands p.0 (selection_after c p.1 selected) first (get_response_for c n)
      more_next n m same = waits (same.ins ∙ more_selects m) refl (λ b. more_waits selected first n m same (sym (both_basic first c same) ∙ b) (basic_effect card c p changes e))

      by_more : (n : ℕ) → has_more p.1.sw ≡ true → Stands card selected first c → Stands p.0 (selection_after c p.1 selected) first (get_response_for c n)
      by_more n m (itself i) = more_next n m (subst (λ (x : CommandValue). SameButLe first x) i (same_self first))
      by_more n m (again i long) = more_next n m i
      by_more n m (waits i g w) = let j = more_selects m in absurd (omega arith)

      with_header : (n : ℕ) → SameButLe first c → SameButLe first (with_le n c)
      with_header n i = record { class = i.class; ins = i.ins; p1 = i.p1; p2 = i.p2; body = i.body }

      by_other : (n : ℕ) → wants_other_le p.1.sw ≡ true → Stands card selected first c → Stands p.0 (selection_after c p.1 selected) first (with_le n c)
      by_other n o (itself i) = again (with_header n (subst (λ (x : CommandValue). SameButLe first x) i (same_self first))) (long_same first (other_keeps o).files (other_keeps o).aids (other_basic o).behind (long_by first i o))
      by_other n o (again i long) = again (with_header n i) (long_same first (other_keeps o).files (other_keeps o).aids (other_basic o).behind long)
      by_other n o (waits i g w) = waits i g (λ b. other_waits selected first n o g (w b))

      follow_by : (b : Bool) → has_more p.1.sw ≡ b → (if b then get_response_for c (le_of_byte (p.1.sw % 256)) else with_le (le_of_byte (p.1.sw % 256)) c) ≡ follow_up c p.1
      follow_by b m = rw m refl

      by_status : (b : Bool) → has_more p.1.sw ≡ b → Stands card selected first c → Stands p.0 (selection_after c p.1 selected) first (follow_up c p.1)
      by_status true m t = subst (λ (x : CommandValue). Stands p.0 (selection_after c p.1 selected) first x) (follow_by true m) (by_more (le_of_byte (p.1.sw % 256)) m t)
      by_status false m t = let o : wants_other_le p.1.sw ≡ true = (rw m at h) in subst (λ (x : CommandValue). Stands p.0 (selection_after c p.1 selected) first x) (follow_by false m) (by_other (le_of_byte (p.1.sw % 256)) o t)

  pub chain_tied : (selected : Option (List ℕ)) (before : Option Chain) → ChainTied card selected before → ChainTied p.0 (selection_after c p.1 selected) (chain_after c p.1 before)
  chain_tied selected before t = cond_both (asks_more (chain_count c before + 1) c p.1) (Some (record { first = chain_first c before; count = chain_count c before + 1; next = follow_up c p.1 })) None (ChainTied p.0 (selection_after c p.1 selected))
      (λ a. chain_step selected (chain_first c before) (stands_first card selected c before t) (asks_wants (chain_count c before + 1) a))
      (λ a. tt)
    where
      asks_wants : (n : ℕ) → asks_more n c p.1 ≡ true → wants_more p.1.sw ≡ true
      asks_wants n a = (and_parts (wants_more p.1.sw) (nat_lt n most_exchanges) (and_parts (wants_more p.1.sw && nat_lt n most_exchanges) (not (c.ins == verify_ins)) a).0).0
