-- What a command does to the files of the card in the slot: nothing, unless it is an UPDATE that succeeded; and an UPDATE RECORD on the
-- basic channel writes one row of the file that is current there.
use Rattle.std.proofs.Common.{◌≡◌, ℕ, ◌-◌, ◌==◌, ◌&&◌, ◌||◌, Bool, true, false, if◌then◌else◌, Option, Some, None, is_some, List, refl, sym, ap, ◌∙◌, subst, true≢false}
use Rattle.std.specs.Prelude.{find, unwrap_or, option_map, is_none}
use Rattle.std.proofs.lemmas.Bool.{and_parts, and_from, eqb-true, eq-eqb}
use Rattle.apdu.specs.Values.{CommandValue, ResponseValue}
use Rattle.apdu.specs.Words.{same_bytes}
use Rattle.apdu.specs.Apdu.{is_update_ins, is_success, has_more, fetch_ins, same_response, update_record_ins, wants_more}
use Rattle.apdu.specs.declared.class.ClassKind.TheVariants.{Plain}
use Rattle.fcp.specs.Content.{Content, missing, with_row}
use Rattle.card_model.specs.declared.world.FileState.{FileState}
use Rattle.card_model.specs.declared.world.ChannelState.{ChannelState}
use Rattle.card_model.specs.declared.world.Change.{Change}
use Rattle.card_model.specs.declared.world.CardState.{CardState}
use Rattle.card_model.specs.declared.world.World.{World}
use Rattle.card_model.specs.Card.{has_number, is_in_application, usim_of, file_at, rows_of}
use Rattle.card_model.specs.Step.{on_card, step, card_inside}
use Rattle.card_model.specs.Update.{with_record}
use Rattle.card_effects.specs.Effect.{acted, acts, basic, IsOn, Effect, quiet, refuses_select, reads_record, reads_binary, gets, selects, updates_record, updates_binary, opens, closes, hands_over}
use Rattle.card_effects.specs.Basic.{HasCurrent}
use Rattle.card_effects.proofs.Basic.{plain_basic, place_found, effect_aids}
use Rattle.card_effects.proofs.Effects.{effect}
use Rattle.card_effects.proofs.Files.{RowWritten, update_files}
use Rattle.report.specs.declared.line.Line.TheVariants as line
use Rattle.epoch_cache.specs.Cache.{handed_refresh, refresh_of, is_update}
use Rattle.refresh_cmd.specs.Proactive.{read_proactive}
use Rattle.editor.specs.Editing.{card_need}
use Rattle.rules.specs.State.{view_in, content_on}
use Rattle.rules.specs.Rules.{has_right_response}
use Rattle.performed.proofs.CalmCards.{step_answers}
use Rattle.performed.proofs.CalmLent.{steps_card, card_there}
use Rattle.performed.proofs.EditsFinal.{update_final}

-- ---- what is done

acted_of : (sw : ℕ) → is_success sw ≡ true → acted sw ≡ true
acted_of sw h = by_success (is_success sw) h
  where
    by_success : (b : Bool) → b ≡ true → (b || has_more sw) ≡ true
    by_success true e = refl
    by_success false e = absurd (true≢false (sym e))

-- a command that is no UPDATE that was done, and handed over no change
files_stay : (changes : List Change) (card : CardState) (c : CommandValue) (p : CardState × ResponseValue) → (is_update_ins c.ins && is_success p.1.sw) ≡ false → ((c.ins == fetch_ins) && is_success p.1.sw) ≡ false → Effect changes card c p → p.0.files ≡ card.files
files_stay changes card c p h none (quiet k e) = k.files
files_stay changes card c p h none (refuses_select number place channel on e d) = d.keeps.files
files_stay changes card c p h none (reads_record number place channel on e d) = d.keeps.files
files_stay changes card c p h none (reads_binary number place channel on e d) = d.keeps.files
files_stay changes card c p h none (gets number place channel on e d) = d.keeps.files
files_stay changes card c p h none (selects number place channel on e d) = d.files
files_stay changes card c p h none (updates_record number place channel on e d) = absurd (true≢false (sym (and_from (is_update_ins c.ins) (is_success p.1.sw) (ap is_update_ins e) d.updates.status) ∙ h))
files_stay changes card c p h none (updates_binary number place channel on e d) = absurd (true≢false (sym (and_from (is_update_ins c.ins) (is_success p.1.sw) (ap is_update_ins e) d.updates.status) ∙ h))
files_stay changes card c p h none (opens e d) = d.files
files_stay changes card c p h none (closes e d) = d.files
files_stay changes card c p h none (hands_over e d) = absurd (true≢false (sym (and_from (c.ins == fetch_ins) (is_success p.1.sw) (eq-eqb c.ins fetch_ins e) (ap (λ (x : ResponseValue). is_success x.sw) d.response)) ∙ none))

same_status : (a b : ResponseValue) → same_response a b ≡ true → a.sw ≡ b.sw
same_status a b h = eqb-true a.sw b.sw (and_parts (same_bytes a.body b.body) (a.sw == b.sw) h).1

-- the card in the slot gave the status
told_status : (w : World) (a : ℕ) (c : CommandValue) (r : ResponseValue) (card : CardState) → card_inside w ≡ Some card → has_right_response w (line.Exchange a c r) ≡ true → r.sw ≡ (on_card w.changes card c).1.sw
told_status w a c r card inside right = same_status r (step w c).1 (and_parts (is_some (card_inside w)) (same_response r (step w c).1) right).1 ∙ ap (λ (x : ResponseValue). x.sw) (step_answers w card c inside)

-- ---- the card in the slot

-- what the slot gave to a command that was no FETCH that succeeded
pub record Answered (w : World) (c : CommandValue) (r : ResponseValue) : Type 0 where
  pub card : CardState
  pub inside : card_inside w ≡ Some card
  pub behind : card_inside (step w c).0 ≡ Some (on_card w.changes card c).0
  pub status : r.sw ≡ (on_card w.changes card c).1.sw
  pub fetched : ((c.ins == fetch_ins) && is_success (on_card w.changes card c).1.sw) ≡ false
  pub does : Effect w.changes card c (on_card w.changes card c)

pub answered_by : (w : World) (a : ℕ) (c : CommandValue) (r : ResponseValue) → ((c.ins == fetch_ins) && is_success r.sw) ≡ false → has_right_response w (line.Exchange a c r) ≡ true → Answered w c r
answered_by w a c r none right =
    let t = card_there w c r right in
    let status : r.sw ≡ (on_card w.changes t.0 c).1.sw = told_status w a c r t.0 t.1 right in
    record {
      card = t.0;
      inside = t.1;
      behind = steps_card w t.0 c t.1;
      status = status;
      fetched = sym (ap (λ (sw : ℕ). (c.ins == fetch_ins) && is_success sw) status) ∙ none;
      does = effect w.changes t.0 c;
    }

module _ (w : World) (c : CommandValue) (r : ResponseValue) (t : Answered w c r) where
  abbrev p : CardState × ResponseValue
  p = on_card w.changes t.card c

  -- no REFRESH is handed over
  pub no_refresh : handed_refresh c r ≡ None
  no_refresh =
      ap (λ (b : Bool). elim b [ true ↦ refresh_of (read_proactive r.body) | false ↦ None ])
      (ap (λ (sw : ℕ). (c.ins == fetch_ins) && is_success sw) t.status ∙ t.fetched)

  -- an UPDATE is answered at once
  pub update_answered : is_update_ins c.ins ≡ true → wants_more r.sw ≡ false
  update_answered h = ap wants_more t.status ∙ update_final w.changes t.card c h

  undone : is_update c r ≡ false → (is_update_ins c.ins && is_success p.1.sw) ≡ false
  undone h = ap (λ (sw : ℕ). is_update_ins c.ins && is_success sw) (sym t.status) ∙ h

  done : is_update c r ≡ true → is_success p.1.sw ≡ true
  done h = sym (ap is_success t.status) ∙ (and_parts (is_update_ins c.ins) (is_success r.sw) h).1

  aids : p.0.aids ≡ t.card.aids
  aids = effect_aids w.changes t.card c p t.does

  abbrev rows_with : List FileState → List (List ℕ) → List ℕ → Content
  rows_with files aids path = rows_of path (record t.card { files = files; aids = aids })

  view_before : (path : List ℕ) → view_in w path ≡ rows_of path t.card
  view_before path = ap (λ (o : Option CardState). content_on o path) t.inside

  view_behind : (path : List ℕ) → view_in (step w c).0 path ≡ rows_of path p.0
  view_behind path = ap (λ (o : Option CardState). content_on o path) t.behind

  -- where no file changes
  module _ (kept : is_update c r ≡ false) where
    pub same_files : p.0.files ≡ t.card.files
    same_files = files_stay w.changes t.card c p (undone kept) t.fetched t.does

    pub view_same : (path : List ℕ) → view_in (step w c).0 path ≡ view_in w path
    view_same path =
        view_behind path ∙ ap (λ (x : List FileState). rows_of path (record p.0 { files = x })) same_files
        ∙ ap (λ (x : List (List ℕ)). rows_of path (record t.card { aids = x })) aids ∙ sym (view_before path)

    pub need_same : (path : List ℕ) → card_need p.0 path ≡ card_need t.card path
    need_same path =
        ap (λ (x : List FileState). card_need (record p.0 { files = x }) path) same_files
        ∙ ap (λ (x : List (List ℕ)). card_need (record t.card { aids = x }) path) aids

  -- ---- an UPDATE RECORD on the basic channel

  pub record OnBasic (path : List ℕ) : Type 0 where
    pub class : c.class ≡ 0
    pub ins : c.ins ≡ update_record_ins
    pub now : HasCurrent t.card path

  module _ (path : List ℕ) (b : OnBasic path) (h : is_update c r ≡ true) where
    success : is_success p.1.sw ≡ true
    success = done h

    on_basic : (number place : ℕ) (channel : ChannelState) → IsOn t.card c Plain number place channel → channel ≡ b.now.channel
    on_basic number place channel on =
        let zero : (number == 0) ≡ true = sym (plain_basic c.class number on.class) ∙ ap (λ (n : ℕ). n == 0) b.class in
        let at = place_found (has_number number) t.card.channels place on.at ∙ on.found in
        let here : basic t.card ≡ Some channel = ap (λ (n : ℕ). find (has_number n) t.card.channels) (sym (eqb-true number 0 zero)) ∙ at in
        let same : Some channel ≡ Some b.now.channel = sym here ∙ b.now.found in
        cc

    record Wrote : Type 0 where
      file : FileState
      wrote : RowWritten t.card.files p.0.files path file (c.p1 - 1) c.body

    other : {X : Type 0} {n : ℕ} → c.ins ≡ n → (n == update_record_ins) ≡ false → X
    other e n = absurd (true≢false (sym (ap (λ (x : ℕ). x == update_record_ins) b.ins) ∙ ap (λ (x : ℕ). x == update_record_ins) e ∙ n))

    wrote_by : Effect w.changes t.card c p → Wrote
    wrote_by (updates_record number place channel on e d) =
        let row : RowWritten t.card.files p.0.files path d.updates.file d.updates.index d.updates.row = update_files t.card channel p path d.updates (ap (λ (x : ChannelState). x.current) (on_basic number place channel on) ∙ b.now.current) in
        record { file = d.updates.file; wrote = subst (λ (n : ℕ). RowWritten t.card.files p.0.files path d.updates.file n c.body) d.index (subst (λ (x : List ℕ). RowWritten t.card.files p.0.files path d.updates.file d.updates.index x) d.row row) }
    wrote_by (quiet k q) = absurd (true≢false (sym (and_from (acts c.ins) (acted p.1.sw) (ap acts b.ins) (acted_of p.1.sw success)) ∙ q.acts))
    wrote_by (refuses_select number place channel on e d) = other e refl
    wrote_by (reads_record number place channel on e d) = other e refl
    wrote_by (reads_binary number place channel on e d) = other e refl
    wrote_by (gets number place channel on e d) = other e refl
    wrote_by (selects number place channel on e d) = other e refl
    wrote_by (updates_binary number place channel on e d) = other e refl
    wrote_by (opens e d) = other e refl
    wrote_by (closes e d) = other e refl
    wrote_by (hands_over e d) = other e refl

    wrote_now : Wrote
    wrote_now = wrote_by t.does

    abbrev row_here : Option FileState → Content
    row_here o = unwrap_or (option_map (λ (f : FileState). f.rows) o) missing

    seen_by : (hidden : Bool) (o n : Option FileState) (file : FileState) → o ≡ Some file → n ≡ Some (with_record file (c.p1 - 1) c.body) → row_here (if hidden then None else n) ≡ with_row (c.p1 - 1) c.body (row_here (if hidden then None else o))
    seen_by true o n file e g = refl
    seen_by false o n file e g = rw (e, g) refl

    hidden_same : (q : List ℕ) → (is_in_application q && is_none (usim_of p.0)) ≡ (is_in_application q && is_none (usim_of t.card))
    hidden_same q = ap (λ (x : List (List ℕ)). is_in_application q && is_none (usim_of (record t.card { aids = x }))) aids

    -- the row stands in the file
    pub view_written : view_in (step w c).0 path ≡ with_row (c.p1 - 1) c.body (view_in w path)
    view_written =
        view_behind path
        ∙ ap (λ (x : Bool). row_here (if x then None else file_at path p.0)) (hidden_same path)
        ∙ seen_by (is_in_application path && is_none (usim_of t.card)) (file_at path t.card) (file_at path p.0) wrote_now.file wrote_now.wrote.before wrote_now.wrote.behind
        ∙ ap (with_row (c.p1 - 1) c.body) (sym (view_before path))

    -- and every other file is as it was
    pub view_other : (q : List ℕ) → same_bytes path q ≡ false → view_in (step w c).0 q ≡ view_in w q
    view_other q apart =
        view_behind q
        ∙ ap (λ (x : Bool). row_here (if x then None else file_at q p.0)) (hidden_same q)
        ∙ ap (λ (x : Option FileState). row_here (if is_in_application q && is_none (usim_of t.card) then None else x)) (wrote_now.wrote.others q apart)
        ∙ sym (view_before q)
