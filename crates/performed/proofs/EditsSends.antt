-- What the turn of an edit sends that has still to write: the SELECT of its file, an exchange of that, or the update.
use Rattle.std.proofs.Common.{◌≡◌, ◌⊎◌, inl, inr, ℕ, ◌%◌, ◌==◌, ◌&&◌, ◌||◌, not, Bool, true, false, if◌then◌else◌, Option, Some, None, is_some, List, [], ◌∷◌, refl, sym, ap, ◌∙◌, subst, true≢false}
use Rattle.std.specs.Prelude.{option_map}
use Rattle.std.proofs.lemmas.Bool.{and_parts, eqb-true}
use Rattle.apdu.specs.Values.{CommandValue, ResponseValue}
use Rattle.apdu.specs.Words.{has_value, is_one_of, path_of}
use Rattle.apdu.specs.Apdu.{same_command, get_response_ins, select_ins, is_update_ins, is_success, has_more, wants_more, wants_other_le, with_le, le_of_byte}
use Rattle.card_model.specs.Select.{ids_of}
use Rattle.card_effects.proofs.Same.{same_bytes_is}
use Rattle.card_effects.proofs.Table.{no_more_by, no_other_by}
use Rattle.script_reader.specs.declared.types.Script.{Script}
use Rattle.script_reader.specs.declared.types.Operation.{Operation}
use Rattle.script_reader.specs.declared.types.Operation.TheVariants as operation
use Rattle.card_model.specs.declared.world.World.{World}
use Rattle.adn.specs.declared.edit.Edit.{Edit}
use Rattle.adn.specs.declared.edit.RowUpdate.{RowUpdate}
use Rattle.families.specs.Families.{family_path}
use Rattle.link.specs.declared.chain.Chain.{Chain}
use Rattle.link.specs.declared.chain.Final.{Final}
use Rattle.link.specs.Commands.{select_only, is_at, first_of, chain_first, follow_up, get_response_for, is_basic_select, named_path, path_body, selection_after, is_refused, is_reading_select, file_not_found}
use Rattle.loader.specs.Load.{selected_first}
use Rattle.loader.specs.Reading.{has_bad_fcp}
use Rattle.editor.specs.Editing.{update_command}
use Rattle.rules.specs.declared.kept.Begun.{Begun}
use Rattle.rules.specs.declared.kept.Kept.{Kept}
use Rattle.rules.specs.declared.kept.Outcome.{Outcome}
use Rattle.rules.specs.declared.kept.Outcome.TheVariants as outcome
use Rattle.rules.specs.declared.kept.Stage.{Stage}
use Rattle.rules.specs.declared.kept.Stage.TheVariants.{Fresh as fresh}
use Rattle.rules.specs.declared.kept.Work.{Work}
use Rattle.rules.specs.declared.kept.Work.TheVariants.{Writes as writes}
use Rattle.rules.specs.Editing.{attempt_of}
use Rattle.rules.specs.After.{edit_of, refused_outcome, outcome_of}
use Rattle.rules.specs.Due.{writing_command, first_of_turn, command_by_stage, command_by_chain, due_command}
use Rattle.performed.proofs.CalmKinds.{IsForm, IsExchangeOf}
use Rattle.performed.proofs.CalmSends.{command_is, exchange_by, never}
use Rattle.performed.proofs.EditsState.{next_is, IsSelecting, Phase, begins, selecting, ready, IsActive}

-- ---- the command that is due

-- an editable family is the phonebook or the fixed dialling numbers
abbrev pub is_book : ℕ → Bool
is_book f = is_one_of f (1 ∷ 2 ∷ [])

at_some : (o : Option (List ℕ)) (path : List ℕ) → is_at o path ≡ true → o ≡ Some path
at_some None path h = never h
at_some (Some q) path h = ap (λ (x : List ℕ). Some x) (sym (same_bytes_is path q h))

module _ (s : Script) (w : World) (k : Kept) (work : k.turn.work ≡ writes) (t : IsActive s w k) where
  abbrev path : List ℕ
  path = family_path t.family t.write.update.file

  abbrev update : CommandValue
  update = update_command t.write.update

  pub data Does (c : CommandValue) : Type 0 where
    writes_row : c ≡ update → k.selected ≡ Some path → k.chain ≡ None → Does c
    selects_file : chain_first c k.chain ≡ select_only path → IsExchangeOf (select_only path) c → (c.ins ≡ get_response_ins → k.selected ≡ Some path) → k.turn.stage ≡ fresh → Does c

  first_due : k.turn.stage ≡ fresh → k.chain ≡ None → due_command k ≡ Some (selected_first k.selected path update)
  first_due stage chain =
      ap (command_by_chain k) chain
      ∙ ap (command_by_stage k) stage
      ∙ ap (λ (x : Work). first_of_turn k.selected k.jobs x k.turn.actor) work
      ∙ ap (first_of_turn k.selected k.jobs writes) t.actor
      ∙ ap (λ (o : Option Begun). writing_command k.selected (attempt_of o)) t.here
      ∙ ap (writing_command k.selected) t.there
      ∙ ap (option_map (λ (u : RowUpdate). selected_first k.selected (family_path t.attempt.family u.file) (update_command u))) (next_is w k t.who t.family t.edit t.begun.epoch t.begun.editing.decided t.attempt t.write)
      ∙ ap (λ (f : ℕ). Some (selected_first k.selected (family_path f t.write.update.file) update)) t.write.family

  itself : (c : CommandValue) → c ≡ select_only path → IsExchangeOf (select_only path) c
  itself c e = inl (record { le = None; is = e; once = λ v. refl })

  first_does : (c : CommandValue) (b : Bool) → is_at k.selected path ≡ b → k.turn.stage ≡ fresh → k.chain ≡ None → c ≡ (if b then update else select_only path) → Does c
  first_does c true e stage chain same = writes_row same (at_some k.selected path e) chain
  first_does c false e stage chain same =
      selects_file (ap (chain_first c) chain ∙ same) (itself c same) (λ h. never (sym (ap (λ (x : CommandValue). x.ins == get_response_ins) same) ∙ ap (λ (n : ℕ). n == get_response_ins) h)) stage

  same_due : (c d : CommandValue) → due_command k ≡ Some d → has_value (same_command c) (due_command k) ≡ true → same_command c d ≡ true
  same_due c d e h = sym (ap (has_value (same_command c)) e) ∙ h

  chain_does : (c : CommandValue) (chain : Chain) → k.chain ≡ Some chain → k.turn.stage ≡ fresh → IsSelecting k path chain → same_command c chain.next ≡ true → Does c
  chain_does c chain e stage q same =
      let is : c ≡ chain.next = command_is c chain.next same in
      selects_file
      (ap (chain_first c) e ∙ ap (λ (b : Bool). first_of (if b then Some chain else None) c) same ∙ q.first)
      (subst (IsExchangeOf (select_only path)) (sym is) q.next)
      (λ h. q.waits (sym (ap (λ (x : CommandValue). x.ins) is) ∙ h)) stage

  -- a command that is due
  pub does : (c : CommandValue) → has_value (same_command c) (due_command k) ≡ true → Does c
  does c h = by_phase t.phase
    where
      by_phase : Phase k path t.write.update → Does c
      by_phase (begins stage chain) =
          let d = first_due stage chain in
          first_does c (is_at k.selected path) refl stage chain (command_is c (selected_first k.selected path update) (same_due c (selected_first k.selected path update) d h))
      by_phase (selecting stage chain at q) = chain_does c chain at stage q (same_due c chain.next (ap (command_by_chain k) at) h)
      by_phase (ready stage chain selected) = writes_row (command_is c update (same_due c update (ap (command_by_chain k) chain ∙ ap (command_by_stage k) stage) h)) selected chain

  -- one is due
  pub sends_still : is_some (due_command k) ≡ true
  sends_still = by_phase t.phase
    where
      by_phase : Phase k path t.write.update → is_some (due_command k) ≡ true
      by_phase (begins stage chain) = ap is_some (first_due stage chain)
      by_phase (selecting stage chain at q) = ap (λ (o : Option Chain). is_some (command_by_chain k o)) at
      by_phase (ready stage chain selected) = ap (λ (o : Option Chain). is_some (command_by_chain k o)) chain ∙ ap (λ (x : Stage). is_some (command_by_stage k x)) stage

-- ---- the exchanges of a SELECT

-- a path that is named is read back
names_by : (f file : ℕ) (b c : Bool) → (1 == f) ≡ b → (2 == f) ≡ c → (b || (c || false)) ≡ true → (file ≡ 0) ⊎ (file ≡ 1) → path_of (ids_of (path_body (family_path f file))) ≡ Some (family_path f file)
names_by f file true c y z h (inl e) = subst (λ (n : ℕ). path_of (ids_of (path_body (family_path f n))) ≡ Some (family_path f n)) (sym e) (subst (λ (n : ℕ). path_of (ids_of (path_body (family_path n 0))) ≡ Some (family_path n 0)) (eqb-true 1 f y) refl)
names_by f file true c y z h (inr e) = subst (λ (n : ℕ). path_of (ids_of (path_body (family_path f n))) ≡ Some (family_path f n)) (sym e) (subst (λ (n : ℕ). path_of (ids_of (path_body (family_path n 1))) ≡ Some (family_path n 1)) (eqb-true 1 f y) refl)
names_by f file false true y z h (inl e) = subst (λ (n : ℕ). path_of (ids_of (path_body (family_path f n))) ≡ Some (family_path f n)) (sym e) (subst (λ (n : ℕ). path_of (ids_of (path_body (family_path n 0))) ≡ Some (family_path n 0)) (eqb-true 2 f z) refl)
names_by f file false true y z h (inr e) = subst (λ (n : ℕ). path_of (ids_of (path_body (family_path f n))) ≡ Some (family_path f n)) (sym e) (subst (λ (n : ℕ). path_of (ids_of (path_body (family_path n 1))) ≡ Some (family_path n 1)) (eqb-true 2 f z) refl)
names_by f file false false y z h e = never h

pub names_path : (f file : ℕ) → is_book f ≡ true → (file ≡ 0) ⊎ (file ≡ 1) → named_path (select_only (family_path f file)) ≡ Some (family_path f file)
names_path f file h e = names_by f file (1 == f) (2 == f) refl refl h e

module _ (path : List ℕ) (named : named_path (select_only path) ≡ Some path) (c : CommandValue) (x : IsExchangeOf (select_only path) c) (selected : Option (List ℕ)) (waits : c.ins ≡ get_response_ins → selected ≡ Some path) (r : ResponseValue) where
  select_form : IsForm c (select_only path) → (acted : Bool) → (is_success r.sw || has_more r.sw) ≡ acted → selection_after c r selected ≡ (if acted then Some path else selected)
  select_form f true h =
      ap (λ (b : Bool). if is_basic_select c && b then (if c.p1 == 0x08 then named_path c else None) else selected) h
      ∙ ap (λ (d : CommandValue). if is_basic_select d && true then (if d.p1 == 0x08 then named_path d else None) else selected) f.is ∙ named
  select_form f false h =
      ap (λ (b : Bool). if is_basic_select c && b then (if c.p1 == 0x08 then named_path c else None) else selected) h
      ∙ ap (λ (d : CommandValue). if is_basic_select d && false then (if d.p1 == 0x08 then named_path d else None) else selected) f.is

  not_select : c.ins ≡ get_response_ins → selection_after c r selected ≡ selected
  not_select e = by_basic (is_basic_select c) refl
    where
      by_basic : (b : Bool) → is_basic_select c ≡ b → selection_after c r selected ≡ selected
      by_basic true h = never (sym (ap (λ (n : ℕ). n == select_ins) e) ∙ (and_parts (c.class == 0) (c.ins == select_ins) h).1)
      by_basic false h = ap (λ (b : Bool). if b && (is_success r.sw || has_more r.sw) then (if c.p1 == 0x08 then named_path c else None) else selected) h

  -- behind a SELECT that was done, or whose answer waits, its file is selected
  pub selected_then : (is_success r.sw || has_more r.sw) ≡ true → selection_after c r selected ≡ Some path
  selected_then h = by_exchange x
    where
      by_exchange : IsExchangeOf (select_only path) c → selection_after c r selected ≡ Some path
      by_exchange (inl f) = select_form f true h
      by_exchange (inr e) = not_select e ∙ waits e

  no_response_form : IsForm c (select_only path) → (n : ℕ) → (with_le n c).ins ≡ get_response_ins → ⊥
  no_response_form f n e = never (sym (ap (λ (d : CommandValue). d.ins == get_response_ins) f.is) ∙ ap (λ (m : ℕ). m == get_response_ins) e)

  pub waits_then : (follow_up c r).ins ≡ get_response_ins → selection_after c r selected ≡ Some path
  waits_then h = by_more (has_more r.sw) refl h x
    where
      or_more : (a b : Bool) → b ≡ true → (a || b) ≡ true
      or_more true b e = refl
      or_more false b e = e

      by_more : (b : Bool) → has_more r.sw ≡ b → (if b then get_response_for c (le_of_byte (r.sw % 256)) else with_le (le_of_byte (r.sw % 256)) c).ins ≡ get_response_ins → IsExchangeOf (select_only path) c → selection_after c r selected ≡ Some path
      by_more true e q y = selected_then (or_more (is_success r.sw) (has_more r.sw) e)
      by_more false e q (inl f) = absurd (no_response_form f (le_of_byte (r.sw % 256)) q)
      by_more false e q (inr g) = not_select g ∙ waits g

  no_verify : (c.ins == 0x20) ≡ false
  no_verify = by_exchange x
    where
      by_exchange : IsExchangeOf (select_only path) c → (c.ins == 0x20) ≡ false
      by_exchange (inl f) = ap (λ (d : CommandValue). d.ins == 0x20) f.is
      by_exchange (inr e) = ap (λ (n : ℕ). n == 0x20) e

  pub follows : IsExchangeOf (select_only path) (follow_up c r)
  follows = exchange_by (has_more r.sw) c (select_only path) (le_of_byte (r.sw % 256)) no_verify x

  -- it is no UPDATE
  pub no_update : is_update_ins c.ins ≡ false
  no_update = by_exchange x
    where
      by_exchange : IsExchangeOf (select_only path) c → is_update_ins c.ins ≡ false
      by_exchange (inl f) = ap (λ (d : CommandValue). is_update_ins d.ins) f.is
      by_exchange (inr e) = ap is_update_ins e

-- ---- what a final response comes to

pub select_came : (f : Final) (named : List ℕ) → f.command ≡ select_only named → is_success f.response.sw ≡ true → refused_outcome f ≡ None
select_came f named is h =
    let more : wants_more f.response.sw ≡ false = ap (λ (b : Bool). b || wants_other_le f.response.sw) (no_more_by f.response.sw h) ∙ no_other_by f.response.sw h in
    ap (λ (b : Bool). if b then Some (outcome.Loop f.event) else if is_refused f then Some (outcome.Status (record { 0 = f.response.sw }) f.event) else if has_bad_fcp f then Some (outcome.BadFcp f.event) else None) more
    ∙ ap (λ (b : Bool). if not (b || wants_more f.response.sw) && not (is_reading_select f.command && (f.response.sw == file_not_found)) then Some (outcome.Status (record { 0 = f.response.sw }) f.event) else if has_bad_fcp f then Some (outcome.BadFcp f.event) else None) h
    ∙ ap (λ (d : CommandValue). if has_bad_fcp (record f { command = d }) then Some (outcome.BadFcp f.event) else None) is

refused_by : (c : CommandValue) (sw event : ℕ) (other : Option Outcome) (success more : Bool) → success ≡ false → is_reading_select c ≡ false → is_some (if more then Some (outcome.Loop event) else if not (success || more) && not (is_reading_select c && (sw == file_not_found)) then Some (outcome.Status (record { 0 = sw }) event) else other) ≡ true
refused_by c sw event other true more h n = absurd (true≢false h)
refused_by c sw event other false true h n = refl
refused_by c sw event other false false h n = ap (λ (b : Bool). is_some (if true && not (b && (sw == file_not_found)) then Some (outcome.Status (record { 0 = sw }) event) else other)) n

-- one that is no success refuses, unless it is the SELECT of a reading
pub refused_came : (f : Final) → is_reading_select f.command ≡ false → is_success f.response.sw ≡ false → is_some (refused_outcome f) ≡ true
refused_came f n h = refused_by f.command f.response.sw f.event (if has_bad_fcp f then Some (outcome.BadFcp f.event) else None) (is_success f.response.sw) (wants_more f.response.sw) h n

-- an edit's command that came to something
pub edit_came : (op : Option Operation) (f : ℕ) (e : Edit) (opened : Option ℕ) (final : Final) → edit_of op ≡ Some (f, e) → outcome_of op opened final ≡ refused_outcome final
edit_came None f e opened final h = absurd (cc)
edit_came (Some (operation.Set g at name number)) f e opened final h = refl
edit_came (Some (operation.Clear g at)) f e opened final h = refl
edit_came (Some (operation.Insert card)) f e opened final h = absurd (cc)
edit_came (Some operation.Out) f e opened final h = absurd (cc)
edit_came (Some (operation.Arm change)) f e opened final h = absurd (cc)
edit_came (Some (operation.Load g)) f e opened final h = absurd (cc)
edit_came (Some (operation.OpenChannel handle aid)) f e opened final h = absurd (cc)
edit_came (Some (operation.Raw handle apdu)) f e opened final h = absurd (cc)
edit_came (Some (operation.Close handle)) f e opened final h = absurd (cc)
edit_came (Some (operation.Verify key pin)) f e opened final h = absurd (cc)
edit_came (Some (operation.End key)) f e opened final h = absurd (cc)
edit_came (Some operation.Poll) f e opened final h = absurd (cc)
edit_came (Some operation.Look) f e opened final h = absurd (cc)
edit_came (Some (operation.Watch mask)) f e opened final h = absurd (cc)
edit_came (Some operation.Notices) f e opened final h = absurd (cc)
