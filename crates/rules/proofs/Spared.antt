-- What a command changes of the card's files is among what it spoils.
use Rattle.std.proofs.Common.{◌≡◌, ◌⊎◌, inl, inr, ℕ, zero, suc, ◌==◌, ◌<◌, Bool, true, false, ◌&&◌, ◌||◌, Option, Some, None, List, [], ◌∷◌, length, refl, ap, sym, ◌∙◌, subst, arith}
use Rattle.std.specs.Prelude.{not, nat_lt, find, slice_get, option_and_then, Result, Ok}
use Rattle.std.specs.List.{list_all}
use Rattle.std.proofs.lemmas.Bool.{and_parts, and_from, or_cases, eqb-true, eq-eqb, ltb-true, false≢true}
use Rattle.apdu.specs.Values.{CommandValue, ResponseValue}
use Rattle.apdu.specs.Words.{same_bytes, is_one_of, path_is_in, has_value}
use Rattle.apdu.specs.Apdu.{fetch_ins, update_record_ins, update_binary_ins, is_update_ins, is_success}
use Rattle.apdu.specs.declared.class.ClassKind.TheVariants.{Plain}
use Rattle.refresh_cmd.specs.declared.proactive.ProactiveError.{ProactiveError}
use Rattle.refresh_cmd.specs.Values.{ProactiveValue}
use Rattle.refresh_cmd.specs.Proactive.{read_proactive, refresh_type, command_of}
use Rattle.card_model.specs.declared.world.FileState.{FileState}
use Rattle.card_model.specs.declared.world.ChannelState.{ChannelState}
use Rattle.card_model.specs.declared.world.Change.{Change}
use Rattle.card_model.specs.declared.world.CardState.{CardState}
use Rattle.card_model.specs.Card.{file_at, has_path, change_command}
use Rattle.card_model.specs.Toolkit.{with_files}
use Rattle.card_effects.specs.Effect.{Updates, Fetches, Effect, quiet, refuses_select, reads_record, reads_binary, gets, selects, updates_record, updates_binary, opens, closes, hands_over, IsOn}
use Rattle.card_effects.specs.Basic.{HasCurrent}
use Rattle.card_effects.proofs.Files.{RowWritten, update_files, files_spare}
use Rattle.card_effects.proofs.Same.{same_bytes_is, same_bytes_self}
use Rattle.epoch_cache.specs.declared.cached.Touch.{Touch}
use Rattle.epoch_cache.specs.declared.cached.Written.{Written}
use Rattle.epoch_cache.specs.declared.cached.Written.TheVariants as written
use Rattle.epoch_cache.specs.Cache.{refresh_of, handed_refresh, is_moved_by, is_update, is_row_update, written_by, is_raw_write, is_overwritten, touch_exchanged, is_spoiled}
use Rattle.link.specs.Commands.{is_at}
use Rattle.rules.specs.Agreement.{IsSelected}
use Rattle.rules.proofs.Sane.{tells_files, FineChange, FineChanges}
use Rattle.rules.proofs.Chains.{is_on_basic}

armed_fine : (changes : List Change) (ch : Change) → FineChanges changes → (o : Option ℕ) → option_and_then (slice_get changes) o ≡ Some ch → FineChange ch
armed_fine changes ch fine None h = absurd (cc)
armed_fine changes ch fine (Some i) h = fine i ch h

-- ---- a change that was handed over

no_files : (files more : List FileState) → (length more == 0) ≡ true → with_files files more ≡ files
no_files files [] h = refl
no_files files (f ∷ more) h = absurd (let n : length (f ∷ more) ≡ 0 = eqb-true (length (f ∷ more)) 0 h in omega arith)

apart_from : (list : List (List ℕ)) (path : List ℕ) (more : List FileState) → path_is_in list path ≡ false → list_all (λ (f : FileState). path_is_in list f.path) more ≡ true → list_all (λ (f : FileState). not (same_bytes f.path path)) more ≡ true
apart_from list path [] h a = refl
apart_from list path (f ∷ more) h a =
    let q = and_parts (path_is_in list f.path) (list_all (λ (f : FileState). path_is_in list f.path) more) a in
    and_from (not (same_bytes f.path path)) (list_all (λ (f : FileState). not (same_bytes f.path path)) more) (differs (same_bytes f.path path) refl q.0) (apart_from list path more h q.1)
  where
    differs : (b : Bool) → same_bytes f.path path ≡ b → path_is_in list f.path ≡ true → not b ≡ true
    differs false e q = refl
    differs true e q = absurd (let same : f.path ≡ path = same_bytes_is f.path path e in let n : path_is_in list path ≡ true = ap (path_is_in list) (sym same) ∙ q in false≢true (sym h ∙ n))

not_every : (q : ℕ) (list : List (List ℕ)) (n k : ℕ) (path : List ℕ) → is_moved_by path (command_of n k q list) ≡ false → is_one_of q (0 ∷ 4 ∷ 5 ∷ 6 ∷ []) ≡ true → ⊥
not_every q list n k path h o = grind arith

in_list : (q : ℕ) (list : List (List ℕ)) (n k : ℕ) (path : List ℕ) → is_moved_by path (command_of n k q list) ≡ false → nat_lt q 7 ≡ true → path_is_in list path ≡ false
in_list zero list n k path h o = absurd (cc)
in_list (suc zero) list n k path h o = h
in_list (suc (suc zero)) list n k path h o = h
in_list (suc (suc (suc zero))) list n k path h o = absurd (cc)
in_list (suc (suc (suc (suc zero)))) list n k path h o = absurd (cc)
in_list (suc (suc (suc (suc (suc zero))))) list n k path h o = absurd (cc)
in_list (suc (suc (suc (suc (suc (suc zero)))))) list n k path h o = absurd (cc)
in_list (suc (suc (suc (suc (suc (suc (suc q))))))) list n k path h o = absurd (let m : (suc (suc (suc (suc (suc (suc (suc q))))))) < 7 = ltb-true _ _ o in omega arith)

refresh_spares : (files : List FileState) (ch : Change) (path : List ℕ) → tells_files ch ≡ true → is_moved_by path (command_of 1 ch.kind ch.qualifier ch.list) ≡ false → find (has_path path) (with_files files ch.files) ≡ find (has_path path) files
refresh_spares files ch path t h = elim (or_cases (is_one_of ch.qualifier (0 ∷ 4 ∷ 5 ∷ 6 ∷ [])) (nat_lt ch.qualifier 7 && list_all (λ (f : FileState). path_is_in ch.list f.path) ch.files) t) [
  | inl o ↦ absurd (not_every ch.qualifier ch.list 1 ch.kind path h o)
  | inr q ↦ (let r = and_parts (nat_lt ch.qualifier 7) (list_all (λ (f : FileState). path_is_in ch.list f.path) ch.files) q in
      files_spare files ch.files path (apart_from ch.list path ch.files (in_list ch.qualifier ch.list 1 ch.kind path h r.0) r.1))
]

change_spares : (files : List FileState) (ch : Change) (path : List ℕ) → FineChange ch → has_value (is_moved_by path) (refresh_of (Ok (command_of 1 ch.kind ch.qualifier ch.list))) ≡ false → find (has_path path) (with_files files ch.files) ≡ find (has_path path) files
change_spares files ch path fine h = elim (or_cases (length ch.files == 0) ((ch.kind == refresh_type) && tells_files ch) fine.honest) [
  | inl e ↦ ap (find (has_path path)) (no_files files ch.files e)
  | inr q ↦ (let r = and_parts (ch.kind == refresh_type) (tells_files ch) q in let k = r.0 in
      refresh_spares files ch path r.1 (kind_by k h))
]
  where
    kind_by : (ch.kind == refresh_type) ≡ true → has_value (is_moved_by path) (refresh_of (Ok (command_of 1 ch.kind ch.qualifier ch.list))) ≡ false → is_moved_by path (command_of 1 ch.kind ch.qualifier ch.list) ≡ false
    kind_by k h = rw k at h

-- ---- what a command spoils

module _ (changes : List Change) (card : CardState) (c : CommandValue) (p : CardState × ResponseValue) (e : Effect changes card c p) (fines : FineChanges changes) (selected : Option (List ℕ)) (here : IsSelected card selected) (raw : Bool) where
  abbrev touch : Touch
  touch = touch_exchanged raw selected c p.1

  same_at : p.0.files ≡ card.files → (path : List ℕ) → file_at path p.0 ≡ file_at path card
  same_at h path = rw h refl

  update_done : (ins : ℕ) → c.ins ≡ ins → is_update_ins ins ≡ true → is_success p.1.sw ≡ true → is_update c p.1 ≡ true
  update_done ins h u s = and_from (is_update_ins c.ins) (is_success p.1.sw) (ap is_update_ins h ∙ u) s

  -- an update of the framework's own, of a row of the file that is selected
  pub record WritesRow : Type 0 where
    pub path : List ℕ
    pub is_selected : selected ≡ Some path
    pub row : is_row_update c ≡ true
    pub now : HasCurrent card path
    pub by : written_by raw selected c p.1 ≡ written.Row

  some_row : (b : Bool) → is_row_update c ≡ b → (o : Option (List ℕ)) → selected ≡ o → raw ≡ false → is_update c p.1 ≡ true → (written_by raw selected c p.1 ≡ written.Unknown) ⊎ WritesRow
  some_row true q None s r u = inl (rw (u, r, q, s) refl)
  some_row false q o s r u = inl (rw (u, r, q) refl)
  some_row true q (Some path) s r u = inr (record { path = path; is_selected = s; row = q; now = subst (IsSelected card) s here; by = rw (u, r, q, s) refl })

  -- what an update writes
  pub data Writes : Type 0 where
    by_raw : written_by raw selected c p.1 ≡ written.Raw → Writes
    unknown : written_by raw selected c p.1 ≡ written.Unknown → Writes
    one_row : WritesRow → Writes

  own_writes : (written_by raw selected c p.1 ≡ written.Unknown) ⊎ WritesRow → Writes
  own_writes (inl u) = unknown u
  own_writes (inr w) = one_row w

  writes_by : (b : Bool) → raw ≡ b → is_update c p.1 ≡ true → Writes
  writes_by true r u = by_raw (rw (u, r) refl)
  writes_by false r u = own_writes (some_row (is_row_update c) refl selected refl r u)

  pub writes : is_update c p.1 ≡ true → Writes
  writes u = writes_by raw refl u

  -- the row that it wrote
  pub row_written : (number place : ℕ) (channel : ChannelState) → IsOn card c Plain number place channel → (u : Updates card channel p) → (w : WritesRow) → RowWritten card.files p.0.files w.path u.file u.index u.row
  row_written number place channel on u w =
      let class : (c.class == 0) ≡ true = (and_parts (c.class == 0) (c.ins == update_record_ins) (and_parts ((c.class == 0) && (c.ins == update_record_ins)) (c.p2 == 0x04) w.row).0).0 in
      let one : channel ≡ w.now.channel = is_on_basic changes card c p e number place channel w.now.channel on class w.now.found in
      update_files card channel p w.path u (ap (λ (x : ChannelState). x.current) one ∙ w.now.current)

  spoil_by : (r m o : Bool) → (r || o) ≡ true → ((false || r || m) || o) ≡ true
  spoil_by true m o h = refl
  spoil_by false true o h = refl
  spoil_by false false o h = h

  spoiled_all : (w : Written) → written_by raw selected c p.1 ≡ w → (path : List ℕ) → (is_raw_write w || is_overwritten selected path w) ≡ true → is_spoiled touch selected path ≡ true
  spoiled_all w by path h = spoil_by (is_raw_write touch.written) (has_value (is_moved_by path) touch.refresh) (is_overwritten selected path touch.written) (ap (λ (x : Written). is_raw_write x || is_overwritten selected path x) by ∙ h)

  turned : (a b : List ℕ) → same_bytes b a ≡ false → same_bytes a b ≡ false
  turned a b h = by_test (same_bytes a b) refl
    where
      by_test : (x : Bool) → same_bytes a b ≡ x → x ≡ false
      by_test false q = refl
      by_test true q = absurd (let e : a ≡ b = same_bytes_is a b q in let r : same_bytes b a ≡ true = subst (λ (y : List ℕ). same_bytes y a ≡ true) e (same_bytes_self a) in false≢true (sym h ∙ r))

  row_spares : (number place : ℕ) (channel : ChannelState) → IsOn card c Plain number place channel → (u : Updates card channel p) → (w : WritesRow) → (path : List ℕ) → is_spoiled touch selected path ≡ false → file_at path p.0 ≡ file_at path card
  row_spares number place channel on u w path h = (row_written number place channel on u w).others path (turned w.path path (apart (same_bytes path w.path) refl))
    where
      apart : (b : Bool) → same_bytes path w.path ≡ b → b ≡ false
      apart false q = refl
      apart true q = absurd (let at : is_at selected path ≡ true = ap (λ (o : Option (List ℕ)). is_at o path) w.is_selected ∙ q in false≢true (sym h ∙ spoiled_all written.Row w.by path at))

  update_spares : (number place : ℕ) (channel : ChannelState) → IsOn card c Plain number place channel → Updates card channel p → Writes → (path : List ℕ) → is_spoiled touch selected path ≡ false → file_at path p.0 ≡ file_at path card
  update_spares number place channel on u (by_raw by) path h = absurd (false≢true (sym h ∙ spoiled_all written.Raw by path refl))
  update_spares number place channel on u (unknown by) path h = absurd (false≢true (sym h ∙ spoiled_all written.Unknown by path refl))
  update_spares number place channel on u (one_row w) path h = row_spares number place channel on u w path h

  fetch_spares : c.ins ≡ fetch_ins → Fetches changes card p → (path : List ℕ) → is_spoiled touch selected path ≡ false → file_at path p.0 ≡ file_at path card
  fetch_spares i d path h =
      let fine = armed_fine changes d.change fines (slice_get card.armed 0) d.armed in
      let done : is_success p.1.sw ≡ true = ap (λ (r : ResponseValue). is_success r.sw) d.response in
      let given : p.1.body ≡ change_command d.change = ap (λ (r : ResponseValue). r.body) d.response in
      let handed : handed_refresh c p.1 ≡ refresh_of (Ok (command_of 1 d.change.kind d.change.qualifier d.change.list)) = handed_by (Ok (command_of 1 d.change.kind d.change.qualifier d.change.list)) done (ap read_proactive given ∙ fine.reads) in
      let files = d.files in
      ap (find (has_path path)) files ∙ change_spares card.files d.change path fine (ap (λ (o : Option ProactiveValue). has_value (is_moved_by path) o) (sym handed) ∙ not_moved (is_raw_write touch.written) (has_value (is_moved_by path) touch.refresh) (is_overwritten selected path touch.written) h)
    where
      not_moved : (a b o : Bool) → ((false || a || b) || o) ≡ false → b ≡ false
      not_moved false false o h = refl
      not_moved false true o h = absurd (cc)
      not_moved true b o h = absurd (cc)

      handed_by : (result : Result ProactiveValue ProactiveError) → is_success p.1.sw ≡ true → read_proactive p.1.body ≡ result → handed_refresh c p.1 ≡ refresh_of result
      handed_by result s r =
          let test : ((c.ins == fetch_ins) && is_success p.1.sw) ≡ true = and_from (c.ins == fetch_ins) (is_success p.1.sw) (eq-eqb c.ins fetch_ins i) s in
          ap (λ (b : Bool). elim b [ true ↦ refresh_of (read_proactive p.1.body) | false ↦ None ]) test ∙ ap refresh_of r

  -- what a command does not spoil stays
  pub spared : (path : List ℕ) → is_spoiled touch selected path ≡ false → file_at path p.0 ≡ file_at path card
  spared path h = by_effect e
    where
      by_effect : Effect changes card c p → file_at path p.0 ≡ file_at path card
      by_effect (quiet k q) = same_at k.files path
      by_effect (refuses_select number place channel on j d) = same_at d.keeps.files path
      by_effect (reads_record number place channel on j d) = same_at d.keeps.files path
      by_effect (reads_binary number place channel on j d) = same_at d.keeps.files path
      by_effect (gets number place channel on j d) = same_at d.keeps.files path
      by_effect (selects number place channel on j d) = same_at d.files path
      by_effect (updates_record number place channel on j d) = update_spares number place channel on d.updates (writes (update_done update_record_ins j refl d.updates.status)) path h
      by_effect (updates_binary number place channel on j d) = update_spares number place channel on d.updates (writes (update_done update_binary_ins j refl d.updates.status)) path h
      by_effect (opens j d) = same_at d.files path
      by_effect (closes j d) = same_at d.files path
      by_effect (hands_over j d) = fetch_spares j d path h
