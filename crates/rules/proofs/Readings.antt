-- The readings of a job behind a command of its own.
use Rattle.std.proofs.Common.{◌≡◌, ◌⊎◌, inl, inr, ℕ, ◌-◌, ◌*◌, Bool, true, false, ◌&&◌, if◌then◌else◌, Option, Some, None, List, [], ◌∷◌, ◌++◌, length, take, refl, ap, sym, ◌∙◌, subst, arith, min}
use Rattle.std.specs.Prelude.{is_none, nat_le, find, option_map, option_and_then, filter}
use Rattle.std.proofs.lemmas.Bool.{cond_both, and_parts, le-leb, false≢true}
use Rattle.apdu.specs.Values.{CommandValue, ResponseValue}
use Rattle.apdu.specs.Words.{filled_to, has_value}
use Rattle.apdu.specs.Apdu.{is_success, same_command}
use Rattle.fcp.specs.declared.control.Fcp.{Fcp}
use Rattle.fcp.specs.declared.rows.FileKind.TheVariants.{Directory}
use Rattle.fcp.specs.Control.{read_fcp}
use Rattle.card_model.specs.declared.world.FileState.{FileState}
use Rattle.card_model.specs.declared.world.Change.{Change}
use Rattle.card_model.specs.declared.world.CardState.{CardState}
use Rattle.card_model.specs.Card.{is_in_application, usim_of, file_at, file_of, fields_of_file, content_size}
use Rattle.card_effects.specs.Effect.{Effect}
use Rattle.card_effects.specs.Fine.{FineFile}
use Rattle.card_effects.specs.Basic.{HasCurrent}
use Rattle.card_effects.proofs.Same.{same_bytes_is}
use Rattle.link.specs.declared.chain.Final.{Final}
use Rattle.link.specs.Commands.{is_reading_select, named_path}
use Rattle.epoch_cache.specs.declared.cached.CachedFile.{CachedFile}
use Rattle.loader.specs.Values.{ReadingValue}
use Rattle.loader.specs.Reading.{begun_by, begun, further, reading_after, reading_of, reading_at, is_basic_read, next_read, is_complete, file_read, file_of_complete, row_read, asked_len, read_by, read_row, read_piece, read_number, reads_needed, content_by, is_reading_of, path_read, without_path, without_reading, with_reading, readings_after}
use Rattle.rules.specs.Agreement.{is_application, HasFile, HasReading, IsSelected, Stands, FileTrue, ReadingTrue, ReadingsTrue}
use Rattle.rules.proofs.Chains.{same_command_is}
use Rattle.rules.proofs.Complete.{complete_content}
use Rattle.rules.proofs.Truth.{FineCard, DirectoryTrue, GoesTrue, Gave, gave, begun_by_true, find_passes}
use Rattle.rules.proofs.Further.{ReadDone, kinds, record_step, binary_step, row_by, piece_by}

-- ---- each of a job's readings

keep_true : (card : CardState) (test : ReadingValue → Bool) (g : ReadingValue) (gs : List ReadingValue) → ReadingTrue card g → ReadingsTrue card (filter test gs) → (b : Bool) → ReadingsTrue card (if b then g ∷ filter test gs else filter test gs)
keep_true card test g gs h t true = (h, t)
keep_true card test g gs h t false = t

pub filter_true : (card : CardState) (test : ReadingValue → Bool) (gs : List ReadingValue) → ReadingsTrue card gs → ReadingsTrue card (filter test gs)
filter_true card test [] h = tt
filter_true card test (g ∷ gs) h = keep_true card test g gs h.0 (filter_true card test gs h.1) (test g)

append_true : (card : CardState) (gs : List ReadingValue) (g : ReadingValue) → ReadingsTrue card gs → ReadingTrue card g → ReadingsTrue card (gs ++ g ∷ [])
append_true card [] g h t = (t, tt)
append_true card (x ∷ gs) g h t = (h.0, append_true card gs g h.1 t)

first_true : (card : CardState) (test : ReadingValue → Bool) (x : ReadingValue) (gs : List ReadingValue) (g : ReadingValue) → ReadingTrue card x → (find test gs ≡ Some g → ReadingTrue card g) → (b : Bool) → (if b then Some x else find test gs) ≡ Some g → ReadingTrue card g
first_true card test x gs g h next true e = let same : x ≡ g = cc in subst (λ (y : ReadingValue). ReadingTrue card y) same h
first_true card test x gs g h next false e = next e

found_true : (card : CardState) (test : ReadingValue → Bool) (gs : List ReadingValue) (g : ReadingValue) → ReadingsTrue card gs → find test gs ≡ Some g → ReadingTrue card g
found_true card test [] g h e = absurd (cc)
found_true card test (x ∷ gs) g h e = first_true card test x gs g h.0 (found_true card test gs g h.1) (test x) e

-- ---- another card that has the same file

file_of_by : (b : Bool) (old new : Option FileState) → new ≡ old → (if b then None else new) ≡ (if b then None else old)
file_of_by b old new e = rw e refl

pub file_of_same : (old new : CardState) (path : List ℕ) → new.aids ≡ old.aids → file_at path new ≡ file_at path old → file_of path new ≡ file_of path old
file_of_same old new path a f = ap (λ (aids : List (List ℕ)). if is_in_application path && is_none (usim_in aids) then None else file_at path new) a ∙ file_of_by (is_in_application path && is_none (usim_of old)) (file_at path old) (file_at path new) f
  where
    usim_in : List (List ℕ) → Option ℕ
    usim_in aids = usim_of (record new { aids = aids })

pub same_reading : (old new : CardState) (g : ReadingValue) → new.aids ≡ old.aids → file_at g.path new ≡ file_at g.path old → ReadingTrue old g → ReadingTrue new g
same_reading old new g a f u n = let t = u n in record { file = t.file; at = f ∙ t.at; seen = file_of_same old new g.path a f ∙ t.seen ∙ sym f; control = t.control; rows = t.rows }

-- ---- the step

module _ (changes : List Change) (card : CardState) (c : CommandValue) (p : CardState × ResponseValue) (e : Effect changes card c p) (fine : FineCard card) (fine_new : FineCard p.0) (f : Final) (response : f.response ≡ p.1) where
  success_is : is_success f.response.sw ≡ true → is_success p.1.sw ≡ true
  success_is s = ap (λ (r : ResponseValue). is_success r.sw) (sym response) ∙ s

  with_rows : (g : ReadingValue) (rows : List (List ℕ)) → (t : HasReading card g) → ReadDone card t.file p rows → GoesTrue p.0 (Some (record g { rows = rows }))
  with_rows g rows t d n =
      let k = d.keeps in
      let same : file_at g.path p.0 ≡ file_at g.path card = let q = k.files in rw q refl in
      inl (record { file = t.file; at = same ∙ t.at; seen = file_of_same card p.0 g.path k.aids same ∙ t.seen ∙ sym same; control = t.control; rows = d.rows_true })

  module _ (path : List ℕ) (now : HasCurrent card path) (stands : Stands card (Some path) f.command c) where
    rows_by : (g : ReadingValue) → HasReading card g → g.path ≡ path → is_success f.response.sw ≡ true → f.command ≡ read_number g.control (length g.rows) → GoesTrue p.0 (Some (record g { rows = g.rows ++ row_read f ∷ [] }))
    rows_by g t same_path s is n = elim (kinds t.file.rows.kind t.file.rows.width t.file.rows.rows fine_file.rows) [
      | inl linear ↦ with_rows g (g.rows ++ row_read f ∷ []) t (
          let first : f.command ≡ read_row (fields_of_file t.file) (length g.rows) = commands ∙ row_by t.file.rows.kind (fields_of_file t.file) (length g.rows) linear in
          let le : asked_len f.command.le ≡ t.file.rows.width = ap (λ (x : CommandValue). asked_len x.le) first ∙ rw linear refl in
          subst (λ (row : List ℕ). ReadDone card t.file p (g.rows ++ row ∷ [])) (sym (row_is t.file.rows.width le))
          (record_step changes card c p e path at_named t.file fine_file now at_path (success_is s) f.command g.rows stands first linear t.rows)) n
      | inr transparent ↦ with_rows g (g.rows ++ row_read f ∷ []) t (
          let first : f.command ≡ read_piece (fields_of_file t.file) (length g.rows) = commands ∙ piece_by t.file.rows.kind (fields_of_file t.file) (length g.rows) transparent in
          let m : ℕ = min 255 (content_size t.file.rows - length g.rows * 255) in
          let le : asked_len f.command.le ≡ m = ap (λ (x : CommandValue). asked_len x.le) first in
          subst (λ (row : List ℕ). ReadDone card t.file p (g.rows ++ row ∷ [])) (sym (row_is m le))
          (binary_step changes card c p e path at_named t.file fine_file now at_path (success_is s) f.command g.rows stands first transparent t.rows m refl)) n
    ]
      where
        fine_file : FineFile t.file
        fine_file = fine.files g.path t.file t.at

        at_named : is_application path ≡ false
        at_named = ap is_application (sym same_path) ∙ n

        at_path : file_at path card ≡ Some t.file
        at_path = ap (λ (x : List ℕ). file_at x card) (sym same_path) ∙ t.at

        commands : f.command ≡ read_by t.file.rows.kind (fields_of_file t.file) (length g.rows)
        commands = is ∙ ap (λ (x : Fcp). read_by x.kind x (length g.rows)) t.control

        row_is : (n : ℕ) → asked_len f.command.le ≡ n → row_read f ≡ take n (filled_to 0xFF n p.1.body)
        row_is n le = ap (λ m. take m (filled_to 0xFF m f.response.body)) le ∙ ap (λ (r : ResponseValue). take n (filled_to 0xFF n r.body)) response

    further_rows : (g : ReadingValue) → ReadingTrue card g → g.path ≡ path → is_success f.response.sw ≡ true → f.command ≡ read_number g.control (length g.rows) → GoesTrue p.0 (Some (record g { rows = g.rows ++ row_read f ∷ [] }))
    further_rows g u same_path s is n = rows_by g (u n) same_path s is n

    next_is : (g : ReadingValue) → (b : Bool) → has_value (same_command f.command) (if b then None else Some (read_number g.control (length g.rows))) ≡ true → f.command ≡ read_number g.control (length g.rows)
    next_is g true h = absurd (cc)
    next_is g false h = same_command_is f.command (read_number g.control (length g.rows)) h

    further_true : (g : ReadingValue) → ReadingTrue card g → g.path ≡ path → GoesTrue p.0 (further f g)
    further_true g t same_path = cond_both (is_success f.response.sw && has_value (same_command f.command) (next_read g)) (Some (record g { rows = g.rows ++ row_read f ∷ [] })) None (GoesTrue p.0)
        (λ h. let q = and_parts (is_success f.response.sw) (has_value (same_command f.command) (next_read g)) h in further_rows g t same_path q.0 (next_is g (is_complete g) q.1))
        (λ h. tt)

    found_further : (gs : List ReadingValue) → ReadingsTrue card gs → (o : Option ReadingValue) → reading_of path gs ≡ o → GoesTrue p.0 (option_and_then (further f) o)
    found_further gs t None q = tt
    found_further gs t (Some g) q = further_true g (found_true card (is_reading_of path) gs g t q) (same_bytes_is g.path path (find_passes (is_reading_of path) gs g q))

  begun_true : (selected : Option (List ℕ)) → IsSelected card selected → Stands card selected f.command c → is_reading_select f.command ≡ true → GoesTrue p.0 (begun f)
  begun_true selected here stands r = by_success (is_success f.response.sw) refl
    where
      by_path : is_success f.response.sw ≡ true → (o : Option (List ℕ)) → named_path f.command ≡ o → GoesTrue p.0 (begun_by o f.first_event (read_fcp f.response.body))
      by_path s None n = tt
      by_path s (Some path) n = begun_by_true p.0 fine_new path f.response.body f.first_event (subst (λ (q : ResponseValue). Gave p.0 path q.body) (sym response) (gave changes card c p e selected f.command stands r (success_is s) path n here)) (read_fcp f.response.body) refl

      by_success : (b : Bool) → is_success f.response.sw ≡ b → GoesTrue p.0 (elim b [ true ↦ begun_by (named_path f.command) f.first_event (read_fcp f.response.body) | false ↦ None ])
      by_success true s = by_path s (named_path f.command) refl
      by_success false s = tt

  at_further : (selected : Option (List ℕ)) → IsSelected card selected → Stands card selected f.command c → (gs : List ReadingValue) → ReadingsTrue card gs → GoesTrue p.0 (option_and_then (further f) (reading_at selected gs))
  at_further None here stands gs t = tt
  at_further (Some path) here stands gs t = found_further path here stands gs t (reading_of path gs) refl

  -- the reading that a command leads to agrees with the card behind it
  pub goes_true : (selected : Option (List ℕ)) → IsSelected card selected → Stands card selected f.command c → (gs : List ReadingValue) → ReadingsTrue card gs → GoesTrue p.0 (reading_after f selected gs)
  goes_true selected here stands gs t = cond_both (is_reading_select f.command) (begun f) (if is_basic_read f.command then option_and_then (further f) (reading_at selected gs) else None) (GoesTrue p.0)
      (λ r. begun_true selected here stands r)
      (λ r. cond_both (is_basic_read f.command) (option_and_then (further f) (reading_at selected gs)) None (GoesTrue p.0) (λ b. at_further selected here stands gs t) (λ b. tt))

-- ---- a reading that is complete

needs_none : (g : ReadingValue) → g.control.kind ≡ Directory → is_complete g ≡ true
needs_none g h = rw h (le-leb 0 (length g.rows) (omega arith))

complete_true : (card : CardState) → FineCard card → (g : ReadingValue) → HasReading card g ⊎ DirectoryTrue card g → is_complete g ≡ true → HasFile card (file_read g)
complete_true card fine g (inl t) h =
    let file : file_of g.path card ≡ Some t.file = t.seen ∙ t.at in
    let needed : nat_le (reads_needed (fields_of_file t.file)) (length g.rows) ≡ true = ap (λ (x : Fcp). nat_le (reads_needed x) (length g.rows)) (sym t.control) ∙ h in
    record {
      content = ap (λ (x : Fcp). content_by x.kind x.width g.rows) t.control ∙ complete_content t.file (fine.files g.path t.file t.at) g.rows t.rows needed ∙ rw file refl;
      arr = ap (λ (x : Fcp). x.arr) t.control ∙ rw file refl;
    }
complete_true card fine g (inr t) h =
    let file : file_of g.path card ≡ None = t.seen ∙ t.at in
    let kind = t.kind in
    record { content = rw (kind, file) refl; arr = t.arr ∙ rw file refl }

abbrev pub CompletedTrue : CardState → Option CachedFile → Type 0
CompletedTrue card None = Unit {0}
CompletedTrue card (Some file) = FileTrue card file

pub file_complete_true : (card : CardState) → FineCard card → (o : Option ReadingValue) → GoesTrue card o → CompletedTrue card (file_of_complete o)
file_complete_true card fine None t = tt
file_complete_true card fine (Some g) t = by_test (is_complete g) refl
  where
    by_test : (b : Bool) → is_complete g ≡ b → CompletedTrue card (option_map file_read (if b then Some g else None))
    by_test true h = λ n. complete_true card fine g (t n) h
    by_test false h = tt

-- ---- the job's list

no_directory : (card : CardState) (g : ReadingValue) → HasReading card g ⊎ DirectoryTrue card g → is_complete g ≡ false → HasReading card g
no_directory card g (inl t) q = t
no_directory card g (inr t) q = absurd (false≢true (sym q ∙ needs_none g t.kind))

goes_on_true : (card : CardState) (gs : List ReadingValue) (g : ReadingValue) → ReadingsTrue card gs → GoesTrue card (Some g) → (b : Bool) → is_complete g ≡ b → ReadingsTrue card (if b then gs else gs ++ g ∷ [])
goes_on_true card gs g h t true q = h
goes_on_true card gs g h t false q = append_true card gs g h (λ n. no_directory card g (t n) q)

with_reading_true : (card : CardState) (o : Option ReadingValue) (gs : List ReadingValue) → GoesTrue card o → ReadingsTrue card gs → ReadingsTrue card (with_reading o gs)
with_reading_true card None gs t h = h
with_reading_true card (Some g) gs t h = goes_on_true card gs g h t (is_complete g) refl

without_one : (card : CardState) (g : ReadingValue) (gs rest : List ReadingValue) → ReadingTrue card g → ReadingsTrue card gs → ReadingsTrue card rest → (b : Bool) → ReadingsTrue card (elim b [ true ↦ gs | false ↦ g ∷ rest ])
without_one card g gs rest t h r true = h
without_one card g gs rest t h r false = (t, r)

path_true : (card : CardState) (path : List ℕ) (gs : List ReadingValue) → ReadingsTrue card gs → ReadingsTrue card (without_path path gs)
path_true card path [] h = tt
path_true card path (g ∷ gs) h = without_one card g gs (without_path path gs) h.0 h.1 (path_true card path gs h.1) (is_reading_of path g)

without_true : (card : CardState) (o : Option (List ℕ)) (gs : List ReadingValue) → ReadingsTrue card gs → ReadingsTrue card (without_reading o gs)
without_true card None gs h = h
without_true card (Some path) gs h = path_true card path gs h

pub readings_after_true : (card : CardState) (f : Final) (selected : Option (List ℕ)) (gs : List ReadingValue) → GoesTrue card (reading_after f selected gs) → ReadingsTrue card gs → ReadingsTrue card (readings_after f selected gs)
readings_after_true card f selected gs t h = with_reading_true card (reading_after f selected gs) (without_reading (path_read f selected) gs) t (without_true card (path_read f selected) gs h)
