-- A reading that is complete is the whole file.
use Rattle.std.proofs.Common.{◌≡◌, ℕ, ◌+◌, ◌-◌, ◌*◌, ◌/◌, ◌≤◌, true, if◌then◌else◌, List, [], ◌∷◌, length, refl, ◌∙◌, arith}
use Rattle.std.specs.Prelude.{nat_le}
use Rattle.std.specs.List.{flat_map}
use Rattle.std.proofs.lemmas.Bool.{leb-true}
use Rattle.std.proofs.lemmas.List.{take_all}
use Rattle.fcp.specs.declared.rows.FileKind.{FileKind}
use Rattle.fcp.specs.declared.rows.FileKind.TheVariants.{Transparent, Linear, Directory}
use Rattle.fcp.specs.Content.{is_linear, HasRows}
use Rattle.card_model.specs.declared.world.FileState.{FileState}
use Rattle.card_model.specs.Card.{content_size, fields_of_file}
use Rattle.card_effects.specs.Fine.{FineFile}
use Rattle.card_effects.specs.Rows.{RowsTrue}
use Rattle.loader.specs.Reading.{content_by, reads_needed_by, reads_needed}

enough : (width n : ℕ) → (width + (255 - 1)) / 255 ≤ n → width ≤ 255 * n
enough width n h = omega arith

complete_by : (kind : FileKind) (width : ℕ) (all : List (List ℕ)) → HasRows kind width all → (rows : List (List ℕ)) → RowsTrue (record { kind = kind; width = width; rows = all }) rows →
    nat_le (reads_needed_by kind (content_size (record { kind = kind; width = width; rows = all })) (if is_linear kind then length all else 0)) (length rows) ≡ true →
    content_by kind (if is_linear kind then width else 0) rows ≡ record { kind = kind; width = width; rows = all }
complete_by Transparent width (row ∷ []) ok rows t h =
    let n : (width + (255 - 1)) / 255 ≤ length rows = leb-true _ _ h in
    let w : length row ≡ width = ok.0 in
    let whole : flat_map (λ row. row) rows ≡ row = t.transparent refl ∙ take_all (255 * length rows) row (let m = enough width (length rows) n in omega arith) in
    rw (whole, w) refl
complete_by Transparent width [] ok rows t h = absurd ok
complete_by Transparent width (row ∷ other ∷ more) ok rows t h = absurd ok
complete_by Linear width all ok rows t h =
    let n : length all ≤ length rows = leb-true _ _ h in
    let whole : rows ≡ all = t.linear refl ∙ take_all (length rows) all n in
    rw whole refl
complete_by Directory width all ok rows t h = absurd ok

pub complete_content : (file : FileState) → FineFile file → (rows : List (List ℕ)) → RowsTrue file.rows rows → nat_le (reads_needed (fields_of_file file)) (length rows) ≡ true → content_by file.rows.kind (fields_of_file file).width rows ≡ file.rows
complete_content file fine rows t h = complete_by file.rows.kind file.rows.width file.rows.rows fine.rows rows t h
