-- Rows that begin those of a file, or pieces of 255 bytes that begin its bytes.
use Rattle.std.specs.Prelude.{◌≡◌, ℕ, ◌*◌, true, List, length, take}
use Rattle.std.specs.List.{flat_map}
use Rattle.fcp.specs.Content.{Content, is_linear, is_transparent, first_row}

pub record RowsTrue (content : Content) (rows : List (List ℕ)) : Type 0 where
  pub linear : is_linear content.kind ≡ true → rows ≡ take (length rows) content.rows
  pub transparent : is_transparent content.kind ≡ true → flat_map (λ row. row) rows ≡ take (255 * length rows) (first_row content.rows)
