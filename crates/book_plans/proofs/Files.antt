-- The rows of files.
use Rattle.std.proofs.Common.{◌≤◌, ℕ, List, length}
use Rattle.std.specs.Prelude.{IsTrue}
use Rattle.fcp.specs.declared.rows.FileKind.{FileKind}
use Rattle.fcp.specs.declared.rows.FileKind.TheVariants.{Transparent, Linear, Directory}
use Rattle.fcp.specs.Content.{Content, IsContent, HasRows, is_linear}

limit_of : (kind : FileKind) (width : ℕ) (rows : List (List ℕ)) → HasRows kind width rows → IsTrue (is_linear kind) → length rows ≤ 255
limit_of Linear width rows h e = h.1
limit_of Transparent width rows h e = absurd cc
limit_of Directory width rows h e = absurd cc

-- a linear file has at most 255 rows
pub linear_limit : (c : Content) → IsContent c → IsTrue (is_linear c.kind) → length c.rows ≤ 255
linear_limit c h e = limit_of c.kind c.width c.rows h e
