-- Updates that fit into a command.
use Rattle.std.specs.Prelude.{Bool, ◌&&◌, nat_le, length}
use Rattle.adn.specs.declared.edit.RowUpdate.{RowUpdate}

-- its bytes fit into the body of a command, TS 102 221 clause 10.1.6, and the number of its row is a byte
abbrev pub is_short : RowUpdate → Bool
is_short u = nat_le (length u.bytes) 255 && nat_le u.row 255
