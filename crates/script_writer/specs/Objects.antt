-- The fields of an object that is being written.
use Rattle.serde_json.specs.Data.{Members}
use Rattle.serde_json.specs.View.{members_view}
use Rattle.script_writer.specs.declared.to_json.Fields.{Fields}

abbrev pub members : Fields → Members
members f = members_view f.map.entries
