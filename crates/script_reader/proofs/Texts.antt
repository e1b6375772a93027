-- Bytes, by what JSON says of them.
use Rattle.std.proofs.Common.{◌≡◌, ℕ, Bool, true, false, List, Option, Some, None, Err, if◌then◌else◌, refl}
use Rattle.std.specs.Str.{is_utf8}
use Rattle.std.specs.Prelude.{IsUtf8}
use Rattle.std.proofs.lemmas.Str.{IsUtf8-from_is_utf8, is_utf8-from_IsUtf8}
use Rattle.serde_json.specs.Data.{Data}
use Rattle.serde_json.specs.Read.{read}
use Rattle.script_reader.specs.Scripts.{script_of_value, script_of_data, script_of_bytes, no_json}

refused_if : (b : Bool) (d : Option Data) → (b ≡ true → d ≡ None) → (if b then script_of_value d else Err no_json) ≡ Err no_json
refused_if true d h = rw (h refl) refl
refused_if false d h = refl

-- bytes that are no UTF-8, or no JSON
pub refused_text : (bytes : List ℕ) → (IsUtf8 bytes → read bytes ≡ None) → script_of_bytes bytes ≡ Err no_json
refused_text bytes h = refused_if (is_utf8 bytes) (read bytes) (λ e. h (IsUtf8-from_is_utf8 bytes e))

-- bytes that are JSON
pub read_text : (bytes : List ℕ) (d : Data) → IsUtf8 bytes → read bytes ≡ Some d → script_of_bytes bytes ≡ script_of_data d
read_text bytes d h e = rw (is_utf8-from_IsUtf8 bytes h, e) refl
