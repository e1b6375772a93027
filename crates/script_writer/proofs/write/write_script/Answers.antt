use Rattle.std.proofs.Common.{◌≡◌, ◌≤◌, Some, true, string_bytes, rules, arith, sym, ap, subst, ◌∙◌}
use Rattle.std.specs.Str.{is_utf8}
use Rattle.std.specs.Coded.{Coded-set, coded_bool}
use mathlib.Core.Logic.{∥∥₁_elim}
use Rattle.std.proofs.lemmas.Str.{is_utf8-from_IsUtf8}
use Rattle.serde_json.specs.Data.{Data, depth}
use Rattle.serde_json.specs.Read.{read}
use Rattle.serde_json.specs.View.{view}
use Rattle.script_writer.specs.Writing.{script_data}
use Rattle.script_writer.proofs.Depth.{script_within}
use Rattle.script_writer.proofs.Scripts.{text_back}
use Rattle.script_writer.proofs.write.write_script.Goals as goal

pub returns-clause-read_back : goal.returns-clause-read_back
returns-clause-read_back c keeps =
    let s = c.args.script.now in
    let shown : view c.in_ok-value.value ≡ script_data s = search rules in
    let six : depth (view c.in_ok-value.value) ≤ 6 = subst (λ (d : Data). depth d ≤ 6) (sym shown) (script_within s) in
    let read_back : read (string_bytes c.in_ok-to_string.field-0) ≡ Some (view c.in_ok-value.value) = c.in_ok-to_string.ensures.reads_back (omega (arith, six)) in
    let utf8 : is_utf8 (string_bytes c.in_ok-to_string.field-0) ≡ true = ∥∥₁_elim c.in_ok-to_string.field-0.ok (Coded-set coded_bool _ true) (λ h. is_utf8-from_IsUtf8 (string_bytes c.in_ok-to_string.field-0) h) in
    let same : c.from_string.result ≡ string_bytes c.in_ok-to_string.field-0 = search rules in
    rw same (text_back s (string_bytes c.in_ok-to_string.field-0) utf8 (read_back ∙ ap (λ (d : Data). Some d) shown) (c.in_ok-value.ensures.back keeps))
