use Rattle.std.proofs.Common.{◌≡◌, ◌<◌, ◌+◌, ◌++◌, ◌∷◌, [], length, take, refl, ap, sym, ◌∙◌, subst, arith}
use Rattle.apdu.specs.Words.{filled_to}
use Rattle.fcp.specs.Buffer.{rows_of}
use Rattle.loader.specs.Buffer.{row_len}
use Rattle.loader.specs.Reading.{reads_needed, read_number, asked_len}
use Rattle.loader.specs.Values.{ReadingValue}
use Rattle.loader.proofs.Buffer.{asked_fits, asked_within, whole_rows, one_more, row_len_asked}
use Rattle.loader.proofs.Rows.{row_count, row_appended}
use Rattle.loader.proofs.reading.Reading.with_row.Goals as goal

pub append_row-requires : goal.append_row-requires
append_row-requires c =
    let g = c.g.inside in
    let n = row_count g.count (row_len g.control) g.bytes.items in
    let left : length (rows_of g.count (row_len g.control) g.bytes.items) < reads_needed g.control = subst (λ (v : ReadingValue). length v.rows < reads_needed v.control) (sym c.g.view_is) c.requires.left in
    let same : asked_len c.args.le ≡ asked_len (read_number g.control (length (rows_of g.count (row_len g.control) g.bytes.items))).le = subst (λ (v : ReadingValue). asked_len c.args.le ≡ asked_len (read_number v.control (length v.rows)).le) (sym c.g.view_is) c.requires.asked in
    let fits = asked_fits g.control g.count g.bytes c.g.invariant (omega (arith, n, left)) in
    record { room = omega (arith, fits, rw n at same, c.asked_len.ensures) }

pub invariant_of-g : goal.invariant_of-g
invariant_of-g c =
    let g = c.g.inside in
    let n = row_count g.count (row_len g.control) g.bytes.items in
    let left : length (rows_of g.count (row_len g.control) g.bytes.items) < reads_needed g.control = subst (λ (v : ReadingValue). length v.rows < reads_needed v.control) (sym c.g.view_is) c.requires.left in
    let same : asked_len c.args.le ≡ asked_len (read_number g.control (length (rows_of g.count (row_len g.control) g.bytes.items))).le = subst (λ (v : ReadingValue). asked_len c.args.le ≡ asked_len (read_number v.control (length v.rows)).le) (sym c.g.view_is) c.requires.asked in
    let row = take c.asked_len.result (filled_to 255 c.asked_len.result c.args.body.now) in
    let len = row_len_asked c.asked_len.result c.args.body.now in
    one_more g.control g.count g.bytes c.append_row.new.bytes row c.g.invariant (omega (arith, n, left)) (omega (arith, len, rw n at same, c.asked_len.ensures)) c.append_row.ensures.items (omega (arith, len, c.append_row.ensures.spare))

pub returns : goal.returns
returns c =
    let g = c.g.inside in
    let n = row_count g.count (row_len g.control) g.bytes.items in
    let left : length (rows_of g.count (row_len g.control) g.bytes.items) < reads_needed g.control = subst (λ (v : ReadingValue). length v.rows < reads_needed v.control) (sym c.g.view_is) c.requires.left in
    let same : asked_len c.args.le ≡ asked_len (read_number g.control (length (rows_of g.count (row_len g.control) g.bytes.items))).le = subst (λ (v : ReadingValue). asked_len c.args.le ≡ asked_len (read_number v.control (length v.rows)).le) (sym c.g.view_is) c.requires.asked in
    let row = take c.asked_len.result (filled_to 255 c.asked_len.result c.args.body.now) in
    let len = row_len_asked c.asked_len.result c.args.body.now in
    let wide = asked_within g.control g.count in
    let whole = whole_rows g.control g.count g.bytes c.g.invariant (omega (arith, n, left)) in
    let rows : rows_of (g.count + 1) (row_len g.control) c.append_row.new.bytes.items ≡ rows_of g.count (row_len g.control) g.bytes.items ++ row ∷ [] =
    ap (λ b. rows_of (g.count + 1) (row_len g.control) b) c.append_row.ensures.items ∙ row_appended g.count (row_len g.control) g.bytes.items row whole (omega (arith, len, wide, rw n at same, c.asked_len.ensures)) in
    let asked : take c.asked_len.result (filled_to 255 c.asked_len.result c.args.body.now) ≡ take (asked_len c.args.le) (filled_to 255 (asked_len c.args.le) c.args.body.now) = rw c.asked_len.ensures refl in
    ap (λ r. record { path = g.path; control = g.control; rows = r; first_event = g.first_event }) (rows ∙ ap (λ r. rows_of g.count (row_len g.control) g.bytes.items ++ r ∷ []) asked)
    ∙ ap (λ (v : ReadingValue). record v { rows = v.rows ++ take (asked_len c.args.le) (filled_to 255 (asked_len c.args.le) c.args.body.now) ∷ [] }) c.g.view_is
