-- The text of the lines up to one is that of the lines before it, and its own.
use Rattle.std.proofs.Common.{◌≡◌, ◌<◌, ◌+◌, ℕ, List, ◌++◌, length, take, refl, sym, ap, ◌∙◌, append_assoc, arith, get_or, slice_get, append-nil, string_bytes}
use Rattle.std.specs.Prelude.{reverse, flat_map, String}
use Rattle.std.specs.Option.{option_to_list}
use Rattle.std.specs.declared.alloc.Global.{Global}
use Rattle.std.proofs.lemmas.List.{take_more, reverse-append, length-reverse}
use Rattle.std.proofs.lemmas.Option.{slice_get-get_or}
use Rattle.report.specs.declared.line.Line.{Line}
use Rattle.report.specs.declared.line.Line.TheVariants as line
use Rattle.report.specs.Texts.{Puts, line_text, lines_text}

lines_text_more : (lines : List Line) (at : ℕ) → at < length lines → lines_text (reverse (take (at + 1) lines)) ≡ lines_text (reverse (take at lines)) ++ flat_map line_text (option_to_list (slice_get lines at))
lines_text_more lines at lt =
    rw (take_more lines at (line.Turn 0) lt, reverse-append, slice_get-get_or lines at (line.Turn 0) lt, append-nil (line_text (get_or lines at (line.Turn 0)))) refl

-- the lines are the newest first, and are put from the first on
pub one_more : (first before after : String Global) (lines : List Line) (at : ℕ) → at < length lines → string_bytes before ≡ string_bytes first ++ lines_text (reverse (take at (reverse lines))) → Puts before after (flat_map line_text (option_to_list (slice_get (reverse lines) at))) → string_bytes after ≡ string_bytes first ++ lines_text (reverse (take (at + 1) (reverse lines)))
one_more first before after lines at lt was puts =
    let within : at < length (reverse lines) = omega (arith, length-reverse lines) in
    puts ∙ ap (λ front. front ++ flat_map line_text (option_to_list (slice_get (reverse lines) at))) was
    ∙ append_assoc (string_bytes first) _ _
    ∙ ap (λ more. string_bytes first ++ more) (sym (lines_text_more (reverse lines) at within))
