-- The state behind the lines is the world behind them and what is kept of them.
use Rattle.std.proofs.Common.{◌≡◌, List, [], ◌∷◌, refl, ap, ◌∙◌}
use Rattle.script_reader.specs.declared.types.Script.{Script}
use Rattle.report.specs.declared.line.Line.{Line}
use Rattle.rules.specs.declared.kept.Kept.{Kept}
use Rattle.rules.specs.After.{kept_after, kept_of}
use Rattle.rules.specs.State.{world_after, world_of, boards_after, boards_of, texts_after, texts_of, state_of}

pub state_world : (s : Script) (lines : List Line) → (state_of s lines).world ≡ world_of s lines
state_world s [] = refl
state_world s (l ∷ earlier) = ap (world_after l) (state_world s earlier)

pub state_kept : (s : Script) (lines : List Line) → (state_of s lines).kept ≡ kept_of s lines
state_kept s [] = refl
state_kept s (l ∷ earlier) = ap (kept_after s l) (state_kept s earlier)

pub state_boards : (s : Script) (lines : List Line) → (state_of s lines).boards ≡ boards_of s lines
state_boards s [] = refl
state_boards s (l ∷ earlier) =
    ap (λ (k : Kept). boards_after l (kept_after s l k) (state_of s earlier).boards) (state_kept s earlier)
    ∙ ap (boards_after l (kept_after s l (kept_of s earlier))) (state_boards s earlier)

pub state_texts : (s : Script) (lines : List Line) → (state_of s lines).texts ≡ texts_of lines
state_texts s [] = refl
state_texts s (l ∷ earlier) = ap (texts_after l) (state_texts s earlier)
