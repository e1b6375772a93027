-- One line more is read.
use Rattle.std.proofs.Common.{◌≡◌, ℕ, ◌+◌, ◌-◌, ◌≤◌, ◌==◌, false, List, [], ◌∷◌, length, take, drop, get_or, Ok, refl, sym, ap, ◌∙◌, arith, codes}
use Rattle.std.proofs.lemmas.List.{take_all}
use denote.Ref.{Bor}
use Rattle.apdu.specs.Words.{same_bytes}
use Rattle.script_reader.specs.declared.types.Script.{Script}
use Rattle.report.specs.declared.line.Line.{Line}
use Rattle.report_reader.specs.Reads.{texts}
use Rattle.report_reader.specs.Reports.{lines_from, with_line}

-- what stands behind the first
behind : {A : Type 0} (x : A) (xs : List A) → take (length (x ∷ xs) - 1) (drop 1 (x ∷ xs)) ≡ xs
behind x xs = take_all (length (x ∷ xs) - 1) xs (omega arith)

one_behind : {A : Type 0} (xs : List A) → 1 ≤ length xs → length (take (length xs - 1) (drop 1 xs)) + 1 ≡ length xs
one_behind [] h = absurd (omega (arith, h))
one_behind (x ∷ xs) h = let e = ap (λ (ys : List _). length ys) (behind x xs) in omega (arith, e)

pub one_less : {A : Type 0} (n : ℕ) (xs : List A) (m : ℕ) → 1 ≤ length xs → n + length xs ≡ m → (n + 1) + length (take (length xs - 1) (drop 1 xs)) ≡ m
one_less n xs m h e = omega (arith, one_behind xs h, e)

next_of : (s : Script) (number : ℕ) (earlier new : List Line) (text : Bor (List ℕ)) (rest : List (Bor (List ℕ))) → (length rest == 0) ≡ false → same_bytes text.now (codes "end") ≡ false → with_line s number text.now earlier ≡ Ok new
    → lines_from s number earlier (texts (text ∷ rest)) ≡ lines_from s (number + 1) new (texts rest)
next_of s number earlier new text [] some plain line = absurd (cc)
next_of s number earlier new text (next ∷ rest) some plain line = rw (plain, line) refl

-- the first of the rest is a line, and something stands behind it
pub next_line : (s : Script) (number : ℕ) (earlier new : List Line) (rest : List (Bor (List ℕ))) (d : Bor (List ℕ)) → 1 ≤ length rest → (length (take (length rest - 1) (drop 1 rest)) == 0) ≡ false → same_bytes (get_or rest 0 d).now (codes "end") ≡ false
    → with_line s number (get_or rest 0 d).now earlier ≡ Ok new → lines_from s number earlier (texts rest) ≡ lines_from s (number + 1) new (texts (take (length rest - 1) (drop 1 rest)))
next_line s number earlier new [] d one some plain line = absurd (omega (arith, one))
next_line s number earlier new (text ∷ rest) d one some plain line =
    let same = behind text rest in
    next_of s number earlier new text rest (ap (λ (xs : List _). length xs == 0) (sym same) ∙ some) plain line
    ∙ ap (λ (xs : List _). lines_from s (number + 1) new (texts xs)) (sym same)
