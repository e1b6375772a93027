-- Words that are spelt as those of a command.
use Rattle.std.proofs.Common.{◌≡◌, ℕ, ◌==◌, Bool, true, false, not, refl, sym, List, [], ◌∷◌, None, true≢false}
use Rattle.std.specs.Str.{bytes_eq}
use Rattle.clap.specs.Lexer.{strip_byte}
use Rattle.subcommands.specs.Spelling.{spells_name}

not_true : (b : Bool) → not b ≡ true → b ≡ false
not_true true e = absurd (true≢false (sym e))
not_true false e = refl

pub no_hyphen : (word : List ℕ) → spells_name word ≡ true → strip_byte 45 word ≡ None
no_hyphen [] e = refl
no_hyphen (c ∷ cs) e =
    let other : (c == 45) ≡ false = not_true (c == 45) e in
    rw other refl

pub no_hyphens : (word : List ℕ) → spells_name word ≡ true → bytes_eq word (45 ∷ 45 ∷ []) ≡ false
no_hyphens [] e = refl
no_hyphens (c ∷ cs) e =
    let other : (c == 45) ≡ false = not_true (c == 45) e in
    rw other refl
