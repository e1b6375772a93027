-- The words of numbers, rows and families, both ways.
use Rattle.std.proofs.Common.{◌≡◌, ℕ, ◌<◌, ◌==◌, not, Bool, true, false, List, [], ◌∷◌, ◌++◌, map, Option, Some, None, IfSome, decimal, zero, suc, sym, refl, ap, ◌∙◌, arith, append-nil, codes}
use Rattle.std.specs.Prelude.{flat_map, option_map}
use Rattle.std.specs.List.{AllByRecursion, list_all}
use Rattle.std.proofs.lemmas.Bool.{and_parts}
use Rattle.apdu.specs.Words.{same_bytes}
use Rattle.script_writer.specs.Writing.{family_name}
use Rattle.report.specs.Texts.{optional_text, rows_text, acted_text}
use Rattle.report_reader.specs.Reads.{all_of}
use Rattle.report_reader.specs.Words.{parts_of, words_of, byte, number, optional, rows, family}
use Rattle.report_reader.specs.Lines.{place, acted_of}
use Rattle.report_reader.specs.Ranges.{IsByte, AreBytes, IsPlace, IsNumber, IsFamily}
use Rattle.report_reader.proofs.Parts.{Lacks, lacks_both, above, last_part, next_part, joined, join_parts, HasFirst, parts_some}
use Rattle.report_reader.proofs.Readings.{Each, each_then, each_made, each_as, each_word}
use Rattle.report_reader.proofs.Numbers.{number_back, number_spelled, decimal_plain}

-- ---- texts that are written out

-- the byte does not stand in a text that is written out
pub by_test : (at : ℕ) (text : List ℕ) → list_all (λ b. not (b == at)) text ≡ true → Lacks at text
by_test at [] h = tt
by_test at (b ∷ text) h =
    let parts = and_parts (not (b == at)) (list_all (λ (x : ℕ). not (x == at)) text) h in
    (other (b == at) parts.0, by_test at text parts.1)
  where
    other : (same : Bool) → not same ≡ true → same ≡ false
    other true e = absurd (cc)
    other false e = refl

-- ---- numbers

pub byte_back : (n : ℕ) → IsByte n → byte (decimal n) ≡ Some n
byte_back n h = number_back 255 n (omega arith) h

pub place_back : (n : ℕ) → IsPlace n → place (decimal n) ≡ Some n
place_back n h = number_back 4294967295 n (omega arith) h

pub any_back : (n : ℕ) → IsNumber n → number (decimal n) ≡ Some n
any_back n h = number_back 18446744073709551615 n (omega arith) h

-- the number that the word writes
abbrev pub IsWritten : (ℕ → Type 0) → List ℕ → ℕ → Type 0
IsWritten In word n = In n × (decimal n ≡ word)

pub byte_spelled : (word : List ℕ) → Each (IsWritten IsByte word) (byte word)
byte_spelled word = number_spelled 255 word (omega arith)

pub place_spelled : (word : List ℕ) → Each (IsWritten IsPlace word) (place word)
place_spelled word = number_spelled 4294967295 word (omega arith)

pub any_spelled : (word : List ℕ) → Each (IsWritten IsNumber word) (number word)
any_spelled word = number_spelled 18446744073709551615 word (omega arith)

-- a number that is the last word, or has others behind it
pub last_number : (n : ℕ) → words_of (decimal n) ≡ decimal n ∷ []
last_number n = last_part 32 (decimal n) (decimal_plain 32 n (omega arith))

pub next_number : (n : ℕ) (rest : List ℕ) → words_of (decimal n ++ 32 ∷ rest) ≡ decimal n ∷ words_of rest
next_number n rest = next_part 32 (decimal n) rest (decimal_plain 32 n (omega arith))

-- ---- a number or none

abbrev pub optional_word : Option ℕ → List ℕ
optional_word None = codes "-"
optional_word (Some n) = decimal n

pub optional_is : (k : Option ℕ) → optional_text k ≡ 32 ∷ optional_word k
optional_is None = refl
optional_is (Some n) = refl

pub optional_plain : (at : ℕ) (k : Option ℕ) → at < 45 → Lacks at (optional_word k)
optional_plain at None low = (above at 45 low, tt)
optional_plain at (Some n) low = decimal_plain at n (omega (arith, low))

no_dash : (word : List ℕ) → Lacks 45 word → same_bytes word (codes "-") ≡ false
no_dash [] h = refl
no_dash (b ∷ word) h = rw h.0 refl

pub optional_back : (k : Option ℕ) → IfSome k IsNumber → optional (optional_word k) ≡ Some k
optional_back None h = refl
optional_back (Some n) h = rw (no_dash (decimal n) (decimal_plain 45 n (omega arith)), any_back n h) refl

pub optional_spelled : (word : List ℕ) → Each (λ (k : Option ℕ). IfSome k IsNumber × (optional_word k ≡ word)) (optional word)
optional_spelled word =
    let P : Option ℕ → Type 0 = λ k. IfSome k IsNumber × (optional_word k ≡ word) in
    each_word P word (codes "-") (Some None) (option_map Some (number word)) (λ e. (tt, sym e))
    (each_made P (IsWritten IsNumber word) (number word) Some (any_spelled word) (λ n h. h))

-- ---- numbers with a byte between them

abbrev pub listed : ℕ → ℕ → List ℕ → List ℕ
listed at first numbers = decimal first ++ flat_map (λ n. at ∷ decimal n) numbers

pub listed_parts : (at first : ℕ) (numbers : List ℕ) → at < 48 → parts_of at (listed at first numbers) ≡ decimal first ∷ map decimal numbers
listed_parts at first [] low = rw (append-nil (decimal first)) (last_part at (decimal first) (decimal_plain at first low))
listed_parts at first (n ∷ numbers) low =
    next_part at (decimal first) (listed at n numbers) (decimal_plain at first low)
    ∙ ap (λ (ws : List (List ℕ)). decimal first ∷ ws) (listed_parts at n numbers low)

pub listed_joined : (at first : ℕ) (numbers : List ℕ) → joined at (decimal first ∷ map decimal numbers) ≡ listed at first numbers
listed_joined at first [] = sym (append-nil (decimal first))
listed_joined at first (n ∷ numbers) = ap (λ (xs : List ℕ). decimal first ++ at ∷ xs) (listed_joined at n numbers)

behind_plain : (at other : ℕ) (numbers : List ℕ) → (other == at) ≡ false → at < 48 → Lacks at (flat_map (λ n. other ∷ decimal n) numbers)
behind_plain at other [] h low = tt
behind_plain at other (n ∷ numbers) h low = (h, lacks_both at (decimal n) (flat_map (λ k. other ∷ decimal k) numbers) (decimal_plain at n low) (behind_plain at other numbers h low))

pub listed_plain : (at other first : ℕ) (numbers : List ℕ) → (other == at) ≡ false → at < 48 → Lacks at (listed other first numbers)
listed_plain at other first numbers h low = lacks_both at (decimal first) (flat_map (λ n. other ∷ decimal n) numbers) (decimal_plain at first low) (behind_plain at other numbers h low)

-- each is read back from its digits
pub all_back : (read : List ℕ → Option ℕ) (numbers : List ℕ) → AllByRecursion (λ n. read (decimal n) ≡ Some n) numbers → all_of read (map decimal numbers) ≡ Some numbers
all_back read [] h = refl
all_back read (n ∷ numbers) h = rw (h.0, all_back read numbers h.1) refl

-- what is read of each is written by it
pub all_spelled : (In : ℕ → Type 0) (read : List ℕ → Option ℕ) → ((word : List ℕ) → Each (IsWritten In word) (read word)) → (words : List (List ℕ)) → Each (λ (ns : List ℕ). AllByRecursion In ns × (map decimal ns ≡ words)) (all_of read words)
all_spelled In read spelled [] = (tt, refl)
all_spelled In read spelled (word ∷ words) =
    let P : List ℕ → Type 0 = λ ns. AllByRecursion In ns × (map decimal ns ≡ word ∷ words) in
    each_then P (IsWritten In word) (read word) _ (spelled word) (λ n h.
    each_then P (λ (ns : List ℕ). AllByRecursion In ns × (map decimal ns ≡ words)) (all_of read words) _ (all_spelled In read spelled words) (λ ns k.
    ((h.0, k.0), rw (h.1, k.1) refl)))

-- ---- rows

abbrev pub rows_word : List ℕ → List ℕ
rows_word [] = codes "-"
rows_word (row ∷ more) = listed 44 row more

pub rows_is : (left : List ℕ) → rows_text left ≡ 32 ∷ rows_word left
rows_is [] = refl
rows_is (row ∷ more) = refl

pub rows_plain : (at : ℕ) (left : List ℕ) → at < 44 → Lacks at (rows_word left)
rows_plain at [] low = (above at 45 (omega (arith, low)), tt)
rows_plain at (row ∷ more) low = listed_plain at 44 row more (above at 44 low) (omega (arith, low))

bytes_back : (left : List ℕ) → AreBytes left → AllByRecursion (λ n. byte (decimal n) ≡ Some n) left
bytes_back [] h = tt
bytes_back (row ∷ left) h = (byte_back row h.0, bytes_back left h.1)

pub rows_back : (left : List ℕ) → AreBytes left → rows (rows_word left) ≡ Some left
rows_back [] h = refl
rows_back (row ∷ more) h = rw (no_dash (listed 44 row more) (listed_plain 45 44 row more refl (omega arith)), listed_parts 44 row more (omega arith)) (all_back byte (row ∷ more) (bytes_back (row ∷ more) h))

pub rows_spelled : (word : List ℕ) → Each (λ (left : List ℕ). AreBytes left × (rows_word left ≡ word)) (rows word)
rows_spelled word =
    let P : List ℕ → Type 0 = λ left. AreBytes left × (rows_word left ≡ word) in
    let Q : List ℕ → Type 0 = λ left. AreBytes left × (map decimal left ≡ parts_of 44 word) in
    each_word P word (codes "-") (Some []) (all_of byte (parts_of 44 word)) (λ e. (tt, sym e)) (each_as P Q (all_of byte (parts_of 44 word)) (all_spelled IsByte byte byte_spelled (parts_of 44 word)) rest)
  where
    some_part : HasFirst (parts_of 44 word)
    some_part = parts_some 44 word

    rest : (left : List ℕ) → AreBytes left × (map decimal left ≡ parts_of 44 word) → AreBytes left × (rows_word left ≡ word)
    rest [] h =
        let none : HasFirst {A = List ℕ} [] = rw (sym h.1) at some_part in
        absurd none
    rest (row ∷ more) h = (h.0, sym (listed_joined 44 row more) ∙ ap (joined 44) h.1 ∙ join_parts 44 word)

-- ---- families, and whether the card acted

pub family_back : (f : ℕ) → IsFamily f → family (family_name f) ≡ Some f
family_back zero h = refl
family_back (suc zero) h = refl
family_back (suc (suc zero)) h = refl
family_back (suc (suc (suc f))) h = absurd (omega (arith, h))

pub family_spelled : (word : List ℕ) → Each (λ (f : ℕ). IsFamily f × (family_name f ≡ word)) (family word)
family_spelled word =
    let P : ℕ → Type 0 = λ f. IsFamily f × (family_name f ≡ word) in
    each_word P word (codes "records") _ _ (λ e. (omega arith, sym e))
    (each_word P word (codes "phonebook") _ _ (λ e. (omega arith, sym e))
    (each_word P word (codes "fixed") _ _ (λ e. (omega arith, sym e)) tt))

pub family_plain : (f : ℕ) → IsFamily f → Lacks 32 (family_name f) × Lacks 10 (family_name f)
family_plain zero h = (by_test 32 (codes "records") refl, by_test 10 (codes "records") refl)
family_plain (suc zero) h = (by_test 32 (codes "phonebook") refl, by_test 10 (codes "phonebook") refl)
family_plain (suc (suc zero)) h = (by_test 32 (codes "fixed") refl, by_test 10 (codes "fixed") refl)
family_plain (suc (suc (suc f))) h = absurd (omega (arith, h))

pub acted_spelled : (word : List ℕ) → Each (λ (acted : Bool). acted_text acted ≡ 32 ∷ word) (acted_of word)
acted_spelled word =
    let P : Bool → Type 0 = λ acted. acted_text acted ≡ 32 ∷ word in
    each_word P word (codes "1") _ _ (λ e. rw e refl)
    (each_word P word (codes "0") _ _ (λ e. rw e refl) tt)
