-- No line feed stands in compact JSON, and what is shown is its own text.
use Rattle.std.proofs.Common.{◌≡◌, ◌&&◌, ◌||◌, ℕ, ◌+◌, ◌/◌, ◌%◌, ◌==◌, Bool, true, false, List, [], ◌∷◌, ◌++◌, Option, Some, None, cond, suc, pos, negsuc, refl, arith}
use Rattle.std.specs.Prelude.{⊤, nat_lt}
use Rattle.std.specs.Char.{digit_char}
use Rattle.std.specs.Str.{is_utf8, chars}
use Rattle.std.proofs.lemmas.Bool.{ne_eqb, ltb-false}
use Rattle.json.specs.Print.{escape_letter, escape_byte, escape, quoted}
use Rattle.json.specs.Json.{value}
use Rattle.json.specs.Lex.{punctuate, lex}
use Rattle.serde_json.specs.Data.{Num, unsigned, negative, float, Data, null, boolean, number, string, array, object, Items, no_items, item, Members, no_members, member}
use Rattle.serde_json.specs.Read.{read}
use Rattle.serde_json.specs.Written.{number_text, comma_if, compact_text, items_text, members_text}
use Rattle.apdu.specs.Words.{same_bytes}
use Rattle.report_reader.specs.Content.{is_whole, text_of, content}
use Rattle.report_reader.proofs.Parts.{Lacks, lacks_both, above, same_text}
use Rattle.report_reader.proofs.Readings.{Each, each_then, each_if}
use Rattle.report_reader.proofs.Numbers.{decimal_plain}

-- ---- escapes

-- each letter of a short escape is another byte
letter_plain : (x : ℕ) → (escape_letter x == 10) ≡ false
letter_plain x = by ((x == 34) || (x == 92)) (x == 8) (x == 12) (x == 10) (x == 13) (x == 9) refl
  where
    by : (a b c d e f : Bool) → ((x == 34) || (x == 92)) ≡ a → (cond a x (cond b 98 (cond c 102 (cond d 110 (cond e 114 (cond f 116 0))))) == 10) ≡ false
    by true b c d e f h = ne_eqb x 10 (λ same. let no : ((10 == 34) || (10 == 92)) ≡ true = rw same at h in absurd (cc))
    by false true c d e f h = refl
    by false false true d e f h = refl
    by false false false true e f h = refl
    by false false false false true f h = refl
    by false false false false false true h = refl
    by false false false false false false h = refl

-- a byte that has a short escape, or is a control, or stands for itself
escape_plain : (x : ℕ) → Lacks 10 (escape_byte x)
unfolding escape_byte
escape_plain x = by (nat_lt 0 (escape_letter x)) (nat_lt x 32) refl refl
  where
    digit_plain : (d : ℕ) → (digit_char d == 10) ≡ false
    digit_plain d = of (nat_lt d 10)
      where
        of : (low : Bool) → (cond low (48 + d) (87 + d) == 10) ≡ false
        of true = above 10 (48 + d) (omega arith)
        of false = above 10 (87 + d) (omega arith)

    by : (short control : Bool) → nat_lt 0 (escape_letter x) ≡ short → nat_lt x 32 ≡ control → Lacks 10 (cond short (92 ∷ escape_letter x ∷ []) (cond control (92 ∷ 117 ∷ 48 ∷ 48 ∷ digit_char (x / 16) ∷ digit_char (x % 16) ∷ []) (x ∷ [])))
    by true control h k = (refl, (letter_plain x, tt))
    by false true h k = (refl, (refl, (refl, (refl, (digit_plain (x / 16), (digit_plain (x % 16), tt))))))
    by false false h k = let high = ltb-false x 32 k in (above 10 x (omega (arith, high)), tt)

escaped_plain : (s : List ℕ) → Lacks 10 (escape s)
escaped_plain [] = tt
escaped_plain (x ∷ s) = lacks_both 10 (escape_byte x) (escape s) (escape_plain x) (escaped_plain s)

quoted_plain : (s : List ℕ) → Lacks 10 (quoted s)
quoted_plain s = (refl, lacks_both 10 (escape s) (34 ∷ []) (escaped_plain s) (refl, tt))

-- ---- values

number_plain : (n : Num) → Lacks 10 (number_text n)
number_plain (unsigned n) = decimal_plain 10 n (omega arith)
number_plain (negative (pos n)) = decimal_plain 10 n (omega arith)
number_plain (negative (negsuc n)) = (refl, decimal_plain 10 (suc n) (omega arith))
number_plain (float x) = tt

comma_plain : (later : Bool) → Lacks 10 (comma_if later)
comma_plain true = (refl, tt)
comma_plain false = tt

mutual
  pub json_plain : (d : Data) → Lacks 10 (compact_text d)
  json_plain null = (refl, (refl, (refl, (refl, tt))))
  json_plain (boolean true) = (refl, (refl, (refl, (refl, tt))))
  json_plain (boolean false) = (refl, (refl, (refl, (refl, (refl, tt)))))
  json_plain (number n) = number_plain n
  json_plain (string s) = quoted_plain s
  json_plain (array ds) = (refl, items_plain false ds)
  json_plain (object ms) = (refl, members_plain false ms)

  items_plain : (later : Bool) (ds : Items) → Lacks 10 (items_text later ds)
  items_plain later no_items = (refl, tt)
  items_plain later (item d ds) = lacks_both 10 (comma_if later) (compact_text d ++ items_text true ds) (comma_plain later) (lacks_both 10 (compact_text d) (items_text true ds) (json_plain d) (items_plain true ds))

  members_plain : (later : Bool) (ms : Members) → Lacks 10 (members_text later ms)
  members_plain later no_members = (refl, tt)
  members_plain later (member k d ms) = lacks_both 10 (comma_if later) (quoted k ++ 58 ∷ (compact_text d ++ members_text true ms)) (comma_plain later)
      (lacks_both 10 (quoted k) (58 ∷ (compact_text d ++ members_text true ms)) (quoted_plain k) (refl, lacks_both 10 (compact_text d) (members_text true ms) (json_plain d) (members_plain true ms)))

-- ---- what is shown

-- it is the text that was read, and has no line feed
pub content_spelled : (text : List ℕ) → Each (λ (shown : List ℕ). (shown ≡ text) × Lacks 10 shown) (content text)
content_spelled text =
    let P : List ℕ → Type 0 = λ shown. (shown ≡ text) × Lacks 10 shown in
    each_if P (is_utf8 text) _ None
    (λ utf8. each_then P (λ d. ⊤) (read text) (text_of text) (of_any (read text)) (λ d h.
    each_if P (is_whole d && same_bytes (compact_text d) text) (Some (compact_text d)) None
    (λ e. (same_text (compact_text d) text (second (is_whole d) (same_bytes (compact_text d) text) e), json_plain d))
    (λ e. tt)))
    (λ e. tt)
  where
    of_any : (o : Option Data) → Each (λ d. ⊤) o
    of_any None = tt
    of_any (Some d) = tt

    second : (a b : Bool) → (a && b) ≡ true → b ≡ true
    second true b h = h
    second false b h = absurd (cc)

-- something is shown
pub no_content : content [] ≡ None
unfolding is_utf8 chars value punctuate lex
no_content = refl
