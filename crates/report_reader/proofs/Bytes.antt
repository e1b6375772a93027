-- Hexadecimal, commands and responses, both ways.
use Rattle.std.proofs.Common.{◌≡◌, ◌≢◌, ℕ, ◌+◌, ◌-◌, ◌*◌, ◌/◌, ◌%◌, ◌<◌, ◌≤◌, ◌==◌, ◌||◌, Bool, true, false, List, [], ◌∷◌, ◌++◌, length, take, drop, Option, Some, None, Result, Ok, Err, cond, zero, suc, sym, subst, refl, ap, ◌∙◌, arith, take-append-drop, length-append, length-take, length-drop}
use Rattle.std.specs.Prelude.{slice_index, nat_lt}
use Rattle.std.proofs.Math.Seq.{take-append_seam, drop-append_seam}
use Rattle.std.proofs.lemmas.Bool.{or_parts, ne_eqb, eqb-false, eqb-true, ltb-false, ltb-true}
use Rattle.hex.specs.Hex.{IsBytes, decode_of, encode_upper, encode_with, upper_digits, hex_digit_value}
use Rattle.hex.specs.declared.error.FromHexError.{FromHexError}
use Rattle.hex.proofs.HexLemmas.{decode_of-encode_upper, decode_of-ok, IsDigits-upper_digits}
use Rattle.apdu.specs.Words.{two_bytes, pair_value}
use Rattle.apdu.specs.Values.{CommandValue, ResponseValue, HasLe}
use Rattle.apdu.specs.Apdu.{le_bytes, body_bytes, command_bytes, response_bytes, le_of_byte, read_le, with_last_le, read_body, read_behind, read_command, word_of, read_response}
use Rattle.apdu.specs.declared.command.ApduError.{ApduError}
use Rattle.apdu.specs.declared.command.ApduError.TheVariants.{BadLength, TooShort}
use Rattle.report_reader.specs.Words.{decoded, hex, only_byte, hex_byte, only_pair, hex_pair, accepted, command, response}
use Rattle.report_reader.specs.Ranges.{IsByte, AreBytes, IsWord, IsCommand, IsResponse}
use Rattle.report_reader.proofs.Parts.{same_text, same_self, Lacks}
use Rattle.report_reader.proofs.Readings.{Each, each_then, each_if}

-- ---- bytes

pub by_index : (bytes : List ℕ) → AreBytes bytes → IsBytes bytes
by_index [] h i = omega arith
by_index (b ∷ bytes) h zero = omega (arith, h.0)
by_index (b ∷ bytes) h (suc i) = by_index bytes h.1 i

pub by_recursion : (bytes : List ℕ) → IsBytes bytes → AreBytes bytes
by_recursion [] h = tt
by_recursion (b ∷ bytes) h = (let low = h 0 in omega (arith, low), by_recursion bytes (λ i. h (suc i)))

bytes_both : (xs ys : List ℕ) → AreBytes xs → AreBytes ys → AreBytes (xs ++ ys)
bytes_both [] ys h k = k
bytes_both (x ∷ xs) ys h k = (h.0, bytes_both xs ys h.1 k)

bytes_take : (n : ℕ) (xs : List ℕ) → AreBytes xs → AreBytes (take n xs)
bytes_take zero xs h = tt
bytes_take (suc n) [] h = tt
bytes_take (suc n) (x ∷ xs) h = (h.0, bytes_take n xs h.1)

bytes_drop : (n : ℕ) (xs : List ℕ) → AreBytes xs → AreBytes (drop n xs)
bytes_drop zero xs h = h
bytes_drop (suc n) [] h = tt
bytes_drop (suc n) (x ∷ xs) h = bytes_drop n xs h.1

-- ---- hexadecimal

pub hex_back : (bytes : List ℕ) → AreBytes bytes → hex (encode_upper bytes) ≡ Some bytes
hex_back bytes h = rw (decode_of-encode_upper bytes (by_index bytes h), same_self (encode_upper bytes)) refl

-- the bytes of which the word is the text
abbrev pub IsHex : List ℕ → List ℕ → Type 0
IsHex word bytes = AreBytes bytes × (encode_upper bytes ≡ word)

pub hex_spelled : (word : List ℕ) → Each (IsHex word) (hex word)
hex_spelled word = by (decode_of word) refl
  where
    by : (read : Result (List ℕ) FromHexError) → decode_of word ≡ read → Each (IsHex word) (decoded word read)
    by (Ok bytes) e = each_if (IsHex word) _ (Some bytes) None (λ same. (by_recursion bytes (decode_of-ok word bytes e).3, same_text (encode_upper bytes) word same)) (λ other. tt)
    by (Err error) e = tt

digit_plain : (at d : ℕ) → hex_digit_value at ≡ None → d < 16 → (slice_index upper_digits d == at) ≡ false
digit_plain at d other low = ne_eqb (slice_index upper_digits d) at (λ e.
    let found : hex_digit_value at ≡ Some d = subst (λ (x : ℕ). hex_digit_value x ≡ Some d) e (IsDigits-upper_digits d low) in cc)

pub hex_plain : (at : ℕ) (bytes : List ℕ) → hex_digit_value at ≡ None → AreBytes bytes → Lacks at (encode_upper bytes)
unfolding encode_with
hex_plain at [] other h = tt
hex_plain at (b ∷ bytes) other h = (digit_plain at (b / 16) other (omega (arith, h.0)), (digit_plain at (b % 16) other (omega arith), hex_plain at bytes other h.1))

pub hex_byte_back : (b : ℕ) → IsByte b → hex_byte (encode_upper (b ∷ [])) ≡ Some b
hex_byte_back b h = rw (hex_back (b ∷ []) (h, tt)) refl

pub hex_byte_spelled : (word : List ℕ) → Each (λ (b : ℕ). IsByte b × (encode_upper (b ∷ []) ≡ word)) (hex_byte word)
hex_byte_spelled word = each_then _ (IsHex word) (hex word) only_byte (hex_spelled word) only
  where
    only : (bytes : List ℕ) → IsHex word bytes → Each (λ (b : ℕ). IsByte b × (encode_upper (b ∷ []) ≡ word)) (only_byte bytes)
    only [] h = tt
    only (b ∷ []) h = (h.0.0, h.1)
    only (b ∷ other ∷ bytes) h = tt

pub are_two_bytes : (n : ℕ) → IsWord n → AreBytes (two_bytes n)
are_two_bytes n h = (omega (arith, h), (omega arith, tt))

pair_back : (n : ℕ) → pair_value (n / 256) (n % 256) ≡ n
pair_back n = omega arith

pair_spelled : (high low : ℕ) → IsByte high → IsByte low → IsWord (pair_value high low) × (two_bytes (pair_value high low) ≡ high ∷ low ∷ [])
pair_spelled high low h k =
    let front : (high * 256 + low) / 256 ≡ high = omega (arith, k) in
    let last : (high * 256 + low) % 256 ≡ low = omega (arith, k) in
    (omega (arith, h, k), rw (front, last) refl)

pub hex_pair_back : (n : ℕ) → IsWord n → hex_pair (encode_upper (two_bytes n)) ≡ Some n
hex_pair_back n h = rw (hex_back (two_bytes n) (are_two_bytes n h), pair_back n) refl

pub hex_pair_spelled : (word : List ℕ) → Each (λ (n : ℕ). IsWord n × (encode_upper (two_bytes n) ≡ word)) (hex_pair word)
hex_pair_spelled word = each_then _ (IsHex word) (hex word) only_pair (hex_spelled word) only
  where
    only : (bytes : List ℕ) → IsHex word bytes → Each (λ (n : ℕ). IsWord n × (encode_upper (two_bytes n) ≡ word)) (only_pair bytes)
    only [] h = tt
    only (b ∷ []) h = tt
    only (b ∷ d ∷ []) h =
        let pair = pair_spelled b d h.0.0 h.0.1.0 in
        (pair.0, ap encode_upper pair.1 ∙ h.1)
    only (b ∷ d ∷ other ∷ bytes) h = tt

-- ---- commands

not_less : (a b : ℕ) → b ≤ a → nat_lt a b ≡ false
not_less a b h = by (nat_lt a b) refl
  where
    by : (test : Bool) → nat_lt a b ≡ test → test ≡ false
    by true e = let k = ltb-true a b e in absurd (omega (arith, k, h))
    by false e = refl

abbrev command_of : ℕ → ℕ → ℕ → ℕ → List ℕ → Option ℕ → CommandValue
command_of class ins p1 p2 body le = record { class = class; ins = ins; p1 = p1; p2 = p2; body = body; le = le }

le_back : (n : ℕ) → HasLe (Some n) → le_of_byte (n % 256) ≡ n
le_back n h = by (n % 256 == 0) refl
  where
    by : (test : Bool) → (n % 256 == 0) ≡ test → cond test 256 (n % 256) ≡ n
    by true e =
        let none : n % 256 ≡ 0 = eqb-true (n % 256) 0 e in
        omega (arith, none, h.0, h.1)
    by false e =
        let some : n % 256 ≢ 0 = eqb-false (n % 256) 0 e in
        omega (arith, some, h.0, h.1)

read_le_back : (le : Option ℕ) → HasLe le → read_le (le_bytes le) ≡ Some le
read_le_back None h = refl
read_le_back (Some n) h = rw (le_back n h) refl

read_body_back : (c : CommandValue) (lc : ℕ) (body : List ℕ) (le : Option ℕ) → HasLe le → length body ≡ lc → 1 ≤ lc → read_body c lc (body ++ le_bytes le) ≡ Ok (record c { body = body; le = le })
read_body_back c lc body le h same some =
    let front : take lc (body ++ le_bytes le) ≡ body = ap (λ (n : ℕ). take n (body ++ le_bytes le)) (sym same) ∙ take-append_seam body (le_bytes le) in
    let behind : drop lc (body ++ le_bytes le) ≡ le_bytes le = ap (λ (n : ℕ). drop n (body ++ le_bytes le)) (sym same) ∙ drop-append_seam body (le_bytes le) in
    let enough : nat_lt (length (body ++ le_bytes le)) lc ≡ false = not_less (length (body ++ le_bytes le)) lc (omega (arith, length-append body (le_bytes le), same)) in
    rw (ne_eqb lc 0 (λ e. omega (arith, e, some)), enough, front, behind, read_le_back le h) refl

command_back_of : (class ins p1 p2 : ℕ) (body : List ℕ) (le : Option ℕ) → HasLe le → read_command (command_bytes (command_of class ins p1 p2 body le)) ≡ Ok (command_of class ins p1 p2 body le)
command_back_of class ins p1 p2 [] None h = refl
command_back_of class ins p1 p2 [] (Some n) h = rw (le_back n h) refl
command_back_of class ins p1 p2 (b ∷ body) le h = read_body_back (command_of class ins p1 p2 [] None) (length (b ∷ body)) (b ∷ body) le h refl (omega arith)

are_le_bytes : (le : Option ℕ) → AreBytes (le_bytes le)
are_le_bytes None = tt
are_le_bytes (Some n) = (omega arith, tt)

are_body_bytes : (body : List ℕ) → AreBytes body → length body ≤ 255 → AreBytes (body_bytes body)
are_body_bytes [] h few = tt
are_body_bytes (b ∷ body) h few = (few, h)

pub are_command_bytes : (c : CommandValue) → IsCommand c → AreBytes (command_bytes c)
are_command_bytes c h = (h.class, (h.ins, (h.p1, (h.p2, bytes_both (body_bytes c.body) (le_bytes c.le) (are_body_bytes c.body h.body h.len) (are_le_bytes c.le)))))

pub command_back : (c : CommandValue) → IsCommand c → command (encode_upper (command_bytes c)) ≡ Some c
command_back c h = rw (hex_back (command_bytes c) (are_command_bytes c h), command_back_of c.class c.ins c.p1 c.p2 c.body c.le h.le) refl

-- the command of these bytes
abbrev IsReadOf : List ℕ → CommandValue → Type 0
IsReadOf bytes c = IsCommand c × (command_bytes c ≡ bytes)

le_spelled : (b : ℕ) → IsByte b → HasLe (Some (le_of_byte b)) × (le_of_byte b % 256 ≡ b)
le_spelled b h = by (b == 0) refl
  where
    by : (test : Bool) → (b == 0) ≡ test → ((1 ≤ cond test 256 b) × (cond test 256 b ≤ 256)) × (cond test 256 b % 256 ≡ b)
    by true e =
        let none : b ≡ 0 = eqb-true b 0 e in
        ((omega arith, omega arith), omega (arith, none))
    by false e =
        let some : b ≢ 0 = eqb-false b 0 e in
        ((omega (arith, some), omega (arith, h)), omega (arith, h))

body_some : (lc : ℕ) (body : List ℕ) → length body ≡ lc → 1 ≤ lc → body_bytes body ≡ lc ∷ body
body_some lc [] same some = absurd (omega (arith, same, some))
body_some lc (b ∷ body) same some = ap (λ (n : ℕ). n ∷ b ∷ body) same

module _ (class ins p1 p2 : ℕ) (are_bytes : AreBytes (class ∷ ins ∷ p1 ∷ p2 ∷ [])) where
  fits : (body : List ℕ) (le : Option ℕ) → AreBytes body → length body ≤ 255 → HasLe le → IsCommand (command_of class ins p1 p2 body le)
  fits body le h few k = record { class = are_bytes.0; ins = are_bytes.1.0; p1 = are_bytes.1.1.0; p2 = are_bytes.1.1.1.0; body = h; len = few; le = k }

  body_spelled : (lc : ℕ) (rest : List ℕ) → IsByte lc → AreBytes rest → Each (IsReadOf (class ∷ ins ∷ p1 ∷ p2 ∷ lc ∷ rest)) (accepted (read_body (command_of class ins p1 p2 [] None) lc rest))
  body_spelled lc rest byte h = by ((lc == 0) || nat_lt (length rest) lc) refl
    where
      error : ApduError
      error = BadLength lc (5 + length rest)

      front : List ℕ
      front = take lc rest

      last : (le : Option ℕ) (behind : List ℕ) → HasLe le → le_bytes le ≡ behind → drop lc rest ≡ behind → length front ≡ lc → 1 ≤ lc → IsReadOf (class ∷ ins ∷ p1 ∷ p2 ∷ lc ∷ rest) (command_of class ins p1 p2 front le)
      last le behind k written same len some =
          let whole : body_bytes front ++ le_bytes le ≡ lc ∷ rest = ap (λ (xs : List ℕ). xs ++ le_bytes le) (body_some lc front len some) ∙ ap (λ (xs : List ℕ). lc ∷ (front ++ xs)) (written ∙ sym same) ∙ ap (λ (xs : List ℕ). lc ∷ xs) (take-append-drop lc rest) in
          (fits front le (bytes_take lc rest h) (omega (arith, len, byte)) k, ap (λ (xs : List ℕ). class ∷ ins ∷ p1 ∷ p2 ∷ xs) whole)

      behind_spelled : (behind : List ℕ) → AreBytes behind → drop lc rest ≡ behind → length front ≡ lc → 1 ≤ lc → Each (IsReadOf (class ∷ ins ∷ p1 ∷ p2 ∷ lc ∷ rest)) (accepted (with_last_le (command_of class ins p1 p2 front None) error (read_le behind)))
      behind_spelled [] bytes same len some = last None [] tt refl same len some
      behind_spelled (b ∷ []) bytes same len some =
          let le = le_spelled b bytes.0 in
          last (Some (le_of_byte b)) (b ∷ []) le.0 (ap (λ (x : ℕ). x ∷ []) le.1) same len some
      behind_spelled (b ∷ d ∷ more) bytes same len some = tt

      by : (test : Bool) → ((lc == 0) || nat_lt (length rest) lc) ≡ test → Each (IsReadOf (class ∷ ins ∷ p1 ∷ p2 ∷ lc ∷ rest)) (accepted (cond test (Err error) (with_last_le (command_of class ins p1 p2 front None) error (read_le (drop lc rest)))))
      by true e = tt
      by false e =
          let parts = or_parts (lc == 0) (nat_lt (length rest) lc) e in
          let some : lc ≢ 0 = eqb-false lc 0 parts.0 in
          let enough = ltb-false (length rest) lc parts.1 in
          behind_spelled (drop lc rest) (bytes_drop lc rest h) refl (omega (arith, length-take lc rest, enough)) (omega (arith, some))

  rest_spelled : (rest : List ℕ) → AreBytes rest → Each (IsReadOf (class ∷ ins ∷ p1 ∷ p2 ∷ rest)) (accepted (read_behind (command_of class ins p1 p2 [] None) rest))
  rest_spelled [] h = (fits [] None tt (omega arith) tt, refl)
  rest_spelled (b ∷ []) h =
      let le = le_spelled b h.0 in
      (fits [] (Some (le_of_byte b)) tt (omega arith) le.0, ap (λ (x : ℕ). class ∷ ins ∷ p1 ∷ p2 ∷ x ∷ []) le.1)
  rest_spelled (lc ∷ b ∷ rest) h = body_spelled lc (b ∷ rest) h.0 h.1

read_spelled : (bytes : List ℕ) → AreBytes bytes → Each (IsReadOf bytes) (accepted (read_command bytes))
read_spelled [] h = tt
read_spelled (class ∷ []) h = tt
read_spelled (class ∷ ins ∷ []) h = tt
read_spelled (class ∷ ins ∷ p1 ∷ []) h = tt
read_spelled (class ∷ ins ∷ p1 ∷ p2 ∷ rest) h = rest_spelled class ins p1 p2 (h.0, (h.1.0, (h.1.1.0, (h.1.1.1.0, tt)))) rest h.1.1.1.1

pub command_spelled : (word : List ℕ) → Each (λ (c : CommandValue). IsCommand c × (encode_upper (command_bytes c) ≡ word)) (command word)
command_spelled word = each_then _ (IsHex word) (hex word) _ (hex_spelled word) (λ bytes h.
    each_with bytes (read_command bytes) (read_spelled bytes h.0) h.1)
  where
    each_with : (bytes : List ℕ) (read : Result CommandValue ApduError) → Each (IsReadOf bytes) (accepted read) → encode_upper bytes ≡ word → Each (λ (c : CommandValue). IsCommand c × (encode_upper (command_bytes c) ≡ word)) (accepted read)
    each_with bytes (Ok c) h same = (h.0, ap encode_upper h.1 ∙ same)
    each_with bytes (Err error) h same = tt

-- ---- responses

response_back_of : (body : List ℕ) (sw : ℕ) → length body ≤ 256 → read_response (body ++ two_bytes sw) ≡ Ok (record { body = body; sw = sw })
response_back_of body sw few =
    let len : length (body ++ two_bytes sw) ≡ length body + 2 = length-append body (two_bytes sw) in
    let same : length (body ++ two_bytes sw) - 2 ≡ length body = omega (arith, len) in
    let front : take (length (body ++ two_bytes sw) - 2) (body ++ two_bytes sw) ≡ body = ap (λ (n : ℕ). take n (body ++ two_bytes sw)) same ∙ take-append_seam body (two_bytes sw) in
    let behind : drop (length (body ++ two_bytes sw) - 2) (body ++ two_bytes sw) ≡ two_bytes sw = ap (λ (n : ℕ). drop n (body ++ two_bytes sw)) same ∙ drop-append_seam body (two_bytes sw) in
    rw (not_less (length (body ++ two_bytes sw)) 2 (omega (arith, len)), not_less 258 (length (body ++ two_bytes sw)) (omega (arith, len, few)), front, behind, pair_back sw) refl

pub are_response_bytes : (r : ResponseValue) → IsResponse r → AreBytes (response_bytes r)
are_response_bytes r h = bytes_both r.body (two_bytes r.sw) h.body (are_two_bytes r.sw h.sw)

pub response_back : (r : ResponseValue) → IsResponse r → response (encode_upper (response_bytes r)) ≡ Some r
response_back r h = rw (hex_back (response_bytes r) (are_response_bytes r h), response_back_of r.body r.sw h.len) refl

-- the response of these bytes
abbrev IsAnsweredBy : List ℕ → ResponseValue → Type 0
IsAnsweredBy bytes r = IsResponse r × (response_bytes r ≡ bytes)

last_pair : (bytes : List ℕ) → AreBytes bytes → length bytes ≡ 2 → IsWord (word_of bytes) × (two_bytes (word_of bytes) ≡ bytes)
last_pair [] h len = absurd (omega (arith, len))
last_pair (b ∷ []) h len = absurd (omega (arith, len))
last_pair (b ∷ d ∷ []) h len = pair_spelled b d h.0 h.1.0
last_pair (b ∷ d ∷ e ∷ bytes) h len = absurd (omega (arith, len))

response_read : (bytes : List ℕ) → AreBytes bytes → Each (IsAnsweredBy bytes) (accepted (read_response bytes))
response_read bytes h = by (nat_lt (length bytes) 2) (nat_lt 258 (length bytes)) refl refl
  where
    front : List ℕ
    front = take (length bytes - 2) bytes

    behind : List ℕ
    behind = drop (length bytes - 2) bytes

    by : (few many : Bool) → nat_lt (length bytes) 2 ≡ few → nat_lt 258 (length bytes) ≡ many → Each (IsAnsweredBy bytes) (accepted (cond few (Err (TooShort (length bytes))) (cond many (Err (BadLength 256 (length bytes))) (Ok (record { body = front; sw = word_of behind })))))
    by true many e k = tt
    by false true e k = tt
    by false false e k =
        let low = ltb-false (length bytes) 2 e in
        let high = ltb-false 258 (length bytes) k in
        let pair = last_pair behind (bytes_drop (length bytes - 2) bytes h) (omega (arith, length-drop (length bytes - 2) bytes, low)) in
        (record { body = bytes_take (length bytes - 2) bytes h; len = omega (arith, length-take (length bytes - 2) bytes, high); sw = pair.0 }, ap (λ (xs : List ℕ). front ++ xs) pair.1 ∙ take-append-drop (length bytes - 2) bytes)

pub response_spelled : (word : List ℕ) → Each (λ (r : ResponseValue). IsResponse r × (encode_upper (response_bytes r) ≡ word)) (response word)
response_spelled word = each_then _ (IsHex word) (hex word) _ (hex_spelled word) (λ bytes h.
    each_with bytes (read_response bytes) (response_read bytes h.0) h.1)
  where
    each_with : (bytes : List ℕ) (read : Result ResponseValue ApduError) → Each (IsAnsweredBy bytes) (accepted read) → encode_upper bytes ≡ word → Each (λ (r : ResponseValue). IsResponse r × (encode_upper (response_bytes r) ≡ word)) (accepted read)
    each_with bytes (Ok r) h same = (h.0, ap encode_upper h.1 ∙ same)
    each_with bytes (Err error) h same = tt
