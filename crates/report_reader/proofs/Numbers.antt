-- Numbers and their digits, both ways.
use Rattle.std.proofs.Common.{◌≡◌, ℕ, ◌+◌, ◌-◌, ◌*◌, ◌/◌, ◌%◌, ◌^◌, ◌<◌, ◌≤◌, ◌==◌, Bool, true, false, List, [], ◌∷◌, ◌++◌, Option, Some, None, cond, ⊎_elim, decimal, zero, suc, sym, refl, ap, ◌∙◌, arith, append_assoc, append-nil}
use Rattle.std.specs.Prelude.{nat_le, nat_lt}
use Rattle.std.specs.Fmt.{digits, digits_onto, digit_glyph, radix_digits}
use Rattle.std.proofs.lemmas.Bool.{and_parts, le-leb, leb-true, lt-ltb, ltb-true, ltb-false, ne_eqb, eq-eqb, eqb-true, cases_lt}
use Rattle.std.proofs.lemmas.Fmt.{decimal_step, decimal_digit, hex_one_digit}
use Rattle.apdu.specs.Words.{is_between, is_empty}
use Rattle.report_reader.specs.Reads.{◌>>=◌}
use Rattle.report_reader.specs.Words.{digit_of, at_most, with_digit, number_behind, has_leading_zero, number_in, number_to, character}
use Rattle.report_reader.specs.Ranges.{IsCharacter}
use Rattle.report_reader.proofs.Parts.{Lacks, above}
use Rattle.report_reader.proofs.Readings.{Each, each_then, each_if}

-- ---- readings in order

some_bind : (o : Option ℕ) → (o >>= λ m. Some m) ≡ o
some_bind None = refl
some_bind (Some m) = refl

bind_same : (o : Option ℕ) (f g : ℕ → Option ℕ) → ((m : ℕ) → f m ≡ g m) → (o >>= f) ≡ (o >>= g)
bind_same None f g h = refl
bind_same (Some m) f g h = h m

bind_twice : (o : Option ℕ) (f g : ℕ → Option ℕ) → (o >>= λ m. f m >>= g) ≡ ((o >>= f) >>= g)
bind_twice None f g = refl
bind_twice (Some m) f g = refl

-- what digits write, and then one more
behind_push : (base limit n : ℕ) (bytes : List ℕ) (b : ℕ) → number_behind base limit n (bytes ++ b ∷ []) ≡ (number_behind base limit n bytes >>= λ m. with_digit base limit m b)
behind_push base limit n [] b = some_bind (with_digit base limit n b)
behind_push base limit n (c ∷ bytes) b =
    bind_same (with_digit base limit n c) _ _ (λ m. behind_push base limit m bytes b)
    ∙ bind_twice (with_digit base limit n c) (λ m. number_behind base limit m bytes) (λ m. with_digit base limit m b)

-- ---- digits

abbrev pub glyph : ℕ → ℕ
glyph d = digit_glyph true d

more_than : (a b : ℕ) → b < a → nat_le a b ≡ false
more_than a b h = leb_no (nat_le a b) refl
  where
    leb_no : (test : Bool) → nat_le a b ≡ test → test ≡ false
    leb_no true e = let k = leb-true a b e in absurd (omega (arith, k, h))
    leb_no false e = refl

-- a digit is read from its glyph
digit_back : (d : ℕ) → d < 16 → digit_of (glyph d) ≡ Some d
digit_back d small = by (nat_lt d 10) refl
  where
    by : (test : Bool) → nat_lt d 10 ≡ test → digit_of (cond test (48 + d) (55 + d)) ≡ Some d
    by true e =
        let low = ltb-true d 10 e in
        let same : (48 + d) - 48 ≡ d = omega arith in
        rw (le-leb 48 (48 + d) (omega arith), le-leb (48 + d) 57 (omega (arith, low)), same) refl
    by false e =
        let high = ltb-false d 10 e in
        let same : (55 + d) - 55 ≡ d = omega arith in
        rw (le-leb 48 (55 + d) (omega arith), more_than (55 + d) 57 (omega (arith, high)), le-leb 65 (55 + d) (omega (arith, high)), le-leb (55 + d) 70 (omega (arith, small)), same) refl

-- a byte of which this is the value
abbrev IsDigit : ℕ → ℕ → Type 0
IsDigit b d = (d < 16) × (glyph d ≡ b)

low_glyph : (b : ℕ) → 48 ≤ b → b ≤ 57 → IsDigit b (b - 48)
low_glyph b h k =
    let same : 48 + (b - 48) ≡ b = omega (arith, h) in
    (omega (arith, k), rw (lt-ltb (b - 48) 10 (omega (arith, h, k))) same)

high_glyph : (b : ℕ) → 65 ≤ b → b ≤ 70 → IsDigit b (b - 55)
high_glyph b h k =
    let same : 55 + (b - 55) ≡ b = omega (arith, h) in
    (omega (arith, k), rw (ltb-no (b - 55) (omega (arith, h))) same)
  where
    ltb-no : (d : ℕ) → 10 ≤ d → nat_lt d 10 ≡ false
    ltb-no d h = more_than (suc d) 10 (omega (arith, h))

digit_spelled : (b : ℕ) → Each (IsDigit b) (digit_of b)
digit_spelled b =
    each_if (IsDigit b) (is_between 48 57 b) _ _
    (λ e. let p = and_parts (nat_le 48 b) (nat_le b 57) e in low_glyph b (leb-true 48 b p.0) (leb-true b 57 p.1))
    (λ no. each_if (IsDigit b) (is_between 65 70 b) _ _
    (λ e. let p = and_parts (nat_le 65 b) (nat_le b 70) e in high_glyph b (leb-true 65 b p.0) (leb-true b 70 p.1))
    (λ none. tt))

-- one digit more
pub push_back : (base limit n d : ℕ) → 1 ≤ base → base ≤ 16 → d < base → n * base + d ≤ limit → with_digit base limit n (glyph d) ≡ Some (n * base + d)
push_back base limit n d some few small within = rw (digit_back d (omega (arith, small, few)), le-leb d (base - 1) (omega (arith, small)), le-leb (n * base + d) limit within) refl

-- the number, and the digit that was added
record IsPushed (base limit n b m : ℕ) : Type 0 where
  within : m ≤ limit
  digit : ℕ
  small : digit < base
  glyph : digit_glyph true digit ≡ b
  whole : m ≡ n * base + digit

at_most_spelled : (P : ℕ → Type 0) (limit n : ℕ) → (n ≤ limit → P n) → Each P (at_most limit n)
at_most_spelled P limit n h = each_if P (nat_le n limit) (Some n) None (λ e. h (leb-true n limit e)) (λ e. tt)

push_spelled : (base limit n b : ℕ) → 1 ≤ base → Each (IsPushed base limit n b) (with_digit base limit n b)
push_spelled base limit n b some =
    each_then (IsPushed base limit n b) (IsDigit b) (digit_of b) _ (digit_spelled b) (λ d is.
    each_then (IsPushed base limit n b) (λ (k : ℕ). (k ≡ d) × (d < base)) (at_most (base - 1) d) _ (at_most_spelled _ (base - 1) d (λ h. (refl, omega (arith, h, some)))) (λ k same.
    at_most_spelled (IsPushed base limit n b) limit (n * base + k) (λ h. record { within = h; digit = d; small = same.1; glyph = is.1; whole = ap (λ (x : ℕ). n * base + x) same.0 })))

-- ---- the digits of numbers to one base, read and written

-- the texts of numbers: one digit, or those of a smaller number and one more
pub record Spells (base : ℕ) (text : ℕ → List ℕ) : Type 0 where
  pub some : 1 ≤ base
  pub few : base ≤ 16
  pub one : (d : ℕ) → d < base → text d ≡ glyph d ∷ []
  pub more : (n d : ℕ) → 0 < n → d < base → n * base + d < 2 ^ 64 → text (n * base + d) ≡ text n ++ glyph d ∷ []
  pub grows : (n d : ℕ) → n ≤ n * base + d
  pub split : (n : ℕ) → base ≤ n → (q : ℕ) × (d : ℕ) × (0 < q) × (q < n) × (d < base) × (q * base + d ≡ n)

-- no zero stands in front
abbrev Starts : List ℕ → Type 0
Starts [] = ⊥
Starts (b ∷ bytes) = (b == 48) ≡ false

starts_push : (bytes : List ℕ) (b : ℕ) → Starts bytes → (has_leading_zero (bytes ++ b ∷ []) ≡ false) × Starts (bytes ++ b ∷ [])
starts_push [] b h = absurd h
starts_push (c ∷ []) b h = (h, h)
starts_push (c ∷ d ∷ bytes) b h = (h, h)

glyph_starts : (d : ℕ) → 0 < d → d < 16 → Starts (glyph d ∷ [])
glyph_starts d some small = by (glyph d == 48) refl
  where
    by : (test : Bool) → (glyph d == 48) ≡ test → test ≡ false
    by true e =
        let same : glyph d ≡ 48 = eqb-true (glyph d) 48 e in
        let read = digit_back d small in
        let zero_read : digit_of 48 ≡ Some d = rw same at read in
        let none : 0 ≡ d = cc in
        absurd (omega (arith, none, some))
    by false e = refl

not_empty : (bytes : List ℕ) (b : ℕ) → is_empty (bytes ++ b ∷ []) ≡ false
not_empty [] b = refl
not_empty (c ∷ bytes) b = refl

-- what is written of a number is read as it
record IsBack (base limit n : ℕ) (text : List ℕ) : Type 0 where
  read : number_behind base limit 0 text ≡ Some n
  plain : has_leading_zero text ≡ false
  starts : 0 < n → Starts text
  some : is_empty text ≡ false

module _ (base : ℕ) (text : ℕ → List ℕ) (spells : Spells base text) (limit : ℕ) (fits : limit < 2 ^ 64) where
  one_back : (d : ℕ) → d < base → d ≤ limit → IsBack base limit d (text d)
  one_back d small within =
      let few = spells.few in
      let whole : 0 * base + d ≡ d = omega arith in
      rw (spells.one d small) (record {
        read = rw (push_back base limit 0 d spells.some few small (omega (arith, within))) (ap (λ (m : ℕ). Some m) whole);
        plain = refl;
        starts = λ some. glyph_starts d some (omega (arith, small, few));
        some = refl;
      })

  more_back : (n d : ℕ) → 0 < n → d < base → n * base + d ≤ limit → IsBack base limit n (text n) → IsBack base limit (n * base + d) (text (n * base + d))
  more_back n d large small within back =
      let starts = starts_push (text n) (glyph d) (back.starts large) in
      rw (spells.more n d large small (omega (arith, within, fits))) (record {
        read = behind_push base limit 0 (text n) (glyph d) ∙ rw back.read (push_back base limit n d spells.some spells.few small within);
        plain = starts.0;
        starts = λ some. starts.1;
        some = not_empty (text n) (glyph d);
      })

  all_back : (k n : ℕ) → n ≤ k → n ≤ limit → IsBack base limit n (text n)
  all_back zero n h within = one_back n (omega (arith, h, spells.some)) within
  all_back (suc k) n h within = ⊎_elim
      (λ small. one_back n small within)
      (λ large.
      let s = spells.split n large in
      let back = all_back k s.0 (omega (arith, h, s.3)) (omega (arith, within, s.3)) in
      let more = more_back s.0 s.1 s.2 s.4 (rw s.5 within) back in
      rw s.5 at more)
      (cases_lt n base)

  pub back : (n : ℕ) → n ≤ limit → number_in base limit (text n) ≡ Some n
  back n within =
      let b = all_back n n (omega arith) within in
      rw (b.some, b.plain) b.read

  -- the number that digits behind those of another write
  behind_spelled : (n : ℕ) (bytes : List ℕ) → 0 < n → n ≤ limit → Each (λ (m : ℕ). (m ≤ limit) × (text m ≡ text n ++ bytes)) (number_behind base limit n bytes)
  behind_spelled n [] large within = (within, sym (append-nil (text n)))
  behind_spelled n (b ∷ bytes) large within =
      each_then _ (IsPushed base limit n b) (with_digit base limit n b) _ (push_spelled base limit n b spells.some) (λ m p.
      let grows : n ≤ m = rw p.whole (spells.grows n p.digit) in
      let small : n * base + p.digit < 2 ^ 64 = rw (sym p.whole) (omega (arith, p.within, fits)) in
      let one : text m ≡ text n ++ b ∷ [] = rw (p.whole, spells.more n p.digit large p.small small, p.glyph) refl in
      let rest : text m ++ bytes ≡ text n ++ b ∷ bytes = ap (λ (xs : List ℕ). xs ++ bytes) one ∙ append_assoc (text n) (b ∷ []) bytes in
      rw (sym rest) (behind_spelled m bytes (omega (arith, grows, large)) p.within))

  some_digit : (d b : ℕ) → glyph d ≡ b → (b == 48) ≡ false → 0 < d
  some_digit zero b e h =
      let same = eq-eqb b 48 (sym e) in
      absurd (cc)
  some_digit (suc d) b e h = omega arith

  first_spelled : (b : ℕ) (bytes : List ℕ) → has_leading_zero (b ∷ bytes) ≡ false → Each (λ (m : ℕ). (m ≤ limit) × (text m ≡ b ∷ bytes)) (number_behind base limit 0 (b ∷ bytes))
  first_spelled b bytes plain = each_then _ (IsPushed base limit 0 b) (with_digit base limit 0 b) _ (push_spelled base limit 0 b spells.some) (λ m p. rest m p bytes plain)
    where
      rest : (m : ℕ) → IsPushed base limit 0 b m → (bs : List ℕ) → has_leading_zero (b ∷ bs) ≡ false → Each (λ (k : ℕ). (k ≤ limit) × (text k ≡ b ∷ bs)) (number_behind base limit m bs)
      rest m p bs plain = by bs plain
        where
          same : m ≡ p.digit
          same = p.whole ∙ omega arith

          one : text m ≡ b ∷ []
          one = ap text same ∙ spells.one p.digit p.small ∙ ap (λ (x : ℕ). x ∷ []) p.glyph

          by : (bs : List ℕ) → has_leading_zero (b ∷ bs) ≡ false → Each (λ (k : ℕ). (k ≤ limit) × (text k ≡ b ∷ bs)) (number_behind base limit m bs)
          by [] plain = (p.within, one)
          by (c ∷ bs) plain =
              let some = some_digit p.digit b p.glyph plain in
              rw (ap (λ (xs : List ℕ). xs ++ c ∷ bs) one) at (behind_spelled m (c ∷ bs) (omega (arith, same, some)) p.within)

  pub spelled : (word : List ℕ) → Each (λ (m : ℕ). (m ≤ limit) × (text m ≡ word)) (number_in base limit word)
  spelled [] = tt
  spelled (b ∷ bytes) = each_if _ (has_leading_zero (b ∷ bytes)) _ _ (λ e. tt) (λ e. first_spelled b bytes e)

-- ---- decimal numbers

low_digit : (d : ℕ) → d < 10 → glyph d ≡ 48 + d
low_digit d small = rw (lt-ltb d 10 small) refl

decimal_more : (n d : ℕ) → 0 < n → d < 10 → n * 10 + d < 2 ^ 64 → decimal (n * 10 + d) ≡ decimal n ++ glyph d ∷ []
decimal_more n d some small fits =
    let front : (n * 10 + d) / 10 ≡ n = omega (arith, small) in
    let last : (n * 10 + d) % 10 ≡ d = omega (arith, small) in
    decimal_step (n * 10 + d) (omega (arith, some)) fits ∙ rw (front, last, low_digit d small) refl

pub decimal_spells : Spells 10 decimal
decimal_spells = record {
  some = omega arith;
  few = omega arith;
  one = λ d small. decimal_digit d small ∙ ap (λ (x : ℕ). x ∷ []) (sym (low_digit d small));
  more = decimal_more;
  grows = λ n d. omega arith;
  split = λ n large. (n / 10, n % 10, omega (arith, large), omega (arith, large), omega arith, omega arith);
}

pub number_back : (limit n : ℕ) → limit < 2 ^ 64 → n ≤ limit → number_to limit (decimal n) ≡ Some n
number_back limit n fits within = back 10 decimal decimal_spells limit fits n within

pub number_spelled : (limit : ℕ) (word : List ℕ) → limit < 2 ^ 64 → Each (λ (n : ℕ). (n ≤ limit) × (decimal n ≡ word)) (number_to limit word)
number_spelled limit word fits = spelled 10 decimal decimal_spells limit fits word

-- ---- hexadecimal numbers

abbrev hexadecimal : ℕ → List ℕ
hexadecimal n = radix_digits 16 true n

abbrev spell : ℕ → ℕ → List ℕ → List ℕ
spell k n acc = digits_onto k 16 true n acc

spell_last : (k n : ℕ) (acc : List ℕ) → n < 16 → spell (suc k) n acc ≡ glyph (n % 16) ∷ acc
spell_last k n acc h = rw (eq-eqb (n / 16) 0 (omega arith)) refl

spell_next : (k n : ℕ) (acc : List ℕ) → 16 ≤ n → spell (suc k) n acc ≡ spell k (n / 16) (glyph (n % 16) ∷ acc)
spell_next k n acc h = rw (ne_eqb (n / 16) 0 (λ e. omega (arith, e, h))) refl

spell_append : (k n : ℕ) (acc : List ℕ) → spell k n acc ≡ spell k n [] ++ acc
spell_append zero n acc = refl
spell_append (suc k) n acc = ⊎_elim
    (λ l. spell_last k n acc l ∙ ap (λ (x : List ℕ). x ++ acc) (sym (spell_last k n [] l)))
    (λ l. spell_next k n acc l ∙ spell_append k (n / 16) (glyph (n % 16) ∷ acc) ∙ sym (append_assoc (spell k (n / 16) []) (glyph (n % 16) ∷ []) acc) ∙ ap (λ (x : List ℕ). x ++ acc) (sym (spell_next k n [] l ∙ spell_append k (n / 16) (glyph (n % 16) ∷ []))))
    (cases_lt n 16)

-- how many digits there may be does not matter, where they are enough
spell_enough : (j k n : ℕ) (acc : List ℕ) → n < 16 ^ suc j → n < 16 ^ suc k → spell (suc j) n acc ≡ spell (suc k) n acc
spell_enough zero k n acc p q = spell_last zero n acc (omega arith) ∙ sym (spell_last k n acc (omega arith))
spell_enough (suc j) zero n acc p q = spell_last (suc j) n acc (omega arith) ∙ sym (spell_last zero n acc (omega arith))
spell_enough (suc j) (suc k) n acc p q = ⊎_elim
    (λ l. spell_last (suc j) n acc l ∙ sym (spell_last (suc k) n acc l))
    (λ l. spell_next (suc j) n acc l ∙ spell_enough j k (n / 16) (glyph (n % 16) ∷ acc) (omega arith) (omega arith) ∙ sym (spell_next (suc k) n acc l))
    (cases_lt n 16)

hexadecimal_more : (n d : ℕ) → 0 < n → d < 16 → n * 16 + d < 2 ^ 64 → hexadecimal (n * 16 + d) ≡ hexadecimal n ++ glyph d ∷ []
unfolding digits
hexadecimal_more n d some small fits =
    let front : (n * 16 + d) / 16 ≡ n = omega (arith, small) in
    let last : (n * 16 + d) % 16 ≡ d = omega (arith, small) in
    spell_next 63 (n * 16 + d) [] (omega (arith, some)) ∙ rw (front, last) (spell_enough 62 63 n (glyph d ∷ []) (omega arith) (omega arith) ∙ spell_append 64 n (glyph d ∷ []))

hexadecimal_spells : Spells 16 hexadecimal
hexadecimal_spells = record {
  some = omega arith;
  few = omega arith;
  one = hex_one_digit true;
  more = hexadecimal_more;
  grows = λ n d. omega arith;
  split = λ n large. (n / 16, n % 16, omega (arith, large), omega (arith, large), omega arith, omega arith);
}

pub character_back : (code : ℕ) → IsCharacter code → character (hexadecimal code) ≡ Some code
character_back code h = rw (back 16 hexadecimal hexadecimal_spells 0x10_FFFF (omega arith) code h.0, h.1) refl

pub character_spelled : (word : List ℕ) → Each (λ (code : ℕ). IsCharacter code × (hexadecimal code ≡ word)) (character word)
character_spelled word =
    let Q : ℕ → Type 0 = λ code. (code ≤ 0x10_FFFF) × (hexadecimal code ≡ word) in
    each_then _ Q (number_in 16 0x10_FFFF word) _ (spelled 16 hexadecimal hexadecimal_spells 0x10_FFFF (omega arith) word) (λ code h.
    each_if _ (is_between 0xD800 0xDFFF code) _ _ (λ e. tt) (λ e. ((h.0, e), h.1)))

-- ---- what does not stand in a number

glyph_plain : (at d : ℕ) (upper : Bool) → at < 48 → (digit_glyph upper d == at) ≡ false
glyph_plain at d upper low = by (nat_lt d 10) upper
  where
    by : (a b : Bool) → (cond a (48 + d) (cond b (55 + d) (87 + d)) == at) ≡ false
    by true b = above at (48 + d) (omega (arith, low))
    by false true = above at (55 + d) (omega (arith, low))
    by false false = above at (87 + d) (omega (arith, low))

either_lacks : (at : ℕ) (test : Bool) (xs ys : List ℕ) → Lacks at xs → Lacks at ys → Lacks at (cond test xs ys)
either_lacks at true xs ys h k = h
either_lacks at false xs ys h k = k

onto_plain : (at k base : ℕ) (upper : Bool) (n : ℕ) (acc : List ℕ) → at < 48 → Lacks at acc → Lacks at (digits_onto k base upper n acc)
onto_plain at zero base upper n acc low h = h
onto_plain at (suc k) base upper n acc low h =
    let first = glyph_plain at (n % base) upper low in
    either_lacks at (n / base == 0) _ _ (first, h) (onto_plain at k base upper (n / base) _ low (first, h))

pub decimal_plain : (at n : ℕ) → at < 48 → Lacks at (decimal n)
unfolding digits
decimal_plain at n low = onto_plain at 64 10 false n [] low tt

pub hexadecimal_plain : (at n : ℕ) → at < 48 → Lacks at (radix_digits 16 true n)
unfolding digits
hexadecimal_plain at n low = onto_plain at 64 16 true n [] low tt
