-- Answers are read from their words.
use Rattle.std.proofs.Common.{◌≡◌, ℕ, Bool, true, false, List, [], ◌∷◌, ◌++◌, length, drop, map, Option, Some, None, IfSome, decimal, refl, sym, ap, ◌∙◌, true≢false, append_assoc, append-nil, arith, codes}
use Rattle.std.specs.Prelude.{nat_le}
use Rattle.std.specs.Fmt.{radix_digits}
use Rattle.std.specs.List.{AllByRecursion}
use Rattle.std.proofs.lemmas.Bool.{le-leb}
use Rattle.std.proofs.lemmas.List.{length-map}
use Rattle.hex.specs.Hex.{encode_upper}
use Rattle.apdu.specs.Words.{two_bytes}
use Rattle.apdu.specs.Values.{ResponseValue}
use Rattle.apdu.specs.Apdu.{response_bytes}
use Rattle.report.specs.Values.{SeenValue}
use Rattle.report.specs.Texts.{answer_text, optional_text, rows_text, shown_text}
use Rattle.report.specs.declared.answer.Answer.{Answer}
use Rattle.report.specs.declared.answer.Answer.TheVariants as answer
use Rattle.report_reader.specs.Words.{words_of, number}
use Rattle.report_reader.specs.Answers.{answer_of}
use Rattle.report_reader.specs.Ranges.{IsByte, AreBytes, IsWord, IsNumber, IsHandle, IsCharacter, IsResponse}
use Rattle.report_reader.specs.Forms.{IsSeen, AreNoticed, IsAnswer}
use Rattle.report_reader.proofs.Parts.{last_part, next_part}
use Rattle.report_reader.proofs.Numbers.{number_back, character_back, hexadecimal_plain}
use Rattle.report_reader.proofs.Bytes.{hex_byte_back, hex_pair_back, hex_plain, are_two_bytes, response_back, are_response_bytes}
use Rattle.report_reader.proofs.Fields.{byte_back, any_back, last_number, next_number, optional_word, optional_is, optional_plain, optional_back, listed_parts, all_back, rows_word, rows_is, rows_plain, rows_back}

-- the answer of words, of which the first is its name
abbrev pub answer_in : Bool → List (List ℕ) → Option Answer
answer_in ends [] = None
answer_in ends (name ∷ words) = answer_of ends name words

-- behind the space before its name
abbrev pub IsAnswerBack : Bool → Answer → Type 0
IsAnswerBack ends given = answer_in ends (words_of (drop 1 (answer_text given))) ≡ Some given

loop_back : (ends : Bool) (n : ℕ) → IsNumber n → IsAnswerBack ends (answer.Loop n)
loop_back ends n h = rw (last_number n, any_back n h) refl

bad_fcp_back : (ends : Bool) (n : ℕ) → IsNumber n → IsAnswerBack ends (answer.BadFcp n)
bad_fcp_back ends n h = rw (last_number n, any_back n h) refl

loaded_back : (ends : Bool) (n : ℕ) → IsNumber n → IsAnswerBack ends (answer.Loaded n)
loaded_back ends n h = rw (last_number n, any_back n h) refl

exhausted_back : (ends : Bool) (n : ℕ) → IsNumber n → IsAnswerBack ends (answer.Exhausted n)
exhausted_back ends n h = rw (last_number n, any_back n h) refl

bad_digit_back : (ends : Bool) (n : ℕ) → IsNumber n → IsAnswerBack ends (answer.BadDigit n)
bad_digit_back ends n h = rw (last_number n, any_back n h) refl

number_too_long_back : (ends : Bool) (n : ℕ) → IsNumber n → IsAnswerBack ends (answer.NumberTooLong n)
number_too_long_back ends n h = rw (last_number n, any_back n h) refl

no_record_back : (ends : Bool) (n : ℕ) → IsByte n → IsAnswerBack ends (answer.NoRecord n)
no_record_back ends n h = rw (last_number n, byte_back n h) refl

full_back : (ends : Bool) (n : ℕ) → IsByte n → IsAnswerBack ends (answer.Full n)
full_back ends n h = rw (last_number n, byte_back n h) refl

ext_full_back : (ends : Bool) (n : ℕ) → IsByte n → IsAnswerBack ends (answer.ExtFull n)
ext_full_back ends n h = rw (last_number n, byte_back n h) refl

opened_back : (ends : Bool) (n : ℕ) → IsByte n → IsAnswerBack ends (answer.Opened n)
opened_back ends n h = rw (last_number n, byte_back n h) refl

bad_file_back : (ends : Bool) (n : ℕ) → IsWord n → IsAnswerBack ends (answer.BadFile n)
bad_file_back ends n h = rw (last_number n, number_back 65535 n (omega arith) h) refl

ref_back : (n : ℕ) → IsHandle n → IsAnswerBack false (answer.NotHeldRef n)
ref_back n h = rw (last_number n, number_back 15 n (omega arith) h) refl

-- a word of hexadecimal that is the last one
pub last_hex : (bytes : List ℕ) → AreBytes bytes → words_of (encode_upper bytes) ≡ encode_upper bytes ∷ []
last_hex bytes h = last_part 32 (encode_upper bytes) (hex_plain 32 bytes refl h)

key_back : (n : ℕ) → IsByte n → IsAnswerBack true (answer.NotHeldKey n)
key_back n h = rw (last_hex (n ∷ []) (h, tt), hex_byte_back n h) refl

needs_pin_back : (ends : Bool) (n : ℕ) → IsByte n → IsAnswerBack ends (answer.NeedsPin n)
needs_pin_back ends n h = rw (last_hex (n ∷ []) (h, tt), hex_byte_back n h) refl

raw_refused_back : (ends : Bool) (n : ℕ) → IsByte n → IsAnswerBack ends (answer.RawRefused n)
raw_refused_back ends n h = rw (last_hex (n ∷ []) (h, tt), hex_byte_back n h) refl

raw_back : (ends : Bool) (r : ResponseValue) → IsResponse r → IsAnswerBack ends (answer.Raw r)
raw_back ends r h = rw (last_hex (response_bytes r) (are_response_bytes r h), response_back r h) refl

not_writable_back : (ends : Bool) (found : ℕ) → IsCharacter found → IsAnswerBack ends (answer.NotWritable found)
not_writable_back ends found h = rw (last_part 32 (radix_digits 16 true found) (hexadecimal_plain 32 found (omega arith)), character_back found h) refl

too_long_back : (ends : Bool) (n r : ℕ) → IsNumber n → IsNumber r → IsAnswerBack ends (answer.NameTooLong n r)
too_long_back ends n r h k = rw (next_number n (decimal r), last_number r, any_back n h, any_back r k) refl

ended_back : (ends : Bool) (e n : ℕ) → IsNumber e → IsNumber n → IsAnswerBack ends (answer.EpochEnded e n false)
ended_back ends e n h k = rw (append_assoc (decimal e) (32 ∷ decimal n) [], append-nil (decimal n), next_number e (decimal n), last_number n, any_back e h, any_back n k) refl

unsure_back : (ends : Bool) (e n : ℕ) → IsNumber e → IsNumber n → IsAnswerBack ends (answer.EpochEnded e n true)
unsure_back ends e n h k = rw (append_assoc (decimal e) (32 ∷ decimal n) (codes " unsure"), next_number e (decimal n ++ codes " unsure"), next_number n (codes "unsure"), any_back e h, any_back n k) refl

status_back : (ends : Bool) (sw n : ℕ) → IsWord sw → IsNumber n → IsAnswerBack ends (answer.Status (record { 0 = sw }) n)
status_back ends sw n h k =
    rw (next_part 32 (encode_upper (two_bytes sw)) (decimal n) (hex_plain 32 (two_bytes sw) refl (are_two_bytes sw h)), last_number n, hex_pair_back sw h, any_back n k) refl

done_words : (n : ℕ) (k : Option ℕ) (left : List ℕ) → words_of ((decimal n ++ optional_text k) ++ rows_text left) ≡ decimal n ∷ optional_word k ∷ rows_word left ∷ []
done_words n k left =
    let third : words_of (rows_word left) ≡ rows_word left ∷ [] = last_part 32 (rows_word left) (rows_plain 32 left (omega arith)) in
    let second : words_of (optional_word k ++ 32 ∷ rows_word left) ≡ optional_word k ∷ words_of (rows_word left) = next_part 32 (optional_word k) (rows_word left) (optional_plain 32 k (omega arith)) in
    rw (optional_is k, rows_is left, append_assoc (decimal n) (32 ∷ optional_word k) (32 ∷ rows_word left))
    (next_number n (optional_word k ++ 32 ∷ rows_word left) ∙ ap (λ (ws : List (List ℕ)). decimal n ∷ ws) (second ∙ ap (λ (ws : List (List ℕ)). optional_word k ∷ ws) third))

done_back : (ends : Bool) (n : ℕ) (k : Option ℕ) (left : List ℕ) → IsNumber n → IfSome k IsNumber → AreBytes left → IsAnswerBack ends (answer.Done n k left)
done_back ends n k left h some bytes = rw (done_words n k left, any_back n h, optional_back k some, rows_back left bytes) refl

look_words : (n : ℕ) (a b c : Option ℕ) → words_of (decimal n ++ shown_text (a ∷ b ∷ c ∷ [])) ≡ decimal n ∷ optional_word a ∷ optional_word b ∷ optional_word c ∷ []
look_words n a b c =
    let third : words_of (optional_word c ++ []) ≡ optional_word c ∷ [] = rw (append-nil (optional_word c)) (last_part 32 (optional_word c) (optional_plain 32 c (omega arith))) in
    let second : words_of (optional_word b ++ 32 ∷ (optional_word c ++ [])) ≡ optional_word b ∷ words_of (optional_word c ++ []) = next_part 32 (optional_word b) (optional_word c ++ []) (optional_plain 32 b (omega arith)) in
    let first : words_of (optional_word a ++ 32 ∷ (optional_word b ++ 32 ∷ (optional_word c ++ []))) ≡ optional_word a ∷ words_of (optional_word b ++ 32 ∷ (optional_word c ++ [])) = next_part 32 (optional_word a) (optional_word b ++ 32 ∷ (optional_word c ++ [])) (optional_plain 32 a (omega arith)) in
    rw (optional_is a, optional_is b, optional_is c)
    (next_number n (optional_word a ++ 32 ∷ (optional_word b ++ 32 ∷ (optional_word c ++ []))) ∙ ap (λ (ws : List (List ℕ)). decimal n ∷ ws) (first ∙ ap (λ (ws : List (List ℕ)). optional_word a ∷ ws) (second ∙ ap (λ (ws : List (List ℕ)). optional_word b ∷ ws) third)))

look_back_of : (ends : Bool) (count : ℕ) (shown : List (Option ℕ)) → IsNumber count → AllByRecursion (λ k. IfSome k IsNumber) shown → length shown ≡ 3 → IsAnswerBack ends (answer.Look (record { count = count; shown = shown }))
look_back_of ends n (a ∷ b ∷ c ∷ []) h each three = rw (look_words n a b c, any_back n h, optional_back a each.0, optional_back b each.1.0, optional_back c each.1.1.0) refl
look_back_of ends n [] h each three = absurd (omega (arith, three))
look_back_of ends n (a ∷ []) h each three = absurd (omega (arith, three))
look_back_of ends n (a ∷ b ∷ []) h each three = absurd (omega (arith, three))
look_back_of ends n (a ∷ b ∷ c ∷ d ∷ shown) h each three = absurd (omega (arith, three))

look_back : (ends : Bool) (seen : SeenValue) → IsSeen seen → IsAnswerBack ends (answer.Look seen)
look_back ends seen h = look_back_of ends seen.count seen.shown h.count h.shown h.three

numbers_back : (numbers : List ℕ) → AllByRecursion IsNumber numbers → AllByRecursion (λ n. number (decimal n) ≡ Some n) numbers
numbers_back [] h = tt
numbers_back (n ∷ numbers) h = (any_back n h.0, numbers_back numbers h.1)

notices_back : (ends : Bool) (dropped : ℕ) (numbers : List ℕ) → IsNumber dropped → AreNoticed numbers → IsAnswerBack ends (answer.Notices dropped (record { items = numbers }))
notices_back ends dropped numbers h are =
    let few : nat_le (length (map decimal numbers)) 64 ≡ true = le-leb (length (map decimal numbers)) 64 (omega (arith, length-map numbers decimal, are.few)) in
    rw (listed_parts 32 dropped numbers (omega arith), any_back dropped h, few, all_back number numbers (numbers_back numbers are.each)) refl

pub answer_back : (ends : Bool) (given : Answer) → IsAnswer ends given → IsAnswerBack ends given
answer_back ends answer.Moved h = refl
answer_back ends answer.SlotFull h = refl
answer_back ends answer.SlotEmpty h = refl
answer_back ends answer.ArmFull h = refl
answer_back ends answer.Absent h = refl
answer_back ends (answer.EpochEnded e n true) h = unsure_back ends e n h.0 h.1
answer_back ends (answer.EpochEnded e n false) h = ended_back ends e n h.0 h.1
answer_back ends (answer.Status sw n) h = status_back ends sw.0 n h.0 h.1
answer_back ends (answer.Loop n) h = loop_back ends n h
answer_back ends (answer.BadFcp n) h = bad_fcp_back ends n h
answer_back ends (answer.Loaded k) h = loaded_back ends k h
answer_back ends (answer.Done n k left) h = done_back ends n k left h.0 h.1 h.2
answer_back ends (answer.NeedsPin key) h = needs_pin_back ends key h
answer_back ends (answer.BadFile width) h = bad_file_back ends width h
answer_back ends (answer.NoRecord at) h = no_record_back ends at h
answer_back ends (answer.Full count) h = full_back ends count h
answer_back ends (answer.NotWritable found) h = not_writable_back ends found h
answer_back ends (answer.NameTooLong need room) h = too_long_back ends need room h.0 h.1
answer_back ends (answer.BadDigit at) h = bad_digit_back ends at h
answer_back ends (answer.NumberTooLong count) h = number_too_long_back ends count h
answer_back ends (answer.ExtFull count) h = ext_full_back ends count h
answer_back ends (answer.Opened channel) h = opened_back ends channel h
answer_back ends (answer.Exhausted n) h = exhausted_back ends n h
answer_back ends (answer.Raw r) h = raw_back ends r h
answer_back ends (answer.RawRefused ins) h = raw_refused_back ends ins h
answer_back true (answer.NotHeldRef handle) h = absurd (true≢false h.0)
answer_back false (answer.NotHeldRef handle) h = ref_back handle h.1
answer_back true (answer.NotHeldKey key) h = key_back key h.1
answer_back false (answer.NotHeldKey key) h = absurd (true≢false (sym h.0))
answer_back ends answer.Closed h = refl
answer_back ends answer.Verified h = refl
answer_back ends answer.Ended h = refl
answer_back ends answer.Polled h = refl
answer_back ends (answer.Look seen) h = look_back ends seen h
answer_back ends answer.Watching h = refl
answer_back ends (answer.Notices dropped numbers) h = notices_back ends dropped numbers.items h.0 h.1
