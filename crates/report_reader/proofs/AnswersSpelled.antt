-- The words that are read as an answer are those of its text.
use Rattle.std.proofs.Common.{◌≡◌, ℕ, ◌≤◌, Bool, true, false, List, [], ◌∷◌, ◌++◌, length, map, Option, Some, None, IfSome, decimal, refl, sym, ap, ◌∙◌, append_assoc, append-nil, arith, codes}
use Rattle.std.specs.Prelude.{nat_le}
use Rattle.std.specs.Fmt.{radix_digits}
use Rattle.std.specs.List.{AllByRecursion}
use Rattle.std.proofs.lemmas.Bool.{leb-true}
use Rattle.std.proofs.lemmas.List.{length-map}
use Rattle.hex.specs.Hex.{encode_upper}
use Rattle.arrayvec.specs.ArrayVec.{ArrayVec}
use Rattle.apdu.specs.Words.{two_bytes}
use Rattle.apdu.specs.Values.{ResponseValue}
use Rattle.apdu.specs.Apdu.{response_bytes}
use Rattle.report.specs.Texts.{answer_text}
use Rattle.report.specs.declared.answer.Answer.{Answer}
use Rattle.report.specs.declared.answer.Answer.TheVariants as answer
use Rattle.report_reader.specs.Reads.{rule, all_of}
use Rattle.report_reader.specs.Words.{number_to, byte, number, character, optional, rows, hex_byte, hex_pair, response}
use Rattle.report_reader.specs.Answers as spec
use Rattle.report_reader.specs.Ranges.{IsByte, AreBytes, IsWord, IsNumber, IsHandle, IsCharacter, IsResponse}
use Rattle.report_reader.specs.Forms.{IsAnswer}
use Rattle.report_reader.proofs.Parts.{joined}
use Rattle.report_reader.proofs.Readings.{Each, each_then, each_made, each_if, each_word}
use Rattle.report_reader.proofs.Numbers.{number_spelled, character_spelled}
use Rattle.report_reader.proofs.Bytes.{hex_byte_spelled, hex_pair_spelled, response_spelled}
use Rattle.report_reader.proofs.Fields.{IsWritten, byte_spelled, any_spelled, optional_word, optional_is, optional_spelled, listed, listed_joined, all_spelled, rows_word, rows_is, rows_spelled}

-- an answer whose words are these, the name first
abbrev pub IsAnswerOf : Bool → List (List ℕ) → Answer → Type 0
IsAnswerOf ends words given = IsAnswer ends given × (answer_text given ≡ 32 ∷ joined 32 words)

-- ---- names alone

moved_spelled : (ends : Bool) (name : List ℕ) → Each (IsAnswerOf ends (name ∷ [])) (spec.moved name)
moved_spelled ends name =
    let P : Answer → Type 0 = IsAnswerOf ends (name ∷ []) in
    each_word P name (codes "moved") _ _ (λ e. (tt, rw e refl))
    (each_word P name (codes "slot-full") _ _ (λ e. (tt, rw e refl))
    (each_word P name (codes "slot-empty") _ _ (λ e. (tt, rw e refl))
    (each_word P name (codes "arm-full") _ _ (λ e. (tt, rw e refl))
    (each_word P name (codes "absent") _ _ (λ e. (tt, rw e refl)) tt))))

bare_spelled : (ends : Bool) (name : List ℕ) → Each (IsAnswerOf ends (name ∷ [])) (spec.bare name)
bare_spelled ends name =
    let P : Answer → Type 0 = IsAnswerOf ends (name ∷ []) in
    each_word P name (codes "closed") _ _ (λ e. (tt, rw e refl))
    (each_word P name (codes "verified") _ _ (λ e. (tt, rw e refl))
    (each_word P name (codes "ended") _ _ (λ e. (tt, rw e refl))
    (each_word P name (codes "polled") _ _ (λ e. (tt, rw e refl))
    (each_word P name (codes "watching") _ _ (λ e. (tt, rw e refl)) (moved_spelled ends name)))))

-- ---- one word

of_number_spelled : (ends : Bool) (name word : List ℕ) → Each (IsAnswerOf ends (name ∷ word ∷ [])) (spec.of_number name word)
of_number_spelled ends name word =
    let P : Answer → Type 0 = IsAnswerOf ends (name ∷ word ∷ []) in
    let any = any_spelled word in
    each_word P name (codes "loop") _ _ (λ e. each_made P (IsWritten IsNumber word) (number word) answer.Loop any (λ n h. (h.0, rw (e, h.1) refl)))
    (each_word P name (codes "bad-fcp") _ _ (λ e. each_made P (IsWritten IsNumber word) (number word) answer.BadFcp any (λ n h. (h.0, rw (e, h.1) refl)))
    (each_word P name (codes "loaded") _ _ (λ e. each_made P (IsWritten IsNumber word) (number word) answer.Loaded any (λ n h. (h.0, rw (e, h.1) refl)))
    (each_word P name (codes "exhausted") _ _ (λ e. each_made P (IsWritten IsNumber word) (number word) answer.Exhausted any (λ n h. (h.0, rw (e, h.1) refl)))
    (each_word P name (codes "bad-digit") _ _ (λ e. each_made P (IsWritten IsNumber word) (number word) answer.BadDigit any (λ n h. (h.0, rw (e, h.1) refl)))
    (each_word P name (codes "number-too-long") _ _ (λ e. each_made P (IsWritten IsNumber word) (number word) answer.NumberTooLong any (λ n h. (h.0, rw (e, h.1) refl))) tt)))))

of_byte_spelled : (ends : Bool) (name word : List ℕ) → Each (IsAnswerOf ends (name ∷ word ∷ [])) (spec.of_byte name word)
of_byte_spelled ends name word =
    let P : Answer → Type 0 = IsAnswerOf ends (name ∷ word ∷ []) in
    let one = byte_spelled word in
    each_word P name (codes "no-record") _ _ (λ e. each_made P (IsWritten IsByte word) (byte word) answer.NoRecord one (λ n h. (h.0, rw (e, h.1) refl)))
    (each_word P name (codes "full") _ _ (λ e. each_made P (IsWritten IsByte word) (byte word) answer.Full one (λ n h. (h.0, rw (e, h.1) refl)))
    (each_word P name (codes "ext-full") _ _ (λ e. each_made P (IsWritten IsByte word) (byte word) answer.ExtFull one (λ n h. (h.0, rw (e, h.1) refl)))
    (each_word P name (codes "opened") _ _ (λ e. each_made P (IsWritten IsByte word) (byte word) answer.Opened one (λ n h. (h.0, rw (e, h.1) refl)))
    (each_word P name (codes "bad-file") _ _ (λ e. each_made P (IsWritten IsWord word) (number_to 65535 word) answer.BadFile (number_spelled 65535 word (omega arith)) (λ n h. (h.0, rw (e, h.1) refl)))
    (of_number_spelled ends name word)))))

not_held_spelled : (ends : Bool) (name word : List ℕ) → name ≡ codes "not-held" → Each (IsAnswerOf ends (name ∷ word ∷ [])) (spec.not_held ends word)
not_held_spelled true name word e = each_made (IsAnswerOf true (name ∷ word ∷ [])) (λ (b : ℕ). IsByte b × (encode_upper (b ∷ []) ≡ word)) (hex_byte word) answer.NotHeldKey (hex_byte_spelled word) (λ n h. ((refl, h.0), rw (e, h.1) refl))
not_held_spelled false name word e = each_made (IsAnswerOf false (name ∷ word ∷ [])) (IsWritten IsHandle word) (number_to 15 word) answer.NotHeldRef (number_spelled 15 word (omega arith)) (λ n h. ((refl, h.0), rw (e, h.1) refl))

of_word_spelled : (ends : Bool) (name word : List ℕ) → Each (IsAnswerOf ends (name ∷ word ∷ [])) (spec.of_word ends name word)
of_word_spelled ends name word =
    let P : Answer → Type 0 = IsAnswerOf ends (name ∷ word ∷ []) in
    let IsKey : ℕ → Type 0 = λ b. IsByte b × (encode_upper (b ∷ []) ≡ word) in
    each_word P name (codes "not-held") _ _ (not_held_spelled ends name word)
    (each_word P name (codes "needs-pin") _ _ (λ e. each_made P IsKey (hex_byte word) answer.NeedsPin (hex_byte_spelled word) (λ n h. (h.0, rw (e, h.1) refl)))
    (each_word P name (codes "raw-refused") _ _ (λ e. each_made P IsKey (hex_byte word) answer.RawRefused (hex_byte_spelled word) (λ n h. (h.0, rw (e, h.1) refl)))
    (each_word P name (codes "raw") _ _ (λ e. each_made P (λ (r : ResponseValue). IsResponse r × (encode_upper (response_bytes r) ≡ word)) (response word) answer.Raw (response_spelled word) (λ r h. (h.0, rw (e, h.1) refl)))
    (each_word P name (codes "not-writable") _ _ (λ e. each_made P (λ (c : ℕ). IsCharacter c × (radix_digits 16 true c ≡ word)) (character word) answer.NotWritable (character_spelled word) (λ c h. (h.0, rw (e, h.1) refl)))
    (of_byte_spelled ends name word)))))

-- ---- two words and more

status_spelled : (ends : Bool) (name word event : List ℕ) → name ≡ codes "status" → Each (IsAnswerOf ends (name ∷ word ∷ event ∷ [])) (spec.status word event)
status_spelled ends name word event e =
    let P : Answer → Type 0 = IsAnswerOf ends (name ∷ word ∷ event ∷ []) in
    each_then P (λ (n : ℕ). IsWord n × (encode_upper (two_bytes n) ≡ word)) (hex_pair word) _ (hex_pair_spelled word) (λ sw h.
    each_then P (IsWritten IsNumber event) (number event) _ (any_spelled event) (λ n k.
    ((h.0, k.0), rw (e, h.1, k.1) refl)))

too_long_spelled : (ends : Bool) (name need room : List ℕ) → name ≡ codes "name-too-long" → Each (IsAnswerOf ends (name ∷ need ∷ room ∷ [])) (spec.too_long need room)
too_long_spelled ends name need room e =
    let P : Answer → Type 0 = IsAnswerOf ends (name ∷ need ∷ room ∷ []) in
    each_then P (IsWritten IsNumber need) (number need) _ (any_spelled need) (λ n h.
    each_then P (IsWritten IsNumber room) (number room) _ (any_spelled room) (λ r k.
    ((h.0, k.0), rw (e, h.1, k.1) refl)))

epoch_ended_spelled : (ends : Bool) (name epoch event : List ℕ) → name ≡ codes "epoch-ended" → Each (IsAnswerOf ends (name ∷ epoch ∷ event ∷ [])) (spec.epoch_ended false epoch event)
epoch_ended_spelled ends name epoch event e =
    let P : Answer → Type 0 = IsAnswerOf ends (name ∷ epoch ∷ event ∷ []) in
    each_then P (IsWritten IsNumber epoch) (number epoch) _ (any_spelled epoch) (λ n h.
    each_then P (IsWritten IsNumber event) (number event) _ (any_spelled event) (λ m k.
    ((h.0, k.0), rw (e, append-nil, h.1, k.1) refl)))

of_two_spelled : (ends : Bool) (name first second : List ℕ) → Each (IsAnswerOf ends (name ∷ first ∷ second ∷ [])) (spec.of_two name first second)
of_two_spelled ends name first second =
    let P : Answer → Type 0 = IsAnswerOf ends (name ∷ first ∷ second ∷ []) in
    each_word P name (codes "status") _ _ (status_spelled ends name first second)
    (each_word P name (codes "epoch-ended") _ _ (epoch_ended_spelled ends name first second)
    (each_word P name (codes "name-too-long") _ _ (too_long_spelled ends name first second) tt))

done_spelled : (ends : Bool) (name event publication left : List ℕ) → name ≡ codes "done" → Each (IsAnswerOf ends (name ∷ event ∷ publication ∷ left ∷ [])) (spec.done event publication left)
done_spelled ends name event publication left e =
    let P : Answer → Type 0 = IsAnswerOf ends (name ∷ event ∷ publication ∷ left ∷ []) in
    each_then P (IsWritten IsNumber event) (number event) _ (any_spelled event) (λ n h.
    each_then P (λ (k : Option ℕ). IfSome k IsNumber × (optional_word k ≡ publication)) (optional publication) _ (optional_spelled publication) (λ k some.
    each_then P (λ (rs : List ℕ). AreBytes rs × (rows_word rs ≡ left)) (rows left) _ (rows_spelled left) (λ rs bytes.
    ((h.0, some.0, bytes.0), rw (e, optional_is k, rows_is rs, h.1, some.1, bytes.1) (ap (λ (xs : List ℕ). 32 ∷ (codes "done" ++ 32 ∷ xs)) (append_assoc event (32 ∷ publication) (32 ∷ left)))))))

ended_unsure_spelled : (ends : Bool) (name epoch event word : List ℕ) → name ≡ codes "epoch-ended" → Each (IsAnswerOf ends (name ∷ epoch ∷ event ∷ word ∷ [])) (spec.ended_unsure epoch event word)
ended_unsure_spelled ends name epoch event word e =
    let P : Answer → Type 0 = IsAnswerOf ends (name ∷ epoch ∷ event ∷ word ∷ []) in
    each_word P word (codes "unsure") _ _ (λ u.
    each_then P (IsWritten IsNumber epoch) (number epoch) _ (any_spelled epoch) (λ n h.
    each_then P (IsWritten IsNumber event) (number event) _ (any_spelled event) (λ m k.
    ((h.0, k.0), rw (e, u, h.1, k.1) (ap (λ (xs : List ℕ). 32 ∷ (codes "epoch-ended" ++ 32 ∷ xs)) (append_assoc epoch (32 ∷ event) (codes " unsure")))))))
    tt

of_three_spelled : (ends : Bool) (name first second third : List ℕ) → Each (IsAnswerOf ends (name ∷ first ∷ second ∷ third ∷ [])) (spec.of_three name first second third)
of_three_spelled ends name first second third =
    let P : Answer → Type 0 = IsAnswerOf ends (name ∷ first ∷ second ∷ third ∷ []) in
    each_word P name (codes "done") _ _ (done_spelled ends name first second third)
    (each_word P name (codes "epoch-ended") _ _ (ended_unsure_spelled ends name first second third) tt)

look_spelled : (ends : Bool) (name count a b c : List ℕ) → name ≡ codes "look" → Each (IsAnswerOf ends (name ∷ count ∷ a ∷ b ∷ c ∷ [])) (spec.look count a b c)
look_spelled ends name count a b c e =
    let P : Answer → Type 0 = IsAnswerOf ends (name ∷ count ∷ a ∷ b ∷ c ∷ []) in
    let Q : List ℕ → Option ℕ → Type 0 = λ word k. IfSome k IsNumber × (optional_word k ≡ word) in
    each_then P (IsWritten IsNumber count) (number count) _ (any_spelled count) (λ n h.
    each_then P (Q a) (optional a) _ (optional_spelled a) (λ x p.
    each_then P (Q b) (optional b) _ (optional_spelled b) (λ y q.
    each_then P (Q c) (optional c) _ (optional_spelled c) (λ z r.
    (record { count = h.0; shown = (p.0, (q.0, (r.0, tt))); three = refl }, rw (e, optional_is x, optional_is y, optional_is z, h.1, p.1, q.1, r.1, append-nil c) refl)))))

of_four_spelled : (ends : Bool) (name first second third fourth : List ℕ) → Each (IsAnswerOf ends (name ∷ first ∷ second ∷ third ∷ fourth ∷ [])) (spec.of_four name first second third fourth)
of_four_spelled ends name first second third fourth = each_word (IsAnswerOf ends (name ∷ first ∷ second ∷ third ∷ fourth ∷ [])) name (codes "look") _ _ (look_spelled ends name first second third fourth) tt

noticed : (ends : Bool) (name dropped : List ℕ) (words : List (List ℕ)) (numbers : List ℕ) (d : ℕ) → name ≡ codes "notices" → IsWritten IsNumber dropped d → length words ≤ 64 → AllByRecursion IsNumber numbers × (map decimal numbers ≡ words) → IsAnswerOf ends (name ∷ dropped ∷ words) (answer.Notices d (record { items = numbers }))
noticed ends name dropped words numbers d e h few k =
    let len : length numbers ≤ 64 = omega (arith, few, length-map numbers decimal, ap (λ (ws : List (List ℕ)). length ws) k.1) in
    let text : listed 32 d numbers ≡ joined 32 (dropped ∷ words) = sym (listed_joined 32 d numbers) ∙ ap (λ (x : List ℕ). joined 32 (x ∷ map decimal numbers)) h.1 ∙ ap (λ (ws : List (List ℕ)). joined 32 (dropped ∷ ws)) k.1 in
    ((h.0, record { each = k.0; few = len }), ap (λ (xs : List ℕ). 32 ∷ (codes "notices" ++ 32 ∷ xs)) text ∙ ap (λ (x : List ℕ). 32 ∷ (x ++ 32 ∷ joined 32 (dropped ∷ words))) (sym e))

notices_spelled : (ends : Bool) (name : List ℕ) (words : List (List ℕ)) → name ≡ codes "notices" → Each (IsAnswerOf ends (name ∷ words)) (spec.notices words)
notices_spelled ends name [] e = tt
notices_spelled ends name (dropped ∷ words) e =
    let P : Answer → Type 0 = IsAnswerOf ends (name ∷ dropped ∷ words) in
    let Q : List ℕ → Type 0 = λ ns. AllByRecursion IsNumber ns × (map decimal ns ≡ words) in
    let K : ArrayVec ℕ → Type 0 = λ kept. Q kept.items in
    each_then P (IsWritten IsNumber dropped) (number dropped) _ (any_spelled dropped) (λ d h.
    each_then P (λ _. length words ≤ 64) (rule (nat_le (length words) 64)) _ (each_if (λ _. length words ≤ 64) (nat_le (length words) 64) (Some tt) None (λ few. leb-true (length words) 64 few) (λ many. tt)) (λ _ few.
    each_then P K (spec.kept words) _ (each_made K Q (all_of number words) (λ ns. record { items = ns }) (all_spelled IsNumber number any_spelled words) (λ ns k. k)) (λ kept k.
    noticed ends name dropped words kept.items d e h few k)))

-- ---- all answers

of_words_spelled : (ends : Bool) (name : List ℕ) (words : List (List ℕ)) → Each (IsAnswerOf ends (name ∷ words)) (spec.of_words ends name words)
of_words_spelled ends name [] = bare_spelled ends name
of_words_spelled ends name (a ∷ []) = of_word_spelled ends name a
of_words_spelled ends name (a ∷ b ∷ []) = of_two_spelled ends name a b
of_words_spelled ends name (a ∷ b ∷ c ∷ []) = of_three_spelled ends name a b c
of_words_spelled ends name (a ∷ b ∷ c ∷ d ∷ []) = of_four_spelled ends name a b c d
of_words_spelled ends name (a ∷ b ∷ c ∷ d ∷ e ∷ words) = tt

pub answer_spelled : (ends : Bool) (name : List ℕ) (words : List (List ℕ)) → Each (IsAnswerOf ends (name ∷ words)) (spec.answer_of ends name words)
answer_spelled ends name words = each_word (IsAnswerOf ends (name ∷ words)) name (codes "notices") _ _ (notices_spelled ends name words) (of_words_spelled ends name words)
