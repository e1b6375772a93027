-- Lines are read from their words.
use Rattle.std.proofs.Common.{◌≡◌, ℕ, Bool, true, false, List, [], ◌∷◌, ◌++◌, drop, Some, decimal, zero, suc, refl, ap, ◌∙◌, append_assoc, arith, codes}
use Rattle.hex.specs.Hex.{encode_upper}
use Rattle.apdu.specs.Values.{CommandValue, ResponseValue}
use Rattle.apdu.specs.Apdu.{command_bytes, response_bytes}
use Rattle.card_model.specs.declared.world.WorldEvent.{WorldEvent}
use Rattle.card_model.specs.declared.world.WorldEvent.TheVariants as world_event
use Rattle.script_reader.specs.declared.types.Script.{Script}
use Rattle.script_writer.specs.Writing.{family_name}
use Rattle.report.specs.Texts.{answer_text, number_text, line_words}
use Rattle.report.specs.declared.answer.Answer.{Answer}
use Rattle.report.specs.declared.answer.Answer.TheVariants as answer
use Rattle.report.specs.declared.line.Line.{Line}
use Rattle.report.specs.declared.line.Line.TheVariants as line
use Rattle.report_reader.specs.Words.{words_of}
use Rattle.report_reader.specs.Lines.{line_of, published, published_of, answered, ends}
use Rattle.report_reader.specs.Ranges.{IsByte, IsPlace, IsNumber, IsFamily, IsCommand, IsResponse}
use Rattle.report_reader.specs.Forms.{IsAnswer, IsEvent, IsPublished, IsLine}
use Rattle.report_reader.proofs.Parts.{next_part, first_next, behind_next}
use Rattle.report_reader.proofs.Numbers.{decimal_plain}
use Rattle.report_reader.proofs.Bytes.{hex_plain, command_back, are_command_bytes, response_back, are_response_bytes}
use Rattle.report_reader.proofs.Fields.{byte_back, place_back, any_back, last_number, next_number, family_back, family_plain}
use Rattle.report_reader.proofs.AnswersBack.{answer_in, last_hex, answer_back}

abbrev IsBack : Script → Line → Type 0
IsBack s l = line_of s (line_words l) ≡ Some l

turn_back : (s : Script) (a : ℕ) → IsByte a → IsBack s (line.Turn a)
turn_back s a h = rw (last_number a, byte_back a h) refl

reset_back : (s : Script) (a : ℕ) → IsByte a → IsBack s (line.Reset a)
reset_back s a h = rw (last_number a, byte_back a h) refl

reset_failed_back : (s : Script) (a : ℕ) → IsByte a → IsBack s (line.ResetFailed a)
reset_failed_back s a h = rw (last_number a, byte_back a h) refl

begin_back : (s : Script) (a i : ℕ) → IsByte a → IsPlace i → IsBack s (line.Begin a i)
begin_back s a i h k = rw (next_number a (decimal i), last_number i, byte_back a h, place_back i k) refl

epoch_end_back : (s : Script) (k e n : ℕ) → IsNumber k → IsNumber e → IsNumber n → IsBack s (line.EpochEnd k e n)
epoch_end_back s k e n hk he hn = rw (append_assoc (decimal k) (32 ∷ decimal e) (32 ∷ decimal n), next_number k (decimal e ++ 32 ∷ decimal n), next_number e (decimal n), last_number n, any_back k hk, any_back e he, any_back n hn) refl

-- a command with something behind it
next_command : (c : CommandValue) (rest : List ℕ) → IsCommand c → words_of (encode_upper (command_bytes c) ++ 32 ∷ rest) ≡ encode_upper (command_bytes c) ∷ words_of rest
next_command c rest h = next_part 32 (encode_upper (command_bytes c)) rest (hex_plain 32 (command_bytes c) refl (are_command_bytes c h))

exchange_back : (s : Script) (a : ℕ) (c : CommandValue) (r : ResponseValue) → IsByte a → IsCommand c → IsResponse r → IsBack s (line.Exchange a c r)
exchange_back s a c r h hc hr =
    let sent = encode_upper (command_bytes c) in
    let answered = encode_upper (response_bytes r) in
    rw (append_assoc (decimal a) (32 ∷ sent) (32 ∷ answered), next_number a (sent ++ 32 ∷ answered), next_command c answered hc, last_hex (response_bytes r) (are_response_bytes r hr), byte_back a h, command_back c hc, response_back r hr) refl

failed_back : (s : Script) (a : ℕ) (c : CommandValue) (acted : Bool) → IsByte a → IsCommand c → IsBack s (line.Failed a c acted)
failed_back s a c true h hc =
    let sent = encode_upper (command_bytes c) in
    rw (append_assoc (decimal a) (32 ∷ sent) (codes " 1"), next_number a (sent ++ codes " 1"), next_command c (codes "1") hc, byte_back a h, command_back c hc) refl
failed_back s a c false h hc =
    let sent = encode_upper (command_bytes c) in
    rw (append_assoc (decimal a) (32 ∷ sent) (codes " 0"), next_number a (sent ++ codes " 0"), next_command c (codes "0") hc, byte_back a h, command_back c hc) refl

world_back : (s : Script) (a : ℕ) (e : WorldEvent) → IsByte a → IsEvent e → IsBack s (line.World a e)
world_back s a (world_event.Arm i) h k = rw (next_number a (codes "arm " ++ decimal i), last_number i, byte_back a h, byte_back i k) refl
world_back s a world_event.Out h k = rw (next_number a (codes "out"), byte_back a h) refl
world_back s a (world_event.Insert j) h k = rw (next_number a (codes "in " ++ decimal j), last_number j, byte_back a h, byte_back j k) refl

refused_back : (s : Script) (f n : ℕ) → IsFamily f → IsNumber n → IsBack s (line.Refused f n)
refused_back s zero n h k = rw (last_number n, any_back n k) refl
refused_back s (suc zero) n h k = rw (last_number n, any_back n k) refl
refused_back s (suc (suc zero)) n h k = rw (last_number n, any_back n k) refl
refused_back s (suc (suc (suc f))) n h k = absurd (omega (arith, h))

-- ---- publications

-- what stands behind the number, the family and the epoch
abbrev behind_family : ℕ → ℕ → List ℕ → List ℕ
behind_family e n text = decimal e ++ 32 ∷ (decimal n ++ 32 ∷ text)

published_parts : (k f e n : ℕ) (text : List ℕ) → IsFamily f → published (decimal k ++ 32 ∷ (family_name f ++ 32 ∷ behind_family e n text)) ≡ published_of (decimal k) (family_name f) (decimal e) (decimal n) text
published_parts k f e n text h =
    let plain : (m : ℕ) → _ = λ m. decimal_plain 32 m (omega arith) in
    let family = family_name f ++ 32 ∷ behind_family e n text in
    rw (
      first_next (decimal k) family (plain k),
      behind_next (decimal k) family (plain k),
      first_next (family_name f) (behind_family e n text) (family_plain f h).0,
      behind_next (family_name f) (behind_family e n text) (family_plain f h).0,
      first_next (decimal e) (decimal n ++ 32 ∷ text) (plain e),
      behind_next (decimal e) (decimal n ++ 32 ∷ text) (plain e),
      first_next (decimal n) text (plain n),
      behind_next (decimal n) text (plain n),
    ) refl

published_back : (s : Script) (k f e n : ℕ) (text : List ℕ) → IsPublished k f e n text → IsBack s (line.Published k f e n text)
published_back s k f e n text h =
    let rest = family_name f in
    let whole : (((decimal k ++ 32 ∷ rest) ++ 32 ∷ decimal e) ++ 32 ∷ decimal n) ++ 32 ∷ text ≡ decimal k ++ 32 ∷ (rest ++ 32 ∷ behind_family e n text) =
    append_assoc ((decimal k ++ 32 ∷ rest) ++ 32 ∷ decimal e) (32 ∷ decimal n) (32 ∷ text)
    ∙ append_assoc (decimal k ++ 32 ∷ rest) (32 ∷ decimal e) (32 ∷ (decimal n ++ 32 ∷ text))
    ∙ append_assoc (decimal k) (32 ∷ rest) (32 ∷ behind_family e n text) in
    ap published whole ∙ published_parts k f e n text h.family ∙ rw (any_back k h.number, family_back f h.family, any_back e h.epoch, any_back n h.point, h.content) refl

-- ---- answers

-- a space stands before it
starts : (given : Answer) → answer_text given ≡ 32 ∷ drop 1 (answer_text given)
starts answer.Moved = refl
starts answer.SlotFull = refl
starts answer.SlotEmpty = refl
starts answer.ArmFull = refl
starts answer.Absent = refl
starts (answer.EpochEnded e n unsure) = refl
starts (answer.Status sw n) = refl
starts (answer.Loop n) = refl
starts (answer.BadFcp n) = refl
starts (answer.Loaded k) = refl
starts (answer.Done n k left) = refl
starts (answer.NeedsPin key) = refl
starts (answer.BadFile width) = refl
starts (answer.NoRecord at) = refl
starts (answer.Full count) = refl
starts (answer.NotWritable found) = refl
starts (answer.NameTooLong need room) = refl
starts (answer.BadDigit at) = refl
starts (answer.NumberTooLong count) = refl
starts (answer.ExtFull count) = refl
starts (answer.Opened channel) = refl
starts (answer.Exhausted n) = refl
starts (answer.Raw r) = refl
starts (answer.RawRefused ins) = refl
starts (answer.NotHeldRef handle) = refl
starts (answer.NotHeldKey key) = refl
starts answer.Closed = refl
starts answer.Verified = refl
starts answer.Ended = refl
starts answer.Polled = refl
starts (answer.Look seen) = refl
starts answer.Watching = refl
starts (answer.Notices dropped numbers) = refl

answered_words : (s : Script) (a i : ℕ) (given : Answer) (words : List (List ℕ)) → IsByte a → IsPlace i → answer_in (ends s a i) words ≡ Some given → answered s (decimal a ∷ decimal i ∷ words) ≡ Some (line.Answered a i given)
answered_words s a i given [] h k e = absurd (cc)
answered_words s a i given (name ∷ words) h k e = rw (byte_back a h, place_back i k, e) refl

answered_from : (s : Script) (a i : ℕ) (given : Answer) (text rest : List ℕ) → text ≡ 32 ∷ rest → IsByte a → IsPlace i → answer_in (ends s a i) (words_of rest) ≡ Some given
    → line_of s ((codes "a" ++ number_text a ++ number_text i) ++ text) ≡ Some (line.Answered a i given)
answered_from s a i given text rest begins h k e =
    let words : words_of ((decimal a ++ 32 ∷ decimal i) ++ 32 ∷ rest) ≡ decimal a ∷ decimal i ∷ words_of rest =
    ap words_of (append_assoc (decimal a) (32 ∷ decimal i) (32 ∷ rest))
    ∙ next_number a (decimal i ++ 32 ∷ rest)
    ∙ ap (λ (ws : List (List ℕ)). decimal a ∷ ws) (next_number i rest) in
    ap (λ (x : List ℕ). line_of s ((codes "a" ++ number_text a ++ number_text i) ++ x)) begins
    ∙ ap (answered s) words
    ∙ answered_words s a i given (words_of rest) h k e

answered_back : (s : Script) (a i : ℕ) (given : Answer) → IsByte a → IsPlace i → IsAnswer (ends s a i) given → IsBack s (line.Answered a i given)
answered_back s a i given h k g = answered_from s a i given (answer_text given) (drop 1 (answer_text given)) (starts given) h k (answer_back (ends s a i) given g)

-- ---- all lines

pub line_back : (s : Script) (l : Line) → IsLine s l → line_of s (line_words l) ≡ Some l
line_back s (line.Turn a) h = turn_back s a h
line_back s (line.Begin a i) h = begin_back s a i h.0 h.1
line_back s (line.Exchange a c r) h = exchange_back s a c r h.0 h.1 h.2
line_back s (line.Failed a c acted) h = failed_back s a c acted h.0 h.1
line_back s (line.Reset a) h = reset_back s a h
line_back s (line.ResetFailed a) h = reset_failed_back s a h
line_back s (line.World a e) h = world_back s a e h.0 h.1
line_back s (line.Published k f e n text) h = published_back s k f e n text h
line_back s (line.EpochEnd k e n) h = epoch_end_back s k e n h.0 h.1 h.2
line_back s (line.Refused f n) h = refused_back s f n h.0 h.1
line_back s (line.Answered a i given) h = answered_back s a i given h.0 h.1 h.2
