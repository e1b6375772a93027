-- No line feed stands in the words of a line.
use Rattle.std.proofs.Common.{◌≡◌, ℕ, Bool, true, false, List, [], ◌∷◌, ◌++◌, Option, Some, refl, arith, codes}
use Rattle.std.specs.Fmt.{radix_digits}
use Rattle.apdu.specs.Words.{two_bytes}
use Rattle.apdu.specs.Apdu.{command_bytes, response_bytes}
use Rattle.card_model.specs.declared.world.WorldEvent.{WorldEvent}
use Rattle.card_model.specs.declared.world.WorldEvent.TheVariants as world_event
use Rattle.script_reader.specs.declared.types.Script.{Script}
use Rattle.report.specs.Texts.{word, number_text, hex_text, byte_text, optional_text, numbers_text, shown_text, rows_text, unsure_text, answer_text, event_text, family_text, acted_text, command_text, response_text, line_words}
use Rattle.report.specs.declared.answer.Answer.{Answer}
use Rattle.report.specs.declared.answer.Answer.TheVariants as answer
use Rattle.report.specs.declared.line.Line.{Line}
use Rattle.report.specs.declared.line.Line.TheVariants as line
use Rattle.report_reader.specs.Content.{content}
use Rattle.report_reader.specs.Ranges.{AreBytes}
use Rattle.report_reader.specs.Forms.{IsAnswer, IsLine}
use Rattle.report_reader.proofs.Parts.{Lacks, lacks_both}
use Rattle.report_reader.proofs.Readings.{read_as}
use Rattle.report_reader.proofs.Numbers.{decimal_plain, hexadecimal_plain}
use Rattle.report_reader.proofs.Bytes.{hex_plain, are_two_bytes, are_command_bytes, are_response_bytes}
use Rattle.report_reader.proofs.Fields.{by_test, optional_is, optional_plain, rows_is, rows_plain, family_plain}
use Rattle.report_reader.proofs.Json.{content_spelled}

abbrev Clear : List ℕ → Type 0
Clear text = Lacks 10 text

both : (xs ys : List ℕ) → Clear xs → Clear ys → Clear (xs ++ ys)
both xs ys h k = lacks_both 10 xs ys h k

number_clear : (n : ℕ) → Clear (number_text n)
number_clear n = (refl, decimal_plain 10 n (omega arith))

hex_clear : (bytes : List ℕ) → AreBytes bytes → Clear (hex_text bytes)
hex_clear bytes h = (refl, hex_plain 10 bytes refl h)

optional_clear : (k : Option ℕ) → Clear (optional_text k)
optional_clear k = rw (optional_is k) (refl, optional_plain 10 k (omega arith))

rows_clear : (left : List ℕ) → Clear (rows_text left)
rows_clear left = rw (rows_is left) (refl, rows_plain 10 left (omega arith))

numbers_clear : (numbers : List ℕ) → Clear (numbers_text numbers)
numbers_clear [] = tt
numbers_clear (n ∷ numbers) = both (number_text n) (numbers_text numbers) (number_clear n) (numbers_clear numbers)

shown_clear : (shown : List (Option ℕ)) → Clear (shown_text shown)
shown_clear [] = tt
shown_clear (k ∷ shown) = both (optional_text k) (shown_text shown) (optional_clear k) (shown_clear shown)

unsure_clear : (unsure : Bool) → Clear (unsure_text unsure)
unsure_clear true = by_test 10 (codes " unsure") refl
unsure_clear false = tt

-- a name with one text behind it, or two, or three
named : (name text : List ℕ) → Clear name → Clear text → Clear (name ++ text)
named name text h k = both name text h k

named_two : (name a b : List ℕ) → Clear name → Clear a → Clear b → Clear (name ++ a ++ b)
named_two name a b h k m = both (name ++ a) b (both name a h k) m

named_three : (name a b c : List ℕ) → Clear name → Clear a → Clear b → Clear c → Clear (name ++ a ++ b ++ c)
named_three name a b c h k m n = both (name ++ a ++ b) c (named_two name a b h k m) n

answer_clear : (ended : Bool) (given : Answer) → IsAnswer ended given → Clear (answer_text given)
answer_clear ended answer.Moved h = by_test 10 (codes " moved") refl
answer_clear ended answer.SlotFull h = by_test 10 (codes " slot-full") refl
answer_clear ended answer.SlotEmpty h = by_test 10 (codes " slot-empty") refl
answer_clear ended answer.ArmFull h = by_test 10 (codes " arm-full") refl
answer_clear ended answer.Absent h = by_test 10 (codes " absent") refl
answer_clear ended (answer.EpochEnded e n unsure) h = named_three (codes " epoch-ended") (number_text e) (number_text n) (unsure_text unsure) (by_test 10 (codes " epoch-ended") refl) (number_clear e) (number_clear n) (unsure_clear unsure)
answer_clear ended (answer.Status sw n) h = named_two (codes " status") (hex_text (two_bytes sw.0)) (number_text n) (by_test 10 (codes " status") refl) (hex_clear (two_bytes sw.0) (are_two_bytes sw.0 h.0)) (number_clear n)
answer_clear ended (answer.Loop n) h = named (codes " loop") (number_text n) (by_test 10 (codes " loop") refl) (number_clear n)
answer_clear ended (answer.BadFcp n) h = named (codes " bad-fcp") (number_text n) (by_test 10 (codes " bad-fcp") refl) (number_clear n)
answer_clear ended (answer.Loaded k) h = named (codes " loaded") (number_text k) (by_test 10 (codes " loaded") refl) (number_clear k)
answer_clear ended (answer.Done n k left) h = named_three (codes " done") (number_text n) (optional_text k) (rows_text left) (by_test 10 (codes " done") refl) (number_clear n) (optional_clear k) (rows_clear left)
answer_clear ended (answer.NeedsPin key) h = named (codes " needs-pin") (byte_text key) (by_test 10 (codes " needs-pin") refl) (hex_clear (key ∷ []) (h, tt))
answer_clear ended (answer.BadFile width) h = named (codes " bad-file") (number_text width) (by_test 10 (codes " bad-file") refl) (number_clear width)
answer_clear ended (answer.NoRecord at) h = named (codes " no-record") (number_text at) (by_test 10 (codes " no-record") refl) (number_clear at)
answer_clear ended (answer.Full count) h = named (codes " full") (number_text count) (by_test 10 (codes " full") refl) (number_clear count)
answer_clear ended (answer.NotWritable found) h = named (codes " not-writable") (word (radix_digits 16 true found)) (by_test 10 (codes " not-writable") refl) (refl, hexadecimal_plain 10 found (omega arith))
answer_clear ended (answer.NameTooLong need room) h = named_two (codes " name-too-long") (number_text need) (number_text room) (by_test 10 (codes " name-too-long") refl) (number_clear need) (number_clear room)
answer_clear ended (answer.BadDigit at) h = named (codes " bad-digit") (number_text at) (by_test 10 (codes " bad-digit") refl) (number_clear at)
answer_clear ended (answer.NumberTooLong count) h = named (codes " number-too-long") (number_text count) (by_test 10 (codes " number-too-long") refl) (number_clear count)
answer_clear ended (answer.ExtFull count) h = named (codes " ext-full") (number_text count) (by_test 10 (codes " ext-full") refl) (number_clear count)
answer_clear ended (answer.Opened channel) h = named (codes " opened") (number_text channel) (by_test 10 (codes " opened") refl) (number_clear channel)
answer_clear ended (answer.Exhausted n) h = named (codes " exhausted") (number_text n) (by_test 10 (codes " exhausted") refl) (number_clear n)
answer_clear ended (answer.Raw r) h = named (codes " raw") (hex_text (response_bytes r)) (by_test 10 (codes " raw") refl) (hex_clear (response_bytes r) (are_response_bytes r h))
answer_clear ended (answer.RawRefused ins) h = named (codes " raw-refused") (byte_text ins) (by_test 10 (codes " raw-refused") refl) (hex_clear (ins ∷ []) (h, tt))
answer_clear ended (answer.NotHeldRef handle) h = named (codes " not-held") (number_text handle) (by_test 10 (codes " not-held") refl) (number_clear handle)
answer_clear ended (answer.NotHeldKey key) h = named (codes " not-held") (byte_text key) (by_test 10 (codes " not-held") refl) (hex_clear (key ∷ []) (h.1, tt))
answer_clear ended answer.Closed h = by_test 10 (codes " closed") refl
answer_clear ended answer.Verified h = by_test 10 (codes " verified") refl
answer_clear ended answer.Ended h = by_test 10 (codes " ended") refl
answer_clear ended answer.Polled h = by_test 10 (codes " polled") refl
answer_clear ended (answer.Look seen) h = named_two (codes " look") (number_text seen.count) (shown_text seen.shown) (by_test 10 (codes " look") refl) (number_clear seen.count) (shown_clear seen.shown)
answer_clear ended answer.Watching h = by_test 10 (codes " watching") refl
answer_clear ended (answer.Notices dropped numbers) h = named_two (codes " notices") (number_text dropped) (numbers_text numbers.items) (by_test 10 (codes " notices") refl) (number_clear dropped) (numbers_clear numbers.items)

event_clear : (e : WorldEvent) → Clear (event_text e)
event_clear (world_event.Arm i) = named (codes " arm") (number_text i) (by_test 10 (codes " arm") refl) (number_clear i)
event_clear world_event.Out = by_test 10 (codes " out") refl
event_clear (world_event.Insert j) = named (codes " in") (number_text j) (by_test 10 (codes " in") refl) (number_clear j)

acted_clear : (acted : Bool) → Clear (acted_text acted)
acted_clear true = by_test 10 (codes " 1") refl
acted_clear false = by_test 10 (codes " 0") refl

content_clear : (text : List ℕ) → content text ≡ Some text → Clear text
content_clear text e = (read_as (λ (shown : List ℕ). (shown ≡ text) × Lacks 10 shown) (content text) text (content_spelled text) e).1

pub line_clear : (s : Script) (l : Line) → IsLine s l → Lacks 10 (line_words l)
line_clear s (line.Turn a) h = named (codes "t") (number_text a) (refl, tt) (number_clear a)
line_clear s (line.Begin a i) h = named_two (codes "b") (number_text a) (number_text i) (refl, tt) (number_clear a) (number_clear i)
line_clear s (line.Exchange a c r) h = named_three (codes "x") (number_text a) (command_text c) (response_text r) (refl, tt) (number_clear a) (hex_clear (command_bytes c) (are_command_bytes c h.1)) (hex_clear (response_bytes r) (are_response_bytes r h.2))
line_clear s (line.Failed a c acted) h = named_three (codes "f") (number_text a) (command_text c) (acted_text acted) (refl, tt) (number_clear a) (hex_clear (command_bytes c) (are_command_bytes c h.1)) (acted_clear acted)
line_clear s (line.Reset a) h = named (codes "r") (number_text a) (refl, tt) (number_clear a)
line_clear s (line.ResetFailed a) h = named (codes "q") (number_text a) (refl, tt) (number_clear a)
line_clear s (line.World a e) h = named_two (codes "w") (number_text a) (event_text e) (refl, tt) (number_clear a) (event_clear e)
line_clear s (line.Published k f e n text) h =
    let front = named_three (codes "p") (number_text k) (family_text f) (number_text e) (refl, tt) (number_clear k) (refl, (family_plain f h.family).1) (number_clear e) in
    both (codes "p" ++ number_text k ++ family_text f ++ number_text e ++ number_text n) (word text)
    (both (codes "p" ++ number_text k ++ family_text f ++ number_text e) (number_text n) front (number_clear n))
    (refl, content_clear text h.content)
line_clear s (line.EpochEnd k e n) h = named_three (codes "z") (number_text k) (number_text e) (number_text n) (refl, tt) (number_clear k) (number_clear e) (number_clear n)
line_clear s (line.Refused f n) h = named_two (codes "d") (family_text f) (number_text n) (refl, tt) (refl, (family_plain f h.0).1) (number_clear n)
line_clear s (line.Answered a i given) h = named_three (codes "a") (number_text a) (number_text i) (answer_text given) (refl, tt) (number_clear a) (number_clear i) (answer_clear _ given h.2)
