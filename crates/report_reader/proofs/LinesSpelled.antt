-- The text that is read as a line is the text of that line.
use Rattle.std.proofs.Common.{◌≡◌, ℕ, Bool, List, [], ◌∷◌, ◌++◌, Option, Some, None, decimal, zero, suc, subst, refl, sym, ap, ◌∙◌, append_assoc, arith, codes}
use Rattle.std.specs.Prelude.{option_map}
use Rattle.hex.specs.Hex.{encode_upper}
use Rattle.apdu.specs.Values.{CommandValue, ResponseValue}
use Rattle.apdu.specs.Apdu.{command_bytes, response_bytes}
use Rattle.card_model.specs.declared.world.WorldEvent.{WorldEvent}
use Rattle.card_model.specs.declared.world.WorldEvent.TheVariants as world_event
use Rattle.script_reader.specs.declared.types.Script.{Script}
use Rattle.script_writer.specs.Writing.{family_name}
use Rattle.report.specs.Texts.{event_text, acted_text, line_words}
use Rattle.report.specs.declared.line.Line.{Line}
use Rattle.report.specs.declared.line.Line.TheVariants as line
use Rattle.report_reader.specs.Words.{words_of, first_word, behind_word, byte, number, command, response, family}
use Rattle.report_reader.specs.Content.{content}
use Rattle.report_reader.specs.Answers.{answer_of}
use Rattle.report_reader.specs.Lines as spec
use Rattle.report_reader.specs.Lines.{place, actor_of, line_of_words, line_of, ends}
use Rattle.report_reader.specs.Ranges.{IsByte, IsPlace, IsNumber, IsFamily, IsCommand, IsResponse}
use Rattle.report_reader.specs.Forms.{IsEvent, IsContent, IsLine}
use Rattle.report_reader.proofs.Parts.{Lacks, joined, join_next, join_parts, HasFirst, parts_some, first_some, behind_some, cut}
use Rattle.report_reader.proofs.Readings.{Each, each_then, each_made, each_as, each_word}
use Rattle.report_reader.proofs.Bytes.{command_spelled, response_spelled}
use Rattle.report_reader.proofs.Fields.{IsWritten, byte_spelled, place_spelled, any_spelled, family_spelled, acted_spelled}
use Rattle.report_reader.proofs.Json.{content_spelled, no_content}
use Rattle.report_reader.proofs.AnswersSpelled.{IsAnswerOf, answer_spelled}

-- a line whose words are these, the kind first
abbrev IsLineOf : Script → List (List ℕ) → Line → Type 0
IsLineOf s words l = IsLine s l × (line_words l ≡ joined 32 words)

-- ---- turns, events and ends of epochs

actor_spelled : (words : List (List ℕ)) → Each (λ (a : ℕ). IsByte a × (decimal a ∷ [] ≡ words)) (actor_of words)
actor_spelled [] = tt
actor_spelled (actor ∷ []) = of_byte (byte actor) (byte_spelled actor)
  where
    of_byte : (o : Option ℕ) → Each (IsWritten IsByte actor) o → Each (λ (a : ℕ). IsByte a × (decimal a ∷ [] ≡ actor ∷ [])) o
    of_byte None h = tt
    of_byte (Some a) h = (h.0, ap (λ (w : List ℕ). w ∷ []) h.1)
actor_spelled (actor ∷ other ∷ words) = tt

-- a line of this kind that names its actor alone
actor_line : (s : Script) (kind name : List ℕ) (words : List (List ℕ)) (make : ℕ → Line) → kind ≡ name → ((a : ℕ) → IsByte a → IsLineOf s (name ∷ decimal a ∷ []) (make a)) → Each (IsLineOf s (kind ∷ words)) (option_map make (actor_of words))
actor_line s kind name words make e each =
    each_made (IsLineOf s (kind ∷ words)) (λ (a : ℕ). IsByte a × (decimal a ∷ [] ≡ words)) (actor_of words) make (actor_spelled words) (λ a h.
    let same : name ∷ decimal a ∷ [] ≡ kind ∷ words = ap (λ (k : List ℕ). k ∷ decimal a ∷ []) (sym e) ∙ ap (λ (ws : List (List ℕ)). kind ∷ ws) h.1 in
    subst (λ (ws : List (List ℕ)). IsLineOf s ws (make a)) same (each a h.0))

begin_spelled : (s : Script) (kind : List ℕ) (words : List (List ℕ)) → kind ≡ codes "b" → Each (IsLineOf s (kind ∷ words)) (spec.begin words)
begin_spelled s kind [] e = tt
begin_spelled s kind (actor ∷ []) e = tt
begin_spelled s kind (actor ∷ op ∷ []) e =
    let P : Line → Type 0 = IsLineOf s (kind ∷ actor ∷ op ∷ []) in
    each_then P (IsWritten IsByte actor) (byte actor) _ (byte_spelled actor) (λ a h.
    each_then P (IsWritten IsPlace op) (place op) _ (place_spelled op) (λ i k.
    ((h.0, k.0), rw (e, h.1, k.1) refl)))
begin_spelled s kind (actor ∷ op ∷ other ∷ words) e = tt

exchange_of_spelled : (s : Script) (kind actor sent answered : List ℕ) → kind ≡ codes "x" → Each (IsLineOf s (kind ∷ actor ∷ sent ∷ answered ∷ [])) (spec.exchange_of actor sent answered)
exchange_of_spelled s kind actor sent answered e =
    let P : Line → Type 0 = IsLineOf s (kind ∷ actor ∷ sent ∷ answered ∷ []) in
    each_then P (IsWritten IsByte actor) (byte actor) _ (byte_spelled actor) (λ a h.
    each_then P (λ (c : CommandValue). IsCommand c × (encode_upper (command_bytes c) ≡ sent)) (command sent) _ (command_spelled sent) (λ c hc.
    each_then P (λ (r : ResponseValue). IsResponse r × (encode_upper (response_bytes r) ≡ answered)) (response answered) _ (response_spelled answered) (λ r hr.
    ((h.0, hc.0, hr.0), rw (e, h.1, hc.1, hr.1) (ap (λ (xs : List ℕ). codes "x " ++ xs) (append_assoc actor (32 ∷ sent) (32 ∷ answered)))))))

failed_of_spelled : (s : Script) (kind actor sent word : List ℕ) → kind ≡ codes "f" → Each (IsLineOf s (kind ∷ actor ∷ sent ∷ word ∷ [])) (spec.failed_of actor sent word)
failed_of_spelled s kind actor sent word e =
    let P : Line → Type 0 = IsLineOf s (kind ∷ actor ∷ sent ∷ word ∷ []) in
    each_then P (IsWritten IsByte actor) (byte actor) _ (byte_spelled actor) (λ a h.
    each_then P (λ (c : CommandValue). IsCommand c × (encode_upper (command_bytes c) ≡ sent)) (command sent) _ (command_spelled sent) (λ c hc.
    each_then P (λ (acted : Bool). acted_text acted ≡ 32 ∷ word) (spec.acted_of word) _ (acted_spelled word) (λ acted k.
    ((h.0, hc.0), rw (e, h.1, hc.1, k) (ap (λ (xs : List ℕ). codes "f " ++ xs) (append_assoc actor (32 ∷ sent) (32 ∷ word)))))))

epoch_end_of_spelled : (s : Script) (kind publication epoch event : List ℕ) → kind ≡ codes "z" → Each (IsLineOf s (kind ∷ publication ∷ epoch ∷ event ∷ [])) (spec.epoch_end_of publication epoch event)
epoch_end_of_spelled s kind publication epoch event e =
    let P : Line → Type 0 = IsLineOf s (kind ∷ publication ∷ epoch ∷ event ∷ []) in
    each_then P (IsWritten IsNumber publication) (number publication) _ (any_spelled publication) (λ k h.
    each_then P (IsWritten IsNumber epoch) (number epoch) _ (any_spelled epoch) (λ m he.
    each_then P (IsWritten IsNumber event) (number event) _ (any_spelled event) (λ n hn.
    ((h.0, he.0, hn.0), rw (e, h.1, he.1, hn.1) (ap (λ (xs : List ℕ). codes "z " ++ xs) (append_assoc publication (32 ∷ epoch) (32 ∷ event)))))))

of_three_spelled : (s : Script) (kind : List ℕ) (read : List ℕ → List ℕ → List ℕ → Option Line) (words : List (List ℕ)) → ((a b c : List ℕ) → Each (IsLineOf s (kind ∷ a ∷ b ∷ c ∷ [])) (read a b c)) → Each (IsLineOf s (kind ∷ words)) (spec.of_three read words)
of_three_spelled s kind read [] h = tt
of_three_spelled s kind read (a ∷ []) h = tt
of_three_spelled s kind read (a ∷ b ∷ []) h = tt
of_three_spelled s kind read (a ∷ b ∷ c ∷ []) h = h a b c
of_three_spelled s kind read (a ∷ b ∷ c ∷ d ∷ words) h = tt

-- ---- world events

-- an event whose words are these
abbrev IsEventOf : List (List ℕ) → WorldEvent → Type 0
IsEventOf words event = IsEvent event × (event_text event ≡ 32 ∷ joined 32 words)

event_spelled : (words : List (List ℕ)) → Each (IsEventOf words) (spec.event_of words)
event_spelled [] = tt
event_spelled (name ∷ []) = each_word (IsEventOf (name ∷ [])) name (codes "out") _ _ (λ e. (tt, rw e refl)) tt
event_spelled (name ∷ word ∷ []) =
    let P : WorldEvent → Type 0 = IsEventOf (name ∷ word ∷ []) in
    each_word P name (codes "arm") _ _ (λ e. each_made P (IsWritten IsByte word) (byte word) world_event.Arm (byte_spelled word) (λ n h. (h.0, rw (e, h.1) refl)))
    (each_word P name (codes "in") _ _ (λ e. each_made P (IsWritten IsByte word) (byte word) world_event.Insert (byte_spelled word) (λ n h. (h.0, rw (e, h.1) refl))) tt)
event_spelled (name ∷ word ∷ other ∷ words) = tt

world_spelled : (s : Script) (kind : List ℕ) (words : List (List ℕ)) → kind ≡ codes "w" → Each (IsLineOf s (kind ∷ words)) (spec.world words)
world_spelled s kind [] e = tt
world_spelled s kind (actor ∷ []) e = each_then (IsLineOf s (kind ∷ actor ∷ [])) (IsWritten IsByte actor) (byte actor) _ (byte_spelled actor) (λ a h. tt)
world_spelled s kind (actor ∷ name ∷ words) e =
    let P : Line → Type 0 = IsLineOf s (kind ∷ actor ∷ name ∷ words) in
    each_then P (IsWritten IsByte actor) (byte actor) _ (byte_spelled actor) (λ a h.
    each_then P (IsEventOf (name ∷ words)) (spec.event_of (name ∷ words)) _ (event_spelled (name ∷ words)) (λ event k.
    ((h.0, k.0), rw (e, h.1, k.1) refl)))

refused_spelled : (s : Script) (kind : List ℕ) (words : List (List ℕ)) → kind ≡ codes "d" → Each (IsLineOf s (kind ∷ words)) (spec.refused words)
refused_spelled s kind [] e = tt
refused_spelled s kind (name ∷ []) e = tt
refused_spelled s kind (name ∷ event ∷ []) e =
    let P : Line → Type 0 = IsLineOf s (kind ∷ name ∷ event ∷ []) in
    each_then P (λ (f : ℕ). IsFamily f × (family_name f ≡ name)) (family name) _ (family_spelled name) (λ f h.
    each_then P (IsWritten IsNumber event) (number event) _ (any_spelled event) (λ n k.
    ((h.0, k.0), rw (e, h.1, k.1) refl)))
refused_spelled s kind (name ∷ event ∷ other ∷ words) e = tt

-- ---- answers

answered_spelled : (s : Script) (kind : List ℕ) (words : List (List ℕ)) → kind ≡ codes "a" → Each (IsLineOf s (kind ∷ words)) (spec.answered s words)
answered_spelled s kind [] e = tt
answered_spelled s kind (actor ∷ []) e = tt
answered_spelled s kind (actor ∷ op ∷ []) e = tt
answered_spelled s kind (actor ∷ op ∷ name ∷ words) e =
    let P : Line → Type 0 = IsLineOf s (kind ∷ actor ∷ op ∷ name ∷ words) in
    each_then P (IsWritten IsByte actor) (byte actor) _ (byte_spelled actor) (λ a h.
    each_then P (IsWritten IsPlace op) (place op) _ (place_spelled op) (λ i k.
    each_then P (IsAnswerOf (ends s a i) (name ∷ words)) (answer_of (ends s a i) name words) _ (answer_spelled (ends s a i) name words) (λ given g.
    ((h.0, k.0, g.0), rw (e, g.1, h.1, k.1) (ap (λ (xs : List ℕ). codes "a " ++ xs) (append_assoc actor (32 ∷ op) (32 ∷ joined 32 (name ∷ words))))))))

-- ---- publications

-- a line of these words, the last of which may have spaces in it
abbrev published_text : List ℕ → List ℕ → List ℕ → List ℕ → List ℕ → List ℕ
published_text publication name epoch point text = publication ++ 32 ∷ (name ++ 32 ∷ (epoch ++ 32 ∷ (point ++ 32 ∷ text)))

-- each of them has a byte
record AreSome (name epoch point text : List ℕ) : Type 0 where
  has_name : HasFirst name
  has_epoch : HasFirst epoch
  has_point : HasFirst point
  has_text : HasFirst text

abbrev IsPublication : Script → List ℕ → List ℕ → List ℕ → List ℕ → List ℕ → Line → Type 0
IsPublication s publication name epoch point text l = IsLine s l × AreSome name epoch point text × (line_words l ≡ codes "p " ++ published_text publication name epoch point text)

some_family : (word : List ℕ) (f : ℕ) → IsFamily f → family_name f ≡ word → HasFirst word
some_family word zero h e = rw (sym e) tt
some_family word (suc zero) h e = rw (sym e) tt
some_family word (suc (suc zero)) h e = rw (sym e) tt
some_family word (suc (suc (suc f))) h e = absurd (omega (arith, h))

number_some : (word : List ℕ) → Each (λ (n : ℕ). IsWritten IsNumber word n × HasFirst word) (number word)
number_some [] = tt
number_some (b ∷ word) = each_as _ (IsWritten IsNumber (b ∷ word)) (number (b ∷ word)) (any_spelled (b ∷ word)) (λ n h. (h, tt))

-- the text is the content, and has no line feed
abbrev IsShown : List ℕ → List ℕ → Type 0
IsShown text shown = IsContent shown × (shown ≡ text) × HasFirst text

content_some : (text : List ℕ) → Each (IsShown text) (content text)
content_some text = by text (content text) refl (content_spelled text)
  where
    by : (t : List ℕ) (o : Option (List ℕ)) → content t ≡ o → Each (λ (shown : List ℕ). (shown ≡ t) × Lacks 10 shown) o → Each (IsShown t) o
    by t None e h = tt
    by [] (Some shown) e h = absurd (let none = no_content in cc)
    by (b ∷ t) (Some shown) e h = (ap content h.0 ∙ e, h.0, tt)

published_of_spelled : (s : Script) (publication name epoch point text : List ℕ) → Each (IsPublication s publication name epoch point text) (spec.published_of publication name epoch point text)
published_of_spelled s publication name epoch point text =
    let P : Line → Type 0 = IsPublication s publication name epoch point text in
    each_then P (IsWritten IsNumber publication) (number publication) _ (any_spelled publication) (λ k hk.
    each_then P (λ (f : ℕ). IsFamily f × (family_name f ≡ name)) (family name) _ (family_spelled name) (λ f hf.
    each_then P (λ (n : ℕ). IsWritten IsNumber epoch n × HasFirst epoch) (number epoch) _ (number_some epoch) (λ e he.
    each_then P (λ (n : ℕ). IsWritten IsNumber point n × HasFirst point) (number point) _ (number_some point) (λ n hn.
    each_then P (IsShown text) (content text) _ (content_some text) (λ shown h. (
      record { number = hk.0; family = hf.0; epoch = he.0.0; point = hn.0.0; content = h.0 },
      record { has_name = some_family name f hf.0 hf.1; has_epoch = he.1; has_point = hn.1; has_text = h.2 },
      rw (hk.1, hf.1, he.0.1, hn.0.1, h.1) (ap (λ (xs : List ℕ). codes "p " ++ xs)
          (append_assoc ((publication ++ 32 ∷ name) ++ 32 ∷ epoch) (32 ∷ point) (32 ∷ text)
          ∙ append_assoc (publication ++ 32 ∷ name) (32 ∷ epoch) (32 ∷ (point ++ 32 ∷ text))
          ∙ append_assoc publication (32 ∷ name) (32 ∷ (epoch ++ 32 ∷ (point ++ 32 ∷ text))))),
    ))))))

-- a line of this text
abbrev IsLineText : Script → List ℕ → Line → Type 0
IsLineText s text l = IsLine s l × (line_words l ≡ text)

published_spelled : (s : Script) (text : List ℕ) → first_word text ≡ codes "p" → Each (IsLineText s text) (spec.published (behind_word text))
published_spelled s text kind =
    each_as (IsLineText s text) (IsPublication s (first_word rest) (first_word one) (first_word two) (first_word three) four) _ (published_of_spelled s (first_word rest) (first_word one) (first_word two) (first_word three) four) (λ l h. (h.0, h.2 ∙ whole h.1))
  where
    rest : List ℕ
    rest = behind_word text

    one : List ℕ
    one = behind_word rest

    two : List ℕ
    two = behind_word one

    three : List ℕ
    three = behind_word two

    four : List ℕ
    four = behind_word three

    whole : AreSome (first_word one) (first_word two) (first_word three) four → codes "p " ++ published_text (first_word rest) (first_word one) (first_word two) (first_word three) four ≡ text
    whole some =
        let has_one = first_some one some.has_name in
        let parts : published_text (first_word rest) (first_word one) (first_word two) (first_word three) four ≡ rest =
        ap (λ (xs : List ℕ). first_word rest ++ 32 ∷ (first_word one ++ 32 ∷ (first_word two ++ 32 ∷ xs))) (cut three some.has_text)
        ∙ ap (λ (xs : List ℕ). first_word rest ++ 32 ∷ (first_word one ++ 32 ∷ xs)) (cut two (first_some three some.has_point))
        ∙ ap (λ (xs : List ℕ). first_word rest ++ 32 ∷ xs) (cut one (first_some two some.has_epoch))
        ∙ cut rest has_one in
        ap (λ (xs : List ℕ). codes "p " ++ xs) parts ∙ ap (λ (xs : List ℕ). xs ++ 32 ∷ rest) (sym kind) ∙ cut text (behind_some rest has_one)

-- ---- all lines

event_line_spelled : (s : Script) (kind : List ℕ) (words : List (List ℕ)) → Each (IsLineOf s (kind ∷ words)) (spec.event_line kind words)
event_line_spelled s kind words =
    let P : Line → Type 0 = IsLineOf s (kind ∷ words) in
    each_word P kind (codes "x") _ _ (λ e. of_three_spelled s kind spec.exchange_of words (λ a b c. exchange_of_spelled s kind a b c e))
    (each_word P kind (codes "f") _ _ (λ e. of_three_spelled s kind spec.failed_of words (λ a b c. failed_of_spelled s kind a b c e))
    (each_word P kind (codes "r") _ _ (λ e. actor_line s kind (codes "r") words line.Reset e (λ a h. (h, refl)))
    (each_word P kind (codes "q") _ _ (λ e. actor_line s kind (codes "q") words line.ResetFailed e (λ a h. (h, refl)))
    (each_word P kind (codes "w") _ _ (λ e. world_spelled s kind words e) tt))))

words_spelled : (s : Script) (kind : List ℕ) (words : List (List ℕ)) → Each (IsLineOf s (kind ∷ words)) (line_of_words s kind words)
words_spelled s kind words =
    let P : Line → Type 0 = IsLineOf s (kind ∷ words) in
    each_word P kind (codes "t") _ _ (λ e. actor_line s kind (codes "t") words line.Turn e (λ a h. (h, refl)))
    (each_word P kind (codes "b") _ _ (λ e. begin_spelled s kind words e)
    (each_word P kind (codes "a") _ _ (λ e. answered_spelled s kind words e)
    (each_word P kind (codes "z") _ _ (λ e. of_three_spelled s kind spec.epoch_end_of words (λ a b c. epoch_end_of_spelled s kind a b c e))
    (each_word P kind (codes "d") _ _ (λ e. refused_spelled s kind words e) (event_line_spelled s kind words)))))

-- a kind alone is no line
no_words : (s : Script) (kind : List ℕ) (P : Line → Type 0) → Each P (line_of_words s kind ([] ∷ []))
no_words s kind P =
    each_word P kind (codes "t") _ _ (λ e. tt)
    (each_word P kind (codes "b") _ _ (λ e. tt)
    (each_word P kind (codes "a") _ _ (λ e. tt)
    (each_word P kind (codes "z") _ _ (λ e. tt)
    (each_word P kind (codes "d") _ _ (λ e. tt)
    (each_word P kind (codes "x") _ _ (λ e. tt)
    (each_word P kind (codes "f") _ _ (λ e. tt)
    (each_word P kind (codes "r") _ _ (λ e. tt)
    (each_word P kind (codes "q") _ _ (λ e. tt)
    (each_word P kind (codes "w") _ _ (λ e. tt) tt)))))))))

behind_spelled : (s : Script) (text behind : List ℕ) → behind_word text ≡ behind → Each (IsLineText s text) (line_of_words s (first_word text) (words_of behind))
behind_spelled s text [] e = no_words s (first_word text) (IsLineText s text)
behind_spelled s text (b ∷ behind) e =
    let some : HasFirst (behind_word text) = rw e tt in
    let whole : joined 32 (first_word text ∷ words_of (b ∷ behind)) ≡ text =
    join_next 32 (first_word text) (words_of (b ∷ behind)) (parts_some 32 (b ∷ behind))
    ∙ ap (λ (xs : List ℕ). first_word text ++ 32 ∷ xs) (join_parts 32 (b ∷ behind) ∙ sym e)
    ∙ cut text some in
    each_as (IsLineText s text) (IsLineOf s (first_word text ∷ words_of (b ∷ behind))) _ (words_spelled s (first_word text) (words_of (b ∷ behind))) (λ l h. (h.0, h.1 ∙ whole))

pub line_spelled : (s : Script) (text : List ℕ) → Each (λ (l : Line). IsLine s l × (line_words l ≡ text)) (line_of s text)
line_spelled s text = each_word (IsLineText s text) (first_word text) (codes "p") _ _ (published_spelled s text) (behind_spelled s text (behind_word text) refl)
