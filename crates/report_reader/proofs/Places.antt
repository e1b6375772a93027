-- The line that is named is the first one that has no place.
use Rattle.std.proofs.Common.{◌≡◌, ℕ, ◌+◌, ◌-◌, ◌≤◌, ◌<◌, ◌==◌, Bool, true, false, List, [], ◌∷◌, ◌++◌, length, Option, Some, None, Result, Ok, Err, if◌then◌else◌, sym, refl, ap, ◌∙◌, append_assoc, append-nil, arith, codes}
use Rattle.std.specs.Prelude.{⊤, IfOk}
use Rattle.std.specs.List.{AllByRecursion}
use Rattle.std.proofs.lemmas.Bool.{or_parts, or_from}
use Rattle.apdu.specs.Words.{◌>>=◌, same_bytes, is_empty, is_one_of}
use Rattle.script_reader.specs.declared.types.Script.{Script}
use Rattle.script_reader.specs.Scripts.{script_of_bytes}
use Rattle.script_writer.specs.Writing.{script_text}
use Rattle.report.specs.Texts.{line_words, line_text, lines_text, mode_text, report_text}
use Rattle.report.specs.declared.line.Line.{Line}
use Rattle.report.specs.declared.line.Mode.{Mode}
use Rattle.report.specs.declared.line.Mode.TheVariants.{Replay}
use Rattle.report.specs.declared.lines.Report.{Report}
use Rattle.report_reader.specs.declared.error.ReportError.{ReportError}
use Rattle.report_reader.specs.declared.error.ReportError.TheVariants as error
use Rattle.report_reader.specs.Reads.{placed, AnswersAs}
use Rattle.report_reader.specs.Words.{parts_of}
use Rattle.report_reader.specs.Lines.{line_of}
use Rattle.report_reader.specs.Forms.{IsLine, AreLines, IsReport}
use Rattle.report_reader.specs.Reports.{script_line, mode_line, with_line, ended, lines_from, second_line, script_part, mode_part, report_of_parts, report_of}
use Rattle.report_reader.specs.Laws.{IsOneLine, with_feeds, HavePlaces, IsFirst, NamesFirst}
use Rattle.report_reader.proofs.Parts.{same_text, Lacks, next_part, joined, join_next, join_parts, HasFirst, parts_some, parts_lack, not_empty}
use Rattle.report_reader.proofs.Readings.{read_as}
use Rattle.report_reader.proofs.LinesSpelled.{line_spelled}
use Rattle.report_reader.proofs.ReportsBack.{reports_back}
use Rattle.report_reader.proofs.ReportsSpelled.{script_line_spelled, mode_spelled, one_spelling}

-- ---- lines with their line feeds

lacks_feed : (text : List ℕ) → IsOneLine text → Lacks 10 text
lacks_feed [] h = tt
lacks_feed (b ∷ text) h =
    let parts = or_parts (b == 10) (is_one_of 10 text) h in
    (parts.0, lacks_feed text parts.1)

one_line : (text : List ℕ) → Lacks 10 text → IsOneLine text
one_line [] h = refl
one_line (b ∷ text) h = or_from (b == 10) (is_one_of 10 text) h.0 (one_line text h.1)

-- the lines are the first parts
parts_are : (lines : List (List ℕ)) (behind : List ℕ) → AllByRecursion IsOneLine lines → parts_of 10 (with_feeds lines ++ behind) ≡ lines ++ parts_of 10 behind
parts_are [] behind h = refl
parts_are (text ∷ lines) behind h =
    ap (parts_of 10) (append_assoc (text ++ codes "\n") (with_feeds lines) behind ∙ append_assoc text (codes "\n") (with_feeds lines ++ behind))
    ∙ next_part 10 text (with_feeds lines ++ behind) (lacks_feed text h.0)
    ∙ ap (λ (ps : List (List ℕ)). text ∷ ps) (parts_are lines behind h.1)

some_behind : (xs ys : List (List ℕ)) → HasFirst ys → HasFirst (xs ++ ys)
some_behind [] ys h = h
some_behind (x ∷ xs) ys h = tt

joined_are : (lines rest : List (List ℕ)) → HasFirst rest → with_feeds lines ++ joined 10 rest ≡ joined 10 (lines ++ rest)
joined_are [] rest h = refl
joined_are (text ∷ lines) rest h =
    append_assoc (text ++ codes "\n") (with_feeds lines) (joined 10 rest)
    ∙ append_assoc text (codes "\n") (with_feeds lines ++ joined 10 rest)
    ∙ ap (λ (xs : List ℕ). text ++ 10 ∷ xs) (joined_are lines rest h)
    ∙ sym (join_next 10 text (lines ++ rest) (some_behind lines rest h))

front_lines : (lines rest parts : List (List ℕ)) → parts ≡ lines ++ rest → AllByRecursion (Lacks 10) parts → AllByRecursion IsOneLine lines
front_lines lines rest parts e h = by lines (rw e at h)
  where
    by : (xs : List (List ℕ)) → AllByRecursion (Lacks 10) (xs ++ rest) → AllByRecursion IsOneLine xs
    by [] h = tt
    by (x ∷ xs) h = (one_line x h.0, by xs h.1)

-- ---- refusals

-- of the number of the line that is refused
abbrev Fails : {A : Type 0} → (ℕ → Type 0) → Result A ℕ → Type 0
Fails P (Ok x) = ⊤
Fails P (Err n) = P n

abbrev WasRead : {A : Type 0} → Result A ℕ → Type 0
WasRead (Ok x) = ⊤
WasRead (Err n) = ⊥

then_fails : {A B : Type 0} (P : ℕ → Type 0) (r : Result A ℕ) (next : A → Result B ℕ) → Fails P r → ((x : A) → Fails P (next x)) → Fails P (r >>= next)
then_fails P (Ok x) next h k = k x
then_fails P (Err n) next h k = h

if_fails : {A : Type 0} (P : ℕ → Type 0) (test : Bool) (x y : Result A ℕ) → Fails P x → Fails P y → Fails P (if test then x else y)
if_fails P true x y h k = h
if_fails P false x y h k = k

placed_fails : {A : Type 0} (P : ℕ → Type 0) (n : ℕ) (o : Option A) → P n → Fails P (placed n o)
placed_fails P n None h = h
placed_fails P n (Some x) h = tt

weaker : {A : Type 0} (P Q : ℕ → Type 0) (r : Result A ℕ) → ((n : ℕ) → P n → Q n) → Fails P r → Fails Q r
weaker P Q (Ok x) k h = tt
weaker P Q (Err n) k h = k n h

-- no line before this one is refused
abbrev From : ℕ → ℕ → Type 0
From k n = k ≤ n

ended_from : (lines : List Line) (k : ℕ) (parts : List (List ℕ)) → Fails (From k) (ended lines k parts)
ended_from lines k [] = omega arith
ended_from lines k ([] ∷ []) = tt
ended_from lines k ([] ∷ other ∷ parts) = omega arith
ended_from lines k ((b ∷ bytes) ∷ parts) = omega arith

with_from : (s : Script) (k : ℕ) (text : List ℕ) (earlier : List Line) → Fails (From k) (with_line s k text earlier)
with_from s k text earlier = then_fails (From k) (placed k (line_of s text)) _ (placed_fails (From k) k (line_of s text) (omega arith)) (λ l. tt)

lines_fail_from : (s : Script) (k : ℕ) (earlier : List Line) (parts : List (List ℕ)) → Fails (From k) (lines_from s k earlier parts)
lines_fail_from s k earlier [] = omega arith
lines_fail_from s k earlier (text ∷ parts) =
    if_fails (From k) (is_empty parts) _ _ (omega arith)
    (if_fails (From k) (same_bytes text (codes "end")) _ _ (weaker (From (k + 1)) (From k) (ended earlier (k + 1) parts) (λ n h. omega (arith, h)) (ended_from earlier (k + 1) parts))
    (then_fails (From k) (with_line s k text earlier) _ (with_from s k text earlier) (λ ls. weaker (From (k + 1)) (From k) (lines_from s (k + 1) ls parts) (λ n h. omega (arith, h)) (lines_fail_from s (k + 1) ls parts))))

-- ---- what another text of a report begins with is read

-- where `end` was read, nothing else was to come
ended_alone : (lines : List Line) (k : ℕ) (texts ps qs : List (List ℕ)) → HasFirst ps → WasRead (ended lines k (texts ++ ps)) → Fails (From (k + length texts)) (ended lines k (texts ++ qs))
ended_alone lines k [] ps qs some h = weaker (From k) (From (k + 0)) (ended lines k qs) (λ n g. omega (arith, g)) (ended_from lines k qs)
ended_alone lines k ([] ∷ []) [] qs some h = absurd some
ended_alone lines k ([] ∷ []) (p ∷ ps) qs some h = absurd h
ended_alone lines k ([] ∷ text ∷ texts) ps qs some h = absurd h
ended_alone lines k ((b ∷ bytes) ∷ texts) ps qs some h = absurd h

lines_further : (s : Script) (k : ℕ) (earlier : List Line) (texts ps qs : List (List ℕ)) → HasFirst ps → HasFirst qs → WasRead (lines_from s k earlier (texts ++ ps)) → Fails (From (k + length texts)) (lines_from s k earlier (texts ++ qs))
lines_further s k earlier [] ps qs some other h = weaker (From k) (From (k + 0)) (lines_from s k earlier qs) (λ n g. omega (arith, g)) (lines_fail_from s k earlier qs)
lines_further s k earlier (text ∷ texts) ps qs some other h =
    let left = not_empty (texts ++ ps) (some_behind texts ps some) in
    let right = not_empty (texts ++ qs) (some_behind texts qs other) in
    let read : WasRead (if same_bytes text (codes "end") then ended earlier (k + 1) (texts ++ ps) else (with_line s k text earlier >>= λ ls. lines_from s (k + 1) ls (texts ++ ps))) = rw left at h in
    rw right (by (same_bytes text (codes "end")) (with_line s k text earlier) read (λ ls. lines_further s (k + 1) ls texts ps qs some other))
  where
    same : (k + 1) + length texts ≡ k + length (text ∷ texts)
    same = omega arith

    by : (last : Bool) (one : Result (List Line) ℕ) → WasRead (if last then ended earlier (k + 1) (texts ++ ps) else (one >>= λ ls. lines_from s (k + 1) ls (texts ++ ps)))
        → ((ls : List Line) → WasRead (lines_from s (k + 1) ls (texts ++ ps)) → Fails (From ((k + 1) + length texts)) (lines_from s (k + 1) ls (texts ++ qs)))
        → Fails (From (k + length (text ∷ texts))) (if last then ended earlier (k + 1) (texts ++ qs) else (one >>= λ ls. lines_from s (k + 1) ls (texts ++ qs)))
    by true one h more = rw same at (ended_alone earlier (k + 1) texts ps qs some h)
    by false (Ok ls) h more = rw same at (more ls h)
    by false (Err n) h more = absurd h

abbrev reported : Script → Mode → List Line → Result Report ℕ
reported s m ls = Ok (record { script = s; mode = m; lines = ls })

-- a report is read behind its lines
lines_were_read : (r : Result (List Line) ℕ) (s : Script) (m : Mode) → WasRead (r >>= λ ls. reported s m ls) → WasRead r
lines_were_read (Ok ls) s m h = tt
lines_were_read (Err n) s m h = h

parts_fail_from : (parts : List (List ℕ)) → Fails (From 1) (report_of_parts parts)
parts_fail_from [] = omega arith
parts_fail_from (first ∷ []) = omega arith
parts_fail_from (first ∷ second ∷ parts) =
    then_fails (From 1) (script_part first) _ (placed_fails (From 1) 1 (script_line first) (omega arith)) (λ s.
    then_fails (From 1) (mode_part second parts) _ (placed_fails (From 1) 2 (second_line second parts) (omega arith)) (λ m.
    then_fails (From 1) (lines_from s 3 [] parts) _ (weaker (From 3) (From 1) (lines_from s 3 [] parts) (λ n h. omega (arith, h)) (lines_fail_from s 3 [] parts)) (λ ls. tt)))

-- the mode stands in a line that has something behind it
mode_some : (second : List ℕ) (parts : List (List ℕ)) → HasFirst parts → second_line second parts ≡ mode_line second
mode_some second [] h = absurd h
mode_some second (part ∷ parts) h = refl

parts_further : (texts ps qs : List (List ℕ)) → HasFirst ps → HasFirst qs → WasRead (report_of_parts (texts ++ ps)) → Fails (From (1 + length texts)) (report_of_parts (texts ++ qs))
parts_further [] ps qs some other h = parts_fail_from qs
parts_further (first ∷ []) [] qs some other h = absurd some
parts_further (first ∷ []) (p ∷ ps) [] some other h = absurd other
parts_further (first ∷ []) (p ∷ ps) (q ∷ qs) some other h = by (script_part first) h
  where
    by : (one : Result Script ℕ) → WasRead (one >>= λ s. mode_part p ps >>= λ m. lines_from s 3 [] ps >>= λ ls. reported s m ls)
        → Fails (From 2) (one >>= λ s. mode_part q qs >>= λ m. lines_from s 3 [] qs >>= λ ls. reported s m ls)
    by (Err n) h = absurd h
    by (Ok s) h =
        then_fails (From 2) (mode_part q qs) _ (placed_fails (From 2) 2 (second_line q qs) (omega arith)) (λ m.
        then_fails (From 2) (lines_from s 3 [] qs) _ (weaker (From 3) (From 2) (lines_from s 3 [] qs) (λ n g. omega (arith, g)) (lines_fail_from s 3 [] qs)) (λ ls. tt))
parts_further (first ∷ second ∷ texts) ps qs some other h =
    let left = mode_some second (texts ++ ps) (some_behind texts ps some) in
    let right = mode_some second (texts ++ qs) (some_behind texts qs other) in
    rw right (by (script_part first) (placed 2 (mode_line second)) (rw left at h))
  where
    by : (one : Result Script ℕ) (two : Result Mode ℕ) → WasRead (one >>= λ s. two >>= λ m. lines_from s 3 [] (texts ++ ps) >>= λ ls. reported s m ls)
        → Fails (From (1 + length (first ∷ second ∷ texts))) (one >>= λ s. two >>= λ m. lines_from s 3 [] (texts ++ qs) >>= λ ls. reported s m ls)
    by (Err n) two h = absurd h
    by (Ok s) (Err n) h = absurd h
    by (Ok s) (Ok m) h =
        let further = lines_further s 3 [] texts ps qs some other (lines_were_read (lines_from s 3 [] (texts ++ ps)) s m h) in
        then_fails (From (1 + length (first ∷ second ∷ texts))) (lines_from s 3 [] (texts ++ qs)) _ (weaker (From (3 + length texts)) (From (1 + length (first ∷ second ∷ texts))) (lines_from s 3 [] (texts ++ qs)) (λ n g. omega (arith, g)) further) (λ ls. tt)

no_place : (bytes : List ℕ) (n : ℕ) → report_of bytes ≡ Err n → HavePlaces n bytes → ⊥
no_place bytes n e h =
    let ps = parts_of 10 h.further in
    let qs = parts_of 10 h.behind in
    let whole : report_of (with_feeds h.lines ++ h.further) ≡ Ok h.report = ap report_of h.same ∙ reports_back h.report h.is in
    let read : report_of_parts (h.lines ++ ps) ≡ Ok h.report = ap report_of_parts (sym (parts_are h.lines h.further h.each)) ∙ whole in
    let other : report_of_parts (h.lines ++ qs) ≡ Err n = ap report_of_parts (sym (parts_are h.lines h.behind h.each)) ∙ ap report_of h.begins ∙ e in
    let was : WasRead (report_of_parts (h.lines ++ ps)) = rw read tt in
    let further = parts_further h.lines ps qs (parts_some 10 h.further) (parts_some 10 h.behind) was in
    let late : 1 + length h.lines ≤ n = rw other at further in
    omega (arith, late, h.count)

-- ---- the lines before have their places

-- what was read of the lines before the one that is refused
record SoFar (s : Script) (k n : ℕ) (earlier : List Line) (parts : List (List ℕ)) : Type 0 where
  texts : List (List ℕ)
  rest : List (List ℕ)
  whole : texts ++ rest ≡ parts
  some : HasFirst rest
  count : k + length texts ≡ n
  lines : List Line
  are : AreLines s lines
  further : List ℕ
  same : (lines_text earlier ++ with_feeds texts) ++ further ≡ lines_text lines ++ codes "end\n"

stops : (s : Script) (k n : ℕ) (earlier : List Line) (parts : List (List ℕ)) → HasFirst parts → AreLines s earlier → k ≡ n → SoFar s k n earlier parts
stops s k n earlier parts some h e = record {
  texts = [];
  rest = parts;
  whole = refl;
  some = some;
  count = omega (arith, e);
  lines = earlier;
  are = h;
  further = codes "end\n";
  same = ap (λ (xs : List ℕ). xs ++ codes "end\n") (append-nil (lines_text earlier));
}

-- `end` was read, and something stands behind it
ends_so : (s : Script) (k n : ℕ) (earlier : List Line) (text next : List ℕ) (parts : List (List ℕ)) → AreLines s earlier → text ≡ codes "end" → k + 1 ≡ n → SoFar s k n earlier (text ∷ next ∷ parts)
ends_so s k n earlier text next parts h e count = record {
  texts = text ∷ [];
  rest = next ∷ parts;
  whole = refl;
  some = tt;
  count = count;
  lines = earlier;
  are = h;
  further = [];
  same = append-nil (lines_text earlier ++ with_feeds (text ∷ [])) ∙ rw e refl;
}

more_so : (s : Script) (k n : ℕ) (earlier : List Line) (l : Line) (text : List ℕ) (parts : List (List ℕ)) → line_words l ≡ text → SoFar s (k + 1) n (l ∷ earlier) parts → SoFar s k n earlier (text ∷ parts)
more_so s k n earlier l text parts words so =
    let one : line_text l ≡ text ++ codes "\n" = ap (λ (xs : List ℕ). xs ++ codes "\n") words in
    let moved : lines_text earlier ++ with_feeds (text ∷ so.texts) ≡ lines_text (l ∷ earlier) ++ with_feeds so.texts =
    sym (append_assoc (lines_text earlier) (text ++ codes "\n") (with_feeds so.texts)) ∙ ap (λ (xs : List ℕ). (lines_text earlier ++ xs) ++ with_feeds so.texts) (sym one) in
    record {
      texts = text ∷ so.texts;
      rest = so.rest;
      whole = ap (λ (ps : List (List ℕ)). text ∷ ps) so.whole;
      some = so.some;
      count = omega (arith, so.count);
      lines = so.lines;
      are = so.are;
      further = so.further;
      same = ap (λ (xs : List ℕ). xs ++ so.further) moved ∙ so.same;
    }

ended_number : (lines : List Line) (k n : ℕ) (parts : List (List ℕ)) → ended lines k parts ≡ Err n → k ≡ n
ended_number lines k n [] e = cc
ended_number lines k n ([] ∷ []) e = absurd (cc)
ended_number lines k n ([] ∷ other ∷ parts) e = cc
ended_number lines k n ((b ∷ bytes) ∷ parts) e = cc

so_far : (s : Script) (k n : ℕ) (earlier : List Line) (parts : List (List ℕ)) → HasFirst parts → AreLines s earlier → lines_from s k earlier parts ≡ Err n → SoFar s k n earlier parts
so_far s k n earlier [] some h e = absurd some
so_far s k n earlier (text ∷ []) some h e = stops s k n earlier (text ∷ []) tt h (cc)
so_far s k n earlier (text ∷ next ∷ parts) some h e =
    by (same_bytes text (codes "end")) (line_of s text) refl refl e (λ l is. so_far s (k + 1) n (l ∷ earlier) (next ∷ parts) tt (is, h))
  where
    by : (last : Bool) (one : Option Line) → same_bytes text (codes "end") ≡ last → line_of s text ≡ one
        → (if last then ended earlier (k + 1) (next ∷ parts) else ((placed k one >>= λ l. Ok (l ∷ earlier)) >>= λ ls. lines_from s (k + 1) ls (next ∷ parts))) ≡ Err n
        → ((l : Line) → IsLine s l → lines_from s (k + 1) (l ∷ earlier) (next ∷ parts) ≡ Err n → SoFar s (k + 1) n (l ∷ earlier) (next ∷ parts))
        → SoFar s k n earlier (text ∷ next ∷ parts)
    by true one t o e more = ends_so s k n earlier text next parts h (same_text text (codes "end") t) (ended_number earlier (k + 1) n (next ∷ parts) e)
    by false None t o e more = stops s k n earlier (text ∷ next ∷ parts) tt h (cc)
    by false (Some l) t o e more =
        let is = read_as (λ (x : Line). IsLine s x × (line_words x ≡ text)) (line_of s text) l (line_spelled s text) o in
        more_so s k n earlier l text (next ∷ parts) is.1 (more l is.0 e)

-- ---- the first two lines

first_has : (bytes first second : List ℕ) (parts : List (List ℕ)) (s : Script) → parts_of 10 bytes ≡ first ∷ second ∷ parts → (script_of_bytes (script_text s) ≡ Ok s) × (codes "script " ++ script_text s ≡ first) → HavePlaces 1 bytes
first_has bytes first second parts s e h =
    let lacks : AllByRecursion (Lacks 10) (first ∷ second ∷ parts) = rw e at (parts_lack 10 bytes) in
    record {
      lines = first ∷ [];
      count = refl;
      each = (one_line first lacks.0, tt);
      behind = joined 10 (second ∷ parts);
      begins = joined_are (first ∷ []) (second ∷ parts) tt ∙ ap (joined 10) (sym e) ∙ join_parts 10 bytes;
      report = record { script = s; mode = Replay; lines = [] };
      is = record { script = h.0; lines = tt };
      further = codes "mode replay\nend\n";
      same = first_same (codes "script " ++ script_text s) h.1;
    }
  where
    first_same : (line : List ℕ) → line ≡ first → with_feeds (first ∷ []) ++ codes "mode replay\nend\n" ≡ line ++ codes "\nmode replay\n" ++ [] ++ codes "end\n"
    first_same line same =
        ap (λ (xs : List ℕ). xs ++ codes "mode replay\nend\n") (append-nil (first ++ codes "\n"))
        ∙ append_assoc first (codes "\n") (codes "mode replay\nend\n")
        ∙ ap (λ (xs : List ℕ). xs ++ codes "\nmode replay\nend\n") (sym same)
        ∙ sym (append_assoc line (codes "\nmode replay\n") (codes "end\n"))
        ∙ ap (λ (xs : List ℕ). xs ++ codes "end\n") (sym (append-nil (line ++ codes "\nmode replay\n")))

later_has : (bytes first second : List ℕ) (parts : List (List ℕ)) (s : Script) (m : Mode) (n : ℕ) → parts_of 10 bytes ≡ first ∷ second ∷ parts → (script_of_bytes (script_text s) ≡ Ok s) × (codes "script " ++ script_text s ≡ first) → mode_text m ≡ codes "\n" ++ second ++ codes "\n" → SoFar s 3 n [] parts → HavePlaces (n - 1) bytes
later_has bytes first second parts s m n e h hm so =
    let lacks : AllByRecursion (Lacks 10) (first ∷ second ∷ parts) = rw e at (parts_lack 10 bytes) in
    let split : first ∷ second ∷ parts ≡ (first ∷ second ∷ so.texts) ++ so.rest = ap (λ (ps : List (List ℕ)). first ∷ second ∷ ps) (sym so.whole) in
    record {
      lines = first ∷ second ∷ so.texts;
      count = omega (arith, so.count);
      each = front_lines (first ∷ second ∷ so.texts) so.rest (first ∷ second ∷ parts) split lacks;
      behind = joined 10 so.rest;
      begins = joined_are (first ∷ second ∷ so.texts) so.rest so.some ∙ ap (joined 10) (sym split ∙ sym e) ∙ join_parts 10 bytes;
      report = record { script = s; mode = m; lines = so.lines };
      is = record { script = h.0; lines = so.are };
      further = so.further;
      same = later_same;
    }
  where
    behind : List ℕ
    behind = lines_text so.lines ++ codes "end\n"

    front : (first ++ codes "\n") ++ (second ++ codes "\n") ≡ codes "script " ++ script_text s ++ mode_text m
    front = append_assoc first (codes "\n") (second ++ codes "\n") ∙ ap (λ (xs : List ℕ). first ++ xs) (sym hm) ∙ ap (λ (xs : List ℕ). xs ++ mode_text m) (sym h.1)

    later_same : with_feeds (first ∷ second ∷ so.texts) ++ so.further ≡ codes "script " ++ script_text s ++ mode_text m ++ lines_text so.lines ++ codes "end\n"
    later_same =
        append_assoc (first ++ codes "\n") ((second ++ codes "\n") ++ with_feeds so.texts) so.further
        ∙ ap (λ (xs : List ℕ). (first ++ codes "\n") ++ xs) (append_assoc (second ++ codes "\n") (with_feeds so.texts) so.further)
        ∙ sym (append_assoc (first ++ codes "\n") (second ++ codes "\n") (with_feeds so.texts ++ so.further))
        ∙ ap (λ (xs : List ℕ). xs ++ (with_feeds so.texts ++ so.further)) front
        ∙ ap (λ (xs : List ℕ). (codes "script " ++ script_text s ++ mode_text m) ++ xs) so.same
        ∙ sym (append_assoc (codes "script " ++ script_text s ++ mode_text m) (lines_text so.lines) (codes "end\n"))

before : (bytes : List ℕ) (n : ℕ) (parts : List (List ℕ)) → parts_of 10 bytes ≡ parts → report_of_parts parts ≡ Err n → 1 < n → HavePlaces (n - 1) bytes
before bytes n [] p e some = let no : 1 ≡ n = cc in absurd (omega (arith, no, some))
before bytes n (first ∷ []) p e some = let no : 1 ≡ n = cc in absurd (omega (arith, no, some))
before bytes n (first ∷ second ∷ parts) p e some = by_script (script_line first) refl e
  where
    by_lines : (s : Script) (m : Mode) (r : Result (List Line) ℕ) (ps : List (List ℕ)) → parts_of 10 bytes ≡ first ∷ second ∷ ps → HasFirst ps → lines_from s 3 [] ps ≡ r → (script_of_bytes (script_text s) ≡ Ok s) × (codes "script " ++ script_text s ≡ first) → mode_text m ≡ codes "\n" ++ second ++ codes "\n"
        → (r >>= λ ls. reported s m ls) ≡ Err n → HavePlaces (n - 1) bytes
    by_lines s m (Ok ls) ps p has o hs hm e = absurd (cc)
    by_lines s m (Err k) ps p has o hs hm e =
        let same : k ≡ n = cc in
        later_has bytes first second ps s m n p hs hm (so_far s 3 n [] ps has tt (rw same at o))

    second_has : (s : Script) → (script_of_bytes (script_text s) ≡ Ok s) × (codes "script " ++ script_text s ≡ first) → 2 ≡ n → HavePlaces (n - 1) bytes
    second_has s hs two =
        let one : 1 ≡ n - 1 = omega (arith, two) in
        rw one at (first_has bytes first second parts s p hs)

    by_mode : (s : Script) (o : Option Mode) (ps : List (List ℕ)) → parts ≡ ps → second_line second ps ≡ o → (script_of_bytes (script_text s) ≡ Ok s) × (codes "script " ++ script_text s ≡ first)
        → (placed 2 o >>= λ m. lines_from s 3 [] ps >>= λ ls. reported s m ls) ≡ Err n → HavePlaces (n - 1) bytes
    by_mode s None ps q o hs e = second_has s hs (cc)
    by_mode s (Some m) [] q o hs e = absurd (cc)
    by_mode s (Some m) (part ∷ ps) q o hs e =
        let hm = read_as (λ (x : Mode). mode_text x ≡ codes "\n" ++ second ++ codes "\n") (mode_line second) m (mode_spelled second) o in
        by_lines s m (lines_from s 3 [] (part ∷ ps)) (part ∷ ps) (p ∙ ap (λ (xs : List (List ℕ)). first ∷ second ∷ xs) q) tt refl hs hm e

    by_script : (o : Option Script) → script_line first ≡ o → (placed 1 o >>= λ s. mode_part second parts >>= λ m. lines_from s 3 [] parts >>= λ ls. reported s m ls) ≡ Err n → HavePlaces (n - 1) bytes
    by_script None o e = let no : 1 ≡ n = cc in absurd (omega (arith, no, some))
    by_script (Some s) o e =
        let hs = read_as (λ (x : Script). (script_of_bytes (script_text x) ≡ Ok x) × (codes "script " ++ script_text x ≡ first)) (script_line first) s (script_line_spelled first) o in
        by_mode s (second_line second parts) parts refl refl hs e

pub names_first : NamesFirst
names_first bytes n e = record {
  some = (let h : Fails (From 1) (report_of bytes) = parts_fail_from (parts_of 10 bytes) in rw e at h);
  before = before bytes n (parts_of 10 bytes) refl e;
  none = no_place bytes n e;
}

-- what the reader's answer says of the bytes

pub reads_text : (bytes : List ℕ) (answer : Result Report ReportError) → AnswersAs (report_of bytes) answer → IfOk answer (λ r. IsReport r × (report_text r ≡ bytes))
reads_text bytes (Ok r) h = one_spelling bytes r h
reads_text bytes (Err error) h = tt

pub refuses_first : (bytes : List ℕ) (answer : Result Report ReportError) → AnswersAs (report_of bytes) answer → (n : ℕ) → answer ≡ Err (error.Refused n) → IsFirst n bytes
refuses_first bytes (Ok r) h n e = absurd (cc)
refuses_first bytes (Err error.Memory) h n e = absurd (cc)
refuses_first bytes (Err (error.Refused k)) h n e =
    let same : k ≡ n = cc in
    names_first bytes n (rw same at h)
