-- Lines are read back from their entries, and stay when further bytes and entries are put behind.
use Rattle.std.proofs.Common.{◌≡◌, ◌≤◌, ◌+◌, ℕ, suc, true, false, List, [], ◌∷◌, ◌++◌, length, take, drop, take_all, length-append, length-drop, Option, Some, None, Ok, refl, ap, subst, ◌∙◌, arith, get_or, slice_get}
use Rattle.std.specs.Prelude.{map, reverse, nat_lt, unwrap_or, IsUtf8}
use Rattle.std.specs.Str.{is_utf8}
use Rattle.std.specs.List.{All}
use Rattle.std.proofs.lemmas.List.{take-append-le, drop-append-le, map-append, reverse-append, reverse-reverse}
use Rattle.std.proofs.lemmas.List.Elements.{All-append}
use Rattle.std.proofs.lemmas.Option.{slice_get-map, slice_get_within, get_or_from_slice_get}
use Rattle.std.proofs.Math.Seq.{drop-append_seam, take-append_seam}
use Rattle.std.proofs.lemmas.Str.{IsUtf8-from_is_utf8, is_utf8-from_IsUtf8}
use Rattle.apdu.specs.Values.{CommandValue, ResponseValue}
use Rattle.apdu.specs.Apdu.{read_command, read_response}
use Rattle.report.specs.declared.line.Line.{Line}
use Rattle.report.specs.declared.line.Line.TheVariants as line
use Rattle.report.specs.declared.form.Form.{Form}
use Rattle.report.specs.declared.form.Entry.{Entry}
use Rattle.report.specs.Kept.{exchange_of, line_of, line_at, kept_line, IsKept, kept_lines}

-- ---- one line

pub exchange_back : (a : ℕ) (sent answered : List ℕ) (c : CommandValue) (r : ResponseValue) → read_command sent ≡ Ok c → read_response answered ≡ Ok r → exchange_of a (length sent) (sent ++ answered) ≡ Some (line.Exchange a c r)
exchange_back a sent answered c r is_c is_r =
    let long : nat_lt (length (sent ++ answered)) (length sent) ≡ false = grind (arith, length-append) in
    rw (long, take-append_seam sent answered, drop-append_seam sent answered, is_c, is_r) refl

pub not_utf8 : (bytes : List ℕ) → (IsUtf8 bytes → ⊥) → is_utf8 bytes ≡ false
not_utf8 bytes isnt = elim (is_utf8 bytes) as (λ b. is_utf8 bytes ≡ b → b ≡ false) [ true ↦ λ is. absurd (isnt (IsUtf8-from_is_utf8 bytes is)) | false ↦ λ is. refl ] refl

pub ruleset utf8_tests = (not_utf8, is_utf8-from_IsUtf8)

-- ---- bytes put behind

pub part_stays : (bytes new : List ℕ) (at len : ℕ) → at + len ≤ length bytes → take len (drop at (bytes ++ new)) ≡ take len (drop at bytes)
part_stays bytes new at len within =
    let starts : at ≤ length bytes = omega arith in
    let ends : len ≤ length (drop at bytes) = omega (arith, length-drop at bytes) in
    rw (drop-append-le at bytes new starts) (take-append-le len (drop at bytes) new ends)

pub part_behind : (bytes new : List ℕ) → take (length new) (drop (length bytes) (bytes ++ new)) ≡ new
part_behind bytes new = rw (drop-append_seam bytes new) (take_all (length new) new (omega arith))

-- ---- entries put behind

there_is : (found : Option Line) (l d : Line) → found ≡ Some l → found ≡ Some (unwrap_or found d)
there_is None l d is = cc
there_is (Some m) l d is = refl

line_stays : (bytes new : List ℕ) (e : Entry) → IsKept bytes e → line_at (bytes ++ new) e ≡ line_at bytes e
line_stays bytes new e kept = ap (line_of e.form) (part_stays bytes new e.at e.len kept.within)

stays_kept : (bytes new : List ℕ) (e : Entry) → IsKept bytes e → IsKept (bytes ++ new) e
stays_kept bytes new e kept = record {
  within = omega (arith, length-append bytes new, kept.within);
  there = there_is _ _ _ (line_stays bytes new e kept ∙ kept.there);
}

module _ (bytes new : List ℕ) (es : List Entry) (at len : ℕ) (form : Form) (l : Line) where
  -- the entry of the bytes put behind
  abbrev entry : Entry
  entry = record { at = at; len = len; form = form }

  line_behind : at ≡ length bytes → len ≡ length new → line_of form new ≡ Some l → line_at (bytes ++ new) entry ≡ Some l
  line_behind is_at is_len is = rw (is_at, is_len, part_behind bytes new) is

  behind_kept : at ≡ length bytes → len ≡ length new → line_of form new ≡ Some l → IsKept (bytes ++ new) entry
  behind_kept is_at is_len is = record {
    within = omega (arith, length-append bytes new);
    there = there_is _ _ _ (line_behind is_at is_len is);
  }

  pub all_kept : at ≡ length bytes → len ≡ length new → line_of form new ≡ Some l → All (IsKept bytes) es → All (IsKept (bytes ++ new)) (es ++ entry ∷ [])
  all_kept is_at is_len is all =
      All-append (IsKept (bytes ++ new)) es (entry ∷ [])
      (λ k d lt. stays_kept bytes new (get_or es k d) (all k d lt))
      (λ k d lt. let first : k ≡ 0 = omega arith in rw first (behind_kept is_at is_len is))

same_lines : (bytes new : List ℕ) (es : List Entry) → All (IsKept bytes) es → map (kept_line (bytes ++ new)) es ≡ map (kept_line bytes) es
same_lines bytes new [] all = refl
same_lines bytes new (e ∷ es) all =
    let head : kept_line (bytes ++ new) e ≡ kept_line bytes e = ap (λ found. unwrap_or found (line.Turn 0)) (line_stays bytes new e (all 0 e (omega arith))) in
    let tail : map (kept_line (bytes ++ new)) es ≡ map (kept_line bytes) es = same_lines bytes new es (λ k d lt. all (suc k) d (omega arith)) in
    cc

pub kept_push : (bytes new : List ℕ) (es : List Entry) (at len : ℕ) (form : Form) (l : Line) → at ≡ length bytes → len ≡ length new → line_of form new ≡ Some l → All (IsKept bytes) es → kept_lines (bytes ++ new) (es ++ record { at = at; len = len; form = form } ∷ []) ≡ l ∷ kept_lines bytes es
kept_push bytes new es at len form l is_at is_len is all =
    let last : line_at (bytes ++ new) (record { at = at; len = len; form = form }) ≡ Some l = line_behind bytes new es at len form l is_at is_len is in
    rw (map-append, reverse-append, same_lines bytes new es all, last) refl

-- ---- an entry read

kept_at : (bytes : List ℕ) (es : List Entry) (k : ℕ) (e : Entry) → All (IsKept bytes) es → slice_get es k ≡ Some e → IsKept bytes e
kept_at bytes es k e all is = subst (IsKept bytes) (get_or_from_slice_get es k e e is) (all k e (slice_get_within es k e is))

pub entry_within : (bytes : List ℕ) (es : List Entry) (k : ℕ) (e : Entry) → All (IsKept bytes) es → slice_get es k ≡ Some e → e.at + e.len ≤ length bytes
entry_within bytes es k e all is = (kept_at bytes es k e all is).within

pub read_line : (bytes : List ℕ) (es : List Entry) (k : ℕ) (e : Entry) → All (IsKept bytes) es → slice_get es k ≡ Some e → line_at bytes e ≡ slice_get (reverse (kept_lines bytes es)) k
read_line bytes es k e all is =
    rw (reverse-reverse (map (kept_line bytes) es), slice_get-map (kept_line bytes) es k, is) (kept_at bytes es k e all is).there

pub read_none : (bytes : List ℕ) (es : List Entry) (k : ℕ) → slice_get es k ≡ None → slice_get (reverse (kept_lines bytes es)) k ≡ None
read_none bytes es k is = rw (reverse-reverse (map (kept_line bytes) es), slice_get-map (kept_line bytes) es k, is) refl
