-- A line is read back from its form and the bytes of its numbers.
use Rattle.std.proofs.Common.{◌≡◌, ◌<◌, ◌^◌, ◌%◌, ℕ, List, ◌++◌, length, true, false, Option, Some, IfSome, refl, ap, ◌∙◌, arith}
use Rattle.std.specs.Prelude.{nat_lt}
use Rattle.std.specs.Str.{is_utf8}
use Rattle.std.specs.Char.{IsScalar}
use Rattle.std.proofs.lemmas.Bool.Decides.{nat_tests}
use Rattle.apdu.specs.Words.{is_between}
use Rattle.apdu.specs.declared.status.Sw.{Sw}
use Rattle.report.specs.declared.answer.Answer.TheVariants as answer
use Rattle.report.specs.declared.line.Line.TheVariants as line
use Rattle.report.specs.declared.form.Form.TheVariants as form
use Rattle.report.specs.declared.form.AnswerForm.TheVariants as answer_form
use Rattle.report.specs.Kept.{number_bytes, numbers_bytes, place_bytes, shown_bytes, first_number, behind_number, second_number, third_number, character, behind_three, first_place, behind_place, numbers_of, shown_of, look_of_shown, notices_of_numbers, published_of, answer_of, line_of}
use Rattle.report.proofs.Words.{first_back, behind_back, sole_back, second_back, second_sole_back, behind_both, place_back, behind_place_back}

module _ (k f e n : ℕ) (text : List ℕ) (k_fits : k < 2 ^ 64) (e_fits : e < 2 ^ 64) (n_fits : n < 2 ^ 64) where
  abbrev bytes : List ℕ
  bytes = number_bytes k ++ (number_bytes e ++ (number_bytes n ++ text))

  third : third_number bytes ≡ n
  third = ap first_number (behind_both k e (number_bytes n ++ text)) ∙ first_back n text n_fits

  rest : behind_three bytes ≡ text
  rest = ap behind_number (behind_both k e (number_bytes n ++ text)) ∙ behind_back n text

  pub published_back : is_utf8 text ≡ true → line_of (form.Published f) bytes ≡ Some (line.Published k f e n text)
  published_back utf8 =
      ap (λ (m : ℕ). published_of m f (second_number bytes) (third_number bytes) (behind_three bytes)) (first_back k (number_bytes e ++ (number_bytes n ++ text)) k_fits)
      ∙ ap (λ (m : ℕ). published_of k f m (third_number bytes) (behind_three bytes)) (second_back k e (number_bytes n ++ text) e_fits)
      ∙ ap (λ (m : ℕ). published_of k f e m (behind_three bytes)) third
      ∙ ap (published_of k f e n) rest
      ∙ rw utf8 refl

module _ (k e n : ℕ) (k_fits : k < 2 ^ 64) (e_fits : e < 2 ^ 64) (n_fits : n < 2 ^ 64) where
  abbrev three : List ℕ
  three = number_bytes k ++ (number_bytes e ++ number_bytes n)

  third_sole : third_number three ≡ n
  third_sole = ap first_number (behind_both k e (number_bytes n)) ∙ sole_back n n_fits

  pub epoch_end_back : line_of form.EpochEnd three ≡ Some (line.EpochEnd k e n)
  epoch_end_back =
      ap (λ (m : ℕ). Some (line.EpochEnd m (second_number three) (third_number three))) (first_back k (number_bytes e ++ number_bytes n) k_fits)
      ∙ ap (λ (m : ℕ). Some (line.EpochEnd k m (third_number three))) (second_back k e (number_bytes n) e_fits)
      ∙ ap (λ (m : ℕ). Some (line.EpochEnd k e m)) third_sole

word_back : (n m : ℕ) → m ≡ n → n < 2 ^ 16 → m % 0x1_0000 ≡ n
word_back n m is fits = omega arith

pub status_back : (sw : Sw) (n : ℕ) → sw.0 < 2 ^ 16 → n < 2 ^ 64 → answer_of answer_form.Status (number_bytes sw.0 ++ number_bytes n) ≡ Some (answer.Status sw n)
status_back sw n sw_fits n_fits =
    ap (λ (m : ℕ). Some (answer.Status (record { 0 = m }) (second_number (number_bytes sw.0 ++ number_bytes n)))) (word_back sw.0 _ (first_back sw.0 (number_bytes n) (omega arith)) sw_fits)
    ∙ ap (λ (m : ℕ). Some (answer.Status sw m)) (second_sole_back sw.0 n n_fits)

pub bad_file_back : (width : ℕ) → width < 2 ^ 16 → answer_of answer_form.BadFile (number_bytes width) ≡ Some (answer.BadFile width)
bad_file_back width fits = ap (λ (m : ℕ). Some (answer.BadFile m)) (word_back width _ (sole_back width (omega arith)) fits)

character-scalar : (c : ℕ) → IsScalar c → character c ≡ c
character-scalar c s =
    let no_surrogate : is_between 0xD800 0xDFFF c ≡ false = grind (arith, nat_tests) in
    let within : nat_lt 0x10_FFFF c ≡ false = grind (arith, nat_tests) in
    rw (no_surrogate, within) refl

pub not_writable_back : (c : ℕ) → c < 2 ^ 64 → IsScalar c → answer_of answer_form.NotWritable (number_bytes c) ≡ Some (answer.NotWritable c)
not_writable_back c fits s = ap (λ (m : ℕ). Some (answer.NotWritable (character m))) (sole_back c fits) ∙ ap (λ (m : ℕ). Some (answer.NotWritable m)) (character-scalar c s)

pub done_back : (n : ℕ) (p : Option ℕ) (left : List ℕ) → n < 2 ^ 64 → IfSome p (λ k. k < 2 ^ 64) → answer_of answer_form.Done (number_bytes n ++ (place_bytes p ++ left)) ≡ Some (answer.Done n p left)
done_back n p left n_fits p_fits =
    ap (λ (m : ℕ). Some (answer.Done m (first_place (behind_number (number_bytes n ++ (place_bytes p ++ left)))) (behind_place (behind_number (number_bytes n ++ (place_bytes p ++ left)))))) (first_back n (place_bytes p ++ left) n_fits)
    ∙ ap (λ (bytes : List ℕ). Some (answer.Done n (first_place bytes) (behind_place bytes))) (behind_back n (place_bytes p ++ left))
    ∙ ap (λ (q : Option ℕ). Some (answer.Done n q (behind_place (place_bytes p ++ left)))) (place_back p left p_fits)
    ∙ ap (λ (bytes : List ℕ). Some (answer.Done n p bytes)) (behind_place_back p left)

pub look_back : (count families : ℕ) (shown : List (Option ℕ)) → count < 2 ^ 64 → families ≡ length shown → shown_of (length shown) (shown_bytes shown) ≡ Some shown → answer_of (answer_form.Look families) (number_bytes count ++ shown_bytes shown) ≡ Some (answer.Look (record { count = count; shown = shown }))
look_back count families shown fits is back =
    ap (λ (n : ℕ). look_of_shown n (shown_of families (behind_number (number_bytes count ++ shown_bytes shown)))) (first_back count (shown_bytes shown) fits)
    ∙ ap (λ (bytes : List ℕ). look_of_shown count (shown_of families bytes)) (behind_back count (shown_bytes shown))
    ∙ ap (λ (n : ℕ). look_of_shown count (shown_of n (shown_bytes shown))) is
    ∙ ap (look_of_shown count) back

pub notices_back : (dropped count : ℕ) (numbers : List ℕ) → dropped < 2 ^ 64 → count ≡ length numbers → numbers_of (length numbers) (numbers_bytes numbers) ≡ Some numbers → answer_of (answer_form.Notices count) (number_bytes dropped ++ numbers_bytes numbers) ≡ Some (answer.Notices dropped (record { items = numbers }))
notices_back dropped count numbers fits is back =
    ap (λ (n : ℕ). notices_of_numbers n (numbers_of count (behind_number (number_bytes dropped ++ numbers_bytes numbers)))) (first_back dropped (numbers_bytes numbers) fits)
    ∙ ap (λ (bytes : List ℕ). notices_of_numbers dropped (numbers_of count bytes)) (behind_back dropped (numbers_bytes numbers))
    ∙ ap (λ (n : ℕ). notices_of_numbers dropped (numbers_of n (numbers_bytes numbers))) is
    ∙ ap (notices_of_numbers dropped) back
