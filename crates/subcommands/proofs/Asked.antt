-- What clap makes of the words of a command is what they ask for.
use Rattle.std.proofs.Common.{◌≡◌, ◌≢◌, ◌⊎◌, inl, inr, ◌∙◌, ℕ, ◌&&◌, ◌≤◌, Bool, true, false, cond, refl, sym, ap, ap₂, subst, nat_le, arith, List, [], ◌∷◌, Option, Some, None, codes, true≢false}
use Rattle.std.specs.Prelude.{IfSome, option_and_then, unwrap_or}
use Rattle.std.specs.Str.{bytes_eq}
use Rattle.std.specs.Str.Parse.{digits_value}
use Rattle.std.proofs.lemmas.Bool.{leb-true}
use Rattle.std.proofs.lemmas.Slice.Eq.{bytes_eq-Decides}
use Rattle.apdu.specs.Words.{is_between}
use Rattle.clap.specs.Words.{IsAmong, Kinds, Text, fault_of, subcommand_of}
use Rattle.clap.specs.Kinds.{or_else}
use Rattle.clap.specs.Lexer.{strip_byte}
use Rattle.clap.specs.declared.error.kind.ErrorKind.{ErrorKind}
use Rattle.clap.specs.declared.error.kind.ErrorKind.TheVariants as kind
use Rattle.clap.proofs.WalkLemmas.{both}
use Rattle.subcommands.specs.Subcommands.{HasSize, asked_by, seed_of, size_of, sized_of, spells_number}
use Rattle.subcommands.specs.Spelling.{spells_name, texts_are_spelt}
use Rattle.subcommands.specs.CommandLine.{command_line, number_in, read_number, sized_in, subcommand_in}
use Rattle.subcommands.specs.declared.words.Subcommand.{Subcommand}
use Rattle.subcommands.specs.declared.words.Subcommand.TheVariants.{Replay, Run, Check, Generate, Bulk}
use Rattle.subcommands.proofs.Spelt.{no_hyphen, no_hyphens}
use Rattle.subcommands.proofs.Numbers.{accepted, number_is_name, number_read}
use Rattle.subcommands.proofs.Found.{faults, rows, replay_alone, run_alone, check_alone, gen_alone, bulk_alone, replay_sized, run_sized, check_sized, gen_faults, gen_found, bulk_faults, bulk_found, stray}

-- clap finds what the words ask for, and where it refuses them they ask for nothing
pub record Tells (words : List Text) : Type 0 where
  pub finds : fault_of command_line words ≡ [] → subcommand_in (subcommand_of command_line words) ≡ asked_by words
  pub refuses : (k : ErrorKind) → IsAmong k (fault_of command_line words) → asked_by words ≡ None

taken : (words : List Text) → fault_of command_line words ≡ [] → subcommand_in (subcommand_of command_line words) ≡ asked_by words → Tells words
taken words none same = record {
  finds = λ _. same;
  refuses = λ k among. absurd (subst (IsAmong k) none among);
}

refused : (words : List Text) (k : ErrorKind) (ks : Kinds) → fault_of command_line words ≡ k ∷ ks → asked_by words ≡ None → Tells words
refused words k ks some none = record {
  finds = λ e. let no : [] ≡ k ∷ ks = sym e ∙ some in cc;
  refuses = λ _ _. none;
}

-- ---- names

differs : (a b : Text) → a ≢ b → (bytes_eq a b ≡ false) × (bytes_eq b a ≡ false)
differs a b n = (go (bytes_eq a b) refl, back (bytes_eq b a) refl)
  where
    go : (t : Bool) → bytes_eq a b ≡ t → t ≡ false
    go true e = absurd (n ((bytes_eq-Decides a b).0 e))
    go false e = refl

    back : (t : Bool) → bytes_eq b a ≡ t → t ≡ false
    back true e = absurd (n (sym ((bytes_eq-Decides b a).0 e)))
    back false e = refl

either : (a b : Text) → (a ≡ b) ⊎ (a ≢ b)
either a b = go (bytes_eq a b) refl
  where
    go : (t : Bool) → bytes_eq a b ≡ t → (a ≡ b) ⊎ (a ≢ b)
    go true e = inl ((bytes_eq-Decides a b).0 e)
    go false e = inr (λ same. true≢false (sym ((bytes_eq-Decides a b).1 same) ∙ e))

-- a name is one of the five, or none
data Named (name : Text) : Type 0 where
  replay : name ≡ codes "replay" → Named name
  run : name ≡ codes "run" → Named name
  check : name ≡ codes "check" → Named name
  gen : name ≡ codes "gen" → Named name
  bulk : name ≡ codes "bulk" → Named name
  other : name ≢ codes "replay" → name ≢ codes "run" → name ≢ codes "check" → name ≢ codes "gen" → name ≢ codes "bulk" → Named name

named : (name : Text) → Named name
named name = elim (either name (codes "replay")) [
  | inl e ↦ replay e
  | inr a ↦ elim (either name (codes "run")) [
    | inl e ↦ run e
    | inr b ↦ elim (either name (codes "check")) [
      | inl e ↦ check e
      | inr c ↦ elim (either name (codes "gen")) [
        | inl e ↦ gen e
        | inr d ↦ elim (either name (codes "bulk")) [
          | inl e ↦ bulk e
          | inr f ↦ other a b c d f
        ]
      ]
    ]
  ]
]

-- ---- a name alone

alone : (name : Text) → spells_name name ≡ true → Named name → Tells (name ∷ [])
alone name plain (replay e) = subst (λ n. Tells (n ∷ [])) (sym e) (taken (codes "replay" ∷ []) replay_alone.0 (ap subcommand_in replay_alone.1))
alone name plain (run e) = subst (λ n. Tells (n ∷ [])) (sym e) (taken (codes "run" ∷ []) run_alone.0 (ap subcommand_in run_alone.1))
alone name plain (check e) = subst (λ n. Tells (n ∷ [])) (sym e) (taken (codes "check" ∷ []) check_alone.0 (ap subcommand_in check_alone.1))
alone name plain (gen e) = subst (λ n. Tells (n ∷ [])) (sym e) (refused (codes "gen" ∷ []) _ _ gen_alone refl)
alone name plain (bulk e) = subst (λ n. Tells (n ∷ [])) (sym e) (refused (codes "bulk" ∷ []) _ _ bulk_alone refl)
alone name plain (other a b c d f) =
    let x = differs name _ a in
    let y = differs name _ b in
    let z = differs name _ c in
    refused (name ∷ []) _ _
    (stray name [] (no_hyphen name plain) (no_hyphens name plain) x.1 y.1 z.1 (differs name _ d).1 (differs name _ f).1)
    (rw (x.0, y.0, z.0) refl)

-- ---- a name with two numbers

none_made : (make : ℕ → ℕ → Option Subcommand) → ((s n : ℕ) → make s n ≡ None) → (seed size : Option ℕ)
    → option_and_then (λ s. option_and_then (λ n. make s n) size) seed ≡ None
none_made make none None size = refl
none_made make none (Some s) None = refl
none_made make none (Some s) (Some n) = none s n

module _ (seed size : Text) (seed_spelt : spells_number 10 seed ≡ true) (size_spelt : spells_number 3 size ≡ true) where
  abbrev plain_seed : strip_byte 45 seed ≡ None
  plain_seed = no_hyphen seed (number_is_name 10 seed seed_spelt)

  abbrev seed_ends : bytes_eq seed (45 ∷ 45 ∷ []) ≡ false
  seed_ends = no_hyphens seed (number_is_name 10 seed seed_spelt)

  abbrev plain_size : strip_byte 45 size ≡ None
  plain_size = no_hyphen size (number_is_name 3 size size_spelt)

  abbrev size_ends : bytes_eq size (45 ∷ 45 ∷ []) ≡ false
  size_ends = no_hyphens size (number_is_name 3 size size_spelt)

  abbrev is_seed : Bool
  is_seed = is_between 0 4294967295 (digits_value 10 seed)

  abbrev is_size : Bool
  is_size = is_between 1 250 (digits_value 10 size)

  abbrev refusal : Bool → Kinds
  refusal b = cond b [] (kind.ValueValidation ∷ [])

  faults_are : faults seed size plain_seed seed_ends plain_size size_ends ≡ or_else (refusal is_seed) (refusal is_size)
  faults_are = ap₂ (λ b c. or_else (refusal b) (refusal c)) (accepted 10 seed seed_spelt (omega arith) 0 4294967295) (accepted 3 size size_spelt (omega arith) 1 250)

  abbrev number : Bool → Text → Option ℕ
  number b text = cond b (Some (digits_value 10 text)) None

  seed_is : seed_of seed ≡ number is_seed seed
  seed_is = ap (λ b. cond (b && is_seed) (Some (digits_value 10 seed)) None) seed_spelt

  size_is : size_of size ≡ number is_size size
  size_is = ap (λ b. cond (b && is_size) (Some (digits_value 10 size)) None) size_spelt

  seed_read : is_seed ≡ true → number_in 32 (codes "SEED") (rows seed size plain_seed seed_ends plain_size size_ends) ≡ Some (digits_value 10 seed)
  seed_read e =
      let most = leb-true _ _ (both (nat_le 0 (digits_value 10 seed)) _ e).1 in
      ap (λ o. read_number 32 (unwrap_or o seed)) plain_seed ∙ number_read 10 seed seed_spelt 32 (omega arith)

  size_read : is_size ≡ true → number_in 16 (codes "SIZE") (rows seed size plain_seed seed_ends plain_size size_ends) ≡ Some (digits_value 10 size)
  size_read e =
      let most = leb-true _ _ (both (nat_le 1 (digits_value 10 size)) _ e).1 in
      ap (λ o. read_number 16 (unwrap_or o size)) plain_size ∙ number_read 3 size size_spelt 16 (omega arith)

  abbrev made : (ℕ → ℕ → Subcommand) → Option ℕ → Option ℕ → Option Subcommand
  made make s n = option_and_then (λ a. option_and_then (λ b. Some (make a b)) n) s

  module _ (make : ℕ → ℕ → Subcommand) (words : List Text) (fault : fault_of command_line words ≡ faults seed size plain_seed seed_ends plain_size size_ends)
      (found : subcommand_in (subcommand_of command_line words) ≡ sized_in make (rows seed size plain_seed seed_ends plain_size size_ends))
      (asked : asked_by words ≡ made make (seed_of seed) (size_of size)) where
    by_ranges : (b d : Bool) → is_seed ≡ b → is_size ≡ d → Tells words
    by_ranges true true x y = taken words
        (fault ∙ faults_are ∙ ap₂ (λ b c. or_else (refusal b) (refusal c)) x y)
        (found ∙ ap₂ (made make) (seed_read x) (size_read y)
        ∙ sym (asked ∙ ap₂ (made make) (seed_is ∙ ap (λ b. number b seed) x) (size_is ∙ ap (λ b. number b size) y)))
    by_ranges true false x y = refused words _ _
        (fault ∙ faults_are ∙ ap₂ (λ b c. or_else (refusal b) (refusal c)) x y)
        (asked ∙ ap₂ (made make) (seed_is ∙ ap (λ b. number b seed) x) (size_is ∙ ap (λ b. number b size) y))
    by_ranges false d x y = refused words _ _
        (fault ∙ faults_are ∙ ap (λ b. or_else (refusal b) (refusal is_size)) x)
        (asked ∙ ap (λ s. made make s (size_of size)) (seed_is ∙ ap (λ b. number b seed) x))

  sized : (name : Text) → spells_name name ≡ true → Named name → Tells (name ∷ seed ∷ size ∷ [])
  sized name plain (replay e) = subst (λ n. Tells (n ∷ seed ∷ size ∷ [])) (sym e)
      (refused _ _ _ (replay_sized seed size plain_seed seed_ends plain_size size_ends) (none_made _ (λ s n. refl) (seed_of seed) (size_of size)))
  sized name plain (run e) = subst (λ n. Tells (n ∷ seed ∷ size ∷ [])) (sym e)
      (refused _ _ _ (run_sized seed size plain_seed seed_ends plain_size size_ends) (none_made _ (λ s n. refl) (seed_of seed) (size_of size)))
  sized name plain (check e) = subst (λ n. Tells (n ∷ seed ∷ size ∷ [])) (sym e)
      (refused _ _ _ (check_sized seed size plain_seed seed_ends plain_size size_ends) (none_made _ (λ s n. refl) (seed_of seed) (size_of size)))
  sized name plain (gen e) = subst (λ n. Tells (n ∷ seed ∷ size ∷ [])) (sym e)
      (by_ranges Generate (codes "gen" ∷ seed ∷ size ∷ []) (gen_faults seed size plain_seed seed_ends plain_size size_ends)
      (ap subcommand_in (gen_found seed size plain_seed seed_ends plain_size size_ends)) refl _ _ refl refl)
  sized name plain (bulk e) = subst (λ n. Tells (n ∷ seed ∷ size ∷ [])) (sym e)
      (by_ranges Bulk (codes "bulk" ∷ seed ∷ size ∷ []) (bulk_faults seed size plain_seed seed_ends plain_size size_ends)
      (ap subcommand_in (bulk_found seed size plain_seed seed_ends plain_size size_ends)) refl _ _ refl refl)
  sized name plain (other a b c d f) =
      let x = differs name _ d in
      let y = differs name _ f in
      refused _ _ _
      (stray name (seed ∷ size ∷ []) (no_hyphen name plain) (no_hyphens name plain) (differs name _ a).1 (differs name _ b).1 (differs name _ c).1 x.1 y.1)
      (none_made (sized_of name) (λ s n. rw (x.0, y.0) refl) (seed_of seed) (size_of size))

pub tells : (words : List Text) → texts_are_spelt words ≡ true → Tells words
tells [] e = absurd (true≢false (sym e))
tells (name ∷ []) e = alone name e (named name)
tells (name ∷ seed ∷ []) e = absurd (true≢false (sym e))
tells (name ∷ seed ∷ size ∷ []) e =
    let outer = both _ _ e in
    let inner = both _ _ outer.0 in
    sized seed size inner.1 outer.1 name inner.0 (named name)
tells (name ∷ seed ∷ size ∷ more ∷ words) e = absurd (true≢false (sym e))

-- ---- the sizes

size_within : (text : Text) → IfSome (size_of text) (λ n. (1 ≤ n) × (n ≤ 250))
size_within text = go (spells_number 3 text && is_between 1 250 (digits_value 10 text)) refl
  where
    go : (b : Bool) → (spells_number 3 text && is_between 1 250 (digits_value 10 text)) ≡ b
        → IfSome (cond b (Some (digits_value 10 text)) None) (λ n. (1 ≤ n) × (n ≤ 250))
    go false e = tt
    go true e =
        let bounds = both _ _ (both _ _ e).1 in
        (leb-true _ _ bounds.0, leb-true _ _ bounds.1)

sized_has : (name : Text) (s n : ℕ) → (1 ≤ n) × (n ≤ 250) → (a b : Bool) → IfSome (cond a (Some (Generate s n)) (cond b (Some (Bulk s n)) None)) HasSize
sized_has name s n h true b = h
sized_has name s n h false true = h
sized_has name s n h false false = tt

made_has : (name : Text) (seed size : Option ℕ) → IfSome size (λ n. (1 ≤ n) × (n ≤ 250))
    → IfSome (option_and_then (λ s. option_and_then (λ n. sized_of name s n) size) seed) HasSize
made_has name None size h = tt
made_has name (Some s) None h = tt
made_has name (Some s) (Some n) h = sized_has name s n h _ _

single_has : (a b d : Bool) → IfSome (cond a (Some Replay) (cond b (Some Run) (cond d (Some Check) None))) HasSize
single_has true b d = tt
single_has false true d = tt
single_has false false true = tt
single_has false false false = tt

pub asked_has_size : (words : List Text) → IfSome (asked_by words) HasSize
asked_has_size [] = tt
asked_has_size (name ∷ []) = single_has _ _ _
asked_has_size (name ∷ seed ∷ []) = tt
asked_has_size (name ∷ seed ∷ size ∷ []) = made_has name (seed_of seed) (size_of size) (size_within size)
asked_has_size (name ∷ seed ∷ size ∷ more ∷ words) = tt
