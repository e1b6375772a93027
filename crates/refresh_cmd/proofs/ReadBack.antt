-- A command that was written is read back.
use Rattle.std.proofs.Common.{◌≡◌, ◌≢◌, ℕ, suc, zero, ◌+◌, ◌*◌, ◌/◌, ◌%◌, ◌<◌, ◌≤◌, Bool, true, false, ◌&&◌, ◌==◌, nat_le, nat_lt, if◌then◌else◌, List, [], ◌∷◌, ◌++◌, length, flat_map, Option, Some, None, option_map, Ok, refl, ap, sym, ◌∙◌, arith, append-nil, length-append, lit<}
use Rattle.std.specs.List.{list_all}
use Rattle.std.proofs.lemmas.Bool.{and_parts, true≢false}
use Rattle.std.proofs.lemmas.Bool.Decides.{nat_tests}
use Rattle.apdu.specs.Words.{pair_value, two_bytes}
use Rattle.tlv.specs.Objects.{Parts, with_part, stopped, ber_tag, simple_tag, simple_parts, part_bytes}
use Rattle.tlv.proofs.Written.{parts_at-written, parts_at-last}
use Rattle.refresh_cmd.specs.Proactive.{master_file, path_bytes, proactive_bytes, command_of, is_below_master, ids_of, split_paths, is_good_path, good_paths, full_paths, paths_of, if_counted, with_list, first_byte, proactive_parts, proactive_object, read_proactive}
use Rattle.refresh_cmd.specs.Lists.{cut_bytes, with_id_seen, onto}
use Rattle.refresh_cmd.proofs.Cuts.{other-id}

-- ---- the list

-- ids in front of what stands before the first path
abbrev pub before_seen : List ℕ → Option (List ℕ × List (List ℕ)) → Option (List ℕ × List (List ℕ))
before_seen ids None = None
before_seen ids (Some (before, paths)) = Some (ids ++ before, paths)

pair : (id : ℕ) → pair_value (id / 256) (id % 256) ≡ id
pair id = omega arith

pub cut-two : (high low : ℕ) (rest : List ℕ) → cut_bytes (high ∷ low ∷ rest) ≡ with_id_seen (pair_value high low) (cut_bytes rest)
cut-two high low rest = elim (ids_of rest) as (λ (ids : Option (List ℕ)). option_map split_paths (option_map (λ (ids : List ℕ). pair_value high low ∷ ids) ids) ≡ with_id_seen (pair_value high low) (option_map split_paths ids)) [
  | None ↦ refl
  | Some ids ↦ refl
]

pub cut-id : (id : ℕ) (rest : List ℕ) → cut_bytes (two_bytes id ++ rest) ≡ with_id_seen id (cut_bytes rest)
cut-id id rest = cut-two (id / 256) (id % 256) rest ∙ ap (λ (n : ℕ). with_id_seen n (cut_bytes rest)) (pair id)

other-before : (id : ℕ) (ids : List ℕ) (c : Option (List ℕ × List (List ℕ))) → id ≢ master_file → with_id_seen id (before_seen ids c) ≡ before_seen (id ∷ ids) c
other-before id ids None ne = refl
other-before id ids (Some (before, paths)) ne = rw (other-id id ne) refl

none-before : (c : Option (List ℕ × List (List ℕ))) → before_seen [] c ≡ c
none-before None = refl
none-before (Some (before, paths)) = refl

below-head : (id : ℕ) (ids : List ℕ) → is_below_master (id ∷ ids) ≡ true → id ≢ master_file
below-head id ids h = λ (e : id ≡ master_file). true≢false (sym h ∙ ap (λ (n : ℕ). is_below_master (n ∷ ids)) e)

below-tail : (id : ℕ) (ids : List ℕ) → is_below_master (id ∷ ids) ≡ true → is_below_master ids ≡ true
below-tail id ids h = rw (other-id id (below-head id ids h)) at h

pub cut-ids : (ids rest : List ℕ) → is_below_master ids ≡ true → cut_bytes (flat_map two_bytes ids ++ rest) ≡ before_seen ids (cut_bytes rest)
cut-ids [] rest h = sym (none-before (cut_bytes rest))
cut-ids (id ∷ ids) rest h =
    cut-id id (flat_map two_bytes ids ++ rest)
    ∙ (ap (with_id_seen id) (cut-ids ids rest (below-tail id ids h))
    ∙ other-before id ids (cut_bytes rest) (below-head id ids h))

pub cut-paths : (paths : List (List ℕ)) → list_all is_below_master paths ≡ true → cut_bytes (flat_map path_bytes paths) ≡ Some ([], paths)
cut-paths [] h = refl
cut-paths (path ∷ paths) h =
    cut-two 0x3F 0x00 (flat_map two_bytes path ++ flat_map path_bytes paths)
    ∙ (ap (with_id_seen master_file) (cut-ids path (flat_map path_bytes paths) (and_parts (is_below_master path) (list_all is_below_master paths) h).0
    ∙ ap (before_seen path) (cut-paths paths (and_parts (is_below_master path) (list_all is_below_master paths) h).1))
    ∙ rw append-nil refl)

full-is : (bytes : List ℕ) → full_paths bytes ≡ onto [] (cut_bytes bytes)
full-is bytes = elim (ids_of bytes) as (λ (ids : Option (List ℕ)). (elim ids [ None ↦ None | Some ids ↦ good_paths (split_paths ids) ]) ≡ onto [] (option_map split_paths ids)) [
  | None ↦ refl
  | Some ids ↦ refl
]

-- ---- the objects

first_byte-if : (short : Bool) (tag : ℕ) (value other : List ℕ) → first_byte (if short then tag ∷ value else tag ∷ other) ≡ tag
first_byte-if true tag value other = refl
first_byte-if false tag value other = refl

reads-object : (value : List ℕ) → read_proactive (part_bytes 0xD0 value) ≡ proactive_parts (simple_parts value)
reads-object value = rw (first_byte-if (nat_lt (length value) 0x80) 0xD0 (length value ∷ value) (0x81 ∷ length value ∷ value)) (
    ap (λ (read : Parts). proactive_object read.parts read.damage) (parts_at-last ber_tag 0xD0 0xD0 0 value refl))

abbrev details : (number kind qualifier : ℕ) → List ℕ
details number kind qualifier = number ∷ kind ∷ qualifier ∷ []

abbrev identities : List ℕ
identities = 0x81 ∷ 0x82 ∷ []

parts-with : (number kind qualifier : ℕ) (list : List ℕ) → simple_parts (part_bytes 0x81 (details number kind qualifier) ++ part_bytes 0x82 identities ++ part_bytes 0x92 list) ≡ with_part 0x01 (details number kind qualifier) (with_part 0x02 identities (with_part 0x12 list (stopped None)))
parts-with number kind qualifier list =
    parts_at-written simple_tag 0x81 0x01 0 (details number kind qualifier) (part_bytes 0x82 identities ++ part_bytes 0x92 list) refl
    ∙ ap (with_part 0x01 (details number kind qualifier)) (parts_at-written simple_tag 0x82 0x02 5 identities (part_bytes 0x92 list) refl
    ∙ ap (with_part 0x02 identities) (parts_at-last simple_tag 0x92 0x12 9 list refl))

-- ---- the whole

good-list : (paths : List (List ℕ)) → length paths ≤ 8 → list_all is_good_path paths ≡ true → good_paths ([], paths) ≡ Some paths
good-list paths few good = let e : nat_le (length paths) 64 ≡ true = grind (arith, nat_tests) in rw good (rw e refl)

pub reads-list : (paths : List (List ℕ)) → length paths ≤ 8 → list_all is_good_path paths ≡ true → list_all is_below_master paths ≡ true →
    paths_of (length paths ∷ flat_map path_bytes paths) ≡ Some paths
reads-list paths few good below =
    let same : (length paths == length paths) ≡ true = grind (arith, nat_tests) in
    ap (if_counted (length paths)) (full-is (flat_map path_bytes paths) ∙ (ap (onto []) (cut-paths paths below) ∙ good-list paths few good))
    ∙ rw same refl

pub reads_back : (number kind qualifier : ℕ) (paths : List (List ℕ)) → length paths ≤ 8 → list_all is_good_path paths ≡ true → list_all is_below_master paths ≡ true →
    read_proactive (proactive_bytes number kind qualifier paths) ≡ Ok (command_of number kind qualifier paths)
reads_back number kind qualifier [] few good below = refl
reads_back number kind qualifier (path ∷ paths) few good below =
    let list : List ℕ = length (path ∷ paths) ∷ flat_map path_bytes (path ∷ paths) in
    reads-object (part_bytes 0x81 (details number kind qualifier) ++ part_bytes 0x82 identities ++ part_bytes 0x92 list)
    ∙ (ap proactive_parts (parts-with number kind qualifier list)
    ∙ ap (with_list number kind qualifier) (reads-list (path ∷ paths) few good below))
