-- The service provider name, EF_SPN, 3GPP TS 31.102 clause 4.2.12, and administrative data, EF_AD, clause 4.2.18.
use Rattle.std.specs.Prelude.{ℕ, ◌==◌, ◌||◌, nat_lt, List, [], ◌∷◌, length, take, drop, slice_index, Option, Some, None, Result, Ok, Err, if◌then◌else◌}
use Rattle.apdu.specs.Words.{low_half}
use Rattle.alpha.specs.Names.{decode_name}
use Rattle.sim_codecs.specs.declared.values.Spn.{Spn}
use Rattle.sim_codecs.specs.declared.values.Ad.{Ad}

-- the display condition and sixteen bytes of the name, or the end of a file that is too short
abbrev pub spn_of : List ℕ → Result Spn ℕ
spn_of bytes =
    if nat_lt (length bytes) 17 then Err (length bytes)
    else Ok (record { show = slice_index bytes 0; name = decode_name (take 16 (drop 1 bytes)) })

-- the length of the MNC, where the low half of the byte at index 3 tells one
abbrev pub mnc_length : ℕ → Option ℕ
mnc_length n = if n == 2 || n == 3 then Some n else None

abbrev pub mnc_of : List ℕ → Option ℕ
mnc_of (mode ∷ b ∷ c ∷ d ∷ bytes) = mnc_length (low_half d)
mnc_of _ = None

-- the mode of operation and the length of the MNC; an empty file is damaged at its end
abbrev pub ad_of : List ℕ → Result Ad ℕ
ad_of [] = Err 0
ad_of (mode ∷ bytes) = Ok (record { mode = mode; mnc = mnc_of (mode ∷ bytes) })
