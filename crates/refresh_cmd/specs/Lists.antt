-- Words of the private contracts by which a file list is read from its front. No public clause cites them.
use Rattle.std.specs.Prelude.{ℕ, List, [], ◌∷◌, ◌++◌, Option, Some, None, option_map}
use Rattle.refresh_cmd.specs.Proactive.{ids_of, with_id, split_paths, good_paths}

-- the bytes as ids, cut before each MF
abbrev pub cut_bytes : List ℕ → Option (List ℕ × List (List ℕ))
cut_bytes bytes = option_map split_paths (ids_of bytes)

-- one id more in front
abbrev pub with_id_seen : ℕ → Option (List ℕ × List (List ℕ)) → Option (List ℕ × List (List ℕ))
with_id_seen id None = None
with_id_seen id (Some cut) = Some (with_id id cut)

-- what stands behind the paths that were read
abbrev pub onto : List (List ℕ) → Option (List ℕ × List (List ℕ)) → Option (List (List ℕ))
onto paths None = None
onto paths (Some (before, more)) = good_paths (before, paths ++ more)

-- what stands behind the paths that were read, and behind these ids of a path more
abbrev pub within : List (List ℕ) → List ℕ → Option (List ℕ × List (List ℕ)) → Option (List (List ℕ))
within paths ids None = None
within paths ids (Some (before, more)) = good_paths ([], paths ++ (ids ++ before) ∷ more)
