-- A list read one item after another.
use Rattle.std.proofs.Common.{◌≡◌, List, [], ◌∷◌, ◌++◌, Option, Some, None, refl, sym, ap, append_assoc}
use Rattle.report_reader.specs.Reads.{◌>>=◌, all_of}

-- what was read, and what is read of the rest
abbrev pub onto : {A : Type 0} → List A → Option (List A) → Option (List A)
onto out (Some xs) = Some (out ++ xs)
onto out None = None

push_on : {A : Type 0} (out : List A) (x : A) (r : Option (List A)) → onto out (r >>= λ xs. Some (x ∷ xs)) ≡ onto (out ++ x ∷ []) r
push_on out x (Some xs) = ap (λ (ys : List _). Some ys) (sym (append_assoc out (x ∷ []) xs))
push_on out x None = refl

-- the first of the rest is read, and put behind what was read
pub onto_more : {A B : Type 0} (read : A → Option B) (out : List B) (x : A) (xs : List A) (y : B) → read x ≡ Some y → onto out (all_of read (x ∷ xs)) ≡ onto (out ++ y ∷ []) (all_of read xs)
onto_more read out x xs y e = rw e (push_on out y (all_of read xs))
