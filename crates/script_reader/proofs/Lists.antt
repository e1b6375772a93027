-- A list read one item after another.
use Rattle.std.specs.Prelude.{IfOk}
use Rattle.std.specs.List.{list_all}
use Rattle.std.proofs.Common.{◌≡◌, true, subst, List, [], ◌∷◌, ◌++◌, Option, Some, None, Result, Ok, Err, refl, sym, ap, ◌∙◌, map, append_assoc}
use Rattle.apdu.specs.Words.{◌>>=◌}
use Rattle.script_reader.specs.declared.error.Why.{Why}
use Rattle.script_reader.specs.Reading.{all_of}

-- what was read, and what is read of the rest
abbrev pub onto : {A : Type 0} → List A → Result (List A) Why → Result (List A) Why
onto out (Ok xs) = Ok (out ++ xs)
onto out (Err why) = Err why

-- what was read, and what is read of the rest, if it can be
abbrev pub onto_some : {A : Type 0} → List A → Option (List A) → Option (List A)
onto_some out (Some xs) = Some (out ++ xs)
onto_some out None = None

push_on : {A : Type 0} (out : List A) (x : A) (r : Result (List A) Why) → onto out (r >>= λ xs. Ok (x ∷ xs)) ≡ onto (out ++ x ∷ []) r
push_on out x (Ok xs) = ap (λ (ys : List _). Ok ys) (sym (append_assoc out (x ∷ []) xs))
push_on out x (Err why) = refl

-- the first of the rest is read, and put behind what was read
pub onto_more : {A B : Type 0} (read : A → Result B Why) (out : List B) (x : A) (xs : List A) (y : B) → read x ≡ Ok y → onto out (all_of read (x ∷ xs)) ≡ onto (out ++ y ∷ []) (all_of read xs)
onto_more read out x xs y e = rw e (push_on out y (all_of read xs))

pub each_true : {A : Type 0} (xs : List A) → list_all (λ (x : A). true) xs ≡ true
each_true [] = refl
each_true (x ∷ xs) = each_true xs

-- what is known of the list that is made of another is known of the result that is this list
pub ok_is : {A B E : Type 0} (P : List B → Type 0) (f : A → B) (from xs : List A) (r : Result (List B) E) → from ≡ xs → IfOk r (λ (ys : List B). ys ≡ map f from) → P (map f xs) → IfOk r P
ok_is P f from xs (Ok ys) same e h = subst P (sym (e ∙ ap (λ (zs : List _). map f zs) same)) h
ok_is P f from xs (Err error) same e h = tt
