-- A list whose items are written over one after another.
use Rattle.std.proofs.Common.{◌≡◌, ◌<◌, ◌+◌, ℕ, suc, zero, List, [], ◌∷◌, ◌++◌, length, take, drop, map, refl, ap, ◌∙◌, add-one, arith, get_or}
use Rattle.std.proofs.Math.ListN.{set}

-- the first n items are written over, and the rest are not
abbrev pub written : {X : Type 0} → (X → X) → List X → ℕ → List X
written f xs n = map f (take n xs) ++ drop n xs

pub set-written : {X : Type 0} (f : X → X) (xs : List X) (n : ℕ) (d : X) → n < length xs → set (written f xs n) n (f (get_or xs n d)) ≡ written f xs (suc n)
set-written f [] n d h = absurd (omega arith)
set-written f (x ∷ xs) zero d h = refl
set-written f (x ∷ xs) (suc n) d h = ap (λ ys. f x ∷ ys) (set-written f xs n d (omega arith))

pub get_or-written : {X : Type 0} (f : X → X) (xs : List X) (n : ℕ) (d : X) → n < length xs → get_or (written f xs n) n d ≡ get_or xs n d
get_or-written f [] n d h = absurd (omega arith)
get_or-written f (x ∷ xs) zero d h = refl
get_or-written f (x ∷ xs) (suc n) d h = get_or-written f xs n d (omega arith)

pub set-next : {X : Type 0} (f : X → X) (xs ys : List X) (n : ℕ) (x : X) → n < length xs → ys ≡ written f xs n → x ≡ get_or ys n x → set ys n (f x) ≡ written f xs (n + 1)
set-next f xs ys n x within so_far read =
    let here : x ≡ get_or xs n x = read ∙ ap (λ zs. get_or zs n x) so_far ∙ get_or-written f xs n x within in
    rw add-one (ap (λ zs. set zs n (f x)) so_far ∙ ap (λ z. set (written f xs n) n (f z)) here ∙ set-written f xs n x within)
