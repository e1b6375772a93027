-- What holds of whatever is read, one reading after another.
use Rattle.std.proofs.Common.{◌≡◌, ℕ, Bool, true, false, List, Option, Some, None, if◌then◌else◌, refl}
use Rattle.std.specs.Prelude.{option_map, ⊤}
use Rattle.apdu.specs.Words.{same_bytes}
use Rattle.report_reader.specs.Reads.{◌>>=◌}
use Rattle.report_reader.proofs.Parts.{same_text}

-- of whatever is read
abbrev pub Each : {A : Type 0} → (A → Type 0) → Option A → Type 0
Each P None = ⊤
Each P (Some x) = P x

pub each_then : {A B : Type 0} (P : B → Type 0) (Q : A → Type 0) (o : Option A) (next : A → Option B) → Each Q o → ((x : A) → Q x → Each P (next x)) → Each P (o >>= next)
each_then P Q None next h k = tt
each_then P Q (Some x) next h k = k x h

pub each_made : {A B : Type 0} (P : B → Type 0) (Q : A → Type 0) (o : Option A) (make : A → B) → Each Q o → ((x : A) → Q x → P (make x)) → Each P (option_map make o)
each_made P Q None make h k = tt
each_made P Q (Some x) make h k = k x h

-- what else holds of it
pub each_as : {A : Type 0} (P Q : A → Type 0) (o : Option A) → Each Q o → ((x : A) → Q x → P x) → Each P o
each_as P Q None h k = tt
each_as P Q (Some x) h k = k x h

pub each_if : {A : Type 0} (P : A → Type 0) (test : Bool) (x y : Option A) → (test ≡ true → Each P x) → (test ≡ false → Each P y) → Each P (if test then x else y)
each_if P true x y h k = h refl
each_if P false x y h k = k refl

-- the word is this one, or another
pub each_word : {A : Type 0} (P : A → Type 0) (word name : List ℕ) (x y : Option A) → (word ≡ name → Each P x) → Each P y → Each P (if same_bytes word name then x else y)
each_word P word name x y h k = each_if P (same_bytes word name) x y (λ e. h (same_text word name e)) (λ e. k)

-- what was read
pub read_as : {A : Type 0} (P : A → Type 0) (o : Option A) (x : A) → Each P o → o ≡ Some x → P x
read_as P None x h e = absurd (cc)
read_as P (Some y) x h e =
    let same : y ≡ x = cc in
    rw same at h
