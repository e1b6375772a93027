-- What holds of each item of a list holds of the one that a search finds.
use Rattle.std.proofs.Common.{◌≡◌, suc, Bool, true, false, List, [], ◌∷◌, Option, Some, None, IfSome, find, All, cond, subst, sym, arith}
use Rattle.std.specs.Option.{option_copied}
use Rattle.std.specs.Borrow.{Bor}

pub All-tail : {X : Type 0} (P : X → Type 0) (x : X) (xs : List X) → All P (x ∷ xs) → All P xs
All-tail P x xs h = λ k d lt. h (suc k) d (omega arith)

pub All-find : {X : Type 0} (P : X → Type 0) (test : X → Bool) (xs : List X) → All P xs → IfSome (find test xs) P
All-find P test [] h = tt
All-find P test (x ∷ xs) h = elim (test x) as (λ b. IfSome (cond b (Some x) (find test xs)) P) [
  | true ↦ h 0 x (omega arith)
  | false ↦ All-find P test xs (All-tail P x xs h)
]

pub found_holds : {X : Type 0} (P : X → Type 0) (test : X → Bool) (xs : List X) (r : Option (Bor X)) → All P xs → option_copied r ≡ find test xs → IfSome r (λ x. P x.now)
found_holds P test xs None h e = tt
found_holds P test xs (Some x) h e = subst (λ o. IfSome o P) (sym e) (All-find P test xs h)
