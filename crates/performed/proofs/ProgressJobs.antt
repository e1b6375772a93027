-- An actor's job behind a change to every job, and to one of them.
use Rattle.std.proofs.Common.{◌≡◌, ℕ, zero, suc, List, [], ◌∷◌, map, Option, Some, None, refl, sym, subst}
use Rattle.rules.specs.declared.kept.Job.{Job}
use Rattle.rules.specs.Kept.{first_job, job_of, changed_at, change_at}
use Rattle.std.specs.Prelude.{slice_get}

changed_head : (f : Job → Job) (n : ℕ) (x : Job) (xs : List Job) (o : Option Job) → job_of zero (changed_at (suc n) f (x ∷ xs) o) ≡ x
changed_head f n x xs None = refl
changed_head f n x xs (Some y) = refl

changed_tail : (f : Job → Job) (n i : ℕ) (x : Job) (xs : List Job) (o : Option Job) → job_of (suc i) (changed_at (suc n) f (x ∷ xs) o) ≡ job_of i (changed_at n f xs o)
changed_tail f n i x xs None = refl
changed_tail f n i x xs (Some y) = refl

-- what holds of each job before, and of the changed one, holds of each behind the change
pub changed : (f : Job → Job) (P : ℕ → Job → Type 0) (xs : List Job) (n : ℕ) → ((x : Job) → P n x → P n (f x)) → ((i : ℕ) → P i (job_of i xs)) → (i : ℕ) → P i (job_of i (change_at n f xs))
changed f P [] n step each i = each i
changed f P (x ∷ xs) zero step each zero = step x (each zero)
changed f P (x ∷ xs) zero step each (suc i) = each (suc i)
changed f P (x ∷ xs) (suc n) step each zero = subst (λ (job : Job). P zero job) (sym (changed_head f n x xs (slice_get xs n))) (each zero)
changed f P (x ∷ xs) (suc n) step each (suc i) = subst (λ (job : Job). P (suc i) job) (sym (changed_tail f n i x xs (slice_get xs n))) (changed f (λ j job. P (suc j) job) xs n step (λ j. each (suc j)) i)

-- the changed job itself
pub changed_here : (f : Job → Job) (xs : List Job) (n : ℕ) (x : Job) → slice_get xs n ≡ Some x → job_of n (change_at n f xs) ≡ f x
changed_here f [] n x h = absurd (cc)
changed_here f (y ∷ xs) zero x h = refl_of (the_same y x h)
  where
    the_same : (a b : Job) → Some a ≡ Some b → a ≡ b
    the_same a b e = cc

    refl_of : y ≡ x → f y ≡ f x
    refl_of e = cc
changed_here f (y ∷ xs) (suc n) x h = subst (λ (job : Job). job ≡ f x) (sym (changed_tail f n n y xs (slice_get xs n))) (changed_here f xs n x h)

-- every job is changed
pub mapped : (g : Job → Job) (P Q : ℕ → Job → Type 0) (xs : List Job) → ((i : ℕ) → P i (job_of i xs)) → ((i : ℕ) (x : Job) → P i x → Q i (g x)) → ((i : ℕ) → P i first_job → Q i first_job) → (i : ℕ) → Q i (job_of i (map g xs))
mapped g P Q [] each step first i = first i (each i)
mapped g P Q (x ∷ xs) each step first zero = step zero x (each zero)
mapped g P Q (x ∷ xs) each step first (suc i) = mapped g (λ j job. P (suc j) job) (λ j job. Q (suc j) job) xs (λ j. each (suc j)) (λ j. step (suc j)) (λ j. first (suc j)) i
