-- A watch keeps the last notices that it wants.
use Rattle.std.proofs.Common.{◌≡◌, ◌<◌, ◌≤◌, ◌+◌, ◌-◌, ℕ, Bool, true, false, nat_lt, List, [], ◌∷◌, ◌++◌, length, drop, refl, sym, ap, ◌∙◌, arith}
use Rattle.std.proofs.lemmas.Bool.Decides.{nat_tests}
use Rattle.std.proofs.lemmas.List.{append-nil, append_assoc, drop-append-le, drop-drop, length-append, length-drop}
use Rattle.circular_buffer.specs.Buffer.{keep_last}
use Rattle.watchers.specs.declared.filter.Notice.{Notice}
use Rattle.watchers.specs.Watching.{wants}
use Rattle.watchers.specs.Watches.{WatchValue, KeepsTheLast, told, told_all, wanted, with_one_more}

abbrev watch_of : ℕ → ℕ → List Notice → WatchValue
watch_of mask dropped notices = record { mask = mask; dropped = dropped; notices = notices }

-- behind these wanted notices
abbrev behind : ℕ → List Notice → WatchValue
behind mask xs = watch_of mask (length xs - 64) (keep_last 64 xs)

same_watch : (mask d e : ℕ) (xs ys : List Notice) → d ≡ e → xs ≡ ys → watch_of mask d xs ≡ watch_of mask e ys
same_watch mask d e xs ys h k = ap (λ (x : ℕ). watch_of mask x xs) h ∙ ap (watch_of mask e) k

-- the oldest is dropped exactly where the mailbox is full
room_or_full : (mask : ℕ) (n : Notice) (xs : List Notice) (room : Bool) → nat_lt (length (keep_last 64 xs)) 64 ≡ room → with_one_more n (behind mask xs) ≡ behind mask (xs ++ n ∷ [])
room_or_full mask n xs true e =
    let kept = length-drop (length xs - 64) xs in
    let longer = length-append xs (n ∷ []) in
    let few : length xs < 64 = grind (arith, nat_tests) in
    let none : length xs - 64 ≡ 0 = omega arith in
    let still : length (xs ++ n ∷ []) - 64 ≡ 0 = omega arith in
    rw e (same_watch mask (length xs - 64) (length (xs ++ n ∷ []) - 64) (keep_last 64 xs ++ n ∷ []) (keep_last 64 (xs ++ n ∷ [])) (none ∙ sym still)
    (ap (λ (k : ℕ). drop k xs ++ n ∷ []) none ∙ sym (ap (λ (k : ℕ). drop k (xs ++ n ∷ [])) still)))
room_or_full mask n xs false e =
    let kept = length-drop (length xs - 64) xs in
    let longer = length-append xs (n ∷ []) in
    let many : 64 ≤ length xs = grind (arith, nat_tests) in
    let more : length xs - 64 + 1 ≡ length (xs ++ n ∷ []) - 64 = omega arith in
    let within : length (xs ++ n ∷ []) - 64 ≤ length xs = omega arith in
    rw e (same_watch mask (length xs - 64 + 1) (length (xs ++ n ∷ []) - 64) (drop 1 (keep_last 64 xs) ++ n ∷ []) (keep_last 64 (xs ++ n ∷ [])) more
    (ap (λ (l : List Notice). l ++ n ∷ []) (drop-drop 1 (length xs - 64) xs ∙ ap (λ (k : ℕ). drop k xs) more) ∙ sym (drop-append-le (length (xs ++ n ∷ []) - 64) xs (n ∷ []) within)))

one_more : (mask : ℕ) (n : Notice) (xs : List Notice) → with_one_more n (behind mask xs) ≡ behind mask (xs ++ n ∷ [])
one_more mask n xs = room_or_full mask n xs (nat_lt (length (keep_last 64 xs)) 64) refl

one_by_one : (mask : ℕ) (ns xs : List Notice) → told_all ns (behind mask xs) ≡ behind mask (xs ++ wanted mask ns)
one_by_one mask [] xs = sym (ap (behind mask) (append-nil xs))
one_by_one mask (n ∷ later) xs = one_first (wants mask n.family) refl (one_by_one mask later)
  where
    one_first : (b : Bool) → wants mask n.family ≡ b → ((ys : List Notice) → told_all later (behind mask ys) ≡ behind mask (ys ++ wanted mask later)) → told_all later (told n (behind mask xs)) ≡ behind mask (xs ++ wanted mask (n ∷ later))
    one_first true e further = rw e (ap (told_all later) (one_more mask n xs) ∙ further (xs ++ n ∷ []) ∙ ap (behind mask) (append_assoc xs (n ∷ []) (wanted mask later)))
    one_first false e further = rw e (further xs)

pub last_kept : KeepsTheLast
last_kept mask offered = one_by_one mask offered []
