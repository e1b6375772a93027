-- A store of events with one more, and the numbers that are kept of events.
use Rattle.std.proofs.Common.{◌≡◌, ◌≤◌, ℕ, suc, ◌+◌, Bool, true, false, List, [], ◌∷◌, ◌++◌, length, take, drop, reverse, refl, ap, sym, ◌∙◌, arith, Ok}
use Rattle.std.proofs.lemmas.List.{take-append-le, drop-append-le, reverse-append, length-reverse, length-drop, take_all}
use Rattle.std.proofs.Math.Seq.{take-append_seam, drop-append_seam}
use Rattle.apdu.specs.Values.{CommandValue, ResponseValue}
use Rattle.std.specs.Prelude.{None}
use Rattle.std.specs.Result.{result_unwrap_or}
use Rattle.apdu.specs.Apdu.{command, command_bytes, response_bytes, read_command, read_response}
use Rattle.card_model.specs.declared.trail.Step.{Step}
use Rattle.epoch_cache.specs.declared.event.Event.{Event}
use Rattle.epoch_cache.specs.declared.event.Event.TheVariants as event
use Rattle.epoch_cache.specs.declared.store.Entry.{Entry}
use Rattle.epoch_cache.specs.declared.store.Entry.TheVariants as entry
use Rattle.epoch_cache.specs.Past.{past_of, counted, is_call, begins_epoch, outcome_bytes}
use Rattle.epoch_cache.specs.Store.{entry_length, stored_event, stored_events, stored_length, stored_command, stored_response, history_events}

-- ---- numbers of events

pub past_count : (es : List Event) → (past_of es).events ≡ length es
past_count [] = refl
past_count (e ∷ es) = omega (arith, past_count es)

counted_bound : (b : Bool) (n m : ℕ) → n ≤ m → counted b n ≤ m + 1
counted_bound true n m h = omega (arith, h)
counted_bound false n m h = omega (arith, h)

pub calls_bound : (es : List Event) → (past_of es).calls ≤ length es
calls_bound [] = omega arith
calls_bound (e ∷ es) = omega (arith, counted_bound (is_call e) (past_of es).calls (length es) (calls_bound es))

pub epoch_bound : (es : List Event) → (past_of es).epoch ≤ length es
epoch_bound [] = omega arith
epoch_bound (e ∷ es) = omega (arith, counted_bound (begins_epoch e) (past_of es).epoch (length es) (epoch_bound es))

-- ---- the store

pub stored_count : (entries : List Entry) (bytes : List ℕ) → length (stored_events entries bytes) ≡ length entries
stored_count [] bytes = refl
stored_count (e ∷ es) bytes = ap suc (stored_count es (drop (entry_length e) bytes))

pub history_count : (entries : List Entry) (bytes : List ℕ) → length (history_events entries bytes) ≡ length entries
history_count entries bytes = length-reverse (stored_events entries bytes) ∙ stored_count entries bytes

pub stored_length_push : (entries : List Entry) (e : Entry) → stored_length (entries ++ e ∷ []) ≡ stored_length entries + entry_length e
stored_length_push [] e = omega arith
stored_length_push (x ∷ xs) e = omega (arith, stored_length_push xs e)

stored_push : (entries : List Entry) (bytes more : List ℕ) (e : Entry) → length bytes ≡ stored_length entries → entry_length e ≡ length more
    → stored_events (entries ++ e ∷ []) (bytes ++ more) ≡ stored_events entries bytes ++ stored_event e more ∷ []
stored_push [] [] more e whole fits = ap (λ bs. stored_event e bs ∷ []) (take_all (entry_length e) more (omega (arith, fits)))
stored_push [] (b ∷ bs) more e whole fits = absurd (omega (arith, whole))
stored_push (x ∷ xs) bytes more e whole fits =
    let front : take (entry_length x) (bytes ++ more) ≡ take (entry_length x) bytes = take-append-le (entry_length x) bytes more (omega (arith, whole)) in
    let back : drop (entry_length x) (bytes ++ more) ≡ drop (entry_length x) bytes ++ more = drop-append-le (entry_length x) bytes more (omega (arith, whole)) in
    let rest = stored_push xs (drop (entry_length x) bytes) more e (omega (arith, length-drop (entry_length x) bytes, whole)) fits in
    ap (λ bs. stored_event x bs ∷ stored_events (xs ++ e ∷ []) (drop (entry_length x) (bytes ++ more))) front
    ∙ ap (λ bs. stored_event x (take (entry_length x) bytes) ∷ stored_events (xs ++ e ∷ []) bs) back
    ∙ ap (λ es. stored_event x (take (entry_length x) bytes) ∷ es) rest

pub history_push : (entries : List Entry) (bytes more : List ℕ) (e : Entry) → length bytes ≡ stored_length entries → entry_length e ≡ length more
    → history_events (entries ++ e ∷ []) (bytes ++ more) ≡ stored_event e more ∷ history_events entries bytes
history_push entries bytes more e whole fits = ap reverse (stored_push entries bytes more e whole fits) ∙ reverse-append (stored_events entries bytes) (stored_event e more ∷ [])

-- ---- a command and its response behind it

command_back : (c : CommandValue) (written more : List ℕ) (n : ℕ) → n ≡ length written → read_command written ≡ Ok c → stored_command (take n (written ++ more)) ≡ c
command_back c written more n e inverse =
    ap (λ m. stored_command (take m (written ++ more))) e ∙ ap stored_command (take-append_seam written more) ∙ ap (λ r. result_unwrap_or r (command 0 0 0 [] None)) inverse

response_back : (r : ResponseValue) (before written : List ℕ) (n : ℕ) → n ≡ length before → read_response written ≡ Ok r → stored_response (drop n (before ++ written)) ≡ r
response_back r before written n e inverse =
    ap (λ m. stored_response (drop m (before ++ written))) e ∙ ap stored_response (drop-append_seam before written) ∙ ap (λ q. result_unwrap_or q (record { body = []; sw = 0 })) inverse

pub answered_back : (actor n m : ℕ) (s : Step) (r : ResponseValue) (written answered : List ℕ) → s.outcome ≡ Ok r → n ≡ length written → written ≡ command_bytes s.command → answered ≡ response_bytes r
    → read_command written ≡ Ok s.command → read_response answered ≡ Ok r → stored_event (entry.Answered actor n m) (command_bytes s.command ++ outcome_bytes s.outcome) ≡ event.Exchange actor s
answered_back actor n m s r written answered is len value given inverse back =
    let bytes : command_bytes s.command ++ outcome_bytes s.outcome ≡ written ++ answered = ap (λ o. command_bytes s.command ++ outcome_bytes o) is ∙ ap (λ w. w ++ response_bytes r) (sym value) ∙ ap (λ w. written ++ w) (sym given) in
    let whole : stored_event (entry.Answered actor n m) (written ++ answered) ≡ event.Exchange actor s =
    ap (λ c. event.Exchange actor (record { command = c; outcome = Ok (stored_response (drop n (written ++ answered))) })) (command_back s.command written answered n len inverse)
    ∙ ap (λ o. event.Exchange actor (record { command = s.command; outcome = Ok o })) (response_back r written answered n len back)
    ∙ ap (λ o. event.Exchange actor (record { command = s.command; outcome = o })) (sym is) in
    ap (stored_event (entry.Answered actor n m)) bytes ∙ whole
