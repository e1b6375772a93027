-- A channel is opened under a reference that names none: what an actor holds, it closes before it opens it again.
use Rattle.std.proofs.Common.{◌≡◌, ℕ, suc, ◌+◌, ◌==◌, ◌&&◌, not, Bool, true, false, if◌then◌else◌, List, [], ◌∷◌, drop, Option, Some, None, is_some, refl, sym, ap, ◌∙◌, subst, arith, true≢false}
use Rattle.std.specs.Prelude.{filter, find, slice_get, unwrap_or}
use Rattle.std.specs.List.{list_all}
use Rattle.std.proofs.lemmas.Bool.{and_parts, and_from, eqb-true}
use Rattle.script_reader.specs.declared.types.Script.{Script}
use Rattle.script_reader.specs.declared.types.Operation.{Operation}
use Rattle.script_reader.specs.declared.types.Operation.TheVariants as operation
use Rattle.script_reader.specs.Pairing.{closes}
use Rattle.script_reader.specs.Rules.{keeps_rules}
use Rattle.report.specs.declared.answer.Answer.{Answer}
use Rattle.report.specs.declared.answer.Answer.TheVariants as answer
use Rattle.report.specs.declared.line.Line.{Line}
use Rattle.report.specs.declared.line.Line.TheVariants as line
use Rattle.rules.specs.declared.holdings.Handle.{Handle}
use Rattle.rules.specs.declared.kept.Begun.{Begun}
use Rattle.rules.specs.declared.kept.Job.{Job}
use Rattle.rules.specs.declared.kept.Kept.{Kept}
use Rattle.rules.specs.Channels.{is_handle_of, handle_of, without_handle, handles_after, ended_handle, ended_handles}
use Rattle.rules.specs.Kept.{first_job, operations_of, operation_at, job_of, begun_of}
use Rattle.rules.specs.After.{handles_given, facts_of, kept_after, kept_of}
use Rattle.rules.specs.Due.{due}
use Rattle.rules.specs.Rules.{is_turn_of, is_begun_at}
use Rattle.performed.specs.Names.{has_utf8_names}
use Rattle.performed.specs.Followed.{is_followed, are_followed, is_given_or_refused}
use Rattle.performed.proofs.Handles.{new_handle}
use Rattle.performed.proofs.Lists.{all_added, all_mapped, all_still}
use Rattle.performed.proofs.ProgressSound.{IsSoundOption, IsSoundJob, sound}
use Rattle.performed.proofs.FreeNext.{IsNextOption, IsNext, answers, answered_stays, answered_more, next_of}
use Rattle.performed.proofs.FreePairs.{drop_at, closes_once, closes_later, open_before, closed_at}

-- the operations that an actor has not answered
abbrev pub remaining : Script → List Job → ℕ → List Operation
remaining s jobs a = drop (job_of a jobs).answered (operations_of s a)

-- its actor still has to close it before it opens its reference again
abbrev pub will_close : Script → List Job → Handle → Bool
will_close s jobs h = closes_once h.handle (remaining s jobs h.actor)

abbrev pub will_close_all : Script → Kept → Bool
will_close_all s k = list_all (will_close s k.jobs) k.handles

-- ---- handles of a list

-- none is of this reference
none_of : (good : Handle → Bool) (p : Handle → Bool) → ((h : Handle) → good h ≡ true → p h ≡ false) → (hs : List Handle) → list_all good hs ≡ true → find p hs ≡ None
none_of good p out [] g = refl
none_of good p out (x ∷ hs) g =
    let q = and_parts (good x) (list_all good hs) g in
    ap (λ (b : Bool). if b then Some x else find p hs) (out x q.0) ∙ none_of good p out hs q.1

module _ (good kept p : Handle → Bool) (each : (h : Handle) → good h ≡ true → p h ≡ true → kept h ≡ true) where
  passed_by : (b : Bool) (x : Handle) (rest : List Handle) → p x ≡ b → good x ≡ true → list_all kept rest ≡ true → list_all kept (if b then x ∷ rest else rest) ≡ true
  passed_by true x rest e g r = and_from (kept x) (list_all kept rest) (each x g e) r
  passed_by false x rest e g r = r

  all_passed : (hs : List Handle) → list_all good hs ≡ true → list_all kept (filter p hs) ≡ true
  all_passed [] g = refl
  all_passed (x ∷ hs) g = let q = and_parts (good x) (list_all good hs) g in passed_by (p x) x (filter p hs) refl q.0 (all_passed hs q.1)

-- ---- the operation that is answered

record Next (s : Script) (k : Kept) (a i : ℕ) : Type 0 where
  pub job : Job
  pub here : slice_get k.jobs a ≡ Some job
  pub index : i ≡ job.answered
  pub there : is_some (operation_at s a i) ≡ true

module _ (s : Script) (k : Kept) (a i : ℕ) where
  next_begun : (job : Job) (b : Option Begun) → slice_get k.jobs a ≡ Some job → is_begun_at i b ≡ true → IsNextOption job.answered b → IsSoundOption s k.history a b → Next s k a i
  next_begun job None here at next sound = absurd (true≢false (sym at))
  next_begun job (Some b) here at next sound =
      let same : b.index ≡ i = eqb-true b.index i at in
      record { job = job; here = here; index = sym same ∙ next; there = subst (λ (m : ℕ). is_some (operation_at s a m) ≡ true) same sound.there }

  next_place : (o : Option Job) → slice_get k.jobs a ≡ o → is_begun_at i (unwrap_or o first_job).begun ≡ true → IsNext (unwrap_or o first_job) → IsSoundJob s k.history a (unwrap_or o first_job) → Next s k a i
  next_place None here at next sound = absurd (true≢false (sym at))
  next_place (Some job) here at next sound = next_begun job job.begun here at next sound

  next_answered : (given : Answer) → is_followed s k (line.Answered a i given) ≡ true → IsNext (job_of a k.jobs) → IsSoundJob s k.history a (job_of a k.jobs) → Next s k a i
  next_answered given h next sound =
      let p = and_parts (is_turn_of a k.turn) (is_begun_at i (begun_of a k.jobs) && is_given_or_refused given (due s k)) h in
      let q = and_parts (is_begun_at i (begun_of a k.jobs)) (is_given_or_refused given (due s k)) p.1 in
      next_place (slice_get k.jobs a) refl q.0 next sound

  module _ (n : Next s k a i) (op : Operation) (there : operation_at s a i ≡ Some op) where
    remaining_now : remaining s k.jobs a ≡ op ∷ drop (suc i) (operations_of s a)
    remaining_now =
        ap (λ (o : Option Job). drop (unwrap_or o first_job).answered (operations_of s a)) n.here
        ∙ ap (λ (m : ℕ). drop m (operations_of s a)) (sym n.index)
        ∙ drop_at (operations_of s a) i op there

    -- a handle of the actor, before the answer
    held_now : (h : Handle) → h.actor ≡ a → will_close s k.jobs h ≡ true → closes_once h.handle (op ∷ drop (suc i) (operations_of s a)) ≡ true
    held_now h same w = subst (λ (ops : List Operation). closes_once h.handle ops ≡ true) (ap (remaining s k.jobs) same ∙ remaining_now) w

  -- ---- an open

  module _ (n : Next s k a i) (ref : ℕ) (aid : List ℕ) (there : operation_at s a i ≡ Some (operation.OpenChannel ref aid)) where
    not_held : (b : Bool) (h : Handle) → is_handle_of a ref h ≡ b → will_close s k.jobs h ≡ true → b ≡ false
    not_held false h is w = refl
    not_held true h is w =
        let q = and_parts (h.actor == a) (h.handle == ref) is in
        let w2 = subst (λ (m : ℕ). closes_once m (operation.OpenChannel ref aid ∷ drop (suc i) (operations_of s a)) ≡ true) (eqb-true h.handle ref q.1) (held_now n (operation.OpenChannel ref aid) there h (eqb-true h.actor a q.0) w) in
        absurd (true≢false (sym w2 ∙ open_before ref aid (drop (suc i) (operations_of s a))))

    free_step : will_close_all s k ≡ true → handle_of a ref k.handles ≡ None
    free_step held = none_of (will_close s k.jobs) (is_handle_of a ref) (λ h w. not_held (is_handle_of a ref h) h refl w) k.handles held

  -- ---- behind the answer

  module _ (given : Answer) (n : Next s k a i) where
    abbrev behind : List Job
    behind = (kept_after s (line.Answered a i given) k).jobs

    one_more : (m j : ℕ) → j ≡ m → m + 1 ≡ suc j
    one_more m j e = omega (arith, e)

    remaining_behind : remaining s behind a ≡ drop (suc i) (operations_of s a)
    remaining_behind = ap (λ (m : ℕ). drop m (operations_of s a)) (answered_more s k a i given n.job n.here ∙ one_more n.job.answered i n.index)

    remaining_other : (b : ℕ) → (a == b) ≡ false → remaining s behind b ≡ remaining s k.jobs b
    remaining_other b e = ap (λ (m : ℕ). drop m (operations_of s b)) (answered_stays s k (line.Answered a i given) b e)

    kept_by : (b : Bool) (op : Operation) (h : Handle) → operation_at s a i ≡ Some op → (a == h.actor) ≡ b → will_close s k.jobs h ≡ true → (h.actor ≡ a → closes h.handle op ≡ false) → will_close s behind h ≡ true
    kept_by false op h there e w other = subst (λ (ops : List Operation). closes_once h.handle ops ≡ true) (sym (remaining_other h.actor e)) w
    kept_by true op h there e w other =
        let same : h.actor ≡ a = sym (eqb-true a h.actor e) in
        subst (λ (ops : List Operation). closes_once h.handle ops ≡ true) (sym (ap (remaining s behind) same ∙ remaining_behind))
        (closes_later h.handle op (drop (suc i) (operations_of s a)) (held_now n op there h same w) (other same))

    -- a handle that the operation does not close
    still : (op : Operation) → operation_at s a i ≡ Some op → (h : Handle) → will_close s k.jobs h ≡ true → (h.actor ≡ a → closes h.handle op ≡ false) → will_close s behind h ≡ true
    still op there h w other = kept_by (a == h.actor) op h there refl w other

    all_stay : (op : Operation) → operation_at s a i ≡ Some op → ((ref : ℕ) → closes ref op ≡ false) → will_close_all s k ≡ true → list_all (will_close s behind) k.handles ≡ true
    all_stay op there other held = all_still (will_close s k.jobs) (will_close s behind) (λ h w. still op there h w (λ same. other h.handle)) k.handles held

    others_stay : (op : Operation) (ref : ℕ) → operation_at s a i ≡ Some op → ((h : Handle) → h.actor ≡ a → not (is_handle_of a ref h) ≡ true → closes h.handle op ≡ false) → will_close_all s k ≡ true → list_all (will_close s behind) (without_handle a ref k.handles) ≡ true
    others_stay op ref there other held = all_passed (will_close s k.jobs) (will_close s behind) (λ h. not (is_handle_of a ref h)) (λ h w out. still op there h w (λ same. other h same out)) k.handles held

    unlike : (b c ref m : ℕ) → b ≡ c → not ((b == c) && (m == ref)) ≡ true → (ref == m) ≡ false
    unlike b c ref m e h = grind arith

    module _ (rules : keeps_rules s ≡ true) (held : will_close_all s k ≡ true) where
      new_closes : (ref number epoch : ℕ) (aid : List ℕ) → operation_at s a i ≡ Some (operation.OpenChannel ref aid) → will_close s behind (new_handle a ref number epoch) ≡ true
      new_closes ref number epoch aid there = subst (λ (ops : List Operation). closes_once ref ops ≡ true) (sym remaining_behind) (closed_at s rules a i ref aid there)

      opened_closes : (ref epoch : ℕ) (aid : List ℕ) (x : Answer) → operation_at s a i ≡ Some (operation.OpenChannel ref aid) → list_all (will_close s behind) (handles_after a (operation.OpenChannel ref aid) x epoch k.handles) ≡ true
      opened_closes ref epoch aid (answer.Opened number) there =
          all_added (will_close s behind) (without_handle a ref k.handles) (new_handle a ref number epoch)
          (others_stay (operation.OpenChannel ref aid) ref there (λ h same out. refl) held)
          (new_closes ref number epoch aid there)
      opened_closes ref epoch aid x there = all_stay (operation.OpenChannel ref aid) there (λ r. refl) held

      answered_closes : (epoch : ℕ) (op : Operation) (x : Answer) → operation_at s a i ≡ Some op → list_all (will_close s behind) (handles_after a op x epoch k.handles) ≡ true
      answered_closes epoch (operation.OpenChannel ref aid) x there = opened_closes ref epoch aid x there
      answered_closes epoch (operation.Close ref) x there = others_stay (operation.Close ref) ref there (λ h same out. unlike h.actor a ref h.handle same out) held
      answered_closes epoch op x there = all_stay op there (λ r. refl) held

      by_operation : (o : Option Operation) → operation_at s a i ≡ o → is_some o ≡ true → list_all (will_close s behind) (elim o [ None ↦ k.handles | Some op ↦ handles_after a op given k.history.epoch k.handles ]) ≡ true
      by_operation None e some = absurd (true≢false (sym some))
      by_operation (Some op) e some = answered_closes k.history.epoch op given e

      answer_closes : will_close_all s (kept_after s (line.Answered a i given) k) ≡ true
      answer_closes = by_operation (operation_at s a i) refl n.there

-- ---- a line

ended_closes : (s : Script) (jobs : List Job) (b : Bool) (event : ℕ) (h : Handle) → will_close s jobs h ≡ true → will_close s jobs (if b then record h { ended = Some event } else h) ≡ true
ended_closes s jobs true event h w = w
ended_closes s jobs false event h w = w

module _ (s : Script) (k : Kept) (held : will_close_all s k ≡ true) where
  other_remaining : (l : Line) → ((i : ℕ) → answers i l ≡ false) → (a : ℕ) → remaining s (kept_after s l k).jobs a ≡ remaining s k.jobs a
  other_remaining l other a = ap (λ (m : ℕ). drop m (operations_of s a)) (answered_stays s k l a (other a))

  other_each : (l : Line) → ((i : ℕ) → answers i l ≡ false) → (h : Handle) → will_close s k.jobs h ≡ true → will_close s (kept_after s l k).jobs h ≡ true
  other_each l other h w = subst (λ (ops : List Operation). closes_once h.handle ops ≡ true) (sym (other_remaining l other h.actor)) w

  other_closes : (b : Bool) (l : Line) (epoch event : ℕ) → ((i : ℕ) → answers i l ≡ false) → handles_given s l epoch k.handles ≡ k.handles → list_all (will_close s (kept_after s l k).jobs) (if b then ended_handles epoch event k.handles else handles_given s l epoch k.handles) ≡ true
  other_closes true l epoch event other same = all_mapped (will_close s k.jobs) (will_close s (kept_after s l k).jobs) (ended_handle epoch event) (λ h w. ended_closes s (kept_after s l k).jobs (h.epoch == epoch) event h (other_each l other h w)) k.handles held
  other_closes false l epoch event other same = subst (λ (hs : List Handle). list_all (will_close s (kept_after s l k).jobs) hs ≡ true) (sym same) (all_still (will_close s k.jobs) (will_close s (kept_after s l k).jobs) (other_each l other) k.handles held)

  step : keeps_rules s ≡ true → ((i : ℕ) → IsNext (job_of i k.jobs)) → ((i : ℕ) → IsSoundJob s k.history i (job_of i k.jobs)) → (l : Line) → is_followed s k l ≡ true → will_close_all s (kept_after s l k) ≡ true
  step rules next sound (line.Answered a i given) h = answer_closes s k a i given (next_answered s k a i given h (next a) (sound a)) rules held
  step rules next sound l h = other_closes (facts_of s l k).ends l k.history.epoch (facts_of s l k).event (λ i. refl) refl

-- ---- all lines

will_close_of : (s : Script) → keeps_rules s ≡ true → (lines : List Line) → are_followed s lines ≡ true → will_close_all s (kept_of s lines) ≡ true
will_close_of s rules [] h = refl
will_close_of s rules (l ∷ earlier) h =
    let q = and_parts (are_followed s earlier) (is_followed s (kept_of s earlier) l) h in
    step s (kept_of s earlier) (will_close_of s rules earlier q.0) rules (next_of s earlier q.0) (sound s earlier q.0) l q.1

pub free_of : (s : Script) → keeps_rules s ≡ true → has_utf8_names s ≡ true → (lines : List Line) → are_followed s lines ≡ true → (a i handle n : ℕ) (aid : List ℕ) → is_followed s (kept_of s lines) (line.Answered a i (answer.Opened n)) ≡ true → operation_at s a i ≡ Some (operation.OpenChannel handle aid) → handle_of a handle (kept_of s lines).handles ≡ None
free_of s rules served lines followed a i handle n aid h there =
    let k : Kept = kept_of s lines in
    free_step s k a i (next_answered s k a i (answer.Opened n) h (next_of s lines followed a) (sound s lines followed a)) handle aid there (will_close_of s rules lines followed)
