-- A command behind another.
use Rattle.std.proofs.Common.{◌≡◌, ℕ, List, [], ◌++◌, Option, Some, None, Result, Ok, Err, refl, sym, ap, ◌∙◌, Bool, false, if◌then◌else◌}
use Rattle.apdu.specs.Values.{CommandValue, ResponseValue}
use Rattle.card_model.specs.declared.trail.Step.{Step}
use Rattle.link.specs.declared.exchanges.LinkError.{LinkError}
use Rattle.link.specs.Exchanges.{added, exchanged}
use Rattle.link.proofs.Steps.{added-both, exchanged-behind}
use Rattle.channels.specs.Channels.{open_command, close_command, select_application}
use Rattle.channel_table.proofs.Worlds.{some_is}
use Rattle.channel_table.specs.Opening.{number_given, selected, is_fault, given_by, assigning, behind_refusal, behind_answer, behind_select, selecting, the_channel, behind_open, opened}
use Rattle.channel_table.specs.declared.error.OpenError.{OpenError}

assigning-behind : (held : List ℕ) (xs ys : List Step) (given : Result ℕ OpenError) → assigning held xs ≡ Some (given, []) → assigning held (xs ++ ys) ≡ Some (given, ys)
assigning-behind held xs ys given h = by_answer (exchanged open_command None xs) refl h
  where
    by_answer : (o : Option (Result ResponseValue LinkError × List Step)) → exchanged open_command None xs ≡ o → given_by held o ≡ Some (given, []) → assigning held (xs ++ ys) ≡ Some (given, ys)
    by_answer None e q = absurd (cc)
    by_answer (Some (a, rest)) e q =
        let pair : (number_given held a, rest) ≡ (given, []) = some_is (number_given held a, rest) (given, []) q in
        let none : rest ≡ [] = ap (λ (z : Result ℕ OpenError × List Step). z.1) pair in let is : number_given held a ≡ given = ap (λ (z : Result ℕ OpenError × List Step). z.0) pair in
        ap (given_by held) (exchanged-behind xs ys open_command None a (e ∙ ap (λ (z : List Step). Some (a, z)) none)) ∙ ap (λ (z : Result ℕ OpenError). Some (z, ys)) is

module _ (old middle new : List Step) (first : middle ≡ old ++ added old middle) (second : new ≡ middle ++ added middle new) where
  -- SELECT behind MANAGE CHANNEL
  pub open-sent : (epoch : ℕ) (held aid : List ℕ) (n : ℕ) (answer : Result (Unit {0}) OpenError) → assigning held (added old middle) ≡ Some (Ok n, []) → selecting n aid (added middle new) ≡ Some (answer, []) → opened epoch held aid (added old new) ≡ the_channel n epoch (Some (answer, []))
  open-sent epoch held aid n answer h k =
      ap (behind_open epoch aid) (ap (assigning held) (added-both old middle new first second) ∙ assigning-behind held (added old middle) (added middle new) (Ok n) h) ∙ ap (the_channel n epoch) k

  -- the close behind SELECT
  pub select-sent : (n : ℕ) (aid : List ℕ) (select : CommandValue) (answer : Result ResponseValue LinkError) (e result : OpenError) → select ≡ select_application n aid → exchanged select None (added old middle) ≡ Some (answer, []) → selected answer ≡ Err e → is_fault e ≡ false → behind_refusal e (exchanged (close_command n) None (added middle new)) ≡ Some (Err result, []) → selecting n aid (added old new) ≡ Some (Err result, [])
  select-sent n aid select answer e result is sent refused fault closed =
      let h : exchanged (select_application n aid) None (added old middle) ≡ Some (answer, []) = ap (λ (c : CommandValue). exchanged c None (added old middle)) (sym is) ∙ sent in
      ap (behind_select n) (ap (exchanged (select_application n aid) None) (added-both old middle new first second) ∙ exchanged-behind (added old middle) (added middle new) (select_application n aid) None answer h)
      ∙ ap (λ (r : Result (Unit {0}) OpenError). behind_answer n r (added middle new)) refused
      ∙ ap (λ (b : Bool). if b then Some (Err e, added middle new) else behind_refusal e (exchanged (close_command n) None (added middle new))) fault
      ∙ closed
