-- What is read keeps the rules: operations.
use Rattle.std.proofs.Common.{◌≡◌, ◌+◌, ℕ, Bool, true, ◌&&◌, List, [], ◌∷◌, ◌++◌, length, Result, Ok, Err, refl, subst, arith}
use Rattle.std.specs.Prelude.{nat_lt, nat_le, codes}
use Rattle.std.specs.List.{list_all}
use Rattle.std.proofs.lemmas.Bool.{and_parts, leb-true, ltb-true, le-leb}
use Rattle.std.proofs.lemmas.List.{length-append}
use Rattle.apdu.specs.Words.{◌>>=◌, same_bytes, is_between, is_one_of}
use Rattle.apdu.specs.Values.{CommandValue}
use Rattle.apdu.specs.Apdu.{read_command}
use Rattle.apdu.specs.declared.command.ApduError.{ApduError}
use Rattle.serde_json.specs.Data.{Data}
use Rattle.script_reader.specs.declared.error.Why.{Why}
use Rattle.script_reader.specs.declared.error.Why.TheVariants as why
use Rattle.script_reader.specs.declared.types.Operation.{Operation}
use Rattle.script_reader.specs.declared.types.Operation.TheVariants as operation
use Rattle.script_reader.specs.Reading.{rule}
use Rattle.script_reader.specs.Fields.{text, whole_to, hex, hex_of, first_byte, list, field, optional, only}
use Rattle.script_reader.specs.Pairing.{are_paired}
use Rattle.script_reader.specs.Operations.{is_family, family_named, family, of_raw_class, raw_command, insert, arm, load, set_entry, clear, is_handle, handle, open_channel, raw, close, verify, end_session, alone, watch, channel_operation, operation_named, operation_form, has_form, is_operation_within, has_target, operation_count, is_actor_within, actor_item, is_actor}
use Rattle.script_reader.proofs.Kept.{both, bind_gives, bind_then, rule_then, ok_if, chosen, Passes, list_passes, field_passes, appended}

-- ---- values

family_passes : Passes family is_family
family_passes d files h =
    bind_gives (field text (codes "family") d) _ files (is_family files ≡ true) h (λ name of_name e. named name files e)
  where
    IsFamily : ℕ → Type 0
    IsFamily f = is_family f ≡ true

    named : (name : List ℕ) (f : ℕ) → family_named name ≡ Ok f → IsFamily f
    named name f h =
        chosen (same_bytes name (codes "records")) (Ok 0) _ f (IsFamily f) h (λ e. let same : 0 ≡ f = cc in subst IsFamily same refl) (λ h1.
        chosen (same_bytes name (codes "phonebook")) (Ok 1) _ f (IsFamily f) h1 (λ e. let same : 1 ≡ f = cc in subst IsFamily same refl) (λ h2.
        chosen (same_bytes name (codes "fixed")) (Ok 2) (Err why.Form) f (IsFamily f) h2 (λ e. let same : 2 ≡ f = cc in subst IsFamily same refl) (λ h3. absurd (cc))))

handle_passes : Passes handle is_handle
handle_passes d ref h =
    bind_gives (field (whole_to 255) (codes "ref") d) _ ref (is_handle ref ≡ true) h (λ n of_n e.
    let few = rule_then why.Form (is_handle n) (Ok n) ref e in
    let same : n ≡ ref = cc in
    subst (λ (r : ℕ). is_handle r ≡ true) same few.0)

abbrev is_raw_class : CommandValue → Bool
is_raw_class c = is_one_of c.class (0x00 ∷ 0x80 ∷ [])

class_passes : (r : Result CommandValue ApduError) (c : CommandValue) → of_raw_class r ≡ Ok c → is_raw_class c ≡ true
class_passes (Err error) c h = absurd (cc)
class_passes (Ok k) c h = let found = ok_if (is_raw_class k) k c why.Form h in subst (λ (x : CommandValue). is_raw_class x ≡ true) found.1 found.0

command_passes : Passes raw_command is_raw_class
command_passes d c h = bind_gives (hex d) _ c (is_raw_class c ≡ true) h (λ bytes of_bytes e. class_passes (read_command bytes) c e)

-- ---- each operation

abbrev IsFormed : Operation → Type 0
IsFormed op = has_form op ≡ true

insert_formed : (d : Data) (op : Operation) → insert d ≡ Ok op → IsFormed op
insert_formed d op h =
    bind_gives (only (codes "card" ∷ codes "op" ∷ []) d) _ op (IsFormed op) h (λ known of_known e.
    bind_gives (field (whole_to 255) (codes "card") d) _ op (IsFormed op) e (λ n of_n e1.
    let same : operation.Insert n ≡ op = cc in
    subst IsFormed same refl))

arm_formed : (d : Data) (op : Operation) → arm d ≡ Ok op → IsFormed op
arm_formed d op h =
    bind_gives (only (codes "change" ∷ codes "op" ∷ []) d) _ op (IsFormed op) h (λ known of_known e.
    bind_gives (field (whole_to 255) (codes "change") d) _ op (IsFormed op) e (λ n of_n e1.
    let same : operation.Arm n ≡ op = cc in
    subst IsFormed same refl))

watch_formed : (d : Data) (op : Operation) → watch d ≡ Ok op → IsFormed op
watch_formed d op h =
    bind_gives (only (codes "mask" ∷ codes "op" ∷ []) d) _ op (IsFormed op) h (λ known of_known e.
    bind_gives (field (whole_to 255) (codes "mask") d) _ op (IsFormed op) e (λ n of_n e1.
    let same : operation.Watch n ≡ op = cc in
    subst IsFormed same refl))

load_formed : (d : Data) (op : Operation) → load d ≡ Ok op → IsFormed op
load_formed d op h =
    bind_gives (only (codes "family" ∷ codes "op" ∷ []) d) _ op (IsFormed op) h (λ known of_known e.
    bind_gives (family d) _ op (IsFormed op) e (λ files of_files e1.
    let same : operation.Load files ≡ op = cc in
    subst IsFormed same (family_passes d files of_files)))

set_formed : (d : Data) (op : Operation) → set_entry d ≡ Ok op → IsFormed op
set_formed d op h =
    bind_gives (only (codes "at" ∷ codes "family" ∷ codes "name" ∷ codes "number" ∷ codes "op" ∷ []) d) _ op (IsFormed op) h (λ known of_known e.
    bind_gives (family d) _ op (IsFormed op) e (λ files of_files e1.
    bind_gives (optional (whole_to 255) (codes "at") d) _ op (IsFormed op) e1 (λ row of_row e2.
    bind_gives (field text (codes "name") d) _ op (IsFormed op) e2 (λ name of_name e3.
    bind_gives (field text (codes "number") d) _ op (IsFormed op) e3 (λ digits of_digits e4.
    let same : operation.Set files row name digits ≡ op = cc in
    subst IsFormed same (family_passes d files of_files))))))

clear_formed : (d : Data) (op : Operation) → clear d ≡ Ok op → IsFormed op
clear_formed d op h =
    bind_gives (only (codes "at" ∷ codes "family" ∷ codes "op" ∷ []) d) _ op (IsFormed op) h (λ known of_known e.
    bind_gives (family d) _ op (IsFormed op) e (λ files of_files e1.
    bind_gives (field (whole_to 255) (codes "at") d) _ op (IsFormed op) e1 (λ row of_row e2.
    let same : operation.Clear files row ≡ op = cc in
    subst IsFormed same (family_passes d files of_files))))

open_formed : (d : Data) (op : Operation) → open_channel d ≡ Ok op → IsFormed op
open_formed d op h =
    bind_gives (only (codes "aid" ∷ codes "op" ∷ codes "ref" ∷ []) d) _ op (IsFormed op) h (λ known of_known e.
    bind_gives (handle d) _ op (IsFormed op) e (λ ref of_ref e1.
    bind_gives (field hex (codes "aid") d) _ op (IsFormed op) e1 (λ aid of_aid e2.
    let size = rule_then why.Form (is_between 5 16 (length aid)) (Ok (operation.OpenChannel ref aid)) op e2 in
    let same : operation.OpenChannel ref aid ≡ op = cc in
    subst IsFormed same (both (is_handle ref) (is_between 5 16 (length aid)) (handle_passes d ref of_ref) size.0))))

raw_formed : (d : Data) (op : Operation) → raw d ≡ Ok op → IsFormed op
raw_formed d op h =
    bind_gives (only (codes "apdu" ∷ codes "op" ∷ codes "ref" ∷ []) d) _ op (IsFormed op) h (λ known of_known e.
    bind_gives (handle d) _ op (IsFormed op) e (λ ref of_ref e1.
    bind_gives (field raw_command (codes "apdu") d) _ op (IsFormed op) e1 (λ c of_c e2.
    let same : operation.Raw ref c ≡ op = cc in
    subst IsFormed same (both (is_handle ref) (is_raw_class c) (handle_passes d ref of_ref) (field_passes raw_command is_raw_class (codes "apdu") command_passes d c of_c)))))

close_formed : (d : Data) (op : Operation) → close d ≡ Ok op → IsFormed op
close_formed d op h =
    bind_gives (only (codes "op" ∷ codes "ref" ∷ []) d) _ op (IsFormed op) h (λ known of_known e.
    bind_gives (handle d) _ op (IsFormed op) e (λ ref of_ref e1.
    let same : operation.Close ref ≡ op = cc in
    subst IsFormed same (handle_passes d ref of_ref)))

verify_formed : (d : Data) (op : Operation) → verify d ≡ Ok op → IsFormed op
verify_formed d op h =
    bind_gives (only (codes "key" ∷ codes "op" ∷ codes "pin" ∷ []) d) _ op (IsFormed op) h (λ known of_known e.
    bind_gives (field (hex_of 1) (codes "key") d) _ op (IsFormed op) e (λ key of_key e1.
    bind_gives (field (hex_of 8) (codes "pin") d) _ op (IsFormed op) e1 (λ pin of_pin e2.
    let same : operation.Verify (first_byte key) pin ≡ op = cc in
    subst IsFormed same refl)))

end_formed : (d : Data) (op : Operation) → end_session d ≡ Ok op → IsFormed op
end_formed d op h =
    bind_gives (only (codes "key" ∷ codes "op" ∷ []) d) _ op (IsFormed op) h (λ known of_known e.
    bind_gives (field (hex_of 1) (codes "key") d) _ op (IsFormed op) e (λ key of_key e1.
    let same : operation.End (first_byte key) ≡ op = cc in
    subst IsFormed same refl))

alone_formed : (one op : Operation) (d : Data) → IsFormed one → alone one d ≡ Ok op → IsFormed op
alone_formed one op d formed h =
    bind_gives (only (codes "op" ∷ []) d) _ op (IsFormed op) h (λ known of_known e.
    let same : one ≡ op = cc in
    subst IsFormed same formed)

-- ---- and an operation that was read is one of these

channel_formed : (name : List ℕ) (d : Data) (op : Operation) → channel_operation name d ≡ Ok op → IsFormed op
channel_formed name d op h =
    chosen (same_bytes name (codes "open")) _ _ op (IsFormed op) h (open_formed d op) (λ h1.
    chosen (same_bytes name (codes "raw")) _ _ op (IsFormed op) h1 (raw_formed d op) (λ h2.
    chosen (same_bytes name (codes "close")) _ _ op (IsFormed op) h2 (close_formed d op) (λ h3.
    chosen (same_bytes name (codes "verify")) _ _ op (IsFormed op) h3 (verify_formed d op) (λ h4.
    chosen (same_bytes name (codes "end")) _ _ op (IsFormed op) h4 (end_formed d op) (λ h5.
    chosen (same_bytes name (codes "poll")) _ _ op (IsFormed op) h5 (alone_formed operation.Poll op d refl) (λ h6.
    chosen (same_bytes name (codes "look")) _ _ op (IsFormed op) h6 (alone_formed operation.Look op d refl) (λ h7.
    chosen (same_bytes name (codes "watch")) _ _ op (IsFormed op) h7 (watch_formed d op) (λ h8.
    chosen (same_bytes name (codes "notices")) _ _ op (IsFormed op) h8 (alone_formed operation.Notices op d refl) (λ h9. absurd (cc))))))))))

named_formed : (name : List ℕ) (d : Data) (op : Operation) → operation_named name d ≡ Ok op → IsFormed op
named_formed name d op h =
    chosen (same_bytes name (codes "in")) _ _ op (IsFormed op) h (insert_formed d op) (λ h1.
    chosen (same_bytes name (codes "out")) _ _ op (IsFormed op) h1 (alone_formed operation.Out op d refl) (λ h2.
    chosen (same_bytes name (codes "arm")) _ _ op (IsFormed op) h2 (arm_formed d op) (λ h3.
    chosen (same_bytes name (codes "load")) _ _ op (IsFormed op) h3 (load_formed d op) (λ h4.
    chosen (same_bytes name (codes "set")) _ _ op (IsFormed op) h4 (set_formed d op) (λ h5.
    chosen (same_bytes name (codes "clear")) _ _ op (IsFormed op) h5 (clear_formed d op) (λ h6. channel_formed name d op h6))))))

operation_passes : Passes operation_form has_form
unfolding operation_form
operation_passes d op h = bind_gives (field text (codes "op") d) _ op (IsFormed op) h (λ name of_name e. named_formed name d op e)

-- ---- actors

pub count_appended : (before after : List (List Operation)) → operation_count (before ++ after) ≡ operation_count before + operation_count after
count_appended [] after = omega arith
count_appended (operations ∷ before) after = let rest = count_appended before after in omega (arith, rest)

-- at most eight actors with at most 1,000 operations in all
pub record AreActors (cards changes : ℕ) (actors : List (List Operation)) : Type 0 where
  pub few : nat_le (length actors) 8 ≡ true
  pub operations : nat_le (operation_count actors) 1000 ≡ true
  pub each : list_all (is_actor cards changes) actors ≡ true

abbrev checked_actor : ℕ → ℕ → List (List Operation) → List Operation → Result (List Operation) Why
checked_actor cards changes before operations =
    rule why.Limit (is_actor_within before operations) >>= λ (u : Unit {0}). rule why.Target (list_all (has_target cards changes) operations) >>= λ (v : Unit {0}). rule why.Pairing (are_paired operations) >>= λ (w : Unit {0}). Ok operations

pub actor_added : (cards changes : ℕ) (before : List (List Operation)) (d : Data) (operations : List Operation) → actor_item cards changes before d ≡ Ok operations → AreActors cards changes before → AreActors cards changes (before ++ operations ∷ [])
unfolding actor_item
actor_added cards changes before d operations h actors =
    let form = bind_then (list operation_form d) (checked_actor cards changes before) operations h in
    let limit = rule_then why.Limit (is_actor_within before form.0) _ operations form.1.1 in
    let targets = rule_then why.Target (list_all (has_target cards changes) form.0) _ operations limit.1 in
    let pairs = rule_then why.Pairing (are_paired form.0) (Ok form.0) operations targets.1 in
    let same : form.0 ≡ operations = cc in
    let formed = list_passes operation_form has_form operation_passes d form.0 form.1.0 in
    let few = nat_lt (length before) 8 in
    let count = nat_le (length form.0 + operation_count before) 1000 in
    let each = list_all is_operation_within form.0 in
    let within = and_parts (few && count) each limit.0 in
    let numbers = and_parts few count within.0 in
    let room = ltb-true (length before) 8 numbers.0 in
    let longer = length-append before (form.0 ∷ []) in
    let total = leb-true (length form.0 + operation_count before) 1000 numbers.1 in
    let sum = count_appended before (form.0 ∷ []) in
    let targeted = list_all (has_target cards changes) form.0 in
    let formed_within = both (list_all has_form form.0) each formed within.1 in
    let actor : is_actor cards changes form.0 ≡ true =
    both (list_all has_form form.0 && each && targeted) (are_paired form.0) (both (list_all has_form form.0 && each) targeted formed_within targets.0) pairs.0 in
    subst (λ (ops : List Operation). AreActors cards changes (before ++ ops ∷ [])) same (record {
      few = le-leb (length (before ++ form.0 ∷ [])) 8 (omega (arith, room, longer));
      operations = le-leb (operation_count (before ++ form.0 ∷ [])) 1000 (omega (arith, total, sum));
      each = appended (is_actor cards changes) before form.0 actors.each actor;
    })
