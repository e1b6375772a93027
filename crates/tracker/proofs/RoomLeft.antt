-- What a line does to every job leaves the room of each.
use Rattle.std.specs.List.{list_all}
use Rattle.std.specs.Prelude.{nat_lt}
use Rattle.std.proofs.Common.{ℕ, ◌+◌, ◌^◌, Bool, true, false, ◌&&◌, refl, ◌≡◌, List, [], ◌∷◌, map, Option, Some, None, if◌then◌else◌, option_map}
use Rattle.epoch_cache.specs.declared.cached.Touch.{Touch}
use Rattle.apdu.specs.Values.{CommandValue, ResponseValue}
use Rattle.apdu.specs.Apdu.{is_update_ins}
use Rattle.adn.specs.declared.edit.Edit.{Edit}
use Rattle.families.specs.Families.{family_path}
use Rattle.link.specs.declared.chain.Chain.{Chain}
use Rattle.link.specs.Commands.{is_at}
use Rattle.epoch_cache.specs.Cache.{moves_one, is_update}
use Rattle.editor.specs.declared.editing.Attempt.{Attempt}
use Rattle.editor.specs.declared.editing.Decided.{Decided}
use Rattle.editor.specs.declared.editing.Editing.{Editing}
use Rattle.editor.specs.Editing.{attempt_behind, moved_attempt, sent_update, decided_by, extended_by, updated_by}
use Rattle.report.specs.declared.line.Line.{Line}
use Rattle.rules.specs.declared.kept.Begun.{Begun}
use Rattle.rules.specs.declared.kept.Facts.{Facts}
use Rattle.rules.specs.declared.kept.Job.{Job}
use Rattle.rules.specs.After.{begun_beside, job_beside, jobs_beside, begun_exchanged, editing_answered, editing_sent}
use Rattle.tracker.specs.Room.{attempt_fits, begun_fits, attempt_has_room, begun_has_room, job_has_room, own_has_room, mailbox_has_room}
use Rattle.tracker.proofs.EachItem.{first_passes, rest_passes, both_pass}

moved_has_room : (moves : Bool) (d : Option Decided) (a : Attempt) → attempt_has_room (Some a) ≡ true → attempt_has_room (if moves then moved_attempt d a else Some a) ≡ true
moved_has_room true None a e = refl
moved_has_room true (Some x) a e = e
moved_has_room false d a e = e

attempt_has_it : (t : Touch) (d : Option Decided) (a : Option Attempt) → attempt_has_room a ≡ true → attempt_has_room (attempt_behind t d a) ≡ true
attempt_has_it t d None e = refl
attempt_has_it t d (Some a) e = moved_has_room (moves_one t a.paths) d a e

begun_has_it : (l : Line) (epoch : ℕ) (facts : Facts) (selected : Option (List ℕ)) (job : Job) (b : Option Begun) → begun_has_room b ≡ true → begun_has_room (job_beside l epoch facts selected (record job { begun = b })).begun ≡ true
begun_has_it l epoch facts selected job None e = refl
begun_has_it l epoch facts selected job (Some b) e = attempt_has_it facts.touch b.editing.decided b.editing.attempt e

job_has_it : (l : Line) (epoch : ℕ) (facts : Facts) (selected : Option (List ℕ)) (job : Job) → job_has_room job ≡ true → own_has_room (job_beside l epoch facts selected job) ≡ true
job_has_it l epoch facts selected job e = both_pass (nat_lt (job.answered + 1) (2 ^ 32)) _ (first_passes _ (mailbox_has_room job.mailbox) (first_passes _ (begun_has_room job.begun) e)) (begun_has_it l epoch facts selected job job.begun (rest_passes (nat_lt (job.answered + 1) (2 ^ 32) && mailbox_has_room job.mailbox) _ e))

pub jobs_have_it : (l : Line) (epoch : ℕ) (facts : Facts) (selected : Option (List ℕ)) (jobs : List Job) → list_all job_has_room jobs ≡ true → list_all own_has_room (jobs_beside l epoch facts selected jobs) ≡ true
jobs_have_it l epoch facts selected [] e = refl
jobs_have_it l epoch facts selected (job ∷ jobs) e = both_pass _ _ (job_has_it l epoch facts selected job (first_passes _ _ e)) (jobs_have_it l epoch facts selected jobs (rest_passes (job_has_room job) _ e))

-- ---- an exchange leaves the updates of an attempt

decided_fits : (at_main : Bool) (d : Option Decided) (event : ℕ) (c : CommandValue) (e : Editing) → attempt_fits e.attempt ≡ true → attempt_fits (if at_main then decided_by event c e else extended_by c d e).attempt ≡ true
decided_fits true d event c e fits = fits
decided_fits false None event c e fits = fits
decided_fits false (Some d) event c e fits = fits

updated_fits : (success : Bool) (f : ℕ) (selected : Option (List ℕ)) (event : ℕ) (c : CommandValue) (e : Editing) → attempt_fits e.attempt ≡ true → attempt_fits (if success then updated_by f selected event c e else e).attempt ≡ true
updated_fits true f selected event c e fits = decided_fits (is_at selected (family_path f 0)) e.decided event c e fits
updated_fits false f selected event c e fits = fits

answered_fits : (edit : Option (ℕ × Edit)) (selected : Option (List ℕ)) (event : ℕ) (c : CommandValue) (r : ResponseValue) (e : Editing) → attempt_fits e.attempt ≡ true → attempt_fits (editing_answered edit selected event c r e).attempt ≡ true
answered_fits None selected event c r e fits = fits
answered_fits (Some (f, ed)) selected event c r e fits = updated_fits (is_update c r) f selected event c e fits

one_sent_fits : (a : Option Attempt) → attempt_has_room a ≡ true → attempt_fits (option_map (λ (a : Attempt). record a { sent = a.sent + 1 }) a) ≡ true
one_sent_fits None e = refl
one_sent_fits (Some a) e = rest_passes (nat_lt (a.sent + 1) (2 ^ 64)) (attempt_fits (Some a)) e

room_fits : (a : Option Attempt) → attempt_has_room a ≡ true → attempt_fits a ≡ true
room_fits None e = refl
room_fits (Some a) e = rest_passes (nat_lt (a.sent + 1) (2 ^ 64)) (attempt_fits (Some a)) e

update_sent_fits : (update : Bool) (e : Editing) → attempt_has_room e.attempt ≡ true → attempt_fits (if update then sent_update e else e).attempt ≡ true
update_sent_fits true e room = one_sent_fits e.attempt room
update_sent_fits false e room = room_fits e.attempt room

sent_fits : (c : CommandValue) (chain : Option Chain) (e : Editing) → attempt_has_room e.attempt ≡ true → attempt_fits (editing_sent c chain e).attempt ≡ true
sent_fits c None e room = update_sent_fits (is_update_ins c.ins) e room
sent_fits c (Some chain) e room = room_fits e.attempt room

pub exchanged_fits : (edit : Option (ℕ × Edit)) (selected : Option (List ℕ)) (chain : Option Chain) (event : ℕ) (c : CommandValue) (r : ResponseValue) (b : Option Begun) → begun_has_room b ≡ true → begun_fits (option_map (begun_exchanged edit selected chain event c r) b) ≡ true
exchanged_fits edit selected chain event c r None room = refl
exchanged_fits edit selected chain event c r (Some b) room = answered_fits edit selected event c r (editing_sent c chain b.editing) (sent_fits c chain b.editing room)
