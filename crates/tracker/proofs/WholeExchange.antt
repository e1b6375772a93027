-- The parts of an exchange make the whole.
use Rattle.std.proofs.Common.{ℕ, refl, ◌≡◌, Option, option_map}
use Rattle.apdu.specs.Values.{CommandValue, ResponseValue}
use Rattle.script_reader.specs.declared.types.Script.{Script}
use Rattle.script_reader.specs.declared.types.Operation.{Operation}
use Rattle.report.specs.declared.line.Line.{Line}
use Rattle.report.specs.declared.line.Line.TheVariants as line
use Rattle.epoch_cache.specs.declared.cached.CachedFile.{CachedFile}
use Rattle.loader.specs.declared.reading.RefusedReading.{RefusedReading}
use Rattle.loader.specs.Load.{readings_exchanged}
use Rattle.rules.specs.declared.kept.Facts.{Facts}
use Rattle.rules.specs.declared.kept.Job.{Job}
use Rattle.rules.specs.declared.kept.Kept.{Kept}
use Rattle.rules.specs.Cache.{files_behind}
use Rattle.rules.specs.Channels.{held_numbers}
use Rattle.rules.specs.Kept.{change_at, job_of, operation_now}
use Rattle.rules.specs.After.{facts_of, jobs_beside, completed_of, refused_of, is_started, begun_exchanged, edit_of, turn_exchanged, kept_after}
use Rattle.tracker.specs.Fields.{fields_behind}

abbrev pub with_jobs_beside : Line → Facts → Kept → Kept
with_jobs_beside l facts k = record k { jobs = jobs_beside l k.history.epoch facts k.selected k.jobs }

abbrev pub with_own : ℕ → CommandValue → ResponseValue → Option Operation → Facts → Kept → Kept
with_own a c r op facts k = record k {
  jobs = change_at a (λ (job : Job). record job {
    begun = option_map (begun_exchanged (edit_of op) k.selected k.chain facts.event c r) job.begun;
    readings = readings_exchanged k.selected facts.answered job.readings;
  }) k.jobs;
}

abbrev pub with_turn : ℕ → Option Operation → Facts → Option RefusedReading → Kept → Kept
with_turn a op facts refused k = record k { turn = turn_exchanged op (job_of a k.jobs) (held_numbers k.history k.handles) facts refused k.turn }

abbrev pub with_files : Line → Facts → Option CachedFile → Kept → Kept
with_files l facts completed k = record k { files = files_behind l facts.touch k.selected completed k.files }

whole : (s : Script) (a : ℕ) (c : CommandValue) (r : ResponseValue) (k : Kept) →
    fields_behind s (line.Exchange a c r) (facts_of s (line.Exchange a c r) k)
    (refused_of k.selected (with_jobs_beside (line.Exchange a c r) (facts_of s (line.Exchange a c r) k) k).jobs (facts_of s (line.Exchange a c r) k).answered)
    (with_files (line.Exchange a c r) (facts_of s (line.Exchange a c r) k)
    (completed_of (is_started k.startup) k.selected (with_jobs_beside (line.Exchange a c r) (facts_of s (line.Exchange a c r) k) k).jobs (facts_of s (line.Exchange a c r) k).answered)
    (with_turn a (operation_now s a k.jobs) (facts_of s (line.Exchange a c r) k)
    (refused_of k.selected (with_jobs_beside (line.Exchange a c r) (facts_of s (line.Exchange a c r) k) k).jobs (facts_of s (line.Exchange a c r) k).answered)
    (with_own a c r (operation_now s a k.jobs) (facts_of s (line.Exchange a c r) k)
    (with_jobs_beside (line.Exchange a c r) (facts_of s (line.Exchange a c r) k) k))))
    ≡ kept_after s (line.Exchange a c r) k
whole s a c r k = refl

pub whole_exchange : (s : Script) (l : Line) (a : ℕ) (c : CommandValue) (r : ResponseValue) (k k1 k2 k3 k4 : Kept) (op : Option Operation) (facts : Facts) (refused : Option RefusedReading) (completed : Option CachedFile) →
    l ≡ line.Exchange a c r →
    facts ≡ facts_of s l k →
    op ≡ operation_now s a k.jobs →
    k1 ≡ with_jobs_beside l facts k →
    refused ≡ refused_of k1.selected k1.jobs facts.answered →
    completed ≡ completed_of (is_started k1.startup) k1.selected k1.jobs facts.answered →
    k2 ≡ with_own a c r op facts k1 →
    k3 ≡ with_turn a op facts refused k2 →
    k4 ≡ with_files l facts completed k3 →
    fields_behind s l facts refused k4 ≡ kept_after s (line.Exchange a c r) k
whole_exchange s l a c r k k1 k2 k3 k4 op facts refused completed e-line e-facts e-op e1 e-refused e-completed e2 e3 e4 =
    rw e4 (rw e3 (rw e2 (rw e-completed (rw e-refused (rw e1 (rw e-op (rw e-facts (rw e-line (whole s a c r k)))))))))
