-- A turn as it begins.
use Rattle.std.specs.Prelude.{ℕ, Bool, true, false, Option, Some, None}
use Rattle.rules.specs.declared.kept.Stage.TheVariants.{Fresh as fresh}
use Rattle.rules.specs.declared.kept.Turn.{Turn}
use Rattle.rules.specs.declared.kept.Work.{Work}

abbrev pub turn_marked : ℕ → Bool → Option ℕ → Work → Turn
turn_marked actor idle family work = record {
  actor = Some actor;
  bare = true;
  idle = idle;
  work = work;
  family = family;
  stage = fresh;
  opened = None;
  outcome = None;
  happened = false;
  updated = false;
  published = None;
  ended = None;
  refused = None;
}
