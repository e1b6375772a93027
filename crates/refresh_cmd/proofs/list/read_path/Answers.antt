use Rattle.std.proofs.Common.{◌∙◌, ap, sym, arith, List, ℕ}
use Rattle.refresh_cmd.specs.Lists.{cut_bytes, within}
use Rattle.refresh_cmd.proofs.Cuts.{within-more, within-long, within-master, within-last, onto-empty, when_full, no_ids}
use Rattle.refresh_cmd.proofs.list.read_path.Goals as goal
use Rattle.refresh_cmd.proofs.list.read_path.Goals.{in-Some+then-id-eq-MASTER_FILE, in_default}

pub returns-then-is_full-clause-none : goal.returns-then-is_full-clause-none
returns-then-is_full-clause-none c = λ paths.
    c.ids.invariant.cut paths
    ∙ (ap (within paths c.ids.ids.items) c.in-Some.ensures.some
    ∙ within-long c.in-Some.id paths c.ids.ids.items (cut_bytes c.in-Some.behind.now) (when_full _ 3 c.if-is_full.ensures.value) c.if-id-eq-MASTER_FILE.false)

pub ids-preserved : goal.ids-preserved
ids-preserved c = record {
  cut = λ paths.
      c.ids.invariant.cut paths
      ∙ (ap (within paths c.ids.ids.items) c.in-Some.ensures.some
      ∙ (within-more c.in-Some.id paths c.ids.ids.items (cut_bytes c.in-Some.behind.now) c.if-id-eq-MASTER_FILE.false
      ∙ ap (λ (ids : List ℕ). within paths ids (cut_bytes c.in-Some.behind.now)) (sym c.push.ensures.items)));
  shorter = omega (arith, c.in-Some.ensures.shorter, c.ids.invariant.shorter);
}

pub returns-in_err-from_ids-clause-none : goal.returns-in_err-from_ids-clause-none
returns-in_err-from_ids-clause-none c = rw c.from_residual-in_err-from_ids.ensures (λ paths.
    c.ids.invariant.cut paths
    ∙ (elim c.match-split_id.branch [
      | in-Some+then-id-eq-MASTER_FILE w ↦ within-master w.in-Some.id c.ids.rest.now (cut_bytes w.in-Some.behind.now) w.in-Some.ensures.some w.if-id-eq-MASTER_FILE.true paths c.ids.ids.items
      | in_default w ↦ within-last paths c.ids.ids.items c.ids.rest.now w.in_default.ensures.none
    ] ∙ onto-empty paths c.ids.ids.items (cut_bytes c.ids.rest.now) (rw (← c.as_slice.ensures.value) (no_ids c.as_slice.result.now c.as_slice.ensures.fits c.in_err-from_ids.ensures))))
