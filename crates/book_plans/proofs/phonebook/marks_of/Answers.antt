use Rattle.std.proofs.Common.{refl, true, false, get_or, ◌∙◌, ap}
use Rattle.std.proofs.lemmas.List.{get_or-replicate}
use Rattle.book_plans.proofs.Names.{marked_more}
use Rattle.book_plans.proofs.phonebook.marks_of.Goals as goal

pub loop-name-init : goal.loop-name-init
loop-name-init c = record { room = refl; marks = λ n small. get_or-replicate 256 n false true small }

pub loop-name-preserved : goal.loop-name-preserved
loop-name-preserved c = record {
  room = c.mark.array_long;
  marks = λ n small.
      ap (λ marks. get_or marks n true) c.mark.ensures
      ∙ marked_more c.args.names.now c.loop-name.named c.loop-name.name-index c.loop-name.invariant.room c.loop-name-test.true c.loop-name.invariant.marks n small;
}
