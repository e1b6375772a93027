-- The file that was taken is the first of those that were left, and goes behind those that were read.
use Rattle.std.proofs.Common.{◌≡◌, List, ◌∷◌, sym, ap, ◌∙◌, rules}
use Rattle.std.specs.Vec.Iter.{into_iter_items}
use Rattle.script_reader.specs.declared.types.FileSpec.{FileSpec}
use Rattle.script_reader.specs.Files.{with_path}
use Rattle.script_reader.specs.Reading.{all_of}
use Rattle.script_reader.proofs.Lists.{onto, onto_more}
use Rattle.script_reader.proofs.files.with_paths.Goals as goal

pub loop-file-preserved : goal.loop-file-preserved
loop-file-preserved c =
    let taken : into_iter_items c.loop-file.file-iterator ≡ c.in-Some.file ∷ into_iter_items c.next.new.self = search rules in (
      tt,
      tt,
      ap (λ (out : List FileSpec). onto out (all_of with_path (into_iter_items c.next.new.self))) c.in_ok-push.ensures.ok
          ∙ sym (onto_more with_path c.loop-file.out c.in-Some.file (into_iter_items c.next.new.self) _ c.in_ok-with_path.ensures)
          ∙ ap (λ (files : List FileSpec). onto c.loop-file.out (all_of with_path files)) (sym taken)
          ∙ c.loop-file.invariant.2,
    )
