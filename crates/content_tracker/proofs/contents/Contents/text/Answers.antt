use Rattle.std.proofs.Common.{arith}
use Rattle.content_tracker.proofs.Views.{text_at}
use Rattle.content_tracker.proofs.contents.Contents.text.Goals as goal

pub returns-then-family-eq-PHONEBOOK-clause-text : goal.returns-then-family-eq-PHONEBOOK-clause-text
returns-then-family-eq-PHONEBOOK-clause-text c =
    text_at 1 c.args.family c.args.files.now c.text_of-then-family-eq-PHONEBOOK.result (omega arith) c.text_of-then-family-eq-PHONEBOOK.ensures.text

pub returns-else-family-eq-PHONEBOOK-clause-text : goal.returns-else-family-eq-PHONEBOOK-clause-text
returns-else-family-eq-PHONEBOOK-clause-text c =
    text_at 2 c.args.family c.args.files.now c.text_of-else-family-eq-PHONEBOOK.result (omega arith) c.text_of-else-family-eq-PHONEBOOK.ensures.text
