use Rattle.std.proofs.Common.{◌≡◌, false, Some, refl, ap, ◌∙◌}
use Rattle.apdu.specs.Values.{ResponseValue}
use Rattle.card_model.specs.declared.instruction.Instruction.{Instruction}
use Rattle.card_model.specs.declared.instruction.Instruction.TheVariants.{Select, GetResponse, UpdateBinary, UpdateRecord, Verify, ManageChannel, TerminalResponse}
use Rattle.card_model.specs.declared.world.CardState.{CardState}
use Rattle.card_model.specs.Step.{on_row}
use Rattle.card_rows.specs.Shapes.{shapes, is_fetch}
use Rattle.card_rows.proofs.Shapes.{row_shapes}
use Rattle.card_rows.proofs.card.on_row.Goals.{in-Select, in-GetResponse, in-Status, in-ReadBinary, in-UpdateBinary, in-ReadRecord, in-UpdateRecord, in-Verify, in-ManageChannel, in-TerminalProfile, in-TerminalResponse}
use Rattle.card_rows.proofs.card.on_row.Goals as goal

pub returns-clause-shapes : goal.returns-clause-shapes
returns-clause-shapes c =
    let same : (new : CardState) → c.match-row.card ≡ new → shapes c.match-row.card.files ≡ shapes new.files = λ new e. ap (λ (card : CardState). shapes card.files) e in
    let kept : (row : Instruction) → is_fetch row ≡ false → c.args.row ≡ row → (new : CardState) (response : ResponseValue) → (new, response) ≡ on_row c.args.changes.now c.args.card.now c.args.place c.args.channel.now c.args.command.now row → shapes new.files ≡ shapes c.args.card.now.files = λ row plain e new response value. row_shapes c.args.changes.now c.args.card.now new c.args.place c.args.channel.now c.args.command.now row response (c.requires.row ∙ ap (λ row. Some row) e) plain value in
    elim c.match-row.branch [
      | in-Select w ↦ same _ w.card-is ∙ kept Select refl w.in-Select.is _ _ w.select_row-response.ensures.value
      | in-GetResponse w ↦ same _ w.card-is ∙ kept GetResponse refl w.in-GetResponse.is _ _ w.get_response_row-response.ensures.value
      | in-Status w ↦ same _ w.card-is
      | in-ReadBinary w ↦ same _ w.card-is
      | in-UpdateBinary w ↦ same _ w.card-is ∙ kept UpdateBinary refl w.in-UpdateBinary.is _ _ w.update_binary_row-response.ensures.value
      | in-ReadRecord w ↦ same _ w.card-is
      | in-UpdateRecord w ↦ same _ w.card-is ∙ kept UpdateRecord refl w.in-UpdateRecord.is _ _ w.update_record_row-response.ensures.value
      | in-Verify w ↦ same _ w.card-is ∙ kept Verify refl w.in-Verify.is _ _ w.verify_row-response.ensures.value
      | in-ManageChannel w ↦ same _ w.card-is ∙ kept ManageChannel refl w.in-ManageChannel.is _ _ w.manage_channel_row-response.ensures.value
      | in-TerminalProfile w ↦ same _ w.card-is
      | in-TerminalResponse w ↦ same _ w.card-is ∙ kept TerminalResponse refl w.in-TerminalResponse.is _ _ w.terminal_response_row-response.ensures.value
    ]
