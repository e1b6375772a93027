use Rattle.std.proofs.Common.{◌≡◌, drop}
use Rattle.serde_json.specs.View.{items_view, members_view}
use Rattle.report_reader.specs.Content as spec
use Rattle.report_reader.proofs.content.+is_whole.Given as goal

-- the values so far are whole
abbrev pub invariant-are_items_whole-loop-item : goal.invariant-are_items_whole-loop-item
invariant-are_items_whole-loop-item l = spec.are_items_whole (items_view l.items.items) ≡ spec.are_items_whole (items_view (drop l.item-index l.items.items))

abbrev pub invariant-are_members_whole-loop-member : goal.invariant-are_members_whole-loop-member
invariant-are_members_whole-loop-member l = spec.are_members_whole (members_view l.members.entries) ≡ spec.are_members_whole (members_view l.member-iterator)
