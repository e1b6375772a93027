-- A command is due only while an epoch lives, and then there is a card in the slot.
use Rattle.std.proofs.Common.{◌≡◌, true, List, Option, Some, None, is_some, IfSome, sym, ap, ◌∙◌}
use Rattle.apdu.specs.Values.{CommandValue}
use Rattle.card_model.specs.declared.world.World.{World}
use Rattle.card_model.specs.Step.{card_inside}
use Rattle.script_reader.specs.declared.types.Script.{Script}
use Rattle.report.specs.declared.line.Line.{Line}
use Rattle.rules.specs.declared.due.Due.TheVariants.{Send as send}
use Rattle.rules.specs.After.{kept_of}
use Rattle.rules.specs.Due.{due}
use Rattle.rules.specs.State.{world_of}
use Rattle.performed.specs.Followed.{are_followed}
use Rattle.performed.specs.Told.{are_told}
use Rattle.performed.proofs.EpochLives.{due_lives, lively}
use Rattle.hub.specs.Parts.{Parts}
use Rattle.hub.specs.Settled.{IsTied, IsWorldOf}
use Rattle.hub.proofs.Inside.{inside_while}

-- a command that is due is sent to a card
sends_inside : (s : Script) (lines : List Line) (c : CommandValue) → are_followed s lines ≡ true → are_told s lines ≡ true → due s (kept_of s lines) ≡ send c → is_some (card_inside (world_of s lines)) ≡ true
sends_inside s lines c f t h = inside_while s lines t (due_lives s (kept_of s lines) c (lively s lines f) h)

world_has : (s : Script) (lines : List Line) (c : CommandValue) (w : Option World) → are_followed s lines ≡ true → due s (kept_of s lines) ≡ send c → IfSome w (IsWorldOf s lines) → IfSome w (λ x. is_some (card_inside x) ≡ true)
world_has s lines c None f h t = tt
world_has s lines c (Some x) f h t = ap (λ (y : World). is_some (card_inside y)) t.world ∙ sends_inside s lines c f t.told h

pub world_inside : (p : Parts) (c : CommandValue) → IsTied p → due p.script p.kept ≡ send c → IfSome p.world (λ x. is_some (card_inside x) ≡ true)
world_inside p c t h = world_has p.script p.lines.lines c p.world t.lines.followed (ap (due p.script) (sym t.kept) ∙ h) t.lines.world
