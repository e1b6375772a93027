-- What stands behind lines, the newest first.
use Rattle.std.specs.Prelude.{◌≡◌, ◌≤◌, ℕ, List, [], length, reverse, slice_get, IfSome}
use Rattle.script_reader.specs.declared.types.Script.{Script}
use Rattle.report.specs.declared.line.Line.{Line}
use Rattle.families.specs.Families.{records, phonebook, fixed}
use Rattle.rules.specs.declared.standing.Standing.{Standing}
use Rattle.rules.specs.After.{kept_of}
use Rattle.rules.specs.State.{world_of, boards_of, texts_of, text_of, shown_in}
use Rattle.rules.specs.Legal.{changed_in}
use Rattle.trace_check.specs.declared.behind.Behind.{Behind}
use Rattle.trace_check.specs.declared.displays.Display.{Display}
use Rattle.trace_check.specs.declared.displays.Displays.{Displays}

-- the text is that of the publication which the board shows
pub record TellsShown (count : ℕ) (texts : List (List ℕ)) (told : List ℕ) (n : ℕ) : Type 0 where
  pub past : n ≤ count
  pub text : text_of count n texts ≡ told

-- how a family stands, and what is told of it
pub record Tells (count : ℕ) (texts : List (List ℕ)) (f : ℕ) (told : List ℕ) (s : Standing) : Type 0 where
  pub family : s.family ≡ f
  pub shown : IfSome s.shown (TellsShown count texts told)

-- what the card shows of a family, when that last changed, and what the board shows
pub record IsDisplay (s : Script) (lines : List Line) (f : ℕ) (d : Display) : Type 0 where
  pub shown : d.shown ≡ shown_in (world_of s lines) f
  pub changed : d.changed ≡ changed_in s lines f
  pub told : IfSome (slice_get (kept_of s lines).standings f) (Tells (kept_of s lines).publications (texts_of lines) f d.told)

pub record AreDisplays (s : Script) (lines : List Line) (d : Displays) : Type 0 where
  pub records : IsDisplay s lines records d.records
  pub phonebook : IsDisplay s lines phonebook d.phonebook
  pub fixed : IsDisplay s lines fixed d.fixed

pub record IsBehind (s : Script) (lines : List Line) (b : Behind) : Type 0 where
  pub world : b.slot.world ≡ world_of s lines
  pub faults : b.slot.plan.faults ≡ []
  pub kept : b.tracker ≡ kept_of s lines
  pub boards : reverse b.boards ≡ boards_of s lines
  pub count : length b.boards ≡ (kept_of s lines).publications
  pub three : length (kept_of s lines).standings ≡ 3
  pub displays : AreDisplays s lines b.displays
