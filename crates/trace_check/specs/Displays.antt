-- What the card shows of each family, kept along the lines: it takes the place of looking back for the last change and for the texts of
-- publications.
use Rattle.std.specs.Prelude.{◌≡◌, ℕ, ◌==◌, ◌&&◌, ◌||◌, not, Bool, true, false, max, nat_lt, if◌then◌else◌, List, [], ◌∷◌, Option, Some, None}
use Rattle.apdu.specs.Words.{has_value}
use Rattle.apdu.specs.Apdu.{is_update_ins, fetch_ins}
use Rattle.card_model.specs.declared.world.World.{World}
use Rattle.families.specs.Families.{records as family_of_records, phonebook as family_of_phonebook, fixed as family_of_fixed}
use Rattle.report.specs.declared.line.Line.{Line}
use Rattle.report.specs.declared.line.Line.TheVariants as line
use Rattle.rules.specs.declared.kept.Kept.{Kept}
use Rattle.rules.specs.declared.standing.Standing.{Standing}
use Rattle.rules.specs.Work.{is_quiet}
use Rattle.rules.specs.State.{shown_in, same_shown}
use Rattle.trace_check.specs.declared.displays.Display.{Display}
use Rattle.trace_check.specs.declared.displays.Displays.{Displays}

abbrev pub first_display : World → ℕ → Display
first_display world f = record { shown = shown_in world f; changed = 0; told = [] }

abbrev pub first_displays : World → Displays
first_displays world = record {
  records = first_display world family_of_records;
  phonebook = first_display world family_of_phonebook;
  fixed = first_display world family_of_fixed;
}

-- ---- behind an event, which left this world

abbrev pub refreshed : ℕ → ℕ → World → Display → Display
refreshed f event world d = record d {
  shown = shown_in world f;
  changed = if same_shown d.shown (shown_in world f) then d.changed else event;
}

abbrev pub all_changed : (ℕ → Display → Display) → Displays → Displays
all_changed step d = record {
  records = step family_of_records d.records;
  phonebook = step family_of_phonebook d.phonebook;
  fixed = step family_of_fixed d.fixed;
}

abbrev pub all_refreshed : ℕ → World → Displays → Displays
all_refreshed event world d = all_changed (λ f. refreshed f event world) d

-- an exchange, done or failed, of a command that writes no file: no UPDATE, and no FETCH, which hands a change over
abbrev pub writes_nothing : Line → Bool
writes_nothing (line.Exchange a c r) = not (is_update_ins c.ins || (c.ins == fetch_ins))
writes_nothing (line.Failed a c d) = not (is_update_ins c.ins || (c.ins == fetch_ins))
writes_nothing l = false

-- they are what the card in the slot shows
pub record AreShown (world : World) (d : Displays) : Type 0 where
  pub records : d.records.shown ≡ shown_in world family_of_records
  pub phonebook : d.phonebook.shown ≡ shown_in world family_of_phonebook
  pub fixed : d.fixed.shown ≡ shown_in world family_of_fixed

-- ---- behind a publication

abbrev pub told : ℕ → ℕ → List ℕ → Display → Display
told f published text d = record d { told = if published == f then text else d.told }

abbrev pub all_told : ℕ → List ℕ → Displays → Displays
all_told published text d = all_changed (λ f. told f published text) d

-- ---- the rule of rest, by them

abbrev pub is_refusal_known : Standing → ℕ → Bool
is_refusal_known s changed = has_value (nat_lt (max s.renewed changed)) s.refused

abbrev pub is_shown_right : Standing → Display → Option ℕ → Bool
is_shown_right s d None = true
is_shown_right s d (Some n) = elim (same_shown d.shown (Some d.told)) [ true ↦ true | false ↦ is_refusal_known s d.changed ]

abbrev pub is_standing_right : Standing → Display → Bool
is_standing_right s d = is_shown_right s d s.shown

abbrev pub are_standings_right : List Standing → Displays → Bool
are_standings_right (r ∷ p ∷ f ∷ []) d = is_standing_right r d.records && is_standing_right p d.phonebook && is_standing_right f d.fixed
are_standings_right standings d = true

abbrev pub is_rest_right : Kept → Displays → Bool
is_rest_right k d = elim (is_quiet k) [ false ↦ true | true ↦ are_standings_right k.standings d ]
