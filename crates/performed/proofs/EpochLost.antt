-- An UPDATE of an edit whose answer was lost keeps the rule of edits, where one that the card answered would.
use Rattle.std.proofs.Common.{◌≡◌, ℕ, ◌&&◌, Bool, true, false, Option, Some, None, List, [], ◌∷◌, refl}
use Rattle.std.proofs.lemmas.Bool.{and_parts, and_from}
use Rattle.apdu.specs.Values.{CommandValue, ResponseValue}
use Rattle.apdu.specs.Words.{same_bytes}
use Rattle.apdu.specs.Apdu.{is_success}
use Rattle.card_effects.proofs.Same.{same_bytes_self}
use Rattle.card_model.specs.declared.world.World.{World}
use Rattle.card_model.specs.Step.{step}
use Rattle.script_reader.specs.declared.types.Script.{Script}
use Rattle.report.specs.declared.line.Line.TheVariants as line
use Rattle.adn.specs.declared.entry.BookRow.{BookRow}
use Rattle.adn.specs.declared.entry.BookRow.TheVariants.{Free, Entry, Unreadable}
use Rattle.families.specs.Plans.{same_book, same_row}
use Rattle.rules.specs.declared.kept.Kept.{Kept}
use Rattle.link.specs.Commands.{continued}
use Rattle.rules.specs.Rules.{EditTurn, edit_turn, is_sent_right, is_book_right, is_book_kept, is_book_edited, is_deciding, book_in, is_lost_book_right, is_update_right, is_lost_update_right, is_outside_raw, has_right_edit, world_failed}
use Rattle.performed.proofs.WantedFamilies.{or_later, or_now}

row_self : (x : BookRow) → same_row x x ≡ true
row_self Free = refl
row_self Unreadable = refl
row_self (Entry a) = and_from (same_bytes a.name a.name) (same_bytes a.number a.number) (same_bytes_self a.name) (same_bytes_self a.number)

pub book_self : (xs : List BookRow) → same_book xs xs ≡ true
book_self [] = refl
book_self (x ∷ xs) = and_from (same_row x x) (same_book xs xs) (row_self x) (book_self xs)

module _ (s : Script) (w : World) (k : Kept) (c : CommandValue) where
  abbrev given : ResponseValue
  given = (step w c).1

  -- the card did it
  acted_by : (e : EditTurn) (deciding success : Bool) → is_deciding k e ≡ deciding → (elim (deciding && success) [ true ↦ is_book_edited w (step w c).0 e | false ↦ is_book_kept w (step w c).0 e.family ]) ≡ true → is_lost_book_right w (step w c).0 k e ≡ true
  acted_by e true true d h = or_later (is_book_kept w (step w c).0 e.family) (is_deciding k e && is_book_edited w (step w c).0 e) (and_from (is_deciding k e) (is_book_edited w (step w c).0 e) d h)
  acted_by e true false d h = or_now (is_book_kept w (step w c).0 e.family) (is_deciding k e && is_book_edited w (step w c).0 e) h
  acted_by e false success d h = or_now (is_book_kept w (step w c).0 e.family) (is_deciding k e && is_book_edited w (step w c).0 e) h

  book_lost : (e : EditTurn) (acted : Bool) → is_book_right w k e c given ≡ true → is_lost_book_right w (world_failed w c acted) k e ≡ true
  book_lost e true h = acted_by e (is_deciding k e) (is_success given.sw) refl h
  book_lost e false h = or_now (is_book_kept w w e.family) (is_deciding k e && is_book_edited w w e) (book_self (book_in w e.family))

  update_lost : (acted : Bool) → is_update_right s w k c given ≡ true → is_lost_update_right s w (world_failed w c acted) k c ≡ true
  update_lost acted h = by_turn (edit_turn s k) h
    where
      by_turn : (o : Option EditTurn) → elim o [ None ↦ false | Some e ↦ is_sent_right w k e c (continued c k.chain) && is_book_right w k e c given ] ≡ true → elim o [ None ↦ false | Some e ↦ is_sent_right w k e c (continued c k.chain) && is_lost_book_right w (world_failed w c acted) k e ] ≡ true
      by_turn None q = q
      by_turn (Some e) q =
          let p = and_parts (is_sent_right w k e c (continued c k.chain)) (is_book_right w k e c given) q in
          and_from (is_sent_right w k e c (continued c k.chain)) (is_lost_book_right w (world_failed w c acted) k e) p.0 (book_lost e acted p.1)

  -- whether or not the card had acted
  pub failed_edit : (a : ℕ) (acted : Bool) → has_right_edit s w k (line.Exchange a c given) ≡ true → has_right_edit s w k (line.Failed a c acted) ≡ true
  failed_edit a acted h = by_outside (is_outside_raw s k c) h
    where
      by_outside : (b : Bool) → elim b [ true ↦ is_update_right s w k c given | false ↦ true ] ≡ true → elim b [ true ↦ is_lost_update_right s w (world_failed w c acted) k c | false ↦ true ] ≡ true
      by_outside true q = update_lost acted q
      by_outside false q = refl
