-- Behind a command that a card answered, a selection that followed the card still does.
use Rattle.std.proofs.Common.{◌≡◌, ◌⊎◌, inl, inr, ℕ, ◌==◌, Bool, true, false, if◌then◌else◌, List, [], ◌∷◌, Option, Some, None, refl, sym, ap, ◌∙◌, subst}
use Rattle.std.specs.Prelude.{find, length}
use Rattle.std.proofs.lemmas.Bool.{and_from}
use Rattle.apdu.specs.Values.{CommandValue, ResponseValue}
use Rattle.apdu.specs.Words.{is_between, path_of}
use Rattle.card_model.specs.declared.world.Change.{Change}
use Rattle.card_model.specs.declared.world.ChannelState.{ChannelState}
use Rattle.card_model.specs.declared.world.CardState.{CardState}
use Rattle.card_model.specs.Card.{has_number}
use Rattle.card_model.specs.Select.{ids_of}
use Rattle.card_model.specs.Step.{on_card}
use Rattle.card_effects.specs.Effect.{acted, basic}
use Rattle.card_effects.specs.Basic.{LeavesBasic, SelectsBasic, HasCurrent}
use Rattle.card_effects.proofs.Basic.{basic_effect, effect_aids, current_behind}
use Rattle.card_effects.proofs.Effects.{effect}
use Rattle.link.specs.Commands.{is_basic_select, named_path, selection_after}
use Rattle.link.specs.Selected.{basic_in, current_on, basic_path, Follows}

pub basic_is : (cs : List ChannelState) → basic_in cs ≡ find (has_number 0) cs
basic_is [] = refl
basic_is (c ∷ cs) = ap (λ (o : Option ChannelState). if c.number == 0 then Some c else o) (basic_is cs)

path_is : (card : CardState) → basic_path card.channels ≡ current_on (basic card)
path_is card = ap current_on (basic_is card.channels)

-- these ids are a path
pub ids_path : (ids path : List ℕ) → path_of ids ≡ Some path → ids ≡ path
ids_path ids path h = by_test (is_between 1 3 (length ids)) h
  where
    by_test : (b : Bool) → (if b then Some ids else None) ≡ Some path → ids ≡ path
    by_test true q = cc
    by_test false q = absurd (cc)

module _ (card : CardState) (c : CommandValue) (p : CardState × ResponseValue) (aids : p.0.aids ≡ card.aids) where
  pub now_current : SelectsBasic card c p → (c.p1 == 0x08) ≡ true → (path : List ℕ) → named_path c ≡ Some path → HasCurrent p.0 path
  now_current d h path e = subst (HasCurrent p.0) (ids_path (ids_of c.body) path e) (current_behind card c p aids d h)

  current_follows : (path : List ℕ) → HasCurrent p.0 path → Follows p.0.channels (Some path)
  current_follows path k = inr (path_is p.0 ∙ ap current_on k.found ∙ k.current)

  named_follows : SelectsBasic card c p → (c.p1 == 0x08) ≡ true → (o : Option (List ℕ)) → named_path c ≡ o → Follows p.0.channels o
  named_follows d h None e = inl refl
  named_follows d h (Some path) e = current_follows path (now_current d h path e)

  by_select : SelectsBasic card c p → (b : Bool) → (c.p1 == 0x08) ≡ b → Follows p.0.channels (if b then named_path c else None)
  by_select d false h = inl refl
  by_select d true h = named_follows d h (named_path c) refl

  still : (before : Option (List ℕ)) → LeavesBasic card c p → Follows card.channels before → Follows p.0.channels before
  still before d (inl e) = inl e
  still before d (inr e) = inr (path_is p.0 ∙ ap current_on d.behind ∙ sym (path_is card) ∙ e)

  follows_step : (before : Option (List ℕ)) → LeavesBasic card c p ⊎ SelectsBasic card c p → Follows card.channels before → Follows p.0.channels (selection_after c p.1 before)
  follows_step before (inl d) h = subst (λ b. Follows p.0.channels (if b then (if c.p1 == 0x08 then named_path c else None) else before)) (sym d.status) (still before d h)
  follows_step before (inr d) h = subst (λ b. Follows p.0.channels (if b then (if c.p1 == 0x08 then named_path c else None) else before)) (sym (and_from (is_basic_select c) (acted p.1.sw) d.select d.does.status)) (by_select d (c.p1 == 0x08) refl)

-- a command that is answered leaves the kept selection none, or what is current
pub card-follows : (changes : List Change) (c : CommandValue) (card : CardState) (sel : Option (List ℕ)) → Follows card.channels sel → Follows (on_card changes card c).0.channels (selection_after c (on_card changes card c).1 sel)
card-follows changes c card sel h =
    let p = on_card changes card c in
    let e = effect changes card c in
    follows_step card c p (effect_aids changes card c p e) sel (basic_effect card c p changes e) h
