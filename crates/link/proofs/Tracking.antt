-- A selection follows the card over the exchanges of a call.
use Rattle.std.proofs.Common.{◌≡◌, ◌⊎◌, inl, inr, ℕ, List, [], ◌∷◌, Option, Some, None, is_some, zero, suc, IfSome, IfOk, OnErr, Result, Ok, Err, refl, sym, ap, ◌∙◌, subst, true, true≢false}
use Rattle.std.specs.Prelude.{slice_get, slice_set}
use Rattle.apdu.specs.Values.{CommandValue, ResponseValue}
use Rattle.card_model.specs.declared.trail.Step.{Step}
use Rattle.card_model.specs.declared.slot.SlotFault.{SlotFault}
use Rattle.card_model.specs.declared.world.CardState.{CardState}
use Rattle.card_model.specs.declared.world.World.{World}
use Rattle.card_model.specs.Slot.{Answers, AnswersAt, MayHaveActed}
use Rattle.card_model.specs.Step.{step, step_of_place, step_of_card, card_inside, on_card}
use Rattle.link.specs.Commands.{selection_after}
use Rattle.link.specs.Exchanges.{selection_of, selection_by, selection_over, Seen, Plays}
use Rattle.link.specs.Selected.{FollowsInside, KeepsTrack}
use Rattle.link.proofs.Selections.{card-follows}

nothing-known : (o : Option CardState) → FollowsInside o None
nothing-known None = tt
nothing-known (Some card) = inl refl

get-set : (xs : List CardState) (i : ℕ) (x new : CardState) → slice_get xs i ≡ Some x → slice_get (slice_set xs i new) i ≡ Some new
get-set [] i x new h = absurd (cc)
get-set (y ∷ ys) zero x new h = refl
get-set (y ∷ ys) (suc i) x new h = get-set ys i x new h

-- ---- a command that was answered

of_card : (w : World) (j : ℕ) (o : Option CardState) (c : CommandValue) (sel : Option (List ℕ)) → slice_get w.cards j ≡ o → is_some o ≡ true → FollowsInside o sel → FollowsInside (slice_get (step_of_card w j o c).0.cards j) (selection_after c (step_of_card w j o c).1 sel)
of_card w j None c sel here there f = absurd (true≢false (sym there))
of_card w j (Some card) c sel here there f =
    rw (get-set w.cards j card (on_card w.changes card c).0 here) (card-follows w.changes c card sel f)

inside-of : World → Option ℕ → Option CardState
inside-of w None = None
inside-of w (Some j) = slice_get w.cards j

of_place : (w : World) (p : Option ℕ) (c : CommandValue) (sel : Option (List ℕ)) → is_some (inside-of w p) ≡ true → FollowsInside (inside-of w p) sel → FollowsInside (inside-of (step_of_place w p c).0 p) (selection_after c (step_of_place w p c).1 sel)
unfolding inside-of
of_place w None c sel there f = absurd (true≢false (sym there))
of_place w (Some j) c sel there f = of_card w j (slice_get w.cards j) c sel refl there f

card-place : (w : World) (j : ℕ) (o : Option CardState) (c : CommandValue) → (step_of_card w j o c).0.inside ≡ w.inside
card-place w j None c = refl
card-place w j (Some card) c = refl

place-kept : (w : World) (p : Option ℕ) (c : CommandValue) → (step_of_place w p c).0.inside ≡ w.inside
place-kept w None c = refl
place-kept w (Some j) c = card-place w j (slice_get w.cards j) c

inside-is : (w : World) (p : Option ℕ) → w.inside ≡ p → card_inside w ≡ inside-of w p
unfolding inside-of
inside-is w None e = rw e refl
inside-is w (Some j) e = rw e refl

-- behind a command that the card in the slot answered, the selection follows that card
pub step-follows : (w : World) (c : CommandValue) (sel : Option (List ℕ)) → is_some (card_inside w) ≡ true → FollowsInside (card_inside w) sel → FollowsInside (card_inside (step w c).0) (selection_after c (step w c).1 sel)
unfolding step
step-follows w c sel there f =
    let here : card_inside w ≡ inside-of w w.inside = inside-is w w.inside refl in
    let after : card_inside (step_of_place w w.inside c).0 ≡ inside-of (step_of_place w w.inside c).0 w.inside = inside-is (step_of_place w w.inside c).0 w.inside (place-kept w w.inside c) in
    subst (λ o. FollowsInside o (selection_after c (step_of_place w w.inside c).1 sel)) (sym after)
    (of_place w w.inside c sel (ap is_some (sym here) ∙ there) (subst (λ o. FollowsInside o sel) here f))

-- ---- steps

-- the new world is told, and the selection follows its card
abbrev FollowsNow : Option World → Option (List ℕ) → Type 0
FollowsNow None sel = ⊥
FollowsNow (Some w) sel = FollowsInside (card_inside w) sel

acted : (w : World) (new : Option World) (c : CommandValue) → (new ≡ Some w) ⊎ (new ≡ Some (step w c).0) → FollowsNow new None
acted w new c (inl e) = subst (λ o. FollowsNow o None) (sym e) (nothing-known (card_inside w))
acted w new c (inr e) = subst (λ o. FollowsNow o None) (sym e) (nothing-known (card_inside (step w c).0))

answered : (w : World) (new : Option World) (c : CommandValue) (r : ResponseValue) (sel : Option (List ℕ)) → AnswersAt w new c r → FollowsInside (card_inside w) sel → FollowsNow new (selection_after c r sel)
answered w new c r sel a f =
    subst (λ o. FollowsNow o (selection_after c r sel)) (sym a.world)
    (subst (λ (x : ResponseValue). FollowsInside (card_inside (step w c).0) (selection_after c x sel)) (sym a.response) (step-follows w c sel a.inside f))

by_outcome : (w : World) (new : Option World) (c : CommandValue) (outcome : Result ResponseValue SlotFault) (sel : Option (List ℕ)) → IfOk outcome (Answers (Some w) new c) → OnErr outcome (MayHaveActed (Some w) new c) → FollowsInside (card_inside w) sel → FollowsNow new (selection_of c outcome sel)
by_outcome w new c (Ok r) sel ok err f = answered w new c r sel ok f
by_outcome w new c (Err fault) sel ok err f = acted w new c err

by_world : (o new : Option World) (s : Step) (sel : Option (List ℕ)) → IfOk s.outcome (Answers o new s.command) → OnErr s.outcome (MayHaveActed o new s.command) → FollowsNow o sel → FollowsNow new (selection_by s sel)
by_world None new s sel ok err f = absurd f
by_world (Some w) new s sel ok err f = by_outcome w new s.command s.outcome sel ok err f

follows-over : (steps : List Step) (old new : Seen) (sel : Option (List ℕ)) → Plays old steps new → FollowsNow old.world sel → FollowsNow new.world (selection_over steps sel)
follows-over [] old new sel plays f = subst (λ (s : Seen). FollowsNow s.world sel) (sym plays) f
follows-over (s ∷ steps) old new sel (between, (exchange, plays)) f =
    follows-over steps between new (selection_by s sel) plays (by_world old.world between.world s sel exchange.ok exchange.err f)

told : (new : Option World) (sel : Option (List ℕ)) → FollowsNow new sel → IfSome new (λ v. FollowsInside (card_inside v) sel)
told None sel f = absurd f
told (Some v) sel f = f

where_told : (old new : Option World) (before now : Option (List ℕ)) → (FollowsNow old before → FollowsNow new now) → KeepsTrack old new before now
where_told None new before now h = tt
where_told (Some w) new before now h = λ f. told new now (h f)

pub keeps-track : (steps : List Step) (old new : Seen) (sel : Option (List ℕ)) → Plays old steps new → KeepsTrack old.world new.world sel (selection_over steps sel)
keeps-track steps old new sel plays = where_told old.world new.world sel (selection_over steps sel) (λ f. follows-over steps old new sel plays f)
