-- What callers have of a turn that was taken, and of a run that is finished.
use Rattle.std.proofs.Common.{◌≡◌, ◌+◌, ◌++◌, length, ℕ, not, Bool, true, false, List, [], ◌∷◌, Option, Some, None, IfSome, IsSome, refl, sym, ap, ◌∙◌, subst, true≢false}
use Rattle.std.proofs.lemmas.Bool.{and_parts}
use Rattle.card_model.specs.declared.world.World.{World}
use Rattle.card_model.specs.Slot.{Plan, StaysTold}
use Rattle.script_reader.specs.declared.types.Script.{Script}
use Rattle.script_reader.specs.Rules.{keeps_rules}
use Rattle.script_reader.specs.World.{first_world}
use Rattle.report.specs.declared.line.Line.{Line}
use Rattle.report.specs.declared.line.Line.TheVariants as line
use Rattle.report.specs.declared.line.Mode.{Mode}
use Rattle.rules.specs.declared.kept.Kept.{Kept}
use Rattle.rules.specs.After.{is_mark, kept_of}
use Rattle.rules.specs.Due.{due}
use Rattle.rules.specs.Kept.{actor_count, nothing_kept}
use Rattle.rules.specs.Legal.{legal}
use Rattle.rules.specs.Performed.{ends_turn}
use Rattle.rules.specs.Work.{is_finished, is_idle}
use Rattle.performed.specs.Names.{has_utf8_names}
use Rattle.performed.specs.Followed.{are_followed}
use Rattle.performed.specs.Told.{are_told}
use Rattle.performed.specs.Placed.{are_placed, is_turn_allowed}
use Rattle.performed.specs.Laws.{MarksMove, RunIsLegal, TurnsMove, has_no_mark}
use Rattle.performed.specs.Progress.{Moves}
use Rattle.hub.specs.Hub.{HubValue, IsAtRest, TakesTurn, kept_now}
use Rattle.watched_tracker.specs.Asked.{masks_asked}
use Rattle.hub.specs.Parts.{Parts}
use Rattle.hub.specs.Settled.{AreServed, HasLine, HasTurned, IsPlanOf, IsSettled, IsWorldOf, KeepsAll}
use Rattle.hub.specs.Short.{are_short}
use Rattle.hub.proofs.Edits.{none_short}
use Rattle.hub.proofs.Idle.{idle_settles}
use Rattle.hub.proofs.Ties.{tied_kept}
use Rattle.hub.proofs.Turning.{line_filled, unmarked}

-- what callers see of the parts
abbrev pub seen : Parts → Bool → HubValue
seen p whole = record { script = p.script; lines = p.lines.lines; world = p.world; plan = p.plan; whole = whole }

pub settled_kept : (p q : Parts) → KeepsAll p q → IsSettled p → IsSettled q
settled_kept p q h t = record {
  tied = tied_kept p q h t.tied;
  ends = ap (λ (s : Script). ends_turn (due s q.kept)) h.script ∙ ap (λ (k : Kept). ends_turn (due p.script k)) h.kept ∙ t.ends;
}

rest_of : (p : Parts) (whole : Bool) → IsSettled p → IsAtRest (seen p whole)
rest_of p whole t = record {
  rules = t.tied.lines.rules;
  names = t.tied.lines.served;
  followed = t.tied.lines.followed;
  ends = ap (λ (k : Kept). ends_turn (due p.script k)) (sym t.tied.kept) ∙ t.ends;
}

pub rest_now : (h : HubValue) (p : Parts) (whole : Bool) → seen p whole ≡ h → IsSettled p → IsAtRest h
rest_now h p whole e t = subst IsAtRest e (rest_of p whole t)

-- ---- a turn is not without lines, where the slot tells its world

told_of : (s : Script) (lines : List Line) (w : Option World) → IfSome w (IsWorldOf s lines) → IsSome w → are_told s lines ≡ true
told_of s lines None t h = absurd (cc)
told_of s lines (Some x) t h = t.told

filled : MarksMove → (s : Script) (earlier added : List Line) (a : ℕ) → keeps_rules s ≡ true → has_utf8_names s ≡ true → are_followed s (added ++ line.Turn a ∷ earlier) ≡ true → are_told s earlier ≡ true → has_no_mark added ≡ true → is_idle s (kept_of s earlier) a ≡ false → ends_turn (due s (kept_of s (added ++ line.Turn a ∷ earlier))) ≡ true → (kept_of s (added ++ line.Turn a ∷ earlier)).turn.bare ≡ false
filled law s earlier [] a r v f told own awake e = absurd (true≢false (sym e ∙ law s earlier a r v f told awake))
filled law s earlier (l ∷ added) a r v f told own awake e =
    let q = and_parts (not (is_mark l)) (has_no_mark added) own in
    line_filled s l (kept_of s (added ++ line.Turn a ∷ earlier)) (unmarked (is_mark l) q.0)

-- ---- a turn that was taken

module _ (marks : MarksMove) (turns : TurnsMove) (p r n : Parts) (a : ℕ) (settled : IsSettled p) (same : KeepsAll p r) (t : HasTurned a r n) (awake : is_idle p.script (kept_of p.script p.lines.lines) a ≡ false) where
  script_is : n.script ≡ p.script
  script_is = t.stays.script ∙ same.script

  lines_are : n.lines.lines ≡ t.turn.added ++ line.Turn a ∷ p.lines.lines
  lines_are = t.turn.lines ∙ ap (λ (x : List Line). t.turn.added ++ line.Turn a ∷ x) same.lines

  kept_is : kept_of n.script n.lines.lines ≡ kept_of p.script (t.turn.added ++ line.Turn a ∷ p.lines.lines)
  kept_is = ap (λ (s : Script). kept_of s n.lines.lines) script_is ∙ ap (kept_of p.script) lines_are

  follow : are_followed p.script (t.turn.added ++ line.Turn a ∷ p.lines.lines) ≡ true
  follow = ap (are_followed p.script) (sym lines_are) ∙ ap (λ (s : Script). are_followed s n.lines.lines) (sym script_is) ∙ t.settled.tied.lines.followed

  ends_now : ends_turn (due n.script (kept_of n.script n.lines.lines)) ≡ true
  ends_now = ap (λ (k : Kept). ends_turn (due n.script k)) (sym t.settled.tied.kept) ∙ t.settled.ends

  ends_then : ends_turn (due p.script (kept_of p.script (t.turn.added ++ line.Turn a ∷ p.lines.lines))) ≡ true
  ends_then = ap (λ (k : Kept). ends_turn (due p.script k)) (sym kept_is) ∙ ap (λ (s : Script). ends_turn (due s (kept_of n.script n.lines.lines))) (sym script_is) ∙ ends_now

  told_before : IsSome p.world → are_told p.script p.lines.lines ≡ true
  told_before told = told_of p.script p.lines.lines p.world settled.tied.lines.world told

  pub takes_turn : TakesTurn a (seen p true) (seen n true)
  takes_turn = record {
    stays = record {
      script = script_is;
      world = subst (λ (w : Option World). StaysTold w n.world) same.world t.stays.world;
      plan = subst (λ (o : Option Plan). StaysTold o n.plan) same.plan t.stays.plan;
    };
    turn = record { added = t.turn.added; lines = lines_are; own = t.turn.own };
    rest = record { rules = t.settled.tied.lines.rules; names = t.settled.tied.lines.served; followed = t.settled.tied.lines.followed; ends = ends_now };
    filled = λ told. ap (λ (k : Kept). k.turn.bare) kept_is ∙ filled marks p.script p.lines.lines t.turn.added a settled.tied.lines.rules settled.tied.lines.served follow (told_before told) t.turn.own awake ends_then;
    moves = λ told. subst (λ (k : Kept). Moves p.script (kept_of p.script p.lines.lines) k) (sym kept_is) (turns p.script p.lines.lines t.turn.added a settled.tied.lines.rules settled.tied.lines.served follow (told_before told) t.turn.own awake ends_then);
    whole = refl;
  }

-- the same where callers see this before it
pub takes_turn_of : MarksMove → TurnsMove → (h : HubValue) (p r n : Parts) (a : ℕ) → seen p true ≡ h → IsSettled p → KeepsAll p r → HasTurned a r n → is_idle h.script (kept_now h) a ≡ false → TakesTurn a h (seen n true)
takes_turn_of marks turns h p r n a e settled same t awake =
    subst (λ (x : HubValue). TakesTurn a x (seen n true)) e
    (takes_turn marks turns p r n a settled same t (ap (λ (x : HubValue). is_idle x.script (kept_now x) a) e ∙ awake))

-- ---- a mark without lines

pub idle_settles_of : (h : HubValue) (p r n : Parts) (a : ℕ) (whole : Bool) → seen p whole ≡ h → IsSettled p → KeepsAll p r → HasLine (line.Turn a) r n → is_finished h.script (kept_now h) ≡ false → is_idle h.script (kept_now h) a ≡ true → IsSettled n
idle_settles_of h p r n a whole e settled same t pending idle =
    idle_settles r n a (settled_kept p r same settled) t
    (ap (λ (s : Script). is_finished s r.kept) same.script ∙ ap (is_finished p.script) (same.kept ∙ settled.tied.kept) ∙ ap (λ (x : HubValue). is_finished x.script (kept_now x)) e ∙ pending)
    (ap (λ (s : Script). is_idle s r.kept a) same.script ∙ ap (λ (k : Kept). is_idle p.script k a) (same.kept ∙ settled.tied.kept) ∙ ap (λ (x : HubValue). is_idle x.script (kept_now x) a) e ∙ idle)

-- ---- the end

pub report_legal : RunIsLegal → (h : HubValue) (p : Parts) (m : Mode) (lines : List Line) (whole : Bool) → seen p whole ≡ h → IsSettled p → lines ≡ p.lines.lines → is_finished h.script (kept_now h) ≡ true → are_placed h.script m h.lines ≡ true → is_turn_allowed m (kept_now h).turn ≡ true → IsSome h.world → legal (record { script = p.script; mode = m; lines = lines }) ≡ true
report_legal law h p m lines whole e settled same finished placed allowed told =
    ap (λ (x : List Line). legal (record { script = p.script; mode = m; lines = x })) same
    ∙ law (record { script = p.script; mode = m; lines = p.lines.lines })
    settled.tied.lines.rules settled.tied.lines.served settled.tied.lines.followed
    (told_of p.script p.lines.lines p.world settled.tied.lines.world (subst (λ (x : HubValue). IsSome x.world) (sym e) told))
    (ap (λ (x : HubValue). are_placed x.script m x.lines) e ∙ placed)
    (ap (λ (x : HubValue). is_turn_allowed m (kept_now x).turn) e ∙ allowed)
    (ap (λ (k : Kept). ends_turn (due p.script k)) (sym settled.tied.kept) ∙ settled.ends)
    (ap (λ (x : HubValue). is_finished x.script (kept_now x)) e ∙ finished)

pub whole_seen : (p : Parts) (whole : Bool) (h : HubValue) → whole ≡ true → seen p whole ≡ h → seen p true ≡ h
whole_seen p whole h w e = ap (seen p) (sym w) ∙ e

-- ---- before the first line

first_world_of : (s : Script) (w : Option World) → IfSome w (λ x. x ≡ first_world s) → IfSome w (IsWorldOf s [])
first_world_of s None h = tt
first_world_of s (Some x) h = record { world = h; told = refl }

first_plan_of : (s : Script) (q : Option Plan) → IfSome q (λ x. x ≡ record { faults = s.faults; calls = 0 }) → IfSome q (IsPlanOf s (kept_of s []))
first_plan_of s None h = tt
first_plan_of s (Some x) h = record { faults = ap (λ (y : Plan). y.faults) h; calls = ap (λ (y : Plan). y.calls) h }

pub first_settled : (p : Parts) → p.lines.lines ≡ [] → p.kept ≡ nothing_kept p.script → p.masks ≡ masks_asked p.script → keeps_rules p.script ≡ true → has_utf8_names p.script ≡ true → IfSome p.world (λ x. x ≡ first_world p.script) → IfSome p.plan (λ x. x ≡ record { faults = p.script.faults; calls = 0 }) → IsSettled p
first_settled p lines kept masks rules served world plan = record {
  tied = record {
    kept = kept ∙ ap (kept_of p.script) (sym lines);
    masks = masks;
    lines = subst (λ (x : List Line). AreServed p.script x p.world p.plan) (sym lines) (record {
      rules = rules;
      served = served;
      followed = refl;
      world = first_world_of p.script p.world world;
      plan = first_plan_of p.script p.plan plan;
    });
    short = ap (λ (k : Kept). are_short (length p.lines.lines) k.jobs) kept ∙ none_short (length p.lines.lines) (actor_count p.script + 1);
  };
  ends = ap (λ (k : Kept). ends_turn (due p.script k)) kept;
}
