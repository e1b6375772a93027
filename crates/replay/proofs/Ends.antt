-- How a replay ends.
use Rattle.std.proofs.Common.{◌≡◌, ◌≤◌, ℕ, ◌&&◌, not, Bool, true, false, nat_lt, List, Option, Some, None, refl, sym, subst}
use Rattle.std.specs.Prelude.{IfSome, IsSome}
use Rattle.std.proofs.lemmas.Bool.{ltb-false}
use Rattle.card_model.specs.declared.world.World.{World}
use Rattle.script_reader.specs.declared.types.Script.{Script}
use Rattle.report.specs.declared.line.Mode.TheVariants.{Replay as in_replay}
use Rattle.report.specs.declared.line.Line.{Line}
use Rattle.report.specs.declared.lines.Report.{Report}
use Rattle.rules.specs.After.{kept_of}
use Rattle.rules.specs.Legal.{legal}
use Rattle.rules.specs.Work.{is_finished}
use Rattle.performed.specs.Laws.{LinesAreLegal}
use Rattle.performed.specs.Told.{are_told}
use Rattle.hub.specs.Hub.{HubValue}
use Rattle.hub.specs.DueSoFar.{IsDueSoFar}
use Rattle.replay.specs.Budget.{budget_of, within_budget}
use Rattle.replay.specs.Replay.{IsReplay, IsSpent}
use Rattle.replay.specs.Rounds.{goes_on, IsUnderWay}
use Rattle.replay.proofs.Taken.{run}

told_of : (world : Option World) (P : Type 0) → IfSome world (λ w. P) → IsSome world → P
told_of None P h told = absurd (cc)
told_of (Some w) P h told = h

pub still_pending : (whole finished : Bool) → whole ≡ true → (whole && not finished) ≡ true → finished ≡ false
still_pending false finished whole h = absurd (cc)
still_pending true true whole h = absurd (cc)
still_pending true false whole h = refl

spent_by : (finished few : Bool) → finished ≡ false → (not finished && few) ≡ false → few ≡ false
spent_by true few unfinished ended = absurd (cc)
spent_by false few unfinished ended = ended

-- a run that is not finished and has no further turn has spent its budget
pub to_spent : LinesAreLegal → (h : HubValue) (b events : ℕ) → IsUnderWay h.script (run h b) → IsDueSoFar h → is_finished h.script (kept_of h.script h.lines) ≡ false → goes_on h.script (kept_of h.script h.lines) ≡ false
    → events ≡ (kept_of h.script h.lines).history.events → IsSpent h.script events
to_spent laws h b events u due unfinished ended is =
    let s = h.script in
    let k = kept_of s h.lines in
    let spent : nat_lt k.history.events (budget_of s) ≡ false = spent_by (is_finished s k) (nat_lt k.history.events (budget_of s)) unfinished ended in
    record {
      lines = h.lines;
      run = record {
        followed = due.followed;
        whole = due.ends;
        legal = laws s in_replay h.lines u.rules due.names due.followed (told_of h.world (are_told s h.lines ≡ true) due.told u.told) u.placed;
        unfinished = unfinished;
        within = u.within;
        events = is;
        spent = subst (λ (n : ℕ). budget_of s ≤ n) (sym is) (ltb-false k.history.events (budget_of s) spent);
      };
    }

to_replay : (s : Script) (lines : List Line) (r : Report) → r.script ≡ s → r.mode ≡ in_replay → r.lines ≡ lines → legal r ≡ true → within_budget s lines ≡ true → IsReplay r
to_replay s lines r script mode same legal within = record {
  mode = mode;
  legal = legal;
  within = rw (script, same) within;
}

pub to_finished : (h : HubValue) (b : ℕ) (r : Report) → IsUnderWay h.script (run h b) → r.script ≡ h.script → r.mode ≡ in_replay → r.lines ≡ h.lines → (IsSome h.world → legal r ≡ true) → IsReplay r
to_finished h b r u script mode same legal = to_replay h.script h.lines r script mode same (legal u.told) u.within
