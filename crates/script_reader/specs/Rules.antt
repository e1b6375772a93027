-- A script that keeps every rule: what a reader gives, and what is read back from its text.
use Rattle.std.specs.Prelude.{ℕ, ◌==◌, ◌&&◌, Bool, true, nat_lt, nat_le, List, [], ◌∷◌, length, Option}
use Rattle.std.specs.List.{list_all}
use Rattle.std.specs.Option.{option_map_or}
use Rattle.apdu.specs.Words.{is_between}
use Rattle.card_model.specs.declared.world.Fault.{Fault}
use Rattle.script_reader.specs.declared.types.CardSpec.{CardSpec}
use Rattle.script_reader.specs.declared.types.ChangeSpec.{ChangeSpec}
use Rattle.script_reader.specs.declared.types.Operation.{Operation}
use Rattle.script_reader.specs.declared.types.Script.{Script}
use Rattle.script_reader.specs.Cards.{is_card, is_change}
use Rattle.script_reader.specs.Operations.{operation_count, is_actor}

-- one to four cards
abbrev pub cards_keep_rules : List CardSpec → Bool
cards_keep_rules cards = is_between 1 4 (length cards) && list_all is_card cards

-- at most 64 changes
abbrev pub changes_keep_rules : List ChangeSpec → Bool
changes_keep_rules changes = nat_le (length changes) 64 && list_all is_change changes

-- one to eight actors with at most 1,000 operations in all, where there are so many cards and changes
abbrev pub actors_keep_rules : ℕ → ℕ → List (List Operation) → Bool
actors_keep_rules cards changes actors = is_between 1 8 (length actors) && nat_le (operation_count actors) 1000 && list_all (is_actor cards changes) actors

-- the framework, which is 0, or one of so many actors
abbrev pub is_turn : ℕ → ℕ → Bool
is_turn actors turn = nat_le turn actors

-- at most 10,000 turns
abbrev pub schedule_keeps_rules : ℕ → List ℕ → Bool
schedule_keeps_rules actors turns = nat_le (length turns) 10000 && list_all (is_turn actors) turns

-- each call is behind the one before, and its number has four bytes
abbrev pub are_calls_behind : ℕ → List Fault → Bool
are_calls_behind call [] = true
are_calls_behind call (fault ∷ faults) = nat_lt call fault.at && nat_le fault.at 4294967295 && are_calls_behind fault.at faults

-- at most 100 faults, whose calls are numbered from 1
abbrev pub faults_keep_rules : List Fault → Bool
faults_keep_rules faults = nat_le (length faults) 100 && are_calls_behind 0 faults

-- a limit on the events is 1 to 20,000,000
abbrev pub budget_keeps_rules : Option ℕ → Bool
budget_keeps_rules budget = option_map_or (is_between 1 20000000) budget true

-- a script that keeps every rule
abbrev pub keeps_rules : Script → Bool
keeps_rules s =
    (s.version == 1)
    && cards_keep_rules s.cards
    && changes_keep_rules s.changes
    && actors_keep_rules (length s.cards) (length s.changes) s.actors
    && schedule_keeps_rules (length s.actors) s.schedule
    && faults_keep_rules s.faults
    && budget_keeps_rules s.budget
