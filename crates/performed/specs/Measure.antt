-- How many lines a turn can still have, at most: each line that is due makes the number smaller.
--
-- A turn sends at most three commands one behind another (an open: MANAGE CHANNEL, SELECT by AID, and the close behind its refusal), of
-- four exchanges each, and resets the card behind a FETCH.
use Rattle.std.specs.Prelude.{ℕ, ◌+◌, ◌-◌, ◌*◌, ◌==◌, Bool, false, if◌then◌else◌, List, Option, Some, None, is_some, is_none}
use Rattle.apdu.specs.Apdu.{select_ins}
use Rattle.link.specs.declared.chain.Chain.{Chain}
use Rattle.rules.specs.declared.kept.Job.{Job}
use Rattle.rules.specs.declared.kept.Kept.{Kept}
use Rattle.rules.specs.declared.kept.Stage.{Stage}
use Rattle.rules.specs.declared.kept.Stage.TheVariants.{Fresh as fresh, Next as next, Resetting as resetting, Over as over}
use Rattle.rules.specs.Kept.{begun_of}

-- the commands and resets that may come
abbrev pub calls_left : Stage → ℕ
calls_left fresh = 4
calls_left (next c) = if c.ins == select_ins then 3 else 2
calls_left resetting = 1
calls_left over = 0

abbrev pub sent_of : Option Chain → ℕ
sent_of None = 0
sent_of (Some chain) = chain.count

-- four exchanges a command, and one step to the next
abbrev pub exchanges_left : Stage → Option Chain → ℕ
exchanges_left stage chain = 5 * calls_left stage - sent_of chain

abbrev pub one_if : Bool → ℕ
one_if b = if b then 1 else 0

abbrev pub is_begun : Option ℕ → List Job → Bool
is_begun None jobs = false
is_begun (Some actor) jobs = is_some (begun_of actor jobs)

-- the operation to begin, what is to be told and published, and the answer
abbrev pub others_left : Kept → ℕ
others_left k = 2 * one_if k.turn.bare + one_if (is_some k.turn.ended) + one_if (is_some k.turn.refused) + one_if (is_none k.turn.published) + one_if (is_begun k.turn.actor k.jobs)

-- a line may bring three others
abbrev pub steps_left : Kept → ℕ
steps_left k = 4 * exchanges_left k.turn.stage k.chain + others_left k
