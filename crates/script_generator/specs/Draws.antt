-- Pseudo-random draws: a linear congruential generator of 31 bits, of which a draw is the upper fifteen. They are this project's
-- own choice, so that a seed names one script on every machine.
use Rattle.std.specs.Prelude.{ℕ, zero, suc, ◌+◌, ◌*◌, ◌/◌, ◌%◌}

-- the state behind a state
abbrev pub next : ℕ → ℕ
next state = (1103515245 * state + 12345) % 2147483648

-- the state behind so many draws; the first state is the seed
abbrev pub behind : ℕ → ℕ → ℕ
behind state zero = state
behind state (suc k) = next (behind state k)

-- the draw that led to this state
abbrev pub drawn : ℕ → ℕ
drawn state = state / 65536

-- draw k from a state on, counted from 1
abbrev pub draw : ℕ → ℕ → ℕ
draw state k = drawn (behind state k)
