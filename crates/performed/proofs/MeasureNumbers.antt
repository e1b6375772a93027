-- How much a line takes of the steps that are left: of the calls, what was sent of a command, and what there is beside them (a begin, the end
-- of an epoch, a refusal, a publication, an operation). A name with a dash is that behind the line.
use Rattle.std.proofs.Common.{◌≡◌, ℕ, suc, ◌+◌, ◌*◌, ◌-◌, ◌≤◌, ◌<◌, arith}

pub less_by_exchange : (calls sent x e f p b b' : ℕ) → 1 ≤ calls → sent ≤ 3 → b' ≡ b → 4 * (5 * calls - (sent + 1)) + (2 * 0 + e + f + p + b') < 4 * (5 * calls - sent) + (2 * x + e + f + p + b)
less_by_exchange calls sent x e f p b b' h n same = omega (arith, h, n, same)

pub less_by_final : (calls' calls sent x e f f' p b b' : ℕ) → suc calls' ≤ calls → sent ≤ 3 → f' ≤ 1 → b' ≡ b → 4 * (5 * calls' - 0) + (2 * 0 + e + f' + p + b') < 4 * (5 * calls - sent) + (2 * x + e + f + p + b)
less_by_final calls' calls sent x e f f' p b b' h n one same = omega (arith, h, n, one, same)

pub less_by_stop : (calls sent x e e' f p b b' : ℕ) → 1 ≤ calls → sent ≤ 3 → e' ≤ 1 → b' ≡ b → 4 * (5 * 0 - 0) + (2 * 0 + e' + f + p + b') < 4 * (5 * calls - sent) + (2 * x + e + f + p + b)
less_by_stop calls sent x e e' f p b b' h n one same = omega (arith, h, n, one, same)

pub less_by_end : (calls sent x e f p b b' : ℕ) → calls ≡ 0 → e ≡ 1 → b' ≡ b → 4 * (5 * calls - 0) + (2 * 0 + 0 + f + p + b') < 4 * (5 * calls - sent) + (2 * x + e + f + p + b)
less_by_end calls sent x e f p b b' h one same = omega (arith, h, one, same)

pub less_by_refusal : (calls sent x e f p b b' : ℕ) → sent ≡ 0 → f ≡ 1 → b' ≡ b → 4 * (5 * calls - 0) + (2 * 0 + e + 0 + p + b') < 4 * (5 * calls - sent) + (2 * x + e + f + p + b)
less_by_refusal calls sent x e f p b b' h one same = omega (arith, h, one, same)

pub less_by_begin : (calls sent x e f p b b' : ℕ) → sent ≡ 0 → x ≡ 1 → b' ≤ 1 → 4 * (5 * calls - 0) + (2 * 0 + e + f + p + b') < 4 * (5 * calls - sent) + (2 * x + e + f + p + b)
less_by_begin calls sent x e f p b b' h one few = omega (arith, h, one, few)

pub less_by_publication : (calls sent x e f p b b' : ℕ) → p ≡ 1 → b' ≡ b → 4 * (5 * 0 - 0) + (2 * 0 + e + f + 0 + b') < 4 * (5 * calls - sent) + (2 * x + e + f + p + b)
less_by_publication calls sent x e f p b b' one same = omega (arith, one, same)

pub less_by_answer : (calls sent x e f p b b' : ℕ) → b ≡ 1 → b' ≡ 0 → 4 * (5 * 0 - 0) + (2 * 0 + e + f + p + b') < 4 * (5 * calls - sent) + (2 * x + e + f + p + b)
less_by_answer calls sent x e f p b b' one none = omega (arith, one, none)
