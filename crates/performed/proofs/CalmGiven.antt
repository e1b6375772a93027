-- What the rule of channels takes: the operations that send a MANAGE CHANNEL, references that are free where a channel is opened under them,
-- and the epoch of an open.
use Rattle.std.proofs.Common.{◌≡◌, ℕ, ◌==◌, Bool, true, false, refl, sym, ap, ◌∙◌, true≢false}
use Rattle.apdu.specs.Values.{CommandValue, ResponseValue}
use Rattle.apdu.specs.Apdu.{manage_channel_ins}
use Rattle.script_reader.specs.declared.types.Script.{Script}
use Rattle.script_reader.specs.Rules.{keeps_rules}
use Rattle.report.specs.declared.line.Line.TheVariants as line
use Rattle.rules.specs.declared.kept.Kept.{Kept}
use Rattle.rules.specs.After.{kept_of}
use Rattle.rules.specs.Rules.{turn_operation}
use Rattle.performed.specs.Names.{has_utf8_names}
use Rattle.performed.specs.Followed.{is_followed}
use Rattle.performed.proofs.CalmCards.{GivenOf}
use Rattle.performed.proofs.CalmEpochs.{alive_of}
use Rattle.performed.proofs.CalmKinds.{Sends, Manages, by_open, by_refusal, by_close}
use Rattle.performed.proofs.CalmKnown.{is_channel_op}
use Rattle.performed.proofs.CalmSends.{exchange_manages}
use Rattle.performed.proofs.CalmLines.{sends_of}
use Rattle.performed.proofs.FreeReferences.{free_of}

-- a MANAGE CHANNEL is that of an open or a close
manages_op : (s : Script) (k : Kept) (c : CommandValue) → Manages s k c → is_channel_op (turn_operation s k) ≡ true
manages_op s k c (by_open handle aid e stage opened form) = ap is_channel_op e
manages_op s k c (by_refusal handle aid number e stage opened form) = ap is_channel_op e
manages_op s k c (by_close handle h e stage held form) = ap is_channel_op e

no_manage : (s : Script) (k : Kept) → Sends s k → (a : ℕ) (c : CommandValue) (r : ResponseValue) → is_followed s k (line.Exchange a c r) ≡ true → is_channel_op (turn_operation s k) ≡ false → (c.ins == manage_channel_ins) ≡ false
no_manage s k t a c r h other = by_ins (c.ins == manage_channel_ins) refl
  where
    by_ins : (b : Bool) → (c.ins == manage_channel_ins) ≡ b → b ≡ false
    by_ins true e = absurd (true≢false (sym (manages_op s k c (exchange_manages s k a c r t h e)) ∙ other))
    by_ins false e = refl

pub given_of : (s : Script) → keeps_rules s ≡ true → has_utf8_names s ≡ true → GivenOf s
given_of s rules served lines followed =
    let k : Kept = kept_of s lines in
    let t : Sends s k = sends_of s lines served followed in
    record {
      manage = λ a c r h other. no_manage s k t a c r h other;
      free = λ a i handle n aid h op. free_of s rules served lines followed a i handle n aid h op;
      alive = alive_of s lines rules served followed;
    }
