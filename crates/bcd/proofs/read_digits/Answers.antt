use Rattle.std.proofs.Common.{◌∙◌, ap, string_bytes}
use Rattle.bcd.proofs.Digits.{after_byte, after_all, after_low_end, after_high_end}
use Rattle.bcd.proofs.read_digits.Goals as goal
use Rattle.bcd.proofs.read_digits.Goals.{else-loop-byte-test, then-loop-byte-test+in_default, then-loop-byte-test+in-Some+in_ok-put_text+in_default-text_of}

pub loop-byte-preserved : goal.loop-byte-preserved
loop-byte-preserved c =
    rw (c.in_ok-put_text-2.ensures, c.in_ok-put_text.ensures) (after_byte c.args.bytes.now _ c.loop-byte.byte-index c.in-Some.low c.in-Some-text_of.high c.loop-byte-test.true c.in-Some.ensures.text c.in-Some-text_of.ensures.text c.loop-byte.invariant)

pub returns : goal.returns
returns c =
    rw c.from_string.ensures (elim c.loop-byte-test.branch [
      | else-loop-byte-test w ↦ ap string_bytes w.digits-is ∙ after_all c.args.bytes.now _ c.loop-byte.byte-index w.loop-byte-test.false c.loop-byte.invariant
      | then-loop-byte-test+in_default w ↦ ap string_bytes w.digits-is ∙ after_low_end c.args.bytes.now _ c.loop-byte.byte-index w.loop-byte-test.true w.in_default.ensures.text c.loop-byte.invariant
      | then-loop-byte-test+in-Some+in_ok-put_text+in_default-text_of w ↦ ap string_bytes w.digits-is ∙ w.in_ok-put_text.ensures ∙ after_high_end c.args.bytes.now _ c.loop-byte.byte-index w.in-Some.low w.loop-byte-test.true w.in-Some.ensures.text w.in_default-text_of.ensures.text c.loop-byte.invariant
    ])
