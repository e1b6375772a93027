use Rattle.std.proofs.Common.{◌≡◌, false, sym, subst, arith}
use Rattle.apdu.specs.Words.{is_one_of}
use Rattle.channel_table.proofs.Lists.{room, held_more}
use Rattle.channel_table.specs.Values.{AreHeld}
use Rattle.channel_table.proofs.table.Table.hold.Goals as goal

pub push-requires : goal.push-requires
push-requires c = (grind arith, room c.args.number _ c.self.invariant c.requires.number (subst (λ xs. is_one_of c.args.number xs ≡ false) (sym c.self.view_is) c.requires.free))

pub invariant_of-self : goal.invariant_of-self
invariant_of-self c = subst AreHeld (sym c.push.ensures.items) (held_more c.args.number _ c.self.invariant c.requires.number (subst (λ xs. is_one_of c.args.number xs ≡ false) (sym c.self.view_is) c.requires.free))
