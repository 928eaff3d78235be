use Rattle.std.proofs.Common.{◌<◌, ◌/◌, length, arith}
use Rattle.ctl_form.proofs.Bits.{word_within, word_read, row_of-with_bit_held}
use Rattle.ctl_form.proofs.bit_row.BitRow.add.Goals as goal

pub index-requires : goal.index-requires
index-requires c = let within : c.args.state / 64 < length c.self.inside.words.items = word_within _ _ _ c.self.view_is c.args.state c.self.invariant c.requires in omega (arith, within)

pub index_mut-requires : goal.index_mut-requires
index_mut-requires c = let within : c.args.state / 64 < length c.self.inside.words.items = word_within _ _ _ c.self.view_is c.args.state c.self.invariant c.requires in omega (arith, within)

pub returns : goal.returns
returns c =
    let within : c.args.state / 64 < length c.self.inside.words.items = word_within _ _ _ c.self.view_is c.args.state c.self.invariant c.requires in
    let word = word_read c.self.inside.words.items (c.args.state / 64) c.index.result.now within c.index.ensures in
    rw (c.with_bit.ensures, word) (row_of-with_bit_held _ _ _ c.self.view_is c.args.state c.self.invariant c.requires)
