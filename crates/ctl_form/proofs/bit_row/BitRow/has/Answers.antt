use Rattle.std.proofs.Common.{◌<◌, ◌/◌, length, arith}
use Rattle.ctl_form.proofs.Bits.{word_within, word_read, get_or-held}
use Rattle.ctl_form.proofs.bit_row.BitRow.has.Goals as goal

pub index-requires : goal.index-requires
index-requires c = let within : c.args.state / 64 < length c.self.inside.words.items = word_within _ _ _ c.self.view_is c.args.state c.self.invariant c.requires in omega (arith, within)

pub returns : goal.returns
returns c =
    let within : c.args.state / 64 < length c.self.inside.words.items = word_within _ _ _ c.self.view_is c.args.state c.self.invariant c.requires in
    let word = word_read c.self.inside.words.items (c.args.state / 64) c.index.result.now within c.index.ensures in
    let read = get_or-held _ _ _ c.self.view_is c.args.state c.requires in
    rw (c.bit_of.ensures, word, read) (λ h. h, λ h. h)
