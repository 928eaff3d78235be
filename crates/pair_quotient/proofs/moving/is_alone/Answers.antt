use Rattle.std.proofs.Common.{◌≡◌, ◌∙◌, sym, ap, length, [], slice_index, slice_index_or}
use Rattle.std.proofs.lemmas.List.{get_or_default}
use Rattle.std.proofs.lemmas.Bool.{eqb-true}
use Rattle.pair_quotient.proofs.AloneLaws.{alone-of_one, listed_within}
use Rattle.pair_quotient.proofs.moving.is_alone.Goals as goal

pub list-requires : goal.list-requires
list-requires c =
    let block = c.index-block.ensures ∙ get_or_default c.args.blocks.now.classes.items c.args.state c.index-block.result.now 0 c.requires.state in
    rw block (listed_within c.args.blocks.now.members (slice_index c.args.blocks.now.classes.items c.args.state) c.args.state (c.requires.listed.listed c.args.state c.requires.state))

pub returns : goal.returns
returns c = λ one.
    let block : c.index-block.result.now ≡ slice_index c.args.blocks.now.classes.items c.args.state = c.index-block.ensures ∙ get_or_default c.args.blocks.now.classes.items c.args.state c.index-block.result.now 0 c.requires.state in
    let list : c.list.result.now ≡ slice_index_or c.args.blocks.now.members (slice_index c.args.blocks.now.classes.items c.args.state) [] = c.list.ensures ∙ ap (λ b. slice_index_or c.args.blocks.now.members b []) block in
    alone-of_one (length c.args.blocks.now.classes.items) c.args.blocks.now.classes.items c.args.blocks.now.members c.args.state c.requires.listed c.requires.state (sym (ap length list) ∙ eqb-true (length c.list.result.now) 1 one)
