use Rattle.std.proofs.Common.{ℕ, ◌≡◌, ◌<◌, ◌+◌, List, [], length, arith, refl, sym, ◌∙◌, ap, subst, get_or, set}
use Rattle.conjunctive_compose.proofs.Edges.{edge_kind}
use Rattle.conjunctive_compose.proofs.Starts.{start_is_proper}
use Rattle.conjunctive_compose.specs.System.{edge_at}
use Rattle.conjunctive_compose.specs.Whole.{HasPair, IsProper, WholeParts, start_of}
use Rattle.interconnection.specs.declared.parts.Edge.{Edge}
use Rattle.waitfor_check.specs.inside.Begins.{AreBeginsBelow, IsWith, begins_at}
use Rattle.interconnection.specs.Network.{NetworkParts}
use Rattle.std.proofs.lemmas.List.{get_or_default}
use Rattle.waitfor_check.proofs.Beginnings.{edge_more}
use Rattle.waitfor_check.proofs.begins.add_begin.Goals as goal

pub returns : goal.returns
returns c =
    let sys = c.args.system.now in
    let system = c.network.ensures.system in
    let kind_in = edge_kind sys c.args.edge system c.requires.edge in
    let same : (get_or c.edges.result.now c.args.edge (record { a = 0; b = 0; kind = 0 })).kind ≡ (edge_at sys c.args.edge).kind = ap {B = ℕ} (λ (edges : List Edge). (get_or edges c.args.edge (record { a = 0; b = 0; kind = 0 })).kind) (c.edges.ensures.edges ∙ ap {B = List Edge} (λ (net : NetworkParts). net.edges) c.network.ensures.network) in
    let pair = subst (λ (w : WholeParts). HasPair sys w c.args.edge c.pair_state-state.result) c.requires.start c.pair_state-state.ensures in
    let with : IsWith c.pair_state-state.result (begins_at c.args.begins.now (edge_at sys c.args.edge).kind) c.push_new.new.list = subst (λ (l : List ℕ). IsWith c.pair_state-state.result l c.push_new.new.list) (get_or_default c.args.begins.now (get_or c.edges.result.now c.args.edge (record { a = 0; b = 0; kind = 0 })).kind c.index-begins-kind.result [] (omega (arith, same, kind_in, c.requires.begins.size)) ∙ ap {B = List ℕ} (begins_at c.args.begins.now) same) c.in_ok-push_new.ensures in
    subst (λ (k : ℕ). AreBeginsBelow sys (c.args.edge + 1) (set c.args.begins.now k c.push_new.new.list)) (sym same) (edge_more sys c.args.edge c.pair_state-state.result c.args.begins.now c.push_new.new.list c.requires.edge pair (omega (arith, kind_in, c.requires.begins.size)) c.requires.begins with)
