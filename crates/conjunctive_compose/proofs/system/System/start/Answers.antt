use Rattle.std.proofs.Common.{ℕ, sym, subst, List, length, replicate, ap, ◌∙◌}
use Rattle.interconnection.specs.declared.parts.Edge.{Edge}
use Rattle.conjunctive_compose.specs.System.{IsSystem, SystemParts, edge_count}
use Rattle.conjunctive_compose.specs.Whole.{IsProper, start_of}
use Rattle.conjunctive_compose.proofs.Setting.{same_whole}
use Rattle.conjunctive_compose.proofs.Starts.{start_is_proper}
use Rattle.conjunctive_compose.proofs.system.System.start.Goals as goal

pub returns-clause-proper : goal.returns-clause-proper
returns-clause-proper c =
    let sys = c.args.self.now in
    let lawful : IsSystem sys = subst IsSystem c.self.view_is c.self.invariant in
    let is = same_whole _ (start_of sys).locals _ (start_of sys).shared c.in_ok-locals.ensures (c.in_ok-shared.ensures ∙ ap {B = List ℕ} (λ (edges : List Edge). replicate {A = ℕ} (length edges) 0) c.edges.ensures.edges ∙ ap {B = List ℕ} (λ (sys : SystemParts). replicate {A = ℕ} (edge_count sys) 0) c.self.view_is) in
    subst (IsProper sys) (sym is) (start_is_proper sys lawful).proper
