use Rattle.std.proofs.Common.{ℕ, ◌<◌, ◌≤◌, length, List, refl, subst, sym, ◌∙◌, arith, slice_index_or}
use Rattle.std.proofs.lemmas.List.{take_all}
use Rattle.ctl_form.specs.declared.limits.TheConstants.{MAX_MEMBERS}
use Rattle.closure_sets.specs.ClosureParts.{count}
use Rattle.closure_sets.specs.Row.{set_of}
use Rattle.tableau_graph.proofs.Roots.{IsSetOf, set_of_none, set_of_step}
use Rattle.tableau_graph.proofs.growing.root_row.Goals as goal

pub add-requires : goal.add-requires
add-requires c =
    let few : count c.args.c.now ≤ MAX_MEMBERS = c.tell_members.ensures.numbering.few in
    let same = c.roots-root-items.ensures.same in
    let i = c.loop-root.root-index in
    let within : i < length c.args.c.now.roots = subst (λ (l : List ℕ). i < length l) same c.loop-root-test.true in
    let lt : slice_index_or c.roots-root-items.result.now i 0 < count c.args.c.now = subst (λ (l : List ℕ). slice_index_or l i 0 < count c.args.c.now) (sym same) (c.roots-root-items.ensures.members i 0 within) in
    omega (arith, lt, few)

pub loop-root-init : goal.loop-root-init
loop-root-init c = set_of_none (set_of c.empty-row.result.words) c.empty-row.ensures

pub loop-root-preserved : goal.loop-root-preserved
loop-root-preserved c =
    let roots = c.roots-root-items.result.now in
    set_of_step roots c.loop-root.root-index (slice_index_or roots c.loop-root.root-index 0) 0 (set_of c.loop-root.row.words) (set_of c.add.new.self.words) c.loop-root-test.true refl c.loop-root.invariant c.add.ensures

pub returns : goal.returns
returns c = subst (λ (l : List ℕ). IsSetOf l (set_of c.loop-root.row.words)) (take_all c.loop-root.root-index c.roots-root-items.result.now c.loop-root-test.false ∙ c.roots-root-items.ensures.same) c.loop-root.invariant
