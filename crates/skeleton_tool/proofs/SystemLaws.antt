-- The structures of a solution that was read make a system: a text within its limit has few states.
use Rattle.std.proofs.Common.{ℕ, zero, suc, ◌≡◌, ◌<◌, ◌≤◌, ◌+◌, ◌^◌, List, [], ◌∷◌, ◌++◌, length, map, refl, sym, subst, arith, get_or, length-append}
use Rattle.std.specs.List.{flat_map}
use Rattle.std.proofs.Math.ListN.{get_or-map}
use Rattle.std.proofs.lemmas.List.{length-map}
use Rattle.pair_structure.specs.Role.{RoleParts}
use Rattle.pair_structure.specs.Structure.{Structure, IsOver}
use Rattle.ctl_form.specs.declared.pair_spec.PairSpec.{PairSpec}
use Rattle.ctl_form.specs.Kind.{role_at}
use Rattle.ctl_text.specs.FormulaText.{Names}
use Rattle.ctl_text.specs.Value.{SpecParts, kind_at, kind_ends, network_of}
use Rattle.interconnection.specs.Network.{ends_of}
use Rattle.conjunctive_compose.specs.System.{HasStructures, role_a, role_b, structure_of}
use Rattle.solution_text.specs.Failing.{structure_at}
use Rattle.solution_text.specs.Item.{end_line, done_line, head_line, kind_line}
use Rattle.solution_text.specs.SolutionText.{AreOver, item_text, state_text, move_text, structure_text, kind_text, kinds_text, solution_text}
use Rattle.solution_text.proofs.OneText.{one_text}
use Rattle.solution_text.proofs.Satisfied.{over_at, over_count}
use Rattle.skeleton_tool.specs.Answer.{solution_grammar}
use Rattle.skeleton_tool.specs.Reading.{IsRead}
use Rattle.skeleton_tool.specs.Taking.{Files}

-- each state has a line
state_lines : (a b : Names) (states : List (ℕ × ℕ)) → length states ≤ length (flat_map (state_text a b) states)
state_lines a b [] = omega arith
state_lines a b (label ∷ states) =
    let both = length-append (state_text a b label) (flat_map (state_text a b) states) in
    let feed : 1 ≤ length (state_text a b label) = omega (arith, length-append {A = ℕ}) in
    let later = state_lines a b states in
    omega arith

structure_lines : (name : List ℕ) (a b : RoleParts) (m : Structure) → length m.states ≤ length (kind_text name a b m)
structure_lines name a b m =
    let states = state_lines a.locals b.locals m.states in
    let body = length-append (flat_map (state_text a.locals b.locals) m.states) (flat_map move_text m.moves) in
    let ended = length-append (structure_text a.locals b.locals m) (item_text end_line) in
    let headed = length-append (item_text (kind_line name)) (structure_text a.locals b.locals m ++ item_text end_line) in
    omega arith

kind_lines : (roles : List RoleParts) (kinds : List PairSpec) (structures : List Structure) (k : ℕ) → AreOver roles kinds structures → k < length kinds → length (structure_at structures k).states ≤ length (kinds_text roles kinds structures)
kind_lines roles [] structures k over lt = absurd (omega arith)
kind_lines roles (kind ∷ kinds) [] k over lt = absurd over
kind_lines roles (kind ∷ kinds) (m ∷ structures) zero over lt =
    let a = role_at roles kind.role_a in
    let b = role_at roles kind.role_b in
    let here = structure_lines kind.name a b m in
    let both = length-append (kind_text kind.name a b m) (kinds_text roles kinds structures) in
    omega arith
kind_lines roles (kind ∷ kinds) (m ∷ structures) (suc k) over lt =
    let later = kind_lines roles kinds structures k over.1 (omega arith) in
    let both = length-append (kind_text kind.name (role_at roles kind.role_a) (role_at roles kind.role_b) m) (kinds_text roles kinds structures) in
    omega arith

few_states : (files : Files) (v : SpecParts) (file : List ℕ) (structures : List Structure) (k : ℕ) → AreOver v.roles v.kinds structures → IsRead (solution_grammar v) files file structures → k < length v.kinds → length (structure_at structures k).states < 2 ^ 32
few_states files v file structures k over read lt =
    let lines = kind_lines v.roles v.kinds structures k over lt in
    let text = kinds_text v.roles v.kinds structures in
    let ended = length-append text (item_text done_line) in
    let whole = length-append (item_text head_line) (text ++ item_text done_line) in
    let same : length read.bytes ≡ length (solution_text v.roles v.kinds structures) = rw (one_text v.roles v.kinds read.bytes structures read.text) refl in
    let within = read.given.within in
    omega arith

ends_at : (kinds : List PairSpec) (k : ℕ) → ends_of (kind_ends kinds) k ≡ ((kind_at kinds k).role_a, (kind_at kinds k).role_b)
ends_at kinds k = get_or-map (λ (kind : PairSpec). (kind.role_a, kind.role_b)) kinds k (record { name = []; role_a = 0; role_b = 0; clauses = [] })

pub has_structures : (files : Files) (v : SpecParts) (file : List ℕ) (structures : List Structure) → AreOver v.roles v.kinds structures → IsRead (solution_grammar v) files file structures → HasStructures (network_of v) structures
has_structures files v file structures over read =
    let count : length (kind_ends v.kinds) ≡ length v.kinds = length-map v.kinds (λ (kind : PairSpec). (kind.role_a, kind.role_b)) in
    let each = over_count v.roles v.kinds structures over in
    record {
      one_each = omega arith;
      over = λ kind lt. rw (ends_at v.kinds kind) (over_at v.roles v.kinds structures kind over (omega arith));
      few = λ kind lt. few_states files v file structures kind over read (omega arith);
    }
