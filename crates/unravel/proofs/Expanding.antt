-- A state's turn: its members are expanded one after another.
use Rattle.std.proofs.Common.{ℕ, suc, ◌≡◌, ◌<◌, ◌+◌, ◌&&◌, inl, inr, Bool, true, false, Option, Some, None, List, [], ◌∷◌, ◌++◌, length, refl, subst, sym, arith, ◌∙◌, ap, slice_get, slice_index_or}
use Rattle.std.proofs.lemmas.Bool.{and_from, and_parts}
use Rattle.std.proofs.lemmas.Option.{slice_get_within, get_or_from_slice_get}
use Rattle.pair_structure.specs.declared.side.Move.{Move}
use Rattle.pair_structure.specs.declared.side.Side.{Side}
use Rattle.ctl_form.specs.declared.part.Part.TheVariants.{Next}
use Rattle.closure_sets.specs.ClosureParts.{ClosureParts, count}
use Rattle.closure_sets.specs.Label.{part_of}
use Rattle.closure_sets.specs.Row.{Members}
use Rattle.tableau_graph.specs.Graph.{IsSomeNext, graph_of}
use Rattle.tableau_graph.specs.NodeTable.{IsNumber}
use Rattle.tableau_graph.specs.TableauParts.{edges_at, is_some_next, one_more, somes_below}
use Rattle.tableau_graph.proofs.Places.{kept_before}
use Rattle.deletion_rules.proofs.Seen.{next_of_part}
use Rattle.deletion_rules.specs.Pruned.{RankParts}
use Rattle.deletion_rules.specs.declared.position.Position.{Position}
use Rattle.unravel.specs.inside.Growing.{IsGrown, IsSideIn, IsSideOf, IsTurn, nowhere, position_at}
use Rattle.unravel.specs.inside.Pursuit.{IsGoodFor, IsPickFor}
use Rattle.unravel.specs.declared.growing.Turn.{Turn}
use Rattle.deletion_rules.specs.declared.target.Target.{Target}
use Rattle.unravel.proofs.GrowingLaws.{grown_more, grown_next, grown_skip}

counted : (b : Bool) (n : ℕ) → b ≡ true → one_more b n ≡ n + 1
counted b n e = rw e (omega arith)

module _ (c : ClosureParts) (row : Members) (i : ℕ) where
  one_below : somes_below c row (i + 1) ≡ one_more (row i && is_some_next (part_of c i)) (somes_below c row i)
  one_below = let e : i + 1 ≡ suc i = omega arith in subst (λ n. somes_below c row n ≡ one_more (row i && is_some_next (part_of c i)) (somes_below c row i)) (sym e) refl

  pub some_counted : (side : Side) (h : ℕ) → row i ≡ true → part_of c i ≡ Next false side h → somes_below c row (i + 1) ≡ somes_below c row i + 1
  some_counted side h has part = one_below ∙ counted (row i && is_some_next (part_of c i)) (somes_below c row i) (and_from (row i) (is_some_next (part_of c i)) has (ap is_some_next part))

  pub none_counted : ((side : Side) (h : ℕ) → row i ≡ true → part_of c i ≡ Next false side h → ⊥) → somes_below c row (i + 1) ≡ somes_below c row i
  none_counted none = by (row i && is_some_next (part_of c i)) refl
    where
      by : (b : Bool) → (row i && is_some_next (part_of c i)) ≡ b → somes_below c row (i + 1) ≡ somes_below c row i
      by true e = let u = and_parts (row i) (is_some_next (part_of c i)) e in let v = next_of_part (part_of c i) u.1 in absurd (none v.1 v.0 u.0 v.2)
      by false e = one_below ∙ ap (λ b. one_more b (somes_below c row i)) e

-- a member of the row has the side that its part has
pub side_is : (r : RankParts) (n i : ℕ) → n < (graph_of r.tableau).ands → (graph_of r.tableau).row n i ≡ true → (side : Option Side) → IsSideIn (part_of r.tableau.closure i) side → IsSideOf r n i side
side_is r n i node has (Some side) x = (x.0, record { node = node; member = has; part = x.1 })
side_is r n i node has None x = λ side h some. x side h some.part

number_kept : (before : List Position) (q : Position) (after : List Position) (n : ℕ) → IsNumber before q after n → (k : ℕ) (x : Position) → slice_get before k ≡ Some x → slice_get after k ≡ Some x
number_kept before q after n num k x h = elim num.grown [ inl e ↦ subst (λ ps. slice_get ps k ≡ Some x) (sym e) h | inr u ↦ subst (λ ps. slice_get ps k ≡ Some x) (sym u.1) (kept_before before (q ∷ []) k x h) ]

module _ (r : RankParts) (targets : List Target) (turn : Turn) where
  pub turn_begins : (ps : List Position) (moves : List Move) → slice_get ps turn.state ≡ Some turn.position → IsGrown r targets turn.state 0 ps moves → IsTurn r targets turn 0 0 ps moves
  turn_begins ps moves at grown = record { at = at; grown = grown; counts = refl; few = omega arith }

  module _ (i place : ℕ) (ps : List Position) (moves : List Move) (is : IsTurn r targets turn i place ps moves) where
    here : position_at ps turn.state ≡ turn.position
    here = get_or_from_slice_get ps turn.state turn.position nowhere is.at

    pub turn_within : turn.state < length ps
    turn_within = slice_get_within ps turn.state turn.position is.at

    pub turn_good : IsGoodFor r targets turn.position
    turn_good = subst (IsGoodFor r targets) here ((is.grown).good turn.state turn_within)

    -- the OR node at the place is the member's
    pub turn_or : (or : ℕ) → or ≡ slice_index_or (edges_at r.tableau.successors turn.position.node) place 0 → (graph_of r.tableau).next_or turn.position.node i ≡ or
    turn_or or e = sym (e ∙ ap (λ k. slice_index_or (edges_at r.tableau.successors turn.position.node) k 0) is.counts)

    -- a member that is no EXs h
    pub turn_skip : ((side : Side) (h : ℕ) → IsSomeNext r.tableau.closure (graph_of r.tableau) turn.position.node i side h → ⊥) → turn.position.node < (graph_of r.tableau).ands → IsTurn r targets turn (i + 1) place ps moves
    turn_skip none node = record {
      at = is.at;
      grown = grown_skip r targets turn.state i ps moves is.grown turn_within (λ side h some. none side h (subst (λ (p : Position). IsSomeNext r.tableau.closure (graph_of r.tableau) p.node i side h) here some));
      counts = is.counts ∙ sym (none_counted r.tableau.closure ((graph_of r.tableau).row turn.position.node) i (λ side h has part. none side h (record { node = node; member = has; part = part })));
      few = (let f = is.few in omega (arith, f));
    }

    -- a member with its step
    pub turn_more : (side : Side) (h : ℕ) → IsSomeNext r.tableau.closure (graph_of r.tableau) turn.position.node i side h → (q : Position) → IsPickFor r targets turn.position i q → (more : List Position) (n : ℕ) → IsNumber ps q more n → (moves' : List Move) → moves' ≡ moves ++ record { from = turn.state; side = side; to = n } ∷ [] → IsTurn r targets turn (i + 1) (place + 1) more moves'
    turn_more side h some q pick more n num moves' e = record {
      at = number_kept ps q more n num turn.state turn.position is.at;
      grown = subst (λ ms. IsGrown r targets turn.state (i + 1) more ms) (sym e) (grown_more r targets turn.state i ps moves is.grown turn_within side h (subst (λ (p : Position). IsSomeNext r.tableau.closure (graph_of r.tableau) p.node i side h) (sym here) some) q (subst (λ p. IsPickFor r targets p i q) (sym here) pick) more n num);
      counts = ap (λ k. k + 1) is.counts ∙ sym (some_counted r.tableau.closure ((graph_of r.tableau).row turn.position.node) i side h some.member some.part);
      few = (let f = is.few in omega (arith, f));
    }

  pub turn_ends : (i place : ℕ) (ps : List Position) (moves : List Move) → IsTurn r targets turn i place ps moves → i ≡ count r.tableau.closure → IsGrown r targets (turn.state + 1) 0 ps moves
  turn_ends i place ps moves is e = grown_next r targets turn.state ps moves (subst (λ k. IsGrown r targets turn.state k ps moves) e is.grown)
