-- What stands around each process, as the edges are read one after another.
use Rattle.std.proofs.Common.{ℕ, ◌==◌, ◌≡◌, ◌≢◌, ◌<◌, ◌≤◌, ◌+◌, ◌⊎◌, ◌||◌, ◌∷◌, [], Bool, true, false, Option, Some, None, ◌++◌, List, length, take, get_or, Contains, below_more, count_by, arith, inl, inr, refl, sym, ◌∙◌, ap, subst, eq-eqb, ne_eqb}
use Rattle.std.proofs.lemmas.Bool.{cases_lt, cases_eq}
use Rattle.std.proofs.lemmas.List.{get_or_append_left, get_or_push, length_push}
use Rattle.std.proofs.lemmas.List.Elements.{Contains-append_left, Contains-get_or, Contains-push, Contains-push_cases}
use Rattle.std.proofs.lemmas.List.Quantifiers.{all_pairs_push}
use Rattle.std.proofs.lemmas.List.Sums.{count_by_more_yes, count_by_more_no}
use Rattle.std.proofs.Math.Seq.{take-length}
use Rattle.pair_structure.specs.inside.FirstFailing.{IsFirstFailing}
use Rattle.pair_structure.specs.declared.side.Side.{Side}
use Rattle.pair_structure.specs.declared.side.Side.TheVariants.{A, B}
use Rattle.interconnection.specs.declared.limits.TheConstants.{MAX_NEIGHBOURS}
use Rattle.pair_structure.specs.Sides.{opposite}
use Rattle.interconnection.specs.declared.parts.Beside.{Beside}
use Rattle.interconnection.specs.declared.parts.Edge.{Edge}
use Rattle.interconnection.specs.Around.{Around, HasBeside, IsGrown, IsBesideBelow, IsEdgeBelow, AreEdgesBelow, IsAround, around_at, nothing, AreEmpty, AreAroundBelow, AreAround}
use Rattle.interconnection.specs.Graph.{edge_at, end_of, joins, degree_of, AreNeighbours}
use Rattle.interconnection.specs.NetworkFault.{HasEarlier}

abbrev no_edge : Edge
no_edge = record { a = 0; b = 0; kind = 0 }

abbrev beside_by : Edge → ℕ → Side → Beside
beside_by edge e side = record { process = end_of edge (opposite side); edge = e; side = side }

-- of a process on one side alone, the side is known
same_side : (edge : Edge) (k : ℕ) (side other : Side) → end_of edge (opposite side) ≢ k → end_of edge other ≡ k → other ≡ side
same_side edge k A A differ is = refl
same_side edge k A B differ is = absurd (differ is)
same_side edge k B A differ is = absurd (differ is)
same_side edge k B B differ is = refl

either : (b : Bool) → (b || true) ≡ true
either true = refl
either false = refl

pub joins_by : (edge : Edge) (k : ℕ) (side : Side) → end_of edge side ≡ k → joins k edge ≡ true
joins_by edge k A is = rw (eq-eqb edge.a k is) refl
joins_by edge k B is = rw (eq-eqb edge.b k is) (either (edge.a == k))

pub joins_not : (edge : Edge) (k : ℕ) → edge.a ≢ k → edge.b ≢ k → joins k edge ≡ false
joins_not edge k a b = rw (ne_eqb edge.a k a, ne_eqb edge.b k b) refl

IsBesideBelow-more : (n : ℕ) (edges : List Edge) (k : ℕ) (b : Beside) → IsBesideBelow n edges k b → IsBesideBelow (n + 1) edges k b
IsBesideBelow-more n edges k b is = record { within = omega (arith, is.within); own = is.own; other = is.other }

-- one more edge is on no side of k, or on one alone
below_or_last : (n : ℕ) (edges : List Edge) (k : ℕ) (b : Beside) → IsBesideBelow (n + 1) edges k b → IsBesideBelow n edges k b ⊎ (b.edge ≡ n)
below_or_last n edges k b is =
    elim (cases_lt b.edge n) [
      | inl lt ↦ inl (record { within = lt; own = is.own; other = is.other })
      | inr ge ↦ inr (omega (arith, is.within))
    ]

-- the last edge gives its process one neighbour
last_is : (n : ℕ) (edges : List Edge) (k : ℕ) (side : Side) (b : Beside) → end_of (edge_at edges n) (opposite side) ≢ k → IsBesideBelow (n + 1) edges k b → b.edge ≡ n → b ≡ beside_by (edge_at edges n) n side
last_is n edges k side b differ is last =
    let own : end_of (edge_at edges n) b.side ≡ k = subst (λ e. end_of (edge_at edges e) b.side ≡ k) last is.own in
    let side_is : b.side ≡ side = same_side (edge_at edges n) k side b.side differ own in
    let other : end_of (edge_at edges n) (opposite b.side) ≡ b.process = subst (λ e. end_of (edge_at edges e) (opposite b.side) ≡ b.process) last is.other in
    let process_is : b.process ≡ end_of (edge_at edges n) (opposite side) = sym other ∙ ap (λ s. end_of (edge_at edges n) (opposite s)) side_is in
    λ i. record { process = process_is i; edge = last i; side = side_is i }

-- the number of one more edge, which is k's
AreEdgesBelow-push : (n : ℕ) (edges : List Edge) (k : ℕ) (side : Side) (plan : List ℕ) → n < length edges → end_of (edge_at edges n) side ≡ k → AreEdgesBelow n edges k plan → AreEdgesBelow (n + 1) edges k (plan ++ n ∷ [])
AreEdgesBelow-push n edges k side plan lt own are = record {
  rising = all_pairs_push (λ x y. x < y) plan n are.rising (λ i d within. ((are.exactly (get_or plan i d)).0 (Contains-get_or plan i d within)).0);
  exactly = λ e. (to e, from e);
  count = omega (arith, length_push plan n, are.count, count_by_more_yes (joins k) edges n no_edge lt (joins_by (edge_at edges n) k side own));
}
  where
    to : (e : ℕ) → Contains (plan ++ n ∷ []) e → IsEdgeBelow (n + 1) edges k e
    to e has = elim (Contains-push_cases plan n e has) [
      | inl before ↦ (let is = (are.exactly e).0 before in (omega (arith, is.0), is.1))
      | inr same ↦ (omega (arith, same), (side, subst (λ e. end_of (edge_at edges e) side ≡ k) same own))
    ]

    from : (e : ℕ) → IsEdgeBelow (n + 1) edges k e → Contains (plan ++ n ∷ []) e
    from e is = elim (cases_lt e n) [
      | inl below ↦ Contains-append_left plan (n ∷ []) e ((are.exactly e).1 (below, is.1))
      | inr ge ↦ (let same : n ≡ e = omega (arith, is.0) in subst (Contains (plan ++ n ∷ [])) same (Contains-push plan n))
    ]

-- one more edge, which joins k from this side
IsAround-joined : (n : ℕ) (edges : List Edge) (k : ℕ) (side : Side) (old new : Around) → n < length edges → end_of (edge_at edges n) side ≡ k → end_of (edge_at edges n) (opposite side) ≢ k
    → IsAround n edges k old → IsGrown old (beside_by (edge_at edges n) n side) new → IsAround (n + 1) edges k new
IsAround-joined n edges k side old new lt own differ around grown = record {
  ordered = grown.ordered;
  beside = λ b. (to b, from b);
  count = omega (arith, grown.count, around.count, count_by_more_yes (joins k) edges n no_edge lt (joins_by (edge_at edges n) k side own));
  plan = subst (AreEdgesBelow (n + 1) edges k) (sym grown.plan) (AreEdgesBelow-push n edges k side old.plan lt own around.plan);
}
  where
    to : (b : Beside) → Contains new.beside b → IsBesideBelow (n + 1) edges k b
    to b has = elim ((grown.beside b).0 has) [
      | inl same ↦ subst (IsBesideBelow (n + 1) edges k) (sym same) (record { within = omega arith; own = own; other = refl })
      | inr before ↦ IsBesideBelow-more n edges k b ((around.beside b).0 before)
    ]

    from : (b : Beside) → IsBesideBelow (n + 1) edges k b → Contains new.beside b
    from b is = (grown.beside b).1 (elim (below_or_last n edges k b is) [
      | inl below ↦ inr ((around.beside b).1 below)
      | inr last ↦ inl (last_is n edges k side b differ is last)
    ])

-- one more edge, which does not join k
IsAround-apart : (n : ℕ) (edges : List Edge) (k : ℕ) (around : Around) → n < length edges → (edge_at edges n).a ≢ k → (edge_at edges n).b ≢ k → IsAround n edges k around → IsAround (n + 1) edges k around
IsAround-apart n edges k around lt a b is = record {
  ordered = is.ordered;
  beside = λ x. (λ has. IsBesideBelow-more n edges k x ((is.beside x).0 has), λ more. (is.beside x).1 (before x more));
  count = is.count ∙ same_count;
  plan = record {
    rising = is.plan.rising;
    exactly = λ e. (λ has. (let by = (is.plan.exactly e).0 has in (omega (arith, by.0), by.1)), from e);
    count = is.plan.count ∙ same_count;
  };
}
  where
    same_count : count_by (joins k) (take n edges) ≡ count_by (joins k) (take (n + 1) edges)
    same_count = sym (count_by_more_no (joins k) edges n no_edge lt (joins_not (edge_at edges n) k a b))

    not_on : (side : Side) → end_of (edge_at edges n) side ≡ k → ⊥
    not_on A own = a own
    not_on B own = b own

    before : (x : Beside) → IsBesideBelow (n + 1) edges k x → IsBesideBelow n edges k x
    before x more = elim (below_or_last n edges k x more) [
      | inl below ↦ below
      | inr last ↦ absurd (not_on x.side (subst (λ e. end_of (edge_at edges e) x.side ≡ k) last more.own))
    ]

    from : (e : ℕ) → IsEdgeBelow (n + 1) edges k e → Contains around.plan e
    from e (less, (side, own)) = elim (cases_lt e n) [
      | inl below ↦ (is.plan.exactly e).1 (below, (side, own))
      | inr ge ↦ (let same : e ≡ n = omega (arith, less) in absurd (not_on side (subst (λ e. end_of (edge_at edges e) side ≡ k) same own)))
    ]

-- one more edge, which gives each of its processes the other
pub AreAroundBelow-more : (n count : ℕ) (edges : List Edge) (old new : List Around) → n < length edges → (edge_at edges n).a ≢ (edge_at edges n).b → AreAroundBelow n count edges old
    → length new ≡ length old
    → IsGrown (around_at old (edge_at edges n).a) (record { process = (edge_at edges n).b; edge = n; side = A }) (around_at new (edge_at edges n).a)
    → IsGrown (around_at old (edge_at edges n).b) (record { process = (edge_at edges n).a; edge = n; side = B }) (around_at new (edge_at edges n).b)
    → ((k : ℕ) → ((edge_at edges n).a ≡ k → ⊥) → ((edge_at edges n).b ≡ k → ⊥) → around_at new k ≡ around_at old k)
    → AreAroundBelow (n + 1) count edges new
AreAroundBelow-more n count edges old new lt differ around size a b others = record { size = size ∙ around.size; each = each }
  where
    each : (k : ℕ) → k < count → IsAround (n + 1) edges k (around_at new k)
    each k within = elim (cases_eq (edge_at edges n).a k) [
      | inl on_a ↦ IsAround-joined n edges k A (around_at old k) (around_at new k) lt on_a (λ same. differ (on_a ∙ sym same)) (around.each k within)
          (subst (λ k. IsGrown (around_at old k) (record { process = (edge_at edges n).b; edge = n; side = A }) (around_at new k)) on_a a)
      | inr off_a ↦ elim (cases_eq (edge_at edges n).b k) [
        | inl on_b ↦ IsAround-joined n edges k B (around_at old k) (around_at new k) lt on_b off_a (around.each k within)
            (subst (λ k. IsGrown (around_at old k) (record { process = (edge_at edges n).a; edge = n; side = B }) (around_at new k)) on_b b)
        | inr off_b ↦ subst (IsAround (n + 1) edges k) (sym (others k off_a off_b)) (IsAround-apart n edges k (around_at old k) lt off_a off_b (around.each k within))
      ]
    ]

-- before the first edge nothing stands around a process

IsAround-nothing : (edges : List Edge) (k : ℕ) → IsAround 0 edges k nothing
IsAround-nothing edges k = record {
  ordered = λ i j d before lt. absurd (omega (arith, lt));
  beside = λ b. (λ has. absurd (omega (arith, has.1)), λ is. absurd (omega (arith, is.within)));
  count = refl;
  plan = record {
    rising = λ i j d before lt. absurd (omega (arith, lt));
    exactly = λ e. (λ has. absurd (omega (arith, has.1)), λ is. absurd (omega (arith, is.0)));
    count = refl;
  };
}

pub AreAroundBelow-none : (count : ℕ) (edges : List Edge) (arounds : List Around) → AreEmpty count arounds → AreAroundBelow 0 count edges arounds
AreAroundBelow-none count edges arounds are = record { size = are.size; each = λ k within. subst (IsAround 0 edges k) (sym (are.each k within)) (IsAround-nothing edges k) }

-- one more process, without edges
pub AreEmpty-more : (n : ℕ) (arounds : List Around) (new : Around) → AreEmpty n arounds → new ≡ nothing → AreEmpty (n + 1) (arounds ++ new ∷ [])
AreEmpty-more n arounds new are is = record {
  size = omega (arith, length_push arounds new, are.size);
  each = below_more _ n
      (λ k lt. get_or_append_left arounds (new ∷ []) _ k (omega (arith, are.size)) ∙ are.each k lt)
      (get_or_push arounds new _ n are.size ∙ is);
}

-- an edge whose processes on this side and on the other are these
sides_either : (edge : Edge) (j k : ℕ) (side : Side) → end_of edge side ≡ k → end_of edge (opposite side) ≡ j → ((edge.a ≡ k) × (edge.b ≡ j)) ⊎ ((edge.a ≡ j) × (edge.b ≡ k))
sides_either edge j k A own other = inl (own, other)
sides_either edge j k B own other = inr (other, own)

-- the edge's second process is beside its first exactly where an earlier edge joins the two
pub HasEarlier-from_beside : (n count : ℕ) (edges : List Edge) (arounds : List Around) → AreAroundBelow n count edges arounds → (edge_at edges n).a < count
    → HasBeside (around_at arounds (edge_at edges n).a).beside (edge_at edges n).b → HasEarlier edges n
HasEarlier-from_beside n count edges arounds around within (b, has, is) =
    let by = ((around.each (edge_at edges n).a within).beside b).0 has in
    (b.edge, by.within, sides_either (edge_at edges b.edge) (edge_at edges n).b (edge_at edges n).a b.side by.own (by.other ∙ is))

pub beside_from_HasEarlier : (n count : ℕ) (edges : List Edge) (arounds : List Around) → AreAroundBelow n count edges arounds → (edge_at edges n).a < count → HasEarlier edges n
    → HasBeside (around_at arounds (edge_at edges n).a).beside (edge_at edges n).b
beside_from_HasEarlier n count edges arounds around within (e, lt, inl (a, b)) =
    let x : Beside = record { process = (edge_at edges n).b; edge = e; side = A } in
    (x, ((around.each (edge_at edges n).a within).beside x).1 (record { within = lt; own = a; other = b }), refl)
beside_from_HasEarlier n count edges arounds around within (e, lt, inr (a, b)) =
    let x : Beside = record { process = (edge_at edges n).b; edge = e; side = B } in
    (x, ((around.each (edge_at edges n).a within).beside x).1 (record { within = lt; own = b; other = a }), refl)

-- where no earlier edge joins the two, the first is not beside the second
pub not_beside : (n count : ℕ) (edges : List Edge) (arounds : List Around) → AreAroundBelow n count edges arounds → (edge_at edges n).b < count → (HasEarlier edges n → ⊥)
    → HasBeside (around_at arounds (edge_at edges n).b).beside (edge_at edges n).a → ⊥
not_beside n count edges arounds around within none (b, has, is) =
    let by = ((around.each (edge_at edges n).b within).beside b).0 has in
    none (b.edge, by.within, elim (sides_either (edge_at edges b.edge) (edge_at edges n).a (edge_at edges n).b b.side by.own (by.other ∙ is)) [ inl same ↦ inr same | inr same ↦ inl same ])

-- what stands around a process by all the edges are its neighbours, as many as its degree

pub AreNeighbours-from_around : (edges : List Edge) (k : ℕ) (around : Around) → IsAround (length edges) edges k around → AreNeighbours edges k around.beside
AreNeighbours-from_around edges k around is = record {
  rising = is.ordered;
  exactly = λ b. (
    λ has. (let by = (is.beside b).0 has in record { within = by.within; own = by.own; other = by.other }),
    λ by. (is.beside b).1 (record { within = by.within; own = by.own; other = by.other }),
  );
}

pub degree_from_around : (count : ℕ) (edges : List Edge) (arounds : List Around) (k : ℕ) → AreAround count edges arounds → k < count → length (around_at arounds k).beside ≡ degree_of edges k
degree_from_around count edges arounds k around within = (around.each k within).count ∙ ap (count_by (joins k)) (take-length edges)

-- the first process with too many beside it is the first whose degree is too high
pub degrees_from_lengths : (count : ℕ) (edges : List Edge) (arounds : List Around) (found : Option ℕ) → AreAround count edges arounds
    → IsFirstFailing (λ k. length (around_at arounds k).beside ≤ MAX_NEIGHBOURS) (length arounds) found → IsFirstFailing (λ k. degree_of edges k ≤ MAX_NEIGHBOURS) count found
degrees_from_lengths count edges arounds None around none = λ k lt. omega (arith, degree_from_around count edges arounds k around lt, none k (omega (arith, around.size)))
degrees_from_lengths count edges arounds (Some k) around (within, over, before) =
    let lt : k < count = omega (arith, around.size) in (
      lt,
      λ few. over (omega (arith, degree_from_around count edges arounds k around lt)),
      λ j below. omega (arith, degree_from_around count edges arounds j around (omega arith), before j below),
    )
