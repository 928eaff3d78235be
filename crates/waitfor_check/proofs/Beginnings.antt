-- The states in which pairs of each kind may begin, edge by edge.
use Rattle.std.proofs.Common.{ℕ, ◌≡◌, ◌<◌, ◌≤◌, ◌+◌, ◌^◌, ◌⊎◌, ◌↔◌, inl, inr, List, [], ◌∷◌, ◌++◌, length, length-set, get_or, set, get_or-set_same, get_or-set_other, arith, refl, sym, ◌∙◌, ap, subst, Contains}
use Rattle.std.proofs.lemmas.Bool.{cases_eq, cases_lt}
use Rattle.std.proofs.lemmas.List.{get_or_past}
use Rattle.std.proofs.lemmas.List.Elements.{Contains-append_left, Contains-append_right, Contains-append_cases}
use Rattle.conjunctive_compose.proofs.Filters.{Contains-cases}
use Rattle.conjunctive_compose.proofs.Pairs.{one_pair}
use Rattle.conjunctive_compose.specs.System.{IsSystem, SystemParts, edge_at, edge_count}
use Rattle.conjunctive_compose.specs.Whole.{HasPair, start_of}
use Rattle.interconnection.proofs.EdgeCount.{few_edges as edges_of_few}
use Rattle.interconnection.specs.declared.limits.TheConstants.{MAX_NEIGHBOURS}
use Rattle.interconnection.specs.Network.{IsNetwork, NetworkParts}
use Rattle.waitfor_check.proofs.Distinct.{Differ-append}
use Rattle.waitfor_check.specs.inside.Begins.{AreBeginsBelow, AreZeros, BeginsBelow, IsWith, begins_at}
use Rattle.waitfor_check.specs.inside.Walk.{Differ}

pub few_edges : (net : NetworkParts) → IsNetwork net → length net.edges < 2 ^ 32
few_edges net lawful = let few = edges_of_few net MAX_NEIGHBOURS lawful lawful.degrees in omega (arith, few, lawful.few_processes)

-- the number behind the others
pub with_new : (x : ℕ) (old : List ℕ) → (Contains old x → ⊥) → IsWith x old (old ++ x ∷ [])
with_new x old new = record {
  exact = λ y. (
    λ has. elim (Contains-append_cases old (x ∷ []) y has) [ inl l ↦ inl l | inr r ↦ elim (Contains-cases x [] y r) [ inl e ↦ inr (sym e) | inr l ↦ absurd (omega (arith, l.1)) ] ],
    λ either. elim either [ inl l ↦ Contains-append_left old (x ∷ []) y l | inr e ↦ Contains-append_right old (x ∷ []) y (0, omega arith, sym e) ],
  );
  differ = λ differ. Differ-append old (x ∷ []) differ ((λ none. omega (arith, none.1)), tt) (λ z here there. elim (Contains-cases x [] z there) [ inl e ↦ new (subst (Contains old) (sym e) here) | inr l ↦ absurd (omega (arith, l.1)) ]);
}

pub with_old : (x : ℕ) (old : List ℕ) → Contains old x → IsWith x old old
with_old x old has = record {
  exact = λ y. (λ l. inl l, λ either. elim either [ inl l ↦ l | inr e ↦ subst (Contains old) (sym e) has ]);
  differ = λ differ. differ;
}

pub no_edges : (sys : SystemParts) (begins : List (List ℕ)) → length begins ≡ length sys.network.ends → AreZeros begins → AreBeginsBelow sys 0 begins
no_edges sys begins size zeros = record {
  size = size;
  exact = λ kind s lt. subst (λ (list : List ℕ). Contains list s ↔ BeginsBelow sys 0 kind s) (sym (zeros kind (omega (arith, lt, size)))) (
    λ has. elim (Contains-cases 0 [] s has) [ inl e ↦ inl (sym e) | inr l ↦ absurd (omega (arith, l.1)) ],
    λ either. elim either [ inl e ↦ (0, omega arith, sym e) | inr b ↦ absurd (omega (arith, b.1)) ],
  );
  differ = λ kind. elim (cases_lt kind (length begins)) [
    | inl lt ↦ subst (λ (list : List ℕ). Differ list) (sym (zeros kind lt)) (λ has. omega (arith, has.1), tt)
    | inr out ↦ subst (λ (list : List ℕ). Differ list) (sym (get_or_past begins kind [] out)) tt
  ];
}

-- one edge more, whose pair is in state s in the start
pub edge_more : (sys : SystemParts) (e s : ℕ) (begins : List (List ℕ)) (list : List ℕ) → e < edge_count sys → HasPair sys (start_of sys) e s → (edge_at sys e).kind < length begins → AreBeginsBelow sys e begins → IsWith s (begins_at begins (edge_at sys e).kind) list
    → AreBeginsBelow sys (e + 1) (set begins (edge_at sys e).kind list)
edge_more sys e s begins list lt pair in' are with = record {
  size = length-set begins (edge_at sys e).kind list ∙ are.size;
  exact = λ kind x in''. elim (cases_eq kind (edge_at sys e).kind) [
    | inl same ↦ subst (λ (k : ℕ). Contains (begins_at (set begins (edge_at sys e).kind list) k) x ↔ BeginsBelow sys (e + 1) k x) (sym same) (here x)
    | inr other ↦ there kind x in'' other
  ];
  differ = λ kind. elim (cases_eq kind (edge_at sys e).kind) [
    | inl same ↦ subst (λ (k : ℕ). Differ (begins_at (set begins (edge_at sys e).kind list) k)) (sym same) (subst (λ (l : List ℕ). Differ l) (sym set_here) (with.differ (are.differ (edge_at sys e).kind)))
    | inr other ↦ subst (λ (l : List ℕ). Differ l) (sym (get_or-set_other begins (edge_at sys e).kind kind list [] other)) (are.differ kind)
  ];
}
  where
    set_here : begins_at (set begins (edge_at sys e).kind list) (edge_at sys e).kind ≡ list
    set_here = get_or-set_same begins (edge_at sys e).kind list [] in'

    more : (k x : ℕ) → BeginsBelow sys e k x → BeginsBelow sys (e + 1) k x
    more k x (inl zero) = inl zero
    more k x (inr (f, lt', kind, pair')) = inr (f, omega (arith, lt'), kind, pair')

    fewer : (k x : ℕ) → BeginsBelow sys (e + 1) k x → BeginsBelow sys e k x ⊎ (((edge_at sys e).kind ≡ k) × HasPair sys (start_of sys) e x)
    fewer k x (inl zero) = inl (inl zero)
    fewer k x (inr (f, lt', kind, pair')) = elim (cases_eq f e) [
      | inl same ↦ inr (subst (λ (f : ℕ). (edge_at sys f).kind ≡ k) same kind, subst (λ (f : ℕ). HasPair sys (start_of sys) f x) same pair')
      | inr other ↦ inl (inr (f, omega (arith, lt', other), kind, pair'))
    ]

    here : (x : ℕ) → Contains (begins_at (set begins (edge_at sys e).kind list) (edge_at sys e).kind) x ↔ BeginsBelow sys (e + 1) (edge_at sys e).kind x
    here x =
        let old = are.exact (edge_at sys e).kind x (omega (arith, in', are.size)) in
        subst (λ (l : List ℕ). Contains l x ↔ BeginsBelow sys (e + 1) (edge_at sys e).kind x) (sym set_here) (
          λ has. elim ((with.exact x).0 has) [ inl l ↦ more (edge_at sys e).kind x (old.0 l) | inr same ↦ inr (e, omega arith, refl, subst (HasPair sys (start_of sys) e) (sym same) pair) ],
          λ below. (with.exact x).1 (elim (fewer (edge_at sys e).kind x below) [ inl l ↦ inl (old.1 l) | inr last ↦ inr (one_pair sys (start_of sys) e x s last.1 pair) ]),
        )

    there : (kind x : ℕ) → kind < length sys.network.ends → (kind ≡ (edge_at sys e).kind → ⊥) → Contains (begins_at (set begins (edge_at sys e).kind list) kind) x ↔ BeginsBelow sys (e + 1) kind x
    there kind x within other = subst (λ (l : List ℕ). Contains l x ↔ BeginsBelow sys (e + 1) kind x) (sym (get_or-set_other begins (edge_at sys e).kind kind list [] other)) (
      λ has. more kind x ((are.exact kind x within).0 has),
      λ below. elim (fewer kind x below) [ inl l ↦ (are.exact kind x within).1 l | inr last ↦ absurd (other (sym last.0)) ],
    )
