-- The labels of each process's edges, as the edges are read one after another.
use Rattle.std.proofs.Common.{ℕ, ◌≡◌, ◌≢◌, ◌<◌, ◌≤◌, ◌+◌, ◌∷◌, ◌++◌, ◌⊎◌, [], true, false, cond, List, length, take, map, arith, inl, inr, refl, sym, ◌∙◌, ap, subst, eq-eqb, ne_eqb}
use Rattle.std.specs.Prelude.{filter}
use Rattle.std.specs.List.Sorted.{IsNonDecreasingBy, IsPermutation}
use Rattle.std.proofs.lemmas.Bool.{cases_eq}
use Rattle.std.proofs.lemmas.List.{map-append, length-map, take_all, take_more, append-nil}
use Rattle.std.proofs.lemmas.List.Elements.{filter-append}
use Rattle.std.proofs.lemmas.List.Sums.{length-filter}
use Rattle.pair_structure.specs.declared.side.Side.{Side}
use Rattle.pair_structure.specs.declared.side.Side.TheVariants.{A, B}
use Rattle.pair_structure.specs.Lists.{list_at}
use Rattle.interconnection.specs.declared.parts.Edge.{Edge}
use Rattle.interconnection.specs.Graph.{degree_of, edge_at, joins}
use Rattle.interconnection.specs.inside.Labels.{AreLabels, AreRead}
use Rattle.interconnection.specs.Network.{JoinsTwo}
use Rattle.interconnection.specs.Shape.{label_of, labels_of, rank}
use Rattle.interconnection.proofs.Besides.{joins_by, joins_not}

abbrev no_edge : Edge
no_edge = record { a = 0; b = 0; kind = 0 }

-- as many labels as edges
pub length-labels_of : (edges : List Edge) (k : ℕ) → length (labels_of edges k) ≡ degree_of edges k
length-labels_of edges k = length-map (filter (joins k) edges) (label_of k) ∙ length-filter (joins k) edges

-- what one edge adds
abbrev added : ℕ → Edge → List (ℕ × Side)
added k edge = map (label_of k) (filter (joins k) (edge ∷ []))

labels_more : (edges : List Edge) (n k : ℕ) → n < length edges → labels_of (take (n + 1) edges) k ≡ labels_of (take n edges) k ++ added k (edge_at edges n)
labels_more edges n k lt =
    ap (λ es. labels_of es k) (take_more edges n no_edge lt)
    ∙ ap (map (label_of k)) (filter-append (joins k) (take n edges) (edge_at edges n ∷ []))
    ∙ map-append (label_of k) (filter (joins k) (take n edges)) (filter (joins k) (edge_at edges n ∷ []))

kept : (k : ℕ) (edge : Edge) → joins k edge ≡ true → filter (joins k) (edge ∷ []) ≡ edge ∷ []
kept k edge is = rw is refl

dropped : (k : ℕ) (edge : Edge) → joins k edge ≡ false → filter (joins k) (edge ∷ []) ≡ []
dropped k edge is = rw is refl

added_a : (edge : Edge) (k : ℕ) → edge.a ≡ k → added k edge ≡ (edge.kind, A) ∷ []
added_a edge k is = ap (map (label_of k)) (kept k edge (joins_by edge k A is)) ∙ ap (λ b. (edge.kind, cond b A B) ∷ []) (eq-eqb edge.a k is)

added_b : (edge : Edge) (k : ℕ) → edge.a ≢ k → edge.b ≡ k → added k edge ≡ (edge.kind, B) ∷ []
added_b edge k differ is = ap (map (label_of k)) (kept k edge (joins_by edge k B is)) ∙ ap (λ b. (edge.kind, cond b A B) ∷ []) (ne_eqb edge.a k differ)

added_none : (edge : Edge) (k : ℕ) → edge.a ≢ k → edge.b ≢ k → added k edge ≡ []
added_none edge k a b = ap (map (label_of k)) (dropped k edge (joins_not edge k a b))

-- one more edge
pub AreRead-more : (n count : ℕ) (edges : List Edge) (old new : List (List (ℕ × Side))) → n < length edges → JoinsTwo (edge_at edges n) → AreRead n count edges old → length new ≡ length old
    → list_at new (edge_at edges n).a ≡ list_at old (edge_at edges n).a ++ ((edge_at edges n).kind, A) ∷ []
    → list_at new (edge_at edges n).b ≡ list_at old (edge_at edges n).b ++ ((edge_at edges n).kind, B) ∷ []
    → ((k : ℕ) → ((edge_at edges n).a ≡ k → ⊥) → ((edge_at edges n).b ≡ k → ⊥) → list_at new k ≡ list_at old k) → AreRead (n + 1) count edges new
AreRead-more n count edges old new lt differ read size a b others = record { size = size ∙ read.size; labels = λ k within. by k (read.labels k within) (cases_eq (edge_at edges n).a k) (cases_eq (edge_at edges n).b k) }
  where
    join : (k : ℕ) (more : List (ℕ × Side)) → list_at old k ≡ labels_of (take n edges) k → list_at new k ≡ list_at old k ++ more → added k (edge_at edges n) ≡ more → list_at new k ≡ labels_of (take (n + 1) edges) k
    join k more before grown is = grown ∙ ap (λ ls. ls ++ more) before ∙ ap (λ ls. labels_of (take n edges) k ++ ls) (sym is) ∙ sym (labels_more edges n k lt)

    by : (k : ℕ) → list_at old k ≡ labels_of (take n edges) k → ((edge_at edges n).a ≡ k) ⊎ ((edge_at edges n).a ≡ k → ⊥) → ((edge_at edges n).b ≡ k) ⊎ ((edge_at edges n).b ≡ k → ⊥) → list_at new k ≡ labels_of (take (n + 1) edges) k
    by k before (inl isa) c = join k (((edge_at edges n).kind, A) ∷ []) before (subst (λ k. list_at new k ≡ list_at old k ++ ((edge_at edges n).kind, A) ∷ []) isa a) (added_a (edge_at edges n) k isa)
    by k before (inr nota) (inl isb) = join k (((edge_at edges n).kind, B) ∷ []) before (subst (λ k. list_at new k ≡ list_at old k ++ ((edge_at edges n).kind, B) ∷ []) isb b) (added_b (edge_at edges n) k nota isb)
    by k before (inr nota) (inr notb) = join k [] before (others k nota notb ∙ sym (append-nil (list_at old k))) (added_none (edge_at edges n) k nota notb)

-- sorted after they are read
pub AreLabels-from_read : (count : ℕ) (edges : List Edge) (old new : List (List (ℕ × Side))) → AreRead (length edges) count edges old → length new ≡ length old
    → ((k : ℕ) → k < length old → IsPermutation (list_at old k) (list_at new k)) → ((k : ℕ) → k < length old → IsNonDecreasingBy rank (list_at new k)) → AreLabels count edges new
AreLabels-from_read count edges old new read size same sorted = record {
  size = size ∙ read.size;
  same = λ k lt. subst (λ ls. IsPermutation ls (list_at new k)) (read.labels k lt ∙ ap (λ es. labels_of es k) (take_all (length edges) edges (omega arith))) (same k (omega (arith, lt, read.size)));
  sorted = λ k lt. sorted k (omega (arith, lt, read.size));
}

-- one more list sorted
pub permuted_more : (start old new : List (List (ℕ × Side))) (k : ℕ) → ((j : ℕ) → j < k → IsPermutation (list_at start j) (list_at old j)) → ((j : ℕ) → k ≤ j → list_at old j ≡ list_at start j)
    → IsPermutation (list_at old k) (list_at new k) → ((j : ℕ) → (k ≡ j → ⊥) → list_at new j ≡ list_at old j) → (j : ℕ) → j < k + 1 → IsPermutation (list_at start j) (list_at new j)
permuted_more start old new k same rest here elsewhere j lt = elim (cases_eq k j) [
  | inl is ↦ (let at : IsPermutation (list_at start k) (list_at new k) = subst (λ ls. IsPermutation ls (list_at new k)) (rest k (omega arith)) here in subst (λ j. IsPermutation (list_at start j) (list_at new j)) is at)
  | inr differ ↦ subst (IsPermutation (list_at start j)) (sym (elsewhere j differ)) (same j (omega arith))
]

pub sorted_more : (old new : List (List (ℕ × Side))) (k : ℕ) → ((j : ℕ) → j < k → IsNonDecreasingBy rank (list_at old j)) → IsNonDecreasingBy rank (list_at new k) → ((j : ℕ) → (k ≡ j → ⊥) → list_at new j ≡ list_at old j) → (j : ℕ) → j < k + 1 → IsNonDecreasingBy rank (list_at new j)
sorted_more old new k sorted here elsewhere j lt = elim (cases_eq k j) [
  | inl is ↦ subst (λ j. IsNonDecreasingBy rank (list_at new j)) is here
  | inr differ ↦ subst (IsNonDecreasingBy rank) (sym (elsewhere j differ)) (sorted j (omega arith))
]
