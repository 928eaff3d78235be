-- Edges counted and found in the lists of the processes beside each process.
use Rattle.std.proofs.Common.{ℕ, zero, suc, ◌≡◌, ◌+◌, ◌⊎◌, ◌↔◌, inl, inr, Bool, true, false, ◌==◌, ◌||◌, List, [], ◌∷◌, ◌++◌, length, Contains, cond, refl, sym, ap, subst, slice_index_or, nat_le, IsTrue, ◌≤◌, ◌∙◌, arith, append_assoc, append-nil}
use Rattle.std.proofs.lemmas.Bool.{eq-eqb, eqb-true}
use Rattle.std.proofs.lemmas.List.Elements.{Contains-append_cases, Contains-append_left, Contains-append_right}
use Rattle.std.proofs.lemmas.Bool.Decides.{nat_tests}
use Rattle.std.proofs.lemmas.List.Recursion.{is_count_by}
use Rattle.interconnection.specs.declared.parts.Edge.{Edge}
use Rattle.interconnection.specs.Graph.{joins, degree_of}
use Rattle.interconnection.specs.Graph.{AreJoined}
use Rattle.interconnection.specs.inside.EdgeTable.{other_end, other_ends, IsEdgeTable}

abbrev pub row : List (List ℕ) → ℕ → List ℕ
row rows k = slice_index_or rows k []

-- one edge more
pub other_ends-append : (edges : List Edge) (e : Edge) (k : ℕ) → other_ends (edges ++ e ∷ []) k ≡ other_ends edges k ++ other_end k e
other_ends-append [] e k = append-nil (other_end k e)
other_ends-append (x ∷ edges) e k = ap (λ rest. other_end k x ++ rest) (other_ends-append edges e k) ∙ sym (append_assoc (other_end k x) (other_ends edges k) (other_end k e))

one_end : (a b : Bool) (x y : ℕ) (rest : List ℕ) → length (cond a (x ∷ []) (cond b (y ∷ []) []) ++ rest) ≡ cond (a || b) (1 + length rest) (length rest)
one_end true b x y rest = omega arith
one_end false true x y rest = omega arith
one_end false false x y rest = refl

-- as many are beside a process as it has edges
pub other_ends-length : (edges : List Edge) (k : ℕ) → length (other_ends edges k) ≡ degree_of edges k
other_ends-length edges k = is_count_by (λ es. length (other_ends es k)) (joins k) refl (λ e es. one_end (e.a == k) (e.b == k) e.b e.a (other_ends es k)) edges

abbrev Joins : ℕ → ℕ → ℕ → ℕ → Type 0
Joins a b p q = ((a ≡ p) × (b ≡ q)) ⊎ ((a ≡ q) × (b ≡ p))

only_one : (x q : ℕ) → Contains (x ∷ []) q → x ≡ q
only_one x q (zero, lt, is) = is
only_one x q (suc i, lt, is) = absurd (omega arith)

ends_join : (a b p q : ℕ) (t u : Bool) → (a == p) ≡ t → (b == p) ≡ u → Contains (cond t (b ∷ []) (cond u (a ∷ []) [])) q → Joins a b p q
ends_join a b p q true u e f h = inl (eqb-true a p e, only_one b q h)
ends_join a b p q false true e f h = inr (only_one a q h, eqb-true b p f)
ends_join a b p q false false e f (i, lt, is) = absurd (omega arith)

join_ends : (a b p q : ℕ) (t u : Bool) → (a == p) ≡ t → (b == p) ≡ u → Joins a b p q → Contains (cond t (b ∷ []) (cond u (a ∷ []) [])) q
join_ends a b p q true u e f (inl h) = (0, omega arith, h.1)
join_ends a b p q true u e f (inr h) = (0, omega arith, h.1 ∙ sym (eqb-true a p e) ∙ h.0)
join_ends a b p q false u e f (inl h) = absurd (let yes = eq-eqb a p h.0 in cc)
join_ends a b p q false true e f (inr h) = (0, omega arith, h.0)
join_ends a b p q false false e f (inr h) = absurd (let yes = eq-eqb b p h.1 in cc)

pub other_ends_joined : (edges : List Edge) (p q : ℕ) → Contains (other_ends edges p) q → AreJoined edges p q
other_ends_joined [] p q (i, lt, is) = absurd (omega arith)
other_ends_joined (e ∷ edges) p q h = elim (Contains-append_cases (other_end p e) (other_ends edges p) q h) [
  | inl here ↦ (0, e, omega arith, refl, ends_join e.a e.b p q (e.a == p) (e.b == p) refl refl here)
  | inr there ↦ further (other_ends_joined edges p q there)
]
  where
    further : AreJoined edges p q → AreJoined (e ∷ edges) p q
    further (i, x, lt, is, meet) = (suc i, x, omega arith, is, meet)

pub joined_other_ends : (edges : List Edge) (p q : ℕ) → AreJoined edges p q → Contains (other_ends edges p) q
joined_other_ends [] p q (i, x, lt, is, meet) = absurd (omega arith)
joined_other_ends (e ∷ edges) p q (zero, x, lt, is, meet) =
    Contains-append_left (other_end p e) (other_ends edges p) q (join_ends e.a e.b p q (e.a == p) (e.b == p) refl refl (subst (λ (x : Edge). Joins x.a x.b p q) (sym is) meet))
joined_other_ends (e ∷ edges) p q (suc i, x, lt, is, meet) = Contains-append_right (other_end p e) (other_ends edges p) q (joined_other_ends edges p q (i, x, omega arith, is, meet))

one_more : (k a b : ℕ) (t u : Bool) (old new : List ℕ) → (a == k) ≡ t → (b == k) ≡ u → (a ≡ k → new ≡ old ++ b ∷ []) → ((a ≡ k → ⊥) → b ≡ k → new ≡ old ++ a ∷ []) → ((a ≡ k → ⊥) → (b ≡ k → ⊥) → new ≡ old) → new ≡ old ++ cond t (b ∷ []) (cond u (a ∷ []) [])
one_more k a b true u old new e f first second other = first (eqb-true a k e)
one_more k a b false true old new e f first second other = second (λ same. let yes = eq-eqb a k same in cc) (eqb-true b k f)
one_more k a b false false old new e f first second other = other (λ same. let yes = eq-eqb a k same in cc) (λ same. let yes = eq-eqb b k same in cc) ∙ sym (append-nil old)

-- an edge that joins a process with itself stands in its list once
pub IsEdgeTable-loop : (edges : List Edge) (e : Edge) (rows made : List (List ℕ)) → e.a ≡ e.b → IsEdgeTable edges rows → row made e.a ≡ row rows e.a ++ e.b ∷ [] → ((k : ℕ) → (e.a ≡ k → ⊥) → row made k ≡ row rows k) → IsEdgeTable (edges ++ e ∷ []) made
IsEdgeTable-loop edges e rows made same is here elsewhere k =
    one_more k e.a e.b (e.a == k) (e.b == k) (other_ends edges k) (row made k) refl refl
    (λ at. subst (λ k. row made k ≡ other_ends edges k ++ e.b ∷ []) at (here ∙ ap (λ r. r ++ e.b ∷ []) (is e.a)))
    (λ apart at. absurd (apart (same ∙ at)))
    (λ apart other. elsewhere k apart ∙ is k) ∙ sym (other_ends-append edges e k)

-- an edge between two processes stands in the list of each
pub IsEdgeTable-more : (edges : List Edge) (e : Edge) (rows between made : List (List ℕ)) → (e.a ≡ e.b → ⊥) → IsEdgeTable edges rows
    → row between e.a ≡ row rows e.a ++ e.b ∷ [] → ((k : ℕ) → (e.a ≡ k → ⊥) → row between k ≡ row rows k)
    → row made e.b ≡ row between e.b ++ e.a ∷ [] → ((k : ℕ) → (e.b ≡ k → ⊥) → row made k ≡ row between k) → IsEdgeTable (edges ++ e ∷ []) made
IsEdgeTable-more edges e rows between made differ is here elsewhere here2 elsewhere2 k =
    one_more k e.a e.b (e.a == k) (e.b == k) (other_ends edges k) (row made k) refl refl
    (λ at. subst (λ k. row made k ≡ other_ends edges k ++ e.b ∷ []) at (elsewhere2 e.a (λ same. differ (sym same)) ∙ here ∙ ap (λ r. r ++ e.b ∷ []) (is e.a)))
    (λ apart at. subst (λ k. row made k ≡ other_ends edges k ++ e.a ∷ []) at (here2 ∙ ap (λ r. r ++ e.a ∷ []) (elsewhere e.b differ ∙ is e.b)))
    (λ apart other. elsewhere2 k other ∙ elsewhere k apart ∙ is k) ∙ sym (other_ends-append edges e k)

-- two processes are joined where one is in the list of the other
pub are_joined_from : (edges now : List Edge) (rows : List (List ℕ)) (p q : ℕ) (list : List ℕ) (has : Bool) → edges ≡ now → IsEdgeTable edges rows → list ≡ row rows p → IsTrue has ↔ Contains list q → IsTrue has ↔ AreJoined now p q
are_joined_from edges now rows p q list has view is list_is told =
    let here : list ≡ other_ends edges p = list_is ∙ is p in (
      λ t. subst (λ (es : List Edge). AreJoined es p q) view (other_ends_joined edges p q (subst (λ l. Contains l q) here (told.0 t))),
      λ h. told.1 (subst (λ l. Contains l q) (sym here) (joined_other_ends edges p q (subst (λ (es : List Edge). AreJoined es p q) (sym view) h))),
    )

tested_le : (m n : ℕ) → nat_le m n ≡ true → m ≤ n
tested_le m n e = grind (arith, nat_tests)

le_tested : (m n : ℕ) → m ≤ n → nat_le m n ≡ true
le_tested m n le = grind (arith, nat_tests)

-- a process has so many edges where its list is so long
pub is_full_from : (edges now : List Edge) (rows : List (List ℕ)) (k most : ℕ) (list : List ℕ) → edges ≡ now → IsEdgeTable edges rows → list ≡ row rows k → IsTrue (nat_le most (length list)) ↔ (most ≤ degree_of now k)
is_full_from edges now rows k most list view is list_is =
    let many : length list ≡ degree_of now k = ap (λ (l : List ℕ). length l) (list_is ∙ is k) ∙ other_ends-length edges k ∙ ap (λ (es : List Edge). degree_of es k) view in
    (λ t. subst (λ n. most ≤ n) many (tested_le most (length list) t), λ h. le_tested most (length list) (subst (λ n. most ≤ n) (sym many) h))
