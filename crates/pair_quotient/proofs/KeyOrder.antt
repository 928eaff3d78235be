-- The order of keys tells all keys apart.
use Rattle.std.proofs.Common.{ℕ, ◌≡◌, true, false, List, [], ◌∷◌, refl, ap, ◌∙◌}
use Rattle.std.specs.declared.cmp.Ordering.{Ordering}
use Rattle.std.specs.declared.cmp.Ordering.TheVariants.{Less, Equal, Greater}
use Rattle.std.specs.Cmp.Lexicographic.{slice_cmp}
use Rattle.std.specs.Global.{Vec}
use Rattle.std.specs.BTreeMap.{is_at}
use Rattle.std.specs.Ordering.{nat_cmp, ordering_then, is_eq}
use Rattle.std.proofs.lemmas.Map.Lookups.{CmpEqualImpliesEq, exact_unsigned}
use Rattle.pair_structure.specs.contracts.side.MoveOrd.TheImpl as move_ord
use Rattle.pair_structure.specs.contracts.side.SideOrd.TheImpl as side_ord
use Rattle.pair_structure.specs.declared.side.Move.{Move}
use Rattle.pair_structure.specs.declared.side.Side.{Side}
use Rattle.pair_structure.specs.declared.side.Side.TheVariants.{A, B}
use Rattle.pair_quotient.specs.inside.Naming.{key_cmp}

both_equal : (p q : Ordering) → ordering_then p q ≡ Equal → (p ≡ Equal) × (q ≡ Equal)
both_equal Less q e = let h : Less ≡ Equal = e in cc
both_equal Equal q e = (refl, e)
both_equal Greater q e = let h : Greater ≡ Equal = e in cc

exact_list : {K : Type 0} (R : K → K → Ordering) → CmpEqualImpliesEq R → (xs ys : List K) → slice_cmp R xs ys ≡ Equal → xs ≡ ys
exact_list R exact [] [] e = refl
exact_list R exact [] (y ∷ ys) e = let h : Less ≡ Equal = e in cc
exact_list R exact (x ∷ xs) [] e = let h : Greater ≡ Equal = e in cc
exact_list R exact (x ∷ xs) (y ∷ ys) e =
    let u = both_equal (R x y) (slice_cmp R xs ys) e in
    ap (λ z. z ∷ xs) (exact x y u.0) ∙ ap (λ zs. y ∷ zs) (exact_list R exact xs ys u.1)

abbrev side_cmp : Side → Side → Ordering
side_cmp = (side_ord.ghosts).cmp

side_exact : CmpEqualImpliesEq side_cmp
side_exact A A e = refl
side_exact B B e = refl
side_exact A B e = let h : Less ≡ Equal = e in cc
side_exact B A e = let h : Greater ≡ Equal = e in cc

abbrev move_of : ℕ → Side → ℕ → Move
move_of from side to = record { from = from; side = side; to = to }

move_exact : CmpEqualImpliesEq (move_ord.ghosts).cmp
move_exact x y e =
    let h = both_equal (nat_cmp x.from y.from) (ordering_then (side_cmp x.side y.side) (nat_cmp x.to y.to)) e in
    let k = both_equal (side_cmp x.side y.side) (nat_cmp x.to y.to) h.1 in
    ap (λ (a : ℕ). move_of a x.side x.to) (exact_unsigned x.from y.from h.0) ∙ ap (λ (b : Side). move_of y.from b x.to) (side_exact x.side y.side k.0) ∙ ap (λ (c : ℕ). move_of y.from y.side c) (exact_unsigned x.to y.to k.1)

equal_of : (r : Ordering) → is_eq r ≡ true → r ≡ Equal
equal_of Less e = let f : false ≡ true = e in cc
equal_of Equal e = refl
equal_of Greater e = let f : false ≡ true = e in cc

pub key_exact : (key q : Vec Move) → is_at (key_cmp key) q ≡ true → key.items ≡ q.items
key_exact key q e = exact_list (move_ord.ghosts).cmp move_exact key.items q.items (equal_of (key_cmp key q) e)
