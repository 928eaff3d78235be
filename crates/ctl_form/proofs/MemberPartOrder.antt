-- The order of parts tells all parts apart.
use Rattle.std.proofs.Common.{ℕ, ◌≡◌, Bool, true, false, refl}
use Rattle.std.specs.declared.cmp.Ordering.{Ordering}
use Rattle.std.specs.declared.cmp.Ordering.TheVariants.{Less, Equal, Greater}
use Rattle.std.specs.Ordering.{nat_cmp, bool_cmp, ordering_then}
use Rattle.std.proofs.lemmas.Map.Lookups.{exact_unsigned}
use Rattle.pair_structure.specs.declared.side.Side.{Side}
use Rattle.pair_structure.specs.declared.side.Side.TheVariants.{A, B}
use Rattle.pair_structure.specs.contracts.side.SideOrd.TheImpl as side_ord
use Rattle.ctl_form.specs.MemberTable.{part_cmp}
use Rattle.ctl_form.specs.declared.part.Part.{Part}
use Rattle.ctl_form.specs.declared.part.Part.TheVariants.{Yes, No, Lit, Both, Either, Next, Until}

both_equal : (p q : Ordering) → ordering_then p q ≡ Equal → (p ≡ Equal) × (q ≡ Equal)
both_equal Less q e = let h : Less ≡ Equal = e in cc
both_equal Equal q e = (refl, e)
both_equal Greater q e = let h : Greater ≡ Equal = e in cc

bool_exact : (a b : Bool) → bool_cmp a b ≡ Equal → a ≡ b
bool_exact true true e = refl
bool_exact false false e = refl
bool_exact true false e = let h : Greater ≡ Equal = e in cc
bool_exact false true e = let h : Less ≡ Equal = e in cc

abbrev side_cmp : Side → Side → Ordering
side_cmp = (side_ord.ghosts).cmp

side_exact : (a b : Side) → side_cmp a b ≡ Equal → a ≡ b
side_exact A A e = refl
side_exact B B e = refl
side_exact A B e = let h : Less ≡ Equal = e in cc
side_exact B A e = let h : Greater ≡ Equal = e in cc

lit_same : (s s' : Side) (l l' : ℕ) (i i' : Bool) → s ≡ s' → l ≡ l' → i ≡ i' → Lit s l i ≡ Lit s' l' i'
lit_same s s' l l' i i' a b c = cc

two_same : (make : ℕ → ℕ → Part) (f f' g g' : ℕ) → f ≡ f' → g ≡ g' → make f g ≡ make f' g'
two_same make f f' g g' a b = cc

next_same : (a a' : Bool) (s s' : Side) (f f' : ℕ) → a ≡ a' → s ≡ s' → f ≡ f' → Next a s f ≡ Next a' s' f'
next_same a a' s s' f f' p q r = cc

until_same : (a a' w w' : Bool) (f f' g g' : ℕ) → a ≡ a' → w ≡ w' → f ≡ f' → g ≡ g' → Until a w f g ≡ Until a' w' f' g'
until_same a a' w w' f f' g g' p q r t = cc

pair_exact : (make : ℕ → ℕ → Part) (f f' g g' : ℕ) → ordering_then (nat_cmp f f') (nat_cmp g g') ≡ Equal → make f g ≡ make f' g'
pair_exact make f f' g g' e = let h = both_equal (nat_cmp f f') (nat_cmp g g') e in two_same make f f' g g' (exact_unsigned f f' h.0) (exact_unsigned g g' h.1)

pub part_cmp_exact : (p q : Part) → part_cmp p q ≡ Equal → p ≡ q
part_cmp_exact Yes Yes e = refl
part_cmp_exact No No e = refl
part_cmp_exact (Lit side local is) (Lit side' local' is') e =
    let h = both_equal (side_cmp side side') (ordering_then (nat_cmp local local') (bool_cmp is is')) e in
    let k = both_equal (nat_cmp local local') (bool_cmp is is') h.1 in
    lit_same side side' local local' is is' (side_exact side side' h.0) (exact_unsigned local local' k.0) (bool_exact is is' k.1)
part_cmp_exact (Both f g) (Both f' g') e = pair_exact Both f f' g g' e
part_cmp_exact (Either f g) (Either f' g') e = pair_exact Either f f' g g' e
part_cmp_exact (Next all side f) (Next all' side' f') e =
    let h = both_equal (bool_cmp all all') (ordering_then (side_cmp side side') (nat_cmp f f')) e in
    let k = both_equal (side_cmp side side') (nat_cmp f f') h.1 in
    next_same all all' side side' f f' (bool_exact all all' h.0) (side_exact side side' k.0) (exact_unsigned f f' k.1)
part_cmp_exact (Until all weak f g) (Until all' weak' f' g') e =
    let h = both_equal (bool_cmp all all') (ordering_then (bool_cmp weak weak') (ordering_then (nat_cmp f f') (nat_cmp g g'))) e in
    let k = both_equal (bool_cmp weak weak') (ordering_then (nat_cmp f f') (nat_cmp g g')) h.1 in
    let l = both_equal (nat_cmp f f') (nat_cmp g g') k.1 in
    until_same all all' weak weak' f f' g g' (bool_exact all all' h.0) (bool_exact weak weak' k.0) (exact_unsigned f f' l.0) (exact_unsigned g g' l.1)
part_cmp_exact Yes No e = let h : Less ≡ Equal = e in cc
part_cmp_exact Yes (Lit side' local' is') e = let h : Less ≡ Equal = e in cc
part_cmp_exact Yes (Both f' g') e = let h : Less ≡ Equal = e in cc
part_cmp_exact Yes (Either f' g') e = let h : Less ≡ Equal = e in cc
part_cmp_exact Yes (Next all' side' f') e = let h : Less ≡ Equal = e in cc
part_cmp_exact Yes (Until all' weak' f' g') e = let h : Less ≡ Equal = e in cc
part_cmp_exact No Yes e = let h : Greater ≡ Equal = e in cc
part_cmp_exact No (Lit side' local' is') e = let h : Less ≡ Equal = e in cc
part_cmp_exact No (Both f' g') e = let h : Less ≡ Equal = e in cc
part_cmp_exact No (Either f' g') e = let h : Less ≡ Equal = e in cc
part_cmp_exact No (Next all' side' f') e = let h : Less ≡ Equal = e in cc
part_cmp_exact No (Until all' weak' f' g') e = let h : Less ≡ Equal = e in cc
part_cmp_exact (Lit side local is) Yes e = let h : Greater ≡ Equal = e in cc
part_cmp_exact (Lit side local is) No e = let h : Greater ≡ Equal = e in cc
part_cmp_exact (Lit side local is) (Both f' g') e = let h : Less ≡ Equal = e in cc
part_cmp_exact (Lit side local is) (Either f' g') e = let h : Less ≡ Equal = e in cc
part_cmp_exact (Lit side local is) (Next all' side' f') e = let h : Less ≡ Equal = e in cc
part_cmp_exact (Lit side local is) (Until all' weak' f' g') e = let h : Less ≡ Equal = e in cc
part_cmp_exact (Both f g) Yes e = let h : Greater ≡ Equal = e in cc
part_cmp_exact (Both f g) No e = let h : Greater ≡ Equal = e in cc
part_cmp_exact (Both f g) (Lit side' local' is') e = let h : Greater ≡ Equal = e in cc
part_cmp_exact (Both f g) (Either f' g') e = let h : Less ≡ Equal = e in cc
part_cmp_exact (Both f g) (Next all' side' f') e = let h : Less ≡ Equal = e in cc
part_cmp_exact (Both f g) (Until all' weak' f' g') e = let h : Less ≡ Equal = e in cc
part_cmp_exact (Either f g) Yes e = let h : Greater ≡ Equal = e in cc
part_cmp_exact (Either f g) No e = let h : Greater ≡ Equal = e in cc
part_cmp_exact (Either f g) (Lit side' local' is') e = let h : Greater ≡ Equal = e in cc
part_cmp_exact (Either f g) (Both f' g') e = let h : Greater ≡ Equal = e in cc
part_cmp_exact (Either f g) (Next all' side' f') e = let h : Less ≡ Equal = e in cc
part_cmp_exact (Either f g) (Until all' weak' f' g') e = let h : Less ≡ Equal = e in cc
part_cmp_exact (Next all side f) Yes e = let h : Greater ≡ Equal = e in cc
part_cmp_exact (Next all side f) No e = let h : Greater ≡ Equal = e in cc
part_cmp_exact (Next all side f) (Lit side' local' is') e = let h : Greater ≡ Equal = e in cc
part_cmp_exact (Next all side f) (Both f' g') e = let h : Greater ≡ Equal = e in cc
part_cmp_exact (Next all side f) (Either f' g') e = let h : Greater ≡ Equal = e in cc
part_cmp_exact (Next all side f) (Until all' weak' f' g') e = let h : Less ≡ Equal = e in cc
part_cmp_exact (Until all weak f g) Yes e = let h : Greater ≡ Equal = e in cc
part_cmp_exact (Until all weak f g) No e = let h : Greater ≡ Equal = e in cc
part_cmp_exact (Until all weak f g) (Lit side' local' is') e = let h : Greater ≡ Equal = e in cc
part_cmp_exact (Until all weak f g) (Both f' g') e = let h : Greater ≡ Equal = e in cc
part_cmp_exact (Until all weak f g) (Either f' g') e = let h : Greater ≡ Equal = e in cc
part_cmp_exact (Until all weak f g) (Next all' side' f') e = let h : Greater ≡ Equal = e in cc
