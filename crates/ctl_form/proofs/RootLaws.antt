-- The walk of one more root, and what the roots of all conjuncts are.
use Rattle.std.proofs.Common.{ℕ, zero, suc, ◌≡◌, ◌<◌, ◌≤◌, true, List, [], ◌∷◌, ◌++◌, arith, refl, sym, ◌∙◌, ap, subst, length, map, take, drop, get_or, All}
use Rattle.std.proofs.lemmas.List.{map-append}
use Rattle.std.proofs.lemmas.List.Elements.{All-head, All-tail, All-nil, All-push, All-weaker}
use Rattle.ctl_form.specs.Form.{Form, form_of}
use Rattle.ctl_form.specs.Members.{form_at, forms_of}
use Rattle.ctl_form.specs.MemberTable.{IsNumbered, IsFaultOf}
use Rattle.ctl_form.specs.Normal.{normal}
use Rattle.ctl_form.specs.Numbered.{normals}
use Rattle.ctl_form.specs.inside.Roots.{AreRoots}
use Rattle.ctl_form.specs.Walk.{walk, walk_all}
use Rattle.ctl_form.specs.declared.formula.Formula.{Formula}
use Rattle.ctl_form.specs.declared.normal_fault.NormalFault.{NormalFault}
use Rattle.ctl_form.specs.declared.part.Part.{Part}
use Rattle.ctl_form.proofs.ClosureLaws.{length_walk_all, walk_all-append}
use Rattle.ctl_form.proofs.MemberLaws.{length-forms_of}
use Rattle.ctl_form.proofs.MemberWalkLaws.{fault_more}
use Rattle.ctl_form.proofs.WalkLaws.{length_walk, form_at_walk}

map_same : (n : ℕ) (forms more : List Form) → ((k : ℕ) → k < n → form_at more k ≡ form_at forms k) → (roots : List ℕ) → All (λ root. root < n) roots → map (form_at more) roots ≡ map (form_at forms) roots
map_same n forms more same [] h = refl
map_same n forms more same (r ∷ rs) h =
    let a : form_at more r ≡ form_at forms r = same r (All-head (λ root. root < n) r rs h) in
    let b : map (form_at more) rs ≡ map (form_at forms) rs = map_same n forms more same rs (All-tail (λ root. root < n) r rs h) in
    cc

-- no formula is walked yet
pub roots_none : (old : List Part) → AreRoots [] old old []
roots_none old = record { forms = refl; members = All-nil (λ root. root < length old); rooted = refl }

-- one more formula is walked
pub roots_more : (old p q : List Part) (fs : List Form) (f : Form) (roots : List ℕ) (n : ℕ) → AreRoots fs old p roots → IsNumbered (walk f (forms_of p)) f q n → AreRoots (fs ++ f ∷ []) old q (roots ++ n ∷ [])
roots_more old p q fs f roots n so_far more =
    let grows : length p ≤ length q = omega (arith, length-forms_of p, length-forms_of q, ap length more.forms, length_walk f (forms_of p)) in
    let same : (k : ℕ) → k < length p → form_at (forms_of q) k ≡ form_at (forms_of p) k = λ k lt. ap (λ l. form_at l k) more.forms ∙ form_at_walk f (forms_of p) k (omega (arith, lt, length-forms_of p)) in
    let kept : map (form_at (forms_of q)) roots ≡ fs = map_same (length p) (forms_of p) (forms_of q) same roots so_far.members ∙ so_far.rooted in
    record {
      forms = more.forms ∙ ap (walk f) so_far.forms ∙ sym (walk_all-append fs (f ∷ []) (forms_of old));
      members = All-push (λ root. root < length q) roots n (All-weaker (λ root. root < length p) (λ root. root < length q) (λ root lt. omega (arith, lt, grows)) roots so_far.members) more.below;
      rooted = map-append (form_at (forms_of q)) roots (n ∷ []) ∙ ap (λ l. l ++ form_at (forms_of q) n ∷ []) kept ∙ ap (λ g. fs ++ g ∷ []) more.is;
    }

-- the conjuncts up to one, that one, and the rest
pub normals_split : (xs : List Formula) (i : ℕ) (x : Formula) → i < length xs → x ≡ get_or xs i x → normals (map form_of xs) ≡ normals (map form_of (take i xs)) ++ normal true (form_of x) ∷ normals (map form_of (drop (suc i) xs))
normals_split [] i x h e = absurd (omega (arith, h))
normals_split (y ∷ ys) zero x h e = ap (λ z. normal true (form_of z) ∷ normals (map form_of ys)) (sym e)
normals_split (y ∷ ys) (suc i) x h e = ap (λ l. normal true (form_of y) ∷ l) (normals_split ys i x (omega (arith, h)) e)

normals_next : (xs : List Formula) (i : ℕ) (x : Formula) → i < length xs → x ≡ get_or xs i x → normals (map form_of (take (suc i) xs)) ≡ normals (map form_of (take i xs)) ++ normal true (form_of x) ∷ []
normals_next [] i x h e = absurd (omega (arith, h))
normals_next (y ∷ ys) zero x h e = ap (λ z. normal true (form_of z) ∷ []) (sym e)
normals_next (y ∷ ys) (suc i) x h e = ap (λ l. normal true (form_of y) ∷ l) (normals_next ys i x (omega (arith, h)) e)

-- the conjuncts up to one, and that one
pub normals_more : (xs : List Formula) (i j : ℕ) (x : Formula) → j ≡ suc i → i < length xs → x ≡ get_or xs i x → normals (map form_of (take j xs)) ≡ normals (map form_of (take i xs)) ++ normal true (form_of x) ∷ []
normals_more xs i j x at h e = ap (λ (k : ℕ). normals (map form_of (take k xs))) at ∙ normals_next xs i x h e

-- a fault at one conjunct is one of all
pub roots_fail : (xs : List Formula) (i : ℕ) (x : Formula) (old p : List Part) (roots : List ℕ) (fault : NormalFault) → i < length xs → x ≡ get_or xs i x → AreRoots (normals (map form_of (take i xs))) old p roots
    → IsFaultOf (walk (normal true (form_of x)) (forms_of p)) fault → IsFaultOf (walk_all (normals (map form_of xs)) (forms_of old)) fault
roots_fail xs i x old p roots fault h e so_far f =
    let before : List Form = normals (map form_of (take i xs)) in
    let here : Form = normal true (form_of x) in
    let after : List Form = normals (map form_of (drop (suc i) xs)) in
    let whole : walk_all (normals (map form_of xs)) (forms_of old) ≡ walk_all after (walk here (walk_all before (forms_of old))) = ap (λ fs. walk_all fs (forms_of old)) (normals_split xs i x h e) ∙ walk_all-append before (here ∷ after) (forms_of old) in
    fault_more (walk here (forms_of p)) (walk_all (normals (map form_of xs)) (forms_of old)) fault
    (omega (arith, ap length whole, ap (λ l. length (walk here l)) so_far.forms, length_walk_all after (walk here (walk_all before (forms_of old))))) f

-- the roots of one more conjunct
pub roots_step : (xs : List Formula) (i j : ℕ) (x : Formula) (old p q : List Part) (roots : List ℕ) (n : ℕ) → j ≡ suc i → i < length xs → x ≡ get_or xs i x → AreRoots (normals (map form_of (take i xs))) old p roots
    → IsNumbered (walk (normal true (form_of x)) (forms_of p)) (normal true (form_of x)) q n → AreRoots (normals (map form_of (take j xs))) old q (roots ++ n ∷ [])
roots_step xs i j x old p q roots n at h e so_far more =
    subst (λ fs. AreRoots fs old q (roots ++ n ∷ [])) (sym (normals_more xs i j x at h e)) (roots_more old p q (normals (map form_of (take i xs))) (normal true (form_of x)) roots n so_far more)
