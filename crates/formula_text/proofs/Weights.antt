-- However a formula is spelled, as many of its tokens are no round parentheses; its canonical text opens fewer than that.
use Rattle.std.proofs.Common.{ℕ, ◌≡◌, ◌<◌, ◌≤◌, ◌+◌, ◌-◌, ◌*◌, inl, inr, Bool, true, false, cond, not, ◌||◌, Option, Some, None, List, [], ◌∷◌, ◌++◌, codes, length, refl, sym, ap, ◌∙◌, arith}
use Rattle.std.proofs.lemmas.Bool.{cases_lt}
use Rattle.std.proofs.lemmas.List.Sums.{sum_by-cons}
use Rattle.std.proofs.lemmas.Slice.Eq.{bytes_eq-Decides}
use Rattle.std.specs.List.{count_by, sum_by}
use Rattle.pair_structure.specs.Parts.{Names}
use Rattle.pair_structure.specs.declared.side.Side.{Side}
use Rattle.pair_structure.specs.declared.side.Side.TheVariants.{A, B}
use Rattle.ctl_form.specs.Form.{Form, truth, falsity, at, neg, both, either, implies, next, always, sometime, until}
use Rattle.formula_text.specs.declared.sign.Leaf.TheVariants.{Yes, No, At}
use Rattle.formula_text.specs.declared.sign.Mark.TheVariants.{And, Or, Arrow, Close, Right}
use Rattle.formula_text.specs.declared.sign.Prefix.TheVariants.{Not, Next, Always, Sometime}
use Rattle.formula_text.specs.declared.sign.Sign.{Sign}
use Rattle.formula_text.specs.declared.sign.Sign.TheVariants.{Open, Behind, Until}
use Rattle.formula_text.specs.Canonical.{AreNames, IsOver}
use Rattle.formula_text.specs.FormulaText.{formula_text}
use Rattle.formula_text.specs.Long.{is_open, is_close, is_counted, open_after, most_open, set_weight_or, weight_of, IsLong}
use Rattle.formula_text.specs.Sets.{Atoms, plain, members_at, joined_signs, member_signs, set_or, signs_over, token_signs}
use Rattle.formula_text.specs.Sign.{atom_sign, behind_dot, word_sign, sign_of, signs_of, atom_or}
use Rattle.formula_text.specs.Token.{tokens_of}
use Rattle.formula_text.specs.Tree.{Tree, leaf, prefixed, grouped, conjunction, disjunction, implication, waits, signs, tree_form, Spells}
use Rattle.formula_text.proofs.Canonical.{form_again, canonical_signs}
use Rattle.formula_text.proofs.CanonicalSigns.{tree_of}
use Rattle.formula_text.proofs.SetLaws.{plain_signs}
use Rattle.formula_text.proofs.SignRows.{word_kept, atom_kept, atom_or_kept}

-- a sign that is no round parenthesis
abbrev IsCounted : Sign → Type 0
IsCounted Open = ⊥
IsCounted (Behind Close) = ⊥
IsCounted s = Unit {0}

abbrev counts : Sign → ℕ
counts Open = 0
counts (Behind Close) = 0
counts s = 1

abbrev opens : Sign → ℕ
opens Open = 1
opens s = 0

abbrev counted : List Sign → ℕ
counted [] = 0
counted (s ∷ ss) = counts s + counted ss

abbrev opened : List Sign → ℕ
opened [] = 0
opened (s ∷ ss) = opens s + opened ss

counted_append : (ss ts : List Sign) → counted (ss ++ ts) ≡ counted ss + counted ts
counted_append [] ts = omega arith
counted_append (s ∷ ss) ts = let more = counted_append ss ts in omega (arith, more)

opened_append : (ss ts : List Sign) → opened (ss ++ ts) ≡ opened ss + opened ts
opened_append [] ts = omega arith
opened_append (s ∷ ss) ts = let more = opened_append ss ts in omega (arith, more)

-- how many tokens of each spelling are no round parentheses
abbrev weight : Form → ℕ
weight truth = 1
weight falsity = 1
weight (at side p) = 1
weight (neg f) = 1 + weight f
weight (both f g) = weight f + (1 + weight g)
weight (either f g) = weight f + (1 + weight g)
weight (implies f g) = weight f + (1 + weight g)
weight (next all side f) = 1 + weight f
weight (always all f) = 1 + weight f
weight (sometime all f) = 1 + weight f
weight (until all weak f g) = 2 + (weight f + (1 + (weight g + 1)))

tree_weight : (t : Tree) → counted (signs t) ≡ weight (tree_form t)
tree_weight (leaf Yes) = refl
tree_weight (leaf No) = refl
tree_weight (leaf (At side found)) = refl
tree_weight (prefixed Not f) = let h = tree_weight f in omega (arith, h)
tree_weight (prefixed (Next all side) f) = let h = tree_weight f in omega (arith, h)
tree_weight (prefixed (Always all) f) = let h = tree_weight f in omega (arith, h)
tree_weight (prefixed (Sometime all) f) = let h = tree_weight f in omega (arith, h)
tree_weight (grouped f) = let h = tree_weight f in let e = counted_append (signs f) (Behind Close ∷ []) in omega (arith, h, e)
tree_weight (conjunction f g) = let h = tree_weight f in let k = tree_weight g in let e = counted_append (signs f) (Behind And ∷ signs g) in omega (arith, h, k, e)
tree_weight (disjunction f g) = let h = tree_weight f in let k = tree_weight g in let e = counted_append (signs f) (Behind Or ∷ signs g) in omega (arith, h, k, e)
tree_weight (implication f g) = let h = tree_weight f in let k = tree_weight g in let e = counted_append (signs f) (Behind Arrow ∷ signs g) in omega (arith, h, k, e)
tree_weight (waits all weak f g) =
    let h = tree_weight f in let k = tree_weight g in
    let e = counted_append (signs f) (Until weak ∷ (signs g ++ (Behind Right ∷ []))) in
    let l = counted_append (signs g) (Behind Right ∷ []) in omega (arith, h, k, e, l)

grouped_opens : (ss ts : List Sign) (m : Sign) (x y : ℕ) → opens m ≡ 0 → opened ss < x → opened ts < y → opened (Open ∷ ((ss ++ (m ∷ ts)) ++ (Behind Close ∷ []))) < x + (1 + y)
grouped_opens ss ts m x y mid h k = let e = opened_append (ss ++ (m ∷ ts)) (Behind Close ∷ []) in let l = opened_append ss (m ∷ ts) in omega (arith, h, k, e, l, mid)

-- the canonical spelling opens a round parenthesis only for a mark between two
tree_opens : (f : Form) → opened (signs (tree_of f)) < weight f
tree_opens truth = omega arith
tree_opens falsity = omega arith
tree_opens (at side p) = omega arith
tree_opens (neg f) = let h = tree_opens f in omega (arith, h)
tree_opens (both f g) = grouped_opens (signs (tree_of f)) (signs (tree_of g)) (Behind And) (weight f) (weight g) refl (tree_opens f) (tree_opens g)
tree_opens (either f g) = grouped_opens (signs (tree_of f)) (signs (tree_of g)) (Behind Or) (weight f) (weight g) refl (tree_opens f) (tree_opens g)
tree_opens (implies f g) = grouped_opens (signs (tree_of f)) (signs (tree_of g)) (Behind Arrow) (weight f) (weight g) refl (tree_opens f) (tree_opens g)
tree_opens (next all side f) = let h = tree_opens f in omega (arith, h)
tree_opens (always all f) = let h = tree_opens f in omega (arith, h)
tree_opens (sometime all f) = let h = tree_opens f in omega (arith, h)
tree_opens (until all weak f g) =
    let h = tree_opens f in let k = tree_opens g in
    let e = opened_append (signs (tree_of f)) (Until weak ∷ (signs (tree_of g) ++ (Behind Right ∷ []))) in
    let l = opened_append (signs (tree_of g)) (Behind Right ∷ []) in omega (arith, h, k, e, l)

-- the sign of a token that is no round parenthesis is none
sign_counted : (a b : Names) (token : List ℕ) → is_open token ≡ false → is_close token ≡ false → IsCounted (sign_of a b token)
sign_counted a b token e f =
    atom_or_kept IsCounted A a (behind_dot 97 token) (atom_or B b (behind_dot 98 token) (word_sign token)) tt (λ name. tt)
    (atom_or_kept IsCounted B b (behind_dot 98 token) (word_sign token) tt (λ name. tt)
    (word_kept IsCounted token tt (λ all rest. (λ h. tt, (λ h. tt, (λ h. tt, (λ h. tt, (λ h. tt, (λ h. tt, tt)))))))
    (λ h. tt, (λ h. tt, (λ h. tt, (λ h. absurd (not_both (is_open token) h e), (λ h. tt, (λ h. tt, tt))))))
    (λ h. tt, (λ h. tt, (λ h. tt, (λ h. absurd (not_both (is_close token) h f), (λ h. tt, (λ h. tt, tt))))))))
  where
    not_both : (t : Bool) → t ≡ true → t ≡ false → ⊥
    not_both t is is_not = cc

counts_one : (s : Sign) → IsCounted s → (counts s ≡ 1) × (opens s ≡ 0)
counts_one Open h = absurd h
counts_one (Behind Close) h = absurd h
counts_one s h = (refl, refl)

-- what a token counts, and what it opens, is what its sign does
token_counts : (a b : Names) (token : List ℕ) (t u : Bool) → is_open token ≡ t → is_close token ≡ u → (cond (not (t || u)) 1 0 ≡ counts (sign_of a b token)) × (cond t 1 0 ≡ opens (sign_of a b token))
token_counts a b token true u e f = let is = (bytes_eq-Decides token (codes "(")).0 e in (sym (ap (λ x. counts (sign_of a b x)) is), sym (ap (λ x. opens (sign_of a b x)) is))
token_counts a b token false true e f = let is = (bytes_eq-Decides token (codes ")")).0 f in (sym (ap (λ x. counts (sign_of a b x)) is), sym (ap (λ x. opens (sign_of a b x)) is))
token_counts a b token false false e f = let h = counts_one (sign_of a b token) (sign_counted a b token e f) in (sym h.0, sym h.1)

atom_counts : (side : Side) (names : Names) (name : List ℕ) → counts (atom_sign side names name) ≡ 1
atom_counts side names name = atom_kept (λ s. counts s ≡ 1) side names name refl refl

joined_count : (side : Side) (names : Names) (members : List (List ℕ)) → counted (joined_signs side names members) ≡ 2 * length members
joined_count side names [] = refl
joined_count side names (m ∷ ms) = let one = atom_counts side names m in let more = joined_count side names ms in omega (arith, one, more)

member_count : (side : Side) (names : Names) (members : List (List ℕ)) → counted (member_signs side names members) ≡ 2 * length members - 1
member_count side names [] = refl
member_count side names (m ∷ ms) = let one = atom_counts side names m in let more = joined_count side names ms in omega (arith, one, more)

set_or_count : (side : Side) (names : Names) (found : Option (List (List ℕ))) (otherwise : List Sign) (w : ℕ) → counted otherwise ≡ w → counted (set_or side names found otherwise) ≡ set_weight_or found w
set_or_count side names None otherwise w rest = rest
set_or_count side names (Some members) otherwise w rest = let whole = counted_append (member_signs side names members) (Behind Close ∷ []) in let here = member_count side names members in omega (arith, whole, here)

-- a token counts as its signs do, also where it names a set
token_count : (a b : Atoms) (token : List ℕ) → counted (token_signs a b token) ≡ weight_of a.sets b.sets token
token_count a b token =
    let one = token_counts a.locals b.locals token (is_open token) (is_close token) refl refl in
    let last : counted (sign_of a.locals b.locals token ∷ []) ≡ cond (is_counted token) 1 0 = omega (arith, one.0) in
    set_or_count A a.locals (members_at 97 a.sets token) (set_or B b.locals (members_at 98 b.sets token) (sign_of a.locals b.locals token ∷ [])) (set_weight_or (members_at 98 b.sets token) (cond (is_counted token) 1 0))
    (set_or_count B b.locals (members_at 98 b.sets token) (sign_of a.locals b.locals token ∷ []) (cond (is_counted token) 1 0) last)

tokens_count : (a b : Atoms) (tokens : List (List ℕ)) → sum_by (weight_of a.sets b.sets) tokens ≡ counted (signs_over a b tokens)
tokens_count a b [] = refl
tokens_count a b (t ∷ ts) =
    let first = sum_by-cons (weight_of a.sets b.sets) t ts in
    let here = token_count a b t in
    let more = tokens_count a b ts in
    let whole = counted_append (token_signs a b t) (signs_over a b ts) in omega (arith, first, here, more, whole)

tokens_open : (a b : Names) (tokens : List (List ℕ)) → count_by is_open tokens ≡ opened (signs_of a b tokens)
tokens_open a b [] = refl
tokens_open a b (t ∷ ts) =
    sum_by-cons (λ t. cond (is_open t) 1 0) t ts ∙ ap (λ n. n + count_by is_open ts) (token_counts a b t (is_open t) (is_close t) refl refl).1 ∙ ap (λ n. opens (sign_of a b t) + n) (tokens_open a b ts)

after_few : (t u : Bool) (n : ℕ) → cond t (n + 1) (cond u (n - 1) n) ≤ n + cond t 1 0
after_few true u n = omega arith
after_few false true n = omega arith
after_few false false n = omega arith

most_few : (n : ℕ) (tokens : List (List ℕ)) → most_open n tokens ≤ n + count_by is_open tokens
most_few n [] = omega arith
most_few n (t ∷ ts) =
    let more = most_few (open_after n t) ts in
    let here = after_few (is_open t) (is_close t) n in
    let whole = sum_by-cons (λ t. cond (is_open t) 1 0) t ts in omega (arith, more, here, whole)

pub spelled_weight : (a b : Atoms) (tokens : List (List ℕ)) (f : Form) → Spells (signs_over a b tokens) f → sum_by (weight_of a.sets b.sets) tokens ≡ weight f
spelled_weight a b tokens f h = tokens_count a b tokens ∙ ap counted h.spells ∙ tree_weight h.tree ∙ ap weight h.means

weight_again : (a b : Names) (f : Form) (text : List (List ℕ)) → signs_of a b text ≡ signs (tree_of f) → counted (signs (tree_of f)) ≡ weight f → weight f ≤ 256 → IsLong [] [] text → ⊥
weight_again a b f text same whole few (inl many) = let e = tokens_count (plain a) (plain b) text ∙ ap counted (plain_signs a b text ∙ same) in omega (arith, many, few, whole, e)
weight_again a b f text same whole few (inr deep) =
    let most = most_few 0 text in let e = tokens_open a b text in let s = ap opened same in let h = tree_opens f in omega (arith, deep, most, few, e, s, h)

not_many : (a b : Atoms) (tokens : List (List ℕ)) (f : Form) → Spells (signs_over a b tokens) f → (IsLong a.sets b.sets tokens → ⊥) → weight f ≤ 256
not_many a b tokens f spells short = few (sum_by (weight_of a.sets b.sets) tokens) (weight f) (spelled_weight a b tokens f spells) (λ many. short (inl many))
  where
    few : (n w : ℕ) → n ≡ w → (256 < n → ⊥) → w ≤ 256
    few n w is none = elim (cases_lt 256 n) [ inl many ↦ absurd (none many) | inr le ↦ omega arith ]

-- where some spelling of a formula is not too long, its canonical text is not
pub canonical_short : (a b : Atoms) (tokens : List (List ℕ)) (f : Form) → AreNames a.locals → AreNames b.locals → IsOver a.locals b.locals f → Spells (signs_over a b tokens) f → (IsLong a.sets b.sets tokens → ⊥) → IsLong [] [] (tokens_of (formula_text a.locals b.locals f)) → ⊥
canonical_short a b tokens f na nb over spells short =
    weight_again a.locals b.locals f (tokens_of (formula_text a.locals b.locals f)) (canonical_signs a.locals b.locals f na nb over) (tree_weight (tree_of f) ∙ ap weight (form_again f)) (not_many a b tokens f spells short)
