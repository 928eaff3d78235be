-- A formula in whose spelling each name is known is over the local states of the two sides.
use Rattle.std.proofs.Common.{ℕ, ◌≡◌, ◌<◌, true, Option, Some, None, List, [], ◌∷◌, ◌++◌, length, refl, subst}
use Rattle.std.specs.List.{list_all}
use Rattle.pair_structure.specs.Parts.{Names}
use Rattle.pair_structure.specs.declared.side.Side.{Side}
use Rattle.pair_structure.specs.declared.side.Side.TheVariants.{A, B}
use Rattle.ctl_form.specs.Form.{Form}
use Rattle.formula_text.specs.declared.sign.Leaf.{Leaf}
use Rattle.formula_text.specs.declared.sign.Leaf.TheVariants.{Yes, No, At}
use Rattle.formula_text.specs.declared.sign.Mark.TheVariants.{And, Or, Arrow, Close, Right}
use Rattle.formula_text.specs.declared.sign.Prefix.TheVariants.{Not, Next, Always, Sometime}
use Rattle.formula_text.specs.declared.sign.Sign.{Sign}
use Rattle.formula_text.specs.declared.sign.Sign.TheVariants.{Alone, Behind, Until}
use Rattle.formula_text.specs.Canonical.{IsOver}
use Rattle.formula_text.specs.Sets.{Atoms, members_at, set_or, signs_over, token_signs}
use Rattle.formula_text.specs.Sign.{atom_sign, behind_dot, word_sign, sign_of, atom_or, number_of}
use Rattle.formula_text.specs.Tree.{Tree, leaf, prefixed, grouped, conjunction, disjunction, implication, waits, signs, tree_form, is_known, is_known_leaf, AreKnown, Spells}
use Rattle.formula_text.proofs.SetLaws.{Each, each_append, set_or_each}
use Rattle.formula_text.proofs.SignRows.{word_kept, atom_kept, atom_or_kept, number_below}
use Rattle.strict_text.proofs.Positions.{both_true}

-- an atom is one of its side's local states
abbrev LeafOver : Names → Names → Leaf → Type 0
LeafOver a b (At A (Some n)) = n < length a
LeafOver a b (At B (Some n)) = n < length b
LeafOver a b (At side None) = ⊥
LeafOver a b l = Unit {0}

abbrev SignOver : Names → Names → Sign → Type 0
SignOver a b (Alone l) = LeafOver a b l
SignOver a b s = Unit {0}

abbrev EachOver : Names → Names → List Sign → Type 0
EachOver a b [] = Unit {0}
EachOver a b (s ∷ ss) = SignOver a b s × EachOver a b ss

abbrev locals_on : Names → Names → Side → Names
locals_on a b A = a
locals_on a b B = b

-- where a sign is known, it is over the local states
abbrev IfKnown : Names → Names → Sign → Type 0
IfKnown a b s = is_known s ≡ true → SignOver a b s

atom_a : (a b : Names) (found : Option ℕ) → ((n : ℕ) → found ≡ Some n → n < length a) → is_known_leaf (At A found) ≡ true → LeafOver a b (At A found)
atom_a a b None below known = cc
atom_a a b (Some n) below known = below n refl

atom_b : (a b : Names) (found : Option ℕ) → ((n : ℕ) → found ≡ Some n → n < length b) → is_known_leaf (At B found) ≡ true → LeafOver a b (At B found)
atom_b a b None below known = cc
atom_b a b (Some n) below known = below n refl

sign_over : (a b : Names) (token : List ℕ) → IfKnown a b (sign_of a b token)
sign_over a b token =
    atom_or_kept (IfKnown a b) A a (behind_dot 97 token) (atom_or B b (behind_dot 98 token) (word_sign token)) (λ k. tt) (λ name. atom_a a b (number_of a name) (number_below a name))
    (atom_or_kept (IfKnown a b) B b (behind_dot 98 token) (word_sign token) (λ k. tt) (λ name. atom_b a b (number_of b name) (number_below b name))
    (word_kept (IfKnown a b) token (λ k. tt) (λ all rest. (λ h k. tt, (λ h k. tt, (λ h k. tt, (λ h k. tt, (λ h k. tt, (λ h k. tt, tt)))))))
    (λ h k. tt, (λ h k. tt, (λ h k. tt, (λ h k. tt, (λ h k. tt, (λ h k. tt, tt))))))
    (λ h k. tt, (λ h k. tt, (λ h k. tt, (λ h k. tt, (λ h k. tt, (λ h k. tt, tt))))))))

member_over : (a b : Names) (side : Side) (name : List ℕ) → IfKnown a b (atom_sign side (locals_on a b side) name)
member_over a b A name = atom_kept (IfKnown a b) A a name (λ k. tt) (atom_a a b (number_of a name) (number_below a name))
member_over a b B name = atom_kept (IfKnown a b) B b name (λ k. tt) (atom_b a b (number_of b name) (number_below b name))

-- so is each sign of a token, also where it names a set
token_over : (a b : Atoms) (token : List ℕ) → Each (IfKnown a.locals b.locals) (token_signs a b token)
token_over a b token =
    set_or_each (IfKnown a.locals b.locals) A a.locals (members_at 97 a.sets token) (set_or B b.locals (members_at 98 b.sets token) (sign_of a.locals b.locals token ∷ [])) (λ k. tt) (λ k. tt) (λ k. tt) (member_over a.locals b.locals A)
    (set_or_each (IfKnown a.locals b.locals) B b.locals (members_at 98 b.sets token) (sign_of a.locals b.locals token ∷ []) (λ k. tt) (λ k. tt) (λ k. tt) (member_over a.locals b.locals B) (sign_over a.locals b.locals token, tt))

tokens_over : (a b : Atoms) (tokens : List (List ℕ)) → Each (IfKnown a.locals b.locals) (signs_over a b tokens)
tokens_over a b [] = tt
tokens_over a b (t ∷ ts) = each_append (IfKnown a.locals b.locals) (token_signs a b t) (signs_over a b ts) (token_over a b t) (tokens_over a b ts)

known_over : (a b : Names) (ss : List Sign) → Each (IfKnown a b) ss → AreKnown ss → EachOver a b ss
known_over a b [] each known = tt
known_over a b (s ∷ ss) each known = let h = both_true (is_known s) (list_all is_known ss) known in (each.0 h.0, known_over a b ss each.1 h.1)

over_left : (a b : Names) (ss ts : List Sign) → EachOver a b (ss ++ ts) → EachOver a b ss
over_left a b [] ts h = tt
over_left a b (s ∷ ss) ts h = (h.0, over_left a b ss ts h.1)

over_right : (a b : Names) (ss ts : List Sign) → EachOver a b (ss ++ ts) → EachOver a b ts
over_right a b [] ts h = h
over_right a b (s ∷ ss) ts h = over_right a b ss ts h.1

tree_over : (a b : Names) (t : Tree) → EachOver a b (signs t) → IsOver a b (tree_form t)
tree_over a b (leaf Yes) h = tt
tree_over a b (leaf No) h = tt
tree_over a b (leaf (At A (Some n))) h = h.0
tree_over a b (leaf (At B (Some n))) h = h.0
tree_over a b (leaf (At A None)) h = absurd h.0
tree_over a b (leaf (At B None)) h = absurd h.0
tree_over a b (prefixed Not f) h = tree_over a b f h.1
tree_over a b (prefixed (Next all side) f) h = tree_over a b f h.1
tree_over a b (prefixed (Always all) f) h = tree_over a b f h.1
tree_over a b (prefixed (Sometime all) f) h = tree_over a b f h.1
tree_over a b (grouped f) h = tree_over a b f (over_left a b (signs f) (Behind Close ∷ []) h.1)
tree_over a b (conjunction f g) h = (tree_over a b f (over_left a b (signs f) (Behind And ∷ signs g) h), tree_over a b g (over_right a b (signs f) (Behind And ∷ signs g) h).1)
tree_over a b (disjunction f g) h = (tree_over a b f (over_left a b (signs f) (Behind Or ∷ signs g) h), tree_over a b g (over_right a b (signs f) (Behind Or ∷ signs g) h).1)
tree_over a b (implication f g) h = (tree_over a b f (over_left a b (signs f) (Behind Arrow ∷ signs g) h), tree_over a b g (over_right a b (signs f) (Behind Arrow ∷ signs g) h).1)
tree_over a b (waits all weak f g) h =
    let more = over_right a b (signs f) (Until weak ∷ (signs g ++ (Behind Right ∷ []))) h.1.1 in
    (tree_over a b f (over_left a b (signs f) (Until weak ∷ (signs g ++ (Behind Right ∷ []))) h.1.1), tree_over a b g (over_left a b (signs g) (Behind Right ∷ []) more.1))

pub spelled_over : (a b : Atoms) (tokens : List (List ℕ)) (f : Form) → Spells (signs_over a b tokens) f → AreKnown (signs_over a b tokens) → IsOver a.locals b.locals f
spelled_over a b tokens f h known = subst (IsOver a.locals b.locals) h.means (tree_over a.locals b.locals h.tree (subst (EachOver a.locals b.locals) h.spells (known_over a.locals b.locals (signs_over a b tokens) (tokens_over a b tokens) known)))
