-- Names of keys, one more each.
use Rattle.std.proofs.Common.{ℕ, ◌≡◌, ◌⊎◌, ◌<◌, ◌≤◌, inl, inr, Bool, true, false, cond, Option, Some, None, List, [], length, slice_index, arith, refl, sym, ◌∙◌, subst, ap}
use Rattle.std.specs.BTreeMap.{BTreeMap, get, get_by, is_at}
use Rattle.std.specs.Map.{lookup}
use Rattle.std.specs.Cmp.Lexicographic.{slice_cmp}
use Rattle.std.specs.Global.{Vec}
use Rattle.std.proofs.lemmas.Option.{same_Some}
use Rattle.pair_structure.specs.contracts.side.MoveOrd.TheImpl as move_ord
use Rattle.pair_structure.specs.declared.side.Move.{Move}
use Rattle.pair_structure.specs.Structure.{Structure, GoesOn}
use Rattle.pair_quotient.specs.inside.ClassMoves.{IsKey}
use Rattle.pair_quotient.specs.inside.Naming.{AreNames, HasName, IsNamed, IsNameOf, key_cmp}
use Rattle.pair_quotient.specs.inside.Splitting.{AreLed}
use Rattle.pair_quotient.proofs.KeyLaws.{key_class, same_key}
use Rattle.pair_quotient.proofs.KeyOrder.{key_exact}

same_look_up : (names : BTreeMap (Vec Move) ℕ) (key other : Vec Move) → key.items ≡ other.items → get key_cmp names key ≡ get key_cmp names other
same_look_up names key other e = ap (λ items. get_by (λ (o : Vec Move). slice_cmp (move_ord.ghosts).cmp items o.items) names) e

some_none : {X : Type 0} (x : X) → Some x ≡ None → ⊥
some_none x e = cc

-- where a name is looked up after one more was put in
cases_of : (b : Bool) (n k : ℕ) (before : Option ℕ) → cond b (Some n) before ≡ Some k → ((b ≡ true) × (n ≡ k)) ⊎ (before ≡ Some k)
cases_of true n k before e = inl (refl, same_Some n k e)
cases_of false n k before e = inr e

missed : (b : Bool) (n : ℕ) (before : Option ℕ) → (b ≡ true → ⊥) → cond b (Some n) before ≡ before
missed true n before never = absurd (never refl)
missed false n before _ = refl

-- names stay
pub name_kept : (old : BTreeMap (Vec Move) ℕ) (key : Vec Move) (next : ℕ) (new : BTreeMap (Vec Move) ℕ) (n : ℕ) → IsNamed old key next new n → (q : Vec Move) (k : ℕ) → HasName old q k → HasName new q k
name_kept old key next new n named q k h = elim named.cases [
  | inl known ↦ subst (λ (m : BTreeMap (Vec Move) ℕ). HasName m q k) (sym known.1) h
  | inr put ↦ put.2 q ∙ missed (is_at (key_cmp key) q) next (get key_cmp old q) (λ hit. some_none k (sym h ∙ same_look_up old q key (sym (key_exact key q hit)) ∙ put.1)) ∙ h
]

pub IsNameOf-kept : (m : Structure) (classes : List ℕ) (old : BTreeMap (Vec Move) ℕ) (key : Vec Move) (next : ℕ) (new : BTreeMap (Vec Move) ℕ) (n : ℕ) → IsNamed old key next new n → (s k : ℕ) → IsNameOf m classes old s k → IsNameOf m classes new s k
IsNameOf-kept m classes old key next new n named s k h = record { key = h.key; is = h.is; named = name_kept old key next new n named h.key k h.named }

-- what may be said of the name of one more key
abbrev IsFit : Structure → List ℕ → List ℕ → ℕ → Vec Move → ℕ → Type 0
IsFit m classes leaders next key n = ((n < length leaders) × IsKey m classes (slice_index leaders n) key.items) ⊎ ((length leaders ≤ n) × (n < next))

pub AreNames-named : (m : Structure) (classes leaders : List ℕ) (before after : ℕ) (old : BTreeMap (Vec Move) ℕ) (key : Vec Move) (next : ℕ) (new : BTreeMap (Vec Move) ℕ) (n : ℕ) → before ≤ after → AreNames m classes leaders before old → IsNamed old key next new n → (n ≡ next → IsFit m classes leaders after key next) → ((q : Vec Move) → HasName old q next → q.items ≡ key.items) → AreNames m classes leaders after new
AreNames-named m classes leaders before after old key next new n le are named fit alone = record { of = of; apart = apart }
  where
    more : (q : Vec Move) (k : ℕ) → IsFit m classes leaders before q k → IsFit m classes leaders after q k
    more q k (inl h) = inl h
    more q k (inr h) = inr (h.0, omega (arith, h.1, le))

    at_items : (q : Vec Move) → key.items ≡ q.items → IsFit m classes leaders after key next → IsFit m classes leaders after q next
    at_items q e (inl h) = inl (h.0, subst (IsKey m classes (slice_index leaders next)) e h.1)
    at_items q e (inr h) = inr h

    of : (q : Vec Move) (k : ℕ) → HasName new q k → IsFit m classes leaders after q k
    of q k h = elim named.cases [
      | inl known ↦ more q k (are.of q k (subst (λ (x : BTreeMap (Vec Move) ℕ). HasName x q k) known.1 h))
      | inr put ↦ elim (cases_of (is_at (key_cmp key) q) next k (get key_cmp old q) (sym (put.2 q) ∙ h)) [
        | inl hit ↦ subst (λ i. IsFit m classes leaders after q i) hit.1 (at_items q (key_exact key q hit.0) (fit put.0))
        | inr earlier ↦ more q k (are.of q k earlier)
      ]
    ]

    apart : (q r : Vec Move) (k : ℕ) → HasName new q k → HasName new r k → q.items ≡ r.items
    apart q r k h g = elim named.cases [
      | inl known ↦ are.apart q r k (subst (λ (x : BTreeMap (Vec Move) ℕ). HasName x q k) known.1 h) (subst (λ (x : BTreeMap (Vec Move) ℕ). HasName x r k) known.1 g)
      | inr put ↦ both (cases_of (is_at (key_cmp key) q) next k (get key_cmp old q) (sym (put.2 q) ∙ h)) (cases_of (is_at (key_cmp key) r) next k (get key_cmp old r) (sym (put.2 r) ∙ g))
    ]
      where
        both : ((is_at (key_cmp key) q ≡ true) × (next ≡ k)) ⊎ (get key_cmp old q ≡ Some k) → ((is_at (key_cmp key) r ≡ true) × (next ≡ k)) ⊎ (get key_cmp old r ≡ Some k) → q.items ≡ r.items
        both (inl x) (inl y) = sym (key_exact key q x.0) ∙ key_exact key r y.0
        both (inl x) (inr y) = sym (key_exact key q x.0) ∙ sym (alone r (y ∙ ap (λ (i : ℕ). Some i) (sym x.1)))
        both (inr x) (inl y) = alone q (x ∙ ap (λ (i : ℕ). Some i) (sym y.1)) ∙ key_exact key r y.0
        both (inr x) (inr y) = are.apart q r k x y

-- the key of a block's leader gets the block's number
pub leader_named : (m : Structure) → GoesOn m → (classes leaders : List ℕ) → AreLed (length m.states) classes leaders → (old : BTreeMap (Vec Move) ℕ) (key : Vec Move) (b : ℕ) (new : BTreeMap (Vec Move) ℕ) (n : ℕ) → b < length leaders → AreNames m classes leaders (length leaders) old → IsKey m classes (slice_index leaders b) key.items → IsNamed old key b new n → AreNames m classes leaders (length leaders) new × IsNameOf m classes new (slice_index leaders b) b
leader_named m on classes leaders led old key b new n lb are is named = (AreNames-named m classes leaders (length leaders) (length leaders) old key b new n (omega arith) are named (λ e. inl (lb, is)) alone, record { key = key; is = is; named = subst (HasName new key) right named.here })
  where
    itself : (s : ℕ) (x y : List Move) → IsKey m classes s x → IsKey m classes s y → x ≡ y
    itself s x y kx ky = same_key m classes s s x y refl (λ side t step. (t, step, refl)) (λ side t step. (t, step, refl)) kx ky

    alone : (q : Vec Move) → HasName old q b → q.items ≡ key.items
    alone q h = elim (are.of q b h) [ inl lead ↦ itself (slice_index leaders b) q.items key.items lead.1 is | inr past ↦ absurd (omega (arith, past.0, lb)) ]

    right : n ≡ b
    right = elim named.cases [
      | inl known ↦ elim (are.of key n known.0) [
        | inl lead ↦ sym (led.led n lead.0) ∙ key_class m on classes (slice_index leaders n) (slice_index leaders b) key.items (led.states n lead.0) lead.1 is ∙ led.led b lb
        | inr past ↦ absurd (omega (arith, past.0, past.1))
      ]
      | inr put ↦ put.0
    ]

pub AreNames-empty : (m : Structure) (classes leaders : List ℕ) (next : ℕ) (names : BTreeMap (Vec Move) ℕ) → names.entries ≡ [] → AreNames m classes leaders next names
AreNames-empty m classes leaders next names empty = record { of = λ q k h. absurd (none q k h); apart = λ q r k h g. absurd (none q k h) }
  where
    none : (q : Vec Move) (k : ℕ) → HasName names q k → ⊥
    none q k h = some_none k (sym h ∙ ap (λ (es : List (Vec Move × ℕ)). lookup (is_at (key_cmp q)) es) empty)
