-- Where settled states stay and the others go where their keys say, the partition is split.
use Rattle.std.proofs.Common.{ℕ, ◌≡◌, ◌≢◌, ◌<◌, ◌≤◌, inl, inr, Bool, List, length, slice_index, arith, refl, sym, ◌∙◌, subst, ap}
use Rattle.std.specs.BTreeMap.{BTreeMap, get_by}
use Rattle.std.specs.Cmp.Lexicographic.{slice_cmp}
use Rattle.std.specs.Global.{Vec}
use Rattle.std.proofs.lemmas.Option.{same_Some}
use Rattle.pair_structure.specs.contracts.side.MoveOrd.TheImpl as move_ord
use Rattle.pair_structure.specs.declared.side.Move.{Move}
use Rattle.pair_structure.specs.Structure.{Structure, GoesOn}
use Rattle.pair_quotient.specs.inside.ClassMoves.{IsKey}
use Rattle.pair_quotient.specs.inside.Naming.{AreNames, HasName, IsNameOf}
use Rattle.pair_quotient.specs.inside.Partition.{IsMatched, IsSplit}
use Rattle.pair_quotient.specs.inside.Refining.{AreCalm, IsSettled}
use Rattle.pair_quotient.specs.inside.Splitting.{IsPlaced, IsMoved, AreLed}
use Rattle.pair_quotient.proofs.KeyLaws.{key_class, key_matched, same_key}

pub matched_through : (m : Structure) (classes : List ℕ) (s t u : ℕ) → IsMatched m classes s t → IsMatched m classes t u → IsMatched m classes s u
matched_through m classes s t u st tu side s' step =
    let x = st side s' step in
    let y = tu side x.0 x.1 in
    (y.0, y.1, x.2 ∙ y.2)

-- a name is that of a key's items
pub same_name : (names : BTreeMap (Vec Move) ℕ) (key other : Vec Move) (n k : ℕ) → key.items ≡ other.items → HasName names key n → HasName names other k → n ≡ k
same_name names key other n k e h g = same_Some n k (sym h ∙ ap (λ items. get_by (λ (o : Vec Move). slice_cmp (move_ord.ghosts).cmp items o.items) names) e ∙ g)

module _ (m : Structure) (on : GoesOn m) (old new leaders : List ℕ) (settled : List Bool) (names : BTreeMap (Vec Move) ℕ) (next : ℕ) (blocks : AreLed (length m.states) old leaders) (are : AreNames m old leaders next names) (calm : AreCalm m old settled) where
  -- two states whose keys have one name
  one_name : (s t n : ℕ) → s < length m.states → IsNameOf m old names s n → IsNameOf m old names t n → (slice_index old s ≡ slice_index old t) × IsMatched m old s t
  one_name s t n ls hs ht =
      let e = are.apart hs.key ht.key n hs.named ht.named in
      let kt : IsKey m old t hs.key.items = subst (IsKey m old t) (sym e) ht.is in
      (key_class m on old s t hs.key.items ls hs.is kt, key_matched m old s t hs.key.items hs.is kt)

  -- a name that is the number of a block is that of its leader's key
  leader_name : (t b : ℕ) → t < length m.states → b < length leaders → IsNameOf m old names t b → (slice_index old t ≡ b) × IsMatched m old (slice_index leaders b) t × IsMatched m old t (slice_index leaders b)
  leader_name t b lt lb ht = elim (are.of ht.key b ht.named) [
    | inl lead ↦ (key_class m on old t (slice_index leaders b) ht.key.items lt ht.is lead.1 ∙ blocks.led b lb, key_matched m old (slice_index leaders b) t ht.key.items lead.1 ht.is, key_matched m old t (slice_index leaders b) ht.key.items ht.is lead.1)
    | inr new_one ↦ absurd (omega (arith, new_one.0, lb))
  ]

  -- of a settled state and the leader of its block
  calm_leader : (s b : ℕ) → s < length m.states → slice_index old s ≡ b → IsSettled settled s → IsSettled settled (slice_index leaders b) → IsMatched m old s (slice_index leaders b) × IsMatched m old (slice_index leaders b) s
  calm_leader s b ls e hs hl =
      let lb : b < length leaders = subst (λ x. x < length leaders) e (blocks.within s ls) in
      let same : slice_index old s ≡ slice_index old (slice_index leaders b) = e ∙ sym (blocks.led b lb) in
      (calm.matched s (slice_index leaders b) ls (blocks.states b lb) hs hl same, calm.matched (slice_index leaders b) s (blocks.states b lb) ls hl hs (sym same))

  -- a settled state, and one that goes to its block
  to_settled : (s t : ℕ) → s < length m.states → t < length m.states → IsSettled settled s → slice_index new s ≡ slice_index old s → IsPlaced m old leaders settled names new t → slice_index new s ≡ slice_index new t → (slice_index old s ≡ slice_index old t) × IsMatched m old s t × IsMatched m old t s
  to_settled s t ls lt hs stays placed e =
      let b : ℕ = slice_index old s in
      let lb : slice_index old s < length leaders = blocks.within s ls in
      let name : IsNameOf m old names t (slice_index old s) = subst (IsNameOf m old names t) (sym e ∙ stays) placed.own in
      let u = leader_name t (slice_index old s) lt lb name in
      let hl : IsSettled settled (slice_index leaders (slice_index old s)) = subst (λ x. IsSettled settled (slice_index leaders x)) u.0 (placed.elected s ls (sym u.0) hs) in
      let c = calm_leader s (slice_index old s) ls refl hs hl in
      (sym u.0, matched_through m old s (slice_index leaders (slice_index old s)) t c.0 u.1, matched_through m old t (slice_index leaders (slice_index old s)) s u.2 c.1)

  -- states that go to one block were in one, and match each other
  parted : (s t : ℕ) → s < length m.states → t < length m.states → IsMoved m old leaders settled names new s → IsMoved m old leaders settled names new t → slice_index new s ≡ slice_index new t → (slice_index old s ≡ slice_index old t) × IsMatched m old s t
  parted s t ls lt (inl a) (inl b) e = let f : slice_index old s ≡ slice_index old t = sym a.1 ∙ e ∙ b.1 in (f, calm.matched s t ls lt a.0 b.0 f)
  parted s t ls lt (inl a) (inr b) e = let u = to_settled s t ls lt a.0 a.1 b e in (u.0, u.1)
  parted s t ls lt (inr a) (inl b) e = let u = to_settled t s lt ls b.0 b.1 a (sym e) in (sym u.0, u.2)
  parted s t ls lt (inr a) (inr b) e = one_name s t (slice_index new t) ls (subst (IsNameOf m old names s) e a.own) b.own

  -- a settled state, and one of its block that matches it
  stays_with : (s t : ℕ) → s < length m.states → t < length m.states → IsSettled settled s → IsPlaced m old leaders settled names new t → slice_index old s ≡ slice_index old t → IsMatched m old s t → IsMatched m old t s → slice_index new t ≡ slice_index old t
  stays_with s t ls lt hs placed e st ts =
      let b : ℕ = slice_index old t in
      let lb : slice_index old t < length leaders = blocks.within t lt in
      let hl = placed.elected s ls e hs in
      let c = calm_leader s (slice_index old t) ls e hs hl in
      let tl = matched_through m old t s (slice_index leaders (slice_index old t)) ts c.0 in
      let back = matched_through m old (slice_index leaders (slice_index old t)) s t c.1 st in
      let keys = same_key m old t (slice_index leaders (slice_index old t)) placed.own.key.items placed.lead.key.items (sym (blocks.led (slice_index old t) lb)) tl back placed.own.is placed.lead.is in
      same_name names placed.own.key placed.lead.key _ _ keys placed.own.named placed.lead.named

  -- states of one block that match each other go to one
  joined : (s t : ℕ) → s < length m.states → t < length m.states → IsMoved m old leaders settled names new s → IsMoved m old leaders settled names new t → slice_index old s ≡ slice_index old t → IsMatched m old s t → IsMatched m old t s → slice_index new s ≡ slice_index new t
  joined s t ls lt (inl a) (inl b) e st ts = a.1 ∙ e ∙ sym b.1
  joined s t ls lt (inl a) (inr b) e st ts = a.1 ∙ e ∙ sym (stays_with s t ls lt a.0 b e st ts)
  joined s t ls lt (inr a) (inl b) e st ts = stays_with t s lt ls b.0 a (sym e) ts st ∙ e ∙ sym b.1
  joined s t ls lt (inr a) (inr b) e st ts = same_name names a.own.key b.own.key _ _ (same_key m old s t a.own.key.items b.own.key.items e st ts a.own.is b.own.is) a.own.named b.own.named

  pub IsSplit-from : length new ≡ length old → ((s : ℕ) → s < length m.states → IsMoved m old leaders settled names new s) → IsSplit m old new
  IsSplit-from long each = record {
    long = long;
    finer = λ s t ls lt e. (parted s t ls lt (each s ls) (each t lt) e).0;
    apart = λ s t ls lt e. (parted s t ls lt (each s ls) (each t lt) e).1;
    together = λ s t ls lt e st ts. joined s t ls lt (each s ls) (each t lt) e st ts;
  }

  -- a state that changes its block goes to a new one
  pub goes_to_new : (s : ℕ) → s < length m.states → IsPlaced m old leaders settled names new s → slice_index new s ≢ slice_index old s → (length leaders ≤ slice_index new s) × (slice_index new s < next)
  goes_to_new s ls placed differ = elim (are.of placed.own.key (slice_index new s) placed.own.named) [
    | inl lead ↦ absurd (differ (sym (leader_name s (slice_index new s) ls lead.0 placed.own).0))
    | inr fresh ↦ fresh
  ]
