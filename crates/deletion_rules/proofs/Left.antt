-- What the rules leave of the nodes, by the marks of their strong untils.
use Rattle.std.proofs.Common.{ℕ, zero, suc, ◌≡◌, ◌⊎◌, ◌<◌, ◌≤◌, ◌+◌, ◌++◌, inl, inr, Bool, true, false, Option, Some, None, is_none, List, [], ◌∷◌, Contains, length, length-append, refl, subst, sym, ◌∙◌, ap, arith}
use Rattle.std.proofs.lemmas.Bool.{and_parts}
use Rattle.std.proofs.Math.Decide.{dec_lt}
use Rattle.std.proofs.lemmas.List.{get_or_append_left, get_or_push}
use Rattle.pair_structure.specs.declared.side.Side.{Side}
use Rattle.pair_structure.specs.declared.side.Side.TheVariants.{A, B}
use Rattle.ctl_form.specs.declared.part.Part.TheVariants.{Until}
use Rattle.closure_sets.specs.ClosureParts.{ClosureParts, IsClosureParts, after, count}
use Rattle.closure_sets.specs.Full.{Has}
use Rattle.closure_sets.specs.Label.{part_of}
use Rattle.closure_sets.proofs.Closures.{until_lt, after_part}
use Rattle.tableau_graph.specs.Graph.{Graph, graph_of, IsGraph, IsSomeNext}
use Rattle.tableau_graph.specs.Rules.{IsTableau}
use Rattle.tableau_graph.specs.TableauParts.{TableauParts}
use Rattle.deletion_rules.specs.Deletion.{SomeChild, HasLower, Fulfilled, IsSupported, Falls}
use Rattle.deletion_rules.specs.Marks.{lives_of, marks_at, rank_of, ranks_of, AreLeft, AreMarks, AreTable, IsLeft, IsMarkedBy}
use Rattle.deletion_rules.specs.Targets.{AreTargets, IsTarget, target_with}
use Rattle.deletion_rules.specs.inside.Tests.{is_missing, lives_on, AreLivingOrs, NoneMissing}
use Rattle.deletion_rules.specs.declared.target.Target.{Target}
use Rattle.deletion_rules.proofs.Seen.{lives_on_in, lives_on_out}
use Rattle.deletion_rules.proofs.Survive.{full_until}
use Rattle.deletion_rules.proofs.Basics.{and_rest}
use Rattle.deletion_rules.proofs.Onward.{full_has_some_next}

after_of : (c : ClosureParts) (g : Graph) (n u : ℕ) → Has (g.row n) (after c A u) → Has (g.row n) (after c B u) → (side : Side) → Has (g.row n) (after c side u)
after_of c g n u x y A = x
after_of c g n u x y B = y

module _ (c : ClosureParts) (k : IsClosureParts c) (g : Graph) (ok : IsGraph c g) (lives : ℕ → Bool) (within : (n : ℕ) → lives n ≡ true → n < g.ands) (u f second : ℕ) where
  -- the until goes on to the children of a successor
  brought : (n i h child : ℕ) (side : Side) → part_of c u ≡ Until true false f second → Has (g.row n) (after c side u) → IsSomeNext c g n i side h → Contains (g.children (g.next_or n i)) child → Has (g.row child) u
  brought n i h child side p has some there = ok.keeps (g.next_or n i) child u there ((ok.seeded n i h side some u).1 (inr (after c side u, after_part c k u f second true false side p, has)))

  own : (n child : ℕ) (side : Side) → n < g.ands → part_of c u ≡ Until false false f second → Has (g.row n) (after c side u) → Contains (g.children (g.next_or n (after c side u))) child → Has (g.row child) u
  own n child side node p has there = ok.keeps (g.next_or n (after c side u)) child u there ((ok.seeded n (after c side u) u side (record { node = node; member = has; part = after_part c k u f second false false side p }) u).1 (inl refl))

  -- a child with a mark of at most d
  lower : (marks : List (Option ℕ)) (d o : ℕ) → SomeChild g lives o (IsMarkedBy marks d) → HasLower g lives (rank_of marks) u (suc d) o
  lower marks d o v = let m = v.3 in (v.0, v.1, v.2, (m.0, m.2, (let le = m.1 in omega (arith, le))))

  each_marked : (marks : List (Option ℕ)) → part_of c u ≡ Until true false f second → (h : AreMarks c g lives (target_with true u f second) marks) → (d n : ℕ) → lives n ≡ true → Has (g.row n) u → Fulfilled c g lives (target_with true u f second) d n → IsMarkedBy marks d n
  each_marked marks p h zero n alive has y = h.full n zero (record { living = alive; member = has; falls = inl y })
  each_marked marks p h (suc d) n alive has (inl y) = h.full n (suc d) (record { living = alive; member = has; falls = inl y })
  each_marked marks p h (suc d) n alive has (inr v) = by (full_until c k g ok n u f second true false (within n alive) p has) (λ child l x y. each_marked marks p h d child l x y)
    where
      by : Has (g.row n) second ⊎ (Has (g.row n) f × Has (g.row n) (after c A u) × Has (g.row n) (after c B u)) → ((child : ℕ) → lives child ≡ true → Has (g.row child) u → Fulfilled c g lives (target_with true u f second) d child → IsMarkedBy marks d child) → IsMarkedBy marks (suc d) n
      by (inl y) again = h.full n (suc d) (record { living = alive; member = has; falls = inl y })
      by (inr w) again = h.full n (suc d) (record { living = alive; member = has; falls = inr (w.0, λ i h' side some. let z = v.1 i h' side some in lower marks d (g.next_or n i) (z.0, z.1, z.2, again z.0 z.2 (brought n i h' z.0 side p (after_of c g n u w.1 w.2 side) some z.1) z.3)) })

  some_marked : (marks : List (Option ℕ)) → part_of c u ≡ Until false false f second → (h : AreMarks c g lives (target_with false u f second) marks) → (d n : ℕ) → lives n ≡ true → Has (g.row n) u → Fulfilled c g lives (target_with false u f second) d n → IsMarkedBy marks d n
  some_marked marks p h zero n alive has y = h.full n zero (record { living = alive; member = has; falls = inl y })
  some_marked marks p h (suc d) n alive has (inl y) = h.full n (suc d) (record { living = alive; member = has; falls = inl y })
  some_marked marks p h (suc d) n alive has (inr v) = let side = v.1.0 in let z = v.1.2 in
      let low = lower marks d (g.next_or n (after c side u)) (z.0, z.1, z.2, some_marked marks p h d z.0 z.2 (own n z.0 side (within n alive) p v.1.1 z.1) z.3) in
      h.full n (suc d) (record { living = alive; member = has; falls = inr (v.0, (side, v.1.1, low)) })

  -- where the until is fulfilled with rank at most d there is a mark of at most d
  pub fulfilled_marked : (all : Bool) → part_of c u ≡ Until all false f second → (marks : List (Option ℕ)) → AreMarks c g lives (target_with all u f second) marks → (d n : ℕ) → lives n ≡ true → Has (g.row n) u → Fulfilled c g lives (target_with all u f second) d n → IsMarkedBy marks d n
  fulfilled_marked true p marks h = each_marked marks p h
  fulfilled_marked false p marks h = some_marked marks p h

  -- a bound on the rank may be raised
  fulfilled_more : (all : Bool) (j d n : ℕ) → j ≤ d → Fulfilled c g lives (target_with all u f second) j n → Fulfilled c g lives (target_with all u f second) d n
  fulfilled_more all zero zero n le y = y
  fulfilled_more all zero (suc d) n le y = inl y
  fulfilled_more all (suc j) zero n le y = absurd (omega (arith, le))
  fulfilled_more true (suc j) (suc d) n le (inl y) = inl y
  fulfilled_more true (suc j) (suc d) n le (inr v) = inr (v.0, λ i h side some. let z = v.1 i h side some in (z.0, z.1, z.2, fulfilled_more true j d z.0 (omega (arith, le)) z.3))
  fulfilled_more false (suc j) (suc d) n le (inl y) = inl y
  fulfilled_more false (suc j) (suc d) n le (inr v) = let z = v.1.2 in inr (v.0, (v.1.0, v.1.1, (z.0, z.1, z.2, fulfilled_more false j d z.0 (omega (arith, le)) z.3)))

  -- where ranks fall, the until is fulfilled with each of them
  module _ (rank : ℕ → ℕ → Option ℕ) where
    -- some EXs h of the row leads on, and no rank is below 0
    none_below : (n : ℕ) → n < g.ands → ((i h : ℕ) (side : Side) → IsSomeNext c g n i side h → HasLower g lives rank u 0 (g.next_or n i)) → ⊥
    none_below n small v = let w = full_has_some_next c k (g.row n) (ok.full n small) in let z = v w.0 w.1 w.2 (record { node = small; member = w.3; part = w.4 }) in let lt = z.3.2 in omega (arith, lt)

    abbrev With : Bool → ℕ → Type 0
    With all d = (n r : ℕ) → r < d → lives n ≡ true → Has (g.row n) u → rank n u ≡ Some r → Fulfilled c g lives (target_with all u f second) r n

    child_with : (all : Bool) (d r o : ℕ) → suc r ≤ d → With all d → ((child : ℕ) → Contains (g.children o) child → Has (g.row child) u) → HasLower g lives rank u (suc r) o → SomeChild g lives o (Fulfilled c g lives (target_with all u f second) r)
    child_with all d r o le again brings v = let m = v.3 in let lt = m.2 in (v.0, v.1, v.2, fulfilled_more all m.0 r v.0 (omega (arith, lt)) (again v.0 m.0 (omega (arith, lt, le)) v.2 (brings v.0 v.1) m.1))

    each_with : part_of c u ≡ Until true false f second → (d n r : ℕ) → r ≤ d → With true d → lives n ≡ true → Has (g.row n) u → Falls c g lives rank (target_with true u f second) r n → Fulfilled c g lives (target_with true u f second) r n
    each_with p d n r le again alive has falls = by r le (full_until c k g ok n u f second true false (within n alive) p has) falls
      where
        by : (r : ℕ) → r ≤ d → Has (g.row n) second ⊎ (Has (g.row n) f × Has (g.row n) (after c A u) × Has (g.row n) (after c B u)) → Falls c g lives rank (target_with true u f second) r n → Fulfilled c g lives (target_with true u f second) r n
        by zero le (inl y) z = y
        by zero le (inr w) (inl y) = y
        by zero le (inr w) (inr v) = absurd (none_below n (within n alive) v.1)
        by (suc r) le (inl y) z = inl y
        by (suc r) le (inr w) (inl y) = inl y
        by (suc r) le (inr w) (inr v) = inr (v.0, λ i h side some. child_with true d r (g.next_or n i) le again (λ child there. brought n i h child side p (after_of c g n u w.1 w.2 side) some there) (v.1 i h side some))

    some_with : part_of c u ≡ Until false false f second → (d n r : ℕ) → r ≤ d → With false d → lives n ≡ true → Falls c g lives rank (target_with false u f second) r n → Fulfilled c g lives (target_with false u f second) r n
    some_with p d n zero le again alive (inl y) = y
    some_with p d n zero le again alive (inr v) = absurd (let lt = v.1.2.3.2 in omega (arith, lt))
    some_with p d n (suc r) le again alive (inl y) = inl y
    some_with p d n (suc r) le again alive (inr v) = inr (v.0, (v.1.0, v.1.1, child_with false d r (g.next_or n (after c v.1.0 u)) le again (λ child there. own n child v.1.0 (within n alive) p v.1.1 there) v.1.2))

    pub falls_with : (all : Bool) → part_of c u ≡ Until all false f second → ((n r : ℕ) → lives n ≡ true → Has (g.row n) u → rank n u ≡ Some r → Falls c g lives rank (target_with all u f second) r n) → (d : ℕ) → With all d
    falls_with all p falls zero n r lt alive has e = absurd (omega (arith, lt))
    falls_with true p falls (suc d) n r lt alive has e = each_with p d n r (omega (arith, lt)) (falls_with true p falls d) alive has (falls n r alive has e)
    falls_with false p falls (suc d) n r lt alive has e = some_with p d n r (omega (arith, lt)) (falls_with false p falls d) alive (falls n r alive has e)

none_mark : (o : Option ℕ) → is_none o ≡ true → (r : ℕ) × (o ≡ Some r) → ⊥
none_mark o e u = let q : is_none (Some u.0) ≡ true = subst (λ (x : Option ℕ). is_none x ≡ true) u.1 e in let f : false ≡ true = q in cc

some_mark : (o : Option ℕ) → is_none o ≡ false → (r : ℕ) × (o ≡ Some r)
some_mark (Some r) e = (r, refl)
some_mark None e = absurd (let q : true ≡ false = e in cc)

module _ (t : TableauParts) (k : IsTableau t) (ok : IsGraph t.closure (graph_of t)) (lives : List Bool) (within : (n : ℕ) → lives_of lives n ≡ true → n < length t.ands) (table : List (List (Option ℕ))) (h : AreTable t.closure (graph_of t) (lives_of lives) (count t.closure) table) (n : ℕ) (small : n < length t.ands) where
  -- a node that no rule deletes
  pub left_yes : (targets : List Target) (flags : List Bool) → AreLivingOrs t lives (length t.ors) flags → AreTargets t.closure (count t.closure) targets → lives_of lives n ≡ true → lives_on t flags n ≡ true → NoneMissing t table n (length targets) targets → IsLeft t.closure (graph_of t) (lives_of lives) table n
  left_yes targets flags living are alive on none = record {
    living = alive;
    successors = lives_on_out t k lives flags living n small on;
    marked = λ u strong. (
        let at = are.all u.member u.f u.g u.all (until_lt t.closure u.member u.f u.g u.all false strong.part) strong.part in
        let seen : is_missing t table n u.member ≡ false = subst (λ i. is_missing t table n i ≡ false) at.2 (none at.0 at.1) in
        some_mark (ranks_of table n u.member) (and_rest ((graph_of t).row n u.member) (is_none (ranks_of table n u.member)) seen strong.member));
  }

  -- one without a living child of some successor
  pub left_apart : (flags : List Bool) → AreLivingOrs t lives (length t.ors) flags → lives_on t flags n ≡ false → IsSupported t.closure (graph_of t) (lives_of lives) n → ⊥
  left_apart flags living off s = let q : true ≡ false = sym (lives_on_in t k lives flags living n small s.successors) ∙ off in cc

  -- one with a strong until that is not fulfilled
  pub left_missing : (x : Target) → IsTarget t.closure x → lives_of lives n ≡ true → is_missing t table n x.member ≡ true → IsSupported t.closure (graph_of t) (lives_of lives) n → ⊥
  left_missing x is alive e s =
      let a = and_parts ((graph_of t).row n x.member) (is_none (ranks_of table n x.member)) e in
      let f = s.fulfilled x (record { part = is.part; member = a.0 }) in
      let m = fulfilled_marked t.closure k.rules.closure (graph_of t) ok (lives_of lives) within x.member x.f x.g x.all is.part (marks_at table x.member) ((h.each x.member is.member).strong x.all x.f x.g is.part) f.0 n alive a.0 f.1 in
      none_mark (ranks_of table n x.member) a.1 (m.0, m.2)

pub left_push : (c : ClosureParts) (g : Graph) (lives : ℕ → Bool) (table : List (List (Option ℕ))) (k : ℕ) (left more : List Bool) (x : Bool) → AreLeft c g lives table k left → more ≡ left ++ x ∷ [] → (x ≡ true → IsLeft c g lives table k) → (x ≡ false → (lives k ≡ false) ⊎ (IsSupported c g lives k → ⊥)) → AreLeft c g lives table (k + 1) more
left_push c g lives table k left more x h e left_here gone_here = record {
  long = ap length e ∙ long;
  stays = λ n lt q. elim (dec_lt n k) [ yes b ↦ h.stays n b (sym (before n b) ∙ q) | no o ↦ (let z : k ≡ n = omega (arith, lt, o) in subst (IsLeft c g lives table) z (left_here (sym here ∙ subst (λ j. lives_of more j ≡ true) (sym z) q))) ];
  gone = λ n lt q. elim (dec_lt n k) [ yes b ↦ h.gone n b (sym (before n b) ∙ q) | no o ↦ (let z : k ≡ n = omega (arith, lt, o) in subst (λ j. (lives j ≡ false) ⊎ (IsSupported c g lives j → ⊥)) z (gone_here (sym here ∙ subst (λ j. lives_of more j ≡ false) (sym z) q))) ];
}
  where
    long : length (left ++ x ∷ []) ≡ k + 1
    long = let l : length left ≡ k = h.long in omega (arith, l, length-append left (x ∷ []))

    here : lives_of more k ≡ x
    here = ap (λ (l : List Bool). lives_of l k) e ∙ get_or_push left x false k h.long

    before : (n : ℕ) → n < k → lives_of more n ≡ lives_of left n
    before n lt = ap (λ (l : List Bool). lives_of l n) e ∙ get_or_append_left left (x ∷ []) false n (let l = h.long in omega (arith, lt, l))
