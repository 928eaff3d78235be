-- What the tests of the code say of children and successors in the words of the rules.
use Rattle.std.proofs.Common.{ℕ, zero, suc, ◌≡◌, ◌<◌, inl, inr, Bool, true, false, ◌||◌, ◌&&◌, List, [], ◌∷◌, Contains, length, refl, subst, sym, ◌∙◌, ap, arith, slice_index_or}
use Rattle.std.proofs.lemmas.Bool.{and_parts, and_from, or_cases, or_left, or_right}
use Rattle.std.specs.List.{list_any, list_all}
use Rattle.std.proofs.Math.Decide.{dec_lt}
use Rattle.std.proofs.lemmas.Grind.{get_or_default_zero}
use Rattle.pair_structure.specs.declared.side.Side.{Side}
use Rattle.ctl_form.specs.declared.part.Part.{Part}
use Rattle.ctl_form.specs.declared.part.Part.TheVariants.{Yes, No, Lit, Both, Either, Next, Until}
use Rattle.closure_sets.specs.ClosureParts.{ClosureParts, count}
use Rattle.closure_sets.specs.Label.{part_of}
use Rattle.closure_sets.specs.Row.{Members}
use Rattle.tableau_graph.specs.Graph.{Graph, graph_of, IsSomeNext}
use Rattle.tableau_graph.specs.Rules.{IsTableau}
use Rattle.tableau_graph.specs.TableauParts.{TableauParts, and_at, edges_at, row_of, is_some_next, one_more, somes_below}
use Rattle.deletion_rules.specs.inside.Cursors.{flag_of}
use Rattle.deletion_rules.specs.Deletion.{LivesOr}
use Rattle.deletion_rules.specs.Marks.{lives_of}
use Rattle.deletion_rules.specs.inside.Tests.{lives_or, lives_on, AreLivingOrs}
use Rattle.deletion_rules.proofs.Within.{successor_within}

-- an element of a list that passes, and all that pass
pub any_out : (p : ℕ → Bool) (xs : List ℕ) → list_any p xs ≡ true → (x : ℕ) × Contains xs x × (p x ≡ true)
any_out p [] e = absurd (let f : false ≡ true = e in cc)
any_out p (x ∷ xs) e = elim (or_cases (p x) (list_any p xs) e) [ inl f ↦ (x, (0, omega arith, refl), f) | inr f ↦ (let u = any_out p xs f in let c = u.1 in (u.0, (suc c.0, omega (arith, c.1), c.2), u.2)) ]

pub any_in : (p : ℕ → Bool) (xs : List ℕ) (x : ℕ) → Contains xs x → p x ≡ true → list_any p xs ≡ true
any_in p [] x h e = absurd (omega (arith, h.1))
any_in p (y ∷ xs) x h e = by (λ c. any_in p xs x c e) h.0 h.1 h.2
  where
    by : (Contains xs x → list_any p xs ≡ true) → (k : ℕ) → k < length (y ∷ xs) → slice_index_or (y ∷ xs) k x ≡ x → p y || list_any p xs ≡ true
    by again zero lt q = or_left (p y) (list_any p xs) (subst (λ z. p z ≡ true) (sym q) e)
    by again (suc k) lt q = or_right (p y) (list_any p xs) (again (k, omega (arith, lt), q))

pub all_out : (p : ℕ → Bool) (xs : List ℕ) → list_all p xs ≡ true → (x : ℕ) → Contains xs x → p x ≡ true
all_out p [] e x h = absurd (omega (arith, h.1))
all_out p (y ∷ xs) e x h = by (λ c. all_out p xs (and_parts (p y) (list_all p xs) e).1 x c) h.0 h.1 h.2
  where
    by : (Contains xs x → p x ≡ true) → (k : ℕ) → k < length (y ∷ xs) → slice_index_or (y ∷ xs) k x ≡ x → p x ≡ true
    by again zero lt q = subst (λ z. p z ≡ true) q (and_parts (p y) (list_all p xs) e).0
    by again (suc k) lt q = again (k, omega (arith, lt), q)

pub all_in : (p : ℕ → Bool) (xs : List ℕ) → ((x : ℕ) → Contains xs x → p x ≡ true) → list_all p xs ≡ true
all_in p [] h = refl
all_in p (y ∷ xs) h = and_from (p y) (list_all p xs) (h y (0, omega arith, refl)) (all_in p xs (λ x c. h x (suc c.0, omega (arith, c.1), c.2)))

-- members EXs h of the row, counted, name each place among the successors
pub next_of_part : (part : Part) → is_some_next part ≡ true → (h : ℕ) × (side : Side) × (part ≡ Next false side h)
next_of_part (Next false side h) e = (h, side, refl)
next_of_part (Next true side h) e = absurd (let f : false ≡ true = e in cc)
next_of_part Yes e = absurd (let f : false ≡ true = e in cc)
next_of_part No e = absurd (let f : false ≡ true = e in cc)
next_of_part (Lit side local is) e = absurd (let f : false ≡ true = e in cc)
next_of_part (Both f g) e = absurd (let f : false ≡ true = e in cc)
next_of_part (Either f g) e = absurd (let f : false ≡ true = e in cc)
next_of_part (Until all weak f g) e = absurd (let f : false ≡ true = e in cc)

abbrev Hit : ClosureParts → Members → ℕ → Type 0
Hit c row k = (i : ℕ) × (row i && is_some_next (part_of c i) ≡ true) × (somes_below c row i ≡ k)

hit_last : (c : ClosureParts) (row : Members) (n k : ℕ) (b : Bool) → row n && is_some_next (part_of c n) ≡ b → k < one_more b (somes_below c row n) → (k < somes_below c row n → Hit c row k) → Hit c row k
hit_last c row n k false e lt again = again lt
hit_last c row n k true e lt again = elim (dec_lt k (somes_below c row n)) [ yes b ↦ again b | no g ↦ (n, e, omega (arith, lt, g)) ]

place_hit : (c : ClosureParts) (row : Members) (n k : ℕ) → k < somes_below c row n → Hit c row k
place_hit c row zero k lt = absurd (omega (arith, lt))
place_hit c row (suc n) k lt = hit_last c row n k (row n && is_some_next (part_of c n)) refl lt (λ l. place_hit c row n k l)

module _ (t : TableauParts) (k : IsTableau t) where
  abbrev g : Graph
  g = graph_of t

  -- a successor of the list belongs to some EXs h of the row
  pub successor_hit : (n o : ℕ) → n < length t.ands → Contains (edges_at t.successors n) o → (i : ℕ) × (h : ℕ) × (side : Side) × IsSomeNext t.closure g n i side h × (g.next_or n i ≡ o)
  successor_hit n o small there =
      let all = k.all_ands in
      let s = k.rules.successors n (omega (arith, small, all)) in
      let long = s.long in
      let u = place_hit t.closure (row_of (and_at t.ands n)) (count t.closure) there.0 (let lt = there.1 in omega (arith, lt, long)) in
      let b = and_parts (row_of (and_at t.ands n) u.0) (is_some_next (part_of t.closure u.0)) u.1 in
      let p = next_of_part (part_of t.closure u.0) b.1 in
      let z : slice_index_or (edges_at t.successors n) there.0 0 ≡ o = sym (get_or_default_zero (edges_at t.successors n) there.0 o there.1) ∙ there.2 in
      (u.0, p.0, p.1, record { node = small; member = b.0; part = p.2 }, ap (λ x. slice_index_or (edges_at t.successors n) x 0) u.2 ∙ z)

  -- and the other way round
  pub successor_there : (n i h : ℕ) (side : Side) → IsSomeNext t.closure g n i side h → Contains (edges_at t.successors n) (g.next_or n i)
  successor_there n i h side some = let small = some.node in let all = k.all_ands in ((k.rules.successors n (omega (arith, small, all))).each i h side some.part some.member).0

module _ (t : TableauParts) (lives : List Bool) where
  pub lives_or_out : (o : ℕ) → lives_or t lives o ≡ true → LivesOr (graph_of t) (lives_of lives) o
  lives_or_out o e = let u = any_out (lives_of lives) (edges_at t.children o) e in (u.0, u.1, u.2, tt)

  pub lives_or_in : (o : ℕ) → LivesOr (graph_of t) (lives_of lives) o → lives_or t lives o ≡ true
  lives_or_in o h = any_in (lives_of lives) (edges_at t.children o) h.0 h.1 h.2

module _ (t : TableauParts) (k : IsTableau t) (lives : List Bool) where
  -- the same, by a list of the OR nodes that have a living child
  module _ (ors : List Bool) (h : AreLivingOrs t lives (length t.ors) ors) where
    pub lives_on_out : (n : ℕ) → n < length t.ands → lives_on t ors n ≡ true → (i h : ℕ) (side : Side) → IsSomeNext t.closure (graph_of t) n i side h → LivesOr (graph_of t) (lives_of lives) ((graph_of t).next_or n i)
    lives_on_out n small e i j side some = let there = successor_there t k n i j side some in let o = (graph_of t).next_or n i in lives_or_out t lives o (sym (h.each o (successor_within t k n o small there)) ∙ all_out (flag_of ors) (edges_at t.successors n) e o there)

    pub lives_on_in : (n : ℕ) → n < length t.ands → ((i h : ℕ) (side : Side) → IsSomeNext t.closure (graph_of t) n i side h → LivesOr (graph_of t) (lives_of lives) ((graph_of t).next_or n i)) → lives_on t ors n ≡ true
    lives_on_in n small f = all_in (flag_of ors) (edges_at t.successors n) (λ o there. let u = successor_hit t k n o small there in h.each o (successor_within t k n o small there) ∙ subst (λ x. lives_or t lives x ≡ true) u.4 (lives_or_in t lives ((graph_of t).next_or n u.0) (f u.0 u.1 u.2 u.3)))
