-- What is left when nothing is deleted any more is kept, with ranks; and what is met is never deleted.
use Rattle.std.proofs.Common.{ℕ, zero, suc, ◌≡◌, ◌⊎◌, ◌<◌, ◌≤◌, ◌+◌, inl, inr, Bool, true, false, cond, Option, Some, None, List, [], ◌∷◌, length, zero-add, add_comm, refl, subst, sym, ◌∙◌, ap, arith, replicate}
use Rattle.std.specs.Global.{Vec}
use Rattle.std.proofs.lemmas.Bool.{cases_lt}
use Rattle.std.proofs.lemmas.List.{get_or_past, get_or-replicate}
use Rattle.std.proofs.lemmas.List.Sums.{sum_by-cons}
use Rattle.pair_structure.specs.Role.{RoleParts}
use Rattle.ctl_form.specs.declared.part.Part.{Part}
use Rattle.ctl_form.specs.declared.part.Part.TheVariants.{Yes, No, Lit, Both, Either, Next, Until}
use Rattle.closure_sets.specs.ClosureParts.{ClosureParts, count}
use Rattle.closure_sets.specs.Label.{part_of}
use Rattle.closure_sets.proofs.Closures.{until_lt}
use Rattle.tableau_graph.specs.Graph.{Graph, graph_of, IsGraph, ChildrenCover, RootCovers}
use Rattle.tableau_graph.specs.Rules.{IsTableau}
use Rattle.tableau_graph.specs.TableauParts.{IsWhole, TableauParts}
use Rattle.deletion_rules.specs.Deletion.{Falls, IsKept, IsStrong, LivesOr, AreLeastRanks}
use Rattle.deletion_rules.specs.Marks.{lists_of, lives_of, living_count, mark_at, marks_at, rank_of, ranks_of, AreLeft, AreMarksOf, AreTable, IsLeft}
use Rattle.deletion_rules.specs.Met.{MetLive}
use Rattle.deletion_rules.specs.Pruned.{IsUnsatisfiable}
use Rattle.deletion_rules.specs.inside.Stable.{IsLasting}
use Rattle.deletion_rules.specs.inside.Thinning.{IsThinned}
use Rattle.deletion_rules.proofs.Removal.{removal_keeps_met, dead_is_unsatisfiable}
use Rattle.deletion_rules.proofs.Standing.{flag_within, no_yes}
use Rattle.deletion_rules.proofs.Basics.{value_same}
use Rattle.deletion_rules.specs.Targets.{target_with}
use Rattle.deletion_rules.specs.declared.target.Target.{Target}
use Rattle.deletion_rules.proofs.Left.{fulfilled_marked, falls_with}

abbrev Within : List Bool → List Bool → Type 0
Within xs ys = (n : ℕ) → lives_of xs n ≡ true → lives_of ys n ≡ true

count_yes : (xs : List Bool) → living_count (true ∷ xs) ≡ living_count xs + 1
count_yes xs = sum_by-cons (λ (living : Bool). cond living 1 0) true xs ∙ add_comm 1 (living_count xs)

count_no : (xs : List Bool) → living_count (false ∷ xs) ≡ living_count xs
count_no xs = sum_by-cons (λ (living : Bool). cond living 1 0) false xs ∙ zero-add (living_count xs)

-- fewer nodes, or the same
living_falls : (xs ys : List Bool) → length xs ≡ length ys → Within ys xs → (living_count ys < living_count xs) ⊎ ((living_count ys ≡ living_count xs) × Within xs ys)
living_falls [] [] e h = inr (refl, λ n q. absurd (no_yes q))
living_falls [] (y ∷ ys) e h = absurd (omega (arith, e))
living_falls (x ∷ xs) [] e h = absurd (omega (arith, e))
living_falls (x ∷ xs) (y ∷ ys) e h = by x y (h 0) (living_falls xs ys (omega (arith, e)) (λ n q. h (suc n) q))
  where
    by : (x y : Bool) → (y ≡ true → x ≡ true) → (living_count ys < living_count xs) ⊎ ((living_count ys ≡ living_count xs) × Within xs ys) → (living_count (y ∷ ys) < living_count (x ∷ xs)) ⊎ ((living_count (y ∷ ys) ≡ living_count (x ∷ xs)) × Within (x ∷ xs) (y ∷ ys))
    by true true f (inl l) = inl (omega (arith, l, count_yes xs, count_yes ys))
    by true true f (inr s) = inr (let q = s.0 in omega (arith, q, count_yes xs, count_yes ys), grown)
      where
        grown : Within (true ∷ xs) (true ∷ ys)
        grown zero q = refl
        grown (suc n) q = s.1 n q
    by true false f (inl l) = inl (omega (arith, l, count_yes xs, count_no ys))
    by true false f (inr s) = inl (let q = s.0 in omega (arith, q, count_yes xs, count_no ys))
    by false true f d = absurd (no_yes (f refl))
    by false false f (inl l) = inl (omega (arith, l, count_no xs, count_no ys))
    by false false f (inr s) = inr (let q = s.0 in omega (arith, q, count_no xs, count_no ys), grown)
      where
        grown : Within (false ∷ xs) (false ∷ ys)
        grown zero q = absurd (no_yes q)
        grown (suc n) q = s.1 n q

-- all nodes live at first
pub met_first : (a b : RoleParts) (c : ClosureParts) (g : Graph) (lives : List Bool) → lives ≡ replicate g.ands true → MetLive a b c g (lives_of lives)
met_first a b c g lives e m over s n lt meets = ap (λ (l : List Bool). lives_of l n) e ∙ get_or-replicate g.ands n true false meets.node

rank_strong : (c : ClosureParts) (g : Graph) (lives : ℕ → Bool) (u n r : ℕ) (marks : List (Option ℕ)) (part : Part) → part_of c u ≡ part → AreMarksOf c g lives u marks → mark_at marks n ≡ Some r → (lives n ≡ true) × ((x : Target) × (x.member ≡ u) × IsStrong c g n x)
rank_strong c g lives u n r marks part p h e = by part p
  where
    none : ((all : Bool) (f second : ℕ) → part_of c u ≡ Until all false f second → ⊥) → (lives n ≡ true) × ((x : Target) × (x.member ≡ u) × IsStrong c g n x)
    none other = absurd (let q : mark_at marks n ≡ None = ap (λ (m : List (Option ℕ)). mark_at m n) (h.other other) in let x : None ≡ Some r = sym q ∙ e in cc)

    by : (part : Part) → part_of c u ≡ part → (lives n ≡ true) × ((x : Target) × (x.member ≡ u) × IsStrong c g n x)
    by (Until all false f g') q = let s = (h.strong all f g' q).sound.seen n r e in (s.living, (target_with all u f g', refl, record { part = q; member = s.member }))
    by (Until all true f g') q = none (λ all' f' s' z. cc)
    by Yes q = none (λ all' f' s' z. cc)
    by No q = none (λ all' f' s' z. cc)
    by (Lit side local is) q = none (λ all' f' s' z. cc)
    by (Both f g') q = none (λ all' f' s' z. cc)
    by (Either f g') q = none (λ all' f' s' z. cc)
    by (Next all side f) q = none (λ all' f' s' z. cc)

module _ (t : TableauParts) (lives left : List Bool) (table : List (List (Option ℕ))) (long : length lives ≡ length t.ands) (h : AreTable t.closure (graph_of t) (lives_of lives) (count t.closure) table) (l : AreLeft t.closure (graph_of t) (lives_of lives) table (length t.ands) left) where
  left_within : (n : ℕ) → lives_of left n ≡ true → n < length t.ands
  left_within n e = let lt = flag_within left n e in let q = l.long in omega (arith, lt, q)

  fewer : Within left lives
  fewer n e = (l.stays n (left_within n e) e).living

  same_long : length lives ≡ length left
  same_long = long ∙ sym l.long

  pub left_less : (a b : ℕ) (v w : List Bool) → a ≡ living_count v → v ≡ left → b ≡ living_count w → w ≡ lives → (a ≡ b → ⊥) → living_count left < living_count lives
  left_less a b v w e p f q differ = elim (living_falls lives left same_long fewer) [ inl x ↦ x | inr s ↦ absurd (differ (e ∙ ap living_count p ∙ s.0 ∙ sym (f ∙ ap living_count q))) ]

  module _ (a b : ℕ) (v w : List Bool) (e : a ≡ living_count v) (p : v ≡ left) (f : b ≡ living_count w) (q : w ≡ lives) (same : a ≡ b) where
    all_left : Within lives left
    all_left = elim (living_falls lives left same_long fewer) [ inl x ↦ absurd (let z : living_count left ≡ living_count lives = sym (e ∙ ap living_count p) ∙ same ∙ f ∙ ap living_count q in omega (arith, x, z)) | inr s ↦ s.1 ]

    live_within : (n : ℕ) → lives_of lives n ≡ true → n < length t.ands
    live_within n x = let lt = flag_within lives n x in omega (arith, lt, long)

    is_left : (n : ℕ) → lives_of lives n ≡ true → IsLeft t.closure (graph_of t) (lives_of lives) table n
    is_left n x = l.stays n (left_within n (all_left n x)) (all_left n x)

    of_rank : (n u f' second r : ℕ) (all : Bool) → Falls t.closure (graph_of t) (lives_of lives) (rank_of (marks_at table u)) (target_with all u f' second) r n → Falls t.closure (graph_of t) (lives_of lives) (ranks_of table) (target_with all u f' second) r n
    of_rank n u f' second r true y = y
    of_rank n u f' second r false y = y

    ranked : (n : ℕ) (x : Target) → lives_of lives n ≡ true → IsStrong t.closure (graph_of t) n x → (r : ℕ) × (ranks_of table n x.member ≡ Some r) × Falls t.closure (graph_of t) (lives_of lives) (ranks_of table) x r n
    ranked n x alive strong = let m = (is_left n alive).marked x strong in let s = ((h.each x.member (until_lt t.closure x.member x.f x.g x.all false strong.part)).strong x.all x.f x.g strong.part).sound.seen n m.0 m.1 in (m.0, m.1, of_rank n x.member x.f x.g m.0 x.all s.falls)

    only : (n u r : ℕ) → ranks_of table n u ≡ Some r → (lives_of lives n ≡ true) × ((y : Target) × (y.member ≡ u) × IsStrong t.closure (graph_of t) n y)
    only n u r x = elim (cases_lt u (length table)) [ inl lt ↦ rank_strong t.closure (graph_of t) (lives_of lives) u n r (marks_at table u) (part_of t.closure u) refl (h.each u (let z = h.long in omega (arith, lt, z))) x | inr o ↦ absurd (let z : mark_at (marks_at table u) n ≡ None = ap (λ (m : List (Option ℕ)). mark_at m n) (get_or_past table u [] o) in let y : None ≡ Some r = sym z ∙ x in cc) ]

    pub left_kept : IsKept t.closure (graph_of t) (lives_of lives) (ranks_of table)
    left_kept = record {
      nodes = λ n x. let lt = flag_within lives n x in omega (arith, lt, long);
      successors = λ n i h' side x some. (is_left n x).successors i h' side some;
      ranks = record { some = ranked; only = only };
    }

    -- the marks are the least ranks
    pub left_least : IsTableau t → IsGraph t.closure (graph_of t) → AreLeastRanks t.closure (graph_of t) (lives_of lives) (ranks_of table)
    left_least k ok n r x alive strong e = record {
      fulfilled = falls_with t.closure k.rules.closure (graph_of t) ok (lives_of lives) live_within x.member x.f x.g (ranks_of table) x.all strong.part (λ n' r' alive' has' e'. let v = ranked n' x alive' (record { part = strong.part; member = has' }) in subst (λ j. Falls t.closure (graph_of t) (lives_of lives) (ranks_of table) x j n') (value_same (ranks_of table n' x.member) v.0 r' v.1 e') v.2) (suc r) n r (omega arith) alive strong.member e;
      least = λ d y. (let m = fulfilled_marked t.closure k.rules.closure (graph_of t) ok (lives_of lives) live_within x.member x.f x.g x.all strong.part (marks_at table x.member) ((h.each x.member (until_lt t.closure x.member x.f x.g x.all false strong.part)).strong x.all x.f x.g strong.part) d n alive strong.member y in let q = value_same (ranks_of table n x.member) m.0 r m.2 e in let le = m.1 in omega (arith, q, le));
    }

pub met_left : (t : TableauParts) → IsTableau t → IsGraph t.closure (graph_of t) → ChildrenCover t.a t.b t.closure (graph_of t) → (lives left : List Bool) (table : List (List (Option ℕ))) → MetLive t.a t.b t.closure (graph_of t) (lives_of lives) → AreLeft t.closure (graph_of t) (lives_of lives) table (length t.ands) left → MetLive t.a t.b t.closure (graph_of t) (lives_of left)
met_left t k ok cover lives left table live l = removal_keeps_met t.a t.b t.closure k.rules.closure (graph_of t) ok cover (lives_of lives) (lives_of left) live (λ n lt e. l.gone n lt e)

pub met_dead : (t : TableauParts) → IsTableau t → IsGraph t.closure (graph_of t) → RootCovers t.a t.b t.closure (graph_of t) 0 → (lives : List Bool) → MetLive t.a t.b t.closure (graph_of t) (lives_of lives) → (LivesOr (graph_of t) (lives_of lives) 0 → ⊥) → IsUnsatisfiable t
met_dead t k ok cover lives live dead m over holds = dead_is_unsatisfiable t.a t.b t.closure k.rules.closure (graph_of t) ok 0 cover (lives_of lives) live dead m over holds

-- a round of the loop, as its calls tell of it; views: the lists as slices
module _ (t : TableauParts) (k : IsTableau t) (lives left first second : List Bool) (table view : List (Vec (Option ℕ))) (long : length lives ≡ length t.ands) (live : IsWhole t → MetLive t.a t.b t.closure (graph_of t) (lives_of lives)) (seen_first : first ≡ lives) (seen_second : second ≡ lives) (seen_table : view ≡ table) (h : AreTable t.closure (graph_of t) (lives_of first) (count t.closure) (lists_of table)) (l : AreLeft t.closure (graph_of t) (lives_of second) (lists_of view) (length t.ands) left) where
  marks : AreTable t.closure (graph_of t) (lives_of lives) (count t.closure) (lists_of table)
  marks = subst (λ (v : List Bool). AreTable t.closure (graph_of t) (lives_of v) (count t.closure) (lists_of table)) seen_first h

  rest : AreLeft t.closure (graph_of t) (lives_of lives) (lists_of table) (length t.ands) left
  rest = subst (λ (v : List Bool). AreLeft t.closure (graph_of t) (lives_of v) (lists_of table) (length t.ands) left) seen_second (subst (λ (v : List (Vec (Option ℕ))). AreLeft t.closure (graph_of t) (lives_of second) (lists_of v) (length t.ands) left) seen_table l)

  pub round_long : length left ≡ length t.ands
  round_long = rest.long

  pub round_met : IsGraph t.closure (graph_of t) → (IsWhole t → ChildrenCover t.a t.b t.closure (graph_of t)) → IsWhole t → MetLive t.a t.b t.closure (graph_of t) (lives_of left)
  round_met ok cover whole = met_left t k ok (cover whole) lives left (lists_of table) (live whole) rest

  module _ (a b : ℕ) (v w : List Bool) (e : a ≡ living_count v) (p : v ≡ left) (f : b ≡ living_count w) (q : w ≡ lives) where
    pub round_less : (a ≡ b → ⊥) → living_count left < living_count lives
    round_less differ = left_less t lives left (lists_of table) long marks rest a b v w e p f q differ

    pub round_last : a ≡ b → IsGraph t.closure (graph_of t) → IsLasting t lives table
    round_last same ok = record { long = long; kept = left_kept t lives left (lists_of table) long marks rest a b v w e p f q same; least = left_least t lives left (lists_of table) long marks rest a b v w e p f q same k ok; met = live }

-- fewer nodes, at most as many
pub living_at_most : (t : TableauParts) (lives left : List Bool) → IsThinned t lives left → living_count left ≤ living_count lives
living_at_most t lives left h = elim (living_falls lives left (sym h.long) h.within) [ inl x ↦ omega (arith, x) | inr s ↦ (let e = s.0 in omega (arith, e)) ]
