-- A round of marks: what it adds is sound, and it misses nothing; and what the last one leaves.
use Rattle.std.proofs.Common.{ℕ, suc, ◌≡◌, ◌⊎◌, ◌<◌, ◌≤◌, ◌+◌, inl, inr, Bool, true, false, ◌&&◌, Option, Some, None, List, [], ◌∷◌, ◌++◌, Contains, length, length-append, refl, subst, sym, ◌∙◌, ap, arith, cond, is_none, replicate}
use Rattle.std.specs.List.{list_all}
use Rattle.std.proofs.lemmas.Bool.{cases_lt, and_parts, and_from}
use Rattle.std.proofs.Math.Decide.{dec_lt}
use Rattle.std.proofs.lemmas.List.{get_or_append_left, get_or_past, get_or_push, get_or-replicate, length-replicate}
use Rattle.std.proofs.lemmas.List.Sums.{sum_by-append}
use Rattle.std.proofs.lemmas.List.Elements.{Contains-append_left, Contains-append_right, Contains-push_cases}
use Rattle.pair_structure.specs.declared.side.Side.{Side}
use Rattle.ctl_form.specs.declared.part.Part.TheVariants.{Until}
use Rattle.closure_sets.specs.ClosureParts.{ClosureParts, after}
use Rattle.closure_sets.specs.Full.{Has}
use Rattle.closure_sets.specs.Label.{part_of}
use Rattle.closure_sets.proofs.Closures.{after_part}
use Rattle.tableau_graph.specs.Graph.{Graph, graph_of, IsGraph, IsSomeNext}
use Rattle.tableau_graph.specs.Rules.{IsTableau}
use Rattle.tableau_graph.specs.TableauParts.{TableauParts, edges_at}
use Rattle.deletion_rules.specs.inside.Cursors.{flag_of, AreCursors}
use Rattle.deletion_rules.specs.Deletion.{HasLower, Falls, GoesOnBy}
use Rattle.deletion_rules.specs.inside.Edges.{arrow_of, AreEdges}
use Rattle.pair_structure.specs.Lists.{list_at}
use Rattle.deletion_rules.specs.Marks.{lives_of, mark_at, open_count, rank_of, AreMarks, IsSeen, IsMarkedBy}
use Rattle.deletion_rules.specs.inside.Spread.{AreFirst, IsAdmitted, IsArrowTo, IsLed, IsLedBy, IsMarked, IsMetAt, IsParentOf, IsPassing, IsReaching, IsSpread, Reaching, Visits}
use Rattle.deletion_rules.specs.Targets.{IsTarget, target_with}
use Rattle.deletion_rules.specs.inside.Tests.{has_member, is_met}
use Rattle.deletion_rules.specs.declared.edges.Arrow.{Arrow}
use Rattle.deletion_rules.specs.declared.target.Target.{Target}
use Rattle.deletion_rules.proofs.Basics.{no_some, some_same}
use Rattle.deletion_rules.proofs.Seen.{all_out, successor_hit, successor_there}
use Rattle.deletion_rules.proofs.Standing.{flag_within, no_yes}
use Rattle.deletion_rules.proofs.Within.{next_below}
use Rattle.deletion_rules.proofs.Onward.{full_has_some_next}

open_none : (marks : List (Option ℕ)) → open_count (marks ++ None ∷ []) ≡ open_count marks + 1
open_none marks = sum_by-append (λ (mark : Option ℕ). cond (is_none mark) 1 0) marks (None ∷ [])

open_some : (marks : List (Option ℕ)) (r : ℕ) → open_count (marks ++ Some r ∷ []) ≡ open_count marks
open_some marks r = let q : open_count (marks ++ Some r ∷ []) ≡ open_count marks + 0 = sum_by-append (λ (mark : Option ℕ). cond (is_none mark) 1 0) marks (Some r ∷ []) in omega (arith, q)

no_item : {A : Type 0} (x : A) → Contains [] x → ⊥
no_item x c = omega (arith, c.1)

-- only nodes have marks
pub marked_within : (marks : List (Option ℕ)) (n : ℕ) → IsMarked marks n → n < length marks
marked_within marks n m = elim (cases_lt n (length marks)) [ inl l ↦ l | inr o ↦ absurd (let q : mark_at marks n ≡ None = get_or_past marks n None o in let x : None ≡ Some m.0 = sym q ∙ m.1 in cc) ]

-- an element that fails, where not all pass
not_all : (p : ℕ → Bool) (xs : List ℕ) → list_all p xs ≡ false → (x : ℕ) × Contains xs x × (p x ≡ false)
not_all p [] e = absurd (no_yes (sym e))
not_all p (x ∷ xs) e = by (p x) refl e (λ f. not_all p xs f)
  where
    by : (b : Bool) → p x ≡ b → p x && list_all p xs ≡ false → (list_all p xs ≡ false → (y : ℕ) × Contains xs y × (p y ≡ false)) → (y : ℕ) × Contains (x ∷ xs) y × (p y ≡ false)
    by false q f again = (x, (0, omega arith, refl), q)
    by true q f again = let rest : list_all p xs ≡ false = subst (λ c. c && list_all p xs ≡ false) q f in let u = again rest in let c = u.1 in (u.0, (suc c.0, omega (arith, c.1), c.2), u.2)

-- what falls along ranks falls along others, where each OR node that has a lower rank by those has one by these
falls_map : (c : ClosureParts) (g : Graph) (lives : ℕ → Bool) (rank more : ℕ → ℕ → Option ℕ) (all : Bool) (u f second r r' n : ℕ) → ((o : ℕ) → HasLower g lives rank u r o → HasLower g lives more u r' o) → Falls c g lives rank (target_with all u f second) r n → Falls c g lives more (target_with all u f second) r' n
falls_map c g lives rank more all u f second r r' n up (inl y) = inl y
falls_map c g lives rank more true u f second r r' n up (inr v) = inr (v.0, λ i h side some. up (g.next_or n i) (v.1 i h side some))
falls_map c g lives rank more false u f second r r' n up (inr v) = inr (v.0, (v.1.0, v.1.1, up (g.next_or n (after c v.1.0 u)) v.1.2))

-- more marks keep what falls
module _ (c : ClosureParts) (g : Graph) (lives : ℕ → Bool) (marks more : List (Option ℕ)) (kept : (n r : ℕ) → mark_at marks n ≡ Some r → mark_at more n ≡ Some r) (u : ℕ) where
  lower_keeps : (r s o : ℕ) → r ≤ s → HasLower g lives (rank_of marks) u r o → HasLower g lives (rank_of more) u s o
  lower_keeps r s o le w = let m = w.3 in (w.0, w.1, w.2, (m.0, kept w.0 m.0 m.1, (let lt = m.2 in omega (arith, lt, le))))

  falls_keeps : (all : Bool) (f second r n : ℕ) → Falls c g lives (rank_of marks) (target_with all u f second) r n → Falls c g lives (rank_of more) (target_with all u f second) r n
  falls_keeps all f second r n x = falls_map c g lives (rank_of marks) (rank_of more) all u f second r r n (λ o y. lower_keeps r r o (omega arith) y) x

  seen_keeps : (all : Bool) (f second r n : ℕ) → IsSeen c g lives marks (target_with all u f second) r n → IsSeen c g lives more (target_with all u f second) r n
  seen_keeps all f second r n s = record { living = s.living; member = s.member; falls = falls_keeps all f second r n s.falls }

falls_met : (c : ClosureParts) (g : Graph) (lives : ℕ → Bool) (rank : ℕ → ℕ → Option ℕ) (all : Bool) (u f second r n : ℕ) → Has (g.row n) second → Falls c g lives rank (target_with all u f second) r n
falls_met c g lives rank true u f second r n has = inl has
falls_met c g lives rank false u f second r n has = inl has

module _ (t : TableauParts) (k : IsTableau t) (lives : List Bool) (long : length lives ≡ length t.ands) (target : Target) where
  abbrev g : Graph
  g = graph_of t

  living_below : (n : ℕ) → lives_of lives n ≡ true → n < length t.ands
  living_below n e = let lt = flag_within lives n e in omega (arith, lt, long)

  -- where OR nodes that are reached have lower children, a node that is led on falls
  falls_led : (all : Bool) (reached : List Bool) (marks : List (Option ℕ)) (u f second r n : ℕ) → ((o : ℕ) → flag_of reached o ≡ true → HasLower g (lives_of lives) (rank_of marks) u r o) → Has (g.row n) f → IsLed t reached all u n → Falls t.closure g (lives_of lives) (rank_of marks) (target_with all u f second) r n
  falls_led true reached marks u f second r n lower has led = inr (has, λ i h side some. lower (g.next_or n i) (led i h side some))
  falls_led false reached marks u f second r n lower has led = inr (has, (led.0, led.1, lower (g.next_or n (after t.closure led.0 u)) led.2))

  -- the nodes where the until is met
  module _ (ok : IsGraph t.closure (graph_of t)) (marks : List (Option ℕ)) (reached : List Bool) (nodes : List ℕ) (h : AreFirst t lives target (length t.ands) marks nodes) (none : (o : ℕ) → flag_of reached o ≡ true → ⊥) where
    not_led : (all : Bool) (u n : ℕ) → n < length t.ands → IsLed t reached all u n → ⊥
    not_led true u n small led = let w = full_has_some_next t.closure k.rules.closure (g.row n) (ok.full n small) in none (g.next_or n w.0) (led w.0 w.1 w.2 (record { node = small; member = w.3; part = w.4 }))
    not_led false u n small led = none (g.next_or n (after t.closure led.0 u)) led.2

    -- nothing is below 0
    not_lower : (all : Bool) (u n : ℕ) → n < length t.ands → GoesOnBy t.closure g all u n (HasLower g (lives_of lives) (rank_of marks) u 0) → ⊥
    not_lower true u n small v = let w = full_has_some_next t.closure k.rules.closure (g.row n) (ok.full n small) in let z = v w.0 w.1 w.2 (record { node = small; member = w.3; part = w.4 }) in (let lt = z.3.2 in omega (arith, lt))
    not_lower false u n small v = let lt = v.2.3.2 in omega (arith, lt)

    met_at : (n : ℕ) → IsSeen t.closure (graph_of t) (lives_of lives) marks target 0 n → IsMetAt t lives target n
    met_at n x = elim x.falls [ inl y ↦ record { living = x.living; member = x.member; g = y } | inr v ↦ absurd (not_lower target.all target.member n (living_below n x.living) v.1) ]

    at_once : (n r : ℕ) → r < 1 → IsSeen t.closure (graph_of t) (lives_of lives) marks target r n → IsMarkedBy marks r n
    at_once n r lt x =
        let zeroth : r ≡ 0 = omega (arith, lt) in
        let y = met_at n (subst (λ j. IsSeen t.closure (graph_of t) (lives_of lives) marks target j n) zeroth x) in
        let m = h.met n (living_below n y.living) y in
        (m.0, (let e = (h.only n m.0 m.1).0 in omega (arith, e)), m.1)

    pub spread_first : length reached ≡ length t.ors → IsSpread t lives target 1 marks reached nodes
    spread_first long_reached = record {
      sound = record {
        long = h.long;
        below = λ n r e. (let q = (h.only n r e).0 in omega (arith, q));
        seen = λ n r e. (let m = (h.only n r e).1 in record { living = m.living; member = m.member; falls = falls_met t.closure g (lives_of lives) (rank_of marks) target.all target.member target.f target.g r n m.g });
      };
      listed = h.listed;
      long = long_reached;
      lower = λ o e. absurd (none o e);
      caught = λ o n small there m. inr (h.only n m.0 m.1).2;
      met = λ n m. h.met n (living_below n m.living) m;
      passing = λ n p. absurd (not_led target.all target.member n (living_below n p.living) p.led);
      prompt = at_once;
    }

  -- the last round
  module _ (is_target : IsTarget t.closure target) (round : ℕ) (marks : List (Option ℕ)) (reached : List Bool) (nodes : List ℕ) (s : IsSpread t lives target round marks reached nodes) where
    -- what falls is met, or led on by flags that catch what has lower marks
    led_of : (now : List Bool) → ((o : ℕ) → o < length t.ors → HasLower g (lives_of lives) (rank_of marks) target.member round o → flag_of now o ≡ true) → (all : Bool) (f second n : ℕ) → n < length t.ands → target.all ≡ all → Falls t.closure g (lives_of lives) (rank_of marks) (target_with all target.member f second) round n → Has (g.row n) second ⊎ (Has (g.row n) f × IsLed t now all target.member n)
    led_of now caught true f second n small e (inl y) = inl y
    led_of now caught true f second n small e (inr v) = inr (v.0, λ i h side some. caught (g.next_or n i) (next_below t k n i h side small some.part some.member) (v.1 i h side some))
    led_of now caught false f second n small e (inl y) = inl y
    led_of now caught false f second n small e (inr v) =
        let side = v.1.0 in
        let part : part_of t.closure target.member ≡ Until false false target.f target.g = subst (λ b. part_of t.closure target.member ≡ Until b false target.f target.g) e is_target.part in
        inr (v.0, (side, v.1.1, caught (g.next_or n (after t.closure side target.member)) (next_below t k n (after t.closure side target.member) target.member side small (after_part t.closure k.rules.closure target.member target.f target.g false false side part) v.1.1) v.1.2))

    -- all marks are below the round
    cut : (r n : ℕ) → IsSeen t.closure (graph_of t) (lives_of lives) marks target r n → IsSeen t.closure (graph_of t) (lives_of lives) marks target round n
    cut r n x = record { living = x.living; member = x.member; falls = falls_map t.closure g (lives_of lives) (rank_of marks) (rank_of marks) target.all target.member target.f target.g r round n (λ o v. let m = v.3 in (v.0, v.1, v.2, (m.0, m.1, s.sound.below v.0 m.0 m.1))) x.falls }

    module _ (empty : length nodes ≤ 0) where
      caught_all : (o : ℕ) → o < length t.ors → HasLower g (lives_of lives) (rank_of marks) target.member round o → flag_of reached o ≡ true
      caught_all o small w = elim (s.caught o w.0 small w.1 (w.3.0, w.3.1)) [ inl e ↦ e | inr c ↦ absurd (let lt = c.1 in omega (arith, lt, empty)) ]

      marked_at : (n : ℕ) → IsSeen t.closure (graph_of t) (lives_of lives) marks target round n → IsMarked marks n
      marked_at n seen = elim (led_of reached caught_all target.all target.f target.g n (living_below n seen.living) refl seen.falls) [ inl y ↦ s.met n (record { living = seen.living; member = seen.member; g = y }) | inr v ↦ s.passing n (record { living = seen.living; member = seen.member; f = v.0; led = v.1 }) ]

      pub spread_done : AreMarks t.closure (graph_of t) (lives_of lives) target marks
      spread_done = record { round = round; sound = s.sound; full = full }
        where
          full : (n r : ℕ) → IsSeen t.closure (graph_of t) (lives_of lives) marks target r n → IsMarkedBy marks r n
          full n r seen = elim (dec_lt r round) [ yes lt ↦ s.prompt n r lt seen | no past ↦ (let m = marked_at n (cut r n seen) in let b = s.sound.below n m.0 m.1 in (m.0, omega (arith, b, past), m.1)) ]

    -- one more round
    module _ (parents : List (List ℕ)) (arrows : List (List Arrow)) (edges : AreEdges t parents arrows) where
      pub parent_below : (n o : ℕ) → Contains (list_at parents n) o → o < length reached
      parent_below n o c = let lt = (edges.up.each n o c).0 in let e = s.long in omega (arith, lt, e)

      module _ (now : List Bool) (ors : List ℕ) (r : Reaching (IsParentOf parents nodes) reached [] now ors) where
        is_reached : (o : ℕ) → Contains ors o → flag_of now o ≡ true
        is_reached o c = elim (r.fresh o c) [ inl none ↦ absurd (no_item o none) | inr e ↦ e ]

        pub arrow_reaches : (o : ℕ) (arrow : Arrow) → Contains ors o → Contains (list_at arrows o) arrow → IsReaching t now arrow
        arrow_reaches o arrow c there = (o, edges.back.each o arrow there, is_reached o c)

        pub cursors_stay : (cursors : List ℕ) → AreCursors (length t.ands) t.successors reached true cursors → AreCursors (length t.ands) t.successors now true cursors
        cursors_stay cursors h = record { long = h.long; each = λ n lt. (let p = h.each n lt in record { within = p.within; passed = λ i small. r.kept _ (p.passed i small) }) }

        pub long_now : length now ≡ length t.ors
        long_now = r.long ∙ s.long

        lower_now : (o : ℕ) → flag_of now o ≡ true → HasLower g (lives_of lives) (rank_of marks) target.member round o
        lower_now o e = elim (r.only o e) [ inl old ↦ s.lower o old | inr new ↦ by new.0 ]
          where
            by : IsParentOf parents nodes o → HasLower g (lives_of lives) (rank_of marks) target.member round o
            by (n, c, p) = let m = s.listed n c in (n, (edges.up.each n o p).1, (s.sound.seen n m.0 m.1).living, (m.0, m.1, s.sound.below n m.0 m.1))

        caught_now : (o n : ℕ) → o < length t.ors → Contains (g.children o) n → IsMarked marks n → flag_of now o ≡ true
        caught_now o n small there m = elim (s.caught o n small there m) [ inl e ↦ r.kept o e | inr c ↦ r.all o (n, c, edges.up.all n o (small, there)) ]

        -- a node that passes now has a mark, or an arrow to an OR node that is new
        abbrev IsVisited : ℕ → Type 0
        IsVisited n = IsMarked marks n ⊎ ((arrow : Arrow) × IsArrowTo arrows ors arrow × IsAdmitted t lives now target arrow × (arrow.node ≡ n))

        visited_at : (n i h : ℕ) (side : Side) → IsPassing t lives now target n → IsSomeNext t.closure g n i side h → Contains ors (g.next_or n i) → IsLedBy t now target.all target.member (arrow_of n i) → IsVisited n
        visited_at n i h side p some c led = inr (arrow_of n i, (g.next_or n i, c, edges.back.all n i (g.next_or n i) some.node ((h, side, some), refl)), record { living = p.living; member = p.member; f = p.f; led = led }, refl)

        visited : (all : Bool) (n : ℕ) → target.all ≡ all → IsPassing t lives now target n → IsLed t now all target.member n → IsVisited n
        visited false n e p led =
            let side = led.0 in
            let i = after t.closure side target.member in
            let part : part_of t.closure target.member ≡ Until false false target.f target.g = subst (λ b. part_of t.closure target.member ≡ Until b false target.f target.g) e is_target.part in
            let some : IsSomeNext t.closure g n i side target.member = record { node = living_below n p.living; member = led.1; part = after_part t.closure k.rules.closure target.member target.f target.g false false side part } in
            elim (r.only (g.next_or n i) led.2) [ inl old ↦ inl (s.passing n (record { living = p.living; member = p.member; f = p.f; led = subst (λ b. IsLed t reached b target.member n) (sym e) (side, led.1, old) })) | inr new ↦ visited_at n i target.member side p some new.1 (subst (λ b. IsLedBy t now b target.member (arrow_of n i)) (sym e) (side, refl)) ]
        visited true n e p led = by (list_all (flag_of reached) (edges_at t.successors n)) refl
          where
            by : (b : Bool) → list_all (flag_of reached) (edges_at t.successors n) ≡ b → IsVisited n
            by true q = inl (s.passing n (record { living = p.living; member = p.member; f = p.f; led = subst (λ b. IsLed t reached b target.member n) (sym e) (λ i h side some. all_out (flag_of reached) (edges_at t.successors n) q (g.next_or n i) (successor_there t k n i h side some)) }))
            by false q =
                let x = not_all (flag_of reached) (edges_at t.successors n) q in
                let u = successor_hit t k n x.0 (living_below n p.living) x.1 in
                elim (r.only (g.next_or n u.0) (led u.0 u.1 u.2 u.3)) [ inl old ↦ absurd (no_yes (sym x.2 ∙ subst (λ o. flag_of reached o ≡ true) u.4 old)) | inr new ↦ visited_at n u.0 u.1 u.2 p u.3 new.1 (subst (λ b. IsLedBy t now b target.member (arrow_of n u.0)) (sym e) led) ]

        module _ (next : List (Option ℕ)) (new : List ℕ) (v : Visits t lives now target round (IsArrowTo arrows ors) marks [] next new) where
          pub spread_next : IsSpread t lives target (round + 1) next now new
          spread_next = record {
            sound = record { long = v.long ∙ s.sound.long; below = below; seen = seen };
            listed = λ n c. elim (v.fresh n c) [ inl none ↦ absurd (no_item n none) | inr m ↦ m ];
            long = long_now;
            lower = λ o e. lower_keeps t.closure g (lives_of lives) marks next v.kept target.member round (round + 1) o (omega arith) (lower_now o e);
            caught = λ o n small there m. elim (v.added n m.0 m.1) [ inl old ↦ inl (caught_now o n small there (m.0, old)) | inr a ↦ inr a.2 ];
            met = λ n m. keeps n (s.met n m);
            passing = passing;
            prompt = prompt;
          }
            where
              keeps : (n : ℕ) → IsMarked marks n → IsMarked next n
              keeps n m = (m.0, v.kept n m.0 m.1)

              below : (n r : ℕ) → mark_at next n ≡ Some r → r < round + 1
              below n r e = elim (v.added n r e) [ inl old ↦ (let lt = s.sound.below n r old in omega (arith, lt)) | inr a ↦ (let q = a.0 in omega (arith, q)) ]

              seen : (n r : ℕ) → mark_at next n ≡ Some r → IsSeen t.closure g (lives_of lives) next target r n
              seen n r e = elim (v.added n r e) [ inl old ↦ seen_keeps t.closure g (lives_of lives) marks next v.kept target.member target.all target.f target.g r n (s.sound.seen n r old) | inr a ↦ subst (λ x. IsSeen t.closure g (lives_of lives) next target x n) (sym a.0) (seen_keeps t.closure g (lives_of lives) marks next v.kept target.member target.all target.f target.g round n (record { living = a.1.living; member = a.1.member; falls = falls_led target.all now marks target.member target.f target.g round n lower_now a.1.f a.1.led })) ]

              passing : (n : ℕ) → IsPassing t lives now target n → IsMarked next n
              passing n p = elim (visited target.all n refl p p.led) [ inl m ↦ (m.0, v.kept n m.0 m.1) | inr a ↦ subst (IsMarked next) a.3 (v.all a.0 a.1 a.2) ]

              -- marks up to the round are old
              old_lower : (r o : ℕ) → r ≤ round → HasLower g (lives_of lives) (rank_of next) target.member r o → HasLower g (lives_of lives) (rank_of marks) target.member r o
              old_lower r o le x = let m = x.3 in (x.0, x.1, x.2, (m.0, elim (v.added x.0 m.0 m.1) [ inl old ↦ old | inr a ↦ absurd (let e = a.0 in let lt = m.2 in omega (arith, e, lt, le)) ], m.2))

              old_seen : (r n : ℕ) → r ≤ round → IsSeen t.closure (graph_of t) (lives_of lives) next target r n → IsSeen t.closure (graph_of t) (lives_of lives) marks target r n
              old_seen r n le x = record { living = x.living; member = x.member; falls = falls_map t.closure g (lives_of lives) (rank_of next) (rank_of marks) target.all target.member target.f target.g r r n (λ o y. old_lower r o le y) x.falls }

              caught_lower : (o : ℕ) → o < length t.ors → HasLower g (lives_of lives) (rank_of marks) target.member round o → flag_of now o ≡ true
              caught_lower o small x = caught_now o x.0 small x.1 (x.3.0, x.3.1)

              fresh_mark : (n : ℕ) → IsSeen t.closure (graph_of t) (lives_of lives) marks target round n → IsMarked next n
              fresh_mark n x = elim (led_of now caught_lower target.all target.f target.g n (living_below n x.living) refl x.falls) [ inl y ↦ (let m = s.met n (record { living = x.living; member = x.member; g = y }) in (m.0, v.kept n m.0 m.1)) | inr z ↦ passing n (record { living = x.living; member = x.member; f = z.0; led = z.1 }) ]

              prompt : (n r : ℕ) → r < round + 1 → IsSeen t.closure (graph_of t) (lives_of lives) next target r n → IsMarkedBy next r n
              prompt n r lt x = elim (dec_lt r round) [
                | yes l ↦ (let m = s.prompt n r l (old_seen r n (omega (arith, lt)) x) in (m.0, m.1, v.kept n m.0 m.2))
                | no past ↦ (let e : r ≡ round = omega (arith, lt, past) in let m = fresh_mark n (subst (λ j. IsSeen t.closure (graph_of t) (lives_of lives) marks target j n) e (old_seen r n (omega (arith, lt)) x)) in let b = below n m.0 m.1 in (m.0, omega (arith, b, e), m.1))
              ]

-- no flag of the list is set
pub none_reached : (flags : List Bool) (n : ℕ) → flags ≡ replicate n false → (o : ℕ) → flag_of flags o ≡ true → ⊥
none_reached flags n e o h = no_yes (sym (all_false n o) ∙ subst (λ (l : List Bool). flag_of l o ≡ true) e h)
  where
    all_false : (n o : ℕ) → flag_of (replicate n false) o ≡ false
    all_false n o = elim (cases_lt o n) [ inl l ↦ get_or-replicate n o false false l | inr g ↦ get_or_past (replicate n false) o false (let q = length-replicate n false in omega (arith, g, q)) ]

pub first_none : (t : TableauParts) (lives : List Bool) (target : Target) (marks : List (Option ℕ)) (nodes : List ℕ) → marks ≡ [] → nodes ≡ [] → AreFirst t lives target 0 marks nodes
first_none t lives target marks nodes e f = subst (λ (m : List (Option ℕ)). AreFirst t lives target 0 m nodes) (sym e) (subst (AreFirst t lives target 0 []) (sym f) (record { long = refl; met = λ n lt m. absurd (omega (arith, lt)); only = λ n r q. absurd (no_some q); listed = λ n c. absurd (no_item n c); fewer = refl }))

-- the first nodes, one after the other
module _ (t : TableauParts) (lives : List Bool) (target : Target) (k : ℕ) (marks more : List (Option ℕ)) (nodes : List ℕ) (h : AreFirst t lives target k marks nodes) where
  grown_long : (x : Option ℕ) → more ≡ marks ++ x ∷ [] → length more ≡ k + 1
  grown_long x e = let l : length marks ≡ k = h.long in ap length e ∙ (let q : length (marks ++ x ∷ []) ≡ k + 1 = omega (arith, l, length-append marks (x ∷ [])) in q)

  grown_here : (x : Option ℕ) → more ≡ marks ++ x ∷ [] → mark_at more k ≡ x
  grown_here x e = ap (λ (l : List (Option ℕ)). mark_at l k) e ∙ get_or_push marks x None k h.long

  grown_before : (x : Option ℕ) → more ≡ marks ++ x ∷ [] → (n : ℕ) → n < k → mark_at more n ≡ mark_at marks n
  grown_before x e n lt = ap (λ (l : List (Option ℕ)). mark_at l n) e ∙ get_or_append_left marks (x ∷ []) None n (let l = h.long in omega (arith, lt, l))

  kept : (x : Option ℕ) → more ≡ marks ++ x ∷ [] → (n : ℕ) → IsMarked marks n → IsMarked more n
  kept x e n m = (m.0, grown_before x e n (let lt = marked_within marks n m in let l = h.long in omega (arith, lt, l)) ∙ m.1)

  pub first_yes : (new : List ℕ) → is_met t lives target k ≡ true → more ≡ marks ++ Some 0 ∷ [] → new ≡ nodes ++ k ∷ [] → AreFirst t lives target (k + 1) more new
  first_yes new is e f = subst (AreFirst t lives target (k + 1) more) (sym f) (record { long = grown_long (Some 0) e; met = met; only = only; listed = listed; fewer = fewer })
    where
      here : IsMetAt t lives target k
      here = let a = and_parts (lives_of lives k && has_member t k target.member) (has_member t k target.g) is in let b = and_parts (lives_of lives k) (has_member t k target.member) a.0 in record { living = b.0; member = b.1; g = a.1 }

      met : (n : ℕ) → n < k + 1 → IsMetAt t lives target n → IsMarked more n
      met n lt m = elim (dec_lt n k) [ yes b ↦ kept (Some 0) e n (h.met n b m) | no o ↦ (let q : k ≡ n = omega (arith, lt, o) in subst (IsMarked more) q (0, grown_here (Some 0) e)) ]

      only : (n r : ℕ) → mark_at more n ≡ Some r → (r ≡ 0) × IsMetAt t lives target n × Contains (nodes ++ k ∷ []) n
      only n r q = elim (dec_lt n k) [ yes b ↦ (let o = h.only n r (sym (grown_before (Some 0) e n b) ∙ q) in (o.0, o.1, Contains-append_left nodes (k ∷ []) n o.2)) | no o ↦ (let z : k ≡ n = (let lt = marked_within more n (r, q) in let l = grown_long (Some 0) e in omega (arith, lt, l, o)) in (some_same (sym (subst (λ x. mark_at more x ≡ Some r) (sym z) q) ∙ grown_here (Some 0) e), subst (IsMetAt t lives target) z here, subst (Contains (nodes ++ k ∷ [])) z (Contains-append_right nodes (k ∷ []) k (0, omega arith, refl)))) ]

      listed : (n : ℕ) → Contains (nodes ++ k ∷ []) n → IsMarked more n
      listed n c = elim (Contains-push_cases nodes k n c) [ inl b ↦ kept (Some 0) e n (h.listed n b) | inr q ↦ subst (IsMarked more) q (0, grown_here (Some 0) e) ]

      fewer : open_count more + length (nodes ++ k ∷ []) ≡ k + 1
      fewer = let q : open_count more ≡ open_count marks = ap open_count e ∙ open_some marks 0 in let f = h.fewer in omega (arith, q, f, length-append nodes (k ∷ []))

  pub first_no : is_met t lives target k ≡ false → more ≡ marks ++ None ∷ [] → AreFirst t lives target (k + 1) more nodes
  first_no is e = record { long = grown_long None e; met = met; only = only; listed = λ n c. kept None e n (h.listed n c); fewer = fewer }
    where
      never : IsMetAt t lives target k → ⊥
      never m = no_yes (sym is ∙ and_from (lives_of lives k && has_member t k target.member) (has_member t k target.g) (and_from (lives_of lives k) (has_member t k target.member) m.living m.member) m.g)

      met : (n : ℕ) → n < k + 1 → IsMetAt t lives target n → IsMarked more n
      met n lt m = elim (dec_lt n k) [ yes b ↦ kept None e n (h.met n b m) | no o ↦ (let q : n ≡ k = omega (arith, lt, o) in absurd (never (subst (IsMetAt t lives target) q m))) ]

      only : (n r : ℕ) → mark_at more n ≡ Some r → (r ≡ 0) × IsMetAt t lives target n × Contains nodes n
      only n r q = elim (dec_lt n k) [ yes b ↦ h.only n r (sym (grown_before None e n b) ∙ q) | no o ↦ (let z : n ≡ k = (let lt = marked_within more n (r, q) in let l = grown_long None e in omega (arith, lt, l, o)) in absurd (no_some (sym (grown_here None e) ∙ subst (λ x. mark_at more x ≡ Some r) z q))) ]

      fewer : open_count more + length nodes ≡ k + 1
      fewer = let q : open_count more ≡ open_count marks + 1 = ap open_count e ∙ open_none marks in let f = h.fewer in omega (arith, q, f)
