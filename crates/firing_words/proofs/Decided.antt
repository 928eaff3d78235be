-- What is read decides a wish.
use Rattle.std.proofs.Common.{ℕ, ◌≡◌, ◌≢◌, ◌<◌, ◌+◌, ◌⊎◌, inl, inr, ⊎_elim, true, false, List, [], ◌∷◌, ◌++◌, length, arith, refl, sym, ◌∙◌, ap, subst}
use Rattle.std.specs.Prelude.{is_some}
use Rattle.std.proofs.lemmas.Bool.{cases_eq, eqb-true}
use Rattle.std.proofs.lemmas.List.{get_or_default}
use Rattle.std.proofs.lemmas.List.Elements.{All-get_or}
use Rattle.interconnection.specs.Graph.{AreNeighbours, end_of}
use Rattle.pair_structure.specs.declared.side.Side.{Side}
use Rattle.pair_structure.specs.declared.side.Side.TheVariants.{A, B}
use Rattle.pair_structure.specs.Sides.{local_of, opposite}
use Rattle.interconnection.specs.declared.parts.Beside.{Beside}
use Rattle.pair_structure.specs.Role.{JoinsTwo}
use Rattle.conjunctive_compose.specs.declared.wish.StepAnswer.TheVariants.{Away, Blocked}
use Rattle.conjunctive_compose.specs.declared.wish.Wish.{Wish}
use Rattle.conjunctive_compose.specs.Firing.{Permits, WishFits, arc_of}
use Rattle.conjunctive_compose.specs.NextPair.{IsLeft, IsNextPair, NeverPermits}
use Rattle.conjunctive_compose.specs.System.{SystemParts, IsSystem, Joins, edge_at, edge_count, process_count, role_of}
use Rattle.conjunctive_compose.specs.Whole.{WholeParts, HasPair, local_at}
use Rattle.conjunctive_compose.proofs.Edges.{edge_kind, edge_lawful, role_lawful}
use Rattle.conjunctive_compose.proofs.Neighbours.{AreBeside, AllSo, are_beside, first_is}
use Rattle.conjunctive_compose.proofs.Pairs.{local_of-label_on}
use Rattle.conjunctive_compose.proofs.Sides.{by_side}
use Rattle.firing_words.specs.declared.limits.TheConstants.{HALF_WORD}
use Rattle.firing_words.specs.declared.cell.Cell.{Cell}
use Rattle.firing_words.specs.declared.cell.Cell.TheVariants.{Process, Edge}
use Rattle.firing_words.specs.declared.cell.Reading.{Reading}
use Rattle.firing_words.specs.Cells.{HasContent, IsCell, is_moved}
use Rattle.firing_words.specs.Firings.{AreNext, IsDecided, IsNext, IsNextContent}
use Rattle.firing_words.specs.History.{IsPossible, Knows}
use Rattle.firing_words.specs.Lists.{Has}
use Rattle.firing_words.proofs.Lists.{has_push}
use Rattle.firing_words.specs.Judged.{AreStorable}
use Rattle.firing_words.specs.Stars.{IsKnown, beside_at, no_beside}
use Rattle.firing_words.specs.inside.Judging.{IsNextUpTo, IsStar, reading_at}

-- an edge of the process stands among its neighbours
pub edge_among : (sys : SystemParts) (k : ℕ) (list : List Beside) (e : ℕ) → AreBeside sys k list → e < edge_count sys → Joins sys e k → (i : ℕ) × (i < length list) × ((beside_at list i).edge ≡ e)
edge_among sys k list e are lt (side, on) =
    let found = are.all e side lt on in
    (found.0, found.1, ap {B = ℕ} (λ (b : Beside). b.edge) (get_or_default list found.0 no_beside _ found.1 ∙ found.2))

pub push_has : {A : Type 0} (y z : A) (xs : List A) → Has y xs ⊎ (z ≡ y) → Has y (xs ++ z ∷ [])
push_has y z [] h = ⊎_elim (λ (n : Has y []). absurd n) (λ (e : z ≡ y). inl e) h
push_has y z (x ∷ xs) h = ⊎_elim (λ (a : Has y (x ∷ xs)). ⊎_elim (λ (e : x ≡ y). inl e) (λ (b : Has y xs). inr (push_has y z xs (inl b))) a) (λ (e : z ≡ y). inr (push_has y z xs (inr e))) h

module _ (sys : SystemParts) (wish : Wish) (list : List Beside) (known readings : List Reading) (system : IsSystem sys) (fits : WishFits sys wish) (neighbours : AreNeighbours sys.network.edges wish.process list) (star : IsStar wish.process list known readings) where
  abbrev pub own : Reading
  own = reading_at readings 0

  abbrev pub pair_at : ℕ → Reading
  pair_at i = reading_at readings (i + 1)

  are : AreBeside sys wish.process list
  are = are_beside sys wish.process list neighbours

  end_in : (e : ℕ) (side : Side) → e < edge_count sys → end_of (edge_at sys e) side < process_count sys
  end_in e A lt = (edge_lawful sys e system lt).a
  end_in e B lt = (edge_lawful sys e system lt).b

  -- a neighbour is a process
  pub neighbour_in : (i : ℕ) → i < length list → (beside_at list i).process < process_count sys
  neighbour_in i lt = let b = are.each i no_beside lt in subst (λ (k : ℕ). k < process_count sys) b.other (end_in (beside_at list i).edge (opposite (beside_at list i).side) b.within)

  -- wherever the whole state has what is known, it has what was read
  own_there : (w : WholeParts) → Knows sys known w → local_at w wish.process ≡ own.content
  own_there w knows = subst (λ (i : Cell). HasContent sys w i own.content) star.own (knows own (star.known_all 0 (omega arith)).has)

  pair_there : (w : WholeParts) (i : ℕ) → i < length list → Knows sys known w → HasPair sys w (beside_at list i).edge (pair_at i).content
  pair_there w i lt knows = subst (λ (c : Cell). HasContent sys w c (pair_at i).content) (star.edges i lt) (knows (pair_at i) (star.known_all (i + 1) (omega (arith, lt))).has)

  -- the local state fits a byte
  pub local_small : IsPossible sys known → own.content < 256
  local_small (w, proper, knows) = omega (arith, own_there w knows, proper.within wish.process fits.process_in, (role_lawful sys wish.process system fits.process_in).few_locals)

  pub away : (arc_of sys wish.process wish.arc).from ≢ own.content → IsDecided sys known wish (Away own.content)
  away differ w proper knows = (sym (own_there w knows), differ, refl)

  -- the pair state that was read is one that the arc leaves
  pub is_left : (i : ℕ) → i < length list → IsPossible sys known → (arc_of sys wish.process wish.arc).from ≡ own.content → IsLeft sys wish (beside_at list i) (pair_at i).content
  is_left i lt (w, proper, knows) from =
      let b = beside_at list i in
      let pair = pair_there w i lt knows in
      record {
        within = pair.within;
        leaves = ap (local_of b.side) pair.label_is ∙ (local_of-label_on sys w b.edge b.side ∙ (ap (local_at w) (are.each i no_beside lt).own ∙ (own_there w knows ∙ sym from)));
      }

  pub blocked : (i : ℕ) (stores : List Reading) → i < length list → (arc_of sys wish.process wish.arc).from ≡ own.content → IsNextUpTo sys i wish list known readings stores → NeverPermits sys wish (beside_at list i) (pair_at i).content → IsDecided sys known wish (Blocked (beside_at list i).process)
  blocked i stores lt from next never w proper knows = (from ∙ sym (own_there w knows), first_is sys w wish list i no_beside are lt so (never w (pair_there w i lt knows)), refl)
    where
      so : AllSo sys w wish.arc list i
      so j d h =
          let n = next.permit j h in
          let may : Permits sys w (beside_at list j).side wish.arc (beside_at list j).edge = n.1.permits w (pair_there w j (omega (arith, h, lt)) knows) in
          subst (λ (b : Beside). Permits sys w b.side wish.arc b.edge) (get_or_default list j no_beside d (omega (arith, h, lt))) may

  to_small : (arc_of sys wish.process wish.arc).to < HALF_WORD
  to_small =
      let role = role_of sys wish.process in
      let lawful = role_lawful sys wish.process system fits.process_in in
      let arc = All-get_or (JoinsTwo (length role.locals)) role.arcs wish.arc (record { from = 0; to = 0; free = false }) fits.arc_in lawful.joins in
      omega (arith, arc.to, lawful.few_locals)

  abbrev pub own_next : Reading
  own_next = record { cell = own.cell; moves = own.moves + 1; content = (arc_of sys wish.process wish.arc).to }

  abbrev pub pair_next : ℕ → ℕ → Reading
  pair_next i t = record { cell = (pair_at i).cell; moves = (pair_at i).moves + 1; content = t }

  -- the process at the arc's other end
  pub next_first : (stores : List Reading) → (arc_of sys wish.process wish.arc).from ≡ own.content → stores ≡ record { cell = own.cell; moves = own.moves + 1; content = (arc_of sys wish.process wish.arc).to } ∷ [] → IsNextUpTo sys 0 wish list known readings stores
  next_first stores from is = subst (IsNextUpTo sys 0 wish list known readings) (sym is) (record {
    each = λ r has. ⊎_elim (λ (e : own_next ≡ r). subst (λ (q : Reading). (o : Reading) × IsKnown known o × IsNext sys wish o q × (q.content < HALF_WORD)) e (own, star.known_all 0 (omega arith), own_is, to_small)) (λ (n : Has r []). absurd n) has;
    own = (own_next, inl refl, star.own);
    edges = λ i lt. absurd (omega (arith, lt));
    permit = λ i lt. absurd (omega (arith, lt));
  })
    where
      own_is : IsNext sys wish own own_next
      own_is = record {
        cell = refl;
        moves = refl;
        content = subst (λ (c : Cell). IsNextContent sys wish c own.content (arc_of sys wish.process wish.arc).to) (sym star.own) (refl, sym from, refl);
      }

  -- one pair more
  pub next_more : (i t : ℕ) (stores : List Reading) → i < length list → IsNextUpTo sys i wish list known readings stores → IsNextPair sys wish (beside_at list i) (pair_at i).content t
      → IsNextUpTo sys (i + 1) wish list known readings (stores ++ record { cell = (pair_at i).cell; moves = (pair_at i).moves + 1; content = t } ∷ [])
  next_more i t stores lt next pair = record {
    each = λ r has. ⊎_elim (λ (a : Has r stores). next.each r a) (λ (e : (pair_next i t) ≡ r). subst (λ (q : Reading). (o : Reading) × IsKnown known o × IsNext sys wish o q × (q.content < HALF_WORD)) e (pair_at i, star.known_all (i + 1) (omega (arith, lt)), new_is, small)) (has_push r (pair_next i t) stores has);
    own = (next.own.0, push_has next.own.0 (pair_next i t) stores (inl next.own.1), next.own.2);
    edges = λ j h. ⊎_elim
        (λ (e : j ≡ i). ((pair_next i t), push_has (pair_next i t) (pair_next i t) stores (inr refl), star.edges i lt ∙ ap {B = Cell} (λ (m : ℕ). Edge (beside_at list m).edge) (sym e)))
        (λ (ne : j ≢ i). let old = next.edges j (omega (arith, h, ne)) in (old.0, push_has old.0 (pair_next i t) stores (inl old.1), old.2))
        (cases_eq j i);
    permit = λ j h. ⊎_elim
        (λ (e : j ≡ i). subst (λ (m : ℕ). (u : ℕ) × IsNextPair sys wish (beside_at list m) (pair_at m).content u) (sym e) (t, pair))
        (λ (ne : j ≢ i). next.permit j (omega (arith, h, ne)))
        (cases_eq j i);
  }
    where
      new_is : IsNext sys wish (pair_at i) (pair_next i t)
      new_is = record {
        cell = refl;
        moves = refl;
        content = subst (λ (c : Cell). IsNextContent sys wish c (pair_at i).content t) (sym (star.edges i lt)) (beside_at list i, are.each i no_beside lt, refl, pair);
      }

      small : t < HALF_WORD
      small = let e = (beside_at list i).edge in omega (arith, pair.within, system.structures.few (edge_at sys e).kind (edge_kind sys e system (are.each i no_beside lt).within))

  cell_there : (i : Cell) (x y : ℕ) → IsNextContent sys wish i x y → IsCell sys i
  cell_there (Process k) x y n = subst (λ (j : ℕ). j < process_count sys) (sym n.0) fits.process_in
  cell_there (Edge e) x y n = subst (λ (f : ℕ). f < edge_count sys) n.2 n.1.within

  pub storable : (n : ℕ) (stores : List Reading) → IsNextUpTo sys n wish list known readings stores → AreStorable sys stores
  storable n stores next r has = let o = next.each r has in (cell_there r.cell o.0.content r.content o.2.content, omega (arith, o.2.moves, o.1.moves), o.3)

  -- all neighbours permit
  pub moved : (stores : List Reading) → IsNextUpTo sys (length list) wish list known readings stores → AreNext sys known wish stores
  moved stores next = record {
    each = λ r has. let o = next.each r has in (o.0, o.1.has, o.2);
    all = all;
  }
    where
      all : (i : Cell) → IsCell sys i → is_moved sys i wish ≡ true → (r : Reading) × Has r stores × (r.cell ≡ i)
      all (Process k) lt is = (next.own.0, next.own.1, next.own.2 ∙ ap Process (eqb-true wish.process k is))
      all (Edge e) lt is =
          let joins = by_side (edge_at sys e) wish.process (λ side. is_some side ≡ true → Joins sys e wish.process) (λ side on _. (side, on)) (λ _ _ no. absurd (cc)) is in
          let a = edge_among sys wish.process list e are lt joins in
          let r = next.edges a.0 a.1 in
          (r.0, r.1, r.2 ∙ ap Edge a.2)
