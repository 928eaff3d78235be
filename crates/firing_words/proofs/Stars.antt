-- What is read of a process and its edges, one edge after another.
use Rattle.std.proofs.Common.{ℕ, zero, suc, ◌≡◌, ◌≢◌, ◌<◌, ◌≤◌, ◌+◌, inl, inr, ⊎_elim, List, [], ◌∷◌, ◌++◌, drop, length, length-append, get_or, arith, refl, sym, ◌∙◌, ap, subst}
use Rattle.std.proofs.lemmas.Bool.{cases_eq}
use Rattle.std.proofs.lemmas.List.{drop_more, get_or_append_left, get_or_default, get_or_push}
use Rattle.interconnection.specs.declared.parts.Beside.{Beside}
use Rattle.firing_words.specs.declared.cell.Cell.{Cell}
use Rattle.firing_words.specs.declared.cell.Cell.TheVariants.{Process, Edge}
use Rattle.firing_words.specs.declared.cell.Reading.{Reading}
use Rattle.firing_words.specs.Lists.{Has}
use Rattle.firing_words.specs.Stars.{HasReading, IsKnown, beside_at, no_beside}
use Rattle.firing_words.specs.inside.Judging.{IsStarUpTo, no_reading, reading_at}

-- what is left of the list has the reading still, where the first of it has another cell
pub reading_later : (xs : List Reading) (i : ℕ) (d : Reading) (c : Cell) → i < length xs → (get_or xs i d).cell ≢ c → HasReading (drop i xs) c → HasReading (drop (i + 1) xs) c
reading_later xs i d c lt ne (r, has, is) = ⊎_elim
    (λ (e : get_or xs i d ≡ r). absurd (ne (ap {B = Cell} (λ (q : Reading). q.cell) e ∙ is)))
    (λ (h : Has r (drop (i + 1) xs)). (r, h, is))
    (subst (Has r) (drop_more xs i d lt) has)

pub nothing_left : (xs : List Reading) (i : ℕ) (c : Cell) → length xs ≤ i → HasReading (drop i xs) c → ⊥
nothing_left [] zero c le (r, has, is) = has
nothing_left [] (suc i) c le (r, has, is) = has
nothing_left (x ∷ xs) zero c le h = absurd (omega (arith, le))
nothing_left (x ∷ xs) (suc i) c le h = nothing_left xs i c (omega (arith, le)) h

pub reading_here : (xs : List Reading) (i : ℕ) (d : Reading) → i < length xs → Has (get_or xs i d) xs
reading_here [] i d lt = absurd (omega (arith, lt))
reading_here (x ∷ xs) zero d lt = inl refl
reading_here (x ∷ xs) (suc i) d lt = inr (reading_here xs i d (omega (arith, lt)))

pub star_own : (k : ℕ) (list : List Beside) (r : Reading) (known readings : List Reading) → r.cell ≡ Process k → IsKnown known r → readings ≡ r ∷ [] → IsStarUpTo 0 k list known readings
star_own k list r known readings cell new is = subst (IsStarUpTo 0 k list known) (sym is) (record {
  size = refl;
  own = cell;
  edges = λ i lt. absurd (omega (arith, lt));
  known_all = λ i le. all i le;
})
  where
    all : (i : ℕ) → i ≤ 0 → IsKnown known (reading_at (r ∷ []) i)
    all zero le = new
    all (suc i) le = absurd (omega (arith, le))

pub star_more : (n k : ℕ) (d : Beside) (list : List Beside) (r : Reading) (known readings : List Reading) → n < length list → IsStarUpTo n k list known readings → r.cell ≡ Edge (get_or list n d).edge → IsKnown known r
    → IsStarUpTo (n + 1) k list known (readings ++ r ∷ [])
star_more n k d list r known readings lt star cell new = record {
  size = omega (arith, length-append readings (r ∷ []), star.size);
  own = ap {B = Cell} (λ (q : Reading). q.cell) (old 0 (omega arith)) ∙ star.own;
  edges = λ i h. ⊎_elim
      (λ (e : i ≡ n). ap {B = Cell} (λ (q : Reading). q.cell) (get_or_push readings r no_reading (i + 1) (omega (arith, e, star.size))) ∙ (cell ∙ ap {B = Cell} (λ (m : ℕ). Edge m) (ap {B = ℕ} (λ (b : Beside). b.edge) (get_or_default list n d no_beside lt ∙ ap {B = Beside} (beside_at list) (sym e)))))
      (λ (ne : i ≢ n). ap {B = Cell} (λ (q : Reading). q.cell) (old (i + 1) (omega (arith, h, ne))) ∙ star.edges i (omega (arith, h, ne)))
      (cases_eq i n);
  known_all = λ i h. ⊎_elim
      (λ (e : i ≡ n + 1). subst (IsKnown known) (sym (get_or_push readings r no_reading i (omega (arith, e, star.size)))) new)
      (λ (ne : i ≢ n + 1). subst (IsKnown known) (sym (old i (omega (arith, h, ne)))) (star.known_all i (omega (arith, h, ne))))
      (cases_eq i (n + 1));
}
  where
    old : (i : ℕ) → i < n + 1 → reading_at (readings ++ r ∷ []) i ≡ reading_at readings i
    old i h = get_or_append_left readings (r ∷ []) no_reading i (omega (arith, h, star.size))
