-- The labels of the start states, row by row.
use Rattle.std.proofs.Common.{ℕ, zero, suc, ◌≡◌, ◌<◌, ◌+◌, ◌-◌, ◌*◌, ◌++◌, Some, List, [], ◌∷◌, length, length-append, arith, slice_get, sym, ap, ◌∙◌, All}
use Rattle.std.proofs.lemmas.List.{get_or-map, length-map}
use Rattle.std.proofs.lemmas.List.Elements.{All-append, All-map}
use Rattle.std.proofs.lemmas.Option.{slice_get-get_or}
use Rattle.pair_structure.specs.Role.{RoleParts, IsRole, start_at}
use Rattle.pair_structure.specs.Structure.{start_count}
use Rattle.tableau_graph.proofs.Places.{kept_before}
use Rattle.unravel.specs.inside.Joining.{IsJoined, start_labels, start_row}

slice_get-behind : {X : Type 0} (xs ys : List X) (k : ℕ) → slice_get (xs ++ ys) (length xs + k) ≡ slice_get ys k
slice_get-behind [] ys k = let same : 0 + k ≡ k = omega arith in ap (slice_get ys) same
slice_get-behind (x ∷ xs) ys k =
    let same : length (x ∷ xs) + k ≡ suc (length xs + k) = omega arith in
    ap (slice_get (x ∷ (xs ++ ys))) same ∙ slice_get-behind xs ys k

row_long : (p : ℕ) (b : List ℕ) → length (start_row p b) ≡ length b
row_long p b = length-map b (λ q. (p, q))

pub labels_long : (a b : List ℕ) → length (start_labels a b) ≡ length a * length b
labels_long [] b = omega arith
labels_long (p ∷ a) b =
    let more : length (p ∷ a) * length b ≡ length b + length a * length b = omega arith in
    length-append (start_row p b) (start_labels a b) ∙ rw (row_long p b, labels_long a b) (sym more)

row_at : (p : ℕ) (b : List ℕ) (k : ℕ) → k < length b → slice_get (start_row p b) k ≡ Some (p, start_at b k)
row_at p b k l = slice_get-get_or (start_row p b) k (p, 0) (omega (arith, l, row_long p b)) ∙ ap (λ x. Some x) (get_or-map (λ q. (p, q)) b k 0 (p, 0) l)

pub labels_at : (a b : List ℕ) (i k : ℕ) → i < length a → k < length b → slice_get (start_labels a b) (i * length b + k) ≡ Some (start_at a i, start_at b k)
labels_at [] b i k li lk = absurd (omega (arith, li))
labels_at (p ∷ a) b zero k li lk =
    let same : 0 * length b + k ≡ k = omega arith in ap (slice_get (start_labels (p ∷ a) b)) same ∙ kept_before (start_row p b) (start_labels a b) k (p, start_at b k) (row_at p b k lk)
labels_at (p ∷ a) b (suc i) k li lk =
    let same : suc i * length b + k ≡ length (start_row p b) + (i * length b + k) = omega (arith, row_long p b) in
    ap (slice_get (start_labels (p ∷ a) b)) same ∙ slice_get-behind (start_row p b) (start_labels a b) (i * length b + k) ∙ labels_at a b i k (omega (arith, li)) lk

labels_all : (P Q : ℕ → Type 0) (a b : List ℕ) → All P a → All Q b → All (λ (l : ℕ × ℕ). P l.0 × Q l.1) (start_labels a b)
labels_all P Q [] b ha hb = λ i d l. absurd (omega (arith, l))
labels_all P Q (p ∷ a) b ha hb =
    All-append (λ (l : ℕ × ℕ). P l.0 × Q l.1) (start_row p b) (start_labels a b)
    (All-map (λ (l : ℕ × ℕ). P l.0 × Q l.1) (λ q. (p, q)) b (λ i d l. (ha 0 p (omega arith), hb i d l)))
    (labels_all P Q a b (λ i d l. ha (suc i) d (omega (arith, l))) hb)

-- there is a start state
pub some_starts : (a b : RoleParts) → IsRole a → IsRole b → 0 < start_count a b
some_starts a b role_a role_b = product (length a.starts - 1) (length a.starts) (length b.starts) (omega (arith, role_a.begins)) role_b.begins
  where
    product : (i m n : ℕ) → m ≡ suc i → 0 < n → 0 < m * n
    product i m n is some = let more : suc i * n ≡ i * n + n = omega arith in rw is (omega (arith, more, some))

-- the start states alone
pub first_joined : (a b : RoleParts) → IsRole a → IsRole b → IsJoined a b 0 (record { states = start_labels a.starts b.starts; moves = [] })
first_joined a b role_a role_b = record {
  long = omega (arith, labels_long a.starts b.starts);
  starts = labels_at a.starts b.starts;
  labels = labels_all (λ s. s < length a.locals) (λ s. s < length b.locals) a.starts b.starts role_a.starts_within role_b.starts_within;
  lawful = λ i d l. absurd (omega (arith, l));
  leaves = λ side s t h. absurd (omega (arith, h.1));
  within = λ side s t h. absurd (omega (arith, h.1));
  onward = λ s h. absurd (omega (arith, h.0, h.1, labels_long a.starts b.starts));
}
