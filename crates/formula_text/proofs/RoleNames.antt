-- The local states of a role are names, each once.
use Rattle.std.proofs.Common.{ℕ, ◌≡◌, ◌≢◌, ◌<◌, Bool, true, false, nat_lt, nat_le, AllPairs, Some, List, [], ◌∷◌, length, get_or, position, refl, arith}
use Rattle.std.proofs.lemmas.Bool.{false_from_ne_true}
use Rattle.std.proofs.lemmas.Bool.Decides.{nat_tests}
use Rattle.std.proofs.lemmas.List.Sums.{list_all-from_AllPass, position_or_len_is}
use Rattle.std.proofs.lemmas.Slice.Eq.{bytes_eq-Decides}
use Rattle.std.specs.Char.{is_ascii_alphabetic}
use Rattle.std.specs.List.{list_all}
use Rattle.std.specs.Str.{bytes_eq}
use Rattle.pair_structure.specs.Parts.{Names, name_at}
use Rattle.pair_structure.specs.Name.{IsName, is_name_byte, is_name}
use Rattle.formula_text.specs.Canonical.{AreNames}

spelled : (name : List ℕ) → IsName name → is_name name ≡ true
spelled [] e = absurd e
spelled (first ∷ rest) e =
    let one : is_ascii_alphabetic first ≡ true = e.0 in
    let le = e.1 in
    let two : nat_le (length rest) 15 ≡ true = grind (arith, nat_tests) in
    let three : list_all is_name_byte rest ≡ true = list_all-from_AllPass is_name_byte rest e.2 in
    rw (one, two, three) refl

found_at : (p : List ℕ → Bool) (xs : Names) (i : ℕ) → i < length xs → ((k : ℕ) → k < i → p (get_or xs k []) ≡ false) → p (get_or xs i []) ≡ true → position p xs ≡ Some i
found_at p xs i lt before here =
    let first = position_or_len_is p xs i [] (omega arith) before (λ h. here) in
    let within : nat_lt i (length xs) ≡ true = grind (arith, nat_tests) in
    rw (first, within) refl

pub names_of_role : (locals : Names) → ((p : ℕ) → p < length locals → IsName (name_at locals p)) → AllPairs (λ x y. x ≢ y) locals → AreNames locals
names_of_role locals each differ = record {
  each_name = λ p lt. spelled (name_at locals p) (each p lt);
  each_once = λ p lt. found_at (λ x. bytes_eq x (name_at locals p)) locals p lt
      (λ k below. false_from_ne_true (bytes_eq (name_at locals k) (name_at locals p)) (λ same. differ k p [] below lt ((bytes_eq-Decides (name_at locals k) (name_at locals p)).0 same)))
      ((bytes_eq-Decides (name_at locals p) (name_at locals p)).1 refl);
}
