-- Small laws of lists, options and tests.
use Rattle.std.proofs.Common.{ℕ, ◌≡◌, ◌⊎◌, inl, inr, Bool, true, false, ◌&&◌, Option, Some, None, List, [], ◌∷◌, Contains, arith}
use Rattle.std.proofs.lemmas.List.Elements.{Contains-append_left, Contains-append_right, Contains-append_cases, Contains-push, Contains-push_cases}

pub Contains-cons : (n : ℕ) (ns : List ℕ) → Contains (n ∷ ns) n
Contains-cons n ns = Contains-append_left (n ∷ []) ns n (Contains-push [] n)

pub Contains-cons_more : (n : ℕ) (ns : List ℕ) (m : ℕ) → Contains ns m → Contains (n ∷ ns) m
Contains-cons_more n ns m h = Contains-append_right (n ∷ []) ns m h

pub Contains-cons_cases : (n : ℕ) (ns : List ℕ) (m : ℕ) → Contains (n ∷ ns) m → (n ≡ m) ⊎ Contains ns m
Contains-cons_cases n ns m h = elim (Contains-append_cases (n ∷ []) ns m h) [ inl a ↦ elim (Contains-push_cases [] n m a) [ inl z ↦ absurd (omega (arith, z.1)) | inr e ↦ inl e ] | inr b ↦ inr b ]

pub value_same : (o : Option ℕ) (x y : ℕ) → o ≡ Some x → o ≡ Some y → x ≡ y
value_same o x y e f = cc

pub none_not_some : (o : Option ℕ) (x : ℕ) → o ≡ None → o ≡ Some x → ⊥
none_not_some o x e f = cc

pub some_same : {x y : ℕ} → ◌≡◌ {A = Option ℕ} (Some x) (Some y) → x ≡ y
some_same e = cc

pub no_some : {x : ℕ} → ◌≡◌ {A = Option ℕ} None (Some x) → ⊥
no_some e = cc

-- the other part of a test that fails, where the first holds
pub and_rest : (x y : Bool) → x && y ≡ false → x ≡ true → y ≡ false
and_rest true y e h = e
and_rest false y e h = absurd (let z : false ≡ true = h in cc)
