-- What a filter keeps, and the command that is picked.
use Rattle.std.proofs.Common.{ℕ, zero, suc, ◌≡◌, ◌<◌, ◌%◌, ◌==◌, ◌&&◌, ◌⊎◌, inl, inr, Bool, true, false, List, [], ◌∷◌, length, arith, refl, Any, Contains, eqb-true}
use Rattle.std.specs.Prelude.{filter}
use Rattle.std.proofs.Math.Nat.{mod-lt}
use Rattle.std.proofs.lemmas.Bool.{eq-eqb}
use Rattle.std.proofs.lemmas.List.Elements.{filter_passes, All-contains, Contains-get_or}
use Rattle.skeleton_extract.specs.declared.command.Command.{Command}
use Rattle.skeleton_extract.specs.Permission.{is_permitted, no_command, permitted_of, picked}

pub Contains-later : {X : Type 0} (x : X) (xs : List X) (y : X) → Contains xs y → Contains (x ∷ xs) y
Contains-later x xs y (k, lt, is) = (suc k, omega (arith, lt), is)

pub Contains-cases : {X : Type 0} (x : X) (xs : List X) (y : X) → Contains (x ∷ xs) y → (x ≡ y) ⊎ Contains xs y
Contains-cases x xs y (zero, lt, is) = inl is
Contains-cases x xs y (suc k, lt, is) = inr (k, omega (arith, lt), is)

pub filter_has : {X : Type 0} (p : X → Bool) (xs : List X) (y : X) → Contains xs y → p y ≡ true → Contains (filter p xs) y
filter_has p [] y (k, lt, is) h = absurd (omega (arith, lt))
filter_has {X} p (x ∷ xs) y has h = elim (Contains-cases x xs y has) [ inl e ↦ here e | inr l ↦ by (p x) refl (filter_has p xs y l h) ]
  where
    here : x ≡ y → Contains (filter p (x ∷ xs)) y
    here e = let px : p x ≡ true = rw e h in rw px (zero, omega arith, e)

    by : (b : Bool) → p x ≡ b → Contains (filter p xs) y → Contains (filter p (x ∷ xs)) y
    by true e in' = rw e (Contains-later x (filter p xs) y in')
    by false e in' = rw e in'

pub filter_from : {X : Type 0} (p : X → Bool) (xs : List X) (y : X) → Contains (filter p xs) y → Contains xs y
filter_from p [] y h = h
filter_from {X} p (x ∷ xs) y h = by (p x) refl (filter_from p xs y)
  where
    by : (b : Bool) → p x ≡ b → (Contains (filter p xs) y → Contains xs y) → Contains (x ∷ xs) y
    by true e more = elim (Contains-cases x (filter p xs) y (rw e at h)) [ inl same ↦ (zero, omega arith, same) | inr l ↦ Contains-later x xs y (more l) ]
    by false e more = Contains-later x xs y (more (rw e at h))

pub is_permitted-known : (other x : ℕ) (c : Command) → is_permitted other x c ≡ true → (c.other ≡ other) × (c.x ≡ x)
is_permitted-known other x c h = (by_other (c.other == other) (c.x == x) refl refl h, by_x (c.other == other) (c.x == x) refl refl h)
  where
    by_other : (s t : Bool) → (c.other == other) ≡ s → (c.x == x) ≡ t → (s && t) ≡ true → c.other ≡ other
    by_other true t e f h = eqb-true c.other other e
    by_other false t e f h = cc

    by_x : (s t : Bool) → (c.other == other) ≡ s → (c.x == x) ≡ t → (s && t) ≡ true → c.x ≡ x
    by_x true true e f h = eqb-true c.x x f
    by_x true false e f h = cc
    by_x false t e f h = cc

-- what is known of a command that is picked
pub record IsPicked (commands : List Command) (other x : ℕ) (c : Command) : Type 0 where
  pub among : Contains commands c
  pub other_is : c.other ≡ other
  pub x_is : c.x ≡ x

pub picked_is : (commands : List Command) (other x pick : ℕ) → Any (λ (c : Command). (c.other ≡ other) × (c.x ≡ x)) commands → IsPicked commands other x (picked (permitted_of commands other x) pick)
picked_is commands other x pick (k, c, within, is, (o, e)) =
    let chosen = picked (permitted_of commands other x) pick in
    let passes : is_permitted other x c ≡ true = rw (eq-eqb c.other other o, eq-eqb c.x x e) refl in
    let has : Contains (permitted_of commands other x) c = filter_has (is_permitted other x) commands c (k, within, is) passes in
    let some : 0 < length (permitted_of commands other x) = omega (arith, has.1) in
    let in' : Contains (permitted_of commands other x) chosen = Contains-get_or (permitted_of commands other x) (pick % length (permitted_of commands other x)) no_command (mod-lt pick some) in
    let known = is_permitted-known other x chosen (All-contains (λ (c : Command). is_permitted other x c ≡ true) (permitted_of commands other x) chosen (filter_passes (is_permitted other x) commands) in') in
    record { among = filter_from (is_permitted other x) commands chosen in'; other_is = known.0; x_is = known.1 }
