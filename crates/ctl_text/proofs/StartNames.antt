-- The local state where a process begins, named or not.
use Rattle.std.proofs.Common.{ℕ, ◌≡◌, ◌<◌, Bool, true, false, ◌==◌, cond, Option, Some, None, IfSome, List, [], length, Contains, refl, sym, subst}
use Rattle.std.specs.Bool.{Decides}
use Rattle.std.proofs.lemmas.Bool.{eqb-true}
use Rattle.std.proofs.lemmas.Bool.Decides.{Decides-eqb}
use Rattle.std.proofs.lemmas.List.Elements.{Contains-get_or}
use Rattle.std.proofs.lemmas.Map.Made.{is_member-Decides}
use Rattle.pair_structure.specs.Name.{IsName}
use Rattle.pair_structure.specs.Parts.{name_at}
use Rattle.pair_structure.specs.Role.{RoleParts, first_start}
use Rattle.ctl_text.specs.Cause.{IsUnknownStart, IsNoStart}
use Rattle.ctl_text.specs.SoundValue.{IsNamedRole}
use Rattle.ctl_text.specs.SpecText.{start_name}
use Rattle.ctl_text.specs.Value.{number_in, start_named}
use Rattle.ctl_text.proofs.Named.{Contains-not_not, number_again}

decided : {P : Type 0} (t : Bool) → Decides t P → ((P → ⊥) → ⊥) → P
decided true d not_not = d.0 refl
decided false d not_not = absurd (not_not (λ p. let e = d.1 p in cc))

number_contained : (xs : List ℕ) (x : ℕ) → ((Contains xs x → ⊥) → ⊥) → Contains xs x
number_contained xs x not_not = decided _ (is_member-Decides Decides-eqb xs x) not_not

-- where nothing stands against it, it is one of the role's starts
pub begins_in : (r : RoleParts) (start : Option (List ℕ)) → 0 < length r.starts → (IsUnknownStart r start → ⊥) → (IsNoStart r start → ⊥) → Contains r.starts (start_named r start)
begins_in r None some known begins = Contains-get_or r.starts 0 0 some
begins_in r (Some name) some known begins = number_contained r.starts (number_in r.locals name) (λ other. begins (Contains-not_not r.locals name known, other))

-- a name or none that stands for this start of the role
pub record NamesStart (r : RoleParts) (start : ℕ) (name : Option (List ℕ)) : Type 0 where
  pub spelled : IfSome name IsName
  pub known : IsUnknownStart r name → ⊥
  pub begins : IsNoStart r name → ⊥
  pub named : start_named r name ≡ start

by_name : (r : RoleParts) (start : ℕ) → IsNamedRole r → start < length r.locals → Contains r.starts start → NamesStart r start (Some (name_at r.locals start))
by_name r start is within there =
    let again = number_again r.locals start is.role.names_differ within in record {
      spelled = is.locals start [] within;
      known = λ unknown. unknown (Contains-get_or r.locals start [] within);
      begins = λ other. other.1 (subst (Contains r.starts) (sym again) there);
      named = again;
    }

start_within : (r : RoleParts) (start : ℕ) → IsNamedRole r → Contains r.starts start → start < length r.locals
start_within r start is (k, lt, at) = subst (λ (n : ℕ). n < length r.locals) at (is.role.starts_within k start lt)

-- the name that a canonical text gives it
pub start_again : (r : RoleParts) (start : ℕ) → IsNamedRole r → Contains r.starts start → NamesStart r start (start_name r start)
start_again r start is there = by (start == first_start r) refl
  where
    by : (t : Bool) → (start == first_start r) ≡ t → NamesStart r start (cond t None (Some (name_at r.locals start)))
    by true e = record { spelled = tt; known = λ h. h; begins = λ h. h; named = sym (eqb-true start (first_start r) e) }
    by false e = by_name r start is (start_within r start is there) there
