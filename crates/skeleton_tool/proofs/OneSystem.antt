-- A specification and a solution make one system.
use Rattle.std.proofs.Common.{ℕ, zero, suc, ◌≡◌, ◌<◌, ◌+◌, ◌⊎◌, inl, inr, List, [], ◌∷◌, length, get_or, AllPairs, Contains, refl, sym, subst, ap, ◌∙◌, arith}
use Rattle.std.proofs.lemmas.List.{get_or_default, same_lists}
use Rattle.pair_structure.specs.declared.side.Side.{Side}
use Rattle.pair_structure.specs.declared.side.Side.TheVariants.{A, B}
use Rattle.pair_structure.specs.declared.side.LocalArc.{LocalArc}
use Rattle.pair_structure.specs.Role.{RoleParts}
use Rattle.pair_structure.specs.Structure.{Structure}
use Rattle.skeleton_extract.specs.declared.command.Command.{Command}
use Rattle.pair_structure.specs.Lists.{list_at}
use Rattle.pair_structure.specs.Sides.{arcs_of}
use Rattle.skeleton_extract.specs.Commands.{Lists, IsBelow, IsListed, IsRising, IsSkeleton, lists_of}
use Rattle.interconnection.specs.Network.{NetworkParts}
use Rattle.conjunctive_compose.specs.System.{SystemParts, HasCommands, no_lists}
use Rattle.ctl_text.specs.Value.{SpecParts}
use Rattle.skeleton_tool.specs.Third.{IsSystemOf}

first_or_later : (y c : Command) (ys : List Command) → Contains (y ∷ ys) c → (c ≡ y) ⊎ Contains ys c
first_or_later y c ys (zero, lt, is) = inl (sym is)
first_or_later y c ys (suc k, lt, is) = inr (k, omega (arith, lt), is)

first_there : (y : Command) (ys : List Command) → Contains (y ∷ ys) y
first_there y ys = (0, omega arith, refl)

later_there : (y c : Command) (ys : List Command) → Contains ys c → Contains (y ∷ ys) c
later_there y c ys (k, lt, is) = (suc k, omega (arith, lt), is)

-- of two commands one is not below the other and above it
not_both : (c d : Command) → IsBelow c d → IsBelow d c → ⊥
not_both c d h k = grind arith

rest_rises : (y : Command) (ys : List Command) → IsRising (y ∷ ys) → IsRising ys
rest_rises y ys rising i j d lt within = rising (suc i) (suc j) d (omega arith) (omega arith)

first_below : (y c : Command) (ys : List Command) → IsRising (y ∷ ys) → Contains ys c → IsBelow y c
first_below y c ys rising (k, lt, is) = subst (IsBelow y) is (rising 0 (suc k) c (omega arith) (omega (arith, lt)))

-- the lists have the same commands
abbrev AreSame : List Command → List Command → Type 0
AreSame xs ys = (c : Command) → (Contains xs c → Contains ys c) × (Contains ys c → Contains xs c)

same_first : (x y : Command) (xs ys : List Command) → IsRising (x ∷ xs) → IsRising (y ∷ ys) → AreSame (x ∷ xs) (y ∷ ys) → x ≡ y
same_first x y xs ys rx ry same =
    elim (first_or_later y x ys ((same x).0 (first_there x xs))) [
      | inl is ↦ is
      | inr in_ys ↦ elim (first_or_later x y xs ((same y).1 (first_there y ys))) [
        | inl is ↦ sym is
        | inr in_xs ↦ absurd (not_both x y (first_below x y xs rx in_xs) (first_below y x ys ry in_ys))
      ]
    ]

same_later : (x y c : Command) (xs ys : List Command) → x ≡ y → IsRising (x ∷ xs) → (Contains (x ∷ xs) c → Contains (y ∷ ys) c) → Contains xs c → Contains ys c
same_later x y c xs ys is rx over h =
    elim (first_or_later y c ys (over (later_there x c xs h))) [
      | inl first ↦ (let below : IsBelow x c = first_below x c xs rx h in let itself : IsBelow c c = subst (λ z. IsBelow z c) (is ∙ sym first) below in absurd (not_both c c itself itself))
      | inr later ↦ later
    ]

-- lists that rise and have the same commands are one
same_rising : (xs ys : List Command) → IsRising xs → IsRising ys → AreSame xs ys → xs ≡ ys
same_rising [] [] rx ry same = refl
same_rising [] (y ∷ ys) rx ry same = let h = (same y).1 (first_there y ys) in absurd (omega (arith, h.1))
same_rising (x ∷ xs) [] rx ry same = let h = (same x).0 (first_there x xs) in absurd (omega (arith, h.1))
same_rising (x ∷ xs) (y ∷ ys) rx ry same =
    let first = same_first x y xs ys rx ry same in
    let later = same_rising xs ys (rest_rises x xs rx) (rest_rises y ys ry) (λ c. (same_later x y c xs ys first rx (same c).0, same_later y x c ys xs (sym first) ry (same c).1)) in
    rw (first, later) refl

same_listed : (m : Structure) (side : Side) (arc : LocalArc) (xs ys : List Command) → IsListed m side arc xs → IsListed m side arc ys → xs ≡ ys
same_listed m side arc xs ys hx hy = same_rising xs ys hx.rising hy.rising (λ c. (λ h. (hy.exact c).1 ((hx.exact c).0 h), λ h. (hx.exact c).1 ((hy.exact c).0 h)))

same_side : (a b : RoleParts) (m : Structure) (one other : Lists) (side : Side) → IsSkeleton a b m one → IsSkeleton a b m other → lists_of one side ≡ lists_of other side
same_side a b m one other side h k =
    let count = h.has_lists.count side in
    let counted = k.has_lists.count side in
    same_lists (lists_of one side) (lists_of other side) (count ∙ sym counted)
    (λ arc d lt.
    let within : arc < length (arcs_of side a b) = omega arith in
    let within' : arc < length (lists_of other side) = omega arith in
    get_or_default (lists_of one side) arc d [] lt ∙ same_listed m side _ (list_at (lists_of one side) arc) (list_at (lists_of other side) arc) (h.listed side arc within) (k.listed side arc within) ∙ sym (get_or_default (lists_of other side) arc d [] within'))

same_parts : (a b c d : List (List Command)) → a ≡ c → b ≡ d → ◌≡◌ {A = Lists} (record { a = a; b = b }) (record { a = c; b = d })
same_parts a b c d x y = rw (x, y) refl

pub same_skeleton : (a b : RoleParts) (m : Structure) (one other : Lists) → IsSkeleton a b m one → IsSkeleton a b m other → one ≡ other
same_skeleton a b m one other h k =
    let of_a : one.a ≡ other.a = same_side a b m one other A h k in
    let of_b : one.b ≡ other.b = same_side a b m one other B h k in
    same_parts one.a one.b other.a other.b of_a of_b

same_commands : (net : NetworkParts) (structures : List Structure) (one other : List Lists) → HasCommands net structures one → HasCommands net structures other → one ≡ other
same_commands net structures one other h k =
    same_lists one other (h.one_each ∙ sym k.one_each)
    (λ kind d lt.
    let count = h.one_each in
    let counted = k.one_each in
    let within : kind < length net.ends = omega arith in
    let within' : kind < length other = omega arith in
    get_or_default one kind d no_lists lt ∙ same_skeleton _ _ _ _ _ (h.commands kind within) (k.commands kind within) ∙ sym (get_or_default other kind d no_lists within'))

same_systems : (net link : NetworkParts) (xs ys : List Structure) (ls ms : List Lists) → net ≡ link → xs ≡ ys → ls ≡ ms → ◌≡◌ {A = SystemParts} (record { network = net; structures = xs; lists = ls }) (record { network = link; structures = ys; lists = ms })
same_systems net link xs ys ls ms a b c = rw (a, b, c) refl

pub one_system : (v : SpecParts) (structures : List Structure) (one other : SystemParts) → IsSystemOf v structures one → IsSystemOf v structures other → one ≡ other
one_system v structures one other h k =
    let network : one.network ≡ other.network = h.network ∙ sym k.network in
    let same : one.structures ≡ other.structures = h.structures_are ∙ sym k.structures_are in
    let lists : one.lists ≡ other.lists = same_commands other.network other.structures one.lists other.lists (rw (network, same) at h.system.commands) k.system.commands in
    same_systems one.network other.network one.structures other.structures one.lists other.lists network same lists
