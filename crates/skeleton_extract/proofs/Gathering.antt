-- Commands gathered move by move.
use Rattle.std.proofs.Common.{ℕ, zero, suc, ◌≡◌, ◌<◌, ◌+◌, ◌++◌, ◌∷◌, ◌==◌, ◌&&◌, ◌↔◌, Bool, true, false, [], List, length, get_or, take, Contains, arith, below_more, inl, inr, refl, sym, ap, subst, ◌∙◌, append-nil}
use Rattle.std.proofs.lemmas.Bool.{cases_eq}
use Rattle.std.proofs.lemmas.Bool.Decides.{nat_tests}
use Rattle.std.proofs.lemmas.List.{map-append, get_or_default, take_more}
use Rattle.std.proofs.lemmas.List.Elements.{filter-append, Contains-append_cases, Contains-append_right}
use Rattle.pair_structure.specs.declared.side.LocalArc.{LocalArc}
use Rattle.pair_structure.specs.declared.side.Move.{Move}
use Rattle.pair_structure.specs.declared.side.Side.{Side}
use Rattle.pair_structure.specs.declared.side.Side.TheVariants.{A, B}
use Rattle.pair_structure.specs.Ordinal.{is_same_side}
use Rattle.pair_structure.specs.Role.{RoleParts, HasArc}
use Rattle.pair_structure.specs.Parts.{arc_at}
use Rattle.pair_structure.specs.Structure.{Structure, IsOver, IsLawfulMove, TakesArc, label_at}
use Rattle.skeleton_extract.specs.declared.command.Command.{Command}
use Rattle.skeleton_extract.specs.inside.ArcNumbers.{IsNumbering, number_at}
use Rattle.pair_structure.specs.Sides.{arcs_of, local_of}
use Rattle.pair_structure.specs.Lists.{list_at}
use Rattle.skeleton_extract.specs.Commands.{AllRise, AreListed, IsCommand, IsListed, IsRising, IsSkeleton, Lists, commands_of, lists_of}
use Rattle.skeleton_extract.specs.inside.Gathered.{AreArranged, AreFollowed, AreGathered, FollowsArc, command_of, comes_to, given_on, leaves_at, number_of, takes}
use Rattle.skeleton_extract.proofs.Sides.{is_same_side_itself, side_from_is_same}

-- what a move takes, by its side and its two local states
taken : (same : Bool) (p r q s : ℕ) → same ≡ true → p ≡ r → q ≡ s → (same && ((p == r) && (q == s))) ≡ true
taken same p r q s side from to = grind (arith, nat_tests)

from_taken : (same : Bool) (p r q s : ℕ) → (same && ((p == r) && (q == s))) ≡ true → (same ≡ true) × (p ≡ r) × (q ≡ s)
from_taken same p r q s taken = grind (arith, nat_tests)

-- one more move
given_yes : (states : List (ℕ × ℕ)) (side : Side) (arc : LocalArc) (before : List Move) (move : Move) → takes states side arc move ≡ true → given_on states side arc (before ++ move ∷ []) ≡ given_on states side arc before ++ command_of states move ∷ []
given_yes states side arc before move takes_it = rw (filter-append, takes_it, map-append) refl

given_no : (states : List (ℕ × ℕ)) (side : Side) (arc : LocalArc) (before : List Move) (move : Move) → takes states side arc move ≡ false → given_on states side arc (before ++ move ∷ []) ≡ given_on states side arc before
given_no states side arc before move passed_over = rw (filter-append, passed_over, append-nil) refl

-- the arc that a move follows is the one with its number
pub number_found : (states : List (ℕ × ℕ)) (arcs : List LocalArc) (rows : List (List ℕ)) (move : Move) → IsNumbering rows arcs → FollowsArc states arcs move
    → (number_of states rows move < length arcs) × ((arc_at arcs (number_of states rows move)).from ≡ leaves_at states move) × ((arc_at arcs (number_of states rows move)).to ≡ comes_to states move)
number_found states arcs rows move numbering follows = found follows.arc
  where
    found : HasArc arcs (leaves_at states move) (comes_to states move) → (number_of states rows move < length arcs) × ((arc_at arcs (number_of states rows move)).from ≡ leaves_at states move) × ((arc_at arcs (number_of states rows move)).to ≡ comes_to states move)
    found (i, arc, lt, is, ends) =
        let at : arc_at arcs i ≡ arc = get_or_default arcs i _ arc lt ∙ is in
        let from' : (arc_at arcs i).from ≡ leaves_at states move = ap (λ (arc : LocalArc). arc.from) at ∙ ends.0 in
        let to' : (arc_at arcs i).to ≡ comes_to states move = ap (λ (arc : LocalArc). arc.to) at ∙ ends.1 in
        let number : number_of states rows move ≡ i = sym (ap (λ p. number_at rows p (arc_at arcs i).to) from' ∙ ap (λ q. number_at rows (leaves_at states move) q) to') ∙ numbering i lt in
        subst (λ n. (n < length arcs) × ((arc_at arcs n).from ≡ leaves_at states move) × ((arc_at arcs n).to ≡ comes_to states move)) (sym number) (lt, from', to')

-- a move of the side goes into the list of its arc
pub AreGathered-more : (states : List (ℕ × ℕ)) (before : List Move) (move : Move) (side : Side) (arcs : List LocalArc) (rows : List (List ℕ)) (lists pushed : List (List Command)) → IsNumbering rows arcs → FollowsArc states arcs move → move.side ≡ side
    → (number_of states rows move < length lists → length pushed ≡ length lists) → list_at pushed (number_of states rows move) ≡ list_at lists (number_of states rows move) ++ command_of states move ∷ []
    → ((k : ℕ) → (number_of states rows move ≡ k → ⊥) → list_at pushed k ≡ list_at lists k) → AreGathered states before side arcs lists → AreGathered states (before ++ move ∷ []) side arcs pushed
AreGathered-more states before move side arcs rows lists pushed numbering follows same_side size here elsewhere gathered = record {
  count = size (subst (λ n. number_of states rows move < n) (sym gathered.count) found.0) ∙ gathered.count;
  each = λ k lt. elim (cases_eq (number_of states rows move) k) [
    | inl same ↦ subst (λ k. list_at pushed k ≡ given_on states side (arc_at arcs k) (before ++ move ∷ [])) same at_number
    | inr differ ↦ elsewhere k differ ∙ gathered.each k lt ∙ sym (given_no states side (arc_at arcs k) before move (apart k lt differ (takes states side (arc_at arcs k) move) refl))
  ];
}
  where
    found : (number_of states rows move < length arcs) × ((arc_at arcs (number_of states rows move)).from ≡ leaves_at states move) × ((arc_at arcs (number_of states rows move)).to ≡ comes_to states move)
    found = number_found states arcs rows move numbering follows

    yes' : takes states side (arc_at arcs (number_of states rows move)) move ≡ true
    yes' = taken (is_same_side move.side side) (leaves_at states move) (arc_at arcs (number_of states rows move)).from (comes_to states move) (arc_at arcs (number_of states rows move)).to (subst (λ other. is_same_side move.side other ≡ true) same_side (is_same_side_itself move.side)) (sym found.1) (sym found.2)

    at_number : list_at pushed (number_of states rows move) ≡ given_on states side (arc_at arcs (number_of states rows move)) (before ++ move ∷ [])
    at_number = here ∙ ap (λ list. list ++ command_of states move ∷ []) (gathered.each (number_of states rows move) found.0) ∙ sym (given_yes states side (arc_at arcs (number_of states rows move)) before move yes')

    apart : (k : ℕ) → k < length arcs → (number_of states rows move ≡ k → ⊥) → (b : Bool) → takes states side (arc_at arcs k) move ≡ b → takes states side (arc_at arcs k) move ≡ false
    apart k lt differ false is = is
    apart k lt differ true is =
        let ends = from_taken (is_same_side move.side side) (leaves_at states move) (arc_at arcs k).from (comes_to states move) (arc_at arcs k).to is in
        absurd (differ (ap (λ p. number_at rows p (comes_to states move)) ends.1 ∙ ap (λ q. number_at rows (arc_at arcs k).from q) ends.2 ∙ numbering k lt))

-- a move of the other side is passed over
pub AreGathered-over : (states : List (ℕ × ℕ)) (before : List Move) (move : Move) (side : Side) (arcs : List LocalArc) (lists : List (List Command)) → (move.side ≡ side → ⊥) → AreGathered states before side arcs lists
    → AreGathered states (before ++ move ∷ []) side arcs lists
AreGathered-over states before move side arcs lists other gathered = record {
  count = gathered.count;
  each = λ k lt. gathered.each k lt ∙ sym (given_no states side (arc_at arcs k) before move (none k (takes states side (arc_at arcs k) move) refl));
}
  where
    none : (k : ℕ) (b : Bool) → takes states side (arc_at arcs k) move ≡ b → takes states side (arc_at arcs k) move ≡ false
    none k false is = is
    none k true is = absurd (other (side_from_is_same move.side side (from_taken (is_same_side move.side side) (leaves_at states move) (arc_at arcs k).from (comes_to states move) (arc_at arcs k).to is).0))

-- the next of the moves, where it is one of the side
pub AreGathered-taken : (states : List (ℕ × ℕ)) (moves : List Move) (side : Side) (arcs : List LocalArc) (rows : List (List ℕ)) (items : List Move) (n : ℕ) (d : Move) (lists pushed then : List (List Command)) (arc : ℕ) (command : Command)
    → items ≡ moves → n < length items → AreFollowed (record { states = states; moves = moves }) side arcs → IsNumbering rows arcs → (get_or items n d).side ≡ side → arc ≡ number_of states rows (get_or items n d) → command ≡ command_of states (get_or items n d)
    → (arc < length lists → length pushed ≡ length lists) → list_at pushed arc ≡ list_at lists arc ++ command ∷ [] → ((k : ℕ) → (arc ≡ k → ⊥) → list_at pushed k ≡ list_at lists k) → then ≡ pushed
    → AreGathered states (take n moves) side arcs lists → AreGathered states (take (n + 1) moves) side arcs then
AreGathered-taken states moves side arcs rows items n d lists pushed then arc command items_are lt followed numbering same_side arc_is command_is size here elsewhere then_is gathered =
    let follows : FollowsArc states arcs (get_or items n d) = subst (λ moves. AreFollowed (record { states = states; moves = moves }) side arcs) (sym items_are) followed n d lt same_side in
    let before : AreGathered states (take n items) side arcs lists = subst (λ moves. AreGathered states (take n moves) side arcs lists) (sym items_are) gathered in
    let more = AreGathered-more states (take n items) (get_or items n d) side arcs rows lists pushed numbering follows same_side (rw (← arc_is) size) (rw (← arc_is, ← command_is) here) (rw (← arc_is) elsewhere) before in
    subst (λ moves. AreGathered states (take (n + 1) moves) side arcs then) items_are (rw (take_more items n d lt, then_is) more)

-- and where it is not
pub AreGathered-passed : (states : List (ℕ × ℕ)) (moves : List Move) (side : Side) (arcs : List LocalArc) (items : List Move) (n : ℕ) (d : Move) (lists then : List (List Command))
    → items ≡ moves → n < length items → ((get_or items n d).side ≡ side → ⊥) → then ≡ lists → AreGathered states (take n moves) side arcs lists → AreGathered states (take (n + 1) moves) side arcs then
AreGathered-passed states moves side arcs items n d lists then items_are lt other then_is gathered =
    subst (λ moves. AreGathered states (take (n + 1) moves) side arcs then) items_are
    (rw (take_more items n d lt, then_is) (AreGathered-over states (take n items) (get_or items n d) side arcs lists other (subst (λ moves. AreGathered states (take n moves) side arcs lists) (sym items_are) gathered)))

-- what is gathered comes from a move
from_given : (states : List (ℕ × ℕ)) (side : Side) (arc : LocalArc) (moves : List Move) (c : Command) → Contains (given_on states side arc moves) c → (move : Move) × Contains moves move × (takes states side arc move ≡ true) × (command_of states move ≡ c)
from_given states side arc [] c (k, lt, is) = absurd (omega (arith, lt))
from_given states side arc (move ∷ moves) c has = by (takes states side arc move) refl has (from_given states side arc moves c)
  where
    Found : List Move → Type 0
    Found moves = (move : Move) × Contains moves move × (takes states side arc move ≡ true) × (command_of states move ≡ c)

    later : Found moves → Found (move ∷ moves)
    later (found, has, takes_it, is) = (found, Contains-append_right (move ∷ []) moves found has, takes_it, is)

    first : takes states side arc move ≡ true → Contains (command_of states move ∷ []) c → Found (move ∷ moves)
    first takes_it (zero, lt, is) = (move, (0, omega arith, refl), takes_it, is)
    first takes_it (suc k, lt, is) = absurd (omega (arith, lt))

    by : (b : Bool) → takes states side arc move ≡ b → Contains (given_on states side arc (move ∷ moves)) c → (Contains (given_on states side arc moves) c → Found moves) → Found (move ∷ moves)
    by true takes_it has rest =
        let split = Contains-append_cases (command_of states move ∷ []) (given_on states side arc moves) c (rw takes_it at has) in
        elim split [ inl here ↦ first takes_it here | inr there ↦ later (rest there) ]
    by false passed_over has rest = later (rest (rw passed_over at has))

-- and what moves give is gathered
given_from : (states : List (ℕ × ℕ)) (side : Side) (arc : LocalArc) (moves : List Move) (move : Move) → Contains moves move → takes states side arc move ≡ true → Contains (given_on states side arc moves) (command_of states move)
given_from states side arc [] move (k, lt, is) takes_it = absurd (omega (arith, lt))
given_from states side arc (first ∷ moves) move has takes_it = elim (Contains-append_cases (first ∷ []) moves move has) [ inl here ↦ at_first here | inr there ↦ after (takes states side arc first) refl (given_from states side arc moves move there takes_it) ]
  where
    at_first : Contains (first ∷ []) move → Contains (given_on states side arc (first ∷ moves)) (command_of states move)
    at_first (zero, lt, is) =
        let takes_it' : takes states side arc first ≡ true = subst (λ move. takes states side arc move ≡ true) (sym is) takes_it in
        rw takes_it' (0, omega arith, ap (command_of states) is)
    at_first (suc k, lt, is) = absurd (omega (arith, lt))

    after : (b : Bool) → takes states side arc first ≡ b → Contains (given_on states side arc moves) (command_of states move) → Contains (given_on states side arc (first ∷ moves)) (command_of states move)
    after true takes_it there = rw takes_it (Contains-append_right (command_of states first ∷ []) (given_on states side arc moves) (command_of states move) there)
    after false passed_over there = rw passed_over there

same_fields : (other x set other' x' set' : ℕ) → other ≡ other' → x ≡ x' → set ≡ set' → ◌≡◌ {A = Command} (record { other = other; x = x; set = set }) (record { other = other'; x = x'; set = set' })
same_fields other x set other' x' set' p q r = cc

same_command : (c d : Command) → d.other ≡ c.other → d.x ≡ c.x → d.set ≡ c.set → d ≡ c
same_command c d = same_fields d.other d.x d.set c.other c.x c.set

-- the commands that are gathered on an arc are those of its moves
pub IsCommand-given : (m : Structure) (side : Side) (arc : LocalArc) (c : Command) → Contains (given_on m.states side arc m.moves) c ↔ IsCommand m side arc c
IsCommand-given m side arc c = (λ has. command (from_given m.states side arc m.moves c has), λ command. given command)
  where
    command : (move : Move) × Contains m.moves move × (takes m.states side arc move ≡ true) × (command_of m.states move ≡ c) → IsCommand m side arc c
    command (move, has, takes_it, is) =
        let ends = from_taken (is_same_side move.side side) (leaves_at m.states move) arc.from (comes_to m.states move) arc.to takes_it in
        subst (λ side. IsCommand m side arc c) (side_from_is_same move.side side ends.0)
        (move.from, move.to, record { move = has; from = ends.1; to = ends.2; other = ap (λ (c : Command). c.other) is; x = ap (λ (c : Command). c.x) is; set = ap (λ (c : Command). c.set) is })

    given : IsCommand m side arc c → Contains (given_on m.states side arc m.moves) c
    given (s, t, g) =
        let move : Move = record { from = s; side = side; to = t } in
        let takes_it = taken (is_same_side side side) (leaves_at m.states move) arc.from (comes_to m.states move) arc.to (is_same_side_itself side) g.from g.to in
        subst (λ c. Contains (given_on m.states side arc m.moves) c) (same_command c (command_of m.states move) g.other g.x g.set) (given_from m.states side arc m.moves move g.move takes_it)

-- what was gathered, put in order, is the lists of the arcs
pub AreListed-from_arranged : (m : Structure) (side : Side) (arcs : List LocalArc) (lists arranged : List (List Command)) → AreGathered m.states m.moves side arcs lists → AreArranged (length lists) lists arranged → AreListed m side arcs arranged
AreListed-from_arranged m side arcs lists arranged gathered is = record {
  count = is.size ∙ gathered.count;
  each = λ arc lt. record {
    rising = is.rising arc (omega (arith, gathered.count));
    exact = λ c. (
      λ has. (IsCommand-given m side (arc_at arcs arc) c).0 (subst (λ list. Contains list c) (gathered.each arc lt) ((is.same arc c).0 has)),
      λ command. (is.same arc c).1 (subst (λ list. Contains list c) (sym (gathered.each arc lt)) ((IsCommand-given m side (arc_at arcs arc) c).1 command)),
    );
  };
}

-- a lawful move follows an arc of its side
pub AreFollowed-by_side : (a b : RoleParts) (m : Structure) (side : Side) → IsOver a b m → AreFollowed m side (arcs_of side a b)
AreFollowed-by_side a b m side over k d lt same = follows (get_or m.moves k d) same (over.lawful k d lt)
  where
    arc : (own : Side) (from to : ℕ × ℕ) → TakesArc a.arcs b.arcs own from to → HasArc (arcs_of own a b) (local_of own from) (local_of own to)
    arc A from to takes_it = takes_it
    arc B from to takes_it = takes_it

    follows : (move : Move) → move.side ≡ side → IsLawfulMove a b m.states move → FollowsArc m.states (arcs_of side a b) move
    follows move same lawful = record {
      from = lawful.from;
      to = lawful.to;
      arc = subst (λ side. HasArc (arcs_of side a b) (leaves_at m.states move) (comes_to m.states move)) same (arc move.side (label_at m.states move.from) (label_at m.states move.to) lawful.arc);
    }

-- both sides together
pub IsSkeleton-from_sides : (a b : RoleParts) (m : Structure) (of_a of_b : List (List Command)) → AreListed m A a.arcs of_a → AreListed m B b.arcs of_b → IsSkeleton a b m (record { a = of_a; b = of_b })
IsSkeleton-from_sides a b m of_a of_b is_a is_b = record { has_lists = record { count = count }; listed = listed }
  where
    lists : Lists
    lists = record { a = of_a; b = of_b }

    count : (side : Side) → length (lists_of lists side) ≡ length (arcs_of side a b)
    count A = is_a.count
    count B = is_b.count

    listed : (side : Side) (arc : ℕ) → arc < length (arcs_of side a b) → IsListed m side (arc_at (arcs_of side a b) arc) (commands_of lists side arc)
    listed A arc lt = is_a.each arc lt
    listed B arc lt = is_b.each arc lt

pub AllRise-from_listed : (m : Structure) (side : Side) (arcs : List LocalArc) (lists : List (List Command)) → AreListed m side arcs lists → AllRise lists
AllRise-from_listed m side arcs lists is arc lt = (is.each arc (omega (arith, is.count))).rising

-- one more list put in order
pub AreArranged-more : (n : ℕ) (old before after : List (List Command)) → AreArranged n old before → length after ≡ length before → IsRising (list_at after n) → ((c : Command) → Contains (list_at after n) c ↔ Contains (list_at before n) c)
    → ((k : ℕ) → (n ≡ k → ⊥) → list_at after k ≡ list_at before k) → AreArranged (n + 1) old after
AreArranged-more n old before after is size rising same elsewhere = record {
  size = size ∙ is.size;
  rising = below_more _ n (λ k lt. subst IsRising (sym (elsewhere k (λ e. omega (arith, e)))) (is.rising k lt)) rising;
  same = λ k c. elim (cases_eq n k) [
    | inl e ↦ subst (λ k. Contains (list_at after k) c ↔ Contains (list_at old k) c) e (join (Contains (list_at after n) c) (Contains (list_at before n) c) (Contains (list_at old n) c) (same c) (is.same n c))
    | inr differ ↦ subst (λ list. Contains list c ↔ Contains (list_at old k) c) (sym (elsewhere k differ)) (is.same k c)
  ];
}
  where
    join : (P Q R : Type 0) → P ↔ Q → Q ↔ R → P ↔ R
    join P Q R pq qr = (λ p. qr.0 (pq.0 p), λ r. pq.1 (qr.1 r))
