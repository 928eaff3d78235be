-- A text that stands for structures is their one text, and they are over the roles of their kinds.
use Rattle.std.proofs.Common.{ℕ, ◌≡◌, ◌≢◌, ◌<◌, inl, inr, true, false, List, [], ◌∷◌, ◌++◌, length, get_or, Contains, refl, sym, ap, ◌∙◌, subst, arith, append_assoc, append-nil, length-append}
use Rattle.std.specs.List.{flat_map}
use Rattle.std.specs.Str.{bytes_eq}
use Rattle.std.proofs.lemmas.Slice.Eq.{bytes_eq-Decides}
use Rattle.pair_structure.specs.declared.side.Move.{Move}
use Rattle.pair_structure.specs.Role.{RoleParts}
use Rattle.pair_structure.specs.Structure.{Structure, IsPairStructure}
use Rattle.ctl_form.specs.declared.pair_spec.PairSpec.{PairSpec}
use Rattle.ctl_form.specs.Kind.{role_at}
use Rattle.text_cause.specs.declared.cause.TextCause.TheVariants.{UnknownName}
use Rattle.text_cause.specs.Cause.{IsFree}
use Rattle.ctl_text.specs.Value.{number_in}
use Rattle.ctl_text.proofs.Named.{Contains-not_not, named_at}
use Rattle.strict_text.specs.Lines.{Line, text_of, lines_of}
use Rattle.strict_text.specs.Words.{words_of}
use Rattle.strict_text.specs.Spaced.{spaced}
use Rattle.strict_text.proofs.WordLaws.{one_line}
use Rattle.strict_text.proofs.LineLaws.{text_of_lines}
use Rattle.solution_text.specs.Item.{Said, head_line, kind_line, state_line, move_line, end_line, done_line, words_for}
use Rattle.solution_text.specs.State.{Group, before_head, among_kinds, in_kind, after_done, State, first_state, MayStand, after_line}
use Rattle.solution_text.specs.Cause.{LabelBlocks, BarsLine, EndsWhole}
use Rattle.text_cause.specs.Grammar.{StandsFor}
use Rattle.solution_text.specs.Text.{solutions, IsSolutionText}
use Rattle.solution_text.specs.SolutionText.{item_text, state_text, move_text, kinds_text, solution_text, AreOver}
use Rattle.solution_text.proofs.Judged.{blocks_stand}

-- the text behind the states and moves of an open kind
abbrev open_text : List RoleParts → List PairSpec → RoleParts → RoleParts → List (ℕ × ℕ) → List Move → List Structure → List ℕ
open_text roles left a b ss ms rest = flat_map (state_text a.locals b.locals) ss ++ (flat_map move_text ms ++ (item_text end_line ++ (kinds_text roles left rest ++ item_text done_line)))

-- what is left of an open kind, and the structures of the kinds behind it
record RemainsOpen (roles : List RoleParts) (left : List PairSpec) (a b : RoleParts) (states : List (ℕ × ℕ)) (moves : List Move) (more : List Structure) (text : List ℕ) : Type 0 where
  ss : List (ℕ × ℕ)
  ms : List Move
  rest : List Structure
  more_is : more ≡ record { states = states ++ ss; moves = moves ++ ms } ∷ rest
  whole : IsPairStructure a b (states ++ ss) (moves ++ ms)
  over : AreOver roles left rest
  states_first : 0 < length moves → ss ≡ []
  text_is : text ≡ open_text roles left a b ss ms rest

-- the structures that are still to come, and the text that gives them
abbrev Remains : List RoleParts → List PairSpec → Group → List Structure → List ℕ → Type 0
Remains roles left before_head more text = AreOver roles left more × (text ≡ solution_text roles left more)
Remains roles left among_kinds more text = AreOver roles left more × (text ≡ kinds_text roles left more ++ item_text done_line)
Remains roles left (in_kind a b states moves) more text = RemainsOpen roles left a b states moves more text
Remains roles left after_done more text = (more ≡ []) × (text ≡ [])

record Comes (roles : List RoleParts) (s : State) (v : List Structure) (text : List ℕ) : Type 0 where
  more : List Structure
  v_is : v ≡ s.made ++ more
  remains : Remains roles s.left s.group more text

same_name : (x y : List ℕ) → ((x ≢ y) → ⊥) → x ≡ y
same_name x y not_not = elim (bytes_eq x y) as (λ t. bytes_eq x y ≡ t → x ≡ y) [
  | true ↦ λ e. (bytes_eq-Decides x y).0 e
  | false ↦ λ e. absurd (not_not (λ is. let t = (bytes_eq-Decides x y).1 is in cc))
] refl

used : (names : List (List ℕ)) (name : List ℕ) → ((Contains names name → ⊥) → ⊥) → get_or names (number_in names name) [] ≡ name
used names name not_not = named_at names name (Contains-not_not names name not_not)

state_same : (a b : RoleParts) (p q : List ℕ) → IsFree (LabelBlocks a b p q) → state_text a.locals b.locals (number_in a.locals p, number_in b.locals q) ≡ item_text (state_line p q)
state_same a b p q free =
    let e = used a.locals p (λ none. free.free UnknownName (inl (refl, none))) in
    let f = used b.locals q (λ none. free.free UnknownName (inr (refl, none))) in
    rw (e, f) refl

-- before the head, and where a kind is opened
opens : (roles : List RoleParts) (made : List Structure) (kind : PairSpec) (left : List PairSpec) (name : List ℕ) (v : List Structure) (text : List ℕ) → name ≡ kind.name
    → Comes roles (after_line roles (record { made = made; left = kind ∷ left; group = among_kinds }) (kind_line name)) v text
    → Comes roles (record { made = made; left = kind ∷ left; group = among_kinds }) v (item_text (kind_line name) ++ text)
opens roles made kind left name v text is h =
    let o = h.remains in
    let m : Structure = record { states = o.ss; moves = o.ms } in
    record {
      more = m ∷ o.rest;
      v_is = h.v_is ∙ ap (λ more. made ++ more) o.more_is;
      remains = ((o.whole, o.over), rw (o.text_is, is) (opened_text (item_text (kind_line kind.name)) (flat_map (state_text (role_at roles kind.role_a).locals (role_at roles kind.role_b).locals) o.ss) (flat_map move_text o.ms) (item_text end_line) (kinds_text roles left o.rest) (item_text done_line)));
    }
  where
    opened_text : (k ss ms e rest d : List ℕ) → k ++ (ss ++ (ms ++ (e ++ (rest ++ d)))) ≡ ((k ++ ((ss ++ ms) ++ e)) ++ rest) ++ d
    opened_text k ss ms e rest d = simp append_assoc refl

with_state : (roles : List RoleParts) (made : List Structure) (left : List PairSpec) (a b : RoleParts) (states : List (ℕ × ℕ)) (moves : List Move) (p q : List ℕ) (v : List Structure) (text : List ℕ)
    → length moves ≡ 0 → IsFree (LabelBlocks a b p q)
    → Comes roles (record { made = made; left = left; group = in_kind a b (states ++ (number_in a.locals p, number_in b.locals q) ∷ []) moves }) v text
    → Comes roles (record { made = made; left = left; group = in_kind a b states moves }) v (item_text (state_line p q) ++ text)
with_state roles made left a b states moves p q v text none free h =
    let o = h.remains in
    let x : ℕ × ℕ = (number_in a.locals p, number_in b.locals q) in
    let along : (states ++ x ∷ []) ++ o.ss ≡ states ++ x ∷ o.ss = append_assoc states (x ∷ []) o.ss in
    record {
      more = h.more;
      v_is = h.v_is;
      remains = record {
        ss = x ∷ o.ss;
        ms = o.ms;
        rest = o.rest;
        more_is = rw along at o.more_is;
        whole = rw along at o.whole;
        over = o.over;
        states_first = λ some. absurd (omega arith);
        text_is =
            ap (λ t. t ++ text) (sym (state_same a b p q free))
            ∙ ap (λ t. state_text a.locals b.locals x ++ t) o.text_is
            ∙ sym (append_assoc (state_text a.locals b.locals x) (flat_map (state_text a.locals b.locals) o.ss) _);
      };
    }

with_move : (roles : List RoleParts) (made : List Structure) (left : List PairSpec) (a b : RoleParts) (states : List (ℕ × ℕ)) (moves : List Move) (move : Move) (v : List Structure) (text : List ℕ)
    → Comes roles (record { made = made; left = left; group = in_kind a b states (moves ++ move ∷ []) }) v text
    → Comes roles (record { made = made; left = left; group = in_kind a b states moves }) v (item_text (move_line move) ++ text)
with_move roles made left a b states moves move v text h =
    let o = h.remains in
    let none : o.ss ≡ [] = o.states_first (omega (arith, length-append moves (move ∷ []))) in
    let along : (moves ++ move ∷ []) ++ o.ms ≡ moves ++ move ∷ o.ms = append_assoc moves (move ∷ []) o.ms in
    record {
      more = h.more;
      v_is = h.v_is;
      remains = record {
        ss = [];
        ms = move ∷ o.ms;
        rest = o.rest;
        more_is = rw (along, none) at o.more_is;
        whole = rw (along, none) at o.whole;
        over = o.over;
        states_first = λ some. refl;
        text_is = rw (o.text_is, none) (sym (append_assoc (move_text move) (flat_map move_text o.ms) _));
      };
    }

with_ended : (roles : List RoleParts) (made : List Structure) (left : List PairSpec) (a b : RoleParts) (states : List (ℕ × ℕ)) (moves : List Move) (v : List Structure) (text : List ℕ)
    → IsPairStructure a b states moves
    → Comes roles (record { made = made ++ record { states = states; moves = moves } ∷ []; left = left; group = among_kinds }) v text
    → Comes roles (record { made = made; left = left; group = in_kind a b states moves }) v (item_text end_line ++ text)
with_ended roles made left a b states moves v text whole h = record {
  more = record { states = states; moves = moves } ∷ h.more;
  v_is = h.v_is ∙ append_assoc made (record { states = states; moves = moves } ∷ []) h.more;
  remains = record {
    ss = [];
    ms = [];
    rest = h.more;
    more_is = rw (append-nil states, append-nil moves) refl;
    whole = rw (append-nil states, append-nil moves) whole;
    over = h.remains.0;
    states_first = λ some. refl;
    text_is = ap (λ t. item_text end_line ++ t) h.remains.1;
  };
}

before : (roles : List RoleParts) (made : List Structure) (left : List PairSpec) (group : Group) (item : Said) (v : List Structure) (text : List ℕ)
    → MayStand group left item → IsFree (BarsLine (record { made = made; left = left; group = group }) item) → EndsWhole item group
    → Comes roles (after_line roles (record { made = made; left = left; group = group }) item) v text
    → Comes roles (record { made = made; left = left; group = group }) v (item_text item ++ text)
before roles made left before_head head_line v text may free whole h = record { more = h.more; v_is = h.v_is; remains = (h.remains.0, ap (λ t. item_text head_line ++ t) h.remains.1) }
before roles made (kind ∷ left) among_kinds (kind_line name) v text may free whole h = opens roles made kind left name v text (same_name name kind.name (λ differ. free.free UnknownName (refl, differ))) h
before roles made [] among_kinds done_line v text may free whole h = record { more = []; v_is = rw h.remains.0 at h.v_is; remains = (tt, rw h.remains.1 (append-nil (item_text done_line))) }
before roles made left (in_kind a b states moves) (state_line p q) v text may free whole h = with_state roles made left a b states moves p q v text may free h
before roles made left (in_kind a b states moves) (move_line move) v text may free whole h = with_move roles made left a b states moves move v text h
before roles made left (in_kind a b states moves) end_line v text may free whole h = with_ended roles made left a b states moves v text whole h
before roles made left group item v text may free whole h = absurd may

line_is : (line : Line) (words : List (List ℕ)) (text : List ℕ) (lines : List Line) → line.is_ended ≡ true → words_of line.bytes ≡ words → text_of lines ≡ text → text_of (line ∷ lines) ≡ spaced words ++ 10 ∷ text
line_is line words text lines ended words_are e = rw (ended, e, sym words_are, one_line line.bytes) refl

item_before : (item : Said) (text : List ℕ) → spaced (words_for item) ++ 10 ∷ text ≡ item_text item ++ text
item_before item text = sym (append_assoc (spaced (words_for item)) (10 ∷ []) text)

-- what comes of lines that stand for structures
comes : (roles : List RoleParts) (s : State) (lines : List Line) (v : List Structure) → StandsFor (solutions roles) s lines v → Comes roles s v (text_of lines)
comes roles s [] v h = record { more = []; v_is = h.1 ∙ sym (append-nil s.made); remains = subst (λ g. Remains roles s.left g [] []) (sym h.0) (refl, refl) }
comes roles s (line ∷ lines) v (t, takes, more) =
    let later : Comes roles (after_line roles s takes.item) v (text_of lines) = subst (λ t. Comes roles t v (text_of lines)) takes.next (comes roles t lines v more) in
    let text = line_is line (words_for takes.item) (text_of lines) lines takes.may.ended takes.may.says.words_are refl ∙ item_before takes.item (text_of lines) in
    subst (λ text. Comes roles s v text) (sym text) (before roles s.made s.left s.group takes.item v (text_of lines) takes.may.may (blocks_stand s line takes.item takes.may takes.free) takes.whole later)

-- a text of a solution has structures over the roles of its kinds
pub text_over : (roles : List RoleParts) (kinds : List PairSpec) (bytes : List ℕ) (v : List Structure) → IsSolutionText roles kinds bytes v → AreOver roles kinds v
text_over roles kinds bytes v text = let c = comes roles (first_state kinds) (lines_of bytes) v text in rw (sym c.v_is) at c.remains.0

-- a solution has one text
pub one_text : (roles : List RoleParts) (kinds : List PairSpec) (bytes : List ℕ) (v : List Structure) → IsSolutionText roles kinds bytes v → bytes ≡ solution_text roles kinds v
one_text roles kinds bytes v text =
    let c = comes roles (first_state kinds) (lines_of bytes) v text in
    sym (text_of_lines bytes) ∙ c.remains.1 ∙ ap (solution_text roles kinds) (sym c.v_is)
