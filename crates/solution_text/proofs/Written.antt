-- What is written of a solution is a text of it.
use Rattle.std.proofs.Common.{ℕ, suc, ◌≡◌, ◌<◌, ◌≤◌, ◌^◌, inl, inr, true, List, [], ◌∷◌, ◌++◌, All, Contains, length, get_or, refl, sym, subst, arith, append_assoc, append-nil, codes}
use Rattle.std.specs.List.{flat_map}
use Rattle.std.specs.Char.{is_ascii_alphabetic}
use Rattle.std.proofs.lemmas.Bool.Decides.{nat_tests}
use Rattle.std.proofs.lemmas.List.{get_or_default}
use Rattle.pair_structure.specs.Name.{IsName, is_name_byte}
use Rattle.pair_structure.specs.declared.side.Side.{Side}
use Rattle.pair_structure.specs.declared.side.Side.TheVariants.{A, B}
use Rattle.pair_structure.specs.declared.side.Move.{Move}
use Rattle.pair_structure.specs.Role.{RoleParts}
use Rattle.pair_structure.specs.Structure.{Structure, IsPairStructure, IsLabel, IsLawfulMove}
use Rattle.ctl_form.specs.declared.pair_spec.PairSpec.{PairSpec}
use Rattle.ctl_form.specs.Kind.{role_at}
use Rattle.text_cause.specs.declared.cause.TextCause.{TextCause}
use Rattle.text_cause.specs.Cause.{IsFree}
use Rattle.ctl_text.specs.FormulaText.{Names, name_at}
use Rattle.ctl_text.specs.SoundValue.{IsNamedRole, IsNamedKind, IsSoundValue}
use Rattle.ctl_text.specs.Value.{SpecParts}
use Rattle.ctl_text.proofs.KindsAgain.{role_named}
use Rattle.ctl_text.proofs.Named.{number_again}
use Rattle.ctl_text.proofs.RolesAgain.{use_free}
use Rattle.strict_text.specs.Lines.{Line, lines_of}
use Rattle.strict_text.specs.Spaced.{spaced, IsWord, AreWords}
use Rattle.strict_text.proofs.NumberLaws.{decimal_word}
use Rattle.strict_text.proofs.WordLaws.{words_of_line, line_of_words, strict_words, word_of_bytes}
use Rattle.solution_text.specs.Item.{Said, head_line, kind_line, state_line, move_line, end_line, done_line, side_word, words_for, IsSpelled}
use Rattle.solution_text.specs.State.{among_kinds, in_kind, State, first_state, MayStand, after_line}
use Rattle.solution_text.specs.Cause.{LabelBlocks, BarsLine, MaySay, EndsWhole}
use Rattle.solution_text.specs.Laws.{IsNumbered}
use Rattle.text_cause.specs.Grammar.{StandsFor}
use Rattle.solution_text.specs.Text.{solutions, IsSolutionText}
use Rattle.solution_text.specs.SolutionText.{item_text, state_text, move_text, kind_text, kinds_text, solution_text, AreOver}
use Rattle.solution_text.proofs.Blocked.{pair_free}
use Rattle.solution_text.proofs.Judged.{said_takes}

-- names and numbers are words
name_byte : (b : ℕ) → is_name_byte b ≡ true → (33 ≤ b) × (b ≤ 126)
name_byte b e = grind (arith, nat_tests)

letter : (b : ℕ) → is_ascii_alphabetic b ≡ true → (33 ≤ b) × (b ≤ 126)
letter b e = grind (arith, nat_tests)

rest_word : (rest : List ℕ) → ((i d : ℕ) → i < length rest → is_name_byte (get_or rest i d) ≡ true) → IsWord rest
rest_word [] h = tt
rest_word (b ∷ rest) h = let r = name_byte b (h 0 0 (omega arith)) in (r.0, r.1, rest_word rest (λ i d lt. h (suc i) d (omega arith)))

name_word : (name : List ℕ) → IsName name → IsWord name
name_word [] h = absurd h
name_word (b ∷ rest) h = let r = letter b h.0 in (r.0, r.1, rest_word rest h.2)

side_is_word : (side : Side) → IsWord (side_word side)
side_is_word A = word_of_bytes (codes "a") refl
side_is_word B = word_of_bytes (codes "b") refl

item_words : (item : Said) → IsSpelled item → AreWords (words_for item)
item_words head_line h = (word_of_bytes (codes "solution") refl, word_of_bytes (codes "1") refl)
item_words (kind_line name) h = (word_of_bytes (codes "kind") refl, name_word name h)
item_words (state_line p q) h = (word_of_bytes (codes "state") refl, (name_word p h.0, name_word q h.1))
item_words (move_line move) h = (word_of_bytes (codes "move") refl, (decimal_word move.from h.from, (side_is_word move.side, decimal_word move.to h.to)))
item_words end_line h = word_of_bytes (codes "end") refl
item_words done_line h = word_of_bytes (codes "done") refl

-- a written line is taken, if nothing stands against what it says
line_stands : (roles : List RoleParts) (s : State) (item : Said) (rest : List ℕ) (v : List Structure) → IsSpelled item → MayStand s.group s.left item → IsFree (BarsLine s item) → EndsWhole item s.group
    → StandsFor (solutions roles) (after_line roles s item) (lines_of rest) v → StandsFor (solutions roles) s (lines_of (item_text item ++ rest)) v
line_stands roles s item rest v spelled may free whole more =
    let words = item_words item spelled in
    let line : Line = record { bytes = spaced (words_for item); is_ended = true } in
    let says : MaySay s line item = record { ended = refl; says = record { words_are = words_of_line (words_for item) words; spelled = spelled }; may = may } in
    let takes = said_takes roles s (after_line roles s item) line item (strict_words (words_for item) words) says (record { free = free; whole = whole; next = refl }) in
    rw (line_of_words (words_for item) rest words) (after_line roles s item, takes, more)

-- the open kind, with these states and moves
abbrev Open : List Structure → List PairSpec → RoleParts → RoleParts → List (ℕ × ℕ) → List Move → State
Open made left a b states moves = record { made = made; left = left; group = in_kind a b states moves }

named_local : (names : Names) (p : ℕ) → All IsName names → p < length names → IsName (name_at names p)
named_local names p each lt = each p [] lt

local_there : (names : Names) (p : ℕ) → p < length names → Contains names (name_at names p)
local_there names p lt = (p, lt, get_or_default names p (name_at names p) [] lt)

label_free : (a b : RoleParts) (label : ℕ × ℕ) → IsLabel a b label → (cause : TextCause) → LabelBlocks a b (name_at a.locals label.0) (name_at b.locals label.1) cause → ⊥
label_free a b label is cause (inl h) = use_free a.locals (name_at a.locals label.0) (local_there a.locals label.0 is.0) cause h
label_free a b label is cause (inr h) = use_free b.locals (name_at b.locals label.1) (local_there b.locals label.1 is.1) cause h

states_stand : (roles : List RoleParts) (made : List Structure) (left : List PairSpec) (a b : RoleParts) (states back : List (ℕ × ℕ)) (rest : List ℕ) (v : List Structure) → IsNamedRole a → IsNamedRole b → All (IsLabel a b) back
    → StandsFor (solutions roles) (Open made left a b (states ++ back) []) (lines_of rest) v → StandsFor (solutions roles) (Open made left a b states []) (lines_of (flat_map (state_text a.locals b.locals) back ++ rest)) v
states_stand roles made left a b states [] rest v role_a role_b labels more = rw (append-nil states) at more
states_stand roles made left a b states (label ∷ back) rest v role_a role_b labels more =
    let is : IsLabel a b label = labels 0 label (omega arith) in
    let along : (states ++ label ∷ []) ++ back ≡ states ++ label ∷ back = append_assoc states (label ∷ []) back in
    let later = states_stand roles made left a b (states ++ label ∷ []) back rest v role_a role_b (λ k d lt. labels (suc k) d (omega arith)) (rw (sym along) at more) in
    let p = number_again a.locals label.0 role_a.role.names_differ is.0 in
    let q = number_again b.locals label.1 role_b.role.names_differ is.1 in
    subst (λ text. StandsFor (solutions roles) (Open made left a b states []) (lines_of text) v) (sym (append_assoc (state_text a.locals b.locals label) (flat_map (state_text a.locals b.locals) back) rest))
    (line_stands roles (Open made left a b states []) (state_line (name_at a.locals label.0) (name_at b.locals label.1)) (flat_map (state_text a.locals b.locals) back ++ rest) v (named_local a.locals label.0 role_a.locals is.0, named_local b.locals label.1 role_b.locals is.1) refl (record { free = label_free a b label is }) tt
    (subst (λ x. StandsFor (solutions roles) (Open made left a b (states ++ x ∷ []) []) (lines_of (flat_map (state_text a.locals b.locals) back ++ rest)) v) (pair_same label.0 label.1 _ _ (sym p) (sym q)) later))
  where
    pair_same : (m n k l : ℕ) → m ≡ k → n ≡ l → ◌≡◌ {A = ℕ × ℕ} (m, n) (k, l)
    pair_same m n k l e f = rw (e, f) refl

moves_stand : (roles : List RoleParts) (made : List Structure) (left : List PairSpec) (a b : RoleParts) (states : List (ℕ × ℕ)) (moves back : List Move) (rest : List ℕ) (v : List Structure) → length states ≤ 2 ^ 64 → All (IsLawfulMove a b states) back
    → StandsFor (solutions roles) (Open made left a b states (moves ++ back)) (lines_of rest) v → StandsFor (solutions roles) (Open made left a b states moves) (lines_of (flat_map move_text back ++ rest)) v
moves_stand roles made left a b states moves [] rest v few lawful more = rw (append-nil moves) at more
moves_stand roles made left a b states moves (move ∷ back) rest v few lawful more =
    let is : IsLawfulMove a b states move = lawful 0 move (omega arith) in
    let from = is.from in
    let to = is.to in
    let along : (moves ++ move ∷ []) ++ back ≡ moves ++ move ∷ back = append_assoc moves (move ∷ []) back in
    let later = moves_stand roles made left a b states (moves ++ move ∷ []) back rest v few (λ k d lt. lawful (suc k) d (omega arith)) (rw (sym along) at more) in
    subst (λ text. StandsFor (solutions roles) (Open made left a b states moves) (lines_of text) v) (sym (append_assoc (move_text move) (flat_map move_text back) rest))
    (line_stands roles (Open made left a b states moves) (move_line move) (flat_map move_text back ++ rest) v (record { from = omega arith; to = omega arith }) tt (record { free = λ cause h. h }) tt later)

kind_stands : (roles : List RoleParts) (made : List Structure) (kind : PairSpec) (left : List PairSpec) (m : Structure) (rest : List ℕ) (v : List Structure) → IsName kind.name → IsNamedRole (role_at roles kind.role_a) → IsNamedRole (role_at roles kind.role_b) → IsNumbered m
    → IsPairStructure (role_at roles kind.role_a) (role_at roles kind.role_b) m.states m.moves
    → StandsFor (solutions roles) (record { made = made ++ m ∷ []; left = left; group = among_kinds }) (lines_of rest) v
    → StandsFor (solutions roles) (record { made = made; left = kind ∷ left; group = among_kinds }) (lines_of (kind_text kind.name (role_at roles kind.role_a) (role_at roles kind.role_b) m ++ rest)) v
kind_stands roles made kind left m rest v name role_a role_b few whole more =
    let a = role_at roles kind.role_a in
    let b = role_at roles kind.role_b in
    let ended = line_stands roles (Open made left a b m.states m.moves) end_line rest v tt tt (pair_free a b m.states m.moves whole) whole more in
    let moved = moves_stand roles made left a b m.states [] m.moves (item_text end_line ++ rest) v few whole.lawful ended in
    let placed = states_stand roles made left a b [] m.states (flat_map move_text m.moves ++ (item_text end_line ++ rest)) v role_a role_b whole.labels moved in
    let opened = line_stands roles (record { made = made; left = kind ∷ left; group = among_kinds }) (kind_line kind.name) (flat_map (state_text a.locals b.locals) m.states ++ (flat_map move_text m.moves ++ (item_text end_line ++ rest))) v name tt (record { free = λ cause h. h.1 refl }) tt placed in
    subst (λ text. StandsFor (solutions roles) (record { made = made; left = kind ∷ left; group = among_kinds }) (lines_of text) v) (opened_text (item_text (kind_line kind.name)) (flat_map (state_text a.locals b.locals) m.states) (flat_map move_text m.moves) (item_text end_line) rest) opened
  where
    opened_text : (k ss ms e rest : List ℕ) → k ++ (ss ++ (ms ++ (e ++ rest))) ≡ (k ++ ((ss ++ ms) ++ e)) ++ rest
    opened_text k ss ms e rest = simp append_assoc refl

kinds_stand : (roles : List RoleParts) (made : List Structure) (kinds : List PairSpec) (structures : List Structure) (rest : List ℕ) (v : List Structure) → All IsNamedRole roles → All (IsNamedKind roles) kinds → AreOver roles kinds structures → All IsNumbered structures
    → StandsFor (solutions roles) (record { made = made ++ structures; left = []; group = among_kinds }) (lines_of rest) v
    → StandsFor (solutions roles) (record { made = made; left = kinds; group = among_kinds }) (lines_of (kinds_text roles kinds structures ++ rest)) v
kinds_stand roles made [] [] rest v named kind_named over few more = rw (append-nil made) at more
kinds_stand roles made [] (m ∷ structures) rest v named kind_named over few more = absurd over
kinds_stand roles made (kind ∷ kinds) [] rest v named kind_named over few more = absurd over
kinds_stand roles made (kind ∷ kinds) (m ∷ structures) rest v named kind_named over few more =
    let k : IsNamedKind roles kind = kind_named 0 kind (omega arith) in
    let few_states : IsNumbered m = few 0 m (omega arith) in
    let along : (made ++ m ∷ []) ++ structures ≡ made ++ m ∷ structures = append_assoc made (m ∷ []) structures in
    let later = kinds_stand roles (made ++ m ∷ []) kinds structures rest v named (λ n d lt. kind_named (suc n) d (omega arith)) over.1 (λ n d lt. few (suc n) d (omega arith)) (rw (sym along) at more) in
    subst (λ text. StandsFor (solutions roles) (record { made = made; left = kind ∷ kinds; group = among_kinds }) (lines_of text) v) (sym (append_assoc (kind_text kind.name (role_at roles kind.role_a) (role_at roles kind.role_b) m) (kinds_text roles kinds structures) rest))
    (kind_stands roles made kind kinds m (kinds_text roles kinds structures ++ rest) v k.name (role_named roles kind.role_a named k.role_a) (role_named roles kind.role_b named k.role_b) few_states over.0 later)

-- the one text of structures over the roles of their kinds is a text of them
pub written_is_text : (v : SpecParts) (structures : List Structure) → IsSoundValue v → AreOver v.roles v.kinds structures → All IsNumbered structures → IsSolutionText v.roles v.kinds (solution_text v.roles v.kinds structures) structures
written_is_text v structures sound over few =
    let done = line_stands v.roles (record { made = structures; left = []; group = among_kinds }) done_line [] structures tt tt (record { free = λ cause h. h }) tt (refl, refl) in
    let kinds = kinds_stand v.roles [] v.kinds structures (item_text done_line) structures sound.roles sound.kinds over few (subst (λ text. StandsFor (solutions v.roles) (record { made = structures; left = []; group = among_kinds }) (lines_of text) structures) (append-nil (item_text done_line)) done) in
    line_stands v.roles (first_state v.kinds) head_line (kinds_text v.roles v.kinds structures ++ item_text done_line) structures tt tt (record { free = λ cause h. h }) tt kinds
