-- Words say one thing at most, and it is what is read.
use Rattle.std.proofs.Common.{ℕ, ◌≡◌, ◌⊎◌, inl, inr, true, false, ◌&&◌, List, [], ◌∷◌, Option, Some, None, refl, sym, ap, ◌∙◌, cond, codes, subst}
use Rattle.std.specs.Str.{bytes_eq}
use Rattle.std.proofs.lemmas.Slice.Eq.{bytes_eq-Decides}
use Rattle.ctl_text.specs.Item.{Said, head_line, role_line, local_line, start_line, set_line, arc_line, kind_line, require_line, end_line, process_line, edge_line, done_line, words_for, Says}
use Rattle.ctl_text.specs.Lines.{IsRequire}
use Rattle.ctl_form.specs.Form.{Form}
use Rattle.ctl_text.specs.declared.format.Format.TheVariants.{First, Second}
use Rattle.ctl_text.specs.State.{State, Group, before_head, among_roles, in_role, among_kinds, in_kind, among_processes, among_edges, after_done, MayStand}
use Rattle.ctl_text.specs.Cause.{IsClauseSpelled, MaySay}
use Rattle.ctl_text.specs.inside.ItemReading.{few_at, item_at}
use Rattle.ctl_text.specs.Required.{tokens_in}
use Rattle.formula_text.specs.Sets.{signs_over}
use Rattle.ctl_text.specs.Value.{Declared, atoms_at}
use Rattle.formula_text.proofs.Spelled.{spelled_once}

-- a line is read as itself, or requires a clause
abbrev ReadAgain : Said → Type 0
ReadAgain x = (item_at (words_for x) ≡ Some x) ⊎ ((words : List (List ℕ)) × (form : Form) × (x ≡ require_line words form))

pub read_again : (x : Said) → ReadAgain x
read_again (head_line First) = inl refl
read_again (head_line Second) = inl refl
read_again (role_line name) = inl refl
read_again (local_line name) = inl refl
read_again (start_line name) = inl refl
read_again (set_line name members) = inl refl
read_again (arc_line from to false) = inl refl
read_again (arc_line from to true) = inl refl
read_again (kind_line name a b) = inl refl
read_again (require_line words form) = inr (words, form, refl)
read_again end_line = inl refl
read_again (process_line name r None) = inl refl
read_again (process_line name r (Some start)) = inl refl
read_again (edge_line p q kind) = inl refl
read_again done_line = inl refl

require_unread : (words : List (List ℕ)) → item_at (codes "require" ∷ words) ≡ None
require_unread [] = refl
require_unread (a ∷ []) = refl
require_unread (a ∷ b ∷ []) = refl
require_unread (a ∷ b ∷ c ∷ []) = refl
require_unread (a ∷ b ∷ c ∷ d ∷ words) = refl

none-some : (x : Said) → ◌≡◌ {A = Option Said} None (Some x) → ⊥
none-some x e = cc

-- words that require a clause say nothing else
read_no_require : (ws words : List (List ℕ)) (x : Said) → ws ≡ words_for x → item_at (words_for x) ≡ Some x → ws ≡ codes "require" ∷ words → ⊥
read_no_require ws words x e again f = none-some x (sym (require_unread words) ∙ ap item_at (sym f ∙ e) ∙ again)

tail_same : (a b : List ℕ) (x y : List (List ℕ)) → a ∷ x ≡ b ∷ y → x ≡ y
tail_same a b x y e = cc

clause_once : (v : Declared) (g : Group) (words : List (List ℕ)) (c d : Form) → MayStand g (require_line words c) → IsClauseSpelled (require_line words c) v g → IsClauseSpelled (require_line words d) v g → c ≡ d
clause_once v (in_kind k) words c d may p q = spelled_once (signs_over (atoms_at v k.role_a) (atoms_at v k.role_b) (tokens_in words)) c d p q
clause_once v before_head words c d may p q = absurd may
clause_once v among_roles words c d may p q = absurd may
clause_once v (in_role r) words c d may p q = absurd may
clause_once v among_kinds words c d may p q = absurd may
clause_once v among_processes words c d may p q = absurd may
clause_once v among_edges words c d may p q = absurd may
clause_once v after_done words c d may p q = absurd may

require_once : (s : State) (ws x y : List (List ℕ)) (c d : Form) → MaySay s ws (require_line x c) → MaySay s ws (require_line y d) → ◌≡◌ {A = Said} (require_line x c) (require_line y d)
require_once s ws x y c d p q =
    let same : x ≡ y = tail_same (codes "require") (codes "require") x y (sym p.0.words_are ∙ q.0.words_are) in
    let q' : IsClauseSpelled (require_line x d) s.parts s.group = subst (λ z. IsClauseSpelled (require_line z d) s.parts s.group) (sym same) q.2 in
    let form_same = clause_once s.parts s.group x c d p.1 p.2 q' in
    ap (λ f. require_line x f) form_same ∙ ap (λ z. require_line z d) same

-- words say one thing at most that may stand there
pub says_once : (s : State) (ws : List (List ℕ)) (x y : Said) → MaySay s ws x → MaySay s ws y → x ≡ y
says_once s ws x y xs ys = elim (read_again x) [
  | inl p ↦ elim (read_again y) [
    | inl q ↦ (let h = sym p ∙ ap item_at (sym xs.0.words_are ∙ ys.0.words_are) ∙ q in cc)
    | inr (words, c, q) ↦ absurd (read_no_require ws words x xs.0.words_are p (ys.0.words_are ∙ ap words_for q))
  ]
  | inr (words, c, p) ↦ elim (read_again y) [
    | inl q ↦ absurd (read_no_require ws words y ys.0.words_are q (xs.0.words_are ∙ ap words_for p))
    | inr (others, d, q) ↦ p ∙ require_once s ws words others c d (subst (MaySay s ws) p xs) (subst (MaySay s ws) q ys) ∙ sym q
  ]
]

-- words that require no clause say nothing that is spelled by a formula
pub other_clause : (s : State) (ws : List (List ℕ)) (x : Said) → (IsRequire ws → ⊥) → Says ws x → IsClauseSpelled x s.parts s.group
other_clause s ws (head_line format) other says = tt
other_clause s ws (role_line name) other says = tt
other_clause s ws (local_line name) other says = tt
other_clause s ws (start_line name) other says = tt
other_clause s ws (set_line name members) other says = tt
other_clause s ws (arc_line from to free) other says = tt
other_clause s ws (kind_line name a b) other says = tt
other_clause s ws (require_line words form) other says = absurd (other (subst IsRequire (sym says.words_are) refl))
other_clause s ws end_line other says = tt
other_clause s ws (process_line name r start) other says = tt
other_clause s ws (edge_line p q kind) other says = tt
other_clause s ws done_line other says = tt

-- words that require nothing and are not read say nothing
pub unread_says : (ws : List (List ℕ)) (x : Said) → item_at ws ≡ None → (IsRequire ws → ⊥) → Says ws x → ⊥
unread_says ws x e none xs = elim (read_again x) [
  | inl p ↦ none-some x (sym e ∙ ap item_at xs.words_are ∙ p)
  | inr (words, c, p) ↦ none (rw (xs.words_are ∙ ap words_for p) refl)
]

-- where a word is tested
tried : {P : Type 0} (w k : List ℕ) (f x : Said) (rest : Option Said) → (w ≡ k → f ≡ x → P) → (rest ≡ Some x → P) → cond (bytes_eq w k) (Some f) rest ≡ Some x → P
tried {P} w k f x rest hit miss =
    elim (bytes_eq w k) as (λ t. (t ≡ true → w ≡ k) → cond t (Some f) rest ≡ Some x → P) [
      | true ↦ λ means e. hit (means refl) cc
      | false ↦ λ means e. miss e
    ] (bytes_eq-Decides w k).0

tried_two : {P : Type 0} (w k v l : List ℕ) (f x : Said) (rest : Option Said) → (w ≡ k → v ≡ l → f ≡ x → P) → (rest ≡ Some x → P) → cond (bytes_eq w k && bytes_eq v l) (Some f) rest ≡ Some x → P
tried_two {P} w k v l f x rest hit miss =
    elim (bytes_eq w k) as (λ t. (t ≡ true → w ≡ k) → cond (t && bytes_eq v l) (Some f) rest ≡ Some x → P) [
      | true ↦ λ means e. tried v l f x rest (hit (means refl)) miss e
      | false ↦ λ means e. miss e
    ] (bytes_eq-Decides w k).0

-- what is read is said by the words, but for the spelling of names
few_takes : (ws : List (List ℕ)) (x : Said) → few_at ws ≡ Some x → ws ≡ words_for x
few_takes [] x e = absurd (none-some x e)
few_takes (w ∷ []) x e =
    tried w (codes "end") end_line x _ (λ p q. rw p (ap words_for q))
    (tried w (codes "done") done_line x _ (λ p q. rw p (ap words_for q)) (λ n. absurd (none-some x n))) e
few_takes (w ∷ a ∷ []) x e =
    tried_two w (codes "pairs") a (codes "1") (head_line First) x _ (λ p p2 q. rw (p, p2) (ap words_for q))
    (tried_two w (codes "pairs") a (codes "2") (head_line Second) x _ (λ p p2 q. rw (p, p2) (ap words_for q))
    (tried w (codes "role") (role_line a) x _ (λ p q. rw p (ap words_for q))
    (tried w (codes "local") (local_line a) x _ (λ p q. rw p (ap words_for q))
    (tried w (codes "start") (start_line a) x _ (λ p q. rw p (ap words_for q)) (λ n. absurd (none-some x n)))))) e
few_takes (w ∷ a ∷ b ∷ []) x e =
    tried w (codes "arc") (arc_line a b false) x _ (λ p q. rw p (ap words_for q))
    (tried w (codes "process") (process_line a b None) x _ (λ p q. rw p (ap words_for q)) (λ n. absurd (none-some x n))) e
few_takes (w ∷ a ∷ b ∷ c ∷ []) x e =
    tried_two w (codes "arc") c (codes "free") (arc_line a b true) x _ (λ p p2 q. rw (p, p2) (ap words_for q))
    (tried w (codes "kind") (kind_line a b c) x _ (λ p q. rw p (ap words_for q))
    (tried w (codes "process") (process_line a b (Some c)) x _ (λ p q. rw p (ap words_for q))
    (tried w (codes "edge") (edge_line a b c) x _ (λ p q. rw p (ap words_for q)) (λ n. absurd (none-some x n))))) e
few_takes (w ∷ a ∷ b ∷ c ∷ d ∷ ws) x e = absurd (none-some x e)

pub item_takes : (ws : List (List ℕ)) (x : Said) → item_at ws ≡ Some x → ws ≡ words_for x
item_takes [] x e = few_takes [] x e
item_takes (w ∷ []) x e = few_takes (w ∷ []) x e
item_takes (w ∷ a ∷ ws) x e = tried w (codes "set") (set_line a ws) x (few_at (w ∷ a ∷ ws)) (λ p q. rw p (ap words_for q)) (few_takes (w ∷ a ∷ ws) x) e
