-- A clause of an open kind, from what its words spell.
use Rattle.std.proofs.Common.{ℕ, ◌≡◌, ◌<◌, List, ◌∷◌, inl, inr, codes, refl, ap, subst, arith}
use Rattle.pair_structure.specs.Parts.{role_at}
use Rattle.formula_text.specs.Sets.{Atoms, SetParts}
use Rattle.ctl_form.specs.declared.pair_spec.PairSpec.{PairSpec}
use Rattle.ctl_form.specs.Form.{Form}
use Rattle.ctl_text.specs.Required.{tokens_in, AreKnownOver, SpellsOver, IsUnspelled}
use Rattle.text_cause.specs.declared.cause.TextCause.{TextCause}
use Rattle.text_cause.specs.declared.cause.TextCause.TheVariants.{UnknownName}
use Rattle.formula_text.specs.declared.formula_fault.FormulaFault.TheVariants.{Unknown}
use Rattle.formula_text.specs.Long.{IsLong}
use Rattle.formula_text.specs.Tree.{FaultStands}
use Rattle.ctl_text.specs.Item.{Said, require_line, end_line}
use Rattle.ctl_text.specs.Value.{Declared, atoms_at, sets_at}
use Rattle.ctl_text.specs.State.{State, in_kind}
use Rattle.text_cause.specs.Cause.{IsLowest, cause_no}
use Rattle.ctl_text.specs.Cause.{BarsLine, MaySay, WordsStand}
use Rattle.text_cause.specs.Answers.{IsBadBy}
use Rattle.ctl_text.specs.inside.Judged.{IsClauseOf, IsSpelledOver, SpellingStands}
use Rattle.text_cause.specs.declared.line_fault.LineFault.{LineFault}
use Rattle.text_cause.specs.declared.line_fault.LineFault.TheVariants.{Bad, Memory}
use Rattle.ctl_text.proofs.ByCause.{line_of_cause}
use Rattle.ctl_text.proofs.Judged.{words_free}

abbrev OpenKind : Declared → PairSpec → State
OpenKind v k = record { parts = v; group = in_kind k }

pub clause_made : (v : Declared) (k : PairSpec) (a b : Atoms) (words : List (List ℕ)) (form : Form) → a ≡ atoms_at v k.role_a → b ≡ atoms_at v k.role_b → IsSpelledOver a b (tokens_in words) form → IsClauseOf (record { parts = v; group = in_kind k }) words form
clause_made v k a b words form a_is b_is h =
    let here : IsSpelledOver (atoms_at v k.role_a) (atoms_at v k.role_b) (tokens_in words) form = subst (λ x. IsSpelledOver x (atoms_at v k.role_b) (tokens_in words) form) a_is (subst (λ y. IsSpelledOver a y (tokens_in words) form) b_is h) in
    let may : MaySay (OpenKind v k) (codes "require" ∷ words) (require_line words form) = (record { words_are = refl; spelled = tt }, tt, here.spells) in record {
      may = may;
      free = words_free (OpenKind v k) (codes "require" ∷ words) (require_line words form) may (λ long. here.short long.1) (record { free = λ cause stands. (line_of_cause (OpenKind v k) (require_line words form) cause stands).1 here.known });
    }

unknown_below : (a b : Atoms) (tokens : List (List ℕ)) (form : Form) → (IsLong a.sets b.sets tokens → ⊥) → SpellsOver a b tokens form → (other : TextCause) → cause_no other < 5 → SpellingStands a b tokens other → ⊥
unknown_below a b tokens form short spells other lt (inl h) = short h.1
unknown_below a b tokens form short spells other lt (inr (inl h)) = h.1 form spells
unknown_below a b tokens form short spells other lt (inr (inr (read, read_spells, blocks))) = let e : cause_no other ≡ cause_no UnknownName = ap cause_no blocks.0 in omega arith

-- an unknown name in what is spelled
pub unknown_lowest : (a b : Atoms) (tokens : List (List ℕ)) → (IsLong a.sets b.sets tokens → ⊥) → FaultStands a b tokens Unknown → IsLowest (SpellingStands a b tokens) UnknownName
unknown_lowest a b tokens short fault = record {
  stands = inr (inr (fault.0.0, fault.0.1, (refl, fault.1)));
  lowest = unknown_below a b tokens fault.0.0 short fault.0.1;
}

-- what equal tokens spell
pub spelled_along : (a b : Atoms) (us ts : List (List ℕ)) (form : Form) → us ≡ ts → IsSpelledOver a b us form → IsSpelledOver a b ts form
spelled_along a b us ts form same h = subst (λ ts. IsSpelledOver a b ts form) same h

-- what the atoms of side a, and of side b, may name
abbrev AtomsA : Declared → PairSpec → Atoms
AtomsA v k = atoms_at v k.role_a

abbrev AtomsB : Declared → PairSpec → Atoms
AtomsB v k = atoms_at v k.role_b

abbrev Clause : List (List ℕ) → List (List ℕ)
Clause words = codes "require" ∷ words

same_words : (us words : List (List ℕ)) → Clause words ≡ Clause us → us ≡ words
same_words us words e = cc

-- what may be said of a clause's words is that clause
said_unspelled : (v : Declared) (k : PairSpec) (words : List (List ℕ)) → IsUnspelled (AtomsA v k) (AtomsB v k) (tokens_in words) → (item : Said) → MaySay (OpenKind v k) (Clause words) item → ⊥
said_unspelled v k words none (require_line us form) may = none form (subst (λ ws. SpellsOver (AtomsA v k) (AtomsB v k) (tokens_in ws) form) (same_words us words may.0.words_are) may.2)
said_unspelled v k words none end_line may = let e = may.0.words_are in cc
said_unspelled v k words none item may = may.1

to_words : (v : Declared) (k : PairSpec) (words : List (List ℕ)) (cause : TextCause) → SpellingStands (AtomsA v k) (AtomsB v k) (tokens_in words) cause → WordsStand (OpenKind v k) (Clause words) cause
to_words v k words cause (inl h) = inr (inl (h.0, (refl, h.1)))
to_words v k words cause (inr (inl h)) = inr (inr (inl (h.0, said_unspelled v k words h.1)))
to_words v k words cause (inr (inr (form, spells, blocks))) = inr (inr (inr (require_line words form, (record { words_are = refl; spelled = tt }, tt, spells), inl blocks)))

blocked_clause : (v : Declared) (k : PairSpec) (words : List (List ℕ)) (cause : TextCause) (item : Said) → MaySay (OpenKind v k) (Clause words) item → BarsLine (OpenKind v k) item cause → SpellingStands (AtomsA v k) (AtomsB v k) (tokens_in words) cause
blocked_clause v k words cause (require_line us form) may blocks =
    let same = same_words us words may.0.words_are in
    inr (inr (form, subst (λ ws. SpellsOver (AtomsA v k) (AtomsB v k) (tokens_in ws) form) same may.2, subst (λ ws. (cause ≡ UnknownName) × (AreKnownOver (AtomsA v k) (AtomsB v k) (tokens_in ws) → ⊥)) same (line_of_cause (OpenKind v k) (require_line us form) cause blocks)))
blocked_clause v k words cause end_line may blocks = absurd (let e = may.0.words_are in cc)
blocked_clause v k words cause item may blocks = absurd may.1

from_words : (v : Declared) (k : PairSpec) (words : List (List ℕ)) (cause : TextCause) → WordsStand (OpenKind v k) (Clause words) cause → SpellingStands (AtomsA v k) (AtomsB v k) (tokens_in words) cause
from_words v k words cause (inl h) = absurd (let e = h.1.first in cc)
from_words v k words cause (inr (inl h)) = inl (h.0, h.1.1)
from_words v k words cause (inr (inr (inl h))) = inr (inl (h.0, λ form spells. h.1 (require_line words form) (record { words_are = refl; spelled = tt }, tt, spells)))
from_words v k words cause (inr (inr (inr (item, may, blocks)))) = blocked_clause v k words cause item may blocks

-- what stands against the words of a clause of the open kind
pub clause_refused : (v : Declared) (k : PairSpec) (a b : Atoms) (words : List (List ℕ)) (fault : LineFault) → a ≡ atoms_at v k.role_a → b ≡ atoms_at v k.role_b
    → IsBadBy (SpellingStands a b (tokens_in words)) fault → IsBadBy (WordsStand (record { parts = v; group = in_kind k }) (codes "require" ∷ words)) fault
clause_refused v k a b words Memory a_is b_is bad = tt
clause_refused v k a b words (Bad cause) a_is b_is bad =
    let least : IsLowest (SpellingStands (AtomsA v k) (AtomsB v k) (tokens_in words)) cause = subst (λ x. IsLowest (SpellingStands x (AtomsB v k) (tokens_in words)) cause) a_is (subst (λ y. IsLowest (SpellingStands a y (tokens_in words)) cause) b_is bad) in
    record { stands = to_words v k words cause least.stands; lowest = λ other lt h. least.lowest other lt (from_words v k words other h) }

-- local states and sets that are those of a role are what its atoms may name
pub atoms_are : (v : Declared) (role : ℕ) (locals : List (List ℕ)) (sets : List SetParts) → locals ≡ (role_at v.roles role).locals → sets ≡ sets_at v.sets role → ◌≡◌ {A = Atoms} (record { locals = locals; sets = sets }) (atoms_at v role)
atoms_are v role locals sets locals_are sets_are = rw (locals_are, sets_are) refl
