-- What stands against the shape of a star, and its names.
use Rattle.std.proofs.Common.{ℕ, ◌≡◌, ◌<◌, ◌≤◌, ◌+◌, List, [], ◌∷◌, ◌++◌, All, Contains, length, get_or, map, take, take_all, sym, ap, ◌∙◌, subst, arith}
use Rattle.std.proofs.lemmas.List.{get_or-map, length-map, map-append, take_more}
use Rattle.std.proofs.lemmas.List.Elements.{All-push}
use Rattle.pair_structure.specs.declared.side.Side.{Side}
use Rattle.interconnection.specs.Shape.{ShapeParts}
use Rattle.conjunctive_compose.specs.System.{SystemParts}
use Rattle.ctl_text.specs.Value.{SpecParts, kind_names, number_in}
use Rattle.text_cause.specs.declared.cause.TextCause.TheVariants.{NotRising, RoleMismatch, Twice, UnknownName}
use Rattle.text_cause.specs.declared.line_fault.LineFault.{LineFault}
use Rattle.text_cause.specs.declared.line_fault.LineFault.TheVariants.{Bad, Memory}
use Rattle.text_cause.specs.Answers.{IsBadBy}
use Rattle.text_cause.specs.Cause.{IsFree, Or, Row}
use Rattle.text_cause.proofs.Lowest.{or_free, or_right, row_free}
use Rattle.waitfor_check.specs.Accepted.{HasShape}
use Rattle.waitfor_check.specs.declared.star.Star.{Star}
use Rattle.certificate_text.specs.Cause.{AreKnown, BarsShape, BarsStar, HasKindNamed, LabelsRise, MatchRole}
use Rattle.certificate_text.specs.Item.{NamedLabel}
use Rattle.certificate_text.specs.State.{label_numbered, shape_named}
use Rattle.certificate_text.specs.declared.item.Label.{Label}
use Rattle.certificate_text.specs.inside.Saying.{named, names_of}

-- no rule is broken
pub shape_free : (sys : SystemParts) (made : List Star) (shape : ShapeParts) → (LabelsRise shape × HasShape made shape → ⊥) → MatchRole sys shape → LabelsRise shape → IsFree (BarsShape sys made shape)
shape_free sys made shape new match rise =
    or_free (Row Twice (LabelsRise shape × HasShape made shape)) (Or (Row RoleMismatch (MatchRole sys shape → ⊥)) (Row NotRising (LabelsRise shape → ⊥))) (row_free Twice _ new)
    (or_free (Row RoleMismatch (MatchRole sys shape → ⊥)) (Row NotRising (LabelsRise shape → ⊥)) (row_free RoleMismatch _ (λ no. no match)) (row_free NotRising _ (λ no. no rise)))

module _ (v : SpecParts) (sys : SystemParts) (made : List Star) (role : List ℕ) (labels : List NamedLabel) (known : AreKnown v role labels) where
  -- where the names are known, what stands against the shape stands against the star
  pub star_free : (shape : ShapeParts) → shape ≡ shape_named v role labels → IsFree (BarsShape sys made shape) → IsFree (BarsStar v sys made role labels)
  star_free shape is free =
      or_free (Row UnknownName (AreKnown v role labels → ⊥)) (BarsShape sys made (shape_named v role labels)) (row_free UnknownName _ (λ no. no known)) (subst (λ (s : ShapeParts). IsFree (BarsShape sys made s)) is free)

  star_bad_at : (fault : LineFault) → IsBadBy (BarsShape sys made (shape_named v role labels)) fault → IsBadBy (BarsStar v sys made role labels) fault
  star_bad_at Memory bad = tt
  star_bad_at (Bad cause) bad = or_right (Row UnknownName (AreKnown v role labels → ⊥)) (BarsShape sys made (shape_named v role labels)) cause (row_free UnknownName _ (λ no. no known)) bad

  pub star_bad : (shape : ShapeParts) (fault : LineFault) → shape ≡ shape_named v role labels → IsBadBy (BarsShape sys made shape) fault → IsBadBy (BarsStar v sys made role labels) fault
  star_bad shape fault is bad = star_bad_at fault (subst (λ (s : ShapeParts). IsBadBy (BarsShape sys made s) fault) is bad)

-- of known labels each has a kind
pub label_known : (v : SpecParts) (labels : List Label) (n : ℕ) (d : Label) → n < length labels → All (HasKindNamed v) (names_of labels) → Contains (kind_names v.kinds) (get_or labels n d).kind.now
label_known v labels n d lt all =
    subst (λ (l : NamedLabel). Contains (kind_names v.kinds) l.0) (get_or-map named labels n d (named d) lt) (all n (named d) (omega (arith, lt, length-map labels named)))

names_more : (labels : List Label) (n : ℕ) (d : Label) → n < length labels → names_of (take (n + 1) labels) ≡ names_of (take n labels) ++ named (get_or labels n d) ∷ []
names_more labels n d lt = ap names_of (take_more labels n d lt) ∙ map-append named (take n labels) (get_or labels n d ∷ [])

-- one label more
pub leaves_more : (v : SpecParts) (labels : List Label) (n : ℕ) (d : Label) (old new : List (ℕ × Side)) (kind : ℕ) → n < length labels → old ≡ map (label_numbered v) (names_of (take n labels))
    → new ≡ old ++ (kind, (get_or labels n d).side) ∷ [] → kind ≡ number_in (kind_names v.kinds) (get_or labels n d).kind.now → new ≡ map (label_numbered v) (names_of (take (n + 1) labels))
leaves_more v labels n d old new kind lt is push number =
    push ∙ ap (λ leaves. leaves ++ (kind, (get_or labels n d).side) ∷ []) is ∙ ap (λ k. map (label_numbered v) (names_of (take n labels)) ++ (k, (get_or labels n d).side) ∷ []) number
    ∙ sym (map-append (label_numbered v) (names_of (take n labels)) (named (get_or labels n d) ∷ [])) ∙ ap (λ ls. map (label_numbered v) ls) (sym (names_more labels n d lt))

pub known_more : (v : SpecParts) (labels : List Label) (n : ℕ) (d : Label) → n < length labels → All (HasKindNamed v) (names_of (take n labels)) → Contains (kind_names v.kinds) (get_or labels n d).kind.now → All (HasKindNamed v) (names_of (take (n + 1) labels))
known_more v labels n d lt all one = subst (All (HasKindNamed v)) (sym (names_more labels n d lt)) (All-push (HasKindNamed v) (names_of (take n labels)) (named (get_or labels n d)) all one)

pub known_all : (v : SpecParts) (labels : List Label) (n : ℕ) → length labels ≤ n → All (HasKindNamed v) (names_of (take n labels)) → All (HasKindNamed v) (names_of labels)
known_all v labels n all known = subst (λ ls. All (HasKindNamed v) (names_of ls)) (take_all n labels all) known
