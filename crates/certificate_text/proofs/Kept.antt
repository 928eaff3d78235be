-- Stars that are taken fit the system.
use Rattle.std.proofs.Common.{ℕ, ◌≡◌, ◌≢◌, ◌<◌, ◌+◌, ◌-◌, inl, inr, List, [], ◌∷◌, ◌++◌, length, get_or, refl, sym, ap, ◌∙◌, subst, arith, length-append}
use Rattle.std.specs.Ordering.{nat_cmp}
use Rattle.std.specs.Cmp.Lexicographic.{slice_cmp}
use Rattle.std.proofs.lemmas.Bool.{cases_lt}
use Rattle.std.proofs.lemmas.Grind.{common_steps}
use Rattle.std.proofs.lemmas.List.{length-map, get_or_default}
use Rattle.std.proofs.lemmas.List.Elements.{All-nil, All-push}
use Rattle.std.proofs.lemmas.List.Quantifiers.{all_pairs_push}
use Rattle.pair_structure.specs.Role.{RoleParts}
use Rattle.pair_structure.specs.Sides.{local_of}
use Rattle.interconnection.specs.Network.{NetworkParts, ends_of}
use Rattle.interconnection.specs.Shape.{ShapeParts, rank}
use Rattle.conjunctive_compose.specs.System.{SystemParts}
use Rattle.ctl_text.specs.Value.{SpecParts, network_of, number_in, role_names}
use Rattle.ctl_text.proofs.Named.{number_within}
use Rattle.text_cause.specs.declared.cause.TextCause.TheVariants.{Disagree, NotRising, RoleMismatch, Twice, UnknownName}
use Rattle.text_cause.specs.Cause.{IsFree}
use Rattle.text_cause.specs.Grammar.{StandsFor}
use Rattle.strict_text.specs.Lines.{Line, lines_of}
use Rattle.waitfor_check.specs.Accepted.{HasShape}
use Rattle.waitfor_check.specs.Fitting.{Fits, IsLower, Rise, ShapeFits, ShapesDiffer, StarFits}
use Rattle.waitfor_check.specs.Star.{IsStarState}
use Rattle.waitfor_check.specs.declared.star.Star.{Star}
use Rattle.certificate_text.specs.Item.{NamedLabel, Said, head_line, star_line, member_line, end_line, done_line, IsSpelled, IsSpelledStar}
use Rattle.certificate_text.specs.State.{Group, before_head, among_stars, in_star, after_done, State, first_state, MayStand, after_line, label_numbered, shape_named, with_ended}
use Rattle.certificate_text.specs.Cause.{AreKnown, BarsLine, BarsMember, BarsShape, BarsStar, IsAboveLast, LabelsRise, MatchRole, Takes}
use Rattle.certificate_text.specs.Text.{certificates, IsCertificateText}
use Rattle.certificate_text.specs.inside.Sound.{GroupFits, IsSound}
use Rattle.certificate_text.proofs.Judged.{bars_stand}
use Rattle.certificate_text.proofs.OneText.{known}
use Rattle.certificate_text.proofs.Stable.{is-not_not, le-not_not, less-not_not, lt-not_not}

-- where nothing stands against a star, its labels rise and are of its role, and no star above has its shape
module _ (sys : SystemParts) (made : List Star) (shape : ShapeParts) (free : IsFree (BarsShape sys made shape)) where
  rises : LabelsRise shape
  rises i j d le lt = le-not_not (rank (get_or shape.leaves i d)) (rank (get_or shape.leaves j d)) (λ no. free.free NotRising (inr (inr (refl, λ rise. no (rise i j d le lt)))))

  matches : MatchRole sys shape
  matches k d lt =
      let label = get_or shape.leaves k d in (
        lt-not_not label.0 (length sys.network.ends) (λ no. free.free RoleMismatch (inr (inl (refl, λ all. no (all k d lt).0)))),
        is-not_not (local_of label.1 (ends_of sys.network.ends label.0)) shape.role (λ no. free.free RoleMismatch (inr (inl (refl, λ all. no (all k d lt).1)))),
      )

  new : HasShape made shape → ⊥
  new has = free.free Twice (inl (refl, (rises, has)))

role_there : (v : SpecParts) (sys : SystemParts) (role : List ℕ) (labels : List NamedLabel) → sys.network ≡ network_of v → AreKnown v role labels → (shape_named v role labels).role < length sys.network.roles
role_there v sys role labels same all =
    let lt = subst (λ n. number_in (role_names v.roles) role < n) (length-map v.roles (λ (r : RoleParts). r.name)) (number_within (role_names v.roles) role all.0) in
    subst (λ (net : NetworkParts). number_in (role_names v.roles) role < length net.roles) (sym same) lt

shape_fits : (v : SpecParts) (sys : SystemParts) (made : List Star) (role : List ℕ) (labels : List NamedLabel) → sys.network ≡ network_of v → IsSpelledStar role labels → IsFree (BarsStar v sys made role labels)
    → ShapeFits sys (shape_named v role labels)
shape_fits v sys made role labels same spelled free =
    let bars : IsFree (BarsShape sys made (shape_named v role labels)) = record { free = λ cause h. free.free cause (inr h) } in
    let count = length-map labels (label_numbered v) in
    record {
      role = role_there v sys role labels same (known v sys made role labels free);
      some = omega (arith, count, spelled.some);
      few = omega (arith, count, spelled.few);
      labels = matches sys made (shape_named v role labels) bars;
      sorted = rises sys made (shape_named v role labels) bars;
    }

-- one star more, whose shape is new
differ_more : (stars : List Star) (star : Star) → ShapesDiffer stars → (HasShape stars star.shape → ⊥) → ShapesDiffer (stars ++ star ∷ [])
differ_more stars star differ new = all_pairs_push (λ (x y : Star). x.shape ≢ y.shape) stars star differ (λ k d lt same. new (k, get_or stars k d, lt, get_or_default stars k (get_or stars k d) d lt, same))

fits_more : (sys : SystemParts) (stars : List Star) (star : Star) → Fits sys stars → StarFits sys star → (HasShape stars star.shape → ⊥) → Fits sys (stars ++ star ∷ [])
fits_more sys stars star fits one new = record { each = All-push (StarFits sys) stars star fits.each one; differ = differ_more stars star fits.differ new }

rise_none : Rise []
rise_none k d lt = absurd (omega (arith, lt))

rise_more : (members : List (List ℕ)) (states : List ℕ) → Rise members → IsAboveLast members states → Rise (members ++ states ∷ [])
rise_more members states rise above k d lt =
    let count = length-append members (states ∷ []) in
    let low : get_or (members ++ states ∷ []) k d ≡ get_or members k d = grind (arith, common_steps) in
    elim (cases_lt (k + 1) (length members)) [
      | inl within ↦ (let high : get_or (members ++ states ∷ []) (k + 1) d ≡ get_or members (k + 1) d = grind (arith, common_steps) in rw (low, high) (rise k d within))
      | inr last ↦ (
          let is : length members - 1 ≡ k = omega (arith, lt, last, count) in
          let high : get_or (members ++ states ∷ []) (k + 1) d ≡ states = grind (arith, common_steps) in
          let same : get_or members k [] ≡ get_or members k d = get_or_default members k [] d (omega (arith, lt, count)) in
          rw (low, high) (subst (λ x. IsLower x states) (subst (λ n. get_or members n [] ≡ get_or members k d) (sym is) same) (above (omega (arith, lt, count))))
          )
    ]

-- where nothing stands against a member, it is a star state that is greater than the last
module _ (sys : SystemParts) (shape : ShapeParts) (members : List (List ℕ)) (states : List ℕ) (count : length states ≡ length shape.leaves) (free : IsFree (BarsMember sys shape members states)) where
  above_last : IsAboveLast members states
  above_last some = less-not_not (slice_cmp nat_cmp (get_or members (length members - 1) []) states) (λ no. free.free NotRising (inr (inl (refl, λ above. no (above some)))))

  star_state : IsStarState sys shape states
  star_state = record {
    count = count;
    within = λ i lt. lt-not_not _ _ (λ no. free.free UnknownName (inl (refl, λ all. no (all i lt))));
    agree = λ i lt. is-not_not _ _ (λ no. free.free Disagree (inr (inr (refl, λ all. no (all i lt)))));
  }

  member_fits : StarFits sys (record { shape = shape; members = members }) → StarFits sys (record { shape = shape; members = members ++ states ∷ [] })
  member_fits fits = record {
    shape = fits.shape;
    states = All-push (IsStarState sys shape) members states fits.states star_state;
    rising = rise_more members states fits.rising above_last;
  }

last_fits : (sys : SystemParts) (stars : List Star) (star : Star) → Fits sys (stars ++ star ∷ []) → StarFits sys star
last_fits sys stars star fits =
    let at : get_or (stars ++ star ∷ []) (length stars) star ≡ star = grind (arith, common_steps) in
    subst (StarFits sys) at (fits.each (length stars) star (omega (arith, length-append stars (star ∷ []))))

init_fits : (sys : SystemParts) (stars : List Star) (star : Star) → Fits sys (stars ++ star ∷ []) → Fits sys stars
init_fits sys stars star fits = record {
  each = λ k d lt. subst (StarFits sys) (before k d lt) (fits.each k d (omega (arith, lt, length-append stars (star ∷ []))));
  differ = λ i j d lt within same. fits.differ i j d lt (omega (arith, within, length-append stars (star ∷ []))) (ap (λ (s : Star). s.shape) (before i d (omega (arith, lt, within))) ∙ same ∙ sym (ap (λ (s : Star). s.shape) (before j d within)));
}
  where
    before : (k : ℕ) (d : Star) → k < length stars → get_or (stars ++ star ∷ []) k d ≡ get_or stars k d
    before k d lt = grind (arith, common_steps)

-- the shape of the last star stands at none before it
last_new : (sys : SystemParts) (stars : List Star) (star : Star) → Fits sys (stars ++ star ∷ []) → HasShape stars star.shape → ⊥
last_new sys stars star fits (k, x, lt, is, same) =
    let low : get_or (stars ++ star ∷ []) k x ≡ x = (let same_place : get_or (stars ++ star ∷ []) k x ≡ get_or stars k x = grind (arith, common_steps) in same_place ∙ is) in
    let high : get_or (stars ++ star ∷ []) (length stars) x ≡ star = grind (arith, common_steps) in
    fits.differ k (length stars) x lt (omega (arith, length-append stars (star ∷ []))) (ap (λ (s : Star). s.shape) low ∙ same ∙ sym (ap (λ (s : Star). s.shape) high))

member_sound : (sys : SystemParts) (made : List Star) (shape : ShapeParts) (members : List (List ℕ)) (states : List ℕ) → length states ≡ length shape.leaves → IsFree (BarsMember sys shape members states)
    → Fits sys (made ++ record { shape = shape; members = members } ∷ []) → Fits sys (made ++ record { shape = shape; members = members ++ states ∷ [] } ∷ [])
member_sound sys made shape members states count free fits =
    let old : Star = record { shape = shape; members = members } in
    fits_more sys made (record { shape = shape; members = members ++ states ∷ [] }) (init_fits sys made old fits) (member_fits sys shape members states count free (last_fits sys made old fits)) (last_new sys made old fits)

star_sound : (v : SpecParts) (sys : SystemParts) (made : List Star) (role : List ℕ) (labels : List NamedLabel) → sys.network ≡ network_of v → IsSpelledStar role labels → IsFree (BarsStar v sys made role labels)
    → Fits sys made → Fits sys (made ++ record { shape = shape_named v role labels; members = [] } ∷ [])
star_sound v sys made role labels same spelled free fits =
    fits_more sys made (record { shape = shape_named v role labels; members = [] }) fits
    (record { shape = shape_fits v sys made role labels same spelled free; states = All-nil (IsStarState sys (shape_named v role labels)); rising = rise_none })
    (new sys made (shape_named v role labels) (record { free = λ cause h. free.free cause (inr h) }))

-- what a line says that is taken leaves stars that fit
pub said_sound : (v : SpecParts) (sys : SystemParts) (made : List Star) (group : Group) (item : Said) → sys.network ≡ network_of v → MayStand group item → IsSpelled item
    → IsFree (BarsLine v sys (record { made = made; group = group }) item) → IsSound sys (record { made = made; group = group }) → IsSound sys (after_line v (record { made = made; group = group }) item)
said_sound v sys made before_head head_line same may spelled free sound = sound
said_sound v sys made among_stars (star_line role labels) same may spelled free sound = star_sound v sys made role labels same spelled free sound
said_sound v sys made among_stars done_line same may spelled free sound = sound
said_sound v sys made (in_star shape members) (member_line states) same may spelled free sound = member_sound sys made shape members states may free sound
said_sound v sys made (in_star shape members) end_line same may spelled free sound = sound
said_sound v sys made group item same may spelled free sound = absurd may

pub takes_sound : (v : SpecParts) (sys : SystemParts) (s t : State) (line : Line) → sys.network ≡ network_of v → Takes v sys s line t → IsSound sys s → IsSound sys t
takes_sound v sys s t line same takes sound =
    subst (IsSound sys) (sym takes.next) (said_sound v sys s.made s.group takes.item same takes.may.may takes.may.says.spelled (bars_stand v sys s line takes.item takes.may takes.free) sound)

pub first_sound : (sys : SystemParts) → IsSound sys first_state
first_sound sys = record { each = All-nil (StarFits sys); differ = λ i j d lt within. absurd (omega (arith, within)) }

lines_fit : (v : SpecParts) (sys : SystemParts) (s : State) (lines : List Line) (stars : List Star) → sys.network ≡ network_of v → StandsFor (certificates v sys) s lines stars → IsSound sys s → Fits sys stars
lines_fit v sys s [] stars same h sound = subst (Fits sys) (sym h.1) (subst (λ g. Fits sys (with_ended s.made g)) h.0 sound)
lines_fit v sys s (line ∷ lines) stars same (t, takes, more) sound = lines_fit v sys t lines stars same more (takes_sound v sys s t line same takes sound)

-- stars of which bytes are a text fit
pub text_fits : (v : SpecParts) (sys : SystemParts) (bytes : List ℕ) (stars : List Star) → sys.network ≡ network_of v → IsCertificateText v sys bytes stars → Fits sys stars
text_fits v sys bytes stars same text = lines_fit v sys first_state (lines_of bytes) stars same text (first_sound sys)

-- the open star fits
pub group_fits : (sys : SystemParts) (made : List Star) (group : Group) → IsSound sys (record { made = made; group = group }) → GroupFits sys group
group_fits sys made (in_star shape members) sound = last_fits sys made (record { shape = shape; members = members }) sound
group_fits sys made before_head sound = tt
group_fits sys made among_stars sound = tt
group_fits sys made after_done sound = tt
