-- A text that stands for stars is their one text.
use Rattle.std.proofs.Common.{ℕ, ◌≡◌, ◌<◌, inl, true, All, Contains, List, [], ◌∷◌, ◌++◌, get_or, map, refl, sym, ap, ◌∙◌, subst, append_assoc, append-nil}
use Rattle.std.specs.List.{flat_map}
use Rattle.std.proofs.lemmas.List.{get_or-map, length-map}
use Rattle.std.proofs.lemmas.List.Elements.{All-head, All-tail}
use Rattle.pair_structure.specs.Parts.{role_at}
use Rattle.pair_structure.specs.Role.{RoleParts}
use Rattle.pair_structure.specs.declared.side.Side.{Side}
use Rattle.ctl_form.specs.declared.pair_spec.PairSpec.{PairSpec}
use Rattle.interconnection.specs.Shape.{ShapeParts}
use Rattle.conjunctive_compose.specs.System.{SystemParts}
use Rattle.text_cause.specs.declared.cause.TextCause.TheVariants.{UnknownName}
use Rattle.text_cause.specs.Cause.{IsFree}
use Rattle.text_cause.specs.Grammar.{StandsFor}
use Rattle.ctl_text.specs.Value.{SpecParts, kind_at, kind_names, number_in, role_names}
use Rattle.ctl_text.proofs.Named.{Contains-not_not, named_at, number_within}
use Rattle.strict_text.specs.Lines.{Line, text_of, lines_of}
use Rattle.strict_text.specs.Words.{words_of}
use Rattle.strict_text.specs.Spaced.{spaced}
use Rattle.strict_text.proofs.WordLaws.{one_line}
use Rattle.strict_text.proofs.LineLaws.{text_of_lines}
use Rattle.waitfor_check.specs.declared.star.Star.{Star}
use Rattle.certificate_text.specs.Item.{NamedLabel, Said, head_line, star_line, member_line, end_line, done_line, words_for}
use Rattle.certificate_text.specs.State.{Group, before_head, among_stars, in_star, after_done, State, first_state, MayStand, after_line, label_numbered, shape_named}
use Rattle.certificate_text.specs.Cause.{AreKnown, BarsLine, BarsStar, HasKindNamed}
use Rattle.certificate_text.specs.Text.{certificates, IsCertificateText}
use Rattle.certificate_text.specs.CertificateText.{item_text, label_named, shape_line, member_text, star_text, certificate_text}
use Rattle.certificate_text.proofs.Judged.{bars_stand}

-- names that are known: those at their numbers
pub role_same : (roles : List RoleParts) (role : List ℕ) → Contains (role_names roles) role → (role_at roles (number_in (role_names roles) role)).name ≡ role
role_same roles role there =
    let lt = subst (λ n. number_in (role_names roles) role < n) (length-map roles (λ (r : RoleParts). r.name)) (number_within (role_names roles) role there) in
    sym (get_or-map (λ (r : RoleParts). r.name) roles (number_in (role_names roles) role) (record { name = []; locals = []; starts = []; arcs = [] }) [] lt) ∙ named_at (role_names roles) role there

pub kind_same : (kinds : List PairSpec) (kind : List ℕ) → Contains (kind_names kinds) kind → (kind_at kinds (number_in (kind_names kinds) kind)).name ≡ kind
kind_same kinds kind there =
    let lt = subst (λ n. number_in (kind_names kinds) kind < n) (length-map kinds (λ (k : PairSpec). k.name)) (number_within (kind_names kinds) kind there) in
    sym (get_or-map (λ (k : PairSpec). k.name) kinds (number_in (kind_names kinds) kind) (record { name = []; role_a = 0; role_b = 0; clauses = [] }) [] lt) ∙ named_at (kind_names kinds) kind there

kinds_known : (v : SpecParts) (labels : List NamedLabel) → ((All (HasKindNamed v) labels → ⊥) → ⊥) → All (HasKindNamed v) labels
kinds_known v labels not_not k d lt = Contains-not_not (kind_names v.kinds) (get_or labels k d).0 (λ none. not_not (λ all. none (all k d lt)))

-- where nothing stands against a star, its names are known
pub known : (v : SpecParts) (sys : SystemParts) (made : List Star) (role : List ℕ) (labels : List NamedLabel) → IsFree (BarsStar v sys made role labels) → AreKnown v role labels
known v sys made role labels free =
    let not_not : (AreKnown v role labels → ⊥) → ⊥ = λ none. free.free UnknownName (inl (refl, none)) in
    (Contains-not_not (role_names v.roles) role (λ none. not_not (λ all. none all.0)), kinds_known v labels (λ none. not_not (λ all. none all.1)))

label_same : (v : SpecParts) (kind : List ℕ) (side : Side) → Contains (kind_names v.kinds) kind → label_named v (label_numbered v (kind, side)) ≡ (kind, side)
label_same v kind side there = ap (λ (k : List ℕ). (k, side)) (kind_same v.kinds kind there)

labels_same : (v : SpecParts) (labels : List NamedLabel) → All (HasKindNamed v) labels → map (label_named v) (map (label_numbered v) labels) ≡ labels
labels_same v [] all = refl
labels_same v (label ∷ labels) all = rw (label_same v label.0 label.1 (All-head (HasKindNamed v) label labels all), labels_same v labels (All-tail (HasKindNamed v) label labels all)) refl

line_same : (v : SpecParts) (role : List ℕ) (labels : List NamedLabel) → AreKnown v role labels → shape_line v (shape_named v role labels) ≡ star_line role labels
line_same v role labels all = rw (role_same v.roles role all.0, labels_same v labels all.1) refl

-- what is left of an open star, and the stars behind it
record RemainsOpen (v : SpecParts) (shape : ShapeParts) (members : List (List ℕ)) (more : List Star) (text : List ℕ) : Type 0 where
  ms : List (List ℕ)
  rest : List Star
  more_is : more ≡ record { shape = shape; members = members ++ ms } ∷ rest
  text_is : text ≡ flat_map member_text ms ++ (item_text end_line ++ (flat_map (star_text v) rest ++ item_text done_line))

-- the stars that are still to come, and the text that gives them
abbrev Remains : SpecParts → Group → List Star → List ℕ → Type 0
Remains v before_head more text = text ≡ certificate_text v more
Remains v among_stars more text = text ≡ flat_map (star_text v) more ++ item_text done_line
Remains v (in_star shape members) more text = RemainsOpen v shape members more text
Remains v after_done more text = (more ≡ []) × (text ≡ [])

record Comes (v : SpecParts) (s : State) (stars : List Star) (text : List ℕ) : Type 0 where
  more : List Star
  stars_are : stars ≡ s.made ++ more
  remains : Remains v s.group more text

opens : (v : SpecParts) (sys : SystemParts) (made : List Star) (role : List ℕ) (labels : List NamedLabel) (stars : List Star) (text : List ℕ) → IsFree (BarsStar v sys made role labels)
    → Comes v (record { made = made; group = in_star (shape_named v role labels) [] }) stars text → Comes v (record { made = made; group = among_stars }) stars (item_text (star_line role labels) ++ text)
opens v sys made role labels stars text free h =
    let o = h.remains in
    let shape = shape_named v role labels in
    record {
      more = record { shape = shape; members = o.ms } ∷ o.rest;
      stars_are = h.stars_are ∙ ap (λ more. made ++ more) o.more_is;
      remains =
          ap (λ line. item_text line ++ text) (sym (line_same v role labels (known v sys made role labels free)))
          ∙ ap (λ t. item_text (shape_line v shape) ++ t) o.text_is
          ∙ parts (item_text (shape_line v shape)) (flat_map member_text o.ms) (item_text end_line) (flat_map (star_text v) o.rest) (item_text done_line);
    }
  where
    parts : (k ms e rest d : List ℕ) → k ++ (ms ++ (e ++ (rest ++ d))) ≡ ((k ++ (ms ++ e)) ++ rest) ++ d
    parts k ms e rest d = simp append_assoc refl

with_member : (v : SpecParts) (made : List Star) (shape : ShapeParts) (members : List (List ℕ)) (states : List ℕ) (stars : List Star) (text : List ℕ)
    → Comes v (record { made = made; group = in_star shape (members ++ states ∷ []) }) stars text → Comes v (record { made = made; group = in_star shape members }) stars (item_text (member_line states) ++ text)
with_member v made shape members states stars text h =
    let o = h.remains in
    let along : (members ++ states ∷ []) ++ o.ms ≡ members ++ states ∷ o.ms = append_assoc members (states ∷ []) o.ms in
    record {
      more = h.more;
      stars_are = h.stars_are;
      remains = record {
        ms = states ∷ o.ms;
        rest = o.rest;
        more_is = rw along at o.more_is;
        text_is = ap (λ t. member_text states ++ t) o.text_is ∙ sym (append_assoc (member_text states) (flat_map member_text o.ms) _);
      };
    }

with_ended : (v : SpecParts) (made : List Star) (shape : ShapeParts) (members : List (List ℕ)) (stars : List Star) (text : List ℕ)
    → Comes v (record { made = made ++ record { shape = shape; members = members } ∷ []; group = among_stars }) stars text → Comes v (record { made = made; group = in_star shape members }) stars (item_text end_line ++ text)
with_ended v made shape members stars text h = record {
  more = record { shape = shape; members = members } ∷ h.more;
  stars_are = h.stars_are ∙ append_assoc made (record { shape = shape; members = members } ∷ []) h.more;
  remains = record {
    ms = [];
    rest = h.more;
    more_is = rw (append-nil members) refl;
    text_is = ap (λ t. item_text end_line ++ t) h.remains;
  };
}

before : (v : SpecParts) (sys : SystemParts) (made : List Star) (group : Group) (item : Said) (stars : List Star) (text : List ℕ)
    → MayStand group item → IsFree (BarsLine v sys (record { made = made; group = group }) item) → Comes v (after_line v (record { made = made; group = group }) item) stars text
    → Comes v (record { made = made; group = group }) stars (item_text item ++ text)
before v sys made before_head head_line stars text may free h = record { more = h.more; stars_are = h.stars_are; remains = ap (λ t. item_text head_line ++ t) h.remains }
before v sys made among_stars (star_line role labels) stars text may free h = opens v sys made role labels stars text free h
before v sys made among_stars done_line stars text may free h = record { more = []; stars_are = rw h.remains.0 at h.stars_are; remains = rw h.remains.1 (append-nil (item_text done_line)) }
before v sys made (in_star shape members) (member_line states) stars text may free h = with_member v made shape members states stars text h
before v sys made (in_star shape members) end_line stars text may free h = with_ended v made shape members stars text h
before v sys made group item stars text may free h = absurd may

line_is : (line : Line) (words : List (List ℕ)) (text : List ℕ) (lines : List Line) → line.is_ended ≡ true → words_of line.bytes ≡ words → text_of lines ≡ text → text_of (line ∷ lines) ≡ spaced words ++ 10 ∷ text
line_is line words text lines ended words_are e = rw (ended, e, sym words_are, one_line line.bytes) refl

item_before : (item : Said) (text : List ℕ) → spaced (words_for item) ++ 10 ∷ text ≡ item_text item ++ text
item_before item text = sym (append_assoc (spaced (words_for item)) (10 ∷ []) text)

-- what comes of lines that stand for stars
comes : (v : SpecParts) (sys : SystemParts) (s : State) (lines : List Line) (stars : List Star) → StandsFor (certificates v sys) s lines stars → Comes v s stars (text_of lines)
comes v sys s [] stars h = record { more = []; stars_are = h.1 ∙ sym (append-nil s.made); remains = subst (λ g. Remains v g [] []) (sym h.0) (refl, refl) }
comes v sys s (line ∷ lines) stars (t, takes, more) =
    let later : Comes v (after_line v s takes.item) stars (text_of lines) = subst (λ t. Comes v t stars (text_of lines)) takes.next (comes v sys t lines stars more) in
    let text = line_is line (words_for takes.item) (text_of lines) lines takes.may.ended takes.may.says.words_are refl ∙ item_before takes.item (text_of lines) in
    subst (λ text. Comes v s stars text) (sym text) (before v sys s.made s.group takes.item stars (text_of lines) takes.may.may (bars_stand v sys s line takes.item takes.may takes.free) later)

-- a certificate has one text
pub one_text : (v : SpecParts) (sys : SystemParts) (bytes : List ℕ) (stars : List Star) → IsCertificateText v sys bytes stars → bytes ≡ certificate_text v stars
one_text v sys bytes stars text =
    let c = comes v sys first_state (lines_of bytes) stars text in
    sym (text_of_lines bytes) ∙ c.remains ∙ ap (certificate_text v) (sym c.stars_are)
