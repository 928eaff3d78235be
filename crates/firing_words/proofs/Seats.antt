-- One view changes, and what is said of each view still holds.
use Rattle.std.proofs.Common.{ℕ, zero, suc, ◌≡◌, ◌≢◌, ◌+◌, inl, inr, ⊎_elim, List, [], ◌∷◌, map, set, arith, refl, sym, ◌∙◌, ap, subst}
use mathlib.Core.Option.{some, some-injective}
use mathlib.Core.Logic.{dite}
use native.Mathlib.Decide.{ℕ_discrete}
use lib.ListN.{get_elem?}
use Rattle.atomic_table.proofs.Lists.{at_set, set_else}
use Rattle.conjunctive_compose.specs.System.{SystemParts}
use Rattle.conjunctive_compose.specs.Whole.{start_of}
use Rattle.conjunctive_compose.specs.Run.{whole_after}
use Rattle.firing_words.specs.declared.cell.Cell.{Cell}
use Rattle.firing_words.specs.declared.view.Item.{Item}
use Rattle.firing_words.specs.declared.view.Track.{Track}
use Rattle.firing_words.specs.declared.view.View.{View}
use Rattle.firing_words.specs.Cells.{Guards, HasContent, IsCell}
use Rattle.firing_words.specs.History.{moves_in, packed}
use Rattle.firing_words.specs.Lists.{Has, InTurn}
use Rattle.firing_words.specs.Notes.{Follows, IsBehind, IsTrackOf, Stands, made_of}
use Rattle.firing_words.specs.Past.{Past, word_at}
use Rattle.firing_words.specs.Rule.{Fits, IsKept}
use Rattle.firing_words.specs.parts.Owing.{IsOwed}
use Rattle.firing_words.specs.Views.{Owes, callers_of, does, track_does}
use Rattle.firing_words.proofs.Histories.{settles}
use Rattle.firing_words.proofs.Lists.{first_of, has_map, has_push, nothing_in}
use Rattle.firing_words.proofs.Notes.{track_notes}

pub each_set : (P Q : ℕ → View → Type 0) (views : List View) (id : ℕ) (w : View) → ((j : ℕ) (u : View) → get_elem? views j ≡ some u → P j u) → ((j : ℕ) (u : View) → j ≢ id → P j u → Q j u) → Q id w
    → (j : ℕ) (u : View) → get_elem? (set views id w) j ≡ some u → Q j u
each_set P Q views id w old others mine j u e =
    ⊎_elim
    (λ (x : (j ≡ id) × (w ≡ u)). subst (λ (y : ℕ × View). Q y.0 y.1) (λ i. (sym x.0 i, x.1 i)) mine)
    (λ (x : (j ≢ id) × (get_elem? views j ≡ some u)). others j u x.0 (old j u x.1))
    (at_set views id j w u e)

pub here_set : (views : List View) (id : ℕ) (v w : View) → get_elem? views id ≡ some v → get_elem? (set views id w) id ≡ some w
here_set [] id v w e = absurd (cc)
here_set (x ∷ xs) zero v w e = refl
here_set (x ∷ xs) (suc id) v w e = here_set xs id v w e

-- the same seat has the same view
pub same_view : (views : List View) (id j : ℕ) (v u : View) → get_elem? views id ≡ some v → get_elem? views j ≡ some u → j ≡ id → v ≡ u
same_view views id j v u at there same = some-injective v u (sym at ∙ (ap (get_elem? views) (sym same) ∙ there))

-- what is owed stays owed, by this seat where its new view owes it
pub owed_set : (views : List View) (id : ℕ) (v w : View) (i : Cell) → get_elem? views id ≡ some v → (Owes v i → Owes w i) → IsOwed views i → IsOwed (set views id w) i
owed_set views id v w i at more o = dite (ℕ_discrete o.0 id)
    (λ same. let is : v ≡ o.1 = same_view views id o.0 v o.1 at o.2 same in (id, w, here_set views id v w at, more (subst (λ (u : View). Owes u i) (sym is) o.3)))
    (λ apart. (o.0, o.1, set_else views id o.0 w apart ∙ o.2, o.3))

-- a step that changes no word
pub stays : (sys : SystemParts) (callers room : ℕ) (p : Past) (words : List ℕ) (views : List View) (id : ℕ) (v w : View) → IsKept sys callers room p words views → get_elem? views id ≡ some v → Fits sys callers p words id w → ((i : Cell) → Owes v i → Owes w i)
    → IsKept sys callers room p words (set views id w)
stays sys callers room p words views id v w r at fit owes = record {
  lawful = r.lawful;
  named = r.named;
  is_run = r.is_run;
  wide = r.wide;
  counter = r.counter;
  below = r.below;
  roomy = r.roomy;
  holders = r.holders;
  fits = each_set (Fits sys callers p words) (Fits sys callers p words) views id w r.fits (λ j u apart f. f) fit;
  shows = r.shows;
  owing = λ i cell. ⊎_elim (λ e. inl e) (λ (o : (p.shown i + 1 ≡ moves_in sys p.run i) × IsOwed views i). inr (o.0, owed_set views id v w i at (owes i) o.1)) (r.owing i cell);
}

-- a change of each track leaves the callers
pub callers-map : (f : Track → Track) → ((t : Track) → (f t).caller ≡ t.caller) → (ts : List Track) → map (λ (t : Track). t.caller) (map f ts) ≡ map (λ (t : Track). t.caller) ts
callers-map f same [] = refl
callers-map f same (t ∷ ts) = λ i. same t i ∷ callers-map f same ts i

pub callers-does : (v : View) (z : Item) → callers_of (does v z) ≡ callers_of v
callers-does v z = callers-map (track_does z) (λ t. refl) v.tracks

pub has_caller : (t : Track) (ts : List Track) → Has t ts → Has t.caller (map (λ (u : Track). u.caller) ts)
has_caller t [] h = absurd h
has_caller t (x ∷ ts) (inl e) = inl (ap (λ (u : Track). u.caller) e)
has_caller t (x ∷ ts) (inr h) = inr (has_caller t ts h)

-- two seats that hold one lock are one
pub one_holder : (sys : SystemParts) (callers : ℕ) (p : Past) (words : List ℕ) (id j l : ℕ) (v u : View) → Fits sys callers p words id v → Fits sys callers p words j u → Has l v.held → Has l u.held → j ≡ id
one_holder sys callers p words id j l v u f g mine theirs =
    let a = f.locks l mine in
    let b = g.locks l theirs in
    let same : a.0 ≡ b.0 = omega (arith, a.2, b.2) in
    let one = f.numbers a.0 (first_of a.0 (callers_of v) [] a.1) in
    let other = g.numbers b.0 (first_of b.0 (callers_of u) [] b.1) in
    sym other.0 ∙ (ap p.seat (sym same) ∙ one.0)

-- who holds a lock that guards a cell and owes nothing sees all its moves in its word
pub all_shown : (sys : SystemParts) (callers room : ℕ) (p : Past) (words : List ℕ) (views : List View) (id l : ℕ) (i : Cell) (v : View) → IsKept sys callers room p words views → get_elem? views id ≡ some v → IsCell sys i → Guards sys i l → Has l v.held → v.owed ≡ [] → p.shown i ≡ moves_in sys p.run i
all_shown sys callers room p words views id l i v r at cell guards held done =
    ⊎_elim (λ e. e)
    (λ (q : (p.shown i + 1 ≡ moves_in sys p.run i) × IsOwed views i).
    let o = q.1 in
    let g = r.fits o.0 o.1 o.2 in
    let owed = o.3 in
    let theirs : Has l o.1.held = (g.owed owed.0 owed.1).1 l (subst (λ (j : Cell). Guards sys j l) (sym owed.2) guards) in
    let same = one_holder sys callers p words id o.0 l v o.1 (r.fits id v at) g held theirs in
    let is : v ≡ o.1 = same_view views id o.0 v o.1 at o.2 same in
    absurd (nothing_in owed.0 o.1.owed (ap (λ (u : View). u.owed) (sym is) ∙ done) owed.1))
    (r.owing i cell)

-- and its word is the latest
pub latest_word : (sys : SystemParts) (callers room : ℕ) (p : Past) (words : List ℕ) (views : List View) (i : Cell) → IsKept sys callers room p words views → IsCell sys i → p.shown i ≡ moves_in sys p.run i
    → (x : ℕ) × HasContent sys (whole_after sys (start_of sys) p.run) i x × (word_at sys words i ≡ packed (moves_in sys p.run i) x)
latest_word sys callers room p words views i r cell all =
    let s = r.shows i cell in
    (s.0, settles sys p.run i s.0 r.lawful cell r.is_run (s.1.0, s.1.1, s.1.2 ∙ all, s.1.3), s.2 ∙ ap (λ (m : ℕ). packed m s.0) all)

-- a view of one caller notes something that is no entry
pub notes : (sys : SystemParts) (callers room : ℕ) (p : Past) (words : List ℕ) (views : List View) (id : ℕ) (v : View) (z : Item) → IsKept sys callers room p words views → get_elem? views id ≡ some v → made_of (z ∷ []) ≡ [] → Stands sys p.run z
    → ((t : Track) (y : Item) → Has t v.tracks → Has y t.items → Follows sys p.run y z) → ((i : Cell) → IsCell sys i → IsBehind sys p.run z i (p.shown i)) → IsKept sys callers room p words (set views id (does v z))
notes sys callers room p words views id v z r at plain stands follows behind = stays sys callers room p words views id v (does v z) r at fit (λ i o. o)
  where
    f : Fits sys callers p words id v
    f = r.fits id v at

    same : callers_of (does v z) ≡ callers_of v
    same = callers-does v z

    fit : Fits sys callers p words id (does v z)
    fit = record {
      numbers = λ c has. f.numbers c (subst (Has c) same has);
      apart = subst (InTurn (λ (c d : ℕ). c ≢ d)) (sym same) f.apart;
      tracks = λ t has. let old = has_map (track_does z) t v.tracks has in
          subst (IsTrackOf sys p.log p.run) old.2 (track_notes sys p.log p.run old.0 z plain stands (λ y in_t. follows old.0 y old.1 in_t) (f.tracks old.0 old.1));
      locks = λ l has. let old = f.locks l has in (old.0, same ∙ old.1, old.2, old.3);
      back = λ c l has lt is. f.back c l (subst (Has c) same has) lt is;
      known = f.known;
      owed = f.owed;
      reach = λ t y i has in_t cell. let old = has_map (track_does z) t v.tracks has in
          ⊎_elim
          (λ (a : Has y old.0.items). f.reach old.0 y i old.1 a cell)
          (λ (e : z ≡ y). inl (subst (λ (x : Item). IsBehind sys p.run x i (p.shown i)) e (behind i cell)))
          (has_push y z old.0.items (subst (λ (u : Track). Has y u.items) (sym old.2) in_t));
    }
