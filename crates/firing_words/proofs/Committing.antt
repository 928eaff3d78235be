-- A firing: one entry more, whose stores are owed.
use Rattle.std.proofs.Common.{ℕ, suc, ◌≡◌, ◌≢◌, ◌<◌, ◌≤◌, ◌+◌, ◌%◌, ◌^◌, ◌⊎◌, inl, inr, ⊎_elim, Bool, true, false, List, [], ◌∷◌, ◌++◌, map, length, set, get_or, arith, refl, sym, ◌∙◌, ap, subst, length-set, length-append, get_or-set_same, Some}
use Rattle.std.specs.Prelude.{slice_get}
use Rattle.std.proofs.lemmas.List.{get_or_push, take_all}
use Rattle.std.proofs.lemmas.Option.{slice_get-get_or}
use Rattle.std.proofs.lemmas.Bool.{cases_eq}
use mathlib.Core.Option.{none, some}
use lib.ListN.{get_elem?}
use Rattle.atomic_table.specs.Table.{step, keeps, Allows}
use Rattle.conjunctive_compose.specs.declared.wish.Wish.{Wish}
use Rattle.conjunctive_compose.specs.System.{SystemParts, IsSystem}
use Rattle.conjunctive_compose.specs.Whole.{WholeParts, IsProper, start_of}
use Rattle.conjunctive_compose.specs.Run.{whole_after}
use Rattle.conjunctive_compose.proofs.Runs.{run_grows}
use Rattle.firing_words.specs.declared.cell.Cell.{Cell}
use Rattle.firing_words.specs.declared.cell.Reading.{Reading}
use Rattle.firing_words.specs.declared.rule.Setting.{Setting}
use Rattle.firing_words.specs.declared.view.Item.{Item}
use Rattle.firing_words.specs.declared.view.Item.TheVariants.{Made}
use Rattle.firing_words.specs.declared.view.Track.{Track}
use Rattle.firing_words.specs.declared.view.View.{View}
use Rattle.firing_words.specs.Cells.{HasContent, IsCell, is_moved}
use Rattle.firing_words.specs.Firings.{IsFiring}
use Rattle.firing_words.specs.History.{Firing, IsLatest, Knows, made_by, moves_before, moves_in}
use Rattle.firing_words.specs.Lists.{Has, InTurn}
use Rattle.firing_words.specs.Notes.{Follows, IsBehind, IsTrackOf, made_of}
use Rattle.firing_words.specs.inside.Plays.{Mine, commits}
use Rattle.firing_words.specs.Past.{Past}
use Rattle.firing_words.specs.Rule.{Fits, IsKept, Kept}
use Rattle.firing_words.specs.parts.Owing.{IsOwed}
use Rattle.firing_words.specs.Views.{HoldsPlan, IsGuarded, Owes, callers_of, committed, track_does}
use Rattle.firing_words.proofs.Cells.{guarded, guards_planned}
use Rattle.firing_words.proofs.Few.{entries_few}
use Rattle.firing_words.proofs.Histories.{after_push, latest_stays, length-wishes, moves_hit, moves_miss, reached_proper, shows_longer, wishes_push}
use Rattle.firing_words.proofs.Laid.{cell-set_counter, lock-set_counter}
use Rattle.firing_words.proofs.Lists.{first_of, has_map, has_push, nothing_in, only}
use Rattle.firing_words.proofs.Making.{below-append, made_by-other, made_by-own}
use Rattle.firing_words.proofs.Notes.{before_end, before_longer, behind_longer, stands_longer, track_grows, track_longer}
use Rattle.firing_words.proofs.Seats.{all_shown, callers-map, each_set, has_caller, here_set, one_holder, owed_set}

-- the past with one entry more
abbrev pub longer : Past → Firing → Past
longer p e = record p { log = p.log ++ e ∷ []; run = p.run ++ e.wish ∷ [] }

module _ (sys : SystemParts) (callers room : ℕ) (p : Past) (words : List ℕ) (views : List View) (r : IsKept sys callers room p words views) (e : Firing) (id : ℕ) (v : View) (stores : List Reading) (at : get_elem? views id ≡ some v) (mine : callers_of v ≡ e.caller ∷ []) (plan : HoldsPlan sys v e.wish.process) (done : v.owed ≡ []) (firing : IsFiring sys v.known e.wish stores) where
  f : Fits sys callers p words id v
  f = r.fits id v at

  system : IsSystem sys
  system = r.lawful

  abbrev n : ℕ
  n = length p.log

  long : length p.run ≡ length p.log
  long = ap length r.named ∙ length-wishes p.log

  own : (p.seat e.caller ≡ id) × (e.caller < callers)
  own = f.numbers e.caller (first_of e.caller (callers_of v) [] mine)

  abbrev now : WholeParts
  now = whole_after sys (start_of sys) p.run

  proper : IsProper sys now
  proper = reached_proper sys p.run system r.is_run

  -- the whole state has what is known
  knows : Knows sys v.known now
  knows o has = (f.known o has).2.content

  -- what a cell that moves showed before
  shown_before : (i : Cell) → IsCell sys i → is_moved sys i e.wish ≡ true → p.shown i ≡ moves_in sys p.run i
  shown_before i cell moved = let g = guarded sys i in all_shown sys callers room p words views id g.0 i v r at cell g.1 (plan g.0 (guards_planned sys i e.wish g.0 cell moved g.1)) done

  -- a cell that another view has under its guards does not move
  not_theirs : (j : ℕ) (u : View) (i : Cell) → j ≢ id → Fits sys callers p words j u → IsCell sys i → IsGuarded sys u i → is_moved sys i e.wish ≡ false
  not_theirs j u i apart g cell guards = by_move (is_moved sys i e.wish) refl
    where
      by_move : (b : Bool) → is_moved sys i e.wish ≡ b → b ≡ false
      by_move false is = refl
      by_move true is = let l = guarded sys i in absurd (apart (one_holder sys callers p words id j l.0 v u f g (plan l.0 (guards_planned sys i e.wish l.0 cell is l.1)) (guards l.0 l.1)))

  others : (j x : ℕ) (u : View) → j ≢ id → Fits sys callers p words j u → Fits sys callers (longer p e) (set words 0 x) j u
  others j x u apart g = record {
    numbers = g.numbers;
    apart = g.apart;
    tracks = λ t has. track_longer sys p.log (p.log ++ e ∷ []) p.run (e.wish ∷ []) t (made_by-other t.caller p.log e (λ is. apart (sym (g.numbers t.caller (has_caller t u.tracks has)).0 ∙ (ap p.seat (sym is) ∙ own.0)))) (g.tracks t has);
    locks = λ l has. let old = g.locks l has in (old.0, old.1, lock-set_counter words x l ∙ old.2, old.3);
    back = λ c l has lt is. g.back c l has lt (sym (lock-set_counter words x l) ∙ is);
    known = λ o has. let old = g.known o has in (old.0, old.1, latest_stays sys p.run e.wish o system r.is_run old.0 (not_theirs j u o.cell apart g old.0 old.1) old.2);
    owed = λ o has. let old = g.owed o has in (old.0, old.1, latest_stays sys p.run e.wish o system r.is_run old.0 (not_theirs j u o.cell apart g old.0 old.1) old.2, old.3);
    reach = λ t y i has in_t cell. ⊎_elim
        (λ (a : IsBehind sys p.run y i (p.shown i)). inl (behind_longer sys p.run (e.wish ∷ []) y i (p.shown i) ((g.tracks t has).stands y in_t) a))
        (λ o. inr o)
        (g.reach t y i has in_t cell);
  }

  abbrev z : Item
  z = Made n e.wish

  abbrev w : View
  w = committed v n e.wish stores

  same : callers_of w ≡ callers_of v
  same = callers-map (track_does z) (λ t. refl) v.tracks

  z_stands : slice_get (p.run ++ e.wish ∷ []) n ≡ Some e.wish
  z_stands = slice_get-get_or (p.run ++ e.wish ∷ []) n e.wish (omega (arith, long, length-append p.run (e.wish ∷ []))) ∙ ap Some (get_or_push p.run e.wish e.wish n long)

  -- the track of the one who fires
  fires_track : (t : Track) → e.caller ≡ t.caller → IsTrackOf sys p.log p.run t → IsTrackOf sys (p.log ++ e ∷ []) (p.run ++ e.wish ∷ []) (track_does z t)
  fires_track t is h = track_grows sys p.log (p.log ++ e ∷ []) (p.run ++ e.wish ∷ []) t z (made_by-own t.caller p.log e is) z_stands
      (λ y has. subst (IsBefore' y) long (before_longer sys p.run (e.wish ∷ []) y (length p.run) (omega arith) (before_end sys p.run y (h.stands y has))))
      h.made
      (λ y has. stands_longer sys p.run (e.wish ∷ []) y (h.stands y has))
      (track_longer sys p.log p.log p.run (e.wish ∷ []) t refl h).in_order
    where
      IsBefore' : Item → ℕ → Type 0
      IsBefore' y q = Follows sys (p.run ++ e.wish ∷ []) y (Made q e.wish)

  -- what the firing leaves in a cell that it moves
  store_latest : (s : Reading) → Has s stores → IsLatest sys (p.run ++ e.wish ∷ []) s
  store_latest s has =
      let m = firing.moved s has in
      let c = firing.counted s has in
      let old = (f.known c.0 c.1).2.moves in
      record {
        moves = omega (arith, c.3, old, ap (moves_in sys p.run) c.2, moves_hit sys p.run e.wish s.cell m.1);
        content = subst (λ (u : WholeParts). HasContent sys u s.cell s.content) (sym (after_push sys (start_of sys) p.run e.wish)) (firing.contents now proper knows s has);
      }

  -- after the new entry a look at a near cell shows all, but at what is owed
  entry_reach : (i : Cell) → IsCell sys i → IsBehind sys (p.run ++ e.wish ∷ []) z i (p.shown i) ⊎ Owes w i
  entry_reach i cell = by_move (is_moved sys i e.wish) refl
    where
      by_move : (b : Bool) → is_moved sys i e.wish ≡ b → IsBehind sys (p.run ++ e.wish ∷ []) z i (p.shown i) ⊎ Owes w i
      by_move true is = inr (firing.all i cell is)
      by_move false is = inl (λ near.
          let all = all_shown sys callers room p words views id near.0 i v r at cell near.2 (plan near.0 near.1) done in
          let whole : moves_before sys (p.run ++ e.wish ∷ []) i (suc n) ≡ moves_in sys (p.run ++ e.wish ∷ []) i = ap (λ (u : List Wish). moves_in sys u i) (take_all (suc n) (p.run ++ e.wish ∷ []) (omega (arith, long, length-append p.run (e.wish ∷ [])))) in
          omega (arith, all, whole, moves_miss sys p.run e.wish i is))

  mine_fits : (x : ℕ) → Fits sys callers (longer p e) (set words 0 x) id w
  mine_fits x = record {
    numbers = λ c has. f.numbers c (subst (Has c) same has);
    apart = subst (InTurn (λ (c d : ℕ). c ≢ d)) (sym same) f.apart;
    tracks = λ t has. let old = has_map (track_does z) t v.tracks has in
        subst (IsTrackOf sys (p.log ++ e ∷ []) (p.run ++ e.wish ∷ [])) old.2 (fires_track old.0 (only old.0.caller e.caller (callers_of v) mine (has_caller old.0 v.tracks old.1)) (f.tracks old.0 old.1));
    locks = λ l has. let old = f.locks l has in (old.0, same ∙ old.1, lock-set_counter words x l ∙ old.2, old.3);
    back = λ c l has lt is. f.back c l (subst (Has c) same has) lt (sym (lock-set_counter words x l) ∙ is);
    known = λ o has. absurd has;
    owed = λ s has. let m = firing.moved s has in (m.0, (λ l g. plan l (guards_planned sys s.cell e.wish l m.0 m.1 g)), store_latest s has, refl);
    reach = λ t y i has in_t cell. let old = has_map (track_does z) t v.tracks has in
        ⊎_elim
        (λ (a : Has y old.0.items). ⊎_elim
        (λ (b : IsBehind sys p.run y i (p.shown i)). inl (behind_longer sys p.run (e.wish ∷ []) y i (p.shown i) ((f.tracks old.0 old.1).stands y a) b))
        (λ (o : Owes v i). absurd (nothing_in o.0 v.owed done o.1))
        (f.reach old.0 y i old.1 a cell))
        (λ (q : z ≡ y). subst (λ (x : Item). IsBehind sys (p.run ++ e.wish ∷ []) x i (p.shown i) ⊎ Owes w i) q (entry_reach i cell))
        (has_push y z old.0.items (subst (λ (u : Track). Has y u.items) (sym old.2) in_t));
  }

  roomy_after : length (made_by e.caller p.log) < room → (c : ℕ) → c < callers → length (made_by c (p.log ++ e ∷ [])) ≤ room
  roomy_after space c lt = ⊎_elim
      (λ (is : e.caller ≡ c). omega (arith, ap length (made_by-own c p.log e is), length-append (made_by c p.log) (record { number = length p.log; wish = e.wish } ∷ []), ap (λ (m : ℕ). length (made_by m p.log)) is, space))
      (λ (ne : e.caller ≢ c). omega (arith, ap length (made_by-other c p.log e ne), r.roomy c lt))
      (cases_eq e.caller c)

  owing_after : (i : Cell) → IsCell sys i → (p.shown i ≡ moves_in sys (p.run ++ e.wish ∷ []) i) ⊎ ((p.shown i + 1 ≡ moves_in sys (p.run ++ e.wish ∷ []) i) × IsOwed (set views id w) i)
  owing_after i cell = by_move (is_moved sys i e.wish) refl
    where
      by_move : (b : Bool) → is_moved sys i e.wish ≡ b → (p.shown i ≡ moves_in sys (p.run ++ e.wish ∷ []) i) ⊎ ((p.shown i + 1 ≡ moves_in sys (p.run ++ e.wish ∷ []) i) × IsOwed (set views id w) i)
      by_move true is = inr (omega (arith, shown_before i cell is, moves_hit sys p.run e.wish i is), (id, w, here_set views id v w at, firing.all i cell is))
      by_move false is = ⊎_elim
          (λ (a : p.shown i ≡ moves_in sys p.run i). inl (omega (arith, a, moves_miss sys p.run e.wish i is)))
          (λ (o : (p.shown i + 1 ≡ moves_in sys p.run i) × IsOwed views i). inr (omega (arith, o.0, moves_miss sys p.run e.wish i is), owed_set views id v w i at (λ q. absurd (nothing_in q.0 v.owed done q.1)) o.1))
          (r.owing i cell)

  pub fires : length (made_by e.caller p.log) < room → IsKept sys callers room (longer p e) (set words 0 (length p.log + 1)) (set views id (committed v (length p.log) e.wish stores))
  fires space = record {
    lawful = r.lawful;
    named = ap (λ (u : List Wish). u ++ e.wish ∷ []) r.named ∙ sym (wishes_push p.log e);
    is_run = run_grows sys (start_of sys) p.run e.wish r.is_run (firing.moves now proper knows);
    wide = length-set words 0 (length p.log + 1) ∙ r.wide;
    counter = get_or-set_same words 0 (length p.log + 1) 0 (omega (arith, r.wide)) ∙ sym (length-append p.log (e ∷ []));
    below = below-append callers p.log e r.below own.1;
    roomy = roomy_after space;
    holders = λ l h. omega (arith, r.holders l h, lock-set_counter words (length p.log + 1) l);
    fits = each_set (Fits sys callers p words) (Fits sys callers (longer p e) (set words 0 (length p.log + 1))) views id w r.fits (λ j u apart g. others j (length p.log + 1) u apart g) (mine_fits (length p.log + 1));
    shows = λ i cell. let s = r.shows i cell in (s.0, shows_longer sys p.run (e.wish ∷ []) i (p.shown i) s.0 s.1, cell-set_counter sys words (length p.log + 1) i ∙ s.2);
    owing = owing_after;
  }

track_of : (ts : List Track) (c : ℕ) → map (λ (t : Track). t.caller) ts ≡ c ∷ [] → (t : Track) × Has t ts × (t.caller ≡ c)
track_of [] c e = absurd (cc)
track_of (t ∷ ts) c e = (t, inl refl, cc)

-- what the add to the counter asks
pub commits_allow : (setting : Setting) (slots id : ℕ) (me : Mine) (c : ℕ) (wish : Wish) (stores : List Reading) → callers_of me.0 ≡ c ∷ [] → HoldsPlan setting.system me.0 wish.process → me.0.owed ≡ [] → IsFiring setting.system me.0.known wish stores
    → ((t : Track) → Has t me.0.tracks → length (made_of t.items) < setting.room) → Allows (Kept setting) slots id me 0 (λ n. (n + 1) % 2 ^ 64) (commits wish stores (step slots 0 1 0 none) me)
commits_allow setting slots id me c wish stores mine plan done firing space st (p, r) size at small =
    let sys = setting.system in
    let e : Firing = record { caller = c; wish = wish } in
    let f = r.fits id me.0 at in
    let short = entries_few setting p st.words st.views r in
    let next : (get_or st.words 0 0 + 1) % 2 ^ 64 ≡ length p.log + 1 = (let a : get_or st.words 0 0 ≡ length p.log = r.counter in omega (arith, a, short)) in
    let track = track_of me.0.tracks c mine in
    let own_space : length (made_by c p.log) < setting.room = omega (arith, space track.0 track.1, ap length (f.tracks track.0 track.1).made, ap (λ (m : ℕ). length (made_by m p.log)) track.2) in (
      committed me.0 (length p.log) wish stores,
      keeps,
      tt,
      (
        longer p e,
        subst (λ (m : ℕ). IsKept sys setting.callers setting.room (longer p e) (set st.words 0 m) (set st.views id (committed me.0 (length p.log) wish stores))) (sym next)
            (fires sys setting.callers setting.room p st.words st.views r e id me.0 stores at mine plan done firing own_space),
      ),
      (ap (λ (m : ℕ). committed me.0 m wish stores) (sym r.counter), refl),
    )
