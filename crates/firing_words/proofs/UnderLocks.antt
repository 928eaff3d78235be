-- A word is read under its locks.
use Rattle.std.proofs.Common.{ℕ, ◌≡◌, ◌<◌, ◌≤◌, ⊎_elim, List, [], ◌∷◌, set, arith, refl, sym, subst}
use Rattle.std.proofs.lemmas.List.{set-get_or}
use mathlib.Core.Option.{none, some}
use lib.ListN.{get_elem?}
use Rattle.atomic_table.specs.Table.{step, keeps, Allows}
use Rattle.conjunctive_compose.specs.System.{SystemParts}
use Rattle.conjunctive_compose.specs.Whole.{start_of}
use Rattle.conjunctive_compose.specs.Run.{whole_after}
use Rattle.firing_words.specs.declared.limits.TheConstants.{MAX_ENTRIES}
use Rattle.firing_words.specs.declared.cell.Cell.{Cell}
use Rattle.firing_words.specs.declared.cell.Reading.{Reading}
use Rattle.firing_words.specs.declared.rule.Setting.{Setting}
use Rattle.firing_words.specs.declared.view.View.{View}
use Rattle.firing_words.specs.Cells.{HasContent, IsCell, cell_word, reading}
use Rattle.firing_words.specs.History.{IsLatest, Knows, moves_in}
use Rattle.firing_words.specs.Lists.{Has}
use Rattle.firing_words.specs.inside.Plays.{Mine, reads}
use Rattle.firing_words.specs.Past.{Past}
use Rattle.firing_words.specs.Rule.{Fits, IsKept, Kept}
use Rattle.firing_words.specs.Views.{IsGuarded, knowing}
use Rattle.firing_words.proofs.Cells.{content_small, guarded}
use Rattle.firing_words.proofs.Few.{moves_few}
use Rattle.firing_words.proofs.Histories.{reached_proper}
use Rattle.firing_words.proofs.Lists.{nothing_in}
use Rattle.firing_words.proofs.Seats.{all_shown, latest_word, stays}

pub knows : (sys : SystemParts) (callers room : ℕ) (p : Past) (words : List ℕ) (views : List View) (id : ℕ) (o : Reading) (v : View) → IsKept sys callers room p words views → get_elem? views id ≡ some v → IsCell sys o.cell → IsGuarded sys v o.cell → v.owed ≡ [] → IsLatest sys p.run o
    → IsKept sys callers room p words (set views id (knowing v o))
knows sys callers room p words views id o v r at cell guards done is = stays sys callers room p words views id v (knowing v o) r at fit (λ i q. q)
  where
    f : Fits sys callers p words id v
    f = r.fits id v at

    fit : Fits sys callers p words id (knowing v o)
    fit = record {
      numbers = f.numbers;
      apart = f.apart;
      tracks = f.tracks;
      locks = f.locks;
      back = f.back;
      known = λ q has. ⊎_elim
          (λ (e : o ≡ q). subst (λ (x : Reading). IsCell sys x.cell × IsGuarded sys v x.cell × IsLatest sys p.run x) e (cell, guards, is))
          (λ (h : Has q v.known). f.known q h)
          has;
      owed = λ q has. absurd (nothing_in q v.owed done has);
      reach = f.reach;
    }

-- what the load of a cell's word asks
pub reads_allow : (setting : Setting) (slots id : ℕ) (me : Mine) (i : Cell) → IsCell setting.system i → IsGuarded setting.system me.0 i → me.0.owed ≡ []
    → Allows (Kept setting) slots id me (cell_word setting.system i) (λ n. n) (reads setting.system i (step slots (cell_word setting.system i) 0 0 none) me)
reads_allow setting slots id me i cell guards done st (p, r) size at small =
    let sys = setting.system in
    let k = cell_word sys i in
    let l = guarded sys i in
    let all = all_shown sys setting.callers setting.room p st.words st.views id l.0 i me.0 r at cell l.1 (guards l.0 l.1) done in
    let latest = latest_word sys setting.callers setting.room p st.words st.views i r cell all in
    let m = moves_in sys p.run i in
    let few : m ≤ MAX_ENTRIES = omega (arith, moves_few setting p st.words st.views i r) in
    let o = reading i m latest.0 in
    let possible : Knows sys (o ∷ me.0.known) (whole_after sys (start_of sys) p.run) = λ q has. ⊎_elim
    (λ (e : o ≡ q). subst (λ (x : Reading). HasContent sys (whole_after sys (start_of sys) p.run) x.cell x.content) e latest.1)
    (λ (h : Has q me.0.known). ((r.fits id me.0 at).known q h).2.content)
    has in (
      knowing me.0 o,
      keeps,
      tt,
      (
        p,
        subst (λ ws. IsKept sys setting.callers setting.room p ws (set st.views id (knowing me.0 o))) (sym (set-get_or st.words k 0))
            (knows sys setting.callers setting.room p st.words st.views id o me.0 r at cell guards done (record { moves = refl; content = latest.1 })),
      ),
      (m, latest.0, (latest.2, few, content_small sys (whole_after sys (start_of sys) p.run) i latest.0 r.lawful (reached_proper sys p.run r.lawful r.is_run) cell latest.1), refl, (whole_after sys (start_of sys) p.run, reached_proper sys p.run r.lawful r.is_run, possible), refl),
    )
