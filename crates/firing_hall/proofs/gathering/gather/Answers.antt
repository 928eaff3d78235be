use Rattle.std.proofs.Common.{◌≡◌, ◌++◌, ℕ, List, length, map, drop, take, ap, sym, ◌∙◌, subst, arith}
use Rattle.std.proofs.Math.Seq.{take-append_seam}
use Rattle.firing_journal.specs.Journal.{AreNumbered}
use Rattle.firing_hall.specs.inside.Gathering.{all_placed}
use Rattle.firing_hall.specs.Reports.{log_of}
use Rattle.firing_journal.specs.declared.journal.Entry.{Entry}
use Rattle.firing_hall.proofs.Gathered.{gathered, length-all_placed}
use Rattle.firing_hall.proofs.gathering.gather.Goals as goal

pub returns : goal.returns
returns c =
    let lists = map (λ v. v.items) c.args.lists.now in
    let items = c.fill.new.entries.items in
    let new = c.place_lists.new.entries in
    let long : length items ≡ c.args.count = c.fill.ensures in
    let placed_is : new ≡ all_placed items 0 lists = c.place_lists.ensures ∙ ap (λ (es : List Entry). all_placed es 0 lists) c.as_mut_slice.ensures.value in
    let new_long : length new ≡ length items = ap length placed_is ∙ length-all_placed items 0 lists in
    let whole : take c.fill.new.entries.len (new ++ drop (length new) items) ≡ new = (ap (λ (n : ℕ). take n (new ++ drop (length new) items)) (omega (arith, new_long, c.fill.new.entries.ok))) ∙ take-append_seam new (drop (length new) items) in
    record {
      entries = λ log count are. subst (λ (es : List Entry). (log_of es ≡ log) × AreNumbered es) (sym (whole ∙ placed_is)) (gathered log lists items are (long ∙ sym count));
    }
