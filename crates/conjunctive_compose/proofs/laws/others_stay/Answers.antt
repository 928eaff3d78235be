use Rattle.std.proofs.Common.{◌==◌, sym, ◌∙◌, ap}
use Rattle.std.proofs.lemmas.Bool.{ne_eqb}
use Rattle.std.specs.Prelude.{is_some}
use Rattle.conjunctive_compose.specs.Firing.{value_by}
use Rattle.conjunctive_compose.specs.System.{edge_at, side_on}
use Rattle.conjunctive_compose.proofs.Pairs.{other_local, value_fired}
use Rattle.conjunctive_compose.proofs.Replies.{count_passes}
use Rattle.conjunctive_compose.proofs.laws.others_stay.Goals as goal

pub returns : goal.returns
returns c = λ sys w wish. record {
  locals = other_local sys w wish;
  values = λ e lt none. value_fired sys w wish e lt ∙ ap (value_by sys w wish e) none;
  counts = λ run k other. count_passes run wish (λ wish. wish.process == k) (ne_eqb wish.process k (λ same. other (sym same)));
  counts_on = λ run e none. count_passes run wish (λ wish. is_some (side_on (edge_at sys e) wish.process)) (ap is_some none);
}
