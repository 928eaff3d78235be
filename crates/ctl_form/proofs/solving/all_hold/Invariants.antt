use Rattle.std.proofs.Common.{ℕ, ◌<◌, All, map, take}
use Rattle.ctl_form.specs.Form.{form_of}
use Rattle.ctl_form.specs.inside.Known.{AreKnown}
use Rattle.ctl_form.specs.Truth.{Holds}
use Rattle.ctl_form.proofs.solving.all_hold.Given as goal

abbrev pub invariant-loop-form : goal.invariant-loop-form
invariant-loop-form l = record {
  known : AreKnown l.m l.known;
  holds : (s : ℕ) → s < l.count → All (λ f. Holds l.m f s) (map form_of (take l.form-index l.forms));
}
