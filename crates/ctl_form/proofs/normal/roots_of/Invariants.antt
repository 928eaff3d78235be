use Rattle.std.proofs.Common.{map, take}
use Rattle.ctl_form.specs.Closure.{IsGrown}
use Rattle.ctl_form.specs.Form.{form_of}
use Rattle.ctl_form.specs.Members.{forms_of}
use Rattle.ctl_form.specs.Numbered.{normals}
use Rattle.ctl_form.specs.inside.Roots.{AreRoots}
use Rattle.ctl_form.proofs.normal.roots_of.Given as goal

abbrev pub invariant-loop-conjunct : goal.invariant-loop-conjunct
invariant-loop-conjunct l = record {
  grown : IsGrown (forms_of l.members);
  roots : AreRoots (normals (map form_of (take l.conjunct-index l.conjuncts))) l.initial.members l.members l.roots.items;
}
