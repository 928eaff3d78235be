use Rattle.std.proofs.Common.{◌∷◌, inl, refl, sym, ap, subst, w8}
use Rattle.std.proofs.Math.Facts.{Fits-of_lt}
use Rattle.conjunctive_compose.specs.System.{IsSystem}
use Rattle.firing_words.specs.declared.view.View.{View}
use Rattle.firing_words.specs.Hands.{view}
use Rattle.firing_words.specs.History.{IsPossible}
use Rattle.firing_words.proofs.HandLaws.{local_small}
use Rattle.firing_words.proofs.words.Words.read_process.Goals as goal

pub overflow_cast-result : goal.overflow_cast-result
overflow_cast-result c =
    let sys = c.args.self.now.setting.system in
    let told = c.read-shown.ensures in
    let lawful = subst IsSystem c.system-system.ensures.system c.system-system.ensures.lawful in
    Fits-of_lt {w = w8}
    (local_small sys c.args.process c.read-shown.result (c.read-shown.result ∷ (view c.args.hand.now).known) lawful c.requires.within told.cell.0 (inl refl) (subst (λ (u : View). IsPossible sys u.known) told.known told.possible))
