use Rattle.std.proofs.Common.{◌∷◌, [], inl, refl, sym, subst, arith}
use Rattle.firing_words.specs.History.{Making}
use Rattle.firing_words.specs.Lists.{Has}
use Rattle.firing_hall.specs.inside.Gathering.{makings_of}
use Rattle.firing_journal.specs.declared.asked.Asked.{Asked}
use Rattle.firing_hall.proofs.gathering.place_one.Goals as goal

pub prove-unreachable-requires : goal.prove-unreachable-requires
prove-unreachable-requires c =
    let m : Making = record { number = c.in-Fired.number; wish = c.in-Fired.wish } in
    let a = c.requires.within m (subst (λ (item : Asked). Has m (makings_of (item ∷ []))) (sym c.in-Fired.is) (inl refl)) in
    omega (arith, a, c.if-prove.true)
