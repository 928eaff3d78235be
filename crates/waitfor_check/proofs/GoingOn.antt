-- With an accepted certificate no run ends where nobody may go on.
use Rattle.conjunctive_compose.proofs.Peelings.{first_enabled}
use Rattle.waitfor_check.specs.Laws.{AcceptedGoesOn}
use Rattle.waitfor_check.proofs.Keeping.{keeps_on, keeps_start}

pub accepted_goes_on : AcceptedGoesOn
accepted_goes_on sys stars wishes lawful accepted run =
    let keeps = keeps_on sys stars _ wishes lawful accepted (keeps_start sys stars lawful accepted) run in record { peel = keeps.peel; enables = first_enabled sys _ keeps.peel }
