use Rattle.std.proofs.Common.{◌≡◌, ◌∙◌, ap, refl, subst}
use Rattle.interconnection.specs.Graph.{IsLockPlan}
use Rattle.interconnection.specs.Network.{NetworkParts}
use Rattle.conjunctive_compose.specs.System.{IsSystem, SystemParts}
use Rattle.firing_hall.proofs.Plans.{plan_of}
use Rattle.firing_words.specs.Hands.{view}
use Rattle.firing_hall.proofs.Losing.{is_answered, lost_then, not_busy}
use Rattle.firing_hall.proofs.Replying.{replied_around, room_same}
use Rattle.firing_hall.proofs.firing.Hall.fire_by.Goals as goal

pub take_all-requires-clause-plan : goal.take_all-requires-clause-plan
take_all-requires-clause-plan g c =
    let sys = c.args.self.now.words.setting.system in
    let same : c.network-network.result.now ≡ sys.network = c.network-network.ensures.network ∙ ap (λ (s : SystemParts). s.network) c.system.ensures.system in
    plan_of sys c.args.wish.process c.lock_plan-plan.result.now (subst IsSystem c.system.ensures.system c.system.ensures.lawful) c.requires.fits.process_in (subst (λ (n : NetworkParts). IsLockPlan n.edges c.args.wish.process c.lock_plan-plan.result.now) same c.lock_plan-plan.ensures)

pub answer-requires-clause-plan : goal.answer-requires-clause-plan
answer-requires-clause-plan g c =
    let sys = c.args.self.now.words.setting.system in
    let same : c.network-network.result.now ≡ sys.network = c.network-network.ensures.network ∙ ap (λ (s : SystemParts). s.network) c.system.ensures.system in
    plan_of sys c.args.wish.process c.lock_plan-plan.result.now (subst IsSystem c.system.ensures.system c.system.ensures.lawful) c.requires.fits.process_in (subst (λ (n : NetworkParts). IsLockPlan n.edges c.args.wish.process c.lock_plan-plan.result.now) same c.lock_plan-plan.ensures)

pub answer-requires-clause-mine : goal.answer-requires-clause-mine
answer-requires-clause-mine g c = (c.requires.mine.0, c.take_all.ensures.items.callers ∙ c.requires.mine.1)

pub answer-requires-clause-room : goal.answer-requires-clause-room
answer-requires-clause-room g c = room_same (view c.args.hand.now) (view c.take_all.new.hand) _ c.take_all.ensures.items c.requires.room

pub returns-clause-replied : goal.returns-clause-replied
returns-clause-replied g c =
    replied_around c.args.self.now.words.setting.system c.args.hand.now.caller c.args.wish (view c.args.hand.now) (view c.take_all.new.hand) (view c.answer.new.hand) (view c.answer.new.hand) c.answer.result
    c.take_all.ensures.items
    refl
    (c.answer.ensures.replied c.args.hand.now.caller)

pub returns-clause-tried : goal.returns-clause-tried
returns-clause-tried g c =
    let tried = c.in_default.ensures.tried in
    (tried.0, lost_then c.args.self.now.words.setting.system c.args.wish.process tried.0 (view c.args.hand.now) (view c.take_all.new.hand) (view c.answer.new.hand) tried.1 c.answer.ensures.tries, λ _. tried.2)

pub returns-clause-busy : goal.returns-clause-busy
returns-clause-busy g c =
    not_busy c.args.self.now.words.setting.system c.args.self.now.words.setting.callers c.args.hand.now.caller c.args.wish c.args.tries (view c.take_all.new.hand) (view c.answer.new.hand) (view c.args.hand.now) (view c.answer.new.hand) c.answer.result c.answer.ensures.replied

pub returns-clause-spared : goal.returns-clause-spared
returns-clause-spared g c not = absurd (not (is_answered c.args.self.now.words.setting.system c.args.wish (view c.take_all.new.hand) (view c.answer.new.hand) c.answer.result c.answer.ensures.replied))
