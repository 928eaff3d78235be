use Rattle.std.proofs.Common.{ℕ, ◌≡◌, ◌≤◌, ◌+◌, length, arith, sym, ◌∙◌, ap, subst}
use Rattle.interconnection.specs.Graph.{degree_of}
use Rattle.interconnection.specs.Network.{NetworkParts}
use Rattle.conjunctive_compose.specs.System.{SystemParts}
use Rattle.firing_words.specs.Hands.{Agrees, view}
use Rattle.firing_words.specs.Lists.{Has}
use Rattle.firing_words.proofs.HandLaws.{agrees_judged}
use Rattle.firing_words.proofs.words.Words.judge.Goals as goal

pub gather-requires-clause-known : goal.gather-requires-clause-known
gather-requires-clause-known c r has = c.requires.of.agrees.sound r (subst (Has r) c.deref.ensures.value has)

pub gather-requires-clause-space : goal.gather-requires-clause-space
gather-requires-clause-space c =
    let k = c.args.wish.process in
    let net = c.network.ensures.network ∙ ap (λ (s : SystemParts). s.network) c.system.ensures.system in
    let degree = c.neighbours-list.ensures.degree ∙ ap (λ (n : NetworkParts). degree_of n.edges k) net in
    let space = c.requires.of.space k c.requires.fits.process_in in
    omega (arith, degree, space.0)

pub judge_star-answer-requires-clause-space : goal.judge_star-answer-requires-clause-space
judge_star-answer-requires-clause-space c =
    let k = c.args.wish.process in
    let net = c.network.ensures.network ∙ ap (λ (s : SystemParts). s.network) c.system.ensures.system in
    let degree = c.neighbours-list.ensures.degree ∙ ap (λ (n : NetworkParts). degree_of n.edges k) net in
    let space = c.requires.of.space k c.requires.fits.process_in in
    omega (arith, degree, space.1)

pub returns-clause-of : goal.returns-clause-of
returns-clause-of c =
    let hand = c.args.hand.now in
    let of = c.requires.of in
    let sys = c.args.self.now.setting.system in
    let ready = c.judge_star-answer.new.stores.items in
    let size : c.len-hand.result ≡ length ready = omega (arith, c.len-hand.ensures, c.judge_star-answer.new.stores.ok) in
    record {
      seat = of.seat;
      agrees = subst (λ (n : ℕ). Agrees sys (view hand) hand.caller n hand.space.known.items ready) (sym size) (agrees_judged sys (view hand) hand.caller hand.stored hand.space.known.items hand.space.owed.items ready c.requires.done of.agrees);
      space = λ k lt. let s = of.space k lt in (omega (arith, s.0, c.gather.ensures.space), omega (arith, s.1, c.judge_star-answer.ensures.space));
      keeps = of.keeps;
    }
