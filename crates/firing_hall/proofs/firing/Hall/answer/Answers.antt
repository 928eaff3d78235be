use Rattle.std.proofs.Common.{◌∙◌, sym, ap, subst, map}
use Rattle.interconnection.specs.Graph.{degree_of}
use Rattle.interconnection.specs.Network.{NetworkParts}
use Rattle.conjunctive_compose.specs.System.{SystemParts}
use Rattle.firing_words.specs.declared.view.Track.{Track}
use Rattle.firing_words.specs.Lists.{Has}
use Rattle.firing_words.specs.Hands.{view}
use Rattle.firing_hall.proofs.Replying.{replied_around, room_same}
use Rattle.firing_hall.proofs.Same.{holds_as, holds_first, same_tracks}
use Rattle.firing_hall.proofs.firing.Hall.answer.Goals as goal

pub read_star-requires-clause-plan : goal.read_star-requires-clause-plan
read_star-requires-clause-plan g c = λ l planned. (c.requires.held l).1 ((c.requires.plan.exactly l).1 planned)

pub reply-reply-requires-clause-mine : goal.reply-reply-requires-clause-mine
reply-reply-requires-clause-mine g c = (c.requires.mine.0, ap (map (λ (t : Track). t.caller)) c.read_star.ensures.rest.0 ∙ c.requires.mine.1)

pub reply-reply-requires-clause-plan : goal.reply-reply-requires-clause-plan
reply-reply-requires-clause-plan g c = λ l planned. subst (Has l) (sym c.read_star.ensures.rest.1) ((c.requires.held l).1 ((c.requires.plan.exactly l).1 planned))

pub read_star-requires-clause-all : goal.read_star-requires-clause-all
read_star-requires-clause-all g c =
    let net = c.network.ensures.network ∙ ap (λ (s : SystemParts). s.network) c.system.ensures.system in
    c.neighbours-list.ensures.degree ∙ ap (λ (n : NetworkParts). degree_of n.edges c.args.wish.process) net

pub reply-reply-requires-clause-room : goal.reply-reply-requires-clause-room
reply-reply-requires-clause-room g c = room_same (view c.args.hand.now) (view c.read_star.new.hand) _ (same_tracks _ (view c.read_star.new.hand) c.read_star.ensures.rest.0) c.requires.room

pub release-requires-clause-held : goal.release-requires-clause-held
release-requires-clause-held g c = holds_first (view c.reply-reply.new.hand) c.args.plan.now (holds_as (view c.args.hand.now) (view c.reply-reply.new.hand) c.args.plan.now (c.reply-reply.ensures.held ∙ c.read_star.ensures.rest.1) c.requires.held)

pub returns-clause-replied : goal.returns-clause-replied
returns-clause-replied g c = λ caller.
    replied_around c.args.self.now.words.setting.system caller c.args.wish (view c.args.hand.now) (view c.read_star.new.hand) (view c.reply-reply.new.hand) (view c.release.new.hand) c.reply-reply.result
    (same_tracks _ (view c.read_star.new.hand) c.read_star.ensures.rest.0)
    c.release.ensures.tracks
    (c.reply-reply.ensures.replied caller)

pub returns-clause-tries : goal.returns-clause-tries
returns-clause-tries g c = ap (map (λ (t : Track). t.tries)) c.release.ensures.tracks ∙ (c.reply-reply.ensures.tries ∙ ap (map (λ (t : Track). t.tries)) c.read_star.ensures.rest.0)
