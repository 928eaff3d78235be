use Rattle.std.proofs.Common.{ℕ, ◌≡◌, Some, None, [], ◌∷◌, length, length-append, arith, sym, ◌∙◌, ap, subst}
use Rattle.firing_words.specs.Hands.{view}
use Rattle.firing_hall.specs.Passes.{IsToldOf, kept_of, with_kept}
use Rattle.firing_hall.specs.Tries.{IsBusyAfter}
use Rattle.firing_hall.proofs.Keeping.{has_room, keeps_reply, one_caller, same_caller}
use Rattle.firing_hall.proofs.Losing.{never_busy, tried_none}
use Rattle.firing_hall.proofs.firing.Hall.fire_at.Goals as goal

pub fire_by-reply-requires-clause-mine : goal.fire_by-reply-requires-clause-mine
fire_by-reply-requires-clause-mine g c = let pass = c.args.pass.now in (pass.caller, one_caller c.args.self.now.words.setting.system (view pass.hand) pass.caller pass.asked.items c.requires.of.told)

pub fire_by-reply-requires-clause-room : goal.fire_by-reply-requires-clause-room
fire_by-reply-requires-clause-room g c =
    let pass = c.args.pass.now in
    let of = c.requires.of in
    has_room c.args.self.now.words.setting.system (view pass.hand) pass.caller c.args.self.now.words.setting.room pass.asked.items of.told (omega (arith, of.few, of.room, c.if-len-pass.false, c.len.ensures, pass.asked.ok))

pub returns-in-Some-clause-of : goal.returns-in-Some-clause-of
returns-in-Some-clause-of g c =
    let pass = c.args.pass.now in
    let sys = c.args.self.now.words.setting.system in
    let of = c.requires.of in
    let e = c.fire_by-reply.ensures in
    let push = c.push_reserved.ensures in
    let kept : kept_of c.args.wish c.fire_by-reply.result ≡ Some c.in-Some.item = sym c.asked_of.ensures ∙ c.in-Some.is in
    let told = keeps_reply sys pass.hand.caller pass.caller c.args.wish (view pass.hand) (view c.fire_by-reply.new.hand) pass.asked.items c.fire_by-reply.result c.requires.fits of.told e.replied in
    record {
      of = e.of;
      quiet = e.quiet;
      told = subst (IsToldOf sys (view c.fire_by-reply.new.hand) pass.caller) (ap (with_kept pass.asked.items) kept ∙ sym push.items) told;
      below = of.below;
      room = of.room;
      few = omega (arith, ap length push.items, length-append pass.asked.items (c.in-Some.item ∷ []), of.few, c.if-len-pass.false, c.len.ensures, pass.asked.ok);
      reserved = omega (arith, of.reserved, push.capacity);
    }

pub returns-in-None-clause-of : goal.returns-in-None-clause-of
returns-in-None-clause-of g c =
    let pass = c.args.pass.now in
    let sys = c.args.self.now.words.setting.system in
    let of = c.requires.of in
    let e = c.fire_by-reply.ensures in
    let kept : kept_of c.args.wish c.fire_by-reply.result ≡ None = sym c.asked_of.ensures ∙ c.in-None.is in
    let told = keeps_reply sys pass.hand.caller pass.caller c.args.wish (view pass.hand) (view c.fire_by-reply.new.hand) pass.asked.items c.fire_by-reply.result c.requires.fits of.told e.replied in
    record {
      of = e.of;
      quiet = e.quiet;
      told = subst (IsToldOf sys (view c.fire_by-reply.new.hand) pass.caller) (ap (with_kept pass.asked.items) kept) told;
      below = of.below;
      room = of.room;
      few = of.few;
      reserved = of.reserved;
    }

pub returns-then-len-pass-clause-tried : goal.returns-then-len-pass-clause-tried
returns-then-len-pass-clause-tried g c = tried_none c.args.self.now.words.setting.system c.args.wish c.args.tries (view c.args.pass.now.hand)

pub returns-in-Some-clause-busy : goal.returns-in-Some-clause-busy
returns-in-Some-clause-busy g c =
    let words = c.args.self.now.words in
    let pass = c.args.pass.now in
    let same = same_caller words pass.hand pass.caller pass.asked.items c.requires.of.of c.requires.of.told in
    subst (λ (n : ℕ). IsBusyAfter words.setting.system words.setting.callers n c.args.wish c.args.tries (view pass.hand) (view c.fire_by-reply.new.hand) c.fire_by-reply.result) same c.fire_by-reply.ensures.busy

pub returns-in-None-clause-busy : goal.returns-in-None-clause-busy
returns-in-None-clause-busy g c =
    let words = c.args.self.now.words in
    let pass = c.args.pass.now in
    let same = same_caller words pass.hand pass.caller pass.asked.items c.requires.of.of c.requires.of.told in
    subst (λ (n : ℕ). IsBusyAfter words.setting.system words.setting.callers n c.args.wish c.args.tries (view pass.hand) (view c.fire_by-reply.new.hand) c.fire_by-reply.result) same c.fire_by-reply.ensures.busy

pub returns-in-None-clause-alone : goal.returns-in-None-clause-alone
returns-in-None-clause-alone g c one busy =
    let words = c.args.self.now.words in
    let pass = c.args.pass.now in
    never_busy words.setting.system words.setting.callers pass.caller c.args.wish c.args.tries (view pass.hand) (view c.fire_by-reply.new.hand) c.fire_by-reply.result c.requires.of.below one (returns-in-None-clause-busy g c) busy
