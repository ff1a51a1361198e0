use Rattle.std.proofs.Common.{◌∙◌, ap, refl}
use Rattle.msh_session.specs.SessionTalks.{is_ready}
use Rattle.vfs_plain.proofs.Calls.{adds-one, pushed-last}
use Rattle.vfs_plain.proofs.taking.add_session.Goals as goal

pub post_lines-requires : goal.post_lines-requires
post_lines-requires c =
    let one = pushed-last c.args.sessions.now.items c.push.new.self.items c.args.place c.in_ok-session.session c.index_mut.result.now
    c.requires.count c.in_ok-push.ensures.items c.index_mut.ensures.value in
    ap (λ p. is_ready p.session) one ∙ c.in_ok-session.ensures.ready

pub returns : goal.returns
returns c =
    adds-one c.post_lines.result c.args.sessions.now.items c.push.new.self.items _ c.args.deck.now.acts c.as_slice.result.now c.args.place
    c.in_ok-session.session c.index_mut.result.now c.post_lines.new.self c.requires.count c.in_ok-push.ensures.items c.index_mut.ensures.value
    refl c.as_slice.ensures (c.in_ok-session.ensures.pauses c.args.deck.now.acts) (c.in_ok-session.ensures.number ∙ c.session_at.ensures)
    c.post_lines.ensures.number c.post_lines.ensures.plays
