use Rattle.std.proofs.Common.{◌≡◌, false, refl}
use Rattle.vfs_plain.proofs.Calls.{session-hears}
use Rattle.vfs_plain.proofs.stage.Stage.tell.Goals as goal
use Rattle.vfs_plain.proofs.stage.Stage.tell.Goals.{in-End, in_default}

pub returns : goal.returns
returns c =
    let over : c.match-matches.self ≡ false =
    elim c.match-matches.branch [
      | in-End w ↦ let end = w.in-End.is in let session = c.in-Session.is in absurd (cc)
      | in_default w ↦ w.self-is
    ] in
    session-hears c.args.self.now c.args.who c.in-Session.k c.place.result c.index_mut.result.now c.in-Session.is
    c.place.ensures.value c.place.ensures.least c.place.ensures.below c.index_mut.ensures.value
    c.hear.result _ c.args.deck.now.acts c.as_slice.result.now c.args.reply.now c.hear.new.self c.as_slice.ensures refl over refl
    c.hear.ensures.number c.hear.ensures.plays
