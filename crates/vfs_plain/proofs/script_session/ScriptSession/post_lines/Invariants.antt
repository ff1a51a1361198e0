use Rattle.std.proofs.Common.{◌≡◌, ◌-◌, true, List, length}
use Rattle.vfs_base.specs.declared.reply.Reply.{Reply}
use Rattle.msh_session.specs.SessionTalks.{is_ready}
use Rattle.vfs_plain.specs.ScriptSessions.{Pauses}
use Rattle.vfs_plain.proofs.script_session.ScriptSession.post_lines.Given as goal

abbrev pub invariant-loop : goal.invariant-loop
invariant-loop l = record {
  ready : is_ready l.self.session ≡ true;
  pauses : (heard : List Reply) → Pauses l.initial.self l.acts heard → Pauses l.self l.acts heard;
  number : l.self.k ≡ l.initial.self.k;
}

abbrev pub decreases-loop : goal.decreases-loop
decreases-loop l = length l.acts - l.self.place
