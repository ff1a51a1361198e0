use Rattle.std.proofs.Common.{◌≡◌, ◌≤◌, ◌-◌, length}
use Rattle.vfs_plain.specs.ScriptSessions.{lines_from}
use Rattle.vfs_plain.proofs.posted_lines.next_line.Given as goal

abbrev pub invariant-loop-act : goal.invariant-loop-act
invariant-loop-act l = record {
  lines : lines_from l.k l.acts l.initial.place ≡ lines_from l.k l.acts l.place;
  later : l.initial.place ≤ l.place;
}

abbrev pub decreases-loop-act : goal.decreases-loop-act
decreases-loop-act l = length l.acts - l.place
