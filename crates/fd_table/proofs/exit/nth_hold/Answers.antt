use Rattle.std.proofs.Common.{sym, ◌∙◌, arith, rules}
use Rattle.vfs_model.specs.declared.shell_state.OpenFiles.{OpenFiles}
use Rattle.fd_table.proofs.Exits.{exits-passed, exits-skipped}
use Rattle.fd_table.proofs.exit.nth_hold.Goals as goal
use Rattle.fd_table.proofs.exit.nth_hold.Goals.{in-Some+else-left-eq0, in_default}

pub loop-at-preserved : goal.loop-at-preserved
loop-at-preserved c =
    let f : OpenFiles = record { descriptors = c.args.descriptors.now; files = c.args.files.now } in
    elim c.match-hold_at.branch [
      | in-Some+else-left-eq0 w ↦ rw w.left-is (exits-passed f c.args.descriptors.now c.loop-at.at c.loop-at.left w.in-Some.hold (search rules) (sym c.hold_at.ensures ∙ w.in-Some.is) (omega arith) ∙ c.loop-at.invariant)
      | in_default w ↦ rw w.left-is (exits-skipped f c.args.descriptors.now c.loop-at.at c.loop-at.left (search rules) (sym c.hold_at.ensures ∙ w.in_default.is) ∙ c.loop-at.invariant)
    ]
