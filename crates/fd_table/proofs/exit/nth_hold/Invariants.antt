use Rattle.std.proofs.Common.{◌≡◌, slice_get, drop}
use Rattle.fd_table.proofs.Exits.{exits}
use Rattle.fd_table.proofs.exit.nth_hold.Given as goal

abbrev pub invariant-loop-at : goal.invariant-loop-at
invariant-loop-at l =
    slice_get (exits (record { descriptors = l.descriptors; files = l.files }) (drop l.at l.descriptors)) l.left
    ≡ slice_get (exits (record { descriptors = l.descriptors; files = l.files }) l.descriptors) l.place
