use Rattle.std.specs.Prelude.{refl}
use Rattle.row_cases.proofs.NoPages.{no_pages}
use Rattle.row_cases.proofs.rows.cell_body.Goals as goal

pub empty-requires-clause-fresh : goal.empty-requires-clause-fresh
empty-requires-clause-fresh c κs = rw c.in_ok-space.ensures (refl, no_pages)
