use Rattle.std.proofs.Common.{sym, ◌∙◌}
use Rattle.fd_table.proofs.FirstPlace.{found-place, no-place}
use Rattle.fd_table.proofs.places.first_free.Goals as goal

pub returns-in-Some : goal.returns-in-Some
returns-in-Some g c = found-place c.args.places.now c.in-Some.place (sym c.free_place.ensures ∙ c.in-Some.is)

pub returns-in-None : goal.returns-in-None
returns-in-None g c = no-place c.args.places.now (sym c.free_place.ensures ∙ c.in-None.is)
