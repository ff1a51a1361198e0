use Rattle.std.proofs.Common.{sym, ◌∙◌}
use Rattle.mapping.proofs.FirstPlace.{found-place, no-place}
use Rattle.mapping.proofs.windows.first_free.Goals as goal

pub returns-in-Some : goal.returns-in-Some
returns-in-Some c = found-place c.args.places.now c.in-Some.place (sym c.free_place.ensures ∙ c.in-Some.is)

pub returns-in-None : goal.returns-in-None
returns-in-None c = no-place c.args.places.now (sym c.free_place.ensures ∙ c.in-None.is)
