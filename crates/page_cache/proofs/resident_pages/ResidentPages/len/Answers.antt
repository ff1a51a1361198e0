use Rattle.std.proofs.Common.{subst}
use Rattle.page_cache.specs.Resident.{AreResident}
use Rattle.page_cache.proofs.Held.{as-resident}
use Rattle.page_cache.proofs.resident_pages.ResidentPages.len.Goals as goal

pub returns-clause-sound : goal.returns-clause-sound
returns-clause-sound c = subst AreResident c.self.view_is (as-resident c.self.inside.pages c.self.invariant)
