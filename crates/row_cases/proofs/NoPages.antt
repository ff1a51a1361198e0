-- A set of no page.
use Rattle.std.specs.Prelude.{◌≡◌, [], replicate}
use Rattle.std.proofs.lemmas.List.{get_or-replicate}
use Rattle.page_cache.specs.StoredSet.{pages_in}
use Rattle.page_cache.proofs.StoredSets.{none-in}

-- sixteen words of no bit have no page
pub no_pages : pages_in (replicate 16 0) ≡ []
no_pages = none-in (replicate 16 0) (λ place low. get_or-replicate 16 place 0 0 low)
