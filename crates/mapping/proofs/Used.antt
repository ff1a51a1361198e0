-- The mappings that are there, in their order.
use Rattle.std.proofs.Common.{◌≡◌, ℕ, zero, suc, Option, Some, None, List, [], ◌∷◌, option_map, slice_get, refl, ap, ◌∙◌, Bor}
use Rattle.std.specs.List.{filter_map}
use Rattle.std.specs.Option.{option_copied}
use Rattle.vfs_base.specs.declared.step.Step.TheVariants.{Unmap}
use Rattle.vfs_model.specs.Session.{unmap_step}
use Rattle.vfs_model.specs.declared.shell_state.Window.{Window}

-- each mapping that is there is given up by one step
pub unmaps : (mappings : List (Option Window)) (place : ℕ) →
    option_map (λ window. Unmap window.hold) (slice_get (filter_map (λ window. window) mappings) place) ≡ slice_get (filter_map unmap_step mappings) place
unmaps [] place = refl
unmaps (None ∷ mappings) place = unmaps mappings place
unmaps (Some window ∷ mappings) zero = refl
unmaps (Some window ∷ mappings) (suc place) = unmaps mappings place

-- the same of a mapping that was found by its place
pub found-unmaps : (found : Option (Bor Window)) (mappings : List (Option Window)) (place : ℕ) →
    option_copied found ≡ slice_get (filter_map (λ window. window) mappings) place →
    option_map (λ window. Unmap window.now.hold) found ≡ slice_get (filter_map unmap_step mappings) place
found-unmaps None mappings place is = ap (option_map (λ window. Unmap window.hold)) is ∙ unmaps mappings place
found-unmaps (Some window) mappings place is = ap (option_map (λ window. Unmap window.hold)) is ∙ unmaps mappings place
