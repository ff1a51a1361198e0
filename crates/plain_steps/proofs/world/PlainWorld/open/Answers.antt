use Rattle.std.proofs.Common.{◌∙◌, ap, map}
use Rattle.vfs_model.specs.Homes.{opening_world}
use Rattle.vfs_model.specs.ScriptRun.{rom_image}
use Rattle.plain_steps.proofs.RomLists.{roms_read}
use Rattle.plain_steps.proofs.world.PlainWorld.open.Goals as goal

pub returns-clause-opens : goal.returns-clause-opens
returns-clause-opens c =
    c.in_ok-world.ensures
    ∙ ap (λ roms. opening_world roms c.args.describe.now)
    (roms_read _ c.in-Ok.roms c.in-Ok.ensures.images ∙ ap (map rom_image) c.as_slice.ensures)
