use Rattle.dfs_run.proofs.OpeningLemmas.{no_bad_rom}
use Rattle.dfs_run.proofs.opening.open_world.Goals as goal

pub unreachable-requires : goal.unreachable-requires
unreachable-requires c =
    no_bad_rom c.args.deck.now c.in-Err-BadRom.field-0-0 c.requires.script (rw c.in-Err-BadRom.field-0-is at c.in-Err-BadRom.ensures.fault)
