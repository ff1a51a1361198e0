use Rattle.std.proofs.Common.{rules}
use Rattle.std.proofs.lemmas.Fn.{always_returns_same}
use Rattle.vfs_base.specs.Path.{path_cmp}
use Rattle.romfs.proofs.rom_tree.place_of.Goals as goal

pub returns-clause-place : goal.returns-clause-place
returns-clause-place c =
    c.binary_search_by.ensures.position (λ item. path_cmp item.0 c.args.path.now) (always_returns_same _ _ _ (λ a r f called. search rules))
