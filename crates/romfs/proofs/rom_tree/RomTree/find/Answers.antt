use Rattle.std.proofs.Common.{rules, Err, refl}
use Rattle.std.specs.List.Sorted.{IsBinarySearchResult}
use Rattle.vfs_base.specs.Path.{path_cmp}
use Rattle.romfs.proofs.RomTreeLemmas.{item_found, item_missing}
use Rattle.romfs.proofs.rom_tree.RomTree.find.Goals as goal

pub returns-in-Ok-clause-node : goal.returns-in-Ok-clause-node
returns-in-Ok-clause-node c =
    let found = item_found c.self.inside.items c.self.invariant.ordered c.args.path.now c.in-Ok.place c.index-items-place.result (search rules) (search rules) (search rules) in
    rw (← c.self.view_is, found) (search rules)

pub returns-in-Err-clause-node : goal.returns-in-Err-clause-node
returns-in-Err-clause-node c =
    let items = c.self.inside.items in
    let parted : IsBinarySearchResult (λ item. path_cmp item.0 c.args.path.now) items (Err c.in-Err.field-0) = rw (← c.as_slice-items.ensures) c.in-Err.ensures.place in
    rw (← c.self.view_is, item_missing items c.self.invariant.ordered c.args.path.now c.in-Err.field-0 parted) refl
