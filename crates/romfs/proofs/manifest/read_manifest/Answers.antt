use Rattle.std.proofs.Common.{◌≡◌, ◌+◌, rules, Ok, length, sym, ap, ◌∙◌}
use Rattle.std.proofs.lemmas.List.{nil_from_length}
use Rattle.vfs_model.specs.Manifest.{items_from, manifest_tree}
use Rattle.vfs_model.specs.Script.{input_lines}
use Rattle.romfs.proofs.FormLemmas.{IsRom-manifest_tree}
use Rattle.romfs.proofs.manifest.read_manifest.Goals as goal

pub from_items-requires : goal.from_items-requires
from_items-requires c =
    let draft = c.loop-rest.draft in
    let ended : length c.loop-rest.rest.now ≡ 0 = search rules in
    let read : manifest_tree c.args.bytes.now ≡ Ok draft.items =
    sym c.loop-rest.invariant.0 ∙ ap (λ rest. items_from (c.loop-rest.number + 1) draft (input_lines rest)) (nil_from_length c.loop-rest.rest.now ended) in
    rw c.in_ok-into_list.ensures (IsRom-manifest_tree c.args.bytes.now draft.items read)
