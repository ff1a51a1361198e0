use Rattle.std.proofs.Common.{◌≡◌, nat_le, List, length, sym, ap, ◌∙◌}
use Rattle.mount_tree.proofs.FreeNumbers.{is-free, room-left}
use Rattle.mount_tree.proofs.KeptMounts.{added-kept}
use Rattle.mount_tree.specs.MountList.{MountList, has_point, least_free_number, mounts_of}
use Rattle.mount_tree.proofs.mount_tree.MountTree.add.Goals as goal
use Rattle.vfs_model.specs.declared.namespace.Mount.{Mount}

pub invariant_of-self-2 : goal.invariant_of-self-2
invariant_of-self-2 c =
    let mounts : MountList = record { root = c.self.inside.root; others = c.self.inside.others } in
    let room : c.is_full.result ≡ nat_le 16 (length (mounts_of mounts)) =
    c.is_full.ensures.full ∙ ap (λ (m : MountList). nat_le 16 (length (mounts_of m))) (sym c.self.view_is) in
    let few = room-left mounts c.is_full.result room c.if-is_full.false in
    let number : c.free_number-number.result ≡ least_free_number mounts =
    c.free_number-number.ensures ∙ ap (λ (others : List Mount). least_free_number (record { root = c.self.inside.root; others = others })) c.as_slice.ensures in
    rw c.in_ok-push.ensures.ok (added-kept mounts
    (record { number = c.free_number-number.result; point = c.args.point; fs = c.args.fs; source = c.args.source })
    c.self.invariant few (is-free mounts c.free_number-number.result few number)
    (ap (λ (m : MountList). has_point m c.args.point) c.self.view_is ∙ c.requires))
