use Rattle.std.proofs.Common.{◌≡◌, false, Some, option_map, sym, subst, ◌∙◌, arith}
use Rattle.std.specs.List.{list_any}
use Rattle.vfs_model.specs.Lookup.{is_prefix}
use Rattle.vfs_model.specs.declared.namespace.Mount.{Mount}
use Rattle.dentry_table.specs.DentryTable.{Raises}
use Rattle.mount_tree.specs.MountList.{mount_numbered}
use Rattle.holders.proofs.Folders.{few-holders}
use Rattle.holders.proofs.Mounting.{added, added-point, counted-mount, counted-same, taken-back}
use Rattle.holders.proofs.holders.Holders.add_mount.Goals as goal

pub hold-requires : goal.hold-requires
hold-requires c = record { room = let few = few-holders c.self.invariant c.as_names-point.result.now in omega (arith, few) }

pub invariant_of-self-in-Ok-hold : goal.invariant_of-self-in-Ok-hold
invariant_of-self-in-Ok-hold c =
    let mount : Mount = record { number = c.in-Ok.number; point = c.args.point; fs = c.args.fs; source = c.args.source } in
    let room = added c.self.inside.mounts c.in-Ok.number c.self.invariant.places.mounts c.in-Ok.ensures.full c.in-Ok.ensures.number in
    let own = added-point c.self.inside.mounts mount c.point.result.now room.free
    (subst (λ mounts. option_map (λ m. m.point) (mount_numbered mounts c.in-Ok.number) ≡ Some c.point.result.now) c.in-Ok.ensures.mount c.point.ensures.point) in
    rw (c.in-Ok.ensures.mount, c.in-Ok-hold.ensures.plan)
    (counted-mount c.self.invariant mount (subst (λ h. list_any (is_prefix c.args.point) h.sessions.folders ≡ false) (sym c.self.view_is) c.requires.folders) room.few
    (subst (λ p. Raises c.self.inside.dentries.counts c.hold.new.self.counts p) (c.as_names-point.ensures.value ∙ sym own) c.in-Ok-hold.ensures.ok))

pub invariant_of-self-in-Err-hold : goal.invariant_of-self-in-Err-hold
invariant_of-self-in-Err-hold c =
    rw (
      c.remove.ensures,
      c.in-Err-hold.ensures.plan,
      taken-back c.self.inside.mounts c.add.new.self (record { number = c.in-Ok.number; point = c.args.point; fs = c.args.fs; source = c.args.source }) c.in-Ok.ensures.mount
          (added c.self.inside.mounts c.in-Ok.number c.self.invariant.places.mounts c.in-Ok.ensures.full c.in-Ok.ensures.number),
    )
    (counted-same c.self.invariant c.in-Err-hold.ensures.err)

pub returns-in-Err-hold-clause-refused : goal.returns-in-Err-hold-clause-refused
returns-in-Err-hold-clause-refused c =
    rw (
      c.remove.ensures,
      c.in-Err-hold.ensures.plan,
      taken-back c.self.inside.mounts c.add.new.self (record { number = c.in-Ok.number; point = c.args.point; fs = c.args.fs; source = c.args.source }) c.in-Ok.ensures.mount
          (added c.self.inside.mounts c.in-Ok.number c.self.invariant.places.mounts c.in-Ok.ensures.full c.in-Ok.ensures.number),
    )
    c.self.view_is
