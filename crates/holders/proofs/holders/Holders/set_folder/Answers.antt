use Rattle.std.proofs.Common.{subst, ◌∙◌, arith}
use Rattle.dentry_table.specs.DentryTable.{Lowers, Raises}
use Rattle.holders.proofs.Folders.{counted-folder, covering-number, few-holders, folder-held, mount-used, used-room}
use Rattle.holders.proofs.holders.Holders.set_folder.Goals as goal

pub hold-requires : goal.hold-requires
hold-requires c = record { room = let few = few-holders c.self.invariant c.as_names.result.now in omega (arith, few) }

pub release-requires : goal.release-requires
release-requires c =
    rw (c.as_names-old.ensures.value, c.folder_of.ensures.folder)
    (folder-held c.self.invariant c.args.session c.folder_of.ensures.within c.in_ok-hold.ensures.ok)

pub lower-requires-clause-used : goal.lower-requires-clause-used
lower-requires-clause-used c = λ below.
    rw (c.under-2.ensures.mount, c.as_names-old.ensures.value, c.folder_of.ensures.folder)
    (mount-used c.self.invariant c.args.session c.folder_of.ensures.within (covering-number c.under-2.ensures.sound _))

pub raise-requires-clause-room : goal.raise-requires-clause-room
raise-requires-clause-room c = λ below.
    rw (c.lower.ensures.number, c.under-2.ensures.mount, c.under.ensures.mount, c.as_names-old.ensures.value, c.folder_of.ensures.folder)
    (used-room c.self.invariant c.args.session c.folder_of.ensures.within _ (covering-number c.under-2.ensures.sound _) (covering-number c.under.ensures.sound _))

pub invariant_of-self-2 : goal.invariant_of-self-2
invariant_of-self-2 c =
    rw (c.set_folder.ensures, c.release.ensures.plan, c.in_ok-hold.ensures.plan, c.raise.ensures.number, c.lower.ensures.number, c.under-2.ensures.mount, c.under.ensures.mount, c.as_names-old.ensures.value, c.folder_of.ensures.folder, c.as_names-2.ensures.value)
    (counted-folder c.self.invariant c.args.session c.folder_of.ensures.within c.args.folder (covering-number c.under-2.ensures.sound _) (covering-number c.under.ensures.sound _)
    (subst (λ p. Raises c.self.inside.dentries.counts c.hold.new.self.counts p) c.as_names.ensures.value c.in_ok-hold.ensures.ok)
    (subst (λ p. Lowers c.hold.new.self.counts c.release.new.self.counts p) (c.as_names-old.ensures.value ∙ c.folder_of.ensures.folder) c.release.ensures.counts))
