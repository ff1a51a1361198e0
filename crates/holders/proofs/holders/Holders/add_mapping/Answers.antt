use Rattle.std.proofs.Common.{◌≡◌, ◌<◌, ◌+◌, ◌-◌, ◌*◌, None, Some, sym, subst, ◌∙◌, arith}
use Rattle.vfs_base.specs.declared.limits.TheConstants.{HOLDS}
use Rattle.session_holds.specs.SessionTable.{reference_at}
use Rattle.vnode_table.specs.SlotTable.{file_at, slot_at}
use Rattle.holders.proofs.Folders.{few-holders, few-references, few-uses}
use Rattle.holders.proofs.Referring.{numbered-place}
use Rattle.holders.proofs.Mappings.{counted-mapping, path-held}
use Rattle.holders.proofs.holders.Holders.add_mapping.Goals as goal

pub hold_again-requires-clause-held : goal.hold_again-requires-clause-held
hold_again-requires-clause-held c = λ some path e. path-held c.self.invariant some path e

pub hold_again-requires-clause-room : goal.hold_again-requires-clause-room
hold_again-requires-clause-room c = λ path e. let few = few-holders c.self.invariant path in omega (arith, few)

pub hold-requires-clause-room : goal.hold-requires-clause-room
hold-requires-clause-room c = let few = few-references c.self.invariant c.args.reference.file.row c.hold_again.ensures.row in omega (arith, few)

pub raise-requires-clause-room : goal.raise-requires-clause-room
raise-requires-clause-room c = λ below. let few = few-uses c.self.invariant c.args.reference.mount below in omega (arith, few)

pub invariant_of-self : goal.invariant_of-self
invariant_of-self c =
    rw (c.set_reference.ensures.next, c.raise.ensures.number, c.hold.ensures, c.hold_again.ensures.plan)
    (counted-mapping c.self.invariant (HOLDS * (c.args.session - 1) + (c.args.number - 1)) c.args.reference
    record {
      within = c.set_reference.ensures.within;
      free = sym (numbered-place c.self.inside.sessions c.args.session c.args.number c.set_reference.ensures.least c.requires.from c.requires.to)
          ∙ subst (λ h. reference_at h.sessions c.args.session c.args.number ≡ None) (sym c.self.view_is) c.requires.free;
      first = c.hold_again.ensures.row;
      last = c.hold_again.ensures.within;
      bound = subst (λ h. file_at h.rows c.args.reference.file.row ≡ Some c.args.reference.file) (sym c.self.view_is) c.requires.bound;
      held = subst (λ h. 0 < (slot_at h.rows c.args.reference.file.row).references) (sym c.self.view_is) c.requires.held;
      mount = c.raise.ensures.below;
    }
    c.hold_again.ensures.counts)
