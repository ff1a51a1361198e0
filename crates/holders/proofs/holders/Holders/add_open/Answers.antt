use Rattle.std.proofs.Common.{◌≡◌, ◌+◌, ◌-◌, ◌*◌, true, None, Some, sym, subst, ◌∙◌, arith}
use Rattle.vfs_base.specs.declared.limits.TheConstants.{HOLDS}
use Rattle.session_holds.specs.SessionTable.{reference_at}
use Rattle.vnode_table.specs.SlotTable.{file_at, slot_at}
use Rattle.holders.specs.Holding.{MayStand}
use Rattle.holders.proofs.Folders.{few-holders, few-references, few-uses}
use Rattle.holders.proofs.Referring.{numbered-place}
use Rattle.holders.proofs.Opens.{counted-open}
use Rattle.holders.proofs.holders.Holders.add_open.Goals as goal

pub enter-requires-clause-room : goal.enter-requires-clause-room
enter-requires-clause-room c = let few = few-holders c.self.invariant c.args.path.now in omega (arith, few)

pub hold-requires-clause-room : goal.hold-requires-clause-room
hold-requires-clause-room c = let few = few-references c.self.invariant c.args.reference.file.row c.in_ok-enter.ensures.row in omega (arith, few)

pub raise-requires-clause-room : goal.raise-requires-clause-room
raise-requires-clause-room c = λ below. let few = few-uses c.self.invariant c.args.reference.mount below in omega (arith, few)

pub invariant_of-self-2 : goal.invariant_of-self-2
invariant_of-self-2 c =
    rw (c.set_reference.ensures.next, c.raise.ensures.number, c.hold.ensures, c.in_ok-enter.ensures.paths, c.in_ok-enter.ensures.plan)
    (counted-open c.self.invariant (HOLDS * (c.args.session - 1) + (c.args.number - 1)) c.args.reference c.args.path.now
    record {
      within = c.set_reference.ensures.within;
      free = sym (numbered-place c.self.inside.sessions c.args.session c.args.number c.set_reference.ensures.least c.requires.from c.requires.to)
          ∙ subst (λ h. reference_at h.sessions c.args.session c.args.number ≡ None) (sym c.self.view_is) c.requires.free;
      first = c.in_ok-enter.ensures.row;
      last = c.in_ok-enter.ensures.within;
      bound = subst (λ h. file_at h.rows c.args.reference.file.row ≡ Some c.args.reference.file) (sym c.self.view_is) c.requires.bound;
      linked = subst (λ h. (slot_at h.rows c.args.reference.file.row).linked ≡ true) (sym c.self.view_is) c.requires.linked;
      stands = subst (λ h. MayStand h.paths c.args.reference.file.row c.args.path.now) (sym c.self.view_is) c.requires.path;
      mount = c.raise.ensures.below;
    }
    c.in_ok-enter.ensures.counts)
