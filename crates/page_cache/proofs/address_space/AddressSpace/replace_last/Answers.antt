use Rattle.std.proofs.Common.{◌∙◌, ap, sym, subst}
use Rattle.page_cache.specs.AddressSpace.{AddressSpace, Stops, view, touching}
use Rattle.page_cache.specs.Framed.{seen}
use Rattle.page_cache.specs.StoredSet.{pages_in}
use Rattle.page_cache.specs.declared.cache_fault.CacheFault.{CacheFault}
use Rattle.page_cache.proofs.Bringing.{brought-there}
use Rattle.page_cache.proofs.Parts.{err-of, if-err, ok-of}
use Rattle.page_cache.proofs.Replacing.{full-kept, full-out, full-touched, full-unread, gone-keeps, makes-room, replaced-keeps}
use Rattle.page_cache.proofs.address_space.AddressSpace.replace_last.Goals as goal

pub returns-in_err-write_last-clause-stops : goal.returns-in_err-write_last-clause-stops
returns-in_err-write_last-clause-stops g c =
    if-err c.from_residual.result _ _ c.from_residual.ensures.1 (λ e is. subst (λ (k : CacheFault). Stops (touching c.args.page) (view g.B.Block.pages g.B.Block.contents g.B.Block.counts c.args.self.now c.args.device.now)
    (view g.B.Block.pages g.B.Block.contents g.B.Block.counts c.write_last.new.self c.write_last.new.device) k) (sym is)
    (full-kept c.args.page _ _ (record { absent = c.requires.absent; full = c.requires.full }) (c.in_err-write_last.ensures {u = tt}).stops))

pub returns-then-is_err-clause-stops : goal.returns-then-is_err-clause-stops
returns-then-is_err-clause-stops g c =
    let call = c.in_ok-write_last.ensures {u = tt} in
    full-unread c.args.page _ _ _ (seen c.self.inside.pages c.self.inside.resident c.self.inside.stored) c.self.view_is
    (makes-room c.requires.absent c.requires.full call.counted call.ok call.settles call.resident)
    (λ resident. err-of c.load.result _ (sym c.is_err.ensures.value ∙ c.if-is_err.true) c.load.ensures.stops resident c.self.inside.pages)
    (ap (λ resident. let a : AddressSpace = record { pages = c.self.inside.pages; resident = resident; stored = pages_in c.self.inside.stored.words } in a) c.drop_last.ensures)

pub returns-then-is_err-clause-same : goal.returns-then-is_err-clause-same
returns-then-is_err-clause-same g c =
    gone-keeps (view g.B.Block.pages g.B.Block.contents g.B.Block.counts c.args.self.now c.args.device.now) (view g.B.Block.pages g.B.Block.contents g.B.Block.counts c.write_last.new.self c.write_last.new.device)
    (view g.B.Block.pages g.B.Block.contents g.B.Block.counts (record { pages = c.self.inside.pages; resident = c.drop_last.new.self; stored = pages_in c.self.inside.stored.words }) c.load.new.device) (seen c.self.inside.pages c.self.inside.resident c.self.inside.stored) c.self.view_is (c.in_ok-write_last.ensures {u = tt}).settles
    (ap (λ resident. let a : AddressSpace = record { pages = c.self.inside.pages; resident = resident; stored = pages_in c.self.inside.stored.words } in a) c.drop_last.ensures)
    c.load.ensures.contents

pub returns-in_err-replace_last-clause-stops : goal.returns-in_err-replace_last-clause-stops
returns-in_err-replace_last-clause-stops g c =
    let call = c.in_ok-write_last.ensures {u = tt} in
    if-err c.from_residual-in_err-replace_last.result _ _ c.from_residual-in_err-replace_last.ensures.1 (λ e is. subst (λ (k : CacheFault). Stops (touching c.args.page) (view g.B.Block.pages g.B.Block.contents g.B.Block.counts c.args.self.now c.args.device.now)
    (view g.B.Block.pages g.B.Block.contents g.B.Block.counts (record { pages = c.self.inside.pages; resident = c.replace_last.new.self; stored = pages_in c.self.inside.stored.words }) c.load.new.device) k) (sym is)
    (full-out c.args.page _ _ _ (seen c.self.inside.pages c.self.inside.resident c.self.inside.stored) c.self.view_is
    (makes-room c.requires.absent c.requires.full call.counted call.ok call.settles call.resident)
    (c.load.ensures.counted, λ resident. ok-of c.load.result _ (sym c.is_err.ensures.value ∙ c.if-is_err.false) c.load.ensures.ok resident c.self.inside.pages)))

pub returns-clause-ok : goal.returns-clause-ok
returns-clause-ok g c =
    let written = c.in_ok-write_last.ensures {u = tt} in
    full-touched c.args.page c.load.new.frame.items _ _ _ (seen c.self.inside.pages c.self.inside.resident c.self.inside.stored) c.self.view_is
    (makes-room c.requires.absent c.requires.full written.counted written.ok written.settles written.resident) (
      c.load.ensures.counted,
      λ resident. ok-of c.load.result _ (sym c.is_err.ensures.value ∙ c.if-is_err.false) c.load.ensures.ok resident c.self.inside.pages,
      ap (λ resident. let a : AddressSpace = record { pages = c.self.inside.pages; resident = resident; stored = pages_in c.self.inside.stored.words } in a) (c.in_ok-replace_last.ensures {u = tt}).ok,
    )

pub returns-clause-there : goal.returns-clause-there
returns-clause-there g c = brought-there c.args.page _ _ _ (c.in_ok-replace_last.ensures {u = tt}).ok

pub returns-clause-same : goal.returns-clause-same
returns-clause-same g c =
    let written = c.in_ok-write_last.ensures {u = tt} in
    replaced-keeps c.args.page c.load.new.frame.items _ _
    (view g.B.Block.pages g.B.Block.contents g.B.Block.counts (record { pages = c.self.inside.pages; resident = c.replace_last.new.self; stored = pages_in c.self.inside.stored.words }) c.load.new.device) (seen c.self.inside.pages c.self.inside.resident c.self.inside.stored) c.self.view_is
    (makes-room c.requires.absent c.requires.full written.counted written.ok written.settles written.resident) (
      λ resident. ok-of c.load.result _ (sym c.is_err.ensures.value ∙ c.if-is_err.false) c.load.ensures.loaded resident c.self.inside.pages,
      c.load.ensures.contents,
      ap (λ resident. let a : AddressSpace = record { pages = c.self.inside.pages; resident = resident; stored = pages_in c.self.inside.stored.words } in a) (c.in_ok-replace_last.ensures {u = tt}).ok,
    )
