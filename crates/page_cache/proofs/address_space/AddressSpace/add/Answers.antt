use Rattle.std.proofs.Common.{◌∷◌, ◌≡◌, ◌∙◌, ap, subst, sym, IfSome}
use Rattle.vfs_model.specs.PageList.{device_bytes}
use Rattle.page_cache.specs.AddressSpace.{AddressSpace, Completes, Stops, StopsAt, view, page_of, space_of, touching}
use Rattle.page_cache.specs.Framed.{reading, seen}
use Rattle.page_cache.specs.Resident.{clean_page}
use Rattle.page_cache.specs.StoredSet.{pages_in}
use Rattle.page_cache.specs.declared.cache_fault.CacheFault.{CacheFault}
use Rattle.page_cache.proofs.Bringing.{brought-keeps, brought-there, room-out, room-stopped, room-touched, room-unbegun}
use Rattle.page_cache.proofs.Parts.{if-err}
use Rattle.page_cache.proofs.address_space.AddressSpace.add.Goals as goal

pub returns-in_err-bytes-clause-stops : goal.returns-in_err-bytes-clause-stops
returns-in_err-bytes-clause-stops g c =
    if-err c.from_residual.result _ _ c.from_residual.ensures.1 (λ e is. subst (λ (k : CacheFault). Stops (touching c.args.page) (view g.B.Block.pages g.B.Block.contents g.B.Block.counts c.args.self.now c.args.device.now) (view g.B.Block.pages g.B.Block.contents g.B.Block.counts c.args.self.now c.args.device.now) k) (sym is)
    (room-unbegun c.args.self.now c.args.page _ c.know_counts.ensures c.requires.absent c.requires.room))

pub returns-in_err-load-clause-stops : goal.returns-in_err-load-clause-stops
returns-in_err-load-clause-stops g c =
    let stopped = subst (λ s. StopsAt (reading c.args.page) (view g.B.Block.pages g.B.Block.contents g.B.Block.counts s c.args.device.now) (view g.B.Block.pages g.B.Block.contents g.B.Block.counts s c.load.new.device)) c.self.view_is ((c.in_err-load.ensures {u = tt}).stops c.self.inside.resident c.self.inside.pages) in
    if-err c.from_residual-in_err-load.result _ _ c.from_residual-in_err-load.ensures.1 (λ e is. subst (λ (k : CacheFault). Stops (touching c.args.page) (view g.B.Block.pages g.B.Block.contents g.B.Block.counts c.args.self.now c.args.device.now) (view g.B.Block.pages g.B.Block.contents g.B.Block.counts c.args.self.now c.load.new.device) k) (sym is)
    (room-stopped c.args.self.now c.args.self.now c.args.page _ _ c.requires.absent c.requires.room stopped))

pub returns-in_err-add-clause-stops : goal.returns-in_err-add-clause-stops
returns-in_err-add-clause-stops g c =
    let read = subst (λ s. Completes (reading c.args.page) (view g.B.Block.pages g.B.Block.contents g.B.Block.counts s c.args.device.now) (view g.B.Block.pages g.B.Block.contents g.B.Block.counts s c.load.new.device)) c.self.view_is
    ((c.in_ok-load.ensures {u = tt}).ok c.self.inside.resident c.self.inside.pages) in
    if-err c.from_residual-in_err-add.result _ _ c.from_residual-in_err-add.ensures.1 (λ e is. subst (λ (k : CacheFault). Stops (touching c.args.page) (view g.B.Block.pages g.B.Block.contents g.B.Block.counts c.args.self.now c.args.device.now)
    (view g.B.Block.pages g.B.Block.contents g.B.Block.counts (record { pages = c.self.inside.pages; resident = c.add.new.self; stored = pages_in c.self.inside.stored.words }) c.load.new.device) k) (sym is)
    (room-out c.args.self.now _ c.args.page _ _ (c.in_ok-load.ensures {u = tt}).counted c.requires.absent c.requires.room read))

pub returns-clause-ok : goal.returns-clause-ok
returns-clause-ok g c =
    let read = subst (λ s. Completes (reading c.args.page) (view g.B.Block.pages g.B.Block.contents g.B.Block.counts s c.args.device.now) (view g.B.Block.pages g.B.Block.contents g.B.Block.counts s c.load.new.device)) c.self.view_is
    ((c.in_ok-load.ensures {u = tt}).ok c.self.inside.resident c.self.inside.pages) in
    let new = ap (λ resident. let a : AddressSpace = record { pages = c.self.inside.pages; resident = resident; stored = pages_in c.self.inside.stored.words } in a) (c.in_ok-add.ensures {u = tt}).ok
    ∙ ap (λ (s : AddressSpace). let a : AddressSpace = record s { resident = clean_page c.args.page c.load.new.frame.items ∷ s.resident } in a) c.self.view_is in
    room-touched _ _ c.args.page c.load.new.frame.items (c.in_ok-load.ensures {u = tt}).counted c.requires.absent c.requires.room read new

pub returns-clause-there : goal.returns-clause-there
returns-clause-there g c = brought-there c.args.page _ _ _ (c.in_ok-add.ensures {u = tt}).ok

pub returns-clause-same : goal.returns-clause-same
returns-clause-same g c told tells current =
    let new = ap (λ resident. let a : AddressSpace = record { pages = c.self.inside.pages; resident = resident; stored = pages_in c.self.inside.stored.words } in a) (c.in_ok-add.ensures {u = tt}).ok
    ∙ ap (λ (s : AddressSpace). let a : AddressSpace = record s { resident = clean_page c.args.page c.load.new.frame.items ∷ s.resident } in a) c.self.view_is in
    let loaded = (c.in_ok-load.ensures {u = tt}).loaded c.self.inside.resident c.self.inside.pages in
    let bytes = subst (λ (s : AddressSpace). c.load.new.frame.items ≡ device_bytes (space_of s) (page_of told) c.args.page) c.self.view_is
    (subst (λ o. IfSome o (λ pages. c.load.new.frame.items ≡ device_bytes (space_of (seen c.self.inside.pages c.self.inside.resident c.self.inside.stored)) (page_of pages) c.args.page)) tells loaded) in
    (told, (c.in_ok-load.ensures {u = tt}).contents ∙ tells, brought-keeps c.args.self.now _ c.args.page c.load.new.frame.items told c.requires.absent new bytes current)
