use Rattle.std.proofs.Common.{◌∙◌, ap}
use Rattle.page_cache.specs.AddressSpace.{AddressSpace, view}
use Rattle.page_cache.specs.StoredSet.{pages_in}
use Rattle.page_cache.proofs.Parts.{end-left, left-keeps, without_end}
use Rattle.page_cache.proofs.address_space.AddressSpace.evict_last.Goals as goal

pub returns-clause-ok : goal.returns-clause-ok
returns-clause-ok g c =
    let call = c.in_ok-write_last.ensures {u = tt} in
    end-left _ _ _ call.counted call.ok
    (ap (λ resident. let a : AddressSpace = record { pages = c.self.inside.pages; resident = resident; stored = pages_in c.self.inside.stored.words } in a) c.drop_last.ensures
    ∙ ap without_end c.self.view_is)

pub returns-clause-same : goal.returns-clause-same
returns-clause-same g c =
    left-keeps (view g.B.Block.pages g.B.Block.contents g.B.Block.counts c.args.self.now c.args.device.now) (view g.B.Block.pages g.B.Block.contents g.B.Block.counts c.write_last.new.self c.write_last.new.device) _ (c.in_ok-write_last.ensures {u = tt}).settles
    (ap (λ resident. let a : AddressSpace = record { pages = c.self.inside.pages; resident = resident; stored = pages_in c.self.inside.stored.words } in a) c.drop_last.ensures
    ∙ ap without_end c.self.view_is)
