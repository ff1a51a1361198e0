use Rattle.std.proofs.Common.{◌<◌, ◌∙◌, ap, arith, sym}
use Rattle.page_cache.specs.AddressSpace.{AddressSpace}
use Rattle.page_cache.specs.Framed.{seen}
use Rattle.page_cache.proofs.StoredSets.{is-in}
use Rattle.page_cache.proofs.Turns.{present-held, present-stored}
use Rattle.page_cache.proofs.address_space.AddressSpace.is_present.Goals as goal

pub returns-then-contains : goal.returns-then-contains
returns-then-contains c =
    present-held (seen c.self.inside.pages c.self.inside.resident c.self.inside.stored) _ c.args.page c.contains.result c.self.view_is c.contains.ensures c.if-contains.true

pub returns-else-contains : goal.returns-else-contains
returns-else-contains c =
    let low : c.args.page < 1024 =
    (let same = ap (λ (a : AddressSpace). a.pages) c.self.view_is in let within = c.requires in let few = c.self.invariant.bounded in omega (arith, same, within, few)) in
    present-stored (seen c.self.inside.pages c.self.inside.resident c.self.inside.stored) _ c.args.page c.contains.result c.contains-else-contains.result c.self.view_is c.contains.ensures c.if-contains.false
    (c.contains-else-contains.ensures ∙ sym (is-in c.self.inside.stored.words c.args.page low))
