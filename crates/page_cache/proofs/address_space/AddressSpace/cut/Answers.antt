use Rattle.std.proofs.Common.{◌<◌, ap₂, subst, sym}
use Rattle.std.specs.List.{AllByRecursion}
use Rattle.vfs_model.specs.PageList.{CachedPage}
use Rattle.page_cache.specs.AddressSpace.{AddressSpace}
use Rattle.page_cache.specs.Framed.{seen}
use Rattle.page_cache.proofs.Turns.{cut-current, within-cut}
use Rattle.page_cache.proofs.address_space.AddressSpace.cut.Goals as goal

pub invariant_of-self : goal.invariant_of-self
invariant_of-self c = record {
  bounded = c.self.invariant.bounded;
  within = subst (AllByRecursion (λ (x : CachedPage). x.page < c.self.inside.pages)) (sym c.cut.ensures) (within-cut c.self.inside.pages c.args.keep c.self.inside.resident c.self.invariant.within);
  beside = c.self.invariant.beside;
}

pub returns-clause-current : goal.returns-clause-current
returns-clause-current c told current =
    cut-current (seen c.self.inside.pages c.self.inside.resident c.self.inside.stored) _ _ c.args.keep told c.self.view_is
    (ap₂ (λ resident stored. let a : AddressSpace = record { pages = c.self.inside.pages; resident = resident; stored = stored } in a) c.cut.ensures c.cut-2.ensures) current
