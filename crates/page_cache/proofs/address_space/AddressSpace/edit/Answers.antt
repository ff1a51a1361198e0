use Rattle.std.proofs.Common.{◌<◌, ap, subst, sym}
use Rattle.std.specs.List.{AllByRecursion}
use Rattle.vfs_model.specs.PageList.{CachedPage}
use Rattle.page_cache.specs.AddressSpace.{AddressSpace}
use Rattle.page_cache.specs.Framed.{seen}
use Rattle.page_cache.specs.StoredSet.{pages_in}
use Rattle.page_cache.proofs.Parts.{within-edited}
use Rattle.page_cache.proofs.Turns.{edited-current, edited-pages}
use Rattle.page_cache.proofs.address_space.AddressSpace.edit.Goals as goal

pub invariant_of-self : goal.invariant_of-self
invariant_of-self c = record {
  bounded = c.self.invariant.bounded;
  within = subst (AllByRecursion (λ (x : CachedPage). x.page < c.self.inside.pages)) (sym c.edit.ensures)
      (within-edited c.self.inside.pages c.args.page c.args.at c.args.piece.now c.self.inside.resident c.self.invariant.within);
  beside = c.self.invariant.beside;
}

pub returns-clause-current : goal.returns-clause-current
returns-clause-current c =
    edited-current (seen c.self.inside.pages c.self.inside.resident c.self.inside.stored) _ _ c.args.page c.args.at c.args.piece.now c.self.view_is
    (ap (λ resident. let a : AddressSpace = record { pages = c.self.inside.pages; resident = resident; stored = pages_in c.self.inside.stored.words } in a) c.edit.ensures)

pub returns-clause-pages : goal.returns-clause-pages
returns-clause-pages c =
    edited-pages (seen c.self.inside.pages c.self.inside.resident c.self.inside.stored) _ _ c.args.page c.args.at c.args.piece.now c.self.view_is
    (ap (λ resident. let a : AddressSpace = record { pages = c.self.inside.pages; resident = resident; stored = pages_in c.self.inside.stored.words } in a) c.edit.ensures)
    c.requires.there
