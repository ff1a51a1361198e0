use Rattle.std.proofs.Common.{◌<◌, ◌∙◌, ap, subst, sym}
use Rattle.std.specs.List.{AllByRecursion}
use Rattle.vfs_model.specs.PageList.{CachedPage}
use Rattle.page_cache.specs.AddressSpace.{AddressSpace}
use Rattle.page_cache.specs.Framed.{seen}
use Rattle.page_cache.specs.Resident.{holds_page}
use Rattle.page_cache.specs.StoredSet.{pages_in}
use Rattle.page_cache.proofs.Turns.{front-keeps, front-there, front-touched, within-front}
use Rattle.page_cache.proofs.address_space.AddressSpace.touch.Goals as goal

pub invariant_of-self : goal.invariant_of-self
invariant_of-self g c = record {
  bounded = c.self.invariant.bounded;
  within = subst (AllByRecursion (λ (x : CachedPage). x.page < c.self.inside.pages)) (sym (c.promote.ensures.front c.if-promote.true)) (within-front c.self.inside.pages c.args.page c.self.inside.resident c.self.invariant.within);
  beside = c.self.invariant.beside;
}

pub returns-then-promote-clause-ok : goal.returns-then-promote-clause-ok
returns-then-promote-clause-ok g c =
    front-touched (seen c.self.inside.pages c.self.inside.resident c.self.inside.stored) _ _ c.args.page _ c.self.view_is
    (ap (λ resident. let a : AddressSpace = record { pages = c.self.inside.pages; resident = resident; stored = pages_in c.self.inside.stored.words } in a) (c.promote.ensures.front c.if-promote.true))
    c.know_counts.ensures (sym c.promote.ensures.there ∙ c.if-promote.true)

pub returns-then-promote-clause-there : goal.returns-then-promote-clause-there
returns-then-promote-clause-there g c =
    ap (λ resident. holds_page resident c.args.page) (c.promote.ensures.front c.if-promote.true)
    ∙ front-there c.args.page c.self.inside.resident _ (sym c.promote.ensures.there ∙ c.if-promote.true)

pub returns-then-promote-clause-same : goal.returns-then-promote-clause-same
returns-then-promote-clause-same g c told tells current = (
  told,
  tells,
  front-keeps (seen c.self.inside.pages c.self.inside.resident c.self.inside.stored) _ _ c.args.page told c.self.view_is
      (ap (λ resident. let a : AddressSpace = record { pages = c.self.inside.pages; resident = resident; stored = pages_in c.self.inside.stored.words } in a) (c.promote.ensures.front c.if-promote.true)) current,
)
