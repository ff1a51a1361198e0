use Rattle.std.proofs.Common.{◌<◌, ◌∙◌, ap, ap₂, arith, option_map, slice_set, subst, sym}
use Rattle.page_cache.specs.AddressSpace.{AddressSpace}
use Rattle.page_cache.specs.Framed.{seen}
use Rattle.std.specs.List.{AllByRecursion}
use Rattle.vfs_model.specs.PageList.{CachedPage}
use Rattle.page_cache.proofs.Calls.{write-failed, write-made}
use Rattle.page_cache.proofs.Parts.{cleaned-keeps, holds-bytes, on-err, one-cleaned, one-failed, page-within, within-cleaned}
use Rattle.page_cache.proofs.address_space.AddressSpace.clean.Goals as goal

pub write_page-requires-clause-page : goal.write_page-requires-clause-page
write_page-requires-clause-page g c =
    let low = page-within _ _ c.args.page c.self.view_is c.self.invariant.within c.requires.there in
    let pages = ap (λ (a : AddressSpace). a.pages) c.self.view_is in
    omega (arith, low, pages, c.requires.device)

pub insert-requires : goal.insert-requires
insert-requires g c =
    let low = page-within _ _ c.args.page c.self.view_is c.self.invariant.within c.requires.there in
    let bounded = c.self.invariant.bounded in
    omega (arith, low, bounded)

pub returns-in_err-write_page-clause-stops : goal.returns-in_err-write_page-clause-stops
returns-in_err-write_page-clause-stops g c =
    let call = c.in_err-write_page.ensures {u = tt} in
    on-err c.from_residual.result _ (one-failed _ c.args.page _ _ (write-failed c.args.page _ _ c.know_counts.ensures call.err call.pages call.counts))

pub invariant_of-self : goal.invariant_of-self
invariant_of-self g c = record {
  bounded = c.self.invariant.bounded;
  within = subst (AllByRecursion (λ (x : CachedPage). x.page < c.self.inside.pages)) (sym c.clean.ensures) (within-cleaned c.self.inside.pages c.args.page c.self.inside.resident c.self.invariant.within);
  beside = c.self.invariant.beside;
}

pub returns-clause-ok : goal.returns-clause-ok
returns-clause-ok g c =
    let call = c.in_ok-write_page.ensures {u = tt} in
    one-cleaned (seen c.self.inside.pages c.self.inside.resident c.self.inside.stored) _ _ c.args.page _ _ c.self.view_is
    (ap₂ (λ resident stored. let a : AddressSpace = record { pages = c.self.inside.pages; resident = resident; stored = stored } in a) c.clean.ensures c.insert.ensures)
    (write-made c.args.page c.bytes.result.now _ _ c.know_counts.ensures call.written call.pages call.counts)

pub returns-clause-same : goal.returns-clause-same
returns-clause-same g c told tells current = (
  slice_set told c.args.page c.bytes.result.now,
  (c.in_ok-write_page.ensures {u = tt}).written ∙ ap (option_map (λ told. slice_set told c.args.page c.bytes.result.now)) tells,
  cleaned-keeps (seen c.self.inside.pages c.self.inside.resident c.self.inside.stored) _ _ c.args.page c.bytes.result.now c.self.view_is
      (ap₂ (λ resident stored. let a : AddressSpace = record { pages = c.self.inside.pages; resident = resident; stored = stored } in a) c.clean.ensures c.insert.ensures)
      (holds-bytes _ _ c.args.page _ c.self.view_is c.self.invariant.within c.requires.there c.bytes.ensures.value) told current,
)
