use Rattle.std.proofs.Common.{◌∙◌, ap, arith, option_map, slice_set}
use Rattle.page_cache.specs.AddressSpace.{AddressSpace}
use Rattle.page_cache.specs.Framed.{seen}
use Rattle.page_cache.proofs.Calls.{write-failed, write-made}
use Rattle.page_cache.proofs.Parts.{clean-settles, dirty-within, end-clean, end-failed, end-written, last-dirty, on-err, written-settles}
use Rattle.page_cache.proofs.address_space.AddressSpace.write_last.Goals as goal

pub write_page-requires-clause-page : goal.write_page-requires-clause-page
write_page-requires-clause-page g c =
    let low = dirty-within c.self.inside.pages c.self.inside.resident _ _ c.self.invariant.within (c.in-Some.ensures {u = tt}).some in
    let pages = ap (λ (a : AddressSpace). a.pages) c.self.view_is in
    omega (arith, low, pages, c.requires)

pub insert-requires : goal.insert-requires
insert-requires g c =
    let low = dirty-within c.self.inside.pages c.self.inside.resident _ _ c.self.invariant.within (c.in-Some.ensures {u = tt}).some in
    let bounded = c.self.invariant.bounded in
    omega (arith, low, bounded)

pub returns-in_err-write_page-clause-stops : goal.returns-in_err-write_page-clause-stops
returns-in_err-write_page-clause-stops g c =
    let call = c.in_err-write_page.ensures {u = tt} in
    on-err c.from_residual.result _ (end-failed (seen c.self.inside.pages c.self.inside.resident c.self.inside.stored) _ _ _ c.in-Some.page c.in-Some.bytes.now c.self.view_is
    (last-dirty c.self.inside.resident _ _ (c.in-Some.ensures {u = tt}).some) (write-failed c.in-Some.page _ _ c.know_counts.ensures call.err call.pages call.counts))

pub returns-in_ok-write_page-clause-ok : goal.returns-in_ok-write_page-clause-ok
returns-in_ok-write_page-clause-ok g c =
    let call = c.in_ok-write_page.ensures {u = tt} in
    end-written (seen c.self.inside.pages c.self.inside.resident c.self.inside.stored) _ _ c.in-Some.page c.in-Some.bytes.now c.self.view_is
    (ap (λ stored. let a : AddressSpace = record { pages = c.self.inside.pages; resident = c.self.inside.resident; stored = stored } in a) c.insert.ensures)
    (last-dirty c.self.inside.resident _ _ (c.in-Some.ensures {u = tt}).some)
    (write-made c.in-Some.page c.in-Some.bytes.now _ _ c.know_counts.ensures call.written call.pages call.counts)

pub returns-in_ok-write_page-clause-settles : goal.returns-in_ok-write_page-clause-settles
returns-in_ok-write_page-clause-settles g c told tells current =
    let last = (c.in-Some.ensures {u = tt}).some in
    let both = written-settles (seen c.self.inside.pages c.self.inside.resident c.self.inside.stored) _ _ c.in-Some.page c.in-Some.bytes.now c.self.view_is
    (ap (λ stored. let a : AddressSpace = record { pages = c.self.inside.pages; resident = c.self.inside.resident; stored = stored } in a) c.insert.ensures)
    (record {
      sound = c.dirty_last.ensures.sound;
      within = dirty-within c.self.inside.pages c.self.inside.resident _ _ c.self.invariant.within last;
      last = last-dirty c.self.inside.resident _ _ last;
    }) told current in (
      slice_set told c.in-Some.page c.in-Some.bytes.now,
      (c.in_ok-write_page.ensures {u = tt}).written ∙ ap (option_map (λ told. slice_set told c.in-Some.page c.in-Some.bytes.now)) tells,
      both.0,
      both.1,
    )

pub returns-in_default-clause-ok : goal.returns-in_default-clause-ok
returns-in_default-clause-ok g c =
    end-clean (seen c.self.inside.pages c.self.inside.resident c.self.inside.stored) _ _ c.self.view_is c.know_counts.ensures (c.in_default.ensures {u = tt}).none

pub returns-in_default-clause-settles : goal.returns-in_default-clause-settles
returns-in_default-clause-settles g c told tells current =
    let both = clean-settles (seen c.self.inside.pages c.self.inside.resident c.self.inside.stored) _ told c.self.view_is c.dirty_last.ensures.sound (c.in_default.ensures {u = tt}).none current in
    (told, tells, both.0, both.1)
