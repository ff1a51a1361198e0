use Rattle.std.proofs.Common.{◌≡◌, ◌∙◌, ap, sym, subst, refl, true, ℕ, List, [], ◌∷◌}
use Rattle.std.specs.List.{AllByRecursion}
use Rattle.vfs_model.specs.Cache.{dirty_pages}
use Rattle.page_cache.specs.AddressSpace.{AddressSpace, Completes, cache_in, view, writing_back}
use Rattle.page_cache.specs.Framed.{Rests, cleaning, cleaning_each, then_way}
use Rattle.page_cache.specs.Resident.{holds_page}
use Rattle.page_cache.specs.StoredSet.{pages_in}
use Rattle.page_cache.proofs.Pages.{keeps-all, keeps-then}
use Rattle.page_cache.proofs.Runs.{rests-all, rests-as, rests-then}
use Rattle.page_cache.proofs.Turns.{dirty-held, still-held}
use Rattle.page_cache.proofs.Ways.{cleaned-more, cleaned-none, written-back}
use Rattle.page_cache.proofs.address_space.AddressSpace.write_back.Goals as goal

pub loop-page-init : goal.loop-page-init
loop-page-init g c =
    let old = view g.B.Block.pages g.B.Block.contents g.B.Block.counts c.args.self.now c.args.device.now in
    let gathered : dirty_pages (cache_in c.args.self.now) ≡ pages_in c.dirty-dirty.result.words =
    sym (c.dirty-dirty.ensures ∙ ap (λ (s : AddressSpace). dirty_pages (cache_in s)) c.self.view_is) in
    record {
      rests = subst (λ pages. Rests writing_back old (cleaning_each pages) old) gathered
          (rests-all writing_back (cleaning_each (dirty_pages (cache_in c.args.self.now))) old (written-back old));
      same = keeps-all old old refl refl;
      there = subst (AllByRecursion (λ page. holds_page c.args.self.now.resident page ≡ true)) gathered (dirty-held c.args.self.now);
      counted = c.know_counts.ensures;
      device = c.requires.device;
      pages = refl;
    }

pub loop-page-preserved : goal.loop-page-preserved
loop-page-preserved g c =
    let call = c.in_ok-clean.ensures {u = tt} in
    let page : ℕ = c.in-Some.page in
    let left : List ℕ = pages_in c.pop_first.new.self.words in
    let first : pages_in c.loop-page.dirty.words ≡ page ∷ left = (c.in-Some.ensures {u = tt}).first in
    let old = view g.B.Block.pages g.B.Block.contents g.B.Block.counts c.args.self.now c.args.device.now in
    let now = view g.B.Block.pages g.B.Block.contents g.B.Block.counts c.loop-page.self c.loop-page.device in
    let next = view g.B.Block.pages g.B.Block.contents g.B.Block.counts c.clean.new.self c.clean.new.device in
    let there = subst (AllByRecursion (λ p. holds_page c.loop-page.self.resident p ≡ true)) first c.loop-page.invariant.there in
    record {
      rests = rests-then writing_back (cleaning page) (cleaning_each left) old now next
          (rests-as writing_back (cleaning_each (page ∷ left)) (then_way (cleaning page) (cleaning_each left)) old now (cleaned-more now page left)
          (subst (λ pages. Rests writing_back old (cleaning_each pages) now) first c.loop-page.invariant.rests)) call.ok;
      same = keeps-then old now next c.loop-page.invariant.same call.same;
      there = still-held page c.loop-page.self.resident c.clean.new.self.resident left call.resident there.1;
      counted = call.counted;
      device = call.device ∙ c.loop-page.invariant.pages;
      pages = call.pages ∙ c.loop-page.invariant.pages;
    }

pub returns-clause-ok : goal.returns-clause-ok
returns-clause-ok g c =
    let now = view g.B.Block.pages g.B.Block.contents g.B.Block.counts c.loop-page.self c.loop-page.device in
    let none : pages_in c.loop-page.dirty.words ≡ [] = (c.in_default.ensures {u = tt}).none in
    c.loop-page.invariant.rests.completes now (subst (λ pages. Completes (cleaning_each pages) now now) (sym none) (cleaned-none now c.loop-page.invariant.counted))
