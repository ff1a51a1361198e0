use Rattle.std.proofs.Common.{◌≡◌, ◌∙◌, ap, arith, length, subst, sym, OnOk, IfSome, [], if◌then◌else◌, replicate, slice_index_or}
use Rattle.vfs_base.specs.declared.limits.TheConstants.{PAGE_SIZE}
use Rattle.vfs_outside.specs.Block.{with_read}
use Rattle.page_cache.specs.AddressSpace.{page_of}
use Rattle.page_cache.specs.Framed.{seen}
use Rattle.page_cache.proofs.Calls.{read-failed, read-made}
use Rattle.page_cache.proofs.Parts.{if-some, on-err-of, on-ok, refilled, told-read}
use Rattle.page_cache.proofs.StoredSets.{is-in}
use Rattle.page_cache.proofs.Ways.{failed-read, not-stored, read-stored}
use Rattle.page_cache.proofs.address_space.load.Goals as goal

pub returns-then-contains-clause-ok : goal.returns-then-contains-clause-ok
returns-then-contains-clause-ok g c = on-ok c.read_page.result _ (λ x e resident pages.
    read-stored (seen pages resident c.args.stored.now) c.args.page _ _
    (is-in c.args.stored.now.words c.args.page c.requires.page ∙ sym c.contains.ensures ∙ c.if-contains.true)
    (read-made c.args.page _ _ c.know_counts.ensures c.read_page.ensures.contents c.read_page.ensures.pages
    (c.read_page.ensures.counts ∙ ap (λ r. with_read (g.B.Block.counts c.args.device.now) r) e)))

pub returns-then-contains-clause-stops : goal.returns-then-contains-clause-stops
returns-then-contains-clause-stops g c = on-err-of c.read_page.result _ (λ x e resident pages.
    failed-read (seen pages resident c.args.stored.now) c.args.page _ _
    (is-in c.args.stored.now.words c.args.page c.requires.page ∙ sym c.contains.ensures ∙ c.if-contains.true)
    (read-failed c.args.page _ _ c.know_counts.ensures c.read_page.ensures.contents c.read_page.ensures.pages
    (c.read_page.ensures.counts ∙ ap (λ r. with_read (g.B.Block.counts c.args.device.now) r) e)))

pub returns-then-contains-clause-loaded : goal.returns-then-contains-clause-loaded
returns-then-contains-clause-loaded g c = on-ok c.read_page.result _ (λ x e resident pages.
    if-some (g.B.Block.contents c.args.device.now) _ (λ told f.
    let seen = ap length c.as_mut_slice.ensures.value in
    let whole : length c.read_page.new.out ≡ length c.args.frame.now.items = c.read_page.auto.out ∙ seen in
    refilled c.args.frame.now.len c.read_page.new.out c.args.frame.now.items (let count = c.as_mut_slice.ensures.len in omega (arith, count, seen, whole)) whole
    ∙ told-read (g.B.Block.contents c.args.device.now) told c.args.page c.read_page.new.out
    (subst (λ r. OnOk r (IfSome (g.B.Block.contents c.args.device.now) (λ pages. c.read_page.new.out ≡ slice_index_or pages c.args.page []))) e c.read_page.ensures.read) f
    ∙ sym (ap (λ t. if t then page_of told c.args.page else replicate PAGE_SIZE 0)
    (is-in c.args.stored.now.words c.args.page c.requires.page ∙ sym c.contains.ensures ∙ c.if-contains.true))))

pub returns-clause-ok : goal.returns-clause-ok
returns-clause-ok g c resident pages =
    not-stored (seen pages resident c.args.stored.now) c.args.page _ c.know_counts.ensures
    (is-in c.args.stored.now.words c.args.page c.requires.page ∙ sym c.contains.ensures ∙ c.if-contains.false)

pub returns-clause-loaded : goal.returns-clause-loaded
returns-clause-loaded g c resident pages = if-some (g.B.Block.contents c.args.device.now) _ (λ told f.
    let whole : length c.fill.new.self ≡ length c.args.frame.now.items = c.fill.ensures.len ∙ ap length c.as_mut_slice-2.ensures.value in
    refilled c.args.frame.now.len c.fill.new.self c.args.frame.now.items
    (let count = c.as_mut_slice-2.ensures.len in let seen = ap length c.as_mut_slice-2.ensures.value in omega (arith, count, seen, whole)) whole
    ∙ c.fill.ensures.after (λ y e. e) ∙ ap (λ n. replicate n 0) (ap length c.as_mut_slice-2.ensures.value ∙ c.requires.whole)
    ∙ sym (ap (λ t. if t then page_of told c.args.page else replicate PAGE_SIZE 0)
    (is-in c.args.stored.now.words c.args.page c.requires.page ∙ sym c.contains.ensures ∙ c.if-contains.false)))
