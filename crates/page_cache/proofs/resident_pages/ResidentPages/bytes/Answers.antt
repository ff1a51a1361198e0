use Rattle.std.proofs.Common.{List, ◌∙◌, ap, is_some, length, sym}
use Rattle.std.specs.Option.{option_copied}
use Rattle.page_cache.specs.Resident.{bytes_in, holds_page}
use Rattle.vfs_model.specs.PageList.{CachedPage}
use Rattle.page_cache.proofs.Held.{found-bytes, held, whole-value}
use Rattle.page_cache.proofs.resident_pages.ResidentPages.bytes.Goals as goal

pub unreachable-requires : goal.unreachable-requires
unreachable-requires c =
    let there = ap (λ (pages : List CachedPage). holds_page pages c.args.page) c.self.view_is ∙ c.requires in
    let none = sym c.peek.ensures ∙ ap option_copied c.in-None.is in
    let absent = held c.args.page c.self.inside.pages.entries ∙ ap is_some none in
    absurd (cc)

pub returns-clause-value : goal.returns-clause-value
returns-clause-value c =
    let some = sym c.peek.ensures ∙ ap option_copied c.in-Some.is in
    c.as_slice.ensures.value ∙ sym (found-bytes c.args.page c.self.inside.pages.entries c.in-Some.held.now some)
    ∙ ap (λ (pages : List CachedPage). bytes_in pages c.args.page) c.self.view_is

pub returns-clause-whole : goal.returns-clause-whole
returns-clause-whole c =
    let some = sym c.peek.ensures ∙ ap option_copied c.in-Some.is in
    ap length c.as_slice.ensures.value ∙ whole-value c.args.page c.self.inside.pages.entries c.in-Some.held.now c.self.invariant.whole some
