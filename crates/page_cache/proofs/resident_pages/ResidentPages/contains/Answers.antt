use Rattle.std.proofs.Common.{List, ◌∙◌, ap, sym}
use Rattle.page_cache.specs.Resident.{holds_page}
use Rattle.vfs_model.specs.PageList.{CachedPage}
use Rattle.page_cache.proofs.Held.{held}
use Rattle.page_cache.proofs.resident_pages.ResidentPages.contains.Goals as goal

pub returns : goal.returns
returns c = c.contains.ensures ∙ sym (held c.args.page c.self.inside.pages.entries) ∙ ap (λ (pages : List CachedPage). holds_page pages c.args.page) c.self.view_is
