-- A file of no byte, on a cell of which no page is in memory or stored.
use Rattle.std.specs.Prelude.{◌≡◌, ℕ, ◌-◌, ◌*◌, ◌≤◌, IfSome, List, [], ◌∷◌, length, map, drop, replicate, refl}
use Rattle.std.proofs.Common.{sym, ◌∙◌, ap, ap₂, subst, arith}
use Rattle.std.proofs.lemmas.List.{length-map}
use Rattle.std.specs.List.{AllByRecursion, concat, range_with_len}
use Rattle.vfs_base.specs.declared.limits.TheConstants.{CELL_PAGES_MAX, PAGE_SIZE}
use Rattle.vfs_model.specs.PageList.{page_bytes}
use Rattle.vfs_outside.specs.Block.{ArePages}
use Rattle.page_cache.specs.AddressSpace.{AddressSpace, file_pages, page_of, space_of}
use Rattle.cell_file.specs.CellFile.{CellFile, IsCellFile, all_bytes, capacity}
use Rattle.cell_file.proofs.Cutting.{flat-zeros, full-zeros}
use Rattle.cell_file.proofs.Touching.{pages-count}

map-same : {X Y : Type 0} (f : X → Y) (y : Y) → ((x : X) → f x ≡ y) → (xs : List X) → map f xs ≡ replicate (length xs) y
map-same f y h [] = refl
map-same f y h (x ∷ xs) = ap₂ (λ a b. a ∷ b) (h x) (map-same f y h xs)

-- no page is there, so each is zeros
page-none : (a : AddressSpace) (told : List (List ℕ)) (page : ℕ) → a.resident ≡ [] → a.stored ≡ [] → page_bytes (space_of a) (page_of told) page ≡ replicate PAGE_SIZE 0
page-none a told page resident stored = rw resident (rw stored refl)

pages-none : (a : AddressSpace) (told : List (List ℕ)) → a.resident ≡ [] → a.stored ≡ [] → file_pages a told ≡ replicate a.pages (replicate PAGE_SIZE 0)
pages-none a told resident stored =
    let bytes : ℕ → List ℕ = page_bytes (space_of a) (page_of told) in
    let pages : List ℕ = range_with_len 0 a.pages in
    map-same bytes (replicate PAGE_SIZE 0) (λ page. page-none a told page resident stored) pages
    ∙ ap (λ n. replicate n (replicate PAGE_SIZE 0)) (sym (length-map pages bytes) ∙ pages-count a told)

pub empty-file : (f : CellFile) → f.size ≡ 0 → f.state.device.pages ≡ f.state.space.pages → f.state.space.pages ≤ CELL_PAGES_MAX →
    f.state.space.resident ≡ [] → f.state.space.stored ≡ [] → IfSome f.state.device.contents (ArePages f.state.device.pages) → IsCellFile f
empty-file f size pages few resident stored whole = record {
  pages = pages;
  few = few;
  size = omega (arith, size);
  whole = λ told e. record {
    current = record {
      whole = (subst (λ o. IfSome o (ArePages f.state.device.pages)) e whole).number ∙ pages;
      clean = λ page. rw resident tt;
    };
    whole = subst (AllByRecursion (λ page. length page ≡ PAGE_SIZE)) (sym (pages-none f.state.space told resident stored)) (full-zeros f.state.space.pages);
  };
  zeros = λ told e. ap (λ n. drop n (all_bytes f.state.space told)) size
      ∙ ap concat (pages-none f.state.space told resident stored)
      ∙ flat-zeros f.state.space.pages
      ∙ ap (λ n. replicate n 0) (let e : PAGE_SIZE * f.state.space.pages ≡ capacity f - f.size = omega (arith, size) in e);
}
