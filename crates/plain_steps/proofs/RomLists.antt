-- The roms of a script, as they are read one after the other and as a script's state has them.
use Rattle.std.proofs.Common.{◌≡◌, ◌∙◌, ℕ, ◌+◌, ◌<◌, true, false, Some, None, Ok, Err, List, [], ◌∷◌, length, refl, subst, sym, ap, arith}
use Rattle.std.proofs.lemmas.Bool.Decides.{nat_tests}
use Rattle.std.specs.Prelude.{Result, cond, is_err, is_ok, map, nat_lt, unwrap_or}
use Rattle.std.specs.List.{position, position_or_len}
use Rattle.std.specs.Result.{result_ok}
use Rattle.vfs_base.specs.declared.deck.RomText.{RomText}
use Rattle.vfs_model.specs.Manifest.{manifest_tree}
use Rattle.vfs_model.specs.Rom.{RomItems}
use Rattle.vfs_model.specs.ScriptRun.{rom_image, rom_node}
use Rattle.vfs_model.specs.declared.namespace.RomImage.{RomImage}
use Rattle.plain_steps.specs.Opening.{image_before, rom_images, rom_nodes}

-- the place of the first rom whose text is outside the form, or their number
abbrev bad_place : List RomText → ℕ
bad_place texts = position_or_len (λ rom. is_err (manifest_tree rom.manifest)) texts

-- the roms that were read are those of the script; or the first bad one has the place that was told
abbrev RomsAre : ℕ → List RomText → Result (List RomImage) ℕ → Type 0
RomsAre place texts (Ok images) = (images ≡ map rom_image texts) × (bad_place texts ≡ length texts)
RomsAre place texts (Err index) = (index ≡ place + bad_place texts) × (bad_place texts < length texts)

bad-first : (text : RomText) (texts : List RomText) (line : ℕ) → manifest_tree text.manifest ≡ Err line → bad_place (text ∷ texts) ≡ 0
bad-first text texts line e = rw e refl

good-first : (text : RomText) (texts : List RomText) (items : RomItems) → manifest_tree text.manifest ≡ Ok items →
    bad_place (text ∷ texts) ≡ 1 + bad_place texts
good-first text texts items e = rw e refl

image-same : (text : RomText) (items : RomItems) → manifest_tree text.manifest ≡ Ok items →
    record { name = text.name; nodes = rom_nodes items } ≡ rom_image text
image-same text items e =
    ap (λ read. record { name = text.name; nodes = map (λ item. (item.0, rom_node item.1)) (unwrap_or (result_ok read) []) }) (sym e)

one-more : (place : ℕ) (text : RomText) (texts : List RomText) (read : Result RomItems ℕ) (later : Result (List RomImage) ℕ) →
    manifest_tree text.manifest ≡ read → RomsAre (place + 1) texts later →
    RomsAre place (text ∷ texts) (image_before place text.name read later)
one-more place text texts (Err line) later e are =
    let none = bad-first text texts line e in (omega arith, omega arith)
one-more place text texts (Ok items) (Err index) e are =
    let more = good-first text texts items e in (omega arith, omega arith)
one-more place text texts (Ok items) (Ok images) e are =
    let more = good-first text texts items e in
    (ap (λ image. image ∷ images) (image-same text items e) ∙ ap (λ images. rom_image text ∷ images) are.0, omega arith)

roms-are : (place : ℕ) (texts : List RomText) → RomsAre place texts (rom_images place texts)
roms-are place [] = (refl, refl)
roms-are place (text ∷ texts) =
    one-more place text texts (manifest_tree text.manifest) (rom_images (place + 1) texts) refl (roms-are (place + 1) texts)

-- all roms were read: they are those of the script
pub roms_read : (texts : List RomText) (images : List RomImage) → rom_images 0 texts ≡ Ok images → images ≡ map rom_image texts
roms_read texts images read = (subst (RomsAre 0 texts) read (roms-are 0 texts)).0

-- and no text is outside the form
pub none_bad : (texts : List RomText) → is_ok (rom_images 0 texts) ≡ true →
    position (λ (rom : RomText). is_err (manifest_tree rom.manifest)) texts ≡ None
none_bad texts ok =
    elim (rom_images 0 texts) as (λ read. RomsAre 0 texts read → is_ok read ≡ true → position (λ (rom : RomText). is_err (manifest_tree rom.manifest)) texts ≡ None) [
      | Ok images ↦ λ are ok.
          let over : nat_lt (bad_place texts) (length texts) ≡ false = grind (arith, nat_tests) in
          rw over refl
      | Err index ↦ λ are ok. absurd (cc)
    ] (roms-are 0 texts) ok

-- the place that was told is that of the first text outside the form
pub one_bad : (texts : List RomText) (index : ℕ) → rom_images 0 texts ≡ Err index →
    position (λ (rom : RomText). is_err (manifest_tree rom.manifest)) texts ≡ Some index
one_bad texts index read =
    let are = subst (RomsAre 0 texts) read (roms-are 0 texts) in
    let inside : nat_lt (bad_place texts) (length texts) ≡ true = grind (arith, nat_tests) in
    let same : bad_place texts ≡ index = omega arith in
    ap (λ b. cond b (Some (bad_place texts)) None) inside ∙ ap Some same
