-- What the parts of a text are made of.
use Rattle.std.proofs.Common.{◌≡◌, ℕ, true, false, List, [], ◌∷◌, refl, arith}
use Rattle.std.proofs.lemmas.Grind.{common_steps}
use Rattle.std.specs.List.{list_any, list_all, onto_first}
use Rattle.vfs_base.specs.Name.{is_name_byte}
use Rattle.vfs_model.specs.NormalPath.{is_zero, parts_of}

onto_first-clean : (byte : ℕ) (parts : List (List ℕ)) → is_name_byte byte ≡ true →
    list_all (list_all is_name_byte) parts ≡ true → list_all (list_all is_name_byte) (onto_first byte parts) ≡ true
onto_first-clean byte [] name clean = grind arith
onto_first-clean byte (part ∷ parts) name clean = grind arith

-- the parts of a text without a zero byte have only bytes that a name may have
pub clean_parts : (text : List ℕ) → list_any is_zero text ≡ false → list_all (list_all is_name_byte) (parts_of text) ≡ true
clean_parts [] whole = refl
clean_parts (byte ∷ text) whole = grind (arith, common_steps, onto_first-clean byte (parts_of text), clean_parts text)
