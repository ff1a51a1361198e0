use Rattle.std.proofs.Common.{◌≡◌, ◌^◌, ◌<◌, true, drop}
use Rattle.std.specs.List.{list_all}
use Rattle.std.specs.Str.Parse.{digits_value, digits_value_after}
use Rattle.vfs_model.specs.CommandWords.{is_digit}
use Rattle.msh_forms.proofs.numbers.value_of.Given as goal

abbrev pub invariant-loop-byte : goal.invariant-loop-byte
invariant-loop-byte l =
    (digits_value_after 10 l.value (drop l.byte-index l.digits) ≡ digits_value 10 l.digits)
    × (list_all is_digit (drop l.byte-index l.digits) ≡ true)
    × (l.value < 10 ^ l.byte-index)
