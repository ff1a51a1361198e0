use Rattle.std.proofs.Common.{sym, ap, ◌∙◌}
use Rattle.std.specs.Option.{option_copied}
use Rattle.romfs.proofs.LineLemmas.{input_lines-split, input_lines-whole}
use Rattle.romfs.proofs.field.first_line.Goals as goal

pub returns-in-Some-clause-lines : goal.returns-in-Some-clause-lines
returns-in-Some-clause-lines c =
    let split = c.split_once.ensures in
    rw (c.without_return.ensures, split.before) (input_lines-split c.args.bytes.now c.in-Some.rest.now (ap option_copied (sym c.in-Some.is) ∙ split.after))

pub returns-in-None-clause-lines : goal.returns-in-None-clause-lines
returns-in-None-clause-lines c =
    let split = c.split_once.ensures in
    rw split.before (input_lines-whole c.args.bytes.now (ap option_copied (sym c.in-None.is) ∙ split.after) c.requires)
