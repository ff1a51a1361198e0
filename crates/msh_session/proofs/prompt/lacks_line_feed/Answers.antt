use Rattle.std.proofs.Common.{ap, sym, ◌∙◌}
use Rattle.std.specs.Option.{option_copied}
use Rattle.vfs_model.specs.CommandText.{is_other_byte}
use Rattle.msh_session.proofs.LastByte.{last_or_at}
use Rattle.msh_session.proofs.prompt.lacks_line_feed.Goals as goal

pub returns-in-Some : goal.returns-in-Some
returns-in-Some c = sym (ap is_other_byte (last_or_at c.args.text.now ∙ sym c.last.ensures.value ∙ ap option_copied c.in-Some.is))

pub returns-in-None : goal.returns-in-None
returns-in-None c = sym (ap is_other_byte (last_or_at c.args.text.now ∙ sym c.last.ensures.value ∙ ap option_copied c.in-None.is))
