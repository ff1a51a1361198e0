use Rattle.vfs_model.proofs.EchoedTexts.{echo-appends}
use Rattle.vfs_model.proofs.command_laws.echo_appends_text.Goals as goal

pub returns : goal.returns
returns c e state writable room = echo-appends e state writable room
