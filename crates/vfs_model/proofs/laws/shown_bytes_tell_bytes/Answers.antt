use Rattle.vfs_model.proofs.ShownBytes.{shown-tell}
use Rattle.vfs_model.proofs.laws.shown_bytes_tell_bytes.Goals as goal

pub returns : goal.returns
returns c bytes others k l h = shown-tell bytes others k l h
