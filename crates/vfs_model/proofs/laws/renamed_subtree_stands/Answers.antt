use Rattle.vfs_model.proofs.RenameLaws.{renamed-at, renamed-away, renamed-beside}
use Rattle.vfs_model.proofs.laws.renamed_subtree_stands.Goals as goal

pub returns : goal.returns
returns c n old new apart one fits sorted plain clear empty = (
  renamed-at n old new apart one fits sorted plain clear empty,
  renamed-away n old new apart one fits sorted plain clear empty,
  renamed-beside n old new apart one fits sorted plain clear empty,
)
