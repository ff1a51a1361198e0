use Rattle.std.proofs.Common.{nat_eq, rules}
use Rattle.std.proofs.lemmas.Bool.Decides.{Decides-at}
use Rattle.std.specs.Cmp.Lexicographic.{pointwise, pointwise_decides, bytes_decides}
use Rattle.std.specs.List.{starts_with}
use Rattle.vfs_path.proofs.ancestry.starts_with.Goals as goal

pub returns-clause-prefix : goal.returns-clause-prefix
returns-clause-prefix c =
    Decides-at _ (starts_with (pointwise nat_eq) c.args.path.now c.args.front.now) (search rules) (pointwise_decides bytes_decides _ _)
