use Rattle.std.proofs.Common.{rules, tests}
use Rattle.std.proofs.lemmas.Iterator.Search.{any_from_yields_List}
use Rattle.std.proofs.lemmas.Iterator.Splits.{YieldsList-from_slice_split}
use Rattle.vfs_model.specs.NormalPath.{is_slash, is_long_part}
use Rattle.vfs_path.proofs.normal.has_long_part.Goals as goal

pub returns : goal.returns
returns c =
    any_from_yields_List is_long_part _ _ _ c.any.ensures.ran
    (YieldsList-from_slice_split _ is_slash c.args.text.now (cc) (cc) (cc) (λ x b q k. search (rules, tests)))
    (λ x b q k. search (rules, tests))
