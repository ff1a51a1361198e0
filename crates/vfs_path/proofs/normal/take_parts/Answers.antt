use Rattle.std.proofs.Common.{rules, tests, fold, ap, ◌∙◌, arith}
use Rattle.std.proofs.lemmas.Iterator.Consumers.{YieldsList-turn, YieldsList-end}
use Rattle.std.proofs.lemmas.Iterator.Splits.{YieldsList-from_slice_split}
use Rattle.std.proofs.lemmas.List.Folds.{list_all_at, list_any_at}
use Rattle.std.specs.List.{list_all}
use Rattle.vfs_base.specs.Name.{is_name_byte}
use Rattle.vfs_model.specs.NormalPath.{is_slash, is_long_part, after_part, parts_of}
use Rattle.vfs_path.proofs.Parts.{clean_parts}
use Rattle.vfs_path.proofs.normal.take_parts.Goals as goal

-- each part that comes is one of the text's
pub take_part-requires : goal.take_part-requires
take_part-requires c =
    let turn = YieldsList-turn (YieldsList-from_slice_split _ is_slash c.args.text.now (cc) (cc) (cc) (λ x b q k. search (rules, tests)))
    c.loop-part.yielded _ c.loop-part.yielded_by _ _ c.in-Some.part c.in-Some.is c.next.ensures.steps in
    let long = list_any_at is_long_part (parts_of c.args.text.now) _ c.in-Some.part.now turn.0 in
    let unclean = list_all_at (list_all is_name_byte) (parts_of c.args.text.now) _ c.in-Some.part.now turn.0 in
    let clean = clean_parts c.args.text.now c.requires.no_zero in
    record { short = grind arith; clean = grind arith }

-- the parts that came are all of the text's
pub returns : goal.returns
returns c =
    let end = YieldsList-end (YieldsList-from_slice_split _ is_slash c.args.text.now (cc) (cc) (cc) (λ x b q k. search (rules, tests)))
    c.loop-part.yielded _ c.loop-part.yielded_by _ _ c.in-None.is c.next.ensures.steps in
    c.loop-part.invariant ∙ ap (fold after_part c.args.path) end.0
