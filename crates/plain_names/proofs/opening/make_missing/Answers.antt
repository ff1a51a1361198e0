use Rattle.std.proofs.Common.{ap, arith}
use Rattle.vfs_model.specs.Lookup.{is_file}
use Rattle.plain_names.proofs.Made.{made_is_file}
use Rattle.plain_names.proofs.opening.make_missing.Goals as goal

pub returns-clause-kept : goal.returns-clause-kept
returns-clause-kept c =
    let path = c.args.path.now in
    let made = made_is_file c.args.namespace.now path (omega (arith, c.in_ok-make_file.ensures.number, c.requires.sized.places)) (cc (c.is_there.ensures, c.if-is_there.false)) in
    let same = ap (λ rows. is_file rows.next path) c.in_ok-make_file.ensures.ok in
    λ f. absurd (cc (made, same, f))
