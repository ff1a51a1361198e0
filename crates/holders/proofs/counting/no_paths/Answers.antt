use Rattle.std.proofs.Common.{◌≡◌, None, replicate, ap, ◌∙◌, arith}
use Rattle.holders.proofs.counting.no_paths.Goals as goal

pub returns : goal.returns
returns c =
    let most = c.loop.auto.counter-end in
    let least = c.loop-test.false in
    let end : c.loop.counter ≡ 1024 = grind arith in
    c.loop.invariant ∙ ap (λ n. replicate n None) end
