use Rattle.std.proofs.Common.{◌+◌, ◌-◌, ◌*◌, ◌/◌, ◌≤◌, arith, refl, subst, sym}
use Rattle.vfs_base.specs.declared.limits.TheConstants.{PAGE_SIZE}
use Rattle.page_cache.specs.AddressSpace.{AddressSpace, IsCurrent, view}
use Rattle.cell_file.specs.Moves.{Passes, Runs, truncating}
use Rattle.cell_file.specs.Parts.{CutsBytes}
use Rattle.cell_file.proofs.Cutting.{cuts-cleared, truncate-stopped, truncated}
use Rattle.cell_file.proofs.transfer.truncate_pages.Goals as goal

pub returns-in-Err-clause-runs : goal.returns-in-Err-clause-runs
returns-in-Err-clause-runs g c =
    let old = view g.B.Block.pages g.B.Block.contents g.B.Block.counts c.args.space.now c.args.device.now in
    let next = view g.B.Block.pages g.B.Block.contents g.B.Block.counts c.clear_end.new.space c.clear_end.new.device in
    subst (Runs (truncating c.args.size c.args.len) old next) (sym c.mark_of.ensures)
    (truncate-stopped old next c.args.size c.args.len c.in-Err.fault c.requires.shorter (c.in-Err.ensures {u = tt}).stops)

pub returns-clause-runs : goal.returns-clause-runs
returns-clause-runs g c =
    let old = view g.B.Block.pages g.B.Block.contents g.B.Block.counts c.args.space.now c.args.device.now in
    let next = view g.B.Block.pages g.B.Block.contents g.B.Block.counts c.clear_end.new.space c.clear_end.new.device in
    subst (λ (s : AddressSpace). Passes (truncating c.args.size c.args.len) old (record { space = s; device = next.device })) (sym c.cut.ensures.cut)
    (truncated old next c.args.size c.args.len c.requires.shorter (c.in_default.ensures {u = tt}).ok)

pub returns-clause-cuts : goal.returns-clause-cuts
returns-clause-cuts g c =
    let old = view g.B.Block.pages g.B.Block.contents g.B.Block.counts c.args.space.now c.args.device.now in
    let next = view g.B.Block.pages g.B.Block.contents g.B.Block.counts c.clear_end.new.space c.clear_end.new.device in
    let len = c.args.len in
    let call = c.in_default.ensures {u = tt} in
    let shorter = c.requires.shorter in
    let inside = c.requires.inside in
    let within : len ≤ PAGE_SIZE * c.args.space.now.pages = omega (arith, shorter, inside) in
    subst (λ (s : AddressSpace). CutsBytes len old (record { space = s; device = next.device })) (sym c.cut.ensures.cut)
    (cuts-cleared old next len ((len + PAGE_SIZE - 1) / PAGE_SIZE) refl within call.pages call.clears
    (λ told current. subst (λ (s : AddressSpace). IsCurrent s told) c.cut.ensures.cut (c.cut.ensures.current told current)))
