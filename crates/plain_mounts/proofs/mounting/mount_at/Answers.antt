use Rattle.plain_mounts.proofs.mounting.mount_at.Goals as goal

pub returns-clause-contents : goal.returns-clause-contents
returns-clause-contents c =
    cc (c.in_ok-contents.ensures, c.as_slice-3.ensures, c.as_slice-4.ensures, c.in_ok-changes.ensures.contents c.args.namespace.now.roms)
