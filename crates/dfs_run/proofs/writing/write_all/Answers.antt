use Rattle.std.proofs.Common.{◌≡◌, take, drop, length, ◌-◌, arith, rules, take-add, take_all, length-drop}
use Rattle.std.proofs.KnownBytes.{Appends-trans}
use Rattle.dfs_run.proofs.writing.write_all.Goals as goal

pub loop-done-preserved : goal.loop-done-preserved
loop-done-preserved g c =
    let bytes = c.args.bytes.now in
    let written = g.K.Sink.written in
    let done = c.loop-done.done in
    let count = c.in_ok-done.field-0 in
    let all : take (length bytes - done) (drop done bytes) ≡ drop done bytes = take_all _ _ (simp length-drop (omega arith)) in
    record {
      within = search rules;
      appends = rw take-add (Appends-trans (written c.args.sink.now) (written c.loop-done.sink) (written c.write_some.new.self) (take done bytes) (take count (drop done bytes)) c.loop-done.invariant.appends (rw all at c.in_ok-done.ensures.appends));
      tells = search rules;
      faults = search rules;
    }
