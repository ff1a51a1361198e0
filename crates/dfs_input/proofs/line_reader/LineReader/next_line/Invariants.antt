use Rattle.std.proofs.Common.{◌≡◌, ◌+◌, ◌-◌, [], length, true, false}
use Rattle.std.specs.Io.KnownBytes.{IsAtEnd}
use Rattle.vfs_outside.specs.Causes.{StillTells}
use Rattle.dfs_input.proofs.LineReaderLemmas.{Holding}
use Rattle.dfs_input.proofs.line_reader.LineReader.next_line.Given as goal

abbrev pub invariant-loop-held : goal.invariant-loop-held
invariant-loop-held g l = record {
  holding : Holding l.initial.self l.self (g.S.Source.left l.initial.source) (g.S.Source.left l.source) l.held;
  fresh : l.held ≡ [] → l.self ≡ l.initial.self;
  at_end : l.initial.self.at_end ≡ true → l.self.at_end ≡ true;
  again : l.initial.self.at_end ≡ true → l.source ≡ l.initial.source;
  sees : l.self.at_end ≡ true → l.initial.self.at_end ≡ false → IsAtEnd (g.S.Source.left l.source);
  tells : StillTells (g.S.Source.left l.initial.source) (g.S.Source.left l.source);
  faults : g.S.Source.faults l.source ≡ g.S.Source.faults l.initial.source;
}

abbrev pub decreases-loop-held : goal.decreases-loop-held
decreases-loop-held g l = 16777216 - (l.self.size + length l.held)
