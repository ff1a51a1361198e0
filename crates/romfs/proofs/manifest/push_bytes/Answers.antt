use Rattle.std.proofs.Common.{◌≡◌, ◌++◌, min, length, sym, ap, ◌∙◌, append_assoc}
use Rattle.std.specs.Slice.Iter.{chunks_rest}
use Rattle.vfs_model.specs.Manifest.{bytes_line, bytes_text}
use Rattle.romfs.proofs.TextLemmas.{bytes_text-step}
use Rattle.romfs.proofs.manifest.push_bytes.Goals as goal

pub loop-line-preserved : goal.loop-line-preserved
loop-line-preserved c =
    let before = chunks_rest c.loop-line.line-iterator in
    let after = chunks_rest c.next.new.self in
    let line = c.in-Some.line.now in
    let steps = c.in-Some.ensures.steps in
    let size : length line ≡ min 500 (length before) = steps.1.1 ∙ ap (λ n. min n (length before)) c.loop-line.invariant.1 in
    let step = bytes_text-step before line after steps.1.0 size steps.1.2 in (
      rw c.in_ok-push_bytes_line.ensures (append_assoc c.loop-line.out (bytes_line line) (bytes_text after) ∙ ap (λ t. c.loop-line.out ++ t) (sym step) ∙ c.loop-line.invariant.0),
      steps.0 ∙ c.loop-line.invariant.1,
    )
