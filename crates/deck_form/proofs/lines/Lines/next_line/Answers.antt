use Rattle.std.proofs.Common.{take, drop, refl, sym, ap, ◌∙◌}
use Rattle.vfs_model.specs.Script.{is_bad_line, raw_lines}
use Rattle.deck_form.proofs.lines.Lines.next_line.Goals as goal

pub returns-then-is_bad_line-clause-fault : goal.returns-then-is_bad_line-clause-fault
returns-then-is_bad_line-clause-fault c =
    let rest = c.self.inside.rest.now in
    let len = c.first_line_len.result in
    rw (← c.self.view_is) (
      refl,
      record {
        raw = take len rest;
        raws = raw_lines (drop len rest);
        first = c.first_line_len.ensures.line;
        bad = sym (c.if-is_bad_line.ensures ∙ ap (is_bad_line c.self.inside.size) c.split_at.ensures.front);
      },
    )
