use Rattle.std.proofs.Common.{◌≡◌, ◌<◌, length, suc, refl, sym, ap, ◌∙◌, arith}
use Rattle.std.proofs.lemmas.Option.{cond_some}
use Rattle.vfs_model.specs.Rom.{is_rom_name}
use Rattle.romfs.proofs.SplitLemmas.{cond_none}
use Rattle.romfs.proofs.PathLemmas.{parts_left, parts_left-first, one_more, list_all-bad, list_all-good}
use Rattle.romfs.proofs.field.read_names.Goals as goal

pub returns-in_default-2 : goal.returns-in_default-2
returns-in_default-2 c =
    let name = c.split_once.result.0.now in
    let rest = c.split_once.result.1 in
    let first = parts_left-first c.in-Some.names.now name rest c.split_once.ensures.before c.split_once.ensures.after in
    let whole = one_more c.loop-left.path _ name c.in-Some.names c.loop-left.left rest c.loop-left.invariant.0 c.in-Some.is first in
    let bad = cond_none (is_rom_name name) name (sym c.in_ok-name.ensures ∙ c.in_default-2.is) in
    rw (list_all-bad is_rom_name c.loop-left.path (parts_left rest) _ name whole bad) refl

pub loop-left-smaller : goal.loop-left-smaller
loop-left-smaller c =
    let rest = c.split_once.result.1 in
    let first = parts_left-first c.in-Some.names.now c.split_once.result.0.now rest c.split_once.ensures.before c.split_once.ensures.after in
    let left : length (parts_left c.loop-left.left) ≡ suc (length (parts_left rest)) = ap (λ l. length (parts_left l)) c.in-Some.is ∙ ap length first in
    let fewer : length (parts_left rest) < length (parts_left c.loop-left.left) = omega (arith, left) in
    fewer

pub loop-left-preserved : goal.loop-left-preserved
loop-left-preserved c =
    let name = c.split_once.result.0.now in
    let rest = c.split_once.result.1 in
    let first = parts_left-first c.in-Some.names.now name rest c.split_once.ensures.before c.split_once.ensures.after in
    let whole = one_more c.loop-left.path _ name c.in-Some.names c.loop-left.left rest c.loop-left.invariant.0 c.in-Some.is first in
    let (good, same) = cond_some (is_rom_name name) name c.in-Some-2.name (sym c.in_ok-name.ensures ∙ c.in-Some-2.is) in
    let pushed = c.in_ok-push.ensures.ok in
    rw (pushed, ← same) (whole, list_all-good is_rom_name c.loop-left.path name c.loop-left.invariant.1 good)
