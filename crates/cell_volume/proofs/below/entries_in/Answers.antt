use Rattle.std.proofs.Common.{◌≡◌, [], ◌∷◌, ◌++◌, false, if◌then◌else◌, sym, ap, ◌∙◌, rules}
use Rattle.std.proofs.lemmas.List.{append-nil}
use Rattle.std.proofs.lemmas.Map.Iter.{rest_more}
use Rattle.std.specs.BTreeMap.Range.{entries_between}
use Rattle.std.specs.Map.Iter.{deref_pair}
use Rattle.std.specs.declared.ops.Bound.TheVariants.{Included, Unbounded}
use Rattle.vfs_base.specs.Path.{path_cmp}
use Rattle.vfs_model.specs.Lookup.{is_below}
use Rattle.vfs_model.specs.NameSteps.{is_entry_of, last_name}
use Rattle.cell_volume.proofs.BelowRanges.{entries-begin, entries-done, entries-next, paths-all, range_from, rest-begins, rest-next}
use Rattle.cell_volume.proofs.MountedLemmas.{ordered-entries}
use Rattle.cell_volume.specs.MountedVolume.{entries_at}
use Rattle.cell_volume.proofs.below.entries_in.Goals as goal

pub loop-path-init : goal.loop-path-init
loop-path-init c =
    let kept = c.args.nodes.now.entries in
    let first : c.into_iter-path-iterator.result ≡ range_from c.args.folder.now kept =
    c.into_iter-path-iterator.ensures.into_iter_gives ∙ c.before.range-path-items.ensures.between tt ∙ ap (λ p. entries_between path_cmp (Included p) Unbounded kept) c.in_ok-least_below.ensures in
    let paths = paths-all kept c.requires in
    record {
      entries =
          ap (λ entries. entries ++ entries_at c.into_iter-path-iterator.result c.args.folder.now) c.new-entries.ensures
          ∙ entries-begin c.args.folder.now kept c.into_iter-path-iterator.result paths first;
      rest = rest-begins c.args.folder.now kept c.into_iter-path-iterator.result (ordered-entries kept c.before.range-path-items.ensures.ordered) paths first;
    }

pub loop-path-preserved : goal.loop-path-preserved
loop-path-preserved c =
    let more = rest_more deref_pair c.loop-path.path-iterator c.next.new.self c.next.result (c.in-Some.path, c.in-Some.node) c.in-Some.is c.next.ensures.steps in
    record {
      entries = entries-next c.args.folder.now c.loop-path.entries (entries_at c.args.nodes.now.entries c.args.folder.now) c.push_entry.new.entries c.loop-path.path-iterator c.next.new.self
          (c.in-Some.path.now, c.in-Some.node.now) more
          (c.in_ok-push_entry.ensures
          ∙ ap (λ front. c.loop-path.entries ++ (if is_entry_of front c.in-Some.path.now then record { name = last_name c.in-Some.path.now; node = c.in-Some.node.now } ∷ [] else [])) c.as_names-front.ensures.value)
          c.loop-path.invariant.entries;
      rest = rest-next c.args.folder.now c.loop-path.path-iterator c.next.new.self (c.in-Some.path.now, c.in-Some.node.now) more c.loop-path.invariant.rest;
    }

pub returns-then-not-is_below : goal.returns-then-not-is_below
returns-then-not-is_below c =
    let more = rest_more deref_pair c.loop-path.path-iterator c.next.new.self c.next.result (c.in-Some.path, c.in-Some.node) c.in-Some.is c.next.ensures.steps in
    let beside : is_below c.args.folder.now c.in-Some.path.now ≡ false = grind rules in
    entries-done c.args.folder.now c.loop-path.entries (entries_at c.args.nodes.now.entries c.args.folder.now) c.loop-path.path-iterator c.next.new.self (c.in-Some.path.now, c.in-Some.node.now)
    c.as_names-front.ensures.is_path more beside c.loop-path.invariant.rest c.loop-path.invariant.entries

pub returns : goal.returns
returns c =
    let none = c.in-None.ensures.steps.0 in
    sym (append-nil c.loop-path.entries) ∙ ap (λ tree. c.loop-path.entries ++ entries_at tree c.args.folder.now) (sym none) ∙ c.loop-path.invariant.entries
