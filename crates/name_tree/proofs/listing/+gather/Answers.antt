use Rattle.std.proofs.Common.{◌≡◌, ◌<◌, suc, [], ◌∷◌, ◌++◌, length, rules, arith, refl, sym, ap, ◌∙◌, option_copied}
use Rattle.std.specs.FinMap.Entries.{put}
use Rattle.vfs_base.proofs.PathMaps.{insert_entry-put}
use Rattle.vfs_base.specs.Path.{path_cmp}
use Rattle.name_tree.proofs.Gathers.{all-lead, entries_onto, gathered-entry, gathered-node, length-of-next, popped, short, walk-on}
use Rattle.name_tree.proofs.Walks.{live-walk}
use Rattle.name_tree.specs.Gathered.{gathered}
use Rattle.name_tree.specs.Layout.{child_in, entries_in, entries_of, value_of, walk}
use Rattle.name_tree.proofs.listing.+gather.Goals as goal

pub unreachable-requires : goal.unreachable-requires
unreachable-requires g t c = live-walk c.requires.tree c.args.path.now c.args.slot c.requires.leads (ap value_of (sym c.get.ensures ∙ ap option_copied c.in_default.is))

pub loop-name-init : goal.loop-name-init
loop-name-init g t c =
    let all : c.into_iter-name-iterator.result ≡ c.in-Some.node.now.entries.entries = search rules in
    let entries : entries_in c.args.nodes.now.slots c.args.slot ≡ c.in-Some.node.now.entries.entries = ap entries_of (sym c.in-Some.ensures) in
    let more : c.insert.new.self.entries ≡ put path_cmp c.args.path.now c.in-Some.node.now.value c.args.found.now.entries =
    c.in_ok-insert.ensures.entries ∙ insert_entry-put path_cmp c.args.found.now.entries c.in_ok-copy.field-0 c.in-Some.node.now.value
    ∙ ap (λ p. put path_cmp p c.in-Some.node.now.value c.args.found.now.entries) c.in_ok-copy.ensures in
    record {
      same = refl;
      leads = rw all (all-lead c.args.nodes.now.slots c.args.slot c.in-Some.node.now.entries.entries entries c.iter-name-items.ensures.ordered);
      found = rw all (ap (λ es. entries_onto c.args.nodes.now.slots c.args.path.now es c.insert.new.self.entries) (sym entries)
          ∙ ap (entries_onto c.args.nodes.now.slots c.args.path.now (entries_in c.args.nodes.now.slots c.args.slot)) more
          ∙ sym (gathered-node c.args.nodes.now.slots c.requires.tree c.args.path.now c.requires.leads c.in-Some.node.now.value c.args.found.now.entries (ap value_of (sym c.in-Some.ensures))));
    }

pub gather-requires : goal.gather-requires
gather-requires g t c κs within =
    let first : c.loop-name.name-iterator ≡ (c.in-Some-2.name.now, c.in-Some-2.below.now) ∷ c.next.new.self = search rules in
    let pushed : c.push.new.self ≡ c.args.path.now ++ c.in-Some-2.name.now ∷ [] =
    c.in_ok-push.ensures.ok ∙ ap (λ p. p ++ c.in_ok-copy-2.field-0 ∷ []) c.loop-name.invariant.same ∙ ap (λ n. c.args.path.now ++ n ∷ []) c.in_ok-copy-2.ensures in
    let lead = rw first at c.loop-name.invariant.leads in
    let deep : length c.args.path.now < length c.args.nodes.now.slots = short c.args.nodes.now.slots c.requires.tree c.args.path.now c.requires.leads in
    let longer : length c.push.new.self ≡ suc (length c.args.path.now) = ap length pushed ∙ length-of-next c.args.path.now c.in-Some-2.name.now in
    (omega (arith, deep, longer, c.decreases), (within, (c.requires.tree, ap (λ p. walk (child_in c.args.nodes.now.slots) 0 p) pushed ∙ walk-on c.args.nodes.now.slots c.requires.tree c.args.path.now c.requires.leads c.in-Some-2.name.now c.in-Some-2.below.now lead.0)))

pub loop-name-preserved-in_ok-gather : goal.loop-name-preserved-in_ok-gather
loop-name-preserved-in_ok-gather g t c =
    let first : c.loop-name.name-iterator ≡ (c.in-Some-2.name.now, c.in-Some-2.below.now) ∷ c.next.new.self = search rules in
    let pushed : c.push.new.self ≡ c.args.path.now ++ c.in-Some-2.name.now ∷ [] =
    c.in_ok-push.ensures.ok ∙ ap (λ p. p ++ c.in_ok-copy-2.field-0 ∷ []) c.loop-name.invariant.same ∙ ap (λ n. c.args.path.now ++ n ∷ []) c.in_ok-copy-2.ensures in
    let lead = rw first at c.loop-name.invariant.leads in
    record {
      same = popped c.pop.result c.gather.new.path c.pop.new.self c.args.path.now c.in-Some-2.name.now (c.in_ok-gather.ensures.path ∙ pushed) c.pop.ensures.some c.pop.ensures.none;
      leads = lead.1;
      found =
          ap (entries_onto c.args.nodes.now.slots c.args.path.now c.next.new.self)
          (c.in_ok-gather.ensures.found ∙ ap (λ p. gathered c.args.nodes.now.slots p c.in-Some-2.below.now c.loop-name.found.entries) pushed)
          ∙ sym (gathered-entry c.args.nodes.now.slots c.args.path.now (c.in-Some-2.name.now, c.in-Some-2.below.now) c.next.new.self c.loop-name.found.entries)
          ∙ ap (λ es. entries_onto c.args.nodes.now.slots c.args.path.now es c.loop-name.found.entries) (sym first) ∙ c.loop-name.invariant.found;
    }
