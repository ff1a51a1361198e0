use Rattle.std.proofs.Common.{◌≡◌, ◌<◌, suc, [], ◌∷◌, ◌++◌, length, rules, refl, take, sym, ap, ◌∙◌, add-one}
use Rattle.std.proofs.lemmas.List.{take_more}
use Rattle.slab.specs.Slab.{slab_len}
use Rattle.name_tree.proofs.Calls.{walk-contains}
use Rattle.name_tree.proofs.Entering.{held-anyway, stepped-down}
use Rattle.name_tree.proofs.NodeChanges.{sound-same, tree_of-same}
use Rattle.name_tree.proofs.links.enter_along.Goals as goal

pub step_down-requires : goal.step_down-requires
step_down-requires g c = walk-contains c.loop-name.invariant.sound refl (take c.loop-name.name-index c.args.path.now) c.loop-name.slot c.loop-name.invariant.leads

pub returns-in_err-slot-clause-sound : goal.returns-in_err-slot-clause-sound
returns-in_err-slot-clause-sound g c = rw c.in_err-slot.ensures.same (sound-same c.loop-name.invariant.sound c.in_err-slot.ensures.err)

pub returns-in_err-slot-clause-err : goal.returns-in_err-slot-clause-err
returns-in_err-slot-clause-err g c =
    held-anyway c.from_residual.result (record { count = c.loop-name.name-index; tree = tree_of-same c.loop-name.invariant.sound c.in_err-slot.ensures.err ∙ c.loop-name.invariant.tree })

pub loop-name-preserved : goal.loop-name-preserved
loop-name-preserved g c =
    let k = c.loop-name.name-index in
    let l : k < length c.args.path.now = search rules in
    let front : take (suc k) c.args.path.now ≡ take k c.args.path.now ++ c.name-item.result ∷ [] =
    ap (λ n. take n c.args.path.now) (sym (add-one k)) ∙ take_more c.args.path.now k c.name-item.result l ∙ ap (λ n. take k c.args.path.now ++ n ∷ []) (sym c.name-item.is) in
    rw (add-one c.loop-name.name-index) (stepped-down c.name-item.result c.loop-name.invariant front c.in_ok-slot.ensures.leads
    (λ h. ap (λ nodes. nodes.slots) (c.in_ok-slot.ensures.kept h)) (λ h. ap slab_len (c.in_ok-slot.ensures.kept h)) (λ h. c.in_ok-slot.ensures.comes h) (λ h. c.in_ok-slot.ensures.more h))
