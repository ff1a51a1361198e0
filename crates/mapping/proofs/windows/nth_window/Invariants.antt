use Rattle.std.proofs.Common.{◌≡◌, slice_get, drop}
use Rattle.std.specs.List.{filter_map}
use Rattle.mapping.proofs.windows.nth_window.Given as goal

abbrev pub invariant-loop-window : goal.invariant-loop-window
invariant-loop-window l =
    slice_get (filter_map (λ window. window) (drop l.window-index l.places)) l.left
    ≡ slice_get (filter_map (λ window. window) l.places) l.place
