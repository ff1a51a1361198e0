-- What lies at home fits where the world is consistent, and the other way round.
use Rattle.std.proofs.Common.{◌≡◌, ℕ, zero, suc, ◌+◌, ◌-◌, ◌<◌, Bool, true, false, Option, Some, None, List, [], ◌∷◌, length, map, replicate, slice_index_or, slice_set, inl, inr, refl, sym, ap, subst, ◌∙◌, arith}
use Rattle.std.proofs.lemmas.List.{get_or_past, length-map, length-set}
use Rattle.std.specs.List.{list_any}
use Rattle.std.specs.Prelude.{count_by}
use Rattle.vfs_model.specs.Boxes.{BoxesPlaced, HomesFit, IsConsistent, is_backed_by, is_kept_on, lies_on_cell, one_if}
use Rattle.vfs_model.specs.FileLife.{backing_of, no_volume, volume_at}
use Rattle.vfs_model.specs.Homes.{cell_bytes, cell_capacity, with_empty_cells}
use Rattle.vfs_model.specs.Namespace.{life_at}
use Rattle.vfs_model.specs.UmountSteps.{format_volume}
use Rattle.vfs_model.specs.declared.namespace.Backing.TheVariants as backing
use Rattle.vfs_model.specs.declared.namespace.LiveFile.{LiveFile}
use Rattle.vfs_model.specs.declared.namespace.Namespace.{Namespace}
use Rattle.vfs_model.specs.declared.world.Homes.{Homes}
use Rattle.vfs_model.specs.declared.world.WorldState.{WorldState}
use Rattle.world_laws.proofs.parts.Agreeing.{Agrees}
use Rattle.world_laws.proofs.parts.AtHome.{AtHome}
use Rattle.world_laws.proofs.lists.Counting.{count-place, none-count, some-count}
use Rattle.world_laws.proofs.parts.Emptying.{backed, live-within}
use Rattle.world_laws.proofs.lists.Lists.{below-or-past, same-or-other, set-there, true-or-false}
use Rattle.world_laws.proofs.steps.MountKeeping.{counted-place}
use Rattle.world_laws.proofs.parts.Taking.{set-at}
use Rattle.world_laws.proofs.steps.Vacating.{on-cell}

-- what is said of the bytes on a cell is said of the cells that there are
pub bytes-inside : (homes : Homes) (n : Namespace) (volume cell : ℕ) → length homes.cells ≡ length n.volumes → length (slice_index_or homes.cells volume []) ≡ length (volume_at n volume).pages →
    (volume < length n.volumes → cell < length (volume_at n volume).pages → cell_bytes homes volume cell ≡ []) → cell_bytes homes volume cell ≡ []
bytes-inside homes n volume cell volumes cells h = elim (below-or-past volume (length homes.cells)) [
  | inr past ↦ ap (λ found. slice_index_or found cell []) (get_or_past homes.cells volume [] past)
  | inl within ↦ elim (below-or-past cell (length (slice_index_or homes.cells volume []))) [
    | inr past ↦ get_or_past (slice_index_or homes.cells volume []) cell [] past
    | inl inside ↦ h (subst (λ k. volume < k) volumes within) (subst (λ k. cell < k) cells inside)
  ]
]

no-count : {X : Type 0} (p : X → Bool) (xs : List X) → count_by p xs ≡ 0 → list_any p xs ≡ false
no-count p xs e = elim (true-or-false (list_any p xs)) [
  | inr h ↦ h
  | inl h ↦ let more = some-count p xs h in absurd (omega (arith, more, e))
]

backed-on : (volume cell : ℕ) (found : Option LiveFile) → is_backed_by (lies_on_cell volume cell) found ≡ true → backing_of found ≡ backing.Cell volume cell
backed-on volume cell None h = absurd (cc)
backed-on volume cell (Some life) h = on-cell volume cell life.backing h

pub at-home-of : (w : WorldState) → IsConsistent w → AtHome w.homes w.namespace
at-home-of w c = record {
  volumes = c.homes_fit.volumes;
  cells = c.homes_fit.cells;
  devices = c.homes_fit.devices;
  taken = λ row volume cell h. bytes-inside w.homes w.namespace volume cell c.homes_fit.volumes (c.homes_fit.cells volume) (λ within inside.
      let placed = c.boxes_placed.cells volume cell within inside in
      let lives = count-place (is_backed_by (lies_on_cell volume cell)) w.namespace.live_files (row - 1) None (live-within w.namespace.live_files (row - 1) volume cell h)
      (backed volume cell (life_at w.namespace row) h) in
      c.homes_fit.kept volume cell (no-count (λ entry. is_kept_on cell entry.1) (volume_at w.namespace volume).kept (omega (arith, placed, lives))));
  spare = λ volume cell h. bytes-inside w.homes w.namespace volume cell c.homes_fit.volumes (c.homes_fit.cells volume) (λ within inside.
      let placed = c.boxes_placed.cells volume cell within inside in
      let one : one_if (slice_index_or (volume_at w.namespace volume).spare cell false) ≡ 1 = ap one_if h in
      c.homes_fit.kept volume cell (no-count (λ entry. is_kept_on cell entry.1) (volume_at w.namespace volume).kept (omega (arith, placed, one))));
  out = c.homes_fit.out;
}

-- the files of a world agree with its namespace, also where the next namespace stands already, whose cells are as large
pub agrees-of : (w : WorldState) (next : Namespace) → IsConsistent w → ((volume cell : ℕ) → cell_capacity next volume cell ≡ cell_capacity w.namespace volume cell) →
    Agrees (record w { namespace = next }) w.namespace
agrees-of w next c pages = record {
  files = record {
    files = c.sizes.files;
    agree = c.rows_agree;
    live = λ row volume cell h. let l = c.cells_fit.live row volume cell h in let e = pages volume cell in omega (arith, l, e);
    home = λ volume cell. let l = c.cells_fit.home volume cell in let e = pages volume cell in omega (arith, l, e);
  };
  homes = at-home-of w c;
}

pub homes-fit-of : (w : WorldState) → BoxesPlaced w.namespace → AtHome w.homes w.namespace → HomesFit w
homes-fit-of w boxes a = record {
  volumes = a.volumes;
  cells = a.cells;
  devices = a.devices;
  kept = λ volume cell h. bytes-inside w.homes w.namespace volume cell a.volumes (a.cells volume) (λ within inside.
      let placed = boxes.cells volume cell within inside in
      let none = none-count (λ entry. is_kept_on cell entry.1) (volume_at w.namespace volume).kept h in
      elim (true-or-false (slice_index_or (volume_at w.namespace volume).spare cell false)) [
        | inl e ↦ a.spare volume cell e
        | inr e ↦
            let zero_is : one_if (slice_index_or (volume_at w.namespace volume).spare cell false) ≡ 0 = ap one_if e in
            let at = counted-place (is_backed_by (lies_on_cell volume cell)) w.namespace.live_files None (omega (arith, placed, none, zero_is)) in
            a.taken (at.place + 1) volume cell
            (ap (λ k. backing_of (slice_index_or w.namespace.live_files k None)) (omega arith) ∙ backed-on volume cell (slice_index_or w.namespace.live_files at.place None) at.holds)
      ]);
  out = a.out;
}

-- a formatted volume
blank-at : (cells : List (List ℕ)) (cell : ℕ) → let all : List (List ℕ) = map (λ bytes. []) cells in slice_index_or all cell [] ≡ []
blank-at [] cell = refl
blank-at (bytes ∷ cells) zero = refl
blank-at (bytes ∷ cells) (suc cell) = blank-at cells cell

blank-in : (all : List (List (List ℕ))) (volume cell : ℕ) → let blank : List (List ℕ) = map (λ bytes. []) (slice_index_or all volume []) in
    slice_index_or (slice_index_or (slice_set all volume blank) volume []) cell [] ≡ []
blank-in [] volume cell = refl
blank-in (cells ∷ all) zero cell = blank-at cells cell
blank-in (cells ∷ all) (suc volume) cell = blank-in all volume cell

pub home-formatted : (homes : Homes) (n : Namespace) (volume : ℕ) → AtHome homes n → AtHome (with_empty_cells homes volume) (format_volume n volume)
home-formatted homes n volume a =
    let blank : List (List ℕ) = map (λ bytes. []) (slice_index_or homes.cells volume []) in
    let new = record (volume_at n volume) { spare = replicate (length (volume_at n volume).pages) true; kept = [] } in
    record {
      volumes = length-set homes.cells volume blank ∙ a.volumes ∙ sym (length-set n.volumes volume new);
      cells = λ u.
          set-at (λ cells. length cells ≡ length (slice_index_or homes.cells u [])) homes.cells volume u blank []
          (λ e. length-map (slice_index_or homes.cells volume []) _ ∙ ap (λ k. length (slice_index_or homes.cells k [])) (sym e)) refl
          ∙ a.cells u ∙ sym (set-at (λ v. length v.pages ≡ length (volume_at n u).pages) n.volumes volume u new no_volume (λ e. ap (λ k. length (volume_at n k).pages) (sym e)) refl);
      devices = a.devices;
      taken = λ row u cell h. set-at (λ cells. slice_index_or cells cell [] ≡ []) homes.cells volume u blank [] (λ e. blank-at (slice_index_or homes.cells volume []) cell) (a.taken row u cell h);
      spare = λ u cell h. elim (same-or-other u volume) [
        | inl e ↦ ap (λ k. cell_bytes (with_empty_cells homes volume) k cell) e ∙ blank-in homes.cells volume cell
        | inr e ↦
            ap (λ cells. slice_index_or cells cell []) (set-there homes.cells volume u blank [] e)
            ∙ a.spare u cell (sym (ap (λ v. slice_index_or v.spare cell false) (set-there n.volumes volume u new no_volume e)) ∙ h)
      ];
      out = a.out;
    }
