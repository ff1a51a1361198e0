-- Worked examples of the marks that may stand at a step, and of who may ask.
use Rattle.std.specs.Prelude.{◌≡◌, Bool, true, false, List, [], ◌∷◌, codes, map, refl}
use Rattle.vfs_base.specs.declared.describe.Describe.{Describe}
use Rattle.vfs_base.specs.declared.entry.Mark.TheVariants as mark
use Rattle.vfs_base.specs.declared.entry.Who.TheVariants as who
use Rattle.vfs_base.specs.declared.step.Step.TheVariants as step
use Rattle.vfs_model.proofs.DeviceExamples.{devices, on_volume, sd0}
use Rattle.vfs_model.proofs.ExampleSteps.{asks, asks_stopped, bare, ends, hold, id, rw_creat, steps}
use Rattle.vfs_model.specs.Asking.{Asked, may_ask, run_steps}
use Rattle.vfs_model.specs.Homes.{opening_world}
use Rattle.vfs_model.specs.World.{fits_step}

-- whether the marks of steps fit, each after the same steps before
abbrev pub fitting : Describe → List Asked → List Asked → List Bool
fitting describe before asked = map (λ a. fits_step (run_steps (opening_world [] describe) before).next a.who a.step a.mark) asked

-- whether steps may be asked, each after the same steps before
abbrev pub allowed : List Asked → List Asked → List Bool
allowed before asked = map (λ a. may_ask (run_steps (opening_world [] bare) before).next a.who a.step) asked

pub marks_on_tmp_mounts : fitting bare (
    asks 1 (step.Mkdir (codes "/m"))
    ∷ asks 1 (step.Mount (codes "x") (codes "/m") (codes "tmp"))
    ∷ asks 1 (step.Open (codes "/f") rw_creat)
    ∷ []
    ) (
    asks_stopped 1 (step.Umount (codes "/m")) (mark.Fault 0)
    ∷ asks_stopped 1 (step.Umount (codes "/m")) (mark.Fault 1)
    ∷ asks_stopped 1 (step.Umount (codes "/")) (mark.Fault 0)
    ∷ asks_stopped 1 (step.Umount (codes "/")) (mark.NoMem 0)
    ∷ asks_stopped 1 (step.Close (hold 1 1)) (mark.NoMem 0)
    ∷ asks_stopped 1 step.Home (mark.NoMem 1)
    ∷ asks_stopped 1 (step.Mkdir (codes "/a")) (mark.Fault 0)
    ∷ asks_stopped 1 (step.Write (id 1 1) 0 (codes "ab")) (mark.NoMem 0)
    ∷ asks_stopped 1 (step.Write (id 1 1) 0 (codes "ab")) (mark.NoMem 1)
    ∷ asks_stopped 1 (step.Write (id 1 1) 0 (codes "ab")) (mark.Fault 0)
    ∷ ends (mark.NoMem 0)
    ∷ ends (mark.Fault 0)
    ∷ ends (mark.Fault 1)
    ∷ []
    ) ≡ true ∷ false ∷ false ∷ true ∷ true ∷ false ∷ false ∷ true ∷ false ∷ false ∷ true ∷ true ∷ false ∷ []
unfolding steps
marks_on_tmp_mounts = refl

pub marks_on_cells : fitting (sd0 (1 ∷ [])) (on_volume (asks 1 (step.Open (codes "/v/f") rw_creat) ∷ [])) (
    asks_stopped 1 (step.Write (id 1 1) 0 (codes "abc")) (mark.Fault 2)
    ∷ asks_stopped 1 (step.Write (id 1 1) 0 (codes "abc")) (mark.Fault 3)
    ∷ asks_stopped 1 (step.Write (id 1 1) 0 (codes "abc")) (mark.NoMem 2)
    ∷ asks_stopped 1 (step.Write (id 1 1) 4096 (codes "abc")) (mark.Fault 0)
    ∷ asks_stopped 1 (step.Write (id 1 1) 4096 (codes "abc")) (mark.NoMem 0)
    ∷ asks_stopped 1 (step.Write (id 1 1) 4095 (codes "abc")) (mark.Fault 1)
    ∷ asks_stopped 1 (step.Size (id 1 1)) (mark.Fault 0)
    ∷ asks_stopped 1 (step.Sync (id 1 1)) (mark.Fault 0)
    ∷ record { who = who.Flush 1; step = step.Flush 1; mark = mark.Fault 0 }
    ∷ record { who = who.Flush 2; step = step.Flush 2; mark = mark.Fault 0 }
    ∷ asks_stopped 1 (step.Umount (codes "/v")) (mark.Fault 0)
    ∷ []
    ) ≡ true ∷ false ∷ true ∷ false ∷ true ∷ false ∷ true ∷ true ∷ true ∷ false ∷ false ∷ []
unfolding steps
marks_on_cells = refl

pub marks_on_character_devices : fitting devices (
    asks 1 (step.Mkdir (codes "/dev"))
    ∷ asks 1 (step.Mount (codes "x") (codes "/dev") (codes "devfs"))
    ∷ []
    ) (
    asks_stopped 1 (step.Read (id 1 1) 0 9) (mark.Fault 0)
    ∷ asks_stopped 1 (step.Read (id 1 1) 0 9) (mark.Fault 1)
    ∷ asks_stopped 1 (step.Read (id 2 1) 0 9) (mark.Fault 1)
    ∷ asks_stopped 1 (step.Write (id 2 1) 0 (codes "ab")) (mark.Fault 1)
    ∷ asks_stopped 1 (step.Write (id 2 1) 0 (codes "ab")) (mark.NoMem 1)
    ∷ asks_stopped 1 (step.Trunc (id 2 1) 0) (mark.Fault 0)
    ∷ []
    ) ≡ true ∷ false ∷ true ∷ true ∷ false ∷ false ∷ []
unfolding steps
marks_on_character_devices = refl

pub a_file_is_asked_by_its_holders : allowed (asks 1 (step.Open (codes "/f") rw_creat) ∷ asks 2 (step.Chdir (codes "/")) ∷ []) (
    asks 1 (step.Read (id 1 1) 0 9)
    ∷ asks 2 (step.Read (id 1 1) 0 9)
    ∷ asks 2 (step.Size (id 1 1))
    ∷ asks 2 (step.Sync (id 7 9))
    ∷ asks 1 (step.Read (id 1 2) 0 9)
    ∷ asks 1 (step.Flush 1)
    ∷ record { who = who.Flush 1; step = step.Flush 1; mark = mark.Clear }
    ∷ record { who = who.Flush 1; step = step.Flush 2; mark = mark.Clear }
    ∷ asks 1 step.Shutdown
    ∷ ends mark.Clear
    ∷ record { who = who.End; step = step.Home; mark = mark.Clear }
    ∷ []
    ) ≡ true ∷ false ∷ true ∷ true ∷ false ∷ false ∷ true ∷ false ∷ false ∷ false ∷ false ∷ []
unfolding steps
a_file_is_asked_by_its_holders = refl

pub the_end_waits_for_all : allowed (
    asks 1 (step.Open (codes "/f") rw_creat)
    ∷ asks 2 (step.Mkdir (codes "/d"))
    ∷ asks 2 (step.Chdir (codes "/d"))
    ∷ asks 1 (step.Close (hold 1 1))
    ∷ []
    ) (ends mark.Clear ∷ []) ≡ false ∷ []
unfolding steps
the_end_waits_for_all = refl
