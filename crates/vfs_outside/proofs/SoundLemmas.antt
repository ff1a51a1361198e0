-- What keeps devices sound: a part that comes behind the others or to a free place, and one that goes.
use Rattle.std.proofs.Common.{◌≡◌, ℕ, ◌<◌, false, length}
use Rattle.std.specs.Prelude.{Some, None, IfSome, slice_set}
use Rattle.std.proofs.lemmas.List.Elements.{All-push, All-set}
use Rattle.vfs_outside.proofs.NameLemmas.{differ_push_volume, differ_push_chars, differ_put_volume, differ_put_chars, differ_take_volume, differ_take_chars}
use Rattle.vfs_outside.specs.Devices.{AreSound, DevicesState, is_taken, with_chars, with_volume}
use Rattle.vfs_outside.specs.Volume.{CharsState, IsVolume, VolumeState}

pub sound_push_volume : (devices : DevicesState) (volume : VolumeState) → is_taken devices volume.name ≡ false → IsVolume volume →
    AreSound devices → AreSound (with_volume devices volume)
sound_push_volume devices volume free whole sound = record {
  names = differ_push_volume devices volume free sound.names;
  volumes = All-push (λ part. IfSome part IsVolume) devices.volumes (Some volume) sound.volumes whole;
}

pub sound_push_chars : (devices : DevicesState) (device : CharsState) → is_taken devices device.name ≡ false →
    AreSound devices → AreSound (with_chars devices device)
sound_push_chars devices device free sound = record { names = differ_push_chars devices device free sound.names; volumes = sound.volumes }

pub sound_put_volume : (devices : DevicesState) (volume : VolumeState) (place : ℕ) → place < length devices.volumes →
    is_taken devices volume.name ≡ false → IsVolume volume → AreSound devices →
    AreSound (record { volumes = slice_set devices.volumes place (Some volume); chars = devices.chars })
sound_put_volume devices volume place below free whole sound = record {
  names = differ_put_volume devices volume place below free sound.names;
  volumes = All-set (λ part. IfSome part IsVolume) devices.volumes place (Some volume) whole sound.volumes;
}

pub sound_put_chars : (devices : DevicesState) (device : CharsState) (place : ℕ) → place < length devices.chars →
    is_taken devices device.name ≡ false → AreSound devices →
    AreSound (record { volumes = devices.volumes; chars = slice_set devices.chars place (Some device) })
sound_put_chars devices device place below free sound = record {
  names = differ_put_chars devices device place below free sound.names;
  volumes = sound.volumes;
}

pub sound_take_volume : (devices : DevicesState) (place : ℕ) → AreSound devices →
    AreSound (record { volumes = slice_set devices.volumes place None; chars = devices.chars })
sound_take_volume devices place sound = record {
  names = differ_take_volume devices place sound.names;
  volumes = All-set (λ part. IfSome part IsVolume) devices.volumes place None tt sound.volumes;
}

pub sound_take_chars : (devices : DevicesState) (place : ℕ) → AreSound devices →
    AreSound (record { volumes = devices.volumes; chars = slice_set devices.chars place None })
sound_take_chars devices place sound = record { names = differ_take_chars devices place sound.names; volumes = sound.volumes }
