-- A row's shape as code has it.
use Rattle.vfs_model.specs.RowShape as model
use Rattle.file_steps.specs.declared.shape.RowShape.{RowShape}
use Rattle.file_steps.specs.declared.shape.RowShape.TheVariants as shape

-- the shape, as definitions have it
abbrev pub shape_in : RowShape → model.RowShape
shape_in (shape.Unbound generation) = model.Unbound generation
shape_in (shape.Bytes generation kind capacity size) = model.Bytes generation kind capacity size
shape_in (shape.Device generation) = model.Device generation
