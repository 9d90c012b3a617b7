-- Names that are those of objects.
use Rattle.std.specs.Prelude.{ℕ, Option, Some, None}
use Rattle.c_scopes.specs.declared.entity.Entity.{Entity}
use Rattle.c_scopes.specs.declared.entity.Entity.TheVariants.{Object}

-- the number of the object's type
abbrev pub object_of : Option Entity → Option ℕ
object_of (Some (Object ty)) = Some ty
object_of _ = None
