-- Blocks that are cut one operation after the other.
use Rattle.std.proofs.Common.{◌≡◌, List, [], ◌∷◌, ◌++◌, true, false, refl, ap, sym, ◌∙◌, if◌then◌else◌, append_assoc}
use Rattle.eir_core.specs.declared.ops.Op.{Op}
use Rattle.eir_core.specs.Eir.{is_jump}
use Rattle.c_place.specs.Code.{cut, put_first}

-- the blocks, where some operations of the first are there
abbrev pub glued : List Op → List (List Op) → List (List Op)
glued [] bs = bs
glued (d ∷ ds) [] = (d ∷ ds) ∷ []
glued (d ∷ ds) (b ∷ bs) = (d ∷ (ds ++ b)) ∷ bs
