use Rattle.c_layouts.proofs.size.+is_object_type.Given as goal

abbrev pub decreases-is_object_type : goal.decreases-is_object_type
decreases-is_object_type l = l.ty
