use Rattle.std.proofs.Common.{inl, inr, refl}
use Rattle.piet_image.proofs.AtlasOf.{before_self}
use Rattle.piet_lang.proofs.exits.later.Goals as goal

pub returns-then-is_before : goal.returns-then-is_before
returns-then-is_before c = record { first = before_self c.args.pointer c.args.to c.args.last; second = c.if-is_before.ensures; one = inl refl }

pub returns : goal.returns
returns c = record { first = c.if-is_before.ensures; second = before_self c.args.pointer c.args.to c.args.place; one = inr refl }
