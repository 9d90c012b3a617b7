-- Operators on two words.
use Rattle.std.proofs.Common.{◌≡◌, ℕ, Bool, true, false, Err, refl}
use Rattle.c_syntax.specs.declared.tree.BinOp.{BinOp}
use Rattle.c_syntax.specs.declared.tree.BinOp.TheVariants as binary
use Rattle.c_types.specs.Constants.{Value, binary_value, binary_constant}
use Rattle.c_store.specs.declared.act.Act.TheVariants.{OtherKind}
use Rattle.c_plain.specs.Operators.{word_result}
use Rattle.c_parts.specs.Shown.{is_logical}
