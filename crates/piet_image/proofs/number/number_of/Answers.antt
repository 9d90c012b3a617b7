use Rattle.std.proofs.Common.{sym, ◌∙◌}
use Rattle.std.specs.Str.Parse.{digits_value}
use Rattle.piet_image.proofs.Digits.{digits_of, number_is, no_number}
use Rattle.piet_image.proofs.number.number_of.Goals as goal

pub size_of-requires : goal.size_of-requires
size_of-requires c = digits_of c.args.piece.now (sym c.is_number.ensures ∙ c.if-is_number.true)

pub returns-then-is_number : goal.returns-then-is_number
returns-then-is_number c = (digits_value 10 c.args.piece.now, number_is c.args.piece.now (sym c.is_number.ensures ∙ c.if-is_number.true), c.size_of.ensures)

pub returns-else-is_number : goal.returns-else-is_number
returns-else-is_number c = no_number c.args.piece.now (sym c.is_number.ensures ∙ c.if-is_number.false)
