use Rattle.std.proofs.Common.{◌∷◌, [], get_or, refl, arith}
use Rattle.c_grammar.specs.Grammar.{piece_rhs}
use Rattle.c_grammar.specs.declared.names.Part.TheVariants.{ParamsEnd}
use Rattle.c_grammar.specs.Tree.{act}
use Rattle.c_grammar.specs.declared.names.Production.TheVariants as production
use Rattle.c_grammar.specs.declared.names.Piece.TheVariants as piece
use Rattle.c_act_declarations.proofs.Places.{at_value, five_is, get_or_self, one_at}
use Rattle.c_act_declarations.proofs.pieces.function_part.Goals as goal

pub passed-requires : goal.passed-requires
passed-requires c = one_at (piece_rhs piece.FunctionPart) c.args.parts.now 4 ParamsEnd (get_or c.args.parts.now 4 c.index-parts-4.result) c.requires.stand (omega (arith, c.requires.full)) refl (get_or_self c.args.parts.now 4 c.index-parts-4.result)

pub returns : goal.returns
unfolding act
returns c = at_value _ (production.PieceP piece.FunctionPart) c.args.parts.now ((get_or c.args.parts.now 0 c.index-parts-4.result) ∷ (get_or c.args.parts.now 1 c.index-parts-4.result) ∷ (get_or c.args.parts.now 2 c.index-parts-4.result) ∷ (get_or c.args.parts.now 3 c.index-parts-4.result) ∷ (get_or c.args.parts.now 4 c.index-parts-4.result) ∷ []) (five_is c.args.parts.now (get_or c.args.parts.now 0 c.index-parts-4.result) (get_or c.args.parts.now 1 c.index-parts-4.result) (get_or c.args.parts.now 2 c.index-parts-4.result) (get_or c.args.parts.now 3 c.index-parts-4.result) (get_or c.args.parts.now 4 c.index-parts-4.result) c.requires.full (get_or_self c.args.parts.now 0 c.index-parts-4.result) (get_or_self c.args.parts.now 1 c.index-parts-4.result) (get_or_self c.args.parts.now 2 c.index-parts-4.result) (get_or_self c.args.parts.now 3 c.index-parts-4.result) (get_or_self c.args.parts.now 4 c.index-parts-4.result)) (c.passed.ensures)
