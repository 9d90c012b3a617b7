use Rattle.std.proofs.Common.{◌∷◌, [], get_or, refl, arith}
use Rattle.c_grammar.specs.Grammar.{piece_rhs}
use Rattle.c_grammar.specs.declared.names.Terminal.TheVariants.{Exactly}
use Rattle.c_grammar.specs.declared.names.Class.TheVariants as class
use Rattle.c_grammar.specs.Tree.{act}
use Rattle.c_grammar.specs.declared.names.Production.TheVariants as production
use Rattle.c_grammar.specs.declared.names.Piece.TheVariants as piece
use Rattle.c_act_declarations.proofs.Places.{at_value, get_or_self, one_is, token_at}
use Rattle.c_act_declarations.proofs.pieces.name_part.Goals as goal

pub passed-requires : goal.passed-requires
passed-requires c = token_at (piece_rhs piece.NamePart) c.args.parts.now 0 (Exactly class.Name) (get_or c.args.parts.now 0 c.index-parts-0.result) c.requires.stand (omega (arith, c.requires.full)) refl (get_or_self c.args.parts.now 0 c.index-parts-0.result)

pub returns : goal.returns
unfolding act
returns c = at_value _ (production.PieceP piece.NamePart) c.args.parts.now ((get_or c.args.parts.now 0 c.index-parts-0.result) ∷ []) (one_is c.args.parts.now (get_or c.args.parts.now 0 c.index-parts-0.result) c.requires.full (get_or_self c.args.parts.now 0 c.index-parts-0.result)) (c.passed.ensures)
