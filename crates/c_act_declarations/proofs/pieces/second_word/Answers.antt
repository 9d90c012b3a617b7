use Rattle.std.proofs.Common.{◌∷◌, [], get_or, refl, arith}
use Rattle.c_grammar.specs.Grammar.{piece_rhs}
use Rattle.c_grammar.specs.declared.names.Terminal.TheVariants.{Exactly}
use Rattle.c_grammar.specs.declared.names.Class.TheVariants as class
use Rattle.c_grammar.specs.Tree.{act}
use Rattle.c_grammar.specs.declared.names.Production.TheVariants as production
use Rattle.c_grammar.specs.declared.names.Piece.TheVariants as piece
use Rattle.c_act_declarations.proofs.Places.{at_value, get_or_self, token_at, two_is}
use Rattle.c_act_declarations.proofs.pieces.second_word.Goals as goal

pub passed-requires : goal.passed-requires
passed-requires c = token_at (piece_rhs piece.SecondWord) c.args.parts.now 0 (Exactly class.Basic) (get_or c.args.parts.now 0 c.index-parts-0.result) c.requires.stand (omega (arith, c.requires.full)) refl (get_or_self c.args.parts.now 0 c.index-parts-0.result)

pub returns : goal.returns
unfolding act
returns c = at_value _ (production.PieceP piece.SecondWord) c.args.parts.now ((get_or c.args.parts.now 0 c.index-parts-0.result) ∷ (get_or c.args.parts.now 1 c.index-parts-0.result) ∷ []) (two_is c.args.parts.now (get_or c.args.parts.now 0 c.index-parts-0.result) (get_or c.args.parts.now 1 c.index-parts-0.result) c.requires.full (get_or_self c.args.parts.now 0 c.index-parts-0.result) (get_or_self c.args.parts.now 1 c.index-parts-0.result)) (c.passed.ensures)
