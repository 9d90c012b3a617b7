use Rattle.std.proofs.Common.{[], false, ap, sym, ◌∙◌}
use Rattle.c_syntax.specs.Lex.{finish, tokens_in, none_included, lex_tokens}
use Rattle.c_syntax.proofs.Loops.{none_left}
use Rattle.c_syntax.proofs.Lexing.{passed, next_piece, no_piece, all_pieces}
use Rattle.c_syntax.proofs.lexer.lex.Goals as goal

pub loop-piece-init : goal.loop-piece-init
loop-piece-init c =
    ap (λ z. finish z (tokens_in c.none-included.result false c.in_ok-pieces.pieces.items)) c.new-tokens.ensures.items
    ∙ ap (λ i. finish [] (tokens_in i false c.in_ok-pieces.pieces.items)) c.none-included.ensures
    ∙ ap (λ ps. finish [] (tokens_in none_included false ps)) c.in_ok-pieces.ensures

pub loop-piece-preserved-then-is_read : goal.loop-piece-preserved-then-is_read
loop-piece-preserved-then-is_read c =
    passed c.loop-piece.tokens.items c.loop-piece.included c.loop-piece.inside c.in-Some.piece c.pop_front.new.self.items c.loop-piece.pieces.items _ c.in-Some.ensures.items (sym c.is_read.ensures ∙ c.if-is_read.true) c.loop-piece.invariant

pub returns-in-Err : goal.returns-in-Err
unfolding lex_tokens
returns-in-Err c =
    no_piece c.loop-piece.tokens.items c.read_piece.new.tokens.items c.loop-piece.included c.loop-piece.inside c.in-Err.fault c.in-Some.piece c.pop_front.new.self.items c.loop-piece.pieces.items _ c.in-Some.ensures.items (sym c.is_read.ensures ∙ c.if-is_read.false) c.in-Err.ensures c.loop-piece.invariant

pub loop-piece-preserved : goal.loop-piece-preserved
loop-piece-preserved c =
    next_piece c.loop-piece.tokens.items c.read_piece.new.tokens.items c.loop-piece.included c.in-Ok.headers c.loop-piece.inside c.in-Ok.on c.in-Some.piece c.pop_front.new.self.items c.loop-piece.pieces.items _ c.in-Some.ensures.items (sym c.is_read.ensures ∙ c.if-is_read.false) c.in-Ok.ensures c.loop-piece.invariant

pub returns : goal.returns
unfolding lex_tokens
returns c =
    sym (all_pieces c.loop-piece.tokens.items c.loop-piece.included c.loop-piece.inside c.loop-piece.pieces.items _ (none_left c.loop-piece.pieces.items c.pop_front.new.self.items c.in_default.ensures.items c.in_default.ensures.rest) c.loop-piece.invariant)
