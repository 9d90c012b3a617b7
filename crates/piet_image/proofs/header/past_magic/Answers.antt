use Rattle.std.proofs.Common.{◌≡◌, drop, refl, sym, ◌∙◌, arith}
use Rattle.std.proofs.lemmas.List.{take_rest}
use Rattle.piet_image.proofs.PieceLemmas.{magic_is, magic_read, magic_needs}
use Rattle.piet_image.proofs.header.past_magic.Goals as goal

pub returns-then-piece_len-ne2 : goal.returns-then-piece_len-ne2
returns-then-piece_len-ne2 c = λ e. c.if-piece_len-ne2.true (magic_needs c.args.text.now c.piece_len.result c.piece_len.ensures.len c.piece_len.ensures.bound e).0

pub returns-then-first-ne80 : goal.returns-then-first-ne80
returns-then-first-ne80 c = λ e. c.if-first-ne80.true (magic_needs c.args.text.now c.piece_len.result c.piece_len.ensures.len c.piece_len.ensures.bound e).1

pub returns-then-second-ne51 : goal.returns-then-second-ne51
returns-then-second-ne51 c = λ e. c.if-second-ne51.true (magic_needs c.args.text.now c.piece_len.result c.piece_len.ensures.len c.piece_len.ensures.bound e).2

pub returns : goal.returns
returns c =
    let text = c.args.text.now in (
      magic_is text c.piece_len.result c.piece_len.ensures.len c.if-piece_len-ne2.false c.piece_len.ensures.bound c.if-first-ne80.false c.if-second-ne51.false,
      magic_read text _ c.piece_len.result c.piece_len.ensures.len c.if-piece_len-ne2.false c.piece_len.ensures.bound c.if-first-ne80.false (take_rest text 2),
    )
