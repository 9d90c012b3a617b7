use Rattle.std.proofs.Common.{◌+◌, ◌*◌, Some, sym, ap, ◌∙◌}
use Rattle.piet_image.specs.declared.colour.Colour.{Colour}
use Rattle.piet_image.specs.Raster.{picture_of}
use Rattle.piet_image.proofs.ImageLemmas.{within, shown_at, small_at}
use Rattle.piet_image.proofs.image.Image.at.Goals as goal

pub returns-then-y-self-clause-colour : goal.returns-then-y-self-clause-colour
returns-then-y-self-clause-colour c =
    let s = c.self.inside in
    ap (λ (z : Colour). Some z) c.decode.ensures.colour
    ∙ (sym (shown_at s.width s.height c.args.x c.args.y c.index.result.now s.codes.items c.if-x-self.true c.if-y-self.true c.self.invariant.count c.index.ensures)
    ∙ ap (λ im. picture_of im (record { x = c.args.x; y = c.args.y })) c.self.view_is)

pub returns-then-y-self-clause-valid : goal.returns-then-y-self-clause-valid
returns-then-y-self-clause-valid c =
    let s = c.self.inside in
    c.decode.ensures.valid (small_at s.codes.items (c.args.y * s.width + c.args.x) c.index.result.now (within s.width s.height c.args.x c.args.y s.codes.items c.if-x-self.true c.if-y-self.true c.self.invariant.count) c.index.ensures c.self.invariant.small)
