use Rattle.std.proofs.Common.{◌≡◌, refl, sym, ◌∙◌}
use Rattle.piet_image.specs.Pieces.{uncommented}
use Rattle.piet_image.proofs.ReadLemmas.{not_most, most_is}
use Rattle.piet_image.proofs.header.header_of.Goals as goal

pub returns-then-most-ne255 : goal.returns-then-most-ne255
returns-then-most-ne255 c = λ width height h.
    let text = c.args.text.now in
    let w = c.in_ok-width.ensures text 1 c.in_ok-behind_magic.ensures.1 in
    let t = c.in_ok-height.ensures text 2 w.behind in
    let m = c.in_ok-most.ensures text 3 t.behind in
    c.if-most-ne255.true (not_most (uncommented text) m.value c.in_ok-most.most m.number m.size_is h.most)

pub returns : goal.returns
returns c =
    let text = c.args.text.now in
    let w = c.in_ok-width.ensures text 1 c.in_ok-behind_magic.ensures.1 in
    let t = c.in_ok-height.ensures text 2 w.behind in
    let m = c.in_ok-most.ensures text 3 t.behind in
    record {
      header = record {
        magic = c.in_ok-behind_magic.ensures.0;
        wide = w.number;
        high = t.number;
        most = most_is (uncommented text) m.value c.in_ok-most.most m.number m.size_is c.if-most-ne255.false;
        wide_fits = w.fits;
        high_fits = t.fits;
      };
      behind = m.behind;
    }
