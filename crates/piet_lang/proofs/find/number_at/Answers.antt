use Rattle.piet_lang.proofs.FoundLemmas.{found_plain, white_no_hue, black_no_hue}
use Rattle.piet_lang.proofs.find.number_at.Goals as goal

pub returns-in-Some-White : goal.returns-in-Some-White
returns-in-Some-White c =
    found_plain c.args.image.now c.args.blocks.now.numbers.items c.args.blocks.now.sizes.items c.args.blocks.now.exits.items c.args.index c.place_at-place.result c.at.result c.requires.found (c.place_at-place.ensures.across, c.place_at-place.ensures.down) c.place_at-place.ensures.index c.at.ensures.colour
    (λ h l e. white_no_hue c.at.result c.in-Some-White.field-0 h l c.in-Some-White.is c.in-Some-White.field-0-is e)

pub returns-in-Some-Black : goal.returns-in-Some-Black
returns-in-Some-Black c =
    found_plain c.args.image.now c.args.blocks.now.numbers.items c.args.blocks.now.sizes.items c.args.blocks.now.exits.items c.args.index c.place_at-place.result c.at.result c.requires.found (c.place_at-place.ensures.across, c.place_at-place.ensures.down) c.place_at-place.ensures.index c.at.ensures.colour
    (λ h l e. black_no_hue c.at.result c.in-Some-Black.field-0 h l c.in-Some-Black.is c.in-Some-Black.field-0-is e)
