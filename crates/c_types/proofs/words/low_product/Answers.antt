use Rattle.std.proofs.Common.{◌≡◌, ◌*◌, ◌%◌}
use Rattle.std.proofs.lemmas.Nat.{mul-mod_second}
use Rattle.word24.specs.Word.{number_of}
use Rattle.c_types.proofs.words.low_product.Goals as goal

pub returns : goal.returns
returns c =
    let whole : number_of c.args.low * (c.args.count % 16777216) % 16777216 ≡ number_of c.args.low * c.args.count % 16777216 = mul-mod_second (number_of c.args.low) c.args.count 16777216 in
    cc
