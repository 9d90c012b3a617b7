use Rattle.std.proofs.Common.{◌≡◌, ℕ, ◌-◌, ◌/◌, true, false, List, [], map, sym, ◌∙◌, ap, arith}
use Rattle.std.specs.Prelude.{reverse, ◌==◌}
use Rattle.std.proofs.lemmas.Bool.Decides.{nat_tests}
use Rattle.word24.specs.Word.{number_of}
use Rattle.c_store.specs.declared.value.Value as rust
use Rattle.c_store.specs.Shown.{value_of}
use Rattle.c_parts.proofs.Digits.{hex_onto, hex_more, hex_last, hex_is, hex_ends}
use Rattle.c_parts.proofs.hex.digits_of.Goals as goal

pub loop-index-init : goal.loop-index-init
loop-index-init c = ap (λ (us : List rust.Value). hex_onto 64 c.get-rest.result (reverse (map value_of us))) c.clear.ensures.items ∙ ap (λ (n : ℕ). hex_onto 64 n []) c.get-rest.ensures.value

pub loop-index-preserved : goal.loop-index-preserved
loop-index-preserved c =
    let t : (c.loop-index.rest / 16 == 0) ≡ false = grind (arith, nat_tests) in
    hex_more c.loop-index._index c.loop-index.rest c.loop-index.out.items c.push.new.self.items c.glyph.result _ c.loop-index.invariant c.loop-index-test.true c.in_ok-push.ensures.items c.glyph.ensures t

pub returns-then-rest-eq0 : goal.returns-then-rest-eq0
returns-then-rest-eq0 c =
    let t : (c.loop-index.rest / 16 == 0) ≡ true = grind (arith, nat_tests) in
    hex_last c.loop-index._index c.loop-index.rest c.loop-index.out.items c.push.new.self.items c.glyph.result _ c.loop-index.invariant c.loop-index-test.true c.in_ok-push.ensures.items c.glyph.ensures t
    ∙ sym (hex_is (number_of c.args.word))

pub returns : goal.returns
returns c =
    let n : c.loop-index._index ≡ 64 = omega arith in
    hex_ends c.loop-index.rest (reverse (map value_of c.loop-index.out.items)) _ (ap (λ (k : ℕ). hex_onto (64 - k) c.loop-index.rest (reverse (map value_of c.loop-index.out.items))) (sym n) ∙ c.loop-index.invariant)
    ∙ sym (hex_is (number_of c.args.word))
