use Rattle.std.proofs.Common.{◌≡◌, Bool, true, false, rules}
use Rattle.std.specs.Prelude.{nat_eq}
use Rattle.std.specs.List.{list_any}
use lib.Pointwise.{pointwise}
use Rattle.wasm_valid.proofs.NameLemmas.{twice, once, seen_more, not_added, is_added}
use Rattle.wasm_valid.proofs.names.have_distinct_names.Goals as goal

pub returns-then-not-branch : goal.returns-then-not-branch
returns-then-not-branch c =
    let ks = c.loop-export.names.keys in
    let n = c.as_slice.result.now in
    let old : c.in_ok-insert.field-0 ≡ false = search rules in
    let seen : Bool = list_any (λ y. pointwise nat_eq n y.now) ks in
    twice c.args.exports.now c.loop-export.export-index c.export-item.result ks n c.loop-export-test.true c.export-item.is c.loop-export.invariant.names c.as_slice.ensures
    (not_added seen c.in_ok-insert.field-0 c.in_ok-insert.ensures.added old)

pub loop-export-preserved : goal.loop-export-preserved
loop-export-preserved c =
    let ks = c.loop-export.names.keys in
    let n = c.as_slice.result.now in
    let new : c.in_ok-insert.field-0 ≡ true = search rules in
    let seen : Bool = list_any (λ y. pointwise nat_eq n y.now) ks in
    let none : seen ≡ false = is_added seen c.in_ok-insert.field-0 c.in_ok-insert.ensures.added new in
    record {
      names = seen_more c.args.exports.now c.loop-export.export-index c.export-item.result ks c.insert.new.self.keys c.as_slice.result c.loop-export-test.true c.export-item.is c.loop-export.invariant.names c.as_slice.ensures none c.in_ok-insert.ensures.keys;
      distinct = once c.args.exports.now c.loop-export.export-index c.export-item.result ks n c.loop-export-test.true c.export-item.is c.loop-export.invariant.names c.as_slice.ensures none c.loop-export.invariant.distinct;
    }
