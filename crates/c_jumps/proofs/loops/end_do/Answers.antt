use Rattle.std.proofs.Common.{◌+◌, ◌-◌, refl, arith}
use Rattle.c_code.specs.Code as code
use Rattle.c_emitted.proofs.EmitLemmas.{both}
use Rattle.c_jumps.proofs.AddLemmas.{added, adds_longer}
use Rattle.c_jumps.proofs.loops.end_do.Goals as goal

pub fill-requires : goal.fill-requires
fill-requires c =
    let one = adds_longer (added (c.in_ok-add.ensures (code.JumpUnless 1) (record { means = λ names p e. refl }))) in
    let two = adds_longer (added (c.in_ok-add-2.ensures (code.Back (c.behind-all.result + 2)) (record { means = λ names p e. refl }))) in
    let three = adds_longer (added (c.in_ok-add-3.ensures code.Done (record { means = λ names p e. refl }))) in
    omega (arith, one, two, three, c.requires.test, c.requires.order)

pub returns : goal.returns
returns c = record {
  all = c.behind-all.result;
  again = c.count.result - c.args.test;
  from_start = c.behind-all.ensures;
  from_test = omega (arith, c.count.ensures, c.requires.test);
  ended = c.add-3.new.self;
  ends = both (c.in_ok-add.ensures (code.JumpUnless 1) (record { means = λ names p e. refl }))
      (both (c.in_ok-add-2.ensures (code.Back (c.behind-all.result + 2)) (record { means = λ names p e. refl })) (c.in_ok-add-3.ensures code.Done (record { means = λ names p e. refl })));
  loops = c.fill.ensures;
}
