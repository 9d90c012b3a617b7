use Rattle.std.proofs.Common.{◌≡◌, ◌+◌, ◌-◌, length, refl, arith}
use Rattle.c_code.specs.Code as code
use Rattle.c_emitted.proofs.EmitLemmas.{both}
use Rattle.c_jumps.proofs.AddLemmas.{added, adds_longer, as_long}
use Rattle.c_jumps.proofs.loops.end_loop.Goals as goal

pub fill-requires : goal.fill-requires
fill-requires c =
    let more : length c.add-2.new.self.code ≡ length c.args.out.now.code + 2 = adds_longer (added (both (c.in_ok-add.ensures (code.Back (c.behind-all.result + 1)) (record { means = λ names p e. refl })) (c.in_ok-add-2.ensures code.Done (record { means = λ names p e. refl })))) in
    omega (arith, more, c.requires.test)

pub fill-requires-2 : goal.fill-requires-2
fill-requires-2 c =
    let more : length c.add-2.new.self.code ≡ length c.args.out.now.code + 2 = adds_longer (added (both (c.in_ok-add.ensures (code.Back (c.behind-all.result + 1)) (record { means = λ names p e. refl })) (c.in_ok-add-2.ensures code.Done (record { means = λ names p e. refl })))) in
    let same = as_long c.add-2.new.self c.fill.new.self c.args.test _ c.fill.ensures (omega (arith, more, c.requires.test)) in
    omega (arith, more, same, c.requires.start)

pub returns : goal.returns
returns c =
    record {
      all = c.behind-all.result;
      turn = c.behind-turn.result;
      again = c.count.result - c.args.step;
      from_start = c.behind-all.ensures;
      from_test = c.behind-turn.ensures;
      from_step = omega (arith, c.count.ensures, c.requires.step);
      ended = c.add-2.new.self;
      ends = both (c.in_ok-add.ensures (code.Back (c.behind-all.result + 1)) (record { means = λ names p e. refl })) (c.in_ok-add-2.ensures code.Done (record { means = λ names p e. refl }));
      turned = c.fill.new.self;
      turns = c.fill.ensures;
      loops = c.fill-2.ensures;
    }
