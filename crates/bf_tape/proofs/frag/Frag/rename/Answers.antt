use Rattle.std.proofs.Common.{◌≡◌, ◌+◌, ◌-◌, ◌≤◌, ◌++◌, [], List, refl, sym, ap, ◌∙◌, arith, append-nil}
use Rattle.bf_tape.specs.Tape.{Tape}
use Rattle.bf_tape.specs.Piece.{Piece, renamed}
use Rattle.bf_tape.proofs.Moves.{does_none}
use Rattle.bf_tape.proofs.Turning.{reframe}
use Rattle.bf_tape.proofs.frag.Frag.rename.Goals as goal

pub returns-clause-effect : goal.returns-clause-effect
returns-clause-effect c =
    let old : Piece = c.args.self.now in
    record {
      added = [];
      commands = ap (λ (p : Piece). p.commands) c.self.view_is ∙ sym (append-nil old.commands);
      short = omega arith;
      balanced = refl;
      does = λ input s is_input room.
          let at : s.base + old.cell - c.args.cell + c.args.cell ≡ s.base + old.cell = omega (arith, room) in
          reframe c.args.cell (renamed s old.cell c.args.cell) (does_none input old.cell s) at refl refl refl;
    }
