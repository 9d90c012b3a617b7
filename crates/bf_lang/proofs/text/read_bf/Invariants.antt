use Rattle.std.proofs.Common.{◌≡◌, take}
use Rattle.bf_lang.specs.Reading.{IsScanned}
use Rattle.bf_lang.specs.Text.{commands_in}
use Rattle.bf_lang.proofs.text.read_bf.Given as goal

abbrev pub invariant-loop-at : goal.invariant-loop-at
invariant-loop-at l = record {
  scanned : IsScanned l.text l.at l.brackets;
  commands : l.commands.items ≡ commands_in (take l.at l.text);
}
