use Rattle.std.proofs.Common.{◌≡◌, ◌<◌, ◌≤◌, ◌^◌, ◌++◌, drop, length}
use Rattle.ws_back.proofs.Texts.{digit_bytes}
use Rattle.ws_back.proofs.text.Text.digits.Given as goal

abbrev pub invariant-loop-rest : goal.invariant-loop-rest
invariant-loop-rest l = record {
  size : length l.digits ≡ 25;
  fits : l.at ≤ 25;
  small : l.rest < 2 ^ l.at;
  whole : digit_bytes l.at l.rest ++ drop l.at l.digits ≡ digit_bytes 25 l.n;
}

abbrev pub decreases-loop-rest : goal.decreases-loop-rest
decreases-loop-rest l = l.rest
