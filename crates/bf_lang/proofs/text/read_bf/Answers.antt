use Rattle.std.proofs.Common.{◌≡◌, ◌++◌, [], length, take, get_or, sym, ap, subst, ◌∙◌, arith}
use Rattle.bf_lang.specs.Reading.{IsScanned}
use Rattle.bf_lang.specs.Balance.{IsBalanced}
use Rattle.bf_lang.specs.Text.{commands_in, command_of, with_command}
use Rattle.bf_lang.proofs.Scanned.{first_unclosed, all_paired}
use Rattle.bf_lang.proofs.Depths.{balanced_text}
use Rattle.bf_lang.proofs.Spelled.{commands_more, commands_all, commands_few}
use Rattle.bf_lang.proofs.text.read_bf.Goals as goal

pub loop-at-preserved : goal.loop-at-preserved
loop-at-preserved c = record {
  scanned = c.in-Some.ensures;
  commands =
      c.in-Ok.ensures
      ∙ (ap (λ xs. xs ++ with_command (command_of (get_or c.args.text.now c.loop-at.at 0)) []) c.loop-at.invariant.commands
      ∙ sym (commands_more c.args.text.now c.loop-at.at c.loop-at-test.true));
}

pub returns-then-brackets-gt0 : goal.returns-then-brackets-gt0
returns-then-brackets-gt0 c =
    let text = c.args.text.now in
    let end : c.loop-at.at ≡ length text = omega (arith, c.loop-at.invariant.scanned.within) in
    first_unclosed text c.loop-at.brackets (subst (λ n. IsScanned text n c.loop-at.brackets) end c.loop-at.invariant.scanned) c.if-brackets-gt0.true

pub of-requires-clause-balanced : goal.of-requires-clause-balanced
of-requires-clause-balanced c =
    let text = c.args.text.now in
    let end : c.loop-at.at ≡ length text = omega (arith, c.loop-at.invariant.scanned.within) in
    let none : c.loop-at.brackets.depth ≡ 0 = omega (arith, c.if-brackets-gt0.false) in
    let all : c.loop-at.commands.items ≡ commands_in text = c.loop-at.invariant.commands ∙ (ap (λ n. commands_in (take n text)) end ∙ commands_all text) in
    subst (λ xs. IsBalanced xs) (sym all) (balanced_text text (all_paired text c.loop-at.brackets (subst (λ n. IsScanned text n c.loop-at.brackets) end c.loop-at.invariant.scanned) none))

pub of-requires-clause-few : goal.of-requires-clause-few
of-requires-clause-few c =
    let text = c.args.text.now in
    let end : c.loop-at.at ≡ length text = omega (arith, c.loop-at.invariant.scanned.within) in
    let all : c.loop-at.commands.items ≡ commands_in text = c.loop-at.invariant.commands ∙ (ap (λ n. commands_in (take n text)) end ∙ commands_all text) in
    omega (arith, ap length all, commands_few text, c.requires)

pub returns : goal.returns
returns c =
    let text = c.args.text.now in
    let end : c.loop-at.at ≡ length text = omega (arith, c.loop-at.invariant.scanned.within) in
    let none : c.loop-at.brackets.depth ≡ 0 = omega (arith, c.if-brackets-gt0.false) in
    let all : c.loop-at.commands.items ≡ commands_in text = c.loop-at.invariant.commands ∙ (ap (λ n. commands_in (take n text)) end ∙ commands_all text) in
    record {
      commands = c.of.ensures ∙ all;
      paired = all_paired text c.loop-at.brackets (subst (λ n. IsScanned text n c.loop-at.brackets) end c.loop-at.invariant.scanned) none;
    }
