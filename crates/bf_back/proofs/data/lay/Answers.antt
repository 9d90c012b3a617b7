use Rattle.std.proofs.Common.{ap, refl, length}
use Rattle.bf_back.proofs.Loaded.{lay_adds}
use Rattle.bf_back.proofs.Coded.{lay_coded}
use Rattle.bf_back.proofs.data.lay.Goals as goal

pub returns-clause-code : goal.returns-clause-code
returns-clause-code c =
    lay_coded c.args.f.now c.args.words.now c.in_ok-goto.ensures.code c.rename.ensures.code c.in_ok-set_words.ensures.code c.in_ok-goto-2.ensures.code c.in_ok-go_back.ensures.code c.in_ok-goto-3.ensures.code c.rename-2.ensures.code c.in_ok-goto-4.ensures.code

pub returns-clause-effect : goal.returns-clause-effect
returns-clause-effect c =
    lay_adds c.args.words.now (length c.args.words.now) refl (ap (λ p. p.cell) c.in_ok-goto.ensures.code) (ap (λ p. p.cell) c.in_ok-goto-3.ensures.code) c.in_ok-goto.ensures.effect c.rename.ensures.effect c.in_ok-set_words.ensures.effect c.in_ok-goto-2.ensures.effect
    c.in_ok-go_back.ensures.effect c.in_ok-goto-3.ensures.effect c.rename-2.ensures.effect c.in_ok-goto-4.ensures.effect
