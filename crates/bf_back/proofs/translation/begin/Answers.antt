use Rattle.std.proofs.Common.{length, sym, map}
use Rattle.std.proofs.lemmas.List.{length-map}
use Rattle.word24.specs.Word.{number_of}
use Rattle.bf_back.proofs.Loaded.{begins}
use Rattle.bf_back.proofs.Coded.{start_coded}
use Rattle.bf_back.proofs.translation.begin.Goals as goal

pub returns-clause-code : goal.returns-clause-code
returns-clause-code c = start_coded c.args.f.now c.args.words.now c.args.digits c.args.start c.in_ok-lay.ensures.code c.in_ok-add_const.ensures.code c.in_ok-aim.ensures.code c.in_ok-advance.ensures.code c.in_ok-goto.ensures.code

pub returns-clause-begins : goal.returns-clause-begins
returns-clause-begins c =
    begins (map number_of c.args.words.now) (length c.args.words.now) c.args.digits c.args.start (sym (length-map c.args.words.now number_of)) c.requires c.in_ok-lay.ensures.effect c.in_ok-add_const.ensures.effect c.in_ok-aim.ensures.effect c.in_ok-advance.ensures.effect c.in_ok-goto.ensures.effect
