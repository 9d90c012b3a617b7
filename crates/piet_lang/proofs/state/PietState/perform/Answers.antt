use Rattle.std.proofs.Common.{◌≡◌, true, subst, sym, ◌∙◌}
use Rattle.piet_lang.specs.Acts.{Acts}
use Rattle.piet_lang.specs.Change.{is_done}
use Rattle.piet_lang.proofs.ChangeLemmas.{config, performed}
use Rattle.piet_lang.proofs.state.PietState.perform.Goals as goal

pub returns-then-branch-clause-ok : goal.returns-then-branch-clause-ok
returns-then-branch-clause-ok c =
    let s = c.self.inside in
    let done : is_done c.change-change.result ≡ true = sym c.in_ok-apply.ensures.done ∙ c.if-branch.true in
    subst (λ old. Acts c.args.size old c.args.act c.args.to c.args.fed (config c.led-at.result c.apply.new.self c.reading_of-reading.result s.status) c.moved_by-moved.result) c.self.view_is (record {
      config = performed c.args.size c.args.fed c.led-at.result c.args.to s.stack c.apply.new.self c.reading_of-reading.result s.status s.at s.reading c.args.act c.change-change.result
          c.change-change.ensures.change done c.in_ok-apply.ensures.ok (c.led-at.ensures s.stack c.top-top.ensures) c.reading_of-reading.ensures.reading;
      bytes = c.moved_by-moved.ensures.bytes s.stack c.top-top.ensures;
      took = c.moved_by-moved.ensures.took;
    })
