use Rattle.std.proofs.Common.{◌≡◌, [], length, reverse, sym, ap, subst, ◌∙◌, rules}
use Rattle.std.proofs.lemmas.List.{nil_from_length}
use Rattle.ws_lang.specs.Step.{Config, returning}
use Rattle.ws_lang.specs.Acts.{Acts}
use Rattle.ws_lang.proofs.state.WsState.go_back.Goals as goal

pub returns-then-is_empty : goal.returns-then-is_empty
returns-then-is_empty c = λ fed.
    let items = c.self.inside.returns.items in
    let zero : length items ≡ 0 = search rules in
    let none : c.args.self.now.returns ≡ [] = sym (ap (λ (d : Config). d.returns) c.self.view_is) ∙ ap reverse (nil_from_length items zero) in
    subst (λ r. Acts c.args.self.now (returning c.args.self.now r) fed c.fail.new.self c.fail.result) (sym none) (c.fail.ensures fed)
