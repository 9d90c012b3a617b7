use Rattle.std.proofs.Common.{◌≡◌, ◌∷◌, [], ◌++◌, set, get_or, sym, ap, subst, ◌∙◌, arith}
use Rattle.std.proofs.lemmas.List.{length_push}
use Rattle.piet_lang.specs.Chart.{index_of, Filling}
use Rattle.piet_lang.proofs.FillLemmas.{fill_more, fewer_free}
use Rattle.piet_lang.proofs.fill.visit.Goals as goal

pub returns-clause-filled : goal.returns-clause-filled
returns-clause-filled c = λ start before state known.
    let im = c.args.image.now in
    let now = c.args.numbers.now in
    let q = c.in-Some.next in
    let p = c.args.paint in
    let zero_is : get_or now (index_of im q) 0 ≡ 0 = ap (λ i. get_or now i 0) (sym c.index_of-index.ensures.index) ∙ c.if-seen-ne0.false in
    let more = fill_more im p.hue p.light start p.number before now c.args.members.now.items c.args.place q c.args.pointer c.requires.count c.requires.some state known c.in-Some.ensures.0 (c.in-Some.ensures.1, c.in-Some.ensures.2) c.if-not-has_hue.ensures zero_is in
    rw c.in_ok-push.ensures.items (subst (λ i. Filling im p.hue p.light start p.number before (set now i p.number) (c.args.members.now.items ++ q ∷ [])) (sym c.index_of-index.ensures.index) more)

pub returns-clause-few : goal.returns-clause-few
returns-clause-few c =
    let im = c.args.image.now in
    let now = c.args.numbers.now in
    let q = c.in-Some.next in
    let p = c.args.paint in
    let zero_is : get_or now (index_of im q) 0 ≡ 0 = ap (λ i. get_or now i 0) (sym c.index_of-index.ensures.index) ∙ c.if-seen-ne0.false in
    let fewer = fewer_free im now q p.number c.requires.count (c.in-Some.ensures.1, c.in-Some.ensures.2) c.requires.some zero_is in
    rw (c.in_ok-push.ensures.items, c.index_of-index.ensures.index) (omega (arith, fewer, length_push c.args.members.now.items q))
