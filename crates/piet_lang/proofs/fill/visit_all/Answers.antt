use Rattle.std.proofs.Common.{sym, subst}
use Rattle.piet_image.specs.Block.{Among}
use Rattle.piet_lang.proofs.FillLemmas.{among_left, each_way}
use Rattle.piet_lang.proofs.fill.visit_all.Goals as goal

pub returns-clause-filled : goal.returns-clause-filled
returns-clause-filled c = λ start before s0 k0.
    let place = c.args.place in
    let s1 = c.in_ok-visit.ensures.filled start before s0 k0 in
    let k1 = subst (Among place) (sym c.in_ok-visit.ensures.more.1) (among_left c.args.members.now.items c.in_ok-visit.ensures.more.0 place k0) in
    let s2 = c.in_ok-visit-2.ensures.filled start before s1 k1 in
    let k2 = subst (Among place) (sym c.in_ok-visit-2.ensures.more.1) (among_left c.visit.new.members.items c.in_ok-visit-2.ensures.more.0 place k1) in
    let s3 = c.in_ok-visit-3.ensures.filled start before s2 k2 in
    let k3 = subst (Among place) (sym c.in_ok-visit-3.ensures.more.1) (among_left c.visit-2.new.members.items c.in_ok-visit-3.ensures.more.0 place k2) in
    c.in_ok-visit-4.ensures.filled start before s3 k3

pub returns-clause-explored : goal.returns-clause-explored
returns-clause-explored c = each_way c.args.image.now c.args.paint.hue c.args.paint.light c.visit-4.new.numbers c.args.place
    (λ q next is. c.in_ok-visit-4.ensures.kept _ (c.in_ok-visit-3.ensures.kept _ (c.in_ok-visit-2.ensures.kept _ (c.in_ok-visit.ensures.explored q next is))))
    (λ q next is. c.in_ok-visit-4.ensures.kept _ (c.in_ok-visit-3.ensures.kept _ (c.in_ok-visit-2.ensures.explored q next is)))
    (λ q next is. c.in_ok-visit-4.ensures.kept _ (c.in_ok-visit-3.ensures.explored q next is))
    (λ q next is. c.in_ok-visit-4.ensures.explored q next is)
