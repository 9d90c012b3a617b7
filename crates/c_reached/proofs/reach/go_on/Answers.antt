use Rattle.c_tree_names.specs.Added.{texts}
use Rattle.c_reached.proofs.GoingLemmas.{goes_on, ends_here, ends_past}
use Rattle.c_reached.proofs.reach.go_on.Goals as goal

pub loop-place-init : goal.loop-place-init
loop-place-init c = λ items seeds s r. r

pub loop-place-preserved : goal.loop-place-preserved
loop-place-preserved c = λ items seeds s r.
    goes_on items seeds c.args.bodies.now.entries (texts c.loop-place.known.keys) (texts c.visit_at.new.known.keys) c.loop-place.place c.in_ok-more.more s c.in_ok-more.ensures c.if-not-more.false (c.loop-place.invariant items seeds s r)

pub returns-then-not-more : goal.returns-then-not-more
returns-then-not-more c = λ items seeds s few r.
    ends_here items seeds c.args.bodies.now.entries (texts c.loop-place.known.keys) (texts c.visit_at.new.known.keys) c.loop-place.place c.in_ok-more.more c.in_ok-more.ensures c.if-not-more.true (c.loop-place.invariant items seeds s r)

pub returns : goal.returns
returns c = λ items seeds s few r.
    ends_past items seeds (texts c.loop-place.known.keys) c.loop-place.place c.args.rounds c.loop-place-test.false few (c.loop-place.invariant items seeds s r)
