use Rattle.std.proofs.Common.{◌+◌, [], drop, get_or, refl}
use Rattle.std.proofs.lemmas.List.{drop_all}
use Rattle.c_lower.specs.declared.bodies.Body.{Body}
use Rattle.c_lower.specs.declared.placed.Placed.{Placed}
use Rattle.c_lower.proofs.PlacedLemmas.{drop_next, placing_begun, placing_on, placing_done}
use Rattle.c_lower.proofs.placed.place.Goals as goal

pub loop-body-init : goal.loop-body-init
loop-body-init c = placing_begun c.args.addresses.now c.args.end c.new-known.result.entries (record { next = c.args.addresses; end = c.args.end }) c.args.bodies.now c.new-known.ensures.empty refl refl

pub loop-body-preserved : goal.loop-body-preserved
loop-body-preserved c =
    let all = c.args.bodies.now in
    let i = c.loop-body.body-index in
    let none : Body = record { name = record { ref_ptr = (0, 0); now = [] }; count = 0 } in
    let b = get_or all i none in
    let own = c.first_literals-own.ensures in
    placing_on c.args.addresses.now c.args.end c.loop-body.known.entries c.add_literals.new.known.entries c.loop-body.other c.first_literals-own.result c.behind-other.result all (drop i all) b (drop (i + 1) all) c.loop-body.invariant
    (drop_next all i none c.loop-body-test.true) own.next own.end c.behind-other.ensures.next c.behind-other.ensures.end c.in_ok-add_literals.ensures

pub returns : goal.returns
returns c = λ a fs each are.
    let all = c.args.bodies.now in
    let i = c.loop-body.body-index in
    let p : Placed = record { known = c.loop-body.known; other = c.loop-body.other } in
    placing_done c.args.addresses.now c.args.end p all (drop i all) a fs c.loop-body.invariant (drop_all i all c.loop-body-test.false) each are
