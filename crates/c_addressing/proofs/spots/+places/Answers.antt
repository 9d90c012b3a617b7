use Rattle.std.proofs.Common.{◌≡◌, ℕ, List, ◌∙◌, sym, subst, refl, add-zero}
use Rattle.std.specs.Prelude.{Option, Some, length}
use Rattle.c_syntax.specs.Plain as tree
use Rattle.c_syntax.specs.View.{expr_of, form_of}
use Rattle.c_syntax.specs.declared.tree.Form.{Form}
use Rattle.c_eval.specs.Environment.{type_in, member_offset}
use Rattle.c_eval.specs.LiteralsIn.{literals_in}
use Rattle.c_emission.specs.declared.location.Location.TheVariants.{Fixed}
use Rattle.c_lowered.specs.Locations as plain
use Rattle.c_counted.specs.Numbers.{IsNumber}
use Rattle.c_addressing.specs.declared.spots.Spot.{Spot}
use Rattle.c_addressing.specs.Here.{first_or, IsSpot}
use Rattle.c_addressing.proofs.DirectLemmas.{low_number, member_some, member_none}
use Rattle.c_addressing.proofs.HereLemmas.{both, behind_same, holds_later, some_later}
use Rattle.c_addressing.proofs.spots.+places.Goals as goal

pub member_place-offset_in-requires : goal.member_place-offset_in-requires
member_place-offset_in-requires t c = some_later c.args.out.now c.known_place.new.out c.args.here.now.declared c.in_ok-spot.ensures.still c.requires

pub member_place-returns-in_ok-words-in-Some-clause-place : goal.member_place-returns-in_ok-words-in-Some-clause-place
member_place-returns-in_ok-words-in-Some-clause-place t c = λ w env is.
    let old = c.args.out.now in
    let mid = c.known_place.new.out in
    let a = expr_of c.args.a.now in
    let k = member_offset env.scope.tags (type_in env.scope a) c.args.m.now in
    let n = length (literals_in env.scope a) in
    let found = subst (λ (o : Option Spot). IsSpot old.literals n o (plain.known_place a w env)) c.in-Some.is (c.in_ok-spot.ensures.place w env is) in
    let words = c.in_ok-words-in-Some.ensures.words env.scope (holds_later old mid c.args.here.now.declared env.scope c.in_ok-spot.ensures.still is.holds) in
    let low = low_number c.get.result k (c.get.ensures.value ∙ c.low.ensures k words) in
    member_some c.in-Some.found c.shifted.result old.literals n k (plain.known_place a w env) found (λ q at. c.shifted.ensures q k at low)

pub member_place-returns-in_ok-words-in-Some-clause-still : goal.member_place-returns-in_ok-words-in-Some-clause-still
member_place-returns-in_ok-words-in-Some-clause-still t c = both c.in_ok-spot.ensures.still c.in_ok-words-in-Some.ensures.still

pub member_place-returns-in-None-clause-place : goal.member_place-returns-in-None-clause-place
member_place-returns-in-None-clause-place t c = λ w env is.
    let a = expr_of c.args.a.now in
    let n = length (literals_in env.scope a) in
    member_none c.args.out.now.literals n (member_offset env.scope.tags (type_in env.scope a) c.args.m.now) (plain.known_place a w env)
    (subst (λ (o : Option Spot). IsSpot c.args.out.now.literals n o (plain.known_place a w env)) c.in-None.is (c.in_ok-spot.ensures.place w env is))

pub known_place-returns-in-Str-clause-place : goal.known_place-returns-in-Str-clause-place
known_place-returns-in-Str-clause-place t c = λ w env is.
    let l = c.args.out.now.literals in
    let pos = c.args.e.now.pos in
    let spot : Spot = record { place = Fixed c.first.result; literals = c.behind.result } in
    let address = subst (λ (n : ℕ). IsNumber n (w.literal w.owner env.literals_before)) (sym c.first.ensures) (subst (λ (k : ℕ). IsNumber (first_or l.end l.next.now) (w.literal w.owner k)) (add-zero env.literals_before) (is.literals.address 0)) in
    subst (λ (f : Form). IsSpot l (length (literals_in env.scope (form_of f pos))) (Some spot) (plain.known_place (form_of f pos) w env)) (sym c.in-Str.is) (address, record { next = c.behind.ensures.next; end = c.behind.ensures.end })
