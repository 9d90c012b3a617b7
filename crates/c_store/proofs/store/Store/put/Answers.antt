use Rattle.std.proofs.Common.{◌≡◌, ◌<◌, List, length, refl, sym, ap, ◌∙◌, arith}
use Rattle.std.specs.Prelude.{find, ◌==◌}
use Rattle.c_store.specs.declared.live.Live.{Live}
use Rattle.c_store.specs.Live.{index_of}
use Rattle.c_store.specs.Shown.{value_of, cell_of}
use Rattle.c_store.proofs.Steps.{is_within, some_at, put_outside, put_other, put_there}
use Rattle.c_store.proofs.store.Store.put.Goals as goal

pub index-requires : goal.index-requires
index-requires c =
    let at : c.index_at.result ≡ index_of c.args.p.offset (find (λ x. x.number == c.args.p.object) c.self.inside.objects.items) =
    c.index_at.ensures ∙ ap (λ (xs : List Live). index_of c.args.p.offset (find (λ x. x.number == c.args.p.object) xs)) c.deref.ensures.value
    in
    let within : c.in-Some.index < length c.self.inside.cells.items = is_within c.self.inside.objects.items c.self.inside.cells.items c.self.inside.next c.args.self.now c.args.p c.self.invariant c.self.view_is c.index_at.result c.in-Some.index at c.in-Some.is in omega (arith, within)

pub index_mut-requires : goal.index_mut-requires
index_mut-requires c =
    let at : c.index_at.result ≡ index_of c.args.p.offset (find (λ x. x.number == c.args.p.object) c.self.inside.objects.items) =
    c.index_at.ensures ∙ ap (λ (xs : List Live). index_of c.args.p.offset (find (λ x. x.number == c.args.p.object) xs)) c.deref.ensures.value
    in
    let within : c.in-Some.index < length c.self.inside.cells.items = is_within c.self.inside.objects.items c.self.inside.cells.items c.self.inside.next c.args.self.now c.args.p c.self.invariant c.self.view_is c.index_at.result c.in-Some.index at c.in-Some.is in omega (arith, within)

pub returns-in-None-clause-act : goal.returns-in-None-clause-act
returns-in-None-clause-act c =
    let at : c.index_at.result ≡ index_of c.args.p.offset (find (λ x. x.number == c.args.p.object) c.self.inside.objects.items) =
    c.index_at.ensures ∙ ap (λ (xs : List Live). index_of c.args.p.offset (find (λ x. x.number == c.args.p.object) xs)) c.deref.ensures.value
    in
    put_outside c.self.inside.objects.items c.self.inside.cells.items c.self.inside.next c.args.self.now c.args.p c.self.invariant c.self.view_is c.args.kind (value_of c.args.v) c.index_at.result at c.in-None.is

pub returns-then-not-holds_no_other-clause-act : goal.returns-then-not-holds_no_other-clause-act
returns-then-not-holds_no_other-clause-act c =
    let at : c.index_at.result ≡ index_of c.args.p.offset (find (λ x. x.number == c.args.p.object) c.self.inside.objects.items) =
    c.index_at.ensures ∙ ap (λ (xs : List Live). index_of c.args.p.offset (find (λ x. x.number == c.args.p.object) xs)) c.deref.ensures.value
    in
    let within : c.in-Some.index < length c.self.inside.cells.items = is_within c.self.inside.objects.items c.self.inside.cells.items c.self.inside.next c.args.self.now c.args.p c.self.invariant c.self.view_is c.index_at.result c.in-Some.index at c.in-Some.is in
    put_other c.self.inside.objects.items c.self.inside.cells.items c.self.inside.next c.args.self.now c.args.p c.self.invariant c.self.view_is c.args.kind (value_of c.args.v) (cell_of c.index.result.now)
    (some_at c.self.inside.objects.items c.self.inside.cells.items c.self.inside.next c.args.self.now c.args.p c.self.invariant c.self.view_is c.index_at.result c.in-Some.index c.index.result.now at c.in-Some.is c.index.ensures within)
    (sym c.holds_no_other.ensures ∙ c.if-not-holds_no_other.true)

pub returns-else-not-holds_no_other-clause-ok : goal.returns-else-not-holds_no_other-clause-ok
returns-else-not-holds_no_other-clause-ok c =
    let at : c.index_at.result ≡ index_of c.args.p.offset (find (λ x. x.number == c.args.p.object) c.self.inside.objects.items) =
    c.index_at.ensures ∙ ap (λ (xs : List Live). index_of c.args.p.offset (find (λ x. x.number == c.args.p.object) xs)) c.deref.ensures.value
    in
    let within : c.in-Some.index < length c.self.inside.cells.items = is_within c.self.inside.objects.items c.self.inside.cells.items c.self.inside.next c.args.self.now c.args.p c.self.invariant c.self.view_is c.index_at.result c.in-Some.index at c.in-Some.is in
    put_there c.self.inside.objects.items c.self.inside.cells.items c.self.inside.next c.args.self.now c.args.p c.self.invariant c.self.view_is c.args.kind c.args.v (cell_of c.index.result.now) c.index_at.result c.in-Some.index _
    (some_at c.self.inside.objects.items c.self.inside.cells.items c.self.inside.next c.args.self.now c.args.p c.self.invariant c.self.view_is c.index_at.result c.in-Some.index c.index.result.now at c.in-Some.is c.index.ensures within)
    (sym c.holds_no_other.ensures ∙ c.if-not-holds_no_other.false) at c.in-Some.is refl
