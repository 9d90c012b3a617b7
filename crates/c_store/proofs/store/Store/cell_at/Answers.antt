use Rattle.std.proofs.Common.{◌≡◌, ◌<◌, List, length, sym, ap, ◌∙◌, arith}
use Rattle.std.specs.Prelude.{find, ◌==◌}
use Rattle.c_store.specs.declared.live.Live.{Live}
use Rattle.c_store.specs.declared.value.Value as rust
use Rattle.c_store.specs.Words.{cell_at}
use Rattle.c_store.specs.Shown.{value_of}
use Rattle.c_store.specs.Live.{index_of}
use Rattle.c_store.proofs.Steps.{is_within, some_at, none_at}
use Rattle.c_store.proofs.store.Store.cell_at.Goals as goal

pub index-requires : goal.index-requires
index-requires c =
    let at : c.index_at.result ≡ index_of c.in-Point.p.offset (find (λ x. x.number == c.in-Point.p.object) c.self.inside.objects.items) =
    c.index_at.ensures ∙ ap (λ (xs : List Live). index_of c.in-Point.p.offset (find (λ x. x.number == c.in-Point.p.object) xs)) c.deref.ensures.value
    in
    let within : c.in-Some.index < length c.self.inside.cells.items = is_within c.self.inside.objects.items c.self.inside.cells.items c.self.inside.next c.args.self.now c.in-Point.p c.self.invariant c.self.view_is c.index_at.result c.in-Some.index at c.in-Some.is in omega (arith, within)

pub returns-in-Some : goal.returns-in-Some
returns-in-Some c =
    let at : c.index_at.result ≡ index_of c.in-Point.p.offset (find (λ x. x.number == c.in-Point.p.object) c.self.inside.objects.items) =
    c.index_at.ensures ∙ ap (λ (xs : List Live). index_of c.in-Point.p.offset (find (λ x. x.number == c.in-Point.p.object) xs)) c.deref.ensures.value
    in
    let within : c.in-Some.index < length c.self.inside.cells.items = is_within c.self.inside.objects.items c.self.inside.cells.items c.self.inside.next c.args.self.now c.in-Point.p c.self.invariant c.self.view_is c.index_at.result c.in-Some.index at c.in-Some.is in
    sym (some_at c.self.inside.objects.items c.self.inside.cells.items c.self.inside.next c.args.self.now c.in-Point.p c.self.invariant c.self.view_is c.index_at.result c.in-Some.index c.index.result.now at c.in-Some.is c.index.ensures within)
    ∙ ap (λ (w : rust.Value). cell_at c.args.literals.now c.args.self.now (value_of w)) (sym c.in-Point.is)

pub returns-in-None : goal.returns-in-None
returns-in-None c =
    let at : c.index_at.result ≡ index_of c.in-Point.p.offset (find (λ x. x.number == c.in-Point.p.object) c.self.inside.objects.items) =
    c.index_at.ensures ∙ ap (λ (xs : List Live). index_of c.in-Point.p.offset (find (λ x. x.number == c.in-Point.p.object) xs)) c.deref.ensures.value
    in
    sym (none_at c.self.inside.objects.items c.self.inside.cells.items c.self.inside.next c.args.self.now c.in-Point.p c.self.invariant c.self.view_is c.index_at.result at c.in-None.is)
    ∙ ap (λ (w : rust.Value). cell_at c.args.literals.now c.args.self.now (value_of w)) (sym c.in-Point.is)
