use Rattle.std.proofs.Common.{ℕ, List, ◌∷◌, sym, subst, ◌∙◌}
use Rattle.std.specs.Prelude.{OnOk}
use Rattle.c_types.specs.Types.{Members}
use Rattle.c_syntax.specs.View.{tag_of}
use Rattle.c_types.specs.Scope.{Scope}
use Rattle.c_types.specs.Declarations.{tag_declared, with_tag}
use Rattle.c_declared.specs.Held.{Holds}
use Rattle.c_cells.specs.Structs.{AreStructKinds}
use Rattle.c_cells.proofs.StructLemmas.{struct_kinds_kept}
use Rattle.c_emitted.proofs.EmitLemmas.{always}
use Rattle.c_objects.specs.Passed.{IsClosedTag}
use Rattle.c_objects.proofs.PassedLemmas.{tag_accepted, refused}
use Rattle.c_objects.proofs.externals.declare_struct.Goals as goal

pub close_struct-requires : goal.close_struct-requires
close_struct-requires c =
    let h = c.requires.holds in
    let p = tag_accepted h.0 (tag_of c.args.tag.now) (sym c.in-None.is ∙ c.in_ok-refusal.ensures.judged h.0 h.1) in
    subst (λ (name : _). IsClosedTag c.declare_tag.new.types c.declare_tag.new.declared name) (sym c.as_bytes.ensures)
    (h.0, p.members, p.words, subst (Holds c.declare_tag.new.types c.declare_tag.new.declared) p.is (c.in_ok-refusal.ensures.holds h.0 h.1))

pub returns-in-None-clause-holds : goal.returns-in-None-clause-holds
returns-in-None-clause-holds c = λ s holds. always c.close_struct.result (c.in_ok-refusal.ensures.holds s holds)

pub returns-in-None-clause-structs : goal.returns-in-None-clause-structs
returns-in-None-clause-structs c = λ s holds kinds.
    let old = c.args.types.now in
    let new = c.declare_tag.new.types in
    let d = c.declare_tag.new.declared in
    let p = tag_accepted s (tag_of c.args.tag.now) (sym c.in-None.is ∙ c.in_ok-refusal.ensures.judged s holds) in
    let name = c.as_bytes.ensures in
    subst (λ (r : Scope). OnOk c.close_struct.result (AreStructKinds new c.close_struct.new.structs r.tags)) (sym p.is)
    (subst (λ (n : List ℕ). OnOk c.close_struct.result (AreStructKinds new c.close_struct.new.structs ((n, Members p.members p.words) ∷ s.tags))) name
    (c.close_struct.ensures s p.members p.words (subst (λ (n : List ℕ). Holds new d (with_tag s n (Members p.members p.words))) (sym name) (subst (Holds new d) p.is (c.in_ok-refusal.ensures.holds s holds)))
    (struct_kinds_kept old new c.args.structs.now s.tags c.in_ok-refusal.ensures.tags kinds)))

pub returns-in-Some-clause-structs : goal.returns-in-Some-clause-structs
returns-in-Some-clause-structs c = λ s holds kinds.
    let new = c.declare_tag.new.types in
    subst (λ (r : Scope). AreStructKinds new c.args.structs.now r.tags) (sym (refused s (tag_declared s (tag_of c.args.tag.now)) c.in-Some._fault (sym c.in-Some.is ∙ c.in_ok-refusal.ensures.judged s holds)))
    (struct_kinds_kept c.args.types.now new c.args.structs.now s.tags c.in_ok-refusal.ensures.tags kinds)
