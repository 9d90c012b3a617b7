use Rattle.std.proofs.Common.{◌≡◌, ◌+◌, ◌∙◌}
use Rattle.std.specs.Prelude.{true, false}
use Rattle.c_syntax.specs.View.{decl_of}
use Rattle.c_types.specs.Declarations.{declared, scope_or}
use Rattle.c_types.specs.Census.{object_sum}
use Rattle.c_declared.proofs.HeldLemmas.{holds_kept, held_kept}
use Rattle.c_check.proofs.items.take_object.Goals as goal

pub count_forgotten-requires : goal.count_forgotten-requires
count_forgotten-requires c = held_kept c.args.types.now c.object_words.new.types c.args.declared.now c.in_ok-words.ensures.grows c.in_ok-words.ensures.tags c.requires

pub declare_object-requires : goal.declare_object-requires
declare_object-requires c =
    let h = c.requires in
    (h.0, c.in_ok-sum.ensures.holds h.0 (holds_kept c.args.types.now c.object_words.new.types c.args.declared.now h.0 c.in_ok-words.ensures.grows c.in_ok-words.ensures.tags h.1))

pub returns : goal.returns
returns c =
    let t0 = c.args.types.now in
    let t1 = c.object_words.new.types in
    let d = c.args.declared.now in
    let x = decl_of c.args.d.now in
    let w = c.in_ok-words.ensures in
    let m = c.in_ok-sum.ensures in
    let r = c.in_ok-refusal.ensures in
    record {
      refusal = λ s holds. r.judged s (m.holds s (holds_kept t0 t1 d s w.grows w.tags holds));
      sums = λ s holds. c.plus.ensures (λ k. k.node) (λ k. object_sum k s x) c.node.ensures (m.counted.sums s (holds_kept t0 t1 d s w.grows w.tags holds));
      words = λ s holds. w.words s holds;
      holds = λ s holds. r.holds s (m.holds s (holds_kept t0 t1 d s w.grows w.tags holds));
      tags = r.tags ∙ (m.counted.tags ∙ w.tags);
    }
