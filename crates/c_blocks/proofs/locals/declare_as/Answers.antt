use Rattle.std.proofs.Common.{◌≡◌, ◌∷◌, [], ◌++◌, List, ℕ, refl, sym, ap, subst, ◌∙◌, arith}
use Rattle.c_syntax.specs.View.{decl_of}
use Rattle.c_types.specs.Scope as scope
use Rattle.c_types.specs.Scope.{Scope, with_name}
use Rattle.c_types.specs.Types.{words_of}
use Rattle.c_eval.specs.Environment.{object_type_in}
use Rattle.c_declared.specs.Held.{Holds}
use Rattle.c_expressions.proofs.KeptLemmas.{layouts_at}
use Rattle.c_blocks.proofs.LocalLemmas.{declares_as, small_number, slot_named}
use Rattle.c_blocks.proofs.locals.declare_as.Goals as goal

pub returns-clause-keeps : goal.returns-clause-keeps
returns-clause-keeps c =
    let h = c.requires.holds in
    let ty = c.requires.ty in
    record {
      grows = λ n k e. e;
      tags = refl;
      beside = record { declared = c.in_ok-declare.ensures.around; slots = c.in_ok-declare-2.ensures.outer };
      holds = (with_name h.0 c.as_bytes-name.result.now (scope.Object ty.0), c.in_ok-declare.ensures.holds h.0 (scope.Object ty.0) h.1 ty.1);
    }

pub returns-clause-declares : goal.returns-clause-declares
returns-clause-declares c = λ out site env stands ok is small.
    let table = c.args.types.now in
    let d = decl_of c.args.d.now in
    let s = env.scope in
    let t = object_type_in s d in
    let n = words_of s.tags t in
    let here = stands.here in
    let slot = c.in_ok-slot.ensures in
    let layouts = layouts_at table c.args.here.now.declared s c.as_slice-layouts.result.now c.as_slice-layouts.ensures.value here.holds.fits in
    let counts = c.words-count.ensures t s.tags is layouts in
    let long : c.get-length.result ≡ n = c.get-length.ensures.value ∙ (c.low-low.ensures n counts ∙ small_number n small) in
    let held = subst (λ (x : List ℕ). Holds table c.declare.new.declared (with_name s x (scope.Object t))) c.as_bytes-name.ensures (c.in_ok-declare.ensures.holds s (scope.Object t) here.holds is) in
    let next = stands.next in
    record {
      ty = is;
      slot = slot.slot_is ∙ next;
      stands = record {
        here = record {
          holds = subst (Holds table c.declare.new.declared) (sym (declares_as s d ok)) held;
          slots = slot_named c.args.here.now.slots c.declare-2.new.self env.objects c.as_bytes-name.result.now d.name c.in_ok-slot.slot env.next c.in_ok-declare-2.ensures.block c.in_ok-declare-2.ensures.outer c.as_bytes-name.ensures (slot.slot_is ∙ next) here.slots;
          files = here.files;
          owner = here.owner;
          before = here.before;
        };
        next = omega (arith, slot.next, next);
      };
      lengths = slot.lengths ∙ ap (λ (k : ℕ). c.args.block.now.lengths.items ++ k ∷ []) long;
    }

pub returns-clause-typed : goal.returns-clause-typed
returns-clause-typed c = c.requires.ty
