use Rattle.std.proofs.Common.{◌≡◌, length, refl, sym, ap, subst, ◌∙◌, arith}
use Rattle.c_syntax.specs.View.{decls_of, stmt_of}
use Rattle.c_types.specs.Units.{body_scope}
use Rattle.c_types.specs.Types.{Tags}
use Rattle.c_operands.specs.declared.declarations.Declarations.{Declarations}
use Rattle.c_declared.specs.Held.{Holds, IsAround}
use Rattle.c_signatures.specs.Blocks.{IsInBody}
use Rattle.c_signatures.proofs.BlockLemmas.{body_then, body_may_end}
use Rattle.c_cells.specs.Structs.{AreStructKinds}
use Rattle.c_lowered.specs.Whole.{function_start, function_linking}
use Rattle.c_addressing.specs.declared.here.Here.{Here}
use Rattle.c_lower.specs.Functions.{defined}
use Rattle.c_lower.proofs.FunctionLemmas.{free_told, at_body, within, names_end}
use Rattle.c_lower.proofs.function_code.function.Goals as goal

pub body_code-requires : goal.body_code-requires
body_code-requires c =
    let h = c.requires in
    let s = body_scope h.0 c.args.name.now h.1 in
    (s, subst (λ (d : Declarations). Holds c.args.out.now.types d s) (sym c.in_ok-entered.ensures.knows.declared) (c.in_ok-declared.ensures.holds h.0 h.1 h.2 h.3))

pub leave_parameters-requires : goal.leave_parameters-requires
leave_parameters-requires c =
    let h = c.args.here.now in
    let h1 : Here = record h { declared = c.enter_body.new.declared } in
    names_end c.in_ok-entered.entered.names h1 c.body_code.new.here c.in_ok-entered.ensures.names (c.in_ok-behind.ensures.beside.slots ∙ c.in_ok-entered.ensures.knows.outer)

pub leave_body-requires : goal.leave_body-requires
leave_body-requires c =
    let h = c.args.here.now in
    let h1 : Here = record h { declared = c.enter_body.new.declared } in
    let h3 = c.body_code.new.here in
    let k = c.in_ok-entered.ensures.knows in
    let b = c.in_ok-behind.ensures.beside in
    let first : c.len-first.result ≡ length h1.bases.items = omega arith in
    let forgotten = c.in_ok-leave_parameters.ensures h1 (within h1 h3 k.more (b.slots ∙ k.outer) (b.bases ∙ k.behind)) first c.in_ok-entered.ensures.names in
    let around = subst (λ (d : Declarations). IsAround d h3.declared) k.declared b.declared in
    body_may_end h.declared c.leave_parameters.new.here.declared c.in_ok-declared.declared
    (subst (λ (d : Declarations). IsInBody h.declared d) (sym forgotten.declared) (body_then h.declared c.enter_body.new.declared h3.declared c.in_ok-declared.ensures.inside around)) c.in_ok-declared.ensures.mark

pub returns : goal.returns
returns c =
    let h = c.args.here.now in
    let out = c.args.out.now in
    let h1 : Here = record h { declared = c.enter_body.new.declared } in
    let h3 = c.body_code.new.here in
    let k = c.in_ok-entered.ensures.knows in
    let b = c.in_ok-behind.ensures.beside in
    let first : c.len-first.result ≡ length h1.bases.items = omega arith in
    let forgotten = c.in_ok-leave_parameters.ensures h1 (within h1 h3 k.more (b.slots ∙ k.outer) (b.bases ∙ k.behind)) first c.in_ok-entered.ensures.names in
    let around = subst (λ (d : Declarations). IsAround d h3.declared) k.declared b.declared in
    let inside = subst (λ (d : Declarations). IsInBody h.declared d) (sym forgotten.declared) (body_then h.declared c.enter_body.new.declared h3.declared c.in_ok-declared.ensures.inside around) in
    let left = c.in_ok-leave_body.ensures h.declared inside c.in_ok-declared.ensures.mark in
    record {
      keeps = c.in_ok-behind.ensures.keeps;
      same = record {
        names = left.block;
        slots = forgotten.block;
        beside = record {
          declared = record { outer = left.outer; layouts = left.layouts; defined = left.defined };
          slots = forgotten.outer;
          bases = forgotten.bases;
          entries = ap (λ m. m.entries) forgotten.entries ∙ (b.entries ∙ ap (λ m. m.entries) k.entries);
        };
      };
      code = λ w s g names m holds sig before kinds hk blocks.
          let params = decls_of c.args.parameters.now in
          let body = stmt_of c.args.body.now in
          let name = c.args.name.now in
          let f = defined s name params body g in
          let at = at_body h h1 c.enter_parameters.new.here out w names s name params body g refl refl refl k (c.in_ok-declared.ensures.holds s g holds sig) before in
          let structs = subst (λ (tags : Tags). AreStructKinds out.types c.args.structs.now tags) (sym sig.tags) kinds in
          c.in_ok-behind.ensures.code (function_linking w f) (function_start w names f) m _ at.0 structs at.1 (free_told c.in_ok-entered.entered.free c.args.parameters.now c.in_ok-entered.ensures.free) hk blocks;
    }
