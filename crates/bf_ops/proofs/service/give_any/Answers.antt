use Rattle.std.proofs.Common.{◌++◌}
use Rattle.eir_core.specs.declared.ops.Reg.TheVariants.{A, B, C, D, SP, BP}
use Rattle.bf_ops.specs.Ask.{flag_of, give_code}
use Rattle.bf_ops.proofs.Serving.{gives_any, behind}
use Rattle.bf_ops.proofs.service.give_any.Goals as goal

pub returns-clause-effect : goal.returns-clause-effect
returns-clause-effect c = gives_any c.in_ok-give.ensures.effect c.in_ok-give-2.ensures.effect c.in_ok-give-3.ensures.effect c.in_ok-give-4.ensures.effect c.in_ok-give-5.ensures.effect c.in_ok-give-6.ensures.effect

pub returns-clause-code : goal.returns-clause-code
returns-clause-code c =
    let p = c.args.f.now in
    let h = p.cell in
    behind p (give_code h A ++ give_code (flag_of A) B ++ give_code (flag_of B) C ++ give_code (flag_of C) D ++ give_code (flag_of D) SP) (flag_of SP) (λ k. give_code k BP) (flag_of BP)
    (behind p (give_code h A ++ give_code (flag_of A) B ++ give_code (flag_of B) C ++ give_code (flag_of C) D) (flag_of D) (λ k. give_code k SP) (flag_of SP)
    (behind p (give_code h A ++ give_code (flag_of A) B ++ give_code (flag_of B) C) (flag_of C) (λ k. give_code k D) (flag_of D)
    (behind p (give_code h A ++ give_code (flag_of A) B) (flag_of B) (λ k. give_code k C) (flag_of C)
    (behind p (give_code h A) (flag_of A) (λ k. give_code k B) (flag_of B) c.in_ok-give.ensures.code c.in_ok-give-2.ensures.code)
    c.in_ok-give-3.ensures.code) c.in_ok-give-4.ensures.code) c.in_ok-give-5.ensures.code) c.in_ok-give-6.ensures.code
