use Rattle.std.proofs.Common.{◌++◌}
use Rattle.eir_core.specs.declared.ops.Reg.TheVariants.{A, B, C, D, SP, BP}
use Rattle.bf_ops.proofs.Serving.{behind}
use Rattle.bf_jump.specs.Goal.{mark_of, take_block_code}
use Rattle.bf_jump.proofs.Decided.{takes_blocks}
use Rattle.bf_jump.proofs.deciding.take_blocks.Goals as goal

pub returns-clause-effect : goal.returns-clause-effect
returns-clause-effect c =
    takes_blocks c.in_ok-take_block.ensures.effect c.in_ok-take_block-2.ensures.effect c.in_ok-take_block-3.ensures.effect c.in_ok-take_block-4.ensures.effect c.in_ok-take_block-5.ensures.effect c.in_ok-take_block-6.ensures.effect

pub returns-clause-code : goal.returns-clause-code
returns-clause-code c =
    let p = c.args.f.now in
    let h = p.cell in
    behind p (take_block_code h A ++ take_block_code (mark_of A) B ++ take_block_code (mark_of B) C ++ take_block_code (mark_of C) D ++ take_block_code (mark_of D) SP) (mark_of SP) (λ k. take_block_code k BP) (mark_of BP)
    (behind p (take_block_code h A ++ take_block_code (mark_of A) B ++ take_block_code (mark_of B) C ++ take_block_code (mark_of C) D) (mark_of D) (λ k. take_block_code k SP) (mark_of SP)
    (behind p (take_block_code h A ++ take_block_code (mark_of A) B ++ take_block_code (mark_of B) C) (mark_of C) (λ k. take_block_code k D) (mark_of D)
    (behind p (take_block_code h A ++ take_block_code (mark_of A) B) (mark_of B) (λ k. take_block_code k C) (mark_of C)
    (behind p (take_block_code h A) (mark_of A) (λ k. take_block_code k B) (mark_of B) c.in_ok-take_block.ensures.code c.in_ok-take_block-2.ensures.code)
    c.in_ok-take_block-3.ensures.code) c.in_ok-take_block-4.ensures.code) c.in_ok-take_block-5.ensures.code) c.in_ok-take_block-6.ensures.code
