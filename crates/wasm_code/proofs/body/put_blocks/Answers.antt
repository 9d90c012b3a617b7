use Rattle.std.proofs.Common.{◌≡◌, ◌≤◌, ◌-◌, ◌++◌, List, length, ap, arith}
use Rattle.std.proofs.lemmas.Result.{on_ok_weaker}
use Rattle.mach_core.proofs.Lists.{drop_none}
use Rattle.eir_core.specs.declared.ops.Op.{Op}
use Rattle.wasm_code.specs.Emitted.{blocks_code}
use Rattle.wasm_code.proofs.Pieces.{blocks_more, blocks_all}
use Rattle.wasm_code.proofs.body.put_blocks.Goals as goal

pub loop-k-init : goal.loop-k-init
loop-k-init c =
    let p = c.args.p.now in
    let before = c.args.code.now.items in
    ap (λ (left : List (List Op)). before ++ blocks_code left) (drop_none p.blocks)

pub loop-k-preserved : goal.loop-k-preserved
loop-k-preserved c =
    let p = c.args.p.now in
    let k = c.loop-k.k in
    let count = c.block_count-count.result in
    let out : count - 1 - k ≡ length p.blocks - 1 - k = ap (λ n. n - 1 - k) c.block_count-count.ensures.count in
    blocks_more p.blocks k (count - 1 - k) c.in-Some.ops.now c.loop-k.code.items c.put_block.new.code.items (c.args.code.now.items ++ blocks_code p.blocks) c.in-Some.ensures.ops out c.in_ok-put_block.ensures c.loop-k.invariant

pub returns : goal.returns
returns c =
    let p = c.args.p.now in
    let past : length p.blocks ≤ c.loop-k.k = omega (arith, c.loop-k-test.false, c.block_count-count.ensures.count) in
    on_ok_weaker c.put.result (λ h. blocks_all p.blocks c.loop-k.k c.loop-k.code.items c.put.new.code.items (c.args.code.now.items ++ blocks_code p.blocks) past h c.loop-k.invariant) c.put.ensures
