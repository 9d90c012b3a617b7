use Rattle.std.proofs.Common.{◌≡◌, length, Some, slice_get, sym, ◌∙◌, subst, arith}
use Rattle.eir_core.specs.Eir.{IsEir, program_of}
use Rattle.eir_opt.specs.Folding.{folded}
use Rattle.eir_opt.specs.Trimming.{trimmed}
use Rattle.eir_opt.specs.Optimised.{optimised}
use Rattle.eir_opt.specs.Alike.{RunsAlike}
use Rattle.eir_opt.proofs.BlocksMade.{block_made, program_made}
use Rattle.eir_opt.proofs.WholePrograms.{optimised-IsEir, optimised_runs_alike}
use Rattle.eir_opt.proofs.program.optimise.Goals as goal

pub loop-k-preserved : goal.loop-k-preserved
loop-k-preserved c =
    let blocks = c.args.p.now.blocks in
    let here : slice_get blocks c.loop-k.k ≡ Some c.unwrap-ops.result.now = rw c.unwrap-ops.ensures at c.block.ensures.ops in
    block_made (λ ops. trimmed (folded ops)) blocks c.loop-k.k c.unwrap-ops.result.now c.loop-k.blocks.items c.push.new.self.items c.in_ok-optimise_block.field-0
    here c.in_ok-optimise_block.ensures c.in_ok-push.ensures.items c.loop-k.invariant

pub unwrap-requires : goal.unwrap-requires
unwrap-requires c =
    let p = c.args.p.now in
    let all : c.loop-k.k ≡ length p.blocks = omega (arith, c.block_count-k-end.ensures.count) in
    let made : program_of c.loop-k.blocks.items c.in_ok-words.words.items c.start.result ≡ optimised p =
    program_made (λ ops. trimmed (folded ops)) p c.loop-k.k c.loop-k.blocks.items c.in_ok-words.words.items c.start.result all c.loop-k.invariant
    (c.in_ok-words.ensures.items_if_clones_equal (λ x y e. e) ∙ c.words.ensures.words) c.start.ensures in
    c.new.ensures.ok.1 (subst IsEir (sym made) (optimised-IsEir p c.size-size.ensures.sound))

pub returns-clause-alike : goal.returns-clause-alike
returns-clause-alike c =
    let p = c.args.p.now in
    let all : c.loop-k.k ≡ length p.blocks = omega (arith, c.block_count-k-end.ensures.count) in
    let made : program_of c.loop-k.blocks.items c.in_ok-words.words.items c.start.result ≡ optimised p =
    program_made (λ ops. trimmed (folded ops)) p c.loop-k.k c.loop-k.blocks.items c.in_ok-words.words.items c.start.result all c.loop-k.invariant
    (c.in_ok-words.ensures.items_if_clones_equal (λ x y e. e) ∙ c.words.ensures.words) c.start.ensures in
    let built : c.unwrap.result ≡ program_of c.loop-k.blocks.items c.in_ok-words.words.items c.start.result = rw c.unwrap.ensures at c.new.ensures.program in
    let same : c.unwrap.result ≡ optimised p = built ∙ made in
    subst (RunsAlike p) (sym same) (optimised_runs_alike c.folding_keeps_steps.ensures c.trimming_leaves_steps_out.ensures p c.size-size.ensures.sound)
