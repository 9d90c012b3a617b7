use Rattle.std.proofs.Common.{◌≡◌, ◌+◌, length, sym, ◌∙◌, arith}
use Rattle.c_syntax.specs.View.{stmt_of}
use Rattle.c_lowered.specs.Counts.{stmt_jumps}
use Rattle.c_lowered.specs.Statements.{targets}
use Rattle.c_applied.proofs.LeadsLemmas.{keeps_then, kept, leads, then_piece, told_block, same_number}
use Rattle.c_lower.proofs.FunctionLemmas.{one_more}
use Rattle.c_lower.proofs.function_code.body_code.Goals as goal

pub returns : goal.returns
returns c =
    let s = c.in_ok-behind.ensures in
    let j = stmt_jumps (stmt_of c.args.body.now) in
    let first : c.len-first.result ≡ length c.args.here.now.bases.items = omega arith in
    record {
      keeps = keeps_then s.goes.keeps (kept c.in_ok-returned.ensures);
      beside = s.goes.beside;
      code = λ w env m n is kinds next hn hk blocks.
          let f = s.code w env n m (targets 0 0) (record { stands = record { here = is; next = first ∙ sym next; free = hn }; structs = kinds }) hk (record { broke = same_number 0; continued = same_number 0 }) blocks in
          leads (then_piece f.leads.emits c.in_ok-returned.ensures) (told_block (one_more m j) (c.next.ensures (m + j) f.leads.block));
    }
