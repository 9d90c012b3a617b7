use Rattle.wasm_code.proofs.Pieces.{main_is}
use Rattle.wasm_code.proofs.body.main_code.Goals as goal

pub returns : goal.returns
returns c =
    main_is c.args.p.now c.block_count-count.result c.start.result c.in_ok-code.code.items c.put_start.new.code.items c.put.new.code.items c.put_nest.new.code.items c.put_choice.new.code.items c.put_blocks.new.code.items
    c.block_count-count.ensures.count c.start.ensures c.in_ok-code.ensures.items c.in_ok-put_start.ensures c.in_ok-put.ensures c.in_ok-put_nest.ensures c.in_ok-put_choice.ensures c.in_ok-put_blocks.ensures
