use Rattle.std.proofs.Common.{◌<◌, ◌^◌, rules, refl}
use Rattle.std.proofs.lemmas.Result.{err_from_is_err_and}
use Rattle.ws_lang.proofs.ListingLemmas.{reads_start, reads_more, reads_end, reads_refused, reads_nearer, place_fits}
use Rattle.ws_lang.proofs.listing.read_listing.Goals as goal

pub loop-cursor-init : goal.loop-cursor-init
loop-cursor-init c = reads_start _ _ _ _ refl refl c.new-ops.ensures.items c.new-starts.ensures.items

pub overflow_cast-start : goal.overflow_cast-start
overflow_cast-start c =
    let lt : c.skip_comments.new.self.at < 2 ^ 32 = place_fits c.args.text.now c.loop-cursor.cursor c.loop-cursor.ops.items c.loop-cursor.starts.items c.skip_comments.new.self.at c.loop-cursor.invariant (c.loop-cursor-test.ensures.sign refl).1 c.requires in
    search rules

pub returns-in_err-op : goal.returns-in_err-op
returns-in_err-op c =
    let p = err_from_is_err_and c.from_residual.result c.from_residual.ensures.1 in
    rw (p.1, p.2) (reads_refused c.args.text.now c.loop-cursor.cursor c.skip_comments.new.self c.loop-cursor.ops.items c.loop-cursor.starts.items c.in_err-op.field-0.0 c.loop-cursor.invariant c.loop-cursor-test.ensures.passes (c.loop-cursor-test.ensures.sign refl).0 c.in_err-op.ensures.answer)

pub loop-cursor-smaller : goal.loop-cursor-smaller
loop-cursor-smaller c =
    reads_nearer c.args.text.now c.loop-cursor.cursor c.skip_comments.new.self c.read_op.new.cursor c.loop-cursor.ops.items c.loop-cursor.starts.items c.loop-cursor.invariant c.loop-cursor-test.ensures.passes (c.loop-cursor-test.ensures.sign refl).1 c.in_ok-op.ensures.moves

pub loop-cursor-preserved : goal.loop-cursor-preserved
loop-cursor-preserved c =
    reads_more c.args.text.now c.loop-cursor.cursor c.skip_comments.new.self c.read_op.new.cursor c.loop-cursor.ops.items c.push.new.self.items c.in_ok-op.op c.loop-cursor.starts.items c.push-in-loop-cursor.new.self.items
    c.loop-cursor.invariant c.loop-cursor-test.ensures.passes (c.loop-cursor-test.ensures.sign refl).0 (c.loop-cursor-test.ensures.sign refl).1 c.in_ok-op.ensures.follows c.in_ok-op.ensures.moves c.in_ok-op.ensures.answer.0 c.in_ok-op.ensures.answer.1 c.in_ok-push.ensures.items c.in_ok-push-2.ensures.items

pub returns : goal.returns
returns c = reads_end c.args.text.now c.loop-cursor.cursor c.skip_comments.new.self c.loop-cursor.ops.items c.loop-cursor.starts.items c.loop-cursor.invariant c.loop-cursor-test.ensures.passes (c.loop-cursor-test.ensures.end refl)
