use Rattle.std.proofs.Common.{◌-◌, length, refl, arith}
use Rattle.std.proofs.lemmas.Option.{slice_get_read}
use Rattle.eir_opt.proofs.TrimmedLoop.{Seen, dropped_here, kept_here, known_here}
use Rattle.eir_opt.proofs.trim.trim.Goals as goal

pub loop-k-preserved-in-Continue-1 : goal.loop-k-preserved-in-Continue-1
loop-k-preserved-in-Continue-1 c =
    let ops = c.args.ops.now in
    let k = c.loop-k.k in
    let i = k - 1 in
    let op = c.index-ops-k.result in
    let items = c.loop-k.kept.items in
    let seen : Seen ops k i op items c.loop-k.overwritten c.is_dropped.result = record {
      next = omega arith;
      here = slice_get_read ops (length ops) i op refl (omega arith) c.index-ops-k.is;
      kept = c.loop-k.invariant.kept;
      known = c.loop-k.invariant.overwritten;
      test = c.is_dropped.ensures;
    } in
    record {
      kept = kept_here ops k i op items c.push.new.self.items c.loop-k.overwritten c.is_dropped.result seen c.if-not-is_dropped.true c.in_ok-push.ensures.items;
      overwritten = known_here op items c.push.new.self.items c.loop-k.overwritten c.all_overwritten_from-overwritten.result c.loop-k.invariant.overwritten c.all_overwritten_from-overwritten.ensures c.in_ok-push.ensures.items;
    }

pub loop-k-preserved : goal.loop-k-preserved
loop-k-preserved c =
    let ops = c.args.ops.now in
    let k = c.loop-k.k in
    let i = k - 1 in
    let op = c.index-ops-k.result in
    let items = c.loop-k.kept.items in
    let seen : Seen ops k i op items c.loop-k.overwritten c.is_dropped.result = record {
      next = omega arith;
      here = slice_get_read ops (length ops) i op refl (omega arith) c.index-ops-k.is;
      kept = c.loop-k.invariant.kept;
      known = c.loop-k.invariant.overwritten;
      test = c.is_dropped.ensures;
    } in
    record {
      kept = dropped_here ops k i op items c.loop-k.overwritten c.is_dropped.result seen c.if-not-is_dropped.false;
      overwritten = c.loop-k.invariant.overwritten;
    }
