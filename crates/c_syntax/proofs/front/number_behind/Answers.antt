use Rattle.c_syntax.proofs.NumberLemmas.{with_suffix, without_suffix}
use Rattle.c_syntax.proofs.front.number_behind.Goals as goal

pub returns-then-begins_suffix-clause-value : goal.returns-then-begins_suffix-clause-value
returns-then-begins_suffix-clause-value c =
    with_suffix c.args.radix c.args.prefix c.digits_len-len.result c.number_up_to-value.result c.args.bytes.now c.split_at.result.1.now c.split_at-2.result.0.now c.split_at-2.result.1.now c.begins_suffix.result c.number_kind.result
    c.split_at.ensures.back c.digits_len-len.ensures.value c.split_at-2.ensures.front c.split_at-2.ensures.back c.number_up_to-value.ensures c.begins_suffix.ensures.value c.number_kind.ensures c.if-begins_suffix.true

pub returns-clause-value : goal.returns-clause-value
returns-clause-value c =
    without_suffix c.args.radix c.args.prefix c.digits_len-len.result c.number_up_to-value.result c.args.bytes.now c.split_at.result.1.now c.split_at-2.result.0.now c.split_at-2.result.1.now c.begins_suffix.result c.number_kind-2.result
    c.split_at.ensures.back c.digits_len-len.ensures.value c.split_at-2.ensures.front c.split_at-2.ensures.back c.number_up_to-value.ensures c.begins_suffix.ensures.value c.number_kind-2.ensures c.if-begins_suffix.false
