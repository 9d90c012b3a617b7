use Rattle.std.specs.List.{filter}
use Rattle.c_helpers.specs.Meanings.{is_format}
use Rattle.c_helpers.specs.Fewer.{distinct}
use Rattle.c_tree_names.specs.Added.{texts}
use Rattle.c_format_terms.proofs.FormatLemmas.{none_yet, one_further, all_formats}
use Rattle.c_format_terms.proofs.formats.formats_among.Goals as goal

pub loop-name-init : goal.loop-name-init
loop-name-init c = none_yet c.new-formats.result.keys c.args.names.now c.new-formats.ensures.empty

pub loop-name-preserved : goal.loop-name-preserved
loop-name-preserved c =
    let names = c.args.names.now in
    let i = c.loop-name.name-index in
    one_further c.loop-name.formats.keys c.put_format.new.formats.keys names i _ (distinct (filter is_format (texts names)))
    c.in_ok-put_format.ensures c.loop-name-test.true c.loop-name.invariant

pub returns : goal.returns
returns c = all_formats c.loop-name.formats.keys c.args.names.now c.loop-name.name-index (distinct (filter is_format (texts c.args.names.now))) c.loop-name-test.false c.loop-name.invariant
