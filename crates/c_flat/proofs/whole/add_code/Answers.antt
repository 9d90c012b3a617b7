use Rattle.c_flat.proofs.AddLemmas.{files_kept}
use Rattle.c_flat.proofs.whole.add_code.Goals as goal

pub returns : goal.returns
returns c = λ rules names files fit charges.
    let headed = c.add_end.new.out in
    let heading = c.in_ok-add_end.ensures in
    record {
      headed = headed;
      added = c.add_functions.new.out;
      heading_is = heading;
      functions = c.in_ok-compiled.ensures rules names (files_kept c.args.out.now headed names heading.stays.objects heading.stays.files files) fit charges;
      name = c.in_ok-main.ensures.emits;
      named = c.in_ok-main.ensures.named;
    }
