use Rattle.std.proofs.Common.{◌≡◌, ◌+◌, ◌-◌, ◌*◌, ◌%◌, ◌^◌, ◌<◌, ◌≤◌, true, false, cond, nat_eq, get_or, set, refl, sym, subst, arith}
use Rattle.std.proofs.lemmas.List.{length-set}
use Rattle.std.proofs.lemmas.Option.{slice_get_within}
use Rattle.mach_core.specs.Silent.{StepsSilently}
use Rattle.bf_lang.specs.declared.command.Command.TheVariants.{Right as RightCommand, Left as LeftCommand, Plus as PlusCommand, Minus as MinusCommand, Open as OpenCommand, Close as CloseCommand}
use Rattle.bf_lang.specs.declared.fold.Fold.TheVariants.{Right, Left, Plus, Minus, Clear, Open, Close}
use Rattle.bf_lang.specs.Fold.{IsRow, IsClear, IsFold}
use Rattle.bf_lang.specs.Step.{bf_rule}
use Rattle.bf_lang.specs.StateInside.{config_at}
use Rattle.bf_lang.proofs.Folding.{row_right, row_left, row_plus, row_minus, clear_all, jump_open, jump_close}
use Rattle.bf_lang.proofs.Folded.{fold_is, row_within, clear_within, further}
use Rattle.bf_lang.proofs.quiet.run_quietly.Goals as goal

pub folds-smaller-in-Right : goal.folds-smaller-in-Right
folds-smaller-in-Right c =
    let code = c.args.plan.now in
    let k = c.folds.place in
    let inv = c.folds.invariant in
    let row : IsRow code k RightCommand c.in-Right.n = fold_is code c.folds-folds.result.now k (Right 0) (Right c.in-Right.n) c.folds-folds.ensures.folds inv.place c.in-Right.is in
    omega (arith, row.some, c.if-n-left.false)

pub folds-preserved-in-Right : goal.folds-preserved-in-Right
folds-preserved-in-Right c =
    let code = c.args.plan.now in
    let k = c.folds.place in
    let h = c.folds.head in
    let xs = c.folds.cells in
    let start = config_at c.args.spot.now.place c.args.spot.now.head c.args.cells.now in
    let inv = c.folds.invariant in
    let row : IsRow code k RightCommand c.in-Right.n = fold_is code c.folds-folds.result.now k (Right 0) (Right c.in-Right.n) c.folds-folds.ensures.folds inv.place c.in-Right.is in
    record {
      head = c.if-to-cells.false;
      place = row_within code k RightCommand c.in-Right.n row;
      left = omega (arith, inv.left);
      silent = further (bf_rule code) start (config_at k h xs) (config_at (k + c.in-Right.n) (h + c.in-Right.n) xs) c.args.most c.folds.left c.in-Right.n inv.left c.if-n-left.false inv.silent (row_right code k c.in-Right.n h xs row.each);
    }

pub folds-smaller-in-Left : goal.folds-smaller-in-Left
folds-smaller-in-Left c =
    let code = c.args.plan.now in
    let k = c.folds.place in
    let inv = c.folds.invariant in
    let row : IsRow code k LeftCommand c.in-Left.n = fold_is code c.folds-folds.result.now k (Right 0) (Left c.in-Left.n) c.folds-folds.ensures.folds inv.place c.in-Left.is in
    omega (arith, row.some, c.if-n-left-2.false)

pub folds-preserved-in-Left : goal.folds-preserved-in-Left
folds-preserved-in-Left c =
    let code = c.args.plan.now in
    let k = c.folds.place in
    let h = c.folds.head in
    let xs = c.folds.cells in
    let start = config_at c.args.spot.now.place c.args.spot.now.head c.args.cells.now in
    let inv = c.folds.invariant in
    let row : IsRow code k LeftCommand c.in-Left.n = fold_is code c.folds-folds.result.now k (Right 0) (Left c.in-Left.n) c.folds-folds.ensures.folds inv.place c.in-Left.is in
    let whole : h - c.in-Left.n + c.in-Left.n ≡ h = omega (arith, c.if-n-head.false) in
    let s = subst (λ g. StepsSilently (bf_rule code) (config_at k g xs) c.in-Left.n (config_at (k + c.in-Left.n) (h - c.in-Left.n) xs)) whole (row_left code k c.in-Left.n (h - c.in-Left.n) xs row.each) in
    record {
      head = omega (arith, inv.head);
      place = row_within code k LeftCommand c.in-Left.n row;
      left = omega (arith, inv.left);
      silent = further (bf_rule code) start (config_at k h xs) (config_at (k + c.in-Left.n) (h - c.in-Left.n) xs) c.args.most c.folds.left c.in-Left.n inv.left c.if-n-left-2.false inv.silent s;
    }

pub folds-smaller-in-Plus : goal.folds-smaller-in-Plus
folds-smaller-in-Plus c =
    let code = c.args.plan.now in
    let k = c.folds.place in
    let inv = c.folds.invariant in
    let row : IsRow code k PlusCommand c.in-Plus.n = fold_is code c.folds-folds.result.now k (Right 0) (Plus c.in-Plus.n) c.folds-folds.ensures.folds inv.place c.in-Plus.is in
    omega (arith, row.some, c.if-n-left-3.false)

pub folds-preserved-in-Plus : goal.folds-preserved-in-Plus
folds-preserved-in-Plus c =
    let code = c.args.plan.now in
    let k = c.folds.place in
    let h = c.folds.head in
    let xs = c.folds.cells in
    let start = config_at c.args.spot.now.place c.args.spot.now.head c.args.cells.now in
    let inv = c.folds.invariant in
    let row : IsRow code k PlusCommand c.in-Plus.n = fold_is code c.folds-folds.result.now k (Right 0) (Plus c.in-Plus.n) c.folds-folds.ensures.folds inv.place c.in-Plus.is in
    let small : get_or xs h 0 < 2 ^ 8 = omega arith in
    let v = (get_or xs h 0 + c.in-Plus.n % 256) % 256 in
    let is : v ≡ (get_or xs h 0 + c.in-Plus.n) % 2 ^ 8 = omega arith in
    record {
      head = omega (arith, length-set xs h v, inv.head);
      place = row_within code k PlusCommand c.in-Plus.n row;
      left = omega (arith, inv.left);
      silent = further (bf_rule code) start (config_at k h xs) (config_at (k + c.in-Plus.n) h (set xs h v)) c.args.most c.folds.left c.in-Plus.n inv.left c.if-n-left-3.false inv.silent (row_plus code k c.in-Plus.n h v xs inv.head small is row.each);
    }

pub folds-smaller-in-Minus : goal.folds-smaller-in-Minus
folds-smaller-in-Minus c =
    let code = c.args.plan.now in
    let k = c.folds.place in
    let inv = c.folds.invariant in
    let row : IsRow code k MinusCommand c.in-Minus.n = fold_is code c.folds-folds.result.now k (Right 0) (Minus c.in-Minus.n) c.folds-folds.ensures.folds inv.place c.in-Minus.is in
    omega (arith, row.some, c.if-n-left-4.false)

pub folds-preserved-in-Minus : goal.folds-preserved-in-Minus
folds-preserved-in-Minus c =
    let code = c.args.plan.now in
    let k = c.folds.place in
    let h = c.folds.head in
    let xs = c.folds.cells in
    let start = config_at c.args.spot.now.place c.args.spot.now.head c.args.cells.now in
    let inv = c.folds.invariant in
    let row : IsRow code k MinusCommand c.in-Minus.n = fold_is code c.folds-folds.result.now k (Right 0) (Minus c.in-Minus.n) c.folds-folds.ensures.folds inv.place c.in-Minus.is in
    let small : get_or xs h 0 < 2 ^ 8 = omega arith in
    let v = (get_or xs h 0 + (256 - c.in-Minus.n % 256)) % 256 in
    let is : v ≡ (get_or xs h 0 + 255 * c.in-Minus.n) % 2 ^ 8 = omega arith in
    record {
      head = omega (arith, length-set xs h v, inv.head);
      place = row_within code k MinusCommand c.in-Minus.n row;
      left = omega (arith, inv.left);
      silent = further (bf_rule code) start (config_at k h xs) (config_at (k + c.in-Minus.n) h (set xs h v)) c.args.most c.folds.left c.in-Minus.n inv.left c.if-n-left-4.false inv.silent (row_minus code k c.in-Minus.n h v xs inv.head small is row.each);
    }

pub folds-preserved-in-Clear : goal.folds-preserved-in-Clear
folds-preserved-in-Clear c =
    let code = c.args.plan.now in
    let k = c.folds.place in
    let h = c.folds.head in
    let xs = c.folds.cells in
    let start = config_at c.args.spot.now.place c.args.spot.now.head c.args.cells.now in
    let inv = c.folds.invariant in
    let clear : IsClear code k = fold_is code c.folds-folds.result.now k (Right 0) (Clear) c.folds-folds.ensures.folds inv.place c.in-Clear.is in
    let n = c.steps_to_clear-count.result in
    let s = subst (λ m. StepsSilently (bf_rule code) (config_at k h xs) m (config_at (k + 3) h (set xs h 0))) (sym c.steps_to_clear-count.ensures) (clear_all code k h clear (get_or xs h 0) xs inv.head refl) in
    record {
      head = omega (arith, length-set xs h 0, inv.head);
      place = clear_within code k clear;
      left = omega (arith, inv.left);
      silent = further (bf_rule code) start (config_at k h xs) (config_at (k + 3) h (set xs h 0)) c.args.most c.folds.left n inv.left c.if-count-left.false inv.silent s;
    }

pub folds-preserved-then-cells-head-eq0 : goal.folds-preserved-then-cells-head-eq0
folds-preserved-then-cells-head-eq0 c =
    let code = c.args.plan.now in
    let k = c.folds.place in
    let h = c.folds.head in
    let xs = c.folds.cells in
    let start = config_at c.args.spot.now.place c.args.spot.now.head c.args.cells.now in
    let inv = c.folds.invariant in
    let jump : IsFold code k (Open c.in-Open.to) = fold_is code c.folds-folds.result.now k (Right 0) (Open c.in-Open.to) c.folds-folds.ensures.folds inv.place c.in-Open.is in
    let test : nat_eq (get_or xs h 0) 0 ≡ true = grind (arith, c.if-cells-head-eq0.true) in
    let s = subst (λ t. StepsSilently (bf_rule code) (config_at k h xs) 1 (config_at (cond t c.in-Open.to (k + 1)) h xs)) test (jump_open code k h c.in-Open.to xs jump.0 jump.1) in
    let some : 1 ≤ c.folds.left = omega (arith, c.if-left-eq0.false) in
    record {
      head = inv.head;
      place = jump.2;
      left = omega (arith, inv.left);
      silent = further (bf_rule code) start (config_at k h xs) (config_at c.in-Open.to h xs) c.args.most c.folds.left 1 inv.left some inv.silent s;
    }

pub folds-preserved-in-Open : goal.folds-preserved-in-Open
folds-preserved-in-Open c =
    let code = c.args.plan.now in
    let k = c.folds.place in
    let h = c.folds.head in
    let xs = c.folds.cells in
    let start = config_at c.args.spot.now.place c.args.spot.now.head c.args.cells.now in
    let inv = c.folds.invariant in
    let jump : IsFold code k (Open c.in-Open.to) = fold_is code c.folds-folds.result.now k (Right 0) (Open c.in-Open.to) c.folds-folds.ensures.folds inv.place c.in-Open.is in
    let test : nat_eq (get_or xs h 0) 0 ≡ false = grind (arith, c.if-cells-head-eq0.false) in
    let s = subst (λ t. StepsSilently (bf_rule code) (config_at k h xs) 1 (config_at (cond t c.in-Open.to (k + 1)) h xs)) test (jump_open code k h c.in-Open.to xs jump.0 jump.1) in
    let some : 1 ≤ c.folds.left = omega (arith, c.if-left-eq0.false) in
    record {
      head = inv.head;
      place = omega (arith, slice_get_within code k OpenCommand jump.0);
      left = omega (arith, inv.left);
      silent = further (bf_rule code) start (config_at k h xs) (config_at (k + 1) h xs) c.args.most c.folds.left 1 inv.left some inv.silent s;
    }

pub folds-preserved-then-cells-head-ne0 : goal.folds-preserved-then-cells-head-ne0
folds-preserved-then-cells-head-ne0 c =
    let code = c.args.plan.now in
    let k = c.folds.place in
    let h = c.folds.head in
    let xs = c.folds.cells in
    let start = config_at c.args.spot.now.place c.args.spot.now.head c.args.cells.now in
    let inv = c.folds.invariant in
    let jump : IsFold code k (Close c.in-Close.to) = fold_is code c.folds-folds.result.now k (Right 0) (Close c.in-Close.to) c.folds-folds.ensures.folds inv.place c.in-Close.is in
    let test : nat_eq (get_or xs h 0) 0 ≡ false = grind (arith, c.if-cells-head-ne0.true) in
    let s = subst (λ t. StepsSilently (bf_rule code) (config_at k h xs) 1 (config_at (cond t (k + 1) c.in-Close.to) h xs)) test (jump_close code k h c.in-Close.to xs jump.0 jump.1) in
    let some : 1 ≤ c.folds.left = omega (arith, c.if-left-eq0-2.false) in
    record {
      head = inv.head;
      place = jump.2;
      left = omega (arith, inv.left);
      silent = further (bf_rule code) start (config_at k h xs) (config_at c.in-Close.to h xs) c.args.most c.folds.left 1 inv.left some inv.silent s;
    }

pub folds-preserved : goal.folds-preserved
folds-preserved c =
    let code = c.args.plan.now in
    let k = c.folds.place in
    let h = c.folds.head in
    let xs = c.folds.cells in
    let start = config_at c.args.spot.now.place c.args.spot.now.head c.args.cells.now in
    let inv = c.folds.invariant in
    let jump : IsFold code k (Close c.in-Close.to) = fold_is code c.folds-folds.result.now k (Right 0) (Close c.in-Close.to) c.folds-folds.ensures.folds inv.place c.in-Close.is in
    let test : nat_eq (get_or xs h 0) 0 ≡ true = grind (arith, c.if-cells-head-ne0.false) in
    let s = subst (λ t. StepsSilently (bf_rule code) (config_at k h xs) 1 (config_at (cond t (k + 1) c.in-Close.to) h xs)) test (jump_close code k h c.in-Close.to xs jump.0 jump.1) in
    let some : 1 ≤ c.folds.left = omega (arith, c.if-left-eq0-2.false) in
    record {
      head = inv.head;
      place = omega (arith, slice_get_within code k CloseCommand jump.0);
      left = omega (arith, inv.left);
      silent = further (bf_rule code) start (config_at k h xs) (config_at (k + 1) h xs) c.args.most c.folds.left 1 inv.left some inv.silent s;
    }
