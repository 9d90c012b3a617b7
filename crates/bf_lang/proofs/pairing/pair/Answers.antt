use Rattle.std.proofs.Common.{◌≡◌, ◌+◌, List, [], ◌∷◌, ◌++◌, Some, slice_get, refl, sym, ap, subst, ◌∙◌}
use Rattle.std.proofs.lemmas.Option.{slice_get-get_or}
use Rattle.bf_lang.specs.declared.command.Command.{Command}
use Rattle.bf_lang.specs.declared.command.Command.TheVariants.{Right, Left, Plus, Minus, Write, Read, Open}
use Rattle.bf_lang.specs.declared.fold.Fold.{Fold}
use Rattle.bf_lang.specs.declared.fold.Fold.TheVariants.{Right as RightFold, Left as LeftFold, Plus as PlusFold, Minus as MinusFold, Other}
use Rattle.bf_lang.specs.Fold.{IsPlain}
use Rattle.bf_lang.specs.Pairing.{ArePaired}
use Rattle.bf_lang.proofs.PairedUp.{paired_plain, paired_open, single}
use Rattle.bf_lang.proofs.pairing.pair.Goals as goal

pub returns-in_ok-push-in-Right : goal.returns-in_ok-push-in-Right
returns-in_ok-push-in-Right c =
    let code = c.args.commands.now in
    let k = c.args.place in
    let at : slice_get code k ≡ Some Right = slice_get-get_or code k Right c.requires.here ∙ ap (λ (x : Command). Some x) c.in-Right.is in
    subst (λ (folds : List Fold). ArePaired code (k + 1) folds c.args.waiting.now.items) (sym c.in_ok-push-in-Right.ensures.items)
    (paired_plain code k c.args.folds.now.items c.args.waiting.now.items Right (RightFold 1) at refl (single code k Right at) c.requires.before)

pub returns-in_ok-push-in-Left : goal.returns-in_ok-push-in-Left
returns-in_ok-push-in-Left c =
    let code = c.args.commands.now in
    let k = c.args.place in
    let at : slice_get code k ≡ Some Left = slice_get-get_or code k Right c.requires.here ∙ ap (λ (x : Command). Some x) c.in-Left.is in
    subst (λ (folds : List Fold). ArePaired code (k + 1) folds c.args.waiting.now.items) (sym c.in_ok-push-in-Left.ensures.items)
    (paired_plain code k c.args.folds.now.items c.args.waiting.now.items Left (LeftFold 1) at refl (single code k Left at) c.requires.before)

pub returns-in_ok-push-in-Plus : goal.returns-in_ok-push-in-Plus
returns-in_ok-push-in-Plus c =
    let code = c.args.commands.now in
    let k = c.args.place in
    let at : slice_get code k ≡ Some Plus = slice_get-get_or code k Right c.requires.here ∙ ap (λ (x : Command). Some x) c.in-Plus.is in
    subst (λ (folds : List Fold). ArePaired code (k + 1) folds c.args.waiting.now.items) (sym c.in_ok-push-in-Plus.ensures.items)
    (paired_plain code k c.args.folds.now.items c.args.waiting.now.items Plus (PlusFold 1) at refl (single code k Plus at) c.requires.before)

pub returns-in_ok-push-in-Minus : goal.returns-in_ok-push-in-Minus
returns-in_ok-push-in-Minus c =
    let code = c.args.commands.now in
    let k = c.args.place in
    let at : slice_get code k ≡ Some Minus = slice_get-get_or code k Right c.requires.here ∙ ap (λ (x : Command). Some x) c.in-Minus.is in
    subst (λ (folds : List Fold). ArePaired code (k + 1) folds c.args.waiting.now.items) (sym c.in_ok-push-in-Minus.ensures.items)
    (paired_plain code k c.args.folds.now.items c.args.waiting.now.items Minus (MinusFold 1) at refl (single code k Minus at) c.requires.before)

pub returns-in_ok-push-in-Write : goal.returns-in_ok-push-in-Write
returns-in_ok-push-in-Write c =
    let code = c.args.commands.now in
    let k = c.args.place in
    let at : slice_get code k ≡ Some Write = slice_get-get_or code k Right c.requires.here ∙ ap (λ (x : Command). Some x) c.in-Write.is in
    subst (λ (folds : List Fold). ArePaired code (k + 1) folds c.args.waiting.now.items) (sym c.in_ok-push-in-Write.ensures.items)
    (paired_plain code k c.args.folds.now.items c.args.waiting.now.items Write Other at refl (subst (λ o. IsPlain o) (sym at) tt) c.requires.before)

pub returns-in_ok-push-in-Read : goal.returns-in_ok-push-in-Read
returns-in_ok-push-in-Read c =
    let code = c.args.commands.now in
    let k = c.args.place in
    let at : slice_get code k ≡ Some Read = slice_get-get_or code k Right c.requires.here ∙ ap (λ (x : Command). Some x) c.in-Read.is in
    subst (λ (folds : List Fold). ArePaired code (k + 1) folds c.args.waiting.now.items) (sym c.in_ok-push-in-Read.ensures.items)
    (paired_plain code k c.args.folds.now.items c.args.waiting.now.items Read Other at refl (subst (λ o. IsPlain o) (sym at) tt) c.requires.before)

pub returns-in_ok-push-in-Open-2 : goal.returns-in_ok-push-in-Open-2
returns-in_ok-push-in-Open-2 c =
    let code = c.args.commands.now in
    let k = c.args.place in
    let at : slice_get code k ≡ Some Open = slice_get-get_or code k Right c.requires.here ∙ ap (λ (x : Command). Some x) c.in-Open.is in
    let folds = c.in_ok-push-in-Open-2.ensures.items in
    let waiting = c.in_ok-push-in-Open.ensures.items in
    subst (λ (fs : List Fold). ArePaired code (k + 1) fs c.push-in-Open.new.self.items) (sym folds)
    (subst (λ ws. ArePaired code (k + 1) (c.args.folds.now.items ++ Other ∷ []) ws) (sym waiting)
    (paired_open code k c.args.folds.now.items c.args.waiting.now.items at c.requires.before))
