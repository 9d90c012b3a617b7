-- What begins at a place of a table, and how it goes on from there.
use Rattle.std.proofs.Common.{◌≡◌, ℕ, ◌+◌, ◌-◌, ◌<◌, ◌≤◌, List, length, get_or, Option, Some, None, slice_get, subst, refl, sym, ap, add-zero, ◌∙◌, arith}
use Rattle.std.proofs.lemmas.List.{get_or_default}
use Rattle.std.proofs.lemmas.Option.{slice_get_within}
use Rattle.mach_core.specs.Rule.{Rule}
use Rattle.mach_core.specs.Silent.{StepsSilently}
use Rattle.bf_lang.specs.declared.command.Command.{Command}
use Rattle.bf_lang.specs.declared.fold.Fold.{Fold}
use Rattle.bf_lang.specs.declared.command.Command.TheVariants.{Right as RightCommand, Left as LeftCommand, Plus as PlusCommand, Minus as MinusCommand, Write, Read, Open as OpenCommand, Close as CloseCommand}
use Rattle.bf_lang.specs.declared.fold.Fold.TheVariants.{Right, Left, Plus, Minus, Clear, Open, Close, Other}
use Rattle.bf_lang.specs.Fold.{IsRow, IsClear, IsPlain, IsFold, AreFolds, target_of}
use Rattle.bf_lang.proofs.Folding.{silent_then, silent_is, past_is}

pub fold_is : (code : List Command) (folds : List Fold) (k : ℕ) (d f : Fold) → AreFolds code folds → k ≤ length code → get_or folds k d ≡ f → IsFold code k f
fold_is code folds k d f a le e =
    let l : k < length folds = omega (arith, a.count) in
    subst (λ g. IsFold code k g) (get_or_default folds k Other d l ∙ e) (a.each k l)

pub row_within : (code : List Command) (k : ℕ) (c : Command) (n : ℕ) → IsRow code k c n → k + n ≤ length code
row_within code k c n row =
    let last : n - 1 < n = omega (arith, row.some) in
    omega (arith, slice_get_within code (k + (n - 1)) c (row.each (n - 1) last), row.some)

pub clear_within : (code : List Command) (k : ℕ) → IsClear code k → k + 3 ≤ length code
clear_within code k clear = omega (arith, slice_get_within code (k + 2) _ clear.closes)

-- on with what is left of the steps
pub further : {C : Type 0} (rule : Rule C) (a b c : C) (most left n : ℕ) → left ≤ most → n ≤ left → StepsSilently rule a (most - left) b → StepsSilently rule b n c → StepsSilently rule a (most - (left - n)) c
further rule a b c most left n few some s t =
    let count : most - left + n ≡ most - (left - n) = omega arith in
    silent_is rule a c c (most - left + n) (most - (left - n)) count refl (silent_then rule a b c (most - left) n s t)

pub none_yet : {C : Type 0} (rule : Rule C) (a : C) (most : ℕ) → StepsSilently rule a 0 a → StepsSilently rule a (most - most) a
none_yet rule a most s = let none : 0 ≡ most - most = omega arith in subst (λ n. StepsSilently rule a n a) none s

-- where a jump leads
pub target_clear : (code : List Command) (k : ℕ) → IsClear code k → k + 3 ≡ target_of code k (slice_get code k)
target_clear code k clear = past_is code k 0 clear ∙ sym (ap (target_of code k) clear.opens)

first_of_row : (code : List Command) (k : ℕ) (c : Command) (n : ℕ) → IsRow code k c n → slice_get code k ≡ Some c
first_of_row code k c n row = ap (slice_get code) (sym (add-zero k)) ∙ row.each 0 row.some

plain_target : (code : List Command) (k : ℕ) (o : Option Command) → IsPlain o → k + 1 ≡ target_of code k o
plain_target code k None plain = refl
plain_target code k (Some RightCommand) plain = refl
plain_target code k (Some LeftCommand) plain = refl
plain_target code k (Some PlusCommand) plain = refl
plain_target code k (Some MinusCommand) plain = refl
plain_target code k (Some Write) plain = refl
plain_target code k (Some Read) plain = refl
plain_target code k (Some OpenCommand) plain = absurd plain
plain_target code k (Some CloseCommand) plain = absurd plain

pub target_other : (code : List Command) (k : ℕ) (f : Fold) → IsFold code k f → (f ≡ Clear → ⊥) → ((to : ℕ) → f ≡ Open to → ⊥) → ((to : ℕ) → f ≡ Close to → ⊥) → k + 1 ≡ target_of code k (slice_get code k)
target_other code k (Right n) is a b c = sym (ap (target_of code k) (first_of_row code k RightCommand n is))
target_other code k (Left n) is a b c = sym (ap (target_of code k) (first_of_row code k LeftCommand n is))
target_other code k (Plus n) is a b c = sym (ap (target_of code k) (first_of_row code k PlusCommand n is))
target_other code k (Minus n) is a b c = sym (ap (target_of code k) (first_of_row code k MinusCommand n is))
target_other code k Clear is a b c = absurd (a refl)
target_other code k (Open to) is a b c = absurd (b to refl)
target_other code k (Close to) is a b c = absurd (c to refl)
target_other code k Other is a b c = plain_target code k (slice_get code k) is
