use Rattle.std.proofs.Common.{◌+◌, subst}
use Rattle.bf_lang.specs.declared.command.Command.TheVariants.{Right, Left, Plus, Minus}
use Rattle.bf_lang.specs.declared.fold.Fold.{Fold}
use Rattle.bf_lang.specs.Fold.{IsFold, IsRow}
use Rattle.bf_lang.proofs.Joined.{row_more}
use Rattle.bf_lang.proofs.joining.joined.Goals as goal

pub returns-in-Right-Right : goal.returns-in-Right-Right
returns-in-Right-Right c = λ code k first next.
    let a : IsRow code k Right c.in-Right-Right.field-0-0 = subst (λ (f : Fold). IsFold code k f) c.in-Right-Right.is-0 first in
    let b : IsRow code (k + 1) Right c.in-Right-Right.n = subst (λ (f : Fold). IsFold code (k + 1) f) c.in-Right-Right.is-1 next in
    row_more code k Right c.in-Right-Right.field-0-0 c.in-Right-Right.n c.saturating_add.result a b c.saturating_add.ensures

pub returns-in-Left-Left : goal.returns-in-Left-Left
returns-in-Left-Left c = λ code k first next.
    let a : IsRow code k Left c.in-Left-Left.field-0-0 = subst (λ (f : Fold). IsFold code k f) c.in-Left-Left.is-0 first in
    let b : IsRow code (k + 1) Left c.in-Left-Left.n = subst (λ (f : Fold). IsFold code (k + 1) f) c.in-Left-Left.is-1 next in
    row_more code k Left c.in-Left-Left.field-0-0 c.in-Left-Left.n c.saturating_add-in-Left-Left.result a b c.saturating_add-in-Left-Left.ensures

pub returns-in-Plus-Plus : goal.returns-in-Plus-Plus
returns-in-Plus-Plus c = λ code k first next.
    let a : IsRow code k Plus c.in-Plus-Plus.field-0-0 = subst (λ (f : Fold). IsFold code k f) c.in-Plus-Plus.is-0 first in
    let b : IsRow code (k + 1) Plus c.in-Plus-Plus.n = subst (λ (f : Fold). IsFold code (k + 1) f) c.in-Plus-Plus.is-1 next in
    row_more code k Plus c.in-Plus-Plus.field-0-0 c.in-Plus-Plus.n c.saturating_add-in-Plus-Plus.result a b c.saturating_add-in-Plus-Plus.ensures

pub returns-in-Minus-Minus : goal.returns-in-Minus-Minus
returns-in-Minus-Minus c = λ code k first next.
    let a : IsRow code k Minus c.in-Minus-Minus.field-0-0 = subst (λ (f : Fold). IsFold code k f) c.in-Minus-Minus.is-0 first in
    let b : IsRow code (k + 1) Minus c.in-Minus-Minus.n = subst (λ (f : Fold). IsFold code (k + 1) f) c.in-Minus-Minus.is-1 next in
    row_more code k Minus c.in-Minus-Minus.field-0-0 c.in-Minus-Minus.n c.saturating_add-in-Minus-Minus.result a b c.saturating_add-in-Minus-Minus.ensures
