use Rattle.std.proofs.Common.{◌≡◌, ℕ, Bool, false, List, ◌∷◌, drop, sym, ap, subst, ◌∙◌}
use Rattle.std.specs.Prelude.{MatchOption}
use Rattle.c_operands.specs.Arguments.{printed}
use Rattle.c_operands.proofs.FormatLemmas.{percent_again}
use Rattle.c_operands.proofs.formats.advanced.Goals as goal

pub returns-then-percent : goal.returns-then-percent
returns-then-percent c = λ xs h a. λ format.
    let left = drop c.args.place.used xs in
    ap (λ (b : Bool). printed b (c.args.byte ∷ format) left) c.if-behind.true
    ∙ percent_again c.args.byte format left (sym c.is_percent-percent.ensures ∙ c.if-percent.true)

pub returns-else-percent : goal.returns-else-percent
returns-else-percent c = λ xs h a.
    let left = drop c.args.place.used xs in
    subst (λ (b : Bool). MatchOption c.converted.result ((format : List ℕ) → printed b (c.args.byte ∷ format) left ≡ false) (λ next. (format : List ℕ) → printed b (c.args.byte ∷ format) left ≡ printed next.behind format (drop next.used xs)))
    (sym c.if-behind.true) (c.converted.ensures xs (sym c.is_percent-percent.ensures ∙ c.if-percent.false) h a)

pub returns-else-behind : goal.returns-else-behind
returns-else-behind c = λ xs h a. λ format.
    let left = drop c.args.place.used xs in
    ap (λ (b : Bool). printed b (c.args.byte ∷ format) left) c.if-behind.false
    ∙ ap (λ (b : Bool). printed b format left) (sym c.is_percent-percent.ensures)
