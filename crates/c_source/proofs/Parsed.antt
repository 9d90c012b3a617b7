-- Tokens that end in a text's end are a unit, or there is a reason why not.
use Rattle.std.proofs.Common.{◌≡◌, ℕ, zero, suc, ◌+◌, ◌<◌, ◌≤◌, ◌⊎◌, inl, inr, List, [], ◌∷◌, Option, Some, None, Ok, Err, length, take, refl, ap, subst, ◌∙◌, arith}
use Rattle.std.specs.Prelude.{slice_get, Result}
use Rattle.std.proofs.Math.Seq.{take-length}
use Rattle.std.proofs.lemmas.Bool.{cases_lt}
use Rattle.c_syntax.specs.declared.token.Token.{Token}
use Rattle.c_syntax.specs.Plain.{CUnit}
use Rattle.c_grammar.specs.Machine.{Frame, run, start}
use Rattle.c_grammar.specs.Depths.{top_depth}
use Rattle.c_grammar.specs.Tree.{unit_tree}
use Rattle.c_grammar.specs.Spells.{IsDeepAt, IsShallowBefore}
use Rattle.c_grammar.proofs.Sound.{whole_spelled}
use Rattle.c_grammar.proofs.Exact.{first_bad}
use Rattle.c_grammar.proofs.Limits.{deep_at, shallow_at}
use Rattle.c_grammar.proofs.Endings.{end_is_whole}
use Rattle.c_parse.specs.declared.fault.ParseFault.{ParseFault}
use Rattle.c_parse.specs.declared.fault.ParseFault.TheVariants.{Syntax, TooDeep, TooLarge}
use Rattle.c_parse.specs.Answer.{EndsInEnd, IsSmall, Parses}

token_there : (ts : List Token) (k : ℕ) → k < length ts → (t : Token) × (slice_get ts k ≡ Some t)
token_there [] k h = absurd (omega (arith, h))
token_there (t ∷ ts) zero h = (t, refl)
token_there (t ∷ ts) (suc k) h = token_there ts k (omega (arith, h))

abbrev Answer : List Token → Type 0
Answer ts = (r : Result CUnit ParseFault) × Parses ts r

module _ (ts : List Token) (ends : EndsInEnd ts) (small : IsSmall ts) where
  read_whole : (s : List Frame) → run ts start ≡ Some s → IsShallowBefore ts (length ts) → Answer ts
  read_whole s h shallow =
      let w = end_is_whole ends.before ends.last s ends.is_end (subst (λ (xs : List Token). run xs start ≡ Some s) ends.tokens_are h) in
      let spelt = whole_spelled ts w.kids (h ∙ ap (λ (x : List Frame). Some x) w.is_whole) in
      (Ok (unit_tree spelt.kids), (small, record { spells = record { spelt = spelt; tree_is = refl }; shallow = shallow }))

  more_shallow : (k : ℕ) → IsShallowBefore ts k → (IsDeepAt ts k → ⊥) → IsShallowBefore ts (suc k)
  more_shallow k before here j below deep = on (cases_lt j k)
    where
      on : (j < k) ⊎ (k ≤ j) → ⊥
      on (inl h) = before j h deep
      on (inr h) = let same : j ≡ k = omega (arith, below, h) in here (subst (IsDeepAt ts) same deep)

  -- what comes behind the tokens of which this token is the first that isn't nested too deep
  abbrev GoesOn : ℕ → Type 0
  GoesOn k = (next : List Frame) → run (take (suc k) ts) start ≡ Some next → IsShallowBefore ts (suc k) → Answer ts

  on_depth : (k : ℕ) → k < length ts → IsShallowBefore ts k → (next : List Frame) → run (take (suc k) ts) start ≡ Some next → GoesOn k → (256 < top_depth next) ⊎ (top_depth next ≤ 256) → Answer ts
  on_depth k there shallow next is go (inl deep) =
      let t = token_there ts k there in
      (Err (TooDeep t.0.pos), (small, record { k = k; deep = deep_at ts k next there is deep; shallow = shallow; place = (t.0, t.1, refl) }))
  on_depth k there shallow next is go (inr flat) = go next is (more_shallow k shallow (shallow_at ts k next there is flat))

  after : (k : ℕ) → k < length ts → (s : List Frame) → run (take k ts) start ≡ Some s → IsShallowBefore ts k → GoesOn k → (o : Option (List Frame)) → run (take (suc k) ts) start ≡ o → Answer ts
  after k there s h shallow go None is =
      let t = token_there ts k there in
      (Err (Syntax t.0.pos), (small, record { k = k; bad = first_bad ts k s h is; shallow = shallow; place = (t.0, t.1, refl) }))
  after k there s h shallow go (Some next) is = on_depth k there shallow next is go (cases_lt 256 (top_depth next))

  walk : (left k : ℕ) → k + left ≡ length ts → (s : List Frame) → run (take k ts) start ≡ Some s → IsShallowBefore ts k → Answer ts
  walk zero k e s h shallow =
      let all : k ≡ length ts = omega (arith, e) in
      read_whole s (subst (λ (xs : List Token). run xs start ≡ Some s) (ap (λ n. take n ts) all ∙ take-length ts) h) (subst (IsShallowBefore ts) all shallow)
  walk (suc left) k e s h shallow = after k (omega (arith, e)) s h shallow (λ next is flat. walk left (suc k) (omega (arith, e)) next is flat) (run (take (suc k) ts) start) refl

  none_before : IsShallowBefore ts 0
  none_before j below deep = absurd (omega (arith, below))

  small_decided : Answer ts
  small_decided = walk (length ts) 0 (omega arith) start refl none_before

pub tokens_decided : (ts : List Token) → EndsInEnd ts → Answer ts
tokens_decided ts ends = on (cases_lt 1000001 (length ts))
  where
    on : (1000001 < length ts) ⊎ (length ts ≤ 1000001) → Answer ts
    on (inl large) = (Err TooLarge, large)
    on (inr small) = small_decided ts ends small
