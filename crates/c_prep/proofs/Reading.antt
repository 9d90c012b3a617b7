-- Reading line by line.
use Rattle.std.proofs.Common.{◌≡◌, ℕ, zero, suc, ◌+◌, ◌-◌, ◌≤◌, ◌<◌, Bool, true, false, List, [], ◌∷◌, ◌++◌, length, take, drop, get_or, Option, Some, None, refl, sym, ap, ◌∙◌, subst, append_assoc, arith}
use Rattle.std.proofs.lemmas.List.{append-nil, take_all}
use Rattle.std.specs.Prelude.{Result, Ok, Err, not, if◌then◌else◌}
use Rattle.std.specs.List.{prefix_len}
use Rattle.std.specs.Option.{option_map_or}
use Rattle.c_syntax.specs.declared.token.Raw.{Raw}
use Rattle.c_prep.specs.declared.fault.PrepFault.{PrepFault}
use Rattle.c_prep.specs.declared.fault.PrepFault.TheVariants as fault
use Rattle.c_prep.specs.declared.conditional.Open.{Open}
use Rattle.c_prep.specs.declared.context.Context.{Context}
use Rattle.c_prep.specs.declared.output.Output.{Output}
use Rattle.c_syntax.specs.declared.token.Token.{Token}
use Rattle.c_prep.specs.Macros.{Macros, Act, Gives, expansion}
use Rattle.c_prep.specs.Lines.{Step, lines, lengthened, line_step, left_open, and_more, and_then, acts_in, first_state, given, text_acts}
use Rattle.c_prep.specs.Outcome.{Fails}
use Rattle.c_prep.proofs.Giving.{adds_none, adds_both}
use Rattle.c_prep.specs.Views.{size_of, state_of, ReadsState, acts_of, Follows, Adds, ReadsActs}

-- how many tokens before the next line stand at the front
abbrev pub here : List Raw → ℕ
here rs = prefix_len (λ r. not r.first) rs

lines_cut : (r : Raw) (rs : List Raw) → lines (r ∷ rs) ≡ (r ∷ take (here rs) rs) ∷ lines (drop (here rs) rs)
lines_cut r [] = refl
lines_cut r (s ∷ ss) = at (lines_cut s ss) s.first where
  one : 1 + here ss ≡ suc (here ss)
  one = omega arith

  at : lines (s ∷ ss) ≡ (s ∷ take (here ss) ss) ∷ lines (drop (here ss) ss) → (b : Bool)
      → (if b then (r ∷ []) ∷ lines (s ∷ ss) else lengthened r (lines (s ∷ ss))) ≡ (r ∷ take (if not b then 1 + here ss else 0) (s ∷ ss)) ∷ lines (drop (if not b then 1 + here ss else 0) (s ∷ ss))
  at h true = refl
  at h false = ap (lengthened r) h ∙ sym (ap (λ n. (r ∷ take n (s ∷ ss)) ∷ lines (drop n (s ∷ ss))) one)

pub lines_split : (rest behind line next : List Raw) (r : Raw) (n : ℕ) → rest ≡ r ∷ behind → n ≡ here behind → line ≡ take (1 + n) rest → next ≡ drop (1 + n) rest → lines rest ≡ line ∷ lines next
lines_split rest behind line next r n cut len front back =
    let one : 1 + n ≡ suc n = omega arith in
    let lined : line ≡ r ∷ take (here behind) behind = front ∙ ap (λ k. take k rest) one ∙ ap (take (suc n)) cut ∙ ap (λ k. r ∷ take k behind) len in
    let nexted : next ≡ drop (here behind) behind = back ∙ ap (λ k. drop k rest) one ∙ ap (drop (suc n)) cut ∙ ap (λ k. drop k behind) len in
    ap lines cut ∙ lines_cut r behind ∙ sym (ap (λ (z : List Raw). z ∷ lines next) lined ∙ ap (λ (z : List Raw). (r ∷ take (here behind) behind) ∷ lines z) nexted)

-- a slice by its first item
pub line_split : (rest behind line next : List Raw) (n : ℕ) → 1 ≤ length rest → behind ≡ take (length rest - 1) (drop 1 rest) → n ≡ here behind → line ≡ take (1 + n) rest → next ≡ drop (1 + n) rest → lines rest ≡ line ∷ lines next
line_split [] behind line next n h e len front back = absurd (omega (arith, h))
line_split (r ∷ rs) behind line next n h e len front back =
    let all : take (suc (length rs) - 1) rs ≡ rs = take_all (suc (length rs) - 1) rs (omega arith) in
    lines_split (r ∷ rs) behind line next r n (ap (λ (z : List Raw). r ∷ z) (sym (e ∙ all))) len front back

pub empty : (rs : List Raw) → length rs < 1 → rs ≡ []
empty [] h = refl
empty (r ∷ rs) h = absurd (omega (arith, h))

pub slice_cut : (rs : List Raw) (r : Raw) → 1 ≤ length rs → r ≡ get_or rs 0 r → rs ≡ r ∷ take (length rs - 1) (drop 1 rs)
slice_cut [] r h e = absurd (omega (arith, h))
slice_cut (s ∷ rs) r h e = let all : take (suc (length rs) - 1) rs ≡ rs = take_all (suc (length rs) - 1) rs (omega arith) in ap (λ z. z ∷ rs) (sym e) ∙ ap (λ (z : List Raw). r ∷ z) (sym all)

-- the conditional that was opened first
pub last_open : (os : List Open) (i : ℕ) (x : Open) → i + 1 ≡ length os → x ≡ get_or os i x → left_open os ≡ Some x.pos
last_open [] i x n e = absurd (omega (arith, n))
last_open (o ∷ []) zero x n e = ap (λ (y : Open). Some y.pos) (sym e)
last_open (o ∷ []) (suc i) x n e = absurd (omega (arith, n))
last_open (o ∷ p ∷ os) zero x n e = absurd (omega (arith, n))
last_open (o ∷ p ∷ os) (suc i) x n e = last_open (p ∷ os) i x (omega (arith, n)) e

and_more_none : (there : Result (List Act) PrepFault) → and_more [] there ≡ there
and_more_none (Ok acts) = refl
and_more_none (Err e) = refl

and_more_both : (a b : List Act) (there : Result (List Act) PrepFault) → and_more a (and_more b there) ≡ and_more (a ++ b) there
and_more_both a b (Ok acts) = ap (λ (z : List Act). Ok z) (sym (append_assoc a b acts))
and_more_both a b (Err e) = refl

-- how far a text is read
pub record Reading (raws : List Raw) (c : Context) (o : Output) (rest : List Raw) : Type 0 where
  pub small : size_of c.table + length rest ≤ length raws
  pub before : List Act
  pub out : Follows o before
  pub same : and_more before (acts_in (length raws) (state_of c) (lines rest)) ≡ acts_in (length raws) first_state (lines raws)

pub read_none : (raws : List Raw) (c : Context) (o : Output) → size_of c.table ≡ 0 → state_of c ≡ first_state → Follows o [] → Reading raws c o raws
read_none raws c o small state out = record {
  small = omega (arith, small);
  before = [];
  out = out;
  same = and_more_none (acts_in (length raws) (state_of c) (lines raws)) ∙ ap (λ s. acts_in (length raws) s (lines raws)) state;
}

by_line : (raws : List Raw) (c : Context) (o : Output) (rest line next : List Raw) → lines rest ≡ line ∷ lines next → (r : Reading raws c o rest)
    → and_more r.before (and_then (line_step (length raws) (state_of c) line) (λ step. and_more step.acts (acts_in (length raws) step.state (lines next)))) ≡ acts_in (length raws) first_state (lines raws)
by_line raws c o rest line next cut r = ap (λ ls. and_more r.before (acts_in (length raws) (state_of c) ls)) (sym cut) ∙ r.same

stepped : {R : Type 0} (raws next : List Raw) (c d : Context) (o p : Output) (before : List Act) (x : R) (there : Result Step PrepFault) → ReadsState (Ok x) there (state_of d) → Adds o p (acts_of there) → Follows o before
    → and_more before (and_then there (λ step. and_more step.acts (acts_in (length raws) step.state (lines next)))) ≡ acts_in (length raws) first_state (lines raws)
    → (now : List Act) × (Follows p now) × (and_more now (acts_in (length raws) (state_of d) (lines next)) ≡ acts_in (length raws) first_state (lines raws))
unfolding Adds
stepped raws next c d o p before x (Ok step) state out f same =
    (before ++ step.acts, out before f, ap (λ s. and_more (before ++ step.acts) (acts_in (length raws) s (lines next))) state ∙ sym (and_more_both before step.acts (acts_in (length raws) step.state (lines next))) ∙ same)
stepped raws next c d o p before x (Err e) state out f same = absurd state

pub read_next : {R : Type 0} (raws rest line next : List Raw) (c d : Context) (o p : Output) (x : R) → lines rest ≡ line ∷ lines next → length next + 1 ≤ length rest → size_of d.table ≤ size_of c.table + 1
    → ReadsState (Ok x) (line_step (length raws) (state_of c) line) (state_of d) → Adds o p (acts_of (line_step (length raws) (state_of c) line)) → Reading raws c o rest → Reading raws d p next
read_next raws rest line next c d o p x cut shorter small state out r =
    let s = stepped raws next c d o p r.before x (line_step (length raws) (state_of c) line) state out r.out (by_line raws c o rest line next cut r) in
    record { small = omega (arith, small, shorter, r.small); before = s.0; out = s.1; same = s.2 }

fails_through : (e : PrepFault) (there : Result Step PrepFault) (before : List Act) (f : Step → Result (List Act) PrepFault) (total : Result (List Act) PrepFault) → and_more before (and_then there f) ≡ total → Fails e there → Fails e total
fails_through fault.Memory there before f total same h = tt
fails_through (fault.BadChar p) there before f total same h = sym same ∙ ap (λ z. and_more before (and_then z f)) h
fails_through (fault.Unclosed p) there before f total same h = sym same ∙ ap (λ z. and_more before (and_then z f)) h
fails_through (fault.NumberRange p) there before f total same h = sym same ∙ ap (λ z. and_more before (and_then z f)) h
fails_through (fault.BadDirective p) there before f total same h = sym same ∙ ap (λ z. and_more before (and_then z f)) h
fails_through (fault.Unbalanced p) there before f total same h = sym same ∙ ap (λ z. and_more before (and_then z f)) h
fails_through fault.TooLarge there before f total same h = sym same ∙ ap (λ z. and_more before (and_then z f)) h

pub read_fails : (raws rest line next : List Raw) (c : Context) (o : Output) (e : PrepFault) → lines rest ≡ line ∷ lines next → Fails e (line_step (length raws) (state_of c) line) → Reading raws c o rest → Fails e (acts_in (length raws) first_state (lines raws))
read_fails raws rest line next c o e cut h r =
    fails_through e (line_step (length raws) (state_of c) line) r.before (λ step. and_more step.acts (acts_in (length raws) step.state (lines next))) _ (by_line raws c o rest line next cut r) h

at_end : (raws : List Raw) (c : Context) (o : Output) (rest : List Raw) (left : Option ℕ) → rest ≡ [] → left ≡ left_open c.opens.items → (r : Reading raws c o rest)
    → and_more r.before (option_map_or (λ p. Err (fault.Unbalanced p)) left (Ok [])) ≡ acts_in (length raws) first_state (lines raws)
at_end raws c o rest left none e r =
    ap (λ l. and_more r.before (option_map_or (λ p. Err (fault.Unbalanced p)) l (Ok []))) e
    ∙ sym (ap (λ z. and_more r.before (acts_in (length raws) (state_of c) (lines z))) none) ∙ r.same

pub read_all : (raws : List Raw) (c : Context) (o : Output) (rest : List Raw) → rest ≡ [] → None ≡ left_open c.opens.items → Reading raws c o rest → ReadsActs (Ok o) (acts_in (length raws) first_state (lines raws))
read_all raws c o rest none e r =
    let P : Result (List Act) PrepFault → Type 0 = λ there. ReadsActs (Ok o) there in
    subst P (at_end raws c o rest None none e r) (subst (Follows o) (sym (append-nil r.before)) r.out)

-- a line's tokens, one by one
pub record Partway (o p : Output) (all left : List Act) : Type 0 where
  pub done : List Act
  pub whole : done ++ left ≡ all
  pub out : Adds o p done

pub given_none : (o : Output) (all : List Act) → Partway o o all all
given_none o all = record { done = []; whole = refl; out = adds_none o }

pub given_more : (o p q : Output) (all now left acts : List Act) → now ≡ acts ++ left → Partway o p all now → Adds p q acts → Partway o q all left
given_more o p q all now left acts cut g more = record {
  done = g.done ++ acts;
  whole = append_assoc g.done acts left ∙ sym (ap (λ (z : List Act). g.done ++ z) cut) ∙ g.whole;
  out = adds_both o p q g.done acts g.out more;
}

pub given_all : (o p : Output) (all left : List Act) → left ≡ [] → Partway o p all left → Adds o p all
given_all o p all left none g = subst (Adds o p) (sym (append-nil g.done) ∙ sym (ap (λ (z : List Act). g.done ++ z) none) ∙ g.whole) g.out

-- a queue that gives nothing is empty
pub none_left : {X : Type 0} (xs ys : List X) → xs ≡ ys → ys ≡ drop 1 xs → xs ≡ []
none_left [] ys h e = refl
none_left (x ∷ xs) ys h e = absurd (omega (arith, ap length (h ∙ e)))

-- one token of a header more
pub token_none : (o : Output) (ts us : List Token) → ts ≡ us → Partway o o (given us) (given ts)
token_none o ts us e = record { done = []; whole = ap given e; out = adds_none o }

pub token_more : (o p q : Output) (all : List Act) (ts us : List Token) (t : Token) → ts ≡ t ∷ us → Partway o p all (given ts) → Adds p q (Gives (Ok t) ∷ []) → Partway o q all (given us)
token_more o p q all ts us t cut g h = given_more o p q all (given ts) (given us) (Gives (Ok t) ∷ []) (ap given cut) g h

-- one token of a line more
pub line_more : (most : ℕ) (m n : Macros) (o p q : Output) (line rest more : List Raw) (r : Raw) → n ≡ m → rest ≡ r ∷ more → Partway o p (text_acts most true m line) (text_acts most true m rest)
    → Adds p q (expansion most n r.pos r.kind) → Partway o q (text_acts most true m line) (text_acts most true m more)
line_more most m n o p q line rest more r e cut g h =
    given_more o p q (text_acts most true m line) (text_acts most true m rest) (text_acts most true m more) (expansion most n r.pos r.kind)
    (ap (text_acts most true m) cut ∙ ap (λ (z : Macros). expansion most z r.pos r.kind ++ text_acts most true m more) (sym e)) g h
