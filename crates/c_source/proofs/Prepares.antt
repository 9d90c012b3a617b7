-- A text isn't refused for want of memory when it is prepared.
use Rattle.std.proofs.Common.{◌≡◌, ◌≢◌, ℕ, zero, suc, Bool, true, false, List, [], ◌∷◌, ◌++◌, map, fold, Option, Some, None, Ok, Err, if◌then◌else◌, refl, subst}
use Rattle.std.specs.Prelude.{Result}
use Rattle.std.specs.List.{flat_map}
use Rattle.std.specs.Option.{option_map_or}
use Rattle.c_syntax.specs.declared.token.Raw.{Raw}
use Rattle.c_syntax.specs.declared.token.Token.{Token}
use Rattle.c_syntax.specs.declared.token.RawKind.{RawKind}
use Rattle.c_syntax.specs.declared.token.RawKind.TheVariants.{Plain, Hash, Wide}
use Rattle.c_syntax.specs.declared.token.LexFault.{LexFault}
use Rattle.c_syntax.specs.declared.token.LexFault.TheVariants as lex
use Rattle.c_syntax.specs.declared.scan.Found.{Found}
use Rattle.c_syntax.specs.declared.scan.Found.TheVariants as found
use Rattle.c_syntax.specs.declared.scan.Gap.{Gap}
use Rattle.c_syntax.specs.declared.scan.Piece.{Piece}
use Rattle.c_syntax.specs.Scan.{raw_of, put_raw, raws_in, raw_tokens, pieces}
use Rattle.c_syntax.specs.Lex.{joined}
use Rattle.c_prep.specs.declared.fault.PrepFault.{PrepFault}
use Rattle.c_prep.specs.declared.fault.PrepFault.TheVariants as fault
use Rattle.c_prep.specs.declared.conditional.Open.{Open}
use Rattle.c_prep.specs.Macros.{Macros, Item, Act, Replaces, Gives, kinds, keep, without, item_of, kept_at, expansion}
use Rattle.c_prep.specs.Directives.{Directive, Empty, Define, Undef, If, Turn, Close, Include, directive_at}
use Rattle.c_prep.specs.Lines.{State, Step, first_state, lines, is_hash, is_taken, clashes, paren_at, defined, unless_more, after_else, after_endif, with_macros, with_opens, given, included_tokens, obeyed, directed, text_acts, line_step, left_open, and_more, and_then, acts_in}
use Rattle.c_prep.specs.Prepared.{items_in, ok_item, joined_items, added_item, constant_item, put_item, result_of, put_token, collected, outcome, is_over, refusal_of, all_acts, of_acts, of_raws, prepared}

-- ---- what isn't want of memory

abbrev Lies : PrepFault → Type 0
Lies e = e ≢ fault.Memory

bad_char : (at : ℕ) → Lies (fault.BadChar at)
bad_char at e = cc

unclosed : (at : ℕ) → Lies (fault.Unclosed at)
unclosed at e = cc

range : (at : ℕ) → Lies (fault.NumberRange at)
range at e = cc

directive : (at : ℕ) → Lies (fault.BadDirective at)
directive at e = cc

unbalanced : (at : ℕ) → Lies (fault.Unbalanced at)
unbalanced at e = cc

large : Lies fault.TooLarge
large e = cc

abbrev MayFail : {A : Type 0} → Result A PrepFault → Type 0
MayFail (Ok a) = Unit {0}
MayFail (Err e) = Lies e

-- ---- tokens

abbrev LexMayFail : {A : Type 0} → Result A LexFault → Type 0
LexMayFail (Ok a) = Unit {0}
LexMayFail (Err e) = e ≢ lex.Memory

raw_may : (f : Found) (at : ℕ) (gap : Gap) → LexMayFail (raw_of f at gap)
raw_may (found.Token k) at gap = tt
raw_may found.BadChar at gap = λ e. cc
raw_may found.Unclosed at gap = λ e. cc

put_may : (r : Result Raw LexFault) (more : Result (List Raw) LexFault) → LexMayFail r → LexMayFail more → LexMayFail (put_raw r more)
put_may (Err e) more h k = h
put_may (Ok raw) (Err e) h k = k
put_may (Ok raw) (Ok raws) h k = tt

raws_may : (ps : List Piece) → LexMayFail (raws_in ps)
raws_may [] = tt
raws_may (p ∷ ps) = put_may (raw_of p.found p.pos p.gap) (raws_in ps) (raw_may p.found p.pos p.gap) (raws_may ps)

refusal_lies : (e : LexFault) → e ≢ lex.Memory → Lies (refusal_of e)
refusal_lies (lex.BadChar p) h = bad_char p
refusal_lies (lex.Unclosed p) h = unclosed p
refusal_lies (lex.NumberRange p) h = range p
refusal_lies lex.Memory h = absurd (h refl)

-- ---- acts

abbrev ItemLies : Item → Type 0
ItemLies (Ok t) = Unit {0}
ItemLies (Err e) = Lies e

abbrev ActsLie : List Act → Type 0
ActsLie [] = Unit {0}
ActsLie (Replaces ∷ acts) = ActsLie acts
ActsLie (Gives i ∷ acts) = ItemLies i × ActsLie acts

join_acts : (xs ys : List Act) → ActsLie xs → ActsLie ys → ActsLie (xs ++ ys)
join_acts [] ys h k = k
join_acts (Replaces ∷ xs) ys h k = join_acts xs ys h k
join_acts (Gives i ∷ xs) ys h k = (h.0, join_acts xs ys h.1 k)

item_lies : (k : RawKind) (pos : ℕ) → ItemLies (item_of k pos)
item_lies (Plain k) pos = tt
item_lies Hash pos = bad_char pos
item_lies Wide pos = range pos

all_acts_lie : {A : Type 0} (f : A → List Act) (xs : List A) → ((x : A) → ActsLie (f x)) → ActsLie (flat_map f xs)
all_acts_lie f [] h = tt
all_acts_lie f (x ∷ xs) h = join_acts (f x) (flat_map f xs) (h x) (all_acts_lie f xs h)

kept_lies : (most : ℕ) (macros : Macros) (pos : ℕ) (k : RawKind) (o : Option (List ℕ × List RawKind)) → ((m : Macros) (x : RawKind) → ActsLie (expansion most m pos x))
    → ActsLie (option_map_or (λ m. Replaces ∷ flat_map (expansion most (without m.0 macros) pos) m.1) o (Gives (item_of k pos) ∷ []))
kept_lies most macros pos k None each = (item_lies k pos, tt)
kept_lies most macros pos k (Some m) each = all_acts_lie (expansion most (without m.0 macros) pos) m.1 (λ x. each (without m.0 macros) x)

expansion_lies : (most : ℕ) (macros : Macros) (pos : ℕ) (k : RawKind) → ActsLie (expansion most macros pos k)
unfolding expansion
expansion_lies zero macros pos k = (item_lies k pos, tt)
expansion_lies (suc most) macros pos k = kept_lies most macros pos k (kept_at k macros) (λ m x. expansion_lies most m pos x)

given_lie : (ts : List Token) → ActsLie (given ts)
given_lie [] = tt
given_lie (t ∷ ts) = (tt, given_lie ts)

text_lies : (most : ℕ) (taken : Bool) (macros : Macros) (line : List Raw) → ActsLie (text_acts most taken macros line)
text_lies most true macros line = all_acts_lie (λ r. expansion most macros r.pos r.kind) line (λ r. expansion_lies most macros r.pos r.kind)
text_lies most false macros line = tt

-- ---- lines

abbrev StepLies : Result Step PrepFault → Type 0
StepLies (Ok s) = ActsLie s.acts
StepLies (Err e) = Lies e

macros_lie : (s : State) (r : Result Macros PrepFault) → MayFail r → StepLies (with_macros s r)
macros_lie s (Ok m) h = tt
macros_lie s (Err e) h = h

opens_lie : (s : State) (r : Result (List Open) PrepFault) → MayFail r → StepLies (with_opens s r)
opens_lie s (Ok o) h = tt
opens_lie s (Err e) h = h

abbrev paren_or : Option ℕ → Macros → Result Macros PrepFault
paren_or o m = option_map_or (λ p. Err (fault.BadDirective p)) o (Ok m)

paren_by : (o : Option ℕ) (m : Macros) → MayFail (paren_or o m)
paren_by None m = tt
paren_by (Some p) m = directive p

more_lies : (more : Option ℕ) (opens : List Open) → MayFail (unless_more more opens)
more_lies (Some p) opens = directive p
more_lies None opens = tt

if_lies : {A : Type 0} (b : Bool) (p q : Result A PrepFault) → MayFail p → MayFail q → MayFail (if b then p else q)
if_lies true p q h k = h
if_lies false p q h k = k

defined_lies : (name : List ℕ) (pos : ℕ) (tokens : List Raw) (macros : Macros) → MayFail (defined name pos tokens macros)
unfolding defined
defined_lies name pos tokens macros = if_lies (clashes name (kinds tokens) macros) _ _ (directive pos) (paren_by (paren_at tokens) (keep name (kinds tokens) macros))

else_lies : (at : ℕ) (more : Option ℕ) (opens : List Open) → MayFail (after_else at more opens)
unfolding after_else
else_lies at more [] = unbalanced at
else_lies at more (o ∷ opens) = if_lies o.turned _ _ (unbalanced at) (more_lies more _)

endif_lies : (at : ℕ) (more : Option ℕ) (opens : List Open) → MayFail (after_endif at more opens)
unfolding after_endif
endif_lies at more [] = unbalanced at
endif_lies at more (o ∷ opens) = more_lies more opens

obeyed_lies : (s : State) (at : ℕ) (d : Directive) → StepLies (obeyed s at d)
obeyed_lies s at Empty = tt
obeyed_lies s at (Define name pos tokens) = macros_lie s (defined name pos tokens s.macros) (defined_lies name pos tokens s.macros)
obeyed_lies s at (Undef name) = tt
obeyed_lies s at (If name wanted) = tt
obeyed_lies s at (Turn more) = opens_lie s (after_else at more s.opens) (else_lies at more s.opens)
obeyed_lies s at (Close more) = opens_lie s (after_endif at more s.opens) (endif_lies at more s.opens)
obeyed_lies s at (Include header) = given_lie (included_tokens s.included header at)

directed_lies : (s : State) (at : ℕ) (d : Result Directive ℕ) → StepLies (directed s at d)
directed_lies s at (Ok d) = obeyed_lies s at d
directed_lies s at (Err p) = directive p

line_by : (b : Bool) (p q : Result Step PrepFault) → StepLies p → StepLies q → StepLies (if b then p else q)
line_by true p q h k = h
line_by false p q h k = k

line_lies : (most : ℕ) (s : State) (line : List Raw) → StepLies (line_step most s line)
unfolding line_step
line_lies most s [] = tt
line_lies most s (r ∷ rs) = line_by (is_hash r.kind) _ _ (directed_lies s r.pos (directive_at (is_taken s.opens) r.pos rs)) (text_lies most (is_taken s.opens) s.macros (r ∷ rs))

abbrev AllLie : Result (List Act) PrepFault → Type 0
AllLie (Ok acts) = ActsLie acts
AllLie (Err e) = Lies e

more_acts_lie : (acts : List Act) (r : Result (List Act) PrepFault) → ActsLie acts → AllLie r → AllLie (and_more acts r)
more_acts_lie acts (Ok more) h k = join_acts acts more h k
more_acts_lie acts (Err e) h k = k

then_lies : (r : Result Step PrepFault) (f : Step → Result (List Act) PrepFault) → StepLies r → ((s : Step) → ActsLie s.acts → AllLie (f s)) → AllLie (and_then r f)
then_lies (Ok s) f h k = k s h
then_lies (Err e) f h k = h

left_by : (o : Option ℕ) → AllLie (option_map_or (λ p. Err (fault.Unbalanced p)) o (Ok []))
left_by None = tt
left_by (Some p) = unbalanced p

acts_lie : (most : ℕ) (s : State) (ls : List (List Raw)) → AllLie (acts_in most s ls)
acts_lie most s [] = left_by (left_open s.opens)
acts_lie most s (line ∷ more) =
    then_lies (line_step most s line) (λ step. and_more step.acts (acts_in most step.state more)) (line_lies most s line) (λ step h. more_acts_lie step.acts (acts_in most step.state more) h (acts_lie most step.state more))

-- ---- the result

abbrev ItemsLie : List Item → Type 0
ItemsLie [] = Unit {0}
ItemsLie (i ∷ items) = ItemLies i × ItemsLie items

items_lie : (acts : List Act) → ActsLie acts → ItemsLie (items_in acts)
items_lie [] h = tt
items_lie (Replaces ∷ acts) h = items_lie acts h
items_lie (Gives i ∷ acts) h = (h.0, items_lie acts h.1)

ok_items_lie : (ts : List Token) → ItemsLie (map ok_item ts)
ok_items_lie [] = tt
ok_items_lie (t ∷ ts) = (tt, ok_items_lie ts)

joined_lie : (x i : Item) → ItemLies x → ItemLies i → ItemsLie (joined_items x i)
joined_lie (Ok x) (Ok t) h k = ok_items_lie (joined x t)
joined_lie (Ok x) (Err e) h k = (h, (k, tt))
joined_lie (Err d) i h k = (h, (k, tt))

added_lie : (items : List Item) (i : Item) → ItemsLie items → ItemLies i → ItemsLie (added_item items i)
added_lie [] i h k = (k, tt)
added_lie (x ∷ []) i h k = joined_lie x i h.0 k
added_lie (x ∷ y ∷ items) i h k = (h.0, added_lie (y ∷ items) i h.1 k)

constant_lies : (i : Item) → ItemLies i → ItemLies (constant_item i)
constant_lies (Ok t) h = tt
constant_lies (Err e) h = h

folded_lie : (before items : List Item) → ItemsLie before → ItemsLie items → ItemsLie (fold put_item before items)
folded_lie before [] h k = h
folded_lie before (i ∷ items) h k = folded_lie (put_item before i) items (added_lie before (constant_item i) h (constant_lies i k.0)) k.1

token_may : (t : Token) (r : Result (List Token) PrepFault) → MayFail r → MayFail (put_token t r)
token_may t (Ok ts) h = tt
token_may t (Err e) h = h

collected_may : (items : List Item) → ItemsLie items → MayFail (collected items)
collected_may [] h = tt
collected_may (Ok t ∷ items) h = token_may t (collected items) (collected_may items h.1)
collected_may (Err e ∷ items) h = h.0

outcome_may : (acts : List Act) → ActsLie acts → MayFail (outcome acts)
outcome_may acts h = if_lies (is_over acts) _ _ large (collected_may (result_of acts) (folded_lie [] (items_in acts) tt (items_lie acts h)))

of_acts_may : (r : Result (List Act) PrepFault) → AllLie r → MayFail (of_acts r)
of_acts_may (Ok acts) h = outcome_may acts h
of_acts_may (Err e) h = h

of_raws_may : (r : Result (List Raw) LexFault) → LexMayFail r → MayFail (of_raws r)
of_raws_may (Ok raws) h = of_acts_may (all_acts raws) (acts_lie _ first_state (lines raws))
of_raws_may (Err e) h = refusal_lies e h

prepared_may : (text : List ℕ) → MayFail (prepared text)
unfolding prepared raw_tokens
prepared_may text = of_raws_may (raw_tokens text) (raws_may (pieces text))

abbrev refused : PrepFault → Result (List Token) PrepFault
refused e = Err e

one_fault : (d e : PrepFault) → refused d ≡ refused e → d ≡ e
one_fault d e h = cc

pub prepared_has_reason : (text : List ℕ) (e : PrepFault) → prepared text ≡ Err e → Lies e
prepared_has_reason text e h = told (prepared text) (prepared_may text) h
  where
    told : (r : Result (List Token) PrepFault) → MayFail r → r ≡ Err e → Lies e
    told (Ok ts) k is = absurd (cc is)
    told (Err d) k is = subst Lies (one_fault d e is) k
