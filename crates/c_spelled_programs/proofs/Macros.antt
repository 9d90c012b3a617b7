-- Tokens of a text when its directives are obeyed and its macros expanded.
use Rattle.std.proofs.Common.{ℕ, zero, suc, ◌+◌, List, [], ◌∷◌, ◌++◌, Some, None, Bool, true, false}
use Rattle.std.specs.Prelude.{◌&&◌, Result, Ok, Err, if◌then◌else◌}
use Rattle.std.specs.List.{flat_map}
use Rattle.std.specs.Str.{bytes_eq}
use Rattle.std.specs.Option.{option_map_or}
use Rattle.std.specs.declared.option.Option.{Option}
use Rattle.c_syntax.specs.declared.token.Kind.TheVariants as kind
use Rattle.c_syntax.specs.declared.token.RawKind.{RawKind}
use Rattle.c_syntax.specs.declared.token.RawKind.TheVariants.{Plain, Hash, Wide}
use Rattle.c_syntax.specs.declared.token.Raw.{Raw}
use Rattle.c_syntax.specs.declared.token.Token.{Token}
use Rattle.c_syntax.specs.declared.header.Header.{Header}
use Rattle.c_syntax.specs.Lex.{has}
use Rattle.c_syntax.specs.Header.{header_tokens}
use Rattle.c_prep.specs.declared.fault.PrepFault.{PrepFault}
use Rattle.c_prep.specs.declared.fault.PrepFault.TheVariants as fault
use Rattle.c_prep.specs.declared.conditional.Open.{Open}
use Rattle.c_prep.specs.declared.word.Word.{Word}
use Rattle.c_prep.specs.declared.word.Word.TheVariants as word
use Rattle.c_prep.specs.Macros.{Macros, kinds, keep, without, kept_at, Item, item_of, Act, Replaces, Gives, expansion}
use Rattle.c_prep.specs.Directives.{Directive, Empty, Define, Undef, If, Turn, Close, Include, name_at, with_name, define_at, lone_name, header_of, header_before, include_at, ends_header, is_less, passed_over, taken_up, word_of, directive_at}
use Rattle.c_prep.specs.Lines.{State, Step, lines, lengthened, begins_line, is_taken, defined, clashes, paren_at, with_macros, with_opens, after_else, after_endif, included_tokens, given, obeyed, directed, text_acts, is_hash, line_step, left_open, and_more, and_then, acts_in}
use Rattle.c_spelled_programs.specs.Tokens.{KindIsOfText, AreOfText}
use Rattle.c_spelled_programs.proofs.Fronts.{RawIsOfText, RawsAreOfText}
use Rattle.c_spelled_programs.proofs.Headers.{headers_fit}

-- ---- acts

abbrev pub ItemFits : Item → Type 0
ItemFits (Ok t) = KindIsOfText t.kind
ItemFits (Err e) = Unit {0}

abbrev ActFits : Act → Type 0
ActFits Replaces = Unit {0}
ActFits (Gives i) = ItemFits i

abbrev pub ActsFit : List Act → Type 0
ActsFit [] = Unit {0}
ActsFit (a ∷ acts) = ActFits a × ActsFit acts

both_acts : (xs ys : List Act) → ActsFit xs → ActsFit ys → ActsFit (xs ++ ys)
both_acts [] ys g h = h
both_acts (x ∷ xs) ys g h = (g.0, both_acts xs ys g.1 h)

item_fits : (k : RawKind) (pos : ℕ) → RawIsOfText k → ItemFits (item_of k pos)
item_fits (Plain k) pos h = h
item_fits Hash pos h = tt
item_fits Wide pos h = tt

-- ---- macros

abbrev KindsFit : List RawKind → Type 0
KindsFit [] = Unit {0}
KindsFit (k ∷ ks) = RawIsOfText k × KindsFit ks

kinds_fit : (rs : List Raw) → RawsAreOfText rs → KindsFit (kinds rs)
kinds_fit [] h = tt
kinds_fit (r ∷ rs) h = (h.0, kinds_fit rs h.1)

abbrev MaybeKindsFit : Option (List RawKind) → Type 0
MaybeKindsFit None = Unit {0}
MaybeKindsFit (Some ks) = KindsFit ks

abbrev pub MacrosFit : Macros → Type 0
MacrosFit macros = (name : List ℕ) → MaybeKindsFit (macros name)

keep_fits : (name : List ℕ) (ks : List RawKind) (macros : Macros) → KindsFit ks → MacrosFit macros → MacrosFit (keep name ks macros)
keep_fits name ks macros k h other = go (bytes_eq name other)
  where
    go : (b : Bool) → MaybeKindsFit (if b then Some ks else macros other)
    go true = k
    go false = h other

without_fits : (name : List ℕ) (macros : Macros) → MacrosFit macros → MacrosFit (without name macros)
without_fits name macros h other = go (bytes_eq name other)
  where
    go : (b : Bool) → MaybeKindsFit (if b then None else macros other)
    go true = tt
    go false = h other

abbrev KeptFits : Option (List ℕ × List RawKind) → Type 0
KeptFits None = Unit {0}
KeptFits (Some m) = KindsFit m.1

kept_fits : (k : RawKind) (macros : Macros) → MacrosFit macros → KeptFits (kept_at k macros)
kept_fits (Plain (kind.Name name)) macros h = go (macros name) (h name)
  where
    go : (o : Option (List RawKind)) → MaybeKindsFit o → KeptFits (option_map_or (λ body. Some (name, body)) o None)
    go None f = tt
    go (Some ks) f = f
kept_fits k macros h = tt

-- what each of these tokens stands for
each_fits : (f : RawKind → List Act) → ((k : RawKind) → RawIsOfText k → ActsFit (f k)) → (ks : List RawKind) → KindsFit ks → ActsFit (flat_map f ks)
each_fits f h [] g = tt
each_fits f h (k ∷ ks) g = both_acts (f k) (flat_map f ks) (h k g.0) (each_fits f h ks g.1)

expansion_fits : (most : ℕ) (macros : Macros) (pos : ℕ) (k : RawKind) → MacrosFit macros → RawIsOfText k → ActsFit (expansion most macros pos k)
unfolding expansion
expansion_fits zero macros pos k h f = (item_fits k pos f, tt)
expansion_fits (suc most) macros pos k h f = go (kept_at k macros) (kept_fits k macros h) (λ name other g. expansion_fits most (without name macros) pos other (without_fits name macros h) g)
  where
    go : (o : Option (List ℕ × List RawKind)) → KeptFits o → ((name : List ℕ) (other : RawKind) → RawIsOfText other → ActsFit (expansion most (without name macros) pos other))
        → ActsFit (option_map_or (λ m. Replaces ∷ flat_map (expansion most (without m.0 macros) pos) m.1) o (Gives (item_of k pos) ∷ []))
    go None g more = (item_fits k pos f, tt)
    go (Some m) g more = (tt, each_fits (expansion most (without m.0 macros) pos) (more m.0) m.1 g)

-- ---- directives

abbrev DirectiveFits : Result Directive ℕ → Type 0
DirectiveFits (Ok (Define name pos tokens)) = RawsAreOfText tokens
DirectiveFits r = Unit {0}

define_fits : (at : ℕ) (rs : List Raw) → RawsAreOfText rs → DirectiveFits (define_at at rs)
define_fits at [] h = tt
define_fits at (r ∷ rs) h = go (name_at at r)
  where
    go : (n : Result (List ℕ) ℕ) → DirectiveFits (with_name n (λ name. Ok (Define name r.pos rs)))
    go (Ok name) = h.1
    go (Err e) = tt

-- a directive with one name alone
lone_fits : (n : Result (List ℕ) ℕ) (f : List ℕ → Directive) → ((name : List ℕ) → DirectiveFits (Ok (f name))) → DirectiveFits (with_name n (λ name. Ok (f name)))
lone_fits (Ok name) f h = h name
lone_fits (Err e) f h = tt

include_fits : (at : ℕ) (rs : List Raw) → DirectiveFits (include_at at rs)
include_fits at (less ∷ name ∷ dot ∷ h ∷ greater ∷ rs) = go (is_less less.kind && name.close && ends_header dot h greater) (header_of name.kind) rs
  where
    before : (rs : List Raw) (header : Header) → DirectiveFits (header_before rs header)
    before [] header = tt
    before (r ∷ rs) header = tt

    go : (b : Bool) (o : Option Header) (rs : List Raw) → DirectiveFits (if b then option_map_or (header_before rs) o (Err at) else Err at)
    go true None rs = tt
    go true (Some header) rs = before rs header
    go false o rs = tt
include_fits at rs = tt

passed_fits : (w : Word) (at : ℕ) (rs : List Raw) → DirectiveFits (passed_over w at rs)
unfolding passed_over
passed_fits word.Ifdef at rs = lone_fits (lone_name at rs) (λ name. If name true) (λ name. tt)
passed_fits word.Ifndef at rs = lone_fits (lone_name at rs) (λ name. If name false) (λ name. tt)
passed_fits word.Else at rs = tt
passed_fits word.Endif at rs = tt
passed_fits word.Define at rs = tt
passed_fits word.Undef at rs = tt
passed_fits word.Include at rs = tt
passed_fits word.Other at rs = tt

taken_fits : (w : Word) (at : ℕ) (rs : List Raw) → RawsAreOfText rs → DirectiveFits (taken_up w at rs)
unfolding taken_up
taken_fits word.Define at rs h = define_fits at rs h
taken_fits word.Undef at rs h = lone_fits (lone_name at rs) (λ name. Undef name) (λ name. tt)
taken_fits word.Include at rs h = include_fits at rs
taken_fits word.Other at rs h = tt
taken_fits word.Ifdef at rs h = passed_fits word.Ifdef at rs
taken_fits word.Ifndef at rs h = passed_fits word.Ifndef at rs
taken_fits word.Else at rs h = passed_fits word.Else at rs
taken_fits word.Endif at rs h = passed_fits word.Endif at rs

directive_fits : (taken : Bool) (at : ℕ) (rs : List Raw) → RawsAreOfText rs → DirectiveFits (directive_at taken at rs)
unfolding directive_at
directive_fits taken at [] h = tt
directive_fits true at (r ∷ rs) h = taken_fits (word_of r.kind) at rs h.1
directive_fits false at (r ∷ rs) h = passed_fits (word_of r.kind) at rs

-- ---- lines

record StepFits' (s : Step) : Type 0 where
  acts : ActsFit s.acts
  macros : MacrosFit s.state.macros

abbrev StepFits : Result Step PrepFault → Type 0
StepFits (Ok s) = StepFits' s
StepFits (Err e) = Unit {0}

given_fit : (ts : List Token) → AreOfText ts → ActsFit (given ts)
given_fit [] h = tt
given_fit (t ∷ ts) h = (h.0, given_fit ts h.1)

defined_fits : (s : State) (name : List ℕ) (pos : ℕ) (tokens : List Raw) → MacrosFit s.macros → RawsAreOfText tokens → StepFits (with_macros s (defined name pos tokens s.macros))
unfolding defined
defined_fits s name pos tokens h f = go (clashes name (kinds tokens) s.macros) (paren_at tokens)
  where
    told : (r : Result Macros PrepFault) → Type 0
    told r = StepFits (with_macros s r)

    go : (b : Bool) (o : Option ℕ) → StepFits (with_macros s (if b then Err (fault.BadDirective pos) else option_map_or (λ p. Err (fault.BadDirective p)) o (Ok (keep name (kinds tokens) s.macros))))
    go true o = tt
    go false (Some p) = tt
    go false None = record { acts = tt; macros = keep_fits name (kinds tokens) s.macros (kinds_fit tokens f) h }

opens_fit : (s : State) (r : Result (List Open) PrepFault) → MacrosFit s.macros → StepFits (with_opens s r)
opens_fit s (Ok opens) h = record { acts = tt; macros = h }
opens_fit s (Err e) h = tt

obeyed_fits : (s : State) (at : ℕ) (d : Directive) → MacrosFit s.macros → DirectiveFits (Ok d) → StepFits (obeyed s at d)
obeyed_fits s at Empty h f = record { acts = tt; macros = h }
obeyed_fits s at (Define name pos tokens) h f = defined_fits s name pos tokens h f
obeyed_fits s at (Undef name) h f = record { acts = tt; macros = without_fits name s.macros h }
obeyed_fits s at (If name wanted) h f = record { acts = tt; macros = h }
obeyed_fits s at (Turn more) h f = opens_fit s (after_else at more s.opens) h
obeyed_fits s at (Close more) h f = opens_fit s (after_endif at more s.opens) h
obeyed_fits s at (Include header) h f = record { acts = given_fit (included_tokens s.included header at) (included_fit (has s.included header)); macros = h }
  where
    included_fit : (b : Bool) → AreOfText (if b then [] else header_tokens header at)
    included_fit true = tt
    included_fit false = headers_fit header at

directed_fits : (s : State) (at : ℕ) (r : Result Directive ℕ) → MacrosFit s.macros → DirectiveFits r → StepFits (directed s at r)
directed_fits s at (Ok d) h f = obeyed_fits s at d h f
directed_fits s at (Err p) h f = tt

text_fits : (most : ℕ) (b : Bool) (macros : Macros) (line : List Raw) → MacrosFit macros → RawsAreOfText line → ActsFit (text_acts most b macros line)
text_fits most true macros [] h f = tt
text_fits most true macros (r ∷ rs) h f = both_acts (expansion most macros r.pos r.kind) (flat_map (λ r. expansion most macros r.pos r.kind) rs) (expansion_fits most macros r.pos r.kind h f.0) (text_fits most true macros rs h f.1)
text_fits most false macros line h f = tt

line_fits : (most : ℕ) (s : State) (line : List Raw) → MacrosFit s.macros → RawsAreOfText line → StepFits (line_step most s line)
unfolding line_step
line_fits most s [] h f = record { acts = tt; macros = h }
line_fits most s (r ∷ rs) h f = go (is_hash r.kind)
  where
    go : (b : Bool) → StepFits (if b then directed s r.pos (directive_at (is_taken s.opens) r.pos rs) else Ok (record { acts = text_acts most (is_taken s.opens) s.macros (r ∷ rs); state = s }))
    go true = directed_fits s r.pos (directive_at (is_taken s.opens) r.pos rs) h (directive_fits (is_taken s.opens) r.pos rs f.1)
    go false = record { acts = text_fits most (is_taken s.opens) s.macros (r ∷ rs) h f; macros = h }

abbrev LinesFit : List (List Raw) → Type 0
LinesFit [] = Unit {0}
LinesFit (line ∷ more) = RawsAreOfText line × LinesFit more

pub lines_fit : (rs : List Raw) → RawsAreOfText rs → LinesFit (lines rs)
lines_fit [] h = tt
lines_fit (r ∷ rs) h = go (begins_line rs) (lines_fit rs h.1)
  where
    longer : (ls : List (List Raw)) → LinesFit ls → LinesFit (lengthened r ls)
    longer [] f = ((h.0, tt), tt)
    longer (line ∷ more) f = ((h.0, f.0), f.1)

    go : (b : Bool) → LinesFit (lines rs) → LinesFit (if b then (r ∷ []) ∷ lines rs else lengthened r (lines rs))
    go true f = ((h.0, tt), f)
    go false f = longer (lines rs) f

abbrev pub AllActsFit : Result (List Act) PrepFault → Type 0
AllActsFit (Ok acts) = ActsFit acts
AllActsFit (Err e) = Unit {0}

pub acts_fit : (most : ℕ) (s : State) (ls : List (List Raw)) → MacrosFit s.macros → LinesFit ls → AllActsFit (acts_in most s ls)
acts_fit most s [] h f = go (left_open s.opens)
  where
    go : (o : Option ℕ) → AllActsFit (option_map_or (λ p. Err (fault.Unbalanced p)) o (Ok []))
    go None = tt
    go (Some p) = tt
acts_fit most s (line ∷ more) h f = go (line_step most s line) (line_fits most s line h f.0) (λ t m. acts_fit most t more m f.1)
  where
    joined : (acts : List Act) (r : Result (List Act) PrepFault) → ActsFit acts → AllActsFit r → AllActsFit (and_more acts r)
    joined acts (Ok others) g k = both_acts acts others g k
    joined acts (Err e) g k = tt

    go : (r : Result Step PrepFault) → StepFits r → ((t : State) → MacrosFit t.macros → AllActsFit (acts_in most t more)) → AllActsFit (and_then r (λ step. and_more step.acts (acts_in most step.state more)))
    go (Ok step) g rest = joined step.acts (acts_in most step.state more) g.acts (rest step.state g.macros)
    go (Err e) g rest = tt
