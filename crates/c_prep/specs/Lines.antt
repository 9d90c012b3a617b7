-- What the lines of a text stand for.
use Rattle.std.specs.Prelude.{ℕ, Bool, true, false, not, ◌&&◌, List, [], ◌∷◌, ◌++◌, map, Option, Some, None, Result, Ok, Err, if◌then◌else◌}
use Rattle.std.specs.List.{flat_map}
use Rattle.std.specs.Option.{option_map_or, is_some}
use Rattle.c_syntax.specs.declared.token.Kind.TheVariants as kind
use Rattle.c_syntax.specs.declared.token.Mark.TheVariants.{LParen}
use Rattle.c_syntax.specs.declared.token.RawKind.{RawKind}
use Rattle.c_syntax.specs.declared.token.RawKind.TheVariants.{Plain, Hash}
use Rattle.c_syntax.specs.declared.token.Raw.{Raw}
use Rattle.c_syntax.specs.declared.token.Token.{Token}
use Rattle.c_syntax.specs.declared.header.Header.{Header}
use Rattle.c_syntax.specs.declared.header.Included.{Included}
use Rattle.c_syntax.specs.Header.{header_tokens}
use Rattle.c_syntax.specs.Lex.{has, with_header, none_included}
use Rattle.c_prep.specs.declared.fault.PrepFault.{PrepFault}
use Rattle.c_prep.specs.declared.fault.PrepFault.TheVariants as fault
use Rattle.c_prep.specs.declared.conditional.Open.{Open}
use Rattle.c_prep.specs.Macros.{Macros, Act, Gives, kinds, no_macros, keep, without, expansion, agrees, same_kinds}
use Rattle.c_prep.specs.Directives.{Directive, Empty, Define, Undef, If, Turn, Close, Include, directive_at}

-- the tokens of each line; a line ends before the next token that is the first of its line
abbrev pub begins_line : List Raw → Bool
begins_line [] = true
begins_line (r ∷ rs) = r.first

abbrev pub lengthened : Raw → List (List Raw) → List (List Raw)
lengthened r [] = (r ∷ []) ∷ []
lengthened r (line ∷ more) = (r ∷ line) ∷ more

abbrev pub lines : List Raw → List (List Raw)
lines [] = []
lines (r ∷ rs) = if begins_line rs then (r ∷ []) ∷ lines rs else lengthened r (lines rs)

-- the macros, the headers that were included, and the open conditionals, the innermost first
pub record State : Type 0 where
  pub macros : Macros
  pub included : Included
  pub opens : List Open

abbrev pub first_state : State
first_state = record { macros = no_macros; included = none_included; opens = [] }

-- a part is taken where its condition holds and the part around it is taken
abbrev pub is_taken : List Open → Bool
is_taken [] = true
is_taken (o ∷ opens) = o.outer && o.holds

-- what a line stands for, and what it leaves
pub record Step : Type 0 where
  pub acts : List Act
  pub state : State

abbrev pub leaves : State → Result Step PrepFault
leaves s = Ok (record { acts = []; state = s })

abbrev pub is_paren : RawKind → Bool
is_paren (Plain (kind.Mark LParen)) = true
is_paren k = false

-- a `(` right behind the name of a macro
abbrev pub paren_at : List Raw → Option ℕ
paren_at [] = None
paren_at (r ∷ rs) = if is_paren r.kind && r.close then Some r.pos else None

-- a name is kept with other tokens
abbrev pub clashes : List ℕ → List RawKind → Macros → Bool
clashes name tokens macros = option_map_or (λ body. not (same_kinds body tokens)) (macros name) false

-- a name is kept with the tokens behind it
unfoldable pub defined : List ℕ → ℕ → List Raw → Macros → Result Macros PrepFault
defined name pos tokens macros =
    if clashes name (kinds tokens) macros then Err (fault.BadDirective pos)
    else option_map_or (λ p. Err (fault.BadDirective p)) (paren_at tokens) (Ok (keep name (kinds tokens) macros))

-- nothing stands behind `#else` or `#endif`
abbrev pub unless_more : Option ℕ → List Open → Result (List Open) PrepFault
unless_more (Some p) opens = Err (fault.BadDirective p)
unless_more None opens = Ok opens

unfoldable pub after_else : ℕ → Option ℕ → List Open → Result (List Open) PrepFault
after_else at more [] = Err (fault.Unbalanced at)
after_else at more (o ∷ opens) =
    if o.turned then Err (fault.Unbalanced at)
    else unless_more more (record { pos = o.pos; outer = o.outer; holds = not o.holds; turned = true } ∷ opens)

unfoldable pub after_endif : ℕ → Option ℕ → List Open → Result (List Open) PrepFault
after_endif at more [] = Err (fault.Unbalanced at)
after_endif at more (o ∷ opens) = unless_more more opens

-- a conditional, by whether its name is kept, as it is to be
abbrev pub after_if : ℕ → Bool → Option (List RawKind) → List Open → List Open
after_if at wanted body opens = record { pos = at; outer = is_taken opens; holds = agrees wanted (is_some body); turned = false } ∷ opens

abbrev pub with_macros : State → Result Macros PrepFault → Result Step PrepFault
with_macros s (Ok macros) = leaves (record s { macros = macros })
with_macros s (Err e) = Err e

abbrev pub with_opens : State → Result (List Open) PrepFault → Result Step PrepFault
with_opens s (Ok opens) = leaves (record s { opens = opens })
with_opens s (Err e) = Err e

-- only the first line that includes a header stands for its tokens
abbrev pub included_tokens : Included → Header → ℕ → List Token
included_tokens included header at = if has included header then [] else header_tokens header at

abbrev pub given : List Token → List Act
given ts = map (λ t. Gives (Ok t)) ts

abbrev pub header_acts : Included → Header → ℕ → List Act
header_acts included header at = given (included_tokens included header at)

-- what a directive stands for, by the place of its `#`
abbrev pub obeyed : State → ℕ → Directive → Result Step PrepFault
obeyed s at Empty = leaves s
obeyed s at (Define name pos tokens) = with_macros s (defined name pos tokens s.macros)
obeyed s at (Undef name) = leaves (record s { macros = without name s.macros })
obeyed s at (If name wanted) = leaves (record s { opens = after_if at wanted (s.macros name) s.opens })
obeyed s at (Turn more) = with_opens s (after_else at more s.opens)
obeyed s at (Close more) = with_opens s (after_endif at more s.opens)
obeyed s at (Include header) = Ok (record { acts = header_acts s.included header at; state = record s { included = with_header s.included header } })

abbrev pub directed : State → ℕ → Result Directive ℕ → Result Step PrepFault
directed s at (Ok d) = obeyed s at d
directed s at (Err p) = Err (fault.BadDirective p)

-- what the tokens of a line of text stand for
abbrev pub text_acts : ℕ → Bool → Macros → List Raw → List Act
text_acts most true macros line = flat_map (λ r. expansion most macros r.pos r.kind) line
text_acts most false macros line = []

abbrev pub is_hash : RawKind → Bool
is_hash Hash = true
is_hash k = false

-- a line whose first token is `#` is a directive; each other line is text
unfoldable pub line_step : ℕ → State → List Raw → Result Step PrepFault
line_step most s [] = leaves s
line_step most s (r ∷ rs) =
    if is_hash r.kind then directed s r.pos (directive_at (is_taken s.opens) r.pos rs)
    else Ok (record { acts = text_acts most (is_taken s.opens) s.macros (r ∷ rs); state = s })

-- the place of the first conditional that is left open
abbrev pub left_open : List Open → Option ℕ
left_open [] = None
left_open (o ∷ []) = Some o.pos
left_open (o ∷ p ∷ opens) = left_open (p ∷ opens)

abbrev pub and_more : List Act → Result (List Act) PrepFault → Result (List Act) PrepFault
and_more acts (Ok more) = Ok (acts ++ more)
and_more acts (Err e) = Err e

abbrev pub and_then : Result Step PrepFault → (Step → Result (List Act) PrepFault) → Result (List Act) PrepFault
and_then (Ok s) f = f s
and_then (Err e) f = Err e

-- what lines stand for, or the refusal of the first line that has one, or else of the first conditional that is left open
abbrev pub acts_in : ℕ → State → List (List Raw) → Result (List Act) PrepFault
acts_in most s [] = option_map_or (λ p. Err (fault.Unbalanced p)) (left_open s.opens) (Ok [])
acts_in most s (line ∷ more) = and_then (line_step most s line) (λ step. and_more step.acts (acts_in most step.state more))
