-- Macros, and what tokens stand for by them.
use Rattle.std.specs.Prelude.{ℕ, zero, suc, Bool, true, false, not, ◌&&◌, nat_eq, List, [], ◌∷◌, map, Option, Some, None, Result, Ok, Err, if◌then◌else◌}
use Rattle.std.specs.List.{flat_map}
use Rattle.std.specs.Str.{bytes_eq}
use Rattle.std.specs.Option.{option_map_or}
use Rattle.std.specs.Cmp.Lexicographic.{pointwise}
use denote.Enum.Bare.{sameb}
use Rattle.c_syntax.specs.contracts.token.Key as the_key
use Rattle.c_syntax.specs.contracts.token.Mark as the_mark
use Rattle.c_syntax.specs.declared.token.Kind.{Kind}
use Rattle.c_syntax.specs.declared.token.Kind.TheVariants as kind
use Rattle.c_syntax.specs.declared.token.RawKind.{RawKind}
use Rattle.c_syntax.specs.declared.token.RawKind.TheVariants.{Plain, Hash, Wide}
use Rattle.c_syntax.specs.declared.token.Raw.{Raw}
use Rattle.c_syntax.specs.declared.token.Token.{Token}
use Rattle.c_prep.specs.declared.fault.PrepFault.{PrepFault}
use Rattle.c_prep.specs.declared.fault.PrepFault.TheVariants as fault

-- the kinds of tokens
abbrev pub kinds : List Raw → List RawKind
kinds raws = map (λ r. r.kind) raws

-- the tokens that are kept under a name
abbrev pub Macros : Type 0
Macros = List ℕ → Option (List RawKind)

abbrev pub no_macros : Macros
no_macros = λ name. None

abbrev pub keep : List ℕ → List RawKind → Macros → Macros
keep name tokens macros = λ other. if bytes_eq name other then Some tokens else macros other

-- all but this name
abbrev pub without : List ℕ → Macros → Macros
without name macros = λ other. if bytes_eq name other then None else macros other

-- the kept name that a token is, with its tokens
abbrev pub kept_at : RawKind → Macros → Option (List ℕ × List RawKind)
kept_at (Plain (kind.Name name)) macros = option_map_or (λ body. Some (name, body)) (macros name) None
kept_at k macros = None

-- a token of the result, or why there can't be one
abbrev pub Item : Type 0
Item = Result Token PrepFault

abbrev pub item_of : RawKind → ℕ → Item
item_of (Plain k) pos = Ok (record { kind = k; pos = pos })
item_of Hash pos = Err (fault.BadChar pos)
item_of Wide pos = Err (fault.NumberRange pos)

-- a name is replaced, or a token stays
pub data Act : Type 0 where
  Replaces : Act
  Gives : (item : Item) → Act

-- what a token stands for: a kept name for what its tokens stand for with that name hidden, which is kept no more meanwhile; any other token for itself.
-- At most so many names are hidden in one another as the text has tokens.
unfoldable pub expansion : ℕ → Macros → ℕ → RawKind → List Act
expansion zero macros pos k = Gives (item_of k pos) ∷ []
expansion (suc most) macros pos k =
    option_map_or (λ m. Replaces ∷ flat_map (expansion most (without m.0 macros) pos) m.1) (kept_at k macros) (Gives (item_of k pos) ∷ [])

-- a flag is as another
abbrev pub agrees : Bool → Bool → Bool
agrees true b = b
agrees false b = not b

abbrev pub same : Kind → Kind → Bool
same (kind.Name a) (kind.Name b) = bytes_eq a b
same (kind.Number v u) (kind.Number w s) = nat_eq v w && agrees u s
same (kind.Str a) (kind.Str b) = bytes_eq a b
same kind.Null kind.Null = true
same (kind.Key j) (kind.Key k) = sameb the_key.the_type j k
same (kind.Mark j) (kind.Mark k) = sameb the_mark.the_type j k
same kind.End kind.End = true
same j k = false

-- tokens are the same where their kinds are; a number that is too large is the same as no token
abbrev pub same_kind : RawKind → RawKind → Bool
same_kind (Plain j) (Plain k) = same j k
same_kind Hash Hash = true
same_kind j k = false

abbrev pub same_kinds : List RawKind → List RawKind → Bool
same_kinds a b = pointwise same_kind a b
