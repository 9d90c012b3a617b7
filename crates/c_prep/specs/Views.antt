-- What the preprocessor keeps, as the definitions speak of it.
use Rattle.std.specs.Prelude.{◌≡◌, ℕ, Bool, true, false, List, [], ◌∷◌, ◌++◌, map, Option, Some, None, Result, Ok, Err}
use Rattle.std.specs.Map.{lookup}
use Rattle.std.specs.Str.{bytes_eq}
use Rattle.std.specs.Option.{option_map}
use Rattle.std.specs.HashMap.{hash_map_len}
use Rattle.c_syntax.specs.declared.token.Kind.TheVariants.{Null}
use Rattle.c_syntax.specs.declared.token.Token.{Token}
use Rattle.c_prep.specs.declared.fault.PrepFault.{PrepFault}
use Rattle.c_prep.specs.declared.fault.PrepFault.TheVariants as fault
use Rattle.c_prep.specs.declared.table.Table.{Table}
use Rattle.c_prep.specs.declared.output.Output.{Output}
use Rattle.c_prep.specs.declared.directive.ReadDirective.{ReadDirective}
use Rattle.c_prep.specs.declared.directive.ReadDirective.TheVariants as read
use Rattle.c_prep.specs.declared.context.Context.{Context}
use Rattle.c_prep.specs.Macros.{Macros, Item, Act, kinds}
use Rattle.c_prep.specs.Directives.{Directive, Empty, Define, Undef, If, Turn, Close, Include}
use Rattle.c_prep.specs.Lines.{State, Step}
use Rattle.c_prep.specs.Prepared.{replaced_in, result_of, is_over}
use Rattle.c_prep.specs.Outcome.{Fails}

unfoldable pub macros_of : Table → Macros
macros_of table = λ name. option_map (λ b. kinds b.now) (lookup (λ k. bytes_eq name k.now) table.bodies.entries)

unfoldable pub size_of : Table → ℕ
size_of table = hash_map_len table.bodies

abbrev pub directive_of : ReadDirective → Directive
directive_of read.Empty = Empty
directive_of (read.Define name pos tokens) = Define name.now pos tokens.now
directive_of (read.Undef name) = Undef name.now
directive_of (read.If name wanted) = If name.now wanted
directive_of (read.Turn more) = Turn more
directive_of (read.Close more) = Close more
directive_of (read.Include header) = Include header

-- what was read, in place of what holds it
abbrev pub seen : {X Y : Type 0} → (X → Y) → Result X ℕ → Result Y ℕ
seen view (Ok x) = Ok (view x)
seen view (Err p) = Err p

abbrev pub state_of : Context → State
state_of c = record { macros = macros_of c.table; included = c.included; opens = c.opens.items }

-- what was made is what there is, or is refused so
abbrev pub Reads : {R X : Type 0} → Result R PrepFault → Result X PrepFault → X → Type 0
Reads (Ok r) (Ok x) made = made ≡ x
Reads (Ok r) (Err e) made = ⊥
Reads (Err e) there made = Fails e there

abbrev pub ReadsState : {R : Type 0} → Result R PrepFault → Result Step PrepFault → State → Type 0
ReadsState (Ok r) (Ok step) made = made ≡ step.state
ReadsState (Ok r) (Err e) made = ⊥
ReadsState (Err e) there made = Fails e there

-- the acts of a line that isn't refused
abbrev pub acts_of : Result Step PrepFault → List Act
acts_of (Ok step) = step.acts
acts_of (Err e) = []

abbrev pub place_of : PrepFault → ℕ
place_of (fault.BadChar p) = p
place_of (fault.NumberRange p) = p
place_of e = 0

-- a token that there can't be stands as `NULL` until the end
abbrev pub stand_in : Item → Token
stand_in (Ok t) = t
stand_in (Err e) = record { kind = Null; pos = place_of e }

abbrev pub first_refused : List Item → Option PrepFault
first_refused [] = None
first_refused (Ok t ∷ items) = first_refused items
first_refused (Err e ∷ items) = Some e

abbrev pub FollowsBy : Bool → Output → List Act → Type 0
FollowsBy true out acts = is_over acts ≡ true
FollowsBy false out acts = (is_over acts ≡ false) × (out.tokens.items ≡ map stand_in (result_of acts)) × (out.refused ≡ first_refused (result_of acts)) × (out.replaced ≡ replaced_in acts)

-- the output is what these acts give: once it is too large, nothing is kept
unfoldable pub Follows : Output → List Act → Type 0
Follows out acts = FollowsBy out.over out acts

-- the output has these acts more
unfoldable pub Adds : Output → Output → List Act → Type 0
Adds old new acts = (before : List Act) → Follows old before → Follows new (before ++ acts)

-- the output that was made gives what there is
abbrev pub ReadsActs : Result Output PrepFault → Result (List Act) PrepFault → Type 0
ReadsActs (Ok out) (Ok acts) = Follows out acts
ReadsActs (Ok out) (Err e) = ⊥
ReadsActs (Err e) there = Fails e there
