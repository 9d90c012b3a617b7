-- What a parser does with a token, as the machine on values does it.
use Rattle.std.specs.Prelude.{◌≡◌, ℕ, suc, IsTrue, List, [], ◌∷◌, length, drop, Option, Some, None}
use Rattle.c_syntax.specs.declared.token.Token.{Token}
use Rattle.c_grammar.specs.Class.{class_of}
use Rattle.c_grammar.specs.Grammar.{rhs, HasRoom}
use Rattle.c_grammar.specs.Machine.{takes, opening}
use Rattle.c_grammar.specs.Spelling.{accepts}
use Rattle.c_grammar.specs.declared.names.Category.{Category}
use Rattle.c_grammar.specs.declared.names.Part.{Part}
use Rattle.c_grammar.specs.declared.names.Production.{Production}
use Rattle.c_grammar.specs.declared.names.Symbol.{Symbol}
use Rattle.c_grammar.specs.declared.names.Symbol.TheVariants.{Tok, One, Many, Maybe}
use Rattle.c_grammar.specs.declared.names.Terminal.{Terminal}
use Rattle.c_grammar.specs.Values as machine
use Rattle.c_grammar.specs.Values.{Open, Value, cons, nil, with_last, depth_of}
use Rattle.c_held.specs.View.{values_of, row_of}
use Rattle.c_held.specs.Shape.{StandAt, MeetsPart}
use Rattle.c_held.specs.declared.value.Made.{Made}
use Rattle.c_held.specs.declared.value.Meaning.{Meaning}
use Rattle.c_frames.specs.declared.frame.Frame.{Frame}
use Rattle.c_frames.specs.Stack.{opens, open_of, AreSound, StandsOn, Stands}
use Rattle.c_progress.specs.declared.progress.Progress.{Progress}
use Rattle.c_progress.specs.declared.progress.Progress.TheVariants.{Moved, Finished, Stuck}
use Rattle.c_progress.specs.declared.progress.Turn.{Turn}
use Rattle.c_progress.specs.declared.progress.Turn.TheVariants.{Passed, Ended}

-- the places behind the one that comes next
abbrev pub left_behind : Frame → List Symbol
left_behind f = drop (suc (length f.done.items)) (rhs f.production)

-- a token at the next place of a production
abbrev pub token_at : Frame → Terminal → Token → List Open → Option (List Open)
token_at f k t s = machine.at_token (takes k (class_of t)) f.production (values_of f.done.items) t (left_behind f) s

-- a token at the places that are left of a production
abbrev pub begin_at : Frame → Token → List Open → machine.Progress
begin_at f t s = machine.begin t f.production (values_of f.done.items) (drop (length f.done.items) (rhs f.production)) s

-- at those behind the next, with this value there
abbrev pub begin_behind : Frame → Value → Token → List Open → machine.Progress
begin_behind f v t s = machine.begin t f.production (with_last (values_of f.done.items) v) (left_behind f) s

-- a part that was read, at the places that are left
abbrev pub placed_at : Category → Value → Frame → Token → List Open → machine.Progress
placed_at c v f t s = machine.placed c v t f.production (values_of f.done.items) (row_of f.row.items) (drop (length f.done.items) (rhs f.production)) s

-- a part that was read is put at a place
abbrev pub put : Symbol → Value → Frame → Token → List Open → machine.Progress
put (Tok k) v f t s = machine.Stuck
put (One n) v f t s = begin_behind f v t s
put (Many n) v f t s = machine.choose (opening n (class_of t)) t (machine.At f.production (values_of f.done.items) (with_last (row_of f.row.items) v) (Many n ∷ left_behind f) ∷ s) (begin_behind f (machine.Values (with_last (row_of f.row.items) v)) t s)
put (Maybe n) v f t s = begin_behind f (machine.Values (cons v nil)) t s

-- a token was read, at this depth, or refused
abbrev pub Reads : Option ℕ → List Frame → Option (List Open) → Type 0
Reads None fs o = o ≡ None
Reads (Some d) fs o = (o ≡ Some (opens fs [])) × (depth_of (opens fs []) ≡ d) × AreSound fs []

-- a production has all its parts
pub record IsWhole (f : Frame) : Type 0 where
  pub stand : StandAt (rhs f.production) f.done.items
  pub all : length f.done.items ≡ length (rhs f.production)

-- the machine has come where a parser has, with a production above this stack
abbrev pub Comes : Progress → Production → List Frame → List Frame → machine.Progress → Type 0
Comes (Moved d) p old fs r = (r ≡ machine.Moved (opens fs [])) × (depth_of (opens fs []) ≡ d) × AreSound fs []
Comes (Finished f) p old fs r = (r ≡ machine.Finished (values_of f.done.items)) × (f.production ≡ p) × (fs ≡ old) × IsWhole f
Comes Stuck p old fs r = r ≡ machine.Stuck

-- a place was passed, or the token has been tried
pub record Passes (f g : Frame) (t : Token) (old fs : List Frame) (r : machine.Progress) : Type 0 where
  pub production : g.production ≡ f.production
  pub row : g.row.items ≡ []
  pub further : length g.done.items ≡ suc (length f.done.items)
  pub stands : StandsOn g old
  pub stack : fs ≡ old
  pub same : r ≡ begin_at g t (opens old [])

abbrev pub Turns : Turn → Frame → Token → List Frame → List Frame → machine.Progress → Type 0
Turns (Passed g) f t old fs r = Passes f g t old fs r
Turns (Ended p) f t old fs r = Comes p f.production old fs r

-- a part is what each place that accepts it wants
abbrev pub IsFit : Made → Type 0
IsFit m = (n : Part) → IsTrue (accepts m.facts.category n) → MeetsPart n m.meaning

-- a part is what a place wants
abbrev pub Meets : Symbol → Meaning → Type 0
Meets (One n) m = MeetsPart n m
Meets _ m = Unit {0}

-- what a production that ended becomes above this stack
abbrev pub given : Progress → Token → List Open → Option (List Open)
given (Moved d) t s = Some s
given (Finished f) t s = machine.give f.production (values_of f.done.items) t s
given Stuck t s = None

-- what is left to do stands on sound stacks
abbrev pub IsGoing : Progress → List Frame → Type 0
IsGoing (Moved d) fs = AreSound fs [] × (depth_of (opens fs []) ≡ d)
IsGoing (Finished f) fs = AreSound fs [] × IsWhole f
IsGoing Stuck fs = Unit {0}

-- the work that is left
abbrev pub left_over : Progress → List Frame → ℕ
left_over (Finished f) fs = suc (length fs)
left_over _ fs = 0
