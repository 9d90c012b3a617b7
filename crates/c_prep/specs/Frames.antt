-- What a step of an expansion does.
use Rattle.std.specs.Prelude.{◌≡◌, ℕ, ◌+◌, Bool, false, List, [], ◌∷◌, Option, Some, None}
use denote.Ref.{Bor}
use Rattle.c_syntax.specs.declared.token.Raw.{Raw}
use Rattle.c_syntax.specs.declared.token.RawKind.{RawKind}
use Rattle.c_prep.specs.declared.table.Table.{Table}
use Rattle.c_prep.specs.declared.output.Output.{Output}
use Rattle.c_prep.specs.declared.expand.Frame.{Frame}
use Rattle.c_prep.specs.Macros.{kinds, Replaces, Gives, item_of, without, kept_at}
use Rattle.c_prep.specs.Views.{macros_of, size_of, Adds}

-- the token stays
pub record Stays (k : RawKind) (pos : ℕ) (t t' : Table) (fs fs' : List Frame) (o o' : Output) : Type 0 where
  pub macros : macros_of t' ≡ macros_of t
  pub size : size_of t' ≡ size_of t
  pub frames : fs' ≡ fs
  pub out : Adds o o' (Gives (item_of k pos) ∷ [])

-- a macro is begun, its name being hidden
pub record Begins (name : List ℕ) (body : List RawKind) (t t' : Table) (fs fs' : List Frame) (o o' : Output) : Type 0 where
  pub frame : Frame
  pub macros : macros_of t' ≡ without name (macros_of t)
  pub size : size_of t' + 1 ≡ size_of t
  pub frames : fs' ≡ frame ∷ fs
  pub named : frame.name.now ≡ name
  pub bodied : kinds frame.body.now ≡ body
  pub begun : frame.rest.now ≡ frame.body.now
  pub out : Adds o o' (Replaces ∷ [])

abbrev pub TakenName : List ℕ → Option (List RawKind) → RawKind → ℕ → Table → Table → List Frame → List Frame → Output → Output → Type 0
TakenName name None k pos t t' fs fs' o o' = Stays k pos t t' fs fs' o o'
TakenName name (Some body) k pos t t' fs fs' o o' = Begins name body t t' fs fs' o o'

abbrev pub TakenBy : Option (List ℕ × List RawKind) → RawKind → ℕ → Table → Table → List Frame → List Frame → Output → Output → Type 0
TakenBy None k pos t t' fs fs' o o' = Stays k pos t t' fs fs' o o'
TakenBy (Some m) k pos t t' fs fs' o o' = Begins m.0 m.1 t t' fs fs' o o'

abbrev pub Taken : RawKind → ℕ → Table → Table → List Frame → List Frame → Output → Output → Type 0
Taken k pos t t' fs fs' o o' = TakenBy (kept_at k (macros_of t)) k pos t t' fs fs' o o'

-- the next token of a macro and the macro behind it; there is none at the end, or where nothing is to be given any more
abbrev pub Advances : Frame → Bool → Option (Bor Raw × Frame) → Type 0
Advances f over None = over ≡ false → f.rest.now ≡ []
Advances f over (Some x) = (over ≡ false) × (f.rest.now ≡ x.0.now ∷ x.1.rest.now) × (x.1.name.now ≡ f.name.now) × (x.1.body.now ≡ f.body.now)
