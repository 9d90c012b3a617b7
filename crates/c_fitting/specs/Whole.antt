-- First values, statements and texts that have code.
use Rattle.std.specs.Prelude.{◌≡◌, ◌≤◌, false, List, [], ◌∷◌, Option, Some, None, IsOk}
use Rattle.c_syntax.specs.Plain as plain
use Rattle.c_syntax.specs.Plain.{CExpr, CValue, CValues, CDecl, CStmt, CStmts, CPart, CParts, CItem, CUnit}
use Rattle.c_types.specs.Types.{CType, words_of}
use Rattle.c_types.specs.Scope.{Scope, entered}
use Rattle.c_types.specs.Declarations.{Slots, first_slot, next_slots, slots_of, declared, scope_or}
use Rattle.c_types.specs.Units.{item_judged, start_scope}
use Rattle.c_types.specs.Census.{scope_behind, scope_behind_head, scope_behind_part}
use Rattle.c_types.specs.Limits.{most_words}
use Rattle.c_eval.specs.Environment.{object_type_in, type_or_nothing}
use Rattle.c_eval.specs.Text.{Definition, item_definitions}
use Rattle.c_code.specs.Code.{slots_for}
use Rattle.c_fitting.specs.Fit.{IsFit}

-- no more words than the limit
abbrev pub IsShort : Scope → CType → Type 0
IsShort s t = words_of s.tags t ≤ most_words

abbrev pub MaybeIsFit : Scope → Option CExpr → Type 0
MaybeIsFit s None = Unit {0}
MaybeIsFit s (Some e) = IsFit s e

-- ---- first values

abbrev mutual
  -- for an object of a type
  pub ValueIsFit : Scope → CType → CValue → Type 0
  ValueIsFit s t (plain.One e) = IsFit s e
  ValueIsFit s t (plain.Many vs) = ValuesAreFit s (slots_of s.tags (Some t)) vs

  pub ValuesAreFit : Scope → Slots → CValues → Type 0
  ValuesAreFit s slots plain.NoValue = Unit {0}
  ValuesAreFit s slots (plain.MoreValue v vs) =
      IsShort s (type_or_nothing (first_slot slots)) × ValueIsFit s (type_or_nothing (first_slot slots)) v × ValuesAreFit s (next_slots slots) vs

abbrev pub FirstIsFit : Scope → CType → Option CValue → Type 0
FirstIsFit s t None = Unit {0}
FirstIsFit s t (Some v) = ValueIsFit s t v

-- an object that is declared: its first value stands in the scope behind it
abbrev pub ObjectIsFit : Scope → Scope → CDecl → Type 0
ObjectIsFit s inner d = IsShort s (object_type_in s d) × FirstIsFit inner (object_type_in s d) d.first

-- ---- statements

-- a statement outside of blocks declares nothing
abbrev pub TakesNoSlot : CStmt → Type 0
TakesNoSlot t = slots_for t ≡ 0

abbrev mutual
  pub StmtIsFit : Scope → CStmt → Type 0
  StmtIsFit s (plain.Block ss) = StmtsAreFit (entered s) ss
  StmtIsFit s (plain.Local d) = IsOk (declared s false d) × ObjectIsFit s (scope_behind s (plain.Local d)) d
  StmtIsFit s (plain.Do_expr e) = IsFit s e
  StmtIsFit s plain.Empty = Unit {0}
  StmtIsFit s (plain.If e t) = IsFit s e × StmtIsFit s t × TakesNoSlot t
  StmtIsFit s (plain.IfElse e t u) = IsFit s e × (StmtIsFit s t × TakesNoSlot t) × (StmtIsFit s u × TakesNoSlot u)
  StmtIsFit s (plain.While e t) = IsFit s e × StmtIsFit s t × TakesNoSlot t
  StmtIsFit s (plain.Do t e) = (StmtIsFit s t × TakesNoSlot t) × IsFit s e
  StmtIsFit s (plain.For first test step t) =
      (StmtIsFit s first × TakesNoSlot first) × MaybeIsFit (scope_behind_head s first) test × MaybeIsFit (scope_behind_head s first) step
      × (StmtIsFit (scope_behind_head s first) t × TakesNoSlot t)
  StmtIsFit s (plain.Return at e) = MaybeIsFit s e
  StmtIsFit s (plain.Break at) = Unit {0}
  StmtIsFit s (plain.Continue at) = Unit {0}
  StmtIsFit s (plain.Switch e ps) = IsFit s e × PartsAreFit (entered s) ps

  pub StmtsAreFit : Scope → CStmts → Type 0
  StmtsAreFit s plain.NoStmt = Unit {0}
  StmtsAreFit s (plain.MoreStmt t ts) = StmtIsFit s t × StmtsAreFit (scope_behind s t) ts

  -- a label isn't evaluated
  pub PartIsFit : Scope → CPart → Type 0
  PartIsFit s (plain.Label at e) = Unit {0}
  PartIsFit s (plain.Item t) = StmtIsFit s t

  pub PartsAreFit : Scope → CParts → Type 0
  PartsAreFit s plain.NoPart = Unit {0}
  PartsAreFit s (plain.MorePart p ps) = PartIsFit s p × PartsAreFit (scope_behind_part s p) ps

-- ---- texts

abbrev pub DefinitionIsFit : Definition → Type 0
DefinitionIsFit f = StmtIsFit f.scope f.body × TakesNoSlot f.body

abbrev pub DefinitionsAreFit : List Definition → Type 0
DefinitionsAreFit [] = Unit {0}
DefinitionsAreFit (f ∷ fs) = DefinitionIsFit f × DefinitionsAreFit fs

abbrev pub ItemIsFit : Scope → CItem → Type 0
ItemIsFit s (plain.Object d) = ObjectIsFit s (scope_or s (item_judged s (plain.Object d))) d
ItemIsFit s item = DefinitionsAreFit (item_definitions s item)

abbrev pub ItemsAreFit : Scope → List CItem → Type 0
ItemsAreFit s [] = Unit {0}
ItemsAreFit s (item ∷ items) = IsOk (item_judged s item) × ItemIsFit s item × ItemsAreFit (scope_or s (item_judged s item)) items

abbrev pub UnitIsFit : CUnit → Type 0
UnitIsFit u = ItemsAreFit (start_scope u) u.items
