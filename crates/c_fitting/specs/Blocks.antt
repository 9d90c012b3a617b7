-- Trees in which each declaration stands in a block, in a `switch` or at file scope, as the grammar has it.
use Rattle.std.specs.Prelude.{◌≡◌, Bool, true, false, List, [], ◌∷◌, Some}
use Rattle.c_syntax.specs.Plain as plain
use Rattle.c_syntax.specs.Plain.{CStmt, CStmts, CPart, CParts, CItem, CUnit}

abbrev pub is_declaration : CStmt → Bool
is_declaration (plain.Local d) = true
is_declaration _ = false

abbrev pub IsNoDeclaration : CStmt → Type 0
IsNoDeclaration t = is_declaration t ≡ false

abbrev mutual
  -- of the statements in a statement none is a declaration but those of blocks and of a `switch`
  pub DeclaresInBlocks : CStmt → Type 0
  DeclaresInBlocks (plain.Block ss) = AllDeclareInBlocks ss
  DeclaresInBlocks (plain.If e t) = DeclaresInBlocks t × IsNoDeclaration t
  DeclaresInBlocks (plain.IfElse e t u) = (DeclaresInBlocks t × IsNoDeclaration t) × (DeclaresInBlocks u × IsNoDeclaration u)
  DeclaresInBlocks (plain.While e t) = DeclaresInBlocks t × IsNoDeclaration t
  DeclaresInBlocks (plain.Do t e) = DeclaresInBlocks t × IsNoDeclaration t
  DeclaresInBlocks (plain.For first test step t) = (DeclaresInBlocks first × IsNoDeclaration first) × (DeclaresInBlocks t × IsNoDeclaration t)
  DeclaresInBlocks (plain.Switch e ps) = PartsDeclareInBlocks ps
  DeclaresInBlocks _ = Unit {0}

  pub AllDeclareInBlocks : CStmts → Type 0
  AllDeclareInBlocks plain.NoStmt = Unit {0}
  AllDeclareInBlocks (plain.MoreStmt t ts) = DeclaresInBlocks t × AllDeclareInBlocks ts

  pub PartDeclaresInBlocks : CPart → Type 0
  PartDeclaresInBlocks (plain.Label at e) = Unit {0}
  PartDeclaresInBlocks (plain.Item t) = DeclaresInBlocks t

  pub PartsDeclareInBlocks : CParts → Type 0
  PartsDeclareInBlocks plain.NoPart = Unit {0}
  PartsDeclareInBlocks (plain.MorePart p ps) = PartDeclaresInBlocks p × PartsDeclareInBlocks ps

-- the bodies of functions
abbrev pub ItemDeclaresInBlocks : CItem → Type 0
ItemDeclaresInBlocks (plain.Function name at result params (Some body)) = DeclaresInBlocks body × IsNoDeclaration body
ItemDeclaresInBlocks _ = Unit {0}

abbrev pub ItemsDeclareInBlocks : List CItem → Type 0
ItemsDeclareInBlocks [] = Unit {0}
ItemsDeclareInBlocks (item ∷ items) = ItemDeclaresInBlocks item × ItemsDeclareInBlocks items

abbrev pub UnitDeclaresInBlocks : CUnit → Type 0
UnitDeclaresInBlocks u = ItemsDeclareInBlocks u.items
