-- Expressions that assign by the operators that C has for it.
use Rattle.std.specs.Prelude.{ℕ, Some, None}
use Rattle.c_syntax.specs.Plain as plain
use Rattle.c_syntax.specs.Plain.{CExpr, CExprs}
use Rattle.c_syntax.specs.declared.tree.BinOp.{BinOp}
use Rattle.c_syntax.specs.declared.tree.BinOp.TheVariants as binary

-- the operators with which C assigns
abbrev pub IsUpdate : BinOp → Type 0
IsUpdate binary.And = ⊥
IsUpdate binary.Or = ⊥
IsUpdate binary.Eq = ⊥
IsUpdate binary.Ne = ⊥
IsUpdate binary.Lt = ⊥
IsUpdate binary.Gt = ⊥
IsUpdate binary.Le = ⊥
IsUpdate binary.Ge = ⊥
IsUpdate op = Unit {0}

-- an expression assigns by such alone
abbrev mutual
  pub UpdatesAre : CExpr → Type 0
  UpdatesAre (plain.Unary at op a) = UpdatesAre a
  UpdatesAre (plain.Step at op a) = UpdatesAre a
  UpdatesAre (plain.Binary at op a b) = UpdatesAre a × UpdatesAre b
  UpdatesAre (plain.Assign at None a b) = UpdatesAre a × UpdatesAre b
  UpdatesAre (plain.Assign at (Some op) a b) = IsUpdate op × UpdatesAre a × UpdatesAre b
  UpdatesAre (plain.Cond at a b c) = UpdatesAre a × UpdatesAre b × UpdatesAre c
  UpdatesAre (plain.Comma at a b) = UpdatesAre a × UpdatesAre b
  UpdatesAre (plain.Cast at t a) = UpdatesAre a
  UpdatesAre (plain.Index at a b) = UpdatesAre a × UpdatesAre b
  UpdatesAre (plain.Call at f es) = UpdatesAre f × AllUpdatesAre es
  UpdatesAre (plain.Member at a m) = UpdatesAre a
  UpdatesAre (plain.Arrow at a m) = UpdatesAre a
  UpdatesAre _ = Unit {0}

  pub AllUpdatesAre : CExprs → Type 0
  AllUpdatesAre plain.NoExpr = Unit {0}
  AllUpdatesAre (plain.MoreExpr e es) = UpdatesAre e × AllUpdatesAre es
