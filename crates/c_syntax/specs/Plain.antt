-- Trees as the grammar and the meaning have them: no places in memory, and lists as lists.
use Rattle.std.specs.Prelude.{ℕ, List, [], ◌∷◌, Option, Bool}
pub use Rattle.c_syntax.specs.declared.tree.UnOp.{UnOp}
pub use Rattle.c_syntax.specs.declared.tree.StepOp.{StepOp}
pub use Rattle.c_syntax.specs.declared.tree.BinOp.{BinOp}

abbrev pub Name : Type 0
Name = List ℕ

mutual
  pub data CExpr : Type 0 where
    Number : (pos v : ℕ) → (unsigned : Bool) → CExpr
    Str : (pos : ℕ) → (text : List ℕ) → CExpr
    Null : (pos : ℕ) → CExpr
    Var : (pos : ℕ) → (name : List ℕ) → CExpr
    Unary : (pos : ℕ) → (op : UnOp) → (a : CExpr) → CExpr
    Step : (pos : ℕ) → (op : StepOp) → (a : CExpr) → CExpr
    Binary : (pos : ℕ) → (op : BinOp) → (a b : CExpr) → CExpr
    Assign : (pos : ℕ) → (op : Option BinOp) → (a b : CExpr) → CExpr
    Cond : (pos : ℕ) → (a b c : CExpr) → CExpr
    Comma : (pos : ℕ) → (a b : CExpr) → CExpr
    Cast : (pos : ℕ) → (t : CTy) → (a : CExpr) → CExpr
    SizeTy : (pos : ℕ) → (t : CTy) → CExpr
    SizeOf : (pos : ℕ) → (a : CExpr) → CExpr
    Index : (pos : ℕ) → (a b : CExpr) → CExpr
    Call : (pos : ℕ) → (f : CExpr) → (args : CExprs) → CExpr
    Member : (pos : ℕ) → (a : CExpr) → (m : List ℕ) → CExpr
    Arrow : (pos : ℕ) → (a : CExpr) → (m : List ℕ) → CExpr

  pub data CExprs : Type 0 where
    NoExpr : CExprs
    MoreExpr : (e : CExpr) → (es : CExprs) → CExprs

  pub data CTy : Type 0 where
    Void Int Unsigned Char UChar : CTy
    Struct : (name : List ℕ) → CTy
    Pointer : (t : CTy) → CTy
    Array : (t : CTy) → CTy
    ArrayOf : (t : CTy) → (n : CExpr) → CTy
    Func : (t : CTy) → (params : CTys) → CTy

  pub data CTys : Type 0 where
    NoTy : CTys
    MoreTy : (t : CTy) → (ts : CTys) → CTys

mutual
  pub data CValue : Type 0 where
    One : (e : CExpr) → CValue
    Many : (vs : CValues) → CValue

  pub data CValues : Type 0 where
    NoValue : CValues
    MoreValue : (v : CValue) → (vs : CValues) → CValues

pub record CDecl : Type 0 where
  pub name : List ℕ
  pub pos : ℕ
  pub ty : CTy
  pub first : Option CValue

mutual
  pub data CStmt : Type 0 where
    Block : (ss : CStmts) → CStmt
    Local : (d : CDecl) → CStmt
    Do_expr : (e : CExpr) → CStmt
    Empty : CStmt
    If : (e : CExpr) → (s : CStmt) → CStmt
    IfElse : (e : CExpr) → (s t : CStmt) → CStmt
    While : (e : CExpr) → (s : CStmt) → CStmt
    Do : (s : CStmt) → (e : CExpr) → CStmt
    For : (first : CStmt) → (test step : Option CExpr) → (s : CStmt) → CStmt
    Return : (pos : ℕ) → (e : Option CExpr) → CStmt
    Break : (pos : ℕ) → CStmt
    Continue : (pos : ℕ) → CStmt
    Switch : (e : CExpr) → (ps : CParts) → CStmt

  pub data CStmts : Type 0 where
    NoStmt : CStmts
    MoreStmt : (s : CStmt) → (ss : CStmts) → CStmts

  pub data CPart : Type 0 where
    Label : (pos : ℕ) → (e : Option CExpr) → CPart
    Item : (s : CStmt) → CPart

  pub data CParts : Type 0 where
    NoPart : CParts
    MorePart : (p : CPart) → (ps : CParts) → CParts

pub record CTag : Type 0 where
  pub name : List ℕ
  pub pos : ℕ
  pub members : List CDecl

pub data CItem : Type 0 where
  StructItem : (tag : CTag) → CItem
  Object : (d : CDecl) → CItem
  -- without a body it is a prototype
  Function : (name : List ℕ) → (pos : ℕ) → (result : CTy) → (params : List CDecl) → (body : Option CStmt) → CItem

pub record CUnit : Type 0 where
  pub items : List CItem
  pub end : ℕ

-- lists of trees as lists
abbrev pub exprs : List CExpr → CExprs
exprs [] = NoExpr
exprs (e ∷ es) = MoreExpr e (exprs es)

abbrev pub tys : List CTy → CTys
tys [] = NoTy
tys (t ∷ ts) = MoreTy t (tys ts)

abbrev pub values : List CValue → CValues
values [] = NoValue
values (v ∷ vs) = MoreValue v (values vs)

abbrev pub stmts : List CStmt → CStmts
stmts [] = NoStmt
stmts (s ∷ ss) = MoreStmt s (stmts ss)

abbrev pub parts : List CPart → CParts
parts [] = NoPart
parts (p ∷ ps) = MorePart p (parts ps)
