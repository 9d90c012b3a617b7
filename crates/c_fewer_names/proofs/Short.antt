-- First values of little weight have short literals and few values.
use Rattle.std.proofs.Common.{◌≡◌, ℕ, ◌+◌, ◌^◌, ◌≤◌, Option, Some, None, Bool, true, false, refl, arith}
use Rattle.std.specs.Prelude.{if◌then◌else◌}
use Rattle.c_syntax.specs.Plain as plain
use Rattle.c_syntax.specs.Plain.{CExpr, CExprs, CValue, CValues, CDecl}
use Rattle.c_types.specs.Scope.{Scope}
use Rattle.c_types.specs.Expressions.{names_function}
use Rattle.c_types.specs.Declarations.{declared, scope_or, count_values}
use Rattle.c_types.specs.Census.{expr_sum, exprs_sum, value_sum, values_sum, first_sum, object_sum}
use Rattle.c_limited.proofs.Sums.{weight}
use Rattle.c_fewer_types.specs.Written.{StringsAreShort, EachStringIsShort}
use Rattle.c_fewer_types.specs.Standing.{ValueHas, ValuesHave, FirstHas, FirstIsShort}

-- little weight
pub record Light (w : ℕ) : Type 0 where
  pub le : w ≤ 65536

pub front : {w : ℕ} (x : ℕ) → Light (w + x) → Light w
front x h = record { le = omega (arith, h.le) }

pub last : (w : ℕ) {x : ℕ} → Light (w + x) → Light x
last w h = record { le = omega (arith, h.le) }

-- a function's name has no literal
name_short : (s : Scope) (f : CExpr) → names_function s f ≡ true → StringsAreShort f
name_short s (plain.Var at name) e = tt
name_short s f e = absurd (cc e)

called_short : (b : Bool) (w : ℕ) (f : CExpr) → (b ≡ true → StringsAreShort f) → (Light w → StringsAreShort f) → Light (if b then 0 else w) → StringsAreShort f
called_short true w f named small h = named refl
called_short false w f named small h = small h

mutual
  expr_short : (s : Scope) (e : CExpr) → Light (expr_sum weight s e) → StringsAreShort e
  expr_short s (plain.Number at n unsigned) h = tt
  expr_short s (plain.Str at text) h = omega (arith, h.le)
  expr_short s (plain.Null at) h = tt
  expr_short s (plain.Var at name) h = tt
  expr_short s (plain.Unary at op a) h = expr_short s a (last _ h)
  expr_short s (plain.Step at op a) h = expr_short s a (last _ h)
  expr_short s (plain.Binary at op a b) h = (expr_short s a (last _ (front _ h)), expr_short s b (last _ h))
  expr_short s (plain.Assign at op a b) h = (expr_short s a (last _ (front _ h)), expr_short s b (last _ h))
  expr_short s (plain.Cond at a b c) h = (expr_short s a (last _ (front _ (front _ h))), expr_short s b (last _ (front _ h)), expr_short s c (last _ h))
  expr_short s (plain.Comma at a b) h = (expr_short s a (last _ (front _ h)), expr_short s b (last _ h))
  expr_short s (plain.Cast at t a) h = expr_short s a (last _ h)
  expr_short s (plain.SizeTy at t) h = tt
  expr_short s (plain.SizeOf at a) h = tt
  expr_short s (plain.Index at a b) h = (expr_short s a (last _ (front _ h)), expr_short s b (last _ h))
  expr_short s (plain.Call at f es) h = (called_short (names_function s f) (expr_sum weight s f) f (name_short s f) (expr_short s f) (last _ (front _ h)), exprs_short s es (last _ h))
  expr_short s (plain.Member at a m) h = expr_short s a (last _ h)
  expr_short s (plain.Arrow at a m) h = expr_short s a (last _ h)

  exprs_short : (s : Scope) (es : CExprs) → Light (exprs_sum weight s es) → EachStringIsShort es
  exprs_short s plain.NoExpr h = tt
  exprs_short s (plain.MoreExpr e es) h = (expr_short s e (front _ h), exprs_short s es (last _ h))

mutual
  value_short : (s : Scope) (v : CValue) → Light (value_sum weight s v) → ValueHas StringsAreShort v
  value_short s (plain.One e) h = expr_short s e (last _ h)
  value_short s (plain.Many vs) h = values_short s vs (last _ h)

  values_short : (s : Scope) (vs : CValues) → Light (values_sum weight s vs) → ValuesHave StringsAreShort vs
  values_short s plain.NoValue h = tt
  values_short s (plain.MoreValue v vs) h = (value_short s v (front _ h), values_short s vs (last _ h))

value_counts : (s : Scope) (v : CValue) → 1 ≤ value_sum weight s v
value_counts s (plain.One e) = omega arith
value_counts s (plain.Many vs) = omega arith

few_values : (s : Scope) (vs : CValues) → count_values vs ≤ values_sum weight s vs
few_values s plain.NoValue = omega arith
few_values s (plain.MoreValue v vs) = let one = value_counts s v in let more = few_values s vs in omega (arith, one, more)

first_short : (s : Scope) (o : Option CValue) → Light (first_sum weight s o) → FirstHas StringsAreShort o × FirstIsShort o
first_short s None h = (tt, tt)
first_short s (Some (plain.One e)) h = (value_short s (plain.One e) h, tt)
first_short s (Some (plain.Many vs)) h = let few = few_values s vs in (value_short s (plain.Many vs) h, omega (arith, few, h.le))

-- an object of a text within the limits
pub object_short : (s : Scope) (d : CDecl) → Light (object_sum weight s d) → FirstHas StringsAreShort d.first × FirstIsShort d.first
object_short s d h = first_short (scope_or s (declared s false d)) d.first (last _ (front _ h))
