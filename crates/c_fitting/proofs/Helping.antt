-- Bodies of helper functions declare in blocks alone.
use Rattle.std.proofs.Common.{◌≡◌, ℕ, suc, Bool, true, false, List, [], ◌∷◌, ◌++◌, map, refl}
use Rattle.std.specs.Prelude.{◌&&◌, ◌==◌, not, if◌then◌else◌}
use Rattle.c_syntax.specs.Plain as plain
use Rattle.c_syntax.specs.Plain.{CStmt, CStmts, stmts}
use Rattle.c_fitting.specs.Blocks.{is_declaration, DeclaresInBlocks, AllDeclareInBlocks, ItemsDeclareInBlocks}
use Rattle.c_helpers.specs.Functions.{Helper, functions, conversion, pieces, print_format}
use Rattle.c_helpers.specs.Fewer.{function_of}
use Rattle.c_helpers.specs.Laws.{each}

-- ---- a test for the statements that helper functions have

abbrev mutual
  is_blocked : CStmt → Bool
  is_blocked (plain.Block ss) = are_blocked ss
  is_blocked (plain.Local d) = true
  is_blocked (plain.Do_expr e) = true
  is_blocked (plain.If e t) = is_blocked t && not (is_declaration t)
  is_blocked (plain.While e t) = is_blocked t && not (is_declaration t)
  is_blocked (plain.Return at e) = true
  is_blocked _ = false

  are_blocked : CStmts → Bool
  are_blocked plain.NoStmt = true
  are_blocked (plain.MoreStmt t ts) = is_blocked t && are_blocked ts

both : (a b : Bool) → (a && b) ≡ true → (a ≡ true) × (b ≡ true)
both true b h = (refl, h)
both false b h = absurd (cc h)

is_not : (a : Bool) → not a ≡ true → a ≡ false
is_not true h = absurd (cc h)
is_not false h = refl

mutual
  blocked : (t : CStmt) → is_blocked t ≡ true → DeclaresInBlocks t
  blocked (plain.Block ss) h = all_blocked ss h
  blocked (plain.Local d) h = tt
  blocked (plain.Do_expr e) h = tt
  blocked plain.Empty h = tt
  blocked (plain.If e t) h = let b = both (is_blocked t) (not (is_declaration t)) h in (blocked t b.0, is_not (is_declaration t) b.1)
  blocked (plain.IfElse e t u) h = absurd (cc h)
  blocked (plain.While e t) h = let b = both (is_blocked t) (not (is_declaration t)) h in (blocked t b.0, is_not (is_declaration t) b.1)
  blocked (plain.Do t e) h = absurd (cc h)
  blocked (plain.For first test step t) h = absurd (cc h)
  blocked (plain.Return at e) h = tt
  blocked (plain.Break at) h = tt
  blocked (plain.Continue at) h = tt
  blocked (plain.Switch e ps) h = absurd (cc h)

  all_blocked : (ts : CStmts) → are_blocked ts ≡ true → AllDeclareInBlocks ts
  all_blocked plain.NoStmt h = tt
  all_blocked (plain.MoreStmt t ts) h = let b = both (is_blocked t) (are_blocked ts) h in (blocked t b.0, all_blocked ts b.1)

-- ---- the helper functions of each text

abbrev is_helpful : Helper → Bool
is_helpful g = is_blocked g.body && not (is_declaration g.body)

items_blocked : (gs : List Helper) → each is_helpful gs ≡ true → ItemsDeclareInBlocks (map function_of gs)
items_blocked [] h = tt
items_blocked (g ∷ gs) h =
    let b = both (is_helpful g) (each is_helpful gs) h in
    let own = both (is_blocked g.body) (not (is_declaration g.body)) b.0 in
    ((blocked g.body own.0, is_not (is_declaration g.body) own.1), items_blocked gs b.1)

pub functions_blocked : ItemsDeclareInBlocks (map function_of functions)
functions_blocked = items_blocked functions refl

-- ---- those of formats

by_if : (b : Bool) (x y : List CStmt) → AllDeclareInBlocks (stmts x) → AllDeclareInBlocks (stmts y) → AllDeclareInBlocks (stmts (if b then x else y))
by_if true x y f g = f
by_if false x y f g = g

joined : (x y : List CStmt) → AllDeclareInBlocks (stmts x) → AllDeclareInBlocks (stmts y) → AllDeclareInBlocks (stmts (x ++ y))
joined [] y f g = g
joined (t ∷ ts) y f g = (f.0, joined ts y f.1 g)

pieces_blocked : (percent : Bool) (format : List ℕ) (i : ℕ) → AllDeclareInBlocks (stmts (pieces percent format i))
pieces_blocked percent [] i = tt
pieces_blocked false (c ∷ format) i = by_if (c == 37) (pieces true format i) _ (pieces_blocked true format i) (tt, pieces_blocked false format i)
pieces_blocked true (c ∷ format) i =
    by_if (c == 37) _ (conversion c i ++ pieces false format (suc i)) (tt, pieces_blocked false format i)
    (joined (conversion c i) (pieces false format (suc i)) (by_if (c == 99) _ _ (tt, tt) (tt, (tt, tt))) (pieces_blocked false format (suc i)))

pub formats_blocked : (formats : List (List ℕ)) → ItemsDeclareInBlocks (map function_of (map print_format formats))
formats_blocked [] = tt
formats_blocked (format ∷ more) = (((tt, pieces_blocked false format 0), refl), formats_blocked more)
