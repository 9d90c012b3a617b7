-- Parts of the trees that stand for operators.
use Rattle.std.specs.Prelude.{ℕ, Bool, List, [], ◌∷◌, ◌++◌, codes, if◌then◌else◌}
use Rattle.c_syntax.specs.Plain as plain
use Rattle.c_syntax.specs.Plain.{CExpr}
use Rattle.c_syntax.specs.declared.tree.UnOp.{UnOp}
use Rattle.c_syntax.specs.declared.tree.UnOp.TheVariants as unary
use Rattle.c_syntax.specs.declared.tree.BinOp.TheVariants as binary
use Rattle.c_types.specs.Types.{CType, Tags, is_pointer, is_unsigned}
use Rattle.c_types.specs.Room.{is_wide_pointer}
use Rattle.c_helpers.specs.Fewer.{as_type, helper_call, kind_word, words_in, words_back, moved_pointer, address_at}

-- an operator on one side, of which a helper function stands for one
abbrev pub unary_tree : ℕ → UnOp → CType → CExpr → CExpr
unary_tree at unary.Invert t a = as_type at t (helper_call at (codes "~") (a ∷ []))
unary_tree at op t a = plain.Unary at op a

-- a number of wide elements behind a pointer to them
abbrev pub moved_behind : Tags → ℕ → CType → CType → CExpr → CExpr → CExpr
moved_behind tags at t u a b = as_type at u (helper_call at (kind_word (is_unsigned t) ++ codes " + pointer") (a ∷ b ∷ words_in tags u ∷ []))

-- a sum whose left side is no pointer to wide elements
abbrev pub sum_behind : Tags → ℕ → CType → CType → CExpr → CExpr → CExpr
sum_behind tags at t u a b = if is_wide_pointer tags u then moved_behind tags at t u a b else plain.Binary at binary.Add a b

-- a difference whose left side is one
abbrev pub wide_difference : Tags → ℕ → CType → CType → CExpr → CExpr → CExpr
wide_difference tags at t u a b =
    if is_pointer u then helper_call at (codes "pointer - pointer") (a ∷ b ∷ words_in tags t ∷ [])
    else moved_pointer at t (is_unsigned u) a b (words_back tags t)

-- the pointer at a place is moved, and given as it was
abbrev pub stepped_place : ℕ → CType → CExpr → CExpr → CExpr
stepped_place at t a words = as_type at t (helper_call at (codes "pointer++") (address_at at a ∷ words ∷ []))
