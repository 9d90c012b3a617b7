-- Trees that are no names, and how many words wait at a call.
use Rattle.std.proofs.Common.{◌≡◌, ℕ, suc, ◌+◌, ◌≤◌, Bool, true, false, List, [], ◌∷◌, length, Option, Some, None, Ok, refl, ap, arith}
use Rattle.std.proofs.lemmas.Bool.{and_parts}
use Rattle.std.specs.Prelude.{◌||◌, not, ◌++◌, if◌then◌else◌, codes}
use Rattle.c_syntax.specs.Plain as plain
use Rattle.c_syntax.specs.Plain.{CExpr, CExprs}
use Rattle.c_syntax.specs.declared.tree.UnOp.TheVariants as unary
use Rattle.c_syntax.specs.declared.tree.StepOp.{StepOp}
use Rattle.c_syntax.specs.declared.tree.StepOp.TheVariants as step
use Rattle.c_syntax.specs.declared.tree.BinOp.TheVariants as binary
use Rattle.c_syntax.specs.declared.tree.BinOp.{BinOp}
use Rattle.c_types.specs.Types.{CType, is_pointer, is_unsigned, Tags}
use Rattle.c_types.specs.Room.{is_wide_pointer}
use Rattle.c_types.specs.Refusals.{Judged}
use Rattle.c_types.specs.Operands.{Operand, are_printed}
use Rattle.c_types.specs.Scope.{Scope, Entity, Object, Routine, BuiltIn, Printf, entity_of}
use Rattle.c_types.specs.Expressions.{through, callee_of, judged, all_judged}
use Rattle.c_eval.specs.Environment as environment
use Rattle.c_eval.specs.Environment.{value_type_in, parameters_of, callee_in}
use Rattle.c_helpers.specs.Fewer.{kind_word, helper_call, words_in, words_back, words_by, moved_pointer, moved_place, as_type, sum_tree, difference_tree, wide_step, plain_assignment, format_call, named_call, call_tree, fewer, fewer_all}
use Rattle.c_helpers.specs.Frames.{waiting_all}
use Rattle.c_lowered.specs.Expressions.{known_name}
use Rattle.c_fewer_types.proofs.FewerTypedRules.{both_is}

abbrev pub NotName : CExpr → Type 0
NotName (plain.Var at name) = ⊥
NotName e = Unit {0}

if_not : (b : Bool) (x y : CExpr) → NotName x → NotName y → NotName (if b then x else y)
if_not true x y p q = p
if_not false x y p q = q

printed_not : (at pos : ℕ) (name : List ℕ) (format : Option (List ℕ)) (es : CExprs) → NotName (format_call at pos name format es)
printed_not at pos name (Some f) es = tt
printed_not at pos name None es = tt

named_not : (at pos : ℕ) (name : List ℕ) (x : Option Entity) (format : Option (List ℕ)) (es : CExprs) → NotName (named_call at pos name x format es)
named_not at pos name (Some Printf) format es = printed_not at pos name format es
named_not at pos name (Some (BuiltIn t)) format es = tt
named_not at pos name (Some (Object t)) format es = tt
named_not at pos name (Some (Routine t b)) format es = tt
named_not at pos name None format es = tt

call_not : (s : Scope) (at : ℕ) (f : CExpr) (format : Option (List ℕ)) (es : CExprs) → NotName (call_tree s at f format es)
call_not s at (plain.Var pos name) format es = named_not at pos name (entity_of s name) format es
call_not s at (plain.Number pos n y) format es = tt
call_not s at (plain.Str pos text) format es = tt
call_not s at (plain.Null pos) format es = tt
call_not s at (plain.Unary pos op a) format es = tt
call_not s at (plain.Step pos op a) format es = tt
call_not s at (plain.Binary pos op a b) format es = tt
call_not s at (plain.Assign pos op a b) format es = tt
call_not s at (plain.Cond pos a b c) format es = tt
call_not s at (plain.Comma pos a b) format es = tt
call_not s at (plain.Cast pos t a) format es = tt
call_not s at (plain.SizeTy pos t) format es = tt
call_not s at (plain.SizeOf pos a) format es = tt
call_not s at (plain.Index pos a b) format es = tt
call_not s at (plain.Call pos g gs) format es = tt
call_not s at (plain.Member pos a m) format es = tt
call_not s at (plain.Arrow pos a m) format es = tt

step_not : (tags : Tags) (at : ℕ) (op : StepOp) (t : CType) (a : CExpr) → NotName (wide_step tags at op t a)
step_not tags at step.PreInc t a = tt
step_not tags at step.PreDec t a = tt
step_not tags at step.PostInc t a = tt
step_not tags at step.PostDec t a = tt

sum_not : (tags : Tags) (at : ℕ) (t u : CType) (a b : CExpr) → NotName (sum_tree tags at t u a b)
sum_not tags at t u a b =
    if_not (is_wide_pointer tags t) (moved_pointer at t (is_unsigned u) a b (words_in tags t)) (if is_wide_pointer tags u then as_type at u (helper_call at (kind_word (is_unsigned t) ++ codes " + pointer") (a ∷ b ∷ words_in tags u ∷ [])) else plain.Binary at binary.Add a b) tt
    (if_not (is_wide_pointer tags u) (as_type at u (helper_call at (kind_word (is_unsigned t) ++ codes " + pointer") (a ∷ b ∷ words_in tags u ∷ []))) (plain.Binary at binary.Add a b) tt tt)

difference_not : (tags : Tags) (at : ℕ) (t u : CType) (a b : CExpr) → NotName (difference_tree tags at t u a b)
difference_not tags at t u a b =
    if_not (not (is_wide_pointer tags t)) (plain.Binary at binary.Sub a b) (if is_pointer u then helper_call at (codes "pointer - pointer") (a ∷ b ∷ words_in tags t ∷ []) else moved_pointer at t (is_unsigned u) a b (words_back tags t)) tt
    (if_not (is_pointer u) (helper_call at (codes "pointer - pointer") (a ∷ b ∷ words_in tags t ∷ [])) (moved_pointer at t (is_unsigned u) a b (words_back tags t)) tt tt)

update_not : (tags : Tags) (at : ℕ) (op : BinOp) (t u : CType) (a b : CExpr) → NotName (plain_assignment tags at op t u a b)
update_not tags at op t u a b = if_not (is_wide_pointer tags t) (moved_place at t (is_unsigned u) a b (words_by op tags t)) (plain.Assign at (Some op) a b) tt tt

-- what is no name becomes none
pub fewer_not : (s : Scope) (e : CExpr) → NotName e → NotName (fewer s e)
fewer_not s (plain.Var at name) h = h
fewer_not s (plain.Number at n y) h = tt
fewer_not s (plain.Str at text) h = tt
fewer_not s (plain.Null at) h = tt
fewer_not s (plain.Unary at unary.Invert a) h = tt
fewer_not s (plain.Unary at unary.Address a) h = tt
fewer_not s (plain.Unary at unary.Deref a) h = tt
fewer_not s (plain.Unary at unary.Not a) h = tt
fewer_not s (plain.Unary at unary.Minus a) h = tt
fewer_not s (plain.Unary at unary.Plus a) h = tt
fewer_not s (plain.Step at op a) h = if_not (is_wide_pointer s.tags (environment.type_in s a)) (wide_step s.tags at op (environment.type_in s a) (fewer s a)) (plain.Step at op (fewer s a)) (step_not s.tags at op (environment.type_in s a) (fewer s a)) tt
fewer_not s (plain.Binary at binary.Mul a b) h = tt
fewer_not s (plain.Binary at binary.Div a b) h = tt
fewer_not s (plain.Binary at binary.Mod a b) h = tt
fewer_not s (plain.Binary at binary.BitAnd a b) h = tt
fewer_not s (plain.Binary at binary.BitOr a b) h = tt
fewer_not s (plain.Binary at binary.BitXor a b) h = tt
fewer_not s (plain.Binary at binary.Shl a b) h = tt
fewer_not s (plain.Binary at binary.Shr a b) h = tt
fewer_not s (plain.Binary at binary.And a b) h = tt
fewer_not s (plain.Binary at binary.Or a b) h = tt
fewer_not s (plain.Binary at binary.Eq a b) h = tt
fewer_not s (plain.Binary at binary.Ne a b) h = tt
fewer_not s (plain.Binary at binary.Lt a b) h = tt
fewer_not s (plain.Binary at binary.Gt a b) h = tt
fewer_not s (plain.Binary at binary.Le a b) h = tt
fewer_not s (plain.Binary at binary.Ge a b) h = tt
fewer_not s (plain.Binary at binary.Add a b) h = sum_not s.tags at (value_type_in s a) (value_type_in s b) (fewer s a) (fewer s b)
fewer_not s (plain.Binary at binary.Sub a b) h = difference_not s.tags at (value_type_in s a) (value_type_in s b) (fewer s a) (fewer s b)
fewer_not s (plain.Assign at None a b) h = tt
fewer_not s (plain.Assign at (Some binary.Mul) a b) h = tt
fewer_not s (plain.Assign at (Some binary.Div) a b) h = tt
fewer_not s (plain.Assign at (Some binary.Mod) a b) h = tt
fewer_not s (plain.Assign at (Some binary.BitAnd) a b) h = tt
fewer_not s (plain.Assign at (Some binary.BitOr) a b) h = tt
fewer_not s (plain.Assign at (Some binary.BitXor) a b) h = tt
fewer_not s (plain.Assign at (Some binary.Shl) a b) h = tt
fewer_not s (plain.Assign at (Some binary.Shr) a b) h = tt
fewer_not s (plain.Assign at (Some binary.And) a b) h = update_not s.tags at binary.And (environment.type_in s a) (value_type_in s b) (fewer s a) (fewer s b)
fewer_not s (plain.Assign at (Some binary.Or) a b) h = update_not s.tags at binary.Or (environment.type_in s a) (value_type_in s b) (fewer s a) (fewer s b)
fewer_not s (plain.Assign at (Some binary.Eq) a b) h = update_not s.tags at binary.Eq (environment.type_in s a) (value_type_in s b) (fewer s a) (fewer s b)
fewer_not s (plain.Assign at (Some binary.Ne) a b) h = update_not s.tags at binary.Ne (environment.type_in s a) (value_type_in s b) (fewer s a) (fewer s b)
fewer_not s (plain.Assign at (Some binary.Lt) a b) h = update_not s.tags at binary.Lt (environment.type_in s a) (value_type_in s b) (fewer s a) (fewer s b)
fewer_not s (plain.Assign at (Some binary.Gt) a b) h = update_not s.tags at binary.Gt (environment.type_in s a) (value_type_in s b) (fewer s a) (fewer s b)
fewer_not s (plain.Assign at (Some binary.Le) a b) h = update_not s.tags at binary.Le (environment.type_in s a) (value_type_in s b) (fewer s a) (fewer s b)
fewer_not s (plain.Assign at (Some binary.Ge) a b) h = update_not s.tags at binary.Ge (environment.type_in s a) (value_type_in s b) (fewer s a) (fewer s b)
fewer_not s (plain.Assign at (Some binary.Add) a b) h = update_not s.tags at binary.Add (environment.type_in s a) (value_type_in s b) (fewer s a) (fewer s b)
fewer_not s (plain.Assign at (Some binary.Sub) a b) h = update_not s.tags at binary.Sub (environment.type_in s a) (value_type_in s b) (fewer s a) (fewer s b)
fewer_not s (plain.Cond at a b c) h = tt
fewer_not s (plain.Comma at a b) h = tt
fewer_not s (plain.Cast at t a) h = tt
fewer_not s (plain.SizeTy at t) h = tt
fewer_not s (plain.SizeOf at a) h = tt
fewer_not s (plain.Index at a b) h = if_not (is_wide_pointer s.tags (value_type_in s a) || is_wide_pointer s.tags (value_type_in s b)) (plain.Unary at unary.Deref (sum_tree s.tags at (value_type_in s a) (value_type_in s b) (fewer s a) (fewer s b))) (plain.Index at (fewer s a) (fewer s b)) tt tt
fewer_not s (plain.Call at f es) h = call_not s at (fewer s f) _ (fewer_all s es)
fewer_not s (plain.Member at a m) h = tt
fewer_not s (plain.Arrow at a m) h = tt

-- it is called through its value
pub called_through : (s : Scope) (e : CExpr) → NotName e → (callee_in s e ≡ environment.Through (parameters_of (value_type_in s e))) × (known_name e ≡ None)
called_through s (plain.Var at name) h = absurd h
called_through s (plain.Number pos n y) h = (refl, refl)
called_through s (plain.Str pos text) h = (refl, refl)
called_through s (plain.Null pos) h = (refl, refl)
called_through s (plain.Unary pos op a) h = (refl, refl)
called_through s (plain.Step pos op a) h = (refl, refl)
called_through s (plain.Binary pos op a b) h = (refl, refl)
called_through s (plain.Assign pos op a b) h = (refl, refl)
called_through s (plain.Cond pos a b c) h = (refl, refl)
called_through s (plain.Comma pos a b) h = (refl, refl)
called_through s (plain.Cast pos t a) h = (refl, refl)
called_through s (plain.SizeTy pos t) h = (refl, refl)
called_through s (plain.SizeOf pos a) h = (refl, refl)
called_through s (plain.Index pos a b) h = (refl, refl)
called_through s (plain.Call pos g gs) h = (refl, refl)
called_through s (plain.Member pos a m) h = (refl, refl)
called_through s (plain.Arrow pos a m) h = (refl, refl)

pub call_is : (s : Scope) (at : ℕ) (f : CExpr) (format : Option (List ℕ)) (es : CExprs) → NotName f → call_tree s at f format es ≡ plain.Call at f es
call_is s at (plain.Var pos name) format es h = absurd h
call_is s at (plain.Number pos n y) format es h = refl
call_is s at (plain.Str pos text) format es h = refl
call_is s at (plain.Null pos) format es h = refl
call_is s at (plain.Unary pos op a) format es h = refl
call_is s at (plain.Step pos op a) format es h = refl
call_is s at (plain.Binary pos op a b) format es h = refl
call_is s at (plain.Assign pos op a b) format es h = refl
call_is s at (plain.Cond pos a b c) format es h = refl
call_is s at (plain.Comma pos a b) format es h = refl
call_is s at (plain.Cast pos t a) format es h = refl
call_is s at (plain.SizeTy pos t) format es h = refl
call_is s at (plain.SizeOf pos a) format es h = refl
call_is s at (plain.Index pos a b) format es h = refl
call_is s at (plain.Call pos g gs) format es h = refl
call_is s at (plain.Member pos a m) format es h = refl
call_is s at (plain.Arrow pos a m) format es h = refl

pub callee_is : (s : Scope) (at : ℕ) (f : CExpr) (r : Judged Operand) → NotName f → callee_of s at f r ≡ through r
callee_is s at (plain.Var pos name) r h = absurd h
callee_is s at (plain.Number pos n y) r h = refl
callee_is s at (plain.Str pos text) r h = refl
callee_is s at (plain.Null pos) r h = refl
callee_is s at (plain.Unary pos op a) r h = refl
callee_is s at (plain.Step pos op a) r h = refl
callee_is s at (plain.Binary pos op a b) r h = refl
callee_is s at (plain.Assign pos op a b) r h = refl
callee_is s at (plain.Cond pos a b c) r h = refl
callee_is s at (plain.Comma pos a b) r h = refl
callee_is s at (plain.Cast pos t a) r h = refl
callee_is s at (plain.SizeTy pos t) r h = refl
callee_is s at (plain.SizeOf pos a) r h = refl
callee_is s at (plain.Index pos a b) r h = refl
callee_is s at (plain.Call pos g gs) r h = refl
callee_is s at (plain.Member pos a m) r h = refl
callee_is s at (plain.Arrow pos a m) r h = refl

-- ---- arguments

abbrev pub count : CExprs → ℕ
count plain.NoExpr = 0
count (plain.MoreExpr e es) = suc (count es)

-- each argument waits
pub waits : (b c : ℕ) (es : CExprs) → b + c + count es ≤ waiting_all b c es
waits b c plain.NoExpr = omega arith
waits b c (plain.MoreExpr e es) = let w = waits (b + 1) c es in omega (arith, w)

pub counted : (s : Scope) (es : CExprs) (xs : List Operand) → all_judged s es ≡ Ok xs → count (fewer_all s es) ≡ length xs
counted s plain.NoExpr [] k = refl
counted s plain.NoExpr (x ∷ xs) k = absurd (cc k)
counted s (plain.MoreExpr e es) xs k =
    let j = both_is (judged s e) (all_judged s es) (λ x xs. Ok (x ∷ xs)) xs k in
    let n = counted s es j.1.0 j.1.2 in more j.0 j.1.0 xs n j.1.3
  where
    more : (x : Operand) (ys xs : List Operand) → count (fewer_all s es) ≡ length ys → ◌≡◌ {A = Judged (List Operand)} (Ok (x ∷ ys)) (Ok xs) → suc (count (fewer_all s es)) ≡ length xs
    more x ys [] n e = absurd (cc e)
    more x ys (z ∷ zs) n e = let same : ys ≡ zs = cc e in (let l = ap (λ (z : List Operand). length z) same in omega (arith, n, l))

pub printed_count : (letters : List ℕ) (xs : List Operand) → are_printed letters xs ≡ true → length letters ≡ length xs
printed_count [] [] h = refl
printed_count [] (x ∷ xs) h = absurd (cc h)
printed_count (c ∷ cs) [] h = absurd (cc h)
printed_count (c ∷ cs) (x ∷ xs) h = let n = printed_count cs xs (and_parts _ (are_printed cs xs) h).1 in omega (arith, n)
