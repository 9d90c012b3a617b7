-- Constant expressions have no string literals.
use Rattle.std.proofs.Common.{◌≡◌, ℕ, ◌+◌, ◌-◌, ◌^◌, Bool, true, false, ◌&&◌, ◌||◌, List, [], ◌∷◌, ◌++◌, length, Option, Some, None, refl, sym, ap, subst, ◌∙◌, if◌then◌else◌}
use Rattle.std.specs.Prelude.{Ok, Err, not, is_some, ◌==◌, pos, neg_ℤ}
use Rattle.std.specs.Option.{option_map, option_map_or}
use Rattle.c_syntax.specs.Plain as plain
use Rattle.c_syntax.specs.Plain.{CExpr, CExprs}
use Rattle.c_syntax.specs.Words.{meaning}
use Rattle.c_syntax.specs.declared.tree.UnOp.{UnOp}
use Rattle.c_syntax.specs.declared.tree.UnOp.TheVariants as unary
use Rattle.c_syntax.specs.declared.tree.BinOp.{BinOp}
use Rattle.c_syntax.specs.declared.tree.BinOp.TheVariants as binary
use Rattle.c_types.specs.declared.fault.TypeFault.{TypeFault}
use Rattle.c_types.specs.declared.fault.TypeFault.TheVariants as fault
use Rattle.c_types.specs.Types.{CType, Void, Int, Char, Struct, Pointer, Array, Function, is_arithmetic, is_struct, is_unsigned, promoted, is_object_type, Layout, Unfinished, Members, Tags}
use Rattle.c_types.specs.Refusals.{Judged, Rule, after, both, keeping, broken}
use Rattle.c_types.specs.Constants.{Constant, NotConstant, Undefined, Value, on_one, on_two, is_constant, beside, choice_constant, unary_constant, binary_constant, binary_value, wrapped, truth}
use Rattle.c_types.specs.Scope.{Scope}
use Rattle.c_types.specs.Operands.{Operand, operand, value_at, place_at, Other, value_type, is_place, is_designator, is_array, is_word_place, is_condition, converts, can_cast, typed_or, unary_operand, number_operand, pointed_operand, step_operand, binary_operand, binary_type, either_unsigned, assign_operand, result_converts, choice_operand, choice_type, comma_operand, cast_operand, index_operand, sum_type, member_in, member_operand, arrow_operand, Callee, Direct, Format, Through, argument_rules, count_of, is_print_form, function_call, pointer_call, call_operand}
use Rattle.c_types.specs.Expressions.{judged, all_judged, written, callee_of, format_of}
use Rattle.c_eval.specs.LiteralsIn.{literals_in}

-- ---- judgements that aren't refused

pub record IsAfter {A B : Type 0} (p : Judged A) (f : A → Judged B) (b : B) : Type 0 where
  pub a : A
  pub first : p ≡ Ok a
  pub rest : f a ≡ Ok b

pub after_ok : {A B : Type 0} (p : Judged A) (f : A → Judged B) (b : B) → after p f ≡ Ok b → IsAfter p f b
after_ok (Ok a) f b h = record { a = a; first = refl; rest = h }
after_ok (Err e) f b h = absurd cc

pub record AreBoth {A B C : Type 0} (p : Judged A) (q : Judged B) (f : A → B → Judged C) (c : C) : Type 0 where
  pub a : A
  pub b : B
  pub first : p ≡ Ok a
  pub second : q ≡ Ok b
  pub rest : f a b ≡ Ok c

pub both_ok : {A B C : Type 0} (p : Judged A) (q : Judged B) (f : A → B → Judged C) (c : C) → both p q f ≡ Ok c → AreBoth p q f c
both_ok (Ok a) (Ok b) f c h = record { a = a; b = b; first = refl; second = refl; rest = h }
both_ok (Ok a) (Err e) f c h = absurd cc
both_ok (Err d) (Ok b) f c h = absurd cc
both_ok (Err d) (Err e) f c h = absurd cc

pub keeping_ok : {A : Type 0} (rules : List Rule) (a x : A) → keeping rules a ≡ Ok x → a ≡ x
keeping_ok {A} rules a x h = by (broken rules) h where
  by : (o : Option TypeFault) → option_map_or (λ e. Err e) o (Ok a) ≡ Ok x → a ≡ x
  by None e = cc
  by (Some f) e = absurd cc

-- ---- constants that are made of others

abbrev IsConstant : Constant → Type 0
IsConstant k = is_constant k ≡ true

one_constant : (k : Constant) (f : ℕ → Constant) → IsConstant (on_one k f) → IsConstant k
one_constant NotConstant f h = h
one_constant (Undefined at) f h = refl
one_constant (Value n) f h = refl

two_constants : (k l : Constant) (f : ℕ → ℕ → Constant) → IsConstant (on_two k l f) → IsConstant k × IsConstant l
two_constants NotConstant l f h = absurd cc
two_constants (Undefined at) NotConstant f h = absurd cc
two_constants (Undefined at) (Undefined other) f h = (refl, refl)
two_constants (Undefined at) (Value n) f h = (refl, refl)
two_constants (Value m) l f h = (refl, one_constant l (λ n. f m n) h)

both_sides : (k l : Constant) → IsConstant (beside k l) → IsConstant k × IsConstant l
both_sides NotConstant l h = absurd cc
both_sides (Undefined at) l h = (refl, h)
both_sides (Value n) l h = (refl, h)

if_constant : (b : Bool) (k : Constant) → IsConstant (if b then k else NotConstant) → IsConstant k
if_constant true k h = h
if_constant false k h = absurd cc

unary_part : (op : UnOp) (k : Constant) → IsConstant (unary_constant op k) → IsConstant k
unary_part unary.Address k h = absurd cc
unary_part unary.Deref k h = absurd cc
unary_part unary.Plus k h = h
unary_part unary.Minus k h = one_constant k (λ x. Value (wrapped (neg_ℤ (pos x)))) h
unary_part unary.Invert k h = one_constant k (λ x. Value (2 ^ 24 - 1 - x)) h
unary_part unary.Not k h = one_constant k (λ x. Value (truth (x == 0))) h

binary_parts : (at : ℕ) (op : BinOp) (left unsigned : Bool) (k l : Constant) → IsConstant (binary_constant at op left unsigned k l) → IsConstant k × IsConstant l
binary_parts at binary.Or left unsigned k l h =
    let f : ℕ → Constant = λ x. if x == 0 then on_one l (λ y. Value (truth (not (y == 0)))) else Value 1 in
    let p = both_sides l (on_one k f) h in
    (one_constant k f p.1, p.0)
binary_parts at binary.And left unsigned k l h =
    let f : ℕ → Constant = λ x. if x == 0 then Value 0 else on_one l (λ y. Value (truth (not (y == 0)))) in
    let p = both_sides l (on_one k f) h in
    (one_constant k f p.1, p.0)
binary_parts at binary.BitOr left unsigned k l h = two_constants k l (λ x y. binary_value at binary.BitOr left unsigned x y) h
binary_parts at op left unsigned k l h = two_constants k l (λ x y. binary_value at op left unsigned x y) h

-- ---- operands that are constants

abbrev IsFixed : Operand → Type 0
IsFixed x = IsConstant x.constant

by_same : (a x : Operand) → a ≡ x → IsFixed x → IsFixed a
by_same a x e h = subst IsFixed (sym e) h

kept : (rules : List Rule) (a x : Operand) → keeping rules a ≡ Ok x → IsFixed x → IsFixed a
kept rules a x h c = by_same a x (keeping_ok rules a x h) c

abbrev typed_as : {A : Type 0} → A → Judged A
typed_as a = Ok a

given : (a x : Operand) → typed_as a ≡ Ok x → IsFixed x → IsFixed a
given a x h c = let same : a ≡ x = cc in by_same a x same c

addressed : (b : Bool) (rules : List Rule) (at : ℕ) (t u : CType) (x : Operand) → (if b then Ok (value_at at t) else keeping rules (value_at at u)) ≡ Ok x → IsFixed x → ⊥
addressed true rules at t u x h c = let k = given (value_at at t) x h c in cc
addressed false rules at t u x h c = let k = kept rules (value_at at u) x h c in cc

pointed : (tags : Tags) (at : ℕ) (t : CType) (x : Operand) → pointed_operand tags at t ≡ Ok x → IsFixed x → ⊥
pointed tags at (Pointer (Function t ts)) x h c = let k = given (value_at at (Pointer (Function t ts))) x h c in cc
pointed tags at (Pointer t) x h c = let k = kept ((is_object_type tags t, fault.Mismatch at) ∷ []) (place_at at t) x h c in cc
pointed tags at _ x h c = cc

numbered : (at : ℕ) (op : UnOp) (a x : Operand) → number_operand at op a ≡ Ok x → IsFixed x → IsFixed a
numbered at op a x h c =
    unary_part op a.constant (kept ((is_arithmetic (value_type a), fault.Mismatch at) ∷ []) (operand at (promoted (value_type a)) Other (unary_constant op a.constant)) x h c)

one_fixed : (tags : Tags) (at : ℕ) (op : UnOp) (a x : Operand) → unary_operand tags at op a ≡ Ok x → IsFixed x → IsFixed a
one_fixed tags at unary.Address a x h c = absurd (addressed (is_designator a.sort) ((is_place a.sort || is_array a.ty, fault.NotLvalue a.pos) ∷ []) at a.ty (Pointer a.ty) x h c)
one_fixed tags at unary.Deref a x h c = absurd (pointed tags at (value_type a) x h c)
one_fixed tags at unary.Not a x h c =
    unary_part unary.Not a.constant (kept ((is_condition a, fault.Mismatch at) ∷ []) (operand at Int Other (unary_constant unary.Not a.constant)) x h c)
one_fixed tags at unary.Plus a x h c = numbered at unary.Plus a x h c
one_fixed tags at unary.Minus a x h c = numbered at unary.Minus a x h c
one_fixed tags at unary.Invert a x h c = numbered at unary.Invert a x h c

typed : (at : ℕ) (k : Constant) (o : Option CType) (x : Operand) → typed_or at (option_map (λ t. operand at t Other k) o) ≡ Ok x → IsFixed x → IsConstant k
typed at k (Some t) x h c = given (operand at t Other k) x h c
typed at k None x h c = absurd cc

assigned : (tags : Tags) (at : ℕ) (op : Option BinOp) (a b x : Operand) → assign_operand tags at op a b ≡ Ok x → IsFixed x → ⊥
assigned tags at None a b x h c = let k = kept ((is_word_place a, fault.NotLvalue a.pos) ∷ (converts b a.ty, fault.Mismatch at) ∷ []) (value_at at a.ty) x h c in cc
assigned tags at (Some op) a b x h c =
    let k = kept ((is_word_place a, fault.NotLvalue a.pos) ∷ (result_converts at (binary_type tags op a b) a.ty, fault.Mismatch at) ∷ []) (value_at at a.ty) x h c in cc

indexed : (tags : Tags) (at : ℕ) (o : Option CType) (e : TypeFault) (x : Operand) → option_map_or (λ t. pointed_operand tags at t) o (Err e) ≡ Ok x → IsFixed x → ⊥
indexed tags at (Some t) e x h c = pointed tags at t x h c
indexed tags at None e x h c = cc

found : (at : ℕ) (o : Option CType) (e : TypeFault) (x : Operand) → option_map_or (λ t. Ok (place_at at t)) o (Err e) ≡ Ok x → IsFixed x → ⊥
found at (Some t) e x h c = let k = given (place_at at t) x h c in cc
found at None e x h c = cc

named : (at : ℕ) (name : List ℕ) (o : Option Layout) (x : Operand) → member_in at name o ≡ Ok x → IsFixed x → ⊥
named at name (Some (Members members words)) x h c = found at (meaning members name) (fault.Unknown at) x h c
named at name (Some Unfinished) x h c = cc
named at name None x h c = cc

member : (tags : Tags) (at : ℕ) (name : List ℕ) (t : CType) (x : Operand) → member_operand tags at name t ≡ Ok x → IsFixed x → ⊥
member tags at name (Struct tag) x h c = named at name (meaning tags tag) x h c
member tags at name Void x h c = cc
member tags at name _ x h c = cc

behind_arrow : (tags : Tags) (at : ℕ) (name : List ℕ) (t : CType) (x : Operand) → arrow_operand tags at name t ≡ Ok x → IsFixed x → ⊥
behind_arrow tags at name (Pointer t) x h c = member tags at name t x h c
behind_arrow tags at name Void x h c = cc
behind_arrow tags at name _ x h c = cc

of_function : (at : ℕ) (defined : Bool) (t : CType) (xs : List Operand) (x : Operand) → function_call at defined t xs ≡ Ok x → IsFixed x → ⊥
of_function at defined (Function result params) xs x h c =
    let k = kept ((defined && count_of params == length xs, fault.BadCall at) ∷ argument_rules params xs) (value_at at result) x h c in cc
of_function at defined Void xs x h c = cc
of_function at defined _ xs x h c = cc

of_pointer : (at : ℕ) (t : CType) (xs : List Operand) (x : Operand) → pointer_call at t xs ≡ Ok x → IsFixed x → ⊥
of_pointer at (Pointer t) xs x h c = of_function at true t xs x h c
of_pointer at Void xs x h c = cc
of_pointer at _ xs x h c = cc

called : (at : ℕ) (callee : Callee) (format : Option (List ℕ)) (xs : List Operand) (x : Operand) → call_operand at callee format xs ≡ Ok x → IsFixed x → ⊥
called at (Direct t defined) format xs x h c = of_function at defined t xs x h c
called at (Through t) format xs x h c = of_pointer at t xs x h c
called at Format format xs x h c = let k = kept ((is_print_form format xs, fault.BadCall at) ∷ []) (value_at at Void) x h c in cc

-- ---- expressions

none_in : (ls ms : List (List ℕ)) → ls ≡ [] → ms ≡ [] → ls ++ ms ≡ []
none_in ls ms e f = ap (λ (l : List (List ℕ)). l ++ ms) e ∙ f

-- a constant expression has no string literal
pub quiet : (s : Scope) (e : CExpr) (x : Operand) → judged s e ≡ Ok x → is_constant x.constant ≡ true → literals_in s e ≡ []
quiet s (plain.Number at n unsigned) x h c = refl
quiet s (plain.Str at text) x h c = let k = given (value_at at (Array Char (length text + 1))) x h c in absurd cc
quiet s (plain.Null at) x h c = refl
quiet s (plain.Var at name) x h c = refl
quiet s (plain.Unary at op a) x h c = let p = after_ok (judged s a) (λ y. unary_operand s.tags at op y) x h in quiet s a p.a p.first (one_fixed s.tags at op p.a x p.rest c)
quiet s (plain.Step at op a) x h c =
    let p = after_ok (judged s a) (λ y. step_operand s.tags at y) x h in
    let k = kept ((is_word_place p.a, fault.NotLvalue p.a.pos) ∷ (is_some (sum_type s.tags (value_type p.a) Int), fault.Mismatch at) ∷ []) (value_at at (value_type p.a)) x p.rest c in
    absurd cc
quiet s (plain.Binary at op a b) x h c =
    let p = both_ok (judged s a) (judged s b) (λ y z. binary_operand s.tags at op y z) x h in
    let k = binary_parts at op (is_unsigned (value_type p.a)) (either_unsigned p.a p.b) p.a.constant p.b.constant
    (typed at (binary_constant at op (is_unsigned (value_type p.a)) (either_unsigned p.a p.b) p.a.constant p.b.constant) (binary_type s.tags op p.a p.b) x p.rest c) in
    none_in (literals_in s a) (literals_in s b) (quiet s a p.a p.first k.0) (quiet s b p.b p.second k.1)
quiet s (plain.Assign at op a b) x h c =
    let p = both_ok (judged s a) (judged s b) (λ y z. assign_operand s.tags at op y z) x h in
    absurd (assigned s.tags at op p.a p.b x p.rest c)
quiet s (plain.Cond at a b d) x h c =
    let p = both_ok (judged s a) (both {A = Operand} {B = Operand} {C = Operand × Operand} (judged s b) (judged s d) (λ y z. Ok (y, z))) (λ y yz. choice_operand at y yz.0 yz.1) x h in
    let q = both_ok {A = Operand} {B = Operand} {C = Operand × Operand} (judged s b) (judged s d) (λ y z. Ok (y, z)) p.b p.second in
    let y = p.b.0 in
    let z = p.b.1 in
    let chosen : ℕ → Constant = λ n. if n == 0 then z.constant else y.constant in
    let k = both_sides y.constant (beside z.constant (on_one p.a.constant chosen))
    (kept ((is_condition p.a, fault.Mismatch p.a.pos) ∷ (is_some (choice_type y z), fault.Mismatch at) ∷ []) (operand at (option_map_or (λ t. t) (choice_type y z) Void) Other (choice_constant p.a.constant y.constant z.constant)) x p.rest c) in
    let l = both_sides z.constant (on_one p.a.constant chosen) k.1 in
    let first = one_constant p.a.constant chosen l.1 in
    let pair = same_pair (q.a, q.b) p.b q.rest in
    let second : IsFixed q.a = subst IsFixed (sym (ap (λ (z : Operand × Operand). z.0) pair)) k.0 in
    let third : IsFixed q.b = subst IsFixed (sym (ap (λ (z : Operand × Operand). z.1) pair)) l.0 in
    none_in (literals_in s a) (literals_in s b ++ literals_in s d) (quiet s a p.a p.first first) (none_in (literals_in s b) (literals_in s d) (quiet s b q.a q.first second) (quiet s d q.b q.second third))
  where
    same_pair : (y z : Operand × Operand) → typed_as y ≡ Ok z → y ≡ z
    same_pair y z e = cc
quiet s (plain.Comma at a b) x h c =
    let p = both_ok (judged s a) (judged s b) (λ y z. comma_operand at y z) x h in
    let last : ℕ → ℕ → Constant = λ m n. Value n in
    let k = two_constants p.a.constant p.b.constant last (kept ((not (is_struct p.b.ty), fault.Mismatch at) ∷ []) (operand at (value_type p.b) Other (on_two p.a.constant p.b.constant last)) x p.rest c) in
    none_in (literals_in s a) (literals_in s b) (quiet s a p.a p.first k.0) (quiet s b p.b p.second k.1)
quiet s (plain.Cast at t a) x h c =
    let p = both_ok (written s at t) (judged s a) (λ u y. cast_operand at u y) x h in
    quiet s a p.b p.second
    (if_constant (is_arithmetic p.a) p.b.constant (kept ((can_cast (value_type p.b) p.a, fault.Mismatch at) ∷ []) (operand at p.a Other (if is_arithmetic p.a then p.b.constant else NotConstant)) x p.rest c))
quiet s (plain.SizeTy at t) x h c = refl
quiet s (plain.SizeOf at a) x h c = refl
quiet s (plain.Index at a b) x h c =
    let p = both_ok (judged s a) (judged s b) (λ y z. index_operand s.tags at y z) x h in
    absurd (indexed s.tags at (sum_type s.tags (value_type p.a) (value_type p.b)) (fault.Mismatch at) x p.rest c)
quiet s (plain.Call at f es) x h c =
    let p = both_ok (callee_of s at f (judged s f)) (all_judged s es) (λ k xs. call_operand at k (format_of es) xs) x h in
    absurd (called at p.a (format_of es) p.b x p.rest c)
quiet s (plain.Member at a m) x h c =
    let p = after_ok (judged s a) (λ y. member_operand s.tags at m y.ty) x h in
    absurd (member s.tags at m p.a.ty x p.rest c)
quiet s (plain.Arrow at a m) x h c =
    let p = after_ok (judged s a) (λ y. arrow_operand s.tags at m (value_type y)) x h in
    absurd (behind_arrow s.tags at m (value_type p.a) x p.rest c)
