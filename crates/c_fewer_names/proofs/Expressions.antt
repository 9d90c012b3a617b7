-- Names of expressions with fewer operators.
use Rattle.std.proofs.Common.{◌≡◌, ℕ, zero, suc, List, [], ◌∷◌, ◌++◌, Option, Some, None, Bool, true, false, refl}
use Rattle.std.specs.Prelude.{◌||◌, not, if◌then◌else◌}
use Rattle.c_syntax.specs.Plain as plain
use Rattle.c_syntax.specs.Plain.{CExpr, CExprs, CTy, CTys}
use Rattle.c_syntax.specs.declared.tree.StepOp.{StepOp}
use Rattle.c_syntax.specs.declared.tree.BinOp.{BinOp}
use Rattle.c_syntax.specs.declared.tree.UnOp.TheVariants as unary
use Rattle.c_syntax.specs.declared.tree.StepOp.TheVariants as step
use Rattle.c_syntax.specs.declared.tree.BinOp.TheVariants as binary
use Rattle.c_types.specs.Types as type
use Rattle.c_types.specs.Types.{CType, CTypes, Tags, is_pointer}
use Rattle.c_types.specs.Scope as entity
use Rattle.c_types.specs.Scope.{Scope, Entity, entity_of}
use Rattle.c_types.specs.Expressions.{format_of}
use Rattle.c_types.specs.Room.{is_wide_pointer}
use Rattle.c_eval.specs.Environment.{type_in, value_type_in}
use Rattle.c_alike.specs.Alike.{EachName, EachNameOf, EachNameIn, EachNameInAll}
use Rattle.c_helpers.specs.Names.{names_in, names_in_all}
use Rattle.c_helpers.specs.Fewer.{type_tree, type_trees, fewer_in_type, fewer_in_types, sign_of, counts_unsigned, operator_tree, sum_tree, difference_tree, assignment_tree, words_by, wide_step, step_tree, element_tree, named_call, call_tree, fewer, fewer_all}
use Rattle.c_worlds.specs.Named.{Each}
use Rattle.c_fewer_names.specs.Laws.{HoldsOfKnown}

-- ---- lists of names

pub each_left : (P : List ℕ → Type 0) (xs ys : List (List ℕ)) → Each P (xs ++ ys) → Each P xs
each_left P [] ys h = tt
each_left P (x ∷ xs) ys h = (h.0, each_left P xs ys h.1)

pub each_right : (P : List ℕ → Type 0) (xs ys : List (List ℕ)) → Each P (xs ++ ys) → Each P ys
each_right P [] ys h = h
each_right P (x ∷ xs) ys h = each_right P xs ys h.1

pub each_both : (P : List ℕ → Type 0) (xs ys : List (List ℕ)) → Each P xs → Each P ys → Each P (xs ++ ys)
each_both P [] ys h k = k
each_both P (x ∷ xs) ys h k = (h.0, each_both P xs ys h.1 k)

-- ---- types without names

abbrev Never : List ℕ → Type 0
Never name = ⊥

mutual
  tree_bare : (t : CType) → EachNameIn Never (type_tree t)
  tree_bare type.Void = tt
  tree_bare type.Int = tt
  tree_bare type.Unsigned = tt
  tree_bare type.Char = tt
  tree_bare type.UChar = tt
  tree_bare type.Null = tt
  tree_bare (type.Struct tag) = tt
  tree_bare (type.Pointer t) = tree_bare t
  tree_bare (type.Array t zero) = tree_bare t
  tree_bare (type.Array t (suc n)) = (tree_bare t, tt)
  tree_bare (type.Function t ts) = (tree_bare t, trees_bare ts)

  trees_bare : (ts : CTypes) → EachNameInAll Never (type_trees ts)
  trees_bare type.NoType = tt
  trees_bare (type.MoreType t ts) = (tree_bare t, trees_bare ts)

mutual
  written_bare : (s : Scope) (t : CTy) → EachNameIn Never (fewer_in_type s t)
  written_bare s plain.Void = tt
  written_bare s plain.Int = tt
  written_bare s plain.Unsigned = tt
  written_bare s plain.Char = tt
  written_bare s plain.UChar = tt
  written_bare s (plain.Struct name) = tt
  written_bare s (plain.Pointer t) = written_bare s t
  written_bare s (plain.Array t) = written_bare s t
  written_bare s (plain.ArrayOf t e) = (written_bare s t, tt)
  written_bare s (plain.Func t ts) = (written_bare s t, all_written_bare s ts)

  all_written_bare : (s : Scope) (ts : CTys) → EachNameInAll Never (fewer_in_types s ts)
  all_written_bare s plain.NoTy = tt
  all_written_bare s (plain.MoreTy t ts) = (written_bare s t, all_written_bare s ts)

-- ---- expressions whose types have no names, and which have no `sizeof`

abbrev mutual
  Bare : CExpr → Type 0
  Bare (plain.Number at n unsigned) = Unit {0}
  Bare (plain.Str at text) = Unit {0}
  Bare (plain.Null at) = Unit {0}
  Bare (plain.Var at name) = Unit {0}
  Bare (plain.Unary at op a) = Bare a
  Bare (plain.Step at op a) = Bare a
  Bare (plain.Binary at op a b) = Bare a × Bare b
  Bare (plain.Assign at op a b) = Bare a × Bare b
  Bare (plain.Cond at a b c) = Bare a × Bare b × Bare c
  Bare (plain.Comma at a b) = Bare a × Bare b
  Bare (plain.Cast at t a) = EachNameIn Never t × Bare a
  Bare (plain.SizeTy at t) = ⊥
  Bare (plain.SizeOf at a) = ⊥
  Bare (plain.Index at a b) = Bare a × Bare b
  Bare (plain.Call at f es) = Bare f × AllBare es
  Bare (plain.Member at a m) = Bare a
  Bare (plain.Arrow at a m) = Bare a

  AllBare : CExprs → Type 0
  AllBare plain.NoExpr = Unit {0}
  AllBare (plain.MoreExpr e es) = Bare e × AllBare es

module _ (P : List ℕ → Type 0) where
  mutual
    never_type : (t : CTy) → EachNameIn Never t → EachNameIn P t
    never_type plain.Void h = tt
    never_type plain.Int h = tt
    never_type plain.Unsigned h = tt
    never_type plain.Char h = tt
    never_type plain.UChar h = tt
    never_type (plain.Struct name) h = tt
    never_type (plain.Pointer t) h = never_type t h
    never_type (plain.Array t) h = never_type t h
    never_type (plain.ArrayOf t e) h = (never_type t h.0, never_expr e h.1)
    never_type (plain.Func t ts) h = (never_type t h.0, never_types ts h.1)

    never_types : (ts : CTys) → EachNameInAll Never ts → EachNameInAll P ts
    never_types plain.NoTy h = tt
    never_types (plain.MoreTy t ts) h = (never_type t h.0, never_types ts h.1)

    never_expr : (e : CExpr) → EachName Never e → EachName P e
    never_expr (plain.Number at n unsigned) h = tt
    never_expr (plain.Str at text) h = tt
    never_expr (plain.Null at) h = tt
    never_expr (plain.Var at name) h = absurd h
    never_expr (plain.Unary at op a) h = never_expr a h
    never_expr (plain.Step at op a) h = never_expr a h
    never_expr (plain.Binary at op a b) h = (never_expr a h.0, never_expr b h.1)
    never_expr (plain.Assign at op a b) h = (never_expr a h.0, never_expr b h.1)
    never_expr (plain.Cond at a b c) h = (never_expr a h.0, never_expr b h.1, never_expr c h.2)
    never_expr (plain.Comma at a b) h = (never_expr a h.0, never_expr b h.1)
    never_expr (plain.Cast at t a) h = (never_type t h.0, never_expr a h.1)
    never_expr (plain.SizeTy at t) h = never_type t h
    never_expr (plain.SizeOf at a) h = never_expr a h
    never_expr (plain.Index at a b) h = (never_expr a h.0, never_expr b h.1)
    never_expr (plain.Call at f es) h = (never_expr f h.0, never_exprs es h.1)
    never_expr (plain.Member at a m) h = never_expr a h
    never_expr (plain.Arrow at a m) h = never_expr a h

    never_exprs : (es : CExprs) → EachNameOf Never es → EachNameOf P es
    never_exprs plain.NoExpr h = tt
    never_exprs (plain.MoreExpr e es) h = (never_expr e h.0, never_exprs es h.1)

  mutual
    pub each_expr : (e : CExpr) → Bare e → Each P (names_in e) → EachName P e
    each_expr (plain.Number at n unsigned) b h = tt
    each_expr (plain.Str at text) b h = tt
    each_expr (plain.Null at) b h = tt
    each_expr (plain.Var at name) b h = h.0
    each_expr (plain.Unary at op a) b h = each_expr a b h
    each_expr (plain.Step at op a) b h = each_expr a b h
    each_expr (plain.Binary at op x y) b h = (each_expr x b.0 (each_left P (names_in x) (names_in y) h), each_expr y b.1 (each_right P (names_in x) (names_in y) h))
    each_expr (plain.Assign at op x y) b h = (each_expr x b.0 (each_left P (names_in x) (names_in y) h), each_expr y b.1 (each_right P (names_in x) (names_in y) h))
    each_expr (plain.Cond at x y z) b h =
        let k = each_right P (names_in x) (names_in y ++ names_in z) h in
        (each_expr x b.0 (each_left P (names_in x) (names_in y ++ names_in z) h), each_expr y b.1 (each_left P (names_in y) (names_in z) k), each_expr z b.2 (each_right P (names_in y) (names_in z) k))
    each_expr (plain.Comma at x y) b h = (each_expr x b.0 (each_left P (names_in x) (names_in y) h), each_expr y b.1 (each_right P (names_in x) (names_in y) h))
    each_expr (plain.Cast at t a) b h = (never_type t b.0, each_expr a b.1 h)
    each_expr (plain.SizeTy at t) b h = absurd b
    each_expr (plain.SizeOf at a) b h = absurd b
    each_expr (plain.Index at x y) b h = (each_expr x b.0 (each_left P (names_in x) (names_in y) h), each_expr y b.1 (each_right P (names_in x) (names_in y) h))
    each_expr (plain.Call at f es) b h = (each_expr f b.0 (each_left P (names_in f) (names_in_all es) h), each_exprs es b.1 (each_right P (names_in f) (names_in_all es) h))
    each_expr (plain.Member at a m) b h = each_expr a b h
    each_expr (plain.Arrow at a m) b h = each_expr a b h

    each_exprs : (es : CExprs) → AllBare es → Each P (names_in_all es) → EachNameOf P es
    each_exprs plain.NoExpr b h = tt
    each_exprs (plain.MoreExpr e es) b h = (each_expr e b.0 (each_left P (names_in e) (names_in_all es) h), each_exprs es b.1 (each_right P (names_in e) (names_in_all es) h))

-- ---- trees with fewer operators

-- a tree that was made of two
record Made (P : List ℕ → Type 0) (a b tree : CExpr) : Type 0 where
  bare : Bare a → Bare b → Bare tree
  first : Each P (names_in tree) → Each P (names_in a)
  second : Each P (names_in tree) → Each P (names_in b)

-- of one
record MadeOf (P : List ℕ → Type 0) (a tree : CExpr) : Type 0 where
  bare : Bare a → Bare tree
  first : Each P (names_in tree) → Each P (names_in a)

module _ (P : List ℕ → Type 0) (tags : Tags) (at : ℕ) where
  if_made : (x : Bool) (a b u v : CExpr) → Made P a b u → Made P a b v → Made P a b (if x then u else v)
  if_made true a b u v h k = h
  if_made false a b u v h k = k

  plainly : (op : BinOp) (a b : CExpr) → Made P a b (plain.Binary at op a b)
  plainly op a b = record { bare = λ x y. (x, y); first = λ h. each_left P (names_in a) (names_in b) h; second = λ h. each_right P (names_in a) (names_in b) h }

  -- a call of a helper function with both, and maybe a number
  helped : (name : List ℕ) (t : CType) (a b : CExpr) → Made P a b (plain.Cast at (type_tree t) (plain.Call at (plain.Var at name) (plain.MoreExpr a (plain.MoreExpr b plain.NoExpr))))
  helped name t a b = record {
    bare = λ x y. (tree_bare t, (tt, (x, (y, tt))));
    first = λ h. each_left P (names_in a) (names_in b ++ []) h.1;
    second = λ h. each_left P (names_in b) [] (each_right P (names_in a) (names_in b ++ []) h.1);
  }

  numbered : (name : List ℕ) (a b : CExpr) (n : ℕ) → Made P a b (plain.Call at (plain.Var at name) (plain.MoreExpr a (plain.MoreExpr b (plain.MoreExpr (plain.Number 0 n false) plain.NoExpr))))
  numbered name a b n = record {
    bare = λ x y. (tt, (x, (y, (tt, tt))));
    first = λ h. each_left P (names_in a) (names_in b ++ []) h.1;
    second = λ h. each_left P (names_in b) [] (each_right P (names_in a) (names_in b ++ []) h.1);
  }

  cast_made : (t : CType) (a b tree : CExpr) → Made P a b tree → Made P a b (plain.Cast at (type_tree t) tree)
  cast_made t a b tree m = record { bare = λ x y. (tree_bare t, m.bare x y); first = λ h. m.first h; second = λ h. m.second h }

  sum_made : (t u : CType) (a b : CExpr) → Made P a b (sum_tree tags at t u a b)
  sum_made t u a b =
      if_made (is_wide_pointer tags t) a b _ _ (cast_made t a b _ (numbered _ a b _)) (if_made (is_wide_pointer tags u) a b _ _ (cast_made u a b _ (numbered _ a b _)) (plainly binary.Add a b))

  difference_made : (t u : CType) (a b : CExpr) → Made P a b (difference_tree tags at t u a b)
  difference_made t u a b =
      if_made (not (is_wide_pointer tags t)) a b _ _ (plainly binary.Sub a b) (if_made (is_pointer u) a b _ _ (numbered _ a b _) (cast_made t a b _ (numbered _ a b _)))

  operator_made : (o : Option (List ℕ)) (op : BinOp) (result t u : CType) (a b : CExpr) → Made P a b (operator_tree tags at o op result t u a b)
  operator_made (Some sign) op result t u a b = helped sign result a b
  operator_made None binary.Add result t u a b = sum_made t u a b
  operator_made None binary.Sub result t u a b = difference_made t u a b
  operator_made None op result t u a b = plainly op a b

  -- the first is handed on as a pointer
  pointed : (a b tree : CExpr) → Made P (plain.Unary at unary.Address a) b tree → Made P a b tree
  pointed a b tree m = record { bare = λ x y. m.bare x y; first = λ h. m.first h; second = λ h. m.second h }

  assigned : (op : Option BinOp) (a b : CExpr) → Made P a b (plain.Assign at op a b)
  assigned op a b = record { bare = λ x y. (x, y); first = λ h. each_left P (names_in a) (names_in b) h; second = λ h. each_right P (names_in a) (names_in b) h }

  words_made : (op : BinOp) (name : List ℕ) (t : CType) (a b : CExpr) → Made P a b (plain.Cast at (type_tree t) (plain.Call at (plain.Var at name) (plain.MoreExpr (plain.Unary at unary.Address a) (plain.MoreExpr b (plain.MoreExpr (words_by op tags t) plain.NoExpr)))))
  words_made binary.Sub name t a b = pointed a b _ (cast_made t (plain.Unary at unary.Address a) b _ (numbered name (plain.Unary at unary.Address a) b _))
  words_made op name t a b = pointed a b _ (cast_made t (plain.Unary at unary.Address a) b _ (numbered name (plain.Unary at unary.Address a) b _))

  assignment_made : (o : Option (List ℕ)) (op : BinOp) (t u : CType) (a b : CExpr) → Made P a b (assignment_tree tags at o op t u a b)
  assignment_made (Some sign) op t u a b = pointed a b _ (helped _ t (plain.Unary at unary.Address a) b)
  assignment_made None op t u a b = if_made (is_wide_pointer tags t) a b _ _ (words_made op _ t a b) (assigned (Some op) a b)

  element_made : (t u : CType) (a b : CExpr) → Made P a b (element_tree tags at t u a b)
  element_made t u a b =
      if_made (is_wide_pointer tags t || is_wide_pointer tags u) a b _ _ (let m = sum_made t u a b in record { bare = λ x y. m.bare x y; first = λ h. m.first h; second = λ h. m.second h })
      (record { bare = λ x y. (x, y); first = λ h. each_left P (names_in a) (names_in b) h; second = λ h. each_right P (names_in a) (names_in b) h })

  wide_made : (op : StepOp) (t : CType) (a : CExpr) → MadeOf P a (wide_step tags at op t a)
  wide_made step.PreInc t a = record { bare = λ x. (tree_bare t, (tt, (x, (tt, (tt, tt))))); first = λ h. each_left P (names_in a) [] h.1 }
  wide_made step.PreDec t a = record { bare = λ x. (tree_bare t, (tt, (x, (tt, (tt, tt))))); first = λ h. each_left P (names_in a) [] h.1 }
  wide_made step.PostInc t a = record { bare = λ x. (tree_bare t, (tt, (x, (tt, tt)))); first = λ h. each_left P (names_in a) [] h.1 }
  wide_made step.PostDec t a = record { bare = λ x. (tree_bare t, (tt, (x, (tt, tt)))); first = λ h. each_left P (names_in a) [] h.1 }

  step_made : (op : StepOp) (t : CType) (a : CExpr) → MadeOf P a (step_tree tags at op t a)
  step_made op t a = go (is_wide_pointer tags t)
    where
      go : (b : Bool) → MadeOf P a (if b then wide_step tags at op t a else plain.Step at op a)
      go true = wide_made op t a
      go false = record { bare = λ x. x; first = λ h. h }

-- ---- calls

record Called (P : List ℕ → Type 0) (f : CExpr) (es es' : CExprs) (tree : CExpr) : Type 0 where
  bare : Bare f → AllBare es' → Bare tree
  callee : Each P (names_in tree) → Each P (names_in f)
  arguments : Each P (names_in tree) → Each P (names_in_all es')

module _ (P : List ℕ → Type 0) (s : Scope) (known : HoldsOfKnown P s) where
  simply : (at : ℕ) (f : CExpr) (es : CExprs) (es' : CExprs) → Called P f es es' (plain.Call at f es')
  simply at f es es' = record { bare = λ x y. (x, y); callee = λ h. each_left P (names_in f) (names_in_all es') h; arguments = λ h. each_right P (names_in f) (names_in_all es') h }

  named_made : (at pos : ℕ) (name : List ℕ) (es : CExprs) (o : Option Entity) → entity_of s name ≡ o → Called P (plain.Var pos name) es (fewer_all s es) (named_call at pos name o (format_of es) (fewer_all s es))
  named_made at pos name (plain.MoreExpr (plain.Str there text) es) (Some entity.Printf) e = record { bare = λ x y. (tt, y.1); callee = λ h. (known.format name e, tt); arguments = λ h. h.1 }
  named_made at pos name plain.NoExpr (Some entity.Printf) e = simply at (plain.Var pos name) plain.NoExpr plain.NoExpr
  named_made at pos name (plain.MoreExpr x es) (Some entity.Printf) e = simply at (plain.Var pos name) (plain.MoreExpr x es) (plain.MoreExpr (fewer s x) (fewer_all s es))
  named_made at pos name es (Some (entity.BuiltIn t)) e = record { bare = λ x y. (tt, y); callee = λ h. (known.built_in name t e, tt); arguments = λ h. h.1 }
  named_made at pos name es (Some (entity.Object t)) e = simply at (plain.Var pos name) es (fewer_all s es)
  named_made at pos name es (Some (entity.Routine t begun)) e = simply at (plain.Var pos name) es (fewer_all s es)
  named_made at pos name es None e = simply at (plain.Var pos name) es (fewer_all s es)

  call_made : (at : ℕ) (f : CExpr) (es : CExprs) → Called P f es (fewer_all s es) (call_tree s at f (format_of es) (fewer_all s es))
  call_made at (plain.Var pos name) es = named_made at pos name es (entity_of s name) refl
  call_made at f es = simply at f es (fewer_all s es)

  mutual
    pub fewer_bare : (e : CExpr) → Bare (fewer s e)
    fewer_bare (plain.Number at n unsigned) = tt
    fewer_bare (plain.Str at text) = tt
    fewer_bare (plain.Null at) = tt
    fewer_bare (plain.Var at name) = tt
    fewer_bare (plain.Unary at unary.Invert a) = (tree_bare (type_in s (plain.Unary at unary.Invert a)), (tt, (fewer_bare a, tt)))
    fewer_bare (plain.Unary at op a) = fewer_bare a
    fewer_bare (plain.Step at op a) = (step_made P s.tags at op (type_in s a) (fewer s a)).bare (fewer_bare a)
    fewer_bare (plain.Binary at op a b) =
        (operator_made P s.tags at (sign_of op (counts_unsigned op (value_type_in s a) (value_type_in s b))) op (type_in s (plain.Binary at op a b)) (value_type_in s a) (value_type_in s b) (fewer s a) (fewer s b)).bare (fewer_bare a) (fewer_bare b)
    fewer_bare (plain.Assign at None a b) = (fewer_bare a, fewer_bare b)
    fewer_bare (plain.Assign at (Some op) a b) =
        (assignment_made P s.tags at (sign_of op (counts_unsigned op (type_in s a) (value_type_in s b))) op (type_in s a) (value_type_in s b) (fewer s a) (fewer s b)).bare (fewer_bare a) (fewer_bare b)
    fewer_bare (plain.Cond at a b c) = (fewer_bare a, fewer_bare b, fewer_bare c)
    fewer_bare (plain.Comma at a b) = (fewer_bare a, fewer_bare b)
    fewer_bare (plain.Cast at t a) = (written_bare s t, fewer_bare a)
    fewer_bare (plain.SizeTy at t) = tt
    fewer_bare (plain.SizeOf at a) = tt
    fewer_bare (plain.Index at a b) = (element_made P s.tags at (value_type_in s a) (value_type_in s b) (fewer s a) (fewer s b)).bare (fewer_bare a) (fewer_bare b)
    fewer_bare (plain.Call at f es) = (call_made at (fewer s f) es).bare (fewer_bare f) (all_bare es)
    fewer_bare (plain.Member at a m) = fewer_bare a
    fewer_bare (plain.Arrow at a m) = fewer_bare a

    all_bare : (es : CExprs) → AllBare (fewer_all s es)
    all_bare plain.NoExpr = tt
    all_bare (plain.MoreExpr e es) = (fewer_bare e, all_bare es)

  mutual
    pub names_before : (e : CExpr) → Each P (names_in (fewer s e)) → Each P (names_in e)
    names_before (plain.Number at n unsigned) h = tt
    names_before (plain.Str at text) h = tt
    names_before (plain.Null at) h = tt
    names_before (plain.Var at name) h = h
    names_before (plain.Unary at unary.Invert a) h = names_before a (each_left P (names_in (fewer s a)) [] h.1)
    names_before (plain.Unary at op a) h = names_before a h
    names_before (plain.Step at op a) h = names_before a ((step_made P s.tags at op (type_in s a) (fewer s a)).first h)
    names_before (plain.Binary at op a b) h =
        let m = operator_made P s.tags at (sign_of op (counts_unsigned op (value_type_in s a) (value_type_in s b))) op (type_in s (plain.Binary at op a b)) (value_type_in s a) (value_type_in s b) (fewer s a) (fewer s b) in
        each_both P (names_in a) (names_in b) (names_before a (m.first h)) (names_before b (m.second h))
    names_before (plain.Assign at None a b) h =
        each_both P (names_in a) (names_in b) (names_before a (each_left P (names_in (fewer s a)) (names_in (fewer s b)) h)) (names_before b (each_right P (names_in (fewer s a)) (names_in (fewer s b)) h))
    names_before (plain.Assign at (Some op) a b) h =
        let m = assignment_made P s.tags at (sign_of op (counts_unsigned op (type_in s a) (value_type_in s b))) op (type_in s a) (value_type_in s b) (fewer s a) (fewer s b) in
        each_both P (names_in a) (names_in b) (names_before a (m.first h)) (names_before b (m.second h))
    names_before (plain.Cond at a b c) h =
        let k = each_right P (names_in (fewer s a)) (names_in (fewer s b) ++ names_in (fewer s c)) h in
        each_both P (names_in a) (names_in b ++ names_in c) (names_before a (each_left P (names_in (fewer s a)) (names_in (fewer s b) ++ names_in (fewer s c)) h))
        (each_both P (names_in b) (names_in c) (names_before b (each_left P (names_in (fewer s b)) (names_in (fewer s c)) k)) (names_before c (each_right P (names_in (fewer s b)) (names_in (fewer s c)) k)))
    names_before (plain.Comma at a b) h =
        each_both P (names_in a) (names_in b) (names_before a (each_left P (names_in (fewer s a)) (names_in (fewer s b)) h)) (names_before b (each_right P (names_in (fewer s a)) (names_in (fewer s b)) h))
    names_before (plain.Cast at t a) h = names_before a h
    names_before (plain.SizeTy at t) h = tt
    names_before (plain.SizeOf at a) h = tt
    names_before (plain.Index at a b) h =
        let m = element_made P s.tags at (value_type_in s a) (value_type_in s b) (fewer s a) (fewer s b) in
        each_both P (names_in a) (names_in b) (names_before a (m.first h)) (names_before b (m.second h))
    names_before (plain.Call at f es) h =
        let m = call_made at (fewer s f) es in
        each_both P (names_in f) (names_in_all es) (names_before f (m.callee h)) (all_before es (m.arguments h))
    names_before (plain.Member at a m) h = names_before a h
    names_before (plain.Arrow at a m) h = names_before a h

    all_before : (es : CExprs) → Each P (names_in_all (fewer_all s es)) → Each P (names_in_all es)
    all_before plain.NoExpr h = tt
    all_before (plain.MoreExpr e es) h =
        each_both P (names_in e) (names_in_all es) (names_before e (each_left P (names_in (fewer s e)) (names_in_all (fewer_all s es)) h)) (all_before es (each_right P (names_in (fewer s e)) (names_in_all (fewer_all s es)) h))
