-- First values at file scope are within the limits, with fewer operators too.
use Rattle.std.proofs.Common.{ℕ, false, List, [], ◌∷◌, ◌++◌, map, Option, Some, None}
use Rattle.std.specs.Option.{option_map}
use Rattle.c_syntax.specs.Plain as plain
use Rattle.c_syntax.specs.Plain.{CExpr, CValue, CValues, CItem}
use Rattle.c_syntax.specs.declared.tree.UnOp.TheVariants as unary
use Rattle.c_types.specs.Scope.{Scope}
use Rattle.c_types.specs.Declarations.{declared, scope_or}
use Rattle.c_types.specs.Units.{item_judged}
use Rattle.c_types.specs.Census.{first_sum, items_sum}
use Rattle.c_eval.specs.Environment.{Environment}
use Rattle.c_eval.specs.Text.{behind_item}
use Rattle.c_valid.specs.Limited.{ExprIsLimited, ValueIsLimited, ValuesAreLimited, FirstIsLimited}
use Rattle.c_limited.proofs.Sums.{weight, wide, strange, Within, front, last, value_limited}
use Rattle.c_helpers.specs.Functions.{Helper}
use Rattle.c_helpers.specs.Fewer.{static_tree, with_values, with_all_values, fewer_in_items, function_of}
use Rattle.c_helpers.specs.Simple.{kept}
use Rattle.c_lowered.specs.Whole.{item_literals, file_literals}
use Rattle.c_laid.specs.Fits.{AllAreWords}
use Rattle.c_laid.proofs.Literals.{both_all, first_words}

-- of each object
abbrev pub FirstsAreLimited : List CItem → Type 0
FirstsAreLimited [] = Unit {0}
FirstsAreLimited (plain.Object d ∷ items) = FirstIsLimited d.first × FirstsAreLimited items
FirstsAreLimited (item ∷ items) = FirstsAreLimited items

-- ---- they are so in a text of little weight and of bytes

pub firsts_limited : (items : List CItem) (s : Scope) → Within (items_sum weight s items) (items_sum wide s items) (items_sum strange s items) → FirstsAreLimited items
firsts_limited [] s h = tt
firsts_limited (plain.Object d ∷ items) s h = (of_first d.first (last _ _ _ (front _ _ _ (last _ _ _ (front _ _ _ h)))), firsts_limited items (scope_or s (item_judged s (plain.Object d))) (last _ _ _ h))
  where
    of_first : (o : Option CValue) → Within (first_sum weight (scope_or s (declared s false d)) o) (first_sum wide (scope_or s (declared s false d)) o) (first_sum strange (scope_or s (declared s false d)) o) → FirstIsLimited o
    of_first None h = tt
    of_first (Some v) h = value_limited (scope_or s (declared s false d)) v h
firsts_limited (plain.StructItem tag ∷ items) s h = firsts_limited items (scope_or s (item_judged s (plain.StructItem tag))) (last _ _ _ h)
firsts_limited (plain.Function name at result params body ∷ items) s h = firsts_limited items (scope_or s (item_judged s (plain.Function name at result params body))) (last _ _ _ h)

-- ---- and with fewer operators

static_limited : (s : Scope) (e : CExpr) → ExprIsLimited e → ExprIsLimited (static_tree s e)
static_limited s (plain.Str at text) l = l
static_limited s (plain.Null at) l = tt
static_limited s (plain.Var at name) l = tt
static_limited s (plain.Unary at unary.Address a) l = l
static_limited s e l = tt

mutual
  value_static : (s : Scope) (v : CValue) → ValueIsLimited v → ValueIsLimited (with_values (static_tree s) v)
  value_static s (plain.One e) l = static_limited s e l
  value_static s (plain.Many vs) l = values_static s vs l

  values_static : (s : Scope) (vs : CValues) → ValuesAreLimited vs → ValuesAreLimited (with_all_values (static_tree s) vs)
  values_static s plain.NoValue l = tt
  values_static s (plain.MoreValue v vs) l = (value_static s v l.0, values_static s vs l.1)

first_static : (s : Scope) (o : Option CValue) → FirstIsLimited o → FirstIsLimited (option_map (with_values (static_tree s)) o)
first_static s None l = tt
first_static s (Some v) l = value_static s v l

fewer_limited : (items : List CItem) (s : Scope) → FirstsAreLimited items → FirstsAreLimited (fewer_in_items s items)
fewer_limited [] s l = tt
fewer_limited (plain.Object d ∷ items) s l = (first_static (scope_or s (item_judged s (plain.Object d))) d.first l.0, fewer_limited items (scope_or s (item_judged s (plain.Object d))) l.1)
fewer_limited (plain.StructItem tag ∷ items) s l = fewer_limited items (scope_or s (item_judged s (plain.StructItem tag))) l
fewer_limited (plain.Function name at result params body ∷ items) s l = fewer_limited items (scope_or s (item_judged s (plain.Function name at result params body))) l

kept_limited : (names : List (List ℕ)) (items : List CItem) → FirstsAreLimited items → FirstsAreLimited (map (kept names) items)
kept_limited names [] l = tt
kept_limited names (plain.Object d ∷ items) l = (l.0, kept_limited names items l.1)
kept_limited names (plain.StructItem tag ∷ items) l = kept_limited names items l
kept_limited names (plain.Function name at result params body ∷ items) l = kept_limited names items l

behind_helpers : (gs : List Helper) (items : List CItem) → FirstsAreLimited items → FirstsAreLimited (map function_of gs ++ items)
behind_helpers [] items l = l
behind_helpers (g ∷ gs) items l = behind_helpers gs items l

pub desugared_limited : (names : List (List ℕ)) (gs : List Helper) (items : List CItem) (s : Scope) → FirstsAreLimited items → FirstsAreLimited (map (kept names) (map function_of gs ++ fewer_in_items s items))
desugared_limited names gs items s l = kept_limited names (map function_of gs ++ fewer_in_items s items) (behind_helpers gs (fewer_in_items s items) (fewer_limited items s l))

-- ---- so their literals are words

pub file_words : (items : List CItem) (here : Environment) → FirstsAreLimited items → AllAreWords (file_literals items here)
file_words [] here l = tt
file_words (plain.Object d ∷ items) here l = both_all (item_literals (plain.Object d) here) (file_literals items (behind_item (plain.Object d) here)) (first_words (scope_or here.scope (item_judged here.scope (plain.Object d))) d.first l.0) (file_words items (behind_item (plain.Object d) here) l.1)
file_words (plain.StructItem tag ∷ items) here l = file_words items (behind_item (plain.StructItem tag) here) l
file_words (plain.Function name at result params body ∷ items) here l = file_words items (behind_item (plain.Function name at result params body) here) l
