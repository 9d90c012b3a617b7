-- Texts declare in blocks where they did.
use Rattle.std.proofs.Common.{ℕ, Bool, true, false, List, [], ◌∷◌, ◌++◌, map, Option, Some, None, Ok, Err, refl}
use Rattle.std.specs.Prelude.{if◌then◌else◌}
use Rattle.c_syntax.specs.Plain as plain
use Rattle.c_syntax.specs.Plain.{CTy, CDecl, CStmt, CItem}
use Rattle.c_types.specs.Refusals.{Judged}
use Rattle.c_types.specs.Scope.{Scope, contains}
use Rattle.c_types.specs.Declarations.{scope_or}
use Rattle.c_types.specs.Units.{Signature, signature, body_scope, item_judged, start_scope}
use Rattle.c_fitting.specs.Blocks.{IsNoDeclaration, DeclaresInBlocks, ItemDeclaresInBlocks, ItemsDeclareInBlocks}
use Rattle.c_helpers.specs.Functions.{Helper, functions, print_format}
use Rattle.c_helpers.specs.Fewer.{fewer_in_body, fewer_in_function, fewer_in_item, fewer_in_items, function_of, formats_in, helpers_for}
use Rattle.c_helpers.specs.Simple.{kept, reached, with_helpers}
use Rattle.c_fitting.specs.FewerBlocksLaws.{TextsStayInBlocks}
use Rattle.c_fitting.proofs.Staying.{stays, all_stay}
use Rattle.c_fitting.proofs.Helping.{functions_blocked, formats_blocked}

-- a body, which declares nothing itself
abbrev IsBody : CStmt → Type 0
IsBody t = DeclaresInBlocks t × IsNoDeclaration t

body_stays : (s : Scope) (t : CStmt) → IsBody t → IsBody (fewer_in_body s t)
body_stays s (plain.Block ss) h = (all_stay s ss h.0, refl)
body_stays s (plain.Local d) h = absurd (cc h.1)
body_stays s (plain.Do_expr e) h = (tt, refl)
body_stays s plain.Empty h = (tt, refl)
body_stays s (plain.If e t) h = (stays s (plain.If e t) h.0, refl)
body_stays s (plain.IfElse e t u) h = (stays s (plain.IfElse e t u) h.0, refl)
body_stays s (plain.While e t) h = (stays s (plain.While e t) h.0, refl)
body_stays s (plain.Do t e) h = (stays s (plain.Do t e) h.0, refl)
body_stays s (plain.For first test step t) h = (stays s (plain.For first test step t) h.0, refl)
body_stays s (plain.Return at e) h = (tt, refl)
body_stays s (plain.Break at) h = (tt, refl)
body_stays s (plain.Continue at) h = (tt, refl)
body_stays s (plain.Switch e ps) h = (stays s (plain.Switch e ps) h.0, refl)

function_stays : (s : Scope) (name : List ℕ) (f : Judged Signature) (t : CStmt) → IsBody t → IsBody (fewer_in_function s name f t)
function_stays s name (Ok f) t h = body_stays (body_scope s name f) t h
function_stays s name (Err e) t h = h

item_stays : (s : Scope) (item : CItem) → ItemDeclaresInBlocks item → ItemDeclaresInBlocks (fewer_in_item s item)
item_stays s (plain.StructItem tag) h = tt
item_stays s (plain.Object d) h = tt
item_stays s (plain.Function name at result params None) h = tt
item_stays s (plain.Function name at result params (Some body)) h = function_stays s name (signature s at result params) body h

items_stay : (s : Scope) (items : List CItem) → ItemsDeclareInBlocks items → ItemsDeclareInBlocks (fewer_in_items s items)
items_stay s [] h = tt
items_stay s (item ∷ items) h = (item_stays s item h.0, items_stay (scope_or s (item_judged s item)) items h.1)

-- ---- helper functions stand in front, and what isn't reached has no body

joined : (xs ys : List CItem) → ItemsDeclareInBlocks xs → ItemsDeclareInBlocks ys → ItemsDeclareInBlocks (xs ++ ys)
joined [] ys g h = h
joined (x ∷ xs) ys g h = (g.0, joined xs ys g.1 h)

maybe_kept : (b : Bool) (name : List ℕ) (at : ℕ) (result : CTy) (params : List CDecl) (body : Option CStmt) → ItemDeclaresInBlocks (plain.Function name at result params body) → ItemDeclaresInBlocks (plain.Function name at result params (if b then body else None))
maybe_kept true name at result params body h = h
maybe_kept false name at result params body h = tt

kept_stays : (names : List (List ℕ)) (item : CItem) → ItemDeclaresInBlocks item → ItemDeclaresInBlocks (kept names item)
kept_stays names (plain.StructItem tag) h = tt
kept_stays names (plain.Object d) h = tt
kept_stays names (plain.Function name at result params body) h = maybe_kept (contains names name) name at result params body h

all_kept : (names : List (List ℕ)) (items : List CItem) → ItemsDeclareInBlocks items → ItemsDeclareInBlocks (map (kept names) items)
all_kept names [] h = tt
all_kept names (item ∷ items) h = (kept_stays names item h.0, all_kept names items h.1)

both_mapped : (gs hs : List Helper) → ItemsDeclareInBlocks (map function_of gs) → ItemsDeclareInBlocks (map function_of hs) → ItemsDeclareInBlocks (map function_of (gs ++ hs))
both_mapped [] hs g h = h
both_mapped (x ∷ gs) hs g h = (g.0, both_mapped gs hs g.1 h)

helpers_blocked : (items : List CItem) → ItemsDeclareInBlocks (map function_of (helpers_for items))
helpers_blocked items =
    ((tt, refl), ((tt, refl), ((tt, refl), both_mapped functions (map print_format (formats_in items)) functions_blocked (formats_blocked (formats_in items)))))

pub texts_stay_in_blocks : TextsStayInBlocks
texts_stay_in_blocks u h =
    let items = fewer_in_items (start_scope u) u.items in
    all_kept (reached (with_helpers items)) (with_helpers items) (joined (map function_of (helpers_for items)) items (helpers_blocked items) (items_stay (start_scope u) u.items h))
