-- What typed statements count with fewer operators, by their nodes and the words of their objects.
use Rattle.std.proofs.Common.{◌≡◌, ℕ, ◌+◌, ◌*◌, ◌≤◌, max, false, List, [], ◌∷◌, ◌++◌, length, Option, Some, None, refl, sym, ap, ◌∙◌, subst, arith, replicate}
use Rattle.std.specs.Prelude.{Ok, not}
use Rattle.std.specs.Option.{option_map}
use Rattle.std.proofs.lemmas.List.{length-replicate}
use Rattle.std.proofs.lemmas.List.Sums.{sum_by-append}
use Rattle.c_syntax.specs.Plain as plain
use Rattle.c_syntax.specs.Plain.{CExpr, CValue, CValues, CDecl, CStmt, CStmts, CParts}
use Rattle.c_types.specs.declared.fault.TypeFault.TheVariants as fault
use Rattle.c_types.specs.Types.{CType, Tags, words_of}
use Rattle.c_types.specs.Refusals.{Judged, both, all_three, keeping}
use Rattle.c_types.specs.Scope.{Scope, Object, entered, with_name, is_declared_here}
use Rattle.c_types.specs.Operands.{Operand}
use Rattle.c_types.specs.Expressions.{judged}
use Rattle.c_types.specs.Declarations.{Site, Slots, first_slot, next_slots, slots_of, object_rules, site_rules, braces_rules, fitting, all_fitting, first_fitting, declared_type, declared_object, declared, scope_or}
use Rattle.c_types.specs.Statements.{Around, in_loop, in_switch, condition_rules, test_rules, return_rules, switch_rules, maybe_judged, CaseLabel, PartJudged, part_scope_or, stated, all_stated, part_judged, all_parts}
use Rattle.c_types.specs.Units.{body_judged}
use Rattle.c_types.specs.Census.{Tally, maybe_sum, value_sum, values_sum, first_sum, of_type, scope_behind, scope_behind_all, stmt_sum, stmts_sum, parts_sum, body_sum}
use Rattle.c_eval.specs.State.{Cell, Unset}
use Rattle.c_eval.specs.Environment.{Environment, type_or_void, object_type_in, objects_in, block_objects, parts_objects, past, past_maybe, past_stmt, behind, behind_all, in_block}
use Rattle.c_valid.proofs.Meanings.{scope_is, all_scope_is}
use Rattle.c_fewer_types.specs.Written.{StringsAreShort}
use Rattle.c_helpers.specs.Frames.{value_waiting, values_waiting, first_waiting}
use Rattle.c_helpers.specs.Cost.{maybe_cost, value_cost, values_cost, first_cost, stmt_cost, stmts_cost, parts_cost}
use Rattle.c_helpers.specs.Fewer.{fewer, maybe_fewer, with_values, with_all_values, fewer_in_declaration, fewer_in, fewer_in_all, fewer_in_parts, fewer_in_body}
use Rattle.c_lowered.specs.Statements.{words_in}
use Rattle.c_stated.specs.Statements.{maybe_need, stmt_need, stmts_need, parts_need}
use Rattle.c_stated.specs.Worth.{maybe_calls, first_calls, firsts_calls, maybe_first_calls, stmt_calls, stmts_calls, parts_calls}
use Rattle.c_fewer_types.proofs.Judged.{keeping_is}
use Rattle.c_fewer_types.specs.Standing.{IsTextName, StmtHas, StmtsHave, PartsHave, IsDeclaration}
use Rattle.c_fewer_types.proofs.FewerTypedRules.{after_is, both_is, three_is}
use Rattle.c_fewer_types.proofs.Texts.{given_too}
use Rattle.c_fewer_types.proofs.Behind.{stated_behind}
use Rattle.c_fewer_names.specs.FewerKnownLaws.{NamesAreOfText}
use Rattle.c_fewer_names.proofs.FewerKnownExpressions.{MaybeJudged}
use Rattle.c_rates.specs.Counts.{local_tally}
use Rattle.c_rates.proofs.Expressions.{expr_fits}
use Rattle.c_rates.proofs.Scopes.{in_text, behind_name, behind_stmt, behind_all_stmts, all_stated_behind, tags_behind, tags_behind_all, last_scope, label_same, item_same, typed_there}

-- ---- what is shown

-- of a statement of so many nodes, whose objects have so many words: the words that it wants with those of its own object, the cost, and the calls
abbrev Sound : Tags → CStmt → (w n : ℕ) → Type 0
Sound tags t w n = ((site : Environment) → site.scope.tags ≡ tags → words_in (objects_in site.scope t) + stmt_need t site ≤ w + 4 * n) × (stmt_cost t ≤ 30 * n) × (stmt_calls t ≤ n)

abbrev AllSound : Tags → CStmts → (w n : ℕ) → Type 0
AllSound tags ts w n = ((site : Environment) → site.scope.tags ≡ tags → words_in (block_objects site.scope ts) + stmts_need ts site ≤ w + 4 * n) × (stmts_cost ts ≤ 30 * n) × (stmts_calls ts ≤ n)

abbrev PartsSound : Tags → CParts → (w n : ℕ) → Type 0
PartsSound tags ps w n = ((site : Environment) → site.scope.tags ≡ tags → words_in (parts_objects site.scope ps) + parts_need ps site ≤ w + 4 * n) × (parts_cost ps ≤ 30 * n) × (parts_calls ps ≤ n)

abbrev MaybeFits : Option CExpr → ℕ → Type 0
MaybeFits o n = (maybe_need o ≤ 4 * n) × (maybe_cost o ≤ 30 * n) × (maybe_calls o ≤ n)

abbrev FirstFits : Option CValue → ℕ → Type 0
FirstFits o n = (first_waiting o ≤ 4 * n) × (first_cost o ≤ 30 * n) × (maybe_first_calls o ≤ n)

joined_words : (xs ys : List (List Cell)) → words_in (xs ++ ys) ≡ words_in xs + words_in ys
joined_words xs ys = sum_by-append length xs ys

module _ (c : Tally) (own : (s : Scope) (e : CExpr) → 1 ≤ c.expr s e) (node : 1 ≤ c.node) where
  -- ---- expressions that may be missing, and first values

  maybe_fits : (s : Scope) (o : Option CExpr) → NamesAreOfText s → MaybeJudged s o → MaybeFits (maybe_fewer s o) (maybe_sum c s o)
  maybe_fits s None a k = (omega arith, omega arith, omega arith)
  maybe_fits s (Some e) a k = let f = expr_fits c own s a s e k.0 k.1 in (f.0, f.1, f.2)

  module _ (s : Scope) (a : NamesAreOfText s) (site : Site) where
    mutual
      value_fits : (t : Option CType) (v : CValue) (u : Unit {0}) → fitting s site t v ≡ Ok u → (value_waiting (with_values (fewer s) v) ≤ 4 * value_sum c s v) × (value_cost (with_values (fewer s) v) ≤ 30 * value_sum c s v) × (first_calls (with_values (fewer s) v) ≤ value_sum c s v)
      value_fits t (plain.One e) u k =
          let l = after_is (judged s e) (λ x. keeping (object_rules t e x ++ site_rules site.file e x) tt) u k in let f = expr_fits c own s a s e l.0 l.1 in
          let w = f.0 in let d = f.1 in let v = f.2 in (omega (arith, w, node), omega (arith, d, node), omega (arith, v))
      value_fits t (plain.Many vs) u k =
          let l = after_is (all_fitting s site (slots_of s.tags t) vs) (λ _. keeping (braces_rules site.pos (slots_of s.tags t) vs) tt) u k in let f = values_fit (slots_of s.tags t) vs l.0 l.1 in
          let w = f.0 in let d = f.1 in let v = f.2 in (omega (arith, w, node), omega (arith, d, node), omega (arith, v))

      values_fit : (slots : Slots) (vs : CValues) (u : Unit {0}) → all_fitting s site slots vs ≡ Ok u → (values_waiting (with_all_values (fewer s) vs) ≤ 1 + 4 * values_sum c s vs) × (values_cost (with_all_values (fewer s) vs) ≤ 30 * values_sum c s vs) × (firsts_calls (with_all_values (fewer s) vs) ≤ values_sum c s vs)
      values_fit slots plain.NoValue u k = (omega arith, omega arith, omega arith)
      values_fit slots (plain.MoreValue v vs) u k =
          let l = both_is (fitting s site (first_slot slots) v) (all_fitting s site (next_slots slots) vs) (λ _ _. Ok tt) u k in
          let f = value_fits (first_slot slots) v l.0 l.1.1 in let g = values_fit (next_slots slots) vs l.1.0 l.1.2 in
          let w = f.0 in let d = f.1 in let x = f.2 in let y = g.0 in let z = g.1 in let i = g.2 in
          (omega (arith, w, y), omega (arith, d, z), omega (arith, x, i))

    first_fits : (t : CType) (o : Option CValue) (u : Unit {0}) → first_fitting s site t o ≡ Ok u → FirstFits (option_map (with_values (fewer s)) o) (first_sum c s o)
    first_fits t None u k = (omega arith, omega arith, omega arith)
    first_fits t (Some v) u k = value_fits (Some t) v u k

  -- ---- declarations

  local_sound : (s : Scope) (d : CDecl) (r : Scope) → NamesAreOfText s → IsTextName d.name → declared s false d ≡ Ok r → Sound s.tags (fewer_in s (plain.Local d)) (stmt_sum local_tally s (plain.Local d)) (stmt_sum c s (plain.Local d))
  local_sound s d r a text e =
      let k = after_is (declared_type s d) (λ t. declared_object s false d t) r e in
      let inner : Scope = with_name s d.name (Object k.0) in
      let site : Site = record { file = false; pos = d.pos } in
      let l = after_is (first_fitting inner site k.0 d.first) (λ _. keeping ((not (is_declared_here s d.name), fault.Twice d.pos) ∷ []) inner) r k.2 in
      let m = keeping_is {A = Scope} ((not (is_declared_here s d.name), fault.Twice d.pos) ∷ []) inner r l.2 in
      let there : scope_or s (declared s false d) ≡ inner = ap (λ q. scope_or s q) e ∙ sym m.1 in
      let f : FirstFits (option_map (with_values (fewer (scope_or s (declared s false d)))) d.first) (first_sum c (scope_or s (declared s false d)) d.first) =
      subst (λ z. FirstFits (option_map (with_values (fewer z)) d.first) (first_sum c z d.first)) (sym there) (first_fits inner (behind_name s d.name k.0 text a) site k.0 d.first l.0 l.1) in
      let has : of_type (λ t. 0 + words_of s.tags t) (declared_type s d) ≡ 0 + words_of s.tags k.0 = ap (λ q. of_type (λ t. 0 + words_of s.tags t) q) k.1 in
      let w = f.0 in let x = f.1 in let y = f.2 in
      ((λ z tags. let same = words_there z k.0 k.1 tags in omega (arith, w, has, same)), omega (arith, x, node), omega (arith, y))
    where
      changed : CDecl
      changed = fewer_in_declaration s (fewer (scope_behind s (plain.Local d))) d

      words_there : (z : Environment) (t : CType) → declared_type s d ≡ Ok t → z.scope.tags ≡ s.tags → words_in (objects_in z.scope (plain.Local changed)) ≡ words_of s.tags t
      words_there z t k tags =
          let type : object_type_in z.scope changed ≡ t = ap type_or_void (typed_there s z.scope d (fewer (scope_behind s (plain.Local d))) t (λ e u. given_too (scope_behind s (plain.Local d)) e u) (sym tags) k) in
          let long : length (replicate (words_of z.scope.tags (object_type_in z.scope changed)) Unset) ≡ words_of z.scope.tags (object_type_in z.scope changed) = length-replicate (words_of z.scope.tags (object_type_in z.scope changed)) Unset in
          let same : words_of z.scope.tags (object_type_in z.scope changed) ≡ words_of s.tags t = λ i. words_of (tags i) (type i) in
          omega (arith, long, same)

  -- ---- statements

  abbrev IsSound : CStmt → Type 0
  IsSound t = (s : Scope) (w : Around) (r : Scope) → NamesAreOfText s → StmtHas StringsAreShort IsDeclaration t → stated s w t ≡ Ok r → Sound s.tags (fewer_in s t) (stmt_sum local_tally s t) (stmt_sum c s t)

  abbrev AreSound : CStmts → Type 0
  AreSound ts = (s : Scope) (w : Around) (r : Scope) → NamesAreOfText s → StmtsHave StringsAreShort IsDeclaration ts → all_stated s w ts ≡ Ok r → AllSound s.tags (fewer_in_all s ts) (stmts_sum local_tally s ts) (stmts_sum c s ts)

  maybe_is : (s : Scope) (o : Option CExpr) (q : Option Operand) → maybe_judged s o ≡ Ok q → MaybeJudged s o
  maybe_is s None q e = tt
  maybe_is s (Some x) q e = let l = after_is (judged s x) (λ y. Ok (Some y)) q e in (l.0, l.1)

  -- the tests and the step of a `for`
  heads_fit : (s : Scope) (test step : Option CExpr) (q : Option Operand) → NamesAreOfText s → both {C = Option Operand} (maybe_judged s test) (maybe_judged s step) (λ a _. Ok a) ≡ Ok q → MaybeFits (maybe_fewer s test) (maybe_sum c s test) × MaybeFits (maybe_fewer s step) (maybe_sum c s step)
  heads_fit s test step q a e =
      let l = both_is {C = Option Operand} (maybe_judged s test) (maybe_judged s step) (λ a _. Ok a) q e in
      (maybe_fits s test a (maybe_is s test l.0 l.1.1), maybe_fits s step a (maybe_is s step l.1.0 l.1.2))

  block_for : (ss : CStmts) (test step : Option CExpr) (t : CStmt) → AreSound ss → IsSound t → IsSound (plain.For (plain.Block ss) test step t)
  block_for ss test step t all body s w r a h e =
      let head : Judged Scope = all_stated (entered s) w ss in
      let inner : Scope = scope_or s head in
      let k = three_is head (both (maybe_judged inner test) (maybe_judged inner step) (λ a _. Ok a)) (stated inner (in_loop w) t) (λ _ a _. keeping (test_rules a) s) r e in
      let behind : Scope = scope_behind_all (entered s) ss in
      let there : inner ≡ behind = ap (λ j. scope_or s j) k.1.1.1 ∙ sym (all_stated_behind ss (entered s) w k.0 k.1.1.1) in
      let b : NamesAreOfText behind = behind_all_stmts (entered s) ss h.1 (in_text s a) in
      let tags : behind.tags ≡ s.tags = tags_behind_all (entered s) ss in
      let f = all (entered s) w k.0 (in_text s a) h.1 k.1.1.1 in
      let g = heads_fit behind test step k.1.0 b (subst (λ z. both {C = Option Operand} (maybe_judged z test) (maybe_judged z step) (λ a _. Ok a) ≡ Ok k.1.0) there k.1.1.2) in
      let i = body behind (in_loop w) k.1.1.0 b h.4 (subst (λ z. stated z (in_loop w) t ≡ Ok k.1.1.0) there k.1.1.3) in
      let w1 = g.0.0 in let w2 = g.1.0 in let d0 = f.1 in let d1 = g.0.1 in let d2 = g.1.1 in let d3 = i.1 in let u0 = f.2 in let u1 = g.0.2 in let u2 = g.1.2 in let u3 = i.2 in
      let ss' : CStmts = fewer_in_all (entered s) ss in (
        (λ site same.
            let x = f.0 (in_block 0 site) same in
            let y = i.0 (past_maybe (maybe_fewer behind step) (past_maybe (maybe_fewer behind test) (behind_all ss' (in_block 0 site)))) (ap (λ (z : Scope). z.tags) (last_scope (maybe_fewer behind test) (maybe_fewer behind step) (behind_all ss' (in_block 0 site)) ∙ all_scope_is ss' (in_block 0 site)) ∙ (tags_behind_all (entered site.scope) ss' ∙ (same ∙ sym tags))) in
            omega (arith, x, y, w1, w2)),
        omega (arith, d0, d1, d2, d3, node),
        omega (arith, u0, u1, u2, u3),
      )

  -- one whose head declares nothing
  abbrev for_nodes : Tally → Scope → CStmt → Option CExpr → Option CExpr → CStmt → ℕ
  for_nodes k s first test step t = k.node + stmt_sum k s first + maybe_sum k s test + maybe_sum k s step + stmt_sum k s t

  other_for : (first : CStmt) (test step : Option CExpr) (t : CStmt) (s : Scope) (w : Around) (r : Scope) → IsSound first → IsSound t → ((site : Environment) → (behind (fewer_in s first) site).scope ≡ site.scope) → NamesAreOfText s → StmtHas StringsAreShort IsDeclaration first → StmtHas StringsAreShort IsDeclaration t
      → all_three (stated s w first) (both (maybe_judged s test) (maybe_judged s step) (λ a _. Ok a)) (stated s (in_loop w) t) (λ _ a _. keeping (test_rules a) s) ≡ Ok r
      → ((site : Environment) → site.scope.tags ≡ s.tags → 0 + max (stmt_need (fewer_in s first) site) (max (maybe_need (maybe_fewer s test)) (max (maybe_need (maybe_fewer s step)) (stmt_need (fewer_in s t) (past_maybe (maybe_fewer s step) (past_maybe (maybe_fewer s test) (behind (fewer_in s first) site)))))) ≤ for_nodes local_tally s first test step t + 4 * for_nodes c s first test step t)
      × (8 + stmt_cost (fewer_in s first) + maybe_cost (maybe_fewer s test) + maybe_cost (maybe_fewer s step) + stmt_cost (fewer_in s t) ≤ 30 * for_nodes c s first test step t)
      × (stmt_calls (fewer_in s first) + (maybe_calls (maybe_fewer s test) + (maybe_calls (maybe_fewer s step) + stmt_calls (fewer_in s t))) ≤ for_nodes c s first test step t)
  other_for first test step t s w r head body there a hf ht e =
      let k = three_is (stated s w first) (both (maybe_judged s test) (maybe_judged s step) (λ a _. Ok a)) (stated s (in_loop w) t) (λ _ a _. keeping (test_rules a) s) r e in
      let f = head s w k.0 a hf k.1.1.1 in
      let g = heads_fit s test step k.1.0 a k.1.1.2 in
      let i = body s (in_loop w) k.1.1.0 a ht k.1.1.3 in
      let w1 = g.0.0 in let w2 = g.1.0 in let d0 = f.1 in let d1 = g.0.1 in let d2 = g.1.1 in let d3 = i.1 in let u0 = f.2 in let u1 = g.0.2 in let u2 = g.1.2 in let u3 = i.2 in (
        (λ site same.
            let x = f.0 site same in
            let y = i.0 (past_maybe (maybe_fewer s step) (past_maybe (maybe_fewer s test) (behind (fewer_in s first) site))) (ap (λ (z : Scope). z.tags) (last_scope (maybe_fewer s test) (maybe_fewer s step) (behind (fewer_in s first) site) ∙ there site) ∙ same) in
            omega (arith, x, y, w1, w2)),
        omega (arith, d0, d1, d2, d3, node),
        omega (arith, u0, u1, u2, u3),
      )

  abbrev Within : CStmt → Type 0
  Within (plain.Block ss) = AreSound ss
  Within t = Unit {0}

  for_sound : (first : CStmt) (test step : Option CExpr) (t : CStmt) → IsSound first → Within first → IsSound t → IsSound (plain.For first test step t)
  for_sound (plain.Block ss) test step t head all body s w r a h e = block_for ss test step t all body s w r a h e
  for_sound (plain.Local d) test step t head all body s w r a h e = absurd (cc h.0)
  for_sound first test step t head all body s w r a h e = other_for first test step t s w r head body (λ site. refl) a h.1 h.4 e

  abbrev PartsAreJudged : Scope → Around → CParts → Type 0
  PartsAreJudged s w ps = (labels : List CaseLabel) × (all_parts s w ps ≡ Ok labels)

  mutual
    stmt_sound : (t : CStmt) → IsSound t
    stmt_sound (plain.Block ss) s w r a h e =
        let k = after_is (all_stated (entered s) w ss) (λ _. Ok s) r e in let f = all_sound ss (entered s) w k.0 (in_text s a) h k.1 in
        let d = f.1 in let u = f.2 in
        ((λ site same. let x = f.0 (in_block 0 site) same in omega (arith, x)), omega (arith, d, node), omega (arith, u))
    stmt_sound (plain.Local d) s w r a h e = local_sound s d r a h.0.0 e
    stmt_sound (plain.Do_expr x) s w r a h e =
        let k = after_is (judged s x) (λ _. Ok s) r e in let f = expr_fits c own s a s x k.0 k.1 in
        let y = f.0 in let d = f.1 in let u = f.2 in
        ((λ site same. omega (arith, y)), omega (arith, d), omega (arith, u))
    stmt_sound plain.Empty s w r a h e = ((λ site same. omega arith), omega (arith, node), omega arith)
    stmt_sound (plain.If x t) s w r a h e =
        let k = both_is (judged s x) (stated s w t) (λ a _. keeping (condition_rules a) s) r e in
        let f = expr_fits c own s a s x k.0 k.1.1 in let g = stmt_sound t s w k.1.0 a h.1 k.1.2 in
        let y = f.0 in let d = f.1 in let u = f.2 in let d1 = g.1 in let u1 = g.2 in
        ((λ site same. let z = g.0 (past (fewer s x) site) same in omega (arith, y, z)), omega (arith, d, d1, node), omega (arith, u, u1))
    stmt_sound (plain.IfElse x t v) s w r a h e =
        let k = three_is (judged s x) (stated s w t) (stated s w v) (λ a _ _. keeping (condition_rules a) s) r e in
        let f = expr_fits c own s a s x k.0 k.1.1.1 in let g = stmt_sound t s w k.1.0 a h.1 k.1.1.2 in let i = stmt_sound v s w k.1.1.0 a h.2 k.1.1.3 in
        let y = f.0 in let d = f.1 in let u = f.2 in let d1 = g.1 in let u1 = g.2 in let d2 = i.1 in let u2 = i.2 in
        ((λ site same. let z = g.0 (past (fewer s x) site) same in let z2 = i.0 (past_stmt (fewer_in s t) (past (fewer s x) site)) same in omega (arith, y, z, z2)), omega (arith, d, d1, d2, node), omega (arith, u, u1, u2))
    stmt_sound (plain.While x t) s w r a h e =
        let k = both_is (judged s x) (stated s (in_loop w) t) (λ a _. keeping (condition_rules a) s) r e in
        let f = expr_fits c own s a s x k.0 k.1.1 in let g = stmt_sound t s (in_loop w) k.1.0 a h.1 k.1.2 in
        let y = f.0 in let d = f.1 in let u = f.2 in let d1 = g.1 in let u1 = g.2 in
        ((λ site same. let z = g.0 (past (fewer s x) site) same in omega (arith, y, z)), omega (arith, d, d1, node), omega (arith, u, u1))
    stmt_sound (plain.Do t x) s w r a h e =
        let k = both_is (judged s x) (stated s (in_loop w) t) (λ a _. keeping (condition_rules a) s) r e in
        let f = expr_fits c own s a s x k.0 k.1.1 in let g = stmt_sound t s (in_loop w) k.1.0 a h.1 k.1.2 in
        let y = f.0 in let d = f.1 in let u = f.2 in let d1 = g.1 in let u1 = g.2 in
        ((λ site same. let z = g.0 site same in omega (arith, y, z)), omega (arith, d, d1, node), omega (arith, u, u1))
    stmt_sound (plain.For first test step t) s w r a h e = for_sound first test step t (λ s w r a h e. stmt_sound first s w r a h e) (within first) (λ s w r a h e. stmt_sound t s w r a h e) s w r a h e
    stmt_sound (plain.Return at x) s w r a h e =
        let k = after_is (maybe_judged s x) (λ o. keeping (return_rules at w.result o) s) r e in let f = maybe_fits s x a (maybe_is s x k.0 k.1) in
        let y = f.0 in let d = f.1 in let u = f.2 in
        ((λ site same. omega (arith, y)), omega (arith, d, node), omega (arith, u))
    stmt_sound (plain.Break at) s w r a h e = ((λ site same. omega arith), omega (arith, node), omega arith)
    stmt_sound (plain.Continue at) s w r a h e = ((λ site same. omega arith), omega (arith, node), omega arith)
    stmt_sound (plain.Switch x ps) s w r a h e =
        let k = both_is (judged s x) (all_parts (entered s) (in_switch w) ps) (λ a labels. keeping (switch_rules a labels) s) r e in
        let f = expr_fits c own s a s x k.0 k.1.1 in let g = parts_sound ps (entered s) (in_switch w) (in_text s a) h.1 (k.1.0, k.1.2) in
        let y = f.0 in let d = f.1 in let u = f.2 in let d1 = g.1 in let u1 = g.2 in
        ((λ site same. let z = g.0 (in_block 0 (past (fewer s x) site)) same in omega (arith, y, z)), omega (arith, d, d1, node), omega (arith, u, u1))

    within : (t : CStmt) → Within t
    within (plain.Block ss) = λ s w r a h e. all_sound ss s w r a h e
    within t = tt

    all_sound : (ss : CStmts) → AreSound ss
    all_sound plain.NoStmt s w r a h e = ((λ site same. omega arith), omega arith, omega arith)
    all_sound (plain.MoreStmt t ts) s w r a h e =
        let k = both_is (stated s w t) (all_stated (scope_or s (stated s w t)) w ts) (λ _ inner. Ok inner) r e in
        let inner : all_stated (scope_behind s t) w ts ≡ Ok k.1.0 = subst (λ z. all_stated z w ts ≡ Ok k.1.0) (ap (λ q. scope_or s q) k.1.1 ∙ sym (stated_behind s w t k.0 k.1.1)) k.1.2 in
        let f = stmt_sound t s w k.0 a h.0 k.1.1 in let g = all_sound ts (scope_behind s t) w k.1.0 (behind_stmt s t h.0 a) h.1 inner in
        let d = f.1 in let u = f.2 in let d1 = g.1 in let u1 = g.2 in
        let t' : CStmt = fewer_in s t in
        let ts' : CStmts = fewer_in_all (scope_behind s t) ts in (
          (λ site same.
              let next : (behind t' site).scope ≡ scope_behind site.scope t' = scope_is t' site in
              let y = f.0 site same in
              let z = g.0 (behind t' site) (ap (λ (v : Scope). v.tags) next ∙ (tags_behind site.scope t' ∙ (same ∙ sym (tags_behind s t)))) in
              let z2 : words_in (block_objects (scope_behind site.scope t') ts') + stmts_need ts' (behind t' site) ≤ stmts_sum local_tally (scope_behind s t) ts + 4 * stmts_sum c (scope_behind s t) ts = subst (λ v. words_in (block_objects v ts') + stmts_need ts' (behind t' site) ≤ stmts_sum local_tally (scope_behind s t) ts + 4 * stmts_sum c (scope_behind s t) ts) next z in
              let j = joined_words (objects_in site.scope t') (block_objects (scope_behind site.scope t') ts') in
              omega (arith, y, z2, j)),
          omega (arith, d, d1),
          omega (arith, u, u1),
        )

    parts_sound : (ps : CParts) (s : Scope) (w : Around) → NamesAreOfText s → PartsHave StringsAreShort IsDeclaration ps → PartsAreJudged s w ps → PartsSound s.tags (fewer_in_parts s ps) (parts_sum local_tally s ps) (parts_sum c s ps)
    parts_sound plain.NoPart s w a h e = ((λ site same. omega arith), omega arith, omega arith)
    parts_sound (plain.MorePart (plain.Label at x) ps) s w a h e =
        let k = both_is (part_judged s w (plain.Label at x)) (all_parts (part_scope_or s (part_judged s w (plain.Label at x))) w ps) (λ (part : PartJudged) labels. Ok (part.labels ++ labels)) e.0 e.1 in
        let g = parts_sound ps s w a h.1 (k.1.0, subst (λ y. all_parts y w ps ≡ Ok k.1.0) (label_same s at (maybe_judged s x)) k.1.2) in
        let d = g.1 in let u = g.2 in
        ((λ site same. let z = g.0 site same in omega (arith, z)), omega (arith, d, node), omega (arith, u))
    parts_sound (plain.MorePart (plain.Item t) ps) s w a h e =
        let k = both_is (part_judged s w (plain.Item t)) (all_parts (part_scope_or s (part_judged s w (plain.Item t))) w ps) (λ (part : PartJudged) labels. Ok (part.labels ++ labels)) e.0 e.1 in
        let m = after_is (stated s w t) (λ inner. Ok (record { scope = inner; labels = [] })) k.0 k.1.1 in
        let goes : part_scope_or s (part_judged s w (plain.Item t)) ≡ scope_behind s t = item_same s (stated s w t) m.0 m.1 ∙ sym (stated_behind s w t m.0 m.1) in
        let f = stmt_sound t s w m.0 a h.0 m.1 in let g = parts_sound ps (scope_behind s t) w (behind_stmt s t h.0 a) h.1 (k.1.0, subst (λ y. all_parts y w ps ≡ Ok k.1.0) goes k.1.2) in
        let d = f.1 in let u = f.2 in let d1 = g.1 in let u1 = g.2 in
        let t' : CStmt = fewer_in s t in
        let ps' : CParts = fewer_in_parts (scope_behind s t) ps in (
          (λ site same.
              let next : (behind t' site).scope ≡ scope_behind site.scope t' = scope_is t' site in
              let y = f.0 site same in
              let z = g.0 (behind t' site) (ap (λ (v : Scope). v.tags) next ∙ (tags_behind site.scope t' ∙ (same ∙ sym (tags_behind s t)))) in
              let z2 : words_in (parts_objects (scope_behind site.scope t') ps') + parts_need ps' (behind t' site) ≤ parts_sum local_tally (scope_behind s t) ps + 4 * parts_sum c (scope_behind s t) ps = subst (λ v. words_in (parts_objects v ps') + parts_need ps' (behind t' site) ≤ parts_sum local_tally (scope_behind s t) ps + 4 * parts_sum c (scope_behind s t) ps) next z in
              let j = joined_words (objects_in site.scope t') (parts_objects (scope_behind site.scope t') ps') in
              omega (arith, y, z2, j)),
          omega (arith, d, d1),
          omega (arith, u, u1),
        )

  -- a body shares its scope with the parameters
  pub body_sound : (body : CStmt) (s : Scope) (w : Around) (r : Scope) → NamesAreOfText s → StmtHas StringsAreShort IsDeclaration body → body_judged s w (Some body) ≡ Ok r → Sound s.tags (fewer_in_body s body) (body_sum local_tally s body) (body_sum c s body)
  body_sound (plain.Block ss) s w r a h e =
      let f = all_sound ss s w r a h e in let d = f.1 in let u = f.2 in
      ((λ site same. let x = f.0 (in_block 0 site) same in omega (arith, x)), omega (arith, d, node), omega (arith, u))
  body_sound t s w r a h e = stmt_sound t s w r a h e
