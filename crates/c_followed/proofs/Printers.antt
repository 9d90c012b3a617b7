-- The bodies of functions that print.
use Rattle.std.proofs.Common.{◌≡◌, ℕ, zero, suc, ◌+◌, ◌^◌, ◌<◌, ◌≤◌, Bool, false, List, [], ◌++◌, length, Option, Some, None, refl, sym, ap, ◌∙◌, subst, arith}
use Rattle.eir_core.specs.Step.{with_reg}
use Rattle.eir_core.specs.declared.ops.Reg.TheVariants.{A}
use Rattle.eir_core.specs.declared.ops.Op.TheVariants.{Mov}
use Rattle.c_syntax.specs.Plain as plain
use Rattle.c_syntax.specs.Plain.{CExpr, CStmts, NoStmt, MoreStmt, Block, Local, Do_expr, Empty, If, IfElse, While, Do, For, Return, Break, Continue, Switch}
use Rattle.c_types.specs.Types.{CTypes, NoType, MoreType}
use Rattle.c_types.specs.Scope.{Scope, Entity, Object, Routine, BuiltIn, Printf, entity_of, entered}
use Rattle.c_types.specs.Expressions.{format_of}
use Rattle.c_types.specs.Census.{scope_behind}
use Rattle.c_eval.specs.State.{Missing, State, Run}
use Rattle.c_eval.specs.Run.{◌>>=◌, after, give, spend, paid}
use Rattle.c_eval.specs.Operators.{used, all_converted}
use Rattle.c_eval.specs.Environment.{Environment, block_objects, past, behind, in_block, Callee, Direct, function_parameters, named_callee, callee_in}
use Rattle.c_eval.specs.Eval as evaluation
use Rattle.c_eval.specs.Eval.{World, Flow, Next, go_on, value_of, values_of, values_behind, does, all_do}
use Rattle.c_helpers.specs.Functions.{unit_name, spend_unit}
use Rattle.c_helpers.specs.Terms.{variable}
use Rattle.c_place.specs.Place.{behind as place_behind, behind_all as place_behind_all, Machine}
use Rattle.c_place.proofs.Running.{one_quiet}
use Rattle.c_lowered.specs.Locations.{Location, Linking, framed}
use Rattle.c_lowered.specs.Operations.{constant}
use Rattle.c_lowered.specs.Counts.{stmt_jumps, stmts_jumps}
use Rattle.c_lowered.specs.Statements.{Targets, words_in, stmts_code}
use Rattle.c_lowered.proofs.Flowing.{stmt_jumps_are}
use Rattle.c_memory.specs.Follows.{Fuel, fuel_of, here}
use Rattle.c_memory.proofs.Following.{unit_follows, unit_then, wider, give_follows}
use Rattle.c_landing.specs.Landing.{Names, placed, Setting}
use Rattle.c_landing.specs.Few.{Agrees}
use Rattle.c_landing.proofs.Landing.{F, left_here}
use Rattle.c_landing.proofs.Pieces.{ready_same}
use Rattle.c_valued.specs.Calls.{UnitPays, with_names, CallsLand, KnownIsFunction}
use Rattle.c_stated.specs.Flows.{FlowReached, Performs}
use Rattle.c_stated.specs.Laws.{AllStated}
use Rattle.c_stated.specs.Statements.{MaybeHas, MaybeValued, StmtsHas, stmts_need, stmts_steps}
use Rattle.c_stated.specs.Texts.{ExprIs, DeclarationIs}
use Rattle.c_stated.proofs.Blocks.{AreUnset, block_performs}
use Rattle.c_stated.proofs.Flowing.{ready_spent}
use Rattle.c_stated.proofs.Parts.{performs_within}
use Rattle.c_stated.proofs.Statements.{do_stated, more_stated, return_stated}
use Rattle.c_stated.proofs.Texts.{expr_valued}
use Rattle.c_followed.specs.Bodies.{PerformedBy}
use Rattle.c_followed.specs.Printed.{AreStraight}

-- ---- the first statement

direct_callee : (x : Option Entity) → KnownIsFunction (Some unit_name) (named_callee unit_name x) → (params : CTypes) × (named_callee unit_name x ≡ Direct unit_name params)
direct_callee (Some (Object t)) h = absurd h
direct_callee (Some (Routine t begun)) h = (function_parameters t, refl)
direct_callee (Some (BuiltIn t)) h = absurd h
direct_callee (Some Printf) h = absurd h
direct_callee None h = absurd h

none_converted : (params : CTypes) → all_converted params [] ≡ []
none_converted NoType = refl
none_converted (MoreType t ts) = refl

-- a unit is spent, and then comes what follows
module _ (w : World) (here_is : Environment) (st : State) (k : Flow → Run Flow) (spends : w.calls unit_name [] st ≡ paid false (give Missing) st) where
  turn : (l : ℕ) → after (after (spend (give Missing) l st) (λ _. give Next)) k ≡ spend (k Next) l st
  unfolding spend after give
  turn zero = refl
  turn (suc l) = refl

  abbrev SpendsBy : Callee → Type 0
  SpendsBy c = after (after (evaluation.call w c (format_of plain.NoExpr) (value_of (variable unit_name) w here_is >>= used) (values_of plain.NoExpr w (past (variable unit_name) here_is)) (values_behind plain.NoExpr w here_is) st) (λ _. give Next)) k ≡ paid false (k Next) st

  by_name : (params : CTypes) → SpendsBy (Direct unit_name params)
  unfolding evaluation.call ◌>>=◌ after give paid
  by_name params =
      let same : w.calls unit_name (all_converted params []) st ≡ paid false (give Missing) st = ap (λ vs. w.calls unit_name vs st) (none_converted params) ∙ spends in
      ap (λ o. after (after o (λ _. give Next)) k) same ∙ turn st.left

  pub spent : (params : CTypes) (deep : ℕ) → callee_in here_is.scope (variable unit_name) ≡ Direct unit_name params → (does spend_unit deep w here_is >>= k) st ≡ paid false (k Next) st
  unfolding ◌>>=◌
  spent params deep e = subst SpendsBy (sym e) (by_name params)

-- ---- bodies

module _ (S : Setting) (w : World) (agrees : Agrees S w) (u rate : ℕ) (may : Callee → Bool) (land : CallsLand S w u may) (unit : UnitPays S.mode false rate) (spends : (st : State) → S.mode.gauge (fuel_of st) < S.deep → w.calls unit_name [] st ≡ paid false (give Missing) st) where
  abbrev Z : List Location → Names → Names → Setting
  Z bases coded named = with_names S bases coded named

  abbrev L : List Location → Linking
  L bases = record S.linking { bases = bases }

  maybe_valued : (e : Option CExpr) (site : Environment) → MaybeHas (λ e site. ExprIs S w may e site) e site → MaybeValued S w u e site
  maybe_valued None site h = tt
  maybe_valued (Some e) site h = expr_valued S w agrees u may land e site h

  pub straight_stated : (ts : CStmts) (site : Environment) → AreStraight ts → StmtsHas (λ e site. ExprIs S w may e site) (λ d site. DeclarationIs S w may d site) ts site → AllStated S w u ts site
  straight_stated NoStmt site h x = λ bases coded named k d n i o to some room lt lb lc. record { at = λ s bs st m eq stands r pending. give_follows S.program S.input S.mode Next s m st 0 _ (record { goes = refl; bases = bs; left = left_here (Z bases coded named) bs st m d n r; means = tt }) }
  straight_stated (MoreStmt (Do_expr e) ts) site h x = more_stated S w agrees u (Do_expr e) ts site tt (do_stated S w agrees u e site (expr_valued S w agrees u may land _ site x.0)) (straight_stated ts (behind (Do_expr e) site) h x.1)
  straight_stated (MoreStmt (Return at e) ts) site h x = more_stated S w agrees u (Return at e) ts site tt (return_stated S w agrees u at e site (maybe_valued e site x.0)) (straight_stated ts (behind (Return at e) site) h x.1)
  straight_stated (MoreStmt (Block ss) ts) site h x = absurd h
  straight_stated (MoreStmt (Local d) ts) site h x = absurd h
  straight_stated (MoreStmt Empty ts) site h x = absurd h
  straight_stated (MoreStmt (If e a) ts) site h x = absurd h
  straight_stated (MoreStmt (IfElse e a b) ts) site h x = absurd h
  straight_stated (MoreStmt (While e a) ts) site h x = absurd h
  straight_stated (MoreStmt (Do a e) ts) site h x = absurd h
  straight_stated (MoreStmt (For a b c d) ts) site h x = absurd h
  straight_stated (MoreStmt (Break at) ts) site h x = absurd h
  straight_stated (MoreStmt (Continue at) ts) site h x = absurd h
  straight_stated (MoreStmt (Switch e ps) ts) site h x = absurd h

  pub straight_unset : (ts : CStmts) (s : Scope) → AreStraight ts → AreUnset (block_objects s ts)
  straight_unset NoStmt s h = tt
  straight_unset (MoreStmt (Do_expr e) ts) s h = straight_unset ts (scope_behind s (Do_expr e)) h
  straight_unset (MoreStmt (Return at e) ts) s h = straight_unset ts (scope_behind s (Return at e)) h
  straight_unset (MoreStmt (Block ss) ts) s h = absurd h
  straight_unset (MoreStmt (Local d) ts) s h = absurd h
  straight_unset (MoreStmt Empty ts) s h = absurd h
  straight_unset (MoreStmt (If e a) ts) s h = absurd h
  straight_unset (MoreStmt (IfElse e a b) ts) s h = absurd h
  straight_unset (MoreStmt (While e a) ts) s h = absurd h
  straight_unset (MoreStmt (Do a e) ts) s h = absurd h
  straight_unset (MoreStmt (For a b c d) ts) s h = absurd h
  straight_unset (MoreStmt (Break at) ts) s h = absurd h
  straight_unset (MoreStmt (Continue at) ts) s h = absurd h
  straight_unset (MoreStmt (Switch e ps) ts) s h = absurd h

  -- the unit that is spent first pays for what follows
  first_performs : (ts : CStmts) (site : Environment) (params : CTypes) → callee_in site.scope (variable unit_name) ≡ Direct unit_name params → AllStated S w u ts (behind spend_unit site) → stmts_steps u ts (behind spend_unit site) ≤ rate
      → (bases : List Location) (coded named : Names) (k d n i o : ℕ) (to : Targets) → 1 ≤ d → stmts_need (MoreStmt spend_unit ts) site ≤ n → k + stmts_jumps (MoreStmt spend_unit ts) < 2 ^ 24 → to.broke < 2 ^ 24 → to.continued < 2 ^ 24
      → Performs (Z bases coded named) (stmts_code (MoreStmt spend_unit ts) (L bases) (placed coded i site) k d to) k d n 1 (all_do (MoreStmt spend_unit ts) S.deep w (placed named o site)) to i o (block_objects site.scope (MoreStmt spend_unit ts))
  unfolding go_on
  first_performs ts site params callee stated pays bases coded named k d n i o to some le lt lb lc = record {
    at = λ s bs st m eq stands r pending.
        (let T = Z bases coded named in
        let next = behind spend_unit site in
        let run = all_do ts S.deep w (placed named o next) in
        let op = Mov A (constant 0) in
        let s1 = place_behind s op in
        let m1 : Machine = record m { regs = with_reg m.regs A 0 } in
        let end = place_behind_all s (stmts_code (MoreStmt spend_unit ts) (L bases) (placed coded i site) k d to) in
        let Q = FlowReached T bs st m.memory m.regs.bp d to end in
        let same = spent w (placed named o site) st (λ flow. go_on flow run) (spends st r.fuelled) params S.deep callee in
        let none : stmt_jumps spend_unit ≡ 0 = sym (stmt_jumps_are spend_unit (L bases) (placed coded i site) k d to).count in
        let performs = stated bases coded named (k + stmt_jumps spend_unit) d n i o to some (omega (arith, le)) (omega (arith, lt)) lb lc in
        subst (λ z. F T (here s m st) (fuel_of st) 1 z Q) (sym same)
        (unit_follows T.program T.input T.mode run s m st 1 Q stands.0.inside (λ l is.
        let st2 : State = record st { left = l } in
        let x : Fuel = record { left = suc l; spare = st.spare } in
        let y : Fuel = record { left = l; spare = st.spare } in
        let one = unit l st.spare in
        let less : S.mode.gauge y < S.mode.gauge (fuel_of st) = subst (λ z. S.mode.gauge y < S.mode.gauge (record { left = z; spare = st.spare })) (sym is) one.gauge in
        let r1 = ready_spent T bs st m1 d n l st.spare (omega (arith, less)) (ready_same T bs st m m1 d n refl refl r) in
        let rest = performs.at s1 bs st2 m1 (omega (arith, eq, none)) stands.1 r1 pending in
        let follows = wider T.program T.input T.mode (here s1 m1 st2) y (stmts_steps u ts next) (stmts_steps u ts next) (run st2) (FlowReached T bs st2 m1.memory m1.regs.bp d to end) Q rest
        (λ flow st3 s3 m3 q. record { goes = q.goes; bases = q.bases; left = record { framed = q.left.framed; lies = q.left.lies; post = q.left.post; charge = q.left.charge; words = q.left.words }; means = q.means }) (omega arith) in
        let go = unit_then T.program T.input T.mode (here s m st) (here s1 m1 st) x y rate (stmts_steps u ts next) 1 (run st2) Q (one_quiet T.program T.input s m st.taken st.output op tt stands.0) one follows (omega (arith, pays)) in
        subst (λ z. F T (here s m st) (record { left = z; spare = st.spare }) 1 (run st2) Q) (sym is) go)));
  }

  pub printer_performed : (ts : CStmts) (site : Environment) → AreStraight ts → StmtsHas (λ e site. ExprIs S w may e site) (λ d site. DeclarationIs S w may d site) (MoreStmt spend_unit ts) (in_block 0 site) → stmts_steps u ts (behind spend_unit (in_block 0 site)) ≤ rate
      → PerformedBy S w 1 (Block (MoreStmt spend_unit ts)) site
  printer_performed ts site straight x pays bases coded named k d n i o to some le lt lb lc =
      let inner = in_block 0 site in
      let ss = MoreStmt spend_unit ts in
      let objects = block_objects (entered site.scope) ss in
      let need = stmts_need ss inner in
      let unset : AreUnset objects = straight_unset ts (scope_behind (entered site.scope) spend_unit) straight in
      let callee = direct_callee (entity_of inner.scope unit_name) x.0.1.1 in
      let rest = straight_stated ts (behind spend_unit inner) straight x.1 in
      performs_within (words_in objects + need) 1 le (omega arith)
      (block_performs (Z bases coded named) objects unset d need some (stmts_code ss (L (bases ++ framed objects d)) (placed coded (length bases) inner) k (d + words_in objects) to) k 1 to (λ o. all_do ss S.deep w (placed named o inner)) i o []
      (λ o. first_performs ts inner callee.0 callee.1 rest pays (bases ++ framed objects d) coded named k (d + words_in objects) need (length bases) o to (omega (arith, some)) (omega arith) lt lb lc))
