-- A turn of a function that writes a string.
use Rattle.std.proofs.Common.{◌≡◌, ℕ, suc, ◌+◌, ◌%◌, ◌^◌, ◌<◌, ◌≤◌, false, List, [], ◌∷◌, ◌++◌, refl, sym, ap, ◌∙◌, subst, arith}
use Rattle.mach_core.specs.Rule.{Moment, applied, run_from}
use Rattle.mach_core.proofs.Runs.{run_from-add}
use Rattle.eir_core.specs.Eir.{Eir}
use Rattle.eir_core.specs.Step.{Config, eir_rule, with_reg}
use Rattle.eir_core.specs.declared.ops.Reg.TheVariants.{A}
use Rattle.eir_core.specs.declared.ops.Operand.TheVariants.{Reg as register}
use Rattle.eir_core.specs.declared.ops.Op.{Op}
use Rattle.eir_core.specs.declared.ops.Op.TheVariants.{Mov, Putc}
use Rattle.c_syntax.specs.Plain as plain
use Rattle.c_syntax.specs.Plain.{CExpr, CStmts, MoreStmt}
use Rattle.c_types.specs.Types.{CTypes}
use Rattle.c_types.specs.Expressions.{format_of}
use Rattle.c_eval.specs.State.{Value, Word, Null, Point, Letter, Function, Missing, State, Act, OtherKind, Outcome, Gives, Ended, Going, Undefined, Run}
use Rattle.c_eval.specs.Run.{◌>>=◌, after, give, undefined, paid, put}
use Rattle.c_eval.specs.Operators.{used, of_word, all_converted}
use Rattle.c_eval.specs.Environment.{Environment, block_objects, past, behind, Callee, Direct, callee_in}
use Rattle.c_eval.specs.Eval as evaluation
use Rattle.c_eval.specs.Eval.{World, Flow, Next, go_on, value_of, values_of, values_behind, does, all_do}
use Rattle.c_eval.specs.Helpers.{refill}
use Rattle.c_helpers.specs.Functions.{unit_name, piece_name, spend_unit, put_piece}
use Rattle.c_helpers.specs.Frames.{beyond}
use Rattle.c_helpers.specs.Meanings.{of_one, piece_put}
use Rattle.c_helpers.specs.Terms.{variable}
use Rattle.c_place.specs.Place.{Place, behind as place_behind, behind_all as place_behind_all, Machine, Has, Stands, moment}
use Rattle.c_place.proofs.CutLemmas.{jumps_append}
use Rattle.c_place.proofs.Running.{one_quiet, one_put, behind_append, behind_block, stands_first, stands_rest}
use Rattle.c_lowered.specs.Locations.{Location, Linking}
use Rattle.c_lowered.specs.Operations.{constant}
use Rattle.c_lowered.specs.Counts.{expr_jumps, stmt_jumps, stmts_jumps}
use Rattle.c_lowered.specs.Expressions.{argument_code}
use Rattle.c_lowered.specs.Statements.{Targets, stmts_code}
use Rattle.c_lowered.proofs.Flowing.{stmt_jumps_are}
use Rattle.c_memory.specs.Follows.{Fuel, fuel_of, worth, Mode, in_use, here, Comes, Follows, OneLess}
use Rattle.c_memory.specs.Lies.{Extent}
use Rattle.c_memory.proofs.Following.{Claim, worth_more, worth_grows, use_less, paid_by_unit, first_then, unit_follows, wider}
use Rattle.c_landing.specs.Landing.{Names, placed, Setting, Ready, Left, Reached}
use Rattle.c_landing.specs.Few.{Agrees}
use Rattle.c_landing.proofs.Landing.{F, ready_later}
use Rattle.c_landing.proofs.Pieces.{ready_same}
use Rattle.c_valued.specs.Calls.{FirstInA, with_names}
use Rattle.c_valued.proofs.Arguments.{argument_lands, first_converted}
use Rattle.c_valued.specs.Steps.{steps, all_steps}
use Rattle.c_stated.specs.Flows.{FlowReached, AreFramed}
use Rattle.c_stated.specs.Laws.{AllStated}
use Rattle.c_stated.specs.Statements.{ExprValued, stmts_need, stmts_steps}
use Rattle.c_stated.proofs.Blocks.{framed_behind}
use Rattle.c_stated.proofs.Flowing.{flow_then, ready_spent}
use Rattle.c_stated.proofs.Parts.{agrees_named}
use Rattle.c_followed.proofs.Printers.{spent}

-- ---- runs

module _ (p : Eir) (input : List ℕ) (d h r : ℕ) where
  abbrev M : Mode
  M = in_use d h r

  -- a unit, a part that it pays for, and then what follows
  after_unit : {A B : Type 0} (a b : Moment Config) (x y : Fuel) (ca c : ℕ) (o : Outcome A) (k : A → Run B) (Q : Claim A) (R : Claim B) → applied (eir_rule p) input a ≡ b → OneLess M d x y → Follows p input M b y ca o Q
      → ((v : A) (st : State) (s : Place) (m : Machine) → Comes p input M b y ca (here s m st) (fuel_of st) → Q v st s m → Follows p input M a x c (k v st) R) → 1 + ca ≤ c + d → Follows p input M a x c (after o k) R
  unfolding after
  after_unit a b x y ca c (Gives v st) k Q R e one (s, m, g, q) f le = f v st s m g q
  after_unit a b x y ca c (Ended st) k Q R e one (s, m, g, q) f le = (s, m, paid_by_unit p input M d ca c e one g le, q)
  after_unit a b x y ca c (Going st) k Q R e one (s, m, n, g, q) f le = (s, m, n, paid_by_unit p input M d ca c e one g le, q)
  after_unit a b x y ca c (Undefined act st) k Q R e one (s, m, z, g) f le = (s, m, z, paid_by_unit p input M d ca c e one g le)

  -- the unit pays for the second fuel that begins behind the part
  refills : {a b e1 e2 : Moment Config} {l n : ℕ} {z : Fuel} (ca c : ℕ) → applied (eir_rule p) input a ≡ b → Comes p input M b (record { left = l; spare = n }) ca e1 z → applied (eir_rule p) input e1 ≡ e2 → 2 + ca + worth h r ≤ c + d → Comes p input M a (record { left = suc l; spare = n }) c e2 (record { left = z.left; spare = r })
  refills {a} {b} {e1} {e2} {l} {n} {z} ca c e g e0 le = record {
    count = 1 + g.count + 1;
    ends = run_from-add (eir_rule p) input a (1 + g.count) 1 ∙ (ap (λ x. run_from (eir_rule p) input x 1) (run_from-add (eir_rule p) input a 1 g.count ∙ (ap (λ x. run_from (eir_rule p) input x g.count) e ∙ g.ends)) ∙ e0);
    spent = omega (arith, g.spent);
    less = omega (arith, g.less);
    down = omega (arith, worth_grows (suc r) z.left l g.less, worth_more (suc r) l);
    paid = omega (arith, g.paid, worth_more d l, le);
  }

-- a call of what writes a character, by its arguments
module _ (w : World) (site : Environment) (letter : CExpr) (st : State) (k : Flow → Run Flow) where
  abbrev written_then : CTypes → List Value → Run Flow
  written_then params vs st1 = after (after (w.calls piece_name (all_converted params vs) st1) (λ _. give Next)) k

  abbrev ByCallee : CTypes → Callee → Type 0
  ByCallee params c =
      after (after (evaluation.call w c (format_of (plain.MoreExpr letter plain.NoExpr)) (value_of (variable piece_name) w site >>= used) (values_of (plain.MoreExpr letter plain.NoExpr) w (past (variable piece_name) site)) (values_behind (plain.MoreExpr letter plain.NoExpr) w site) st) (λ _. give Next)) k
      ≡ after (values_of (plain.MoreExpr letter plain.NoExpr) w (past (variable piece_name) site) st) (written_then params)

  regroup : (params : CTypes) (o : Outcome (List Value)) → after (after (after o (λ vs. w.calls piece_name (all_converted params vs))) (λ _. give Next)) k ≡ after o (written_then params)
  unfolding after
  regroup params (Gives vs st1) = refl
  regroup params (Ended st1) = refl
  regroup params (Going st1) = refl
  regroup params (Undefined act st1) = refl

  by_name : (params : CTypes) → ByCallee params (Direct piece_name params)
  unfolding evaluation.call ◌>>=◌
  by_name params = regroup params (values_of (plain.MoreExpr letter plain.NoExpr) w (past (variable piece_name) site) st)

  pieced : (params : CTypes) (deep : ℕ) → callee_in site.scope (variable piece_name) ≡ Direct piece_name params
      → (does (put_piece letter) deep w site >>= k) st ≡ after (values_of (plain.MoreExpr letter plain.NoExpr) w (past (variable piece_name) site) st) (written_then params)
  unfolding ◌>>=◌
  pieced params deep e = subst (ByCallee params) (sym e) (by_name params)

abbrev failed : Act → State → Outcome Flow
failed act st = Undefined act st

-- ---- a turn

module _ (X : Setting) (w : World) (rate spare_rate ration : ℕ) where
  abbrev S : Setting
  S = record X { mode = in_use rate spare_rate ration }

  module _ (agrees : Agrees S w) (spends : (st : State) → S.mode.gauge (fuel_of st) < S.deep → w.calls unit_name [] st ≡ paid false (give Missing) st)
      (writes : (vs : List Value) (st : State) → S.mode.gauge (fuel_of st) < S.deep → w.calls piece_name vs st ≡ of_one (piece_put ration) vs st)
      (letter : CExpr) (rest : CStmts) (site : Environment) (unit_params piece_params : CTypes) (unit : callee_in site.scope (variable unit_name) ≡ Direct unit_name unit_params) (piece : callee_in (behind spend_unit site).scope (variable piece_name) ≡ Direct piece_name piece_params)
      (valued : ExprValued S w 0 letter (past (variable piece_name) (behind spend_unit site))) (stated : AllStated S w 0 rest (behind (put_piece letter) (behind spend_unit site))) (pays : steps 0 letter + 8 + worth spare_rate ration ≤ rate) where
    abbrev next : Environment
    next = behind spend_unit site

    abbrev last : Environment
    last = behind (put_piece letter) next

    abbrev turn : CStmts
    turn = MoreStmt spend_unit (MoreStmt (put_piece letter) rest)

    abbrev letters : plain.CExprs
    letters = plain.MoreExpr letter plain.NoExpr

    module _ (bases : List Location) (coded named : Names) (k d n i o : ℕ) (to : Targets) (some : 1 ≤ d) (le : stmts_need turn site ≤ n) (lt : k + stmts_jumps turn < 2 ^ 24) (lb : to.broke < 2 ^ 24) (lc : to.continued < 2 ^ 24) where
      abbrev T : Setting
      T = with_names S bases coded named

      abbrev L : Linking
      L = record S.linking { bases = bases }

      abbrev tail : Run Flow
      tail = all_do (MoreStmt (put_piece letter) rest) S.deep w (placed named o next)

      abbrev after_piece : Flow → Run Flow
      after_piece flow = go_on flow (all_do rest S.deep w (placed named o last))

      abbrev count : ℕ
      count = stmts_steps 0 turn site

      abbrev arg : List Op
      arg = argument_code letters L (placed coded i (past (variable piece_name) next)) (k + stmt_jumps spend_unit + expr_jumps (variable piece_name)) d

      abbrev put_op : Op
      put_op = Putc (register A)

      abbrev behind_code : List Op
      behind_code = stmts_code rest L (placed coded i last) (k + stmt_jumps spend_unit + stmt_jumps (put_piece letter)) d to

      module _ (s : Place) (bs : List Extent) (st : State) (m : Machine) (eq : s.block ≡ k) (stands : Stands S.program s (stmts_code turn L (placed coded i site) k d to)) (r : Ready T bs st m d n) (pending : AreFramed bs m.regs.bp bases i o (block_objects site.scope turn)) where
        abbrev s1 : Place
        s1 = place_behind s (Mov A (constant 0))

        abbrev m1 : Machine
        m1 = record m { regs = with_reg m.regs A 0 }

        abbrev end : Place
        end = place_behind_all s (stmts_code turn L (placed coded i site) k d to)

        abbrev Q : Claim Flow
        Q = FlowReached T bs st m.memory m.regs.bp d to end

        none : stmt_jumps spend_unit ≡ 0
        none = sym (stmt_jumps_are spend_unit L (placed coded i site) k d to).count

        letter_stands : Stands S.program s1 (arg ++ put_op ∷ [])
        letter_stands = stands_first S.program s1 (arg ++ put_op ∷ []) behind_code stands.1

        rest_stands : Stands S.program (place_behind (place_behind_all s1 arg) put_op) behind_code
        rest_stands = subst (λ z. Stands S.program z behind_code) (behind_append s1 arg (put_op ∷ [])) (stands_rest S.program s1 (arg ++ put_op ∷ []) behind_code stands.1)

        end_is : place_behind_all (place_behind (place_behind_all s1 arg) put_op) behind_code ≡ end
        end_is = sym (behind_append s1 (arg ++ put_op ∷ []) behind_code ∙ ap (λ z. place_behind_all z behind_code) (behind_append s1 arg (put_op ∷ [])))

        first_step : applied (eir_rule S.program) S.input (here s m st) ≡ here s1 m1 st
        first_step = one_quiet S.program S.input s m st.taken st.output (Mov A (constant 0)) tt stands.0

        module _ (l : ℕ) (is : st.left ≡ suc l) where
          abbrev st2 : State
          st2 = record st { left = l }

          abbrev x0 : Fuel
          x0 = record { left = suc l; spare = st.spare }

          abbrev y : Fuel
          y = record { left = l; spare = st.spare }

          one : OneLess S.mode rate x0 y
          one = use_less rate spare_rate ration l st.spare

          less : S.mode.gauge y < S.mode.gauge (fuel_of st)
          less = subst (λ z. S.mode.gauge y < S.mode.gauge (record { left = z; spare = st.spare })) (sym is) one.gauge

          r1 : Ready T bs st2 m1 d n
          r1 = ready_spent T bs st m1 d n l st.spare (omega (arith, less)) (ready_same T bs st m m1 d n refl refl r)

          abbrev cost : ℕ
          cost = all_steps 0 letters + 3

          abbrev Q1 : Claim (List Value)
          Q1 = Reached T bs st2 m1.memory m1.regs.bp d (place_behind_all s1 arg) (FirstInA T)

          args : F T (here s1 m1 st2) y cost (values_of letters w (placed named o (past (variable piece_name) next)) st2) Q1
          args =
              let lands = argument_lands T w (agrees_named S w bases coded named agrees) 0 letters (past (variable piece_name) next) (valued bases coded named, tt) 1 (beyond (variable piece_name)) (k + stmt_jumps spend_unit + expr_jumps (variable piece_name)) d n i o (omega (arith, le)) (omega (arith, lt)) in
              lands.at s1 bs st2 m1 (omega (arith, eq, none)) (stands_first S.program s1 arg (put_op ∷ []) letter_stands) r1

          module _ (vs : List Value) (st3 : State) (s3 : Place) (m3 : Machine) (g : Comes S.program S.input S.mode (here s1 m1 st2) y cost (here s3 m3 st3) (fuel_of st3)) (q : Q1 vs st3 s3 m3) where
            r3 : Ready T q.bases st3 m3 d n
            r3 = ready_later T bs q.bases st2 st3 m1 m3 d n r1 q.left g.down

            has : Has S.program s3 put_op
            has = subst (λ z. Has S.program z put_op) (sym q.place) (stands_rest S.program s1 arg (put_op ∷ []) letter_stands).0

            -- an undefined act
            fails : (act : Act) (st4 : State) → st4.taken ≡ st3.taken → st4.output ≡ st3.output → F T (here s m st) x0 count (failed act st4) Q
            fails act st4 e f =
                let done = paid_by_unit S.program S.input S.mode rate cost count first_step one g (omega (arith, pays)) in
                (s3, m3, fuel_of st3, subst (λ z. Comes S.program S.input S.mode (here s m st) x0 count (moment s3 m3 z st4.output) (fuel_of st3)) (sym e) (subst (λ z. Comes S.program S.input S.mode (here s m st) x0 count (moment s3 m3 st3.taken z) (fuel_of st3)) (sym f) done))

            goes_on : (c : ℕ) → m3.regs.a ≡ c → F T (here s m st) x0 count (all_do rest S.deep w (placed named o last) (record st3 { spare = ration; output = st3.output ++ c % 2 ^ 8 ∷ [] })) Q
            goes_on c a =
                let st4 : State = record st3 { spare = ration; output = st3.output ++ c % 2 ^ 8 ∷ [] } in
                let s4 = place_behind s3 put_op in
                let step = one_put S.program S.input s3 m3 st3.taken st3.output (register A) has ∙ ap (λ z. moment s4 m3 st3.taken (st3.output ++ z % 2 ^ 8 ∷ [])) a in
                let come = refills S.program S.input rate spare_rate ration cost 0 first_step g step (omega (arith, pays)) in
                let full : worth (suc ration) st.left ≡ worth (suc ration) (suc l) = ap (worth (suc ration)) is in
                let r4 : Ready T q.bases st4 m3 d n = record {
                  lies = r3.lies;
                  letters = r3.letters;
                  names = r3.names;
                  file = r3.file;
                  room = r3.room;
                  under = r3.under;
                  fits = r3.fits;
                  fuelled = omega (arith, r.fuelled, full, worth_more (suc ration) l, worth_grows (suc ration) st3.left l g.less);
                } in
                let performs = stated bases coded named (k + stmt_jumps spend_unit + stmt_jumps (put_piece letter)) d n i o to some (omega (arith, le)) (omega (arith, lt)) lb lc in
                let b1 = behind_block s1 arg in
                let b2 = (stmt_jumps_are (put_piece letter) L (placed coded i next) (k + stmt_jumps spend_unit) d to).count in
                let b3 = jumps_append arg (put_op ∷ []) in
                let b4 = ap (λ (z : Place). z.block) q.place in
                let stands4 = subst (λ z. Stands S.program (place_behind z put_op) behind_code) (sym q.place) rest_stands in
                let pending4 = framed_behind T bs q.bases st2 st3 m1 m3 d bases i o (block_objects last.scope rest) q.left pending in
                let done = performs.at s4 q.bases st4 m3 (omega (arith, b1, b2, b3, b4, eq, none)) stands4 r4 pending4 in
                let left : Left T bs st m.memory m.regs.bp d q.bases st4 m3 = record { framed = q.left.framed; lies = q.left.lies; post = q.left.post; charge = q.left.charge; words = q.left.words } in
                let there : place_behind_all s4 behind_code ≡ end = ap (λ z. place_behind_all (place_behind z put_op) behind_code) q.place ∙ end_is in
                let done1 = subst (λ z. F T (here s4 m3 st4) (fuel_of st4) (stmts_steps 0 rest last) (all_do rest S.deep w (placed named o last) st4) (FlowReached T q.bases st4 m3.memory m3.regs.bp d to z)) there done in
                let done2 = wider S.program S.input S.mode (here s4 m3 st4) (fuel_of st4) (stmts_steps 0 rest last) (stmts_steps 0 rest last) (all_do rest S.deep w (placed named o last) st4) (FlowReached T q.bases st4 m3.memory m3.regs.bp d to end) Q done1
                (λ flow st5 s5 m5 z. flow_then T bs q.bases st st4 m.memory m3 m.regs.bp d to end left flow st5 s5 m5 z) (omega arith) in
                first_then S.program S.input S.mode 0 (stmts_steps 0 rest last) count (all_do rest S.deep w (placed named o last) st4) Q come done2 (omega arith)

            by_arguments : (us : List Value) → FirstInA T us q.bases m3 → F T (here s m st) x0 count (after (after (of_one (piece_put ration) us st3) (λ _. give Next)) after_piece) Q
            unfolding of_one piece_put refill of_word put ◌>>=◌ after give undefined go_on
            by_arguments (Word c ∷ []) a = goes_on c a.0
            by_arguments [] a = fails OtherKind st3 refl refl
            by_arguments (Null ∷ []) a = fails OtherKind (record st3 { spare = ration }) refl refl
            by_arguments (Point x j ∷ []) a = fails OtherKind (record st3 { spare = ration }) refl refl
            by_arguments (Letter x j text l1 ∷ []) a = fails OtherKind (record st3 { spare = ration }) refl refl
            by_arguments (Function name ∷ []) a = fails OtherKind (record st3 { spare = ration }) refl refl
            by_arguments (Missing ∷ []) a = fails OtherKind (record st3 { spare = ration }) refl refl
            by_arguments (v ∷ x ∷ us) a = fails OtherKind st3 refl refl

            written : F T (here s m st) x0 count (written_then w (placed named o next) letter st2 after_piece piece_params vs st3) Q
            written =
                let us = all_converted piece_params vs in
                let a = first_converted T w (agrees_named S w bases coded named agrees) 0 q.bases st3 m3 d n r3 piece_params vs q.means in
                let same = writes us st3 (omega (arith, g.down, less, r.fuelled)) in
                subst (λ z. F T (here s m st) x0 count (after (after z (λ _. give Next)) after_piece) Q) (sym same) (by_arguments us a)

          turned : F T (here s m st) x0 count (tail st2) Q
          turned =
              subst (λ z. F T (here s m st) x0 count z Q) (sym (pieced w (placed named o next) letter st2 after_piece piece_params S.deep piece))
              (after_unit S.program S.input rate spare_rate ration (here s m st) (here s1 m1 st2) x0 y cost count (values_of letters w (placed named o (past (variable piece_name) next)) st2) (written_then w (placed named o next) letter st2 after_piece piece_params) Q1 Q first_step one args
              (λ vs st3 s3 m3 g q. written vs st3 s3 m3 g q) (omega (arith, pays)))

        turn_follows : F T (here s m st) (fuel_of st) count (all_do turn S.deep w (placed named o site) st) Q
        unfolding go_on
        turn_follows =
            subst (λ z. F T (here s m st) (fuel_of st) count z Q) (sym (spent w (placed named o site) st (λ flow. go_on flow tail) (spends st r.fuelled) unit_params S.deep unit))
            (unit_follows S.program S.input S.mode tail s m st count Q stands.0.inside (λ l is. subst (λ z. F T (here s m st) (record { left = z; spare = st.spare }) count (tail (record st { left = l })) Q) (sym is) (turned l is)))

    pub turn_stated : AllStated S w 0 turn site
    turn_stated bases coded named k d n i o to some le lt lb lc = record { at = λ s bs st m eq stands r pending. turn_follows bases coded named k d n i o to some le lt lb lc s bs st m eq stands r pending }
