-- Functions that write strings, and calls of them.
use Rattle.std.proofs.Common.{◌≡◌, ℕ, zero, suc, ◌+◌, ◌^◌, ◌<◌, ◌≤◌, Bool, true, false, ◌||◌, List, [], length, None, refl, sym, ap, ◌∙◌, subst, arith}
use Rattle.std.specs.Str.{bytes_eq}
use Rattle.eir_core.specs.declared.ops.Op.{Op}
use Rattle.c_syntax.specs.Plain.{CExpr, CStmt, NoStmt, MoreStmt, While}
use Rattle.c_types.specs.Scope.{entered}
use Rattle.c_types.specs.Census.{scope_behind}
use Rattle.c_eval.specs.State.{Value, Missing, State, Run}
use Rattle.c_eval.specs.Run.{give, paid}
use Rattle.c_eval.specs.Environment.{Environment, block_objects, past, behind, Callee}
use Rattle.c_eval.specs.Eval.{World, condition, does}
use Rattle.c_eval.specs.Text.{Definition, Text, function_named}
use Rattle.c_eval.specs.Meaning.{runs}
use Rattle.c_eval.specs.Helpers.{Helpers, own_charged, helper_world, helper_runs, known_or, helper_calls}
use Rattle.c_helpers.specs.Functions.{unit_name, refill_name, piece_name, spend_unit, put_piece}
use Rattle.c_helpers.specs.Meanings.{of_one, piece_put, known_to_helpers}
use Rattle.c_place.specs.Place.{Place, behind_all, Machine}
use Rattle.c_lowered.specs.Counts.{is_known_to_helpers, truth_jumps, stmt_jumps}
use Rattle.c_lowered.specs.Expressions.{value_code, unless_code}
use Rattle.c_lowered.specs.Statements.{targets, stmt_code}
use Rattle.c_lowered.proofs.Jumping.{value_jumps, truth_jumps_are}
use Rattle.c_lowered.proofs.Flowing.{stmt_jumps_are}
use Rattle.c_lowered.specs.Locations.{Linking}
use Rattle.c_memory.specs.Follows.{Fuel, fuel_of, here}
use Rattle.c_memory.specs.Lies.{Extent, Before}
use Rattle.c_memory.proofs.Following.{Claim, use_less, unit_then, spare_follows, wider}
use Rattle.c_landing.specs.Landing.{Names, placed, Setting, Ready, Reached, InA}
use Rattle.c_landing.specs.Few.{Agrees}
use Rattle.c_landing.proofs.Landing.{F}
use Rattle.c_valued.specs.Calls.{WordsMean, UnitPays, with_names, CallsLand}
use Rattle.c_valued.specs.Steps.{truth_steps}
use Rattle.c_stated.specs.Laws.{Stated}
use Rattle.c_stated.specs.Flows.{FlowReached}
use Rattle.c_stated.specs.Statements.{DeclaresNothing, ExprValued, stmt_need, stmt_steps}
use Rattle.c_stated.proofs.Blocks.{AreUnset}
use Rattle.c_stated.proofs.Forms.{while_follows}
use Rattle.c_stated.proofs.Parts.{unless_follows, nothing_framed}
use Rattle.c_stated.proofs.Statements.{more_stated, block_stated}
use Rattle.c_stated.proofs.Texts.{expr_valued}
use Rattle.c_followed.specs.Bodies.{inside, beginning, BodyLands, PerformedBy}
use Rattle.c_followed.proofs.Bodies.{performed_lands}
use Rattle.c_followed.specs.Framed.{OpensFrame, CallLands, calling, called, MayCall, StandsThere}
use Rattle.c_followed.specs.Used.{in_helper, HelpersStand}
use Rattle.c_followed.proofs.Helping.{Helped, helper_follows, spare_pays}
use Rattle.c_followed.proofs.Calls.{calls_by}
use Rattle.c_followed.proofs.Uses.{nested}
use Rattle.c_followed.proofs.Printers.{straight_stated, straight_unset}
use Rattle.c_followed.specs.Spelled.{turn_of, spelling, test_site, turn_site, letter_site, rest_site, SpellerIs}
use Rattle.c_followed.proofs.Turns.{turn_stated}

-- a loop whose body is followed, wherever a unit pays for a turn
while_here : (S : Setting) (w : World) (worth : ℕ) → UnitPays S.mode w.inner worth → (e : CExpr) (t : CStmt) (site : Environment) → ExprValued S w 0 e site → DeclaresNothing t → Stated S w 0 t (past e site) → stmt_steps 0 (While e t) site ≤ worth → Stated S w 0 (While e t) site
while_here S w worth unit e t site x bare h pays = λ bases coded named k d n i o to some le lt lb lc. record {
  at = λ s bs st m eq stands r pending.
      (let T = with_names S bases coded named in
      let L : Linking = record S.linking { bases = bases } in
      let place = placed coded i site in
      let again = k + 1 in
      let end = again + truth_jumps e + stmt_jumps t + 1 in
      let ct = (truth_jumps_are e L place again d (value_code e L place again d) (value_jumps e L place again d) false end).count in
      let cb = (stmt_jumps_are t L (past e place) (again + truth_jumps e) d (targets end again)).count in
      let code = unless_code e L place again d end in
      let body = stmt_code t L (past e place) (again + truth_jumps e) d (targets end again) in
      let R = FlowReached T bs st m.memory m.regs.bp d to (behind_all s (stmt_code (While e t) L place k d to)) in
      wider T.program T.input T.mode (here s m st) (fuel_of st) (1 + truth_steps 0 e) (stmt_steps 0 (While e t) site) (does (While e t) S.deep w (placed named o site) st) R R
      (while_follows T d n w.inner worth unit code body k (truth_steps 0 e) (stmt_steps 0 t (past e site)) again end (condition e w (placed named o site)) (does t S.deep w (past e (placed named o site))) to refl (omega (arith, ct, cb)) (omega (arith, lt)) (omega (arith, pays))
      (λ s1 bs1 st1 m1 e1 k1 r1. unless_follows T e w (placed named o site) _ again d n (truth_steps 0 e) end ((x bases coded named).truth again d n i o false end (omega (arith, le)) (omega (arith, lt)) (omega (arith, lt))) s1 bs1 st1 m1 e1 k1 r1)
      (λ s1 bs1 st1 m1 e1 k1 r1. (h bases coded named (again + truth_jumps e) d n i o (targets end again) some (omega (arith, le)) (omega (arith, lt)) (omega (arith, lt)) (omega (arith, lt))).at s1 bs1 st1 m1 (e1 ∙ ap (λ z. again + z) ct) k1 r1 (nothing_framed t bare site.scope bs1 m1.regs.bp bases i o))
      s bs st m eq stands r)
      (λ flow st1 s1 m1 q. q) (omega arith));
}

module _ (S : Setting) (t : Text) (h : Helpers) (rate spare_rate : ℕ) (may : Callee → Bool) (can : MayCall S may) (stand : HelpersStand S t h spare_rate may) (known : (name : List ℕ) → h.known name ≡ known_to_helpers h.ration name) (name : List ℕ) (f : Definition) (is : SpellerIs S t h rate spare_rate may name f)
    (agreeing : (calls : List ℕ → List Value → Run Value) → Agrees (inside S f) (helper_world t S.input name calls)) (there : StandsThere S name f) (own : is_known_to_helpers name ≡ false) (first bottom : ℕ) (top : bottom + 1024 < 2 ^ 24) where
  abbrev I : Setting
  I = in_helper S rate spare_rate h.ration first bottom

  abbrev world : ℕ → World
  world deep = helper_world t S.input name (helper_calls deep h t S.input)

  unit_pays : UnitPays I.mode false rate
  unit_pays l n = use_less rate spare_rate h.ration l n

  agrees_at : (deep roof : ℕ) → Agrees (inside (called I deep roof) f) (world deep)
  agrees_at deep roof = let a = agreeing (helper_calls deep h t S.input) in record {
    input = a.input;
    owner = a.owner;
    reach = λ e. absurd (cc e);
    entries = a.entries;
    blocks = a.blocks;
    stands = a.stands;
    own = a.own;
    functions_apart = a.functions_apart;
    literals = a.literals;
    letters = a.letters;
    letters_apart = a.letters_apart;
  }

  spends : (deep : ℕ) (st : State) → I.mode.gauge (fuel_of st) < deep → helper_calls deep h t S.input unit_name [] st ≡ paid false (give Missing) st
  unfolding helper_calls known_or
  spends zero st lt = absurd (omega (arith, lt))
  spends (suc k) st lt = ap (λ z. known_or z [] (paid true (helper_runs h t S.input (helper_calls k h t S.input) k unit_name (function_named t unit_name) [])) st) (known unit_name)

  writes : (deep : ℕ) (vs : List Value) (st : State) → I.mode.gauge (fuel_of st) < deep → helper_calls deep h t S.input piece_name vs st ≡ of_one (piece_put h.ration) vs st
  unfolding helper_calls known_or
  writes zero vs st lt = absurd (omega (arith, lt))
  writes (suc k) vs st lt = ap (λ z. known_or z vs (paid true (helper_runs h t S.input (helper_calls k h t S.input) k piece_name (function_named t piece_name) vs)) st) (known piece_name)

  -- what it calls besides lands
  called_too : (deep roof : ℕ) → CallsLand (inside (called I deep roof) f) (world deep) 0 may
  called_too deep roof =
      let V = inside (called I deep roof) f in
      calls_by V (world deep) 0 spare_rate may (agrees_at deep roof) (spare_pays S t h rate spare_rate may stand first bottom) (record { direct = can.direct; built_in = can.built_in; format = can.format; bytes = can.bytes })
      (λ bases coded named other may_be. nested S t h rate spare_rate may can stand first bottom top deep roof (record V.linking { bases = bases }) coded named other may_be)

  body : (deep roof : ℕ) → BodyLands (called I deep roof) (world deep) f (S.ground.entry name) (h.charge name) spare_rate
  body deep roof =
      let S1 = called I deep roof in
      let V = inside S1 f in
      let w = world deep in
      let a = agrees_at deep roof in
      let land = called_too deep roof in
      let calls = helper_calls deep h t S.input in
      let rest = straight_stated V w a 0 rate may land unit_pays (spends deep) is.rest (rest_site is.test is.letter S f) is.straight (is.goes_on calls) in
      let valued = expr_valued V w a 0 may land is.letter (letter_site is.test S f) (is.letters calls) in
      let turn = turn_stated V w rate spare_rate h.ration a (spends deep) (writes deep) is.letter is.rest (turn_site is.test S f) is.unit_params is.piece_params is.unit is.piece valued rest is.refilled in
      let stmts = MoreStmt spend_unit (MoreStmt (put_piece is.letter) is.rest) in
      let outer = entered (past is.test (test_site S f)).scope in
      let unset : AreUnset (block_objects outer stmts) = straight_unset V w a 0 rate may land unit_pays (spends deep) is.rest (scope_behind (scope_behind outer spend_unit) (put_piece is.letter)) is.straight in
      let block = block_stated V w a 0 stmts (past is.test (test_site S f)) unset turn in
      let loop = while_here V w spare_rate (spare_pays S t h rate spare_rate may stand first bottom) is.test (turn_of is.letter is.rest) (test_site S f) (expr_valued V w a 0 may land is.test (test_site S f) (is.tests calls)) tt block (omega (arith, is.paid)) in
      let all = more_stated V w a 0 (While is.test (turn_of is.letter is.rest)) NoStmt (test_site S f) tt loop (straight_stated V w a 0 rate may land unit_pays (spends deep) NoStmt (behind (While is.test (turn_of is.letter is.rest)) (test_site S f)) tt tt) in
      let whole = block_stated V w a 0 (MoreStmt (While is.test (turn_of is.letter is.rest)) NoStmt) (beginning S f) tt all in
      let same : spelling is.test is.letter is.rest ≡ f.body = sym is.body in
      let performed : PerformedBy V w (stmt_steps 0 (spelling is.test is.letter is.rest) (beginning S f)) f.body (beginning S1 f) = subst (λ z. PerformedBy V w (stmt_steps 0 (spelling is.test is.letter is.rest) (beginning S f)) z (beginning S1 f)) same whole in
      let framed = subst (λ z. suc (length f.params) + stmt_need z (beginning S1 f) ≤ h.charge name) same is.framed in
      performed_lands S1 w f (S.ground.entry name) (h.charge name) (stmt_steps 0 (spelling is.test is.letter is.rest) (beginning S f)) spare_rate a performed (subst (λ z. DeclaresNothing z) same tt) is.breaks framed is.paid there.small there.code

  -- ---- a call

  unknown : h.known name ≡ None
  unknown = known name ∙ by (bytes_eq name unit_name) refl (bytes_eq name refill_name) refl (bytes_eq name piece_name) refl own
    where
      by : (x : Bool) → bytes_eq name unit_name ≡ x → (y : Bool) → bytes_eq name refill_name ≡ y → (z : Bool) → bytes_eq name piece_name ≡ z → (x || y || z) ≡ false → known_to_helpers h.ration name ≡ None
      by false e false g false k e1 = rw (e, g, k) refl
      by true e y g z k e1 = absurd (one y z e1)
        where
          one : (y z : Bool) → (true || y || z) ≡ false → ⊥
          one y z e = cc e
      by false e true g z k e1 = absurd (cc e1)
      by false e false g true k e1 = absurd (cc e1)

  module _ (n roof : ℕ) (linking : Linking) (coded named : Names) (code : List Op) (c d room : ℕ) (vs : List Value) (s : Place) (bs : List Extent) (st : State) (m : Machine) (o : OpensFrame S.program S.input code s m d (S.ground.entry name) c) (r : Ready (calling I (suc n) roof linking coded named) bs st m d room)
      (args : WordsMean I.ground bs m.memory (m.regs.bp + suc d) vs) where
    abbrev T : Setting
    T = calling I (suc n) roof linking coded named

    abbrev Q : Claim Value
    Q = Reached T bs st m.memory m.regs.bp d (behind_all s code) (InA T)

    abbrev run : Run Value
    run = own_charged (h.charge name) (runs f [] n (world n) vs)

    own_follows : F T (here s m st) (fuel_of st) (c + 2 + 0) (paid true run st) Q
    own_follows =
        spare_follows S.program S.input I.mode run s m st (c + 2 + 0) Q (λ i left.
        let st2 : State = record st { spare = i } in
        let x : Fuel = record { left = st.left; spare = suc i } in
        let y : Fuel = record { left = st.left; spare = i } in
        let one = spare_pays S t h rate spare_rate may stand first bottom st.left i in
        let less : I.mode.gauge y < I.mode.gauge (fuel_of st) = subst (λ z. I.mode.gauge y < I.mode.gauge (record { left = st.left; spare = z })) (sym left) one.gauge in
        let helped = helper_follows S I.mode first bottom n name f (world n) (h.charge name) (h.charge name) spare_rate (body n) code c d vs s (Before first) bs st2 m o r.lies r.letters args r.lies.seen (omega arith) (omega (arith, r.room, r.under)) top (omega (arith, less, r.fuelled)) in
        let follows = wider S.program S.input I.mode (here o.next o.moved st2) y (c + (spare_rate + 1)) (c + (spare_rate + 1)) (run st2) (Helped I.ground bs st2 m d (behind_all s code)) Q helped
        (λ v st4 s4 m4 q. record { place = q.place; bases = q.bases; left = record { framed = q.framed; lies = q.lies; post = q.post; charge = q.charge; words = q.words }; means = q.means }) (omega arith) in
        let go = unit_then S.program S.input I.mode (here s m st) (here o.next o.moved st) x y spare_rate (c + (spare_rate + 1)) (c + 2 + 0) (run st2) Q (o.step st) one follows (omega arith) in
        subst (λ z. F T (here s m st) (record { left = st.left; spare = z }) (c + 2 + 0) (run st2) Q) (sym left) go)

    call_follows : F T (here s m st) (fuel_of st) (c + 2 + 0) (helper_calls (suc n) h t S.input name vs st) Q
    unfolding helper_runs known_or helper_calls
    call_follows =
        subst (λ z. F T (here s m st) (fuel_of st) (c + 2 + 0) (known_or z vs (paid true (helper_runs h t S.input (helper_calls n h t S.input) n name (function_named t name) vs)) st) Q) (sym unknown)
        (subst (λ z. F T (here s m st) (fuel_of st) (c + 2 + 0) (paid true (helper_runs h t S.input (helper_calls n h t S.input) n name z vs) st) Q) (sym is.found) own_follows)

  pub speller_lands : (deep roof : ℕ) (linking : Linking) (coded named : Names) → CallLands (calling I deep roof linking coded named) name 0 (λ vs. helper_calls deep h t S.input name vs)
  speller_lands zero roof linking coded named = record { at = λ code c d room vs s bs st m standing o r args words. absurd (omega (arith, r.fuelled)) }
  speller_lands (suc n) roof linking coded named = record { at = λ code c d room vs s bs st m standing o r args words. call_follows n roof linking coded named code c d room vs s bs st m o r args }
