-- `switch`: comparisons with the labels, and the parts from a label on.
use Rattle.std.proofs.Common.{◌≡◌, ℕ, suc, ◌+◌, ◌%◌, ◌^◌, ◌<◌, ◌≤◌, Bool, true, false, ◌||◌, List, [], ◌∷◌, ◌++◌, length, Option, Some, None, refl, sym, ap, ◌∙◌, subst, arith, nat_eq, append_assoc, if◌then◌else◌}
use Rattle.std.specs.Prelude.{◌==◌}
use Rattle.eir_core.specs.Memory.{Memory}
use Rattle.eir_core.specs.declared.ops.Reg.TheVariants.{A}
use Rattle.eir_core.specs.declared.ops.Cond.TheVariants.{Eq}
use Rattle.eir_core.specs.declared.ops.Op.{Op}
use Rattle.eir_core.specs.declared.ops.Op.TheVariants.{JumpIf}
use Rattle.c_syntax.specs.Plain.{CExpr, CStmt, Block, Local, Do_expr, Empty, If, IfElse, While, Do, For, Return, Break, Continue, Switch, CPart, Label, Item, CParts, NoPart, MorePart}
use Rattle.c_types.specs.Scope.{Scope, entered}
use Rattle.c_types.specs.Census.{scope_behind, scope_behind_part}
use Rattle.c_eval.specs.State.{Value, Word, Null, Point, Letter, Function, Missing, Cell, State, Run, OtherKind}
use Rattle.c_eval.specs.Run.{◌>>=◌, give}
use Rattle.c_eval.specs.Operators.{used, of_word}
use Rattle.c_eval.specs.Memory.{within}
use Rattle.c_eval.specs.Environment.{constant_in, Environment, objects_in, parts_objects, past, declaring, behind, behind_part, in_block, Target, Case, Default, is_target, has_target, target_of}
use Rattle.c_eval.specs.Eval.{World, Flow, Next, Broke, Continued, Returned, behind_switch, used_value, value_of, does, parts_do, parts_from}
use Rattle.c_helpers.specs.Frames.{waiting}
use Rattle.c_place.specs.Code.{jumps}
use Rattle.c_place.specs.Place.{Place, Machine, front, Stands, behind_all as place_behind}
use Rattle.c_place.proofs.Running.{behind_append, behind_block, stands_first, stands_rest, one_jump_if}
use Rattle.c_place.proofs.CutLemmas.{jumps_append}
use Rattle.c_lowered.specs.Counts.{expr_jumps, case_jumps, stmt_jumps, part_jumps, parts_jumps}
use Rattle.c_lowered.specs.Locations.{Location, Linking, framed}
use Rattle.c_lowered.specs.Operations.{constant}
use Rattle.c_lowered.specs.Expressions.{value_code}
use Rattle.c_lowered.specs.Statements.{Targets, targets, jump_to, words_in, cases_code, default_block, stmt_code, part_code, parts_code}
use Rattle.c_lowered.proofs.Jumping.{value_jumps}
use Rattle.c_lowered.proofs.Flowing.{stmt_jumps_are}
use Rattle.c_memory.specs.Follows.{fuel_of, here, Comes}
use Rattle.c_memory.specs.Lies.{Extent, with_new}
use Rattle.c_memory.proofs.Following.{comes_then, comes_one, first_then, then_follows, give_follows, undefined_follows, wider, looser}
use Rattle.c_landing.specs.Landing.{Names, placed, Setting, Ready, Reached, InA}
use Rattle.c_landing.specs.Few.{Agrees}
use Rattle.c_landing.proofs.Landing.{F, from_place, left_here, ready_later, ready_less}
use Rattle.c_valued.specs.Steps.{steps}
use Rattle.c_valued.proofs.Parts.{max_left, max_right, used_in_a}
use Rattle.c_valued.specs.Calls.{with_names}
use Rattle.c_stated.specs.Flows.{FlowReached, AreFramed, Performs}
use Rattle.c_stated.specs.Statements.{ExprValued, LabelsAreWords, stmt_need, parts_need, stmt_steps, parts_steps}
use Rattle.c_stated.specs.Laws.{Stated, PartsStated}
use Rattle.c_stated.proofs.Flowing.{jump_comes, flow_then}
use Rattle.c_stated.proofs.Blocks.{AreUnset, framed_behind, block_around}
use Rattle.c_stated.proofs.Parts.{flow_jump, agrees_named, first_scope}
use Rattle.c_stated.proofs.Heads.{names_behind, number_behind, behind_is, ready_behind}
use Rattle.c_stated.proofs.Forms.{go_on_follows}

-- ---- scopes

pub scope_is : (t : CStmt) (site : Environment) → (behind t site).scope ≡ scope_behind site.scope t
scope_is (Local d) site = first_scope d.first (declaring d site)
scope_is (Block ss) site = refl
scope_is (Do_expr e) site = refl
scope_is Empty site = refl
scope_is (If e t) site = refl
scope_is (IfElse e t u) site = refl
scope_is (While e t) site = refl
scope_is (Do t e) site = refl
scope_is (For a b c t) site = refl
scope_is (Return at e) site = refl
scope_is (Break at) site = refl
scope_is (Continue at) site = refl
scope_is (Switch e ps) site = refl

part_scope : (p : CPart) (site : Environment) → (behind_part p site).scope ≡ scope_behind_part site.scope p
part_scope (Label at e) site = refl
part_scope (Item t) site = scope_is t site

-- ---- where a `switch` goes on

-- a statement is no label
item_bare : (target : Target) (s : Scope) (t : CStmt) → is_target target s (Item t) ≡ false
item_bare (Case x) s t = refl
item_bare Default s t = refl

-- the parts have the label
abbrev has_from : Target → CParts → Environment → Bool
has_from target NoPart site = false
has_from target (MorePart p ps) site = is_target target site.scope p || has_from target ps (behind_part p site)

has_same : (target : Target) (ps : CParts) (site : Environment) → has_target target site.scope ps ≡ has_from target ps site
has_same target NoPart site = refl
has_same target (MorePart p ps) site = ap (λ s. is_target target site.scope p || has_target target s ps) (sym (part_scope p site)) ∙ ap (λ b. is_target target site.scope p || b) (has_same target ps (behind_part p site))

-- the block behind the label, or else one behind the parts, which begin in block k
abbrev block_of : Target → CParts → Environment → ℕ → ℕ → ℕ
block_of target NoPart site k end = end
block_of target (MorePart p ps) site k end = if is_target target site.scope p then k + 1 else block_of target ps (behind_part p site) (k + part_jumps p) end

default_is : (ps : CParts) (site : Environment) (k end : ℕ) → default_block ps k end ≡ block_of Default ps site k end
default_is NoPart site k end = refl
default_is (MorePart (Label at None) ps) site k end = refl
default_is (MorePart (Label at (Some e)) ps) site k end = default_is ps site (k + 1) end
default_is (MorePart (Item t) ps) site k end = default_is ps (behind t site) (k + stmt_jumps t) end

-- where the comparisons lead
abbrev case_block : ℕ → CParts → Environment → (k end other : ℕ) → ℕ
case_block x ps site k end other = if has_from (Case x) ps site then block_of (Case x) ps site k end else other

target_is : (x : ℕ) (ps : CParts) (site : Environment) (k end : ℕ) → case_block x ps site k end (default_block ps k end) ≡ block_of (target_of x site.scope ps) ps site k end
target_is x ps site k end = by (has_from (Case x) ps site) (has_same (Case x) ps site)
  where
    by : (b : Bool) → has_target (Case x) site.scope ps ≡ b → (if b then block_of (Case x) ps site k end else default_block ps k end) ≡ block_of (target_of x site.scope ps) ps site k end
    by true e = ap (λ (c : Bool). block_of (if c then Case x else Default) ps site k end) (sym e)
    by false e = default_is ps site k end ∙ ap (λ (c : Bool). block_of (if c then Case x else Default) ps site k end) (sym e)

-- the numbers of objects in scope make no difference
cases_placed : (ps : CParts) (names : Names) (next : ℕ) (site : Environment) (k : ℕ) → cases_code ps (placed names next site) k ≡ cases_code ps site k
cases_placed NoPart names next site k = refl
cases_placed (MorePart (Label at None) ps) names next site k = cases_placed ps names next site (k + 1)
cases_placed (MorePart (Label at (Some e)) ps) names next site k = ap (λ ops. JumpIf Eq (constant (k + 1)) A (constant (constant_in site.scope e)) ∷ ops) (cases_placed ps names next site (k + 1))
cases_placed (MorePart (Item t) ps) names next site k = ap (λ z. cases_code ps z (k + stmt_jumps t)) (behind_is t names next site) ∙ cases_placed ps (names_behind t next names) (number_behind t next) (behind t site) (k + stmt_jumps t)

cases_count : (ps : CParts) (site : Environment) (k : ℕ) → jumps (cases_code ps site k) ≡ case_jumps ps
cases_count NoPart site k = refl
cases_count (MorePart (Label at None) ps) site k = cases_count ps site (k + 1)
cases_count (MorePart (Label at (Some e)) ps) site k = ap suc (cases_count ps site (k + 1))
cases_count (MorePart (Item t) ps) site k = cases_count ps (behind t site) (k + stmt_jumps t)

-- a default that isn't there is behind the parts
default_small : (ps : CParts) (k end : ℕ) → k + parts_jumps ps < 2 ^ 24 → end < 2 ^ 24 → default_block ps k end < 2 ^ 24
default_small NoPart k end lt lt2 = lt2
default_small (MorePart (Label at None) ps) k end lt lt2 = omega (arith, lt)
default_small (MorePart (Label at (Some e)) ps) k end lt lt2 = default_small ps (k + 1) end (omega (arith, lt)) lt2
default_small (MorePart (Item t) ps) k end lt lt2 = default_small ps (k + stmt_jumps t) end (omega (arith, lt)) lt2

-- ---- the comparisons

equal_words : (c x : ℕ) → c < 2 ^ 24 → nat_eq x (c % 2 ^ 24) ≡ (c == x)
equal_words c x lt = grind arith

module _ (S : Setting) (x end other : ℕ) (small : other < 2 ^ 24) where
  cases_come : (ps : CParts) (site : Environment) (k : ℕ) (rest : List Op) → LabelsAreWords ps site → k + parts_jumps ps < 2 ^ 24 → (s : Place) (st : State) (m : Machine) → m.regs.a ≡ x → Stands S.program s (cases_code ps site k ++ (jump_to other ++ rest))
      → Comes S.program S.input S.mode (here s m st) (fuel_of st) (case_jumps ps + 1) (here (front (case_block x ps site k end other)) m st) (fuel_of st)
  cases_come NoPart site k rest words lt s st m is stands = jump_comes S s m st (fuel_of st) other stands.0 small
  cases_come (MorePart (Item t) ps) site k rest words lt s st m is stands = subst (λ (b : Bool). Comes S.program S.input S.mode (here s m st) (fuel_of st) (case_jumps ps + 1) (here (front (if b || has_from (Case x) ps (behind t site) then (if b then k + 1 else block_of (Case x) ps (behind t site) (k + stmt_jumps t) end) else other)) m st) (fuel_of st)) (sym (item_bare (Case x) site.scope t)) (cases_come ps (behind t site) (k + stmt_jumps t) rest words.1 (omega (arith, lt)) s st m is stands)
  cases_come (MorePart (Label at None) ps) site k rest words lt s st m is stands = cases_come ps site (k + 1) rest words.1 (omega (arith, lt)) s st m is stands
  cases_come (MorePart (Label at (Some e)) ps) site k rest words lt s st m is stands = by (constant_in site.scope e == x) refl (cases_come ps site (k + 1) rest words.1 (omega (arith, lt)) (front (suc s.block)) st m is stands.1)
    where
      step : (b : Bool) → (constant_in site.scope e == x) ≡ b → Comes S.program S.input S.mode (here s m st) (fuel_of st) 1 (here (front (if b then k + 1 else suc s.block)) m st) (fuel_of st)
      step b h =
          let test : nat_eq m.regs.a (constant_in site.scope e % 2 ^ 24) ≡ b = ap (λ z. nat_eq z (constant_in site.scope e % 2 ^ 24)) is ∙ (equal_words (constant_in site.scope e) x words.0 ∙ h) in
          let lands : (k + 1) % 2 ^ 24 ≡ k + 1 = omega (arith, lt) in
          comes_one S.program S.input S.mode (fuel_of st) (one_jump_if S.program S.input s m st.taken st.output Eq (constant (k + 1)) A (constant (constant_in site.scope e)) b test stands.0 ∙ ap (λ z. here (front (if b then z else suc s.block)) m st) lands)

      by : (b : Bool) → (constant_in site.scope e == x) ≡ b → Comes S.program S.input S.mode (here (front (suc s.block)) m st) (fuel_of st) (case_jumps ps + 1) (here (front (case_block x ps site (k + 1) end other)) m st) (fuel_of st)
          → Comes S.program S.input S.mode (here s m st) (fuel_of st) (suc (case_jumps ps) + 1) (here (front (if b || has_from (Case x) ps site then (if b then k + 1 else block_of (Case x) ps site (k + 1) end) else other)) m st) (fuel_of st)
      by true h more = looser S.program S.input S.mode 1 (suc (case_jumps ps) + 1) (step true h) (omega arith)
      by false h more = comes_then S.program S.input S.mode 1 (case_jumps ps + 1) (suc (case_jumps ps) + 1) (step false h) more (omega arith)

-- ---- parts, one behind the other

front_framed : (bs : List Extent) (bp : ℕ) (bases : List Location) (i o : ℕ) (xs ys : List (List Cell)) → AreFramed bs bp bases i o (xs ++ ys) → AreFramed bs bp bases i o xs
front_framed bs bp bases i o [] ys h = tt
front_framed bs bp bases i o (x ∷ xs) ys h = (h.0, front_framed bs bp bases (suc i) (suc o) xs ys h.1)

-- from each label on parts are followed
abbrev pub TailsStated : Setting → World → ℕ → CParts → Environment → Type 0
TailsStated S w u NoPart site = Unit {0}
TailsStated S w u (MorePart p ps) site = PartsStated S w u ps (behind_part p site) × TailsStated S w u ps (behind_part p site)

module _ (S : Setting) (w : World) (agrees : Agrees S w) (u : ℕ) where
  abbrev Z : List Location → Names → Names → Setting
  Z bases coded named = with_names S bases coded named

  abbrev L : List Location → Linking
  L bases = record S.linking { bases = bases }

  body_count : (t : CStmt) (bases : List Location) (place : Environment) (k d : ℕ) (to : Targets) → jumps (stmt_code t (L bases) place k d to) ≡ stmt_jumps t
  body_count t bases place k d to = (stmt_jumps_are t (L bases) place k d to).count

  part_count : (p : CPart) (bases : Linking) (place : Environment) (k d : ℕ) (to : Targets) → jumps (part_code p bases place k d to) ≡ part_jumps p
  part_count (Label at e) bases place k d to = refl
  part_count (Item t) bases place k d to = (stmt_jumps_are t bases place k d to).count

  parts_count : (ps : CParts) (bases : Linking) (place : Environment) (k d : ℕ) (to : Targets) → jumps (parts_code ps bases place k d to) ≡ parts_jumps ps
  parts_count NoPart bases place k d to = refl
  parts_count (MorePart p ps) bases place k d to =
      let both = jumps_append (part_code p bases place k d to) (parts_code ps bases (behind_part p place) (k + part_jumps p) d to) in
      let one = part_count p bases place k d to in
      let rest = parts_count ps bases (behind_part p place) (k + part_jumps p) d to in
      omega (arith, both, one, rest)

  -- what holds where more names are in scope
  abbrev More : CStmt → List Location → Names → Names → (i o : ℕ) → Setting
  More t bases coded named i o = Z bases (names_behind t i coded) (names_behind t o named)

  pub no_parts : (site : Environment) → PartsStated S w u NoPart site
  no_parts site bases coded named k d n i o to some le lt lb lc = record { at = λ s bs st m eq stands r pending. give_follows S.program S.input S.mode Next s m st 0 _ (record { goes = refl; bases = bs; left = left_here (Z bases coded named) bs st m d n r; means = tt }) }

  pub label_stated : (at : ℕ) (e : Option CExpr) (ps : CParts) (site : Environment) → PartsStated S w u ps site → PartsStated S w u (MorePart (Label at e) ps) site
  label_stated at e ps site hs bases coded named k d n i o to some le lt lb lc = record {
    at = λ s bs st m eq stands r pending.
        (let T = Z bases coded named in
        let one = jump_to (k + 1) in
        let two = parts_code ps (L bases) (placed coded i site) (k + 1) d to in
        let there : front (k + 1) ≡ front (suc s.block) = ap front (omega (arith, eq)) in
        let small : k + 1 < 2 ^ 24 = omega (arith, lt) in
        go_on_follows T d n one two k 1 (parts_steps u ps site) (give Next) (parts_do ps S.deep w (placed named o site)) to s bs st m eq stands r
        (first_then T.program T.input T.mode 1 0 1 (give Next st) _ (jump_comes T s m st (fuel_of st) (k + 1) stands.0 small) (give_follows T.program T.input T.mode Next (front (k + 1)) m st 0 _ (record { goes = there; bases = bs; left = left_here T bs st m d n r; means = tt })) (omega arith))
        (λ s1 bs1 st1 m1 e1 k1 r1 l1. (hs bases coded named (k + 1) d n i o to some le (omega (arith, lt)) lb lc).at s1 bs1 st1 m1 e1 k1 r1 (framed_behind T bs bs1 st st1 m m1 d bases i o _ l1 pending)));
  }

  pub item_stated : (t : CStmt) (ps : CParts) (site : Environment) → Stated S w u t site → PartsStated S w u ps (behind t site) → PartsStated S w u (MorePart (Item t) ps) site
  item_stated t ps site h hs bases coded named k d n i o to some le lt lb lc = record {
    at = λ s bs st m eq stands r pending.
        (let T = Z bases coded named in
        let coded1 = names_behind t i coded in
        let named1 = names_behind t o named in
        let T1 = More t bases coded named i o in
        let next = behind t site in
        let one = stmt_code t (L bases) (placed coded i site) k d to in
        let two = parts_code ps (L bases) (behind t (placed coded i site)) (k + stmt_jumps t) d to in
        let counted = body_count t bases (placed coded i site) k d to in
        let rest = parts_objects (scope_behind site.scope t) ps in
        let second : Run Flow = parts_do ps S.deep w (behind t (placed named o site)) in
        go_on_follows T d n one two k (stmt_steps u t site) (parts_steps u ps next) (does t S.deep w (placed named o site)) second to s bs st m eq stands r
        ((h bases coded named k d n i o to some (max_left (stmt_need t site) (parts_need ps next) n le) (omega (arith, lt)) lb lc).at s bs st m eq (stands_first T.program s one two stands) r (front_framed bs m.regs.bp bases i o (objects_in site.scope t) rest pending))
        (λ s1 bs1 st1 m1 e1 k1 r1 l1.
        let pending1 = framed_behind T bs bs1 st st1 m m1 d bases i o (objects_in site.scope t ++ rest) l1 pending in
        let b = ready_behind S bases bs1 st1 m1 d n t site.scope coded named i o rest pending1 r1 in
        let p = hs bases coded1 named1 (k + stmt_jumps t) d n (number_behind t i) (number_behind t o) to some (max_right (stmt_need t site) (parts_need ps next) n le) (omega (arith, lt)) lb lc in
        let p1 = subst (λ z. Performs T1 (parts_code ps (L bases) z (k + stmt_jumps t) d to) (k + stmt_jumps t) d n (parts_steps u ps next) (parts_do ps S.deep w (placed named1 (number_behind t o) next)) to (number_behind t i) (number_behind t o) (parts_objects next.scope ps)) (sym (behind_is t coded i site)) p in
        let p2 = subst (λ z. Performs T1 two (k + stmt_jumps t) d n (parts_steps u ps next) (parts_do ps S.deep w z) to (number_behind t i) (number_behind t o) (parts_objects next.scope ps)) (sym (behind_is t named o site)) p1 in
        let framed1 = subst (λ z. AreFramed bs1 m1.regs.bp bases (number_behind t i) (number_behind t o) (parts_objects z ps)) (sym (scope_is t site)) b.framed in
        wider T.program T.input T.mode (here s1 m1 st1) (fuel_of st1) (parts_steps u ps next) (parts_steps u ps next) (second st1) (FlowReached T1 bs1 st1 m1.memory m1.regs.bp d to (place_behind s1 two)) (FlowReached T bs1 st1 m1.memory m1.regs.bp d to (place_behind s1 two))
        (p2.at s1 bs1 st1 m1 (e1 ∙ ap (λ z. k + z) counted) k1 b.ready framed1)
        (λ flow st2 s2 m2 q. record { goes = q.goes; bases = q.bases; left = record { framed = q.left.framed; lies = q.left.lies; post = q.left.post; charge = q.left.charge; words = q.left.words }; means = q.means }) (omega arith)));
  }

  -- ---- from a label on

  from_follows : (target : Target) (ps : CParts) (site : Environment) → TailsStated S w u ps site → (bases : List Location) (coded named : Names) (k d n i o end : ℕ) (to : Targets) → 1 ≤ d → parts_need ps site ≤ n → k + parts_jumps ps < 2 ^ 24 → end < 2 ^ 24 → to.broke < 2 ^ 24 → to.continued < 2 ^ 24
      → (s : Place) (bs : List Extent) (st : State) (m : Machine) → s.block ≡ k → Stands S.program s (parts_code ps (L bases) (placed coded i site) k d to ++ jump_to end) → Ready (Z bases coded named) bs st m d n → AreFramed bs m.regs.bp bases i o (parts_objects site.scope ps)
      → F S (here (front (block_of target ps site k end)) m st) (fuel_of st) (parts_steps u ps site + 1) (parts_from target ps S.deep w (placed named o site) st) (FlowReached (Z bases coded named) bs st m.memory m.regs.bp d to (front end))
  from_follows target NoPart site tails bases coded named k d n i o end to some le lt le2 lb lc s bs st m eq stands r pending =
      give_follows S.program S.input S.mode Next (front end) m st 1 _ (record { goes = refl; bases = bs; left = left_here (Z bases coded named) bs st m d n r; means = tt })
  from_follows target (MorePart (Label at e) ps) site tails bases coded named k d n i o end to some le lt le2 lb lc s bs st m eq stands r pending =
      by (is_target target site.scope (Label at e)) (from_follows target ps site tails.1 bases coded named (k + 1) d n i o end to some le (omega (arith, lt)) le2 lb lc (front (suc s.block)) bs st m (omega (arith, eq)) stands.1 r pending)
    where
      there : front (suc s.block) ≡ front (k + 1)
      there = ap front (omega (arith, eq))

      k1 : Stands S.program (front (suc s.block)) (parts_code ps (L bases) (placed coded i site) (k + 1) d to ++ jump_to end)
      k1 = stands.1

      by : (b : Bool) → F S (here (front (block_of target ps site (k + 1) end)) m st) (fuel_of st) (parts_steps u ps site + 1) (parts_from target ps S.deep w (placed named o site) st) (FlowReached (Z bases coded named) bs st m.memory m.regs.bp d to (front end))
          → F S (here (front (if b then k + 1 else block_of target ps site (k + 1) end)) m st) (fuel_of st) (1 + parts_steps u ps site + 1) ((if b then parts_do ps S.deep w (placed named o site) else parts_from target ps S.deep w (placed named o site)) st) (FlowReached (Z bases coded named) bs st m.memory m.regs.bp d to (front end))
      by true more =
          let T = Z bases coded named in
          let p = tails.0 bases coded named (k + 1) d n i o to some le (omega (arith, lt)) lb lc in
          let k2 = subst (λ z. Stands S.program z (parts_code ps (L bases) (placed coded i site) (k + 1) d to ++ jump_to end)) there k1 in
          let code = parts_code ps (L bases) (placed coded i site) (k + 1) d to in
          let has = (stands_rest S.program (front (k + 1)) code (jump_to end) k2).0 in
          wider S.program S.input S.mode (here (front (k + 1)) m st) (fuel_of st) (parts_steps u ps site + 1) (1 + parts_steps u ps site + 1) (parts_do ps S.deep w (placed named o site) st) _ _
          (flow_jump T (here (front (k + 1)) m st) (fuel_of st) (parts_steps u ps site) end (parts_do ps S.deep w (placed named o site) st) bs st m.memory m.regs.bp d to (place_behind (front (k + 1)) code) has le2
          (p.at (front (k + 1)) bs st m refl (stands_first S.program (front (k + 1)) code (jump_to end) k2) r pending)) (λ flow st1 s1 m1 q. q) (omega arith)
      by false more =
          wider S.program S.input S.mode (here (front (block_of target ps site (k + 1) end)) m st) (fuel_of st) (parts_steps u ps site + 1) (1 + parts_steps u ps site + 1) (parts_from target ps S.deep w (placed named o site) st) _ _
          more (λ flow st1 s1 m1 q. q) (omega arith)
  from_follows target (MorePart (Item t) ps) site tails bases coded named k d n i o end to some le lt le2 lb lc s bs st m eq stands r pending =
      let T = Z bases coded named in
      let T1 = More t bases coded named i o in
      let next = behind t site in
      let coded1 = names_behind t i coded in
      let named1 = names_behind t o named in
      let one = stmt_code t (L bases) (placed coded i site) k d to in
      let two = parts_code ps (L bases) (behind t (placed coded i site)) (k + stmt_jumps t) d to in
      let s1 = place_behind s one in
      let k0 = subst (λ z. Stands S.program s z) (append_assoc one two (jump_to end)) stands in
      let k1 = stands_rest S.program s one (two ++ jump_to end) k0 in
      let k2 = subst (λ z. Stands S.program s1 (parts_code ps (L bases) z (k + stmt_jumps t) d to ++ jump_to end)) (behind_is t coded i site) k1 in
      let rest = parts_objects (scope_behind site.scope t) ps in
      let b = ready_behind S bases bs st m d n t site.scope coded named i o rest pending r in
      let framed1 = subst (λ z. AreFramed bs m.regs.bp bases (number_behind t i) (number_behind t o) (parts_objects z ps)) (sym (scope_is t site)) b.framed in
      let e1 : s1.block ≡ k + stmt_jumps t = behind_block s one ∙ omega (arith, eq, body_count t bases (placed coded i site) k d to) in
      let f = from_follows target ps next tails.1 bases coded1 named1 (k + stmt_jumps t) d n (number_behind t i) (number_behind t o) end to some (max_right (stmt_need t site) (parts_need ps next) n le) (omega (arith, lt)) le2 lb lc s1 bs st m e1 k2 b.ready framed1 in
      let f1 = subst (λ z. F S (here (front (block_of target ps next (k + stmt_jumps t) end)) m st) (fuel_of st) (parts_steps u ps next + 1) (parts_from target ps S.deep w z st) (FlowReached T1 bs st m.memory m.regs.bp d to (front end))) (sym (behind_is t named o site)) f in
      subst (λ (b : Bool). F S (here (front (if b then k + 1 else block_of target ps next (k + stmt_jumps t) end)) m st) (fuel_of st) (stmt_steps u t site + parts_steps u ps next + 1) ((if b then parts_do ps S.deep w (behind t (placed named o site)) else parts_from target ps S.deep w (behind t (placed named o site))) st) (FlowReached T bs st m.memory m.regs.bp d to (front end)))
      (sym (item_bare target site.scope t))
      (wider S.program S.input S.mode (here (front (block_of target ps next (k + stmt_jumps t) end)) m st) (fuel_of st) (parts_steps u ps next + 1) (stmt_steps u t site + parts_steps u ps next + 1) (parts_from target ps S.deep w (behind t (placed named o site)) st) (FlowReached T1 bs st m.memory m.regs.bp d to (front end)) (FlowReached T bs st m.memory m.regs.bp d to (front end)) f1
      (λ flow st2 s2 m2 q. record { goes = q.goes; bases = q.bases; left = record { framed = q.left.framed; lies = q.left.lies; post = q.left.post; charge = q.left.charge; words = q.left.words }; means = q.means }) (omega arith))

  -- ---- the whole

  -- a `break` ends the `switch`
  ended : (Q : Setting) (bs : List Extent) (st : State) (mem : Memory) (bp d end c : ℕ) (to : Targets) → end < 2 ^ 24 → (flow : Flow) (st1 : State) (s1 : Place) (m1 : Machine) → FlowReached Q bs st mem bp d (targets end to.continued) (front end) flow st1 s1 m1
      → F Q (here s1 m1 st1) (fuel_of st1) (1 + c) (give (behind_switch flow) st1) (FlowReached Q bs st mem bp d to (front end))
  ended Q bs st mem bp d end c to lt Next st1 s1 m1 q = give_follows Q.program Q.input Q.mode Next s1 m1 st1 (1 + c) _ (record { goes = q.goes; bases = q.bases; left = q.left; means = tt })
  ended Q bs st mem bp d end c to lt Broke st1 s1 m1 q =
      first_then Q.program Q.input Q.mode 1 c (1 + c) (give Next st1) _ (jump_comes Q s1 m1 st1 (fuel_of st1) end q.goes lt) (give_follows Q.program Q.input Q.mode Next (front end) m1 st1 c _ (record { goes = refl; bases = q.bases; left = q.left; means = tt })) (omega arith)
  ended Q bs st mem bp d end c to lt Continued st1 s1 m1 q = give_follows Q.program Q.input Q.mode Continued s1 m1 st1 (1 + c) _ (record { goes = q.goes; bases = q.bases; left = q.left; means = tt })
  ended Q bs st mem bp d end c to lt (Returned v) st1 s1 m1 q = give_follows Q.program Q.input Q.mode (Returned v) s1 m1 st1 (1 + c) _ (record { goes = q.goes; bases = q.bases; left = q.left; means = q.means })

  -- behind the value
  abbrev parts_site : CExpr → Environment → Environment
  parts_site e site = in_block 0 (past e site)

  abbrev switch_objects : CParts → Environment → List (List Cell)
  switch_objects ps site = parts_objects (entered site.scope) ps

  abbrev first_block : CExpr → CParts → ℕ → ℕ
  first_block e ps k = k + expr_jumps e + case_jumps ps + 1

  abbrev end_block : CExpr → CParts → ℕ → ℕ
  end_block e ps k = first_block e ps k + parts_jumps ps + 1

  abbrev parts_at : CExpr → CParts → Environment → List Location → Names → (k d : ℕ) → Targets → List Op
  parts_at e ps site bases coded k d to =
      parts_code ps (L (bases ++ framed (switch_objects ps site) d)) (placed coded (length bases) (parts_site e site)) (first_block e ps k) (d + words_in (switch_objects ps site)) (targets (end_block e ps k) to.continued)

  abbrev rest_code : CExpr → CParts → Environment → List Location → Names → (k d : ℕ) → Targets → List Op
  rest_code e ps site bases coded k d to =
      cases_code ps (placed coded (length bases) (parts_site e site)) (first_block e ps k)
      ++ (jump_to (default_block ps (first_block e ps k) (end_block e ps k)) ++ (parts_at e ps site bases coded k d to ++ jump_to (end_block e ps k)))

  abbrev chosen_run : CExpr → CParts → Environment → Names → ℕ → Run Flow
  chosen_run e ps site named y = within (switch_objects ps site) (λ o. parts_from (target_of y (entered site.scope) ps) ps S.deep w (placed named o (parts_site e site)))

  abbrev rest_run : CExpr → CParts → Environment → Names → Value → Run Flow
  rest_run e ps site named v = of_word v (λ y. chosen_run e ps site named y >>= λ flow. give (behind_switch flow))

  abbrev rest_cost : CExpr → CParts → Environment → ℕ
  rest_cost e ps site = case_jumps ps + 1 + (parts_steps u ps (parts_site e site) + 1 + 1)

  chosen_follows : (e : CExpr) (ps : CParts) (site : Environment) → LabelsAreWords ps (parts_site e site) → AreUnset (switch_objects ps site) → TailsStated S w u ps (parts_site e site) → (bases : List Location) (coded named : Names) (k d n : ℕ) (to : Targets) → 1 ≤ d
      → words_in (switch_objects ps site) + parts_need ps (parts_site e site) ≤ n → k + (expr_jumps e + case_jumps ps + parts_jumps ps + 2) < 2 ^ 24 → to.continued < 2 ^ 24 → (p : Place) (bs : List Extent) (st : State) (m : Machine) → p.block ≡ k + expr_jumps e
      → Stands S.program p (rest_code e ps site bases coded k d to) → Ready (Z bases coded named) bs st m d n → (y : ℕ) → m.regs.a ≡ y
      → F S (here p m st) (fuel_of st) (rest_cost e ps site) ((chosen_run e ps site named y >>= λ flow. give (behind_switch flow)) st) (FlowReached (Z bases coded named) bs st m.memory m.regs.bp d to (place_behind p (rest_code e ps site bases coded k d to)))
  chosen_follows e ps site words free tails bases coded named k d n to some le lt lc p bs st m eq stands r y is =
      let T = Z bases coded named in
      let inner = parts_site e site in
      let objects = switch_objects ps site in
      let first = first_block e ps k in
      let end = end_block e ps k in
      let other = default_block ps first end in
      let need = parts_need ps inner in
      let cost = parts_steps u ps inner in
      let bases1 = bases ++ framed objects d in
      let d1 = d + words_in objects in
      let cases = cases_code ps (placed coded (length bases) inner) first in
      let parts = parts_at e ps site bases coded k d to in
      let tail = parts ++ jump_to end in
      let around = targets end to.continued in
      let end_small : end < 2 ^ 24 = omega (arith, lt) in
      let other_small : other < 2 ^ 24 = default_small ps first end (omega (arith, lt)) end_small in
      let same : cases ≡ cases_code ps inner first = cases_placed ps coded (length bases) inner first in
      let k0 = subst (λ z. Stands S.program p (z ++ (jump_to other ++ tail))) same stands in
      let go = cases_come T y end other other_small ps inner first tail words (omega (arith, lt)) p st m is k0 in
      let there : case_block y ps inner first end other ≡ block_of (target_of y inner.scope ps) ps inner first end = target_is y ps inner first end in
      let chosen = block_of (target_of y inner.scope ps) ps inner first end in
      let go1 = subst (λ z. Comes S.program S.input S.mode (here p m st) (fuel_of st) (case_jumps ps + 1) (here (front z) m st) (fuel_of st)) there go in
      let p1 = place_behind p cases in
      let p2 = front (suc p1.block) in
      let k2 = (stands_rest S.program p cases (jump_to other ++ tail) stands).1 in
      let counted : jumps cases ≡ case_jumps ps = ap jumps same ∙ cases_count ps inner first in
      let b2 : suc p1.block ≡ first = omega (arith, behind_block p cases, eq, counted) in
      let p3 = place_behind p2 parts in
      let parts_counted : jumps parts ≡ parts_jumps ps = parts_count ps (L bases1) (placed coded (length bases) inner) first d1 around in
      let over : place_behind p (cases ++ (jump_to other ++ tail)) ≡ front end = behind_append p cases (jump_to other ++ tail) ∙ (behind_append p2 parts (jump_to end) ∙ ap front (omega (arith, behind_block p2 parts, b2, parts_counted))) in
      let r1 = ready_less T bs st m d n (words_in objects + need) le r in
      let R = FlowReached T bs st m.memory m.regs.bp d to (front end) in
      subst (λ z. F S (here p m st) (fuel_of st) (rest_cost e ps site) ((chosen_run e ps site named y >>= λ flow. give (behind_switch flow)) st) (FlowReached T bs st m.memory m.regs.bp d to z)) (sym over)
      (first_then S.program S.input S.mode (case_jumps ps + 1) (cost + 1 + 1) (rest_cost e ps site) ((chosen_run e ps site named y >>= λ flow. give (behind_switch flow)) st) R go1
      (then_follows S.program S.input S.mode (here (front chosen) m st) (fuel_of st) (cost + 1) 1 (cost + 1 + 1) (chosen_run e ps site named y) st (λ flow. give (behind_switch flow)) (FlowReached T bs st m.memory m.regs.bp d around (front end)) R
      (block_around T objects free d need some (front chosen) (front end) (cost + 1) around (λ o. parts_from (target_of y inner.scope ps) ps S.deep w (placed named o inner)) bs st m r1
      (λ bs1 o1 r2 pending. from_follows (target_of y inner.scope ps) ps inner tails bases1 coded named first d1 need (length bases) o1 end around (omega (arith, some)) (omega arith) (omega (arith, lt)) end_small end_small lc p2 bs1 (record st { objects = with_new st.objects objects }) m b2 k2 r2 pending))
      (λ flow st1 s1 m1 le1 q. ended T bs st m.memory m.regs.bp d end 0 to end_small flow st1 s1 m1 q) (omega arith)) (omega arith))

  rest_follows : (e : CExpr) (ps : CParts) (site : Environment) → LabelsAreWords ps (parts_site e site) → AreUnset (switch_objects ps site) → TailsStated S w u ps (parts_site e site) → (bases : List Location) (coded named : Names) (k d n : ℕ) (to : Targets) → 1 ≤ d
      → words_in (switch_objects ps site) + parts_need ps (parts_site e site) ≤ n → k + (expr_jumps e + case_jumps ps + parts_jumps ps + 2) < 2 ^ 24 → to.continued < 2 ^ 24 → (p : Place) (bs : List Extent) (st : State) (m : Machine) → p.block ≡ k + expr_jumps e
      → Stands S.program p (rest_code e ps site bases coded k d to) → Ready (Z bases coded named) bs st m d n → (v : Value) → InA (Z bases coded named) v bs m
      → F S (here p m st) (fuel_of st) (rest_cost e ps site) (rest_run e ps site named v st) (FlowReached (Z bases coded named) bs st m.memory m.regs.bp d to (place_behind p (rest_code e ps site bases coded k d to)))
  unfolding of_word
  rest_follows e ps site words free tails bases coded named k d n to some le lt lc p bs st m eq stands r (Word y) h = chosen_follows e ps site words free tails bases coded named k d n to some le lt lc p bs st m eq stands r y h.0
  rest_follows e ps site words free tails bases coded named k d n to some le lt lc p bs st m eq stands r Null h = undefined_follows S.program S.input S.mode OtherKind p m st (fuel_of st) (rest_cost e ps site) _
  rest_follows e ps site words free tails bases coded named k d n to some le lt lc p bs st m eq stands r (Point o j) h = undefined_follows S.program S.input S.mode OtherKind p m st (fuel_of st) (rest_cost e ps site) _
  rest_follows e ps site words free tails bases coded named k d n to some le lt lc p bs st m eq stands r (Letter f i text j) h = undefined_follows S.program S.input S.mode OtherKind p m st (fuel_of st) (rest_cost e ps site) _
  rest_follows e ps site words free tails bases coded named k d n to some le lt lc p bs st m eq stands r (Function name) h = undefined_follows S.program S.input S.mode OtherKind p m st (fuel_of st) (rest_cost e ps site) _
  rest_follows e ps site words free tails bases coded named k d n to some le lt lc p bs st m eq stands r Missing h = undefined_follows S.program S.input S.mode OtherKind p m st (fuel_of st) (rest_cost e ps site) _

  pub switch_stated : (e : CExpr) (ps : CParts) (site : Environment) → ExprValued S w u e site → LabelsAreWords ps (in_block 0 (past e site)) → AreUnset (parts_objects (entered site.scope) ps) → TailsStated S w u ps (in_block 0 (past e site)) → Stated S w u (Switch e ps) site
  unfolding used_value
  switch_stated e ps site x words free tails bases coded named k d n i o to some le lt lb lc = record {
    at = λ s bs st m eq stands r pending.
        (let T = Z bases coded named in
        let code = value_code e (L bases) (placed coded i site) k d in
        let rest = rest_code e ps site bases coded k d to in
        let cost = rest_cost e ps site in
        let room = max_right (waiting e) (words_in (switch_objects ps site) + parts_need ps (parts_site e site)) n le in
        let l = used_in_a T w (agrees_named S w bases coded named agrees) ((x bases coded named).value k d n i o (max_left (waiting e) (words_in (switch_objects ps site) + parts_need ps (parts_site e site)) n le) (omega (arith, lt))) in
        let k1 = stands_rest T.program s code rest stands in
        let p1 = place_behind s code in
        let b1 : p1.block ≡ k + expr_jumps e = behind_block s code ∙ omega (arith, eq, (value_jumps e (L bases) (placed coded i site) k d).count) in
        let end = place_behind p1 rest in
        subst (λ z. F T (here s m st) (fuel_of st) (steps u e + cost) (((value_of e w (placed named o site) >>= used) >>= rest_run e ps site named) st) (FlowReached T bs st m.memory m.regs.bp d to z)) (sym (behind_append s code rest))
        (then_follows T.program T.input T.mode (here s m st) (fuel_of st) (steps u e) cost (steps u e + cost) (value_of e w (placed named o site) >>= used) st (rest_run e ps site named) (Reached T bs st m.memory m.regs.bp d p1 (InA T)) (FlowReached T bs st m.memory m.regs.bp d to end) (l.at s bs st m eq (stands_first T.program s code rest stands) r)
        (λ v st1 t1 m1 le1 q. from_place T m1 st1 cost (rest_run e ps site named v st1) _ q.place
        (wider T.program T.input T.mode (here p1 m1 st1) (fuel_of st1) cost cost (rest_run e ps site named v st1) (FlowReached T q.bases st1 m1.memory m1.regs.bp d to end) _
        (rest_follows e ps site words free tails bases coded named k d n to some room (omega (arith, lt)) lc p1 q.bases st1 m1 b1 k1 (ready_later T bs q.bases st st1 m m1 d n r q.left le1) v q.means)
        (λ flow2 st2 s2 m2 q2. flow_then T bs q.bases st st1 m.memory m1 m.regs.bp d to end q.left flow2 st2 s2 m2 q2) (omega arith)))
        (omega arith)));
  }
