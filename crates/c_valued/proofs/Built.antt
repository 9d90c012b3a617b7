-- Units that are paid, and the functions that are always known.
use Rattle.std.proofs.Common.{◌≡◌, ℕ, suc, ◌+◌, ◌-◌, ◌%◌, ◌^◌, ◌<◌, ◌≤◌, Bool, true, false, List, [], ◌∷◌, ◌++◌, length, refl, sym, ap, ◌∙◌, subst, arith, nat_eq, if◌then◌else◌}
use Rattle.std.specs.Prelude.{cond, codes}
use Rattle.std.specs.Str.{bytes_eq}
use Rattle.mach_core.specs.Rule.{Moment, applied, input_at}
use Rattle.word24.specs.Word.{difference_word}
use Rattle.eir_core.specs.Step.{Config, eir_rule, with_reg}
use Rattle.eir_core.specs.declared.ops.Reg.TheVariants.{A, B}
use Rattle.eir_core.specs.declared.ops.Operand.TheVariants.{Reg as register}
use Rattle.eir_core.specs.declared.ops.Cond.TheVariants.{Eq}
use Rattle.eir_core.specs.declared.ops.Op.{Op}
use Rattle.eir_core.specs.declared.ops.Op.TheVariants.{Mov, Sub, Set, Putc, Getc, Exit, Jump}
use Rattle.c_eval.specs.State.{Value, Word, Null, Point, Letter, Function, Missing, State, Act, OtherKind, Run}
use Rattle.c_eval.specs.Run.{◌>>=◌, after, give, undefined, exit, paid, put, next_byte}
use Rattle.c_eval.specs.Operators.{of_word}
use Rattle.c_eval.specs.BuiltIns.{put_string_at, character, with_one, built_in}
use Rattle.c_eval.specs.Eval.{World}
use Rattle.c_place.specs.Place.{Place, Machine, front, behind, Has, Stands, behind_all, moment, made_all}
use Rattle.c_place.proofs.Running.{one_get, one_put, one_jump, one_exit}
use Rattle.c_lowered.specs.Operations.{constant}
use Rattle.c_lowered.specs.Expressions.{built_in_code}
use Rattle.c_memory.specs.Follows.{Fuel, fuel_of, here, Comes}
use Rattle.c_memory.specs.Lies.{Extent, Means}
use Rattle.c_memory.proofs.Following.{Claim, comes_here, comes_then, comes_one, comes_quiet, looser, undefined_follows, unit_then, unit_follows, spare_follows}
use Rattle.c_memory.proofs.Lying.{post_here}
use Rattle.c_landing.specs.Landing.{Setting, Ready, Reached, Goes, InA}
use Rattle.c_landing.proofs.Landing.{F}
use Rattle.c_valued.specs.Calls.{FirstInA, UnitPays}

-- ---- units

module _ {R : Type 0} (S : Setting) (s : Place) (m : Machine) (st : State) (Q : Claim R) (inside : s.block < length S.program.blocks) where
  -- a unit is spent at an operation
  pub paid_follows : (inner : Bool) → UnitPays S.mode inner 0 → (run : Run R) (b : Moment Config) (c1 c : ℕ) → applied (eir_rule S.program) S.input (here s m st) ≡ b
      → ((l n : ℕ) → F S b (record { left = l; spare = n }) c1 (run (record st { left = l; spare = n })) Q) → 1 + c1 ≤ c → F S (here s m st) (fuel_of st) c (paid inner run st) Q
  paid_follows false unit run b c1 c e f le =
      unit_follows S.program S.input S.mode run s m st c Q inside (λ l is.
      let x : Fuel = record { left = suc l; spare = st.spare } in
      let y : Fuel = record { left = l; spare = st.spare } in
      let go = unit_then S.program S.input S.mode (here s m st) b x y 0 c1 c (run (record st { left = l; spare = st.spare })) Q e (unit l st.spare) (f l st.spare) (omega (arith, le)) in
      subst (λ z. F S (here s m st) (record { left = z; spare = st.spare }) c (run (record st { left = l; spare = st.spare })) Q) (sym is) go)
  paid_follows true unit run b c1 c e f le =
      spare_follows S.program S.input S.mode run s m st c Q (λ n is.
      let x : Fuel = record { left = st.left; spare = suc n } in
      let y : Fuel = record { left = st.left; spare = n } in
      let go = unit_then S.program S.input S.mode (here s m st) b x y 0 c1 c (run (record st { left = st.left; spare = n })) Q e (unit st.left n) (f st.left n) (omega (arith, le)) in
      subst (λ z. F S (here s m st) (record { left = st.left; spare = z }) c (run (record st { left = st.left; spare = n })) Q) (sym is) go)

  -- what is undefined once a unit is spent
  pub paid_undefined : (inner : Bool) (act : Act) (c : ℕ) → F S (here s m st) (fuel_of st) c (paid inner (undefined {A = R} act) st) Q
  paid_undefined false act c = unit_follows S.program S.input S.mode (undefined {A = R} act) s m st c Q inside (λ l is. undefined_follows S.program S.input S.mode act s m (record st { left = l }) (fuel_of st) c Q)
  paid_undefined true act c = spare_follows S.program S.input S.mode (undefined {A = R} act) s m st c Q (λ n is. undefined_follows S.program S.input S.mode act s m (record st { spare = n }) (fuel_of st) c Q)

-- ---- functions that are always known

small : (k : ℕ) → k < 2 ^ 24 → k % 2 ^ 24 ≡ k
small k lt = omega (arith, lt)

-- a jump behind which the next block begins
next_comes : (S : Setting) (p : Place) (m : Machine) (st : State) (x : Fuel) (k : ℕ) → Has S.program p (Jump (constant k)) → k < 2 ^ 24 → k ≡ suc p.block → Comes S.program S.input S.mode (here p m st) x 1 (here (front (suc p.block)) m st) x
next_comes S p m st x k has lt is = comes_one S.program S.input S.mode x (one_jump S.program S.input p m st.taken st.output (constant k) has ∙ ap (λ z. here (front z) m st) (small k lt ∙ is))

-- the next byte, or -1
character_means : (S : Setting) (bs : List Extent) (c : ℕ) → c < 2 ^ 24 → Means S.ground bs (character c) (difference_word c (cond (nat_eq c 0) 1 0))
character_means S bs c lt = by (nat_eq c 0) refl
  where
    by : (t : Bool) → nat_eq c 0 ≡ t → Means S.ground bs (if t then Word (2 ^ 24 - 1) else Word c) (difference_word c (cond t 1 0))
    by true e = let z : c ≡ 0 = grind (arith, e) in (omega (arith, z), omega arith)
    by false e = (omega (arith, lt), lt)

module _ (S : Setting) (w : World) (same : w.input ≡ S.input) (unit : UnitPays S.mode w.inner 0) (bytes : (i : ℕ) → input_at S.input i < 2 ^ 24) (block d n k : ℕ) (lt : k < 2 ^ 24) (is : k ≡ suc block) where
  -- what is left where nothing of the objects has changed
  still_reached : (bs : List Extent) (st st1 : State) (m m1 : Machine) (to : Place) (v : Value) → Ready S bs st m d n → st1.objects ≡ st.objects → st1.charge ≡ st.charge → st1.words ≡ st.words → m1.memory ≡ m.memory → m1.regs.bp ≡ m.regs.bp → Means S.ground bs v m1.regs.a
      → Reached S bs st m.memory m.regs.bp d to (InA S) v st1 to m1
  still_reached bs st st1 m m1 to v r eo ec ew em eb h = record {
    place = refl;
    bases = bs;
    left = record {
      framed = eb;
      lies = rw (eo, em) r.lies;
      post = rw (eo, em) (post_here (m.regs.bp + d) bs st.objects m.memory);
      charge = ec;
      words = ew;
    };
    means = h;
  }

  getchar_goes : Goes S ((Getc A ∷ Mov B (register A) ∷ Set Eq B (constant 0) ∷ Sub A (register B) ∷ []) ++ Jump (constant k) ∷ []) block d n 5 (λ vs. paid w.inner (next_byte w.input >>= λ c. give (character c))) (FirstInA S) (InA S)
  unfolding next_byte ◌>>=◌ after give
  getchar_goes = record {
    at = λ vs s bs st m e stands r h.
        (let tail : List Op = Mov B (register A) ∷ Set Eq B (constant 0) ∷ Sub A (register B) ∷ [] in
        let got : Machine = record m { regs = with_reg m.regs A (input_at S.input st.taken) } in
        let p1 = behind s (Getc A) in
        let p2 = behind_all p1 tail in
        let m2 = made_all tail got in
        let to = front (suc s.block) in
        let later : State = record st { taken = st.taken + 1 } in
        let Q = Reached S bs st m.memory m.regs.bp d to (InA S) in
        paid_follows S s m st Q stands.0.inside w.inner unit (next_byte w.input >>= λ c. give (character c)) (here p1 got later) 4 5 (one_get S.program S.input s m st.taken st.output A stands.0)
        (λ l i.
        let st2 : State = record st { left = l; spare = i; taken = st.taken + 1 } in
        let x : Fuel = record { left = l; spare = i } in
        let c = input_at w.input st.taken in
        let value : Means S.ground bs (character c) m2.regs.a = subst (λ z. Means S.ground bs (character (input_at z st.taken)) m2.regs.a) (sym same) (character_means S bs (input_at S.input st.taken) (bytes st.taken)) in
        let one = comes_quiet S.program S.input S.mode p1 got st2 tail x (tt, (tt, (tt, tt))) (stands.1.0, (stands.1.1.0, (stands.1.1.1.0, tt))) in
        let two = next_comes S p2 m2 st2 x k stands.1.1.1.1.0 lt (is ∙ ap suc (sym e)) in (
          to,
          m2,
          comes_then S.program S.input S.mode 3 1 4 one two (omega arith),
          still_reached bs st st2 m m2 to (character c) r refl refl refl refl refl value,
        ))
        (omega arith));
  }

  getc_goes : Goes S ((Getc A ∷ []) ++ Jump (constant k) ∷ []) block d n 5 (λ vs. paid w.inner (next_byte w.input >>= λ c. give (Word c))) (FirstInA S) (InA S)
  unfolding next_byte ◌>>=◌ after give
  getc_goes = record {
    at = λ vs s bs st m e stands r h.
        (let got : Machine = record m { regs = with_reg m.regs A (input_at S.input st.taken) } in
        let p1 = behind s (Getc A) in
        let to = front (suc s.block) in
        let later : State = record st { taken = st.taken + 1 } in
        let Q = Reached S bs st m.memory m.regs.bp d to (InA S) in
        paid_follows S s m st Q stands.0.inside w.inner unit (next_byte w.input >>= λ c. give (Word c)) (here p1 got later) 4 5 (one_get S.program S.input s m st.taken st.output A stands.0)
        (λ l i.
        let st2 : State = record st { left = l; spare = i; taken = st.taken + 1 } in
        let x : Fuel = record { left = l; spare = i } in
        let c = input_at w.input st.taken in
        let value : Means S.ground bs (Word c) got.regs.a = subst (λ z. Means S.ground bs (Word (input_at z st.taken)) got.regs.a) (sym same) (refl, bytes st.taken) in (
          to,
          got,
          looser S.program S.input S.mode 1 4 (next_comes S p1 got st2 x k stands.1.0 lt (is ∙ ap suc (sym e))) (omega arith),
          still_reached bs st st2 m got to (Word c) r refl refl refl refl refl value,
        ))
        (omega arith));
  }

  putchar_goes : Goes S ((Putc (register A) ∷ []) ++ Jump (constant k) ∷ []) block d n 5 (λ vs. paid w.inner (with_one vs (λ v. of_word v (λ c. put c >>= λ _. give v)))) (FirstInA S) (InA S)
  unfolding put ◌>>=◌ after give with_one of_word
  putchar_goes = record { at = λ vs s bs st m e stands r h. by vs s bs st m e stands r h }
    where
      by : (vs : List Value) (s : Place) (bs : List Extent) (st : State) (m : Machine) → s.block ≡ block → Stands S.program s ((Putc (register A) ∷ []) ++ Jump (constant k) ∷ []) → Ready S bs st m d n → FirstInA S vs bs m
          → F S (here s m st) (fuel_of st) 5 (paid w.inner (with_one vs (λ v. of_word v (λ c. put c >>= λ _. give v))) st) (Reached S bs st m.memory m.regs.bp d (front (suc s.block)) (InA S))
      by [] s bs st m e stands r h = paid_undefined S s m st _ stands.0.inside w.inner OtherKind 5
      by (Word c ∷ vs) s bs st m e stands r h =
          let p1 = behind s (Putc (register A)) in
          let to = front (suc s.block) in
          let later : State = record st { output = st.output ++ c % 2 ^ 8 ∷ [] } in
          let Q = Reached S bs st m.memory m.regs.bp d to (InA S) in
          paid_follows S s m st Q stands.0.inside w.inner unit (put c >>= λ _. give (Word c)) (here p1 m later) 4 5
          (one_put S.program S.input s m st.taken st.output (register A) stands.0 ∙ ap (λ z. moment p1 m st.taken (st.output ++ z % 2 ^ 8 ∷ [])) h.0)
          (λ l i.
          let st2 : State = record st { left = l; spare = i; output = st.output ++ c % 2 ^ 8 ∷ [] } in
          let x : Fuel = record { left = l; spare = i } in (
            to,
            m,
            looser S.program S.input S.mode 1 4 (next_comes S p1 m st2 x k stands.1.0 lt (is ∙ ap suc (sym e))) (omega arith),
            still_reached bs st st2 m m to (Word c) r refl refl refl refl refl h,
          ))
          (omega arith)
      by (Null ∷ vs) s bs st m e stands r h = paid_undefined S s m st _ stands.0.inside w.inner OtherKind 5
      by (Point o j ∷ vs) s bs st m e stands r h = paid_undefined S s m st _ stands.0.inside w.inner OtherKind 5
      by (Letter f j text l ∷ vs) s bs st m e stands r h = paid_undefined S s m st _ stands.0.inside w.inner OtherKind 5
      by (Function name ∷ vs) s bs st m e stands r h = paid_undefined S s m st _ stands.0.inside w.inner OtherKind 5
      by (Missing ∷ vs) s bs st m e stands r h = paid_undefined S s m st _ stands.0.inside w.inner OtherKind 5

  exit_goes : Goes S ((Exit ∷ []) ++ Jump (constant k) ∷ []) block d n 5 (λ vs. paid w.inner (with_one vs (λ v. of_word v (λ i. exit {A = Value})))) (FirstInA S) (InA S)
  unfolding exit with_one of_word
  exit_goes = record { at = λ vs s bs st m e stands r h. by vs s bs st m stands }
    where
      by : (vs : List Value) (s : Place) (bs : List Extent) (st : State) (m : Machine) → Stands S.program s ((Exit ∷ []) ++ Jump (constant k) ∷ [])
          → F S (here s m st) (fuel_of st) 5 (paid w.inner (with_one vs (λ v. of_word v (λ i. exit {A = Value}))) st) (Reached S bs st m.memory m.regs.bp d (front (suc s.block)) (InA S))
      by [] s bs st m stands = paid_undefined S s m st _ stands.0.inside w.inner OtherKind 5
      by (Word c ∷ vs) s bs st m stands =
          let over = front (length S.program.blocks) in
          let Q = Reached S bs st m.memory m.regs.bp d (front (suc s.block)) (InA S) in
          paid_follows S s m st Q stands.0.inside w.inner unit (exit {A = Value}) (here over m st) 0 5 (one_exit S.program S.input s m st.taken st.output stands.0)
          (λ l i. (over, m, comes_here S.program S.input S.mode (here over m (record st { left = l; spare = i })) (record { left = l; spare = i }), omega arith)) (omega arith)
      by (Null ∷ vs) s bs st m stands = paid_undefined S s m st _ stands.0.inside w.inner OtherKind 5
      by (Point o j ∷ vs) s bs st m stands = paid_undefined S s m st _ stands.0.inside w.inner OtherKind 5
      by (Letter f j text l ∷ vs) s bs st m stands = paid_undefined S s m st _ stands.0.inside w.inner OtherKind 5
      by (Function name ∷ vs) s bs st m stands = paid_undefined S s m st _ stands.0.inside w.inner OtherKind 5
      by (Missing ∷ vs) s bs st m stands = paid_undefined S s m st _ stands.0.inside w.inner OtherKind 5

  other_goes : Goes S ([] ++ Jump (constant k) ∷ []) block d n 5 (λ vs. paid w.inner (undefined {A = Value} OtherKind)) (FirstInA S) (InA S)
  other_goes = record { at = λ vs s bs st m e stands r h. paid_undefined S s m st _ stands.0.inside w.inner OtherKind 5 }

  -- by the tests of the names of `getchar`, `__builtin_getc`, `putchar`, `puts` and `exit`
  built_by : (t1 t2 t3 t4 t5 : Bool) → t4 ≡ false
      → Goes S ((if t1 then Getc A ∷ Mov B (register A) ∷ Set Eq B (constant 0) ∷ Sub A (register B) ∷ [] else if t2 then Getc A ∷ [] else if t3 then Putc (register A) ∷ [] else if t5 then Exit ∷ [] else []) ++ Jump (constant k) ∷ []) block d n 5
      (λ vs. paid w.inner (if t1 then (next_byte w.input >>= λ c. give (character c)) else if t2 then (next_byte w.input >>= λ c. give (Word c)) else if t3 then with_one vs (λ v. of_word v (λ c. put c >>= λ _. give v)) else if t4 then with_one vs (λ v. put_string_at w.inner v >>= λ _. put 10 >>= λ _. give (Word 0)) else if t5 then with_one vs (λ v. of_word v (λ i. exit)) else undefined OtherKind))
      (FirstInA S) (InA S)
  built_by true t2 t3 t4 t5 e = getchar_goes
  built_by false true t3 t4 t5 e = getc_goes
  built_by false false true t4 t5 e = putchar_goes
  built_by false false false true t5 e = absurd (cc e)
  built_by false false false false true e = exit_goes
  built_by false false false false false e = other_goes

  pub built_goes : (name : List ℕ) → bytes_eq name (codes "puts") ≡ false → Goes S (built_in_code name ++ Jump (constant k) ∷ []) block d n 5 (λ vs. paid w.inner (built_in w.input w.inner name vs)) (FirstInA S) (InA S)
  unfolding built_in
  built_goes name e = built_by (bytes_eq name (codes "getchar")) (bytes_eq name (codes "__builtin_getc")) (bytes_eq name (codes "putchar")) (bytes_eq name (codes "puts")) (bytes_eq name (codes "exit")) e
