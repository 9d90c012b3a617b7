-- The bodies of functions are read exactly where the grammar spells them.
use Rattle.std.proofs.Common.{◌≡◌, ℕ, zero, suc, ◌+◌, ◌-◌, ◌^◌, ◌≤◌, List, [], ◌∷◌, length, map, Ok, refl, sym, ap, subst, ◌∙◌, arith}
use Rattle.std.specs.Prelude.{◌==◌, sum}
use Rattle.std.proofs.lemmas.Bool.{eqb-true, eq-eqb}
use Rattle.std.proofs.lemmas.List.Sums.{sum_by-cons}
use Rattle.wasm_bytes.specs.declared.fault.ModFault.TheVariants.{Malformed}
use Rattle.wasm_bin.specs.declared.module.FuncType.{FuncType}
use Rattle.wasm_bytes.specs.Piece.{Piece, place, closed_at}
use Rattle.wasm_bytes.specs.Number.{u32_at, limited_at}
use Rattle.wasm_bin.specs.Parts.{Function}
use Rattle.wasm_bin.specs.Entry.{value_type_at}
use Rattle.wasm_bin.specs.Body.{code_at, runs_at, locals_at, sized_at, function_at, body_at}
use Rattle.wasm_bin.specs.Section.{params_of, each_body_at, bodies_at}
use Rattle.wasm_bin.specs.Grammar.{◌⋅◌, InTurn, SpellsNumber, SpellsLimited, ValueType, SpellsCode, SpellsRun, SpellsLocals, SpellsBody, SpellsBodies, SpellsFuncs}
use Rattle.wasm_bin.proofs.GrammarSteps.{Took, behind_number, respell, limited_reads, Reads, bind_ok, guard_ok, given, along, join, split, none_taken, nothing_taken, number_reads, sized_sound, sized_complete}
use Rattle.wasm_bin.proofs.GrammarEntries.{value_type_skips}
use Rattle.wasm_bin.proofs.GrammarNesting.{code_reads}

-- runs that were read
record Ran (n room total : ℕ) (p q : Piece) : Type 0 where
  pub runs : List ℕ
  pub number : length runs ≡ n
  pub total_is : sum runs ≡ total
  pub fits : total ≤ room
  pub taken : Took (InTurn SpellsRun runs) p q

sum-cons : (n : ℕ) (ns : List ℕ) → sum (n ∷ ns) ≡ n + sum ns
sum-cons n ns = sum_by-cons (λ k. k) n ns

sum_more : (n : ℕ) (ns : List ℕ) (total : ℕ) → sum ns ≡ total → sum (n ∷ ns) ≡ n + total
sum_more n ns total h = sum-cons n ns ∙ ap (λ k. n + k) h

run_sound : (p a q : Piece) (n : ℕ) → Took (SpellsNumber n) p a → Took ValueType a q → Took (SpellsRun n) p q
unfolding SpellsRun
run_sound p a q n s t = join (SpellsNumber n) ValueType p a q s t

runs_sound : (n room : ℕ) (p : Piece) (total : ℕ) (q : Piece) → runs_at n room p ≡ Ok (total, q) → Ran n room total p q
unfolding runs_at SpellsLimited
runs_sound zero room p total q e = along (λ v. Ran zero room v.0 p v.1) (0, p) (total, q) e (record { runs = []; number = refl; total_is = refl; fits = omega arith; taken = none_taken p })
runs_sound (suc n) room p total q e =
    let a = bind_ok (limited_at room p) _ (total, q) e in
    let number = (limited_reads room).sound p a.0.0 a.0.1 a.1 in
    let fits : a.0.0 ≤ room = number.spelled.0 in
    let b = bind_ok (value_type_at a.0.1) _ (total, q) a.2 in
    let c = bind_ok (runs_at n (room - a.0.0) b.0) _ (total, q) b.2 in
    let rest = runs_sound n (room - a.0.0) b.0 c.0.0 c.0.1 c.1 in
    let total_is = rest.total_is in
    let below = rest.fits in
    along (λ v. Ran (suc n) room v.0 p v.1) (a.0.0 + c.0.0, c.0.1) (total, q) c.2 (record {
      runs = a.0.0 ∷ rest.runs;
      number = ap suc rest.number;
      total_is = sum_more a.0.0 rest.runs c.0.0 total_is;
      fits = omega arith;
      taken = join (SpellsRun a.0.0) (InTurn SpellsRun rest.runs) p b.0 c.0.1 (run_sound p a.0.1 b.0 a.0.0 (respell (SpellsLimited room a.0.0) (SpellsNumber a.0.0) p a.0.1 (λ bytes h. h.1) number) (value_type_skips.sound a.0.1 b.0 b.1)) rest.taken;
    })

runs_complete : (runs : List ℕ) (room : ℕ) (p q : Piece) → sum runs ≤ room → Took (InTurn SpellsRun runs) p q → runs_at (length runs) room p ≡ Ok (sum runs, q)
unfolding runs_at SpellsRun SpellsLimited
runs_complete [] room p q le t = ap (λ r. given 0 r) (nothing_taken p q t)
runs_complete (run ∷ runs) room p q le t =
    let a = split (SpellsRun run) (InTurn SpellsRun runs) p q t in
    let b = split (SpellsNumber run) ValueType p a.middle a.first in
    let total = sum-cons run runs in
    let one : run ≤ room = omega arith in
    let others : sum runs ≤ room - run = omega arith in
    let number = respell (SpellsNumber run) (SpellsLimited room run) p b.middle (λ bytes h. (one, h)) b.first in
    rw ((limited_reads room).complete p run b.middle number, value_type_skips.complete b.middle a.middle b.second, runs_complete runs (room - run) a.middle q others a.second) (ap (λ n. given n q) (sym total))

pub locals_read : (params : ℕ) → Reads (locals_at params) (SpellsLocals params)
unfolding locals_at
locals_read params = record {
  sound = λ p locals q e.
      let a = bind_ok (u32_at p) _ (locals, q) e in
      let r = runs_sound a.0.0 (2 ^ 16 - params) a.0.1 locals q a.2 in
      let both = behind_number (InTurn SpellsRun r.runs) (length r.runs) a.0.0 p a.0.1 q r.number a.1 r.taken in
      record { front = both.front; parts = both.parts; same = both.same; spelled = record { runs = r.runs; total = r.total_is; room = r.fits; spelled = both.spelled } };
  complete = λ p locals q t.
      let runs = t.spelled.runs in
      let both : Took (SpellsNumber (length runs) ⋅ InTurn SpellsRun runs) p q = record { front = t.front; parts = t.parts; same = t.same; spelled = t.spelled.spelled } in
      let s = split (SpellsNumber (length runs)) (InTurn SpellsRun runs) p q both in
      let fits : sum runs ≤ 2 ^ 16 - params = subst (λ n. n ≤ 2 ^ 16 - params) (sym t.spelled.total) t.spelled.room in
      rw (number_reads.complete p (length runs) s.middle s.first, runs_complete runs (2 ^ 16 - params) s.middle q fits s.second) (ap (λ n. given n q) t.spelled.total);
}

function_reads : (params : ℕ) → Reads (function_at params) (λ c. SpellsLocals params c.locals ⋅ SpellsCode c.instructions)
unfolding function_at
function_reads params = record {
  sound = λ p c q e.
      let a = bind_ok (locals_at params p) _ (c, q) e in
      let b = bind_ok (code_at (length a.0.1.left) [] a.0.1) _ (c, q) a.2 in
      let found : Function = record { locals = a.0.0; instructions = b.0.0 } in
      along (λ v. Took (SpellsLocals params v.0.locals ⋅ SpellsCode v.0.instructions) p v.1) (found, b.0.1) (c, q) b.2
      (join (SpellsLocals params a.0.0) (SpellsCode b.0.0) p a.0.1 b.0.1 ((locals_read params).sound p a.0.0 a.0.1 a.1) (code_reads.sound a.0.1 b.0.0 b.0.1 b.1));
  complete = λ p c q t.
      let s = split (SpellsLocals params c.locals) (SpellsCode c.instructions) p q t in
      let locals = (locals_read params).complete p c.locals s.middle s.first in
      let code : code_at (length s.middle.left) [] s.middle ≡ Ok (c.instructions, q) = code_reads.complete s.middle c.instructions q s.second in
      rw (locals, code) refl;
}

pub body_reads : (params : ℕ) → Reads (body_at params) (SpellsBody params)
unfolding body_at SpellsBody
body_reads params = record {
  sound = λ p c q e.
      let w = bind_ok (sized_at p) _ (c, q) e in
      let a = bind_ok (function_at params w.0.inside) _ (c, q) w.2 in
      let b = bind_ok (closed_at w.0 a.0.1) _ (c, q) a.2 in
      along (λ v. Took (SpellsBody params v.0) p v.1) (a.0.0, b.0) (c, q) b.2
      (sized_sound (function_at params) (λ c. SpellsLocals params c.locals ⋅ SpellsCode c.instructions) (function_reads params) p w.0 a.0.0 a.0.1 b.0 w.1 a.1 b.1);
  complete = λ p c q t.
      let k = sized_complete (function_at params) (λ c. SpellsLocals params c.locals ⋅ SpellsCode c.instructions) (function_reads params) p c q t in
      rw (k.2, k.3, k.4) refl;
}

each_sound : (funcs : List ℕ) (p : Piece) (bodies : List Function) (q : Piece) → each_body_at funcs p ≡ Ok (bodies, q) → Took (SpellsBodies funcs bodies) p q
unfolding each_body_at SpellsBodies
each_sound [] p bodies q e = along (λ v. Took (SpellsBodies [] v.0) p v.1) ([], p) (bodies, q) e (none_taken p)
each_sound (params ∷ others) p bodies q e =
    let a = bind_ok (body_at params p) _ (bodies, q) e in
    let b = bind_ok (each_body_at others a.0.1) _ (bodies, q) a.2 in
    along (λ v. Took (SpellsBodies (params ∷ others) v.0) p v.1) (a.0.0 ∷ b.0.0, b.0.1) (bodies, q) b.2
    (join (SpellsBody params a.0.0) (SpellsBodies others b.0.0) p a.0.1 b.0.1 ((body_reads params).sound p a.0.0 a.0.1 a.1) (each_sound others a.0.1 b.0.0 b.0.1 b.1))

each_complete : (funcs : List ℕ) (bodies : List Function) (p q : Piece) → Took (SpellsBodies funcs bodies) p q → each_body_at funcs p ≡ Ok (bodies, q)
unfolding each_body_at SpellsBodies
each_complete [] [] p q t = ap (λ r. given [] r) (nothing_taken p q t)
each_complete [] (body ∷ bodies) p q t = absurd t.spelled
each_complete (params ∷ others) [] p q t = absurd t.spelled
each_complete (params ∷ others) (body ∷ bodies) p q t =
    let s = split (SpellsBody params body) (SpellsBodies others bodies) p q t in
    rw ((body_reads params).complete p body s.middle s.first, each_complete others bodies s.middle q s.second) refl

pub bodies_read : (types : List FuncType) (funcs : List ℕ) → Reads (bodies_at types funcs) (SpellsFuncs types funcs)
unfolding bodies_at
bodies_read types funcs = record {
  sound = λ p bodies q e.
      let a = bind_ok (u32_at p) _ (bodies, q) e in
      let g = guard_ok (a.0.0 == length funcs) _ (Malformed (place p)) (bodies, q) a.2 in
      join (SpellsNumber (length funcs)) (SpellsBodies (map (params_of types) funcs) bodies) p a.0.1 q
      (subst (λ n. Took (SpellsNumber n) p a.0.1) (eqb-true a.0.0 (length funcs) g.0) (number_reads.sound p a.0.0 a.0.1 a.1))
      (each_sound (map (params_of types) funcs) a.0.1 bodies q g.1);
  complete = λ p bodies q t.
      let s = split (SpellsNumber (length funcs)) (SpellsBodies (map (params_of types) funcs) bodies) p q t in
      rw (number_reads.complete p (length funcs) s.middle s.first, eq-eqb (length funcs) (length funcs) refl) (each_complete (map (params_of types) funcs) bodies s.middle q s.second);
}
