-- What blocks, branches and ends make of a sound configuration.
use Rattle.std.proofs.Common.{◌≡◌, ℕ, zero, suc, ◌+◌, ◌-◌, ◌≤◌, Bool, true, false, List, [], ◌∷◌, ◌++◌, length, drop, Some, refl, sym, ap, subst, ◌∙◌, inl, inr, arith, append_assoc}
use Rattle.std.specs.Prelude.{slice_get, slice_index}
use Rattle.std.proofs.lemmas.List.{length-drop}
use Rattle.wasm_bin.specs.declared.module.Instr.{Instr}
use Rattle.wasm_bin.specs.declared.module.Instr.TheVariants as instr
use Rattle.wasm_bin.specs.declared.module.Module.{Module}
use Rattle.wasm_valid.specs.Context.{Context}
use Rattle.wasm_valid.specs.Nesting.{Code, InLoop, spelled}
use Rattle.wasm_valid.specs.Typing.{arity, HasType}
use Rattle.wasm_rule.specs.Values.{lowest, topped}
use Rattle.wasm_rule.specs.Code.{past_end}
use Rattle.wasm_rule.specs.Config.{Label, Call, Config}
use Rattle.wasm_rule.specs.Rule.{entered, looped, ended, returned, going_out, branched, with_call, after, act_in}
use Rattle.wasm_rule.specs.Ready.{beneath_of, label_arity, arities_of, context_in}
use Rattle.wasm_rule.proofs.Fitting.{arities, Closes, Follows, Fits, AllFit}
use Rattle.wasm_rule.proofs.FittingActs.{Keeps, Around, with_fitting}

-- ---- a call ends

pub ended_keeps : (m : Module) (c : Config) (calls : List Call) → AllFit m calls → length c.globals ≡ length m.globals → Keeps m (ended c calls)
ended_keeps m c [] h e = λ going. absurd cc
ended_keeps m c (call ∷ calls) (f, h) e = λ going. record { call = call; callers = []; last = refl; fits = f; wait = tt; later = h; globals = e }

length-topped : (gives : Bool) (value : ℕ) (values : List ℕ) → length (topped gives value values) ≡ length values + arity gives
length-topped true value values = omega arith
length-topped false value values = omega arith

pub returned_keeps : (m : Module) (c : Config) (call : Call) (callers : List Call) (values : List ℕ) → Around m c call.gives callers → Keeps m (returned c call values callers)
returned_keeps m c call [] values s = ended_keeps m c c.later s.later s.globals
returned_keeps m c call (caller ∷ callers) values s =
    λ going. with_fitting m c (record caller { values = topped call.gives (slice_index values 0) caller.values }) callers (length caller.values + arity call.gives)
    s.wait.0 (length-topped call.gives (slice_index values 0) caller.values) (record { wait = s.wait.1; later = s.later; globals = s.globals })

-- ---- a branch

-- a branch to the first of these labels finds its code typed
abbrev pub Target : Context → List Label → ℕ → ℕ → Type 0
Target c [] beneath n = Unit {0}
Target c (l ∷ labels) beneath n = (l.beneath ≤ beneath) × Fits c labels l.next (l.beneath + n) × (label_arity l ≡ n)

farther : (c : Context) (labels : List Label) (x y n : ℕ) → x ≤ y → Target c labels x n → Target c labels y n
farther c [] x y n le h = tt
farther c (l ∷ labels) x y n le (lower, f, e) = (omega arith, f, e)

pub target_at : (c : Context) (labels : List Label) (depth n : ℕ) (tail : List Instr) (given : ℕ) → Follows c labels tail given → slice_get (arities labels c.results) depth ≡ Some n → Target c (drop depth labels) (beneath_of labels) n
target_at c [] zero n tail given h e = tt
target_at c [] (suc depth) n tail given h e = tt
target_at c (l ∷ labels) zero n tail given h e =
    let same : label_arity l ≡ n = cc in
    (omega arith, subst (λ k. Fits c labels l.next (l.beneath + k)) same h.target, same)
target_at c (l ∷ labels) (suc depth) n tail given h e =
    let b = h.behind in
    farther c (drop depth labels) (beneath_of labels) l.beneath n h.lower (target_at c labels depth n b.tail b.given b.follows e)

length-lowest : (count : ℕ) (values : List ℕ) → count ≤ length values → length (lowest count values) ≡ count
length-lowest count values le = length-drop (length values - count) values ∙ omega arith

pub out_keeps : (m : Module) (c : Config) (call : Call) (callers : List Call) (values : List ℕ) (labels : List Label) (beneath n : ℕ) → Target (context_in m call) labels beneath n → beneath ≤ length values → Around m c call.gives callers
    → Keeps m (going_out c call callers values labels)
out_keeps m c call callers values [] beneath n h le s = returned_keeps m c call callers values s
out_keeps m c call callers values (l ∷ labels) beneath n (lower, f, e) le s =
    let low : l.beneath ≤ length values = omega arith in
    λ going. with_fitting m c (branched call l labels values) callers (l.beneath + n) f
    (length-topped l.takes (slice_index values 0) (lowest l.beneath values) ∙ (ap (λ k. k + arity l.takes) (length-lowest l.beneath values low) ∙ ap (λ k. l.beneath + k) e)) s

-- ---- the end of a block

-- a call at some code under some labels
abbrev pub at : Call → List Label → List Instr → Call
at call labels code = record call { labels = labels; code = code }

abbrev pub step_at : Module → Config → Call → List Call → List Instr → ℕ → Config
step_at m c call callers code byte = after m c call callers (act_in m c call code) byte

pub ending : (m : Module) (c : Config) (call : Call) (callers : List Call) (labels : List Label) (tail : List Instr) (given byte : ℕ) → length call.values ≡ beneath_of labels + given → Follows (context_in m call) labels tail given → Around m c call.gives callers
    → Keeps m (step_at m c (at call labels tail) callers tail byte)
ending m c call callers [] tail given byte e (ends, last) s =
    subst (λ t. Keeps m (step_at m c (at call [] t) callers t byte)) (sym ends) (returned_keeps m c (at call [] (instr.End ∷ [])) callers call.values s)
ending m c call callers (l ∷ labels) tail given byte e h s = closing h.closes
  where
    closing : Closes tail h.rest l.next → Keeps m (step_at m c (at call (l ∷ labels) tail) callers tail byte)
    closing (inl ends) =
        subst (λ t. Keeps m (step_at m c (at call (l ∷ labels) t) callers t byte)) (sym ends)
        (λ going. with_fitting m c (at call labels h.rest) callers (l.beneath + given) h.behind e s)
    closing (inr (other, parts, same)) =
        subst (λ t. Keeps m (step_at m c (at call (l ∷ labels) t) callers t byte)) (sym parts)
        (λ going. with_fitting m c (at call labels l.next) callers (l.beneath + given) (subst (λ code. Fits (context_in m call) labels code (l.beneath + given)) (sym same) h.behind) e s)

-- ---- the start of a block

-- a block begins over so many values
block_fits : (c : Context) (labels : List Label) (result : Bool) (body : Code) (code rest tail next : List Instr) (size : ℕ)
    → HasType c (arity result ∷ arities labels c.results) body 0 (arity result) → code ≡ spelled body ++ tail → next ≡ rest → Closes tail rest next → beneath_of labels ≤ size → Fits c labels rest (size + arity result)
    → Fits c (record { takes = result; beneath = size; next = next } ∷ labels) code size
block_fits c labels result body code rest tail next size h is same closes low behind =
    record { typed_code = body; tail = tail; more = 0; given = arity result; is = is; count = omega arith; typed = h; follows = record { rest = rest; lower = low; closes = closes; behind = behind; target = subst (λ l. Fits c labels l (size + arity result)) (sym same) behind } }

pub entered_keeps : (m : Module) (c : Config) (call : Call) (callers : List Call) (result : Bool) (values : List ℕ) (body : Code) (code rest tail : List Instr)
    → HasType (context_in m call) (arity result ∷ arities_of call) body 0 (arity result) → code ≡ spelled body ++ tail → past_end 0 (drop 1 call.code) ≡ rest → Closes tail rest (past_end 0 (drop 1 call.code)) → beneath_of call.labels ≤ length values
    → Fits (context_in m call) call.labels rest (length values + arity result) → Around m c call.gives callers → Keeps m (with_call c (entered call result values code) callers)
entered_keeps m c call callers result values body code rest tail h is same closes low behind s =
    λ going. with_fitting m c (entered call result values code) callers (length values)
    (block_fits (context_in m call) call.labels result body code rest tail (past_end 0 (drop 1 call.code)) (length values) h is same closes low behind) refl s

-- typed code and its tail under the labels of a call
abbrev pub typed_fits : (c : Context) (labels : List Label) (code : Code) (tail : List Instr) (more given : ℕ) → HasType c (arities labels c.results) code more given → Follows c labels tail given → Fits c labels (spelled code ++ tail) (beneath_of labels + more)
typed_fits c labels code tail more given h follows = record { typed_code = code; tail = tail; more = more; given = given; is = refl; count = refl; typed = h; follows = follows }

pub looped_keeps : (m : Module) (c : Config) (call : Call) (callers : List Call) (result : Bool) (body others : Code) (tail : List Instr) (more given : ℕ)
    → length call.values ≡ beneath_of call.labels + more → HasType (context_in m call) (arities_of call) (InLoop result body others) more given → Follows (context_in m call) call.labels tail given → Around m c call.gives callers
    → Keeps m (with_call c (looped (record call { code = spelled (InLoop result body others) ++ tail })) callers)
looped_keeps m c call callers result body others tail more given e h follows s =
    λ going. with_fitting m c (looped (record call { code = spelled (InLoop result body others) ++ tail })) callers (length call.values)
    (record {
      typed_code = body;
      tail = instr.End ∷ (spelled others ++ tail);
      more = 0;
      given = arity result;
      is = append_assoc (spelled body) (instr.End ∷ spelled others) tail;
      count = omega arith;
      typed = h.0;
      follows = record {
        rest = spelled others ++ tail;
        lower = omega arith;
        closes = inl refl;
        behind = subst (Fits (context_in m call) call.labels (spelled others ++ tail)) (omega (arith, e)) (typed_fits (context_in m call) call.labels others tail (more + arity result) given h.1 follows);
        target = subst (Fits (context_in m call) call.labels (spelled (InLoop result body others) ++ tail)) (omega (arith, e)) (typed_fits (context_in m call) call.labels (InLoop result body others) tail more given h follows);
      };
    }) refl s
