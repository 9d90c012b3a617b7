-- Arguments of a call, one after the other.
use Rattle.std.proofs.Common.{◌≡◌, ◌≤◌, ℕ, suc, ◌+◌, Bool, List, [], ◌∷◌, ◌++◌, length, map, drop, refl, sym, ap, subst, ◌∙◌, append-nil, append_assoc, length-append, add-zero, add-one, arith}
use Rattle.eir_core.specs.declared.ops.Op.{Op}
use Rattle.c_syntax.specs.Plain as tree
use Rattle.c_syntax.specs.Plain.{CExpr, CExprs, exprs}
use Rattle.c_types.specs.Scope.{Scope}
use Rattle.c_eval.specs.Environment.{Environment, past}
use Rattle.c_eval.specs.LiteralsIn.{literals_in, literals_in_all}
use Rattle.c_lowered.specs.Locations.{Linking}
use Rattle.c_lowered.specs.Counts.{expr_jumps, exprs_jumps}
use Rattle.c_lowered.specs.Expressions.{value_code}
use Rattle.c_counted.specs.Numbers.{IsNumber}
use Rattle.c_addressing.specs.declared.here.Here as rust
use Rattle.c_addressing.specs.declared.here.Output.{Output}
use Rattle.c_addressing.specs.Here.{IsHere, Emits}
use Rattle.c_addressing.proofs.HereLemmas.{both}
use Rattle.c_applied.specs.Leads.{Leads, Keeps, literal_count}
use Rattle.c_applied.specs.Pieces.{waited}
use Rattle.c_applied.proofs.LeadsLemmas.{nothing, keeps_none, keeps_then, here_on, here_still, then_piece, as_count, told_block}
use Rattle.c_lower_expressions.specs.Parts.{given_code}

-- the first arguments have code, and what is left stands behind it
pub record IsGiven (h : rust.Here) (a b : Output) (block word : ℕ) (waits : Bool) (all left : CExprs) (w : Linking) (env : Environment) (m n : ℕ) : Type 0 where
  pub is : List Op
  pub count : ℕ
  pub place : Environment
  pub at : ℕ
  pub free : ℕ
  pub emits : Emits a b is count
  pub here : IsHere h b w place
  pub told : IsNumber block at
  pub frees : IsNumber word free
  pub scope : place.scope ≡ env.scope
  pub code : given_code waits all w env m n ≡ is ++ given_code waits left w place at free
  pub literals : length (literals_in_all env.scope all) ≡ count + length (literals_in_all place.scope left)
  pub jumps : m + exprs_jumps all ≡ at + exprs_jumps left

pub record Giving (h : rust.Here) (a b : Output) (k d block word : ℕ) (waits : Bool) (all left : CExprs) : Type 0 where
  pub so_far : (w : Linking) (env : Environment) (m n : ℕ) → IsHere h a w env → IsNumber k m → IsNumber d n → IsGiven h a b block word waits all left w env m n
  pub keeps : Keeps a b

pub none_given : (h : rust.Here) (a : Output) (k d : ℕ) (waits : Bool) (all left : CExprs) → all ≡ left → Giving h a a k d k d waits all left
none_given h a k d waits all left same = record {
  so_far = λ w env m n is hk hd. record {
    is = [];
    count = 0;
    place = env;
    at = m;
    free = n;
    emits = nothing a;
    here = is;
    told = hk;
    frees = hd;
    scope = refl;
    code = ap (λ (es : CExprs). given_code waits es w env m n) same;
    literals = ap (λ (es : CExprs). length (literals_in_all env.scope es)) same ∙ omega arith;
    jumps = ap (λ (es : CExprs). m + exprs_jumps es) same;
  };
  keeps = keeps_none a;
}

pub one_given : (h : rust.Here) (a b o p : Output) (k d block word next free : ℕ) (waits : Bool) (all left : CExprs) (e : CExpr) (rest : CExprs) → Giving h a b k d block word waits all left → left ≡ tree.MoreExpr e rest
    → ((w : Linking) (env : Environment) (m n : ℕ) → IsHere h b w env → IsNumber block m → IsNumber word n → Leads b o (value_code e w env m n) (literal_count env.scope e) next (m + expr_jumps e))
    → ((n : ℕ) → IsNumber word n → Emits o p (waited waits n) 0) → ((n : ℕ) → IsNumber word n → IsNumber free (n + 1)) → Keeps b o → Keeps o p
    → Giving h a p k d next free waits all rest
one_given h a b o p k d block word next free waits all left e rest g same emit wait on more most = record {
  so_far = λ w env m n is hk hd.
      let x = g.so_far w env m n is hk hd in
      let led = emit w x.place x.at x.free x.here x.told x.frees in
      let waits_there = wait x.free x.frees in
      let s = x.place.scope in
      let one = value_code e w x.place x.at x.free ++ waited waits x.free in
      let there = past e x.place in
      let left_code = given_code waits rest w there (x.at + expr_jumps e) (suc x.free) in
      record {
        is = x.is ++ one;
        count = x.count + literal_count s e;
        place = there;
        at = x.at + expr_jumps e;
        free = suc x.free;
        emits = both x.emits (then_piece led.emits waits_there);
        here = here_still waits_there (here_on led.emits x.here);
        told = led.block;
        frees = told_block (add-one x.free) (on x.free x.frees);
        scope = x.scope;
        code = x.code ∙ (ap (λ (es : CExprs). x.is ++ given_code waits es w x.place x.at x.free) same
            ∙ (ap (λ (l : List Op). x.is ++ l) (sym (append_assoc (value_code e w x.place x.at x.free) (waited waits x.free) left_code)) ∙ sym (append_assoc x.is one left_code)));
        literals = x.literals ∙ (ap (λ (es : CExprs). x.count + length (literals_in_all s es)) same
            ∙ (ap (λ (j : ℕ). x.count + j) (length-append (literals_in s e) (literals_in_all s rest)) ∙ three x.count (literal_count s e) (length (literals_in_all s rest))));
        jumps = x.jumps ∙ (ap (λ (es : CExprs). x.at + exprs_jumps es) same ∙ three x.at (expr_jumps e) (exprs_jumps rest));
      };
  keeps = keeps_then g.keeps (keeps_then more most);
} where
  three : (i j l : ℕ) → i + (j + l) ≡ i + j + l
  three i j l = omega arith

pub all_given : (h : rust.Here) (a b : Output) (k d block word : ℕ) (waits : Bool) (all left : CExprs) → Giving h a b k d block word waits all left → left ≡ tree.NoExpr
    → (w : Linking) (env : Environment) (m n : ℕ) → IsHere h a w env → IsNumber k m → IsNumber d n → Leads a b (given_code waits all w env m n) (length (literals_in_all env.scope all)) block (m + exprs_jumps all)
all_given h a b k d block word waits all left g end w env m n is hk hd =
    let x = g.so_far w env m n is hk hd in
    let code : given_code waits all w env m n ≡ x.is = x.code ∙ (ap (λ (es : CExprs). x.is ++ given_code waits es w x.place x.at x.free) end ∙ append-nil x.is) in
    let literals : length (literals_in_all env.scope all) ≡ x.count = x.literals ∙ (ap (λ (es : CExprs). x.count + length (literals_in_all x.place.scope es)) end ∙ add-zero x.count) in
    let jumps : m + exprs_jumps all ≡ x.at = x.jumps ∙ (ap (λ (es : CExprs). x.at + exprs_jumps es) end ∙ add-zero x.at) in
    record {
      emits = as_count (sym literals) (subst (λ (l : List Op). Emits a b l x.count) (sym code) x.emits);
      block = subst (λ (j : ℕ). IsNumber block j) (sym jumps) x.told;
    }
