-- Which tokens are nested too deep.
use Rattle.std.proofs.Common.{◌≡◌, ℕ, suc, List, [], ◌∷◌, ◌++◌, Option, Some, None, refl, sym, ap, ◌∙◌, subst, take, get_or, length, ◌<◌, ◌≤◌, arith}
use Rattle.std.specs.Prelude.{slice_get}
use Rattle.std.proofs.Math.Seq.{take-suc}
use Rattle.std.proofs.lemmas.List.{length-take-le}
use Rattle.c_syntax.specs.declared.token.Token.{Token}
use Rattle.c_syntax.specs.declared.token.Kind.TheVariants as kind
use Rattle.c_grammar.specs.Spelling.{Spelt, Starts}
use Rattle.c_grammar.specs.Machine.{Frame, step, then_run, run, start}
use Rattle.c_grammar.specs.Nesting.{unit_depths}
use Rattle.c_grammar.specs.Depths.{top_depth, then_depths, read_depths}
use Rattle.c_grammar.specs.Spells.{IsDeepAt}
use Rattle.c_grammar.proofs.Alive.{starts}
use Rattle.c_grammar.proofs.Deep.{depths_are_read}
use Rattle.c_grammar.proofs.Exact.{run_append, spelled_is_read}

reads_append : (ts us : List Token) (s s' : List Frame) → run ts s ≡ Some s' → read_depths (ts ++ us) s ≡ read_depths ts s ++ read_depths us s'
unfolding then_run then_depths
reads_append [] us s s' e = ap (read_depths us) (same s s' e)
  where
    same : (a b : List Frame) → Some a ≡ Some b → a ≡ b
    same a b e = cc (e)
reads_append (t ∷ ts) us s s' e = on (step s t) e (λ r h. reads_append ts us r s' h)
  where
    on : (o : Option (List Frame)) → then_run o (run ts) ≡ Some s' → ((r : List Frame) → run ts r ≡ Some s' → read_depths (ts ++ us) r ≡ read_depths ts r ++ read_depths us s') → then_depths o (read_depths (ts ++ us)) ≡ then_depths o (read_depths ts) ++ read_depths us s'
    on None h go = cc (h)
    on (Some r) h go = ap (λ z. top_depth r ∷ z) (go r h)

reads_length : (ts : List Token) (s s' : List Frame) → run ts s ≡ Some s' → length (read_depths ts s) ≡ length ts
unfolding then_run then_depths
reads_length [] s s' e = refl
reads_length (t ∷ ts) s s' e = on (step s t) e (λ r h. reads_length ts r s' h)
  where
    on : (o : Option (List Frame)) → then_run o (run ts) ≡ Some s' → ((r : List Frame) → run ts r ≡ Some s' → length (read_depths ts r) ≡ length ts) → length (then_depths o (read_depths ts)) ≡ suc (length ts)
    on None h go = cc (h)
    on (Some r) h go = ap suc (go r h)

-- the run up to a token, and that token
record Up (ts : List Token) (t : Token) (s' : List Frame) : Type 0 where
  s : List Frame
  before : run ts start ≡ Some s
  by_token : step s t ≡ Some s'

up_to : (ts : List Token) (t : Token) (s' : List Frame) → run (ts ++ t ∷ []) start ≡ Some s' → Up ts t s'
unfolding then_run
up_to ts t s' e = on (run ts start) refl (sym (run_append ts (t ∷ []) start) ∙ e)
  where
    one : (o : Option (List Frame)) → then_run o (run []) ≡ Some s' → o ≡ Some s'
    one None h = cc (h)
    one (Some r) h = h

    on : (o : Option (List Frame)) → run ts start ≡ o → then_run o (run (t ∷ [])) ≡ Some s' → Up ts t s'
    on None f h = cc (h)
    on (Some s) f h = record { s = s; before = f; by_token = one (step s t) h }

get_last : (xs : List ℕ) (k d : ℕ) (ys : List ℕ) → length xs ≡ k → slice_get ((xs ++ d ∷ []) ++ ys) k ≡ Some d
get_last [] k d ys e = ap (slice_get (d ∷ ys)) (sym e)
get_last (x ∷ xs) k d ys e = ap (slice_get (x ∷ ((xs ++ d ∷ []) ++ ys))) (sym e) ∙ get_last xs (length xs) d ys refl

-- what follows tells nothing of the nesting so far
known_depth : (ts : List Token) (t : Token) (rest : List Token) (s' : List Frame) (sp : Spelt ((ts ++ t ∷ []) ++ rest)) → run (ts ++ t ∷ []) start ≡ Some s' → slice_get (unit_depths sp.kids) (length ts) ≡ Some (top_depth s')
unfolding then_depths
known_depth ts t rest s' sp e =
    let u = up_to ts t s' e in
    let whole_log : unit_depths sp.kids ≡ read_depths ((ts ++ t ∷ []) ++ rest) start = sym (depths_are_read ((ts ++ t ∷ []) ++ rest) sp.kids (spelled_is_read ((ts ++ t ∷ []) ++ rest) sp)) in
    let one : read_depths (t ∷ []) u.s ≡ top_depth s' ∷ [] = ap (λ o. then_depths o (read_depths [])) u.by_token in
    ap (λ z. slice_get z (length ts)) (whole_log ∙ reads_append (ts ++ t ∷ []) rest start s' e ∙ ap (λ z. z ++ read_depths rest s') (reads_append ts (t ∷ []) start u.s u.before ∙ ap (λ z. read_depths ts start ++ z) one)) ∙ get_last (read_depths ts start) (length ts) (top_depth s') (read_depths rest s') (reads_length ts start u.s u.before)

no_token : Token
no_token = record { kind = kind.End; pos = 0 }

-- the nesting at token k, whatever unit starts with the tokens through it
depth_of : (ts : List Token) (k : ℕ) (s' : List Frame) → k < length ts → run (take (suc k) ts) start ≡ Some s' → (st : Starts (take (suc k) ts)) → slice_get (unit_depths st.spelt.kids) k ≡ Some (top_depth s')
depth_of ts k s' lt e st =
    let P : List Token → Type 0 = λ z. (rest : List Token) (sp : Spelt (z ++ rest)) → run z start ≡ Some s' → slice_get (unit_depths sp.kids) (length (take k ts)) ≡ Some (top_depth s') in
    let h : P (take (suc k) ts) = subst P (sym (take-suc ts k no_token lt)) (λ rest sp e'. known_depth (take k ts) (get_or ts k no_token) rest s' sp e') in
    ap (slice_get (unit_depths st.spelt.kids)) (sym (length-take-le k ts (le_of_lt k (length ts) lt))) ∙ h st.rest st.spelt e
  where
    le_of_lt : (a b : ℕ) → a < b → a ≤ b
    le_of_lt a b h = omega (arith, h)

pub deep_at : (ts : List Token) (k : ℕ) (s' : List Frame) → k < length ts → run (take (suc k) ts) start ≡ Some s' → 256 < top_depth s' → IsDeepAt ts k
deep_at ts k s' lt e h =
    let st = starts (take (suc k) ts) s' e in
    record { start = st; depth = top_depth s'; depth_is = depth_of ts k s' lt e st; passes = h }

pub shallow_at : (ts : List Token) (k : ℕ) (s' : List Frame) → k < length ts → run (take (suc k) ts) start ≡ Some s' → top_depth s' ≤ 256 → IsDeepAt ts k → ⊥
shallow_at ts k s' lt e h d =
    let same : Some d.depth ≡ Some (top_depth s') = sym d.depth_is ∙ depth_of ts k s' lt e d.start in
    absurd (omega (arith, h, d.passes, number same))
  where
    number : {a b : ℕ} → Some a ≡ Some b → a ≡ b
    number e = cc (e)
