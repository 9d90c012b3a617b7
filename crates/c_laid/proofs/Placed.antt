-- Functions stand where their entries say.
use Rattle.std.proofs.Common.{◌≡◌, ◌⊎◌, inl, inr, ⊎_elim, ℕ, suc, ◌+◌, ◌≤◌, Bool, true, false, List, [], ◌∷◌, length, Option, Some, refl, sym, ap, ◌∙◌, subst, arith, if◌then◌else◌}
use Rattle.std.specs.Prelude.{codes}
use Rattle.std.specs.List.{find}
use Rattle.std.specs.Str.{bytes_eq}
use Rattle.std.proofs.lemmas.Slice.Eq.{bytes_eq-Decides}
use Rattle.eir_core.specs.Eir.{Eir}
use Rattle.eir_core.specs.declared.ops.Op.{Op}
use Rattle.c_syntax.specs.Plain.{CUnit}
use Rattle.c_eval.specs.Text.{Definition, text_of, function_named}
use Rattle.c_place.specs.Code.{jumps}
use Rattle.c_place.specs.Place.{front, Stands, behind_all}
use Rattle.c_place.proofs.Running.{behind_append, behind_block, stands_first, stands_rest}
use Rattle.c_place.proofs.CutLemmas.{stands, jumps_append}
use Rattle.c_lowered.specs.Locations.{Linking}
use Rattle.c_lowered.specs.Operations.{return_code}
use Rattle.c_lowered.specs.Counts.{stmt_jumps}
use Rattle.c_lowered.specs.Statements.{targets, stmt_code}
use Rattle.c_lowered.specs.Whole.{function_jumps, entry_in, function_start, function_linking, function_code, functions_code, frames, linking_of, opening_code, whole_code, data_words, words_from, lowered}
use Rattle.c_lowered.proofs.Flowing.{stmt_jumps_are}
use Rattle.c_lowered.proofs.Closing.{code_closes}
use Rattle.c_laid.specs.Laid.{entry_of, CodeIsLaidIn}

same_name : (name f : List ℕ) → bytes_eq name f ≡ true → name ≡ f
same_name name f e = (bytes_eq-Decides name f).0 e

equal_bytes : (name other : List ℕ) → name ≡ other → bytes_eq name other ≡ true
equal_bytes name other e = (bytes_eq-Decides name other).1 e

-- ---- one function

module _ (w : Linking) (names : List (List ℕ × Option ℕ)) where
  abbrev body : Definition → ℕ → List Op
  body f k = stmt_code f.body (function_linking w f) (function_start w names f) k (suc (length f.params)) (targets 0 0)

  body_count : (f : Definition) (k : ℕ) → jumps (body f k) ≡ stmt_jumps f.body
  body_count f k = (stmt_jumps_are f.body (function_linking w f) (function_start w names f) k (suc (length f.params)) (targets 0 0)).count

  function_count : (f : Definition) (k : ℕ) → jumps (function_code w names f k) ≡ function_jumps f
  function_count f k = jumps_append (body f k) return_code ∙ ap (λ z. z + 1) (body_count f k)

  -- behind it the next block begins
  function_end : (f : Definition) (k : ℕ) → behind_all (front k) (function_code w names f k) ≡ front (k + function_jumps f)
  function_end f k =
      let b = behind_block (front k) (body f k) in
      let j = body_count f k in
      behind_append (front k) (body f k) return_code ∙ ap front (omega (arith, b, j))

  -- ---- all of them

  record Placed (p : Eir) (f : Definition) (e top : ℕ) : Type 0 where
    code : Stands p (front e) (function_code w names f e)
    within : e + function_jumps f ≤ top

  placed : (p : Eir) (fs : List Definition) (k top : ℕ) (name : List ℕ) (f : Definition) → find (λ g. bytes_eq name g.name) fs ≡ Some f → Stands p (front k) (functions_code w names fs k) → k + jumps (functions_code w names fs k) ≤ top → Placed p f (entry_in fs k name) top
  placed p [] k top name f e h le = absurd (cc e)
  placed p (g ∷ fs) k top name f e h le =
      let rest = functions_code w names fs (k + function_jumps g) in
      let h1 : Stands p (front (k + function_jumps g)) rest = subst (λ z. Stands p z rest) (function_end g k) (stands_rest p (front k) (function_code w names g k) rest h) in
      let count = jumps_append (function_code w names g k) rest in
      let mine = function_count g k in
      go (λ e1. placed p fs (k + function_jumps g) top name f e1 h1 (omega (arith, le, count, mine))) (bytes_eq name g.name) e
      (record { code = stands_first p (front k) (function_code w names g k) rest h; within = omega (arith, le, count, mine) })
    where
      go : (find (λ x. bytes_eq name x.name) fs ≡ Some f → Placed p f (entry_in fs (k + function_jumps g) name) top) → (b : Bool) → (if b then Some g else find (λ x. bytes_eq name x.name) fs) ≡ Some f → Placed p g k top
          → Placed p f (if b then k else entry_in fs (k + function_jumps g) name) top
      go next true e mine = let is : g ≡ f = cc e in subst (λ z. Placed p z k top) is mine
      go next false e mine = next e

  -- the entry of what is no function is 0, and others lie within the code
  entry_within : (fs : List Definition) (k : ℕ) (name : List ℕ) → (entry_in fs k name ≡ 0) ⊎ ((k ≤ entry_in fs k name) × (entry_in fs k name ≤ k + jumps (functions_code w names fs k)))
  entry_within [] k name = inl refl
  entry_within (g ∷ fs) k name =
      let rest = functions_code w names fs (k + function_jumps g) in
      let count = jumps_append (function_code w names g k) rest in
      let mine = function_count g k in
      go (bytes_eq name g.name) (omega arith) (λ h. (omega (arith, h.0), omega (arith, h.1, count, mine))) (entry_within fs (k + function_jumps g) name)
    where
      top : ℕ
      top = k + jumps (functions_code w names (g ∷ fs) k)

      next : ℕ
      next = entry_in fs (k + function_jumps g) name

      go : (b : Bool) → k ≤ top → ((k + function_jumps g ≤ next) × (next ≤ k + function_jumps g + jumps (functions_code w names fs (k + function_jumps g))) → (k ≤ next) × (next ≤ top)) → (next ≡ 0) ⊎ ((k + function_jumps g ≤ next) × (next ≤ k + function_jumps g + jumps (functions_code w names fs (k + function_jumps g))))
          → ((if b then k else next) ≡ 0) ⊎ ((k ≤ (if b then k else next)) × ((if b then k else next) ≤ top))
      go true le f h = inr (omega arith, le)
      go false le f h = ⊎_elim (λ z. inl z) (λ z. inr (f z)) h

  -- functions that begin in one block have one name
  entries_apart : (fs : List Definition) (k : ℕ) (name other : List ℕ) → 1 ≤ k → 1 ≤ entry_in fs k name → entry_in fs k name ≡ entry_in fs k other → name ≡ other
  entries_apart [] k name other some h e = absurd (omega (arith, h))
  entries_apart (g ∷ fs) k name other some h e =
      go (bytes_eq name g.name) refl (bytes_eq other g.name) refl (later name) (later other) (λ a b. entries_apart fs (k + function_jumps g) name other (omega (arith, some)) a b) h e
    where
      next : List ℕ → ℕ
      next x = entry_in fs (k + function_jumps g) x

      later : (x : List ℕ) → (next x ≡ k → ⊥)
      later x is = ⊎_elim (λ z. omega (arith, z, is, some)) (λ z. omega (arith, z.0, is)) (entry_within fs (k + function_jumps g) x)

      go : (a : Bool) → bytes_eq name g.name ≡ a → (b : Bool) → bytes_eq other g.name ≡ b → (next name ≡ k → ⊥) → (next other ≡ k → ⊥) → (1 ≤ next name → next name ≡ next other → name ≡ other) → 1 ≤ (if a then k else next name) → (if a then k else next name) ≡ (if b then k else next other) → name ≡ other
      go true f true g1 p q rec h e = same_name name g.name f ∙ sym (same_name other g.name g1)
      go true f false g1 p q rec h e = absurd (q (sym e))
      go false f true g1 p q rec h e = absurd (p e)
      go false f false g1 p q rec h e = rec h e

-- ---- the program of a text

module _ (u : CUnit) where
  abbrev w : Linking
  w = linking_of u

  abbrev fs : List Definition
  fs = (text_of u).functions

  abbrev opening : List Op
  opening = opening_code (frames u) (entry_of u (codes "main"))

  abbrev functions : List Op
  functions = functions_code w (text_of u).names fs 2

  code_stands : Stands (lowered u) (front 0) (whole_code u)
  unfolding lowered
  code_stands = stands (whole_code u) (words_from (data_words u)) (code_closes u)

  started : (lowered u).start ≡ 0
  unfolding lowered
  started = refl

  functions_stand : Stands (lowered u) (front 2) functions
  functions_stand = stands_rest (lowered u) (front 0) opening functions code_stands

  all_jumps : jumps (whole_code u) ≡ 2 + jumps functions
  all_jumps = jumps_append opening functions

  there : (name : List ℕ) (f : Definition) → function_named (text_of u) name ≡ Some f → Placed w (text_of u).names (lowered u) f (entry_of u name) (jumps (whole_code u))
  there name f e = placed w (text_of u).names (lowered u) fs 2 (jumps (whole_code u)) name f e functions_stand (omega (arith, all_jumps))

  pub laid : CodeIsLaidIn u
  laid = record {
    start = started;
    opening = stands_first (lowered u) (front 0) opening functions code_stands;
    function = λ name f e. (there name f e).code;
    within = λ name f e. (there name f e).within;
    entries = λ name. ⊎_elim (λ z. omega (arith, z)) (λ z. omega (arith, z.1, all_jumps)) (entry_within w (text_of u).names fs 2 name);
    apart = λ name other some e. equal_bytes name other (entries_apart w (text_of u).names fs 2 name other (omega arith) some e);
  }
