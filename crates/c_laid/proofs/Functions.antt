-- The literals of a function are found under its name.
use Rattle.std.proofs.Common.{◌≡◌, ℕ, Bool, true, false, List, [], ◌∷◌, map, Option, Some, slice_get, refl, sym, ap, ◌∙◌, arith}
use Rattle.std.specs.Prelude.{if◌then◌else◌}
use Rattle.std.specs.List.{find}
use Rattle.std.specs.Str.{bytes_eq}
use Rattle.std.proofs.lemmas.Slice.Eq.{bytes_eq-Decides}
use Rattle.c_eval.specs.LiteralsIn.{stmt_literals}
use Rattle.c_eval.specs.Text.{Definition, text_of}
use Rattle.c_lowered.specs.Whole.{literals_of}
use Rattle.c_laid.specs.Data.{literal_text}
use Rattle.c_laid.specs.Functions.{FunctionsAreLettered}

-- names are equal whichever comes first
turned : (x y : List ℕ) (b : Bool) → bytes_eq x y ≡ b → bytes_eq y x ≡ b
turned x y true e = (bytes_eq-Decides y x).1 (sym ((bytes_eq-Decides x y).0 e))
turned x y false e = by (bytes_eq y x) refl
  where
    by : (c : Bool) → bytes_eq y x ≡ c → bytes_eq y x ≡ false
    by false f = f
    by true f = absurd (let same : bytes_eq x y ≡ true = (bytes_eq-Decides x y).1 (sym ((bytes_eq-Decides y x).0 f)) in let bad : true ≡ false = sym same ∙ e in cc bad)

abbrev entry_of : Definition → Option (List ℕ) × List (List ℕ)
entry_of f = (Some f.name, stmt_literals f.scope f.body)

found : (fs : List Definition) (name : List ℕ) (f : Definition) (n : ℕ) → find (λ g. bytes_eq name g.name) fs ≡ Some f → literal_text (map entry_of fs) (Some name) n ≡ slice_get (stmt_literals f.scope f.body) n
found [] name f n e = absurd (cc e)
found (g ∷ fs) name f n e = go (bytes_eq name g.name) refl (λ k. found fs name f n k) e
  where
    here : Some g ≡ Some f → slice_get (stmt_literals g.scope g.body) n ≡ slice_get (stmt_literals f.scope f.body) n
    here e = let same : g ≡ f = cc e in ap (λ (z : Definition). slice_get (stmt_literals z.scope z.body) n) same

    go : (b : Bool) → bytes_eq name g.name ≡ b → (find (λ g. bytes_eq name g.name) fs ≡ Some f → literal_text (map entry_of fs) (Some name) n ≡ slice_get (stmt_literals f.scope f.body) n) → (if b then Some g else find (λ g. bytes_eq name g.name) fs) ≡ Some f
        → (if bytes_eq g.name name then slice_get (stmt_literals g.scope g.body) n else literal_text (map entry_of fs) (Some name) n) ≡ slice_get (stmt_literals f.scope f.body) n
    go true b more e = ap (λ (z : Bool). if z then slice_get (stmt_literals g.scope g.body) n else literal_text (map entry_of fs) (Some name) n) (turned name g.name true b) ∙ here e
    go false b more e = ap (λ (z : Bool). if z then slice_get (stmt_literals g.scope g.body) n else literal_text (map entry_of fs) (Some name) n) (turned name g.name false b) ∙ more e

pub functions_are_lettered : FunctionsAreLettered
functions_are_lettered u name f e j text k = ap (λ n. literal_text (literals_of u) (Some name) n) (omega arith) ∙ (found (text_of u).functions name f j e ∙ k)
