-- Functions that get their code one after the other.
use Rattle.std.proofs.Common.{◌≡◌, ℕ, ◌+◌, List, [], ◌∷◌, ◌++◌, length, map, Option, refl, sym, ap, subst, ◌∙◌, append_assoc, length-append, arith}
use Rattle.std.specs.Map.{lookup}
use Rattle.std.specs.Str.{bytes_eq}
use Rattle.std.proofs.lemmas.List.{append-nil}
use Rattle.c_syntax.specs.Words.{meaning}
use Rattle.c_store.specs.Shown.{cell_of}
use Rattle.c_eval.specs.Meaning.{Rules}
use Rattle.c_eval.specs.Text.{Definition}
use Rattle.c_code.specs.Code as code
use Rattle.c_code.specs.Machine as machine
use Rattle.c_code.specs.Machine.{function_code, functions_code, entry_of, entries_of}
use Rattle.c_plain.specs.declared.instruction.Instruction.{Instruction}
use Rattle.c_plain.specs.Program.{Program}
use Rattle.c_resolved.specs.Means.{MeansAll, no_code, more_code}
use Rattle.c_emitted.specs.declared.emitter.Emitter.{Emitter}
use Rattle.c_emitted.specs.Tables.{Tables, Begins, AreMeant}
use Rattle.c_emitted.specs.Emits.{tables_of, file_named, IsFile, AreFiles}
use Rattle.c_emitted.proofs.TableLemmas.{begins_get, extends_same, extends_then}
use Rattle.c_emitted.proofs.EmitLemmas.{meant_later}
use Rattle.c_fitting.specs.Whole.{TakesNoSlot}
use Rattle.c_linked.specs.declared.program.Compiled.{Compiled}
use Rattle.c_linked.specs.Linked.{AreCompiled, no_function, more_functions}
use Rattle.c_flat.specs.Defined.{AddsCode, Defines}
use Rattle.c_tracks.specs.Tracks.{told_charge}
use Rattle.c_flat.specs.Walk.{AddsFunctions}

-- ---- code

all_then : (names : List (List ℕ)) (p : Program) {is : List code.Instruction} {js : List Instruction} {ks : List code.Instruction} {ls : List Instruction} → MeansAll names p is js → MeansAll names p ks ls → MeansAll names p (is ++ ks) (js ++ ls)
all_then names p no_code after = after
all_then names p (more_code m before) after = more_code m (all_then names p before after)

pub meant_then : {t : Tables} {is : List code.Instruction} {js : List Instruction} {ks : List code.Instruction} {ls : List Instruction} → AreMeant t is js → AreMeant t ks ls → AreMeant t (is ++ ks) (js ++ ls)
meant_then m n = record { means = λ names p e. all_then names p (m.means names p e) (n.means names p e) }

pub no_code_more : (a : Emitter) → AddsCode a a []
no_code_more a = record {
  code = [];
  behind = sym (append-nil a.code);
  count = refl;
  meant = record { means = λ names p e. no_code };
  tables = extends_same (tables_of a);
  objects = refl;
  files = refl;
}

pub codes_then : (a b c : Emitter) (is js : List code.Instruction) → AddsCode a b is → AddsCode b c js → AddsCode a c (is ++ js)
codes_then a b c is js e f = record {
  code = e.code ++ f.code;
  behind = f.behind ∙ ap (λ (l : List Instruction). l ++ f.code) e.behind ∙ append_assoc a.code e.code f.code;
  count = length-append e.code f.code ∙ ap (λ (n : ℕ). n + length f.code) e.count ∙ ap (λ (n : ℕ). length is + n) f.count ∙ sym (length-append is js);
  meant = meant_then (meant_later f.tables e.meant) f.meant;
  tables = extends_then e.tables f.tables;
  objects = f.objects ∙ e.objects;
  files = f.files ∙ e.files;
}

-- the objects of file scope stand as they did
pub files_kept : (a b : Emitter) (names : List (List ℕ × Option ℕ)) → b.objects.items ≡ a.objects.items → b.files.entries ≡ a.files.entries → AreFiles a names → AreFiles b names
files_kept a b names objects files h = record {
  found = λ name.
      subst (λ o. IsFile (tables_of b).files o (meaning names name)) (ap (λ es. lookup (λ k. bytes_eq name k.now) es) (sym files))
      (subst (λ l. IsFile l (file_named a name) (meaning names name)) (ap (λ os. map (λ cells. length cells) (map (λ cells. map cell_of cells.items) os)) (sym objects)) (h.found name));
}

-- ---- functions and entries one behind the other

code_append : (names : List (List ℕ × Option ℕ)) (fs gs : List Definition) → functions_code names (fs ++ gs) ≡ functions_code names fs ++ functions_code names gs
code_append names [] gs = refl
code_append names (f ∷ fs) gs = ap (λ (l : List code.Instruction). function_code names f ++ l) (code_append names fs gs) ∙ sym (append_assoc (function_code names f) (functions_code names fs) (functions_code names gs))

entries_append : (rules : Rules) (names : List (List ℕ × Option ℕ)) (fs gs : List Definition) (at end : ℕ) → end ≡ at + length (functions_code names fs) → entries_of rules names (fs ++ gs) at ≡ entries_of rules names fs at ++ entries_of rules names gs end
entries_append rules names [] gs at end e = let same : at ≡ end = omega (arith, e) in ap (λ (n : ℕ). entries_of rules names gs n) same
entries_append rules names (f ∷ fs) gs at end e =
    let l : length (function_code names f ++ functions_code names fs) ≡ length (function_code names f) + length (functions_code names fs) = length-append (function_code names f) (functions_code names fs) in
    let there : end ≡ at + length (function_code names f) + length (functions_code names fs) = omega (arith, e, l) in
    ap (λ (es : List (List ℕ × machine.Entry)). (f.name, entry_of rules f at) ∷ es) (entries_append rules names fs gs (at + length (function_code names f)) end there)

compiled_then : {names : List (List ℕ)} {es gs : List (List ℕ × machine.Entry)} {cs ds : List Compiled} → AreCompiled names es cs → AreCompiled names gs ds → AreCompiled names (es ++ gs) (cs ++ ds)
compiled_then no_function after = after
compiled_then (more_functions n is before) after = more_functions n is (compiled_then before after)

pub compiled_later : {names more : List (List ℕ)} {es : List (List ℕ × machine.Entry)} {cs : List Compiled} → Begins names more → AreCompiled names es cs → AreCompiled more es cs
compiled_later b no_function = no_function
compiled_later b (more_functions n is rest) = more_functions (begins_get b _ _ n) is (compiled_later b rest)

pub no_functions_more : (rules : Rules) (a : Emitter) (names : List (List ℕ × Option ℕ)) (compiled : List Compiled) → AddsFunctions rules a a names compiled compiled []
no_functions_more rules a names compiled = record { more = []; behind = sym (append-nil compiled); adds = no_code_more a; entries = no_function }

pub function_more : (rules : Rules) (a b : Emitter) (names : List (List ℕ × Option ℕ)) (before after : List Compiled) (f : Definition) (charge : ℕ) (c : Compiled) → Defines a b names f charge c → TakesNoSlot f.body → rules.charge f.name ≡ charge → after ≡ before ++ c ∷ []
    → AddsFunctions rules a b names before after (f ∷ [])
function_more rules a b names before after f charge c d none knows behind = record {
  more = c ∷ [];
  behind = behind;
  adds = subst (AddsCode a b) (sym (append-nil (function_code names f))) d.adds;
  entries = more_functions d.number (record { at = d.at; params = d.params; result = d.result; charge = d.charged ∙ ap told_charge (sym knows); more = none }) no_function;
}

pub functions_then : (rules : Rules) (a b c : Emitter) (names : List (List ℕ × Option ℕ)) (x y z : List Compiled) (fs gs : List Definition) → AddsFunctions rules a b names x y fs → AddsFunctions rules b c names y z gs → AddsFunctions rules a c names x z (fs ++ gs)
functions_then rules a b c names x y z fs gs p q =
    let at : length b.code ≡ length a.code + length (functions_code names fs) =
    ap length p.adds.behind ∙ (length-append a.code p.adds.code ∙ ap (λ (n : ℕ). length a.code + n) p.adds.count) in
    record {
      more = p.more ++ q.more;
      behind = q.behind ∙ ap (λ (l : List Compiled). l ++ q.more) p.behind ∙ append_assoc x p.more q.more;
      adds = subst (AddsCode a c) (sym (code_append names fs gs)) (codes_then a b c (functions_code names fs) (functions_code names gs) p.adds q.adds);
      entries = subst (λ (es : List (List ℕ × machine.Entry)). AreCompiled (tables_of c).names es (p.more ++ q.more)) (sym (entries_append rules names fs gs (length a.code) (length b.code) at))
          (compiled_then (compiled_later q.adds.tables.names p.entries) q.entries);
    }
