-- What was emitted is the code of a whole text.
use Rattle.std.proofs.Common.{◌≡◌, ℕ, List, [], ◌∷◌, ◌++◌, length, map, Some, Result, sym, ap, subst, ◌∙◌}
use Rattle.std.specs.Prelude.{Ok, Err, IfOk, slice_get, codes}
use Rattle.std.proofs.lemmas.List.{append-nil}
use Rattle.c_syntax.specs.Plain.{CUnit}
use Rattle.c_eval.specs.Meaning.{own_rules}
use Rattle.c_eval.specs.Text.{text_of}
use Rattle.c_code.specs.Code as code
use Rattle.c_code.specs.Machine.{functions_code, entries_of}
use Rattle.c_rule.specs.Laws.{text_code}
use Rattle.c_rule.proofs.Fits.{text_all}
use Rattle.c_store.specs.Values.{Cell}
use Rattle.c_store.specs.Shown.{cell_of}
use Rattle.c_resolved.specs.Same.{SameBlock}
use Rattle.c_plain.specs.declared.instruction.Instruction.{Instruction}
use Rattle.c_plain.specs.Program.{Program}
use Rattle.c_resolved.specs.Means as means
use Rattle.c_resolved.specs.Means.{file_lengths}
use Rattle.c_tracks.specs.Tracks.{IsCode}
use Rattle.c_tracks.specs.Starts.{IsOfText}
use Rattle.c_emitted.specs.declared.emitter.Emitter.{Emitter}
use Rattle.c_emitted.specs.Tables.{Tables, tables_in, Extends, AreMeant}
use Rattle.c_emitted.specs.Emits.{tables_of, Emits}
use Rattle.c_emitted.proofs.TableLemmas.{extends_same, extends_then}
use Rattle.c_linked.specs.declared.program.Compiled.{Compiled}
use Rattle.c_linked.specs.Linked.{AreCompiled, IsEmitted}
use Rattle.c_flat.specs.Defined.{AddsCode}
use Rattle.c_flat.specs.Walk.{AddsFunctions, HasObjects}
use Rattle.c_flat.proofs.AddLemmas.{codes_then, compiled_later}
use Rattle.c_flat.proofs.ObjectStart.{shown_on}

pub adds_of : (a b : Emitter) (is : List code.Instruction) (ls : List (List ℕ)) → Emits a b is ls → AddsCode a b is
adds_of a b is ls e = record { code = e.code; behind = e.behind; count = e.count; meant = e.meant; tables = e.tables; objects = e.stays.objects; files = e.stays.files }

-- before the functions
abbrev pub heading : List code.Instruction
heading = code.Nowhere ∷ code.End ∷ []

-- the emitters without code, behind what stands before the functions, behind the functions, and behind the name of `main`
pub record AreEmitters (u : CUnit) (a b c d : Emitter) (compiled : List Compiled) : Type 0 where
  pub objects : HasObjects a u
  pub heading_is : Emits a b heading []
  pub functions : AddsFunctions (own_rules u) b c (text_of u).names [] compiled (text_of u).functions
  pub name : Emits c d [] []

pub extends_all : (u : CUnit) (a b c d : Emitter) (compiled : List Compiled) → AreEmitters u a b c d compiled → Extends (tables_of a) (tables_of d)
extends_all u a b c d compiled h = extends_then h.heading_is.tables (extends_then h.functions.adds.tables h.name.tables)

pub same_objects : (u : CUnit) (a b c d : Emitter) (compiled : List Compiled) → AreEmitters u a b c d compiled → d.objects.items ≡ a.objects.items
same_objects u a b c d compiled h = h.name.stays.objects ∙ (h.functions.adds.objects ∙ h.heading_is.stays.objects)

pub text_emitted : (u : CUnit) (a b c d : Emitter) (compiled : List Compiled) → AreEmitters u a b c d compiled → IsEmitted d compiled (text_code u)
text_emitted u a b c d compiled h =
    let fs : List code.Instruction = functions_code (text_of u).names (text_of u).functions in
    let whole : AddsCode a d ((heading ++ fs) ++ []) = codes_then a c d (heading ++ fs) [] (codes_then a b c heading fs (adds_of a b heading [] h.heading_is) h.functions.adds) (adds_of c d [] [] h.name) in
    let all : AddsCode a d (heading ++ fs) = subst (AddsCode a d) (append-nil (heading ++ fs)) whole in
    let none : a.code ≡ [] = h.objects.stands.code in
    let is : all.code ≡ d.code = sym (all.behind ∙ ap (λ (l : List Instruction). l ++ all.code) none) in
    let two : length b.code ≡ 2 = ap length h.heading_is.behind ∙ (ap (λ (l : List Instruction). length (l ++ h.heading_is.code)) none ∙ h.heading_is.count) in
    let own : h.functions.more ≡ compiled = sym h.functions.behind in
    record {
      meant = subst (λ (l : List Instruction). AreMeant (tables_of d) (heading ++ fs) l) is all.meant;
      single = text_all u;
      entries = subst (λ (l : List Compiled). AreCompiled (tables_of d).names (entries_of (own_rules u) (text_of u).names (text_of u).functions 2) l) own
          (compiled_later h.name.tables.names (subst (λ (n : ℕ). AreCompiled (tables_of c).names (entries_of (own_rules u) (text_of u).names (text_of u).functions n) h.functions.more) two h.functions.entries));
    }

pub text_is : (u : CUnit) (a b c d : Emitter) (compiled : List Compiled) (p : Program) → AreEmitters u a b c d compiled → IsCode (tables_of d).names p (text_code u) → tables_in (tables_of d).names p ≡ tables_of d → p.objects ≡ map (λ cells. map cell_of cells.items) d.objects.items
    → slice_get (tables_of d).names p.main ≡ Some (codes "main") → IsOfText (tables_of d).names p u
text_is u a b c d compiled p h is tables objects main =
    let names = (tables_of d).names in
    let shown = shown_on a d h.objects.new (extends_all u a b c d compiled h) (same_objects u a b c d compiled h) h.objects.shown in
    let same = shown.same names p (subst (λ (t : Tables). Extends (tables_of d) t) (sym tables) (extends_same (tables_of d))) in
    record {
      code = is;
      main = main;
      new = h.objects.new;
      objects = h.objects.made;
      cells = subst (λ (ds : List (List Cell)). SameBlock (means.tables_of names p) (file_lengths p) h.objects.new ds) (sym objects) same;
    }

pub if_four : {X E : Type 0} {P Q R S T : X → Type 0} (r : Result X E) → ((x : X) → P x → Q x → R x → S x → T x) → IfOk r P → IfOk r Q → IfOk r R → IfOk r S → IfOk r T
if_four (Ok x) f p q r s = f x p q r s
if_four (Err e) f p q r s = tt
