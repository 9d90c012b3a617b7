-- What directives change, and what their lines stand for.
use Rattle.std.proofs.Common.{◌≡◌, ℕ, true, false, List, ◌∷◌, refl, sym, ap, ◌∙◌, subst}
use Rattle.std.specs.Prelude.{Result, Ok, Err, OnOk, if◌then◌else◌}
use Rattle.c_syntax.specs.declared.token.Raw.{Raw}
use Rattle.c_syntax.specs.declared.header.Included.{Included}
use Rattle.c_prep.specs.declared.fault.PrepFault.{PrepFault}
use Rattle.c_prep.specs.declared.fault.PrepFault.TheVariants as fault
use Rattle.c_prep.specs.declared.conditional.Open.{Open}
use Rattle.c_prep.specs.declared.output.Output.{Output}
use Rattle.c_prep.specs.Macros.{Macros}
use Rattle.c_prep.specs.declared.directive.ReadDirective.{ReadDirective}
use Rattle.c_prep.specs.Directives.{Directive, directive_at}
use Rattle.c_prep.specs.Lines.{State, is_taken, with_macros, with_opens, obeyed, directed, text_acts, is_hash, line_step}
use Rattle.c_prep.specs.Outcome.{Fails}
use Rattle.c_prep.specs.Views.{directive_of, Reads, ReadsState, acts_of, Adds}
use Rattle.c_prep.proofs.Giving.{adds_none}

pub always_ok : {X E : Type 0} (r : Result X E) {P : Type 0} → P → OnOk r P
always_ok (Ok x) h = h
always_ok (Err e) h = tt

-- what is refused is handed on
pub as_err : {X : Type 0} (r : Result X PrepFault) (e : PrepFault) → (y : PrepFault) × (r ≡ Err y) × (y ≡ e) → r ≡ Err e
as_err {X} r e h = h.1 ∙ ap (λ (z : PrepFault). let o : Result X PrepFault = Err z in o) h.2

abbrev state : Macros → Included → List Open → State
state m i os = record { macros = m; included = i; opens = os }

pub macros_adds : (s : State) (there : Result Macros PrepFault) (o : Output) → Adds o o (acts_of (with_macros s there))
macros_adds s (Ok m) o = adds_none o
macros_adds s (Err e) o = adds_none o

pub opens_adds : (s : State) (there : Result (List Open) PrepFault) (o : Output) → Adds o o (acts_of (with_opens s there))
opens_adds s (Ok os) o = adds_none o
opens_adds s (Err e) o = adds_none o

pub adds_at : (s : State) (at : ℕ) (o : Output) (d : Directive) (r : ReadDirective) → directive_of r ≡ d → Adds o o (acts_of (obeyed s at d)) → Adds o o (acts_of (obeyed s at (directive_of r)))
adds_at s at o d r e h = subst (λ (z : Directive). Adds o o (acts_of (obeyed s at z))) (sym e) h

pub step_directive : (most : ℕ) (s : State) (line args : List Raw) (r : Raw) → line ≡ r ∷ args → is_hash r.kind ≡ true → line_step most s line ≡ directed s r.pos (directive_at (is_taken s.opens) r.pos args)
unfolding line_step
step_directive most s line args r cut test =
    ap (line_step most s) cut
    ∙ ap (λ b. if b then directed s r.pos (directive_at (is_taken s.opens) r.pos args) else Ok (record { acts = text_acts most (is_taken s.opens) s.macros (r ∷ args); state = s })) test

pub step_text : (most : ℕ) (s : State) (line args : List Raw) (r : Raw) → line ≡ r ∷ args → is_hash r.kind ≡ false → line_step most s line ≡ Ok (record { acts = text_acts most (is_taken s.opens) s.macros line; state = s })
unfolding line_step
step_text most s line args r cut test =
    ap (line_step most s) cut
    ∙ ap (λ b. if b then directed s r.pos (directive_at (is_taken s.opens) r.pos args) else Ok (record { acts = text_acts most (is_taken s.opens) s.macros (r ∷ args); state = s })) test
    ∙ sym (ap (λ (z : List Raw). Ok (record { acts = text_acts most (is_taken s.opens) s.macros z; state = s })) cut)
