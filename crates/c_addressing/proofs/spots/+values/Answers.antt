use Rattle.std.proofs.Common.{◌≡◌, ℕ, List, Bool, true, false, ◌∙◌, sym, subst, refl, add-zero}
use Rattle.std.specs.Prelude.{Option, Some, length, IfOk, option_and_then}
use Rattle.c_syntax.specs.Plain as tree
use Rattle.c_syntax.specs.View.{expr_of, form_of}
use Rattle.c_syntax.specs.declared.tree.UnOp.{UnOp}
use Rattle.c_types.specs.Scope.{entity_of}
use Rattle.c_types.specs.Expressions.{names_function}
use Rattle.c_eval.specs.Environment.{constant_in, type_in, member_offset}
use Rattle.c_eval.specs.LiteralsIn.{literals_in}
use Rattle.c_syntax.specs.declared.tree.Form.{Form}
use Rattle.c_emission.specs.declared.location.Direct.TheVariants.{Exactly}
use Rattle.c_lowered.specs.Locations as plain
use Rattle.c_counted.specs.Numbers.{IsNumber}
use Rattle.c_addressing.specs.declared.spots.Known.{Known}
use Rattle.c_addressing.specs.Here.{first_or, IsKnown}
use Rattle.c_addressing.specs.Places.{IsDirectOrNone}
use Rattle.c_addressing.proofs.DirectLemmas.{then_map}
use Rattle.c_addressing.proofs.HereLemmas.{behind_same, both, holds_later, some_later}
use Rattle.c_addressing.proofs.spots.+values.Goals as goal

pub address_direct-returns-then-is_function_name-clause-value : goal.address_direct-returns-then-is_function_name-clause-value
address_direct-returns-then-is_function_name-clause-value t c = λ w env is.
    let a = expr_of c.args.a.now in
    let r = c.direct.result in
    let told : names_function env.scope a ≡ true = sym (c.is_function_name.ensures env.scope is.holds.fits) ∙ c.if-is_function_name.true in
    subst (λ (b : Bool). IfOk r (λ k. IsKnown c.args.out.now.literals (length (literals_in env.scope a)) k (plain.address_direct b (plain.direct a w env) (plain.known_place a w env)))) (sym told) (c.direct.ensures.value w env is)

pub address_direct-returns-in_ok-spot-clause-value : goal.address_direct-returns-in_ok-spot-clause-value
address_direct-returns-in_ok-spot-clause-value t c = λ w env is.
    let a = expr_of c.args.a.now in
    let n = length (literals_in env.scope a) in
    let told : names_function env.scope a ≡ false = sym (c.is_function_name.ensures env.scope is.holds.fits) ∙ c.if-is_function_name.false in
    subst (λ (b : Bool). IsKnown c.args.out.now.literals n c.spot_address.result (plain.address_direct b (plain.direct a w env) (plain.known_place a w env))) (sym told)
    (c.spot_address.ensures c.args.out.now.literals n (plain.known_place a w env) (c.in_ok-spot.ensures.place w env is))

pub direct-returns-in-Str-clause-value : goal.direct-returns-in-Str-clause-value
direct-returns-in-Str-clause-value t c = λ w env is.
    let l = c.args.out.now.literals in
    let pos = c.args.e.now.pos in
    let known : Known = record { value = Exactly c.first.result; literals = c.behind.result } in
    let address = subst (λ (n : ℕ). IsNumber n (w.literal w.owner env.literals_before)) (sym c.first.ensures) (subst (λ (k : ℕ). IsNumber (first_or l.end l.next.now) (w.literal w.owner k)) (add-zero env.literals_before) (is.literals.address 0)) in
    subst (λ (f : Form). IsKnown l (length (literals_in env.scope (form_of f pos))) (Some known) (plain.direct (form_of f pos) w env)) (sym c.in-Str.is) (address, record { next = c.behind.ensures.next; end = c.behind.ensures.end })

pub direct-returns-in-Name-clause-value : goal.direct-returns-in-Name-clause-value
direct-returns-in-Name-clause-value t c = λ w env is.
    let l = c.args.out.now.literals in
    let pos = c.args.e.now.pos in
    let r = c.with_literals.result in
    let named = subst (λ (n : List ℕ). IsDirectOrNone c.named.result (plain.named_direct w env n (entity_of env.scope n))) c.as_bytes.ensures (c.named.ensures w env is) in
    subst (λ (f : Form). IsKnown l (length (literals_in env.scope (form_of f pos))) r (plain.direct (form_of f pos) w env)) (sym c.in-Name.is)
    (c.with_literals.ensures l 0 (plain.direct (tree.Var pos c.in-Name.name) w env) named (behind_same l))

pub direct-returns-in-SizeTy-clause-value : goal.direct-returns-in-SizeTy-clause-value
direct-returns-in-SizeTy-clause-value t c = λ w env is.
    let l = c.args.out.now.literals in
    let pos = c.args.e.now.pos in
    let r = c.constant.result in
    let done = subst (λ (f : Form). IfOk r (λ k. IsKnown l 0 k (Some (plain.Exactly (constant_in env.scope (form_of f pos)))))) c.in-SizeTy.is (c.constant.ensures.value env.scope is.holds) in
    subst (λ (f : Form). IfOk r (λ k. IsKnown l (length (literals_in env.scope (form_of f pos))) k (plain.direct (form_of f pos) w env))) (sym c.in-SizeTy.is) done

pub direct-returns-in-SizeOf-clause-value : goal.direct-returns-in-SizeOf-clause-value
direct-returns-in-SizeOf-clause-value t c = λ w env is.
    let l = c.args.out.now.literals in
    let pos = c.args.e.now.pos in
    let r = c.constant-in-SizeOf.result in
    let done = subst (λ (f : Form). IfOk r (λ k. IsKnown l 0 k (Some (plain.Exactly (constant_in env.scope (form_of f pos)))))) c.in-SizeOf.is (c.constant-in-SizeOf.ensures.value env.scope is.holds) in
    subst (λ (f : Form). IfOk r (λ k. IsKnown l (length (literals_in env.scope (form_of f pos))) k (plain.direct (form_of f pos) w env))) (sym c.in-SizeOf.is) done

pub direct-place_value-requires : goal.direct-place_value-requires
direct-place_value-requires t c = some_later c.args.out.now c.known_place.new.out c.args.here.now.declared c.in_ok-spot-in-Member.ensures.still c.requires

pub direct-returns-in_ok-value-in-Member-clause-value : goal.direct-returns-in_ok-value-in-Member-clause-value
direct-returns-in_ok-value-in-Member-clause-value t c = λ w env is.
    let l = c.args.out.now.literals in
    let e = c.args.e.now in
    let pos = e.pos in
    let s = env.scope in
    let r = c.in_ok-value-in-Member.value in
    let a = expr_of c.in-Member._a.value in
    let m = c.in-Member._m in
    let known = c.in_ok-value-in-Member.ensures.value s l (length (literals_in s (expr_of e))) (plain.known_place (expr_of e) w env) (holds_later c.args.out.now c.known_place.new.out c.args.here.now.declared s c.in_ok-spot-in-Member.ensures.still is.holds) (c.in_ok-spot-in-Member.ensures.place w env is) in
    let at_form = subst (λ (f : Form). IsKnown l (length (literals_in s (form_of f pos))) r (option_and_then (λ q. plain.held (type_in s (form_of f pos)) q) (plain.known_place (form_of f pos) w env))) c.in-Member.is known in
    let mapped = subst (λ (v : Option plain.Direct). IsKnown l (length (literals_in s a)) r v) (then_map (type_in s (tree.Member pos a m)) (member_offset s.tags (type_in s a) m) (plain.known_place a w env)) at_form in
    subst (λ (f : Form). IsKnown l (length (literals_in s (form_of f pos))) r (plain.direct (form_of f pos) w env)) (sym c.in-Member.is) mapped

pub direct-returns-in_ok-value-in-Member-clause-still : goal.direct-returns-in_ok-value-in-Member-clause-still
direct-returns-in_ok-value-in-Member-clause-still t c = both c.in_ok-spot-in-Member.ensures.still c.in_ok-value-in-Member.ensures.still

pub unary_direct-returns-in-Address-clause-value : goal.unary_direct-returns-in-Address-clause-value
unary_direct-returns-in-Address-clause-value t c = λ w env is.
    let a = expr_of c.args.a.now in
    subst (λ (o : UnOp). IfOk c.address_direct.result (λ r. IsKnown c.args.out.now.literals (length (literals_in env.scope a)) r (plain.direct (tree.Unary c.args.at o a) w env))) (sym c.in-Address.is) (c.address_direct.ensures.value w env is)

pub unary_direct-returns-in_ok-value-in-Minus-clause-value : goal.unary_direct-returns-in_ok-value-in-Minus-clause-value
unary_direct-returns-in_ok-value-in-Minus-clause-value t c = λ w env is.
    let a = expr_of c.args.a.now in
    let n = length (literals_in env.scope a) in
    subst (λ (o : UnOp). IsKnown c.args.out.now.literals n c.negated.result (plain.direct (tree.Unary c.args.at o a) w env)) (sym c.in-Minus.is)
    (c.negated.ensures c.args.out.now.literals n (plain.direct a w env) (c.in_ok-value-in-Minus.ensures.value w env is))
