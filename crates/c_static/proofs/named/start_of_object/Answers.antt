use Rattle.std.proofs.Common.{◌≡◌, true, false, ◌++◌, Some, sym, ap, ◌∙◌}
use Rattle.c_syntax.specs.Words.{meaning}
use Rattle.c_emitted.specs.Emits.{file_named}
use Rattle.c_static.specs.Forms.{is_object}
use Rattle.c_static.proofs.FormLemmas.{start_worth, function_named}
use Rattle.c_static.proofs.named.start_of_object.Goals as goal

pub returns-in-Some : goal.returns-in-Some
returns-in-Some c = λ table env at.
    let d = c.args.declared.now in
    let out = c.args.out.now in
    let name = c.args.name.now in
    let f = c.in-Some.file in
    let object : is_object (meaning (d.names.block ++ d.names.outer) name) ≡ true = sym (c.is_object.ensures ∙ ap is_object c.get.ensures) ∙ c.if-is_object.true in
    let there : file_named out name ≡ Some f = sym c.get-then-is_object.ensures.value ∙ (sym c.copied.ensures ∙ c.in-Some.is) in
    start_worth table d out env name f c.start_of.result at object there c.start_of.ensures

pub returns-else-is_object : goal.returns-else-is_object
returns-else-is_object c = λ table env at.
    let d = c.args.declared.now in
    let none : is_object (meaning (d.names.block ++ d.names.outer) c.args.name.now) ≡ false = sym (c.is_object.ensures ∙ ap is_object c.get.ensures) ∙ c.if-is_object.false in
    function_named table d c.args.out.now env c.args.name.now at none
