use Rattle.std.proofs.Common.{◌≡◌, false, sym, ◌∙◌}
use Rattle.c_syntax.specs.Plain as plain
use Rattle.c_grammar.specs.Tree.{act, Type', name, struct_tags}
use Rattle.c_held.specs.View.{means, struct_items}
use Rattle.c_declare_types.proofs.words.struct_with_members.Goals as goal

pub returns : goal.returns
unfolding act
returns c =
    let called : c.text-name.result ≡ name (means c.args.n.now) = c.text-name.ensures ∙ c.token-n.ensures.name in
    let tagged : struct_items c.struct_tag-tag.result ≡ struct_tags (means c.args.n.now) (means c.args.body.now) = c.struct_tag-tag.ensures (means c.args.n.now) (sym (c.in_ok-copied.ensures ∙ called)) (sym c.token-n.ensures.pos) in
    record {
      gives = λ e consts i. Type' (plain.Struct (called i)) (c.place-pos.ensures i) false (tagged i);
      words = tt;
    }
