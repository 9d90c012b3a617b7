use Rattle.c_grammar.specs.Grammar.{rhs}
use Rattle.c_grammar.specs.declared.names.Production.TheVariants as production
use Rattle.c_act.proofs.Arms.{full_at, stand_at, gives_at, words_at, wordless}
use Rattle.c_act.proofs.productions.act.Goals as goal

pub atom-requires : goal.atom-requires
unfolding rhs
atom-requires c = full_at c.args.production production.Atom c.args.parts.now c.in-Atom.is c.requires.full

pub returns-in-Atom-clause-gives : goal.returns-in-Atom-clause-gives
returns-in-Atom-clause-gives c = gives_at _ c.args.production production.Atom c.args.parts.now c.in-Atom.is c.atom.ensures

pub returns-in-Atom-clause-words : goal.returns-in-Atom-clause-words
returns-in-Atom-clause-words c = wordless _ c.args.production production.Atom c.in-Atom.is (λ m. tt)

pub parens-requires : goal.parens-requires
unfolding rhs
parens-requires c = full_at c.args.production production.Parens c.args.parts.now c.in-Parens.is c.requires.full

pub returns-in-Parens-clause-gives : goal.returns-in-Parens-clause-gives
returns-in-Parens-clause-gives c = gives_at _ c.args.production production.Parens c.args.parts.now c.in-Parens.is c.parens.ensures

pub returns-in-Parens-clause-words : goal.returns-in-Parens-clause-words
returns-in-Parens-clause-words c = wordless _ c.args.production production.Parens c.in-Parens.is (λ m. tt)

pub expression_inside-requires-clause-full : goal.expression_inside-requires-clause-full
unfolding rhs
expression_inside-requires-clause-full c = full_at c.args.production production.ExprInside c.args.parts.now c.in-ExprInside.is c.requires.full

pub expression_inside-requires-clause-stand : goal.expression_inside-requires-clause-stand
expression_inside-requires-clause-stand c = stand_at c.args.production production.ExprInside c.args.parts.now c.in-ExprInside.is c.requires.stand

pub returns-in-ExprInside-clause-gives : goal.returns-in-ExprInside-clause-gives
returns-in-ExprInside-clause-gives c = gives_at _ c.args.production production.ExprInside c.args.parts.now c.in-ExprInside.is c.expression_inside.ensures

pub returns-in-ExprInside-clause-words : goal.returns-in-ExprInside-clause-words
returns-in-ExprInside-clause-words c = wordless _ c.args.production production.ExprInside c.in-ExprInside.is (λ m. tt)

pub type_inside-requires : goal.type_inside-requires
unfolding rhs
type_inside-requires c = full_at c.args.production production.TypeInside c.args.parts.now c.in-TypeInside.is c.requires.full

pub returns-in-TypeInside-clause-gives : goal.returns-in-TypeInside-clause-gives
returns-in-TypeInside-clause-gives c = gives_at _ c.args.production production.TypeInside c.args.parts.now c.in-TypeInside.is c.type_inside.ensures

pub returns-in-TypeInside-clause-words : goal.returns-in-TypeInside-clause-words
returns-in-TypeInside-clause-words c = wordless _ c.args.production production.TypeInside c.in-TypeInside.is (λ m. tt)

pub prefix-requires : goal.prefix-requires
unfolding rhs
prefix-requires c = full_at c.args.production production.Prefix c.args.parts.now c.in-Prefix.is c.requires.full

pub returns-in-Prefix-clause-gives : goal.returns-in-Prefix-clause-gives
returns-in-Prefix-clause-gives c = gives_at _ c.args.production production.Prefix c.args.parts.now c.in-Prefix.is c.prefix.ensures

pub returns-in-Prefix-clause-words : goal.returns-in-Prefix-clause-words
returns-in-Prefix-clause-words c = wordless _ c.args.production production.Prefix c.in-Prefix.is (λ m. tt)

pub size_of-requires : goal.size_of-requires
unfolding rhs
size_of-requires c = full_at c.args.production production.SizeOf c.args.parts.now c.in-SizeOf.is c.requires.full

pub returns-in-SizeOf-clause-gives : goal.returns-in-SizeOf-clause-gives
returns-in-SizeOf-clause-gives c = gives_at _ c.args.production production.SizeOf c.args.parts.now c.in-SizeOf.is c.size_of.ensures

pub returns-in-SizeOf-clause-words : goal.returns-in-SizeOf-clause-words
returns-in-SizeOf-clause-words c = wordless _ c.args.production production.SizeOf c.in-SizeOf.is (λ m. tt)

pub suffix-requires : goal.suffix-requires
unfolding rhs
suffix-requires c = full_at c.args.production production.Suffix c.args.parts.now c.in-Suffix.is c.requires.full

pub returns-in-Suffix-clause-gives : goal.returns-in-Suffix-clause-gives
returns-in-Suffix-clause-gives c = gives_at _ c.args.production production.Suffix c.args.parts.now c.in-Suffix.is c.suffix.ensures

pub returns-in-Suffix-clause-words : goal.returns-in-Suffix-clause-words
returns-in-Suffix-clause-words c = wordless _ c.args.production production.Suffix c.in-Suffix.is (λ m. tt)

pub member-requires : goal.member-requires
unfolding rhs
member-requires c = full_at c.args.production production.Member c.args.parts.now c.in-Member.is c.requires.full

pub returns-in-Member-clause-gives : goal.returns-in-Member-clause-gives
returns-in-Member-clause-gives c = gives_at _ c.args.production production.Member c.args.parts.now c.in-Member.is c.member.ensures

pub returns-in-Member-clause-words : goal.returns-in-Member-clause-words
returns-in-Member-clause-words c = wordless _ c.args.production production.Member c.in-Member.is (λ m. tt)

pub index-requires : goal.index-requires
unfolding rhs
index-requires c = full_at c.args.production production.Index c.args.parts.now c.in-Index.is c.requires.full

pub returns-in-Index-clause-gives : goal.returns-in-Index-clause-gives
returns-in-Index-clause-gives c = gives_at _ c.args.production production.Index c.args.parts.now c.in-Index.is c.index.ensures

pub returns-in-Index-clause-words : goal.returns-in-Index-clause-words
returns-in-Index-clause-words c = wordless _ c.args.production production.Index c.in-Index.is (λ m. tt)

pub call-requires : goal.call-requires
unfolding rhs
call-requires c = full_at c.args.production production.Call c.args.parts.now c.in-Call.is c.requires.full

pub returns-in-Call-clause-gives : goal.returns-in-Call-clause-gives
returns-in-Call-clause-gives c = gives_at _ c.args.production production.Call c.args.parts.now c.in-Call.is c.call.ensures

pub returns-in-Call-clause-words : goal.returns-in-Call-clause-words
returns-in-Call-clause-words c = wordless _ c.args.production production.Call c.in-Call.is (λ m. tt)

pub arguments-requires : goal.arguments-requires
unfolding rhs
arguments-requires c = full_at c.args.production production.Arguments c.args.parts.now c.in-Arguments.is c.requires.full

pub returns-in-Arguments-clause-gives : goal.returns-in-Arguments-clause-gives
returns-in-Arguments-clause-gives c = gives_at _ c.args.production production.Arguments c.args.parts.now c.in-Arguments.is c.arguments.ensures

pub returns-in-Arguments-clause-words : goal.returns-in-Arguments-clause-words
returns-in-Arguments-clause-words c = wordless _ c.args.production production.Arguments c.in-Arguments.is (λ m. tt)

pub assign-requires : goal.assign-requires
unfolding rhs
assign-requires c = full_at c.args.production production.Assign c.args.parts.now c.in-Assign.is c.requires.full

pub returns-in-Assign-clause-gives : goal.returns-in-Assign-clause-gives
returns-in-Assign-clause-gives c = gives_at _ c.args.production production.Assign c.args.parts.now c.in-Assign.is c.assign.ensures

pub returns-in-Assign-clause-words : goal.returns-in-Assign-clause-words
returns-in-Assign-clause-words c = wordless _ c.args.production production.Assign c.in-Assign.is (λ m. tt)

pub cond-requires : goal.cond-requires
unfolding rhs
cond-requires c = full_at c.args.production production.Cond c.args.parts.now c.in-Cond.is c.requires.full

pub returns-in-Cond-clause-gives : goal.returns-in-Cond-clause-gives
returns-in-Cond-clause-gives c = gives_at _ c.args.production production.Cond c.args.parts.now c.in-Cond.is c.cond.ensures

pub returns-in-Cond-clause-words : goal.returns-in-Cond-clause-words
returns-in-Cond-clause-words c = wordless _ c.args.production production.Cond c.in-Cond.is (λ m. tt)

pub comma-requires : goal.comma-requires
unfolding rhs
comma-requires c = full_at c.args.production production.CommaExpr c.args.parts.now c.in-CommaExpr.is c.requires.full

pub returns-in-CommaExpr-clause-gives : goal.returns-in-CommaExpr-clause-gives
returns-in-CommaExpr-clause-gives c = gives_at _ c.args.production production.CommaExpr c.args.parts.now c.in-CommaExpr.is c.comma.ensures

pub returns-in-CommaExpr-clause-words : goal.returns-in-CommaExpr-clause-words
returns-in-CommaExpr-clause-words c = wordless _ c.args.production production.CommaExpr c.in-CommaExpr.is (λ m. tt)

pub cast-requires : goal.cast-requires
unfolding rhs
cast-requires c = full_at c.args.production production.Cast c.args.parts.now c.in-Cast.is c.requires.full

pub returns-in-Cast-clause-gives : goal.returns-in-Cast-clause-gives
returns-in-Cast-clause-gives c = gives_at _ c.args.production production.Cast c.args.parts.now c.in-Cast.is c.cast.ensures

pub returns-in-Cast-clause-words : goal.returns-in-Cast-clause-words
returns-in-Cast-clause-words c = wordless _ c.args.production production.Cast c.in-Cast.is (λ m. tt)

pub act_piece-requires-clause-full : goal.act_piece-requires-clause-full
unfolding rhs
act_piece-requires-clause-full c = full_at c.args.production (production.PieceP c.in-PieceP.piece) c.args.parts.now c.in-PieceP.is c.requires.full

pub act_piece-requires-clause-stand : goal.act_piece-requires-clause-stand
unfolding rhs
act_piece-requires-clause-stand c = stand_at c.args.production (production.PieceP c.in-PieceP.piece) c.args.parts.now c.in-PieceP.is c.requires.stand

pub returns-in-PieceP-clause-gives : goal.returns-in-PieceP-clause-gives
returns-in-PieceP-clause-gives c = gives_at _ c.args.production (production.PieceP c.in-PieceP.piece) c.args.parts.now c.in-PieceP.is c.act_piece.ensures

pub returns-in-PieceP-clause-words : goal.returns-in-PieceP-clause-words
returns-in-PieceP-clause-words c = wordless _ c.args.production (production.PieceP c.in-PieceP.piece) c.in-PieceP.is (λ m. tt)

pub const_words-requires-clause-full : goal.const_words-requires-clause-full
unfolding rhs
const_words-requires-clause-full c = full_at c.args.production (production.ConstSpec c.in-ConstSpec.external) c.args.parts.now c.in-ConstSpec.is c.requires.full

pub const_words-requires-clause-stand : goal.const_words-requires-clause-stand
const_words-requires-clause-stand c = stand_at c.args.production (production.ConstSpec c.in-ConstSpec.external) c.args.parts.now c.in-ConstSpec.is c.requires.stand

pub returns-in-ConstSpec-clause-gives : goal.returns-in-ConstSpec-clause-gives
returns-in-ConstSpec-clause-gives c = gives_at _ c.args.production (production.ConstSpec c.in-ConstSpec.external) c.args.parts.now c.in-ConstSpec.is c.const_words.ensures.gives

pub returns-in-ConstSpec-clause-words : goal.returns-in-ConstSpec-clause-words
returns-in-ConstSpec-clause-words c = words_at _ c.args.production (production.ConstSpec c.in-ConstSpec.external) c.in-ConstSpec.is c.const_words.ensures.words

pub members-requires-clause-full : goal.members-requires-clause-full
unfolding rhs
members-requires-clause-full c = full_at c.args.production production.MemberP c.args.parts.now c.in-MemberP.is c.requires.full

pub members-requires-clause-stand : goal.members-requires-clause-stand
members-requires-clause-stand c = stand_at c.args.production production.MemberP c.args.parts.now c.in-MemberP.is c.requires.stand

pub returns-in-MemberP-clause-gives : goal.returns-in-MemberP-clause-gives
returns-in-MemberP-clause-gives c = gives_at _ c.args.production production.MemberP c.args.parts.now c.in-MemberP.is c.members.ensures

pub returns-in-MemberP-clause-words : goal.returns-in-MemberP-clause-words
returns-in-MemberP-clause-words c = wordless _ c.args.production production.MemberP c.in-MemberP.is (λ m. tt)

pub params-requires : goal.params-requires
unfolding rhs
params-requires c = full_at c.args.production production.Params c.args.parts.now c.in-Params.is c.requires.full

pub returns-in-Params-clause-gives : goal.returns-in-Params-clause-gives
returns-in-Params-clause-gives c = gives_at _ c.args.production production.Params c.args.parts.now c.in-Params.is c.params.ensures

pub returns-in-Params-clause-words : goal.returns-in-Params-clause-words
returns-in-Params-clause-words c = wordless _ c.args.production production.Params c.in-Params.is (λ m. tt)

pub param_name-requires : goal.param_name-requires
unfolding rhs
param_name-requires c = full_at c.args.production production.ParamName c.args.parts.now c.in-ParamName.is c.requires.full

pub returns-in-ParamName-clause-gives : goal.returns-in-ParamName-clause-gives
returns-in-ParamName-clause-gives c = gives_at _ c.args.production production.ParamName c.args.parts.now c.in-ParamName.is c.param_name.ensures

pub returns-in-ParamName-clause-words : goal.returns-in-ParamName-clause-words
returns-in-ParamName-clause-words c = wordless _ c.args.production production.ParamName c.in-ParamName.is (λ m. tt)

pub param_function-requires : goal.param_function-requires
unfolding rhs
param_function-requires c = full_at c.args.production production.ParamFunction c.args.parts.now c.in-ParamFunction.is c.requires.full

pub returns-in-ParamFunction-clause-gives : goal.returns-in-ParamFunction-clause-gives
returns-in-ParamFunction-clause-gives c = gives_at _ c.args.production production.ParamFunction c.args.parts.now c.in-ParamFunction.is c.param_function.ensures

pub returns-in-ParamFunction-clause-words : goal.returns-in-ParamFunction-clause-words
returns-in-ParamFunction-clause-words c = wordless _ c.args.production production.ParamFunction c.in-ParamFunction.is (λ m. tt)

pub declaration-requires-clause-full : goal.declaration-requires-clause-full
unfolding rhs
declaration-requires-clause-full c = full_at c.args.production production.Declaration c.args.parts.now c.in-Declaration.is c.requires.full

pub declaration-requires-clause-stand : goal.declaration-requires-clause-stand
declaration-requires-clause-stand c = stand_at c.args.production production.Declaration c.args.parts.now c.in-Declaration.is c.requires.stand

pub returns-in-Declaration-clause-gives : goal.returns-in-Declaration-clause-gives
returns-in-Declaration-clause-gives c = gives_at _ c.args.production production.Declaration c.args.parts.now c.in-Declaration.is c.declaration.ensures

pub returns-in-Declaration-clause-words : goal.returns-in-Declaration-clause-words
returns-in-Declaration-clause-words c = wordless _ c.args.production production.Declaration c.in-Declaration.is (λ m. tt)

pub begin_values-requires : goal.begin_values-requires
unfolding rhs
begin_values-requires c = full_at c.args.production production.FirstValue c.args.parts.now c.in-FirstValue.is c.requires.full

pub returns-in-FirstValue-clause-gives : goal.returns-in-FirstValue-clause-gives
returns-in-FirstValue-clause-gives c = gives_at _ c.args.production production.FirstValue c.args.parts.now c.in-FirstValue.is c.begin_values.ensures

pub returns-in-FirstValue-clause-words : goal.returns-in-FirstValue-clause-words
returns-in-FirstValue-clause-words c = wordless _ c.args.production production.FirstValue c.in-FirstValue.is (λ m. tt)

pub value_comma-requires-clause-full : goal.value_comma-requires-clause-full
unfolding rhs
value_comma-requires-clause-full c = full_at c.args.production production.ValueComma c.args.parts.now c.in-ValueComma.is c.requires.full

pub value_comma-requires-clause-stand : goal.value_comma-requires-clause-stand
value_comma-requires-clause-stand c = stand_at c.args.production production.ValueComma c.args.parts.now c.in-ValueComma.is c.requires.stand

pub returns-in-ValueComma-clause-gives : goal.returns-in-ValueComma-clause-gives
returns-in-ValueComma-clause-gives c = gives_at _ c.args.production production.ValueComma c.args.parts.now c.in-ValueComma.is c.value_comma.ensures

pub returns-in-ValueComma-clause-words : goal.returns-in-ValueComma-clause-words
returns-in-ValueComma-clause-words c = wordless _ c.args.production production.ValueComma c.in-ValueComma.is (λ m. tt)

pub next_value-requires : goal.next_value-requires
unfolding rhs
next_value-requires c = full_at c.args.production production.NextValue c.args.parts.now c.in-NextValue.is c.requires.full

pub returns-in-NextValue-clause-gives : goal.returns-in-NextValue-clause-gives
returns-in-NextValue-clause-gives c = gives_at _ c.args.production production.NextValue c.args.parts.now c.in-NextValue.is c.next_value.ensures

pub returns-in-NextValue-clause-words : goal.returns-in-NextValue-clause-words
returns-in-NextValue-clause-words c = wordless _ c.args.production production.NextValue c.in-NextValue.is (λ m. tt)

pub braces-requires : goal.braces-requires
unfolding rhs
braces-requires c = full_at c.args.production production.Braces c.args.parts.now c.in-Braces.is c.requires.full

pub returns-in-Braces-clause-gives : goal.returns-in-Braces-clause-gives
returns-in-Braces-clause-gives c = gives_at _ c.args.production production.Braces c.args.parts.now c.in-Braces.is c.braces.ensures

pub returns-in-Braces-clause-words : goal.returns-in-Braces-clause-words
returns-in-Braces-clause-words c = wordless _ c.args.production production.Braces c.in-Braces.is (λ m. tt)

pub block-requires : goal.block-requires
unfolding rhs
block-requires c = full_at c.args.production production.Block c.args.parts.now c.in-Block.is c.requires.full

pub returns-in-Block-clause-gives : goal.returns-in-Block-clause-gives
returns-in-Block-clause-gives c = gives_at _ c.args.production production.Block c.args.parts.now c.in-Block.is c.block.ensures

pub returns-in-Block-clause-words : goal.returns-in-Block-clause-words
returns-in-Block-clause-words c = wordless _ c.args.production production.Block c.in-Block.is (λ m. tt)

pub expression_statement-requires : goal.expression_statement-requires
unfolding rhs
expression_statement-requires c = full_at c.args.production production.ExprStatement c.args.parts.now c.in-ExprStatement.is c.requires.full

pub returns-in-ExprStatement-clause-gives : goal.returns-in-ExprStatement-clause-gives
returns-in-ExprStatement-clause-gives c = gives_at _ c.args.production production.ExprStatement c.args.parts.now c.in-ExprStatement.is c.expression_statement.ensures

pub returns-in-ExprStatement-clause-words : goal.returns-in-ExprStatement-clause-words
returns-in-ExprStatement-clause-words c = wordless _ c.args.production production.ExprStatement c.in-ExprStatement.is (λ m. tt)

pub if_without_else-requires : goal.if_without_else-requires
unfolding rhs
if_without_else-requires c = full_at c.args.production production.If c.args.parts.now c.in-If.is c.requires.full

pub returns-in-If-clause-gives : goal.returns-in-If-clause-gives
returns-in-If-clause-gives c = gives_at _ c.args.production production.If c.args.parts.now c.in-If.is c.if_without_else.ensures

pub returns-in-If-clause-words : goal.returns-in-If-clause-words
returns-in-If-clause-words c = wordless _ c.args.production production.If c.in-If.is (λ m. tt)

pub if_else-requires : goal.if_else-requires
unfolding rhs
if_else-requires c = full_at c.args.production production.IfElse c.args.parts.now c.in-IfElse.is c.requires.full

pub returns-in-IfElse-clause-gives : goal.returns-in-IfElse-clause-gives
returns-in-IfElse-clause-gives c = gives_at _ c.args.production production.IfElse c.args.parts.now c.in-IfElse.is c.if_else.ensures

pub returns-in-IfElse-clause-words : goal.returns-in-IfElse-clause-words
returns-in-IfElse-clause-words c = wordless _ c.args.production production.IfElse c.in-IfElse.is (λ m. tt)

pub while_loop-requires : goal.while_loop-requires
unfolding rhs
while_loop-requires c = full_at c.args.production production.While c.args.parts.now c.in-While.is c.requires.full

pub returns-in-While-clause-gives : goal.returns-in-While-clause-gives
returns-in-While-clause-gives c = gives_at _ c.args.production production.While c.args.parts.now c.in-While.is c.while_loop.ensures

pub returns-in-While-clause-words : goal.returns-in-While-clause-words
returns-in-While-clause-words c = wordless _ c.args.production production.While c.in-While.is (λ m. tt)

pub do_loop-requires : goal.do_loop-requires
unfolding rhs
do_loop-requires c = full_at c.args.production production.Do c.args.parts.now c.in-Do.is c.requires.full

pub returns-in-Do-clause-gives : goal.returns-in-Do-clause-gives
returns-in-Do-clause-gives c = gives_at _ c.args.production production.Do c.args.parts.now c.in-Do.is c.do_loop.ensures

pub returns-in-Do-clause-words : goal.returns-in-Do-clause-words
returns-in-Do-clause-words c = wordless _ c.args.production production.Do c.in-Do.is (λ m. tt)

pub for_loop-requires : goal.for_loop-requires
unfolding rhs
for_loop-requires c = full_at c.args.production production.For c.args.parts.now c.in-For.is c.requires.full

pub returns-in-For-clause-gives : goal.returns-in-For-clause-gives
returns-in-For-clause-gives c = gives_at _ c.args.production production.For c.args.parts.now c.in-For.is c.for_loop.ensures

pub returns-in-For-clause-words : goal.returns-in-For-clause-words
returns-in-For-clause-words c = wordless _ c.args.production production.For c.in-For.is (λ m. tt)

pub switch-requires : goal.switch-requires
unfolding rhs
switch-requires c = full_at c.args.production production.Switch c.args.parts.now c.in-Switch.is c.requires.full

pub returns-in-Switch-clause-gives : goal.returns-in-Switch-clause-gives
returns-in-Switch-clause-gives c = gives_at _ c.args.production production.Switch c.args.parts.now c.in-Switch.is c.switch.ensures

pub returns-in-Switch-clause-words : goal.returns-in-Switch-clause-words
returns-in-Switch-clause-words c = wordless _ c.args.production production.Switch c.in-Switch.is (λ m. tt)

pub return_statement-requires : goal.return_statement-requires
unfolding rhs
return_statement-requires c = full_at c.args.production production.Return c.args.parts.now c.in-Return.is c.requires.full

pub returns-in-Return-clause-gives : goal.returns-in-Return-clause-gives
returns-in-Return-clause-gives c = gives_at _ c.args.production production.Return c.args.parts.now c.in-Return.is c.return_statement.ensures

pub returns-in-Return-clause-words : goal.returns-in-Return-clause-words
returns-in-Return-clause-words c = wordless _ c.args.production production.Return c.in-Return.is (λ m. tt)

pub jump-requires : goal.jump-requires
unfolding rhs
jump-requires c = full_at c.args.production production.Jump c.args.parts.now c.in-Jump.is c.requires.full

pub returns-in-Jump-clause-gives : goal.returns-in-Jump-clause-gives
returns-in-Jump-clause-gives c = gives_at _ c.args.production production.Jump c.args.parts.now c.in-Jump.is c.jump.ensures

pub returns-in-Jump-clause-words : goal.returns-in-Jump-clause-words
returns-in-Jump-clause-words c = wordless _ c.args.production production.Jump c.in-Jump.is (λ m. tt)

pub case_label-requires : goal.case_label-requires
unfolding rhs
case_label-requires c = full_at c.args.production production.CaseLabel c.args.parts.now c.in-CaseLabel.is c.requires.full

pub returns-in-CaseLabel-clause-gives : goal.returns-in-CaseLabel-clause-gives
returns-in-CaseLabel-clause-gives c = gives_at _ c.args.production production.CaseLabel c.args.parts.now c.in-CaseLabel.is c.case_label.ensures

pub returns-in-CaseLabel-clause-words : goal.returns-in-CaseLabel-clause-words
returns-in-CaseLabel-clause-words c = wordless _ c.args.production production.CaseLabel c.in-CaseLabel.is (λ m. tt)

pub default_label-requires : goal.default_label-requires
unfolding rhs
default_label-requires c = full_at c.args.production production.DefaultLabel c.args.parts.now c.in-DefaultLabel.is c.requires.full

pub returns-in-DefaultLabel-clause-gives : goal.returns-in-DefaultLabel-clause-gives
returns-in-DefaultLabel-clause-gives c = gives_at _ c.args.production production.DefaultLabel c.args.parts.now c.in-DefaultLabel.is c.default_label.ensures

pub returns-in-DefaultLabel-clause-words : goal.returns-in-DefaultLabel-clause-words
returns-in-DefaultLabel-clause-words c = wordless _ c.args.production production.DefaultLabel c.in-DefaultLabel.is (λ m. tt)

pub whole-requires : goal.whole-requires
unfolding rhs
whole-requires c = full_at c.args.production production.Whole c.args.parts.now c.in-Whole.is c.requires.full

pub returns-in-Whole-clause-gives : goal.returns-in-Whole-clause-gives
returns-in-Whole-clause-gives c = gives_at _ c.args.production production.Whole c.args.parts.now c.in-Whole.is c.whole.ensures

pub returns-in-Whole-clause-words : goal.returns-in-Whole-clause-words
returns-in-Whole-clause-words c = wordless _ c.args.production production.Whole c.in-Whole.is (λ m. tt)

pub static_external-requires-clause-full : goal.static_external-requires-clause-full
unfolding rhs
static_external-requires-clause-full c = full_at c.args.production production.StaticExternal c.args.parts.now c.in-StaticExternal.is c.requires.full

pub static_external-requires-clause-stand : goal.static_external-requires-clause-stand
static_external-requires-clause-stand c = stand_at c.args.production production.StaticExternal c.args.parts.now c.in-StaticExternal.is c.requires.stand

pub returns-in-StaticExternal-clause-gives : goal.returns-in-StaticExternal-clause-gives
returns-in-StaticExternal-clause-gives c = gives_at _ c.args.production production.StaticExternal c.args.parts.now c.in-StaticExternal.is c.static_external.ensures

pub returns-in-StaticExternal-clause-words : goal.returns-in-StaticExternal-clause-words
returns-in-StaticExternal-clause-words c = wordless _ c.args.production production.StaticExternal c.in-StaticExternal.is (λ m. tt)

pub declared_external-requires-clause-full : goal.declared_external-requires-clause-full
unfolding rhs
declared_external-requires-clause-full c = full_at c.args.production production.DeclaredP c.args.parts.now c.in-DeclaredP.is c.requires.full

pub declared_external-requires-clause-stand : goal.declared_external-requires-clause-stand
declared_external-requires-clause-stand c = stand_at c.args.production production.DeclaredP c.args.parts.now c.in-DeclaredP.is c.requires.stand

pub returns-in-DeclaredP-clause-gives : goal.returns-in-DeclaredP-clause-gives
returns-in-DeclaredP-clause-gives c = gives_at _ c.args.production production.DeclaredP c.args.parts.now c.in-DeclaredP.is c.declared_external.ensures

pub returns-in-DeclaredP-clause-words : goal.returns-in-DeclaredP-clause-words
returns-in-DeclaredP-clause-words c = wordless _ c.args.production production.DeclaredP c.in-DeclaredP.is (λ m. tt)

pub pointed_external-requires : goal.pointed_external-requires
unfolding rhs
pointed_external-requires c = full_at c.args.production production.Pointed c.args.parts.now c.in-Pointed.is c.requires.full

pub returns-in-Pointed-clause-gives : goal.returns-in-Pointed-clause-gives
returns-in-Pointed-clause-gives c = gives_at _ c.args.production production.Pointed c.args.parts.now c.in-Pointed.is c.pointed_external.ensures

pub returns-in-Pointed-clause-words : goal.returns-in-Pointed-clause-words
returns-in-Pointed-clause-words c = wordless _ c.args.production production.Pointed c.in-Pointed.is (λ m. tt)

pub function-requires : goal.function-requires
unfolding rhs
function-requires c = full_at c.args.production production.Function c.args.parts.now c.in-Function.is c.requires.full

pub returns-in-Function-clause-gives : goal.returns-in-Function-clause-gives
returns-in-Function-clause-gives c = gives_at _ c.args.production production.Function c.args.parts.now c.in-Function.is c.function.ensures

pub returns-in-Function-clause-words : goal.returns-in-Function-clause-words
returns-in-Function-clause-words c = wordless _ c.args.production production.Function c.in-Function.is (λ m. tt)

pub objects-requires : goal.objects-requires
unfolding rhs
objects-requires c = full_at c.args.production production.Objects c.args.parts.now c.in-Objects.is c.requires.full

pub returns-in-Objects-clause-gives : goal.returns-in-Objects-clause-gives
returns-in-Objects-clause-gives c = gives_at _ c.args.production production.Objects c.args.parts.now c.in-Objects.is c.objects.ensures

pub returns-in-Objects-clause-words : goal.returns-in-Objects-clause-words
returns-in-Objects-clause-words c = wordless _ c.args.production production.Objects c.in-Objects.is (λ m. tt)
