use Rattle.script_text.proofs.argument.argument_in.Goals as goal

pub returns-in-Number-clause-exact : goal.returns-in-Number-clause-exact
returns-in-Number-clause-exact c = rw c.in-Number.is c.number_in.ensures.exact

pub returns-in-Name-clause-exact : goal.returns-in-Name-clause-exact
returns-in-Name-clause-exact c = rw c.in-Name.is c.name_in.ensures

pub returns-in-ImageKind-clause-exact : goal.returns-in-ImageKind-clause-exact
returns-in-ImageKind-clause-exact c = rw c.in-ImageKind.is c.image_kind_in.ensures.exact

pub returns-in-Register-clause-exact : goal.returns-in-Register-clause-exact
returns-in-Register-clause-exact c = rw c.in-Register.is c.register_in.ensures.exact

pub returns-in-Expression-clause-exact : goal.returns-in-Expression-clause-exact
returns-in-Expression-clause-exact c = rw c.in-Expression.is c.expression_in.ensures
