-- What contracts see of an expression and its parts, and of the error where there is no value.
use Rattle.std.specs.Prelude.{List, map, Option, Some, None}
use Rattle.expr_text.specs.Expressions.{Atom, Literal, Repeated, Named, Suffix, Cut, Flip, Term}
use Rattle.expr_text.specs.declared.expression.ExprAtom.{ExprAtom}
use Rattle.expr_text.specs.declared.expression.ExprAtom.TheVariants as atom
use Rattle.expr_text.specs.declared.expression.ExprSuffix.{ExprSuffix}
use Rattle.expr_text.specs.declared.expression.ExprSuffix.TheVariants as suffix
use Rattle.expr_text.specs.declared.expression.ExprTerm.{ExprTerm}
use Rattle.expr_text.specs.declared.value.ExprError.{ExprError}
use Rattle.expr_text.specs.declared.value.ExprError.TheVariants.{Fault, NoMemory}
use Rattle.expr_text.specs.declared.value.ExprFault.{ExprFault}

abbrev pub seen_atom : ExprAtom → Atom
seen_atom (atom.Literal bytes) = Literal bytes.bytes
seen_atom (atom.Repeated byte count) = Repeated byte count
seen_atom (atom.Named name) = Named name

abbrev pub seen_suffix : ExprSuffix → Suffix
seen_suffix (suffix.Cut from to) = Cut from to
seen_suffix (suffix.Flip at) = Flip at

abbrev pub seen_suffixes : List ExprSuffix → List Suffix
seen_suffixes suffixes = map seen_suffix suffixes

abbrev pub seen_term : ExprTerm → Term
seen_term term = record { atom = seen_atom term.atom; suffixes = seen_suffixes term.suffixes.items }

abbrev pub seen_terms : List ExprTerm → List Term
seen_terms terms = map seen_term terms

-- the fault that an error stands for: none where memory ran out
abbrev pub expr_fault : ExprError → Option ExprFault
expr_fault (Fault fault) = Some fault
expr_fault NoMemory = None
