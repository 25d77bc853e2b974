use Rattle.std.specs.Prelude.{string_bytes}
use Rattle.param_expr.proofs.Printed.{Laws, written_laws}
use Rattle.param_expr.proofs.printing.print.Goals as goal

all_laws : (c : goal.In_ok-write_expr) → Laws (string_bytes c.write_expr.new.text) c.args.names.now c.args.expr.now
all_laws c =
    written_laws (string_bytes c.new-text.result) (string_bytes c.write_expr.new.text) c.args.names.now c.args.expr.now
    c.new-text.ensures.bytes c.in_ok-write_expr.ensures.written c.requires.refers c.requires.names c.requires.numbers c.in_ok-write_expr.ensures.limited

pub returns-clause-spelled : goal.returns-clause-spelled
returns-clause-spelled c = (all_laws c).spelled

pub returns-clause-no_spaces : goal.returns-clause-no_spaces
returns-clause-no_spaces c = (all_laws c).spaces

pub returns-clause-no_leading_zeros : goal.returns-clause-no_leading_zeros
returns-clause-no_leading_zeros c = (all_laws c).zeros

pub returns-clause-no_large_number : goal.returns-clause-no_large_number
returns-clause-no_large_number c = (all_laws c).small

pub returns-clause-fewest : goal.returns-clause-fewest
returns-clause-fewest c = (all_laws c).fewest

pub returns-clause-flattest : goal.returns-clause-flattest
returns-clause-flattest c = (all_laws c).flattest

pub returns-clause-shortest : goal.returns-clause-shortest
returns-clause-shortest c = (all_laws c).shortest

pub returns-clause-again : goal.returns-clause-again
returns-clause-again c = (all_laws c).again
