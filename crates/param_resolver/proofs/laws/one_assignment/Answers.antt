use Rattle.param_resolver.specs.Assignment.{values_of}
use Rattle.param_resolver.proofs.Assignments.{is_assignment, unique}
use Rattle.param_resolver.proofs.laws.one_assignment.Goals as goal

pub returns-clause-is : goal.returns-clause-is
returns-clause-is c = λ params supplied ordered. is_assignment params supplied ordered

pub returns-clause-only : goal.returns-clause-only
returns-clause-only c = λ params supplied values ordered is. unique params supplied ordered values (values_of params supplied) is (is_assignment params supplied ordered)
