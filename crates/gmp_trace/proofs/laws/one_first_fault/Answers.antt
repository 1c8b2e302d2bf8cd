use Rattle.gmp_trace.proofs.OneFault.{no_fault, one_fault}
use Rattle.gmp_trace.proofs.laws.one_first_fault.Goals as goal

pub returns-clause-one : goal.returns-clause-one
returns-clause-one c = one_fault

pub returns-clause-none_of_a_trace : goal.returns-clause-none_of_a_trace
returns-clause-none_of_a_trace c = no_fault
