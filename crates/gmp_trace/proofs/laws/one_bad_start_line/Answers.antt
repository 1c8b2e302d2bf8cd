use Rattle.gmp_trace.proofs.StartFault.{no_start_fault, one_start_fault}
use Rattle.gmp_trace.proofs.laws.one_bad_start_line.Goals as goal

pub returns-clause-one : goal.returns-clause-one
returns-clause-one c = one_start_fault

pub returns-clause-none_of_a_start : goal.returns-clause-none_of_a_start
returns-clause-none_of_a_start c = no_start_fault
