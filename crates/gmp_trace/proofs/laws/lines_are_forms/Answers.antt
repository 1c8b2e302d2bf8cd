use Rattle.gmp_trace.proofs.StartBack.{forms_back, sizes_back}
use Rattle.gmp_trace.proofs.StartSaid.{said}
use Rattle.gmp_trace.proofs.laws.lines_are_forms.Goals as goal

pub returns-clause-said : goal.returns-clause-said
returns-clause-said c limits bodies s low some few together sizes forms = said limits bodies s low together sizes forms some few

pub returns-clause-forms : goal.returns-clause-forms
returns-clause-forms c = forms_back

pub returns-clause-sizes : goal.returns-clause-sizes
returns-clause-sizes c = sizes_back
