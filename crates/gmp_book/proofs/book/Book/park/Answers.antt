use Rattle.gmp_book.proofs.book.Book.park.Goals as goal

pub returns-in-None-Work-clause-minds : goal.returns-in-None-Work-clause-minds
returns-in-None-Work-clause-minds g c = λ until.
    let is = c.in-None-Work.is-1 in
    (λ e. cc, λ minds. let told = (c.in_ok-note.ensures.done.1 until).1 minds in cc)

pub returns-in-None-AllAsleep-clause-minds : goal.returns-in-None-AllAsleep-clause-minds
returns-in-None-AllAsleep-clause-minds g c = λ until.
    let is = c.in-None-AllAsleep.is-1 in
    (λ e. cc, λ minds. let told = (c.in_ok-note.ensures.done.1 until).1 minds in cc)
