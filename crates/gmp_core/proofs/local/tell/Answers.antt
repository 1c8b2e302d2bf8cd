use Rattle.std.proofs.Common.{is_some, sym}
use Rattle.gmp_driver.proofs.Local.{suits_then}
use Rattle.gmp_driver.specs.Local.{filled}
use Rattle.gmp_driver.specs.Table.{next_act}
use Rattle.gmp_core.proofs.Landing.{fits_now}
use Rattle.gmp_core.proofs.Stealing.{told_alone}
use Rattle.gmp_core.proofs.local.tell.Goals as goal

pub tell-requires : goal.tell-requires
tell-requires g c =
    let x = c.args.driver.now in
    suits_then x c.args.what x.hand c.requires.fits c.requires.may (sym (told_alone (next_act x) c.args.what c.requires.next c.requires.may (is_some x.hand.to_claim) (filled x.hand)))

pub returns-clause-fits : goal.returns-clause-fits
returns-clause-fits g c =
    let x = c.args.driver.now in
    fits_now x c.tell.new.self c.args.what x.hand
    (suits_then x c.args.what x.hand c.requires.fits c.requires.may (sym (told_alone (next_act x) c.args.what c.requires.next c.requires.may (is_some x.hand.to_claim) (filled x.hand)))) c.tell.ensures
