use Rattle.gmp_worker.proofs.Boxes.{same_box}
use Rattle.gmp_worker.proofs.bodies.resume_boxed.Goals as goal

pub returns : goal.returns
returns g c =
    same_box (λ k new. record { ptr = c.args.body.now.ptr; vtable = k; alloc = c.args.body.now.alloc; value = new })
    (λ k x y. (g.dyn-1.0.entry k).1.resumed x c.args.woke c.resume_into.new.out y)
    c.deref_box_mut-1.result.now.0 c.args.body.now.vtable c.deref_box_mut-1.result.now.1 c.args.body.now.value c.deref_box_mut-1.ensures.value.1 c.resume_into.new.self c.resume_into.ensures
