-- No line is longer than there are goroutines.
use Rattle.std.proofs.Common.{◌≡◌, ℕ, zero, suc, ◌+◌, ◌*◌, ◌<◌, ◌≤◌, List, [], length, arith, sum_by}
use Rattle.std.proofs.Math.Nat.{mul-suc, mul-zero}
use Rattle.std.proofs.lemmas.List.Sums.{count_by-le-length, get_or-le-sum_by}
use Rattle.std.proofs.lemmas.Option.{slice_get_within}
use Rattle.gmp_base.specs.declared.number.GNo.{GNo}
use Rattle.gmp_base.specs.declared.number.MNo.{MNo}
use Rattle.gmp_base.specs.declared.number.PNo.{PNo}
use Rattle.gmp_base.specs.declared.number.Readiness.{Readiness}
use Rattle.gmp_seq.specs.declared.status.Goroutine.{Goroutine}
use Rattle.gmp_seq.specs.Table.{is_shelved}
use Rattle.gmp_seq.proofs.Sizes.{legal_sizes}
use Rattle.gmp_acts.specs.declared.choice.Choice.{Choice}
use Rattle.gmp_acts.specs.System.{System, in_queue, queue_at}
use Rattle.gmp_acts.proofs.Room.{few_tickets}
use Rattle.gmp_fair.specs.Fair.{Lists, WaitsInQueue, WaitsOnShelf, claims_of}
use Rattle.gmp_fair.proofs.Queue.{begins_queue, queue_bound, queue_there}
use Rattle.gmp_fair.proofs.Served.{Kept}
use Rattle.gmp_fair.proofs.Shelf.{begins_shelf, shelf_bound}

pub mul_mono : (n a b : ℕ) → a ≤ b → n * a ≤ n * b
mul_mono n zero b h = (let z = mul-zero n in omega (arith, z))
mul_mono n (suc a) zero h = absurd (omega (arith, h))
mul_mono n (suc a) (suc b) h = (let r = mul_mono n a b (omega (arith, h)) in let p = mul-suc n a in let q = mul-suc n b in omega (arith, r, p, q))

rows_are : (m : MNo) (procs bodies : ℕ) (k : System) → Kept m procs k → k.book.bodies ≡ bodies → length k.book.state.table.goroutines ≡ bodies
rows_are m procs bodies k kept are =
    let s = kept.sound in
    let rows = (legal_sizes k.book.limits k.book.bodies k.book.capacities k.book.history k.book.state s.within s.legal).goroutines in
    omega (arith, rows, are)

pub short_shelf : (m : MNo) (procs bodies : ℕ) (k : System) (line : List GNo) → Kept m procs k → k.book.bodies ≡ bodies → Lists line k → length line ≤ bodies
short_shelf m procs bodies k line kept are lists =
    let all = lists.all in
    let few = count_by-le-length (λ (x : Goroutine). is_shelved x.status) k.book.state.table.goroutines in
    let rows = rows_are m procs bodies k kept are in
    omega (arith, all, few, rows)

pub short_queue : (m : MNo) (procs bodies : ℕ) (k : System) (p : PNo) → Kept m procs k → k.book.bodies ≡ bodies → p.0 < length k.queues → length (queue_at k p) ≤ bodies
short_queue m procs bodies k p kept are there =
    let few : length (queue_at k p) ≤ length k.book.state.table.goroutines = few_tickets k.book.state.table (queue_at k p) (λ (q : Readiness).
    let a : in_queue q (queue_at k p) ≤ sum_by (in_queue q) k.queues = get_or-le-sum_by (in_queue q) k.queues p.0 [] there in
    let b = kept.sound.tickets q in omega (arith, a, b)) in
    let rows = rows_are m procs bodies k kept are in
    omega (arith, few, rows)

pub few_on_shelf : (g : GNo) (m : MNo) (procs bodies : ℕ) (moves : List (MNo × Choice)) (k k' : System) (line : List GNo) → Kept m procs k → k.book.bodies ≡ bodies → WaitsOnShelf g line k moves k'
    → claims_of k' m ≤ claims_of k m + 32 * bodies
few_on_shelf g m procs bodies moves k k' line kept are waits =
    let first = begins_shelf g moves line k k' waits in
    let j : ℕ = first.1.0 in
    let within : j < length line = slice_get_within line j g first.1.1 in
    let short = short_shelf m procs bodies k line kept are first.0 in
    let most = shelf_bound g m procs moves k k' line j kept first.1.1 waits in
    omega (arith, within, short, most)

pub few_in_queue : (r : Readiness) (p : PNo) (m : MNo) (procs bodies : ℕ) (moves : List (MNo × Choice)) (k k' : System) → Kept m procs k → k.book.bodies ≡ bodies → WaitsInQueue p r k moves k'
    → claims_of k' m ≤ claims_of k m + 32 * procs * bodies
few_in_queue r p m procs bodies moves k k' kept are waits =
    let first = begins_queue p r moves k k' waits in
    let j : ℕ = first.0 in
    let within : j < length (queue_at k p) = slice_get_within (queue_at k p) j r first.1 in
    let short = short_queue m procs bodies k p kept are (queue_there k p r j first.1) in
    let most = queue_bound r p m procs moves k k' j kept first.1 waits in
    let more = mul_mono (32 * procs) (j + 1) bodies (omega (arith, within, short)) in
    omega (arith, most, more)
