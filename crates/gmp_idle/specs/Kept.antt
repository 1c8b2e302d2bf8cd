-- What the parts of the machines keep.
use Rattle.std.specs.Prelude.{◌≡◌, Bool, false, cond, count_by, Option, Some, List, length, slice_get, unwrap_or}
use Rattle.gmp_base.specs.declared.number.MNo.{MNo}
use Rattle.gmp_seq.specs.declared.status.Mode.{Mode}
use Rattle.gmp_seq.specs.declared.status.Mode.TheVariants.{Calling}
use Rattle.gmp_seq.specs.Machines.{is_held_by}

-- the flag of the machine's number
abbrev pub flag_of : List Bool → MNo → Bool
flag_of flags m = unwrap_or (slice_get flags m.0) false

-- each machine has a flag that says whether it holds a processor, and another that says whether it spins
pub record HaveFlags (holders : List (Option MNo)) (modes : List Mode) (holding spinning : List Bool) : Type 0 where
  pub flags : length holding ≡ length modes
  pub spinners : length spinning ≡ length modes
  -- a machine holds one processor where its flag is true, and else none
  pub held : (m : MNo) → count_by (is_held_by m) holders ≡ cond (flag_of holding m) 1 0
  -- a machine in a blocking call holds none
  pub callers : (m : MNo) → slice_get modes m.0 ≡ Some Calling → flag_of holding m ≡ false
