use Rattle.std.proofs.Common.{refl}
use Rattle.comp_dir.specs.Slots.{slot_bytes}
use Rattle.comp_dir.proofs.spelling.spelled.Goals as goal

pub returns : goal.returns
unfolding slot_bytes
returns c =
    rw (c.copy_from_slice-10.ensures.after, c.copy_from_slice-9.ensures.after, c.copy_from_slice-8.ensures.after, c.copy_from_slice-7.ensures.after, c.copy_from_slice-6.ensures.after)
    (rw (c.copy_from_slice-5.ensures.after, c.copy_from_slice-4.ensures.after, c.copy_from_slice-3.ensures.after, c.copy_from_slice-2.ensures.after, c.copy_from_slice.ensures.after)
    (rw (c.to_be_bytes.ensures, c.to_be_bytes-2.ensures, c.to_be_bytes-3.ensures, c.to_be_bytes-4.ensures, c.to_be_bytes-5.ensures)
    (rw (c.to_be_bytes-6.ensures, c.to_be_bytes-7.ensures, c.to_be_bytes-8.ensures, c.to_be_bytes-9.ensures, c.to_be_bytes-10.ensures) refl)))
