-- The laws of the field that a client's proofs cite, in one place. Each is proved in the file that it comes from.
-- Assumes nothing.

-- The sum: exclusive or is a group in which each element is its own inverse.
-- xor_assoc, xor_comm, xor_zero_l, xor_zero_r, xor_self; xor_cancel: a + (a + b) is b; xor_eq_zero: a + b is 0 only where a is b;
-- xor_left_comm and xor_swap change the order of three and of four; xor_byte: the sum of two bytes is a byte.
pub use lib.Bits.{xor_assoc, xor_comm, xor_zero_l, xor_zero_r, xor_self}
pub use Rattle.field.proofs.Xor.{xor_left_comm, xor_swap, xor_cancel, xor_eq_zero}
pub use Rattle.field.proofs.ProductLaws.{xor_byte}
-- Doubling is linear, and is the product with 2.
pub use Rattle.field.proofs.ProductLaws.{double_byte, double_zero, double_xor, double_times, times_double_l}
-- The product associates, commutes, distributes over the sum on both sides, has 0 and 1 as it should, and every element but 0 has an inverse.
pub use Rattle.field.proofs.ProductLaws.{times_byte, times_assoc, times_comm, times_xor_l, times_xor_r, times_zero_l, times_zero_r, one_times, inverse_byte, times_inverse, times_cancel}
-- Powers of 2: by doubling, their products, and that no two below the 255th are equal, so that two different weights have a sum that is not 0.
pub use Rattle.field.proofs.ProductLaws.{pow2_byte, pow2_zero, pow2_suc, pow2_add, pow2_positive, pow2_inj, pow2_differ}
