-- What a crate above may know of the field besides the contracts and the definitions. Written with + for `gadd`, · for `gmul`, a⁻¹ for
-- `ginv a` and ^ for `gpow`; a law holds of all numbers, or where it says `element` of those below 256, or where it says `unit` of those
-- from 1 to 255.
--   Sum
--     gadd_comm        a + b = b + a
--     gadd_assoc       (a + b) + c = a + (b + c)
--     gadd_left_comm   a + (b + c) = b + (a + c)
--     gadd_medial      (a + b) + (c + d) = (a + c) + (b + d)
--     gadd-zero_l      0 + a = a
--     gadd-zero_r      a + 0 = a
--     gadd_self        a + a = 0
--     gadd_twice       a + (a + b) = b
--     gadd_cancel      a + b = a + c gives b = c
--     gadd-zero        a + b = 0 gives a = b
--     gadd_lt          a + b < 256                          a, b elements
--   Product
--     gmul_comm        a · b = b · a
--     gmul_assoc       (a · b) · c = a · (b · c)
--     gmul_left_comm   a · (b · c) = b · (a · c)
--     gmul_medial      (a · b) · (c · d) = (a · c) · (b · d)
--     gmul-add_l       (a + b) · c = a · c + b · c
--     gmul-add_r       a · (b + c) = a · b + a · c
--     gmul-zero_l      0 · a = 0
--     gmul-zero_r      a · 0 = 0
--     gmul_one_l       1 · a = a                            a element
--     gmul_one_r       a · 1 = a                            a element
--     gmul_lt          a · b < 256
--     gmul_cancel      a · b = a · c gives b = c            a unit, b, c elements
--     gmul-zero        a · b = 0 gives b = 0                a unit, b element
--     gmul_none        a · b = 0 gives a = 0 or b = 0       a, b elements
--     gmul_pos         0 < a · b                            a, b units
--   Inverse
--     gmul-ginv        a · a⁻¹ = 1                          a unit
--     ginv_unique      a · b = 1 gives b = a⁻¹              a unit, b element
--     ginv-zero        0⁻¹ = 0
--     ginv_lt          a⁻¹ < 256
--     ginv_pos         0 < a⁻¹                              a unit
--   Powers
--     gpow-zero        a ^ 0 = 1
--     gpow-suc         a ^ (n + 1) = a · a ^ n
--     gpow_one         a ^ 1 = a                            a element
--     gpow-add         a ^ (m + n) = a ^ m · a ^ n
--     gpow-mul         a ^ (m n) = (a ^ n) ^ m
--     gpow_of_one      1 ^ n = 1
--     gpow_of_product  (a · b) ^ n = a ^ n · b ^ n
--     gpow_lt          a ^ n < 256
--     gpow_pos         0 < a ^ n                            a unit
--   Exponents, to the base 2
--     gpow-order       2 ^ 255 = 1
--     gpow-mod         2 ^ (n mod 255) = 2 ^ n
--     gpow-glog        2 ^ log a = a                        a unit
--     glog-gpow        log (2 ^ e) = e                      e < 255
--     glog-zero        log 0 = 0
--     glog_one         log 1 = 0
--     glog_lt          log a < 255
--     gmul-glog        a · b = 2 ^ (log a + log b)          a, b units
--     ginv-glog        a⁻¹ = 2 ^ (255 - log a)              a unit
pub use Rattle.gf256.proofs.Sum.{gadd_comm, gadd_assoc, gadd_left_comm, gadd_medial, gadd-zero_l, gadd-zero_r, gadd_self, gadd_twice, gadd_cancel}
pub use Rattle.gf256.proofs.Sum.{gadd-zero, gadd_lt}
pub use Rattle.gf256.proofs.Linear.{gmul-add_l, gmul-add_r}
pub use Rattle.gf256.proofs.Product.{gmul_comm, gmul_assoc, gmul_left_comm, gmul_medial, gmul-zero_l, gmul-zero_r, gmul_one_l, gmul_one_r, gmul_lt}
pub use Rattle.gf256.proofs.Powers.{gmul_cancel, gmul-zero, gmul_none, gmul_pos}
pub use Rattle.gf256.proofs.Powers.{gmul-ginv, ginv_unique, ginv-zero, ginv_lt, ginv_pos}
pub use Rattle.gf256.proofs.Powers.{gpow-zero, gpow-suc, gpow_one, gpow-add, gpow-mul, gpow_of_one, gpow_of_product, gpow_lt, gpow_pos}
pub use Rattle.gf256.proofs.Powers.{gpow-order, gpow-mod, gpow-glog, glog-gpow, glog-zero, glog_one, glog_lt, gmul-glog, ginv-glog}
