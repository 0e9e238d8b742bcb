-- Laws of products and of quotients that round down.
use Prim.Native.Nat.{ℕ, ◌+◌, ◌-◌, ◌*◌, ◌/◌, ◌^◌, ◌≤◌, ◌<◌}
use mathlib.Core.Path.{◌≡◌, sym, ap, ◌∙◌, subst⁻¹}
use mathlib.Core.Logic.{⊎_elim}
use native.Mathlib.Nat.{le_trans, le_of_lt, lt_of_le_of_lt, mul-le-mul_left, mul-le-mul_right, mul-lt-mul_of_pos_right, mul_comm, add-mul, add-sub_of_le, div-le_of_le-mul, le-div_iff_mul-le, div-lt_iff_lt-mul, div-mul-le_self, lt-div-mul-add}
use native.Mathlib.Omega.{arith}
use lib.Pow.{pow_pos, pow-add}
use Rattle.std.specs.Int.{div_ceil}
use Rattle.std.proofs.lemmas.Bool.{cases_lt}
use Rattle.std.proofs.lemmas.Grind.{div_ceil_times}

-- the product of two numbers of k bits has at most 2 k bits
pub product_bits : (k : ℕ) {a b : ℕ} → a < 2 ^ k → b < 2 ^ k → a * b < 2 ^ (k + k)
product_bits k {a} {b} ha hb =
    subst⁻¹ (λ (n : ℕ). a * b < n) (pow-add 2 k k)
    (lt_of_le_of_lt (mul-le-mul_left a (le_of_lt hb)) (mul-lt-mul_of_pos_right ha (pow_pos k)))

-- a share of x is at most x, and at most the part that is shared
pub share_le : (x part whole : ℕ) → part ≤ whole → x * part / whole ≤ x
share_le x part whole h = div-le_of_le-mul whole (rw (mul_comm whole x) (mul-le-mul_left x h))

pub share_le_part : (x part whole : ℕ) → x ≤ whole → x * part / whole ≤ part
share_le_part x part whole h = div-le_of_le-mul whole (mul-le-mul_right part h)

-- a quotient falls as its divisor grows
pub quotient_falls : (a r s : ℕ) → 0 < r → r ≤ s → a / s ≤ a / r
quotient_falls a r s p h = (le-div_iff_mul-le p).1 (le_trans (mul-le-mul_left (a / s) h) (div-mul-le_self a s))

-- a product split at x ≤ y, and how far it grows at most
pub product_splits : (x y b : ℕ) → x ≤ y → y * b ≡ x * b + (y - x) * b
product_splits x y b h = ap (λ (z : ℕ). z * b) (sym (add-sub_of_le h)) ∙ add-mul x (y - x) b

pub product_grows : (x y b m : ℕ) → x ≤ y → b ≤ m → y * b ≤ x * b + (y - x) * m
product_grows x y b m h k = omega (arith, product_splits x y b h, mul-le-mul_left (y - x) k)

-- the quotient of m by n rounded up: the smallest v with m ≤ n × v, where n is not 0
abbrev pub ceiling : ℕ → ℕ → ℕ
ceiling m n = (m + n - 1) / n

pub ceiling_reaches : (m n : ℕ) → 0 < n → m ≤ n * ceiling m n
ceiling_reaches m n p = rw (mul_comm n (ceiling m n)) (omega (arith, lt-div-mul-add {a = m + n - 1} p))

pub ceiling_near : (m n : ℕ) → 0 < n → n * ceiling m n < m + n
ceiling_near m n p = rw (mul_comm n (ceiling m n)) (omega (arith, div-mul-le_self (m + n - 1) n))

pub ceiling_least : (m n v : ℕ) → 0 < n → m ≤ n * v → ceiling m n ≤ v
ceiling_least m n v p h =
    let k : ceiling m n < v + 1 = (div-lt_iff_lt-mul p).1 (omega (arith, add-mul v 1 n, mul_comm n v)) in
    omega arith

-- the library's quotient rounded up is the same, where n is not 0
pub ceiling_is : (m n : ℕ) → 0 < n → div_ceil m n ≡ ceiling m n
ceiling_is m n p =
    let d = div_ceil_times m n p in
    let low : ceiling m n ≤ div_ceil m n = ceiling_least m n (div_ceil m n) p (omega (arith, d.0, mul_comm n (div_ceil m n))) in
    ⊎_elim
    (λ (k : ceiling m n < div_ceil m n).
    absurd (omega (arith, d.1, ceiling_reaches m n p, mul-le-mul_right n k, add-mul (ceiling m n) 1 n, mul_comm n (ceiling m n))))
    (λ (k : div_ceil m n ≤ ceiling m n). omega arith)
    (cases_lt (ceiling m n) (div_ceil m n))
