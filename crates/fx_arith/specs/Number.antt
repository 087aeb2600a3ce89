-- GLfixed numbers on unbounded whole numbers. A GLfixed has 16 fractional bits: the whole number z stands
-- for z / 65536 (OpenGL ES 1.1.12, 2.3). Every rounding is this project's own.
use Rattle.std.specs.Prelude.{ℕ, ℤ, pos, negsuc, ◌+◌, ◌*◌, ◌/◌, ◌+ℤ◌, ◌-ℤ◌, ◌*ℤ◌, List, int_lt, slice_index_or, suc, unsigned_abs, if◌then◌else◌}
use Rattle.fx_arith.specs.declared.fx.Fx.{Fx}

-- the number 1
abbrev pub one : ℤ
one = pos 65536

-- the greatest whole number q with q * d at most z, for d above 0
abbrev pub floor_div : ℤ → ℕ → ℤ
floor_div (pos n) d = pos (n / d)
floor_div (negsuc n) d = negsuc (n / d)

-- z / d rounded down, for d of either sign that isn't 0
abbrev pub floor_quotient : ℤ → ℤ → ℤ
floor_quotient z (pos d) = floor_div z d
floor_quotient z (negsuc d) = floor_div (pos 0 -ℤ z) (suc d)

-- z, or the end of low..high that it lies beyond
abbrev pub clamp : ℤ → ℤ → ℤ → ℤ
clamp low high z = if int_lt z low then low else if int_lt high z then high else z

-- the GLfixed nearest to z: -2^31 to 2^31 - 1
abbrev pub nearest_fixed : ℤ → ℤ
nearest_fixed = clamp (negsuc 2147483647) (pos 2147483647)

-- a sum, and a difference, at an end of the range where it lies beyond
abbrev pub add : ℤ → ℤ → ℤ
add a b = nearest_fixed (a +ℤ b)

abbrev pub sub : ℤ → ℤ → ℤ
sub a b = nearest_fixed (a -ℤ b)

-- a sum of products of two GLfixed, which has 32 fractional bits, as a GLfixed
abbrev pub fixed_of_products : ℤ → ℤ
fixed_of_products products = nearest_fixed (floor_div products 65536)

-- a product, rounded down
abbrev pub mul : ℤ → ℤ → ℤ
mul a b = fixed_of_products (a *ℤ b)

-- a over b, both in units of 1/65536; b may be wider than a GLfixed, and it isn't 0
abbrev pub div : ℤ → ℤ → ℤ
div a b = nearest_fixed (floor_quotient (pos 65536 *ℤ a) b)

-- the GLfixed that holds this number
abbrev pub fixed : ℤ → Fx
fixed z = record { 0 = z }

-- component k of a vector
abbrev pub component : List Fx → ℕ → ℤ
component vector k = (slice_index_or vector k (fixed (pos 0))).0

-- inner products: the products of the components are added exactly and rounded down once
abbrev pub dot3 : List Fx → List Fx → ℤ
dot3 a b = fixed_of_products (component a 0 *ℤ component b 0 +ℤ component a 1 *ℤ component b 1 +ℤ component a 2 *ℤ component b 2)

abbrev pub dot4 : List Fx → List Fx → ℤ
dot4 a b = fixed_of_products (component a 0 *ℤ component b 0 +ℤ component a 1 *ℤ component b 1 +ℤ component a 2 *ℤ component b 2 +ℤ component a 3 *ℤ component b 3)

-- the byte of a colour component: 0 to 1 becomes 0 to 255, rounded to the nearest
-- (OpenGL ES 1.1.12, 2.12.8)
abbrev pub c8 : ℤ → ℕ
c8 component = (255 * unsigned_abs (clamp (pos 0) one component) + 32768) / 65536

-- a component between 0 and 1, or the end of 0..1 that it lies beyond
abbrev pub in_unit : Fx → Fx
in_unit component = fixed (clamp (pos 0) one component.0)

-- 255ths as a GLfixed, rounded down
abbrev pub fixed_from_byte : ℕ → Fx
fixed_from_byte byte = fixed (pos (65536 * byte / 255))
